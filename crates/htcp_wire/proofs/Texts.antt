-- The counted texts of OP-DATA: those that are read stand at its front, and those that stand at its
-- front are read, one after another.
use Rattle.std.proofs.Common.{◌≡◌, ℕ, ◌+◌, ◌^◌, ◌<◌, List, ◌++◌, length, Option, Some, None, refl, sym, ap, subst, ◌∙◌, append_assoc, arith}
use Rattle.std.specs.Option.{option_map}
use Rattle.std.proofs.lemmas.List.{length-append}
use Rattle.values_plain.specs.Fields.{IsOctets}
use Rattle.values_plain.specs.Counted.{counted, split_counted}
use Rattle.values_plain.specs.Laws.{IsOctets-append_right, split_counted-Some, split_counted-counted}
use Rattle.htcp_wire.specs.declared.message.Specifier.{Specifier}
use Rattle.htcp_wire.specs.declared.message.Detail.{Detail}
use Rattle.htcp_wire.specs.Grammar.{specifier, detail}
use Rattle.htcp_wire.specs.Reading.{◌>>=◌, specifier_at, detail_at}

-- the value of a step that was made
bind_some : {A B : Type 0} (o : Option A) (f : A → Option B) (y : B) → (o >>= f) ≡ Some y → (x : A) × (o ≡ Some x) × (f x ≡ Some y)
bind_some (Some x) f y e = (x, refl, e)
bind_some None f y e = absurd cc

pub mapped : {A B : Type 0} (f : A → B) (o : Option A) (y : B) → option_map f o ≡ Some y → (x : A) × (o ≡ Some x) × (f x ≡ y)
mapped f (Some x) y e = (x, refl, cc)
mapped f None y e = absurd cc

pub some_is : {A : Type 0} (x y : A) → (let o : Option A = Some x in o ≡ Some y) → x ≡ y
some_is x y e = cc

-- a counted text at the front
record Cuts (octets text rest : List ℕ) : Type 0 where
  pub parts : octets ≡ counted text ++ rest
  pub fits : IsOctets rest

cuts : (octets : List ℕ) (cut : List ℕ × List ℕ) → IsOctets octets → split_counted octets ≡ Some cut → Cuts octets cut.0 cut.1
cuts octets cut fits e =
    let front = split_counted-Some octets cut.0 cut.1 fits e in
    record { parts = front.0; fits = IsOctets-append_right (counted cut.0) cut.1 (subst IsOctets front.0 fits) }

four : (a b c d e : List ℕ) → a ++ (b ++ (c ++ (d ++ e))) ≡ (a ++ (b ++ (c ++ d))) ++ e
four a b c d e = simp append_assoc

three : (a b c d : List ℕ) → a ++ (b ++ (c ++ d)) ≡ (a ++ (b ++ c)) ++ d
three a b c d = simp append_assoc

-- ---- specifiers

pub specifier_takes : (op_data : List ℕ) (spec : Specifier) → IsOctets op_data → specifier_at op_data ≡ Some spec →
    (spare : List ℕ) × (op_data ≡ specifier spec ++ spare)
unfolding specifier_at
specifier_takes op_data spec fits e =
    let m = bind_some (split_counted op_data) _ spec e in
    let u = bind_some (split_counted m.0.1) _ spec m.2 in
    let v = bind_some (split_counted u.0.1) _ spec u.2 in
    let h = bind_some (split_counted v.0.1) _ spec v.2 in
    let first = cuts op_data m.0 fits m.1 in
    let second = cuts m.0.1 u.0 first.fits u.1 in
    let third = cuts u.0.1 v.0 second.fits v.1 in
    let fourth = cuts v.0.1 h.0 third.fits h.1 in
    let made : Specifier = record { method = m.0.0; uri = u.0.0; version = v.0.0; request_headers = h.0.0 } in
    let whole : op_data ≡ specifier made ++ h.0.1 =
    first.parts ∙ ap (λ (t : List ℕ). counted m.0.0 ++ t) (second.parts ∙ ap (λ (t : List ℕ). counted u.0.0 ++ t)
    (third.parts ∙ ap (λ (t : List ℕ). counted v.0.0 ++ t) fourth.parts))
    ∙ four (counted m.0.0) (counted u.0.0) (counted v.0.0) (counted h.0.0) h.0.1 in
    (h.0.1, whole ∙ ap (λ (s : Specifier). specifier s ++ h.0.1) (some_is made spec h.2))

pub specifier_again : (spec : Specifier) (spare : List ℕ) → length (specifier spec) < 2 ^ 16 → specifier_at (specifier spec ++ spare) ≡ Some spec
unfolding specifier_at
specifier_again spec spare small =
    let m = spec.method in
    let u = spec.uri in
    let v = spec.version in
    let h = spec.request_headers in
    let size : length (specifier spec) ≡ (2 + length m) + ((2 + length u) + ((2 + length v) + (2 + length h))) = simp length-append (omega arith) in
    let regrouped : specifier spec ++ spare ≡ counted m ++ (counted u ++ (counted v ++ (counted h ++ spare))) =
    sym (four (counted m) (counted u) (counted v) (counted h) spare) in
    ap specifier_at regrouped
    ∙ rw (
      split_counted-counted m (counted u ++ (counted v ++ (counted h ++ spare))) (omega (arith, size)),
      split_counted-counted u (counted v ++ (counted h ++ spare)) (omega (arith, size)),
      split_counted-counted v (counted h ++ spare) (omega (arith, size)),
      split_counted-counted h spare (omega (arith, size)),
    ) refl

-- ---- details

pub detail_takes : (op_data : List ℕ) (known : Detail) → IsOctets op_data → detail_at op_data ≡ Some known →
    (spare : List ℕ) × (op_data ≡ detail known ++ spare)
unfolding detail_at
detail_takes op_data known fits e =
    let r = bind_some (split_counted op_data) _ known e in
    let n = bind_some (split_counted r.0.1) _ known r.2 in
    let c = bind_some (split_counted n.0.1) _ known n.2 in
    let first = cuts op_data r.0 fits r.1 in
    let second = cuts r.0.1 n.0 first.fits n.1 in
    let third = cuts n.0.1 c.0 second.fits c.1 in
    let made : Detail = record { response_headers = r.0.0; entity_headers = n.0.0; cache_headers = c.0.0 } in
    let whole : op_data ≡ detail made ++ c.0.1 =
    first.parts ∙ ap (λ (t : List ℕ). counted r.0.0 ++ t) (second.parts ∙ ap (λ (t : List ℕ). counted n.0.0 ++ t) third.parts)
    ∙ three (counted r.0.0) (counted n.0.0) (counted c.0.0) c.0.1 in
    (c.0.1, whole ∙ ap (λ (d : Detail). detail d ++ c.0.1) (some_is made known c.2))

pub detail_again : (known : Detail) (spare : List ℕ) → length (detail known) < 2 ^ 16 → detail_at (detail known ++ spare) ≡ Some known
unfolding detail_at
detail_again known spare small =
    let r = known.response_headers in
    let n = known.entity_headers in
    let c = known.cache_headers in
    let size : length (detail known) ≡ (2 + length r) + ((2 + length n) + (2 + length c)) = simp length-append (omega arith) in
    let regrouped : detail known ++ spare ≡ counted r ++ (counted n ++ (counted c ++ spare)) = sym (three (counted r) (counted n) (counted c) spare) in
    ap detail_at regrouped
    ∙ rw (
      split_counted-counted r (counted n ++ (counted c ++ spare)) (omega (arith, size)),
      split_counted-counted n (counted c ++ spare) (omega (arith, size)),
      split_counted-counted c spare (omega (arith, size)),
    ) refl

-- ---- one counted text

pub cache_takes : (op_data : List ℕ) (cut : List ℕ × List ℕ) → IsOctets op_data → split_counted op_data ≡ Some cut → op_data ≡ counted cut.0 ++ cut.1
cache_takes op_data cut fits e = (cuts op_data cut fits e).parts
