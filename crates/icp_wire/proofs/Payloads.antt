-- A payload without a fault is one that the grammar allows, and such a payload has no fault: the
-- first zero octet ends the URL, which has none in it.
use Rattle.std.proofs.Common.{◌≡◌, ℕ, ◌^◌, ◌<◌, Bool, true, false, cond, eqb, List, [], ◌∷◌, ◌++◌, length, take, drop, Option, Some, None, refl, sym, ap, ◌∙◌}
use Rattle.std.proofs.Common.{append_assoc, arith}
use Rattle.std.specs.Prelude.{Contains, is_none, position}
use Rattle.std.specs.List.{before_first, after_first}
use Rattle.std.proofs.lemmas.Bool.{eqb-true}
use Rattle.std.proofs.lemmas.List.{drop_at, take-append-drop, length-append, length-take, length-drop, nil_from_length, append-nil}
use Rattle.values_plain.specs.Fields.{IsOctets}
use Rattle.values_plain.specs.Counted.{counted, split_counted}
use Rattle.values_plain.specs.Laws.{IsOctets-drop, split_counted-Some, split_counted-counted}
use Rattle.icp_wire.specs.declared.message.IcpOp.{IcpOp}
use Rattle.icp_wire.specs.declared.message.IcpOp.TheVariants.{Query, Hit, Miss, Error, MissNoFetch, Denied, HitObj}
use Rattle.icp_wire.specs.declared.fault.IcpFault.{IcpFault}
use Rattle.icp_wire.specs.declared.fault.IcpFault.TheVariants.{NoZero, Trailing, BadObject}
use Rattle.icp_wire.specs.Grammar.{IsPayload}
use Rattle.icp_wire.specs.Faults.{object_fault, rest_fault, payload_fault}
use Rattle.icp_wire.specs.Reading.{is_zero, from_url, url_in, counted_text, object_behind, object_in}
use Rattle.icp_wire.proofs.Zeros.{around_zero, before-append, after-append, position-append}

-- a test of a chain that has no fault
pub passed : (failed : Bool) (fault : IcpFault) (others : Option IcpFault) → cond failed (Some fault) others ≡ None → (failed ≡ false) × (others ≡ None)
passed true fault others e = absurd cc
passed false fault others e = (refl, e)

-- the URL and what follows it, in a payload without a fault
record IsEnded (op : IcpOp) (payload : List ℕ) : Type 0 where
  pub text : from_url op payload ≡ url_in op payload ++ 0 ∷ after_first is_zero (from_url op payload)
  pub rest : rest_fault op (after_first is_zero (from_url op payload)) ≡ None

is_ended : (op : IcpOp) (payload : List ℕ) → payload_fault op payload ≡ None → IsEnded op payload
unfolding payload_fault
is_ended op payload e =
    let text = from_url op payload in
    let tests = passed (is_none (position is_zero text)) NoZero (rest_fault op (after_first is_zero text)) e in
    record { text = around_zero text tests.0; rest = tests.1 }

-- a test that has to hold
required : (holds : Bool) (fault : IcpFault) → cond holds None (Some fault) ≡ None → holds ≡ true
required true fault e = refl
required false fault e = absurd cc

nothing : (rest : List ℕ) (fault : IcpFault) → cond (eqb (length rest) 0) None (Some fault) ≡ None → rest ≡ []
nothing rest fault e = nil_from_length rest (eqb-true _ _ (required (eqb (length rest) 0) fault e))

object_stands : (rest : List ℕ) (cut : Option (List ℕ × List ℕ)) → IsOctets rest → split_counted rest ≡ cut → object_fault cut ≡ None →
    (length (counted_text cut) < 2 ^ 16) × (rest ≡ counted (counted_text cut))
object_stands rest None fits is e = absurd cc
object_stands rest (Some parts) fits is e =
    let front = split_counted-Some rest parts.0 parts.1 fits is in
    (front.1, front.0 ∙ ap (λ (t : List ℕ). counted parts.0 ++ t) (nothing parts.1 BadObject e) ∙ append-nil (counted parts.0))

-- the payload of a message without an address and an object
plain_spells : (payload url rest : List ℕ) → payload ≡ url ++ 0 ∷ rest → cond (eqb (length rest) 0) None (Some Trailing) ≡ None → payload ≡ url ++ 0 ∷ []
plain_spells payload url rest spelled e = spelled ∙ ap (λ (t : List ℕ). url ++ 0 ∷ t) (nothing rest Trailing e)

-- the four octets before a text that is not empty
four_before : (payload url rest : List ℕ) → drop 4 payload ≡ url ++ 0 ∷ rest → length (take 4 payload) ≡ 4
four_before payload url rest spelled =
    omega (arith, length-take 4 payload, length-drop 4 payload, ap length spelled, length-append url (0 ∷ rest))

query_parts : (payload url rest : List ℕ) → drop 4 payload ≡ url ++ 0 ∷ rest → cond (eqb (length rest) 0) None (Some Trailing) ≡ None →
    payload ≡ take 4 payload ++ url ++ 0 ∷ []
query_parts payload url rest spelled e =
    sym (take-append-drop 4 payload) ∙ ap (λ (t : List ℕ). take 4 payload ++ t) (plain_spells (drop 4 payload) url rest spelled e)
    ∙ sym (append_assoc (take 4 payload) url (0 ∷ []))

pub payload_spells : (op : IcpOp) (payload : List ℕ) → IsOctets payload → payload_fault op payload ≡ None →
    IsPayload op (url_in op payload) (object_in op payload) payload
payload_spells Query payload fits e =
    let ended = is_ended Query payload e in
    let url = url_in Query payload in
    let rest = after_first is_zero (drop 4 payload) in
    (take 4 payload, four_before payload url rest ended.text, refl, query_parts payload url rest ended.text ended.rest)
payload_spells Hit payload fits e = let ended = is_ended Hit payload e in (refl, plain_spells payload _ _ ended.text ended.rest)
payload_spells Miss payload fits e = let ended = is_ended Miss payload e in (refl, plain_spells payload _ _ ended.text ended.rest)
payload_spells Error payload fits e = let ended = is_ended Error payload e in (refl, plain_spells payload _ _ ended.text ended.rest)
payload_spells MissNoFetch payload fits e = let ended = is_ended MissNoFetch payload e in (refl, plain_spells payload _ _ ended.text ended.rest)
payload_spells Denied payload fits e = let ended = is_ended Denied payload e in (refl, plain_spells payload _ _ ended.text ended.rest)
payload_spells HitObj payload fits e =
    let ended = is_ended HitObj payload e in
    let rest = after_first is_zero payload in
    let object = object_stands rest (split_counted rest) (IsOctets-drop _ payload fits) refl ended.rest in
    (object.0, ended.text ∙ ap (λ (t : List ℕ). url_in HitObj payload ++ 0 ∷ t) object.1)

-- ---- and back

-- what is read of a payload
pub record IsRead (op : IcpOp) (url object payload : List ℕ) : Type 0 where
  pub no_fault : payload_fault op payload ≡ None
  pub url_is : url_in op payload ≡ url
  pub object_is : object_in op payload ≡ object

text_read : (op : IcpOp) (url object rest payload : List ℕ) → from_url op payload ≡ url ++ 0 ∷ rest → ¬ Contains url 0 → rest_fault op rest ≡ None →
    object_behind op rest ≡ object → IsRead op url object payload
unfolding payload_fault
text_read op url object rest payload text none no_fault behind =
    let before : before_first is_zero (from_url op payload) ≡ url = ap (before_first is_zero) text ∙ before-append url rest none in
    let after : after_first is_zero (from_url op payload) ≡ rest = ap (after_first is_zero) text ∙ after-append url rest none in
    let there : is_none (position is_zero (from_url op payload)) ≡ false = ap (λ (t : List ℕ). is_none (position is_zero t)) text
    ∙ position-append url rest none in
    record { no_fault = rw (there, after) no_fault; url_is = before; object_is = ap (object_behind op) after ∙ behind }

pub payload_again : (op : IcpOp) (url object payload : List ℕ) → IsPayload op url object payload → ¬ Contains url 0 → IsRead op url object payload
payload_again Query url object payload (requester, four, empty, spelled) none =
    text_read Query url object [] payload (ap (drop 4) (spelled ∙ append_assoc requester url (0 ∷ [])) ∙ drop_at requester (url ++ 0 ∷ []) 4 four) none refl
    (sym empty)
payload_again Hit url object payload (empty, spelled) none = text_read Hit url object [] payload spelled none refl (sym empty)
payload_again Miss url object payload (empty, spelled) none = text_read Miss url object [] payload spelled none refl (sym empty)
payload_again Error url object payload (empty, spelled) none = text_read Error url object [] payload spelled none refl (sym empty)
payload_again MissNoFetch url object payload (empty, spelled) none = text_read MissNoFetch url object [] payload spelled none refl (sym empty)
payload_again Denied url object payload (empty, spelled) none = text_read Denied url object [] payload spelled none refl (sym empty)
payload_again HitObj url object payload (small, spelled) none =
    let cut : split_counted (counted object) ≡ Some (object, []) = ap split_counted (sym (append-nil (counted object)))
    ∙ split_counted-counted object [] small in
    text_read HitObj url object (counted object) payload spelled none (rw cut refl) (rw cut refl)
