-- Octets spell one response only. Heads are read in one way, an interim status is not a final one,
-- and a body that ends by itself ends at one place.
use Rattle.std.proofs.Common.{◌≡◌, ◌≢◌, ℕ, ◌+◌, Bool, true, false, List, [], ◌∷◌, ◌++◌, length, drop, Option, Some, None, Result, Ok, Err, refl, sym, ap, ap₂}
use Rattle.std.proofs.Common.{◌∙◌, subst, inl, inr, arith, append_assoc, length-append, length-take, length-drop, take-append-drop}
use Rattle.std.specs.List.{flat_map, AllByRecursion}
use Rattle.std.proofs.lemmas.Bool.{cases_Bool}
use Rattle.std.proofs.lemmas.Bool.Decides.{nat_tests}
use Rattle.httparse.specs.Grammar.{ResponseHead, IsResponseHead, print_response, status_code}
use Rattle.httparse.proofs.GrammarLemmas.{response_unique}
use Rattle.http_messages.specs.Answer.{AnswerText}
use Rattle.http_messages.specs.declared.fault.FetchFault.{FetchFault}
use Rattle.http_messages.specs.declared.fault.FetchFault.TheVariants.{BadHead}
use Rattle.http_reading.specs.declared.framing.Framing.{Framing}
use Rattle.http_reading.specs.declared.framing.Framing.TheVariants.{Length, Chunked, ToEnd}
use Rattle.http_reading.specs.AnswerHead.{AnswerHead, ToldText, parts_of, is_interim, is_final, told}
use Rattle.http_reading.specs.Answers.{IsInterim, PassesInterim, HeadSays, SpellsBody, SpellsAnswer, answer_of}
use Rattle.peer_fetch.proofs.BodyOnce.{EndsItself, body_once}

final_not_interim : (status : ℕ) → is_final status ≡ true → is_interim status ≡ false
final_not_interim status final = grind (arith, nat_tests)

told_final : (h : AnswerHead) (t : ToldText) → told h ≡ Ok t → is_final h.status ≡ true
told_final h t says = elim (cases_Bool (is_final h.status)) [
  | inl final ↦ final
  | inr other ↦ let bad : Err BadHead ≡ Ok t = sym (rw other refl) ∙ says in cc
]

pub told_not_interim : (h : ResponseHead) (t : ToldText) → told (parts_of h) ≡ Ok t → is_interim (status_code h) ≡ false
told_not_interim h t says = final_not_interim (status_code h) (told_final (parts_of h) t says)

pub clash : (b : Bool) → b ≡ true → b ≡ false → ⊥
clash b is other = let bad : true ≡ false = sym is ∙ other in cc

-- Heads without places

-- each head is read in one way, and no interim head is the final one, so both lists end together
pub heads_once : (xs ys : List ResponseHead) (h k : ResponseHead) (r q : List ℕ) → AllByRecursion IsInterim xs → AllByRecursion IsInterim ys →
    IsResponseHead h → IsResponseHead k
    → is_interim (status_code h) ≡ false → is_interim (status_code k) ≡ false
    → flat_map print_response xs ++ (print_response h ++ r) ≡ flat_map print_response ys ++ (print_response k ++ q)
    → (length (flat_map print_response xs) ≡ length (flat_map print_response ys)) × (h ≡ k) × (r ≡ q)
heads_once [] [] h k r q a b x y first second same =
    let one = response_unique (print_response h ++ r) h k r q (x, refl) (y, same) in
    (refl, one.0, one.1)
heads_once [] (z ∷ zs) h k r q a (this, others) x y first second same =
    let one = response_unique (print_response h ++ r) h z r _ (x, refl)
    (this.0.valid, same ∙ append_assoc (print_response z) (flat_map print_response zs) (print_response k ++ q)) in
    absurd (clash (is_interim (status_code h)) (ap (λ h. is_interim (status_code h)) one.0 ∙ this.1) first)
heads_once (z ∷ zs) [] h k r q (this, others) b x y first second same =
    let one = response_unique (print_response k ++ q) k z q _ (y, refl)
    (this.0.valid, sym same ∙ append_assoc (print_response z) (flat_map print_response zs) (print_response h ++ r)) in
    absurd (clash (is_interim (status_code k)) (ap (λ h. is_interim (status_code h)) one.0 ∙ this.1) second)
heads_once (z ∷ zs) (w ∷ ws) h k r q (this, others) (that, more) x y first second same =
    let left = append_assoc (print_response z) (flat_map print_response zs) (print_response h ++ r) in
    let right = append_assoc (print_response w) (flat_map print_response ws) (print_response k ++ q) in
    let one = response_unique (print_response z ++ (flat_map print_response zs ++ (print_response h ++ r))) z w _
    (flat_map print_response ws ++ (print_response k ++ q)) (this.0.valid, refl) (that.0.valid, sym left ∙ same ∙ right) in
    let rest = heads_once zs ws h k r q others more x y first second one.1 in
    let size = ap (λ h. length (print_response h)) one.0 in
    let front = rest.0 in (
      omega (arith, size, front, length-append (print_response z) (flat_map print_response zs), length-append (print_response w) (flat_map print_response ws)),
      rest.1,
      rest.2,
    )

-- And with them

passes_text : (octets : List ℕ) (start : ℕ) (p : PassesInterim octets start) → octets ≡ flat_map print_response p.heads ++ drop start octets
passes_text octets start p = sym (take-append-drop start octets) ∙ ap (λ (t : List ℕ). t ++ drop start octets) p.text

passes_size : (octets : List ℕ) (start : ℕ) (p : PassesInterim octets start) → start ≡ length (flat_map print_response p.heads)
passes_size octets start p =
    let size = ap length p.text in
    let within = p.within in
    omega (arith, size, within, length-take start octets)

pub says_text : (octets : List ℕ) (start end : ℕ) (outcome : Result ToldText FetchFault) (s : HeadSays octets start end outcome) →
    octets ≡ flat_map print_response s.interim.heads ++ (print_response s.head ++ drop end octets)
says_text octets start end outcome s = passes_text octets start s.interim ∙ ap (λ (t : List ℕ). flat_map print_response s.interim.heads ++ t) s.reads.1

says_end : (octets : List ℕ) (start end : ℕ) (outcome : Result ToldText FetchFault) (s : HeadSays octets start end outcome) →
    end ≡ start + length (print_response s.head)
says_end octets start end outcome s =
    let size = ap length s.reads.1 in
    let before = s.interim.within in
    let within = s.within in
    omega (arith, size, before, within, length-append (print_response s.head) (drop end octets), length-drop start octets, length-drop end octets)

pub record SameHead (start end start2 end2 : ℕ) (t t2 : ToldText) : Type 0 where
  pub starts : start2 ≡ start
  pub ends : end2 ≡ end
  pub tells : t2 ≡ t

-- the interim heads are the same and so is the final one, so both readings take the same octets
pub head_once : (octets more : List ℕ) (start end start2 end2 : ℕ) (t t2 : ToldText) → HeadSays octets start end (Ok t) →
    HeadSays (octets ++ more) start2 end2 (Ok t2) → SameHead start end start2 end2 t t2
head_once octets more start end start2 end2 t t2 a b =
    let first : octets ++ more ≡ flat_map print_response a.interim.heads ++ (print_response a.head ++ (drop end octets ++ more)) =
    ap (λ (s : List ℕ). s ++ more) (says_text octets start end (Ok t) a) ∙ regroup (flat_map print_response a.interim.heads) (print_response a.head)
    (drop end octets) more in
    let second = says_text (octets ++ more) start2 end2 (Ok t2) b in
    let same = heads_once a.interim.heads b.interim.heads a.head b.head (drop end octets ++ more) (drop end2 (octets ++ more)) a.interim.interim
    b.interim.interim a.short.valid b.short.valid
    a.final b.final (sym first ∙ second) in
    let starts : start2 ≡ start = passes_size (octets ++ more) start2 b.interim ∙ sym same.0 ∙ sym (passes_size octets start a.interim) in
    let said : Ok t ≡ Ok t2 = sym a.says ∙ ap (λ h. told (parts_of h)) same.1 ∙ b.says in
    record {
      starts = starts;
      ends = says_end (octets ++ more) start2 end2 (Ok t2) b ∙ ap₂ (λ (n : ℕ) (h : ResponseHead). n + length (print_response h)) starts (sym same.1)
          ∙ sym (says_end octets start end (Ok t) a);
      tells = let turned = sym said in cc;
    }
  where
    regroup : (a b c d : List ℕ) → (a ++ (b ++ c)) ++ d ≡ a ++ (b ++ (c ++ d))
    regroup a b c d = simp append_assoc

pub ends_itself : (f : Option Framing) → f ≢ Some ToEnd → EndsItself f
ends_itself None other = tt
ends_itself (Some (Length n)) other = tt
ends_itself (Some Chunked) other = tt
ends_itself (Some ToEnd) other = other refl

pub answer_once : (octets more : List ℕ) (end last : ℕ) (answer another : AnswerText) (spelled : SpellsAnswer octets end answer) →
    EndsItself spelled.told.framing → SpellsAnswer (octets ++ more) last another → (last ≡ end) × (another ≡ answer)
answer_once octets more end last answer another a ends b =
    let head = head_once octets more a.start a.body_start b.start b.body_start a.told b.told a.head b.head in
    let there : SpellsBody a.told.framing (octets ++ more) a.body_start last another.body =
    subst (λ (t : ToldText). SpellsBody t.framing (octets ++ more) a.body_start last another.body) head.tells
    (subst (λ (n : ℕ). SpellsBody b.told.framing (octets ++ more) n last another.body) head.ends b.spelled) in
    let same = body_once a.told.framing octets more a.body_start end last answer.body another.body a.head.within ends a.spelled there in
    (same.0, b.answer_is ∙ ap₂ answer_of head.tells same.1 ∙ sym a.answer_is)

pub answers_once : (octets more : List ℕ) (end last : ℕ) (answer another : AnswerText) (spelled : SpellsAnswer octets end answer) →
    spelled.told.framing ≢ Some ToEnd → SpellsAnswer (octets ++ more) last another → (last ≡ end) × (another ≡ answer)
answers_once octets more end last answer another a framed b = answer_once octets more end last answer another a (ends_itself a.told.framing framed) b
