-- The text of a response spells it: its head stands first, no interim head before it, and the body
-- follows as its length says.
use Rattle.std.proofs.Common.{◌≡◌, ℕ, ◌+◌, ◌≤◌, Bool, true, false, cond, List, [], ◌++◌, length, take, drop, Some, None, Ok, refl, sym, ap, ◌∙◌, arith}
use Rattle.std.proofs.Common.{append_assoc, length-append}
use Rattle.std.proofs.lemmas.List.{drop_at, take_at}
use Rattle.httparse.specs.Grammar.{ReadsResponse, print_response}
use Rattle.http_messages.specs.Answer.{AnswerText, has_no_body}
use Rattle.http_writing.specs.Name.{is_name}
use Rattle.http_writing.specs.Answer.{answer_text}
use Rattle.http_reading.specs.declared.framing.Framing.TheVariants.{Length}
use Rattle.http_reading.specs.Answers.{PassesInterim, HeadSays, SpellsBody, SpellsAnswer}
use Rattle.peer_fetch.specs.Writable.{IsWritableAnswer}
use Rattle.peer_fetch.proofs.AnswerTexts.{Parts, parts, head_of, head_text, text_is, head_reads, head_short, pairs_few, told_of, head_tells}
use Rattle.peer_fetch.proofs.AnswerOnce.{told_not_interim}

pub input_is : (a : AnswerText) (via rest : List ℕ) → answer_text a via ++ rest ≡ head_text a via ++ (a.body ++ rest)
input_is a via rest = ap (λ (t : List ℕ). t ++ rest) (text_is a via) ∙ append_assoc (head_text a via) a.body rest

no_interim : (octets : List ℕ) → PassesInterim octets 0
no_interim octets = record { heads = []; interim = tt; text = refl; within = omega arith }

-- what a head in front of any octets says
pub head_says : (a : AnswerText) (via rest octets : List ℕ) → Parts a → is_name via ≡ true → octets ≡ head_text a via ++ rest →
    HeadSays octets 0 (length (head_text a via)) (Ok (told_of a))
head_says a via rest octets p name is =
    let H : List ℕ = head_text a via in
    let reads : ReadsResponse (H ++ rest) (head_of a via) rest = head_reads a via rest p name in
    let behind : drop (length H) octets ≡ rest = ap (drop (length H)) is ∙ drop_at H rest (length H) refl in
    let whole : length (print_response (head_of a via) ++ rest) ≡ length (H ++ rest) = ap length (sym reads.1) in
    let printed = length-append (print_response (head_of a via)) rest in
    let written = length-append H rest in
    let limit = head_short a via p name in
    record {
      interim = no_interim octets;
      few = omega arith;
      head = head_of a via;
      final = told_not_interim (head_of a via) (told_of a) (head_tells a via p name);
      short = record { valid = reads.0; short = omega (arith, whole, printed, written, limit); few = pairs_few a via p };
      reads = (reads.0, is ∙ reads.1 ∙ ap (λ (t : List ℕ). print_response (head_of a via) ++ t) (sym behind));
      within = omega (arith, ap length is, written);
      says = head_tells a via p name;
    }

-- the body after the head
body_by : (b : Bool) (body rest octets : List ℕ) (start end : ℕ) → (b ≡ true → body ≡ []) → drop start octets ≡ body ++ rest → end ≡ start + length body →
    end ≤ length octets
    → SpellsBody (cond b None (Some (Length (length body)))) octets start end body
body_by true body rest octets start end empty behind end_is inside =
    let none : body ≡ [] = empty refl in
    let size : length body ≡ 0 = ap length none in
    (omega arith, none)
body_by false body rest octets start end empty behind end_is inside =
    (end_is, inside, sym (ap (take (length body)) behind ∙ take_at body rest (length body) refl))

pub answer_spelled_by : (a : AnswerText) (via rest : List ℕ) → Parts a → is_name via ≡ true →
    SpellsAnswer (answer_text a via ++ rest) (length (answer_text a via)) a
answer_spelled_by a via rest p name =
    let H : List ℕ = head_text a via in
    let octets : List ℕ = answer_text a via ++ rest in
    let is : octets ≡ H ++ (a.body ++ rest) = input_is a via rest in
    let behind : drop (length H) octets ≡ a.body ++ rest = ap (drop (length H)) is ∙ drop_at H (a.body ++ rest) (length H) refl in
    let size : length (answer_text a via) ≡ length H + length a.body = ap length (text_is a via) ∙ length-append H a.body in
    let inside : length (answer_text a via) ≤ length octets = omega (arith, length-append (answer_text a via) rest) in
    record {
      start = 0;
      body_start = length H;
      told = told_of a;
      head = head_says a via (a.body ++ rest) octets p name is;
      spelled = body_by (has_no_body a.status) a.body rest octets (length H) (length (answer_text a via)) p.empty behind size inside;
      answer_is = refl;
    }

pub answer_spelled : (a : AnswerText) (via rest : List ℕ) → IsWritableAnswer a → is_name via ≡ true →
    SpellsAnswer (answer_text a via ++ rest) (length (answer_text a via)) a
answer_spelled a via rest writable name = answer_spelled_by a via rest (parts a writable) name
