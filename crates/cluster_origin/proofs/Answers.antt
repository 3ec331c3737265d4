-- The response to a request can be written: its body has at most 1,035 octets, and its one field has a text. What is
-- written of it is its text, or a front of that after Io.
use Rattle.std.proofs.Common.{◌≡◌, ℕ, ◌≤◌, true, List, [], ◌∷◌, length, nat_le, Option, Some, None, Result, Ok, Err, IfErr, refl, sym, ◌∙◌, subst, arith}
use Rattle.std.proofs.Common.{if◌then◌else◌}
use Rattle.std.proofs.lemmas.Option.{none-some}
use Rattle.std.proofs.lemmas.Bool.{le-leb}
use Rattle.values_plain.specs.Writing.{Writes}
use Rattle.http_messages.specs.Field.{FieldText}
use Rattle.http_messages.specs.Answer.{AnswerText, is_writable}
use Rattle.http_messages.specs.declared.ask.Ask.{Ask}
use Rattle.http_messages.specs.declared.fault.FetchFault.{FetchFault}
use Rattle.http_messages.specs.declared.fault.FetchFault.TheVariants.{Io}
use Rattle.cluster_origin.specs.Answer.{answer_for, body_of, lifetime}
use Rattle.cluster_origin.specs.Serving.{AnswersAsk, told}

-- a response with a short body can be written
is_writable_by : (key : List ℕ) (count : ℕ) → nat_le (length (body_of key count)) 65536 ≡ true → is_writable (answer_for key count) ≡ true
is_writable_by key count short = rw short refl

-- so can the response to any request
pub can_be_written : (key : List ℕ) (count : ℕ) → length (body_of key count) ≤ 1035 → is_writable (answer_for key count) ≡ true
can_be_written key count short = is_writable_by key count (le-leb _ _ (omega arith))

-- so the parts of one make a response
pub is_made : (fields : List FieldText) (body key : List ℕ) (count : ℕ) (made : Option AnswerText) → fields ≡ lifetime ∷ [] → body ≡ body_of key count →
    length body ≤ 1035 →
    (let answer : AnswerText = record { status = 200; fields = fields; age = None; stamp = None; body = body } in
    made ≡ (if is_writable answer then Some answer else None)) → made ≡ None → ⊥
is_made fields body key count made same_fields same_body short is none =
    let short_body : length (body_of key count) ≤ 1035 = subst (λ (b : List ℕ). length b ≤ 1035) same_body short in
    let writable : is_writable (answer_for key count) ≡ true = can_be_written key count short_body in
    none-some (answer_for key count) (sym none ∙ (rw (same_fields, same_body, writable) at is))

-- what is written of a response is what the request is answered
pub written_answer : (old new : Option (List ℕ)) (ask : Ask) (count : ℕ) (result : Result (Unit {0}) FetchFault) → Writes old new result (told ask count) →
    IfErr result (λ fault. fault ≡ Io) → AnswersAsk old new ask count result
written_answer old new ask count (Ok done) written fault = written
written_answer old new ask count (Err fault) written is = subst (λ (fault : FetchFault). AnswersAsk old new ask count (Err fault)) (sym is) written
