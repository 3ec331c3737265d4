-- What a member is sent can be written: the copy's own response could be, and another age and stamp
-- in their ranges do not change that. A bare status has no fields and no body.
use Rattle.std.proofs.Common.{◌≡◌, ℕ, ◌≤◌, Bool, true, false, ◌&&◌, ◌||◌, nat_le, nat_eq, cond, List, Some, None, unwrap_or, refl, sym, ap, ◌∙◌, subst, rules}
use Rattle.std.specs.List.{list_all}
use Rattle.http_messages.specs.Field.{FieldText, is_kept_field, are_few_fields}
use Rattle.http_messages.specs.Answer.{AnswerText, is_writable, is_body_of}
use Rattle.node_rules.specs.Arrivals.{is_gateway_fault}
use Rattle.node_rules.proofs.Cases.{true_not_false, same_Some}
use Rattle.world_rules.specs.World.{answer_of_status}
use Rattle.world_rules.proofs.MemberStates.{ids_same}

-- one passed test of several may be replaced by another that is passed
exchanged : (p x y e : Bool) → (p && x && e) ≡ true → y ≡ true → (p && y && e) ≡ true
exchanged true true true e h is = h
exchanged true true false e h is = absurd (true_not_false (sym is))
exchanged true false y e h is = absurd (true_not_false (sym h))
exchanged false x y e h is = absurd (true_not_false (sym h))

test_of : (m n : ℕ) → m ≤ n → nat_le m n ≡ true
test_of m n h = search rules

-- a response that can be written, with another age and another stamp
pub writable_aged : (a : AnswerText) (age stamp : ℕ) → is_writable a ≡ true → age ≤ 2147483648 →
    is_writable (record { status = a.status; fields = a.fields; age = Some age; stamp = Some stamp; body = a.body }) ≡ true
writable_aged a age stamp h small =
    exchanged (nat_le 200 a.status && nat_le a.status 599 && list_all is_kept_field a.fields && are_few_fields a.fields)
    (nat_le (unwrap_or a.age 0) 2147483648) (nat_le age 2147483648) (is_body_of a.status a.body) h (test_of age 2147483648 small)

one_of : (P : ℕ → Type 0) (status : ℕ) (b : Bool) (n : ℕ) → P n → (nat_eq n status || b) ≡ true → (b ≡ true → P status) → P status
one_of P status b n here h later = elim (nat_eq n status) as (λ v. nat_eq n status ≡ v → (v || b) ≡ true → P status) [
  | true ↦ λ is _. subst P (ids_same n status is) here
  | false ↦ λ is rest. later rest
] refl h

-- a bare status 502, 503 or 504 can be written
pub writable_status : (status : ℕ) → is_gateway_fault status ≡ true → is_writable (answer_of_status status) ≡ true
writable_status status h =
    one_of (λ s. is_writable (answer_of_status s) ≡ true) status (nat_eq 503 status || (nat_eq 504 status || false)) 502 refl h
    (λ h2. one_of (λ s. is_writable (answer_of_status s) ≡ true) status (nat_eq 504 status || false) 503 refl h2
    (λ h3. one_of (λ s. is_writable (answer_of_status s) ≡ true) status false 504 refl h3
    (λ none. absurd (true_not_false (sym none)))))

abbrev answer_by : ℕ → List FieldText → ℕ → ℕ → List ℕ → AnswerText
answer_by status fields age stamp body = record { status = status; fields = fields; age = Some age; stamp = Some stamp; body = body }

-- the response that is made of these parts
pub made_of : (a : AnswerText) (age stamp : ℕ) (made : AnswerText) (status : ℕ) (fields : List FieldText) (body : List ℕ) → is_writable a ≡ true →
    age ≤ 2147483648 →
    status ≡ a.status → fields ≡ a.fields → body ≡ a.body → Some made ≡ cond (is_writable (answer_by status fields age stamp body))
    (Some (answer_by status fields age stamp body)) None →
    made ≡ answer_by a.status a.fields age stamp a.body
made_of a age stamp made status fields body h small same_status same_fields same_body is =
    let same : answer_by status fields age stamp body ≡ answer_by a.status a.fields age stamp a.body =
    ap (λ x. answer_by x fields age stamp body) same_status ∙ ap (λ x. answer_by a.status x age stamp body) same_fields
    ∙ ap (λ x. answer_by a.status a.fields age stamp x) same_body in
    same_Some made (answer_by status fields age stamp body)
    (is ∙ ap (λ b. cond b (Some (answer_by status fields age stamp body)) None) (ap is_writable same ∙ writable_aged a age stamp h small)) ∙ same
