-- Where a front of the input and one LF would be a head, the head of the input has at least as
-- many fields, as both begin with the same start line and field lines. So a head within its limits
-- is never refused for too many fields.
use Rattle.std.proofs.Common.{◌≡◌, ℕ, ◌≤◌, List, [], ◌∷◌, ◌++◌, length, Option, refl, sym, ap, ◌∙◌, subst, arith, append_assoc, append-nil, length-append}
use Rattle.std.specs.Prelude.{⊤}
use Rattle.std.specs.List.{flat_map, All}
use Rattle.std.specs.Char.{is_ascii_digit}
use Rattle.std.proofs.lemmas.List.{append_cancel_right}
use Rattle.httparse.specs.Grammar.{LineEnd, crlf, lf, print_end, print_blank, print_version, Field, print_field, IsField, print_section, RequestHead}
use Rattle.httparse.specs.Grammar.{IsRequestHead, ReadsRequest, ResponseHead, IsResponseHead, ReadsResponse, print_reason, AllPass}
use Rattle.httparse.specs.Lines.{code_digits}
use Rattle.httparse.specs.Pieces.{Section, RequestStart, ResponseStart, Code}
use Rattle.httparse.proofs.GrammarLemmas.{request_tree, print_request-append, print_response-append, request_pieces, response_pieces}
use Rattle.httparse.proofs.PieceLemmas.{Section_skip, Stops_token, RequestStart_deterministic, ResponseStart_deterministic}

end_front : LineEnd → List ℕ
end_front crlf = 13 ∷ []
end_front lf = []

end_cut : (last : LineEnd) → print_end last ≡ end_front last ++ 10 ∷ []
unfolding end_front
end_cut crlf = refl
end_cut lf = refl

-- the octets of the fields, without the last octet of the empty line
lines_front : List Field → LineEnd → List ℕ
lines_front fields last = flat_map print_field fields ++ end_front last

section_cut : (fields : List Field) (last : LineEnd) → print_section fields last ++ [] ≡ lines_front fields last ++ 10 ∷ []
unfolding lines_front
section_cut fields last =
    append-nil (print_section fields last) ∙ ap (λ (t : List ℕ). flat_map print_field fields ++ t) (end_cut last)
    ∙ sym (append_assoc (flat_map print_field fields) (end_front last) (10 ∷ []))

section_longer : (fields gs : List Field) (last end : LineEnd) (more q : List ℕ) → All IsField fields → Section (gs, end) (lines_front fields last ++ more) q →
    length fields ≤ length gs
unfolding lines_front
section_longer fields gs last end more q valid section =
    let skipped = Section_skip fields gs end (lines_front fields last ++ more) (end_front last ++ more) q
    (valid, append_assoc (flat_map print_field fields) (end_front last) more) section in
    let size = ap length skipped.1 ∙ length-append fields skipped.0 in
    omega (arith, size)

-- Requests

request_with : RequestHead → List ℕ → List ℕ
request_with h y = print_blank h.blank ++ (h.method ++ 32 ∷ (h.target ++ 32 ∷ (print_version h.minor ++ (print_end h.line_end ++ y))))

request_with-append : (h : RequestHead) (y t : List ℕ) → request_with h y ++ t ≡ request_with h (y ++ t)
unfolding request_with
request_with-append h y t = regroup (print_blank h.blank) h.method h.target (print_version h.minor) (print_end h.line_end) y t
  where
    regroup : (a b c d e y t : List ℕ) → (a ++ (b ++ 32 ∷ (c ++ 32 ∷ (d ++ (e ++ y))))) ++ t ≡ a ++ (b ++ 32 ∷ (c ++ 32 ∷ (d ++ (e ++ (y ++ t)))))
    regroup a b c d e y t = simp append_assoc

request_starts : (h : RequestHead) (y : List ℕ) → IsRequestHead h → RequestStart (request_tree h).0 (request_with h y) y
unfolding request_with
request_starts h y valid = (
  _,
  (refl, Stops_token h.method _ valid.method.0 valid.method.1),
  (_, (valid.method.0, valid.method.1, refl), (_, ((valid.target.0, valid.target.1, refl), valid.target_text), (_, (valid.minor, refl), refl))),
)

request_whole : (h : RequestHead) (rest : List ℕ) (text : List ℕ) → ReadsRequest text h rest → text ≡ request_with h (print_section h.fields h.last ++ rest)
unfolding request_with
request_whole h rest text reads = reads.1 ∙ print_request-append h rest

pub request_longer : (front more q : List ℕ) (h k : RequestHead) → ReadsRequest (front ++ 10 ∷ []) h [] → ReadsRequest (front ++ more) k q →
    length h.fields ≤ length k.fields
request_longer front more q h k cut whole =
    let lines : List ℕ = lines_front h.fields h.last in
    let at : front ++ 10 ∷ [] ≡ request_with h lines ++ 10 ∷ [] =
    request_whole h [] (front ++ 10 ∷ []) cut ∙ ap (request_with h) (section_cut h.fields h.last) ∙ sym (request_with-append h lines (10 ∷ [])) in
    let front_is : front ≡ request_with h lines = append_cancel_right front (request_with h lines) (10 ∷ []) at in
    let text_is : front ++ more ≡ request_with h (lines ++ more) = ap (λ (t : List ℕ). t ++ more) front_is ∙ request_with-append h lines more in
    let pieces = request_pieces (front ++ more) k q whole in
    let starts : RequestStart (request_tree h).0 (front ++ more) (lines ++ more) = subst (λ (t : List ℕ). RequestStart (request_tree h).0 t (lines ++ more))
    (sym text_is) (request_starts h (lines ++ more) cut.0) in
    let same = RequestStart_deterministic.unique (request_tree h).0 (request_tree k).0 (front ++ more) (lines ++ more) pieces.0 starts pieces.1 in
    section_longer h.fields k.fields h.last k.last more q cut.0.fields (subst (λ (t : List ℕ). Section (k.fields, k.last) t q) (sym same.1) pieces.2)

-- Responses

response_with : ResponseHead → List ℕ → List ℕ
response_with h y = print_blank h.blank ++ (print_version h.minor ++ 32 ∷ (h.digits ++ (print_reason h.reason ++ (print_end h.line_end ++ y))))

response_with-append : (h : ResponseHead) (y t : List ℕ) → response_with h y ++ t ≡ response_with h (y ++ t)
unfolding response_with
response_with-append h y t = regroup (print_blank h.blank) (print_version h.minor) h.digits (print_reason h.reason) (print_end h.line_end) y t
  where
    regroup : (a b c d e y t : List ℕ) → (a ++ (b ++ 32 ∷ (c ++ (d ++ (e ++ y))))) ++ t ≡ a ++ (b ++ 32 ∷ (c ++ (d ++ (e ++ (y ++ t)))))
    regroup a b c d e y t = simp append_assoc

three_digits : (ds rest : List ℕ) → length ds ≡ 3 → AllPass is_ascii_digit ds → (d : ℕ × (ℕ × ℕ)) × (code_digits d ≡ ds) × Code d (ds ++ rest) rest
three_digits [] rest three all = absurd (omega arith)
three_digits (a ∷ []) rest three all = absurd (omega arith)
three_digits (a ∷ b ∷ []) rest three all = absurd (omega arith)
three_digits (a ∷ b ∷ c ∷ []) rest three all = (
  (a, (b, c)),
  refl,
  (_, (all 0 0 (omega arith), refl), (_, (all 1 0 (omega arith), refl), (all 2 0 (omega arith), refl))),
)
three_digits (a ∷ b ∷ c ∷ d ∷ ds) rest three all = absurd (omega arith)

abbrev StartTree : Type 0
StartTree = List LineEnd × (ℕ × (⊤ × ((ℕ × (ℕ × ℕ)) × (Option (List ℕ) × LineEnd))))

response_starts : (h : ResponseHead) (y : List ℕ) → IsResponseHead h → (t : StartTree) × ResponseStart t (response_with h y) y
unfolding response_with
response_starts h y valid =
    let code = three_digits h.digits (print_reason h.reason ++ (print_end h.line_end ++ y)) valid.digits.0 valid.digits.1 in (
      (h.blank, (h.minor, (tt, (code.0, (h.reason, h.line_end))))),
      (_, (refl, refl), (_, (valid.minor, refl), (_, refl, (_, code.2, (valid.reason, refl))))),
    )

response_whole : (h : ResponseHead) (rest : List ℕ) (text : List ℕ) → ReadsResponse text h rest → text ≡ response_with h (print_section h.fields h.last ++ rest)
unfolding response_with
response_whole h rest text reads = reads.1 ∙ print_response-append h rest

pub response_longer : (front more q : List ℕ) (h k : ResponseHead) → ReadsResponse (front ++ 10 ∷ []) h [] → ReadsResponse (front ++ more) k q →
    length h.fields ≤ length k.fields
response_longer front more q h k cut whole =
    let lines : List ℕ = lines_front h.fields h.last in
    let at : front ++ 10 ∷ [] ≡ response_with h lines ++ 10 ∷ [] =
    response_whole h [] (front ++ 10 ∷ []) cut ∙ ap (response_with h) (section_cut h.fields h.last) ∙ sym (response_with-append h lines (10 ∷ [])) in
    let front_is : front ≡ response_with h lines = append_cancel_right front (response_with h lines) (10 ∷ []) at in
    let text_is : front ++ more ≡ response_with h (lines ++ more) = ap (λ (t : List ℕ). t ++ more) front_is ∙ response_with-append h lines more in
    let pieces = response_pieces (front ++ more) k q whole in
    let starts = response_starts h (lines ++ more) cut.0 in
    let begins : ResponseStart starts.0 (front ++ more) (lines ++ more) = subst (λ (t : List ℕ). ResponseStart starts.0 t (lines ++ more)) (sym text_is)
    starts.1 in
    let same = ResponseStart_deterministic.unique starts.0 pieces.0.0 (front ++ more) (lines ++ more) pieces.2.0 begins pieces.2.1 in
    let fields_are : pieces.0.1.0 ≡ k.fields = ap (λ (r : ResponseHead). r.fields) pieces.1 in
    let few = section_longer h.fields pieces.0.1.0 h.last pieces.0.1.1 more q cut.0.fields
    (subst (λ (t : List ℕ). Section pieces.0.1 t q) (sym same.1) pieces.2.2) in
    omega (arith, few, ap length fields_are)
