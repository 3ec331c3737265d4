-- Heads made of names and values. Their texts are read by the parser's grammar as these heads,
-- since targets, names and values have only the octets that the grammar allows there.
use Rattle.std.proofs.Common.{◌≡◌, ℕ, ◌<◌, true, List, [], ◌∷◌, ◌++◌, length, map, Some, IsUtf8, sym, ap, ◌∙◌, arith, append_assoc, codes, decimal}
use Rattle.std.specs.List.{list_all, flat_map}
use Rattle.std.specs.Char.{is_ascii_digit}
use Rattle.std.proofs.lemmas.Bool.Decides.{nat_tests}
use Rattle.std.proofs.lemmas.List.Elements.{All-weaker, All-nil}
use Rattle.std.proofs.lemmas.List.Sums.{AllPass-from_list_all}
use Rattle.std.proofs.lemmas.Str.{IsUtf8-from_ascii}
use Rattle.std.proofs.lemmas.Str.Ascii.{IsAscii-from_all}
use Rattle.httparse.specs.Grammar.{RequestHead, IsRequestHead, ReadsRequest, ResponseHead, IsResponseHead, ReadsResponse, print_field, print_response}
use Rattle.httparse.specs.Grammar.{print_section, is_uri_byte, is_value_byte, AllPass}
use Rattle.httparse.specs.Grammar as grammar
use Rattle.httparse.proofs.GrammarLemmas.{print_request-append, print_response-append}
use Rattle.url_key.specs.Text.{is_visible}
use Rattle.http_writing.specs.Lines.{crlf}
use Rattle.http_writing.specs.Ask.{request_line}
use Rattle.http_writing.specs.Answer.{status_line}
use Rattle.peer_fetch.proofs.Pairs.{pair_line, field_of, ArePlain, fields_valid, fields_print}
use Rattle.peer_fetch.proofs.Names.{get_token}

visible_uri_byte : (b : ℕ) → is_visible b ≡ true → is_uri_byte b ≡ true
visible_uri_byte b h = grind (arith, nat_tests)

visible_ascii : (b : ℕ) → is_visible b ≡ true → b < 128
visible_ascii b h = grind (arith, nat_tests)

pub visible_utf8 : (text : List ℕ) → list_all is_visible text ≡ true → IsUtf8 text
visible_utf8 text visible =
    IsUtf8-from_ascii text
    (IsAscii-from_all text (All-weaker (λ b. is_visible b ≡ true) (λ b. b < 128) visible_ascii text (AllPass-from_list_all is_visible text visible)))

-- A request

abbrev pub request_of : List ℕ → List (List ℕ × List ℕ) → RequestHead
request_of target pairs =
    record { blank = []; method = codes "GET"; target = target; minor = 1; line_end = grammar.crlf; fields = map field_of pairs; last = grammar.crlf }

request_valid : (target : List ℕ) (pairs : List (List ℕ × List ℕ)) → list_all is_visible target ≡ true → 0 < length target → ArePlain pairs →
    IsRequestHead (request_of target pairs)
request_valid target pairs visible some plain = record {
  method = get_token;
  target = (some, All-weaker (λ b. is_visible b ≡ true) (λ b. is_uri_byte b ≡ true) visible_uri_byte target (AllPass-from_list_all is_visible target visible));
  target_text = visible_utf8 target visible;
  minor = omega arith;
  fields = fields_valid pairs plain;
}

-- the lines of the pairs and an empty line are the section
section_is : (pairs : List (List ℕ × List ℕ)) (rest : List ℕ) → flat_map pair_line pairs ++ (crlf ++ rest) ≡ print_section (map field_of pairs) grammar.crlf
    ++ rest
section_is pairs rest = ap (λ (t : List ℕ). t ++ (crlf ++ rest)) (sym (fields_print pairs))
    ∙ sym (append_assoc (flat_map print_field (map field_of pairs)) crlf rest)

pub request_reads : (target : List ℕ) (pairs : List (List ℕ × List ℕ)) (rest : List ℕ) → list_all is_visible target ≡ true → 0 < length target → ArePlain pairs
    → ReadsRequest (request_line target ++ (flat_map pair_line pairs ++ (crlf ++ rest))) (request_of target pairs) rest
request_reads target pairs rest visible some plain =
    let section : List ℕ = print_section (map field_of pairs) grammar.crlf ++ rest in (
      request_valid target pairs visible some plain,
      ap (λ (t : List ℕ). request_line target ++ t) (section_is pairs rest)
          ∙ ap (λ (t : List ℕ). 71 ∷ 69 ∷ 84 ∷ 32 ∷ t) (append_assoc target (codes " HTTP/1.1" ++ crlf) section)
          ∙ sym (print_request-append (request_of target pairs) rest),
    )

-- A response

abbrev pub response_of : ℕ → List (List ℕ × List ℕ) → ResponseHead
response_of status pairs = record {
  blank = [];
  minor = 1;
  digits = decimal status;
  reason = Some [];
  line_end = grammar.crlf;
  fields = map field_of pairs;
  last = grammar.crlf;
}

response_valid : (status : ℕ) (pairs : List (List ℕ × List ℕ)) → length (decimal status) ≡ 3 → list_all is_ascii_digit (decimal status) ≡ true →
    ArePlain pairs → IsResponseHead (response_of status pairs)
response_valid status pairs three digits plain = record {
  minor = omega arith;
  digits = (three, AllPass-from_list_all is_ascii_digit (decimal status) digits);
  reason = All-nil (λ b. is_value_byte b ≡ true);
  fields = fields_valid pairs plain;
}

pub response_reads : (status : ℕ) (pairs : List (List ℕ × List ℕ)) (rest : List ℕ) → length (decimal status) ≡ 3 →
    list_all is_ascii_digit (decimal status) ≡ true → ArePlain pairs
    → ReadsResponse (status_line status ++ (flat_map pair_line pairs ++ (crlf ++ rest))) (response_of status pairs) rest
response_reads status pairs rest three digits plain =
    let section : List ℕ = print_section (map field_of pairs) grammar.crlf ++ rest in (
      response_valid status pairs three digits plain,
      ap (λ (t : List ℕ). status_line status ++ t) (section_is pairs rest)
          ∙ ap (λ (t : List ℕ). codes "HTTP/1.1 " ++ t) (append_assoc (decimal status) (codes " " ++ crlf) section)
          ∙ sym (print_response-append (response_of status pairs) rest),
    )
