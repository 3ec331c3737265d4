-- The text of a request spells it: it is a head of the grammar within its limits, and its fields
-- and target make the request that was written.
use Rattle.std.proofs.Common.{◌≡◌, ℕ, ◌+◌, ◌≤◌, Bool, true, false, List, [], ◌∷◌, ◌++◌, length, map, drop, Option, Some, None, Ok, sym, ap, ◌∙◌, subst, arith}
use Rattle.std.proofs.Common.{append_assoc, append-nil, length-append, length-take, length-drop, codes, decimal}
use Rattle.std.specs.List.{flat_map}
use Rattle.std.proofs.lemmas.Bool.{and_parts}
use Rattle.std.proofs.lemmas.List.{length-map}
use Rattle.std.proofs.lemmas.Fmt.{length-decimal-le}
use Rattle.httparse.specs.Grammar.{ReadsRequest}
use Rattle.http_uri.specs.Grammar.{authority_len}
use Rattle.url_key.specs.Text.{http_prefix, key_authority, key_path}
use Rattle.url_key.specs.Key.{HasKey}
use Rattle.http_messages.specs.declared.ask.Ask.{Ask}
use Rattle.http_writing.specs.declared.ask.AskForm.{AskForm}
use Rattle.http_writing.specs.Name.{is_name}
use Rattle.http_writing.specs.Lines.{crlf, field_line, number_line, last_lines}
use Rattle.http_writing.specs.Ask.{ask_text, target, request_line, cache_control_line}
use Rattle.http_reading.specs.AskFields.{host, member}
use Rattle.http_reading.specs.Directives.{only_if_cached, no_cache}
use Rattle.http_reading.specs.Uri.{is_authority, is_written, path_octets, is_uri_key}
use Rattle.http_reading.specs.AskHead.{AskHead, parts_of, url_by, Says, asked}
use Rattle.http_reading.specs.Asks.{SpellsAsk}
use Rattle.peer_fetch.specs.Writable.{IsMember, IsWritableAsk}
use Rattle.peer_fetch.proofs.Keys.{IsPlainText, key_plain}
use Rattle.peer_fetch.proofs.KeyReads.{key_reads}
use Rattle.peer_fetch.proofs.Targets.{IsTargetOf, target_is}
use Rattle.peer_fetch.proofs.Pairs.{ArePlain, pair_line, field_of, fields_read}
use Rattle.peer_fetch.proofs.Heads.{request_of, request_reads}
use Rattle.peer_fetch.proofs.AskFields.{control_pairs, number_pairs, ask_pairs, ask_lines, ask_plain, part_visible, IsNameText, name_text, SaysAsk, pairs_say}
use Rattle.peer_fetch.proofs.AskFields.{member_back}

-- the key of the request has its own text for a URL
own_key : (ask : Ask) → IsWritableAsk ask → HasKey ask.key (Ok ask.key)
own_key ask writable = key_reads writable.url ask.key writable.key

-- The text is a head

abbrev pub pairs_of : Ask → List ℕ → List (List ℕ × List ℕ)
pairs_of ask via = ask_pairs (key_authority ask.key) ask.only_if_cached ask.no_cache via ask.member

text_is : (form : AskForm) (ask : Ask) (via rest : List ℕ) → ask_text form ask via ++ rest ≡ request_line (target form ask.key)
    ++ (flat_map pair_line (pairs_of ask via) ++ (crlf ++ rest))
text_is form ask via rest =
    let r : List ℕ = request_line (target form ask.key) in
    let h : List ℕ = field_line (codes "host") (key_authority ask.key) in
    let c : List ℕ = cache_control_line ask.only_if_cached ask.no_cache in
    let n : List ℕ = number_line (codes "x-purge-member") ask.member in
    regroup r h c (last_lines via) n rest
    ∙ ap (λ (t : List ℕ). r ++ (h ++ t)) (ask_lines ask.only_if_cached ask.no_cache via ask.member (crlf ++ rest))
    ∙ ap (λ (t : List ℕ). r ++ t) (sym (append_assoc h _ (crlf ++ rest)))
  where
    regroup : (r h c k n t : List ℕ) → ((r ++ h) ++ (c ++ (k ++ (n ++ crlf)))) ++ t ≡ r ++ (h ++ (c ++ (k ++ (n ++ (crlf ++ t)))))
    regroup r h c k n t = simp append_assoc

pairs_plain : (ask : Ask) (via : List ℕ) → IsWritableAsk ask → is_name via ≡ true → ArePlain (pairs_of ask via)
pairs_plain ask via writable name =
    let plain : IsPlainText ask.key = key_plain ask.key ask.key (own_key ask writable) in
    ask_plain (key_authority ask.key) ask.only_if_cached ask.no_cache via ask.member (part_visible ask.key plain.visible) (name_text via name) writable.member

-- anything may follow the text
pub text_reads : (form : AskForm) (ask : Ask) (via rest : List ℕ) → IsWritableAsk ask → is_name via ≡ true →
    ReadsRequest (ask_text form ask via ++ rest) (request_of (target form ask.key) (pairs_of ask via)) rest
text_reads form ask via rest writable name =
    let is : IsTargetOf ask.key (target form ask.key) = target_is form ask.key (own_key ask writable) in
    subst (λ (t : List ℕ). ReadsRequest t (request_of (target form ask.key) (pairs_of ask via)) rest) (sym (text_is form ask via rest))
    (request_reads (target form ask.key) (pairs_of ask via) rest is.visible is.some (pairs_plain ask via writable name))

-- It is within the limits

control_short : (only fresh : Bool) → length (cache_control_line only fresh) ≤ 41
control_short true true = omega arith
control_short true false = omega arith
control_short false true = omega arith
control_short false false = omega arith

pub length-field_line : (name value : List ℕ) → length (field_line name value) ≡ length name + length value + 4
length-field_line name value =
    let a : length (name ++ (58 ∷ 32 ∷ (value ++ crlf))) ≡ length name + length (58 ∷ 32 ∷ (value ++ crlf)) = length-append name (58 ∷ 32 ∷ (value ++ crlf)) in
    let b : length (value ++ crlf) ≡ length value + 2 = length-append value crlf in
    omega (arith, a, b)

member_short : (m : Option ℕ) → IsMember m → length (number_line (codes "x-purge-member") m) ≤ 20
member_short None is = omega arith
member_short (Some n) is =
    let line = length-field_line (codes "x-purge-member") (decimal n) in
    let few = length-decimal-le 2 n (omega arith) (omega arith) (omega arith) in
    omega (arith, line, few)

part_short : (key : List ℕ) → length (key_authority key) ≤ length key
part_short key =
    let rest : List ℕ = drop (length http_prefix) key in
    omega (arith, length-take (authority_len rest) rest, length-drop (length http_prefix) key)

pub last_short : (via : List ℕ) → IsNameText via → length (last_lines via) ≤ 62
last_short via name =
    let a = length-append (field_line (codes "connection") (codes "close")) (field_line (codes "via") (codes "1.1 " ++ via)) in
    let b = length-field_line (codes "via") (codes "1.1 " ++ via) in
    let c = length-append (codes "1.1 ") via in
    let short = name.short in
    omega (arith, a, b, c)

-- the target and the host are at most as long as a key may be, and all other parts of the text are short
pub text_short : (form : AskForm) (ask : Ask) (via : List ℕ) → IsWritableAsk ask → is_name via ≡ true → length (ask_text form ask via) ≤ 16384
text_short form ask via writable name =
    let key : List ℕ = ask.key in
    let plain : IsPlainText ask.key = key_plain ask.key ask.key (own_key ask writable) in
    let short : length key ≤ 1024 = plain.short in
    let text : List ℕ = target form key in
    let is : IsTargetOf key text = target_is form key (own_key ask writable) in
    let text_size = is.short in
    let r : List ℕ = request_line text in
    let h : List ℕ = field_line (codes "host") (key_authority key) in
    let c : List ℕ = cache_control_line ask.only_if_cached ask.no_cache in
    let k : List ℕ = last_lines via in
    let n : List ℕ = number_line (codes "x-purge-member") ask.member in
    let tail : length (text ++ (codes " HTTP/1.1" ++ crlf)) ≡ length text + 11 = length-append text (codes " HTTP/1.1" ++ crlf) in
    let r_size : length r ≡ length text + 15 = omega (arith, tail) in
    let h_size = length-field_line (codes "host") (key_authority key) in
    let part = part_short key in
    let c_size = control_short ask.only_if_cached ask.no_cache in
    let k_size = last_short via (name_text via name) in
    let n_size = member_short ask.member writable.member in
    let first = length-append (r ++ h) (c ++ (k ++ (n ++ crlf))) in
    let second = length-append r h in
    let third = length-append c (k ++ (n ++ crlf)) in
    let fourth = length-append k (n ++ crlf) in
    let fifth = length-append n crlf in
    omega (arith, r_size, h_size, part, c_size, k_size, n_size, first, second, third, fourth, fifth, short, text_size)

control_few : (only fresh : Bool) → length (control_pairs only fresh) ≤ 1
control_few true true = omega arith
control_few true false = omega arith
control_few false true = omega arith
control_few false false = omega arith

pub number_few : (name : List ℕ) (m : Option ℕ) → length (number_pairs name m) ≤ 1
number_few name None = omega arith
number_few name (Some n) = omega arith

pairs_few : (ask : Ask) (via : List ℕ) → length (map field_of (pairs_of ask via)) ≤ 64
pairs_few ask via =
    let size = length-map (pairs_of ask via) field_of in
    let a = control_few ask.only_if_cached ask.no_cache in
    let b = number_few (codes "x-purge-member") ask.member in
    let c = length-append (control_pairs ask.only_if_cached ask.no_cache)
    ((codes "connection", codes "close") ∷ (codes "via", codes "1.1 " ++ via) ∷ number_pairs (codes "x-purge-member") ask.member) in
    omega (arith, size, a, b, c)

-- It makes the request that was written

abbrev head_with : List ℕ → List (List ℕ × List ℕ) → AskHead
head_with target fields = record { method = codes "GET"; target = target; minor = 1; fields = fields }

ask_with : List ℕ → Bool → Bool → Option ℕ → Ask
ask_with key only fresh m = record { key = key; only_if_cached = only; no_cache = fresh; member = m }

asked_is : (ask : Ask) (pairs : List (List ℕ × List ℕ)) → SaysAsk pairs (key_authority ask.key) ask.only_if_cached ask.no_cache ask.member →
    IsMember ask.member → is_uri_key ask.key ≡ true → Ok ask ≡ asked pairs (Ok ask.key)
unfolding ask_with
asked_is ask pairs says is uri =
    let made : ask_with ask.key (only_if_cached pairs) (no_cache pairs) (member pairs) ≡ ask_with ask.key ask.only_if_cached ask.no_cache ask.member =
    ap (λ b. ask_with ask.key b (no_cache pairs) (member pairs)) says.only_is
    ∙ ap (λ b. ask_with ask.key ask.only_if_cached b (member pairs)) says.no_is
    ∙ ap (ask_with ask.key ask.only_if_cached ask.no_cache) (says.member_is ∙ member_back ask.member is) in
    rw (uri, says.credentials, says.body) (ap Ok (sym made))

says_by : (ask : Ask) (text : List ℕ) (pairs : List (List ℕ × List ℕ)) → IsTargetOf ask.key text →
    SaysAsk pairs (key_authority ask.key) ask.only_if_cached ask.no_cache ask.member → IsWritableAsk ask → Says (head_with text pairs) (Ok ask)
says_by ask text pairs is says writable =
    let url_is : url_by (host pairs) text ≡ ask.key = ap (λ named. url_by named text) says.host_is ∙ is.url in
    let authority : is_authority (key_authority ask.key) ≡ true =
    (and_parts (is_authority (key_authority ask.key)) (is_written path_octets (key_path ask.key)) writable.uri).0 in
    rw (says.host_is, authority)
    (Ok ask.key, subst (λ (t : List ℕ). HasKey t (Ok ask.key)) (sym url_is) (own_key ask writable), asked_is ask pairs says writable.member writable.uri)

pub text_says : (form : AskForm) (ask : Ask) (via : List ℕ) → IsWritableAsk ask → is_name via ≡ true →
    Says (parts_of (request_of (target form ask.key) (pairs_of ask via))) (Ok ask)
text_says form ask via writable name =
    subst (λ fields. Says (head_with (target form ask.key) fields) (Ok ask)) (sym (fields_read (pairs_of ask via) (pairs_plain ask via writable name)))
    (says_by ask (target form ask.key) (pairs_of ask via) (target_is form ask.key (own_key ask writable))
    (pairs_say (key_authority ask.key) ask.only_if_cached ask.no_cache via ask.member) writable)

pub ask_spelled : (form : AskForm) (ask : Ask) (via : List ℕ) → IsWritableAsk ask → is_name via ≡ true → SpellsAsk (ask_text form ask via) ask
ask_spelled form ask via writable name = record {
  head = request_of (target form ask.key) (pairs_of ask via);
  reads = subst (λ (t : List ℕ). ReadsRequest t (request_of (target form ask.key) (pairs_of ask via)) []) (append-nil (ask_text form ask via))
      (text_reads form ask via [] writable name);
  short = text_short form ask via writable name;
  few = pairs_few ask via;
  says = text_says form ask via writable name;
}
