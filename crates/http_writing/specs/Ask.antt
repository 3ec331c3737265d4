-- The text of a request (RFC 9112, section 3; RFC 9111, section 5.2.1).
use Rattle.std.specs.Prelude.{ℕ, Bool, true, false, List, [], ◌++◌, codes}
use Rattle.url_key.specs.Text.{key_authority, key_path}
use Rattle.http_messages.specs.declared.ask.Ask.{Ask}
use Rattle.http_writing.specs.declared.ask.AskForm.{AskForm}
use Rattle.http_writing.specs.declared.ask.AskForm.TheVariants.{Absolute, Origin}
use Rattle.http_writing.specs.Lines.{crlf, line, field_line, number_line, last_lines}

-- the request target: the whole URL, or its path and query (RFC 9112, sections 3.2.1 and 3.2.2)
abbrev pub target : AskForm → List ℕ → List ℕ
target Absolute key = key
target Origin key = key_path key

-- the request line: a GET in HTTP/1.1 (RFC 9112, section 3)
abbrev pub request_line : List ℕ → List ℕ
request_line target = codes "GET " ++ (target ++ line (codes " HTTP/1.1"))

-- the `cache-control` line of the directives that are set; empty where none is (RFC 9111, sections
-- 5.2.1.4 and 5.2.1.7)
abbrev pub cache_control_line : Bool → Bool → List ℕ
cache_control_line true true = field_line (codes "cache-control") (codes "only-if-cached, no-cache")
cache_control_line true false = field_line (codes "cache-control") (codes "only-if-cached")
cache_control_line false true = field_line (codes "cache-control") (codes "no-cache")
cache_control_line false false = []

-- the request line and the `host` field of a key (RFC 9112, section 3.2)
abbrev pub key_lines : AskForm → List ℕ → List ℕ
key_lines form key = request_line (target form key) ++ field_line (codes "host") (key_authority key)

-- the text of a request that a cache with this name writes [HTTP 2]
abbrev pub ask_text : AskForm → Ask → List ℕ → List ℕ
ask_text form ask via =
    key_lines form ask.key
    ++ (cache_control_line ask.only_if_cached ask.no_cache ++ (last_lines via ++ (number_line (codes "x-purge-member") ask.member ++ crlf)))
