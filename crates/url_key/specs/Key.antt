-- Which key a text has, or which first fault. Equivalent http URIs have one key (RFC 9110, section
-- 4.2.3), but percent-encoded octets and dot segments stay as they came. `HasKey` is the
-- definition; `IsKey` is the invariant of `Key`.
use Rattle.std.specs.Prelude.{◌≡◌, ℕ, ◌≤◌, ◌⊎◌, Bool, not, ◌==◌, nat_lt, bytes_eq, List, [], ◌++◌, length, Option, Some, None, unwrap_or, Result, Ok, Err}
use Rattle.std.specs.Prelude.{codes, if◌then◌else◌}
use Rattle.std.specs.List.{list_all, list_any}
use Rattle.http_uri.specs.ByteClasses.{at_sign, hash_sign, lowercase, framed_text}
use Rattle.http_uri.specs.Uri.{Spells, SpellsNone, uri_scheme, uri_authority, uri_path, uri_query}
use Rattle.http_uri.specs.declared.uri.Uri.{Uri}
use Rattle.url_key.specs.declared.fault.KeyFault.{KeyFault}
use Rattle.url_key.specs.declared.fault.KeyFault.TheVariants.{TooLong, NotVisibleAscii, Fragment, NotUri, NotHttp, UserInfo, NoHost, BadPort}
use Rattle.url_key.specs.Text.{http_prefix, is_visible, host_of, after_host, port_of, canonical_text, key_host, key_path, key_port}

-- the greatest length of a key, and of a text that is read
abbrev pub longest_key : ℕ
longest_key = 1024

-- the key, or `TooLong` if it is over 1,024 octets
abbrev pub key_within : List ℕ → Result (List ℕ) KeyFault
key_within key = if nat_lt longest_key (length key) then Err TooLong else Ok key

-- the key of a host, the port behind it if it is good, a path and a query (RFC 9110, section 4.2.1:
-- an empty host is invalid)
abbrev pub key_of_host : List ℕ → Option ℕ → List ℕ → Option (List ℕ) → Result (List ℕ) KeyFault
key_of_host [] port path query = Err NoHost
key_of_host host None path query = Err BadPort
key_of_host host (Some port) path query = key_within (canonical_text host port path query)

-- the key of an authority, a path and a query; userinfo is refused (RFC 9110, section 4.2.4)
abbrev pub key_of_authority : List ℕ → List ℕ → Option (List ℕ) → Result (List ℕ) KeyFault
key_of_authority authority path query =
    if list_any (λ b. b == at_sign) authority then Err UserInfo
    else key_of_host (host_of authority) (port_of (after_host authority)) path query

-- the scheme is http; http_uri gives it in lower case
abbrev pub is_http : Option (List ℕ) → Bool
is_http scheme = bytes_eq (unwrap_or scheme []) (codes "http")

-- the key of a URI that http_uri has cut into its parts [Key 6]
abbrev pub key_of_uri : Uri → Result (List ℕ) KeyFault
key_of_uri u =
    if is_http (uri_scheme u) then key_of_authority (unwrap_or (uri_authority u) []) (uri_path u) (uri_query u)
    else Err NotHttp

-- the outcome of a text without an early fault: it is no URI, or it spells one that has this key or
-- this fault
abbrev pub HasUriKey : List ℕ → Result (List ℕ) KeyFault → Type 0
HasUriKey text outcome =
    (SpellsNone text × (outcome ≡ Err NotUri)) ⊎ ((u : Uri) × Spells text u × (outcome ≡ key_of_uri u))

-- the fault that is found before the text is cut: too long, an octet that is not visible, or a
-- fragment [Key 6]
abbrev pub early_fault : List ℕ → Option KeyFault
early_fault text =
    if nat_lt longest_key (length text) then Some TooLong
    else (if not (list_all is_visible text) then Some NotVisibleAscii
    else (if list_any (λ b. b == hash_sign) text then Some Fragment else None))

-- `HasKey`, by the early fault if there is one
abbrev pub HasKeyBy : Option KeyFault → List ℕ → Result (List ℕ) KeyFault → Type 0
HasKeyBy (Some fault) text outcome = outcome ≡ Err fault
HasKeyBy None text outcome = HasUriKey text outcome

-- the text has this key, or has this fault first [Key 1]
abbrev pub HasKey : List ℕ → Result (List ℕ) KeyFault → Type 0
HasKey text outcome = HasKeyBy (early_fault text) text outcome

-- a key's text: it is at least as long as `http://`, at most 1,024 octets long, and what is read of
-- it is itself [Key 4]
pub record IsKey (key : List ℕ) : Type 0 where
  pub prefix : length http_prefix ≤ length key
  pub short : length key ≤ longest_key
  pub own : (outcome : Result (List ℕ) KeyFault) → HasKey key outcome → outcome ≡ Ok key

-- the key has the URI's host in lower case, its port, and its path and query [Key 3]
pub record KeepsPartsOf (u : Uri) (key : List ℕ) : Type 0 where
  pub host : key_host key ≡ lowercase (host_of (unwrap_or (uri_authority u) []))
  pub port : Some (key_port key) ≡ port_of (after_host (unwrap_or (uri_authority u) []))
  pub path : key_path key ≡ uri_path u ++ framed_text (codes "?") (uri_query u) []

-- the text spells a URI whose parts the key keeps
abbrev pub KeepsParts : List ℕ → List ℕ → Type 0
KeepsParts text key = (u : Uri) × Spells text u × KeepsPartsOf u key
