-- The request that a head makes, or its first fault (RFC 9112, sections 3 and 6; RFC 9111, section
-- 5.2.1).
use Rattle.std.specs.Prelude.{◌≡◌, ℕ, Bool, true, false, not, ◌&&◌, ◌==◌, bytes_eq, List, [], ◌∷◌, ◌++◌, map, take, codes, Option, Some, None, Result, Ok, Err}
use Rattle.std.specs.Prelude.{⊤, if◌then◌else◌}
use Rattle.httparse.specs.Grammar.{RequestHead}
use Rattle.httparse.specs.declared.spans.HeaderSpan.{HeaderSpan}
use Rattle.httparse.specs.declared.spans.RequestSpans.{RequestSpans}
use Rattle.httparse.specs.Spans.{name_and_value, span_bytes}
use Rattle.http_reading.specs.Fields.{fields_of}
use Rattle.url_key.specs.declared.fault.KeyFault.{KeyFault}
use Rattle.url_key.specs.declared.fault.KeyFault.TheVariants.{NotUri}
use Rattle.url_key.specs.Key.{HasKey}
use Rattle.http_messages.specs.declared.ask.Ask.{Ask}
use Rattle.http_messages.specs.declared.fault.FetchFault.{FetchFault}
use Rattle.http_messages.specs.declared.fault.FetchFault.TheVariants.{BadHead, BadTarget, MethodNotServed, Credentials, BadBody, NoMemory}
use Rattle.http_reading.specs.AskFields.{HostText, absent, several, one, host, has_credentials, member}
use Rattle.http_reading.specs.Directives.{only_if_cached, no_cache}
use Rattle.http_reading.specs.Framing.{ask_has_body}
use Rattle.http_reading.specs.Uri.{is_authority, is_uri_key}

-- the parts of a request's head: method, target, minor version, and fields as a list of names and
-- values
pub record AskHead : Type 0 where
  pub method : List ℕ
  pub target : List ℕ
  pub minor : ℕ
  pub fields : List (List ℕ × List ℕ)

-- the parts of a head of the parser's grammar
abbrev pub parts_of : RequestHead → AskHead
parts_of h = record { method = h.method; target = h.target; minor = h.minor; fields = map name_and_value h.fields }

-- the target is a path (RFC 9112, section 3.2.1)
abbrev pub is_origin_form : List ℕ → Bool
is_origin_form [] = false
is_origin_form (octet ∷ text) = octet == 47

-- the `host` fields that a request may have: one that is an authority, or none in HTTP/1.0 where the
-- target is not a path (RFC 9112, section 3.2)
abbrev pub may_have : HostText → ℕ → List ℕ → Bool
may_have absent minor target = (minor == 0) && not (is_origin_form target)
may_have (one value) minor target = is_authority value
may_have several minor target = false

-- the value of a single `host` field, else the empty text
abbrev pub host_value : HostText → List ℕ
host_value absent = []
host_value (one value) = value
host_value several = []

-- the URL of a target: a path at the host, and any other target as it stands (RFC 9112, section
-- 3.3)
abbrev pub url_by : HostText → List ℕ → List ℕ
url_by named target = if is_origin_form target then codes "http://" ++ (host_value named ++ target) else target

-- the URL that a request is for
abbrev pub url_of : AskHead → List ℕ
url_of h = url_by (host h.fields) h.target

-- the text has this key, or this is why it has none
abbrev pub KeyOf : List ℕ → Result (List ℕ) FetchFault → Type 0
KeyOf text (Ok key) = HasKey text (Ok key)
KeyOf text (Err (BadTarget fault)) = HasKey text (Err fault)
KeyOf text (Err NoMemory) = ⊤
KeyOf text (Err fault) = ⊥

-- the faults that come before the target is read: the `host` fields, then the method
abbrev pub first_fault : AskHead → Option FetchFault
first_fault h =
    if not (may_have (host h.fields) h.minor h.target) then Some BadHead
    else (if bytes_eq h.method (codes "GET") then None else Some MethodNotServed)

-- the request for a key that the fields make, or their fault: credentials, then a body
abbrev pub ask_for : List (List ℕ × List ℕ) → List ℕ → Result Ask FetchFault
ask_for fields key =
    if has_credentials fields then Err Credentials
    else (if ask_has_body fields then Err BadBody
    else Ok record {
      key = key;
      only_if_cached = only_if_cached fields;
      no_cache = no_cache fields;
      member =
          member fields;
    })

-- the same, or the fault of the target: it has no key, or one that is no URI's (RFC 9112, section 3.2)
abbrev pub asked : List (List ℕ × List ℕ) → Result (List ℕ) KeyFault → Result Ask FetchFault
asked fields (Err fault) = Err (BadTarget fault)
asked fields (Ok key) = if is_uri_key key then ask_for fields key else Err (BadTarget NotUri)

-- what the head says, given the fault that comes before the target
abbrev pub SaysBy : Option FetchFault → AskHead → Result Ask FetchFault → Type 0
SaysBy (Some fault) h outcome = outcome ≡ Err fault
SaysBy None h outcome = (read : Result (List ℕ) KeyFault) × HasKey (url_of h) read × (outcome ≡ asked h.fields read)

-- the head makes this request, or this is its first fault [HTTP 8]
abbrev pub Says : AskHead → Result Ask FetchFault → Type 0
Says h outcome = SaysBy (first_fault h) h outcome

-- the parts at these places of the octets
abbrev pub head_at : List ℕ → List HeaderSpan → RequestSpans → AskHead
head_at window headers r = record {
  method = span_bytes window r.method;
  target = span_bytes window r.path;
  minor = r.version;
  fields = fields_of window (take r.headers headers);
}

-- the faults of a whole head, and the want of memory
abbrev pub is_ask_fault : FetchFault → Bool
is_ask_fault BadHead = true
is_ask_fault (BadTarget fault) = true
is_ask_fault MethodNotServed = true
is_ask_fault Credentials = true
is_ask_fault BadBody = true
is_ask_fault NoMemory = true
is_ask_fault fault = false
