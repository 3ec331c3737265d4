-- The requests and responses whose texts are read back as them.
use Rattle.std.specs.Prelude.{ℕ, ◌≤◌, IsTrue, unwrap_or, List, Ok, Option, Some, None, ⊤}
use Rattle.std.specs.List.{AllByRecursion}
use Rattle.http_header.specs.FieldName.{IsHeaderName}
use Rattle.http_header.specs.FieldValue.{IsFieldValue}
use Rattle.url_key.specs.Key.{HasKey}
use Rattle.http_messages.specs.declared.ask.Ask.{Ask}
use Rattle.http_reading.specs.Uri.{is_uri_key}
use Rattle.http_messages.specs.Field.{FieldText}
use Rattle.http_messages.specs.Answer.{AnswerText, is_writable}

-- a member number, 1 to 16, or none
abbrev pub IsMember : Option ℕ → Type 0
IsMember None = ⊤
IsMember (Some member) = (1 ≤ member) × (member ≤ 16)

-- the key of the request is that of some URL, as `Key::read` makes it (RFC 9110, section 4.2.3), with
-- octets that a URI has alone, as each request that was read has (RFC 3986, section 2), and its
-- member number is 1 to 16 or none
pub record IsWritableAsk (ask : Ask) : Type 0 where
  pub url : List ℕ
  pub key : HasKey url (Ok ask.key)
  pub uri : IsTrue (is_uri_key ask.key)
  pub member : IsMember ask.member

-- the name is a token in lower case, and the value has no control octet but the tab, as
-- `HeaderName` and `HeaderValue` keep (RFC 9110, sections 5.1 and 5.5)
abbrev pub IsFieldText : FieldText → Type 0
IsFieldText field = IsHeaderName field.name × IsFieldValue field.value

-- a response as its type keeps it: `Answer::new` accepts it, its names and values are those of
-- fields, and its stamp fits 32 bits
pub record IsWritableAnswer (answer : AnswerText) : Type 0 where
  pub writable : IsTrue (is_writable answer)
  pub fields : AllByRecursion IsFieldText answer.fields
  pub stamp : unwrap_or answer.stamp 0 ≤ 4294967295
