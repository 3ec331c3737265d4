-- The octets of an authority, and of a path and query (RFC 3986, sections 2 and 3).
use Rattle.std.specs.Prelude.{ℕ, ◌+◌, ◌-◌, Bool, true, false, ◌&&◌, ◌||◌, ◌==◌, nat_le, nat_lt, List, [], ◌∷◌, length, drop, slice_index, slice_range, codes}
use Rattle.std.specs.Prelude.{if◌then◌else◌}
use Rattle.std.specs.List.{list_all, list_any}
use Rattle.std.specs.Char.{is_ascii_alphanumeric, is_ascii_digit, is_ascii_hexdigit}
use Rattle.http_uri.specs.ByteClasses.{colon, percent_sign, left_bracket, right_bracket, index_of}
use Rattle.url_key.specs.Text.{host_of, after_host, key_authority, key_path}

-- the octet is one of these
abbrev pub is_one_of : List ℕ → ℕ → Bool
is_one_of octets octet = list_any (λ other. other == octet) octets

-- an octet that stands for itself in a host, a path and a query: unreserved, or one of the
-- sub-delimiters (RFC 3986, sections 2.2 and 2.3)
abbrev pub is_plain : ℕ → Bool
is_plain octet = is_ascii_alphanumeric octet || is_one_of (codes "-._~!$&'()*+,;=") octet

-- two hexadecimal digits stand first
abbrev pub begins_with_digits : List ℕ → Bool
begins_with_digits [] = false
begins_with_digits (first ∷ []) = false
begins_with_digits (first ∷ second ∷ text) = is_ascii_hexdigit first && is_ascii_hexdigit second

-- The octet may stand before this text: a `%` before two hexadecimal digits (RFC 3986, section
-- 2.1), else a plain octet or one of `others`.
abbrev pub may_stand : List ℕ → ℕ → List ℕ → Bool
may_stand others octet behind =
    if octet == percent_sign then begins_with_digits behind else is_plain octet || is_one_of others octet

-- each octet of the text may stand where it does
unfoldable pub is_written : List ℕ → List ℕ → Bool
is_written others [] = true
is_written others (octet ∷ behind) = may_stand others octet behind && is_written others behind

-- `.`
abbrev pub full_stop : ℕ
full_stop = 46

-- an octet of an IPv6 address: a hexadecimal digit, a colon, or a dot of the IPv4 address at its end
abbrev pub is_of_ipv6 : ℕ → Bool
is_of_ipv6 octet = is_ascii_hexdigit octet || (octet == colon) || (octet == full_stop)

-- a colon stands in the text
abbrev pub has_colon : List ℕ → Bool
has_colon text = list_any (λ octet. octet == colon) text

-- a colon stands in the text, and another one behind the first
abbrev pub has_two_colons : List ℕ → Bool
has_two_colons text = nat_lt (index_of colon text) (length text) && has_colon (drop (index_of colon text + 1) text)

-- The octets of an IPv6 address, two colons at least among them (RFC 3986, section 3.2.2:
-- IPv6address). Its groups are not looked at.
abbrev pub is_ipv6 : List ℕ → Bool
is_ipv6 text = has_two_colons text && list_all is_of_ipv6 text

-- an octet behind the version of a later kind of address
abbrev pub is_of_later : ℕ → Bool
is_of_later octet = is_plain octet || (octet == colon)

-- an address of a later kind, whose first full stop is at `dot`: `v`, the version in hexadecimal
-- digits, the full stop, and plain octets or colons (RFC 3986, section 3.2.2: IPvFuture)
abbrev pub is_later_at : ℕ → List ℕ → Bool
is_later_at dot text = nat_le 2 dot && nat_le (dot + 2) (length text) && is_one_of (codes "vV") (slice_index text 0)
    && list_all is_ascii_hexdigit (slice_range text 1 dot) && list_all is_of_later (drop (dot + 1) text)

-- an address of a later kind
abbrev pub is_later : List ℕ → Bool
is_later text = is_later_at (index_of full_stop text) text

-- an address in brackets (RFC 3986, section 3.2.2: IP-literal)
abbrev pub is_address : List ℕ → Bool
is_address host =
    nat_le 2 (length host) && (slice_index host 0 == left_bracket) && (slice_index host (length host - 1) == right_bracket)
    && (is_ipv6 (slice_range host 1 (length host - 1)) || is_later (slice_range host 1 (length host - 1)))

-- a host: an address in brackets, or a name, which may be empty (RFC 3986, section 3.2.2)
abbrev pub is_host : List ℕ → Bool
is_host host = if slice_index host 0 == left_bracket then is_address host else is_written [] host

-- what may follow a host: nothing, or a colon and digits, which may be none (RFC 3986, section 3.2.3)
abbrev pub may_follow_host : List ℕ → Bool
may_follow_host [] = true
may_follow_host (octet ∷ digits) = (octet == colon) && list_all is_ascii_digit digits

-- an authority without userinfo, the value of a `host` field (RFC 9110, section 7.2)
abbrev pub is_authority : List ℕ → Bool
is_authority value = is_host (host_of value) && may_follow_host (after_host value)

-- the octets of a path and a query that are not plain (RFC 3986, sections 3.3 and 3.4)
abbrev pub path_octets : List ℕ
path_octets = codes ":@/?"

-- the key is that of a URI: its authority, path and query have only octets that may stand there [HTTP 8]
abbrev pub is_uri_key : List ℕ → Bool
is_uri_key key = is_authority (key_authority key) && is_written path_octets (key_path key)
