-- The texts that are seen to be keys without being cut: `http://`, a host in lower case without a
-- port, and a path with or without a query. Not every key is plain: none with a port or an address
-- in brackets is.
use Rattle.std.specs.Prelude.{ℕ, Bool, ◌&&◌, ◌||◌, ◌==◌, nat_lt, nat_le, bytes_eq, List, length, take, drop, slice_index}
use Rattle.std.specs.List.{list_all, prefix_len}
use Rattle.std.specs.Int.{is_in_range}
use Rattle.http_uri.specs.ByteClasses.{slash}
use Rattle.url_key.specs.Text.{http_prefix}
use Rattle.url_key.specs.Key.{longest_key}

-- `-`, `.`, a decimal digit or a lower-case letter
abbrev pub is_host_byte : ℕ → Bool
is_host_byte b = is_in_range 45 46 b || is_in_range 48 57 b || is_in_range 97 122 b

-- a visible character of ASCII other than `"`, `#`, `<`, `>` and the backtick: `?`, and what may
-- stand both in a path and in a query
abbrev pub is_path_byte : ℕ → Bool
is_path_byte b = (b == 33) || is_in_range 36 59 b || (b == 61) || is_in_range 63 95 b || is_in_range 97 126 b

-- a `/`, and then only such octets
abbrev pub is_path : List ℕ → Bool
is_path text = (slice_index text 0 == slash) && list_all is_path_byte text

-- one or more octets of a host, and then a path
abbrev pub is_host_and_path : List ℕ → Bool
is_host_and_path text =
    let host = prefix_len is_host_byte text in
    nat_lt 0 host && is_path (drop host text)

-- the text is a plain key: `http://`, a host and a path, of at most 1,024 octets
abbrev pub plain_key : List ℕ → Bool
plain_key text =
    nat_le (length text) longest_key && bytes_eq (take (length http_prefix) text) http_prefix
    && is_host_and_path (drop (length http_prefix) text)
