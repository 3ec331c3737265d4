-- What an iterator over the members of a value has still to give.
use Rattle.std.specs.Prelude.{ℕ, List, [], Option, Some, None, option_copied}
use Rattle.http_lists.specs.declared.members.Members.{Members}
use Rattle.http_lists.specs.Members.{members}

-- the members of the text that is left; none once the last was given
abbrev pub members_in : Option (List ℕ) → List (List ℕ)
members_in None = []
members_in (Some text) = members text

-- what a contract sees of an iterator
abbrev pub members_left : Members → List (List ℕ)
members_left it = members_in (option_copied it.text)
