-- Where a request goes after its peers answered (RFC 2187, section 5). The rule is `choice`, at the
-- end.
use Rattle.std.specs.Prelude.{ℕ, Bool, true, false, not, ◌&&◌, ◌||◌, ◌==◌, nat_le, List, find, Option, Some, None, if◌then◌else◌}
use Rattle.std.specs.List.{list_any, list_all}
use Rattle.values_tables.specs.declared.plain.Peer.{Peer}
use Rattle.values_tables.specs.Roles.{is_sibling, is_parent}
use Rattle.peer_chooser.specs.declared.said.Said.{Said}
use Rattle.peer_chooser.specs.declared.said.Said.TheVariants as said
use Rattle.peer_chooser.specs.declared.said.FirstAnswer.{FirstAnswer}
use Rattle.peer_chooser.specs.declared.said.Source.{Source}
use Rattle.peer_chooser.specs.declared.said.Source.TheVariants as source
use Rattle.peer_chooser.specs.Round.{RoundText, may_ask, has_answered}

-- A copy of this stamp may be new enough for the floor. One whose stamp was not told may be.
abbrev pub reaches : ℕ → Option ℕ → Bool
reaches floor None = true
reaches floor (Some stamp) = nat_le floor stamp

-- The peer has a copy that may be new enough.
abbrev pub is_hit : ℕ → Said → Bool
is_hit floor (said.Hit stamp) = reaches floor stamp
is_hit floor said.Miss = false
is_hit floor said.NoFetch = false

-- The peer has no copy; a parent would fetch one.
abbrev pub is_miss : Said → Bool
is_miss (said.Hit stamp) = false
is_miss said.Miss = true
is_miss said.NoFetch = false

-- The peer may be asked at this floor, and was not tried. [Round 5]
abbrev pub is_open : ℕ → List ℕ → Peer → Bool
is_open floor tried p = may_ask floor p && not (list_any (λ id. id == p.id) tried)

-- A hit that may be followed. [Round 3]
abbrev pub is_good_hit : ℕ → List ℕ → FirstAnswer → Bool
is_good_hit floor tried t = is_open floor tried t.peer && is_hit floor t.said

-- A miss that may be followed: a parent also fetches what it does not hold.
abbrev pub is_parent_miss : ℕ → List ℕ → FirstAnswer → Bool
is_parent_miss floor tried t = is_open floor tried t.peer && (is_parent t.peer.role && is_miss t.said)

-- No answer is waited for: the time is over, or all have answered. [Round 4]
abbrev pub is_over : RoundText → Bool
is_over r = r.expired || list_all (λ p. has_answered r.answers p.id) r.asked

-- A request to this peer. A sibling is asked only for what it holds (RFC 2187, section 2; RFC 9111,
-- section 5.2.1.7). [Round 6]
abbrev pub from : Peer → Source
from p = source.Peer p.id (is_sibling p.role)

-- A parent that answered; without one, the origin.
abbrev pub from_parent : Option FirstAnswer → Source
from_parent (Some t) = from t.peer
from_parent None = source.Origin

-- The peer of a good hit. Without one: wait, or once no answer is waited for, a parent or the
-- origin.
abbrev pub from_hit : RoundText → ℕ → List ℕ → Option FirstAnswer → Source
from_hit r floor tried (Some t) = from t.peer
from_hit r floor tried None =
    if is_over r then from_parent (find (is_parent_miss floor tried) r.answers) else source.Wait

-- The first good hit to arrive; else wait while answers may come; else the first parent's miss to
-- arrive; else the origin. [Round 4]
unfoldable pub choice : RoundText → ℕ → List ℕ → Source
choice r floor tried = from_hit r floor tried (find (is_good_hit floor tried) r.answers)
