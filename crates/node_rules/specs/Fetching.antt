-- How a pending request goes on: to a peer, to the origin, or to its end. The request p is pending
-- in the state s. The rule is `go_on`, at the end.
use Rattle.std.specs.Prelude.{ℕ, ◌+◌, Bool, false, nat_le, List, Option, Some, None, if◌then◌else◌}
use Rattle.http_messages.specs.declared.ask.Ask.{Ask}
use Rattle.floor_rules.specs.Floors.{floor, seen}
use Rattle.values_tables.specs.Ranges.{is_foreign_id}
use Rattle.peer_chooser.specs.declared.said.Source.{Source}
use Rattle.peer_chooser.specs.declared.said.Source.TheVariants as source
use Rattle.peer_chooser.specs.Round.{RoundText}
use Rattle.peer_chooser.specs.Choice.{choice}
use Rattle.node_rules.specs.declared.state.Fetch.{Fetch}
use Rattle.node_rules.specs.declared.state.Fetch.TheVariants.{AtPeer, AtOrigin}
use Rattle.node_rules.specs.declared.state.Pending.{Pending}
use Rattle.node_rules.specs.declared.state.NodeState.{NodeState}
use Rattle.node_rules.specs.declared.reply.Served.TheVariants.{Status}
use Rattle.node_rules.specs.declared.reply.Begin.TheVariants as begin
use Rattle.node_rules.specs.Known.{has_origin}
use Rattle.node_rules.specs.State.{Setting, Stepped, replies, quiet, beginning, serving, changing, ending, fetch_serial}

-- The request with one fetch more begun, so one serial more taken.
abbrev pub fetching : {X : Type 0} → Pending X → ℕ → Fetch X → Pending X
fetching p reads fetch = record p { fetches = p.fetches + 1; reads = reads; fetch = fetch }

-- A member is told which member sends the request; a foreign cache is not.
abbrev pub own_id : ℕ → ℕ → Option ℕ
own_id id peer = if is_foreign_id peer then None else Some id

-- The request that a peer is sent. [Fetch 4]
abbrev pub peer_ask : List ℕ → Bool → Option ℕ → Ask
peer_ask key cached member = record { key = key; only_if_cached = cached; no_cache = false; member = member }

-- The request that an origin is sent. It bears `no-cache` if the pending request does (RFC 9111,
-- section 5.2.1.4). [Fetch 3]
abbrev pub origin_ask : Ask → Ask
origin_ask ask = record ask { only_if_cached = false; member = None }

-- The request goes to a peer, under the next serial of its block.
unfoldable pub ask_peer : {X : Type 0} → Setting → NodeState X → Pending X → ℕ → Bool → ℕ → Stepped X
ask_peer g s p peer cached now =
    let q = fetching p p.reads (AtPeer peer now) in
    replies (changing s q) (beginning (begin.Peer (fetch_serial q) peer (peer_ask p.ask.key cached (own_id g.id peer))))

-- An origin read begins. It bears the greatest number seen so far, and the mark of the step. [Fetch 1]
unfoldable pub begin_read : {X : Type 0} → NodeState X → Pending X → ℕ → X → Stepped X
begin_read s p now mark =
    let q = fetching p (p.reads + 1) (AtOrigin (seen s.floors) now mark) in
    replies (changing s q) (beginning (begin.Read (fetch_serial q) (origin_ask p.ask)))

-- The request ends with a bare status.
abbrev pub give_up : {X : Type 0} → NodeState X → Pending X → Option ℕ → ℕ → Stepped X
give_up s p waiter status = replies (ending s p.block) (serving waiter p.asker (Status status))

-- At most three reads: 503 in place of a fourth. 502 if the roster has no such origin (RFC 9110,
-- sections 15.6.3 and 15.6.4). [Fetch 2]
unfoldable pub read_origin : {X : Type 0} → Setting → NodeState X → Pending X → Option ℕ → ℕ → X → Stepped X
read_origin g s p waiter now mark =
    if nat_le 3 p.reads
    then give_up s p waiter 503
    else (if has_origin g.roster p.ask.key then begin_read s p now mark else give_up s p waiter 502)

-- The request goes to this source; if it is to wait, it keeps what has changed.
unfoldable pub go_to : {X : Type 0} → Setting → NodeState X → Pending X → ℕ → X → Source → Stepped X
go_to g s p now mark source.Wait = replies (changing s p) quiet
go_to g s p now mark (source.Peer peer cached) = ask_peer g s p peer cached now
go_to g s p now mark source.Origin = read_origin g s p (Some p.block) now mark

-- The source that the round chooses. Without a round there is only the origin.
abbrev pub choice_of : Option RoundText → ℕ → List ℕ → Source
choice_of None floor tried = source.Origin
choice_of (Some r) floor tried = choice r floor tried

-- A request that no fetch runs for goes on as its round says, by the floor as it is now. [Answer 6]
unfoldable pub go_on : {X : Type 0} → Setting → NodeState X → Pending X → ℕ → X → Stepped X
go_on g s p now mark = go_to g s p now mark (choice_of p.round (floor s.floors p.ask.key) p.tried)
