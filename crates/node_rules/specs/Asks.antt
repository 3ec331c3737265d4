-- A client's or a member's request arrives. The rule is `ask_comes`, at the end.
use Rattle.std.specs.Prelude.{ℕ, zero, suc, ◌+◌, ◌≤◌, Bool, true, false, ◌||◌, nat_le, nat_lt, List, [], ◌∷◌, length, Option, Some, None, option_map}
use Rattle.std.specs.Prelude.{if◌then◌else◌}
use Rattle.std.specs.List.{filter_map, list_any}
use Rattle.http_messages.specs.declared.ask.Ask.{Ask}
use Rattle.object_store.specs.declared.copy.WebCopy.{WebCopy}
use Rattle.object_store.specs.Listed.{to_front}
use Rattle.floor_rules.specs.Floors.{floor, seen}
use Rattle.values_tables.specs.declared.plain.Peer.{Peer}
use Rattle.values_tables.specs.declared.plain.Tables.{Tables}
use Rattle.roster.specs.Lookups.{peers_of, names_sibling, address_by}
use Rattle.peer_chooser.specs.Round.{RoundText, started}
use Rattle.node_rules.specs.declared.message.Outgoing.{Outgoing}
use Rattle.node_rules.specs.declared.state.Fetch.TheVariants.{Nowhere, AtOrigin}
use Rattle.node_rules.specs.declared.state.Pending.{Pending}
use Rattle.node_rules.specs.declared.state.NodeState.{NodeState}
use Rattle.node_rules.specs.declared.reply.Served.TheVariants.{Copy, Status}
use Rattle.node_rules.specs.declared.reply.Begin.TheVariants as begin
use Rattle.node_rules.specs.declared.reply.StepFault.TheVariants.{Busy}
use Rattle.node_rules.specs.Messages.{to, query}
use Rattle.node_rules.specs.Known.{cache_of, has_origin}
use Rattle.node_rules.specs.State.{Setting, Stepped, replies, refuses, beginning, serving, is_outside, with_copies, is_of_block, adding, good_copy}
use Rattle.node_rules.specs.State.{served_age, round_serial, fetch_serial}
use Rattle.node_rules.specs.Fetching.{fetching, origin_ask}

-- The entry of the member that sent the request names this node a sibling.
abbrev pub is_siblings_ask : Setting → Option ℕ → Bool
is_siblings_ask g None = false
is_siblings_ask g (Some asker) = names_sibling g.roster asker g.id

-- A request that is answered from the store alone: it bears `only-if-cached` (RFC 9111, section
-- 5.2.1.7), or a sibling sent it (RFC 2187, section 2). [Ask 2]
abbrev pub is_cached_only : Setting → Option ℕ → Ask → Bool
is_cached_only g asker ask = ask.only_if_cached || is_siblings_ask g asker

-- The most requests that are pending at a node.
abbrev pub most_pending : ℕ
most_pending = 1024

-- The last block of serials: 32 times it, and 31 more, is the greatest number of 32 bits.
abbrev pub last_block : ℕ
last_block = 134217727

-- A block is used. Block 0 is not.
pub record IsBlock (block : ℕ) : Type 0 where
  pub first : 1 ≤ block
  pub last : block ≤ last_block

-- The block after this one. Blocks go round: after the last one comes block 1. [Node 2]
abbrev pub block_after : ℕ → ℕ
block_after block = if nat_lt block last_block then block + 1 else 1

-- A pending request has this block.
abbrev pub is_taken : {X : Type 0} → List (Pending X) → ℕ → Bool
is_taken asks block = list_any (is_of_block block) asks

-- The first of so many blocks, going round from this one, that no pending request has.
unfoldable pub first_free : {X : Type 0} → List (Pending X) → ℕ → ℕ → Option ℕ
first_free asks zero block = None
first_free asks (suc tries) block =
    if is_taken asks block then first_free asks tries (block_after block) else Some block

-- The block for one request more beside these, going round from this one: none if `most_pending`
-- requests are pending. [Ask 3]
abbrev pub free_from : {X : Type 0} → List (Pending X) → ℕ → Option ℕ
free_from asks block = if nat_le most_pending (length asks) then None else first_free asks most_pending block

-- The block for a new request.
abbrev pub free_block : {X : Type 0} → NodeState X → Option ℕ
free_block s = free_from s.pending s.next

-- A new request waits. Its block is taken, and the next one is looked for behind it. [Ask 4]
abbrev pub taking : {X : Type 0} → NodeState X → Pending X → NodeState X
taking s p = adding (record s { next = block_after p.block }) p

-- A new request has ended at once. Its block is free again, and the next one is looked for behind it. [Ask 4]
abbrev pub passing : {X : Type 0} → NodeState X → ℕ → NodeState X
passing s block = record s { next = block_after block }

-- A new pending request, for which nothing has begun.
abbrev pub new_ask : {X : Type 0} → ℕ → Option ℕ → Ask → Option RoundText → Pending X
new_ask block asker ask round =
    record {
      block = block;
      asker = asker;
      ask = ask;
      round = round;
      tried = [];
      fetches = 0;
      reads = 0;
      fetch =
          Nowhere;
    }

-- The query to one peer, if the roster has the peer.
abbrev pub question_to : Tables → ℕ → List ℕ → Peer → Option Outgoing
question_to roster serial key p = option_map (λ c. to (address_by p.by c) (query p.by serial key))
    (cache_of roster p.id)

-- A round begins: the peers are queried in the roster's order. [Ask 5]
unfoldable pub begin_round : {X : Type 0} → Setting → NodeState X → Option ℕ → Ask → ℕ → RoundText → Stepped X
begin_round g s asker ask block round =
    let p = new_ask block asker ask (Some round) in
    replies (taking s p)
    record {
      serve = None;
      send = filter_map (question_to g.roster (round_serial p) ask.key) round.asked;
      begin =
          Some (begin.Round (round_serial p));
    }

-- An origin read begins at once. If the roster has no such origin, 502 is served, and the request has
-- ended. [Ask 4, Fetch 2]
unfoldable pub begin_with_read : {X : Type 0} → Setting → NodeState X → Option ℕ → Ask → ℕ → ℕ → X → Stepped X
begin_with_read g s asker ask block now mark =
    let q = fetching (new_ask block asker ask None) 1 (AtOrigin (seen s.floors) now mark) in
    if has_origin g.roster ask.key
    then replies (taking s q) (beginning (begin.Read (fetch_serial q) (origin_ask ask)))
    else replies (passing s block) (serving None asker (Status 502))

-- A round begins. If nobody is to be queried, the origin is read instead. [Ask 4]
unfoldable pub ask_around : {X : Type 0} → Setting → NodeState X → Option ℕ → Ask → ℕ → ℕ → X → RoundText → List Peer →
    Stepped X
ask_around g s asker ask block now mark round [] = begin_with_read g s asker ask block now mark
ask_around g s asker ask block now mark round (peer ∷ peers) = begin_round g s asker ask block round

-- Nobody is asked for a stored response if the request bears `no-cache`.
abbrev pub peers_to_ask : Setting → Ask → List Peer
peers_to_ask g ask = if ask.no_cache then [] else peers_of g.roster g.id

-- A round or an origin read begins for a new request, with this block. [Ask 4]
unfoldable pub begin_ask : {X : Type 0} → Setting → NodeState X → Option ℕ → Ask → ℕ → X → ℕ → Stepped X
begin_ask g s asker ask now mark block =
    let round = started (peers_to_ask g ask) (floor s.floors ask.key) in
    ask_around g s asker ask block now mark round round.asked

-- The same if there is a block for it, else `Busy`. [Ask 3]
unfoldable pub begin_if_free : {X : Type 0} → Setting → NodeState X → Option ℕ → Ask → ℕ → X → Option ℕ → Stepped X
begin_if_free g s asker ask now mark None = refuses s Busy
begin_if_free g s asker ask now mark (Some block) = begin_ask g s asker ask now mark block

-- No copy may be served: 504 for a request to the store alone, else `Busy`, else a fetch begins. [Ask 2]
unfoldable pub not_held : {X : Type 0} → Setting → NodeState X → Option ℕ → Ask → ℕ → X → Stepped X
not_held g s asker ask now mark =
    if is_cached_only g asker ask
    then replies s (serving None asker (Status 504))
    else begin_if_free g s asker ask now mark (free_block s)

-- The copy is served, if there is one, and becomes the most recent. [Ask 1]
unfoldable pub by_copy : {X : Type 0} → Setting → NodeState X → Option ℕ → Ask → ℕ → X → Option (WebCopy X) → Stepped X
by_copy g s asker ask now mark (Some c) =
    replies (with_copies s (to_front ask.key s.copies)) (serving None asker (Copy c (served_age c now)))
by_copy g s asker ask now mark None = not_held g s asker ask now mark

-- The copy that serves a request; none if it bears `no-cache` (RFC 9111, section 5.2.1.4). [Ask 1]
abbrev pub copy_for : {X : Type 0} → NodeState X → Ask → ℕ → Option (WebCopy X)
copy_for s ask now = if ask.no_cache then None else good_copy s ask.key now

-- At an outside node or at another. An outside one serves 503 (RFC 9110, section 15.6.4). [Ask 6]
unfoldable pub ask_comes_to : {X : Type 0} → Setting → NodeState X → Option ℕ → Ask → ℕ → X → Bool → Stepped X
ask_comes_to g s asker ask now mark true = replies s (serving None asker (Status 503))
ask_comes_to g s asker ask now mark false = by_copy g s asker ask now mark (copy_for s ask now)

-- An outside node serves 503. Else a held copy is served. Else a request to the store alone gets 504
-- (RFC 9111, section 5.2.1.7). Else the node is `Busy`, or a round or an origin read begins.
unfoldable pub ask_comes : {X : Type 0} → Setting → NodeState X → Option ℕ → Ask → ℕ → X → Stepped X
ask_comes g s asker ask now mark = ask_comes_to g s asker ask now mark (is_outside g s)
