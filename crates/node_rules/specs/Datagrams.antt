-- A datagram arrives: queries, answers to a round, purges. The rule is `datagram`, at the end.
use Rattle.std.specs.Prelude.{ℕ, Bool, true, false, not, ◌&&◌, ◌||◌, ◌==◌, max, nat_le, nat_lt, bytes_eq, List, [], ◌∷◌, find, is_some, Option, Some, None}
use Rattle.std.specs.Prelude.{Result, Ok, Err, codes, if◌then◌else◌}
use Rattle.std.specs.List.{list_any}
use Rattle.icp_wire.specs.declared.message.Icp.{Icp}
use Rattle.icp_wire.specs.declared.message.IcpOp.{IcpOp}
use Rattle.icp_wire.specs.declared.message.IcpOp.TheVariants as op
use Rattle.htcp_wire.specs.declared.message.Specifier.{Specifier}
use Rattle.htcp_wire.specs.declared.message.Content.{Content}
use Rattle.htcp_wire.specs.declared.message.Content.TheVariants as content
use Rattle.htcp_wire.specs.declared.fault.HtcpFault.{HtcpFault}
use Rattle.htcp_wire.specs.declared.numbers.HeaderKind.TheVariants.{PurgeNumber, PurgeStamp, PurgeBase}
use Rattle.htcp_wire.specs.Grammar.{tst, clr, not_allowed, not_implemented, was_dropped, was_not_held}
use Rattle.htcp_wire.specs.Numbers.{number_in_text}
use Rattle.object_store.specs.declared.copy.WebCopy.{WebCopy}
use Rattle.object_store.specs.Listed.{copy_of, without, without_all_below}
use Rattle.object_store.specs.Held.{is_older_than}
use Rattle.floor_rules.specs.Floors.{new_base, raised, with_base}
use Rattle.values_tables.specs.Ranges.{is_foreign_id}
use Rattle.values_plain.specs.declared.address.Address.{Address}
use Rattle.values_plain.specs.declared.address.Udp.{Udp}
use Rattle.values_plain.specs.declared.address.Udp.TheVariants as udp
use Rattle.values_tables.specs.declared.plain.Peer.{Peer}
use Rattle.roster.specs.Lookups.{is_master}
use Rattle.peer_chooser.specs.declared.said.Said.{Said}
use Rattle.peer_chooser.specs.declared.said.Said.TheVariants as said
use Rattle.peer_chooser.specs.Round.{RoundText, has_answered, answered}
use Rattle.node_rules.specs.declared.message.Message.{Message}
use Rattle.node_rules.specs.declared.message.Message.TheVariants as message
use Rattle.node_rules.specs.declared.raising.Raise.{Raise}
use Rattle.node_rules.specs.declared.raising.Raise.TheVariants.{Floor, Base}
use Rattle.node_rules.specs.declared.state.Pending.{Pending}
use Rattle.node_rules.specs.declared.state.NodeState.{NodeState}
use Rattle.node_rules.specs.Messages.{icp, htcp, to, stamp_line, overall}
use Rattle.node_rules.specs.Known.{is_peer_at, is_known}
use Rattle.node_rules.specs.State.{Setting, Stepped, replies, quiet, sending, is_outside, with_copies, good_copy, round_serial}
use Rattle.node_rules.specs.Raises.{left_by}
use Rattle.node_rules.specs.Arrivals.{with_round, round_moves}

-- This message goes back to the sender.
abbrev pub sends_back : {X : Type 0} → NodeState X → Address → Message → Stepped X
sends_back s from m = replies s (sending (to from m ∷ []))

-- The same, only if a response is desired (RFC 2756, "RD"). [Query 5]
abbrev pub if_desired : {X : Type 0} → NodeState X → Bool → Address → Message → Stepped X
if_desired s true from m = sends_back s from m
if_desired s false from m = replies s quiet

-- Queries: an ICP QUERY (RFC 2186, "ICP_OP_QUERY"), an HTCP TST (RFC 2756, "TST")

-- The sender's queries are answered: the node knows it, and is not outside. [Query 1, Query 2]
abbrev pub answers_to : {X : Type 0} → Setting → NodeState X → Udp → Address → Bool
answers_to g s by from = not (is_outside g s) && is_known g.roster g.id by from

-- HIT if there is a copy, MISS if there is none.
abbrev pub hit_or_miss : {X : Type 0} → Option (WebCopy X) → IcpOp
hit_or_miss None = op.Miss
hit_or_miss (Some c) = op.Hit

-- DENIED if the sender gets no answer, ERR if the URL has no key, else HIT or MISS by whether a copy may
-- be served. [Query 1]
abbrev pub icp_answer : {X : Type 0} → Bool → NodeState X → ℕ → Option (List ℕ) → IcpOp
icp_answer false s now key = op.Denied
icp_answer true s now None = op.Error
icp_answer true s now (Some key) = hit_or_miss (good_copy s key now)

-- A QUERY arrives. The response repeats number and URL, and the store keeps its order. [Query 1]
unfoldable pub icp_query : {X : Type 0} → Setting → NodeState X → Address → Icp → ℕ → Stepped X
icp_query g s from m now =
    sends_back s from (icp (icp_answer (answers_to g s udp.Icp from) s now (g.key_of m.url)) m.number m.url)

-- The TST response that tells a copy's stamp.
abbrev pub tst_hit : ℕ → Content
tst_hit stamp = content.TstHit record { response_headers = []; entity_headers = []; cache_headers = stamp_line stamp }

-- The TST response for this copy, or for none. [Query 3]
abbrev pub tst_answer : {X : Type 0} → Option (WebCopy X) → Content
tst_answer None = content.TstMiss []
tst_answer (Some c) = tst_hit c.stamp

-- The copy of this key that may be served, if the key is there.
abbrev pub copy_at : {X : Type 0} → NodeState X → ℕ → Option (List ℕ) → Option (WebCopy X)
copy_at s now None = None
copy_at s now (Some key) = good_copy s key now

-- The copy that a SPECIFIER means, if it may be served. Only GET means one. [Query 3]
abbrev pub copy_meant : {X : Type 0} → Setting → NodeState X → Specifier → ℕ → Option (WebCopy X)
copy_meant g s spec now = if bytes_eq spec.method (codes "GET") then copy_at s now (g.key_of spec.uri) else None

-- A TST arrives. A sender whose queries are not answered gets the overall code 5, any other whether a copy
-- may be served. [Query 2]
unfoldable pub htcp_tst : {X : Type 0} → Setting → NodeState X → Address → ℕ → Bool → Specifier → ℕ → Stepped X
htcp_tst g s from trans desired spec now =
    if_desired s desired from
    (if answers_to g s udp.Htcp from then htcp trans (tst_answer (copy_meant g s spec now))
    else overall trans tst not_allowed)

-- Answers of peers to a round

-- The peer of a round that is queried by this protocol at this address.
abbrev pub peer_at : Setting → Udp → Address → Option RoundText → Option Peer
peer_at g by from None = None
peer_at g by from (Some r) = find (is_peer_at g.roster by from) r.asked

-- A peer's first answer moves its round. Its later answers change nothing.
unfoldable pub hears : {X : Type 0} → Setting → NodeState X → Pending X → Peer → Said → ℕ → X → Option RoundText →
    Stepped X
hears g s p peer said now mark None = replies s quiet
hears g s p peer said now mark (Some r) =
    if has_answered r.answers peer.id
    then replies s quiet
    else round_moves g s (with_round p (answered r peer.id said)) now mark

-- An answer of this peer arrives, if there is one.
unfoldable pub told_by : {X : Type 0} → Setting → NodeState X → Pending X → (Peer → Said) → ℕ → X → Option Peer →
    Stepped X
told_by g s p said now mark None = replies s quiet
told_by g s p said now mark (Some peer) = hears g s p peer (said peer) now mark p.round

-- An answer arrives for this request. It counts if a peer of the request's round sent it. [Reply 6]
unfoldable pub told_to : {X : Type 0} → Setting → NodeState X → Udp → Address → (Peer → Said) → ℕ → X →
    Option (Pending X) → Stepped X
told_to g s by from said now mark None = replies s quiet
told_to g s by from said now mark (Some p) = told_by g s p said now mark (peer_at g by from p.round)

-- This text was read, and its key is this one.
abbrev pub is_key : Option (List ℕ) → List ℕ → Bool
is_key None key = false
is_key (Some read) key = bytes_eq read key

-- What an ICP answer says. The object of a HIT_OBJ is not used. A QUERY is no answer and never
-- comes here. [Reply 2]
abbrev pub icp_said : IcpOp → Said
icp_said op.Hit = said.Hit None
icp_said op.HitObj = said.Hit None
icp_said op.Miss = said.Miss
icp_said op.Query = said.NoFetch
icp_said op.Error = said.NoFetch
icp_said op.MissNoFetch = said.NoFetch
icp_said op.Denied = said.NoFetch

-- An ICP answer arrives. It counts for the round of its request number, if the request there has
-- its key. [Reply 1]
unfoldable pub icp_told : {X : Type 0} → Setting → NodeState X → Address → Icp → ℕ → X → Stepped X
icp_told g s from m now mark =
    told_to g s udp.Icp from (λ p. icp_said m.op) now mark
    (find (λ p. (round_serial p == m.number) && is_key (g.key_of m.url) p.ask.key) s.pending)

-- The stamp that a line tells. A bad line tells none.
abbrev pub stamp_in : Result (Option ℕ) HtcpFault → Option ℕ
stamp_in (Ok stamp) = stamp
stamp_in (Err fault) = None

-- What a TST hit says. Only a member's stamp line is trusted. [Reply 4]
abbrev pub tst_hit_said : List ℕ → Peer → Said
tst_hit_said headers p = said.Hit (if is_foreign_id p.id then None else stamp_in (number_in_text headers PurgeStamp))

-- A TST response arrives. It counts for the round whose serial is its TRANS-ID; it names no URL. [Reply 3]
unfoldable pub htcp_told : {X : Type 0} → Setting → NodeState X → Address → ℕ → (Peer → Said) → ℕ → X → Stepped X
htcp_told g s from trans said now mark =
    told_to g s udp.Htcp from said now mark (find (λ p. round_serial p == trans) s.pending)

-- Purges: an HTCP CLR (RFC 2756, "CLR")

-- The code of a CLR response. 0: a copy was held and is gone. 2: none was held.
abbrev pub clr_code : Bool → ℕ
clr_code true = was_dropped
clr_code false = was_not_held

-- A CLR that is not allowed gets the overall code 5.
abbrev pub clr_refused : {X : Type 0} → NodeState X → Address → ℕ → Bool → Stepped X
clr_refused s from trans desired = if_desired s desired from (overall trans clr not_allowed)

-- A CLR is answered by whether a copy was dropped.
abbrev pub clr_done : {X : Type 0} → NodeState X → Address → ℕ → Bool → Bool → Stepped X
clr_done s from trans desired dropped = if_desired s desired from (htcp trans (content.ClrAnswer (clr_code dropped)))

-- The state after a purge: the key's floor is raised, and no copy below its floor is held. [Purge 2]
abbrev pub purged : {X : Type 0} → NodeState X → List ℕ → ℕ → NodeState X
purged s key n = record s { floors = raised s.floors key n; copies = left_by s.floors key n s.copies }

-- A purge. The floor is raised, older copies go, and the response says whether one of the key went. That
-- the raise is committed first is said where the store is: KeepsStore of node_core. [Purge 2]
unfoldable pub purge : {X : Type 0} → NodeState X → Address → ℕ → Bool → List ℕ → ℕ → Stepped X
purge s from trans desired key n =
    clr_done (purged s key n) from trans desired (is_older_than (max n (new_base s.floors key n)) (copy_of key s.copies))

-- The state after an admission: the base is raised, and no copy below the number is held. [Base 2]
abbrev pub rebased : {X : Type 0} → NodeState X → ℕ → NodeState X
rebased s n = record s { floors = with_base s.floors n; copies = without_all_below n s.copies }

-- A copy with a stamp below the number is held.
abbrev pub holds_older : {X : Type 0} → NodeState X → ℕ → Bool
holds_older s n = list_any (λ c. nat_lt c.stamp n) s.copies

-- An admission. The base is raised, older copies go, and the response says whether one went. [Base 2]
unfoldable pub rebase : {X : Type 0} → NodeState X → Address → ℕ → Bool → ℕ → Stepped X
rebase s from trans desired n = clr_done (rebased s n) from trans desired (holds_older s n)

-- A number is the master's: the master sends it, it is the TRANS-ID, and it is at least 1.
abbrev pub is_masters : Setting → Address → ℕ → ℕ → Bool
is_masters g from trans n = is_master g.roster from && (n == trans) && nat_le 1 n

-- The raise of a good CLR with this number line: the URI has a key, and the number is the master's. [Purge 1]
abbrev pub purge_of : Setting → Address → ℕ → Option (List ℕ) → ℕ → Option Raise
purge_of g from trans None n = None
purge_of g from trans (Some key) n = if is_masters g from trans n then Some (Floor key n) else None

-- The raise of a good CLR with this base line: the number is the master's. The URI is not looked at. [Base 1]
abbrev pub base_of : Setting → Address → ℕ → ℕ → Option Raise
base_of g from trans n = if is_masters g from trans n then Some (Base n) else None

-- The same by the number line: there is none. [Base 1]
abbrev pub base_alone : Setting → Address → ℕ → ℕ → Result (Option ℕ) HtcpFault → Option Raise
base_alone g from trans n (Ok None) = base_of g from trans n
base_alone g from trans n (Ok (Some number)) = None
base_alone g from trans n (Err fault) = None

-- A CLR that raises purges or admits; one that raises nothing is refused.
unfoldable pub raising_clr : {X : Type 0} → NodeState X → Address → ℕ → Bool → Option Raise → Stepped X
raising_clr s from trans desired None = clr_refused s from trans desired
raising_clr s from trans desired (Some (Floor key n)) = purge s from trans desired key n
raising_clr s from trans desired (Some (Base n)) = rebase s from trans desired n

-- A copy of the key is held, whatever its stamp.
abbrev pub held : {X : Type 0} → NodeState X → Option (List ℕ) → Bool
held s None = false
held s (Some key) = is_some (copy_of key s.copies)

-- The state without the key's copy.
abbrev pub dropped : {X : Type 0} → NodeState X → Option (List ℕ) → NodeState X
dropped s None = s
dropped s (Some key) = with_copies s (without key s.copies)

-- A CLR without a number line, from a known sender or the master: the copy goes whatever its stamp,
-- and floors stay. [Purge 5]
unfoldable pub plain_clr : {X : Type 0} → Setting → NodeState X → Address → ℕ → Bool → Option (List ℕ) → Stepped X
plain_clr g s from trans desired key =
    if is_known g.roster g.id udp.Htcp from || is_master g.roster from
    then clr_done (dropped s key) from trans desired (held s key)
    else clr_refused s from trans desired

-- A CLR without a base line, by its number line: without one, with a number, or with a bad line, which is
-- refused. [Purge 4]
unfoldable pub clr_by_line : {X : Type 0} → Setting → NodeState X → Address → ℕ → Bool → Option (List ℕ) →
    Result (Option ℕ) HtcpFault → Stepped X
clr_by_line g s from trans desired key (Ok None) = plain_clr g s from trans desired key
clr_by_line g s from trans desired key (Ok (Some n)) = raising_clr s from trans desired (purge_of g from trans key n)
clr_by_line g s from trans desired key (Err fault) = clr_refused s from trans desired

-- A CLR by its number line and its base line. With a base line, it admits or is refused. [Base 3]
unfoldable pub clr_by_lines : {X : Type 0} → Setting → NodeState X → Address → ℕ → Bool → Option (List ℕ) →
    Result (Option ℕ) HtcpFault → Result (Option ℕ) HtcpFault → Stepped X
clr_by_lines g s from trans desired key number (Ok None) = clr_by_line g s from trans desired key number
clr_by_lines g s from trans desired key number (Ok (Some n)) = raising_clr s from trans desired (base_alone g from trans n number)
clr_by_lines g s from trans desired key number (Err fault) = clr_refused s from trans desired

-- A CLR arrives. [Purge 6]
unfoldable pub htcp_clr : {X : Type 0} → Setting → NodeState X → Address → ℕ → Bool → Specifier → Stepped X
htcp_clr g s from trans desired spec =
    clr_by_lines g s from trans desired (g.key_of spec.uri) (number_in_text spec.request_headers PurgeNumber)
    (number_in_text spec.request_headers PurgeBase)

-- All messages

-- An ICP message arrives: a QUERY, or an answer to a round.
unfoldable pub icp_comes : {X : Type 0} → Setting → NodeState X → Address → Icp → ℕ → X → IcpOp → Stepped X
icp_comes g s from m now mark op.Query = icp_query g s from m now
icp_comes g s from m now mark _ = icp_told g s from m now mark

-- A response of another kind arrives. If its opcode is TST, the peer serves nothing. [Reply 5]
unfoldable pub tst_refused : {X : Type 0} → Setting → NodeState X → Address → ℕ → ℕ → ℕ → X → Stepped X
tst_refused g s from trans opcode now mark =
    if opcode == tst then htcp_told g s from trans (λ p. said.NoFetch) now mark else replies s quiet

-- An HTCP message arrives. [Query 4, Reply 5]
unfoldable pub htcp_comes : {X : Type 0} → Setting → NodeState X → Address → ℕ → ℕ → X → Content → Stepped X
htcp_comes g s from trans now mark (content.NopAsk desired) = if_desired s desired from (htcp trans content.NopAnswer)
htcp_comes g s from trans now mark content.NopAnswer = replies s quiet
htcp_comes g s from trans now mark (content.TstAsk desired spec) = htcp_tst g s from trans desired spec now
htcp_comes g s from trans now mark (content.TstHit detail) = htcp_told g s from trans
    (tst_hit_said detail.cache_headers) now mark
htcp_comes g s from trans now mark (content.TstMiss cache) = htcp_told g s from trans (λ p. said.Miss) now mark
htcp_comes g s from trans now mark (content.ClrAsk desired reason spec) = htcp_clr g s from trans desired spec
htcp_comes g s from trans now mark (content.ClrAnswer code) = replies s quiet
htcp_comes g s from trans now mark (content.Other opcode desired) = if_desired s desired from (overall trans opcode not_implemented)
htcp_comes g s from trans now mark (content.Overall opcode code) = tst_refused g s from trans opcode now mark
htcp_comes g s from trans now mark (content.OtherAnswer opcode code) = tst_refused g s from trans opcode now mark

-- A datagram arrives.
unfoldable pub datagram : {X : Type 0} → Setting → NodeState X → Address → ℕ → X → Message → Stepped X
datagram g s from now mark (message.Icp m) = icp_comes g s from m now mark m.op
datagram g s from now mark (message.Htcp m) = htcp_comes g s from m.trans now mark m.content
