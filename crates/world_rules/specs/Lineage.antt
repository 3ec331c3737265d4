-- The invariant of safety, which holds at every place of every run: no stamp is too great, no floor
-- is above what was issued, who acknowledges a number has obeyed it, and a joining member is outside
-- or has the number of its admission as its base. HasLineage, the last definition, is the whole
-- invariant.
use Rattle.std.specs.Prelude.{◌≡◌, ℕ, ◌≤◌, Bool, ◌==◌, ◌&&◌, List, [], length, Some, None, true, false, unwrap_or, ◌⊎◌}
use Rattle.std.specs.List.{AllByRecursion, list_any}
use Rattle.url_key.specs.Key.{IsKey}
use Rattle.htcp_wire.specs.declared.message.Htcp.{Htcp}
use Rattle.http_messages.specs.Answer.{AnswerText}
use Rattle.object_store.specs.declared.copy.WebCopy.{WebCopy}
use Rattle.floor_rules.specs.Floors.{FloorTable, floor, seen}
use Rattle.values_plain.specs.declared.address.Udp.TheVariants as udp
use Rattle.roster.specs.Lookups.{is_member, is_founding, is_master, member_at}
use Rattle.node_rules.specs.declared.message.Message.{Message}
use Rattle.node_rules.specs.declared.message.Message.TheVariants as message
use Rattle.node_rules.specs.declared.state.Fetch.{Fetch}
use Rattle.node_rules.specs.declared.state.Fetch.TheVariants.{Nowhere, AtPeer, AtOrigin}
use Rattle.node_rules.specs.declared.state.Pending.{Pending}
use Rattle.node_rules.specs.declared.state.NodeState.{NodeState}
use Rattle.node_rules.specs.Messages.{protocol_of}
use Rattle.node_rules.specs.Arrivals.{is_gateway_fault}
use Rattle.node_rules.specs.Effect.{acknowledged}
use Rattle.node_rules.specs.Good.{AllAbove}
use Rattle.purge_rules.specs.declared.purges.Purge.{Purge}
use Rattle.purge_rules.specs.declared.purges.Admission.{Admission}
use Rattle.purge_rules.specs.Members.{is_among}
use Rattle.purge_rules.specs.Needed.{nodes_of, needs}
use Rattle.purge_rules.specs.Purges.{marks_at}
use Rattle.purge_rules.specs.Clear.{clear, base_clear}
use Rattle.values_tables.specs.declared.plain.Tables.{Tables}
use Rattle.world_rules.specs.World.{MemberState, Datagram, PeerAnswer, World, node_at}
use Rattle.world_rules.specs.Run.{Step, IsItem, Given, OfPurge, OfAdmission, numbers, issued, IsReportedAt}

-- a stamp is at most the count of the numbers that were given before the mark
abbrev pub IsStamped : List Step → ℕ → ℕ → Type 0
IsStamped past stamp mark = stamp ≤ issued past mark

-- the same for a copy
abbrev pub IsStampedCopy : List Step → WebCopy ℕ → Type 0
IsStampedCopy past c = IsStamped past c.stamp c.tag

-- the same for an origin read; other fetches have no stamp
abbrev pub IsStampedFetch : List Step → Fetch ℕ → Type 0
IsStampedFetch past (AtOrigin stamp asked mark) = IsStamped past stamp mark
IsStampedFetch past (AtPeer peer asked) = Unit {0}
IsStampedFetch past Nowhere = Unit {0}

-- the same for what a pending request fetches
abbrev pub IsStampedRead : List Step → Pending ℕ → Type 0
IsStampedRead past p = IsStampedFetch past p.fetch

-- a response between members is a status 502, 503 or 504, which no node uses, or has such a stamp
abbrev pub IsStampedAnswer : List Step → AnswerText → ℕ → Type 0
IsStampedAnswer past answer mark = (is_gateway_fault answer.status ≡ true)
    ⊎ IsStamped past (unwrap_or answer.stamp 0) mark

-- the same for a response that was sent
abbrev pub IsSentAnswer : List Step → PeerAnswer → Type 0
IsSentAnswer past a = IsStampedAnswer past a.answer a.mark

-- Who obeys a number

-- these floors obey this number: of a purge the floor of its key is at least the number, of an
-- admission the base
abbrev pub HasReached : FloorTable → ℕ → Given → Type 0
HasReached floors number (OfPurge key) = number ≤ floor floors key
HasReached floors number (OfAdmission id) = number ≤ floors.base

-- the number was given, and the node's floors obey it
abbrev pub HasObeyed : List Step → NodeState ℕ → ℕ → Type 0
HasObeyed past s number = (given : Given) × IsItem (numbers past) number given × HasReached s.floors number given

-- each member that the number needs has obeyed it
abbrev pub AllHaveObeyed : Tables → List Step → World → ℕ → Type 0
AllHaveObeyed roster past w number =
    (id : ℕ) → is_member roster id ≡ true → needs (nodes_of roster) w.master.admissions number id ≡ true →
    HasObeyed past (node_at w.states id) number

-- What the master sends

-- the CLR of a number
abbrev pub clear_of : ℕ → Given → Htcp
clear_of number (OfPurge key) = clear number key
clear_of number (OfAdmission id) = base_clear number

-- a purge is of the key of a URL
abbrev pub IsOfUrl : Given → Type 0
IsOfUrl (OfPurge key) = IsKey key
IsOfUrl (OfAdmission id) = Unit {0}

-- the message is the CLR of a number that was given
pub record IsClear (past : List Step) (m : Message) : Type 0 where
  pub number : ℕ
  pub given : Given
  pub is_clear : m ≡ message.Htcp (clear_of number given)
  pub item : IsItem (numbers past) number given
  pub small : number ≤ 4294967295
  pub of_url : IsOfUrl given

-- the message is the CLR of a number that was given, and the number needs the member
pub record IsClearFor (roster : Tables) (past : List Step) (admissions : List Admission) (id : ℕ) (m : Message) :
    Type 0 where
  pub clear : IsClear past m
  pub needed : needs (nodes_of roster) admissions clear.number id ≡ true

-- what was sent from the master's address to a member's is the CLR of a number that was given, and
-- the number needs the member
abbrev pub IsMastersRightly : Tables → List Step → List Admission → Datagram → Type 0
IsMastersRightly roster past admissions d =
    is_master roster d.sender ≡ true → (id : ℕ) → member_at roster d.receiver (protocol_of d.message) ≡ Some id →
    IsClearFor roster past admissions id d.message

-- if the datagram acknowledges a number to the master, the member that sent it has obeyed the number
abbrev pub IsObeyed : Tables → List Step → List MemberState → Datagram → Type 0
IsObeyed roster past states d =
    is_master roster d.receiver ≡ true → (number : ℕ) → acknowledged d.message ≡ Some number →
    (id : ℕ) → member_at roster d.sender udp.Htcp ≡ Some id → HasObeyed past (node_at states id) number

-- Joining members

-- the node is outside: its base is 0, it has no copies, and nothing is pending
pub record IsOutside (s : NodeState ℕ) : Type 0 where
  pub base : s.floors.base ≡ 0
  pub copies : s.closed ≡ false → s.copies ≡ []
  pub pending : s.pending ≡ []

-- The node was admitted under a number: its base is at least that number, and so is the stamp of
-- each copy that it has.
pub record IsAdmitted (past : List Step) (id : ℕ) (s : NodeState ℕ) : Type 0 where
  pub number : ℕ
  pub item : IsItem (numbers past) number (OfAdmission id)
  pub base : number ≤ s.floors.base
  pub copies : s.closed ≡ false → AllByRecursion (λ c. number ≤ c.stamp) s.copies

-- What holds of the nodes and of the master

-- what holds of each node
pub record NodeHasLineage (roster : Tables) (past : List Step) (id : ℕ) (s : NodeState ℕ) : Type 0 where
  -- no floor is above what was issued
  pub seen_issued : seen s.floors ≤ length (numbers past)
  pub copies : s.closed ≡ false → AllByRecursion (IsStampedCopy past) s.copies
  pub reads : AllByRecursion (IsStampedRead past) s.pending
  -- no copy is below the floor of its key
  pub above : s.closed ≡ false → AllAbove s
  -- a member that is not founding is outside, or was admitted
  pub joins : is_founding roster id ≡ false → IsOutside s ⊎ IsAdmitted past id s

-- a pending purge has the key of its number, and the members that are marked as having acknowledged
-- it have obeyed it
pub record PurgeHasLineage (past : List Step) (states : List MemberState) (p : Purge) : Type 0 where
  pub item : IsItem (numbers past) p.number (OfPurge p.key)
  pub is_key : IsKey p.key
  pub marked : (id : ℕ) → is_among id p.marked ≡ true → HasObeyed past (node_at states id) p.number

-- an admission has its number
abbrev pub AdmissionHasLineage : List Step → Admission → Type 0
AdmissionHasLineage past a = IsItem (numbers past) a.number (OfAdmission a.member)

-- one of these admissions is of this number and this member
abbrev pub is_listed : List Admission → ℕ → ℕ → Bool
is_listed admissions number id = list_any (λ a. (a.number == number) && (a.member == id)) admissions

-- the invariant: what holds of the world after these steps
pub record HasLineage (roster : Tables) (past : List Step) (w : World) : Type 0 where
  pub last : w.master.last ≡ length (numbers past)
  pub small : w.master.last ≤ 4294967295
  pub nodes : (id : ℕ) → NodeHasLineage roster past id (node_at w.states id)
  pub masters : AllByRecursion (IsMastersRightly roster past w.master.admissions) w.datagrams
  pub obeyed : AllByRecursion (IsObeyed roster past w.states) w.datagrams
  pub answers : AllByRecursion (IsSentAnswer past) w.answers
  pub pending : AllByRecursion (PurgeHasLineage past w.states) w.master.pending
  pub admissions : AllByRecursion (AdmissionHasLineage past) w.master.admissions
  pub listed : (number id : ℕ) → IsItem (numbers past) number (OfAdmission id) →
      is_listed w.master.admissions number id ≡ true
  pub done : (number : ℕ) → 1 ≤ number → number ≤ w.master.last → marks_at w.master number ≡ None →
      AllHaveObeyed roster past w number
  pub reported : (place number : ℕ) → IsReportedAt past place number →
      (number ≤ w.master.last) × AllHaveObeyed roster past w number
