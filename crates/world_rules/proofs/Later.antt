-- What the invariant says once goes on to hold, as the run goes on and floors rise: each part is an
-- upper bound by a count that never falls, or a lower bound on a floor or a base that never falls.
use Rattle.std.proofs.Common.{◌≡◌, ℕ, ◌≤◌, List, ◌++◌, length, inl, inr, sym, ◌∙◌, refl, arith}
use Rattle.std.specs.Prelude.{◌⊎◌}
use Rattle.std.specs.List.{AllByRecursion}
use Rattle.node_rules.specs.declared.message.Message.{Message}
use Rattle.node_rules.specs.declared.state.Fetch.{Fetch}
use Rattle.node_rules.specs.declared.state.Fetch.TheVariants.{Nowhere, AtPeer, AtOrigin}
use Rattle.node_rules.specs.declared.state.NodeState.{NodeState}
use Rattle.floor_rules.specs.Floors.{FloorTable, floor}
use Rattle.node_rules.proofs.Pendings.{all_mapped}
use Rattle.purge_rules.specs.declared.purges.Purge.{Purge}
use Rattle.purge_rules.specs.declared.purges.Admission.{Admission}
use Rattle.purge_rules.specs.Needed.{nodes_of, needs}
use Rattle.values_tables.specs.declared.plain.Tables.{Tables}
use Rattle.world_rules.specs.World.{MemberState, Datagram, PeerAnswer, World, node_at, with_node}
use Rattle.world_rules.specs.Run.{Step, IsItem, Given, OfPurge, OfAdmission, numbers, issued}
use Rattle.world_rules.specs.Lineage.{IsStamped, IsStampedCopy, IsStampedFetch, IsStampedRead, IsSentAnswer, HasReached, HasObeyed, IsClearFor}
use Rattle.world_rules.specs.Lineage.{IsMastersRightly, IsObeyed, IsOutside, IsAdmitted, NodeHasLineage, PurgeHasLineage, AdmissionHasLineage, AllHaveObeyed}
use Rattle.world_rules.proofs.Items.{item_within}
use Rattle.world_rules.proofs.Issues.{count_later, issued_later, given_later}
use Rattle.world_rules.proofs.MemberStates.{each_node}

-- the longer list of steps has all numbers of the shorter, and bounds at least as great
pub record Extends (past now : List Step) : Type 0 where
  pub items : (number : ℕ) (given : Given) → IsItem (numbers past) number given → IsItem (numbers now) number given
  pub stamps : (place : ℕ) → issued past place ≤ issued now place
  pub count : length (numbers past) ≤ length (numbers now)

pub extends_itself : (past : List Step) → Extends past past
extends_itself past = record { items = λ number given h. h; stamps = λ place. omega arith; count = omega arith }

pub extends_by : (past more : List Step) → Extends past (past ++ more)
extends_by past more = record { items = given_later past more; stamps = issued_later past more; count = count_later past more }

-- no floor falls, nor does the base
pub record Rises (old new : FloorTable) : Type 0 where
  pub floors : (key : List ℕ) → floor old key ≤ floor new key
  pub base : old.base ≤ new.base

pub rises_itself : (floors : FloorTable) → Rises floors floors
rises_itself floors = record { floors = λ key. omega arith; base = omega arith }

-- no floor and no base of any node falls
abbrev pub Grows : List MemberState → List MemberState → Type 0
Grows old new = (id : ℕ) → Rises (node_at old id).floors (node_at new id).floors

pub grows_itself : (states : List MemberState) → Grows states states
grows_itself states = λ id. rises_itself (node_at states id).floors

pub grows_by : (states : List MemberState) (id : ℕ) (s : NodeState ℕ) → Rises (node_at states id).floors s.floors → Grows states (with_node states id s)
grows_by states id s h = each_node (λ each (now : NodeState ℕ). Rises (node_at states each).floors now.floors) states id s h
    (λ each. rises_itself (node_at states each).floors)

-- numbers up to the last need the same members after these admissions as after those
abbrev pub Agree : Tables → ℕ → List Admission → List Admission → Type 0
Agree h last old new = (number id : ℕ) → number ≤ last → needs (nodes_of h) old number id ≡ needs (nodes_of h) new number id

pub agrees_itself : (h : Tables) (last : ℕ) (admissions : List Admission) → Agree h last admissions admissions
agrees_itself h last admissions = λ number id low. refl

module _ (past now : List Step) (extends : Extends past now) where
  pub stamped_later : (stamp mark : ℕ) → IsStamped past stamp mark → IsStamped now stamp mark
  stamped_later stamp mark h = omega (arith, extends.stamps mark, h)

  fetch_later : (fetch : Fetch ℕ) → IsStampedFetch past fetch → IsStampedFetch now fetch
  fetch_later (AtOrigin stamp asked mark) h = stamped_later stamp mark h
  fetch_later (AtPeer peer asked) h = tt
  fetch_later Nowhere h = tt

  joins_later : (id : ℕ) (s : NodeState ℕ) → IsOutside s ⊎ IsAdmitted past id s → IsOutside s ⊎ IsAdmitted now id s
  joins_later id s h = elim h [
    | inl outside ↦ inl outside
    | inr is ↦ inr record { number = is.number; item = extends.items is.number (OfAdmission id) is.item; base = is.base; copies = is.copies }
  ]

  pub node_later : (h : Tables) (id : ℕ) (s : NodeState ℕ) → NodeHasLineage h past id s → NodeHasLineage h now id s
  node_later h id s has = record {
    seen_issued = omega (arith, extends.count, has.seen_issued);
    copies = λ is_open. all_mapped (IsStampedCopy past) (IsStampedCopy now) (λ c is. stamped_later c.stamp c.tag is) s.copies (has.copies is_open);
    reads = all_mapped (IsStampedRead past) (IsStampedRead now) (λ p is. fetch_later p.fetch is) s.pending has.reads;
    above = has.above;
    joins = λ joining. joins_later id s (has.joins joining);
  }

  pub answers_later : (answers : List PeerAnswer) → AllByRecursion (IsSentAnswer past) answers → AllByRecursion (IsSentAnswer now) answers
  answers_later answers all = all_mapped (IsSentAnswer past) (IsSentAnswer now)
      (λ a h. elim h [ inl bare ↦ inl bare | inr is ↦ inr (stamped_later _ a.mark is) ]) answers all

  pub reached_later : (old new : FloorTable) (number : ℕ) (given : Given) → Rises old new → HasReached old number given → HasReached new number given
  reached_later old new number (OfPurge key) rises h = omega (arith, rises.floors key, h)
  reached_later old new number (OfAdmission id) rises h = omega (arith, rises.base, h)

  pub obeying_later : (old new : NodeState ℕ) (number : ℕ) → Rises old.floors new.floors → HasObeyed past old number → HasObeyed now new number
  obeying_later old new number rises h = (h.0, extends.items number h.0 h.1, reached_later old.floors new.floors number h.0 rises h.2)

  pub admissions_later : (admissions : List Admission) → AllByRecursion (AdmissionHasLineage past) admissions →
      AllByRecursion (AdmissionHasLineage now) admissions
  admissions_later admissions all = all_mapped (AdmissionHasLineage past) (AdmissionHasLineage now)
      (λ a is. extends.items a.number (OfAdmission a.member) is) admissions all

  module _ (h : Tables) (before after : List Admission) (agree : Agree h (length (numbers past)) before after) where
    pub clear_for_later : (id : ℕ) (m : Message) → IsClearFor h past before id m → IsClearFor h now after id m
    clear_for_later id m is = record {
      clear = record {
        number = is.clear.number;
        given = is.clear.given;
        is_clear = is.clear.is_clear;
        item = extends.items is.clear.number is.clear.given is.clear.item;
        small = is.clear.small;
        of_url = is.clear.of_url;
      };
      needed = sym (agree is.clear.number id (item_within (numbers past) is.clear.number is.clear.given is.clear.item)) ∙ is.needed;
    }

    pub masters_later : (datagrams : List Datagram) → AllByRecursion (IsMastersRightly h past before) datagrams →
        AllByRecursion (IsMastersRightly h now after) datagrams
    masters_later datagrams all = all_mapped (IsMastersRightly h past before) (IsMastersRightly h now after)
        (λ d is from id at. clear_for_later id d.message (is from id at)) datagrams all

  module _ (h : Tables) (old new : List MemberState) (grows : Grows old new) where
    pub obeyed_later : (datagrams : List Datagram) → AllByRecursion (IsObeyed h past old) datagrams → AllByRecursion (IsObeyed h now new) datagrams
    obeyed_later datagrams all = all_mapped (IsObeyed h past old) (IsObeyed h now new)
        (λ d is to number acknowledges id from. obeying_later (node_at old id) (node_at new id) number (grows id) (is to number acknowledges id from)) datagrams
        all

    pub purge_later : (p : Purge) → PurgeHasLineage past old p → PurgeHasLineage now new p
    purge_later p is = record {
      item = extends.items p.number (OfPurge p.key) is.item;
      is_key = is.is_key;
      marked = λ id has. obeying_later (node_at old id) (node_at new id) p.number (grows id) (is.marked id has);
    }

    pub purges_later : (purges : List Purge) → AllByRecursion (PurgeHasLineage past old) purges → AllByRecursion (PurgeHasLineage now new) purges
    purges_later purges all = all_mapped (PurgeHasLineage past old) (PurgeHasLineage now new) purge_later purges all

-- who has obeyed a number in one world has obeyed it in a later one
pub all_later : (past now : List Step) → Extends past now → (h : Tables) (old new : World) → Grows old.states new.states →
    Agree h (length (numbers past)) old.master.admissions new.master.admissions → (number : ℕ) → number ≤ length (numbers past) →
    AllHaveObeyed h past old number → AllHaveObeyed h now new number
all_later past now extends h old new grows agree number low all = λ id member needed.
    obeying_later past now extends (node_at old.states id) (node_at new.states id) number (grows id) (all id member (agree number id low ∙ needed))
