-- The invariant of sources, which holds at every place of every run: where contents come from, and
-- which requests wait. HasSources, the last definition, is the whole invariant.
use Rattle.std.specs.Prelude.{◌≡◌, ◌⊎◌, ℕ, List, true, false, Some}
use Rattle.std.specs.List.{AllByRecursion}
use Rattle.node_rules.specs.declared.state.Fetch.{Fetch}
use Rattle.node_rules.specs.declared.state.Fetch.TheVariants.{Nowhere, AtPeer, AtOrigin}
use Rattle.node_rules.specs.declared.state.Pending.{Pending}
use Rattle.node_rules.specs.declared.state.NodeState.{NodeState}
use Rattle.node_rules.specs.State.{fetch_serial}
use Rattle.node_rules.specs.Arrivals.{is_gateway_fault}
use Rattle.values_tables.specs.declared.plain.Tables.{Tables}
use Rattle.world_rules.specs.World.{PeerAnswer, Waiting, World, node_at, Answered, asked_before}
use Rattle.world_rules.specs.Run.{Step}
use Rattle.world_rules.specs.Provenance.{BeginsReadAt, HasSource, IsSourcedCopy}

-- a pending origin read began at its mark, under this serial, for this key
abbrev pub FetchHasBegun : Tables → List Step → ℕ → ℕ → List ℕ → Fetch ℕ → Type 0
FetchHasBegun roster past id serial key (AtOrigin stamp asked mark) = BeginsReadAt roster past mark id serial key
FetchHasBegun roster past id serial key (AtPeer peer asked) = Unit {0}
FetchHasBegun roster past id serial key Nowhere = Unit {0}

-- the same for what a pending request fetches
abbrev pub ReadHasBegun : Tables → List Step → ℕ → Pending ℕ → Type 0
ReadHasBegun roster past id p = FetchHasBegun roster past id (fetch_serial p) p.ask.key p.fetch

-- a response between members is a status 502, 503 or 504, which no node uses, or has a source
abbrev pub AnswerHasSource : Tables → List Step → PeerAnswer → Type 0
AnswerHasSource roster past a = (is_gateway_fault a.answer.status ≡ true) ⊎ HasSource roster past a.key a.mark a.answer

-- what holds of each node: its copies have sources, and its reads began at their marks
pub record NodeHasSources (roster : Tables) (past : List Step) (id : ℕ) (s : NodeState ℕ) : Type 0 where
  pub copies : s.closed ≡ false → AllByRecursion (IsSourcedCopy roster past) s.copies
  pub reads : AllByRecursion (ReadHasBegun roster past id) s.pending

-- a member's request that waits here is listed in the world, with its key
abbrev pub IsKept : List Waiting → ℕ → Pending ℕ → Type 0
IsKept waiting id p = (asker : ℕ) → p.asker ≡ Some asker → (a : Answered) × (asked_before waiting id p.block ≡ Some a)
    × (a.key ≡ p.ask.key)

-- what holds of the members' requests that wait at a node
pub record NodeHasAsks (waiting : List Waiting) (id : ℕ) (s : NodeState ℕ) : Type 0 where
  pub kept : AllByRecursion (IsKept waiting id) s.pending

-- the invariant: what holds of the world after these steps
pub record HasSources (roster : Tables) (past : List Step) (w : World) : Type 0 where
  pub nodes : (id : ℕ) → NodeHasSources roster past id (node_at w.states id)
  pub answers : AllByRecursion (AnswerHasSource roster past) w.answers
  pub asks : (id : ℕ) → (node_at w.states id).closed ≡ false → NodeHasAsks w.waiting id (node_at w.states id)
