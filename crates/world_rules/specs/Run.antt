-- Runs: lists of events with what each visibly did; which numbers the master gives in a run; and when
-- a purge is issued, reported done, or a copy served.
use Rattle.std.specs.Prelude.{◌≡◌, ℕ, ◌+◌, ◌-◌, ◌≤◌, List, [], ◌∷◌, length, take, filter_map, slice_get, ◌⊎◌, Option, Some, None, Result}
use Rattle.url_key.specs.Key.{IsKey}
use Rattle.object_store.specs.declared.copy.WebCopy.{WebCopy}
use Rattle.node_rules.specs.declared.state.NodeState.{NodeState}
use Rattle.node_rules.specs.declared.reply.Reply.{Reply}
use Rattle.node_rules.specs.declared.reply.StepFault.{StepFault}
use Rattle.node_rules.specs.Relation.{Steps}
use Rattle.node_rules.specs.Effect.{copy_served}
use Rattle.purge_rules.specs.declared.calls.Status.TheVariants.{Done}
use Rattle.values_tables.specs.declared.plain.Tables.{Tables}
use Rattle.world_rules.specs.declared.event.WorldEvent.{WorldEvent}
use Rattle.world_rules.specs.declared.event.WorldEvent.TheVariants.{Issue, Admit}
use Rattle.world_rules.specs.declared.outcome.WorldFault.{WorldFault}
use Rattle.node_rules.specs.State.{setting}
use Rattle.world_rules.specs.World.{World, node_at, after_node}
use Rattle.world_rules.specs.Consequence.{Seen, Replied, Issued, Admitted, Reported, Consequence, NodeSteps, Ends, Refused, consequence}

-- This consequence, at this place of the run, may be seen so and leave this world. Only a node's step
-- leaves a choice: memory or its floor store may fail. The place is the step's mark.
abbrev pub Takes : Tables → ℕ → World → Consequence → Seen → World → Type 0
Takes roster place old (NodeSteps id e serial) seen new =
    (outcome : Result (Reply ℕ) StepFault) × (next : NodeState ℕ)
    × Steps (setting roster id) (node_at old.states id) e place outcome next
    × (seen ≡ Replied id outcome) × (new ≡ after_node roster old id e serial outcome next)
Takes roster place old (Ends what world) seen new = (seen ≡ what) × (new ≡ world)
Takes roster place old (Refused fault) seen new = ⊥

-- an event that issues a purge has the key of a URL
abbrev pub IsOfKey : WorldEvent → Type 0
IsOfKey (Issue key) = IsKey key
IsOfKey _ = Unit {0}

-- the event may happen in the old world at this place, be seen so, and leave the new world
abbrev pub Happens : Tables → ℕ → World → WorldEvent → Seen → World → Type 0
Happens roster place old event seen new = IsOfKey event × Takes roster place old (consequence roster old event) seen new

-- one event with what it visibly did
pub record Step : Type 0 where
  pub event : WorldEvent
  pub seen : Seen

-- these steps lead from the old world to the new; the first of them has this place
abbrev pub Run : Tables → ℕ → World → List Step → World → Type 0
Run roster place old [] new = new ≡ old
Run roster place old (step ∷ steps) new = (next : World) × Happens roster place old step.event step.seen next
    × Run roster (place + 1) next steps new

-- This list of events leads through these steps. Any event may be refused; it then changes nothing
-- and has no place.
abbrev pub Plays : Tables → ℕ → World → List WorldEvent → List Step → World → Type 0
Plays roster place old [] steps new = (steps ≡ []) × (new ≡ old)
Plays roster place old (event ∷ events) steps new =
    ((fault : WorldFault) × (consequence roster old event ≡ Refused fault) × Plays roster place old events steps new)
    ⊎ ((seen : Seen) × (next : World) × (rest : List Step) × Happens roster place old event seen next
    × (steps ≡ record { event = event; seen = seen } ∷ rest) × Plays roster (place + 1) next events rest new)

-- x is the item with this number, counted from 1
abbrev pub IsItem : {A : Type 0} → List A → ℕ → A → Type 0
IsItem items number x = (1 ≤ number) × (slice_get items (number - 1) ≡ Some x)

-- what a number of the master is of: the purge of a key, or the admission of a member
pub data Given : Type 0 where
  OfPurge : (key : List ℕ) → Given
  OfAdmission : (id : ℕ) → Given

-- what the number is of that the master gave at an event, if it gave one
abbrev pub given_by : WorldEvent → Seen → Option Given
given_by (Issue key) (Issued number) = Some (OfPurge key)
given_by (Admit id) (Admitted number) = Some (OfAdmission id)
given_by _ _ = None

-- what the numbers are of that the master gave in these steps, in order: number n is of item n
abbrev pub numbers : List Step → List Given
numbers steps = filter_map (λ step. given_by step.event step.seen) steps

-- how many numbers were given at places before this one
abbrev pub issued : List Step → ℕ → ℕ
issued steps place = length (numbers (take (place - 1) steps))

-- the event at this place issued the purge of this number, of this key
abbrev pub IsIssuedAt : List Step → ℕ → ℕ → List ℕ → Type 0
IsIssuedAt steps place number key = IsItem steps place (record { event = Issue key; seen = Issued number })

-- the master reports that the purge with this number is done
abbrev pub TellsDone : ℕ → Seen → Type 0
TellsDone number (Reported of Done) = of ≡ number
TellsDone number _ = ⊥

-- at this place the master reports the purge done, at an acknowledgement or because it was asked
abbrev pub IsReportedAt : List Step → ℕ → ℕ → Type 0
IsReportedAt steps place number = (step : Step) × IsItem steps place step × TellsDone number step.seen

-- a node begins to serve this copy, to a client or to a member
abbrev pub ServesCopy : Seen → WebCopy ℕ → Type 0
ServesCopy (Replied id outcome) c = copy_served outcome ≡ Some c
ServesCopy _ c = ⊥

-- at this place some member begins to serve the copy
abbrev pub IsServedAt : List Step → ℕ → WebCopy ℕ → Type 0
IsServedAt steps place c = (step : Step) × IsItem steps place step × ServesCopy step.seen c
