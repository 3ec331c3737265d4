-- Histories: one replay after another is a replay, and a step more is an entry more.
use Rattle.std.proofs.Common.{◌≡◌, Option, None, Some, List, [], ◌∷◌, ◌++◌, refl, sym, subst, Result}
use Rattle.values_keys.specs.KeyOf.{key_of}
use Rattle.values_keys.proofs.Outcomes.{gives_keys}
use Rattle.floor_rules.specs.Floors.{FloorTable}
use Rattle.node_rules.specs.declared.event.Event.{Event}
use Rattle.node_rules.specs.declared.reply.Reply.{Reply}
use Rattle.node_rules.specs.declared.reply.StepFault.{StepFault}
use Rattle.node_rules.specs.declared.state.NodeState.{NodeState}
use Rattle.node_rules.specs.State.{Setting, setting}
use Rattle.node_rules.specs.Relation.{Steps}
use Rattle.node_bytes.specs.Nodes.{TakesStep}
use Rattle.node_core.specs.View.{NodeText}
use Rattle.node_book.specs.declared.book.NodeEntry.{NodeEntry}
use Rattle.node_book.specs.Book.{Replays}
use Rattle.node_seats.specs.Beginning.{Beginning, IsHistory, LeadsTo, LeadsToNode}

-- a replay that goes on where another one ended
pub replays_append : (g : Setting) (first : NodeState (Unit {0})) (xs : List NodeEntry) (middle : NodeState (Unit {0})) (ys : List NodeEntry)
    (last : NodeState (Unit {0})) → Replays g first xs middle → Replays g middle ys last → Replays g first (xs ++ ys) last
replays_append g first [] middle ys last at after = subst (λ s. Replays g s ys last) at after
replays_append g first (x ∷ xs) middle ys last (next, step, rest) after = (next, step, replays_append g next xs middle ys last rest after)

-- entries that lead to a state are a history
is_history : (b : Option Beginning) (xs : List NodeEntry) (state : NodeState (Unit {0})) → LeadsTo b xs state → IsHistory b xs
is_history b [] state leads = tt
is_history b (x ∷ xs) state leads = (state, leads)

-- the step of a node, as the rules of its setting have it
step_of : {honest : Type 0} {may_find : FloorTable → Type 0} {have_risen : Type 0} {S : Type 0} (b : Beginning) (before after : NodeText (Unit {0}) S)
    (event : Event (Unit {0})) (outcome : Result (Reply (Unit {0})) StepFault) → before.roster ≡ b.roster → before.id ≡ b.id →
    TakesStep honest may_find have_risen before event outcome after → Steps (setting b.roster b.id) before.state event tt outcome after.state
step_of b before after event outcome roster id takes =
    subst (λ r. Steps (setting r b.id) before.state event tt outcome after.state) roster
    (subst (λ i. Steps (setting before.roster i) before.state event tt outcome after.state) id (takes.steps key_of gives_keys))

-- a history that leads to a node leads, with the entry of its step, to the node after the step
pub leads_more : {honest : Type 0} {may_find : FloorTable → Type 0} {have_risen : Type 0} {S : Type 0} (b : Option Beginning) (log : List NodeEntry)
    (before after : NodeText (Unit {0}) S) (event : Event (Unit {0})) (e : NodeEntry) → e.event ≡ event → LeadsToNode b log before →
    TakesStep honest may_find have_risen before event e.outcome after → LeadsToNode b (log ++ e ∷ []) after
leads_more None log before after event e same leads takes = absurd leads
leads_more (Some b) log before after event e same leads takes =
    let stepped = subst (λ ev. Steps (setting b.roster b.id) before.state ev tt e.outcome after.state) (sym same)
    (step_of b before after event e.outcome leads.0 leads.1 takes) in (
      subst (λ r. r ≡ b.roster) (sym takes.same.roster) leads.0,
      subst (λ i. i ≡ b.id) (sym takes.same.id) leads.1,
      replays_append (setting b.roster b.id) b.opening log before.state (e ∷ []) after.state leads.2 (after.state, stepped, refl),
    )

-- a history that leads to a node is a history
pub led_history : {S : Type 0} (b : Option Beginning) (log : List NodeEntry) (node : NodeText (Unit {0}) S) → LeadsToNode b log node → IsHistory b log
led_history None log node leads = absurd leads
led_history (Some b) log node leads = is_history (Some b) log node.state leads.2
