-- The invariant of sources holds at every place of a run from a new world, and what is served has
-- its age. It holds at the start, SourceTurns has that each event keeps it, and the age is Asked's.
use Rattle.std.proofs.Common.{◌≡◌, ℕ, zero, suc, ◌+◌, ◌-◌, List, [], ◌∷◌, ◌++◌, length, take, map, Some, Ok, refl, sym, ◌∙◌, ap, subst, nat_eq, arith}
use Rattle.std.proofs.Common.{append_assoc}
use Rattle.std.specs.Prelude.{slice_get}
use Rattle.std.proofs.lemmas.Option.{same_Some}
use Rattle.object_store.specs.declared.copy.WebCopy.{WebCopy}
use Rattle.values_tables.specs.declared.plain.Member.{Member}
use Rattle.node_rules.specs.declared.reply.Served.{Served}
use Rattle.node_rules.specs.declared.reply.Served.TheVariants.{Copy}
use Rattle.node_rules.specs.declared.reply.Serve.{Serve}
use Rattle.node_rules.specs.declared.reply.Reply.{Reply}
use Rattle.node_rules.specs.declared.event.Event.{Event}
use Rattle.node_rules.specs.State.{served_age, setting}
use Rattle.node_rules.specs.Effect.{copy_in, copy_in_serve, copy_served}
use Rattle.node_rules.proofs.Cases.{branches}
use Rattle.node_rules.proofs.Lawful.{steps_are_lawful}
use Rattle.values_tables.specs.declared.plain.Tables.{Tables}
use Rattle.world_rules.specs.declared.event.WorldEvent.{WorldEvent}
use Rattle.world_rules.specs.World.{World, new_node, new_world, node_at}
use Rattle.world_rules.specs.Consequence.{Seen, Replied, Consequence, NodeSteps, Ends, Refused, consequence}
use Rattle.world_rules.specs.Run.{Step, Run, Takes, Happens, ServesCopy}
use Rattle.world_rules.specs.Asked.{moment, IsServedRightly, IsRightlyIn, ServesRightly}
use Rattle.world_rules.specs.Provenance.{IsSourcedCopy, EachHasSource, EachHasAge}
use Rattle.world_rules.specs.Sources.{NodeHasSources, NodeHasAsks, HasSources}
use Rattle.world_rules.proofs.Items.{append_nil, parted}
use Rattle.world_rules.proofs.Runs.{next_place}
use Rattle.world_rules.proofs.Safe.{seen_outcome}
use Rattle.world_rules.proofs.Asked.{steps_answer_asks}
use Rattle.world_rules.proofs.Sourced.{source_later, sources_later, copy_source, stepped_sources}
use Rattle.world_rules.proofs.SourceConsequences.{Knows, consequence_known}

-- a run goes on with what happens at the next place
run_on : (h : Tables) (past : List Step) (place : ℕ) (old mid new : World) (step : Step) → Run h place old past mid →
    Happens h (place + length past) mid step.event step.seen new → Run h place old (past ++ step ∷ []) new
run_on h [] place old mid new step run happens = (
  new,
  subst (λ (w : World). Happens h place w step.event step.seen new) run (subst (λ n. Happens h n mid step.event step.seen new) (omega arith) happens),
  refl,
)
run_on h (first ∷ past) place old mid new step (next, happens, run) last =
    let e : place + length (first ∷ past) ≡ place + 1 + length past = omega arith in
    (next, happens, run_on h past (place + 1) next mid new step run (subst (λ n. Happens h n mid step.event step.seen new) e last))

-- the run so far, and the invariant after it
pub record IsAfter (h : Tables) (past : List Step) (w : World) : Type 0 where
  pub runs : Run h 1 (new_world h) past w
  pub sources : HasSources h past w

module _ (h : Tables) (past : List Step) (old : World) (after : IsAfter h past old) (cause : WorldEvent) (seen : Seen) (new : World) where
  takes_sources : (t : Consequence) → consequence h old cause ≡ t → Knows h past old t → Takes h (length past + 1) old t seen new →
      HasSources h (past ++ record { event = cause; seen = seen } ∷ []) new
  takes_sources (NodeSteps id e serial) meets known (outcome, next, steps, is_seen, is_new) =
      rw (is_seen, is_new) (stepped_sources h past old after.runs after.sources cause id serial e meets known.knows outcome next steps)
  takes_sources (Ends what world) meets known (is_seen, is_new) =
      rw is_new (sources_later h past (record { event = cause; seen = seen } ∷ []) world known.sources)
  takes_sources (Refused fault) meets known takes = absurd takes

  pub after_one : Happens h (length past + 1) old cause seen new → IsAfter h (past ++ record { event = cause; seen = seen } ∷ []) new
  after_one happens = record {
    runs = run_on h past 1 (new_world h) old new record { event = cause; seen = seen } after.runs
        (subst (λ n. Happens h n old cause seen new) (omega arith) happens);
    sources = takes_sources (consequence h old cause) refl (consequence_known h past old after.sources cause) happens.1;
  }

  -- a copy that is served has a source
  takes_copy : (c : WebCopy ℕ) → ServesCopy seen c → (t : Consequence) → consequence h old cause ≡ t → Knows h past old t
      → Takes h (length past + 1) old t seen new →
      IsSourcedCopy h (past ++ record { event = cause; seen = seen } ∷ []) c
  takes_copy c serves (NodeSteps id e serial) meets known (outcome, next, steps, is_seen, is_new) =
      let law = steps_are_lawful (setting h id) (node_at old.states id) e (length past + 1) outcome next steps in
      let served : copy_served outcome ≡ Some c = subst (λ (s : Seen). ServesCopy s c) is_seen serves in
      rw is_seen (copy_source h past old after.runs after.sources cause id serial outcome e meets known.knows c (law.serves c served))
  takes_copy c serves (Ends what world) meets known (is_seen, is_new) = absurd (known.serves_none c (subst (λ (s : Seen). ServesCopy s c) is_seen serves))
  takes_copy c serves (Refused fault) meets known takes = absurd takes

  pub copy_sourced : (c : WebCopy ℕ) → ServesCopy seen c → Happens h (length past + 1) old cause seen new →
      IsSourcedCopy h (past ++ record { event = cause; seen = seen } ∷ []) c
  copy_sourced c serves happens = takes_copy c serves (consequence h old cause) refl (consequence_known h past old after.sources cause) happens.1

-- A new world

nodes_are_new : (h : Tables) (members : List Member) (id : ℕ) → NodeHasSources h [] id
    (node_at (map (λ (m : Member). record { id = m.cache.id; node = new_node }) members) id)
nodes_are_new h [] id = record { copies = λ is_open. tt; reads = tt }
nodes_are_new h (m ∷ members) id =
    branches (NodeHasSources h [] id) (nat_eq m.cache.id id) new_node (node_at (map (λ (m : Member). record { id = m.cache.id; node = new_node }) members) id)
    (λ _. record { copies = λ is_open. tt; reads = tt }) (λ _. nodes_are_new h members id)

asks_are_new : (members : List Member) (id : ℕ) → NodeHasAsks [] id (node_at (map (λ (m : Member). record { id = m.cache.id; node = new_node }) members) id)
asks_are_new [] id = record { kept = tt }
asks_are_new (m ∷ members) id =
    branches (NodeHasAsks [] id) (nat_eq m.cache.id id) new_node (node_at (map (λ (m : Member). record { id = m.cache.id; node = new_node }) members) id)
    (λ _. record { kept = tt }) (λ _. asks_are_new members id)

new_after : (h : Tables) → IsAfter h [] (new_world h)
new_after h = record { runs = refl; sources = record { nodes = nodes_are_new h h.members; answers = tt; asks = λ id is_open. asks_are_new h.members id } }

module _ (h : Tables) where
  after_on : (steps past : List Step) (old new : World) → IsAfter h past old → Run h (length past + 1) old steps new → IsAfter h (past ++ steps) new
  after_on [] past old new after run = rw (append_nil past, run) after
  after_on (step ∷ steps) past old new after (next, happens, run) =
      rw (← append_assoc past (step ∷ []) steps)
      (after_on steps (past ++ step ∷ []) next new (after_one h past old after step.event step.seen next happens) (rw next_place run))

  -- the worlds before and after the step at a place
  after_at : (steps past : List Step) (old new : World) → IsAfter h past old → Run h (length past + 1) old steps new → (k : ℕ) (step : Step) →
      slice_get steps k ≡ Some step →
      (before next : World) × IsAfter h (past ++ take k steps) before × Happens h (length (past ++ take k steps) + 1) before step.event step.seen next
  after_at [] past old new after run k step is = cc
  after_at (first ∷ steps) past old new after (next, happens, run) zero step is =
      (old, next, rw (append_nil past) after, rw (append_nil past, ← same_Some first step is) happens)
  after_at (first ∷ steps) past old new after (next, happens, run) (suc k) step is =
      rw (← append_assoc past (first ∷ []) (take k steps))
      (after_at steps (past ++ first ∷ []) next new (after_one h past old after first.event first.seen next happens) (rw next_place run) k step is)

  module _ (steps : List Step) (w : World) (run : Run h 1 (new_world h) steps w) where
    pub run_after : IsAfter h steps w
    run_after = after_on steps [] (new_world h) w (new_after h) run

    pub each_has_source : EachHasSource h steps
    each_has_source place c (step, is, serves) =
        let (before, next, after, happens) = after_at steps [] (new_world h) w (new_after h) run (place - 1) step is.1 in
        let t = parted steps (place - 1) step is.1 in
        rw t.1 (source_later h (take (place - 1) steps ++ step ∷ []) t.0 c.key c.tag c.answer
        (copy_sourced h (take (place - 1) steps) before after step.event step.seen next c serves happens))

    -- Ages

    age_in : (e : Event ℕ) (id : ℕ) (reply : Reply ℕ) (serve : Serve ℕ) (served : Served ℕ) (c : WebCopy ℕ) (age : ℕ) → served ≡ Copy c age →
        IsServedRightly (node_at w.states id) e serve.waiter serve.asker served → age ≡ served_age c (moment e)
    age_in e id reply serve served c age is rightly = (subst (IsServedRightly (node_at w.states id) e serve.waiter serve.asker) is rightly).0

    age_by : (cause : WorldEvent) (id : ℕ) (reply : Reply ℕ) (serve : Serve ℕ) (c : WebCopy ℕ) (age : ℕ) (next : World) → reply.serve ≡ Some serve →
        serve.served ≡ Copy c age →
        (t : Consequence) → Knows h steps w t → Takes h (length steps + 1) w t (Replied id (Ok reply)) next → age ≡ served_age c w.clock
    age_by cause id reply serve c age next is_serve is_copy (NodeSteps member e serial) known (outcome, state, node_steps, is_seen, is_new) =
        let asked = steps_answer_asks (setting h member) (node_at w.states member) (length steps + 1) e outcome state node_steps in
        let same : outcome ≡ Ok reply = ap (λ (s : Seen). seen_outcome s outcome) (sym is_seen) in
        let rightly : IsRightlyIn (node_at w.states member) e (Some serve) = subst (IsRightlyIn (node_at w.states member) e) is_serve
        (subst (ServesRightly (node_at w.states member) e) same asked.serves) in
        age_in e member reply serve serve.served c age is_copy rightly ∙ ap (served_age c) known.at
    age_by cause id reply serve c age next is_serve is_copy (Ends what world) known takes =
        absurd (known.serves_none c (subst (λ (s : Seen). ServesCopy s c) takes.0 (ap copy_in_serve is_serve ∙ ap copy_in is_copy)))
    age_by cause id reply serve c age next is_serve is_copy (Refused fault) known takes = absurd takes

    pub each_has_age : EachHasAge h steps w
    each_has_age cause id reply serve c age next happens is_serve is_copy = age_by cause id reply serve c age next is_serve is_copy (consequence h w cause)
        (consequence_known h steps w run_after.sources cause) happens.1
