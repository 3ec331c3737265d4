-- The contract of one node's step, lifted to the parts: only the node at the index has changed.
use Rattle.std.proofs.Common.{◌≡◌, ℕ, set, slice_get, Some, Result, refl}
use Rattle.node_rules.specs.declared.reply.Reply.{Reply}
use Rattle.node_rules.specs.declared.reply.StepFault.{StepFault}
use Rattle.std.specs.Vec.{with_item}
use Rattle.std.proofs.lemmas.Option.{slice_get_read}
use Rattle.std.proofs.lemmas.Result.{IfOk-weaker}
use Rattle.hierarchy_world.specs.declared.parts.Parts.{Parts}
use Rattle.hierarchy_world.specs.Parts.{IsStep, HasStepped, IsMemberChanged}
use Rattle.hierarchy_world.proofs.Taking.{has_stepped}
use Rattle.hierarchy_world.proofs.parts.Parts.step_at.Goals as goal

-- The step is the node's, what it sends is posted and what it tells is told, so the world takes this event.
pub returns-clause-stepped : goal.returns-clause-stepped
returns-clause-stepped c =
    let old : Parts = c.args.self.now in
    let new : Parts = record {
      alloc = old.alloc;
      roster = old.roster;
      nodes = with_item old.nodes c.args.place c.step_of.new.node;
      master = old.master;
      clock = old.clock;
      datagrams = old.datagrams;
      asks = old.asks;
      answers = old.answers;
      waiting = old.waiting;
      place = old.place;
    } in
    let at : slice_get old.nodes.items c.args.place ≡ Some c.index_mut.result.now =
    slice_get_read old.nodes.items _ c.args.place c.index_mut.result.now refl c.requires.below c.index_mut.ensures.value in
    let stays : IsMemberChanged old new (set old.nodes.items c.args.place c.step_of.new.node) old.waiting.items =
    record { roster = refl; nodes = refl; master = refl; clock = refl; place = refl; datagrams = refl; asks = refl; answers = refl; waiting = refl } in
    IfOk-weaker c.step_of.result
    (λ (s : Result (Reply ℕ) StepFault). IsStep c.index_mut.result.now old.place c.args.event s c.step_of.new.node)
    (λ (s : Result (Reply ℕ) StepFault). HasStepped old c.args.id c.args.event s new)
    (λ s is. has_stepped old new c.index_mut.result.now c.step_of.new.node c.args.id c.args.place c.args.event s c.requires.sound c.requires.place at stays is)
    c.step_of.ensures.stepped
