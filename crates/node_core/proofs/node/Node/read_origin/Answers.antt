-- An origin read, by its three cases: three reads were made, the roster has no such origin, or the
-- read begins.
use Rattle.std.proofs.Common.{◌≡◌, ◌∙◌, true, false, Some, slice_get, sym, arith}
use Rattle.std.proofs.lemmas.Option.{IfSome_then}
use Rattle.node_rules.specs.Known.{has_origin}
use Rattle.node_waiting.specs.Changed.{with_progress}
use Rattle.node_core.specs.View.{setting_of}
use Rattle.node_core.proofs.GoingOn.{reads_no_more, has_none_to_read, reads_again, leads_by}
use Rattle.node_core.proofs.node.Node.read_origin.Goals as goal

pub returns-then-progress-ge-MOST_READS-clause-leads :
    goal.returns-then-progress-ge-MOST_READS-clause-leads
returns-then-progress-ge-MOST_READS-clause-leads g c = λ key_of.
    IfSome_then (slice_get c.args.self.now.state.pending c.args.place) c.give_up.ensures.gives_up (λ p gives.
    reads_no_more (setting_of c.args.self.now key_of) c.args.self.now.state (with_progress p c.args.progress) (Some p.block) c.args.now c.args.mark
    (omega arith) ∙ gives)

pub returns-then-not-has_origin-clause-leads : goal.returns-then-not-has_origin-clause-leads
returns-then-not-has_origin-clause-leads g c = λ key_of.
    let ask = c.ask.result.now in
    let there : slice_get c.args.self.now.state.pending c.args.place ≡ Some ask = rw (← c.self.view_is) c.ask.ensures.value in
    let gives = rw there at c.give_up-then-not-has_origin.ensures.gives_up in
    let none : has_origin c.args.self.now.roster ask.ask.key ≡ false = rw (← c.self.view_is) (sym c.if-not-has_origin.ensures) in
    rw there (has_none_to_read (setting_of c.args.self.now key_of) c.args.self.now.state (with_progress ask c.args.progress) (Some ask.block) c.args.now
    c.args.mark (omega arith) none ∙ gives)

pub returns-clause-leads : goal.returns-clause-leads
returns-clause-leads g c = λ key_of.
    let ask = c.ask.result.now in
    let there : slice_get c.args.self.now.state.pending c.args.place ≡ Some ask = rw (← c.self.view_is) c.ask.ensures.value in
    let leads = rw there at c.begin_read.ensures.leads in
    let one : has_origin c.args.self.now.roster ask.ask.key ≡ true = rw (← c.self.view_is) (sym c.if-not-has_origin.ensures) in
    rw there
    (leads_by _ _ _ _ _ (reads_again (setting_of c.args.self.now key_of) c.args.self.now.state (with_progress ask c.args.progress) (Some ask.block)
    c.args.now c.args.mark (omega arith) one) leads)
