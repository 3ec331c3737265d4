-- The loop over the events: before each event the events so far were applied, by the invariant; at a
-- fault the next event is the one that was refused; at the end all were applied (Runs).
use Rattle.std.proofs.Common.{sym, ◌∙◌, subst, ap, suc, length, drop, rules}
use Rattle.std.proofs.lemmas.Iterator.Adapters.{YieldsList-from_vec}
use Rattle.std.proofs.lemmas.Iterator.Consumers.{YieldsList-turn, YieldsList-so_far, YieldsList-end}
use Rattle.std.proofs.lemmas.List.{map-id}
use Rattle.std.proofs.lemmas.Result.{err_from_is_err_and}
use Rattle.values_tables.specs.declared.plain.Tables.{Tables}
use Rattle.hierarchy_world.specs.View.{WorldView}
use Rattle.roster.specs.Judged.{IsRoster}
use Rattle.hierarchy_world.proofs.Runs.{view_starts, view_goes_on, view_stops, view_ends, parted_at}
use Rattle.hierarchy_world.proofs.playing.World.run.Goals as goal

pub loop-event-init : goal.loop-event-init
loop-event-init c =
    view_starts c.args.roster.now c.in_ok-world.world c.in_ok-outcomes.outcomes.items c.in_ok-world.ensures.made c.in_ok-outcomes.ensures.items

pub loop-event-preserved : goal.loop-event-preserved
loop-event-preserved c =
    view_goes_on c.args.roster.now c.loop-event.yielded c.loop-event.world c.apply.new.self c.loop-event.outcomes.items c.push.new.self.items c.in-Some.event
    c.in_ok-outcome.outcome
    c.loop-event.invariant c.in_ok-outcome.ensures.applied c.in_ok-outcome.ensures.usable c.in_ok-outcome.ensures.lack (search rules)

pub returns-in_err-outcome-clause-stopped : goal.returns-in_err-outcome-clause-stopped
returns-in_err-outcome-clause-stopped c =
    let p = err_from_is_err_and c.from_residual-in_err-outcome.result c.from_residual-in_err-outcome.ensures.1 in
    let road = YieldsList-from_vec {s = c.into_iter-event-iterator.result} c.args.events.items (search rules) (search rules) in
    let first = YieldsList-so_far road c.loop-event.yielded _ c.loop-event.yielded_by in
    let here = YieldsList-turn road c.loop-event.yielded _ c.loop-event.yielded_by c.next.result c.next.new.self c.in-Some.event c.in-Some.is
    c.next.ensures.steps in
    rw (p.1, p.2)
    (view_stops c.args.roster.now c.args.events.items c.loop-event.yielded c.loop-event.world c.apply.new.self c.loop-event.outcomes.items c.in-Some.event
    (drop (suc (length c.loop-event.yielded)) c.args.events.items) _ c.loop-event.invariant
    (parted_at c.args.events.items c.loop-event.yielded c.in-Some.event first here) c.in_err-outcome.ensures.applied)

pub returns : goal.returns
returns c =
    let road = YieldsList-from_vec {s = c.into_iter-event-iterator.result} c.args.events.items (search rules) (search rules) in
    let end = YieldsList-end road c.loop-event.yielded c.loop-event.event-iterator c.loop-event.yielded_by c.next.result c.next.new.self c.in-None.is
    c.next.ensures.steps in
    let proper = subst (λ (t : Tables). IsRoster t) (ap (λ (w : WorldView). w.roster) c.in_ok-world.ensures.made) c.in_ok-world.ensures.valid in
    record {
      run = view_ends c.args.roster.now c.loop-event.yielded c.args.events.items c.loop-event.world c.loop-event.outcomes.items c.new-2.result proper
          c.loop-event.invariant (sym (map-id c.loop-event.yielded) ∙ end.0) c.new-2.ensures;
      stopped = tt;
    }
