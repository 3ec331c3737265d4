use Rattle.std.proofs.Common.{◌≡◌, ◌∷◌, ◌-◌, drop, ◌∙◌, arith}
use Rattle.run_notes.specs.Held.{track_of}
use Rattle.run_notes.proofs.Stacks.{pushed_is}
use Rattle.run_notes.proofs.Building.{from_there, steps_more, closed_more}
use Rattle.run_notes.proofs.tracks.push_steps.Goals as goal

pub loop-at-preserved : goal.loop-at-preserved
loop-at-preserved c =
    let es = c.args.entries.now in
    let at = c.loop-at.at in
    let e = c.index-entries-at.result in
    let here : drop (at - 1) es ≡ e ∷ drop at es = from_there es at e (omega arith) (omega arith) c.index-entries-at.is in (
      c.is_closed_answer-is_closed.ensures ∙ closed_more c.args.is_closing (drop (at - 1) es) (drop at es) e here,
      pushed_is c.loop-at.track.items c.push.new.self.items _ c.in_ok-push.ensures.items
          ∙ steps_more c.args.node c.args.is_closing c.args.kept.now (drop (at - 1) es) (drop at es) e c.loop-at.is_closed (track_of c.loop-at.track.items)
          (track_of c.args.track.now.items) here c.loop-at.invariant.0 c.loop-at.invariant.1,
    )
