use Rattle.std.proofs.Common.{◌≡◌, ◌∷◌, ◌-◌, drop, ◌∙◌, arith}
use Rattle.run_notes.specs.Held.{track_of}
use Rattle.run_notes.proofs.Stacks.{pushed_is}
use Rattle.run_notes.proofs.Building.{from_there, calls_more, shut_more}
use Rattle.run_notes.proofs.tracks.master_track.Goals as goal

pub loop-at-preserved : goal.loop-at-preserved
loop-at-preserved c =
    let es = c.args.entries.now in
    let at = c.loop-at.at in
    let e = c.index-entries-at.result in
    let here : drop (at - 1) es ≡ e ∷ drop at es = from_there es at e (omega arith) (omega arith) c.index-entries-at.is in (
      c.is_shut_before-is_closed.ensures ∙ shut_more (drop (at - 1) es) (drop at es) e c.loop-at.is_closed here c.loop-at.invariant.0,
      pushed_is c.loop-at.track.items c.push.new.self.items _ c.in_ok-push.ensures.items ∙ calls_more (drop (at - 1) es) (drop at es) e c.loop-at.is_closed
          (track_of c.loop-at.track.items) here c.loop-at.invariant.0 c.loop-at.invariant.1,
    )
