use Rattle.std.proofs.Common.{◌∙◌, ap, arith}
use Rattle.run_rules.specs.Notes.{least, falls, places_in, least_fall}
use Rattle.run_notes.specs.Held.{track_of, lesser_fall}
use Rattle.run_notes.proofs.Falling.{fall_more}
use Rattle.run_notes.proofs.falls.least_fall.Goals as goal

pub loop-track-preserved : goal.loop-track-preserved
loop-track-preserved c =
    c.lesser_of_both-fall.ensures ∙ ap (λ o. lesser_fall o c.fall_in.result) c.loop-track.invariant
    ∙ ap (lesser_fall _) (c.fall_in.ensures ∙ ap (λ l. least (falls (places_in (track_of l)))) c.as_slice.ensures.value)
    ∙ fall_more c.args.tracks.now c.loop-track.track-index c.track-item.result (omega arith) c.track-item.is
