use Rattle.std.proofs.Common.{◌∷◌, ◌++◌, ◌∙◌, ap}
use Rattle.run_rules.specs.Notes.{Closes, steps_of, last_place}
use Rattle.run_notes.specs.Held.{track_of}
use Rattle.run_notes.proofs.Stacks.{pushed_is}
use Rattle.run_notes.proofs.Building.{record_before}
use Rattle.run_notes.proofs.tracks.push_record.Goals as goal

pub returns : goal.returns
returns c =
    let r = c.args.record.now in
    let kept = c.args.kept.now in
    let rest = track_of c.args.track.now.items in
    pushed_is c.push_steps.new.track.items c.push-2.new.self.items _ c.in_ok-push-2.ensures.items
    ∙ record_before r kept rest (track_of c.push_steps.new.track.items)
    (c.in_ok-push_steps.ensures ∙ ap (λ es. steps_of r.node r.closing.closed kept es ++ track_of c.push.new.self.items) c.as_slice-entries.ensures
    ∙ ap (λ t. steps_of r.node r.closing.closed kept r.entries ++ t)
    (pushed_is c.args.track.now.items c.push.new.self.items _ c.in_ok-push.ensures.items ∙ ap (λ p. Closes r.node p r.closing ∷ rest)
    (c.last_place.ensures ∙ ap (last_place 0) c.as_slice-entries.ensures)))
