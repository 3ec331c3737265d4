-- Recording an answer keeps `HasRoom` and adds the answer that the rule adds (`proofs/Rooms`).
use Rattle.std.proofs.Common.{◌≡◌, Some, sym, ap, ◌∙◌}
use Rattle.peer_chooser.specs.Round.{RoundText, awaited, answered}
use Rattle.peer_chooser.proofs.Rooms.{seen, has_place, HasRoom-more, seen_more}
use Rattle.peer_chooser.proofs.round.Round.answer.Goals as goal

pub bounds-self-inside-self-inside : goal.bounds-self-inside-self-inside
bounds-self-inside-self-inside c =
    let s = c.self.inside in
    let is : awaited (seen s.asked s.asked_count s.answers s.answer_count s.has_expired) c.args.peer ≡ Some c.in-Some.peer =
    rw (c.asked.ensures, c.answers.ensures, ← c.self.view_is) at (sym c.awaited.ensures ∙ c.in-Some.is) in
    has_place s.asked s.asked_count s.answers s.answer_count s.has_expired c.args.peer c.in-Some.peer c.args.said c.self.invariant is

pub invariant_of-self : goal.invariant_of-self
invariant_of-self c =
    let s = c.self.inside in
    let is : awaited (seen s.asked s.asked_count s.answers s.answer_count s.has_expired) c.args.peer ≡ Some c.in-Some.peer =
    rw (c.asked.ensures, c.answers.ensures, ← c.self.view_is) at (sym c.awaited.ensures ∙ c.in-Some.is) in
    HasRoom-more s.asked s.asked_count s.answers s.answer_count s.has_expired c.args.peer c.in-Some.peer c.args.said c.self.invariant is

pub returns-in-Some : goal.returns-in-Some
returns-in-Some c =
    let s = c.self.inside in
    let is : awaited (seen s.asked s.asked_count s.answers s.answer_count s.has_expired) c.args.peer ≡ Some c.in-Some.peer =
    rw (c.asked.ensures, c.answers.ensures, ← c.self.view_is) at (sym c.awaited.ensures ∙ c.in-Some.is) in
    seen_more s.asked s.asked_count s.answers s.answer_count s.has_expired c.args.peer c.in-Some.peer c.args.said c.self.invariant is
    ∙ ap (λ (r : RoundText). answered r c.args.peer c.args.said) c.self.view_is
