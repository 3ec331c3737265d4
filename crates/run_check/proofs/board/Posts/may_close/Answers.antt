-- The standing at the index of the id is that of the node; without an index it is New, in which no
-- record may close.
use Rattle.std.proofs.Common.{◌≡◌, ◌<◌, List, length, map, Some, None, IsTrue, ◌↔◌, sym, ◌∙◌, ap, subst}
use Rattle.std.specs.Prelude.{IfOk}
use Rattle.std.proofs.lemmas.Bool.{false≢true}
use Rattle.run_rules.specs.Board.{Standing}
use Rattle.run_rules.specs.Judging.{ClosesAs}
use Rattle.run_check.specs.declared.board.Post.{Post}
use Rattle.run_check.specs.Boards.{post_of, place_of}
use Rattle.run_check.proofs.Posts.{held_at, nowhere}
use Rattle.run_check.proofs.board.Posts.may_close.Goals as goal

pub returns-in-Some : goal.returns-in-Some
returns-in-Some c =
    let posts = c.args.self.now.posts.items in
    let place : place_of c.args.id (map post_of posts) ≡ Some c.in-Some.place = ap (λ l. place_of c.args.id (map post_of l)) (sym c.as_slice.ensures.value)
    ∙ sym c.place_of.ensures.place ∙ c.in-Some.is in
    let below : c.in-Some.place < length posts = subst (λ (l : List Post). c.in-Some.place < length l) c.as_slice.ensures.value c.in-Some.ensures.below in
    let there = held_at posts c.args.id c.in-Some.place c.index.result.now place below c.index.ensures in
    subst (λ (s : Standing). IfOk c.may_close.result (λ may. IsTrue may ↔ ClosesAs s c.args.state.now)) (sym there.standing) c.may_close.ensures

pub returns-in-None : goal.returns-in-None
returns-in-None c =
    let posts = c.args.self.now.posts.items in
    let none : place_of c.args.id (map post_of posts) ≡ None = ap (λ l. place_of c.args.id (map post_of l)) (sym c.as_slice.ensures.value)
    ∙ sym c.place_of.ensures.place ∙ c.in-None.is in
    let new = nowhere (map post_of posts) c.args.id none in
    (λ is. absurd (false≢true is), λ closes. absurd (subst (λ (s : Standing). ClosesAs s c.args.state.now) new closes))
