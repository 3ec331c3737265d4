-- The standing at the index of the id is replaced by Astray, or the node has no record (Posts).
-- What stands there in between makes no difference to what is put back.
use Rattle.std.proofs.Common.{◌≡◌, ◌<◌, List, length, map, Some, None, sym, ◌∙◌, ap, subst}
use Rattle.run_check.specs.declared.board.Post.{Post}
use Rattle.run_check.specs.Held.{standing_of, IsSound}
use Rattle.run_check.specs.Boards.{post_of, place_of}
use Rattle.run_check.proofs.Posts.{held_at, nowhere, put_twice, sound_there}
use Rattle.run_check.proofs.board.Posts.take.Goals as goal

pub returns-in-Some-clause-standing : goal.returns-in-Some-clause-standing
returns-in-Some-clause-standing c =
    let posts = c.args.self.now.posts.items in
    let place : place_of c.args.id (map post_of posts) ≡ Some c.in-Some.place = ap (λ l. place_of c.args.id (map post_of l)) (sym c.as_slice.ensures.value)
    ∙ sym c.place_of.ensures.place ∙ c.in-Some.is in
    let below : c.in-Some.place < length posts = subst (λ (l : List Post). c.in-Some.place < length l) c.as_slice.ensures.value c.in-Some.ensures.below in
    let there = held_at posts c.args.id c.in-Some.place c.index_mut.result.now place below c.index_mut.ensures.value in
    ap standing_of c.replace.ensures.value ∙ sym there.standing

pub returns-in-Some-clause-others : goal.returns-in-Some-clause-others
returns-in-Some-clause-others c = λ standing.
    let posts = c.args.self.now.posts.items in
    let place : place_of c.args.id (map post_of posts) ≡ Some c.in-Some.place = ap (λ l. place_of c.args.id (map post_of l)) (sym c.as_slice.ensures.value)
    ∙ sym c.place_of.ensures.place ∙ c.in-Some.is in
    let below : c.in-Some.place < length posts = subst (λ (l : List Post). c.in-Some.place < length l) c.as_slice.ensures.value c.in-Some.ensures.below in
    put_twice posts c.args.id c.in-Some.place c.index_mut.result.now place below c.index_mut.ensures.value c.replace.new.dest standing

pub returns-in-Some-clause-sound : goal.returns-in-Some-clause-sound
returns-in-Some-clause-sound c = λ roster nodes.
    let posts = c.args.self.now.posts.items in
    let place : place_of c.args.id (map post_of posts) ≡ Some c.in-Some.place = ap (λ l. place_of c.args.id (map post_of l)) (sym c.as_slice.ensures.value)
    ∙ sym c.place_of.ensures.place ∙ c.in-Some.is in
    let below : c.in-Some.place < length posts = subst (λ (l : List Post). c.in-Some.place < length l) c.as_slice.ensures.value c.in-Some.ensures.below in
    subst (IsSound roster c.args.id) (sym c.replace.ensures.value)
    (sound_there posts c.args.id c.in-Some.place c.index_mut.result.now place below c.index_mut.ensures.value roster nodes)

pub returns-in-None-clause-standing : goal.returns-in-None-clause-standing
returns-in-None-clause-standing c =
    let posts = c.args.self.now.posts.items in
    let none : place_of c.args.id (map post_of posts) ≡ None = ap (λ l. place_of c.args.id (map post_of l)) (sym c.as_slice.ensures.value)
    ∙ sym c.place_of.ensures.place ∙ c.in-None.is in
    sym (nowhere (map post_of posts) c.args.id none)
