-- The standing is changed at the index of the id, or a node is added at the end if the id has none
-- (Posts).
use Rattle.std.proofs.Common.{◌≡◌, ◌<◌, List, length, map, Some, None, sym, ◌∙◌, ap, subst}
use Rattle.run_check.specs.declared.board.Post.{Post}
use Rattle.run_check.specs.Boards.{post_of, place_of}
use Rattle.run_check.proofs.Posts.{put_there, nodes_there, put_last, nodes_last, AllMemberNodes}
use Rattle.run_check.proofs.board.Posts.put.Goals as goal

pub returns-in-Some-clause-posts : goal.returns-in-Some-clause-posts
returns-in-Some-clause-posts c =
    let posts = c.args.self.now.posts.items in
    let place : place_of c.args.id (map post_of posts) ≡ Some c.in-Some.place = ap (λ l. place_of c.args.id (map post_of l)) (sym c.as_slice.ensures.value)
    ∙ sym c.place_of.ensures.place ∙ c.in-Some.is in
    let below : c.in-Some.place < length posts = subst (λ (l : List Post). c.in-Some.place < length l) c.as_slice.ensures.value c.in-Some.ensures.below in
    put_there posts c.args.id c.in-Some.place c.index_mut.result.now place below c.index_mut.ensures.value c.args.standing

pub returns-in-Some-clause-nodes : goal.returns-in-Some-clause-nodes
returns-in-Some-clause-nodes c = λ roster nodes sound.
    let posts = c.args.self.now.posts.items in
    let place : place_of c.args.id (map post_of posts) ≡ Some c.in-Some.place = ap (λ l. place_of c.args.id (map post_of l)) (sym c.as_slice.ensures.value)
    ∙ sym c.place_of.ensures.place ∙ c.in-Some.is in
    let below : c.in-Some.place < length posts = subst (λ (l : List Post). c.in-Some.place < length l) c.as_slice.ensures.value c.in-Some.ensures.below in
    nodes_there posts c.args.id c.in-Some.place c.index_mut.result.now place below c.index_mut.ensures.value roster c.args.standing nodes sound

pub returns-in_ok-push-in-None-clause-posts : goal.returns-in_ok-push-in-None-clause-posts
returns-in_ok-push-in-None-clause-posts c =
    let posts = c.args.self.now.posts.items in
    let none : place_of c.args.id (map post_of posts) ≡ None = ap (λ l. place_of c.args.id (map post_of l)) (sym c.as_slice.ensures.value)
    ∙ sym c.place_of.ensures.place ∙ c.in-None.is in
    ap (map post_of) c.in_ok-push-in-None.ensures.items ∙ put_last posts c.args.id c.args.standing none

pub returns-in_ok-push-in-None-clause-nodes : goal.returns-in_ok-push-in-None-clause-nodes
returns-in_ok-push-in-None-clause-nodes c = λ roster nodes sound.
    let posts = c.args.self.now.posts.items in
    let none : place_of c.args.id (map post_of posts) ≡ None = ap (λ l. place_of c.args.id (map post_of l)) (sym c.as_slice.ensures.value)
    ∙ sym c.place_of.ensures.place ∙ c.in-None.is in
    subst (AllMemberNodes roster) (sym c.in_ok-push-in-None.ensures.items) (nodes_last posts c.args.id c.args.standing none roster nodes sound)
