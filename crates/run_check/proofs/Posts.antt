-- Looking up and changing a node's standing by its index is what run_rules does by its id: by
-- induction over the nodes, whose first match both take.
use Rattle.std.proofs.Common.{◌≡◌, ℕ, ◌<◌, suc, true, cond, List, [], ◌∷◌, ◌++◌, map, length, get_or, set, Option, Some, None, nat_eq, eqb-true, refl, sym, ◌∙◌}
use Rattle.std.proofs.Common.{ap, subst, inl, inr, arith}
use Rattle.std.specs.Prelude.{All, slice_get, option_map}
use Rattle.std.proofs.lemmas.List.{map-set, map-append}
use Rattle.std.proofs.lemmas.List.Elements.{All-set, All-push}
use Rattle.std.proofs.lemmas.Option.{none-some, slice_get-map, slice_get_read}
use Rattle.values_tables.specs.declared.plain.Tables.{Tables}
use Rattle.run_rules.specs.Board.{Standing, New, Post, standing_at, with_standing}
use Rattle.run_rules.proofs.Lists.{either, same_some}
use Rattle.run_notes.specs.Held.{place_in_rest}
use Rattle.run_check.specs.declared.standing.Standing.{Standing as HeldStanding}
use Rattle.run_check.specs.declared.board.Post.{Post as HeldPost}
use Rattle.run_check.specs.Held.{standing_of, IsSound}
use Rattle.run_check.specs.Boards.{post_of, place_of}

later_place : (o : Option ℕ) (at : ℕ) → option_map suc o ≡ Some at → (before : ℕ) × (o ≡ Some before) × (at ≡ suc before)
later_place None at e = absurd (none-some at e)
later_place (Some before) at e = (before, refl, sym (same_some (suc before) at e))

abbrev post : ℕ → Standing → Post
post id s = record { id = id; standing = s }

-- a node that is found
pub record IsAt (posts : List Post) (id at : ℕ) (p : Post) : Type 0 where
  pub named : p.id ≡ id
  pub standing : standing_at posts id ≡ p.standing
  pub with_it : (s : Standing) → with_standing posts id s ≡ set posts at (record { id = id; standing = s })

-- the first post is the node's, or the node is found in the others, one index earlier
pub is_at : (posts : List Post) (id at : ℕ) (p : Post) → place_of id posts ≡ Some at → slice_get posts at ≡ Some p → IsAt posts id at p
is_at [] id at p place got = absurd (none-some at place)
is_at (q ∷ posts) id at p place got =
    elim (either (nat_eq q.id id)) [
      | inl here ↦
          let at_once : 0 ≡ at = same_some 0 at (ap (λ b. place_in_rest b (place_of id posts)) (sym here) ∙ place) in
          let is : q ≡ p = same_some q p (ap (slice_get (q ∷ posts)) at_once ∙ got) in
          record {
            named = ap (λ (r : Post). r.id) (sym is) ∙ eqb-true q.id id here;
            standing = ap (λ b. cond b q.standing (standing_at posts id)) here ∙ ap (λ (r : Post). r.standing) is;
            with_it = λ s. ap (λ b. cond b (post id s ∷ posts) (q ∷ with_standing posts id s)) here ∙ ap (λ n. set (q ∷ posts) n (post id s)) at_once;
          }
      | inr other ↦
          let (before, there, is) = later_place (place_of id posts) at (ap (λ b. place_in_rest b (place_of id posts)) (sym other) ∙ place) in
          let rest = is_at posts id before p there (ap (slice_get (q ∷ posts)) (sym is) ∙ got) in
          record {
            named = rest.named;
            standing = ap (λ b. cond b q.standing (standing_at posts id)) other ∙ rest.standing;
            with_it = λ s. ap (λ b. cond b (post id s ∷ posts) (q ∷ with_standing posts id s)) other ∙ ap (λ l. q ∷ l) (rest.with_it s)
                ∙ ap (λ n. set (q ∷ posts) n (post id s)) (sym is);
          }
    ]

no_place : (o : Option ℕ) → option_map suc o ≡ None → o ≡ None
no_place None e = refl
no_place (Some n) e = absurd (none-some (suc n) (sym e))

pub nowhere : (posts : List Post) (id : ℕ) → place_of id posts ≡ None → standing_at posts id ≡ New
nowhere [] id none = refl
nowhere (q ∷ posts) id none =
    elim (either (nat_eq q.id id)) [
      | inl here ↦ absurd (none-some 0 (sym none ∙ ap (λ b. place_in_rest b (place_of id posts)) here))
      | inr other ↦ ap (λ b. cond b q.standing (standing_at posts id)) other ∙ nowhere posts id
          (no_place (place_of id posts) (ap (λ b. place_in_rest b (place_of id posts)) (sym other) ∙ none))
    ]

pub comes_last : (posts : List Post) (id : ℕ) (s : Standing) → place_of id posts ≡ None → posts ++ record { id = id; standing = s }
    ∷ [] ≡ with_standing posts id s
comes_last [] id s none = refl
comes_last (q ∷ posts) id s none =
    elim (either (nat_eq q.id id)) [
      | inl here ↦ absurd (none-some 0 (sym none ∙ ap (λ b. place_in_rest b (place_of id posts)) here))
      | inr other ↦
          ap (λ l. q ∷ l) (comes_last posts id s (no_place (place_of id posts) (ap (λ b. place_in_rest b (place_of id posts)) (sym other) ∙ none)))
          ∙ sym (ap (λ b. cond b (post id s ∷ posts) (q ∷ with_standing posts id s)) other)
    ]

own : (id : ℕ) → nat_eq id id ≡ true
own id = grind arith

-- the standing that was there before makes no difference
pub put_over : (posts : List Post) (id : ℕ) (r s : Standing) → with_standing (with_standing posts id r) id s ≡ with_standing posts id s
put_over [] id r s = ap (λ b. cond b (post id s ∷ []) (post id r ∷ post id s ∷ [])) (own id)
put_over (q ∷ posts) id r s =
    elim (either (nat_eq q.id id)) [
      | inl here ↦
          ap (λ l. with_standing l id s) (ap (λ b. cond b (post id r ∷ posts) (q ∷ with_standing posts id r)) here)
          ∙ ap (λ b. cond b (post id s ∷ posts) (post id r ∷ with_standing posts id s)) (own id)
          ∙ sym (ap (λ b. cond b (post id s ∷ posts) (q ∷ with_standing posts id s)) here)
      | inr other ↦
          ap (λ l. with_standing l id s) (ap (λ b. cond b (post id r ∷ posts) (q ∷ with_standing posts id r)) other)
          ∙ ap (λ b. cond b (post id s ∷ with_standing posts id r) (q ∷ with_standing (with_standing posts id r) id s)) other
          ∙ ap (λ l. q ∷ l) (put_over posts id r s)
          ∙ sym (ap (λ b. cond b (post id s ∷ posts) (q ∷ with_standing posts id s)) other)
    ]

-- Nodes as they are held

abbrev held : ℕ → HeldStanding → HeldPost
held id s = record { id = id; standing = s }

-- the invariant holds of all of these
abbrev pub AllMemberNodes : Tables → List HeldPost → Type 0
AllMemberNodes roster posts = All (λ q. IsSound roster q.id q.standing) posts

module _ (posts : List HeldPost) (id at : ℕ) (p : HeldPost) (place : place_of id (map post_of posts) ≡ Some at) (below : at < length posts)
    (read : p ≡ get_or posts at p) where
  pub held_at : IsAt (map post_of posts) id at (post_of p)
  held_at = is_at (map post_of posts) id at (post_of p) place
      (slice_get-map post_of posts at ∙ ap (option_map post_of) (slice_get_read posts (length posts) at p refl below read))

  -- the node has this standing now
  pub put_there : (s : HeldStanding) → map post_of (set posts at (record { id = p.id; standing = s })) ≡ with_standing (map post_of posts) id (standing_of s)
  put_there s =
      map-set post_of posts at (held p.id s)
      ∙ ap (λ n. set (map post_of posts) at (post n (standing_of s))) held_at.named
      ∙ sym (held_at.with_it (standing_of s))

  pub put_twice : (s : HeldStanding) (later : Standing) → with_standing (map post_of (set posts at (record { id = p.id; standing = s }))) id
      later ≡ with_standing (map post_of posts) id later
  put_twice s later = ap (λ l. with_standing l id later) (put_there s) ∙ put_over (map post_of posts) id (standing_of s) later

  pub sound_there : (roster : Tables) → AllMemberNodes roster posts → IsSound roster id p.standing
  sound_there roster nodes =
      subst (λ n. IsSound roster n p.standing) held_at.named (subst (λ (q : HeldPost). IsSound roster q.id q.standing) (sym read) (nodes at p below))

  pub nodes_there : (roster : Tables) (s : HeldStanding) → AllMemberNodes roster posts → IsSound roster id s →
      AllMemberNodes roster (set posts at (record { id = p.id; standing = s }))
  nodes_there roster s nodes sound =
      All-set (λ (q : HeldPost). IsSound roster q.id q.standing) posts at (held p.id s) (subst (λ n. IsSound roster n s) (sym held_at.named) sound) nodes

module _ (posts : List HeldPost) (id : ℕ) (s : HeldStanding) (none : place_of id (map post_of posts) ≡ None) where
  pub put_last : map post_of (posts ++ record { id = id; standing = s } ∷ []) ≡ with_standing (map post_of posts) id (standing_of s)
  put_last = map-append post_of posts (held id s ∷ []) ∙ comes_last (map post_of posts) id (standing_of s) none

  pub nodes_last : (roster : Tables) → AllMemberNodes roster posts → IsSound roster id s → AllMemberNodes roster
      (posts ++ record { id = id; standing = s } ∷ [])
  nodes_last roster nodes sound = All-push (λ (q : HeldPost). IsSound roster q.id q.standing) posts (held id s) nodes sound

pub no_member_nodes : (roster : Tables) (posts : List HeldPost) → map post_of posts ≡ [] → AllMemberNodes roster posts
no_member_nodes roster [] is = λ k d h. absurd (omega arith)
no_member_nodes roster (p ∷ posts) is = absurd (cc)
