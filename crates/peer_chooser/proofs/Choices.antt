-- The laws of every choice, by the cases of `choice`: a good hit, a parent's miss, waiting, the
-- origin. What `find` returns is in the list of answers and passes its test.
use Rattle.std.proofs.Common.{◌≡◌, ◌≢◌, inl, inr, ℕ, suc, ◌&&◌, Bool, true, false, cond, List, [], ◌∷◌, Option, Some, None, refl, subst, arith}
use Rattle.std.specs.Prelude.{Contains}
use Rattle.std.specs.List.{find}
use Rattle.std.proofs.lemmas.Bool.{and_parts}
use Rattle.values_tables.specs.Roles.{is_parent}
use Rattle.peer_chooser.specs.declared.said.FirstAnswer.{FirstAnswer}
use Rattle.peer_chooser.specs.declared.said.Source.TheVariants as source
use Rattle.peer_chooser.specs.Round.{RoundText, ended}
use Rattle.peer_chooser.specs.Choice.{choice, from, from_hit, from_parent, is_over, is_open, is_hit, is_miss, is_good_hit, is_parent_miss}
use Rattle.peer_chooser.specs.Laws.{FollowsAnswer, EachChoiceFollows, NoneWaitsInTheEnd}

-- what is found is in the list and passes
found : (p : FirstAnswer → Bool) (ts : List FirstAnswer) (t : FirstAnswer) → find p ts ≡ Some t → Contains ts t × (p t ≡ true)
found p [] t is = cc
found p (s ∷ ts) t is = by_cases (p s) refl is (found p ts t)
  where
    by_cases : (passes : Bool) → p s ≡ passes → cond passes (Some s) (find p ts) ≡ Some t → (find p ts ≡ Some t → Contains ts t × (p t ≡ true)) →
        Contains (s ∷ ts) t × (p t ≡ true)
    by_cases true passes here further =
        let same : s ≡ t = cc in
        ((0, omega arith, same), subst (λ (x : FirstAnswer). p x ≡ true) same passes)
    by_cases false other later further =
        let there = further later in
        ((suc there.0.0, omega (arith, there.0.1), there.0.2), there.1)

module _ (r : RoundText) (floor : ℕ) (tried : List ℕ) (id : ℕ) (only : Bool) where
  after_a_hit : (t : FirstAnswer) → find (is_good_hit floor tried) r.answers ≡ Some t → from t.peer ≡ source.Peer id only → FollowsAnswer r floor tried id only
  after_a_hit t is goes =
      let there = found (is_good_hit floor tried) r.answers t is in
      let parts = and_parts (is_open floor tried t.peer) (is_hit floor t.said) there.1 in
      record { answer = t; answered = there.0; peer = cc; sibling = cc; untried = parts.0; useful = inl parts.1 }

  after_a_miss : (o : Option FirstAnswer) → find (is_parent_miss floor tried) r.answers ≡ o → from_parent o ≡ source.Peer id only →
      FollowsAnswer r floor tried id only
  after_a_miss None is goes = cc
  after_a_miss (Some t) is goes =
      let there = found (is_parent_miss floor tried) r.answers t is in
      let parts = and_parts (is_open floor tried t.peer) (is_parent t.peer.role && is_miss t.said) there.1 in
      record {
        answer = t;
        answered = there.0;
        peer = cc;
        sibling = cc;
        untried = parts.0;
        useful =
            inr (and_parts (is_parent t.peer.role) (is_miss t.said) parts.1);
      }

  without_a_hit : (over : Bool) → cond over (from_parent (find (is_parent_miss floor tried) r.answers)) source.Wait ≡ source.Peer id only →
      FollowsAnswer r floor tried id only
  without_a_hit true goes = after_a_miss (find (is_parent_miss floor tried) r.answers) refl goes
  without_a_hit false goes = cc

  by_hit : (o : Option FirstAnswer) → find (is_good_hit floor tried) r.answers ≡ o → from_hit r floor tried o ≡ source.Peer id only →
      FollowsAnswer r floor tried id only
  by_hit (Some t) is goes = after_a_hit t is goes
  by_hit None is goes = without_a_hit (is_over r) goes

pub each_choice_follows : EachChoiceFollows
unfolding choice
each_choice_follows r floor tried id only goes = by_hit r floor tried id only (find (is_good_hit floor tried) r.answers) refl goes

parent_is_no_wait : (o : Option FirstAnswer) → from_parent o ≢ source.Wait
parent_is_no_wait None wait = cc
parent_is_no_wait (Some t) wait = cc

expired_is_no_wait : (r : RoundText) (floor : ℕ) (tried : List ℕ) (o : Option FirstAnswer) → from_hit (ended r) floor tried o ≢ source.Wait
expired_is_no_wait r floor tried (Some t) wait = cc
expired_is_no_wait r floor tried None wait = parent_is_no_wait (find (is_parent_miss floor tried) r.answers) wait

pub none_waits_in_the_end : NoneWaitsInTheEnd
unfolding choice
none_waits_in_the_end r floor tried wait = expired_is_no_wait r floor tried (find (is_good_hit floor tried) r.answers) wait
