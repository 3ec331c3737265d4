-- Where the events of a note stand in a run: after those of all notes before it. So of two notes
-- the events of the first stand before those of the second.
use Rattle.std.proofs.Common.{◌≡◌, ℕ, zero, suc, ◌+◌, ◌-◌, ◌≤◌, ◌<◌, List, [], ◌∷◌, ◌++◌, length, Some, refl, sym, ◌∙◌, ap, subst, inl, inr, arith}
use Rattle.std.proofs.Common.{length-append}
use Rattle.std.specs.Prelude.{slice_get}
use Rattle.std.proofs.lemmas.Option.{same_Some}
use Rattle.values_tables.specs.declared.plain.Tables.{Tables}
use Rattle.world_rules.specs.World.{new_world}
use Rattle.world_rules.specs.Run.{Step, Run, IsItem}
use Rattle.run_rules.specs.Notes.{Note, Opens, Steps, Closes, Calls}
use Rattle.run_rules.specs.Recorded.{Progress, Stands, AllStand, beginning}
use Rattle.run_rules.proofs.Running.{note_leads, runs_join}

-- a run from a new world leads to this progress, and its master has the purges of its world
pub record IsReached (t : Tables) (p : Progress) : Type 0 where
  pub past : List Step
  pub run : Run t 1 (new_world t) past p.world
  pub place : p.place ≡ 1 + length past
  pub master : p.world.master ≡ p.master.purges

pub begins : (t : Tables) → IsReached t (beginning t)
begins t = record { past = []; run = refl; place = omega arith; master = refl }

-- the same purges stand after a note
kept_where : (t : Tables) (p q : Progress) → q ≡ p → p.world.master ≡ p.master.purges → q.world.master ≡ q.master.purges
kept_where t p q same is = subst (λ (x : Progress). x.world.master ≡ x.master.purges) (sym same) is

purges_kept : (t : Tables) (p q : Progress) (note : Note) (steps : List Step) → Stands t p note steps q → p.world.master ≡ p.master.purges →
    q.world.master ≡ q.master.purges
purges_kept t p q (Opens id state) steps (member, inl (none, same, kept)) is = kept_where t p q same is
purges_kept t p q (Opens id state) steps (member, inr (these, goes, again)) is = goes.purges
purges_kept t p q (Steps id e is_closed kept) steps (inl (outcome, taken, same)) is = taken.goes.purges
purges_kept t p q (Steps id e is_closed kept) steps (inr (fault, refused, none, same, stays)) is = kept_where t p q same is
purges_kept t p q (Closes id place state) steps (none, same, kept) is = kept_where t p q same is
purges_kept t p q (Calls e is_closed) steps (next, calls, these, goes) is = goes.purges

goes_on : (t : Tables) (p q : Progress) (note : Note) (steps : List Step) → IsReached t p → Stands t p note steps q → IsReached t q
goes_on t p q note steps reached stands =
    let leads = note_leads t p q note steps stands in
    record {
      past = reached.past ++ steps;
      run = runs_join t 1 p.place (new_world t) p.world q.world reached.past steps reached.place reached.run leads.run;
      place = omega (leads.place, reached.place, length-append reached.past steps, arith);
      master = purges_kept t p q note steps stands reached.master;
    }

-- a note of the run: it stands for these events, which begin after this many others
pub record Placed (t : Tables) (steps : List Step) (note : Note) : Type 0 where
  pub offset : ℕ
  pub here : List Step
  pub from : Progress
  pub to : Progress
  pub reached : IsReached t from
  pub stands : Stands t from note here to
  pub at : (k : ℕ) (step : Step) → IsItem here k step → IsItem steps (offset + k) step

slice_get-behind : {X : Type 0} (xs ys : List X) (k n : ℕ) → n ≡ length xs + k → slice_get (xs ++ ys) n ≡ slice_get ys k
slice_get-behind [] ys k n is = ap (λ i. slice_get ys i) (omega (is, arith))
slice_get-behind (x ∷ xs) ys k zero is = absurd (omega (is, arith))
slice_get-behind (x ∷ xs) ys k (suc n) is = slice_get-behind xs ys k n (omega (is, arith))

slice_get-before : {X : Type 0} (xs ys : List X) (k : ℕ) (x : X) → slice_get xs k ≡ Some x → slice_get (xs ++ ys) k ≡ Some x
slice_get-before [] ys k x h = cc
slice_get-before (a ∷ xs) ys zero x h = h
slice_get-before (a ∷ xs) ys (suc k) x h = slice_get-before xs ys k x h

-- an item keeps its number, plus the length of what stands before it
item_behind : {X : Type 0} (xs ys : List X) (k : ℕ) (x : X) → IsItem ys k x → IsItem (xs ++ ys) (length xs + k) x
item_behind xs ys k x (low, is) = (omega (arith, low), slice_get-behind xs ys (k - 1) (length xs + k - 1) (omega (arith, low)) ∙ is)

item_before : {X : Type 0} (xs ys : List X) (k : ℕ) (x : X) → IsItem xs k x → IsItem (xs ++ ys) k x
item_before xs ys k x (low, is) = (low, slice_get-before xs ys (k - 1) x is)

first_placed : (t : Tables) (p q : Progress) (note : Note) (here rest steps : List Step) → IsReached t p → Stands t p note here q → steps ≡ here ++ rest →
    Placed t steps note
first_placed t p q note here rest steps reached stands parts = record {
  offset = 0;
  here = here;
  from = p;
  to = q;
  reached = reached;
  stands = stands;
  at = λ k step is. subst (λ (n : ℕ). IsItem steps n step) (omega arith)
      (subst (λ (s : List Step). IsItem s k step) (sym parts) (item_before here rest k step is));
}

later_placed : (t : Tables) (note : Note) (here rest steps : List Step) → steps ≡ here ++ rest → Placed t rest note → Placed t steps note
later_placed t note here rest steps parts it = record {
  offset = length here + it.offset;
  here = it.here;
  from = it.from;
  to = it.to;
  reached = it.reached;
  stands = it.stands;
  at = λ k step is.
      subst (λ (n : ℕ). IsItem steps n step) (omega arith)
      (subst (λ (s : List Step). IsItem s (length here + (it.offset + k)) step) (sym parts) (item_behind here rest (it.offset + k) step (it.at k step is)));
}

-- each note of a run has its place among the events
place_at : (t : Tables) (notes : List Note) (p q : Progress) (steps : List Step) → IsReached t p → AllStand t p notes steps q → (k : ℕ) (note : Note) →
    slice_get notes k ≡ Some note → Placed t steps note
place_at t [] p q steps reached all k note is = cc
place_at t (first ∷ notes) p q steps reached (here, rest, next, stands, parts, more) zero note is =
    subst (λ (n : Note). Placed t steps n) (same_Some first note is) (first_placed t p next first here rest steps reached stands parts)
place_at t (first ∷ notes) p q steps reached (here, rest, next, stands, parts, more) (suc k) note is =
    later_placed t note here rest steps parts (place_at t notes next q rest (goes_on t p next first here reached stands) more k note is)

-- of two notes the events of the first stand before those of the second
pub record BothPlaced (t : Tables) (steps : List Step) (one other : Note) : Type 0 where
  pub first : Placed t steps one
  pub second : Placed t steps other
  pub apart : first.offset + length first.here ≤ second.offset

both_at : (t : Tables) (notes : List Note) (p q : Progress) (steps : List Step) → IsReached t p → AllStand t p notes steps q → (j k : ℕ) (one other : Note) →
    j < k → slice_get notes j ≡ Some one → slice_get notes k ≡ Some other → BothPlaced t steps one other
unfolding first_placed later_placed
both_at t [] p q steps reached all j k one other before is is_other = cc
both_at t (first ∷ notes) p q steps reached all j zero one other before is is_other = absurd (omega (arith, before))
both_at t (first ∷ notes) p q steps reached (here, rest, next, stands, parts, more) zero (suc k) one other before is is_other =
    subst (λ (n : Note). BothPlaced t steps n other) (same_Some first one is)
    record {
      first = first_placed t p next first here rest steps reached stands parts;
      second = later_placed t other here rest steps parts (place_at t notes next q rest (goes_on t p next first here reached stands) more k other is_other);
      apart = omega arith;
    }
both_at t (first ∷ notes) p q steps reached (here, rest, next, stands, parts, more) (suc j) (suc k) one other before is is_other =
    let both = both_at t notes next q rest (goes_on t p next first here reached stands) more j k one other (omega (arith, before)) is is_other in
    record {
      first = later_placed t one here rest steps parts both.first;
      second = later_placed t other here rest steps parts both.second;
      apart =
          omega (arith, both.apart);
    }

module _ (t : Tables) (notes : List Note) (steps : List Step) (end : Progress) (all : AllStand t (beginning t) notes steps end) where
  pub placed : (number : ℕ) (note : Note) → IsItem notes number note → Placed t steps note
  placed number note (low, is) = place_at t notes (beginning t) end steps (begins t) all (number - 1) note is

  pub both_placed : (number later : ℕ) (one other : Note) → number < later → IsItem notes number one → IsItem notes later other → BothPlaced t steps one other
  both_placed number later one other before (low, is) (lower, is_other) =
      both_at t notes (beginning t) end steps (begins t) all (number - 1) (later - 1) one other (omega (arith, before, low)) is is_other
