-- For the contracts of `Purges`: where a purge stands in the list, which addition is undone, what
-- setting the last number and the admissions gives, and the two parts of ending a number.
use Rattle.std.specs.Prelude.{◌≡◌, ◌≢◌, ℕ, ◌<◌, All, List, length}
use Rattle.std.specs.List.{HoldsAt}
use Rattle.purge_rules.specs.declared.purges.Purge.{Purge}
use Rattle.purge_rules.specs.declared.purges.Admission.{Admission}
use Rattle.purge_rules.specs.Purges.{PurgeList, AreNumbered, with_purge, with_admission, others, ended_at}

-- the purge at this index has this number
pub record IsPlaceOf (purges : List Purge) (number place : ℕ) : Type 0 where
  pub in_range : place < length purges
  pub is_of_it : HoldsAt (λ p. p.number ≡ number) purges place

-- no purge has this number
abbrev pub IsAbsent : List Purge → ℕ → Type 0
IsAbsent purges number = All (λ p. p.number ≢ number) purges

-- they are purges whose last number was this, with one purge added
pub record CameBy (now : PurgeList) (last : ℕ) : Type 0 where
  pub before : PurgeList
  pub number : ℕ
  pub key : List ℕ
  pub numbered : AreNumbered before
  pub is : now ≡ with_purge before number key
  pub same : last ≡ before.last

-- they are purges whose last number was this, with one admission added
pub record CameByAdmission (now : PurgeList) (last : ℕ) : Type 0 where
  pub before : PurgeList
  pub number : ℕ
  pub id : ℕ
  pub numbered : AreNumbered before
  pub is : now ≡ with_admission before number id
  pub same : last ≡ before.last

-- the last number is this one; the numbers up to it that are not pending are done
abbrev pub given_to : PurgeList → ℕ → PurgeList
given_to purges last = record purges { last = last }

-- the admissions are these
abbrev pub with_admissions : PurgeList → List Admission → PurgeList
with_admissions purges admissions = record purges { admissions = admissions }

-- the purges without the pending purge of this number
abbrev pub without_purge : PurgeList → ℕ → PurgeList
without_purge purges number = record purges { pending = others number purges.pending }

-- the purges with the admission of this number done
abbrev pub with_ended : PurgeList → ℕ → PurgeList
with_ended purges number = record purges { admissions = ended_at number purges.admissions }
