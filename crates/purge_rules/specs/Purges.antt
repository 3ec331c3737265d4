-- What a master stores: the last number, the pending purges and the admissions. How a purge or an
-- admission is added, marked and ended.
use Rattle.std.specs.Prelude.{◌≢◌, ℕ, ◌+◌, ◌<◌, ◌≤◌, All, Bool, true, false, not, ◌==◌, List, [], ◌∷◌, ◌++◌, map, filter, find, length, Option, Some, None}
use Rattle.std.specs.Prelude.{if◌then◌else◌}
use Rattle.std.specs.List.{AllPairs, list_any}
use Rattle.purge_rules.specs.declared.purges.Purge.{Purge}
use Rattle.purge_rules.specs.declared.purges.Admission.{Admission}
use Rattle.purge_rules.specs.Members.{with_id}
use Rattle.purge_rules.specs.Needed.{admission_in}

-- the last number that was given, 0 if none was, the pending purges in the order of their numbers,
-- and all admissions, pending or done, in the order of theirs [Master 2, 13]
pub record PurgeList : Type 0 where
  pub last : ℕ
  pub pending : List Purge
  pub admissions : List Admission

-- no number was given
abbrev pub no_purges : PurgeList
no_purges = record { last = 0; pending = []; admissions = [] }

-- the numbers of admissions ascend, from 1 to the last number at most; each is of a member of an id
-- of 1 to 16, and no two are of one member [Master 13]
pub record AreAdmissions (last : ℕ) (admissions : List Admission) : Type 0 where
  pub ascend : AllPairs (λ a b. a.number < b.number) admissions
  pub positive : All (λ a. 1 ≤ a.number) admissions
  pub given : All (λ a. a.number ≤ last) admissions
  pub member : All (λ a. (1 ≤ a.member) × (a.member ≤ 16)) admissions
  pub once : AllPairs (λ a b. a.member ≢ b.member) admissions

-- the numbers of pending purges ascend, from 1 to the last number at most, which fits in 32 bits; so
-- do those of admissions, and no number is of both [Master 1]
pub record AreNumbered (p : PurgeList) : Type 0 where
  pub ascend : AllPairs (λ a b. a.number < b.number) p.pending
  pub positive : All (λ a. 1 ≤ a.number) p.pending
  pub given : All (λ a. a.number ≤ p.last) p.pending
  pub last : p.last ≤ 4294967295
  pub admitted : AreAdmissions p.last p.admissions
  pub apart : All (λ a. All (λ b. a.number ≢ b.number) p.admissions) p.pending

-- the purge has this number
abbrev pub is_numbered : ℕ → Purge → Bool
is_numbered number p = p.number == number

-- the pending purge with this number, if there is one
abbrev pub pending_at : PurgeList → ℕ → Option Purge
pending_at purges number = find (is_numbered number) purges.pending

-- the admission with this number, pending or done, if there is one
abbrev pub admission_at : PurgeList → ℕ → Option Admission
admission_at purges number = admission_in purges.admissions number

-- the node has an admission, pending or done
abbrev pub is_admitted : PurgeList → ℕ → Bool
is_admitted purges id = list_any (λ a. a.member == id) purges.admissions

-- how many numbers are pending: purges, and admissions that are not done
abbrev pub pending_count : PurgeList → ℕ
pending_count purges = length purges.pending + length (filter (λ a. not a.is_done) purges.admissions)

-- the marks of an admission: none, as long as it is pending
abbrev pub admission_marks : Option Admission → Option (List ℕ)
admission_marks None = None
admission_marks (Some a) = if a.is_done then None else Some []

-- the marks of a purge, if it is pending; else those of an admission
abbrev pub marks_by : Option Purge → Option Admission → Option (List ℕ)
marks_by (Some p) a = Some p.marked
marks_by None a = admission_marks a

-- the members that have acknowledged the number, if it is pending; else none is given
abbrev pub marks_at : PurgeList → ℕ → Option (List ℕ)
marks_at purges number = marks_by (pending_at purges number) (admission_at purges number)

-- a purge that no member has acknowledged
abbrev pub unmarked : ℕ → List ℕ → Purge
unmarked number key = record { number = number; key = key; marked = [] }

-- a purge of the key is added under this number, which is the last one now
abbrev pub with_purge : PurgeList → ℕ → List ℕ → PurgeList
with_purge purges number key = record purges { last = number; pending = purges.pending ++ unmarked number key ∷ [] }

-- an admission that is pending
abbrev pub admission_of : ℕ → ℕ → Admission
admission_of number id = record { member = id; number = number; is_done = false }

-- an admission of the node is added under this number, which is the last one now
abbrev pub with_admission : PurgeList → ℕ → ℕ → PurgeList
with_admission purges number id = record purges { last = number; admissions = purges.admissions ++ admission_of number id ∷ [] }

-- the purge, with the member marked
abbrev pub marked_by : ℕ → Purge → Purge
marked_by id p = record p { marked = with_id id p.marked }

-- the purges, with the member marked at the purge of this number
abbrev pub with_mark : PurgeList → ℕ → ℕ → PurgeList
with_mark purges number id =
    record purges { pending = map (λ p. if is_numbered number p then marked_by id p else p) purges.pending }

-- the purges but the one of this number
abbrev pub others : ℕ → List Purge → List Purge
others number purges = filter (λ p. not (is_numbered number p)) purges

-- the admission is done
abbrev pub ended : Admission → Admission
ended a = record a { is_done = true }

-- the admissions, with the one of this number done
abbrev pub ended_at : ℕ → List Admission → List Admission
ended_at number admissions = map (λ a. if a.number == number then ended a else a) admissions

-- this number is done: its purge is pending no longer, or its admission is done
abbrev pub with_done : PurgeList → ℕ → PurgeList
with_done purges number =
    record purges { pending = others number purges.pending; admissions = ended_at number purges.admissions }
