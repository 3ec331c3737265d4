-- What an acknowledgement counts: the number gets the member's mark, or is done if all members that it
-- needs are then marked, as counted of purge_rules says.
use Rattle.std.proofs.Common.{◌≡◌, ℕ, Bool, true, false, cond, List, Some, None, sym, ◌∙◌, ap}
use Rattle.purge_rules.specs.Members.{with_id, are_among}
use Rattle.purge_rules.specs.Purges.{PurgeList, marks_at, with_mark, with_done}
use Rattle.purge_rules.specs.Calls.{Acknowledged, counted}

module _ (needs : List ℕ) (purges : PurgeList) (id number : ℕ) (marked : List ℕ) (is : marks_at purges number ≡ Some marked) where
  abbrev done_so : Acknowledged
  done_so = record { purges = with_done purges number; done = Some number }

  abbrev marked_so : Acknowledged
  marked_so = record { purges = with_mark purges number id; done = None }

  by_test : (b : Bool) → are_among needs (with_id id marked) ≡ b → cond b done_so marked_so ≡ counted needs purges id number (marks_at purges number)
  by_test b test = sym (ap (counted needs purges id number) is ∙ ap (λ t. cond t done_so marked_so) test)

  pub counted_done : are_among needs (with_id id marked) ≡ true → record { purges = with_done purges number; done = Some number }
      ≡ counted needs purges id number (marks_at purges number)
  counted_done test = by_test true test

  pub counted_mark : are_among needs (with_id id marked) ≡ false → record { purges = with_mark purges number id; done = None }
      ≡ counted needs purges id number (marks_at purges number)
  counted_mark test = by_test false test
