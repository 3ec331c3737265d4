-- The CLR of a pending number is a CLR of that number: the purge, or the admission, is found by its number, so it has it.
use Rattle.std.proofs.Common.{◌≡◌, ℕ, Bool, true, false, ◌==◌, List, [], ◌∷◌, if◌then◌else◌, Option, Some, None, IfSome, Result, Ok, Err, IfOk, find}
use Rattle.std.proofs.Common.{inl, inr, refl, sym, ap, subst, eqb-true}
use Rattle.htcp_wire.specs.declared.message.Htcp.{Htcp}
use Rattle.purge_rules.specs.declared.purges.Purge.{Purge}
use Rattle.purge_rules.specs.declared.purges.Admission.{Admission}
use Rattle.purge_rules.specs.Purges.{PurgeList, is_numbered, pending_at, admission_at}
use Rattle.purge_rules.specs.Clear.{clear, base_clear, message_of_admission, message_by, message_of}
use Rattle.cluster_master.specs.Answers.{IsClearOf}

module _ {X : Type 0} (test : X → Bool) where
  -- by whether the first passes
  by_test : (x : X) (b : Bool) (rest : Option X) → test x ≡ b → IfSome rest (λ y. test y ≡ true) →
      IfSome (if b then Some x else rest) (λ y. test y ≡ true)
  by_test x true rest e h = e
  by_test x false rest e h = h

  -- what is found passes the test
  found_passes : (xs : List X) → IfSome (find test xs) (λ y. test y ≡ true)
  found_passes [] = tt
  found_passes (x ∷ xs) = by_test x (test x) (find test xs) refl (found_passes xs)

-- the CLR of an admission, by whether it is done
by_done : (number : ℕ) (a : Admission) (b : Bool) → (a.number == number) ≡ true → IfSome (if b then None else Some (base_clear a.number)) (IsClearOf number)
by_done number a true e = tt
by_done number a false e = inr (ap base_clear (eqb-true a.number number e))

of_admission : (number : ℕ) (a : Option Admission) → IfSome a (λ a. (a.number == number) ≡ true) → IfSome (message_of_admission a) (IsClearOf number)
of_admission number None e = tt
of_admission number (Some a) e = by_done number a a.is_done e

of_either : (number : ℕ) (p : Option Purge) (a : Option Admission) → IfSome p (λ p. (p.number == number) ≡ true) →
    IfSome a (λ a. (a.number == number) ≡ true) → IfSome (message_by p a) (IsClearOf number)
of_either number None a e f = of_admission number a f
of_either number (Some p) a e f = inl (p.key, ap (λ n. clear n p.key) (eqb-true p.number number e))

clear_found : (number : ℕ) (purges : PurgeList) → IfSome (message_of purges number) (IsClearOf number)
clear_found number purges =
    of_either number (pending_at purges number) (admission_at purges number) (found_passes (is_numbered number) purges.pending)
    (found_passes (λ a. a.number == number) purges.admissions)

-- so is the message that the master gives
pub clear_told : {E : Type 0} (told : Result (Option Htcp) E) (purges : PurgeList) (number : ℕ) →
    IfOk told (λ message. message ≡ message_of purges number) → IfOk told (λ message. IfSome message (IsClearOf number))
clear_told (Ok message) purges number h = subst (λ m. IfSome m (IsClearOf number)) (sym h) (clear_found number purges)
clear_told (Err e) purges number h = tt
