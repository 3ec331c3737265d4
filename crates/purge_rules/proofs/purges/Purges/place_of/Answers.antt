use Rattle.std.proofs.Common.{rules}
use Rattle.std.proofs.lemmas.List.Sorted.{answers_always}
use Rattle.purge_rules.proofs.Finding.{place_found, none_found}
use Rattle.purge_rules.proofs.purges.Purges.place_of.Goals as goal

pub returns-in-Ok-clause-place : goal.returns-in-Ok-clause-place
returns-in-Ok-clause-place c =
    let by_number = c.in-Ok.ensures.position (λ purge. purge.number) (answers_always _ _ _ (λ f a r h called. search rules)) in
    rw (← c.self.view_is, ← c.deref.ensures.value) (place_found _ c.args.number _ c.in-Ok.ensures.bound by_number)

pub returns-in-Err-clause-place : goal.returns-in-Err-clause-place
returns-in-Err-clause-place c =
    let by_number = c.in-Err.ensures.position (λ purge. purge.number) (answers_always _ _ _ (λ f a r h called. search rules)) in
    rw (← c.self.view_is, ← c.deref.ensures.value) (none_found _ c.args.number _ (rw c.deref.ensures.value c.self.invariant.ascend) by_number)
