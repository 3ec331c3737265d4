use Rattle.std.proofs.Common.{rules}
use Rattle.std.proofs.lemmas.List.Sorted.{answers_always}
use Rattle.node_waiting.proofs.Finding.{place_found, none_found}
use Rattle.node_waiting.proofs.waiting.PendingList.of_block.Goals as goal

pub returns-in-Ok-clause-place : goal.returns-in-Ok-clause-place
returns-in-Ok-clause-place g c =
    let by_block = c.in-Ok.ensures.position (λ ask. ask.block) (answers_always _ _ _ (λ f a r h called. search rules)) in
    rw (← c.self.view_is, ← c.deref.ensures.value) (place_found _ c.args.block _ c.in-Ok.ensures.bound by_block)

pub returns-in-Err-clause-place : goal.returns-in-Err-clause-place
returns-in-Err-clause-place g c =
    let by_block = c.in-Err.ensures.position (λ ask. ask.block) (answers_always _ _ _ (λ f a r h called. search rules)) in
    rw (← c.self.view_is, ← c.deref.ensures.value) (none_found _ c.args.block _ (rw c.deref.ensures.value c.self.invariant.ascend) by_block)
