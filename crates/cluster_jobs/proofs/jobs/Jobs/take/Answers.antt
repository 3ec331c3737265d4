use Rattle.std.proofs.Common.{rules, ◌≡◌, ◌∙◌, ap, sym, subst}
use mathlib.Core.List.{IsPrefix}
use Rattle.cluster_jobs.specs.declared.order.View.{View}
use Rattle.cluster_jobs.proofs.Passes.{has_taken}
use Rattle.cluster_jobs.proofs.jobs.Jobs.take.Goals as goal

pub returns-then-begins : goal.returns-then-begins
returns-then-begins g c =
    let before = c.deref_mut.result.now in
    let after = c.take-job.new.self in
    let w : View = record { seen = c.seen-front.result; own = c.take-job.new.own } in
    let same = c.deref.ensures ∙ sym c.deref_mut.ensures.value in
    let known : IsPrefix c.pass.inside.front before.seen =
    subst (IsPrefix c.pass.inside.front) (c.seen.ensures.all ∙ ap (λ b. b.seen) same) c.if-begins.ensures in
    let now : c.seen-front.result ≡ after.seen = search rules in
    rw (← c.pass.view_is) (
    has_taken (record { seen = c.pass.inside.front; own = c.pass.inside.own }) w c.take-job.result before after known
    (rw (← c.loop.invariant.2) c.take-job.ensures) now c.seen-front.ensures.order
    )
