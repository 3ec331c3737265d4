use Rattle.std.proofs.Common.{◌≡◌, ◌+◌, ◌++◌, List, take, get_or, subst, add-one}
use Rattle.std.proofs.lemmas.List.{get_or_default}
use Rattle.purge_rules.specs.declared.purges.Admission.{Admission}
use Rattle.cluster_console.specs.Shown.{all_shown, admission_line, pending_head}
use Rattle.cluster_console.proofs.Rows.{rows_more}
use Rattle.cluster_console.proofs.show.push_admissions.Goals as goal

pub loop-admission-preserved : goal.loop-admission-preserved
loop-admission-preserved c =
    let items = c.admissions-admission-items in
    let line = admission_line c.args.nodes.now c.args.purges.now in
    let head = pending_head c.args.purges.now in
    let start = c.args.text.now.items in
    let before = c.loop-admission.text.items in
    let after = c.push_admission_line.new.text.items in
    let index = c.loop-admission.admission-index in
    subst (λ (xs : List Admission). before ≡ start ++ (head ++ all_shown line (take index xs)) →
    after ≡ start ++ (head ++ all_shown line (take (index + 1) xs))) items.ensures.value
    (λ so_far. rows_more line items.result.now index (index + 1) (get_or items.result.now index _) start head before after (add-one index)
    c.loop-admission-test.true (get_or_default items.result.now index _ _ c.loop-admission-test.true) so_far c.in_ok-push_admission_line.ensures)
    c.loop-admission.invariant
