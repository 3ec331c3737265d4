use Rattle.std.proofs.Common.{◌≡◌, ◌∙◌, ap, option_map, sym, Some}
use Rattle.cluster_process.proofs.judge.Judge.judged.Goals as goal

pub returns : goal.returns
returns g c =
    let kept : c.args.self.now.memory.kept ≡ Some c.in-Some.kept.now = sym c.kept.ensures ∙ ap (λ o. option_map (λ k. k.now) o) c.in-Some.is in
    rw (kept, ← c.as_slice-records.ensures.value, ← c.as_slice-entries.ensures.value) c.in_ok-verdict.ensures
