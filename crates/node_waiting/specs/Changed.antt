-- How far a pending request is, and a request that is as far as this.
use Rattle.node_rules.specs.declared.state.Pending.{Pending}
use Rattle.node_waiting.specs.declared.progress.Progress.{Progress}

-- How far the request is.
abbrev pub progress_of : {X : Type 0} → Pending X → Progress X
progress_of p = record { round = p.round; tried = p.tried; fetches = p.fetches; reads = p.reads; fetch = p.fetch }

-- The request, as far as this.
abbrev pub with_progress : {X : Type 0} → Pending X → Progress X → Pending X
with_progress p progress = record p {
  round = progress.round;
  tried = progress.tried;
  fetches = progress.fetches;
  reads = progress.reads;
  fetch = progress.fetch;
}
