use Rattle.std.proofs.Common.{◌≡◌, ◌&&◌, drop}
use Rattle.http_lists.specs.Cut.{quoting_behind, is_outside, begins_well, is_well_quoted}
use Rattle.http_lists.proofs.members.is_well_quoted.Given as goal

abbrev pub invariant-loop-octet : goal.invariant-loop-octet
invariant-loop-octet l =
    (begins_well l.state l.lead (drop l.octet-index l.value) && is_outside (quoting_behind l.state (drop l.octet-index l.value))) ≡ is_well_quoted l.value
