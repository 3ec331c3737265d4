use Rattle.std.proofs.Common.{◌≡◌, ◌+◌, ◌≤◌, length}
use Rattle.std.specs.List.{prefix_len}
use Rattle.url_key.specs.Plain.{is_host_byte}
use Rattle.url_key.proofs.plain.host_length.Given as goal

abbrev pub invariant-loop-rest : goal.invariant-loop-rest
invariant-loop-rest l =
    (length l.rest ≤ length l.text) × (prefix_len is_host_byte l.text + length l.rest ≡ length l.text + prefix_len is_host_byte l.rest)

abbrev pub decreases-loop-rest : goal.decreases-loop-rest
decreases-loop-rest l = length l.rest
