use Rattle.std.proofs.Common.{arith}
use Rattle.url_key.specs.Plain.{is_host_byte}
use Rattle.url_key.proofs.FourLemmas.{run_behind_four}
use Rattle.url_key.proofs.plain.host_length.Goals as goal

pub loop-rest-preserved : goal.loop-rest-preserved
loop-rest-preserved c =
    let more =
    run_behind_four is_host_byte c.loop-rest.rest.now _ _ _ _ c.in-len4-up.len_at_least c.is_host_byte.ensures c.is_host_byte-in-len4-up.ensures
    c.is_host_byte-in-len4-up-2.ensures c.is_host_byte-in-len4-up-3.ensures c.if-not-is_host_byte.false in
    let kept = c.loop-rest.invariant in
    (omega arith, omega arith)
