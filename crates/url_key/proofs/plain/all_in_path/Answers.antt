use Rattle.std.proofs.Common.{◌∙◌}
use Rattle.url_key.specs.Plain.{is_path_byte}
use Rattle.url_key.proofs.FourLemmas.{all_behind_four}
use Rattle.url_key.proofs.plain.all_in_path.Goals as goal

pub loop-rest-preserved : goal.loop-rest-preserved
loop-rest-preserved c =
    c.loop-rest.invariant
    ∙ all_behind_four is_path_byte c.loop-rest.rest.now _ _ _ _ c.in-len4-up.len_at_least c.is_path_byte.ensures c.is_path_byte-in-len4-up.ensures
    c.is_path_byte-in-len4-up-2.ensures c.is_path_byte-in-len4-up-3.ensures c.if-not-is_path_byte.false
