-- Each call moves octets from the rest of the text to the writer; a call that fails or takes none
-- leaves at least one octet unwritten.
use Rattle.std.proofs.Common.{◌≡◌, ◌==◌, false, length, rules, sym, subst}
use Rattle.values_plain.specs.Writing.{AppendsUpTo}
use Rattle.values_plain.proofs.Laws.{up_to_more, up_to_kept, up_to_none}
use Rattle.values_plain.proofs.write.write_text.Goals as goal

pub loop-rest-preserved : goal.loop-rest-preserved
loop-rest-preserved g c =
    subst (AppendsUpTo _ _ c.args.text.now) (sym c.split_at.ensures.back)
    (up_to_more _ _ _ c.args.text.now c.loop-rest.rest.now c.in-Ok.count c.loop-rest.invariant c.in-Ok.ensures.bytes)

pub returns-in-Ok-eq0 : goal.returns-in-Ok-eq0
returns-in-Ok-eq0 g c =
    let some : (length c.loop-rest.rest.now == 0) ≡ false = cc in
    let zero : c.in-Ok-eq0.field-0 ≡ 0 = search rules in
    up_to_none _ _ _ c.args.text.now c.loop-rest.rest.now c.in-Ok-eq0.field-0 c.loop-rest.invariant some zero c.in-Ok-eq0.ensures.bytes

pub returns-in-Err : goal.returns-in-Err
returns-in-Err g c =
    let some : (length c.loop-rest.rest.now == 0) ≡ false = cc in
    up_to_kept _ _ _ c.args.text.now c.loop-rest.rest.now c.loop-rest.invariant some c.in-Err.ensures.bytes
