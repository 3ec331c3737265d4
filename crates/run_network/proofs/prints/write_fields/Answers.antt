use Rattle.run_network.proofs.Printing.{one_more, all_written}
use Rattle.run_network.proofs.prints.write_fields.Goals as goal

pub loop-field-preserved : goal.loop-field-preserved
loop-field-preserved c =
    one_more c.write_usize.new.self c.loop-field.hasher c.write_field.new.hasher c.args.fields.now c.loop-field.field-index c.field-item.result
    c.loop-field-test.true c.field-item.is c.loop-field.invariant c.write_field.ensures

pub returns : goal.returns
returns c = all_written c.args.hasher.now c.write_usize.new.self c.loop-field.hasher c.args.fields.now c.loop-field.field-index c.loop-field-test.false
    c.write_usize.ensures c.loop-field.invariant
