use Rattle.std.proofs.Common.{◌∙◌}
use Rattle.hierarchy_world.proofs.Writing.{made_of}
use Rattle.hierarchy_world.proofs.posting.answer_of_copy.Goals as goal

pub returns : goal.returns
returns c =
    made_of c.args.copy.now.answer c.args.age c.args.copy.now.stamp c.in-Some.answer c.status-status.result c.in_ok-fields.fields c.in_ok-body.body
    c.status-status.ensures.writable c.requires c.status-status.ensures.value (c.in_ok-fields.ensures ∙ c.fields.ensures)
    (c.in_ok-body.ensures ∙ c.body.ensures) c.in-Some.ensures
