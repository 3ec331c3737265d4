use Rattle.std.proofs.Common.{ap, ◌∙◌, filter, not}
use Rattle.purge_rules.specs.Members.{is_among}
use Rattle.purge_rules.specs.Needed.{needed}
use Rattle.purge_rules.specs.Calls.{unmarked_of}
use Rattle.purge_rules.proofs.purges.Purges.missing.Goals as goal

pub returns-in-Some : goal.returns-in-Some
returns-in-Some c =
    c.missing_in.ensures ∙ ap (filter (λ id. not (is_among id c.in-Some.marked))) c.needed.ensures
    ∙ ap (unmarked_of (needed c.args.nodes.now c.args.self.now.admissions c.args.number)) c.in-Some.ensures
