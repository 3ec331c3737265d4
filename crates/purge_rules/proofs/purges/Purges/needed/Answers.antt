use Rattle.std.proofs.Common.{ap, sym, ◌∙◌, filter, not}
use Rattle.purge_rules.specs.Members.{is_among}
use Rattle.purge_rules.specs.Needed.{was_admitted}
use Rattle.purge_rules.proofs.Needing.{needed_is}
use Rattle.purge_rules.proofs.purges.Purges.needed.Goals as goal

pub returns-in-None : goal.returns-in-None
returns-in-None c =
    c.missing_in.ensures ∙ ap (λ ids. filter (λ id. not (is_among id ids)) c.args.nodes.now.members) c.missing_in-outside.ensures
    ∙ needed_is c.args.nodes.now c.args.self.now.admissions c.args.number c.admitted_below-admitted.result
    (λ id. c.admitted_below-admitted.ensures id ∙ ap (λ gs. was_admitted gs c.args.number id) c.admissions.ensures.value) (sym c.in-None.ensures)
