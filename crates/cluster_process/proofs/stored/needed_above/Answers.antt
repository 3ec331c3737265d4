use Rattle.std.proofs.Common.{◌≡◌, true, option_map, sym, ap, ◌∙◌, arith}
use Rattle.purge_rules.specs.Members.{is_among}
use Rattle.cluster_process.proofs.Needs.{needs_no_other, none_needed, never_needed}
use Rattle.cluster_process.proofs.stored.needed_above.Goals as goal

pub returns-then-not-has : goal.returns-then-not-has
returns-then-not-has c number positive within given =
    needs_no_other c.args.nodes.now c.args.given.now.admissions c.args.id number (sym c.has.ensures.value ∙ c.if-not-has.true)

pub returns-in-Some : goal.returns-in-Some
returns-in-Some c number positive within given =
    let joins : is_among c.args.id c.args.nodes.now.joining ≡ true = sym c.has-2.ensures.value ∙ c.if-not-has-2.false in
    none_needed c.args.nodes.now c.args.given.now.admissions c.args.id number c.in-Some.admission.now joins
    c.admission_of.ensures.numbered.admitted.once (sym c.admission_of.ensures.value ∙ ap (option_map (λ a. a.now)) c.in-Some.is)
    (omega (arith, positive, within, c.saturating_sub.ensures))

pub returns-in-None : goal.returns-in-None
returns-in-None c number positive within given =
    let joins : is_among c.args.id c.args.nodes.now.joining ≡ true = sym c.has-2.ensures.value ∙ c.if-not-has-2.false in
    never_needed c.args.nodes.now c.args.given.now.admissions c.args.id number joins
    (sym c.admission_of.ensures.value ∙ ap (option_map (λ a. a.now)) c.in-None.is)
