-- One goal for each branch: no such number was given; no member is missing (`Done`); the member was marked (`Nothing`); it was
-- not (`Mark`).
use Rattle.std.proofs.Common.{◌≡◌, ◌<◌, true, false, ap, sym, ◌∙◌, arith}
use Rattle.purge_rules.specs.Members.{with_id, are_among}
use Rattle.purge_master.proofs.NewsLemmas.{done_is, nothing_is, mark_is, not_given}
use Rattle.purge_master.proofs.news.news_of.Goals as goal

pub returns-then-last-number : goal.returns-then-last-number
returns-then-last-number c =
    let later : c.args.purges.now.last < c.args.number = omega (arith, c.last.ensures.value, c.if-last-number.true) in
    not_given c.args.needs c.args.purges.now c.args.member c.args.number c.last.ensures.numbered later

pub returns-then-are_in : goal.returns-then-are_in
returns-then-are_in c =
    let all : are_among c.args.needs (with_id c.args.member c.in-Some.marked) ≡ true = ap (are_among c.args.needs) (sym c.insert.ensures)
    ∙ sym c.are_in.ensures ∙ c.if-are_in.true in
    done_is c.args.needs c.args.purges.now c.args.member c.args.number c.in-Some.marked c.in-Some.ensures c.has-known.result c.has-known.ensures.value
    c.has-known.ensures.again all

pub returns-then-known : goal.returns-then-known
returns-then-known c =
    let some : are_among c.args.needs (with_id c.args.member c.in-Some.marked) ≡ false = ap (are_among c.args.needs) (sym c.insert.ensures)
    ∙ sym c.are_in.ensures ∙ c.if-are_in.false in
    nothing_is c.args.needs c.args.purges.now c.args.member c.args.number c.in-Some.marked c.in-Some.ensures c.last.ensures.numbered
    (sym c.has-known.ensures.value ∙ c.if-known.true) (c.has-known.ensures.again c.if-known.true) some

pub returns-else-known : goal.returns-else-known
returns-else-known c =
    let some : are_among c.args.needs (with_id c.args.member c.in-Some.marked) ≡ false = ap (are_among c.args.needs) (sym c.insert.ensures)
    ∙ sym c.are_in.ensures ∙ c.if-are_in.false in
    mark_is c.args.needs c.args.purges.now c.args.member c.args.number c.in-Some.marked c.in-Some.ensures c.requires.needs.0 c.requires.needs.1
    c.requires.among (sym c.has-known.ensures.value ∙ c.if-known.false) some
