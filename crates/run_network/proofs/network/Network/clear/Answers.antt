-- The letters get the CLRs of the number that the call gave, and the rest stays as it is.
use Rattle.std.proofs.Common.{◌≡◌, Some, rules}
use Rattle.roster.specs.Lookups.{member_of}
use Rattle.purge_rules.specs.Clear.{base_clear}
use Rattle.world_rules.specs.Consequence.{clear_to, clears_of}
use Rattle.run_rules.specs.Sent.{clears_by}
use Rattle.run_network.proofs.Posting.{issue_on, admit_on}
use Rattle.run_network.proofs.network.Network.clear.Goals as goal

pub returns-in-Issue-Ok-Issue : goal.returns-in-Issue-Ok-Issue
returns-in-Issue-Ok-Issue c =
    let t = c.args.roster.now in
    let admissions = c.args.purges.now.admissions in
    let number = c.in-Issue-Ok-Issue.number in
    let key = c.in-Issue-Ok-Issue.key in
    let same : clears_of t admissions number key ≡ clears_by t admissions c.args.call.now c.args.answer.now = search rules in
    issue_on c.clear_all.result t c.args.self.now c.clear_all.new.self admissions c.args.call.now c.args.answer.now _ number c.of.result
    c.needed-needed.result key c.of.ensures c.needed-needed.ensures c.clear_all.ensures same (search rules)

pub returns-in-Admit-Ok-Admit : goal.returns-in-Admit-Ok-Admit
returns-in-Admit-Ok-Admit c =
    let t = c.args.roster.now in
    let admissions = c.args.purges.now.admissions in
    let number = c.in-Admit-Ok-Admit.number in
    let id = c.in-Admit-Ok-Admit.member in
    let same : clear_to t (Some (base_clear number)) (member_of t id) ≡ clears_by t admissions c.args.call.now c.args.answer.now = search rules in
    admit_on c.admit.result t c.args.self.now c.admit.new.self admissions c.args.call.now c.args.answer.now _ number id c.admit.ensures same
    (search rules)
