-- An origin's response, by the request that has serial and key, and by its present fetch.
use Rattle.std.proofs.Common.{◌≡◌, ◌∙◌, Some, find, slice_get, sym}
use Rattle.node_rules.specs.Arrivals.{is_fetch, origin_answer}
use Rattle.node_core.specs.View.{setting_of}
use Rattle.node_core.proofs.GoingOn.{leads_by}
use Rattle.node_core.proofs.Arrive.{none_reads, reads_origin, reads_nothing}
use Rattle.node_core.proofs.node.Node.origin_answer.Goals as goal

pub returns-in_default-clause-leads : goal.returns-in_default-clause-leads
unfolding origin_answer
returns-in_default-clause-leads g c = λ key_of.
    none_reads (setting_of c.args.self.now key_of) c.args.self.now.state c.args.answer c.args.now c.args.mark _ c.in_default.ensures.found

pub returns-in-AtOrigin-clause-leads : goal.returns-in-AtOrigin-clause-leads
unfolding origin_answer
returns-in-AtOrigin-clause-leads g c = λ key_of.
    let ask = c.ask.result.now in
    let there : slice_get c.args.self.now.state.pending c.in-Some.place ≡ Some ask = rw (← c.self.view_is) c.ask.ensures.value in
    let found : find (is_fetch c.args.serial c.args.key.now) c.args.self.now.state.pending ≡ Some ask = sym c.in-Some.ensures.found ∙ there in
    let leads = rw there at (c.origin_gave.ensures.leads key_of) in
    leads_by _ _ _ _ _ (reads_origin (setting_of c.args.self.now key_of) c.args.self.now.state c.args.answer c.args.now c.args.mark _ ask c.in-AtOrigin.stamp
    c.in-AtOrigin.asked c.in-AtOrigin.read_mark found c.in-AtOrigin.is) leads

pub returns-in_default-fetch-clause-leads : goal.returns-in_default-fetch-clause-leads
unfolding origin_answer
returns-in_default-fetch-clause-leads g c = λ key_of.
    let ask = c.ask.result.now in
    let there : slice_get c.args.self.now.state.pending c.in-Some.place ≡ Some ask = rw (← c.self.view_is) c.ask.ensures.value in
    let found : find (is_fetch c.args.serial c.args.key.now) c.args.self.now.state.pending ≡ Some ask = sym c.in-Some.ensures.found ∙ there in
    reads_nothing (setting_of c.args.self.now key_of) c.args.self.now.state c.args.answer c.args.now c.args.mark _ ask found c.in_default-fetch.not-AtOrigin
