-- The datagrams that are made for all possible ids are the CLRs to the members that the purge needs.
use Rattle.std.proofs.Common.{◌≡◌, ℕ, List, flat_map, ap, ◌∙◌, rules}
use Rattle.purge_rules.specs.declared.nodes.Nodes.{Nodes}
use Rattle.purge_rules.specs.Members.{possible_ids}
use Rattle.purge_rules.specs.Needed.{nodes_of, needed}
use Rattle.purge_rules.specs.Purges.{PurgeList}
use Rattle.world_rules.specs.Consequence.{clear_if, clears_of}
use Rattle.world_rules.proofs.Clears.{clears_to_needed}
use Rattle.hierarchy_world.proofs.parts.Parts.send_clears.Goals as goal

pub returns : goal.returns
returns c =
    let old = c.args.self.now in
    let admissions = old.master.state.purges.admissions in
    let needs : c.needed-needed.result ≡ needed (nodes_of old.roster) admissions c.args.number =
    c.needed-needed.ensures
    ∙ ap (λ (n : Nodes). needed n c.purges.result.now.admissions c.args.number) (c.nodes.ensures ∙ c.requires)
    ∙ ap (λ (p : PurgeList). needed (nodes_of old.roster) p.admissions c.args.number) c.purges.ensures in
    let made : c.in_ok-made.made.items ≡ clears_of old.roster admissions c.args.number c.args.key.now =
    c.in_ok-made.ensures
    ∙ ap (λ (ids : List ℕ). flat_map (clear_if old.roster ids c.args.number c.args.key.now) possible_ids) needs
    ∙ clears_to_needed old.roster admissions c.args.number c.args.key.now in
    search rules
