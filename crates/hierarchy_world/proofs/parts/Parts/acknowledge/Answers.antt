-- The status is reported of the world in which the response is counted.
use Rattle.std.proofs.Common.{◌≡◌, ap, subst, ◌∙◌}
use Rattle.purge_rules.specs.declared.nodes.Nodes.{Nodes}
use Rattle.purge_rules.specs.declared.calls.MasterCall.TheVariants as call
use Rattle.purge_rules.specs.Needed.{nodes_of}
use Rattle.purge_rules.specs.Purges.{PurgeList}
use Rattle.purge_rules.specs.Calls.{Calls, acknowledged, status_of}
use Rattle.purge_master.specs.View.{acknowledge_outcome}
use Rattle.world_rules.specs.Consequence.{Reported, with_master}
use Rattle.hierarchy_world.specs.Parts.{seen_of, world_of}
use Rattle.hierarchy_world.proofs.Reaching.{acknowledged_left}
use Rattle.hierarchy_world.proofs.parts.Parts.acknowledge.Goals as goal

pub returns-in-Ok : goal.returns-in-Ok
returns-in-Ok c =
    let old = c.args.self.now in
    let master = c.acknowledge.new.self in
    let counted : master.state.purges ≡ (acknowledged (nodes_of old.roster) old.master.state.purges c.args.id c.args.number c.args.code).purges =
    acknowledged_left old.master.nodes old.master.state master.state c.args.id c.args.number c.args.code c.in-Ok.field-0 c.requires.master.is_open
    (subst (λ r. Calls old.master.nodes old.master.state (call.Acknowledge c.args.id c.args.number c.args.code) (acknowledge_outcome r) master.state) c.in-Ok.is
    c.acknowledge.ensures.call)
    ∙ ap (λ (n : Nodes). (acknowledged n old.master.state.purges c.args.id c.args.number c.args.code).purges) c.requires.master.nodes in
    record {
      sound = c.status.ensures.sound;
      roster = c.status.ensures.roster;
      place = c.status.ensures.place;
      lacked_nothing = c.status.ensures.lacked_nothing;
      takes = subst
          (λ (p : PurgeList). (seen_of c.status.result ≡ Reported c.args.number (status_of (nodes_of old.roster) p c.args.number))
          × (with_master (world_of old) master.state.purges ≡ with_master (world_of old) p)) counted c.status.ensures.takes;
    }
