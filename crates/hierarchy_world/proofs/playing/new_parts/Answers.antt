use Rattle.std.proofs.Common.{◌∙◌, ap, refl}
use Rattle.purge_rules.specs.Purges.{PurgeList}
use Rattle.purge_rules.specs.Calls.{opened}
use Rattle.hierarchy_world.proofs.Starting.{new_sound, new_is}
use Rattle.hierarchy_world.proofs.playing.new_parts.Goals as goal

pub returns-clause-sound : goal.returns-clause-sound
returns-clause-sound c =
    new_sound (record {
      alloc = c.args.alloc;
      roster = c.in_ok-copy.field-0;
      nodes = c.in_ok-nodes.nodes;
      master = c.in-Ok.master;
      clock = 0;
      datagrams =
          c.new-2.result;
      asks = c.new-3.result;
      answers = c.new-4.result;
      waiting = c.new-5.result;
      place = 1;
    })
    c.args.roster.now c.in_ok-copy.ensures.value c.in_ok-nodes.ensures.made c.in-Ok.ensures.nodes
    (c.in-Ok.ensures.state tt ∙ ap (λ (p : PurgeList). opened p) c.new.ensures)

pub returns-clause-world : goal.returns-clause-world
returns-clause-world c =
    new_is (record {
      alloc = c.args.alloc;
      roster = c.in_ok-copy.field-0;
      nodes = c.in_ok-nodes.nodes;
      master = c.in-Ok.master;
      clock = 0;
      datagrams =
          c.new-2.result;
      asks = c.new-3.result;
      answers = c.new-4.result;
      waiting = c.new-5.result;
      place = 1;
    })
    c.args.roster.now c.in_ok-nodes.ensures.made (c.in-Ok.ensures.state tt ∙ ap (λ (p : PurgeList). opened p) c.new.ensures) refl c.new-2.ensures.items
    c.new-3.ensures.items c.new-4.ensures.items c.new-5.ensures.items
