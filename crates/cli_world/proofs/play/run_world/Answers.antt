use Rattle.std.proofs.Common.{inl, refl}
use Rattle.cli_world.proofs.play.run_world.Goals as goal

pub returns : goal.returns
returns g c =
    inl record {
      start = record { world = c.in-Ok.world; lines = 0 };
      end = c.play.new.script;
      first = record { world = c.in-Ok.ensures.made; lines = refl };
      played = c.play.ensures;
    }
