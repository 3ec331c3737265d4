use Rattle.run_laws.proofs.Written.{written}
use Rattle.run_laws.proofs.edge.members_are_written_what_the_world_sends.Goals as goal

pub returns : goal.returns
returns c = λ asker served via. written asker served via
