use Rattle.std.proofs.Common.{◌≡◌, ◌⊎◌, inl, inr, Err, List, ℕ, Option, refl, ap}
use Rattle.values_lines.specs.declared.fault.RunFault.{RunFault}
use Rattle.values_lines.specs.declared.fault.RunFault.TheVariants.{NoMemory, NoFirstNode}
use Rattle.cli_answer.specs.Answered.{HasNotBegun}
use Rattle.cli_answer.proofs.answer.run_answer.Goals as goal

not_begun : (writer : Option (List ℕ)) (fault : RunFault) → (fault ≡ NoMemory) ⊎ (fault ≡ NoFirstNode) → HasNotBegun writer writer (Err fault)
not_begun writer fault (inl e) = record { refused = inl (ap Err e); unwritten = refl }
not_begun writer fault (inr e) = record { refused = inr (ap Err e); unwritten = refl }

pub returns : goal.returns
returns g c = inl record { start = record { node = c.in-Ok.node }; end = c.play.new.script; first = c.in-Ok.ensures.ok; played = c.play.ensures }

pub returns-in-Err : goal.returns-in-Err
returns-in-Err g c = inr (not_begun (g.W.Write.contents c.args.writer.now) c.in-Err.fault c.in-Err.ensures.err)
