use Rattle.std.proofs.Common.{◌≡◌, ◌++◌, codes, take, flat_map}
use Rattle.cli_world.specs.Shown.{number_shown}
use Rattle.cli_world.proofs.show.push_sent.Given as goal

abbrev pub invariant-loop-number : goal.invariant-loop-number
invariant-loop-number l = l.text.items ≡ l.fn.text.items ++ codes " send" ++ flat_map number_shown (take l.number-index l.sent)
