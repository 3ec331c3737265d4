use Rattle.std.proofs.Common.{◌≡◌, ◌++◌, take, flat_map}
use Rattle.cli_answer.specs.Answer.{sent_hex}
use Rattle.cli_answer.proofs.answer.push_datagrams.Given as goal

abbrev pub invariant-loop-datagram : goal.invariant-loop-datagram
invariant-loop-datagram l = l.text.items ≡ l.fn.text.items ++ flat_map sent_hex (take l.datagram-index l.sent)
