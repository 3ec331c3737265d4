use Rattle.node_seats.specs.Desks.{AreNewSeats}
use Rattle.node_seats.proofs.shared.new_seats.Given as goal

abbrev pub invariant-loop-number : goal.invariant-loop-number
invariant-loop-number g l = AreNewSeats l.number l.row.items
