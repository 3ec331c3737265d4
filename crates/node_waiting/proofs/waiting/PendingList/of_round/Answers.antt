-- Finding by the serial of a round: the serial is the first one of the block, or it is not, or no
-- request has the block.
use Rattle.node_waiting.proofs.Finding.{round_found, round_absent, round_where, no_round}
use Rattle.node_waiting.proofs.waiting.PendingList.of_round.Goals as goal

pub returns-in_err-place-clause-found : goal.returns-in_err-place-clause-found
returns-in_err-place-clause-found g c =
    rw c.from_residual.ensures (round_absent c.args.self.now c.args.serial c.in_err-place.ensures.place)

pub returns-in_err-place-clause-found_where : goal.returns-in_err-place-clause-found_where
returns-in_err-place-clause-found_where g c =
    round_where c.args.self.now c.args.serial _ c.in_err-place.ensures.in_order (returns-in_err-place-clause-found g c)

pub returns-then-serial-eq0-clause-found : goal.returns-then-serial-eq0-clause-found
returns-then-serial-eq0-clause-found g c =
    round_found c.args.self.now c.args.serial c.in_ok-place.place c.in_ok-place.ensures.in_order c.in_ok-place.ensures.place c.if-serial-eq0.true

pub returns-then-serial-eq0-clause-found_where : goal.returns-then-serial-eq0-clause-found_where
returns-then-serial-eq0-clause-found_where g c =
    round_where c.args.self.now c.args.serial _ c.in_ok-place.ensures.in_order (returns-then-serial-eq0-clause-found g c)

pub returns-else-serial-eq0-clause-found : goal.returns-else-serial-eq0-clause-found
returns-else-serial-eq0-clause-found g c = no_round c.args.self.now c.args.serial c.if-serial-eq0.false

pub returns-else-serial-eq0-clause-found_where : goal.returns-else-serial-eq0-clause-found_where
returns-else-serial-eq0-clause-found_where g c =
    round_where c.args.self.now c.args.serial _ c.in_ok-place.ensures.in_order (returns-else-serial-eq0-clause-found g c)
