-- Finding by the serial of a fetch: the request of the block has begun so many fetches, or it has
-- not, or no request has the block.
use Rattle.std.proofs.Common.{◌≡◌, ◌≢◌, ◌%◌, get_or, arith}
use Rattle.node_waiting.proofs.Finding.{fetch_found, fetch_other, fetch_absent, fetch_where}
use Rattle.node_waiting.proofs.waiting.PendingList.of_fetch.Goals as goal

pub returns-in_err-place-clause-found : goal.returns-in_err-place-clause-found
returns-in_err-place-clause-found g c =
    rw c.from_residual.ensures (fetch_absent c.args.self.now c.args.serial c.in_err-place.ensures.in_order c.in_err-place.ensures.place)

pub returns-then-from-fetches-clause-found : goal.returns-then-from-fetches-clause-found
returns-then-from-fetches-clause-found g c =
    let asks = c.args.self.now in
    let ask = c.index.result.now in
    let read : ask ≡ get_or asks c.in_ok-place.place ask = rw (← c.self.view_is) c.index.ensures in
    let same : ask.fetches ≡ c.args.serial % 32 = omega arith in
    fetch_found asks c.args.serial c.in_ok-place.place ask c.in_ok-place.ensures.in_order c.in_ok-place.ensures.place read same

pub returns-else-from-fetches-clause-found : goal.returns-else-from-fetches-clause-found
returns-else-from-fetches-clause-found g c =
    let asks = c.args.self.now in
    let ask = c.index.result.now in
    let read : ask ≡ get_or asks c.in_ok-place.place ask = rw (← c.self.view_is) c.index.ensures in
    let other : ask.fetches ≢ c.args.serial % 32 = λ same. omega arith in
    fetch_other asks c.args.serial c.in_ok-place.place ask c.in_ok-place.ensures.in_order c.in_ok-place.ensures.place read other

pub returns-in_err-place-clause-found_where : goal.returns-in_err-place-clause-found_where
returns-in_err-place-clause-found_where g c =
    fetch_where c.args.self.now c.args.serial _ c.in_err-place.ensures.in_order (returns-in_err-place-clause-found g c)

pub returns-then-from-fetches-clause-found_where : goal.returns-then-from-fetches-clause-found_where
returns-then-from-fetches-clause-found_where g c =
    fetch_where c.args.self.now c.args.serial _ c.in_ok-place.ensures.in_order (returns-then-from-fetches-clause-found g c)

pub returns-else-from-fetches-clause-found_where : goal.returns-else-from-fetches-clause-found_where
returns-else-from-fetches-clause-found_where g c =
    fetch_where c.args.self.now c.args.serial _ c.in_ok-place.ensures.in_order (returns-else-from-fetches-clause-found g c)
