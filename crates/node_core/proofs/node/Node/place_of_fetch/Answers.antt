use Rattle.std.proofs.Common.{◌≡◌, true, false, rules}
use Rattle.std.specs.Str.{bytes_eq}
use Rattle.node_core.proofs.node.Node.place_of_fetch.Goals as goal

pub returns-in_err-place-clause-found : goal.returns-in_err-place-clause-found
returns-in_err-place-clause-found g c =
    let found = c.in_err-place.ensures.found_where (λ p. bytes_eq p.ask.key c.args.key.now) in
    rw (← c.self.view_is, c.from_residual.ensures) found

pub returns-then-eq-clause-found : goal.returns-then-eq-clause-found
returns-then-eq-clause-found g c =
    let same : bytes_eq c.ask.result.now.ask.key c.args.key.now ≡ true = grind rules in
    let found = rw (c.ask.ensures.value, same) at (c.in_ok-place.ensures.found_where (λ p. bytes_eq p.ask.key c.args.key.now)) in
    rw (← c.self.view_is, c.ask.ensures.value) found

pub returns-else-eq-clause-found : goal.returns-else-eq-clause-found
returns-else-eq-clause-found g c =
    let other : bytes_eq c.ask.result.now.ask.key c.args.key.now ≡ false = grind rules in
    let found = rw (c.ask.ensures.value, other) at (c.in_ok-place.ensures.found_where (λ p. bytes_eq p.ask.key c.args.key.now)) in
    rw (← c.self.view_is) found
