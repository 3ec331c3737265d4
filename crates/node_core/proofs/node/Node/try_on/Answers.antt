-- The peer counts as tried and the fetch has ended, so the request can go on.
use Rattle.std.proofs.Common.{◌≡◌, [], ◌∷◌, ◌++◌, Some, slice_get}
use Rattle.node_rules.specs.Arrivals.{try_on, not_fetching}
use Rattle.node_waiting.specs.Changed.{progress_of}
use Rattle.node_core.proofs.Arrive.{can_try_on}
use Rattle.node_core.proofs.node.Node.try_on.Goals as goal

pub go_on-requires-clause-can_go_on : goal.go_on-requires-clause-can_go_on
go_on-requires-clause-can_go_on g c =
    let ask = c.ask-ask.result.now in
    let there : slice_get c.args.self.now.state.pending c.args.place ≡ Some ask = rw (← c.self.view_is) c.ask-ask.ensures.value in
    let fetch = rw there at c.requires.fetch in
    let progress : c.not_fetching-progress.result ≡ progress_of (not_fetching ask (ask.tried ++ c.args.peer ∷ [])) =
    rw (c.in_ok-tried.ensures, c.as_slice.ensures) at c.not_fetching-progress.ensures in
    rw (there, progress) (can_try_on ask c.args.peer fetch.0 c.ask-ask.ensures.can_go_on fetch.1)

pub returns-clause-leads : goal.returns-clause-leads
unfolding try_on
returns-clause-leads g c = λ key_of.
    let ask = c.ask-ask.result.now in
    let there : slice_get c.args.self.now.state.pending c.args.place ≡ Some ask = rw (← c.self.view_is) c.ask-ask.ensures.value in
    let progress : c.not_fetching-progress.result ≡ progress_of (not_fetching ask (ask.tried ++ c.args.peer ∷ [])) =
    rw (c.in_ok-tried.ensures, c.as_slice.ensures) at c.not_fetching-progress.ensures in
    rw there (rw (there, progress) at (c.go_on.ensures.leads key_of))
