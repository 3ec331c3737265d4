use Rattle.std.proofs.Common.{Result, Ok, Err, OnOk, subst}
use Rattle.purge_rules.specs.Purges.{AreNumbered}
use Rattle.cluster_console.proofs.play.Player.members.Goals as goal

-- what follows from an Ok follows from what holds after it
on_ok_then : {A E P Q : Type 0} (r : Result A E) → (P → Q) → OnOk r P → OnOk r Q
on_ok_then (Ok x) then held = then held
on_ok_then (Err e) then held = held

pub returns : goal.returns
returns g c =
    let numbered : AreNumbered c.in_ok-purges.purges = c.are_numbered.ensures in
    on_ok_then c.tell_members.result (λ told. (told.0, (c.in_ok-purges.purges, numbered, told.1), told.2)) c.tell_members.ensures
