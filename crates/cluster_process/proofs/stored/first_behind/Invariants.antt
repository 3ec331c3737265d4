use Rattle.std.proofs.Common.{ℕ, ◌≤◌, ◌==◌, find, option_map, unwrap_or}
use Rattle.cluster_process.specs.Stored.{HasStored}
use Rattle.cluster_process.proofs.stored.first_behind.Given as goal

-- the files of the members up to this id lack nothing
abbrev pub invariant-loop-place : goal.invariant-loop-place
invariant-loop-place g l = (id : ℕ) → 1 ≤ id → id ≤ l.place →
    HasStored l.fn.nodes l.fn.given id (unwrap_or (option_map (λ n. n.seen) (find (λ n. n.id == id) l.fn.floors)) 0)
