-- What the numbers of a task keep to.
use Rattle.std.specs.Prelude.{◌≤◌, ⊤}
use Rattle.cli_words.specs.declared.task.Task.{Task}
use Rattle.cli_words.specs.declared.task.Task.TheVariants as tasks

-- a member has 2 to 8 workers, and an origin serves at a port that is not 0 [Cluster 2]
abbrev pub IsTask : Task → Type 0
IsTask (tasks.Script script) = ⊤
IsTask (tasks.Cluster file dir workers history) = (2 ≤ workers) × (workers ≤ 8)
IsTask (tasks.Origin at count) = 1 ≤ at.port
