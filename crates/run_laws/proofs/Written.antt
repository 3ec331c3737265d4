-- By the two kinds of what is served: both definitions compute to the same response.
use Rattle.std.proofs.Common.{◌≡◌, ℕ, List, Some, refl}
use Rattle.node_rules.specs.declared.reply.Served.{Served}
use Rattle.node_rules.specs.declared.reply.Served.TheVariants.{Copy, Status}
use Rattle.node_rules.specs.Tags.{retag_served}
use Rattle.http_writing.specs.Answer.{answer_text}
use Rattle.node_serving.specs.Serving.{serve_text}
use Rattle.world_rules.specs.World.{answer_of}

pub written : (asker : ℕ) (served : Served ℕ) (via : List ℕ) → serve_text (Some asker) (retag_served (λ _. tt) served) via ≡ answer_text (answer_of served) via
written asker (Copy copy age) via = refl
written asker (Status status) via = refl
