-- The octets that are written in response to a request.
use Rattle.std.specs.Prelude.{ℕ, List, [], Option, Some, None}
use Rattle.http_messages.specs.Answer.{AnswerText}
use Rattle.http_writing.specs.Answer.{answer_text}
use Rattle.http_writing.specs.Served.{served_as, bare}
use Rattle.node_rules.specs.declared.reply.Served.{Served}
use Rattle.node_rules.specs.declared.reply.Served.TheVariants.{Copy, Status}

-- A stamp is told to a member of the hierarchy, and never to a client.
abbrev pub stamp_for : Option ℕ → ℕ → Option ℕ
stamp_for None stamp = None
stamp_for (Some member) stamp = Some stamp

-- The response: a copy with its age, or a bare status. [HTTP 4]
abbrev pub answer_for : Option ℕ → Served (Unit {0}) → AnswerText
answer_for asker (Copy c age) = served_as c.answer age (stamp_for asker c.stamp)
answer_for asker (Status status) = bare status

-- The octets of what is served, by the cache of this name.
abbrev pub serve_text : Option ℕ → Served (Unit {0}) → List ℕ → List ℕ
serve_text asker served via = answer_text (answer_for asker served) via

-- The octets of a bare status.
abbrev pub status_text : ℕ → List ℕ → List ℕ
status_text status via = answer_text (bare status) via

-- The octets of a refusal; nothing without a status.
abbrev pub refusal_text : Option ℕ → List ℕ → List ℕ
refusal_text None via = []
refusal_text (Some status) via = status_text status via
