-- The responses that a cache serves, as values; `answer_text` of `specs/Answer` gives their texts.
use Rattle.std.specs.Prelude.{ℕ, List, [], Option, Some, None}
use Rattle.http_messages.specs.Answer.{AnswerText}

-- a stored response as it is served: with its age now (RFC 9111, section 5.1) and the stamp that
-- is given
abbrev pub served_as : AnswerText → ℕ → Option ℕ → AnswerText
served_as a age stamp = record a { age = Some age; stamp = stamp }

-- a status alone: no fields, no age, no stamp, and an empty body
abbrev pub bare : ℕ → AnswerText
bare status = record { status = status; fields = []; age = None; stamp = None; body = [] }
