-- What becomes of a request.
use Rattle.std.specs.Prelude.{◌≡◌, ℕ, List, [], Option, Some, None, Result, Ok, Err, codes}
use Rattle.std.specs.Io.KnownBytes.{Appends}
use Rattle.values_plain.specs.Writing.{AppendsFront, AppendsProperFront}
use Rattle.http_messages.specs.declared.ask.Ask.{Ask}
use Rattle.http_messages.specs.declared.fault.FetchFault.{FetchFault}
use Rattle.http_messages.specs.declared.fault.FetchFault.TheVariants.{Io, NoMemory}
use Rattle.http_writing.specs.Answer.{answer_text}
use Rattle.http_writing.specs.Served.{bare}
use Rattle.http_reading.specs.Asks.{ReadsAsk}
use Rattle.cluster_origin.specs.Answer.{answer_for}
use Rattle.cluster_origin.specs.Statuses.{refusal_of}

-- the name of the origin in `via` (RFC 9110, section 7.6.3)
abbrev pub own_name : List ℕ
own_name = codes "origin"

-- the text of the response to a request
abbrev pub told : Ask → ℕ → List ℕ
told ask count = answer_text (answer_for ask.key count) own_name

-- the text of a refusal: a status alone, or nothing
abbrev pub refusal_by : Option ℕ → List ℕ
refusal_by None = []
refusal_by (Some status) = answer_text (bare status) own_name

-- the text by which a fault is refused
abbrev pub refusal : FetchFault → List ℕ
refusal fault = refusal_by (refusal_of fault)

-- What is written. The writer held the first, and holds the second.

-- after a request was read: its response is written; or the writer failed, and a front of it is written, not all; or
-- there was no memory for it, and that is told
abbrev pub AnswersAsk : Option (List ℕ) → Option (List ℕ) → Ask → ℕ → Result (Unit {0}) FetchFault → Type 0
AnswersAsk old new ask count (Ok done) = Appends old new (told ask count)
AnswersAsk old new ask count (Err Io) = AppendsProperFront old new (told ask count)
AnswersAsk old new ask count (Err NoMemory) = AppendsFront old new (refusal NoMemory)
AnswersAsk old new ask count (Err fault) = ⊥

-- a request was read, and is answered; or it was not, and its fault is told: by the text of the refusal, or a front of
-- it where the writer failed
abbrev pub AfterRead : Option (List ℕ) → Option (List ℕ) → ℕ → Result Ask FetchFault → Result (Unit {0}) FetchFault →
    Type 0
AfterRead old new count (Ok ask) result = AnswersAsk old new ask count result
AfterRead old new count (Err fault) result = (result ≡ Err fault) × AppendsFront old new (refusal fault)

-- one request is read, and its response or its refusal is written
pub record ServesNext (count : ℕ) (reader_old reader_new writer_old writer_new : Option (List ℕ))
    (result : Result (Unit {0}) FetchFault) : Type 0 where
  pub read : Result Ask FetchFault
  pub reads : ReadsAsk reader_old reader_new read
  pub answers : AfterRead writer_old writer_new count read result
