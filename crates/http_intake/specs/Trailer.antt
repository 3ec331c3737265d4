-- The trailer after the last chunk, and a whole chunked body (RFC 9112, sections 7.1 and 7.1.2).
use Rattle.std.specs.Prelude.{◌≡◌, ℕ, ◌+◌, ◌<◌, ◌≤◌, ◌⊎◌, List, length, drop, Option}
use Rattle.std.specs.Io.KnownBytes.{IsAtEnd}
use Rattle.httparse.specs.Grammar.{Field, LineEnd, ReadsSection, HasNoSection, NeverHasSection, MayBecomeSection}
use Rattle.httparse.specs.Spans.{SectionExceeds}
use Rattle.http_messages.specs.declared.fault.FetchFault.{FetchFault}
use Rattle.http_messages.specs.declared.fault.FetchFault.TheVariants.{Io, EndOfInput, HeadTooLong, BadBody, TooManyTurns, NoMemory}
use Rattle.http_messages.specs.Answer.{longest_body}
use Rattle.http_intake.specs.Reading.{Held, most_turns}
use Rattle.http_intake.specs.Heads.{longest_head, most_fields, head_window}
use Rattle.http_intake.specs.Chunks.{HoldsChunks, StopsInChunks}

-- the octets from `start` to `end` are field lines and an empty line, within the limits of a head
pub record HoldsTrailer (octets : List ℕ) (start end : ℕ) : Type 0 where
  pub fields : List Field
  pub last : LineEnd
  pub reads : ReadsSection (drop start octets) fields last (drop end octets)
  pub few : length fields ≤ most_fields
  pub short : end ≤ start + longest_head
  pub forward : start ≤ end
  pub within : end ≤ length octets

-- the trailer does not end within the limit, though some continuation ends it; or it has too many
-- fields
abbrev pub IsLongTrailer : List ℕ → Type 0
IsLongTrailer window = ((longest_head ≤ length window) × HasNoSection window × MayBecomeSection window)
    ⊎ SectionExceeds most_fields window

-- a trailer may still come of these octets: it has not ended, they are fewer than its limit, and
-- some continuation makes them one
abbrev pub IsOpenTrailer : List ℕ → Type 0
IsOpenTrailer octets = HasNoSection octets × MayBecomeSection octets × (length octets < longest_head)

-- why the octets of a trailer were refused
abbrev pub RefusesTrailer : List ℕ → FetchFault → Type 0
RefusesTrailer window BadBody = NeverHasSection window
RefusesTrailer window HeadTooLong = IsLongTrailer window
RefusesTrailer window fault = ⊥

-- why reading stopped in the trailer that begins at `start`: it was not whole when the reader
-- failed, or when 70,000 calls had given octets, or it was refused
abbrev pub StopsInTrailer : Option (List ℕ) → Held → ℕ → FetchFault → Type 0
StopsInTrailer reader held start Io = IsOpenTrailer (drop start held.octets)
StopsInTrailer reader held start NoMemory = IsOpenTrailer (drop start held.octets)
StopsInTrailer reader held start EndOfInput = IsOpenTrailer (drop start held.octets) × IsAtEnd reader
StopsInTrailer reader held start TooManyTurns = IsOpenTrailer (drop start held.octets) × (held.calls ≡ most_turns)
StopsInTrailer reader held start fault = RefusesTrailer (head_window start held.octets) fault

-- the octets from `start` to `end` are chunks, the line of the last one and a trailer [HTTP 15]
pub record HoldsChunkedBody (octets : List ℕ) (start end : ℕ) (body : List ℕ) : Type 0 where
  pub trailer : ℕ
  pub chunks : HoldsChunks octets start trailer body
  pub section : HoldsTrailer octets trailer end

-- why reading stopped in a chunked body: at a chunk, or in the trailer [HTTP 16]
abbrev pub StopsInChunkedBody : Option (List ℕ) → Held → ℕ → FetchFault → Type 0
StopsInChunkedBody reader held start fault =
    StopsInChunks reader held start fault
    ⊎ ((trailer : ℕ) × (body : List ℕ) × HoldsChunks held.octets start trailer body × (length body ≤ longest_body)
    × StopsInTrailer reader held trailer fault)
