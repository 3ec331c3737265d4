-- Bodies with a length, and bodies up to the end of the input (RFC 9112, section 6.3).
use Rattle.std.specs.Prelude.{◌≡◌, ℕ, ◌+◌, ◌*◌, ◌<◌, ◌≤◌, ⊤, max, IsTrue, List, length, take, drop, Option}
use Rattle.std.specs.Io.KnownBytes.{IsAtEnd}
use Rattle.http_messages.specs.declared.fault.FetchFault.{FetchFault}
use Rattle.http_messages.specs.declared.fault.FetchFault.TheVariants.{Io, EndOfInput, BodyTooLong, TooManyTurns, NoMemory}
use Rattle.http_messages.specs.Answer.{longest_body}
use Rattle.http_intake.specs.Reading.{Held, Grows, Takes, most_turns, calls_made, is_read_fault}

-- the octets read grew by 70,000 calls at most, `len` of them from `start` on are the body, and no
-- octet after the body was taken
pub record ReadsBodyOf (reader_old reader_new : Option (List ℕ)) (old : Held) (start len : ℕ) (body : List ℕ) :
    Type 0 where
  pub held : Held
  pub taken : Takes reader_old reader_new old held
  pub few : held.calls ≤ most_turns
  pub whole : start + len ≤ length held.octets
  pub body_is : body ≡ take len (drop start held.octets)
  pub no_more : length held.octets ≤ max (length old.octets) (start + len)

-- the octets end before a body of `len` octets, which is not too long
abbrev pub IsOpenBody : ℕ → List ℕ → ℕ → Type 0
IsOpenBody len octets start = (len ≤ longest_body) × (length octets < start + len)

-- why reading of a body of `len` octets stopped: the length is too great, a call failed, there was
-- no memory, the input ended first, or 70,000 calls did not give all of it
abbrev pub StopsBefore : ℕ → Option (List ℕ) → Held → ℕ → FetchFault → Type 0
StopsBefore len reader held start Io = IsOpenBody len held.octets start
StopsBefore len reader held start NoMemory = len ≤ longest_body
StopsBefore len reader held start EndOfInput = IsOpenBody len held.octets start × IsAtEnd reader
StopsBefore len reader held start TooManyTurns = IsOpenBody len held.octets start × (held.calls ≡ most_turns)
StopsBefore len reader held start BodyTooLong = longest_body < len
StopsBefore len reader held start fault = ⊥

-- the octets read grew, and then reading stopped, after 70,000 calls at most; where the length is
-- too great nothing was read
pub record CutsBodyOf (reader_old reader_new : Option (List ℕ)) (old : Held) (start len : ℕ) (fault : FetchFault) :
    Type 0 where
  pub held : Held
  pub taken : Takes reader_old reader_new old held
  pub few : calls_made fault held.calls ≤ most_turns
  pub untouched : fault ≡ BodyTooLong → held ≡ old
  pub why : StopsBefore len reader_new held start fault

-- the octets read grew by all that the reader had, and from `start` on they are the body; of
-- 70,000 calls at most the last found the end of the input
pub record ReadsToEnd (reader_old reader_new : Option (List ℕ)) (old : Held) (start : ℕ) (body : List ℕ) :
    Type 0 where
  pub held : Held
  pub taken : Takes reader_old reader_new old held
  pub few : held.calls < most_turns
  pub ended : IsAtEnd reader_new
  pub body_is : body ≡ drop start held.octets
  pub short : length body ≤ longest_body

-- why reading of a body up to the end of the input stopped: it is too long, a call failed, there
-- was no memory, or 70,000 calls gave octets and none found the end
abbrev pub StopsBeforeEnd : Held → ℕ → FetchFault → Type 0
StopsBeforeEnd held start Io = length held.octets ≤ start + longest_body
StopsBeforeEnd held start NoMemory = ⊤
StopsBeforeEnd held start TooManyTurns = (length held.octets ≤ start + longest_body) × (held.calls ≡ most_turns)
StopsBeforeEnd held start BodyTooLong = start + longest_body < length held.octets
StopsBeforeEnd held start fault = ⊥

-- the octets read grew, and then reading stopped, after 70,000 calls at most
pub record CutsToEnd (reader_old reader_new : Option (List ℕ)) (old : Held) (start : ℕ) (fault : FetchFault) :
    Type 0 where
  pub held : Held
  pub taken : Takes reader_old reader_new old held
  pub few : calls_made fault held.calls ≤ most_turns
  pub why : StopsBeforeEnd held start fault

-- the front of a buffer grew by what the reader gave, and then reading stopped before the buffer
-- was full; `turns` became `turns_new`, by one for each call that gave octets, 1 to 65,536
pub record FillsShort (reader_old reader_new : Option (List ℕ)) (turns turns_new from : ℕ) (front buffer : List ℕ)
    (fault : FetchFault) : Type 0 where
  pub at : ℕ
  pub taken : Grows reader_old reader_new front (take at buffer)
  pub forward : from ≤ at
  pub short : at < length buffer
  pub each : turns_new + from ≤ turns + at
  pub most : at + 65536 * turns ≤ from + 65536 * turns_new
  pub few : calls_made fault turns_new ≤ most_turns
  pub ended : fault ≡ EndOfInput → IsAtEnd reader_new
  pub spent : fault ≡ TooManyTurns → turns_new ≡ most_turns
  pub kind : IsTrue (is_read_fault fault)
