-- Which octets spell a response, and why reading stops (RFC 9112, sections 4 to 7).
use Rattle.std.specs.Prelude.{◌≡◌, ℕ, ◌<◌, ◌≤◌, ◌+◌, ◌⊎◌, ⊤, true, false, List, [], length, drop, take, flat_map, Option, Some, None, Result, Ok, Err, IfOk}
use Rattle.std.specs.Prelude.{MatchResult}
use Rattle.std.specs.List.{AllByRecursion}
use Rattle.std.specs.Io.KnownBytes.{IsAtEnd}
use Rattle.httparse.specs.Grammar.{ResponseHead, IsResponseHead, print_response, status_code, ReadsResponse, NeverHasResponse}
use Rattle.http_messages.specs.Answer.{AnswerText, longest_body}
use Rattle.http_messages.specs.declared.fault.FetchFault.{FetchFault}
use Rattle.http_messages.specs.declared.fault.FetchFault.TheVariants.{Io, EndOfInput, BadHead, HeadTooLong, TooManyTurns, NoMemory}
use Rattle.http_reading.specs.declared.framing.Framing.{Framing}
use Rattle.http_reading.specs.declared.framing.Framing.TheVariants.{Length, Chunked, ToEnd}
use Rattle.http_intake.specs.Reading.{Held, nothing_held, Takes, MakesFew, most_turns}
use Rattle.http_intake.specs.Heads.{longest_head, most_fields, head_window, IsLongResponse, IsOpenResponse}
use Rattle.http_intake.specs.Trailer.{HoldsChunkedBody, StopsInChunkedBody}
use Rattle.http_intake.specs.Bodies.{StopsBefore, StopsBeforeEnd}
use Rattle.http_reading.specs.AnswerHead.{parts_of, is_interim, ToldText, told}

-- the most octets that interim heads have together
abbrev pub most_interim : ℕ
most_interim = 65536

-- a head within its limits
pub record IsShortHead (h : ResponseHead) : Type 0 where
  pub valid : IsResponseHead h
  pub short : length (print_response h) ≤ longest_head
  pub few : length h.fields ≤ most_fields

-- an interim head, which another one follows
abbrev pub IsInterim : ResponseHead → Type 0
IsInterim h = IsShortHead h × (is_interim (status_code h) ≡ true)

-- the octets up to `start` are interim heads (RFC 9110, section 15.2) [HTTP 11]
pub record PassesInterim (octets : List ℕ) (start : ℕ) : Type 0 where
  pub heads : List ResponseHead
  pub interim : AllByRecursion IsInterim heads
  pub text : take start octets ≡ flat_map print_response heads
  pub within : start ≤ length octets

-- interim heads, then a final head from `start` to `end`, which says this or has this fault
pub record HeadSays (octets : List ℕ) (start end : ℕ) (outcome : Result ToldText FetchFault) : Type 0 where
  pub interim : PassesInterim octets start
  pub few : start ≤ most_interim
  pub head : ResponseHead
  -- it is no interim head, so no other one follows it
  pub final : is_interim (status_code head) ≡ false
  pub short : IsShortHead head
  pub reads : ReadsResponse (drop start octets) head (drop end octets)
  pub within : end ≤ length octets
  pub says : told (parts_of head) ≡ outcome

-- the octets from `start` to `end` spell a body that ends as the framing says; one up to the end
-- of the input ends with all octets (RFC 9112, section 6.3) [HTTP 14]
abbrev pub SpellsBody : Option Framing → List ℕ → ℕ → ℕ → List ℕ → Type 0
SpellsBody None octets start end body = (end ≡ start) × (body ≡ [])
SpellsBody (Some (Length n)) octets start end body = (end ≡ start + n) × (end ≤ length octets)
    × (body ≡ take n (drop start octets))
SpellsBody (Some Chunked) octets start end body = HoldsChunkedBody octets start end body
SpellsBody (Some ToEnd) octets start end body = (end ≡ length octets) × (body ≡ drop start octets)

-- the response of a head and a body
abbrev pub answer_of : ToldText → List ℕ → AnswerText
answer_of t body = record { status = t.status; fields = t.fields; age = t.age; stamp = t.stamp; body = body }

-- the octets up to `end` spell the response
pub record SpellsAnswer (octets : List ℕ) (end : ℕ) (answer : AnswerText) : Type 0 where
  pub start : ℕ
  pub body_start : ℕ
  pub told : ToldText
  pub head : HeadSays octets start body_start (Ok told)
  pub spelled : SpellsBody told.framing octets body_start end answer.body
  pub answer_is : answer ≡ answer_of told answer.body

-- a body up to the end of the input has all of the input, and the last of 70,000 calls at most
-- found the end
abbrev pub EndsWithInput : Option Framing → Option (List ℕ) → ℕ → Type 0
EndsWithInput (Some ToEnd) reader calls = IsAtEnd reader × (calls < most_turns)
EndsWithInput framing reader calls = ⊤

-- why reading stopped at a head that begins at `start` [HTTP 7]
abbrev pub StopsAtHead : Option (List ℕ) → Held → ℕ → FetchFault → Type 0
StopsAtHead reader held start Io = IsOpenResponse (drop start held.octets)
StopsAtHead reader held start NoMemory = ⊤
StopsAtHead reader held start EndOfInput = IsOpenResponse (drop start held.octets) × IsAtEnd reader
StopsAtHead reader held start TooManyTurns = IsOpenResponse (drop start held.octets) × (held.calls ≡ most_turns)
StopsAtHead reader held start BadHead = NeverHasResponse (head_window start held.octets)
StopsAtHead reader held start HeadTooLong = IsLongResponse (head_window start held.octets)
StopsAtHead reader held start fault = ⊥

-- why reading stopped in a body that begins at `start`
abbrev pub StopsInBody : Option Framing → Option (List ℕ) → Held → ℕ → FetchFault → Type 0
StopsInBody None reader held start fault = ⊥
StopsInBody (Some (Length n)) reader held start fault = StopsBefore n reader held start fault
StopsInBody (Some Chunked) reader held start fault = StopsInChunkedBody reader held start fault
StopsInBody (Some ToEnd) reader held start fault = StopsBeforeEnd held start fault

-- the octets read grew by what was taken, by 70,000 calls at most; they spell the body, or the
-- fault says why they do not
pub record ReadsBody (framing : Option Framing) (reader_old reader_new : Option (List ℕ)) (old : Held) (start : ℕ)
    (result : Result (List ℕ) FetchFault) : Type 0 where
  pub held : Held
  pub taken : Takes reader_old reader_new old held
  pub made : MakesFew result held.calls
  pub outcome : MatchResult result (λ body. (end : ℕ) × SpellsBody framing held.octets start end body
      × EndsWithInput framing reader_new held.calls)
      (λ fault. (fault ≡ NoMemory) ⊎ StopsInBody framing reader_new held start fault)
  pub short : IfOk result (λ body. length body ≤ longest_body)

-- the same, with the response of the head and the body
pub record ReadsRest (told : ToldText) (reader_old reader_new : Option (List ℕ)) (old : Held) (start : ℕ)
    (result : Result AnswerText FetchFault) : Type 0 where
  pub held : Held
  pub taken : Takes reader_old reader_new old held
  pub made : MakesFew result held.calls
  pub outcome : MatchResult result (λ answer. (end : ℕ) × SpellsBody told.framing held.octets start end answer.body
      × EndsWithInput told.framing reader_new held.calls × (answer ≡ answer_of told answer.body))
      (λ fault. (fault ≡ NoMemory) ⊎ StopsInBody told.framing reader_new held start fault)

-- why reading stopped in a response: at a head, by what a head says, in the body, since the interim
-- heads have too many octets, or for want of memory
abbrev pub StopsInAnswer : Option (List ℕ) → Held → FetchFault → Type 0
StopsInAnswer reader held fault =
    ((start : ℕ) × PassesInterim held.octets start × (start ≤ most_interim) × StopsAtHead reader held start fault)
    ⊎ ((start : ℕ) × (end : ℕ) × HeadSays held.octets start end (Err fault))
    ⊎ ((start : ℕ) × (end : ℕ) × (t : ToldText) × HeadSays held.octets start end (Ok t)
    × StopsInBody t.framing reader held end fault)
    ⊎ ((start : ℕ) × PassesInterim held.octets start × (most_interim < start) × (fault ≡ HeadTooLong))
    ⊎ (fault ≡ NoMemory)

-- the octets read grew by what was taken, by 70,000 calls at most; they begin with the response, or
-- the fault says why they do not
pub record ReadsOn (reader_old reader_new : Option (List ℕ)) (old : Held) (result : Result AnswerText FetchFault) :
    Type 0 where
  pub held : Held
  pub taken : Takes reader_old reader_new old held
  pub made : MakesFew result held.calls
  pub outcome : MatchResult result (λ answer. (end : ℕ) × (a : SpellsAnswer held.octets end answer)
      × EndsWithInput a.told.framing reader_new held.calls) (StopsInAnswer reader_new held)

-- the contract of `read_answer`: the same, where nothing was read before
abbrev pub ReadsAnswer : Option (List ℕ) → Option (List ℕ) → Result AnswerText FetchFault → Type 0
ReadsAnswer reader_old reader_new result = ReadsOn reader_old reader_new nothing_held result
