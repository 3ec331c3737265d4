-- Which octets spell a request, and why reading stops (RFC 9112, sections 2 and 3).
use Rattle.std.specs.Prelude.{◌≡◌, ℕ, ◌≤◌, ◌⊎◌, ⊤, Bool, true, false, List, [], ◌++◌, length, Option, Result, Ok, Err, MatchResult, if◌then◌else◌}
use Rattle.std.specs.Io.KnownBytes.{IsAtEnd}
use Rattle.httparse.specs.Grammar.{RequestHead, ReadsRequest, NeverHasRequest}
use Rattle.http_messages.specs.declared.ask.Ask.{Ask}
use Rattle.http_messages.specs.declared.fault.FetchFault.{FetchFault}
use Rattle.http_messages.specs.declared.fault.FetchFault.TheVariants.{Io, EndOfInput, BadHead, BadTarget, HeadTooLong, TooManyTurns, NoMemory}
use Rattle.url_key.specs.declared.fault.KeyFault.TheVariants.{TooLong}
use Rattle.http_intake.specs.Reading.{Held, nothing_held, Takes, MakesFew, most_turns}
use Rattle.http_intake.specs.Heads.{longest_head, longest_read, most_fields, head_window, IsLongRequest, IsOpenRequest}
use Rattle.http_reading.specs.Version.{is_in_target}
use Rattle.http_reading.specs.AskHead.{parts_of, Says}

-- the octets are a head within its limits, which makes this request or has this fault
pub record SpellsHead (octets : List ℕ) (outcome : Result Ask FetchFault) : Type 0 where
  pub head : RequestHead
  pub reads : ReadsRequest octets head []
  pub short : length octets ≤ longest_head
  pub few : length head.fields ≤ most_fields
  pub says : Says (parts_of head) outcome

-- the octets spell the request
abbrev pub SpellsAsk : List ℕ → Ask → Type 0
SpellsAsk octets ask = SpellsHead octets (Ok ask)

-- the octets begin with a head that makes this request or has this fault
abbrev pub FrontSays : List ℕ → Result Ask FetchFault → Type 0
FrontSays octets outcome = (front : List ℕ) × (rest : List ℕ) × (octets ≡ front ++ rest) × SpellsHead front outcome

-- The fault of a head that did not come. Where 16,384 octets end in the target, it is longer than any
-- that is read (RFC 9112, section 3).
abbrev pub fault_in : List ℕ → FetchFault → FetchFault
fault_in window HeadTooLong = if is_in_target window then BadTarget TooLong else HeadTooLong
fault_in window fault = fault

-- the octets are no head within the limits, and this tells whether those end in the target
pub record IsLongHead (octets : List ℕ) (in_target : Bool) : Type 0 where
  pub long : IsLongRequest (head_window 0 octets)
  pub ends : is_in_target (head_window 0 octets) ≡ in_target

-- why reading stopped in a request after these octets, which so many calls gave [HTTP 7]
abbrev pub StopsInAsk : Option (List ℕ) → Held → FetchFault → Type 0
StopsInAsk reader held Io = IsOpenRequest held.octets
StopsInAsk reader held NoMemory = ⊤
StopsInAsk reader held EndOfInput = IsOpenRequest held.octets × IsAtEnd reader
StopsInAsk reader held TooManyTurns = IsOpenRequest held.octets × (held.calls ≡ most_turns)
StopsInAsk reader held BadHead = NeverHasRequest (head_window 0 held.octets) ⊎ FrontSays held.octets (Err BadHead)
StopsInAsk reader held HeadTooLong = IsLongHead held.octets false
StopsInAsk reader held (BadTarget TooLong) = IsLongHead held.octets true ⊎ FrontSays held.octets (Err (BadTarget TooLong))
StopsInAsk reader held fault = FrontSays held.octets (Err fault)

-- the contract of `read_ask`: the octets taken, at most 20,480 by 70,000 calls at most, begin with
-- the request, or the fault says why they do not
pub record ReadsAsk (reader_old reader_new : Option (List ℕ)) (result : Result Ask FetchFault) : Type 0 where
  pub held : Held
  pub taken : Takes reader_old reader_new nothing_held held
  pub few : length held.octets ≤ longest_read
  pub made : MakesFew result held.calls
  pub outcome : MatchResult result (λ ask. FrontSays held.octets (Ok ask)) (StopsInAsk reader_new held)
