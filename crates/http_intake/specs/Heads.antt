-- When a head is read, and when it is refused (RFC 9112, sections 2 to 5).
use Rattle.std.specs.Prelude.{ℕ, ◌<◌, ◌≤◌, ◌⊎◌, Bool, true, false, IsTrue, List, length, take, drop}
use Rattle.http_messages.specs.declared.fault.FetchFault.{FetchFault}
use Rattle.http_messages.specs.declared.fault.FetchFault.TheVariants.{BadHead, HeadTooLong}
use Rattle.httparse.specs.Grammar.{HasNoRequest, HasNoResponse, MayBecomeRequest, MayBecomeResponse}
use Rattle.httparse.specs.Spans.{RequestExceeds, ResponseExceeds}
use Rattle.http_intake.specs.Reading.{is_read_fault}

-- the most octets that a head has
abbrev pub longest_head : ℕ
longest_head = 16384

-- the most octets that are read from the start of a head: its limit, and 4,096 of the last call
abbrev pub longest_read : ℕ
longest_read = 20480

-- the most fields that a head has
abbrev pub most_fields : ℕ
most_fields = 64

-- the octets from `start` on where a head may stand
abbrev pub head_window : ℕ → List ℕ → List ℕ
head_window start octets = take longest_head (drop start octets)

-- the head of a request does not end within the limit, though some continuation ends it; or it has
-- too many fields
abbrev pub IsLongRequest : List ℕ → Type 0
IsLongRequest window = ((longest_head ≤ length window) × HasNoRequest window × MayBecomeRequest window)
    ⊎ RequestExceeds most_fields window

-- the same for a response
abbrev pub IsLongResponse : List ℕ → Type 0
IsLongResponse window = ((longest_head ≤ length window) × HasNoResponse window × MayBecomeResponse window)
    ⊎ ResponseExceeds most_fields window

-- The head of a request may still come of these octets: it has not ended, they are fewer than its
-- limit, and some continuation makes them one, or they end within a target, whose test for UTF-8
-- waits for its end.
abbrev pub IsOpenRequest : List ℕ → Type 0
IsOpenRequest octets = HasNoRequest octets × MayBecomeRequest octets × (length octets < longest_head)

-- the head of a response may still come of these octets: it has not ended, they are fewer than its
-- limit, and some continuation makes them one
abbrev pub IsOpenResponse : List ℕ → Type 0
IsOpenResponse octets = HasNoResponse octets × MayBecomeResponse octets × (length octets < longest_head)

-- the faults of the octets of a head
abbrev pub is_head_refusal : FetchFault → Bool
is_head_refusal BadHead = true
is_head_refusal HeadTooLong = true
is_head_refusal fault = false

-- the same, as a proposition
abbrev pub IsHeadRefusal : FetchFault → Type 0
IsHeadRefusal fault = IsTrue (is_head_refusal fault)

-- the faults of reading a head: those of its octets, and those of the reader
abbrev pub is_head_fault : FetchFault → Bool
is_head_fault BadHead = true
is_head_fault HeadTooLong = true
is_head_fault fault = is_read_fault fault

-- the same, as a proposition
abbrev pub IsHeadFault : FetchFault → Type 0
IsHeadFault fault = IsTrue (is_head_fault fault)
