-- From the places that the parser gave to the head that stands there, and from the faults of a
-- head to those of a request. A head in the window is a front of the octets, so what holds of its
-- parts holds of that front.
use Rattle.std.proofs.Common.{◌≡◌, ℕ, ◌≤◌, ◌⊎◌, Bool, true, false, if◌then◌else◌, List, ◌++◌, length, take, drop, max, Option, Result, Ok, Err, IfErr, IsTrue}
use Rattle.std.proofs.Common.{MatchResult, refl, sym, ◌∙◌, ap}
use Rattle.std.proofs.Common.{subst, inl, inr, arith, ◌+◌, length-take, take-append-drop, append_assoc, append-nil, length-append}
use Rattle.std.proofs.lemmas.List.{length-map}
use Rattle.httparse.specs.Grammar.{RequestHead, print_request, NeverHasRequest}
use Rattle.httparse.specs.declared.spans.HeaderSpan.{HeaderSpan}
use Rattle.httparse.specs.declared.spans.RequestSpans.{RequestSpans}
use Rattle.httparse.specs.Spans.{span_bytes, header_bytes, name_and_value, AreFieldsAt, IsRequestAt, IsRequestOf}
use Rattle.http_messages.specs.declared.ask.Ask.{Ask}
use Rattle.http_messages.specs.declared.fault.FetchFault.{FetchFault}
use Rattle.http_messages.specs.declared.fault.FetchFault.TheVariants.{Io, EndOfInput, BadHead, HeadTooLong, BadTarget, MethodNotServed, Credentials, BadBody}
use Rattle.http_messages.specs.declared.fault.FetchFault.TheVariants.{BodyTooLong, TooManyTurns, NoMemory}
use Rattle.url_key.specs.declared.fault.KeyFault.{KeyFault}
use Rattle.url_key.specs.declared.fault.KeyFault.TheVariants.{TooLong, NotVisibleAscii, Fragment, NotUri, NotHttp, UserInfo, NoHost, BadPort}
use Rattle.url_key.specs.declared.fault.KeyFault.TheVariants as key_fault
use Rattle.http_reading.specs.Version.{is_in_target}
use Rattle.http_reading.specs.Fields.{fields_of}
use Rattle.std.specs.Io.KnownBytes.{IsAtEnd}
use Rattle.http_intake.specs.Reading.{Held, nothing_held, Takes, calls_made, IsReadFault}
use Rattle.http_intake.specs.Heads.{longest_head, longest_read, most_fields, head_window, IsLongRequest, IsOpenRequest, IsHeadFault}
use Rattle.http_reading.specs.AskHead.{AskHead, parts_of, head_at, is_ask_fault, Says}
use Rattle.http_reading.specs.Asks.{FrontSays, fault_in, StopsInAsk, ReadsAsk}

-- a head of these parts
made : List ℕ → List ℕ → ℕ → List (List ℕ × List ℕ) → AskHead
made method target minor fields = record { method = method; target = target; minor = minor; fields = fields }

-- the parts that the places cover are those of the head
head_is : (window : List ℕ) (headers : List HeaderSpan) (r : RequestSpans) (h : RequestHead) → IsRequestAt window headers r h →
    head_at window headers r ≡ parts_of h
unfolding made
head_is window headers r h is =
    ap (λ m. made m (span_bytes window r.path) r.version (fields_of window (take r.headers headers))) is.method
    ∙ ap (λ t. made h.method t r.version (fields_of window (take r.headers headers))) is.path
    ∙ ap (λ v. made h.method h.target v (fields_of window (take r.headers headers))) is.version
    ∙ ap (made h.method h.target h.minor) is.fields

-- a head has no more fields than there was room for
few_fields : (window : List ℕ) (headers : List HeaderSpan) (r : RequestSpans) (h : RequestHead) → AreFieldsAt window headers r.headers h.fields →
    length headers ≡ most_fields → length h.fields ≤ most_fields
few_fields window headers r h fields room =
    let written : length (take r.headers headers) ≡ length h.fields =
    sym (length-map (take r.headers headers) (header_bytes window)) ∙ ap length fields ∙ length-map h.fields name_and_value in
    omega (arith, written, length-take r.headers headers, room)

-- a head in the window is a front of the octets, and says what its parts say
pub front_says : (octets : List ℕ) (headers : List HeaderSpan) (r : RequestSpans) (outcome : Result Ask FetchFault) → length headers ≡ most_fields →
    IsRequestOf (head_window 0 octets) headers r
    → Says (head_at (head_window 0 octets) headers r) outcome → FrontSays octets outcome
front_says octets headers r outcome room (h, is) says =
    let window : List ℕ = head_window 0 octets in
    let front : List ℕ = print_request h in
    let behind : List ℕ = drop r.len window in
    let rest : List ℕ = behind ++ drop longest_head octets in
    let cut : octets ≡ front ++ rest =
    sym (take-append-drop longest_head octets) ∙ ap (λ w. w ++ drop longest_head octets) is.reads.1 ∙ append_assoc front behind (drop longest_head octets) in
    let size : length window ≡ length front + length behind = ap length is.reads.1 ∙ length-append front behind in (
      front,
      rest,
      cut,
      record {
        head = h;
        reads = (is.reads.0, sym (append-nil front));
        short = omega (arith, size, length-take longest_head octets);
        few = few_fields window headers r h is.fields room;
        says = subst (λ parts. Says parts outcome) (head_is window headers r h is) says;
      },
    )

-- a head that is too long, by whether its octets end in the target
long_stops : (reader : Option (List ℕ)) (held : Held) (in_target : Bool) → is_in_target (head_window 0 held.octets) ≡ in_target
    → IsLongRequest (head_window 0 held.octets) → StopsInAsk reader held (if in_target then BadTarget TooLong else HeadTooLong)
long_stops reader held true ends long = inl (record { long = long; ends = ends })
long_stops reader held false ends long = record { long = long; ends = ends }

-- the fault of reading a head, by its kind
pub head_stops : (reader : Option (List ℕ)) (held : Held) (fault : FetchFault) → IsHeadFault fault
    → (fault ≡ BadHead → NeverHasRequest (head_window 0 held.octets)) → (fault ≡ HeadTooLong → IsLongRequest (head_window 0 held.octets))
    → (IsReadFault fault → IsOpenRequest held.octets) → (fault ≡ EndOfInput → IsAtEnd reader) → (fault ≡ TooManyTurns → held.calls ≡ 70000) →
    StopsInAsk reader held (fault_in (head_window 0 held.octets) fault)
head_stops reader held Io kind bad long opened ended spent = opened refl
head_stops reader held EndOfInput kind bad long opened ended spent = (opened refl, ended refl)
head_stops reader held BadHead kind bad long opened ended spent = inl (bad refl)
head_stops reader held HeadTooLong kind bad long opened ended spent =
    long_stops reader held (is_in_target (head_window 0 held.octets)) refl (long refl)
head_stops reader held (BadTarget f) kind bad long opened ended spent = absurd cc
head_stops reader held MethodNotServed kind bad long opened ended spent = absurd cc
head_stops reader held Credentials kind bad long opened ended spent = absurd cc
head_stops reader held BadBody kind bad long opened ended spent = absurd cc
head_stops reader held BodyTooLong kind bad long opened ended spent = absurd cc
head_stops reader held TooManyTurns kind bad long opened ended spent = (opened refl, spent refl)
head_stops reader held NoMemory kind bad long opened ended spent = tt

-- it is told without one more call
long_made : (in_target : Bool) (calls : ℕ) → calls_made (if in_target then BadTarget TooLong else HeadTooLong) calls ≡ calls
long_made true calls = refl
long_made false calls = refl

pub fault_made : (window : List ℕ) (fault : FetchFault) (calls : ℕ) → calls_made fault calls ≤ 70000 → calls_made (fault_in window fault) calls ≤ 70000
fault_made window HeadTooLong calls few = let same = long_made (is_in_target window) calls in omega (arith, same, few)
fault_made window Io calls few = few
fault_made window EndOfInput calls few = few
fault_made window BadHead calls few = few
fault_made window (BadTarget f) calls few = few
fault_made window MethodNotServed calls few = few
fault_made window Credentials calls few = few
fault_made window BadBody calls few = few
fault_made window BodyTooLong calls few = few
fault_made window TooManyTurns calls few = few
fault_made window NoMemory calls few = few

-- the fault of a target that a whole head has
target_stops : (reader : Option (List ℕ)) (held : Held) (f : KeyFault) → FrontSays held.octets (Err (BadTarget f)) → StopsInAsk reader held (BadTarget f)
target_stops reader held TooLong front = inr front
target_stops reader held NotVisibleAscii front = front
target_stops reader held Fragment front = front
target_stops reader held NotUri front = front
target_stops reader held NotHttp front = front
target_stops reader held UserInfo front = front
target_stops reader held NoHost front = front
target_stops reader held BadPort front = front
target_stops reader held key_fault.NoMemory front = front

-- the fault that a whole head has
says_stops : (reader : Option (List ℕ)) (held : Held) (fault : FetchFault) → IsTrue (is_ask_fault fault) → FrontSays held.octets (Err fault) →
    StopsInAsk reader held fault
says_stops reader held BadHead kind front = inr front
says_stops reader held (BadTarget f) kind front = target_stops reader held f front
says_stops reader held MethodNotServed kind front = front
says_stops reader held Credentials kind front = front
says_stops reader held BadBody kind front = front
says_stops reader held NoMemory kind front = tt
says_stops reader held Io kind front = absurd cc
says_stops reader held EndOfInput kind front = absurd cc
says_stops reader held HeadTooLong kind front = absurd cc
says_stops reader held BodyTooLong kind front = absurd cc
says_stops reader held TooManyTurns kind front = absurd cc

-- the faults of a whole head are told without one more call
says_made : (fault : FetchFault) (calls : ℕ) → IsTrue (is_ask_fault fault) → calls ≤ 70000 → calls_made fault calls ≤ 70000
says_made BadHead calls kind few = few
says_made (BadTarget f) calls kind few = few
says_made MethodNotServed calls kind few = few
says_made Credentials calls kind few = few
says_made BadBody calls kind few = few
says_made NoMemory calls kind few = few
says_made Io calls kind few = absurd cc
says_made EndOfInput calls kind few = absurd cc
says_made HeadTooLong calls kind few = absurd cc
says_made BodyTooLong calls kind few = absurd cc
says_made TooManyTurns calls kind few = absurd cc

-- at most 20,480 octets are read of a message of which nothing was read before
pub few_read : (old new : Held) → old ≡ nothing_held → length new.octets ≤ max (length old.octets) (0 + longest_read) → length new.octets ≤ longest_read
few_read old new none few = let empty : length old.octets ≡ 0 = ap (λ (held : Held). length held.octets) none in omega (arith, empty, few)

-- what a whole head says is what reading returns
pub head_read : (reader_old reader_new : Option (List ℕ)) (held : Held) (headers : List HeaderSpan) (r : RequestSpans) (result : Result Ask FetchFault) →
    Takes reader_old reader_new nothing_held held → held.calls ≤ 70000
    → length held.octets ≤ longest_read → length headers ≡ most_fields → IsRequestOf (head_window 0 held.octets) headers r
    → MatchResult result (λ ask. Says (head_at (head_window 0 held.octets) headers r) (Ok ask))
    (λ fault. (fault ≡ NoMemory) ⊎ Says (head_at (head_window 0 held.octets) headers r) (Err fault))
    → IfErr result (λ fault. IsTrue (is_ask_fault fault)) → ReadsAsk reader_old reader_new result
head_read reader_old reader_new held headers r (Ok ask) taken calls few room is says kind = record {
  held = held;
  taken = taken;
  few = few;
  made = calls;
  outcome = front_says held.octets headers r (Ok ask) room is says;
}
head_read reader_old reader_new held headers r (Err fault) taken calls few room is says kind = record {
  held = held;
  taken = taken;
  few = few;
  made = says_made fault held.calls kind calls;
  outcome = elim says [
    | inl same ↦ subst (StopsInAsk reader_new held) (sym same) tt
    | inr told ↦ says_stops reader_new held fault kind (front_says held.octets headers r (Err fault) room is told)
  ];
}
