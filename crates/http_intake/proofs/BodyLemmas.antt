-- A body among the octets of its message. The octets after `start` that came with the head, and
-- those read later, are together the octets after `start` of the whole message; a fault of the
-- reader comes while the body is not whole.
use Rattle.std.proofs.Common.{◌≡◌, ◌≢◌, ℕ, ◌+◌, ◌*◌, ◌<◌, ◌≤◌, ◌⊎◌, IsTrue, inl, inr, min, List, ◌++◌, length, take, drop, Option, refl, sym, ap, ◌∙◌, subst}
use Rattle.std.proofs.Common.{arith, append-nil, length-append, length-drop, length-take, length-take-le, take_all}
use Rattle.std.proofs.lemmas.List.{take-append-le, drop-append-le, nil_from_length}
use Rattle.std.proofs.Math.Decide.{dec_le}
use Rattle.std.specs.Io.KnownBytes.{IsAtEnd}
use Rattle.http_messages.specs.declared.fault.FetchFault.{FetchFault}
use Rattle.http_messages.specs.declared.fault.FetchFault.TheVariants.{Io, EndOfInput, BodyTooLong, TooManyTurns, NoMemory}
use Rattle.http_intake.specs.Bodies.{ReadsBodyOf, IsOpenBody, StopsBefore, CutsBodyOf, FillsShort, ReadsToEnd, StopsBeforeEnd, CutsToEnd}
use Rattle.http_intake.specs.Reading.{Held, Grows, calls_made, is_read_fault}
use Rattle.http_intake.proofs.ReadingLemmas.{takes_none}
use Rattle.std.proofs.lemmas.Bool.{false≢true}

-- of two numbers, the first is at most the second, or greater
le_or_lt : (m n : ℕ) → (m ≤ n) ⊎ (n < m)
le_or_lt m n = elim (dec_le m n) as (λ _. (m ≤ n) ⊎ (n < m)) [ yes h ↦ inl h | no h ↦ inr (omega (arith, h)) ]

-- the octets that came with the head, and those read up to the length of the body
front_then : (behind piece : List ℕ) (len came : ℕ) → came ≡ min (length behind) len → length (take came behind ++ piece) ≡ len
    → (len ≤ length behind) ⊎ (length behind < len) → take came behind ++ piece ≡ take len (behind ++ piece)
front_then behind piece len came is whole (inl h) =
    let same : came ≡ len = omega arith in
    let none : length piece ≡ 0 = omega (arith, whole, length-append (take came behind) piece, length-take came behind) in
    let nothing = nil_from_length piece none in
    rw nothing (append-nil (take came behind) ∙ ap (λ n. take n behind) same ∙ ap (take len) (sym (append-nil behind)))
front_then behind piece len came is whole (inr h) =
    let all = take_all came behind (omega arith) in
    let whole_len : length (behind ++ piece) ≡ len = ap (λ t. length (t ++ piece)) (sym all) ∙ whole in
    ap (λ t. t ++ piece) all ∙ sym (take_all len (behind ++ piece) (omega arith))

-- nothing was read of a body with a length
pub cuts_none : (reader : Option (List ℕ)) (old : Held) (start len : ℕ) (fault : FetchFault) → calls_made fault old.calls ≤ 70000
    → StopsBefore len reader old start fault → CutsBodyOf reader reader old start len fault
cuts_none reader old start len fault few why =
    record { held = old; taken = takes_none reader old; few = few; untouched = λ e. refl; why = why }

-- nothing was read of a body up to the end of the input
pub stops_none : (reader : Option (List ℕ)) (old : Held) (start : ℕ) (fault : FetchFault) → calls_made fault old.calls ≤ 70000
    → StopsBeforeEnd old start fault → CutsToEnd reader reader old start fault
stops_none reader old start fault few why = record { held = old; taken = takes_none reader old; few = few; why = why }

-- a filled buffer is the body
pub reads_body : (a b : Option (List ℕ)) (old : Held) (behind front body : List ℕ) (start len came calls : ℕ) → start ≤ length old.octets
    → behind ≡ drop start old.octets → came ≡ min (length behind) len → front ≡ take came behind → length body ≡ len → Grows a b front body
    → calls + came ≤ old.calls + length body → length body + 65536 * old.calls ≤ came + 65536 * calls → calls ≤ 70000
    → ReadsBodyOf a b old start len body
reads_body a b old behind front body start len came calls within behind_is came_is front_is len_is (piece, is, consumed) each most few =
    let body_is : body ≡ take came behind ++ piece = is ∙ ap (λ t. t ++ piece) front_is in
    let whole : length (take came behind ++ piece) ≡ len = sym (ap length body_is) ∙ len_is in
    let behind_len : length behind + start ≡ length old.octets = omega (arith, ap length behind_is, length-drop start old.octets) in
    let octets_len = length-append old.octets piece in
    let parts = length-append (take came behind) piece in
    let taken = length-take came behind in
    record {
      held = record { octets = old.octets ++ piece; calls = calls };
      taken = (piece, refl, consumed, omega arith, omega arith);
      few = few;
      whole = omega arith;
      body_is = body_is ∙ front_then behind piece len came came_is whole (le_or_lt len (length behind))
          ∙ ap (take len) (ap (λ t. t ++ piece) behind_is ∙ sym (drop-append-le start old.octets piece within));
      no_more = omega arith;
    }

-- what a buffer gives back to the memory that it is all of
pub filled_whole : (buffer items : List ℕ) (len : ℕ) → len ≡ length buffer → take len (buffer ++ drop (length buffer) items) ≡ buffer
filled_whole buffer items len is = take-append-le len buffer (drop (length buffer) items) (omega arith) ∙ take_all len buffer (omega arith)

-- the front of memory that began with the octets that came
pub front_came : (items memory behind : List ℕ) (came : ℕ) → came ≤ length behind → memory ≡ items → take (length (take came behind)) items ≡ take came behind
    → take came memory ≡ take came behind
front_came items memory behind came few is front = ap (take came) is ∙ ap (λ n. take n items) (sym (length-take-le came behind few)) ∙ front

-- a fault of the reader comes while a body with a length is not whole
cut_why : (reader : Option (List ℕ)) (held : Held) (start len : ℕ) (fault : FetchFault) → IsTrue (is_read_fault fault) → IsOpenBody len held.octets start
    → (fault ≡ EndOfInput → IsAtEnd reader) → (fault ≡ TooManyTurns → held.calls ≡ 70000) → StopsBefore len reader held start fault
cut_why reader held start len Io kind opened ended spent = opened
cut_why reader held start len EndOfInput kind opened ended spent = (opened, ended refl)
cut_why reader held start len TooManyTurns kind opened ended spent = (opened, spent refl)
cut_why reader held start len NoMemory kind opened ended spent = opened.0
cut_why reader held start len fault kind opened ended spent = absurd (false≢true kind)

-- a fault of the reader, other than the end of the input, comes while a body up to the end of the
-- input is not too long
pub end_why : (held : Held) (start : ℕ) (fault : FetchFault) → IsTrue (is_read_fault fault) → fault ≢ EndOfInput → length held.octets ≤ start + 65536
    → (fault ≡ TooManyTurns → held.calls ≡ 70000) → StopsBeforeEnd held start fault
end_why held start Io kind other short spent = short
end_why held start EndOfInput kind other short spent = absurd (other refl)
end_why held start TooManyTurns kind other short spent = (short, spent refl)
end_why held start NoMemory kind other short spent = tt
end_why held start fault kind other short spent = absurd (false≢true kind)

-- a fault of the reader says nothing of a length
pub not_long : (fault : FetchFault) → IsTrue (is_read_fault fault) → fault ≡ BodyTooLong → ⊥
not_long fault kind is =
    let no_read : IsTrue (is_read_fault BodyTooLong) = subst (λ f. IsTrue (is_read_fault f)) is kind in
    false≢true no_read

-- a buffer that was not filled is a body that was cut
pub cuts_body : (a b : Option (List ℕ)) (old : Held) (behind front buffer : List ℕ) (start len came turns calls : ℕ) (fault : FetchFault)
    → start ≤ length old.octets → behind ≡ drop start old.octets
    → came ≡ min (length behind) len → front ≡ take came behind → length buffer ≡ len → len ≤ 65536 → turns ≡ old.calls
    → FillsShort a b turns calls came front buffer fault → CutsBodyOf a b old start len fault
cuts_body a b old behind front buffer start len came turns calls fault within behind_is came_is front_is len_is small same cut =
    let (piece, is, consumed) = cut.taken in
    let forward = cut.forward in
    let short = cut.short in
    let each = cut.each in
    let most = cut.most in
    let behind_len : length behind + start ≡ length old.octets = omega (arith, ap length behind_is, length-drop start old.octets) in
    let octets_len = length-append old.octets piece in
    let held : Held = record { octets = old.octets ++ piece; calls = calls } in
    let grown : cut.at ≡ came + length piece =
    sym (length-take-le cut.at buffer (omega arith)) ∙ ap length is ∙ length-append front piece
    ∙ ap (λ n. n + length piece) (ap length front_is ∙ length-take-le came behind (omega arith)) in
    record {
      held = held;
      taken = (piece, refl, consumed, omega arith, omega arith);
      few = cut.few;
      untouched = λ e. absurd (not_long fault cut.kind e);
      why = cut_why b held start len fault cut.kind (small, omega arith) cut.ended cut.spent;
    }

-- the octets after `start`, and then those that were read, are those of the message after `start`
behind_grows : (old piece body : List ℕ) (start : ℕ) → start ≤ length old → body ≡ drop start old ++ piece → body ≡ drop start (old ++ piece)
behind_grows old piece body start within is = is ∙ sym (drop-append-le start old piece within)

-- the octets up to the end of the input are the body
pub reads_to_end : (a b : Option (List ℕ)) (old : Held) (body : List ℕ) (start calls : ℕ) → start ≤ length old.octets → Grows a b (drop start old.octets) body
    → calls + length old.octets ≤ old.calls + (start + length body)
    → start + length body + 65536 * old.calls ≤ length old.octets + 65536 * calls → calls + 1 ≤ 70000 → IsAtEnd b
    → length body ≤ 65536 → ReadsToEnd a b old start body
reads_to_end a b old body start calls within (piece, is, consumed) each most few ended short =
    let body_is = behind_grows old.octets piece body start within is in
    let octets_len = length-append old.octets piece in
    let grown = ap length body_is ∙ length-drop start (old.octets ++ piece) in
    record {
      held = record { octets = old.octets ++ piece; calls = calls };
      taken = (piece, refl, consumed, omega arith, omega arith);
      few = omega arith;
      ended = ended;
      body_is = body_is;
      short = short;
    }

-- a fault before the end of the input
pub stops_before_end : (a b : Option (List ℕ)) (old : Held) (body : List ℕ) (start calls : ℕ) (fault : FetchFault) → start ≤ length old.octets
    → Grows a b (drop start old.octets) body → calls + length old.octets ≤ old.calls + (start + length body)
    → start + length body + 65536 * old.calls ≤ length old.octets + 65536 * calls → calls_made fault calls ≤ 70000
    → ((held : Held) → start + length body ≡ length held.octets → held.calls ≡ calls → StopsBeforeEnd held start fault) → CutsToEnd a b old start fault
stops_before_end a b old body start calls fault within (piece, is, consumed) each most few why =
    let octets_len = length-append old.octets piece in
    let grown : start + length body ≡ length (old.octets ++ piece) =
    omega (arith, ap length (behind_grows old.octets piece body start within is), length-drop start (old.octets ++ piece)) in
    let held : Held = record { octets = old.octets ++ piece; calls = calls } in
    record {
      held = held;
      taken = (piece, refl, consumed, omega arith, omega arith);
      few = few;
      why = why held grown refl;
    }
