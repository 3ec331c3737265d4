-- An input that begins with the text of a request is read as it. Its head is the only one there,
-- so every other fault would need octets that are not those of the input.
use Rattle.std.proofs.Common.{◌≡◌, ℕ, ◌≤◌, List, [], ◌++◌, length, take, drop, Option, Some, None, Result, Ok, Err, MatchResult, refl, sym, ap, ◌∙◌, subst, inl}
use Rattle.std.proofs.Common.{inr, arith, append_assoc, append-nil, take-append-drop}
use Rattle.std.proofs.lemmas.List.{take_at, take-append-le}
use Rattle.httparse.specs.Grammar.{ReadsRequest, HasNoRequest, NeverHasRequest}
use Rattle.httparse.proofs.GrammarLemmas.{ReadsRequest-append}
use Rattle.http_messages.specs.declared.ask.Ask.{Ask}
use Rattle.http_messages.specs.declared.fault.FetchFault.{FetchFault}
use Rattle.http_messages.specs.declared.fault.FetchFault.TheVariants.{Io, EndOfInput, BadHead, HeadTooLong, BadTarget, MethodNotServed, Credentials, BadBody}
use Rattle.http_messages.specs.declared.fault.FetchFault.TheVariants.{BodyTooLong, TooManyTurns, NoMemory}
use Rattle.url_key.specs.declared.fault.KeyFault.{KeyFault}
use Rattle.url_key.specs.declared.fault.KeyFault.TheVariants.{TooLong, NotVisibleAscii, Fragment, NotUri, NotHttp, UserInfo, NoHost, BadPort}
use Rattle.url_key.specs.declared.fault.KeyFault.TheVariants as key_fault
use Rattle.http_intake.specs.Reading.{Held, nothing_held, Takes, most_turns}
use Rattle.http_intake.specs.Heads.{longest_head, head_window, IsLongRequest}
use Rattle.http_reading.specs.Asks.{SpellsHead, FrontSays, StopsInAsk, ReadsAsk}
use Rattle.peer_fetch.specs.Reading.{StopsInAskText}
use Rattle.peer_fetch.proofs.Excess.{request_longer}
use Rattle.peer_fetch.proofs.AskOnce.{fronts_once}

-- the shorter of two fronts of one list is a front of the longer
pub front_of_front : (a r b q : List ℕ) → a ++ r ≡ b ++ q → length a ≤ length b → b ≡ a ++ drop (length a) b
front_of_front a r b q same fits =
    sym (take-append-drop (length a) b)
    ∙ ap (λ (t : List ℕ). t ++ drop (length a) b) (sym (take-append-le (length a) b q fits) ∙ ap (take (length a)) (sym same) ∙ take_at a r (length a) refl)

-- An input that begins with the head of a request, of which some octets were taken
module _ (input text rest : List ℕ) (held : Held) (left : List ℕ) (ask : Ask) (input_is : input ≡ text ++ rest) (taken : input ≡ held.octets ++ left)
    (counted : held.calls ≤ length held.octets) (spells : SpellsHead text (Ok ask)) where
  whole : ReadsRequest input spells.head rest
  whole = subst (λ (t : List ℕ). ReadsRequest t spells.head rest) (sym input_is) (ReadsRequest-append text spells.head [] rest spells.reads)

  -- what a front says is the request
  front_says : (outcome : Result Ask FetchFault) → FrontSays held.octets outcome → outcome ≡ Ok ask
  front_says outcome (front, behind, cut, there) =
      let at : input ≡ front ++ (behind ++ left) = taken ∙ ap (λ (t : List ℕ). t ++ left) cut ∙ append_assoc front behind left in
      sym (fronts_once input text rest front (behind ++ left) (Ok ask) outcome input_is at spells there).1

  no_fault : (fault : FetchFault) → FrontSays held.octets (Err fault) → ⊥
  no_fault fault says = let same = front_says (Err fault) says in cc

  window : List ℕ
  window = head_window 0 held.octets

  tail : List ℕ
  tail = drop longest_head held.octets ++ left

  window_is : input ≡ window ++ tail
  unfolding window tail
  window_is = taken ∙ ap (λ (t : List ℕ). t ++ left) (sym (take-append-drop longest_head held.octets))
      ∙ append_assoc (take longest_head held.octets) (drop longest_head held.octets) left

  never : ¬ (NeverHasRequest window)
  never none = none tail spells.head rest (subst (λ (t : List ℕ). ReadsRequest t spells.head rest) window_is whole)

  ended : (left ≡ []) → HasNoRequest held.octets → ⊥
  ended none has = has spells.head rest (subst (λ (t : List ℕ). ReadsRequest t spells.head rest)
      (taken ∙ ap (λ (t : List ℕ). held.octets ++ t) none ∙ append-nil held.octets) whole)

  -- octets that are longer than a head hold the whole of it
  spent : HasNoRequest held.octets → held.calls ≡ most_turns → ⊥
  spent none many =
      let short = spells.short in
      let begins = front_of_front text rest held.octets left (sym input_is ∙ taken) (omega arith) in
      none spells.head _ (subst (λ (t : List ℕ). ReadsRequest t spells.head (drop (length text) held.octets)) (sym begins)
      (ReadsRequest-append text spells.head [] (drop (length text) held.octets) spells.reads))

  long : IsLongRequest window → ⊥
  long (inl (full, none, may)) =
      let short = spells.short in
      let begins = front_of_front text rest window tail (sym input_is ∙ window_is) (omega arith) in
      none spells.head _ (subst (λ (t : List ℕ). ReadsRequest t spells.head (drop (length text) window)) (sym begins)
      (ReadsRequest-append text spells.head [] (drop (length text) window) spells.reads))
  long (inr (front, behind, cut, h, reads, over)) =
      let at : input ≡ front ++ (behind ++ tail) = window_is ∙ ap (λ (t : List ℕ). t ++ tail) cut ∙ append_assoc front behind tail in
      let few = request_longer front (behind ++ tail) rest h spells.head reads (subst (λ (t : List ℕ). ReadsRequest t spells.head rest) at whole) in
      let room = spells.few in
      omega (arith, few, room, over)

  no_target : (f : KeyFault) → StopsInAsk (Some left) held (BadTarget f) → ⊥
  unfolding window
  no_target TooLong (inl stops) = long stops.long
  no_target TooLong (inr says) = no_fault (BadTarget TooLong) says
  no_target NotVisibleAscii says = no_fault (BadTarget NotVisibleAscii) says
  no_target Fragment says = no_fault (BadTarget Fragment) says
  no_target NotUri says = no_fault (BadTarget NotUri) says
  no_target NotHttp says = no_fault (BadTarget NotHttp) says
  no_target UserInfo says = no_fault (BadTarget UserInfo) says
  no_target NoHost says = no_fault (BadTarget NoHost) says
  no_target BadPort says = no_fault (BadTarget BadPort) says
  no_target key_fault.NoMemory says = no_fault (BadTarget key_fault.NoMemory) says

  pub fault_stops : (fault : FetchFault) → StopsInAsk (Some left) held fault → StopsInAskText fault
  unfolding window
  fault_stops Io stops = inl refl
  fault_stops NoMemory stops = inr refl
  fault_stops TooManyTurns stops = absurd (spent stops.0.0 stops.1)
  fault_stops EndOfInput stops = absurd (ended stops.1 stops.0.0)
  fault_stops BadHead (inl none) = absurd (never none)
  fault_stops BadHead (inr says) = absurd (no_fault BadHead says)
  fault_stops HeadTooLong stops = absurd (long stops.long)
  fault_stops (BadTarget f) stops = absurd (no_target f stops)
  fault_stops MethodNotServed stops = absurd (no_fault MethodNotServed stops)
  fault_stops Credentials stops = absurd (no_fault Credentials stops)
  fault_stops BadBody stops = absurd (no_fault BadBody stops)
  fault_stops BodyTooLong stops = absurd (no_fault BodyTooLong stops)

  pub ok_says : (read : Ask) → FrontSays held.octets (Ok read) → read ≡ ask
  ok_says read says = let same = front_says (Ok read) says in cc

abbrev pub ReadsBack : Ask → Result Ask FetchFault → Type 0
ReadsBack ask result = MatchResult result (λ read. read ≡ ask) StopsInAskText

reads_by : (text rest : List ℕ) (held : Held) (reader : Option (List ℕ)) (ask : Ask) (result : Result Ask FetchFault) → SpellsHead text (Ok ask) →
    Takes (Some (text ++ rest)) reader nothing_held held
    → MatchResult result (λ ask. FrontSays held.octets (Ok ask)) (StopsInAsk reader held) → ReadsBack ask result
reads_by text rest held None ask result spells taken outcome = absurd taken.2
reads_by text rest held (Some left) ask (Ok read) spells (piece, same, consumed, each, most) outcome =
    ok_says (text ++ rest) text rest held left ask refl (consumed ∙ ap (λ (t : List ℕ). t ++ left) (sym same)) (omega (arith, each, ap length same)) spells read
    outcome
reads_by text rest held (Some left) ask (Err fault) spells (piece, same, consumed, each, most) outcome =
    fault_stops (text ++ rest) text rest held left ask refl (consumed ∙ ap (λ (t : List ℕ). t ++ left) (sym same)) (omega (arith, each, ap length same)) spells
    fault outcome

pub ask_reads : (text rest : List ℕ) (reader : Option (List ℕ)) (ask : Ask) (result : Result Ask FetchFault) → SpellsHead text (Ok ask) →
    ReadsAsk (Some (text ++ rest)) reader result → ReadsBack ask result
ask_reads text rest reader ask result spells reads = reads_by text rest reads.held reader ask result spells reads.taken reads.outcome
