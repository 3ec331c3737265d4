-- An input that begins with the text of a response is read as it. Its head and body are the only
-- ones there, so every other fault would need octets that are not those of the input.
use Rattle.std.proofs.Common.{◌≡◌, ℕ, ◌+◌, ◌≤◌, Bool, true, false, cond, List, [], ◌∷◌, ◌++◌, length, take, drop, Option, Some, None, Result, Ok, Err}
use Rattle.std.proofs.Common.{MatchResult, refl, sym, ap, ◌∙◌, subst, inl, inr, arith, append_assoc, append-nil, length-append, length-take, take-append-drop}
use Rattle.std.specs.List.{flat_map, AllByRecursion}
use Rattle.httparse.specs.Grammar.{ResponseHead, ReadsResponse, HasNoResponse, NeverHasResponse, print_response, status_code}
use Rattle.httparse.proofs.GrammarLemmas.{response_unique}
use Rattle.http_messages.specs.Answer.{AnswerText, has_no_body}
use Rattle.http_messages.specs.declared.fault.FetchFault.{FetchFault}
use Rattle.http_messages.specs.declared.fault.FetchFault.TheVariants.{Io, EndOfInput, BadHead, HeadTooLong, BadTarget, MethodNotServed, Credentials, BadBody}
use Rattle.http_messages.specs.declared.fault.FetchFault.TheVariants.{BodyTooLong, TooManyTurns, NoMemory}
use Rattle.http_writing.specs.Name.{is_name}
use Rattle.http_writing.specs.Answer.{answer_text}
use Rattle.http_reading.specs.declared.framing.Framing.TheVariants.{Length}
use Rattle.http_intake.specs.Reading.{Held, nothing_held, Takes, most_turns}
use Rattle.http_intake.specs.Heads.{longest_head, head_window, IsLongResponse}
use Rattle.http_intake.specs.Bodies.{StopsBefore}
use Rattle.http_reading.specs.AnswerHead.{ToldText, parts_of, is_interim, told}
use Rattle.http_reading.specs.Answers.{IsInterim, PassesInterim, HeadSays, SpellsAnswer, EndsWithInput, StopsAtHead, StopsInBody, StopsInAnswer, ReadsAnswer}
use Rattle.peer_fetch.specs.Writable.{IsWritableAnswer}
use Rattle.peer_fetch.specs.Reading.{StopsInAnswerText}
use Rattle.peer_fetch.proofs.Excess.{response_longer}
use Rattle.peer_fetch.proofs.AskReads.{front_of_front}
use Rattle.peer_fetch.proofs.AnswerTexts.{Parts, parts, head_of, head_text, head_reads, head_short, pairs_few, framing_of, told_of, head_tells}
use Rattle.peer_fetch.proofs.AnswerSpelled.{input_is, head_says, answer_spelled_by}
use Rattle.peer_fetch.proofs.BodyOnce.{EndsItself}
use Rattle.peer_fetch.proofs.AnswerOnce.{told_not_interim, clash, says_text, SameHead, head_once, answer_once}

framed_itself : (b : Bool) (n : ℕ) → EndsItself (cond b None (Some (Length n)))
framed_itself true n = tt
framed_itself false n = tt

-- An input that begins with the text of a response, of which some octets were taken
module _ (a : AnswerText) (via rest : List ℕ) (held : Held) (left input : List ℕ) (p : Parts a) (name : is_name via ≡ true)
    (input_at : input ≡ answer_text a via ++ rest) (taken : input ≡ held.octets ++ left) (counted : held.calls ≤ length held.octets) where
  behind : List ℕ
  behind = a.body ++ rest

  head_at : input ≡ head_text a via ++ behind
  unfolding behind
  head_at = input_at ∙ input_is a via rest

  whole : ReadsResponse input (head_of a via) behind
  whole = subst (λ (t : List ℕ). ReadsResponse t (head_of a via) behind) (sym head_at) (head_reads a via behind p name)

  tells : told (parts_of (head_of a via)) ≡ Ok (told_of a)
  tells = head_tells a via p name

  final : is_interim (status_code (head_of a via)) ≡ false
  final = told_not_interim (head_of a via) (told_of a) tells

  -- no interim head stands at the front
  no_interim : (heads : List ResponseHead) (q : List ℕ) → AllByRecursion IsInterim heads → input ≡ flat_map print_response heads ++ q → heads ≡ []
  no_interim [] q all at = refl
  no_interim (z ∷ zs) q (this, others) at =
      let one = response_unique input (head_of a via) z behind _ whole (this.0.valid, at ∙ append_assoc (print_response z) (flat_map print_response zs) q) in
      absurd (clash (is_interim (status_code (head_of a via))) (ap (λ h. is_interim (status_code h)) one.0 ∙ this.1) final)

  starts_at : (start : ℕ) → PassesInterim held.octets start → start ≡ 0
  starts_at start passes =
      let at : input ≡ flat_map print_response passes.heads ++ (drop start held.octets ++ left) =
      taken ∙ ap (λ (t : List ℕ). t ++ left) (sym (take-append-drop start held.octets) ∙ ap (λ (t : List ℕ). t ++ drop start held.octets) passes.text)
      ∙ append_assoc (flat_map print_response passes.heads) (drop start held.octets) left in
      let none = no_interim passes.heads (drop start held.octets ++ left) passes.interim at in
      let size = ap length (passes.text ∙ ap (flat_map print_response) none) in
      let within = passes.within in
      omega (arith, size, within, length-take start held.octets)

  -- A head that was read is that of the response

  says_same : (start end : ℕ) (outcome : Result ToldText FetchFault) → HeadSays held.octets start end outcome → outcome ≡ Ok (told_of a)
  says_same start end outcome s =
      let at : input ≡ flat_map print_response s.interim.heads ++ (print_response s.head ++ (drop end held.octets ++ left)) =
      taken ∙ ap (λ (t : List ℕ). t ++ left) (says_text held.octets start end outcome s) ∙ regroup (flat_map print_response s.interim.heads)
      (print_response s.head)
      (drop end held.octets) left in
      let none = no_interim s.interim.heads _ s.interim.interim at in
      let front : input ≡ print_response s.head ++ (drop end held.octets ++ left) =
      at ∙ ap (λ hs. flat_map print_response hs ++ (print_response s.head ++ (drop end held.octets ++ left))) none in
      let one = response_unique input (head_of a via) s.head behind _ whole (s.short.valid, front) in
      sym s.says ∙ ap (λ h. told (parts_of h)) (sym one.0) ∙ tells
    where
      regroup : (a b c d : List ℕ) → (a ++ (b ++ c)) ++ d ≡ a ++ (b ++ (c ++ d))
      regroup a b c d = simp append_assoc

  same_head : (start end : ℕ) (t : ToldText) → HeadSays held.octets start end (Ok t) → SameHead start end 0 (length (head_text a via)) t (told_of a)
  same_head start end t s = head_once held.octets left start end 0 (length (head_text a via)) t (told_of a) s
      (head_says a via behind (held.octets ++ left) p name (sym taken ∙ head_at))

  -- Why a head was refused

  window : List ℕ
  window = head_window 0 held.octets

  tail : List ℕ
  tail = drop longest_head held.octets ++ left

  window_is : input ≡ window ++ tail
  unfolding window tail
  window_is = taken ∙ ap (λ (t : List ℕ). t ++ left) (sym (take-append-drop longest_head held.octets))
      ∙ append_assoc (take longest_head held.octets) (drop longest_head held.octets) left

  never : ¬ (NeverHasResponse window)
  never none = none tail (head_of a via) behind (subst (λ (t : List ℕ). ReadsResponse t (head_of a via) behind) window_is whole)

  ended : (left ≡ []) → HasNoResponse held.octets → ⊥
  ended none has = has (head_of a via) behind (subst (λ (t : List ℕ). ReadsResponse t (head_of a via) behind)
      (taken ∙ ap (λ (t : List ℕ). held.octets ++ t) none ∙ append-nil held.octets) whole)

  long : IsLongResponse window → ⊥
  long (inl (full, none, may)) =
      let short = head_short a via p name in
      let begins = front_of_front (head_text a via) behind window tail (sym head_at ∙ window_is) (omega arith) in
      none (head_of a via) _ (subst (λ (t : List ℕ). ReadsResponse t (head_of a via) (drop (length (head_text a via)) window)) (sym begins)
      (head_reads a via (drop (length (head_text a via)) window) p name))
  long (inr (front, after, cut, h, reads, over)) =
      let at : input ≡ front ++ (after ++ tail) = window_is ∙ ap (λ (t : List ℕ). t ++ tail) cut ∙ append_assoc front after tail in
      let few = response_longer front (after ++ tail) behind h (head_of a via) reads (subst (λ (t : List ℕ). ReadsResponse t (head_of a via) behind) at whole)
      in
      let room = pairs_few a via p in
      omega (arith, few, room, over)

  -- octets that are longer than a head hold the whole of it
  spent : HasNoResponse held.octets → held.calls ≡ most_turns → ⊥
  spent none many =
      let short = head_short a via p name in
      let begins = front_of_front (head_text a via) behind held.octets left (sym head_at ∙ taken) (omega (arith, short, many)) in
      none (head_of a via) _ (subst (λ (t : List ℕ). ReadsResponse t (head_of a via) (drop (length (head_text a via)) held.octets)) (sym begins)
      (head_reads a via (drop (length (head_text a via)) held.octets) p name))

  text_length : length (answer_text a via) ≡ length (head_text a via) + length a.body
  text_length =
      let is = ap length (input_is a via []) in
      omega (arith, is, length-append (answer_text a via) [], length-append (head_text a via) (a.body ++ []), length-append a.body [])

  head_stops : (fault : FetchFault) → StopsAtHead (Some left) held 0 fault → StopsInAnswerText (answer_text a via) held fault
  unfolding window
  head_stops Io stops = inl refl
  head_stops NoMemory stops = inr (inl refl)
  head_stops TooManyTurns stops = absurd (spent stops.0.0 stops.1)
  head_stops EndOfInput stops = absurd (ended stops.1 stops.0.0)
  head_stops BadHead stops = absurd (never stops)
  head_stops HeadTooLong stops = absurd (long stops)
  head_stops (BadTarget f) stops = absurd stops
  head_stops MethodNotServed stops = absurd stops
  head_stops Credentials stops = absurd stops
  head_stops BadBody stops = absurd stops
  head_stops BodyTooLong stops = absurd stops

  -- Why a body was refused

  room : length (head_text a via) + length a.body ≤ length input
  unfolding behind
  room = let size = ap length head_at ∙ length-append (head_text a via) behind in omega (arith, size, length-append a.body rest)

  length_stops : (fault : FetchFault) → StopsBefore (length a.body) (Some left) held (length (head_text a via)) fault →
      StopsInAnswerText (answer_text a via) held fault
  length_stops Io stops = inl refl
  length_stops NoMemory stops = inr (inl refl)
  length_stops TooManyTurns stops = inr (inr (refl, stops.1, omega (arith, counted, stops.1), omega (arith, text_length, stops.0.1)))
  length_stops EndOfInput stops =
      let size = ap length (taken ∙ ap (λ (t : List ℕ). held.octets ++ t) stops.1 ∙ append-nil held.octets) in
      absurd (omega (arith, size, stops.0.1, room))
  length_stops BodyTooLong stops = let short = p.short in absurd (omega (arith, short, stops))
  length_stops BadHead stops = absurd stops
  length_stops HeadTooLong stops = absurd stops
  length_stops (BadTarget f) stops = absurd stops
  length_stops MethodNotServed stops = absurd stops
  length_stops Credentials stops = absurd stops
  length_stops BadBody stops = absurd stops

  body_stops : (b : Bool) (fault : FetchFault) → StopsInBody (cond b None (Some (Length (length a.body)))) (Some left) held (length (head_text a via)) fault →
      StopsInAnswerText (answer_text a via) held fault
  body_stops true fault stops = absurd stops
  body_stops false fault stops = length_stops fault stops

  pub fault_stops : (fault : FetchFault) → StopsInAnswer (Some left) held fault → StopsInAnswerText (answer_text a via) held fault
  fault_stops fault (inl (start, passes, few, stops)) = head_stops fault
      (subst (λ (n : ℕ). StopsAtHead (Some left) held n fault) (starts_at start passes) stops)
  fault_stops fault (inr (inl (start, end, says))) = let bad = says_same start end (Err fault) says in cc
  fault_stops fault (inr (inr (inl (start, end, t, says, stops)))) =
      let same = same_head start end t says in
      body_stops (has_no_body a.status) fault
      (subst (λ (n : ℕ). StopsInBody (framing_of a) (Some left) held n fault) (sym same.ends)
      (subst (λ (t : ToldText). StopsInBody t.framing (Some left) held end fault) (sym same.tells) stops))
  fault_stops fault (inr (inr (inr (inl (start, passes, many, long))))) = absurd (omega (arith, many, starts_at start passes))
  fault_stops fault (inr (inr (inr (inr memory)))) = inr (inl memory)

  pub ok_says : (read : AnswerText) (end : ℕ) → SpellsAnswer held.octets end read → read ≡ a
  ok_says read end spelled =
      let same = same_head spelled.start spelled.body_start spelled.told spelled.head in
      let ends : EndsItself spelled.told.framing = subst (λ (t : ToldText). EndsItself t.framing) same.tells
      (framed_itself (has_no_body a.status) (length a.body)) in
      let written : SpellsAnswer (held.octets ++ left) (length (answer_text a via)) a = subst (λ (t : List ℕ). SpellsAnswer t (length (answer_text a via)) a)
      (sym input_at ∙ taken) (answer_spelled_by a via rest p name) in
      sym (answer_once held.octets left end (length (answer_text a via)) read a spelled ends written).1

abbrev pub ReadsBack : AnswerText → List ℕ → Held → Result AnswerText FetchFault → Type 0
ReadsBack a text held result = MatchResult result (λ read. read ≡ a) (StopsInAnswerText text held)

reads_by : (a : AnswerText) (via rest : List ℕ) (held : Held) (reader : Option (List ℕ)) (result : Result AnswerText FetchFault) → Parts a →
    is_name via ≡ true → Takes (Some (answer_text a via ++ rest)) reader nothing_held held
    → MatchResult result (λ answer. (end : ℕ) × (s : SpellsAnswer held.octets end answer) × EndsWithInput s.told.framing reader held.calls)
    (StopsInAnswer reader held) → ReadsBack a (answer_text a via) held result
reads_by a via rest held None result p name taken outcome = absurd taken.2
reads_by a via rest held (Some left) (Ok read) p name (piece, same, consumed, each, most) outcome =
    ok_says a via rest held left (answer_text a via ++ rest) p name refl (consumed ∙ ap (λ (t : List ℕ). t ++ left) (sym same))
    (omega (arith, each, ap length same)) read outcome.0 outcome.1
reads_by a via rest held (Some left) (Err fault) p name (piece, same, consumed, each, most) outcome =
    fault_stops a via rest held left (answer_text a via ++ rest) p name refl (consumed ∙ ap (λ (t : List ℕ). t ++ left) (sym same))
    (omega (arith, each, ap length same)) fault outcome

pub answer_reads : (a : AnswerText) (via rest : List ℕ) (reader : Option (List ℕ)) (result : Result AnswerText FetchFault) → IsWritableAnswer a →
    is_name via ≡ true → (reads : ReadsAnswer (Some (answer_text a via ++ rest)) reader result) → ReadsBack a (answer_text a via) reads.held result
answer_reads a via rest reader result writable name reads = reads_by a via rest reads.held reader result (parts a writable) name reads.taken reads.outcome
