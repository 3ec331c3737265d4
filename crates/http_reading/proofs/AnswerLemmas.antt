-- From the places that the parser gave to the head that stands there, and from heads and body to a
-- response. Octets that come later change nothing before them, so what a head says still holds
-- once its body was read.
use Rattle.std.proofs.Common.{◌≡◌, ℕ, ◌≤◌, ◌<◌, ◌+◌, ◌⊎◌, Bool, true, false, not, ◌&&◌, ◌==◌, codes, nat_le, if◌then◌else◌, List, [], ◌∷◌, ◌++◌, length, take}
use Rattle.std.proofs.Common.{drop, Option, Some}
use Rattle.std.proofs.Common.{None, Result, Ok, Err, IfOk, IfErr, refl, sym, ◌∙◌, ap, subst, inl, inr, arith, length-take, length-append, take-append-drop}
use Rattle.std.proofs.Common.{drop-drop, append_assoc, append-nil}
use Rattle.std.proofs.KnownBytes.{Consumes-trans}
use Rattle.std.proofs.lemmas.List.{length-map, take-append-le, drop-append-le, take_at, drop_at}
use Rattle.std.specs.List.{AllByRecursion, flat_map}
use Rattle.httparse.specs.Grammar.{ResponseHead, print_response, print_blank, print_version, print_reason, print_end, print_section, ReadsResponse}
use Rattle.httparse.specs.Grammar.{NeverHasResponse, status_code}
use Rattle.httparse.specs.declared.spans.HeaderSpan.{HeaderSpan}
use Rattle.httparse.specs.declared.spans.ResponseSpans.{ResponseSpans}
use Rattle.httparse.specs.Spans.{header_bytes, name_and_value, AreFieldsAt, IsResponseAt, IsResponseOf}
use Rattle.http_messages.specs.Answer.{AnswerText, has_no_body, longest_body}
use Rattle.http_messages.specs.Field.{are_few_fields}
use Rattle.http_messages.specs.declared.fault.FetchFault.{FetchFault}
use Rattle.http_messages.specs.declared.fault.FetchFault.TheVariants.{Io, EndOfInput, BadHead, HeadTooLong, BadTarget, MethodNotServed, Credentials, BadBody}
use Rattle.http_messages.specs.declared.fault.FetchFault.TheVariants.{BodyTooLong, TooManyTurns, NoMemory}
use Rattle.http_reading.specs.Fields.{fields_of, has_field}
use Rattle.std.specs.Io.KnownBytes.{IsAtEnd}
use Rattle.http_intake.specs.Reading.{Held, Takes, calls_made, IsReadFault}
use Rattle.http_intake.specs.Heads.{longest_head, most_fields, head_window, IsLongResponse, IsOpenResponse, IsHeadFault}
use Rattle.http_reading.specs.AnswerHead.{AnswerHead, ToldText, parts_of, head_at, is_interim, is_final, some_framing, framing_in, framing_by, framed, told}
use Rattle.http_reading.specs.declared.framing.BadLength.{BadLength}
use Rattle.http_reading.specs.declared.framing.BadCoding.{BadCoding}
use Rattle.http_reading.specs.declared.framing.Framing.{Framing}
use Rattle.http_reading.specs.declared.framing.Framing.TheVariants.{Length}
use Rattle.http_reading.specs.Framing.{content_length, is_chunked, framing_told, framing}
use Rattle.http_reading.specs.Kept.{kept}
use Rattle.http_reading.specs.Answers.{most_interim, IsShortHead, IsInterim, PassesInterim, HeadSays, SpellsBody, StopsAtHead, ReadsBody, ReadsRest}
use Rattle.http_reading.specs.Answers.{ReadsOn, answer_of}
use Rattle.http_reading.proofs.BodyLemmas.{takes_none}

-- a head of these parts
made : ℕ → ℕ → List (List ℕ × List ℕ) → AnswerHead
made status minor fields = record { status = status; minor = minor; fields = fields }

-- the parts that the places cover are those of the head
head_is : (window : List ℕ) (headers : List HeaderSpan) (r : ResponseSpans) (h : ResponseHead) → IsResponseAt window headers r h →
    head_at window headers r ≡ parts_of h
unfolding made
head_is window headers r h is =
    ap (λ s. made s r.version (fields_of window (take r.headers headers))) is.code
    ∙ ap (λ v. made (status_code h) v (fields_of window (take r.headers headers))) is.version
    ∙ ap (made (status_code h) h.minor) is.fields

-- a head has no more fields than there was room for
few_fields : (window : List ℕ) (headers : List HeaderSpan) (r : ResponseSpans) (h : ResponseHead) → AreFieldsAt window headers r.headers h.fields →
    length headers ≡ most_fields → length h.fields ≤ most_fields
few_fields window headers r h fields room =
    let written : length (take r.headers headers) ≡ length h.fields =
    sym (length-map (take r.headers headers) (header_bytes window)) ∙ ap length fields ∙ length-map h.fields name_and_value in
    omega (arith, written, length-take r.headers headers, room)

-- a head in the window is one that begins at start
record StandsAt (octets : List ℕ) (start : ℕ) (r : ResponseSpans) (h : ResponseHead) : Type 0 where
  short : IsShortHead h
  reads : ReadsResponse (drop start octets) h (drop (start + r.len) octets)

-- the head that the parser found in the window stands at `start`
stands : (octets : List ℕ) (start : ℕ) (headers : List HeaderSpan) (r : ResponseSpans) (h : ResponseHead) → length headers ≡ most_fields →
    IsResponseAt (head_window start octets) headers r h → StandsAt octets start r h
stands octets start headers r h room is =
    let rest : List ℕ = drop start octets in
    let window : List ℕ = head_window start octets in
    let behind : List ℕ = drop r.len window in
    let tail : List ℕ = drop longest_head rest in
    let cut : rest ≡ print_response h ++ (behind ++ tail) =
    sym (take-append-drop longest_head rest) ∙ ap (λ w. w ++ tail) is.reads.1 ∙ append_assoc (print_response h) behind tail in
    let after : behind ++ tail ≡ drop (start + r.len) octets =
    sym (ap (drop r.len) cut ∙ drop_at (print_response h) (behind ++ tail) r.len (sym is.len)) ∙ drop-drop r.len start octets in
    let size : length window ≡ length (print_response h) + length behind = ap length is.reads.1 ∙ length-append (print_response h) behind in
    record {
      short = record { valid = is.reads.0; short = omega (arith, size, length-take longest_head rest); few = few_fields window headers r h is.fields room };
      reads = (is.reads.0, cut ∙ ap (λ t. print_response h ++ t) after);
    }

-- what the parts at the places say is what the head says
pub head_says : (octets : List ℕ) (start : ℕ) (headers : List HeaderSpan) (r : ResponseSpans) (outcome : Result ToldText FetchFault) →
    start ≤ most_interim → length headers ≡ most_fields → IsResponseOf (head_window start octets) headers r → is_interim r.code ≡ false
    → start + r.len ≤ length octets
    → told (head_at (head_window start octets) headers r) ≡ outcome → PassesInterim octets start → HeadSays octets start (start + r.len) outcome
head_says octets start headers r outcome few room (h, is) final inside says passes =
    let at : StandsAt octets start r h = stands octets start headers r h room is in
    record {
      interim = passes;
      few = few;
      head = h;
      final = ap is_interim (sym is.code) ∙ final;
      short = at.short;
      reads = at.reads;
      within = inside;
      says = subst (λ parts. told parts ≡ outcome) (head_is (head_window start octets) headers r h is) says;
    }

-- octets that come later change nothing before them

-- interim heads stay
passes_more : (octets more : List ℕ) (start : ℕ) → PassesInterim octets start → PassesInterim (octets ++ more) start
passes_more octets more start passes = record {
  heads = passes.heads;
  interim = passes.interim;
  text = take-append-le start octets more passes.within ∙ passes.text;
  within = omega (arith, passes.within, length-append octets more);
}

-- what a head says stays
says_more : (octets more : List ℕ) (start end : ℕ) (outcome : Result ToldText FetchFault) → HeadSays octets start end outcome →
    HeadSays (octets ++ more) start end outcome
says_more octets more start end outcome says = record {
  interim = passes_more octets more start says.interim;
  few = says.few;
  head = says.head;
  final = says.final;
  short = says.short;
  reads = (
    says.reads.0,
    drop-append-le start octets more says.interim.within ∙ ap (λ t. t ++ more) says.reads.1 ∙ append_assoc (print_response says.head) (drop end octets) more
        ∙ ap (λ t. print_response says.head ++ t) (sym (drop-append-le end octets more says.within)),
  );
  within = omega (arith, says.within, length-append octets more);
  says = says.says;
}

says_taken : (before after : Option (List ℕ)) (old new : Held) (start end : ℕ) (outcome : Result ToldText FetchFault) → Takes before after old new →
    HeadSays old.octets start end outcome → HeadSays new.octets start end outcome
says_taken before after old new start end outcome taken says =
    subst (λ octets. HeadSays octets start end outcome) (sym taken.1) (says_more old.octets taken.0 start end outcome says)

pub passes_taken : (before after : Option (List ℕ)) (old new : Held) (start : ℕ) → Takes before after old new → PassesInterim old.octets start →
    PassesInterim new.octets start
passes_taken before after old new start taken passes =
    subst (λ octets. PassesInterim octets start) (sym taken.1) (passes_more old.octets taken.0 start passes)

-- a head that is refused for what it says, and one after which the rest is read

-- what is not told by a call: so many calls were made
abbrev Plain : {A : Type 0} → Result A FetchFault → Type 0
Plain result = IfErr result (λ fault. (calls : ℕ) → calls_made fault calls ≡ calls)

plain_if : {A : Type 0} (b : Bool) (x y : Result A FetchFault) → Plain x → Plain y → Plain (if b then x else y)
plain_if true x y first second = first
plain_if false x y first second = second

plain_framing : (coding : Result Bool BadCoding) (length : Result (Option ℕ) BadLength) → Plain (framing_told coding length)
plain_framing (Err bad) length = λ calls. refl
plain_framing (Ok chunked) (Err bad) = λ calls. refl
plain_framing (Ok true) (Ok (Some n)) = λ calls. refl
plain_framing (Ok true) (Ok None) = tt
plain_framing (Ok false) (Ok (Some n)) = plain_if (nat_le n longest_body) (Ok (Length n)) (Err BodyTooLong) tt (λ calls. refl)
plain_framing (Ok false) (Ok None) = tt

plain_some : (framing : Result Framing FetchFault) → Plain framing → Plain (some_framing framing)
plain_some (Err fault) plain = plain
plain_some (Ok framing) plain = tt

plain_framed : (h : AnswerHead) (framing : Result (Option Framing) FetchFault) → Plain framing → Plain (framed h framing)
plain_framed h (Err fault) plain = plain
plain_framed h (Ok framing) plain = tt

-- what a head says is told without one more call
plain_told : (h : AnswerHead) → Plain (told h)
plain_told h =
    plain_if (not (is_final h.status)) (Err BadHead) _ (λ calls. refl)
    (plain_if (are_few_fields (kept h.fields)) _ (Err HeadTooLong)
    (plain_framed h (framing_by h.status h.minor h.fields)
    (plain_if (has_no_body h.status) (Ok None) _ tt
    (plain_some (framing_in h.minor h.fields)
    (plain_if ((h.minor == 0) && has_field (codes "transfer-encoding") h.fields) (Err BadBody) (framing h.fields) (λ calls. refl)
    (plain_framing (is_chunked h.fields) (content_length h.fields))))))
    (λ calls. refl))

-- a head that was refused for what it says
pub refused : (reader : Option (List ℕ)) (held : Held) (start end : ℕ) (fault : FetchFault) → held.calls ≤ 70000
    → (fault ≡ NoMemory) ⊎ HeadSays held.octets start end (Err fault) → ReadsOn reader reader held (Err fault)
refused reader held start end fault few why = record {
  held = held;
  taken = takes_none reader held;
  made = elim why [
    | inl same ↦ subst (λ (f : FetchFault). calls_made f held.calls ≤ 70000) (sym same) few
    | inr says ↦ let plain : Plain {A = ToldText} (Err fault) = subst Plain says.says (plain_told (parts_of says.head)) in omega (arith, plain held.calls, few)
  ];
  outcome = elim why [
    | inl same ↦ inr (inr (inr (inr same)))
    | inr says ↦ inr (inl (start, end, says))
  ];
}

-- a body that was read, and what its head told, are the rest of a response
pub told_read : (t : ToldText) (before after : Option (List ℕ)) (old : Held) (start : ℕ) (body : List ℕ) (result : Result AnswerText FetchFault)
    → ReadsBody t.framing before after old start (Ok body) → IfOk result (λ answer. answer ≡ answer_of t body)
    → IfErr result (λ fault. fault ≡ NoMemory) → ReadsRest t before after old start result
told_read t before after old start body (Ok answer) reads ok err =
    let same : answer.body ≡ body = ap (λ (a : AnswerText). a.body) ok in
    record {
      held = reads.held;
      taken = reads.taken;
      made = reads.made;
      outcome = (
        reads.outcome.0,
        subst (SpellsBody t.framing reads.held.octets start reads.outcome.0) (sym same) reads.outcome.1,
        reads.outcome.2,
        ok ∙ ap (answer_of t) (sym same),
      );
    }
told_read t before after old start body (Err fault) reads ok err = record {
  held = reads.held;
  taken = reads.taken;
  made = subst (λ (f : FetchFault). calls_made f reads.held.calls ≤ 70000) (sym err) reads.made;
  outcome = inl err;
}

-- a head, and the rest that was read after it
pub rest_read : (before after : Option (List ℕ)) (old : Held) (start end : ℕ) (t : ToldText) (result : Result AnswerText FetchFault) →
    HeadSays old.octets start end (Ok t) → ReadsRest t before after old end result → ReadsOn before after old result
rest_read before after old start end t (Ok answer) says rest = record {
  held = rest.held;
  taken = rest.taken;
  made = rest.made;
  outcome = (
    rest.outcome.0,
    record {
      start = start;
      body_start = end;
      told = t;
      head = says_taken before after old rest.held start end (Ok t) rest.taken says;
      spelled = rest.outcome.1;
      answer_is = rest.outcome.3;
    },
    rest.outcome.2,
  );
}
rest_read before after old start end t (Err fault) says rest = record {
  held = rest.held;
  taken = rest.taken;
  made = rest.made;
  outcome = elim rest.outcome [
    | inl same ↦ inr (inr (inr (inr same)))
    | inr stops ↦ inr (inr (inl (start, end, t, says_taken before after old rest.held start end (Ok t) rest.taken says, stops)))
  ];
}

-- Interim heads

-- before anything was read there is no interim head
pub no_interim : (octets : List ℕ) → octets ≡ [] → PassesInterim octets 0
no_interim octets empty = record { heads = []; interim = tt; text = refl; within = omega arith }

all_joined : {A : Type 0} (P : A → Type 0) (xs : List A) (x : A) → AllByRecursion P xs → P x → AllByRecursion P (xs ++ x ∷ [])
all_joined P [] x all h = (h, tt)
all_joined P (y ∷ xs) x all h = (all.0, all_joined P xs x all.1 h)

texts_joined : (heads : List ResponseHead) (h : ResponseHead) → flat_map print_response (heads ++ h ∷ []) ≡ flat_map print_response heads ++ print_response h
texts_joined [] h = append-nil (print_response h)
texts_joined (g ∷ heads) h = ap (λ t. print_response g ++ t) (texts_joined heads h)
    ∙ sym (append_assoc (print_response g) (flat_map print_response heads) (print_response h))

-- an interim head is passed over
pub one_more : (octets : List ℕ) (start : ℕ) (headers : List HeaderSpan) (r : ResponseSpans) → length headers ≡ most_fields →
    IsResponseOf (head_window start octets) headers r → start + r.len ≤ length octets
    → is_interim r.code ≡ true → PassesInterim octets start → PassesInterim octets (start + r.len)
one_more octets start headers r room (h, is) inside interim passes =
    let at : StandsAt octets start r h = stands octets start headers r h room is in
    let front : List ℕ = take start octets in
    let after : List ℕ = drop (start + r.len) octets in
    let whole : octets ≡ (front ++ print_response h) ++ after =
    sym (take-append-drop start octets) ∙ ap (λ t. front ++ t) at.reads.1 ∙ sym (append_assoc front (print_response h) after) in
    let size : length (front ++ print_response h) ≡ start + r.len =
    omega (arith, length-append front (print_response h), length-take start octets, passes.within, is.len) in
    record {
      heads = passes.heads ++ h ∷ [];
      interim = all_joined IsInterim passes.heads h passes.interim (at.short, ap is_interim (sym is.code) ∙ interim);
      text = ap (take (start + r.len)) whole ∙ take_at (front ++ print_response h) after (start + r.len) size ∙ ap (λ t. t ++ print_response h) passes.text
          ∙ sym (texts_joined passes.heads h);
      within = inside;
    }

-- a head has an octet at least
pub some_octets : (octets : List ℕ) (headers : List HeaderSpan) (r : ResponseSpans) → IsResponseOf octets headers r → 0 < r.len
unfolding print_response
some_octets octets headers r (h, is) =
    let line : List ℕ = print_blank h.blank ++ print_version h.minor in
    let coded : List ℕ = line ++ 32 ∷ h.digits in
    let told : List ℕ = coded ++ print_reason h.reason in
    let ended : List ℕ = told ++ print_end h.line_end in
    let whole : length (print_response h) ≡ length ended + length (print_section h.fields h.last) = length-append ended (print_section h.fields h.last) in
    let version : length (print_version h.minor) ≡ 8 = refl in
    omega (
      arith,
      is.len,
      whole,
      length-append told (print_end h.line_end),
      length-append coded (print_reason h.reason),
      length-append line (32 ∷ h.digits),
      length-append (print_blank h.blank) (print_version h.minor),
      version,
    )

-- The reading of heads

-- a fault while a head was read
pub head_stops : (reader_old reader : Option (List ℕ)) (old held : Held) (start : ℕ) (fault : FetchFault) → Takes reader_old reader old held →
    calls_made fault held.calls ≤ 70000 → PassesInterim held.octets start → start ≤ most_interim → IsHeadFault fault
    → (fault ≡ BadHead → NeverHasResponse (head_window start held.octets)) → (fault ≡ HeadTooLong → IsLongResponse (head_window start held.octets))
    → (IsReadFault fault → IsOpenResponse (drop start held.octets)) → (fault ≡ EndOfInput → IsAtEnd reader) → (fault ≡ TooManyTurns → held.calls ≡ 70000) →
    ReadsOn reader_old reader old (Err fault)
head_stops reader_old reader old held start fault taken made passes few kind bad long opened ended spent = record {
  held = held;
  taken = taken;
  made = made;
  outcome = inl (start, passes, few, stops fault kind bad long opened ended spent);
}
  where
    stops : (fault : FetchFault) → IsHeadFault fault → (fault ≡ BadHead → NeverHasResponse (head_window start held.octets)) →
        (fault ≡ HeadTooLong → IsLongResponse (head_window start held.octets))
        → (IsReadFault fault → IsOpenResponse (drop start held.octets)) → (fault ≡ EndOfInput → IsAtEnd reader) → (fault ≡ TooManyTurns → held.calls ≡ 70000) →
        StopsAtHead reader held start fault
    stops Io kind bad long opened ended spent = opened refl
    stops EndOfInput kind bad long opened ended spent = (opened refl, ended refl)
    stops BadHead kind bad long opened ended spent = bad refl
    stops HeadTooLong kind bad long opened ended spent = long refl
    stops (BadTarget f) kind bad long opened ended spent = absurd cc
    stops MethodNotServed kind bad long opened ended spent = absurd cc
    stops Credentials kind bad long opened ended spent = absurd cc
    stops BadBody kind bad long opened ended spent = absurd cc
    stops BodyTooLong kind bad long opened ended spent = absurd cc
    stops TooManyTurns kind bad long opened ended spent = (opened refl, spent refl)
    stops NoMemory kind bad long opened ended spent = tt

-- interim heads that have too many octets
pub too_many : (reader_old reader : Option (List ℕ)) (old held : Held) (start : ℕ) → Takes reader_old reader old held → held.calls ≤ 70000
    → PassesInterim held.octets start → most_interim < start → ReadsOn reader_old reader old (Err HeadTooLong)
too_many reader_old reader old held start taken made passes many = record {
  held = held;
  taken = taken;
  made = made;
  outcome = inr (inr (inr (inl (start, passes, many, refl))));
}

-- two takings in a row are one
pub takes_then : (old middle new : Held) (before between after : Option (List ℕ)) → Takes before between old middle → Takes between after middle new →
    Takes before after old new
takes_then old middle new before between after (first, is, read, each, most) (second, then_is, then_read, then_each, then_most) = (
  first ++ second,
  then_is ∙ ap (λ t. t ++ second) is ∙ append_assoc old.octets first second,
  Consumes-trans before between after first second read then_read,
  omega (arith, each, then_each, length-append first second),
  omega (arith, most, then_most, length-append first second),
)

-- what was taken before is part of what was taken in all
pub read_on : (before between after : Option (List ℕ)) (old middle : Held) (result : Result AnswerText FetchFault) → Takes before between old middle →
    ReadsOn between after middle result → ReadsOn before after old result
read_on before between after old middle result taken reads = record {
  held = reads.held;
  taken = takes_then old middle reads.held before between after taken reads.taken;
  made = reads.made;
  outcome = reads.outcome;
}
