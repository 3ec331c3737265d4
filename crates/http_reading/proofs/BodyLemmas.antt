-- What `http_intake` says of each kind of body is what `specs/Answers` says of the body of a
-- response, once the octets are held as a `Body` or there was no memory for that.
use Rattle.std.proofs.Common.{◌≡◌, ℕ, ◌≤◌, ◌+◌, List, [], length, Option, Some, None, Result, Ok, Err, IfOk, IfErr, MatchResult, refl, sym, ◌∙◌, subst, inl}
use Rattle.std.proofs.Common.{inr, append-nil, vec_len, arith}
use Rattle.std.specs.Prelude.{Vec}
use Rattle.std.specs.declared.alloc.Global.{Global}
use Rattle.std.specs.Io.KnownBytes.{Consumes}
use Rattle.http_messages.specs.declared.fault.FetchFault.{FetchFault}
use Rattle.http_messages.specs.declared.fault.FetchFault.TheVariants.{NoMemory}
use Rattle.http_reading.specs.declared.framing.Framing.TheVariants.{Length, Chunked, ToEnd}
use Rattle.http_intake.specs.Reading.{Held, Takes, calls_made}
use Rattle.http_intake.specs.Bodies.{ReadsBodyOf, CutsBodyOf, ReadsToEnd, CutsToEnd}
use Rattle.http_intake.specs.Trailer.{HoldsChunkedBody, StopsInChunkedBody}
use Rattle.http_reading.specs.Answers.{ReadsBody}

-- the octets of a body, as they were read
abbrev Octets : Type 0
Octets = Vec ℕ Global

-- what was read is held as a body, unless there is no memory
abbrev pub IsHeld : Result Octets FetchFault → Result (List ℕ) FetchFault → Type 0
IsHeld read result =
    MatchResult read
    (λ octets. MatchResult result (λ body. body ≡ octets.items) (λ fault. fault ≡ NoMemory))
    (λ fault. result ≡ Err fault)

-- a reader that was not called lost nothing
consumes_none : (reader : Option (List ℕ)) → Consumes reader reader []
consumes_none None = tt
consumes_none (Some xs) = refl

pub takes_none : (reader : Option (List ℕ)) (old : Held) → Takes reader reader old old
takes_none reader old = ([], sym (append-nil old.octets), consumes_none reader, omega arith, omega arith)

-- a response without a body
pub no_body : (reader : Option (List ℕ)) (old : Held) (start : ℕ) (body : List ℕ) → old.calls ≤ 70000 → body ≡ []
    → ReadsBody None reader reader old start (Ok body)
no_body reader old start body few empty = record {
  held = old;
  taken = takes_none reader old;
  made = few;
  outcome = (start, (refl, empty), tt);
  short =
      subst (λ (b : List ℕ). length b ≤ 65536) (sym empty) (omega arith);
}

short_body : (octets : Octets) (body : List ℕ) → body ≡ octets.items → vec_len octets ≤ 65536 → length body ≤ 65536
short_body octets body held few = subst (λ (b : List ℕ). length b ≤ 65536) (sym held) (omega (arith, octets.ok.0, few))

-- a body with a length
pub length_read : (before after : Option (List ℕ)) (old : Held) (start n : ℕ) (read : Result Octets FetchFault) (result : Result (List ℕ) FetchFault)
    → IfOk read (λ body. ReadsBodyOf before after old start n body.items) → IfOk read (λ body. vec_len body ≤ 65536) →
    IfErr read (CutsBodyOf before after old start n) → IsHeld read result → ReadsBody (Some (Length n)) before after old start result
length_read before after old start n (Ok octets) (Ok body) ok few err held =
    record {
      held = ok.held;
      taken = ok.taken;
      made = ok.few;
      outcome = (start + n, (refl, ok.whole, held ∙ ok.body_is), tt);
      short = short_body octets body held few;
    }
length_read before after old start n (Ok octets) (Err fault) ok few err held = record {
  held = ok.held;
  taken = ok.taken;
  made = subst (λ (f : FetchFault). calls_made f ok.held.calls ≤ 70000) (sym held) ok.few;
  outcome = inl held;
  short = tt;
}
length_read before after old start n (Err fault) result ok few err held =
    subst (ReadsBody (Some (Length n)) before after old start) (sym held)
    (record { held = err.held; taken = err.taken; made = err.few; outcome = inr err.why; short = tt })

-- a body up to the end of the input
pub end_read : (before after : Option (List ℕ)) (old : Held) (start : ℕ) (read : Result Octets FetchFault) (result : Result (List ℕ) FetchFault)
    → IfOk read (λ body. ReadsToEnd before after old start body.items) → IfErr read (CutsToEnd before after old start) → IsHeld read result →
    ReadsBody (Some ToEnd) before after old start result
end_read before after old start (Ok octets) (Ok body) ok err held =
    record {
      held = ok.held;
      taken = ok.taken;
      made = omega (arith, ok.few);
      outcome = (length ok.held.octets, (refl, held ∙ ok.body_is), (ok.ended, ok.few));
      short =
          subst (λ (b : List ℕ). length b ≤ 65536) (sym held) ok.short;
    }
end_read before after old start (Ok octets) (Err fault) ok err held = record {
  held = ok.held;
  taken = ok.taken;
  made = subst (λ (f : FetchFault). calls_made f ok.held.calls ≤ 70000) (sym held) (omega (arith, ok.few));
  outcome = inl held;
  short = tt;
}
end_read before after old start (Err fault) result ok err held =
    subst (ReadsBody (Some ToEnd) before after old start) (sym held)
    (record { held = err.held; taken = err.taken; made = err.few; outcome = inr err.why; short = tt })

-- a chunked body
pub chunks_read : (before after : Option (List ℕ)) (old new : Held) (start end : ℕ) (octets : Octets) (result : Result (List ℕ) FetchFault)
    → Takes before after old new → new.calls ≤ 70000 → HoldsChunkedBody new.octets start end octets.items → vec_len octets ≤ 65536
    → IsHeld (Ok octets) result → ReadsBody (Some Chunked) before after old start result
chunks_read before after old new start end octets (Ok body) taken calls holds few held =
    record {
      held = new;
      taken = taken;
      made = calls;
      outcome = (end, subst (HoldsChunkedBody new.octets start end) (sym held) holds, tt);
      short =
          short_body octets body held few;
    }
chunks_read before after old new start end octets (Err fault) taken calls holds few held = record {
  held = new;
  taken = taken;
  made = subst (λ (f : FetchFault). calls_made f new.calls ≤ 70000) (sym held) calls;
  outcome = inl held;
  short = tt;
}

-- a chunked body that was cut
pub chunks_stop : (before after : Option (List ℕ)) (old new : Held) (start : ℕ) (fault : FetchFault) → Takes before after old new
    → calls_made fault new.calls ≤ 70000 → StopsInChunkedBody after new start fault → ReadsBody (Some Chunked) before after old start (Err fault)
chunks_stop before after old new start fault taken calls stops =
    record { held = new; taken = taken; made = calls; outcome = inr stops; short = tt }
