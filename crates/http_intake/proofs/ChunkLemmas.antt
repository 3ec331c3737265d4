-- Chunks among the octets. A line, the octets that it announces and CRLF are a chunk, which is
-- added to those before it; octets that come later do not change what stands before them; and a
-- fault stops reading at a chunk that is not whole.
use Rattle.std.proofs.Common.{◌≡◌, ◌≢◌, ℕ, IsTrue, Option, zero, suc, ◌+◌, ◌-◌, ◌≤◌, List, [], ◌∷◌, ◌++◌, length, take, drop, get_or, refl, sym, ap, ap₂, ◌∙◌}
use Rattle.std.proofs.Common.{arith, append_assoc, append-nil, length-append, length-drop, length-take-le, take_all}
use Rattle.std.proofs.lemmas.List.{take_more, get_or-drop, drop-drop, drop-append-le, take-append-le}
use Rattle.httparse.specs.Grammar.{ChunkLine, print_chunk_line}
use Rattle.httparse.specs.Spans.{IsChunkLineAt}
use Rattle.std.specs.Prelude.{flat_map}
use Rattle.std.specs.List.{AllByRecursion}
use Rattle.std.proofs.lemmas.List.Concat.{flat_map-append}
use Rattle.http_intake.proofs.FillLemmas.{take-append-add}
use Rattle.http_intake.specs.Chunks.{ChunkText, IsChunk, print_chunk, AddsChunk, ChunksUpTo, IsLastLine, HoldsChunks, IsOpenChunk, RefusesStep, StopsAtChunk}
use Rattle.http_intake.specs.Reading.{is_read_fault}
use Rattle.http_messages.specs.declared.fault.FetchFault.{FetchFault}
use Rattle.http_messages.specs.declared.fault.FetchFault.TheVariants.{Io, EndOfInput, TooManyTurns, NoMemory}
use Rattle.std.specs.Io.KnownBytes.{IsAtEnd}
use Rattle.std.proofs.lemmas.Bool.{false≢true}

-- two more octets
take_two : (xs : List ℕ) (n a b : ℕ) → n + 2 ≤ length xs → get_or xs n 0 ≡ a → get_or xs (n + 1) 0 ≡ b → take (n + 2) xs ≡ take n xs ++ a ∷ b ∷ []
take_two xs n a b within first second =
    let again : n + 2 ≡ n + 1 + 1 = omega arith in
    ap (λ k. take k xs) again ∙ take_more xs (n + 1) 0 (omega arith)
    ∙ ap₂ (λ t d. t ++ d ∷ []) (take_more xs n 0 (omega arith) ∙ ap (λ d. take n xs ++ d ∷ []) first) second
    ∙ append_assoc (take n xs) (a ∷ []) (b ∷ [])

-- a line, the octets that it announces, and CRLF are a chunk
pub chunk_stands : (octets : List ℕ) (at len size : ℕ) (rest after octets_of behind old new : List ℕ) → at ≤ length octets → rest ≡ drop at octets →
    after ≡ drop len rest → octets_of ≡ take size after → behind ≡ drop size after
    → (l : ChunkLine) × IsChunkLineAt rest len size l → len ≤ 256 → size ≢ 0 → size + 2 ≤ length after
    → get_or behind 0 0 ≡ 13 → get_or behind 1 0 ≡ 10 → new ≡ old ++ octets_of → AddsChunk octets at (at + len + size + 2) old new
chunk_stands octets at len size rest after octets_of behind old new inside rest_is after_is chunk_is behind_is (l, line) short some room cr_behind lf_behind
    gained =
    let place : (k : ℕ) → get_or after (size + k) 0 ≡ get_or behind k 0 = λ k. sym (get_or-drop size after k 0) ∙ ap (λ t. get_or t k 0) (sym behind_is) in
    let zero_on : size ≡ size + 0 = omega arith in
    let cr = ap (λ k. get_or after k 0) zero_on ∙ place 0 ∙ cr_behind in
    let lf = place 1 ∙ lf_behind in
    let size_is = line.size_is in
    let len_is = line.len_is in
    let taken = length-take-le size after (omega arith) in
    let after_len = ap length after_is ∙ length-drop len rest in
    let whole = ap length rest_is ∙ length-drop at octets in
    let count : at + len + size + 2 - at ≡ length (print_chunk_line l) + (size + 2) = omega arith in
    let split : drop at octets ≡ print_chunk_line l ++ after = sym rest_is ∙ line.reads.1 ∙ ap (λ t. print_chunk_line l ++ t) (sym after_is) in
    record {
      chunk = record { line = l; octets = take size after };
      valid = record {
        line = line.reads.0;
        short = omega arith;
        size = taken ∙ size_is;
        some = omega arith;
      };
      text = ap (take (at + len + size + 2 - at)) split ∙ take-append-add (print_chunk_line l) after _ (size + 2) count
          ∙ ap (λ t. print_chunk_line l ++ t) (take_two after size 13 10 room cr lf) ∙ sym (append_assoc (print_chunk_line l) (take size after) (13 ∷ 10 ∷ []));
      gained = gained ∙ ap (λ t. old ++ t) chunk_is;
      forward = omega arith;
      within = omega arith;
    }

-- no chunk yet
pub no_chunks : (octets : List ℕ) (start : ℕ) → start ≤ length octets → ChunksUpTo octets start start []
no_chunks octets start within = record {
  chunks = [];
  each = tt;
  text = let none : start - start ≡ 0 = omega arith in rw none refl;
  body_is = refl;
  forward = omega arith;
  within = within;
}

all_push : (cs : List ChunkText) (c : ChunkText) → AllByRecursion IsChunk cs → IsChunk c → AllByRecursion IsChunk (cs ++ c ∷ [])
all_push [] c all one = (one, tt)
all_push (d ∷ cs) c all one = (all.0, all_push cs c all.1 one)

take-sum : (m n : ℕ) (xs : List ℕ) → take (m + n) xs ≡ take m xs ++ take n (drop m xs)
take-sum zero n xs = let same : zero + n ≡ n = omega arith in ap (λ k. take k xs) same
take-sum (suc m) n [] = take_all (suc m + n) [] (omega arith) ∙ sym (take_all n [] (omega arith))
take-sum (suc m) n (x ∷ xs) =
    let step : suc m + n ≡ suc (m + n) = omega arith in
    ap (λ k. take k (x ∷ xs)) step ∙ ap (λ t. x ∷ t) (take-sum m n xs)

-- one more chunk
pub chunks_more : (octets : List ℕ) (start at next : ℕ) (old new : List ℕ) → ChunksUpTo octets start at old → AddsChunk octets at next old new →
    ChunksUpTo octets start next new
chunks_more octets start at next old new up adds =
    let forward = up.forward in
    let ahead = adds.forward in
    let split : next - start ≡ (at - start) + (next - at) = omega arith in
    let there : start + (at - start) ≡ at = omega arith in
    record {
      chunks = up.chunks ++ adds.chunk ∷ [];
      each = all_push up.chunks adds.chunk up.each adds.valid;
      text = ap (λ n. take n (drop start octets)) split ∙ take-sum (at - start) (next - at) (drop start octets)
          ∙ ap₂ (λ a b. a ++ b) up.text (ap (take (next - at)) (drop-drop (at - start) start octets ∙ ap (λ k. drop k octets) there) ∙ adds.text)
          ∙ sym (flat_map-append print_chunk up.chunks (adds.chunk ∷ []) ∙ ap (λ t. flat_map print_chunk up.chunks ++ t) (append-nil (print_chunk adds.chunk)));
      body_is = adds.gained ∙ ap (λ t. t ++ adds.chunk.octets) up.body_is
          ∙ sym (flat_map-append (λ c. c.octets) up.chunks (adds.chunk ∷ []) ∙ ap (λ t. flat_map (λ c. c.octets) up.chunks ++ t)
          (append-nil adds.chunk.octets));
      forward = omega arith;
      within = adds.within;
    }

-- more octets after the chunks
pub chunks_grown : (octets grown piece : List ℕ) (start at : ℕ) (body : List ℕ) → grown ≡ octets ++ piece → ChunksUpTo octets start at body →
    ChunksUpTo grown start at body
chunks_grown octets grown piece start at body is up =
    let forward = up.forward in
    let within = up.within in
    let dropped = drop-append-le start octets piece (omega arith) in
    record {
      chunks = up.chunks;
      each = up.each;
      text = ap (λ t. take (at - start) (drop start t)) is ∙ ap (take (at - start)) dropped
          ∙ take-append-le (at - start) (drop start octets) piece (omega (arith, length-drop start octets)) ∙ up.text;
      body_is = up.body_is;
      forward = forward;
      within = omega (arith, ap length is, length-append octets piece);
    }

-- more octets after the line of the last chunk
last_grown : (octets grown piece : List ℕ) (at end : ℕ) → grown ≡ octets ++ piece → IsLastLine octets at end → IsLastLine grown at end
last_grown octets grown piece at end is last =
    let (l, line) = last.line in
    let forward = last.forward in
    let within = last.within in
    let ahead = ap (drop at) is ∙ drop-append-le at octets piece (omega arith) in
    let room : end - at ≤ length (drop at octets) = omega (arith, length-drop at octets) in
    record {
      line = (
        l,
        record {
          reads = (
            line.reads.0,
            ahead ∙ ap (λ t. t ++ piece) line.reads.1 ∙ append_assoc (print_chunk_line l) (drop (end - at) (drop at octets)) piece
                ∙ ap (λ t. print_chunk_line l ++ t) (sym (ap (drop (end - at)) ahead ∙ drop-append-le (end - at) (drop at octets) piece room)),
          );
          len_is = line.len_is;
          size_is = line.size_is;
        },
      );
      short = last.short;
      forward = forward;
      within = omega (arith, ap length is, length-append octets piece);
    }

-- more octets after the chunks and the line of the last one
pub holds_grown : (octets grown piece : List ℕ) (start end : ℕ) (body : List ℕ) → grown ≡ octets ++ piece → HoldsChunks octets start end body →
    HoldsChunks grown start end body
holds_grown octets grown piece start end body is holds = record {
  at = holds.at;
  chunks = chunks_grown octets grown piece start holds.at body is holds.chunks;
  last = last_grown octets grown piece holds.at end is holds.last;
}

-- a fault of the reader comes while a chunk is not whole
pub read_stops : (reader : Option (List ℕ)) (calls : ℕ) (rest : List ℕ) (body_len : ℕ) (fault : FetchFault) → IsTrue (is_read_fault fault) →
    IsOpenChunk rest body_len
    → (fault ≡ EndOfInput → IsAtEnd reader) → (fault ≡ TooManyTurns → calls ≡ 70000) → StopsAtChunk reader calls rest body_len fault
read_stops reader calls rest body_len Io kind opened ended spent = opened
read_stops reader calls rest body_len EndOfInput kind opened ended spent = (opened, ended refl)
read_stops reader calls rest body_len TooManyTurns kind opened ended spent = (opened, spent refl)
read_stops reader calls rest body_len NoMemory kind opened ended spent = tt
read_stops reader calls rest body_len fault kind opened ended spent = absurd (false≢true kind)

-- a refused step stops reading
pub refused_stops : (reader : Option (List ℕ)) (calls : ℕ) (rest : List ℕ) (body_len : ℕ) (fault : FetchFault) → RefusesStep rest body_len fault
    → StopsAtChunk reader calls rest body_len fault
refused_stops reader calls rest body_len Io refused = absurd refused
refused_stops reader calls rest body_len EndOfInput refused = absurd refused
refused_stops reader calls rest body_len TooManyTurns refused = absurd refused
refused_stops reader calls rest body_len fault refused = refused
