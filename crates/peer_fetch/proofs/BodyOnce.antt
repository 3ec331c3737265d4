-- A body with a length or in chunks ends at one place and is one body, whatever follows: each
-- chunk's line gives the end of its chunk, and lines and trailer are read in one way only.
use Rattle.std.proofs.Common.{◌≡◌, ℕ, ◌+◌, ◌-◌, ◌≤◌, List, [], ◌∷◌, ◌++◌, length, take, drop, Option, Some, None, refl, sym, ap, ap₂, ◌∙◌, subst, arith}
use Rattle.std.proofs.Common.{append_assoc, length-append, length-take, length-drop, take-append-drop}
use Rattle.std.specs.List.{flat_map, AllByRecursion, All}
use Rattle.std.proofs.lemmas.List.{append_cancel_left, take_at, drop_at, drop-drop, drop-append-le}
use Rattle.httparse.specs.Grammar.{LineEnd, Field, IsField, print_section, ChunkLine, print_chunk_line, IsChunkLine, chunk_size}
use Rattle.httparse.specs.Ascii.{crlf_bytes}
use Rattle.httparse.proofs.GrammarLemmas.{section_unique}
use Rattle.httparse.proofs.ChunkLemmas.{chunk_line_unique}
use Rattle.http_reading.specs.declared.framing.Framing.{Framing}
use Rattle.http_reading.specs.declared.framing.Framing.TheVariants.{Length, Chunked, ToEnd}
use Rattle.http_intake.specs.Chunks.{ChunkText, IsChunk, print_chunk}
use Rattle.http_intake.specs.Trailer.{HoldsChunkedBody}
use Rattle.http_reading.specs.Answers.{SpellsBody}

-- The same without places: the octets of the body, and what follows it

abbrev body_of : List ChunkText → List ℕ
body_of chunks = flat_map (λ c. c.octets) chunks

record ChunkedText (input rest body : List ℕ) : Type 0 where
  chunks : List ChunkText
  each : AllByRecursion IsChunk chunks
  line : ChunkLine
  line_valid : IsChunkLine line
  nothing : 0 ≡ chunk_size line
  fields : List Field
  fields_valid : All IsField fields
  end : LineEnd
  text : input ≡ flat_map print_chunk chunks ++ (print_chunk_line line ++ (print_section fields end ++ rest))
  body_is : body ≡ body_of chunks

abbrev BodyText : Option Framing → List ℕ → List ℕ → List ℕ → Type 0
BodyText None input rest body = (body ≡ []) × (input ≡ rest)
BodyText (Some (Length n)) input rest body = (length body ≡ n) × (input ≡ body ++ rest)
BodyText (Some Chunked) input rest body = ChunkedText input rest body
BodyText (Some ToEnd) input rest body = ⊥

-- the body has an end of its own
abbrev pub EndsItself : Option Framing → Type 0
EndsItself None = Unit {0}
EndsItself (Some (Length n)) = Unit {0}
EndsItself (Some Chunked) = Unit {0}
EndsItself (Some ToEnd) = ⊥

split_at : (octets : List ℕ) (start at : ℕ) → start ≤ at → drop start octets ≡ take (at - start) (drop start octets) ++ drop at octets
split_at octets start at forward =
    let place : start + (at - start) ≡ at = omega arith in
    sym (take-append-drop (at - start) (drop start octets)) ∙ ap (λ (t : List ℕ). take (at - start) (drop start octets) ++ t)
    (drop-drop (at - start) start octets ∙ ap (λ (k : ℕ). drop k octets) place)

-- the octets of the chunks, of the last line and of the trailer stand one after another
chunked_text : (octets : List ℕ) (start end : ℕ) (body : List ℕ) → HoldsChunkedBody octets start end body →
    ChunkedText (drop start octets) (drop end octets) body
chunked_text octets start end body holds =
    let up_to = holds.chunks.chunks in
    let last = holds.chunks.last in
    let at : ℕ = holds.chunks.at in
    let section = holds.section in
    let trailer : ℕ = holds.trailer in
    let line = last.line.1 in
    let forward = last.forward in
    let place : at + (trailer - at) ≡ trailer = omega arith in
    let behind : drop (trailer - at) (drop at octets) ≡ drop trailer octets = drop-drop (trailer - at) at octets ∙ ap (λ (k : ℕ). drop k octets) place in
    record {
      chunks = up_to.chunks;
      each = up_to.each;
      line = last.line.0;
      line_valid = line.reads.0;
      nothing = line.size_is;
      fields = section.fields;
      fields_valid = section.reads.0;
      end = section.last;
      text = split_at octets start at up_to.forward
          ∙ ap₂ (λ (x y : List ℕ). x ++ y) up_to.text
          (line.reads.1 ∙ ap (λ (t : List ℕ). print_chunk_line last.line.0 ++ t) (behind ∙ section.reads.1));
      body_is = up_to.body_is;
    }

pub record StandsIn (octets : List ℕ) (start end : ℕ) : Type 0 where
  pub forward : start ≤ end
  pub within : end ≤ length octets

body_stands : (f : Option Framing) (octets : List ℕ) (start end : ℕ) (body : List ℕ) → start ≤ length octets → EndsItself f →
    SpellsBody f octets start end body → StandsIn octets start end
body_stands None octets start end body inside ends spells = let is = spells.0 in record { forward = omega arith; within = omega arith }
body_stands (Some (Length n)) octets start end body inside ends spells = let is = spells.0 in record { forward = omega arith; within = spells.1 }
body_stands (Some Chunked) octets start end body inside ends spells =
    let a = spells.chunks.chunks.forward in
    let b = spells.chunks.last.forward in
    let c = spells.section.forward in
    record { forward = omega arith; within = spells.section.within }
body_stands (Some ToEnd) octets start end body inside ends spells = absurd ends

body_text : (f : Option Framing) (octets : List ℕ) (start end : ℕ) (body : List ℕ) → EndsItself f → SpellsBody f octets start end body →
    BodyText f (drop start octets) (drop end octets) body
body_text None octets start end body ends spells = (spells.1, ap (λ (k : ℕ). drop k octets) (sym spells.0))
body_text (Some (Length n)) octets start end body ends (end_is, within, body_is) =
    let count : end - start ≡ n = omega arith in
    let taken : take (end - start) (drop start octets) ≡ body = ap (λ (k : ℕ). take k (drop start octets)) count ∙ sym body_is in
    let size = ap length body_is ∙ length-take n (drop start octets) in
    (omega (arith, size, length-drop start octets), split_at octets start end (omega arith) ∙ ap (λ (t : List ℕ). t ++ drop end octets) taken)
body_text (Some Chunked) octets start end body ends spells = chunked_text octets start end body spells
body_text (Some ToEnd) octets start end body ends spells = absurd ends

-- Octets that follow change nothing

chunked_more : (input rest body more : List ℕ) → ChunkedText input rest body → ChunkedText (input ++ more) (rest ++ more) body
chunked_more input rest body more c = record {
  chunks = c.chunks;
  each = c.each;
  line = c.line;
  line_valid = c.line_valid;
  nothing = c.nothing;
  fields = c.fields;
  fields_valid = c.fields_valid;
  end = c.end;
  text = ap (λ (t : List ℕ). t ++ more) c.text ∙ regroup (flat_map print_chunk c.chunks) (print_chunk_line c.line) (print_section c.fields c.end) rest more;
  body_is = c.body_is;
}
  where
    regroup : (a b s r m : List ℕ) → (a ++ (b ++ (s ++ r))) ++ m ≡ a ++ (b ++ (s ++ (r ++ m)))
    regroup a b s r m = simp append_assoc

body_more : (f : Option Framing) (input rest body more : List ℕ) → BodyText f input rest body → BodyText f (input ++ more) (rest ++ more) body
body_more None input rest body more b = (b.0, ap (λ (t : List ℕ). t ++ more) b.1)
body_more (Some (Length n)) input rest body more b = (b.0, ap (λ (t : List ℕ). t ++ more) b.1 ∙ append_assoc body rest more)
body_more (Some Chunked) input rest body more b = chunked_more input rest body more b
body_more (Some ToEnd) input rest body more b = absurd b

-- One input has one such body

same_front : (a r b q : List ℕ) → length a ≡ length b → a ++ r ≡ b ++ q → (a ≡ b) × (r ≡ q)
same_front a r b q size same = (
  sym (take_at a r (length b) size) ∙ ap (take (length b)) same ∙ take_at b q (length b) refl,
  sym (drop_at a r (length b) size) ∙ ap (drop (length b)) same ∙ drop_at b q (length b) refl,
)

chunk_shape : (c : ChunkText) (rest : List ℕ) → print_chunk c ++ rest ≡ print_chunk_line c.line ++ (c.octets ++ (crlf_bytes ++ rest))
chunk_shape c rest = regroup (print_chunk_line c.line) c.octets rest
  where
    regroup : (a b r : List ℕ) → (a ++ b ++ crlf_bytes) ++ r ≡ a ++ (b ++ (crlf_bytes ++ r))
    regroup a b r = simp append_assoc

-- each line is read in one way and gives the size of its chunk, 0 for the last alone, so both lists end together
chunks_once : (cs ds : List ChunkText) (l k : ChunkLine) (r q : List ℕ) → AllByRecursion IsChunk cs → AllByRecursion IsChunk ds → IsChunkLine l →
    IsChunkLine k → 0 ≡ chunk_size l → 0 ≡ chunk_size k
    → flat_map print_chunk cs ++ (print_chunk_line l ++ r) ≡ flat_map print_chunk ds ++ (print_chunk_line k ++ q) → (body_of cs ≡ body_of ds) × (r ≡ q)
chunks_once [] [] l k r q a b x y none zero_is same =
    (refl, (chunk_line_unique (print_chunk_line l ++ r) l k r q (x, refl) (y, same)).1)
chunks_once [] (d ∷ ds) l k r q a (this, others) x y none zero_is same =
    let tail : List ℕ = flat_map print_chunk ds ++ (print_chunk_line k ++ q) in
    let shape = append_assoc (print_chunk d) (flat_map print_chunk ds) (print_chunk_line k ++ q) ∙ chunk_shape d tail in
    let line = (chunk_line_unique (print_chunk_line l ++ r) l d.line r _ (x, refl) (this.line, same ∙ shape)).0 in
    let size = this.size in
    let some = this.some in
    absurd (omega (arith, none, ap chunk_size line, size, some))
chunks_once (c ∷ cs) [] l k r q (this, others) b x y none zero_is same =
    let tail : List ℕ = flat_map print_chunk cs ++ (print_chunk_line l ++ r) in
    let shape = append_assoc (print_chunk c) (flat_map print_chunk cs) (print_chunk_line l ++ r) ∙ chunk_shape c tail in
    let line = (chunk_line_unique (print_chunk_line k ++ q) k c.line q _ (y, refl) (this.line, sym same ∙ shape)).0 in
    let size = this.size in
    let some = this.some in
    absurd (omega (arith, zero_is, ap chunk_size line, size, some))
chunks_once (c ∷ cs) (d ∷ ds) l k r q (this, others) (that, more) x y none zero_is same =
    let R : List ℕ = flat_map print_chunk cs ++ (print_chunk_line l ++ r) in
    let Q : List ℕ = flat_map print_chunk ds ++ (print_chunk_line k ++ q) in
    let left = append_assoc (print_chunk c) (flat_map print_chunk cs) (print_chunk_line l ++ r) ∙ chunk_shape c R in
    let right = append_assoc (print_chunk d) (flat_map print_chunk ds) (print_chunk_line k ++ q) ∙ chunk_shape d Q in
    let lines = chunk_line_unique (print_chunk_line c.line ++ (c.octets ++ (crlf_bytes ++ R))) c.line d.line _ (d.octets ++ (crlf_bytes ++ Q)) (this.line, refl)
    (that.line, sym left ∙ same ∙ right) in
    let sizes : length c.octets ≡ length d.octets = this.size ∙ ap chunk_size lines.0 ∙ sym that.size in
    let bodies = same_front c.octets (crlf_bytes ++ R) d.octets (crlf_bytes ++ Q) sizes lines.1 in
    let behind = append_cancel_left crlf_bytes R Q bodies.1 in
    let rest = chunks_once cs ds l k r q others more x y none zero_is behind in
    (ap₂ (λ (s t : List ℕ). s ++ t) bodies.0 rest.0, rest.1)

chunked_once : (input rest body : List ℕ) (other third : List ℕ) → ChunkedText input rest body → ChunkedText input other third → (body ≡ third) × (rest ≡ other)
chunked_once input rest body other third a b =
    let chunks = chunks_once a.chunks b.chunks a.line b.line (print_section a.fields a.end ++ rest) (print_section b.fields b.end ++ other) a.each b.each
    a.line_valid b.line_valid a.nothing b.nothing (sym a.text ∙ b.text) in
    let section = section_unique (print_section a.fields a.end ++ rest) a.fields b.fields a.end b.end rest other (a.fields_valid, refl)
    (b.fields_valid, chunks.1) in
    (a.body_is ∙ chunks.0 ∙ sym b.body_is, section.2)

text_once : (f : Option Framing) (input rest body other third : List ℕ) → BodyText f input rest body → BodyText f input other third →
    (body ≡ third) × (rest ≡ other)
text_once None input rest body other third a b = (a.0 ∙ sym b.0, sym a.1 ∙ b.1)
text_once (Some (Length n)) input rest body other third a b = same_front body rest third other (a.0 ∙ sym b.0) (sym a.1 ∙ b.1)
text_once (Some Chunked) input rest body other third a b = chunked_once input rest body other third a b
text_once (Some ToEnd) input rest body other third a b = absurd a

-- The same with places

pub body_once : (f : Option Framing) (octets more : List ℕ) (start end last : ℕ) (body other : List ℕ) → start ≤ length octets → EndsItself f
    → SpellsBody f octets start end body → SpellsBody f (octets ++ more) start last other → (last ≡ end) × (other ≡ body)
body_once f octets more start end last body other inside ends here there =
    let whole = length-append octets more in
    let first : StandsIn octets start end = body_stands f octets start end body inside ends here in
    let second : StandsIn (octets ++ more) start last = body_stands f (octets ++ more) start last other (omega (arith, whole)) ends there in
    let shown : BodyText f (drop start octets ++ more) (drop end octets ++ more) body = body_more f (drop start octets) (drop end octets) body more
    (body_text f octets start end body ends here) in
    let again : BodyText f (drop start octets ++ more) (drop last (octets ++ more)) other =
    subst (λ (t : List ℕ). BodyText f t (drop last (octets ++ more)) other) (drop-append-le start octets more inside)
    (body_text f (octets ++ more) start last other ends there) in
    let same = text_once f (drop start octets ++ more) (drop end octets ++ more) body (drop last (octets ++ more)) other shown again in
    let a = first.within in
    let b = second.within in
    let size = ap length same.1 in
    (omega (arith, size, length-append (drop end octets) more, length-drop end octets, length-drop last (octets ++ more), whole, a, b), sym same.0)
