-- Chunked bodies (RFC 9112, section 7.1).
use Rattle.std.specs.Prelude.{◌≡◌, ◌≢◌, ℕ, ◌+◌, ◌-◌, ◌<◌, ◌≤◌, ◌⊎◌, ⊤, List, ◌++◌, length, take, drop, flat_map, Option}
use Rattle.std.specs.List.{AllByRecursion}
use Rattle.std.specs.Io.KnownBytes.{IsAtEnd}
use Rattle.httparse.specs.Ascii.{crlf_bytes}
use Rattle.httparse.specs.Grammar.{ChunkLine, print_chunk_line, IsChunkLine, chunk_size, HasNoChunkLine, NeverHasChunkLine, MayBecomeChunkLine}
use Rattle.httparse.specs.Spans.{IsChunkLineAt}
use Rattle.http_messages.specs.declared.fault.FetchFault.{FetchFault}
use Rattle.http_messages.specs.declared.fault.FetchFault.TheVariants.{Io, EndOfInput, BadBody, BodyTooLong, TooManyTurns, NoMemory}
use Rattle.http_messages.specs.Answer.{longest_body}
use Rattle.http_intake.specs.declared.chunks.ChunkStep.{ChunkStep}
use Rattle.http_intake.specs.declared.chunks.ChunkStep.TheVariants.{More, Chunk, Last}
use Rattle.http_intake.specs.Reading.{Held, most_turns}

-- the most octets that a chunk's line has
abbrev pub longest_line : ℕ
longest_line = 256

-- a chunk: its line and its octets
pub record ChunkText : Type 0 where
  pub line : ChunkLine
  pub octets : List ℕ

-- the text of a chunk: the line, the octets and CRLF
abbrev pub print_chunk : ChunkText → List ℕ
print_chunk c = print_chunk_line c.line ++ c.octets ++ crlf_bytes

-- the line is within its limit, and announces the octets that follow, at least one
pub record IsChunk (c : ChunkText) : Type 0 where
  pub line : IsChunkLine c.line
  pub short : length (print_chunk_line c.line) ≤ longest_line
  pub size : length c.octets ≡ chunk_size c.line
  pub some : 0 < length c.octets

-- the octets from `at` to `next` are a chunk, and the body gained its octets
pub record AddsChunk (octets : List ℕ) (at next : ℕ) (old new : List ℕ) : Type 0 where
  pub chunk : ChunkText
  pub valid : IsChunk chunk
  pub text : take (next - at) (drop at octets) ≡ print_chunk chunk
  pub gained : new ≡ old ++ chunk.octets
  pub forward : at < next
  pub within : next ≤ length octets

-- a chunk's line of `len` octets stands at the front, and announces `size` octets
abbrev pub HasLine : List ℕ → ℕ → ℕ → Type 0
HasLine rest len size = (l : ChunkLine) × IsChunkLineAt rest len size l

-- the octets from `at` to `end` are the line of the last chunk, which has no octets
pub record IsLastLine (octets : List ℕ) (at end : ℕ) : Type 0 where
  pub line : HasLine (drop at octets) (end - at) 0
  pub short : end - at ≤ longest_line
  pub forward : at ≤ end
  pub within : end ≤ length octets

-- a chunk's line may still come of these octets: it has not ended, they are fewer than its limit,
-- and some continuation makes them one
abbrev pub IsOpenLine : List ℕ → Type 0
IsOpenLine rest = HasNoChunkLine rest × MayBecomeChunkLine rest × (length rest < longest_line)

-- a chunk's line within its limit stands at the front, not that of the last chunk, and a body of
-- `body_len` octets may gain as many as it announces
abbrev pub HasChunkLine : List ℕ → ℕ → ℕ → ℕ → Type 0
HasChunkLine rest body_len len size = HasLine rest len size × (len ≤ longest_line) × (0 < size)
    × (body_len + size ≤ longest_body)

-- the octets are a front of a chunk's line, or a line with fewer octets than it announces and CRLF
abbrev pub IsOpenChunk : List ℕ → ℕ → Type 0
IsOpenChunk rest body_len = IsOpenLine rest
    ⊎ ((len : ℕ) × (size : ℕ) × HasChunkLine rest body_len len size × (length rest < len + size + 2))

-- no chunk's line within its limit stands at the front, whatever follows
abbrev pub HasBadLine : List ℕ → Type 0
HasBadLine rest =
    NeverHasChunkLine rest ⊎ ((longest_line ≤ length rest) × HasNoChunkLine rest)
    ⊎ ((len : ℕ) × (size : ℕ) × HasLine rest len size × (longest_line < len))

-- no CRLF follows the octets of the chunk
abbrev pub HasBadEnd : List ℕ → ℕ → Type 0
HasBadEnd rest body_len = (len : ℕ) × (size : ℕ) × HasChunkLine rest body_len len size × (len + size + 2 ≤ length rest)
    × (take 2 (drop size (drop len rest)) ≢ crlf_bytes)

-- a chunk's line announces more octets than a body of `body_len` octets may gain
abbrev pub IsTooLong : List ℕ → ℕ → Type 0
IsTooLong rest body_len = (len : ℕ) × (size : ℕ) × HasLine rest len size × (len ≤ longest_line)
    × (longest_body < body_len + size)

-- what stands at `at`, and what the body gained by it
abbrev pub IsStep : List ℕ → ℕ → List ℕ → List ℕ → ChunkStep → Type 0
IsStep octets at old new More = (new ≡ old) × IsOpenChunk (drop at octets) (length old)
IsStep octets at old new (Chunk next) = AddsChunk octets at next old new
IsStep octets at old new (Last end) = (new ≡ old) × IsLastLine octets at end

-- why the octets at a place were refused
abbrev pub RefusesStep : List ℕ → ℕ → FetchFault → Type 0
RefusesStep rest body_len BadBody = HasBadLine rest ⊎ HasBadEnd rest body_len
RefusesStep rest body_len BodyTooLong = IsTooLong rest body_len
RefusesStep rest body_len NoMemory = ⊤
RefusesStep rest body_len fault = ⊥

-- the octets from `start` to `at` are chunks, and `body` is their octets
pub record ChunksUpTo (octets : List ℕ) (start at : ℕ) (body : List ℕ) : Type 0 where
  pub chunks : List ChunkText
  pub each : AllByRecursion IsChunk chunks
  pub text : take (at - start) (drop start octets) ≡ flat_map print_chunk chunks
  pub body_is : body ≡ flat_map (λ c. c.octets) chunks
  pub forward : start ≤ at
  pub within : at ≤ length octets

-- the octets from `start` to `end` are chunks and the line of the last one; a trailer follows
pub record HoldsChunks (octets : List ℕ) (start end : ℕ) (body : List ℕ) : Type 0 where
  pub at : ℕ
  pub chunks : ChunksUpTo octets start at body
  pub last : IsLastLine octets at end

-- why reading stopped at a chunk after so many calls: it was not whole when the reader failed, or
-- when 70,000 calls had given octets, or it was refused
abbrev pub StopsAtChunk : Option (List ℕ) → ℕ → List ℕ → ℕ → FetchFault → Type 0
StopsAtChunk reader calls rest body_len Io = IsOpenChunk rest body_len
StopsAtChunk reader calls rest body_len EndOfInput = IsOpenChunk rest body_len × IsAtEnd reader
StopsAtChunk reader calls rest body_len TooManyTurns = IsOpenChunk rest body_len × (calls ≡ most_turns)
StopsAtChunk reader calls rest body_len fault = RefusesStep rest body_len fault

-- the octets from `start` on are chunks up to a place where reading stopped
pub record StopsInChunks (reader : Option (List ℕ)) (held : Held) (start : ℕ) (fault : FetchFault) : Type 0 where
  pub at : ℕ
  pub body : List ℕ
  pub chunks : ChunksUpTo held.octets start at body
  pub short : length body ≤ longest_body
  pub why : StopsAtChunk reader held.calls (drop at held.octets) (length body) fault
