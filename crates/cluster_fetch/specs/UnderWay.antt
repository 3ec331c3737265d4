-- A fetch under way, and what it ends as.
use Rattle.std.specs.Prelude.{◌≡◌, ℕ, ℤ, pos, negsuc, List, Bool, true, false, ◌||◌, ◌==◌, Option, Some, None}
use Rattle.std.specs.declared.io.ErrorKind.{ErrorKind}
use Rattle.std.specs.declared.io.ErrorKind.TheVariants.{OutOfMemory}
use Rattle.http_messages.specs.Answer.{AnswerText}
use Rattle.cluster_fetch.specs.declared.events.ResponseSource.{ResponseSource}
use Rattle.cluster_fetch.specs.declared.ended.Fetched.{Fetched}
use Rattle.cluster_fetch.specs.declared.under_way.FetchRequest.{FetchRequest}

-- whom a fetch asks, the serial under which the node waits for it, the key that it asks for, and whether this machine
-- lacked something for it
pub record FetchingView : Type 0 where
  pub source : ResponseSource
  pub serial : ℕ
  pub key : List ℕ
  pub lacked : Bool

-- what is under way once a fetch has begun
abbrev pub asked_by : FetchRequest → FetchingView
asked_by f = record { source = f.source; serial = f.serial; key = f.ask.key; lacked = false }

-- it is the same fetch, whether or not this machine has lacked something for it since
abbrev pub IsSameFetch : FetchingView → FetchingView → Type 0
IsSameFetch before after = after ≡ record before { lacked = after.lacked }

-- what it ends as
abbrev pub ended_as : FetchingView → Option AnswerText → Bool → Fetched
ended_as f answer unreached =
    record { source = f.source; serial = f.serial; key = f.key; answer = answer; is_unreached = unreached }

-- it ends with this response, or without one: where this machine lacked something, no peer is said to be unreached
abbrev pub Ends : FetchingView → Option AnswerText → Fetched → Type 0
Ends f answer ended = (unreached : Bool) × (ended ≡ ended_as f answer unreached) × (f.lacked ≡ true → unreached ≡ false)

-- the errors of Linux for want of something of this machine: memory (12), descriptors (23, 24), ports (99), buffers (105)
abbrev pub is_own_number : ℤ → Bool
is_own_number (pos n) = n == 12 || n == 23 || n == 24 || n == 99 || n == 105
is_own_number (negsuc n) = false

-- a call failed since the process (24), or the whole system (23), has no more descriptors
abbrev pub is_want_of_descriptors : Option ℤ → Bool
is_want_of_descriptors (Some (pos n)) = n == 23 || n == 24
is_want_of_descriptors _ = false

-- the error of a call that found no memory in the program itself
abbrev pub is_own_kind : ErrorKind → Bool
is_own_kind OutOfMemory = true
is_own_kind _ = false

-- a call failed for want of something of this machine, by the number of its error, or else by its kind
abbrev pub is_own_want : Option ℤ → ErrorKind → Bool
is_own_want (Some number) kind = is_own_number number
is_own_want None kind = is_own_kind kind
