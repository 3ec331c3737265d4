-- What each call of a master returns, and the state that it leaves: as a function (`called`), and
-- as a relation (`Calls`) in which allocations and the store may also fail.
use Rattle.std.specs.Prelude.{◌≡◌, ℕ, ◌+◌, Bool, true, false, not, ◌&&◌, ◌||◌, ◌==◌, nat_le, nat_lt, List, [], ◌⊎◌, map, filter, length, is_none, Option, Some}
use Rattle.std.specs.Prelude.{None, Result, Ok, Err, if◌then◌else◌}
use Rattle.std.specs.List.{flat_map}
use Rattle.htcp_wire.specs.Clearing.{is_acknowledging}
use Rattle.purge_rules.specs.declared.nodes.Nodes.{Nodes}
use Rattle.purge_rules.specs.declared.calls.Status.{Status}
use Rattle.purge_rules.specs.declared.calls.Status.TheVariants as status
use Rattle.purge_rules.specs.declared.calls.MasterCall.{MasterCall}
use Rattle.purge_rules.specs.declared.calls.MasterCall.TheVariants as call
use Rattle.purge_rules.specs.declared.calls.MasterAnswer.{MasterAnswer}
use Rattle.purge_rules.specs.declared.calls.MasterAnswer.TheVariants as answer
use Rattle.purge_rules.specs.declared.fault.MasterFault.{MasterFault}
use Rattle.purge_rules.specs.declared.fault.MasterFault.TheVariants as fault
use Rattle.purge_rules.specs.Members.{numbers, is_among, with_id, are_among}
use Rattle.purge_rules.specs.Needed.{needed}
use Rattle.purge_rules.specs.Purges.{PurgeList, is_admitted, pending_count, marks_at, with_purge, with_admission, with_mark, with_done}

-- the state of a master: its purges, and whether a store that failed has closed it
pub record MasterState : Type 0 where
  pub purges : PurgeList
  pub closed : Bool

-- those that are needed and not marked, by id; none without marks
abbrev pub unmarked_of : List ℕ → Option (List ℕ) → List ℕ
unmarked_of needs None = []
unmarked_of needs (Some marked) = filter (λ id. not (is_among id marked)) needs

-- the ids of the members that a pending number needs and that have not acknowledged it, ascending;
-- none if it is not pending [Master 2]
abbrev pub missing : Nodes → PurgeList → ℕ → List ℕ
missing nodes purges number = unmarked_of (needed nodes purges.admissions number) (marks_at purges number)

-- why no number is given, if so: all are spent, or else 1,024 are pending [Master 3]
abbrev pub issue_fault : PurgeList → Option MasterFault
issue_fault purges = if nat_le 4294967295 purges.last then Some fault.NumbersSpent
    else (if nat_le 1024 (pending_count purges) then Some fault.TooManyPending else None)

-- why the node is not admitted, if so: it is no joining one of the roster, or has an admission; or
-- else no number is given [Master 14]
abbrev pub admit_fault : Nodes → PurgeList → ℕ → Option MasterFault
admit_fault nodes purges id = if not (is_among id nodes.joining) || is_admitted purges id then Some fault.NotJoining
    else issue_fault purges

-- the purges after a response, and the number that it has made done, if any
pub record Acknowledged : Type 0 where
  pub purges : PurgeList
  pub done : Option ℕ

-- the response changes nothing
abbrev pub unchanged : PurgeList → Acknowledged
unchanged purges = record { purges = purges; done = None }

-- a member that the number needs acknowledges it, if it is pending: these members have done so
-- before. If no member is missing then, the number is done; else the member is marked. [Master 6]
abbrev pub counted : List ℕ → PurgeList → ℕ → ℕ → Option (List ℕ) → Acknowledged
counted needs purges id number None = unchanged purges
counted needs purges id number (Some marked) =
    if are_among needs (with_id id marked)
    then record { purges = with_done purges number; done = Some number }
    else record { purges = with_mark purges number id; done = None }

-- the same of members that the number needs
abbrev pub counted_by : List ℕ → PurgeList → ℕ → ℕ → ℕ → Acknowledged
counted_by needs purges id number code =
    if is_acknowledging code && is_among id needs then counted needs purges id number (marks_at purges number) else unchanged purges

-- a response counts if its code acknowledges, and its TRANS-ID is a pending number that needs its
-- member (RFC 2756, section 6.5) [Master 5]
abbrev pub acknowledged : Nodes → PurgeList → ℕ → ℕ → ℕ → Acknowledged
acknowledged nodes purges id trans code = counted_by (needed nodes purges.admissions trans) purges id trans code

-- the number with the id of each missing member, by id
abbrev pub due_of : Nodes → PurgeList → ℕ → List (ℕ × ℕ)
due_of nodes purges number = map (λ id. (number, id)) (missing nodes purges number)

-- each number with the id of each missing member, by number and then by id [Master 8]
abbrev pub due : Nodes → PurgeList → List (ℕ × ℕ)
due nodes purges = flat_map (due_of nodes purges) (numbers 1 purges.last)

-- the status of a number that was given: these members are missing, and it has marks if it is pending
abbrev pub status_by : List ℕ → Option (List ℕ) → Status
status_by ids None = status.Done
status_by ids (Some marked) = status.Pending (length ids)

-- unknown for 0 and for a number that was not given yet; done if it was given and is not pending [Master 9]
abbrev pub status_of : Nodes → PurgeList → ℕ → Status
status_of nodes purges number =
    if (number == 0) || nat_lt purges.last number then status.Unknown
    else status_by (missing nodes purges number) (marks_at purges number)

-- what a call returns, and the state that it leaves
pub record Called : Type 0 where
  pub state : MasterState
  pub outcome : Result MasterAnswer MasterFault

-- a master that is open, with these purges
abbrev pub opened : PurgeList → MasterState
opened purges = record { purges = purges; closed = false }

-- it returns this answer, and leaves this state
abbrev pub answers : MasterState → MasterAnswer → Called
answers s a = record { state = s; outcome = Ok a }

-- it returns this fault, and leaves this state
abbrev pub refuses : MasterState → MasterFault → Called
refuses s f = record { state = s; outcome = Err f }

-- an issue: the fault, if there is one, else the next number [Master 3]
abbrev pub issued : PurgeList → List ℕ → Option MasterFault → Called
issued purges key (Some f) = refuses (opened purges) f
issued purges key None = answers (opened (with_purge purges (purges.last + 1) key)) (answer.Issue (purges.last + 1))

-- an admission: the fault, if there is one, else the next number [Master 14]
abbrev pub admitted : PurgeList → ℕ → Option MasterFault → Called
admitted purges id (Some f) = refuses (opened purges) f
admitted purges id None = answers (opened (with_admission purges (purges.last + 1) id)) (answer.Admit (purges.last + 1))

-- an acknowledgement: it returns what it has made done
abbrev pub told : Acknowledged → Called
told a = answers (opened a.purges) (answer.Acknowledge a.done)

-- a call of an open master
abbrev pub open_call : Nodes → PurgeList → MasterCall → Called
open_call nodes purges (call.Issue key) = issued purges key (issue_fault purges)
open_call nodes purges (call.Admit id) = admitted purges id (admit_fault nodes purges id)
open_call nodes purges (call.Acknowledge id trans code) = told (acknowledged nodes purges id trans code)
open_call nodes purges call.Due = answers (opened purges) (answer.Due (due nodes purges))
open_call nodes purges (call.Status number) = answers (opened purges)
    (answer.Status (status_of nodes purges number))

-- a call of a closed master: it still tells a status, and refuses all else [Master 11]
abbrev pub closed_call : Nodes → MasterState → MasterCall → Called
closed_call nodes s (call.Status number) = answers s (answer.Status (status_of nodes s.purges number))
closed_call nodes s _ = refuses s fault.Closed

-- what a call returns and leaves if no allocation and no store fails
abbrev pub called : Nodes → MasterState → MasterCall → Called
called nodes s c = if s.closed then closed_call nodes s c else open_call nodes s.purges c

-- the response of a needed member changes the purges: it marks a member that was not marked, or
-- makes the number done [Master 7]
abbrev pub is_news : List ℕ → ℕ → Option (List ℕ) → Bool
is_news needs id None = false
is_news needs id (Some marked) = not (is_among id marked) || are_among needs marked

-- the same of a response, of members that its number needs
abbrev pub is_news_by : List ℕ → PurgeList → ℕ → ℕ → ℕ → Bool
is_news_by needs purges id number code = is_acknowledging code && is_among id needs
    && is_news needs id (marks_at purges number)

-- the call writes: it changes what is stored
abbrev pub is_written : Nodes → PurgeList → MasterCall → Bool
is_written nodes purges (call.Issue key) = is_none (issue_fault purges)
is_written nodes purges (call.Admit id) = is_none (admit_fault nodes purges id)
is_written nodes purges (call.Acknowledge id trans code) =
    is_news_by (needed nodes purges.admissions trans) purges id trans code
is_written nodes purges _ = false

-- the call makes a list
abbrev pub is_due : MasterCall → Bool
is_due call.Due = true
is_due _ = false

-- the master is closed now, and nothing else has changed
abbrev pub closing : MasterState → MasterState
closing s = record { purges = s.purges; closed = true }

-- what `NoMemory` leaves: the same state, or a closed master if a write failed so. Only a call
-- that writes or makes a list allocates. [Master 10]
abbrev pub WantsMemory : Nodes → MasterState → MasterCall → MasterState → Type 0
WantsMemory nodes s c next =
    ((is_written nodes s.purges c || is_due c) ≡ true) × (next ≡ s)
    ⊎ (is_written nodes s.purges c ≡ true) × (next ≡ closing s)

-- an open master may return `NoMemory`, or `StoreFault` to a call that writes; any other fault is
-- as the function says [Master 10]
abbrev pub Refuses : Nodes → MasterState → MasterCall → MasterFault → MasterState → Type 0
Refuses nodes s c fault.NoMemory next = (s.closed ≡ false) × WantsMemory nodes s c next
Refuses nodes s c fault.StoreFault next = (s.closed ≡ false) × (is_written nodes s.purges c ≡ true)
    × (next ≡ closing s)
Refuses nodes s c f next = called nodes s c ≡ record { state = next; outcome = Err f }

-- the definition of a master's call: a master of these nodes, in this state, may return this and
-- be left so
abbrev pub Calls : Nodes → MasterState → MasterCall → Result MasterAnswer MasterFault → MasterState → Type 0
Calls nodes s c (Ok a) next = called nodes s c ≡ record { state = next; outcome = Ok a }
Calls nodes s c (Err f) next = Refuses nodes s c f next
