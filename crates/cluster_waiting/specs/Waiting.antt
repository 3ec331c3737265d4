-- What waits at a node: clients, early answers, rounds of queries, and errands.
use Rattle.std.specs.Prelude.{◌≡◌, ◌≤◌, ◌<◌, ◌⊎◌, ℕ, Bool, true, false, not, ◌==◌, max, filter, List, [], ◌∷◌, ◌++◌, length, All, Option, Some, None, IsSome}
use Rattle.std.specs.Prelude.{Result, Ok, MatchResult}
use Rattle.std.specs.Ordering.{nat_cmp}
use Rattle.std.specs.Map.{lookup, remove_entry}
use Rattle.std.specs.BTreeMap.{is_at, insert_entry}
use Rattle.cluster_waiting.specs.declared.fault.TableFault.{TableFault}
use Rattle.cluster_waiting.specs.declared.fault.TableFault.TheVariants.{Taken, Full, NoMemory}
use Rattle.cluster_waiting.specs.declared.fault.HandedBack.{HandedBack}
use Rattle.cluster_waiting.specs.declared.rounds.WaitingRound.{WaitingRound}

-- Clients and answers

-- the clients and the answers, each in the order of their blocks
pub record WaitingClientsView (C A : Type 0) : Type 0 where
  pub clients : List (ℕ × C)
  pub answers : List (ℕ × A)

-- what is kept under a block
abbrev pub found_at : {T : Type 0} → List (ℕ × T) → ℕ → Option T
found_at row block = lookup (is_at (nat_cmp block)) row

-- the row without what is kept under this block
abbrev pub without : {T : Type 0} → List (ℕ × T) → ℕ → List (ℕ × T)
without row block = remove_entry (is_at (nat_cmp block)) row

-- the row with this item under this block
abbrev pub with_one : {T : Type 0} → List (ℕ × T) → ℕ → T → List (ℕ × T)
with_one row block one = insert_entry nat_cmp row block one

-- an item is put under a free block, where fewer than 1,056 were kept
pub record IsPut {T : Type 0} (row : List (ℕ × T)) (block : ℕ) (one : T) (new : List (ℕ × T)) : Type 0 where
  pub free : found_at row block ≡ None
  pub few : length row < 1056
  pub put : new ≡ with_one row block one

-- why an item is not put: the first of the three that holds
abbrev pub IsCause : {T : Type 0} → List (ℕ × T) → ℕ → TableFault → Type 0
IsCause row block Taken = IsSome (found_at row block)
IsCause row block Full = (found_at row block ≡ None) × (1056 ≤ length row)
IsCause row block NoMemory = (found_at row block ≡ None) × (length row < 1056)

-- an item is handed back with its cause, and nothing changes
pub record IsHandedBack {T : Type 0} (row : List (ℕ × T)) (block : ℕ) (one : T) (new : List (ℕ × T))
    (handed_back : HandedBack T) : Type 0 where
  pub back : handed_back.back ≡ one
  pub cause : IsCause row block handed_back.fault
  pub same : new ≡ row

-- a client comes, by the answer that is kept under its block: it gets that answer, or waits, or is refused
abbrev pub LeavesAt : {C A : Type 0} → Option A → ℕ → C → WaitingClientsView C A →
    Result (Option (C × A)) (HandedBack C) → WaitingClientsView C A → Type 0
LeavesAt (Some answer) block client old result new =
    (result ≡ Ok (Some (client, answer))) × (new.clients ≡ old.clients) × (new.answers ≡ without old.answers block)
LeavesAt None block client old result new =
    (new.answers ≡ old.answers)
    × MatchResult result (λ met. (met ≡ None) × IsPut old.clients block client new.clients)
    (IsHandedBack old.clients block client new.clients)

-- a client comes
abbrev pub Leaves : {C A : Type 0} → ℕ → C → WaitingClientsView C A → Result (Option (C × A)) (HandedBack C) →
    WaitingClientsView C A → Type 0
Leaves block client old result new = LeavesAt (found_at old.answers block) block client old result new

-- an answer comes, by the client that waits under its block: that client gets it, or it is kept, or is refused
abbrev pub AnswersAt : {C A : Type 0} → Option C → ℕ → A → WaitingClientsView C A →
    Result (Option (C × A)) (HandedBack A) → WaitingClientsView C A → Type 0
AnswersAt (Some client) block answer old result new =
    (result ≡ Ok (Some (client, answer))) × (new.answers ≡ old.answers) × (new.clients ≡ without old.clients block)
AnswersAt None block answer old result new =
    (new.clients ≡ old.clients)
    × MatchResult result (λ met. (met ≡ None) × IsPut old.answers block answer new.answers)
    (IsHandedBack old.answers block answer new.answers)

-- an answer comes
abbrev pub Answers : {C A : Type 0} → ℕ → A → WaitingClientsView C A → Result (Option (C × A)) (HandedBack A) →
    WaitingClientsView C A → Type 0
Answers block answer old result new = AnswersAt (found_at old.clients block) block answer old result new

-- the client with the least block is taken out
abbrev pub TakesClient : {C A : Type 0} → WaitingClientsView C A → WaitingClientsView C A → C → Type 0
TakesClient old new client = (block : ℕ) × (old.clients ≡ (block, client) ∷ new.clients) × (new.answers ≡ old.answers)

-- Rounds

-- the rounds that wait, and the latest deadline so far
pub record RoundsView : Type 0 where
  pub rounds : List WaitingRound
  pub latest : ℕ

-- no round has an earlier deadline than those before it
abbrev pub Ascend : List WaitingRound → Type 0
Ascend [] = Unit {0}
Ascend (w ∷ rounds) = All (λ later. w.until ≤ later.until) rounds × Ascend rounds

-- a round by its deadline and serial
abbrev pub waiting : ℕ → ℕ → WaitingRound
waiting until serial = record { until = until; serial = serial }

-- one round more, whose deadline is no earlier than the latest so far
abbrev pub added : RoundsView → ℕ → ℕ → RoundsView
added old until serial = record {
  rounds = old.rounds ++ waiting (max until old.latest) serial ∷ [];
  latest = max until old.latest;
}

-- the rounds but for those of a serial
abbrev pub rounds_without : ℕ → List WaitingRound → List WaitingRound
rounds_without serial rounds = filter (λ w. not (w.serial == serial)) rounds

-- the first round is taken out, and its deadline has come
abbrev pub IsDue : ℕ → RoundsView → RoundsView → ℕ → Type 0
IsDue now old new serial = (until : ℕ) × (old.rounds ≡ waiting until serial ∷ new.rounds) × (until ≤ now)
    × (new.latest ≡ old.latest)

-- no deadline has come, and all rounds stay
abbrev pub NoneIsDue : ℕ → RoundsView → RoundsView → Type 0
NoneIsDue now old new = (new ≡ old) × All (λ w. now < w.until) old.rounds

-- Errands

-- the items that wait, and whether the queue is ended
pub record QueueView (T : Type 0) : Type 0 where
  pub items : List T
  pub over : Bool

-- the queue with one item more at its end
abbrev pub with_last : {T : Type 0} → QueueView T → T → QueueView T
with_last queue item = record { items = queue.items ++ item ∷ []; over = queue.over }

-- the queue, ended
abbrev pub ended : {T : Type 0} → QueueView T → QueueView T
ended queue = record { items = queue.items; over = true }

-- the item that has waited longest is taken out; or none, where none waits or the queue is ended
abbrev pub Takes : {T : Type 0} → QueueView T → Option T → QueueView T → Type 0
Takes old None new = (new ≡ old) × ((old.over ≡ true) ⊎ (old.items ≡ []))
Takes old (Some item) new = (old.over ≡ false) × (old.items ≡ item ∷ new.items) × (new.over ≡ false)
