-- What a call of a master tells is of the kind of the call. Once nothing is due, nothing is until a number is given or a
-- response is taken. By the definition of a call, case by case.
use Rattle.std.proofs.Common.{◌≡◌, ◌≢◌, ◌⊎◌, inl, inr, ℕ, Bool, true, false, cond, not, ◌||◌, nat_le, List, [], ◌∷◌, Some, None, Result, Ok, Err}
use Rattle.std.proofs.Common.{refl, sym, subst, ap, ◌∙◌, ◌+◌, ◌/◌, ◌++◌, length, min, nat_lt, if◌then◌else◌, arith, length-append}
use Rattle.std.proofs.lemmas.Bool.Decides.{nat_tests}
use Rattle.purge_rules.specs.declared.nodes.Nodes.{Nodes}
use Rattle.purge_rules.specs.declared.calls.MasterCall.{MasterCall}
use Rattle.purge_rules.specs.declared.calls.MasterCall.TheVariants as call
use Rattle.purge_rules.specs.declared.calls.MasterAnswer.{MasterAnswer}
use Rattle.purge_rules.specs.declared.calls.MasterAnswer.TheVariants as answer
use Rattle.purge_rules.specs.declared.fault.MasterFault.{MasterFault}
use Rattle.purge_rules.specs.declared.fault.MasterFault.TheVariants as fault
use Rattle.purge_rules.specs.Members.{is_among}
use Rattle.purge_rules.specs.Purges.{is_admitted, pending_count}
use Rattle.purge_rules.specs.Calls.{MasterState, Called, due, issued, admitted, open_call, closed_call, called, closing, Calls}
use Rattle.purge_master.specs.declared.book.MasterEntry.{MasterEntry}
use Rattle.purge_master.specs.Store.{Witness}
use Rattle.purge_master.specs.Book.{BookView, IsEntered}
use Rattle.cluster_master.specs.Answers.{IsToldOf}
use Rattle.cluster_master.specs.LockedBook.{LockedBookView, IsNothingDue, may_be_due_after, ready, filed, is_full_page, IsCalledAt, IsUnmade}
use Rattle.cluster_master.specs.Weight.{weight_of, weight_of_all, call_octets, answer_octets}
use Rattle.cluster_master.proofs.Weights.{weight_of_added}

-- the state is as it was, if it was open or closed so
abbrev IsSame : MasterState → Bool → MasterState → Type 0
IsSame s closed next = (next.purges ≡ s.purges) × (next.closed ≡ closed)

-- what an outcome says of the state that is left
abbrev Leaves : Nodes → MasterState → Bool → MasterState → Result MasterAnswer MasterFault → Type 0
Leaves nodes s closed next (Ok (answer.Due pairs)) = due nodes next.purges ≡ pairs
Leaves nodes s closed next (Ok (answer.Status status)) = IsSame s closed next
Leaves nodes s closed next (Ok (answer.Issue number)) = Unit {0}
Leaves nodes s closed next (Ok (answer.Admit number)) = Unit {0}
Leaves nodes s closed next (Ok (answer.Acknowledge number)) = Unit {0}
Leaves nodes s closed next (Err fault.Closed) = next.closed ≡ true
Leaves nodes s closed next (Err _) = IsSame s closed next

-- the outcome is of the kind of the call, and says so of the state
abbrev IsGood : Nodes → MasterState → Bool → MasterCall → Called → Type 0
IsGood nodes s closed c r = IsToldOf c r.outcome × Leaves nodes s closed r.state r.outcome

closed_other : fault.Closed ≢ fault.ShiftFull
closed_other same = absurd cc

spent_other : fault.NumbersSpent ≢ fault.ShiftFull
spent_other same = absurd cc

many_other : fault.TooManyPending ≢ fault.ShiftFull
many_other same = absurd cc

joining_other : fault.NotJoining ≢ fault.ShiftFull
joining_other same = absurd cc

memory_other : fault.NoMemory ≢ fault.ShiftFull
memory_other same = absurd cc

store_other : fault.StoreFault ≢ fault.ShiftFull
store_other same = absurd cc

-- a closed master
closed_good : (nodes : Nodes) (s : MasterState) (c : MasterCall) → s.closed ≡ true → IsGood nodes s true c (closed_call nodes s c)
closed_good nodes s (call.Issue key) closed = (closed_other, closed)
closed_good nodes s (call.Admit id) closed = (closed_other, closed)
closed_good nodes s (call.Acknowledge id trans code) closed = (closed_other, closed)
closed_good nodes s call.Due closed = (closed_other, closed)
closed_good nodes s (call.Status number) closed = (tt, (refl, closed))

-- an issue, by whether all numbers are spent, and whether too many are pending
issued_good : (nodes : Nodes) (s : MasterState) (key : List ℕ) (spent many : Bool) →
    IsGood nodes s false (call.Issue key) (issued s.purges key (cond spent (Some fault.NumbersSpent) (cond many (Some fault.TooManyPending) None)))
issued_good nodes s key true many = (spent_other, (refl, refl))
issued_good nodes s key false true = (many_other, (refl, refl))
issued_good nodes s key false false = (tt, tt)

-- an admission, by whether the node may not be admitted, and by the same
admitted_good : (nodes : Nodes) (s : MasterState) (id : ℕ) (not_joining spent many : Bool) →
    IsGood nodes s false (call.Admit id)
    (admitted s.purges id (cond not_joining (Some fault.NotJoining) (cond spent (Some fault.NumbersSpent) (cond many (Some fault.TooManyPending) None))))
admitted_good nodes s id true spent many = (joining_other, (refl, refl))
admitted_good nodes s id false true many = (spent_other, (refl, refl))
admitted_good nodes s id false false true = (many_other, (refl, refl))
admitted_good nodes s id false false false = (tt, tt)

-- an open master
open_good : (nodes : Nodes) (s : MasterState) (c : MasterCall) → IsGood nodes s false c (open_call nodes s.purges c)
open_good nodes s (call.Issue key) = issued_good nodes s key (nat_le 4294967295 s.purges.last) (nat_le 1024 (pending_count s.purges))
open_good nodes s (call.Admit id) =
    admitted_good nodes s id (not (is_among id nodes.joining) || is_admitted s.purges id) (nat_le 4294967295 s.purges.last)
    (nat_le 1024 (pending_count s.purges))
open_good nodes s (call.Acknowledge id trans code) = (tt, tt)
open_good nodes s call.Due = (tt, refl)
open_good nodes s (call.Status number) = (tt, (refl, refl))

good_by : (nodes : Nodes) (s : MasterState) (c : MasterCall) (closed : Bool) → s.closed ≡ closed →
    IsGood nodes s closed c (cond closed (closed_call nodes s c) (open_call nodes s.purges c))
good_by nodes s c true is = closed_good nodes s c is
good_by nodes s c false is = open_good nodes s c

called_good : (nodes : Nodes) (s next : MasterState) (c : MasterCall) (out : Result MasterAnswer MasterFault) →
    called nodes s c ≡ record { state = next; outcome = out } → IsToldOf c out × Leaves nodes s s.closed next out
called_good nodes s next c out is = subst (λ r. IsGood nodes s s.closed c r) is (good_by nodes s c s.closed refl)

calls_told : (nodes : Nodes) (s next : MasterState) (c : MasterCall) (out : Result MasterAnswer MasterFault) → Calls nodes s c out next → IsToldOf c out
calls_told nodes s next c (Ok a) is = (called_good nodes s next c (Ok a) is).0
calls_told nodes s next c (Err fault.NoMemory) is = memory_other
calls_told nodes s next c (Err fault.StoreFault) is = store_other
calls_told nodes s next c (Err fault.Closed) is = closed_other
calls_told nodes s next c (Err fault.ShiftFull) is = (called_good nodes s next c (Err fault.ShiftFull) is).0
calls_told nodes s next c (Err fault.NumbersSpent) is = spent_other
calls_told nodes s next c (Err fault.TooManyPending) is = many_other
calls_told nodes s next c (Err fault.NotJoining) is = joining_other

-- nothing is due: the master is closed, or no member is missing
abbrev Nothing : Nodes → MasterState → Type 0
Nothing nodes s = (s.closed ≡ true) ⊎ (due nodes s.purges ≡ [])

-- a state that is as it was
nothing_same : (nodes : Nodes) (s next : MasterState) → IsSame s s.closed next → Nothing nodes s → Nothing nodes next
nothing_same nodes s next same (inl closed) = inl (same.1 ∙ closed)
nothing_same nodes s next same (inr none) = inr (ap (due nodes) same.0 ∙ none)

-- after a lack of memory
nothing_wanting : {A B : Type 0} (nodes : Nodes) (s next : MasterState) → (A × (next ≡ s)) ⊎ (B × (next ≡ closing s)) → Nothing nodes s → Nothing nodes next
nothing_wanting nodes s next (inl same) before = subst (Nothing nodes) (sym same.1) before
nothing_wanting nodes s next (inr closed) before = inl (ap (λ t. t.closed) closed.1)

calls_nothing : (nodes : Nodes) (s next : MasterState) (c : MasterCall) (out : Result MasterAnswer MasterFault) (was : Bool) → Calls nodes s c out next →
    (was ≡ false → Nothing nodes s) → may_be_due_after out was ≡ false → Nothing nodes next
calls_nothing nodes s next c (Ok (answer.Due [])) was is before none = inr (called_good nodes s next c (Ok (answer.Due [])) is).1
calls_nothing nodes s next c (Ok (answer.Due (pair ∷ pairs))) was is before none = absurd cc
calls_nothing nodes s next c (Ok (answer.Status status)) was is before none =
    nothing_same nodes s next (called_good nodes s next c (Ok (answer.Status status)) is).1 (before none)
calls_nothing nodes s next c (Ok (answer.Issue number)) was is before none = absurd cc
calls_nothing nodes s next c (Ok (answer.Admit number)) was is before none = absurd cc
calls_nothing nodes s next c (Ok (answer.Acknowledge number)) was is before none = absurd cc
calls_nothing nodes s next c (Err fault.Closed) was is before none = inl (called_good nodes s next c (Err fault.Closed) is).1
calls_nothing nodes s next c (Err fault.NoMemory) was is before none = nothing_wanting nodes s next is.1 (before none)
calls_nothing nodes s next c (Err fault.StoreFault) was is before none = inl (ap (λ t. t.closed) is.2)
calls_nothing nodes s next c (Err fault.ShiftFull) was is before none =
    nothing_same nodes s next (called_good nodes s next c (Err fault.ShiftFull) is).1 (before none)
calls_nothing nodes s next c (Err fault.NumbersSpent) was is before none =
    nothing_same nodes s next (called_good nodes s next c (Err fault.NumbersSpent) is).1 (before none)
calls_nothing nodes s next c (Err fault.TooManyPending) was is before none =
    nothing_same nodes s next (called_good nodes s next c (Err fault.TooManyPending) is).1 (before none)
calls_nothing nodes s next c (Err fault.NotJoining) was is before none =
    nothing_same nodes s next (called_good nodes s next c (Err fault.NotJoining) is).1 (before none)

-- A book answers: there was no memory for an entry, and nothing has changed; or the call is entered.
module _ {S : Type 0} (was now : Witness) (before after : BookView S) (place : ℕ) (c : MasterCall) (out : Result MasterAnswer MasterFault) where
  abbrev pub IsAnswered : Type 0
  IsAnswered = (out ≡ Err fault.NoMemory) × (after ≡ before) ⊎ IsEntered was now before after place c out

  pub answered_told : IsAnswered → IsToldOf c out
  answered_told (inl none) = subst (IsToldOf c) (sym none.0) memory_other
  answered_told (inr e) = calls_told before.master.nodes before.master.state after.master.state c out e.called.call

  pub answered_nothing : (due_before : Bool) → IsAnswered → (due_before ≡ false → IsNothingDue before.master) →
      may_be_due_after out due_before ≡ false → IsNothingDue after.master
  answered_nothing due_before (inl none) held now_none =
      subst (λ b. IsNothingDue b.master) (sym none.1) (held (subst (λ o. may_be_due_after o due_before ≡ false) none.0 now_none))
  answered_nothing due_before (inr e) held now_none =
      subst (λ n. Nothing n after.master.state) (sym e.called.nodes)
      (calls_nothing before.master.nodes before.master.state after.master.state c out due_before e.called.call held now_none)

  abbrev entry : MasterEntry
  entry = record { place = place; call = c; answer = out }

  -- what is added is what the entry weighs, if there is one
  pub answered_weight : (w added : ℕ) → IsAnswered → w ≡ weight_of_all before.entries →
      added ≡ (if nat_lt (length before.entries) (length after.entries) then 1 + (call_octets c + answer_octets out) / 1024 else 0) →
      min (w + added) 18446744073709551615 ≡ weight_of_all after.entries
  answered_weight w added (inl none) is adds =
      let same : length after.entries ≡ length before.entries = ap (λ b. length b.entries) none.1 in
      let not_more : nat_lt (length before.entries) (length after.entries) ≡ false = grind (arith, nat_tests) in
      let nothing : added ≡ 0 = adds ∙ ap (λ b. if b then 1 + (call_octets c + answer_octets out) / 1024 else 0) not_more in
      let all : weight_of_all after.entries ≡ weight_of_all before.entries = ap (λ b. weight_of_all b.entries) none.1 in
      omega (arith, is, all, nothing)
  answered_weight w added (inr e) is adds =
      let long : length after.entries ≡ length (before.entries ++ entry ∷ []) = ap length e.entries in
      let longer : length (before.entries ++ entry ∷ []) ≡ length before.entries + 1 = length-append before.entries (entry ∷ []) in
      let more : nat_lt (length before.entries) (length after.entries) ≡ true = grind (arith, nat_tests) in
      let whole : added ≡ weight_of entry = adds ∙ ap (λ b. if b then 1 + (call_octets c + answer_octets out) / 1024 else 0) more in
      ap (λ n. min (n + added) 18446744073709551615) is ∙ ap (λ n. min (weight_of_all before.entries + n) 18446744073709551615) whole
      ∙ sym (weight_of_added before.entries entry) ∙ ap weight_of_all (sym e.entries)

-- a page that is full, and one that is not, are of the same master
ready_master : {S : Type 0} (locked : LockedBookView S) → (ready locked).book.master ≡ locked.book.master
ready_master locked = elim (is_full_page locked.book.entries) as (λ b. (cond b (filed locked) locked).book.master ≡ locked.book.master)
    [ true ↦ refl | false ↦ refl ]

ready_due : {S : Type 0} (locked : LockedBookView S) → (ready locked).may_be_due ≡ locked.may_be_due
ready_due locked = elim (is_full_page locked.book.entries) as (λ b. (cond b (filed locked) locked).may_be_due ≡ locked.may_be_due)
    [ true ↦ refl | false ↦ refl ]

-- the same, with another book, and whether a CLR may be due
abbrev pub locked_as : {S : Type 0} → LockedBookView S → BookView S → Bool → LockedBookView S
locked_as r book due_now = record { book = book; kept = r.kept; to_keep = r.to_keep; may_be_due = due_now }

-- a call of a book that was made ready
pub answered_called : {S : Type 0} (w : S → Witness) (before r : LockedBookView S) (after : BookView S) (place : ℕ) (c : MasterCall)
    (out : Result MasterAnswer MasterFault) (due_now : Bool) → r ≡ ready before →
    IsAnswered (w r.book.master.store) (w after.master.store) r.book after place c out → due_now ≡ may_be_due_after out r.may_be_due →
    IsUnmade before (locked_as r after due_now) out
    ⊎ IsCalledAt (w before.book.master.store) (w after.master.store) before (locked_as r after due_now) c out
answered_called w before r after place c out due_now is (inl none) is_due =
    let same : due_now ≡ r.may_be_due = is_due ∙ ap (λ o. may_be_due_after o r.may_be_due) none.0 in
    inl (none.0, inr (ap (λ b. locked_as r b due_now) none.1 ∙ ap (λ d. locked_as r r.book d) same ∙ is))
answered_called w before r after place c out due_now is (inr e) is_due = inr record {
  place = place;
  entered = subst (λ store. IsEntered (w store) (w after.master.store) (ready before).book after place c out) (ap (λ m. m.store) (ready_master before))
      (subst (λ v. IsEntered (w v.book.master.store) (w after.master.store) v.book after place c out) is e);
  kept = ap (λ v. v.kept) is;
  to_keep = ap (λ v. v.to_keep) is;
  may_be_due = is_due ∙ ap (may_be_due_after out) (ap (λ v. v.may_be_due) is ∙ ready_due before);
}
