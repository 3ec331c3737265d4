-- Tracks are built from their ends: each note that is pushed stands before those of the later
-- items, as the definitions of run_rules have it.
use Rattle.std.proofs.Common.{◌≡◌, ℕ, ◌+◌, ◌-◌, ◌<◌, ◌≤◌, Bool, true, false, cond, not, List, [], ◌∷◌, ◌++◌, length, drop, get_or, filter, Option}
use Rattle.std.proofs.Common.{Some, unwrap_or, nat_eq, refl, sym, ◌∙◌, ap, append_assoc, arith}
use Rattle.std.specs.Prelude.{slice_get, option_map}
use Rattle.std.proofs.lemmas.List.{drop_more}
use Rattle.floor_rules.specs.Floors.{FloorTable}
use Rattle.node_book.specs.declared.book.NodeEntry.{NodeEntry}
use Rattle.node_book.specs.declared.record.Record.{Record}
use Rattle.purge_master.specs.declared.book.MasterEntry.{MasterEntry}
use Rattle.run_rules.specs.Notes.{Note, Opens, Steps, Closes, Calls, steps_of, is_closed_before, is_closed_answer, last_place, kept_by, record_notes, notes_of}
use Rattle.run_rules.specs.Notes.{notes_of_all, is_of, calls_of, is_shut_before, is_shut_by, is_status, nodes_in}

-- the items from an index on are the one there and those after it
pub from_there : {A : Type 0} (xs : List A) (at : ℕ) (x : A) → 0 < at → at ≤ length xs → x ≡ get_or xs (at - 1) x → drop (at - 1) xs ≡ x ∷ drop at xs
from_there xs at x some within is =
    let next : at - 1 + 1 ≡ at = omega (some, arith) in
    drop_more xs (at - 1) x (omega (some, within, arith)) ∙ ap (λ n. get_or xs (at - 1) x ∷ drop n xs) next ∙ ap (λ y. y ∷ drop at xs) (sym is)

-- an entry's note comes before those of later entries
pub steps_more : (id : ℕ) (closing : Bool) (kept : FloorTable) (all behind : List NodeEntry) (e : NodeEntry) (is_closed : Bool) (so_far rest : List Note) →
    all ≡ e ∷ behind → is_closed ≡ is_closed_before behind closing → so_far ≡ steps_of id closing kept behind ++ rest →
    Steps id e is_closed kept ∷ so_far ≡ steps_of id closing kept all ++ rest
steps_more id closing kept all behind e is_closed so_far rest here closed before =
    ap (λ b. Steps id e b kept ∷ so_far) closed ∙ ap (λ l. Steps id e (is_closed_before behind closing) kept ∷ l) before
    ∙ ap (λ l. steps_of id closing kept l ++ rest) (sym here)

pub closed_more : (closing : Bool) (all behind : List NodeEntry) (e : NodeEntry) → all ≡ e ∷ behind → is_closed_answer e.outcome ≡ is_closed_before all closing
closed_more closing all behind e here = ap (λ l. is_closed_before l closing) (sym here)

-- the place of the last entry
pub last_is : (place : ℕ) (e : NodeEntry) (es : List NodeEntry) → option_map (λ l. l.place) (slice_get (e ∷ es) (length es)) ≡ Some (last_place place (e ∷ es))
last_is place e [] = refl
last_is place e (f ∷ es) = last_is e.place f es

pub last_place_is : (es : List NodeEntry) → unwrap_or (option_map (λ l. l.place) (slice_get es (length es - 1))) 0 ≡ last_place 0 es
last_place_is [] = refl
last_place_is (e ∷ es) = ap (λ n. unwrap_or (option_map (λ l. l.place) (slice_get (e ∷ es) n)) 0) (omega arith) ∙ ap (λ o. unwrap_or o 0) (last_is 0 e es)

-- a record's notes, before those of later records
pub record_before : (r : Record) (kept : FloorTable) (rest steps : List Note) → steps ≡ steps_of r.node r.closing.closed kept r.entries
    ++ Closes r.node (last_place 0 r.entries) r.closing ∷ rest →
    Opens r.node r.opening ∷ steps ≡ record_notes r kept ++ rest
record_before r kept rest steps is =
    ap (λ l. Opens r.node r.opening ∷ l)
    (is ∙ sym (append_assoc (steps_of r.node r.closing.closed kept r.entries) (Closes r.node (last_place 0 r.entries) r.closing ∷ []) rest))

-- The records of one node

-- the floors with which the next of these records opens an open node, or else these
abbrev pub KeptBy : List Record → Option FloorTable → Type 0
KeptBy rs later = (floors : FloorTable) → kept_by floors rs ≡ unwrap_or later floors

pub own_record : (id : ℕ) (all behind : List Record) (r : Record) → all ≡ r ∷ behind → nat_eq r.node id ≡ true →
    filter (is_of id) all ≡ r ∷ filter (is_of id) behind
own_record id all behind r here own = ap (λ l. filter (is_of id) l) here ∙ ap (λ b. cond b (r ∷ filter (is_of id) behind) (filter (is_of id) behind)) own

pub other_record : (id : ℕ) (all behind : List Record) (r : Record) → all ≡ r ∷ behind → nat_eq r.node id ≡ false →
    filter (is_of id) all ≡ filter (is_of id) behind
other_record id all behind r here other = ap (λ l. filter (is_of id) l) here ∙ ap (λ b. cond b (r ∷ filter (is_of id) behind) (filter (is_of id) behind)) other

-- a record's notes, with the floors with which the node next opens
pub notes_more : (r : Record) (rs : List Record) (later : Option FloorTable) (so_far : List Note) → KeptBy rs later → so_far ≡ notes_of_all rs →
    record_notes r (unwrap_or later r.closing.floors) ++ so_far ≡ notes_of_all (r ∷ rs)
notes_more r rs later so_far kept before = ap (λ k. record_notes r k ++ so_far) (sym (kept r.closing.floors)) ∙ ap (λ l. notes_of r rs ++ l) before

pub kept_open : (r : Record) (rs : List Record) → r.opening.closed ≡ false → KeptBy (r ∷ rs) (Some r.opening.floors)
kept_open r rs is_open floors = ap (λ b. cond b (kept_by floors rs) r.opening.floors) is_open

pub kept_closed : (r : Record) (rs : List Record) (later : Option FloorTable) → r.opening.closed ≡ true → KeptBy rs later → KeptBy (r ∷ rs) later
kept_closed r rs later is_closed kept floors = ap (λ b. cond b (kept_by floors rs) r.opening.floors) is_closed ∙ kept floors

-- The master's entries

pub calls_more : (all behind : List MasterEntry) (e : MasterEntry) (is_closed : Bool) (so_far : List Note) → all ≡ e ∷ behind →
    is_closed ≡ is_shut_before behind → so_far ≡ calls_of behind → Calls e is_closed ∷ so_far ≡ calls_of all
calls_more all behind e is_closed so_far here closed before =
    ap (λ b. Calls e b ∷ so_far) closed ∙ ap (λ l. Calls e (is_shut_before behind) ∷ l) before ∙ ap calls_of (sym here)

pub shut_more : (all behind : List MasterEntry) (e : MasterEntry) (is_closed : Bool) → all ≡ e ∷ behind → is_closed ≡ is_shut_before behind →
    is_shut_by (is_status e.call) e.answer is_closed ≡ is_shut_before all
shut_more all behind e is_closed here closed = ap (is_shut_by (is_status e.call) e.answer) closed ∙ ap is_shut_before (sym here)

-- The nodes

pub nodes_more : (all behind : List Record) (r : Record) (so_far : List ℕ) → all ≡ r ∷ behind → so_far ≡ nodes_in behind →
    r.node ∷ filter (λ id. not (nat_eq id r.node)) so_far ≡ nodes_in all
nodes_more all behind r so_far here before = ap (λ l. r.node ∷ filter (λ id. not (nat_eq id r.node)) l) before ∙ ap nodes_in (sym here)
