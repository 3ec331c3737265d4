-- The tracks of a run: each node's notes stand in one of them, and the master's in another. Nodes
-- are listed once each, and a track's records are those of its node.
use Rattle.std.proofs.Common.{◌≡◌, ℕ, Bool, true, false, cond, not, ◌||◌, List, [], ◌∷◌, ◌++◌, map, filter, refl, sym, ◌∙◌, ap, inl, inr, nat_eq, subst}
use Rattle.std.specs.List.{list_any}
use Rattle.floor_rules.specs.Floors.{FloorTable}
use Rattle.node_rules.specs.declared.state.NodeState.{NodeState}
use Rattle.node_rules.proofs.Cases.{branches, true_not_false}
use Rattle.node_book.specs.declared.book.NodeEntry.{NodeEntry}
use Rattle.node_book.specs.declared.record.Record.{Record}
use Rattle.purge_master.specs.declared.book.MasterEntry.{MasterEntry}
use Rattle.world_rules.proofs.MemberStates.{ids_same}
use Rattle.world_rules.proofs.Items.{append_nil}
use Rattle.run_rules.specs.Notes.{Note, Opens, Steps, Closes, Calls, steps_of, last_place, kept_by, notes_of, notes_of_all, is_shut_before, is_closed_before}
use Rattle.run_rules.specs.Notes.{calls_of, is_of, nodes_in, tracks_of}
use Rattle.run_rules.specs.Recorded.{is_of_node, is_of_master}
use Rattle.run_rules.proofs.Lists.{either}
use Rattle.run_rules.proofs.Taking.{parts, Sole}

filter_append : (test : Note → Bool) (xs ys : List Note) → filter test (xs ++ ys) ≡ filter test xs ++ filter test ys
filter_append test [] ys = refl
filter_append test (x ∷ xs) ys =
    branches (λ (l : List Note). l ≡ cond (test x) (x ∷ filter test xs) (filter test xs) ++ filter test ys) (test x) (x ∷ filter test (xs ++ ys))
    (filter test (xs ++ ys))
    (λ keeps. ap (λ (l : List Note). x ∷ l) (filter_append test xs ys) ∙ sym (ap (λ b. cond b (x ∷ filter test xs) (filter test xs) ++ filter test ys) keeps))
    (λ drops. filter_append test xs ys ∙ sym (ap (λ b. cond b (x ∷ filter test xs) (filter test xs) ++ filter test ys) drops))

-- a test that a note of a node passes by its id alone, and no other note
pub record TellsNodes (test : Note → Bool) (b : ℕ → Bool) : Type 0 where
  pub opens : (id : ℕ) (state : NodeState (Unit {0})) → test (Opens id state) ≡ b id
  pub steps : (id : ℕ) (entry : NodeEntry) (is_closed : Bool) (kept : FloorTable) → test (Steps id entry is_closed kept) ≡ b id
  pub closes : (id place : ℕ) (state : NodeState (Unit {0})) → test (Closes id place state) ≡ b id

abbrev when : Bool → List Note → List Note
when b l = cond b l []

none_when : (b : Bool) → [] ≡ when b []
none_when true = refl
none_when false = refl

when_more : (b : Bool) (note : Note) (notes : List Note) → cond b (note ∷ when b notes) (when b notes) ≡ when b (note ∷ notes)
when_more true note notes = refl
when_more false note notes = refl

when_joined : (b : Bool) (xs ys : List Note) → when b xs ++ when b ys ≡ when b (xs ++ ys)
when_joined true xs ys = refl
when_joined false xs ys = refl

module _ (test : Note → Bool) (b : ℕ → Bool) (tells : TellsNodes test b) where
  steps_told : (id : ℕ) (closing : Bool) (kept : FloorTable) (es : List NodeEntry) → filter test (steps_of id closing kept es) ≡ when (b id)
      (steps_of id closing kept es)
  steps_told id closing kept [] = none_when (b id)
  steps_told id closing kept (e ∷ es) =
      let note : Note = Steps id e (is_closed_before es closing) kept in
      ap (λ c. cond c (note ∷ filter test (steps_of id closing kept es)) (filter test (steps_of id closing kept es)))
      (tells.steps id e (is_closed_before es closing) kept)
      ∙ ap (λ (l : List Note). cond (b id) (note ∷ l) l) (steps_told id closing kept es) ∙ when_more (b id) note (steps_of id closing kept es)

  record_told : (r : Record) (rs : List Record) → filter test (notes_of r rs) ≡ when (b r.node) (notes_of r rs)
  record_told r rs =
      let steps : List Note = steps_of r.node r.closing.closed (kept_by r.closing.floors rs) r.entries in
      let last : Note = Closes r.node (last_place 0 r.entries) r.closing in
      let ends : filter test (last ∷ []) ≡ when (b r.node) (last ∷ []) = ap (λ c. cond c (last ∷ []) [])
      (tells.closes r.node (last_place 0 r.entries) r.closing) in
      let rest : filter test (steps ++ last ∷ []) ≡ when (b r.node) (steps ++ last ∷ []) =
      filter_append test steps (last ∷ []) ∙ ap (λ (l : List Note). l ++ filter test (last ∷ []))
      (steps_told r.node r.closing.closed (kept_by r.closing.floors rs) r.entries)
      ∙ ap (λ (l : List Note). when (b r.node) steps ++ l) ends ∙ when_joined (b r.node) steps (last ∷ []) in
      ap (λ c. cond c (Opens r.node r.opening ∷ filter test (steps ++ last ∷ [])) (filter test (steps ++ last ∷ []))) (tells.opens r.node r.opening)
      ∙ ap (λ (l : List Note). cond (b r.node) (Opens r.node r.opening ∷ l) l) rest ∙ when_more (b r.node) (Opens r.node r.opening) (steps ++ last ∷ [])

  -- the notes of one node's records
  own_told : (id : ℕ) (rs : List Record) → filter test (notes_of_all (filter (is_of id) rs)) ≡ when (b id) (notes_of_all (filter (is_of id) rs))
  own_told id [] = none_when (b id)
  own_told id (r ∷ rs) =
      branches (λ (l : List Record). filter test (notes_of_all l) ≡ when (b id) (notes_of_all l)) (nat_eq r.node id) (r ∷ filter (is_of id) rs)
      (filter (is_of id) rs)
      (λ here.
      filter_append test (notes_of r (filter (is_of id) rs)) (notes_of_all (filter (is_of id) rs))
      ∙ ap (λ (l : List Note). l ++ filter test (notes_of_all (filter (is_of id) rs))) (record_told r (filter (is_of id) rs))
      ∙ ap (λ n. when (b n) (notes_of r (filter (is_of id) rs)) ++ filter test (notes_of_all (filter (is_of id) rs))) (ids_same r.node id here)
      ∙ ap (λ (l : List Note). when (b id) (notes_of r (filter (is_of id) rs)) ++ l) (own_told id rs)
      ∙ when_joined (b id) (notes_of r (filter (is_of id) rs)) (notes_of_all (filter (is_of id) rs)))
      (λ other. own_told id rs)

-- The nodes, once each

abbrev has_id : ℕ → List ℕ → Bool
has_id id ids = list_any (λ i. nat_eq i id) ids

abbrev Once : List ℕ → Type 0
Once [] = Unit {0}
Once (i ∷ ids) = (has_id i ids ≡ false) × Once ids

or_parts : (a b : Bool) → (a || b) ≡ false → (a ≡ false) × (b ≡ false)
or_parts true b h = absurd (true_not_false h)
or_parts false b h = (refl, h)

or_none : (a b : Bool) → a ≡ false → b ≡ false → (a || b) ≡ false
or_none true b h k = absurd (true_not_false h)
or_none false b h k = k

not_kept : (b : Bool) → not b ≡ true → b ≡ false
not_kept true h = absurd (true_not_false (sym h))
not_kept false h = refl

not_dropped : (b : Bool) → not b ≡ false → b ≡ true
not_dropped true h = refl
not_dropped false h = absurd (true_not_false h)

-- an id that is not in a list is not in it after others are left out
left_out : (test : ℕ → Bool) (id : ℕ) (ids : List ℕ) → has_id id ids ≡ false → has_id id (filter test ids) ≡ false
left_out test id [] none = refl
left_out test id (i ∷ ids) none =
    let (here, there) = or_parts (nat_eq i id) (has_id id ids) none in
    branches (λ (l : List ℕ). has_id id l ≡ false) (test i) (i ∷ filter test ids) (filter test ids)
    (λ _. or_none (nat_eq i id) _ here (left_out test id ids there)) (λ _. left_out test id ids there)

once_left : (test : ℕ → Bool) (ids : List ℕ) → Once ids → Once (filter test ids)
once_left test [] once = tt
once_left test (i ∷ ids) (first, once) = branches Once (test i) (i ∷ filter test ids) (filter test ids)
    (λ _. (left_out test i ids first, once_left test ids once)) (λ _. once_left test ids once)

gone : (id : ℕ) (ids : List ℕ) → has_id id (filter (λ i. not (nat_eq i id)) ids) ≡ false
gone id [] = refl
gone id (i ∷ ids) =
    branches (λ (l : List ℕ). has_id id l ≡ false) (not (nat_eq i id)) (i ∷ filter (λ i. not (nat_eq i id)) ids) (filter (λ i. not (nat_eq i id)) ids)
    (λ kept. or_none (nat_eq i id) _ (not_kept (nat_eq i id) kept) (gone id ids)) (λ _. gone id ids)

once_in : (rs : List Record) → Once (nodes_in rs)
once_in [] = tt
once_in (r ∷ rs) = (gone r.node (nodes_in rs), once_left (λ i. not (nat_eq i r.node)) (nodes_in rs) (once_in rs))

-- a node that is not listed has no records
still_there : (id other : ℕ) (ids : List ℕ) → nat_eq other id ≡ false → has_id id (filter (λ i. not (nat_eq i other)) ids) ≡ false → has_id id ids ≡ false
still_there id other [] apart none = refl
still_there id other (i ∷ ids) apart none =
    (branches (λ (l : List ℕ). has_id id l ≡ false → has_id id (i ∷ ids) ≡ false) (not (nat_eq i other)) (i ∷ filter (λ i. not (nat_eq i other)) ids)
    (filter (λ i. not (nat_eq i other)) ids)
    (λ _ h. let (here, there) = or_parts (nat_eq i id) _ h in or_none (nat_eq i id) _ here (still_there id other ids apart there))
    (λ dropped h. or_none (nat_eq i id) _ (ap (λ n. nat_eq n id) (ids_same i other (not_dropped (nat_eq i other) dropped)) ∙ apart)
    (still_there id other ids apart h))) none

no_records : (id : ℕ) (rs : List Record) → has_id id (nodes_in rs) ≡ false → filter (is_of id) rs ≡ []
no_records id [] none = refl
no_records id (r ∷ rs) none =
    let (here, there) = or_parts (nat_eq r.node id) _ none in
    ap (λ c. cond c (r ∷ filter (is_of id) rs) (filter (is_of id) rs)) here ∙ no_records id rs (still_there id r.node (nodes_in rs) here there)

-- Each node's notes, and the master's

calls_none : (id : ℕ) (es : List MasterEntry) → filter (is_of_node id) (calls_of es) ≡ []
calls_none id [] = refl
calls_none id (e ∷ es) = calls_none id es

calls_all : (es : List MasterEntry) → filter is_of_master (calls_of es) ≡ calls_of es
calls_all [] = refl
calls_all (e ∷ es) = ap (λ (l : List Note). Calls e (is_shut_before es) ∷ l) (calls_all es)

tells_node : (id : ℕ) → TellsNodes (is_of_node id) (λ i. nat_eq i id)
tells_node id = record { opens = λ i state. refl; steps = λ i entry is_closed kept. refl; closes = λ i place state. refl }

tells_master : TellsNodes is_of_master (λ _. false)
tells_master = record { opens = λ i state. refl; steps = λ i entry is_closed kept. refl; closes = λ i place state. refl }

module _ (records : List Record) (entries : List MasterEntry) where
  abbrev track : ℕ → List Note
  track i = notes_of_all (filter (is_of i) records)

  abbrev tracks : List ℕ → List (List Note)
  tracks ids = map track ids ++ calls_of entries ∷ []

  -- of the tracks the node's own holds its notes, and no other holds any
  node_parts : (id : ℕ) (ids : List ℕ) → Once ids → Sole (is_of_node id) (tracks ids) × (parts (is_of_node id) (tracks ids) ≡ when (has_id id ids) (track id))
  node_parts id [] once = (inr refl, append_nil (filter (is_of_node id) (calls_of entries)) ∙ calls_none id entries)
  node_parts id (i ∷ ids) (first, once) =
      let (sole, rest) = node_parts id ids once in
      let mine : filter (is_of_node id) (track i) ≡ when (nat_eq i id) (track i) = own_told (is_of_node id) (λ n. nat_eq n id) (tells_node id) i records in
      elim (either (nat_eq i id)) [
        | inl here ↦
            let none : parts (is_of_node id) (tracks ids) ≡ [] = rest ∙ ap (λ b. when b (track id))
            (subst (λ n. has_id n ids ≡ false) (ids_same i id here) first) in (
              inr none,
              ap (λ (l : List Note). filter (is_of_node id) (track i) ++ l) none ∙ append_nil (filter (is_of_node id) (track i)) ∙ mine
                  ∙ ap (λ b. when b (track i)) here ∙ ap track (ids_same i id here)
                  ∙ sym (ap (λ b. when (b || has_id id ids) (track id)) here),
            )
        | inr other ↦
            let none : filter (is_of_node id) (track i) ≡ [] = mine ∙ ap (λ b. when b (track i)) other in (
              inl (none, sole),
              ap (λ (l : List Note). l ++ parts (is_of_node id) (tracks ids)) none ∙ rest
                  ∙ sym (ap (λ b. when (b || has_id id ids) (track id)) other),
            )
      ]

  its_notes : (id : ℕ) (b : Bool) → has_id id (nodes_in records) ≡ b → when b (track id) ≡ track id
  its_notes id true has = refl
  its_notes id false has = sym (ap notes_of_all (no_records id records has))

  -- a node's notes among all notes
  pub of_node : (id : ℕ) → Sole (is_of_node id) (tracks_of records entries) × (parts (is_of_node id) (tracks_of records entries) ≡ track id)
  of_node id =
      let (sole, whole) = node_parts id (nodes_in records) (once_in records) in
      (sole, whole ∙ its_notes id (has_id id (nodes_in records)) refl)

  master_parts : (ids : List ℕ) → Sole is_of_master (tracks ids) × (parts is_of_master (tracks ids) ≡ calls_of entries)
  master_parts [] = (inr refl, append_nil (filter is_of_master (calls_of entries)) ∙ calls_all entries)
  master_parts (i ∷ ids) =
      let (sole, rest) = master_parts ids in
      let none : filter is_of_master (track i) ≡ [] = own_told is_of_master (λ _. false) tells_master i records in
      (inl (none, sole), ap (λ (l : List Note). l ++ parts is_of_master (tracks ids)) none ∙ rest)

  -- the master's notes among all notes
  pub of_master : Sole is_of_master (tracks_of records entries) × (parts is_of_master (tracks_of records entries) ≡ calls_of entries)
  of_master = master_parts (nodes_in records)
