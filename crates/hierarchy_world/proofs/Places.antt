-- The node at a member's index is the one that the model's look-up by id finds, also after it was
-- replaced: by induction over the nodes, whose first match both take.
use Rattle.std.proofs.Common.{◌≡◌, ℕ, suc, Bool, true, false, cond, List, [], ◌∷◌, map, slice_get, set, option_map, Option, Some, None, refl, sym, ◌∙◌, ap}
use Rattle.std.proofs.Common.{subst, nat_eq}
use Rattle.std.proofs.lemmas.Option.{none-some}
use Rattle.node_rules.specs.declared.state.NodeState.{NodeState}
use Rattle.node_rules.proofs.Cases.{same_Some}
use Rattle.world_rules.specs.World.{MemberState, node_at, with_node}
use Rattle.world_rules.proofs.MemberStates.{ids_same}
use Rattle.hierarchy_world.specs.Parts.{MemberNode, member_state, member_states, place_of, IsPlace}

-- the node at the index has the id
id_by : (b : Bool) (m n : MemberNode) (nodes : List MemberNode) (id : ℕ) (k : Option ℕ) (place : ℕ) → (b ≡ true → m.id ≡ id) →
    cond b (Some 0) (option_map suc k) ≡ Some place → slice_get (m ∷ nodes) place ≡ Some n →
    ((p : ℕ) → k ≡ Some p → slice_get nodes p ≡ Some n → n.id ≡ id) → n.id ≡ id
id_by true m n nodes id k place same is e later = ap (λ (x : MemberNode). x.id)
    (sym (same_Some m n (subst (λ p. slice_get (m ∷ nodes) p ≡ Some n) (sym (same_Some 0 place is)) e))) ∙ same refl
id_by false m n nodes id None place same is e later = absurd (none-some place is)
id_by false m n nodes id (Some p) place same is e later = later p refl (subst (λ q. slice_get (m ∷ nodes) q ≡ Some n) (sym (same_Some (suc p) place is)) e)

pub place_id : (nodes : List MemberNode) (id place : ℕ) (n : MemberNode) → IsPlace nodes id place → slice_get nodes place ≡ Some n → n.id ≡ id
place_id [] id place n is e = absurd (none-some place is)
place_id (m ∷ nodes) id place n is e = id_by (nat_eq m.id id) m n nodes id (place_of id (map (λ n. n.id) nodes)) place (ids_same m.id id) is e
    (λ p q r. place_id nodes id p n q r)

-- its state is the one that the look-up finds
state_by : (b : Bool) (m n : MemberNode) (nodes : List MemberNode) (rest : NodeState ℕ) (k : Option ℕ) (place : ℕ) →
    cond b (Some 0) (option_map suc k) ≡ Some place → slice_get (m ∷ nodes) place ≡ Some n →
    ((p : ℕ) → k ≡ Some p → slice_get nodes p ≡ Some n → rest ≡ n.state) → cond b m.state rest ≡ n.state
state_by true m n nodes rest k place is e later = ap (λ (x : MemberNode). x.state)
    (same_Some m n (subst (λ p. slice_get (m ∷ nodes) p ≡ Some n) (sym (same_Some 0 place is)) e))
state_by false m n nodes rest None place is e later = absurd (none-some place is)
state_by false m n nodes rest (Some p) place is e later = later p refl (subst (λ q. slice_get (m ∷ nodes) q ≡ Some n) (sym (same_Some (suc p) place is)) e)

pub place_state : (nodes : List MemberNode) (id place : ℕ) (n : MemberNode) → IsPlace nodes id place → slice_get nodes place ≡ Some n →
    node_at (member_states nodes) id ≡ n.state
place_state [] id place n is e = absurd (none-some place is)
place_state (m ∷ nodes) id place n is e = state_by (nat_eq m.id id) m n nodes (node_at (member_states nodes) id) (place_of id (map (λ n. n.id) nodes)) place is
    e (λ p q r. place_state nodes id p n q r)

-- replacing it is what the model's with_node does
put_by : (b : Bool) (m n : MemberNode) (nodes : List MemberNode) (rest : List MemberState) (k : Option ℕ) (place : ℕ) →
    cond b (Some 0) (option_map suc k) ≡ Some place →
    ((p : ℕ) → k ≡ Some p → rest ≡ member_states (set nodes p n)) → cond b (member_state n ∷ member_states nodes) (member_state m ∷ rest) ≡ member_states
    (set (m ∷ nodes) place n)
put_by true m n nodes rest k place is later = ap (λ p. member_states (set (m ∷ nodes) p n)) (same_Some 0 place is)
put_by false m n nodes rest None place is later = absurd (none-some place is)
put_by false m n nodes rest (Some p) place is later = ap (λ l. member_state m ∷ l) (later p refl)
    ∙ ap (λ q. member_states (set (m ∷ nodes) q n)) (same_Some (suc p) place is)

pub place_put : (nodes : List MemberNode) (place : ℕ) (n : MemberNode) → IsPlace nodes n.id place →
    with_node (member_states nodes) n.id n.state ≡ member_states (set nodes place n)
place_put [] place n is = absurd (none-some place is)
place_put (m ∷ nodes) place n is = put_by (nat_eq m.id n.id) m n nodes (with_node (member_states nodes) n.id n.state) (place_of n.id (map (λ n. n.id) nodes))
    place is (λ p q. place_put nodes p n q)
