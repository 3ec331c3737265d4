-- Each member has a node, and nobody else has one: the nodes' ids are the members' ids, in the same
-- order. So who is found by an address also has a node.
use Rattle.std.proofs.Common.{◌≡◌, ℕ, zero, suc, Bool, true, false, cond, List, [], ◌∷◌, map, set, option_map, is_some, find, MatchOption, Option, Some, None}
use Rattle.std.proofs.Common.{refl, sym, ◌∙◌, ap, subst, nat_eq}
use Rattle.std.specs.List.{AllByRecursion}
use Rattle.std.proofs.lemmas.Option.{none-some}
use Rattle.node_rules.proofs.Cases.{same_Some}
use Rattle.values_tables.specs.declared.plain.Member.{Member}
use Rattle.values_tables.specs.declared.plain.Tables.{Tables}
use Rattle.values_plain.specs.declared.address.Address.{Address}
use Rattle.values_plain.specs.declared.address.Udp.{Udp}
use Rattle.roster.specs.Lookups.{is_member, member_at, same_address, address_by}
use Rattle.world_rules.proofs.MemberStates.{ids_same, same_id}
use Rattle.hierarchy_world.specs.declared.parts.Parts.{Parts}
use Rattle.hierarchy_world.specs.Parts.{MemberNode, IsMemberNode, IsSound, place_of, IsPlace}

placed_by : (b : Bool) (k : Option ℕ) (m : Member) (r : Option Member) → is_some k ≡ is_some r →
    is_some (cond b (Some 0) (option_map suc k)) ≡ is_some (cond b (Some m) r)
placed_by true k m r e = refl
placed_by false None m r e = e
placed_by false (Some p) m r e = e

placed_member : (ms : List Member) (id : ℕ) → is_some (place_of id (map (λ m. m.cache.id) ms)) ≡ is_some (find (λ m. nat_eq m.cache.id id) ms)
placed_member [] id = refl
placed_member (m ∷ ms) id = placed_by (nat_eq m.cache.id id) (place_of id (map (λ m. m.cache.id) ms)) m (find (λ m. nat_eq m.cache.id id) ms)
    (placed_member ms id)

by_place : (o : Option ℕ) (b : Bool) → is_some o ≡ b → MatchOption o (b ≡ false) (λ place. (b ≡ true) × (o ≡ Some place))
by_place None b e = sym e
by_place (Some p) b e = (sym e, refl)

-- the look-up among the nodes' ids finds an index exactly for a member
pub member_place : (p : Parts) (id : ℕ) → IsSound p → MatchOption (place_of id (map (λ n. n.id) p.nodes.items)) (is_member p.roster id ≡ false)
    (λ place. (is_member p.roster id ≡ true) × IsPlace p.nodes.items id place)
member_place p id sound = by_place (place_of id (map (λ n. n.id) p.nodes.items)) (is_member p.roster id)
    (ap (λ ids. is_some (place_of id ids)) sound.ids ∙ placed_member p.roster.members id)

-- A node that replaces another at its index

pub member_node_put : (roster : Tables) (nodes : List MemberNode) (place : ℕ) (n : MemberNode) → AllByRecursion (IsMemberNode roster) nodes →
    IsMemberNode roster n → AllByRecursion (IsMemberNode roster) (set nodes place n)
member_node_put roster [] place n all is = tt
member_node_put roster (m ∷ nodes) zero n all is = (is, all.1)
member_node_put roster (m ∷ nodes) (suc place) n all is = (all.0, member_node_put roster nodes place n all.1 is)

ids_by : (b : Bool) (m n : MemberNode) (nodes : List MemberNode) (k : Option ℕ) (place : ℕ) → (b ≡ true → m.id ≡ n.id) →
    cond b (Some 0) (option_map suc k) ≡ Some place →
    ((p : ℕ) → k ≡ Some p → map (λ n. n.id) (set nodes p n) ≡ map (λ n. n.id) nodes) → map (λ n. n.id) (set (m ∷ nodes) place n) ≡ map (λ n. n.id) (m ∷ nodes)
ids_by true m n nodes k place same is later = ap (λ p. map (λ n. n.id) (set (m ∷ nodes) p n)) (sym (same_Some 0 place is))
    ∙ ap (λ i. i ∷ map (λ n. n.id) nodes) (sym (same refl))
ids_by false m n nodes None place same is later = absurd (none-some place is)
ids_by false m n nodes (Some p) place same is later = ap (λ p. map (λ n. n.id) (set (m ∷ nodes) p n)) (sym (same_Some (suc p) place is))
    ∙ ap (λ l. m.id ∷ l) (later p refl)

pub ids_put : (nodes : List MemberNode) (place : ℕ) (n : MemberNode) → IsPlace nodes n.id place → map (λ n. n.id) (set nodes place n) ≡ map (λ n. n.id) nodes
ids_put [] place n is = absurd (none-some place is)
ids_put (m ∷ nodes) place n is = ids_by (nat_eq m.id n.id) m n nodes (place_of n.id (map (λ n. n.id) nodes)) place (ids_same m.id n.id) is
    (λ p q. ids_put nodes p n q)

-- The id found by an address is a member's

some_by : (b : Bool) (m : Member) (r : Option Member) → is_some r ≡ true → is_some (cond b (Some m) r) ≡ true
some_by true m r e = refl
some_by false m r e = e

found_by : (b : Bool) (m : Member) (ms : List Member) (r : Option Member) (id : ℕ) → option_map (λ m. m.cache.id) (cond b (Some m) r) ≡ Some id →
    (option_map (λ m. m.cache.id) r ≡ Some id → is_some (find (λ m. nat_eq m.cache.id id) ms) ≡ true) →
    is_some (find (λ m. nat_eq m.cache.id id) (m ∷ ms)) ≡ true
found_by true m ms r id e later = ap (λ b. is_some (cond b (Some m) (find (λ m. nat_eq m.cache.id id) ms)))
    (subst (λ i. nat_eq m.cache.id i ≡ true) (same_Some m.cache.id id e) (same_id m.cache.id))
found_by false m ms r id e later = some_by (nat_eq m.cache.id id) m (find (λ m. nat_eq m.cache.id id) ms) (later e)

pub found_member : (test : Member → Bool) (ms : List Member) (id : ℕ) → option_map (λ m. m.cache.id) (find test ms) ≡ Some id →
    is_some (find (λ m. nat_eq m.cache.id id) ms) ≡ true
found_member test [] id e = absurd (none-some id e)
found_member test (m ∷ ms) id e = found_by (test m) m ms (find test ms) id e (found_member test ms id)

-- the id that is reached at an address is a member's
pub reached_member : (t : Tables) (address : Address) (by : Udp) (id : ℕ) → member_at t address by ≡ Some id → is_member t id ≡ true
reached_member t address by id e = found_member (λ m. same_address address (address_by by m.cache)) t.members id e
