-- Each member is found by its own address, by either protocol: in a roster no two caches have the
-- same address, so the first match is the member itself. For the same reason nobody is found by ICP
-- at an HTCP address.
use Rattle.std.proofs.Common.{◌≡◌, Bool, true, false, cond, ◌&&◌, ◌||◌, ℕ, nat_eq, List, [], ◌∷◌, ◌++◌, map, Option, Some, None, refl, sym, ◌∙◌, ap, inl, inr}
use Rattle.std.proofs.Common.{subst}
use Rattle.std.specs.Prelude.{find, option_map, is_some}
use Rattle.std.specs.List.{list_any}
use Rattle.values_plain.specs.declared.address.Address.{Address}
use Rattle.values_tables.specs.declared.plain.Cache.{Cache}
use Rattle.values_tables.specs.declared.plain.Member.{Member}
use Rattle.values_tables.specs.declared.plain.Tables.{Tables}
use Rattle.values_plain.specs.declared.address.Udp.{Udp}
use Rattle.values_plain.specs.declared.address.Udp.TheVariants as udp
use Rattle.roster.specs.Lookups.{same_address, address_by, member_of, member_at, is_member}
use Rattle.roster.specs.Judged.{clashes, caches_of, udp_of, udp_addresses, has_doubles, IsRoster}
use Rattle.node_rules.proofs.Cases.{true_not_false}
use Rattle.world_rules.proofs.MemberStates.{same_id, ids_same, and_parts}
use Rattle.run_rules.proofs.Lists.{either, same_some}

same_itself : (a : Address) → same_address a a ≡ true
same_itself a = ap (λ b. b && nat_eq a.port a.port) (same_id a.ip) ∙ same_id a.port

same_back : (a b : Address) → same_address a b ≡ true → same_address b a ≡ true
same_back a b h =
    let (ip, port) = and_parts (nat_eq a.ip b.ip) (nat_eq a.port b.port) h in
    ap (λ c. c && nat_eq b.port a.port) (subst (λ n. nat_eq n a.ip ≡ true) (ids_same a.ip b.ip ip) (same_id a.ip))
    ∙ subst (λ n. nat_eq n a.port ≡ true) (ids_same a.port b.port port) (same_id a.port)

other_back : (a b : Address) → same_address a b ≡ false → same_address b a ≡ false
other_back a b h = elim (either (same_address b a)) [
  | inl same ↦ absurd (true_not_false (sym (same_back b a same) ∙ h))
  | inr other ↦ other
]

or_false : (a b : Bool) → (a || b) ≡ false → (a ≡ false) × (b ≡ false)
or_false true b h = absurd (true_not_false h)
or_false false b h = (refl, h)

by_either : (a : Address) (c : Cache) (by : Udp) → same_address a c.icp ≡ false → same_address a c.htcp ≡ false → same_address a (address_by by c) ≡ false
by_either a c udp.Icp icp htcp = icp
by_either a c udp.Htcp icp htcp = htcp

-- an address that no cache of a list has is no member's in that list
apart_from : (a : Address) (ms : List Member) (fs : List Cache) (id : ℕ) (m : Member) (by : Udp) →
    list_any (same_address a) (udp_of (map (λ m. m.cache) ms ++ fs)) ≡ false →
    find (λ m. nat_eq m.cache.id id) ms ≡ Some m → same_address a (address_by by m.cache) ≡ false
apart_from a [] fs id m by h e = cc
apart_from a (n ∷ ms) fs id m by h e =
    let (icp, more) = or_false (same_address a n.cache.icp) _ h in
    let (htcp, rest) = or_false (same_address a n.cache.htcp) _ more in
    elim (either (nat_eq n.cache.id id)) [
      | inl here ↦
          let is : n ≡ m = same_some n m (sym (ap (λ b. cond b (Some n) (find (λ m. nat_eq m.cache.id id) ms)) here) ∙ e) in
          subst (λ (v : Member). same_address a (address_by by v.cache) ≡ false) is (by_either a n.cache by icp htcp)
      | inr other ↦ apart_from a ms fs id m by rest (sym (ap (λ b. cond b (Some n) (find (λ m. nat_eq m.cache.id id) ms)) other) ∙ e)
    ]

abbrev at_address : Address → Udp → Member → Bool
at_address a by m = same_address a (address_by by m.cache)

apart_here : (ms : List Member) (fs : List Cache) (id : ℕ) (m n : Member) (by : Udp) → list_any (same_address n.cache.icp)
    (udp_of (map (λ m. m.cache) ms ++ fs)) ≡ false →
    list_any (same_address n.cache.htcp) (udp_of (map (λ m. m.cache) ms ++ fs)) ≡ false → find (λ m. nat_eq m.cache.id id) ms ≡ Some m →
    same_address (address_by by m.cache) (address_by by n.cache) ≡ false
apart_here ms fs id m n udp.Icp icp htcp e = other_back n.cache.icp m.cache.icp (apart_from n.cache.icp ms fs id m udp.Icp icp e)
apart_here ms fs id m n udp.Htcp icp htcp e = other_back n.cache.htcp m.cache.htcp (apart_from n.cache.htcp ms fs id m udp.Htcp htcp e)

found_by : (ms : List Member) (fs : List Cache) (id : ℕ) (m : Member) (by : Udp) → has_doubles same_address (udp_of (map (λ m. m.cache) ms ++ fs)) ≡ false →
    find (λ m. nat_eq m.cache.id id) ms ≡ Some m → option_map (λ (m : Member). m.cache.id) (find (at_address (address_by by m.cache) by) ms) ≡ Some id
found_by [] fs id m by h e = cc
found_by (n ∷ ms) fs id m by h e =
    let (first, more) = or_false (list_any (same_address n.cache.icp) (n.cache.htcp ∷ udp_of (map (λ m. m.cache) ms ++ fs))) _ h in
    let (alone, rest) = or_false (list_any (same_address n.cache.htcp) (udp_of (map (λ m. m.cache) ms ++ fs))) _ more in
    let (own, single) = or_false (same_address n.cache.icp n.cache.htcp) _ first in
    elim (either (nat_eq n.cache.id id)) [
      | inl here ↦
          let is : n ≡ m = same_some n m (sym (ap (λ b. cond b (Some n) (find (λ m. nat_eq m.cache.id id) ms)) here) ∙ e) in
          subst (λ (v : Member). option_map (λ (m : Member). m.cache.id) (find (at_address (address_by by v.cache) by) (n ∷ ms)) ≡ Some id) is
          (ap (λ b. option_map (λ (m : Member). m.cache.id) (cond b (Some n) (find (at_address (address_by by n.cache) by) ms)))
          (same_itself (address_by by n.cache)) ∙ ap Some (ids_same n.cache.id id here))
      | inr other ↦
          let below : find (λ m. nat_eq m.cache.id id) ms ≡ Some m = sym (ap (λ b. cond b (Some n) (find (λ m. nat_eq m.cache.id id) ms)) other) ∙ e in
          ap (λ b. option_map (λ (m : Member). m.cache.id) (cond b (Some n) (find (at_address (address_by by m.cache) by) ms)))
          (apart_here ms fs id m n by single alone below)
          ∙ found_by ms fs id m by rest below
    ]

there : {A : Type 0} (o : Option A) → is_some o ≡ true → (x : A) × (o ≡ Some x)
there None h = absurd (true_not_false (sym h))
there (Some x) h = (x, refl)

-- nobody is found by an ICP address that is a member's HTCP address

nobody : (a : Address) (ms : List Member) (fs : List Cache) → list_any (same_address a) (udp_of (map (λ m. m.cache) ms ++ fs)) ≡ false →
    option_map (λ (m : Member). m.cache.id) (find (at_address a udp.Icp) ms) ≡ None
nobody a [] fs h = refl
nobody a (n ∷ ms) fs h =
    let (icp, more) = or_false (same_address a n.cache.icp) _ h in
    let (htcp, rest) = or_false (same_address a n.cache.htcp) _ more in
    ap (λ b. option_map (λ (m : Member). m.cache.id) (cond b (Some n) (find (at_address a udp.Icp) ms))) icp ∙ nobody a ms fs rest

alone_by : (ms : List Member) (fs : List Cache) (id : ℕ) (m : Member) → has_doubles same_address (udp_of (map (λ m. m.cache) ms ++ fs)) ≡ false →
    find (λ m. nat_eq m.cache.id id) ms ≡ Some m → option_map (λ (m : Member). m.cache.id) (find (at_address m.cache.htcp udp.Icp) ms) ≡ None
alone_by [] fs id m h e = refl
alone_by (n ∷ ms) fs id m h e =
    let (first, more) = or_false (list_any (same_address n.cache.icp) (n.cache.htcp ∷ udp_of (map (λ m. m.cache) ms ++ fs))) _ h in
    let (alone, rest) = or_false (list_any (same_address n.cache.htcp) (udp_of (map (λ m. m.cache) ms ++ fs))) _ more in
    let (own, single) = or_false (same_address n.cache.icp n.cache.htcp) _ first in
    elim (either (nat_eq n.cache.id id)) [
      | inl here ↦
          let is : n ≡ m = same_some n m (sym (ap (λ b. cond b (Some n) (find (λ m. nat_eq m.cache.id id) ms)) here) ∙ e) in
          subst (λ (v : Member). option_map (λ (m : Member). m.cache.id) (find (at_address v.cache.htcp udp.Icp) (n ∷ ms)) ≡ None) is
          (ap (λ b. option_map (λ (m : Member). m.cache.id) (cond b (Some n) (find (at_address n.cache.htcp udp.Icp) ms)))
          (other_back n.cache.icp n.cache.htcp own) ∙ nobody n.cache.htcp ms fs alone)
      | inr other ↦
          let below : find (λ m. nat_eq m.cache.id id) ms ≡ Some m = sym (ap (λ b. cond b (Some n) (find (λ m. nat_eq m.cache.id id) ms)) other) ∙ e in
          ap (λ b. option_map (λ (m : Member). m.cache.id) (cond b (Some n) (find (at_address m.cache.htcp udp.Icp) ms)))
          (other_back n.cache.icp m.cache.htcp (apart_from n.cache.icp ms fs id m udp.Htcp single below))
          ∙ alone_by ms fs id m rest below
    ]

-- the member is found at the address by this protocol; if by HTCP, nobody is found there by ICP
pub record IsAddressOf (t : Tables) (id : ℕ) (by : Udp) (a : Address) : Type 0 where
  pub found : member_at t a by ≡ Some id
  pub alone : by ≡ udp.Htcp → member_at t a udp.Icp ≡ None

alone_at : (t : Tables) (id : ℕ) (m : Member) (by : Udp) → has_doubles same_address (udp_of (map (λ m. m.cache) t.members ++ t.foreign)) ≡ false →
    member_of t id ≡ Some m → by ≡ udp.Htcp → member_at t (address_by by m.cache) udp.Icp ≡ None
alone_at t id m udp.Icp rest is by = absurd cc
alone_at t id m udp.Htcp rest is by = alone_by t.members t.foreign id m rest is

-- a member has an address at which it is found, by each protocol
pub reached : (t : Tables) (id : ℕ) (by : Udp) → IsRoster t → is_member t id ≡ true → (a : Address) × IsAddressOf t id by a
reached t id by proper member =
    let (m, is) = there (member_of t id) member in
    let (caches, more) = or_false (has_doubles clashes (caches_of t)) _ proper.fit.apart in
    let (addresses, origins) = or_false (has_doubles same_address (udp_addresses t)) _ more in
    let (master, rest) = or_false (list_any (same_address t.master) (udp_of (caches_of t))) _ addresses in
    (address_by by m.cache, record { found = found_by t.members t.foreign id m by rest is; alone = alone_at t id m by rest is })
