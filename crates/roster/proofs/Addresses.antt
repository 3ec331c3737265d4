-- Where no two addresses are the same, a member is found by its own and none has the master's: the
-- first entry that has the address is the only one.
use Rattle.std.proofs.Common.{◌≡◌, ℕ, ◌+◌, ◌<◌, Bool, true, false, ◌||◌, ◌==◌, inl, inr, List, [], ◌∷◌, ◌++◌, length, take, get_or, map, find, Some, option_map}
use Rattle.std.proofs.Common.{Bor, refl, sym, ap, ◌∙◌, subst, eqb-true, eq-eqb}
use Rattle.std.proofs.lemmas.Bool.{cases_Bool, false≢true, and_parts}
use Rattle.std.proofs.lemmas.List.{take_more}
use Rattle.std.proofs.lemmas.Option.{same_Some}
use Rattle.std.specs.List.{list_any}
use Rattle.values_plain.specs.declared.address.Address.{Address}
use Rattle.values_plain.specs.declared.address.Udp.{Udp}
use Rattle.values_plain.specs.declared.address.Udp.TheVariants as udp
use Rattle.values_tables.specs.declared.plain.Cache.{Cache}
use Rattle.values_tables.specs.declared.plain.Member.{Member}
use Rattle.values_tables.specs.declared.plain.Tables.{Tables}
use Rattle.values_tables.specs.Ranges.{are_tables}
use Rattle.roster.specs.Lookups.{same_address, address_by, HasOwnAddresses}
use Rattle.roster.specs.Judged.{clashes, caches_of, udp_of, udp_addresses, has_doubles, has_double_address, FitTogether, IsRoster}

abbrev now_of : Bor Cache → Cache
now_of c = c.now

any_seen : (f : Cache → Bool) (xs : List (Bor Cache)) → list_any (λ b. f b.now) xs ≡ list_any f (map now_of xs)
any_seen f [] = refl
any_seen f (x ∷ xs) = ap (λ v. f x.now || v) (any_seen f xs)

-- doubles among references, and among what they refer to
pub doubles_seen : (same : Cache → Cache → Bool) (xs : List (Bor Cache)) → has_doubles (λ a b. same a.now b.now) xs ≡ has_doubles same (map now_of xs)
doubles_seen same [] = refl
doubles_seen same (x ∷ xs) = rw (any_seen (same x.now) xs, doubles_seen same xs)

udp_of-last : (cs : List Cache) (c : Cache) → udp_of (cs ++ c ∷ []) ≡ (udp_of cs ++ c.icp ∷ []) ++ c.htcp ∷ []
udp_of-last [] c = refl
udp_of-last (d ∷ cs) c = rw (udp_of-last cs c)

map-last : (cs : List (Bor Cache)) (c : Bor Cache) → map now_of (cs ++ c ∷ []) ≡ map now_of cs ++ c.now ∷ []
map-last [] c = refl
map-last (d ∷ cs) c = rw (map-last cs c)

-- the addresses of one more cache
pub udp_more : (cs : List (Bor Cache)) (i : ℕ) (c : Bor Cache) (master : Address) (all : List Address) → i < length cs → c ≡ get_or cs i c
    → all ≡ master ∷ udp_of (map now_of (take i cs)) → (all ++ c.now.icp ∷ []) ++ c.now.htcp ∷ [] ≡ master ∷ udp_of (map now_of (take (i + 1) cs))
udp_more cs i c master all h is before =
    rw (take_more cs i c h, ← is, map-last (take i cs) c, udp_of-last (map now_of (take i cs)) c.now, before)

same_itself : (a : Address) → same_address a a ≡ true
same_itself a = rw (eq-eqb a.ip a.ip refl, eq-eqb a.port a.port refl)

same_back : (a b : Address) → same_address a b ≡ false → same_address b a ≡ false
same_back a b h = elim (cases_Bool (same_address b a)) [
  | inl same ↦
      let (ip, port) = and_parts (b.ip == a.ip) (b.port == a.port) same in
      let yes : same_address a b ≡ true = rw (eqb-true b.ip a.ip ip, eqb-true b.port a.port port, eq-eqb a.ip a.ip refl, eq-eqb a.port a.port refl) in
      absurd (false≢true (sym h ∙ yes))
  | inr other ↦ other
]

or_false : (a b : Bool) → (a || b) ≡ false → (a ≡ false) × (b ≡ false)
or_false true b h = absurd (false≢true (sym h))
or_false false b h = (refl, h)

by_either : (a : Address) (c : Cache) (by : Udp) → same_address a c.icp ≡ false → same_address a c.htcp ≡ false → same_address a (address_by by c) ≡ false
by_either a c udp.Icp icp htcp = icp
by_either a c udp.Htcp icp htcp = htcp

-- an address that is none of those of some caches is no member's among them
apart_from : (a : Address) (ms : List Member) (fs : List Cache) (id : ℕ) (m : Member) (by : Udp) →
    list_any (same_address a) (udp_of (map (λ m. m.cache) ms ++ fs)) ≡ false
    → find (λ m. m.cache.id == id) ms ≡ Some m → same_address a (address_by by m.cache) ≡ false
apart_from a [] fs id m by h e = cc
apart_from a (n ∷ ms) fs id m by h e =
    let (icp, more) = or_false (same_address a n.cache.icp) _ h in
    let (htcp, rest) = or_false (same_address a n.cache.htcp) _ more in
    elim (cases_Bool (n.cache.id == id)) [
      | inl here ↦
          let is : n ≡ m = same_Some n m (rw here at e) in
          subst (λ v. same_address a (address_by by v.cache) ≡ false) is (by_either a n.cache by icp htcp)
      | inr other ↦ apart_from a ms fs id m by rest (rw other at e)
    ]

-- where no two addresses are the same, a member is found by its own
found_by : (ms : List Member) (fs : List Cache) (id : ℕ) (m : Member) → has_doubles same_address (udp_of (map (λ m. m.cache) ms ++ fs)) ≡ false
    → find (λ m. m.cache.id == id) ms ≡ Some m → option_map (λ m. m.cache.id) (find (λ n. same_address m.cache.htcp (address_by udp.Htcp n.cache)) ms) ≡ Some id
found_by [] fs id m h e = cc
found_by (n ∷ ms) fs id m h e =
    let (first, more) = or_false (list_any (same_address n.cache.icp) (n.cache.htcp ∷ udp_of (map (λ m. m.cache) ms ++ fs))) _ h in
    let (alone, rest) = or_false (list_any (same_address n.cache.htcp) (udp_of (map (λ m. m.cache) ms ++ fs))) _ more in
    elim (cases_Bool (n.cache.id == id)) [
      | inl here ↦
          let is : n ≡ m = same_Some n m (rw here at e) in
          subst (λ v. option_map (λ m. m.cache.id) (find (λ w. same_address v.cache.htcp (address_by udp.Htcp w.cache)) (n ∷ ms)) ≡ Some id) is
          (rw (same_itself n.cache.htcp) (ap Some (eqb-true n.cache.id id here)))
      | inr other ↦
          let below : find (λ m. m.cache.id == id) ms ≡ Some m = rw other at e in
          let apart : same_address m.cache.htcp n.cache.htcp ≡ false = same_back n.cache.htcp m.cache.htcp
          (apart_from n.cache.htcp ms fs id m udp.Htcp alone below) in
          rw apart (found_by ms fs id m rest below)
    ]

own_addresses : (t : Tables) → has_double_address t ≡ false → HasOwnAddresses t
own_addresses t h =
    let (caches, more) = or_false (has_doubles clashes (caches_of t)) _ h in
    let (addresses, origins) = or_false (has_doubles same_address (udp_addresses t)) _ more in
    let (master, rest) = or_false (list_any (same_address t.master) (udp_of (caches_of t))) _ addresses in
    record {
      found = λ id m e. found_by t.members t.foreign id m rest e;
      apart = λ id m by e. same_back t.master (address_by by m.cache) (apart_from t.master t.members t.foreign id m by master e);
    }

-- tables in their ranges that have none of the faults
pub is_roster : (t : Tables) → are_tables t ≡ true → FitTogether t → IsRoster t
is_roster t ranges fit = record { ranges = ranges; fit = fit; own = own_addresses t fit.apart }
