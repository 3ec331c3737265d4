-- Why `parent_loop` finds a cycle exactly if there is one. A member on a cycle is never removed.
-- Once none can be removed, each member left has a parent left, so going up from one of them has to
-- come round.
use Rattle.std.proofs.Common.{◌≡◌, ℕ, suc, ◌≤◌, ◌<◌, ◌≢◌, Bool, true, false, ◌&&◌, ◌||◌, ◌==◌, ◌⊎◌, inl, inr, List, [], ◌∷◌, length, map, filter, find, Option}
use Rattle.std.proofs.Common.{MatchOption, slice_get, refl, sym, ◌∙◌, subst, arith, eqb-true, eq-eqb}
use Rattle.std.proofs.lemmas.Bool.{cases_Bool, false≢true, and_parts}
use Rattle.std.specs.List.{list_any}
use Rattle.values_tables.specs.declared.plain.Peer.{Peer}
use Rattle.values_tables.specs.declared.plain.Member.{Member}
use Rattle.values_tables.specs.declared.plain.Tables.{Tables}
use Rattle.values_tables.specs.Roles.{is_parent}
use Rattle.roster.specs.Lookups.{names_parent, peers_of, peers_in}
use Rattle.roster.specs.Judged.{Ascends, parent, further, HasParentLoop}
use Rattle.roster.specs.Among.{is_among, climbs}

-- one way up after another
onward : {t : Tables} {a b c : ℕ} → Ascends t a b → Ascends t b c → Ascends t a c
onward (parent h) way = further h way
onward (further h rest) way = further h (onward rest way)

-- a way up begins with a parent
first_up : {t : Tables} {a c : ℕ} → Ascends t a c → (b : ℕ) × (names_parent t a b ≡ true) × ((b ≡ c) ⊎ Ascends t b c)
first_up {c = c} (parent h) = (c, h, inl refl)
first_up (further {b = b} h rest) = (b, h, inr rest)

-- what the first of a circle leads to lies on it
round_again : {t : Tables} {a b : ℕ} → names_parent t a b ≡ true → (b ≡ a) ⊎ Ascends t b a → Ascends t b b
round_again {t} {a} {b} h (inl same) = subst (λ v. Ascends t v b) (sym same) (parent h)
round_again h (inr rest) = onward rest (parent h)

or_right : (a b : Bool) → b ≡ true → (a || b) ≡ true
or_right true b h = refl
or_right false b h = h

here : (s : ℕ) (ids : List ℕ) → is_among (s ∷ ids) s ≡ true
here s ids = rw (eq-eqb s s refl)

behind : (s x : ℕ) (ids : List ℕ) → is_among ids x ≡ true → is_among (s ∷ ids) x ≡ true
behind s x ids h = or_right (s == x) (is_among ids x) h

here_or_behind : (s x : ℕ) (ids : List ℕ) → is_among (s ∷ ids) x ≡ true → (s ≡ x) ⊎ (is_among ids x ≡ true)
here_or_behind s x ids h = elim (cases_Bool (s == x)) [
  | inl same ↦ inl (eqb-true s x same)
  | inr other ↦ inr (rw other at h)
]

-- a way from an id up to one that is left
abbrev Higher : Tables → List ℕ → ℕ → Type 0
Higher t ids x = (y : ℕ) × (is_among ids y ≡ true) × Ascends t x y

skip : (t : Tables) (s : ℕ) (ids : List ℕ) (y : ℕ) → is_among ids y ≡ true → Ascends t s y → (z w : ℕ) → Ascends t z w → (s ≡ w) ⊎ (is_among ids w ≡ true) →
    Higher t ids z
skip t s ids y near up z w way (inl same) = (y, near, onward way (subst (λ v. Ascends t v y) same up))
skip t s ids y near up z w way (inr left) = (w, left, way)

-- where a way leads from each id that is left up to another, one of them leads back to where it began
circle : (t : Tables) (ids : List ℕ) → ((x : ℕ) → is_among ids x ≡ true → Higher t ids x) → (x : ℕ) → is_among ids x ≡ true → HasParentLoop t
circle t [] next x h = absurd (false≢true h)
circle t (s ∷ ids) next x h =
    let (y, near, up) = next s (here s ids) in
    elim (here_or_behind s y ids near) [
      | inl same ↦ (s, subst (λ v. Ascends t s v) (sym same) up)
      | inr left ↦ circle t ids (λ z z_left.
          let (w, w_near, way) = next z (behind s z ids z_left) in
          skip t s ids y left up z w way (here_or_behind s w ids w_near)) y left
    ]

filter_le : (p : ℕ → Bool) (xs : List ℕ) → length (filter p xs) ≤ length xs
filter_le p [] = omega arith
filter_le p (x ∷ xs) = elim (cases_Bool (p x)) [
  | inl holds ↦ rw holds (omega (arith, filter_le p xs))
  | inr fails ↦ rw fails (omega (arith, filter_le p xs))
]

-- where as many are kept, all are
kept_all : (p : ℕ → Bool) (xs : List ℕ) → length (filter p xs) ≡ length xs → (x : ℕ) → is_among xs x ≡ true → p x ≡ true
kept_all p [] e x h = absurd (false≢true h)
kept_all p (y ∷ ys) e x h = elim (cases_Bool (p y)) [
  | inl holds ↦ elim (here_or_behind y x ys h) [
    | inl same ↦ subst (λ v. p v ≡ true) same holds
    | inr more ↦ let f : suc (length (filter p ys)) ≡ suc (length ys) = rw holds at e in kept_all p ys (omega arith) x more
  ]
  | inr fails ↦ let f : length (filter p ys) ≡ suc (length ys) = rw fails at e in absurd (omega (arith, filter_le p ys))
]

kept_in : (p : ℕ → Bool) (xs : List ℕ) (x : ℕ) → is_among xs x ≡ true → p x ≡ true → is_among (filter p xs) x ≡ true
kept_in p [] x h holds = h
kept_in p (y ∷ ys) x h holds = elim (here_or_behind y x ys h) [
  | inl same ↦ rw (subst (λ v. p v ≡ true) (sym same) holds) (subst (λ v. is_among (v ∷ filter p ys) x ≡ true) (sym same) (here x _))
  | inr more ↦ elim (cases_Bool (p y)) [
    | inl kept ↦ rw kept (behind y x _ (kept_in p ys x more holds))
    | inr gone ↦ rw gone (kept_in p ys x more holds)
  ]
]

a_parent : (ps : List Peer) (ids : List ℕ) → list_any (λ (p : Peer). is_parent p.role && is_among ids p.id) ps ≡ true
    → (y : ℕ) × (is_among ids y ≡ true) × (list_any (λ (p : Peer). (p.id == y) && is_parent p.role) ps ≡ true)
a_parent [] ids h = absurd (false≢true h)
a_parent (q ∷ qs) ids h = elim (cases_Bool (is_parent q.role && is_among ids q.id)) [
  | inl holds ↦
      let (up, near) = and_parts (is_parent q.role) (is_among ids q.id) holds in
      (q.id, near, rw (eq-eqb q.id q.id refl, up))
  | inr fails ↦
      let (y, near, more) = a_parent qs ids (rw fails at h) in
      (y, near, or_right ((q.id == y) && is_parent q.role) _ more)
]

climbs_to : (t : Tables) (ids : List ℕ) (x : ℕ) → climbs t ids x ≡ true → Higher t ids x
climbs_to t ids x h =
    let (y, near, up) = a_parent (peers_of t x) ids h in
    (y, near, parent up)

has_one : (ps : List Peer) (ids : List ℕ) (y : ℕ) → is_among ids y ≡ true → list_any (λ (p : Peer). (p.id == y) && is_parent p.role) ps ≡ true
    → list_any (λ (p : Peer). is_parent p.role && is_among ids p.id) ps ≡ true
has_one [] ids y near h = h
has_one (q ∷ qs) ids y near h = elim (cases_Bool ((q.id == y) && is_parent q.role)) [
  | inl holds ↦
      let (same, up) = and_parts (q.id == y) (is_parent q.role) holds in
      rw (up, eqb-true q.id y same, near)
  | inr fails ↦ or_right (is_parent q.role && is_among ids q.id) _ (has_one qs ids y near (rw fails at h))
]

names_in : (f : Peer → Bool) (ms : List Member) (x : ℕ) → list_any f (peers_in (find (λ m. m.cache.id == x) ms)) ≡ true →
    is_among (map (λ m. m.cache.id) ms) x ≡ true
names_in f [] x h = absurd (false≢true h)
names_in f (m ∷ ms) x h = elim (cases_Bool (m.cache.id == x)) [
  | inl same ↦ rw same
  | inr other ↦ rw other (names_in f ms x (rw other at h))
]

-- every id that lies on a cycle is left
abbrev pub LoopsAreLeft : Tables → List ℕ → Type 0
LoopsAreLeft t ids = (id : ℕ) → Ascends t id id → is_among ids id ≡ true

pub loops_in_all : (t : Tables) → LoopsAreLeft t (map (λ m. m.cache.id) t.members)
loops_in_all t id way =
    let (b, up, rest) = first_up way in
    names_in (λ (p : Peer). (p.id == b) && is_parent p.role) t.members id up

pub loops_in_kept : (t : Tables) (ids : List ℕ) → LoopsAreLeft t ids → LoopsAreLeft t (filter (climbs t ids) ids)
loops_in_kept t ids left id way =
    let (b, up, rest) = first_up way in
    kept_in (climbs t ids) ids id (left id way) (has_one (peers_of t id) ids b (left b (round_again up rest)) up)

pub no_loop : (t : Tables) → LoopsAreLeft t [] → ¬ (HasParentLoop t)
no_loop t left (id, way) = false≢true (left id way)

pub a_loop : (t : Tables) (ids : List ℕ) (x : ℕ) (rest : List ℕ) → ids ≡ x ∷ rest → length (filter (climbs t ids) ids) ≡ length ids → HasParentLoop t
a_loop t ids x rest e all =
    circle t ids (λ z near. climbs_to t ids z (kept_all (climbs t ids) ids all z near)) x (rw e (here x rest))

-- where all that are left have a parent among them: a cycle if there are any, and else none
pub at_end : (t : Tables) (ids : List ℕ) (first : Option ℕ) → first ≡ slice_get ids 0 → LoopsAreLeft t ids → length (filter (climbs t ids) ids) ≡ length ids
    → MatchOption first (¬ (HasParentLoop t)) (λ _. HasParentLoop t)
at_end t [] first e left all = rw e (no_loop t left)
at_end t (x ∷ rest) first e left all = rw e (a_loop t (x ∷ rest) x rest refl all)

-- fewer are left, where not all are
pub fewer : (p : ℕ → Bool) (xs kept : List ℕ) → kept ≡ filter p xs → (length kept == length xs) ≡ false → length kept < length xs
fewer p xs kept e short =
    let most : length kept ≤ length xs = rw e (filter_le p xs) in
    let other : length kept ≢ length xs = λ same. false≢true (sym short ∙ eq-eqb _ _ same) in
    omega arith

pub as_many : (p : ℕ → Bool) (xs kept : List ℕ) → kept ≡ filter p xs → (length kept == length xs) ≡ true → length (filter p xs) ≡ length xs
as_many p xs kept e same = rw (← e) (eqb-true _ _ same)
