-- Purges or admissions sorted by number (`by_number`): sorting commutes with adding one above all
-- others, with a change that keeps numbers, and with a filter; and it keeps the same ones.
use Rattle.std.proofs.Common.{◌≡◌, ◌⊎◌, inl, inr, ℕ, ◌<◌, ◌≤◌, ◌==◌, nat_lt, Bool, true, false, cond, List, [], ◌∷◌, ◌++◌, map, filter, refl, sym}
use Rattle.std.proofs.Common.{ap, ◌∙◌, arith}
use Rattle.std.specs.List.{AllByRecursion}
use Rattle.std.proofs.lemmas.Bool.{cases_Bool, cases_order, lt-ltb, le-ltb, ltb-true, ltb-false, eqb-false}
use Rattle.sqlite_trees.specs.Tree.{IsAscending}
use Rattle.sqlite_rules.specs.Lists.{Has}
use Rattle.sqlite_rules.proofs.ListLemmas.{all_has, all_from}
use Rattle.purge_records.specs.Tables.{in_place, by_number}

module _ {X : Type 0} (number : X → ℕ) where
  -- above all others one comes last
  pub in_place_push : (x : X) (ys : List X) (p : X) → number x < number p → in_place number x (ys ++ p ∷ []) ≡ in_place number x ys ++ p ∷ []
  in_place_push x [] p low = ap (λ b. cond b (x ∷ p ∷ []) (p ∷ x ∷ [])) (lt-ltb (number x) (number p) low)
  in_place_push x (y ∷ ys) p low = elim (cases_Bool (nat_lt (number x) (number y))) [
    | inl below ↦ rw below refl
    | inr above ↦ rw above (ap (λ zs. y ∷ zs) (in_place_push x ys p low))
  ]

  pub in_place_end : (p : X) (ys : List X) → AllByRecursion (λ q. number q < number p) ys → in_place number p ys ≡ ys ++ p ∷ []
  in_place_end p [] low = refl
  in_place_end p (y ∷ ys) low = ap (λ b. cond b (p ∷ y ∷ ys) (y ∷ in_place number p ys)) (le-ltb (number p) (number y) (omega (arith, low.0)))
      ∙ ap (λ zs. y ∷ zs) (in_place_end p ys low.1)

  pub by_number_push : (xs : List X) (p : X) → AllByRecursion (λ q. number q < number p) xs → by_number number (xs ++ p ∷ []) ≡ by_number number xs ++ p ∷ []
  by_number_push [] p low = refl
  by_number_push (x ∷ xs) p low = ap (in_place number x) (by_number_push xs p low.1) ∙ in_place_push x (by_number number xs) p low.0

  -- what keeps the numbers keeps the order
  module _ (g : X → X) (keeps : (p : X) → number (g p) ≡ number p) where
    in_place_map : (p : X) (qs : List X) → in_place number (g p) (map g qs) ≡ map g (in_place number p qs)
    in_place_map p [] = refl
    in_place_map p (q ∷ qs) =
        let same : nat_lt (number (g p)) (number (g q)) ≡ nat_lt (number p) (number q) = ap (λ n. nat_lt n (number (g q))) (keeps p)
        ∙ ap (λ n. nat_lt (number p) n) (keeps q) in
        ap (λ b. cond b (g p ∷ g q ∷ map g qs) (g q ∷ in_place number (g p) (map g qs))) same
        ∙ ap (λ zs. cond (nat_lt (number p) (number q)) (g p ∷ g q ∷ map g qs) (g q ∷ zs)) (in_place_map p qs) ∙ mapped (nat_lt (number p) (number q))
      where
        mapped : (b : Bool) → cond b (g p ∷ g q ∷ map g qs) (g q ∷ map g (in_place number p qs)) ≡ map g (cond b (p ∷ q ∷ qs) (q ∷ in_place number p qs))
        mapped true = refl
        mapped false = refl

    pub by_number_map : (xs : List X) → by_number number (map g xs) ≡ map g (by_number number xs)
    by_number_map [] = refl
    by_number_map (x ∷ xs) = ap (in_place number (g x)) (by_number_map xs) ∙ in_place_map x (by_number number xs)

  abbrev pub Rises : List X → Type 0
  Rises = IsAscending (λ a b. number a ≤ number b)

  all_in_place : (P : X → Type 0) (p : X) (qs : List X) → P p → AllByRecursion P qs → AllByRecursion P (in_place number p qs)
  all_in_place P p [] one all = (one, tt)
  all_in_place P p (q ∷ qs) one all = elim (cases_Bool (nat_lt (number p) (number q))) [
    | inl below ↦ rw below (one, all)
    | inr above ↦ rw above (all.0, all_in_place P p qs one all.1)
  ]

  at_least : (p q : X) (qs : List X) → number p ≤ number q → AllByRecursion (λ x. number q ≤ number x) qs → AllByRecursion (λ x. number p ≤ number x) qs
  at_least p q [] low all = tt
  at_least p q (x ∷ qs) low all = (omega (arith, low, all.0), at_least p q qs low all.1)

  pub rises_in_place : (p : X) (qs : List X) → Rises qs → Rises (in_place number p qs)
  rises_in_place p [] up = (tt, tt)
  rises_in_place p (q ∷ qs) up = elim (cases_Bool (nat_lt (number p) (number q))) [
    | inl below ↦ let low : number p < number q = ltb-true (number p) (number q) below in
        rw below ((omega (arith, low), at_least p q qs (omega (arith, low)) up.0), up)
    | inr above ↦ let low : number q ≤ number p = ltb-false (number p) (number q) above in
        rw above (all_in_place (λ x. number q ≤ number x) p qs low up.0, rises_in_place p qs up.1)
  ]

  pub by_number_rises : (xs : List X) → Rises (by_number number xs)
  by_number_rises [] = tt
  by_number_rises (x ∷ xs) = rises_in_place x (by_number number xs) (by_number_rises xs)

  -- what is kept stands in the same order
  module _ (keep : X → Bool) where
    all_kept : (P : X → Type 0) (qs : List X) → AllByRecursion P qs → AllByRecursion P (filter keep qs)
    all_kept P [] all = tt
    all_kept P (q ∷ qs) all = elim (cases_Bool (keep q)) [
      | inl keeps ↦ rw keeps (all.0, all_kept P qs all.1)
      | inr drops ↦ rw drops (all_kept P qs all.1)
    ]

    in_place_first : (p : X) (qs : List X) → AllByRecursion (λ q. number p < number q) qs → in_place number p qs ≡ p ∷ qs
    in_place_first p [] low = refl
    in_place_first p (q ∷ qs) low = ap (λ b. cond b (p ∷ q ∷ qs) (q ∷ in_place number p qs)) (lt-ltb (number p) (number q) low.0)

    above_all : (p q : X) (qs : List X) → number p < number q → AllByRecursion (λ x. number q ≤ number x) qs →
        AllByRecursion (λ x. number p < number x) qs
    above_all p q [] low all = tt
    above_all p q (x ∷ qs) low all = (omega (arith, low, all.0), above_all p q qs low all.1)

    kept_in_place : (p : X) (qs : List X) → keep p ≡ true → Rises qs → filter keep (in_place number p qs) ≡ in_place number p (filter keep qs)
    kept_in_place p [] keeps up = rw keeps refl
    kept_in_place p (q ∷ qs) keeps up = elim (cases_Bool (nat_lt (number p) (number q))) [
      | inl below ↦
          let low : number p < number q = ltb-true (number p) (number q) below in
          rw (below, keeps) (sym (in_place_first p (filter keep (q ∷ qs)) (all_kept (λ x. number p < number x) (q ∷ qs) (low, above_all p q qs low up.0))))
      | inr above ↦ elim (cases_Bool (keep q)) [
        | inl stays ↦ rw (above, stays, above) (ap (λ zs. q ∷ zs) (kept_in_place p qs keeps up.1))
        | inr goes ↦ rw (above, goes) (kept_in_place p qs keeps up.1)
      ]
    ]

    gone_in_place : (p : X) (qs : List X) → keep p ≡ false → filter keep (in_place number p qs) ≡ filter keep qs
    gone_in_place p [] drops = rw drops refl
    gone_in_place p (q ∷ qs) drops = elim (cases_Bool (nat_lt (number p) (number q))) [
      | inl below ↦ rw (below, drops) refl
      | inr above ↦ rw above (ap (λ zs. cond (keep q) (q ∷ zs) zs) (gone_in_place p qs drops))
    ]

    pub by_number_kept : (xs : List X) → by_number number (filter keep xs) ≡ filter keep (by_number number xs)
    by_number_kept [] = refl
    by_number_kept (x ∷ xs) = elim (cases_Bool (keep x)) [
      | inl keeps ↦ rw keeps (ap (in_place number x) (by_number_kept xs) ∙ sym (kept_in_place x (by_number number xs) keeps (by_number_rises xs)))
      | inr drops ↦ rw drops (by_number_kept xs ∙ sym (gone_in_place x (by_number number xs) drops))
    ]

  -- the same ones stand there
  has_in_place : (p : X) (qs : List X) (x : X) → Has (in_place number p qs) x → (x ≡ p) ⊎ Has qs x
  has_in_place p [] x h = h
  has_in_place p (q ∷ qs) x h = elim (cases_Bool (nat_lt (number p) (number q))) [
    | inl below ↦ rw below at h
    | inr above ↦ elim (rw above at h) [
      | inl is ↦ inr (inl is)
      | inr more ↦ elim (has_in_place p qs x more) [ inl is ↦ inl is | inr has ↦ inr (inr has) ]
    ]
  ]

  in_place_has : (p : X) (qs : List X) (x : X) → (x ≡ p) ⊎ Has qs x → Has (in_place number p qs) x
  in_place_has p [] x h = h
  in_place_has p (q ∷ qs) x h = elim (cases_Bool (nat_lt (number p) (number q))) [
    | inl below ↦ rw below h
    | inr above ↦ rw above (elim h [
      | inl is ↦ inr (in_place_has p qs x (inl is))
      | inr more ↦ elim more [ inl is ↦ inl is | inr has ↦ inr (in_place_has p qs x (inr has)) ]
    ])
  ]

  pub by_number_has : (xs : List X) (x : X) → Has xs x → Has (by_number number xs) x
  by_number_has [] x h = h
  by_number_has (y ∷ xs) x (inl is) = in_place_has y (by_number number xs) x (inl is)
  by_number_has (y ∷ xs) x (inr has) = in_place_has y (by_number number xs) x (inr (by_number_has xs x has))

  pub has_by_number : (xs : List X) (x : X) → Has (by_number number xs) x → Has xs x
  has_by_number [] x h = h
  has_by_number (y ∷ xs) x h = elim (has_in_place y (by_number number xs) x h) [ inl is ↦ inl is | inr has ↦ inr (has_by_number xs x has) ]

  -- lists whose numbers climb
  abbrev pub Climbs : List X → Type 0
  Climbs = IsAscending (λ a b. number a < number b)

  -- two such lists of the same ones are one
  pub climbs_same : (xs ys : List X) → Climbs xs → Climbs ys → ((p : X) → Has xs p → Has ys p) → ((p : X) → Has ys p → Has xs p) → xs ≡ ys
  climbs_same [] [] up_x up_y there back = refl
  climbs_same [] (y ∷ ys) up_x up_y there back = absurd (back y (inl refl))
  climbs_same (x ∷ xs) [] up_x up_y there back = absurd (there x (inl refl))
  climbs_same (x ∷ xs) (y ∷ ys) up_x up_y there back =
      let same : x ≡ y = first (there x (inl refl)) (back y (inl refl)) in
      ap (λ p. p ∷ xs) same ∙ ap (λ ps. y ∷ ps) (climbs_same xs ys up_x.1 up_y.1
      (λ p has. elim (there p (inr has)) [
        | inl is ↦ absurd (let above = all_has (λ q. number x < number q) xs p up_x.0 has in let eq = ap (λ (q : X). number q) (is ∙ sym same) in
            omega (arith, above, eq))
        | inr more ↦ more
      ])
      (λ p has. elim (back p (inr has)) [
        | inl is ↦ absurd (let above = all_has (λ q. number y < number q) ys p up_y.0 has in let eq = ap (λ (q : X). number q) (is ∙ same) in
            omega (arith, above, eq))
        | inr more ↦ more
      ]))
    where
      first : (x ≡ y) ⊎ Has ys x → (y ≡ x) ⊎ Has xs y → x ≡ y
      first (inl is) other = is
      first (inr has) (inl is) = sym is
      first (inr has) (inr more) = absurd (let one = all_has (λ q. number y < number q) ys x up_y.0 has in let two =
          all_has (λ q. number x < number q) xs y up_x.0 more in omega (arith, one, two))

  abbrev pub Differ : List X → Type 0
  Differ = IsAscending (λ a b. (number a == number b) ≡ false)

  apart_in_place : (p q : X) (qs : List X) → number p < number q → AllByRecursion (λ x. number p < number x) qs →
      AllByRecursion (λ x. number p < number x) (in_place number q qs)
  apart_in_place p q qs low all = all_from (λ (x : X). number p < number x) (in_place number q qs) (λ x has. elim (has_in_place q qs x has) [
    | inl is ↦ let eq = ap (λ (z : X). number z) is in omega (arith, low, eq)
    | inr more ↦ all_has (λ (z : X). number p < number z) qs x all more
  ])

  above_first : (p q : X) (qs : List X) → number p < number q → AllByRecursion (λ x. number q < number x) qs →
      AllByRecursion (λ x. number p < number x) qs
  above_first p q [] low all = tt
  above_first p q (x ∷ qs) low all = (omega (arith, low, all.0), above_first p q qs low all.1)

  climbs_in_place : (p : X) (qs : List X) → AllByRecursion (λ q. (number p == number q) ≡ false) qs → Climbs qs → Climbs (in_place number p qs)
  climbs_in_place p [] other up = (tt, tt)
  climbs_in_place p (q ∷ qs) other up = elim (cases_Bool (nat_lt (number p) (number q))) [
    | inl below ↦ let low : number p < number q = ltb-true (number p) (number q) below in rw below ((low, above_first p q qs low up.0), up)
    | inr above ↦
        let high : number q ≤ number p = ltb-false (number p) (number q) above in
        let apart = eqb-false (number p) (number q) other.0 in
        let low : number q < number p = elim (cases_order (number p) (number q))
        [ inl same ↦ absurd (apart same) | inr o ↦ elim o [ inl less ↦ absurd (omega (arith, less, high)) | inr more ↦ more ] ] in
        rw above (apart_in_place q p qs low up.0, climbs_in_place p qs other.1 up.1)
  ]

  pub climbs_by_number : (xs : List X) → Differ xs → Climbs (by_number number xs)
  climbs_by_number [] differ = tt
  climbs_by_number (x ∷ xs) differ = climbs_in_place x (by_number number xs)
      (all_from (λ (q : X). (number x == number q) ≡ false) (by_number number xs)
      (λ q has. all_has (λ (q : X). (number x == number q) ≡ false) xs q differ.0 (has_by_number xs q has))) (climbs_by_number xs differ.1)

  -- lists of the same ones, in whatever order, are sorted to one list
  pub same_by_number : (xs ys : List X) → Differ xs → Differ ys → ((p : X) → Has xs p → Has ys p) → ((p : X) → Has ys p → Has xs p) →
      by_number number xs ≡ by_number number ys
  same_by_number xs ys apart_x apart_y there back =
      climbs_same (by_number number xs) (by_number number ys) (climbs_by_number xs apart_x) (climbs_by_number ys apart_y)
      (λ p has. by_number_has ys p (there p (has_by_number xs p has))) (λ p has. by_number_has xs p (back p (has_by_number ys p has)))
