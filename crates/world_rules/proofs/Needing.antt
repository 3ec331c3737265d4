-- Whom a number needs, by what was given before it; and that this stays so as the run goes on, since
-- only admissions under greater numbers are added.
use Rattle.std.proofs.Common.{◌≡◌, ℕ, ◌<◌, Bool, true, false, not, ◌&&◌, ◌||◌, inl, inr, List, [], ◌∷◌, ◌++◌, Option, Some, None, refl, sym, ◌∙◌, ap}
use Rattle.std.proofs.Common.{subst, nat_eq}
use Rattle.std.proofs.Common.{nat_lt, arith}
use Rattle.std.specs.Prelude.{◌⊎◌}
use Rattle.std.specs.List.{AllByRecursion, list_any}
use Rattle.std.proofs.lemmas.Option.{none-some}
use Rattle.std.proofs.lemmas.Bool.{ltb-true}
use Rattle.values_tables.specs.Ranges.{are_tables}
use Rattle.values_tables.specs.declared.plain.Tables.{Tables}
use Rattle.roster.specs.Lookups.{is_member, is_founding}
use Rattle.node_rules.proofs.Cases.{branches, true_not_false, or_true, not_true}
use Rattle.node_rules.proofs.Pendings.{found, found_passes}
use Rattle.purge_rules.specs.declared.purges.Admission.{Admission}
use Rattle.purge_rules.specs.Members.{is_among, possible_ids, joining_of}
use Rattle.purge_rules.specs.Purges.{ended_at}
use Rattle.purge_rules.specs.Needed.{nodes_of, admission_in, was_admitted, needs_by, needs}
use Rattle.world_rules.specs.Run.{Step, IsItem, Given, OfPurge, OfAdmission, numbers}
use Rattle.world_rules.specs.Lineage.{AdmissionHasLineage, is_listed}
use Rattle.world_rules.proofs.Items.{same_item}
use Rattle.world_rules.proofs.MemberStates.{or_cases, or_left, and_parts, ids_same, other_id}
use Rattle.world_rules.proofs.Members.{among_member, kept_among, left_passes}
use Rattle.world_rules.proofs.Later.{Agree}
use Rattle.world_rules.proofs.Marks.{find_pushed, any_pushed, any_ended, found_ended}

-- Joining members

joining_test : Tables → ℕ → Bool
joining_test t id = is_member t id && not (is_founding t id)

and_true : (a b : Bool) → a ≡ true → b ≡ true → (a && b) ≡ true
and_true a b h i = cc

-- a member that is not founding is joining
pub joining_is : (t : Tables) → are_tables t ≡ true → (id : ℕ) → is_member t id ≡ true → is_founding t id ≡ false → is_among id (joining_of t) ≡ true
unfolding joining_of joining_test
joining_is t fit id member joins = kept_among (joining_test t) possible_ids id (and_true (is_member t id) (not (is_founding t id)) member (ap not joins))
    (among_member t fit id member)

-- a founding member is not
pub founding_is_not : (t : Tables) (id : ℕ) → is_founding t id ≡ true → (b : Bool) → is_among id (joining_of t) ≡ b → b ≡ false
unfolding joining_of joining_test
founding_is_not t id founding false among = refl
founding_is_not t id founding true among =
    let both = and_parts (is_member t id) (not (is_founding t id)) (left_passes (joining_test t) possible_ids id among) in
    absurd (true_not_false (sym both.1 ∙ ap not founding))

-- Lists of admissions

some_passing : {A : Type 0} (P : A → Type 0) (test : A → Bool) (xs : List A) → list_any test xs ≡ true → AllByRecursion P xs →
    (x : A) × P x × (test x ≡ true)
some_passing P test [] h all = absurd (true_not_false (sym h))
some_passing P test (x ∷ xs) h all = elim (or_cases (test x) (list_any test xs) h)
    [ inl here ↦ (x, all.0, here) | inr later ↦ some_passing P test xs later all.1 ]

-- a number that is listed has an admission
listed_found : (admissions : List Admission) (number id : ℕ) → is_listed admissions number id ≡ true → admission_in admissions number ≡ None → ⊥
listed_found [] number id is none = true_not_false (sym is)
listed_found (a ∷ admissions) number id is none =
    (branches (λ (o : Option Admission). o ≡ None → ⊥) (nat_eq a.number number) (Some a) (admission_in admissions number) (λ _ e. none-some a (sym e))
    (λ other e. elim (or_cases (nat_eq a.number number && nat_eq a.member id) (is_listed admissions number id) is) [
      | inl here ↦ true_not_false (sym (and_parts (nat_eq a.number number) (nat_eq a.member id) here).0 ∙ other)
      | inr later ↦ listed_found admissions number id later e
    ])) none

-- a member that is listed under a lesser number was admitted
listed_before : (admissions : List Admission) (earlier number id : ℕ) → earlier < number → is_listed admissions earlier id ≡ true →
    was_admitted admissions number id ≡ true
listed_before [] earlier number id less is = absurd (true_not_false (sym is))
listed_before (a ∷ admissions) earlier number id less is =
    elim (or_cases (nat_eq a.number earlier && nat_eq a.member id) (is_listed admissions earlier id) is) [
      | inl here ↦
          let both = and_parts (nat_eq a.number earlier) (nat_eq a.member id) here in
          let same : a.number ≡ earlier = ids_same a.number earlier both.0 in
          let low : nat_lt a.number number ≡ true = grind (arith, same, less) in
          or_left (nat_eq a.member id && nat_lt a.number number) (was_admitted admissions number id)
          (and_true (nat_eq a.member id) (nat_lt a.number number) both.1 low)
      | inr later ↦ or_true (nat_eq a.member id && nat_lt a.number number) (was_admitted admissions number id)
          (listed_before admissions earlier number id less later)
    ]

-- Whom a number needs, by what was given

-- a purge needs members that do not join, and those that were admitted under lesser numbers; an
-- admission needs the admitted member
abbrev pub IsWanted : Tables → List Step → ℕ → Given → ℕ → Type 0
IsWanted h past number (OfPurge key) id = (is_among id (joining_of h) ≡ false)
    ⊎ ((earlier : ℕ) × IsItem (numbers past) earlier (OfAdmission id) × (earlier < number))
IsWanted h past number (OfAdmission who) id = who ≡ id

module _ (h : Tables) (past : List Step) (admissions : List Admission) (all : AllByRecursion (AdmissionHasLineage past) admissions)
    (listed : (number id : ℕ) → IsItem (numbers past) number (OfAdmission id) → is_listed admissions number id ≡ true) where
  -- a number that has an admission is of it
  admission_item : (number : ℕ) (a : Admission) → admission_in admissions number ≡ Some a → IsItem (numbers past) number (OfAdmission a.member)
  admission_item number a some =
      subst (λ n. IsItem (numbers past) n (OfAdmission a.member))
      (ids_same a.number number (found_passes (λ (a : Admission). nat_eq a.number number) admissions a some))
      (found (AdmissionHasLineage past) (λ (a : Admission). nat_eq a.number number) admissions a all some)

  wanted_by : (number : ℕ) (given : Given) → IsItem (numbers past) number given → (id : ℕ) (o : Option Admission) → admission_in admissions number ≡ o →
      needs_by (nodes_of h) admissions number o id ≡ true → IsWanted h past number given id
  wanted_by number (OfPurge key) item id None none is =
      elim (or_cases (not (is_among id (joining_of h))) (was_admitted admissions number id) is) [
        | inl founding ↦ inl (not_true (is_among id (joining_of h)) founding)
        | inr before ↦
            let a = some_passing (AdmissionHasLineage past) (λ (a : Admission). nat_eq a.member id && nat_lt a.number number) admissions before all in
            let both = and_parts (nat_eq a.0.member id) (nat_lt a.0.number number) a.2 in
            inr (
              a.0.number,
              subst (λ n. IsItem (numbers past) a.0.number (OfAdmission n)) (ids_same a.0.member id both.0) a.1,
              ltb-true a.0.number number both.1,
            )
      ]
  wanted_by number (OfAdmission who) item id None none is = absurd (listed_found admissions number who (listed number who item) none)
  wanted_by number given item id (Some a) some is =
      let e : given ≡ OfAdmission a.member = same_item (numbers past) number given (OfAdmission a.member) item (admission_item number a some) in
      subst (λ g. IsWanted h past number g id) (sym e) (ids_same a.member id is)

  pub wanted : (number : ℕ) (given : Given) → IsItem (numbers past) number given → (id : ℕ) → needs (nodes_of h) admissions number id ≡ true →
      IsWanted h past number given id
  wanted number given item id is = wanted_by number given item id (admission_in admissions number) refl is

  needed_by : (number : ℕ) (key : List ℕ) → IsItem (numbers past) number (OfPurge key) → (id : ℕ) → IsWanted h past number (OfPurge key) id →
      (o : Option Admission) → admission_in admissions number ≡ o → needs_by (nodes_of h) admissions number o id ≡ true
  needed_by number key item id is None none = elim is [
    | inl founding ↦ or_left (not (is_among id (joining_of h))) (was_admitted admissions number id) (ap not founding)
    | inr (earlier, it, less) ↦ or_true (not (is_among id (joining_of h))) (was_admitted admissions number id)
        (listed_before admissions earlier number id less (listed earlier id it))
  ]
  needed_by number key item id is (Some a) some =
      let e : OfPurge key ≡ OfAdmission a.member = same_item (numbers past) number (OfPurge key) (OfAdmission a.member) item
      (admission_item number a some) in cc

  -- a purge needs whom it wants
  pub purge_needs : (number : ℕ) (key : List ℕ) → IsItem (numbers past) number (OfPurge key) → (id : ℕ) → IsWanted h past number (OfPurge key) id →
      needs (nodes_of h) admissions number id ≡ true
  purge_needs number key item id is = needed_by number key item id is (admission_in admissions number) refl

-- Changes that leave it so

needs_same : (h : Tables) (before after : List Admission) (number id : ℕ) (o : Option Admission) →
    was_admitted before number id ≡ was_admitted after number id →
    needs_by (nodes_of h) before number o id ≡ needs_by (nodes_of h) after number o id
needs_same h before after number id None same = ap (λ b. not (is_among id (joining_of h)) || b) same
needs_same h before after number id (Some a) same = refl

and_false : (a b : Bool) → b ≡ false → (a && b) ≡ false
and_false true b h = h
and_false false b h = refl

-- an admission under a greater number is added
pub agree_pushed : (h : Tables) (last : ℕ) (admissions : List Admission) (a : Admission) → last < a.number → Agree h last admissions (admissions ++ a ∷ [])
agree_pushed h last admissions a above = λ number id low.
    let later : nat_lt a.number number ≡ false = grind (arith, above, low) in
    needs_same h admissions (admissions ++ a ∷ []) number id (admission_in admissions number)
    (sym (any_pushed (λ (b : Admission). nat_eq b.member id && nat_lt b.number number) admissions a
    (and_false (nat_eq a.member id) (nat_lt a.number number) later)))
    ∙ ap (λ o. needs_by (nodes_of h) (admissions ++ a ∷ []) number o id)
    (sym (find_pushed (λ (b : Admission). nat_eq b.number number) admissions a (other_id a.number number (λ e. omega (arith, above, low, e)))))

-- an admission is done
pub agree_ended : (h : Tables) (last : ℕ) (admissions : List Admission) (which : ℕ) → Agree h last admissions (ended_at which admissions)
agree_ended h last admissions which = λ number id low.
    needs_same h admissions (ended_at which admissions) number id (admission_in admissions number)
    (sym (any_ended (λ (b : Admission). nat_eq b.member id && nat_lt b.number number) (λ b. refl) admissions which))
    ∙ sym (found_ended (λ o. needs_by (nodes_of h) (ended_at which admissions) number o id) (λ b. refl) admissions which number)
