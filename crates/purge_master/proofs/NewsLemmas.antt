-- What an acknowledgement changes, in each case of `IsNews`. The purge that is found has the number,
-- and no other has it; so a mark that stands already changes nothing. An admission has no marks, and
-- the one member that it needs makes it done.
use Rattle.std.proofs.Common.{◌≡◌, ◌⊎◌, ℕ, suc, ◌<◌, ◌==◌, Bool, true, false, cond, not, ◌&&◌, ◌||◌, List, [], ◌∷◌, get_or, map}
use Rattle.std.proofs.Common.{filter, find, Option, Some, None, inl, inr}
use Rattle.std.proofs.Common.{refl, sym, ap, subst, ◌∙◌, arith}
use Rattle.std.specs.List.{AllPairs, list_all}
use Rattle.std.proofs.lemmas.Bool.{eqb-true}
use Rattle.std.proofs.lemmas.Map.Views.{any-filter_same}
use Rattle.purge_rules.specs.declared.nodes.Nodes.{Nodes}
use Rattle.purge_rules.specs.declared.purges.Purge.{Purge}
use Rattle.purge_rules.specs.declared.purges.Admission.{Admission}
use Rattle.purge_rules.specs.Members.{is_among, with_id, are_among}
use Rattle.purge_rules.specs.Needed.{needed, needs_by}
use Rattle.purge_rules.specs.Purges.{PurgeList, AreNumbered, is_numbered, pending_at, admission_at, marks_by, marks_at}
use Rattle.purge_rules.specs.Purges.{marked_by, with_mark, with_done}
use Rattle.purge_rules.specs.Calls.{counted, is_news}
use Rattle.purge_rules.specs.Store.{IsUnmarkedBy}
use Rattle.purge_rules.proofs.Finding.{find_none, absent, eqb_other}
use Rattle.purge_rules.proofs.Changing.{none_marked}
use Rattle.purge_master.specs.News.{IsNews}
use Rattle.purge_master.specs.declared.news.News.TheVariants as news

abbrev mark_of : ℕ → ℕ → Purge → Purge
mark_of number id p = cond (is_numbered number p) (marked_by id p) p

-- a mark that is there already changes nothing
mark_same : (xs : List Purge) (number id : ℕ) (p : Purge) → AllPairs (λ a b. a.number < b.number) xs → find (is_numbered number) xs ≡ Some p →
    with_id id p.marked ≡ p.marked → map (mark_of number id) xs ≡ xs
mark_same [] number id p ascend e same = refl
mark_same (x ∷ xs) number id p ascend e same =
    (elim (is_numbered number x) as (λ b. is_numbered number x ≡ b → cond b (Some x) (find (is_numbered number) xs) ≡ Some p →
    cond b (marked_by id x) x ∷ map (mark_of number id) xs ≡ x ∷ xs) [
      | true ↦ λ passes h.
          let here : x ≡ p = cc in
          let number_is : x.number ≡ number = eqb-true x.number number passes in
          let marks : with_id id x.marked ≡ x.marked = ap (λ (q : Purge). with_id id q.marked) here ∙ same ∙ ap (λ (q : Purge). q.marked) (sym here) in
          ap (λ ids. record { number = x.number; key = x.key; marked = ids } ∷ map (mark_of number id) xs) marks
          ∙ ap (λ ys. x ∷ ys) (none_marked xs number id (λ k d l other. let rise = ascend 0 (suc k) d (omega arith) (omega arith) in absurd (omega arith)))
      | false ↦ λ fails h. ap (λ ys. x ∷ ys) (mark_same xs number id p (λ i j d lt l. ascend (suc i) (suc j) d (omega arith) (omega arith)) h same)
    ]) refl e

-- marks are those of a pending purge, or a pending admission's, which are none
pub record AreOfPurge (o : Option Purge) (marked : List ℕ) : Type 0 where
  pub purge : Purge
  pub is : o ≡ Some purge
  pub marks : marked ≡ purge.marked

pub record AreOfAdmission (o : Option Admission) (marked : List ℕ) : Type 0 where
  pub admission : Admission
  pub is : o ≡ Some admission
  pub marks : marked ≡ []

marks_from : (o : Option Purge) (a : Option Admission) (marked : List ℕ) → Some marked ≡ marks_by o a → AreOfPurge o marked ⊎ AreOfAdmission a marked
marks_from (Some p) a marked e = inl record { purge = p; is = refl; marks = cc }
marks_from None None marked e = absurd (cc)
marks_from None (Some a) marked e = (elim a.is_done as (λ b. Some marked ≡ cond b None (Some []) → AreOfPurge None marked ⊎ AreOfAdmission (Some a) marked) [
  | true ↦ λ f. absurd (cc)
  | false ↦ λ f. inr record { admission = a; is = refl; marks = cc }
]) e

-- of the members with one id, each is among the set of that id
alone : (member id : ℕ) (ids : List ℕ) → member ≡ id → list_all (λ i. is_among i (id ∷ [])) (filter (λ i. member == i) ids) ≡ true
alone member id [] same = refl
alone member id (i ∷ ids) same =
    (elim (member == i) as (λ b. (member == i) ≡ b → list_all (λ j. is_among j (id ∷ [])) (cond b (i ∷ filter (λ j. member == j) ids)
    (filter (λ j. member == j) ids)) ≡ true) [
      | true ↦ λ e.
          let here : (id == i) ≡ true = ap (λ m. m == i) (sym same) ∙ e in
          ap (λ b. (b || false) && list_all (λ j. is_among j (id ∷ [])) (filter (λ j. member == j) ids)) here ∙ alone member id ids same
      | false ↦ λ e. alone member id ids same
    ]) refl

-- who is needed by an admission is its member
is_alone : (member id : ℕ) (ids : List ℕ) → is_among id (filter (λ i. member == i) ids) ≡ true → member ≡ id
is_alone member id ids among =
    let found : (is_among id (filter (λ i. member == i) ids)) ≡ ((member == id) && is_among id ids) =
    any-filter_same (λ i. i == id) (λ i. member == i) (member == id) (λ i e. ap (λ j. member == j) (eqb-true i id e)) ids in
    eqb-true member id (both (member == id) (is_among id ids) (sym found ∙ among))
  where
    both : (a b : Bool) → (a && b) ≡ true → a ≡ true
    both true b e = refl
    both false b e = e

-- an admission misses no member any more, once one that it needs has acknowledged it
admission_done : (nodes : Nodes) (purges : PurgeList) (id number : ℕ) (a : Admission) → admission_at purges number ≡ Some a →
    is_among id (needed nodes purges.admissions number) ≡ true → are_among (needed nodes purges.admissions number) (with_id id []) ≡ true
admission_done nodes purges id number a is among =
    let needs_is : needed nodes purges.admissions number ≡ filter (λ i. a.member == i) nodes.members =
    ap (λ o. filter (needs_by nodes purges.admissions number o) nodes.members) is in
    let same : a.member ≡ id = is_alone a.member id nodes.members (ap (is_among id) (sym needs_is) ∙ among) in
    ap (λ ids. are_among ids (with_id id [])) needs_is ∙ alone a.member id nodes.members same

module _ (needs : List ℕ) (purges : PurgeList) (id number : ℕ) (marked : List ℕ) (is : Some marked ≡ marks_at purges number) where
  by_some : counted needs purges id number (marks_at purges number) ≡ counted needs purges id number (Some marked)
  by_some = ap (counted needs purges id number) (sym is)

  news_by_some : is_news needs id (marks_at purges number) ≡ is_news needs id (Some marked)
  news_by_some = ap (is_news needs id) (sym is)

  counted_if : (b : Bool) → are_among needs (with_id id marked) ≡ b → counted needs purges id number (Some marked) ≡ cond b record
      { purges = with_done purges number; done = Some number } record { purges = with_mark purges number id; done = None }
  counted_if b e = ap (λ c. cond c record { purges = with_done purges number; done = Some number } record
      { purges = with_mark purges number id; done = None }) e

  pub done_is : (known : Bool) → known ≡ is_among id marked → (known ≡ true → with_id id marked ≡ marked) →
      are_among needs (with_id id marked) ≡ true → IsNews needs purges id number news.Done
  done_is true known again all = (
    by_some ∙ counted_if true all,
    news_by_some ∙ ap (λ b. not b || are_among needs marked) (sym known) ∙ ap (are_among needs) (sym (again refl)) ∙ all,
  )
  done_is false known again all = (
    by_some ∙ counted_if true all,
    news_by_some ∙ ap (λ b. not b || are_among needs marked) (sym known),
  )

  pub nothing_is : AreNumbered purges → is_among id marked ≡ true → with_id id marked ≡ marked → are_among needs (with_id id marked) ≡ false →
      IsNews needs purges id number news.Nothing
  nothing_is are known again some = (
    by_some ∙ counted_if false some ∙ ap (λ ps. record { purges = record purges { pending = ps }; done = None }) same,
    news_by_some ∙ ap (λ b. not b || are_among needs marked) known ∙ ap (are_among needs) (sym again) ∙ some,
  )
    where
      same : map (mark_of number id) purges.pending ≡ purges.pending
      same = elim (marks_from (pending_at purges number) (admission_at purges number) marked is) [
        | inl of ↦ mark_same purges.pending number id of.purge are.ascend of.is (ap (with_id id) (sym of.marks) ∙ again ∙ of.marks)
        | inr of ↦ let none : is_among id [] ≡ true = ap (is_among id) (sym of.marks) ∙ known in absurd (cc)
      ]

  pub mark_is : (nodes : Nodes) → needs ≡ needed nodes purges.admissions number → is_among id needs ≡ true → is_among id marked ≡ false →
      are_among needs (with_id id marked) ≡ false → IsNews needs purges id number news.Mark
  mark_is nodes needs_is among unknown some = (
    by_some ∙ counted_if false some,
    news_by_some ∙ ap (λ b. not b || are_among needs marked) unknown,
    missed,
  )
    where
      missed : IsUnmarkedBy id (pending_at purges number)
      missed = elim (marks_from (pending_at purges number) (admission_at purges number) marked is) [
        | inl of ↦ subst (IsUnmarkedBy id) (sym of.is) (ap (is_among id) (sym of.marks) ∙ unknown)
        | inr of ↦
            let all : are_among needs (with_id id marked) ≡ true = ap (λ ids. are_among ids (with_id id marked)) needs_is
            ∙ ap (λ ids. are_among (needed nodes purges.admissions number) (with_id id ids)) of.marks
            ∙ admission_done nodes purges id number of.admission of.is (ap (is_among id) (sym needs_is) ∙ among) in
            absurd (cc)
      ]

-- a number that was not given is not pending
pub not_given : (needs : List ℕ) (purges : PurgeList) (id number : ℕ) → AreNumbered purges → purges.last < number →
    IsNews needs purges id number news.Nothing
not_given needs purges id number are l =
    let unlisted : pending_at purges number ≡ None = absent purges.pending number (λ k d h e. let given = are.given k d h in absurd (omega arith)) in
    let none : admission_at purges number ≡ None = find_none (λ (a : Admission). a.number == number) purges.admissions (λ k d h.
    let given = are.admitted.given k d h in eqb_other (λ (e : (get_or purges.admissions k d).number ≡ number). omega arith)) in
    let marks : marks_at purges number ≡ None = ap (λ o. marks_by o (admission_at purges number)) unlisted ∙ ap (λ a. marks_by None a) none in
    (ap (counted needs purges id number) marks, ap (is_news needs id) marks)
