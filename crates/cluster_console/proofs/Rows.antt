-- What is written for one purge, member or peer after another is what is written for all of them.
use Rattle.std.proofs.Common.{◌≡◌, ℕ, zero, suc, ◌+◌, ◌<◌, Bool, true, false, MatchBool, List, [], ◌∷◌, ◌++◌, length, take, get_or, refl, sym, ap, ◌∙◌, subst}
use Rattle.std.proofs.Common.{arith, append_assoc, append-nil}
use Rattle.purge_rules.specs.Purges.{PurgeList}
use Rattle.roster.specs.Lookups.{is_member}
use Rattle.values_tables.specs.declared.plain.Tables.{Tables}
use Rattle.cluster_console.specs.Shown.{all_shown, is_outside, stands, member_line, refused_line}
use Rattle.cluster_console.specs.Played.{MemberTells, MembersTell, CountTells, CountsTell}

-- one more
lines_more : {A : Type 0} (shown : A → List ℕ) (xs : List A) (i : ℕ) (x : A) → i < length xs → x ≡ get_or xs i x →
    all_shown shown (take (suc i) xs) ≡ all_shown shown (take i xs) ++ shown x
lines_more shown [] i x within is = absurd (omega (arith, within))
lines_more shown (first ∷ xs) zero x within is = append-nil (shown first) ∙ ap shown (sym is)
lines_more shown (first ∷ xs) (suc i) x within is =
    ap (λ t. shown first ++ t) (lines_more shown xs i x (omega (arith, within)) is)
    ∙ sym (append_assoc (shown first) (all_shown shown (take i xs)) (shown x))

pub rows_more : {A : Type 0} (shown : A → List ℕ) (xs : List A) (i next : ℕ) (x : A) (start head text more : List ℕ) → next ≡ suc i → i < length xs →
    x ≡ get_or xs i x → text ≡ start ++ (head ++ all_shown shown (take i xs)) → more ≡ text ++ shown x →
    more ≡ start ++ (head ++ all_shown shown (take next xs))
rows_more shown xs i next x start head text more one within is so_far wrote =
    wrote ∙ ap (λ t. t ++ shown x) so_far ∙ append_assoc start (head ++ all_shown shown (take i xs)) (shown x)
    ∙ ap (λ t. start ++ t) (append_assoc head (all_shown shown (take i xs)) (shown x)
    ∙ ap (λ t. head ++ t) (sym (lines_more shown xs i x within is) ∙ ap (λ n. all_shown shown (take n xs)) (sym one)))

-- the line of one member more, if there is one
line_by : {A : Type 0} (line : A → List ℕ) (Tell : List ℕ → Type 0) (start head lines text more : List ℕ) (b : Bool) → Tell lines →
    text ≡ start ++ (head ++ lines) → MatchBool b ((x : A) × (more ≡ text ++ line x)) (more ≡ text) →
    (all : List ℕ) × ((before : List ℕ) × Tell before × MatchBool b ((x : A) × (all ≡ before ++ line x)) (all ≡ before)) × (more ≡ start ++ (head ++ all))
line_by line Tell start head lines text more true tell so_far (x, wrote) = (
  lines ++ line x,
  (lines, tell, (x, refl)),
  wrote ∙ ap (λ t. t ++ line x) so_far ∙ append_assoc start (head ++ lines) (line x) ∙ ap (λ t. start ++ t) (append_assoc head lines (line x)),
)
line_by line Tell start head lines text more false tell so_far same = (lines, (lines, tell, refl), same ∙ so_far)

-- how it stands
pub member_more : (roster : Tables) (purges : PurgeList) (id next : ℕ) (start head lines text more : List ℕ) → next ≡ suc id →
    MembersTell roster purges id lines → text ≡ start ++ (head ++ lines) →
    MatchBool (is_member roster next) (MemberTells roster purges next text more) (more ≡ text) →
    (x : List ℕ) × MembersTell roster purges next x × (more ≡ start ++ (head ++ x))
member_more roster purges id next start head lines text more one tell so_far told =
    subst (λ n. (x : List ℕ) × MembersTell roster purges n x × (more ≡ start ++ (head ++ x))) (sym one)
    (line_by (λ s. member_line (suc id) (stands (is_outside roster purges (suc id)) s)) (MembersTell roster purges id) start head lines text more
    (is_member roster (suc id)) tell so_far
    (subst (λ n. MatchBool (is_member roster n) (MemberTells roster purges n text more) (more ≡ text)) one told))

-- how many requests it has refused
pub count_more : (roster : Tables) (id next : ℕ) (start head lines text more : List ℕ) → next ≡ suc id → CountsTell roster id lines →
    text ≡ start ++ (head ++ lines) → MatchBool (is_member roster next) (CountTells next text more) (more ≡ text) →
    (x : List ℕ) × CountsTell roster next x × (more ≡ start ++ (head ++ x))
count_more roster id next start head lines text more one tell so_far told =
    subst (λ n. (x : List ℕ) × CountsTell roster n x × (more ≡ start ++ (head ++ x))) (sym one)
    (line_by (refused_line (suc id)) (CountsTell roster id) start head lines text more (is_member roster (suc id)) tell so_far
    (subst (λ n. MatchBool (is_member roster n) (CountTells n text more) (more ≡ text)) one told))
