-- What lists of transfer codings name, found one list or one member at a time.
use Rattle.std.proofs.Common.{◌≡◌, ℕ, Bool, true, false, cond, List, [], ◌∷◌, ◌++◌, length, nat_lt, refl, ap, sym, ◌∙◌}
use Rattle.std.specs.Prelude.{flat_map, codes}
use Rattle.std.specs.Str.{str_eq_ignore_ascii_case}
use Rattle.http_lists.specs.Members.{members}
use Rattle.http_lists.specs.Blanks.{trim}
use Rattle.http_reading.specs.declared.codings.Codings.{Codings}
use Rattle.http_reading.specs.declared.codings.Codings.TheVariants.{Nothing, OneChunked, Other}
use Rattle.http_reading.specs.Framing.{codings_of, codings, named_by, both}

-- nothing stands behind
pub both_last : (named : Codings) → both named Nothing ≡ named
both_last Nothing = refl
both_last OneChunked = refl
both_last Other = refl

-- lists may be put together in any grouping
both_grouped : (a b c : Codings) → both (both a b) c ≡ both a (both b c)
both_grouped Nothing b c = refl
both_grouped OneChunked Nothing c = refl
both_grouped OneChunked OneChunked Nothing = refl
both_grouped OneChunked OneChunked OneChunked = refl
both_grouped OneChunked OneChunked Other = refl
both_grouped OneChunked Other c = refl
both_grouped Other b c = refl

-- two codings, and more
two : (first second : Bool) → Other ≡ both (cond first OneChunked Other) (cond second OneChunked Other)
two true true = refl
two true false = refl
two false second = refl

many : (first : Bool) → Other ≡ both (cond first OneChunked Other) Other
many true = refl
many false = refl

-- a coding, and those behind it
coding_named : (coding : List ℕ) (others : List (List ℕ)) → named_by (coding ∷ others) ≡ both (named_by (coding ∷ [])) (named_by others)
coding_named coding [] = sym (both_last (named_by (coding ∷ [])))
coding_named coding (other ∷ []) =
    two (str_eq_ignore_ascii_case coding (codes "chunked")) (str_eq_ignore_ascii_case other (codes "chunked"))
coding_named coding (other ∷ third ∷ others) = many (str_eq_ignore_ascii_case coding (codes "chunked"))

-- a member that is a coding or is empty, and the codings behind it
kept_named : (is : Bool) (coding : List ℕ) (others : List (List ℕ)) →
    named_by (cond is (coding ∷ others) others) ≡ both (named_by (cond is (coding ∷ []) [])) (named_by others)
kept_named true coding others = coding_named coding others
kept_named false coding others = refl

member_named : (member : List ℕ) (others : List (List ℕ)) →
    named_by (codings_of (member ∷ others)) ≡ both (named_by (codings_of (member ∷ []))) (named_by (codings_of others))
member_named member others = kept_named (nat_lt 0 (length (trim member))) (trim member) (codings_of others)

-- the members of a list, and those of others
list_named : (list others : List (List ℕ)) →
    named_by (codings_of (list ++ others)) ≡ both (named_by (codings_of list)) (named_by (codings_of others))
list_named [] others = refl
list_named (member ∷ list) others =
    member_named member (list ++ others) ∙ ap (both (named_by (codings_of (member ∷ [])))) (list_named list others)
    ∙ sym (both_grouped (named_by (codings_of (member ∷ []))) (named_by (codings_of list)) (named_by (codings_of others)))
    ∙ ap (λ named. both named (named_by (codings_of others))) (sym (member_named member list))

-- the next member, behind what was named so far
pub next_member : (named : Codings) (member : List ℕ) (others : List (List ℕ)) →
    both (both named (named_by (codings_of (member ∷ [])))) (named_by (codings_of others)) ≡ both named (named_by (codings_of (member ∷ others)))
next_member named member others =
    both_grouped named (named_by (codings_of (member ∷ []))) (named_by (codings_of others))
    ∙ ap (both named) (sym (member_named member others))

-- the next value, behind what was named so far
pub next_value : (named : Codings) (value : List ℕ) (others : List (List ℕ)) →
    both (both named (named_by (codings_of (members value)))) (named_by (codings others)) ≡ both named (named_by (codings (value ∷ others)))
next_value named value others =
    both_grouped named (named_by (codings_of (members value))) (named_by (codings others))
    ∙ ap (both named) (sym (list_named (members value) (flat_map members others)))
