-- Why `members` is exact: a cut adds one octet to the first member or ends it at a comma, as the
-- grammar does (`made`); and a value of the grammar is cut at its own commas alone, as none of its
-- members has one (`alone`).
use Rattle.std.proofs.Common.{◌≡◌, ℕ, Bool, true, false, not, ◌&&◌, List, [], ◌∷◌, ◌++◌, refl, sym, ap, subst, ◌∙◌}
use Rattle.std.specs.List.{onto_first}
use Rattle.std.proofs.lemmas.Bool.{eqb-true}
use Rattle.http_lists.specs.declared.members.Quoting.{Quoting}
use Rattle.http_lists.specs.declared.members.Quoting.TheVariants.{Outside, Inside, Escaped}
use Rattle.http_lists.specs.Members.{members_from, members, ends_member, quoting_after, comma}
use Rattle.http_lists.specs.Cut.{quoting_behind, is_unbroken, HasMembers, one, more}
use Rattle.http_lists.proofs.Cuts.{inside_member, at_end, last_member}

-- ---- what is cut are members

-- an octet that ends no member before the first
longer : (quoting : Quoting) (octet : ℕ) (text : List ℕ) (parts : List (List ℕ)) → ends_member quoting octet ≡ false →
    HasMembers (quoting_after quoting octet) text parts
    → HasMembers quoting (octet ∷ text) (onto_first octet parts)
longer quoting octet text parts no_end (one member whole) = one (octet ∷ member) (rw no_end whole)
longer quoting octet text parts no_end (more member whole out others) = more (octet ∷ member) (rw no_end whole) out others

-- a comma outside quoted strings
comma_first : (quoting : Quoting) (octet : ℕ) (text : List ℕ) (parts : List (List ℕ)) → ends_member quoting octet ≡ true → HasMembers Outside text parts →
    HasMembers quoting (octet ∷ text) ([] ∷ parts)
comma_first Outside octet text parts here others =
    subst (λ (o : ℕ). HasMembers Outside (o ∷ text) ([] ∷ parts)) (sym (eqb-true octet comma here)) (more [] refl refl others)
comma_first Inside octet text parts here others = cc
comma_first Escaped octet text parts here others = cc

-- the cut gives members by the grammar
pub made : (quoting : Quoting) (text : List ℕ) → HasMembers quoting text (members_from quoting text)
made quoting [] = rw last_member (one [] refl)
made quoting (octet ∷ text) = by_cases (ends_member quoting octet) refl (made Outside text) (made (quoting_after quoting octet) text)
  where
    by_cases : (ends : Bool) → ends_member quoting octet ≡ ends → HasMembers Outside text (members text) →
        HasMembers (quoting_after quoting octet) text (members_from (quoting_after quoting octet) text)
        → HasMembers quoting (octet ∷ text) (members_from quoting (octet ∷ text))
    by_cases true here behind within = subst (HasMembers quoting (octet ∷ text)) (sym (at_end quoting octet text here))
        (comma_first quoting octet text (members text) here behind)
    by_cases false no_end behind within =
        subst (HasMembers quoting (octet ∷ text)) (sym (inside_member quoting octet text no_end))
        (longer quoting octet text (members_from (quoting_after quoting octet) text) no_end within)

-- ---- there are no others

-- what an unbroken text says of its first octet and of the rest
no_end_from : (ends rest : Bool) → (not ends && rest) ≡ true → (ends ≡ false) × (rest ≡ true)
no_end_from true rest h = cc
no_end_from false rest h = (refl, h)

-- an unbroken text is one member
one_member : (quoting : Quoting) (member : List ℕ) → is_unbroken quoting member ≡ true → members_from quoting member ≡ member ∷ []
one_member quoting [] whole = last_member quoting
one_member quoting (octet ∷ member) whole =
    let parts = no_end_from (ends_member quoting octet) _ whole in
    inside_member quoting octet member parts.0 ∙ ap (onto_first octet) (one_member (quoting_after quoting octet) member parts.1)

-- the first member of a list ends at the comma after it
first_member : (quoting : Quoting) (member value : List ℕ) → is_unbroken quoting member ≡ true → quoting_behind quoting member ≡ Outside
    → members_from quoting (member ++ comma ∷ value) ≡ member ∷ members value
first_member quoting [] value whole out = subst (λ (q : Quoting). members_from q (comma ∷ value) ≡ [] ∷ members value) (sym out)
    (at_end Outside comma value refl)
first_member quoting (octet ∷ member) value whole out =
    let parts = no_end_from (ends_member quoting octet) _ whole in
    inside_member quoting octet (member ++ comma ∷ value) parts.0 ∙ ap (onto_first octet) (first_member (quoting_after quoting octet) member value parts.1 out)

-- members by the grammar are those of the cut
pub alone : (quoting : Quoting) (value : List ℕ) (parts : List (List ℕ)) → HasMembers quoting value parts → parts ≡ members_from quoting value
alone quoting value parts (one member whole) = sym (one_member quoting member whole)
alone quoting value parts (more member {value = rest} {others = others} whole out behind) =
    ap (λ (ms : List (List ℕ)). member ∷ ms) (alone Outside rest others behind) ∙ sym (first_member quoting member rest whole out)
