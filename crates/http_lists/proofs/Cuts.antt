-- Why `member_length` cuts as `members` does: up to each place, the octets seen are the front of
-- the first member, and the rest is cut from the state reached there.
use Rattle.std.proofs.Common.{◌≡◌, ℕ, ◌+◌, ◌<◌, ◌≤◌, Bool, true, false, List, [], ◌∷◌, ◌++◌, length, take, drop, get_or, cond, ltb, refl, sym, ap, ◌∙◌}
use Rattle.std.proofs.Common.{append_assoc, arith}
use Rattle.std.specs.List.{onto_first}
use Rattle.std.proofs.lemmas.Bool.{lt-ltb, le-ltb}
use Rattle.std.proofs.lemmas.List.{append-nil, take_more, drop_more, take_all, drop_all}
use Rattle.http_lists.specs.declared.members.Quoting.{Quoting}
use Rattle.http_lists.specs.declared.members.Quoting.TheVariants.{Outside}
use Rattle.http_lists.specs.Members.{members_from, members, ends_member, quoting_after}

-- members with a text before the first
abbrev pub onto_front : List ℕ → List (List ℕ) → List (List ℕ)
onto_front front [] = front ∷ []
onto_front front (member ∷ others) = (front ++ member) ∷ others

-- one more octet in the front is one more octet before the first member of the rest
onto_front_more : (front : List ℕ) (octet : ℕ) (parts : List (List ℕ)) → onto_front (front ++ octet ∷ []) parts ≡ onto_front front (onto_first octet parts)
onto_front_more front octet [] = refl
onto_front_more front octet (part ∷ parts) = ap (λ (l : List ℕ). l ∷ parts) (append_assoc front (octet ∷ []) part)

-- an empty front changes nothing
onto_front-nil : (parts : List (List ℕ)) → onto_front [] ([] ∷ parts) ≡ [] ∷ parts
onto_front-nil parts = refl

-- the loop's invariant: the text is cut up to this place, and the octet there has this state
pub record IsCutTo (text : List ℕ) (place : ℕ) (quoting : Quoting) : Type 0 where
  pub same : onto_front (take place text) (members_from quoting (drop place text)) ≡ members text

-- the same for members as they are cut
whole : (quoting : Quoting) (text : List ℕ) → onto_front [] (members_from quoting text) ≡ members_from quoting text
unfolding members_from
whole quoting [] = refl
whole quoting (octet ∷ text) = first (ends_member quoting octet) octet (members_from Outside text) (members_from (quoting_after quoting octet) text)
  where
    first : (ends : Bool) (octet : ℕ) (behind within : List (List ℕ)) →
        onto_front [] (elim ends [ true ↦ [] ∷ behind | false ↦ onto_first octet within ]) ≡ elim ends [ true ↦ [] ∷ behind | false ↦ onto_first octet within ]
    first true octet behind within = refl
    first false octet behind [] = refl
    first false octet behind (part ∷ parts) = refl

-- so it is before the first octet
pub IsCutTo-start : (text : List ℕ) → IsCutTo text 0 Outside
IsCutTo-start text = record { same = whole Outside text }

-- the equations of `members_from`: an octet that ends no member, one that does, and the end of the
-- text
pub inside_member : (quoting : Quoting) (octet : ℕ) (text : List ℕ) → ends_member quoting octet ≡ false →
    members_from quoting (octet ∷ text) ≡ onto_first octet (members_from (quoting_after quoting octet) text)
unfolding members_from
inside_member quoting octet text no_end = rw (no_end, members_from) refl

pub at_end : (quoting : Quoting) (octet : ℕ) (text : List ℕ) → ends_member quoting octet ≡ true → members_from quoting (octet ∷ text) ≡ [] ∷ members text
unfolding members_from
at_end quoting octet text here = rw (here, members_from) refl

pub last_member : (quoting : Quoting) → members_from quoting [] ≡ [] ∷ []
unfolding members_from
last_member quoting = refl

-- an octet that ends no member
pub IsCutTo-more : (text : List ℕ) (place : ℕ) (quoting : Quoting) → place < length text → ends_member quoting (get_or text place 0) ≡ false →
    IsCutTo text place quoting → IsCutTo text (place + 1) (quoting_after quoting (get_or text place 0))
IsCutTo-more text place quoting inside no_end cut =
    let octet = get_or text place 0 in
    let front = take place text in
    let rest = drop (place + 1) text in
    let next = members_from (quoting_after quoting octet) rest in
    record {
      same = ap (λ (f : List ℕ). onto_front f next) (take_more text place 0 inside)
          ∙ onto_front_more front octet next
          ∙ ap (onto_front front) (sym (inside_member quoting octet rest no_end))
          ∙ ap (λ (r : List ℕ). onto_front front (members_from quoting r)) (sym (drop_more text place 0 inside))
          ∙ cut.same;
    }

-- the first member, of `end` octets, and the members of what follows its comma
abbrev pub cut_at : List ℕ → ℕ → List (List ℕ)
cut_at text end = take end text ∷ cond (ltb end (length text)) (members (drop (end + 1) text)) []

-- the loop stops at the octet that ends the first member
pub cut_at_comma : (text : List ℕ) (place : ℕ) (quoting : Quoting) → place < length text → ends_member quoting (get_or text place 0) ≡ true →
    IsCutTo text place quoting → members text ≡ cut_at text place
cut_at_comma text place quoting inside here cut =
    let octet = get_or text place 0 in
    let front = take place text in
    let rest = drop (place + 1) text in
    rw (lt-ltb place (length text) inside)
    (sym cut.same
    ∙ ap (λ (r : List ℕ). onto_front front (members_from quoting r)) (drop_more text place 0 inside)
    ∙ ap (onto_front front) (at_end quoting octet rest here)
    ∙ ap (λ (f : List ℕ). f ∷ members rest) (append-nil front))

-- the loop stops at the end of the text, which is one member
pub cut_nowhere : (text : List ℕ) (place : ℕ) (quoting : Quoting) → length text ≤ place → IsCutTo text place quoting → members text ≡ cut_at text (length text)
cut_nowhere text place quoting past cut =
    let none : drop place text ≡ [] = drop_all place text past in
    rw (le-ltb (length text) (length text) (omega arith))
    (sym cut.same
    ∙ ap (λ (r : List ℕ). onto_front (take place text) (members_from quoting r)) none
    ∙ ap (onto_front (take place text)) (last_member quoting)
    ∙ ap (λ (f : List ℕ). f ∷ []) (append-nil (take place text) ∙ take_all place text past ∙ sym (take_all (length text) text (omega arith))))
