-- What a loop adds, one after another: the CLRs of a new purge, and what a node sends.
use Rattle.std.proofs.Common.{◌≡◌, ℕ, ◌+◌, ◌<◌, List, [], ◌∷◌, ◌++◌, length, take, get_or, flat_map, map, append-nil, append_assoc, sym, ◌∙◌, ap, subst}
use Rattle.std.proofs.lemmas.List.{take_more, map-append}
use Rattle.std.proofs.lemmas.Grind.{flat_map-append}
use Rattle.node_rules.specs.declared.message.Outgoing.{Outgoing}
use Rattle.values_tables.specs.declared.plain.Cache.{Cache}
use Rattle.values_tables.specs.declared.plain.Tables.{Tables}
use Rattle.world_rules.specs.World.{Datagram, datagram_from}
use Rattle.run_network.specs.declared.letters.Letters.{Letters}
use Rattle.run_network.specs.Held.{HoldsLetters}

-- What is held so far, and one more

abbrev pub Held : Tables → Letters → Letters → List Datagram → Type 0
Held t before after more = (sent : List Datagram) → HoldsLetters t before sent → HoldsLetters t after (sent ++ more)

pub held_more : (t : Tables) (first before after : Letters) (so_far more : List Datagram) → Held t first before so_far → Held t before after more →
    Held t first after (so_far ++ more)
held_more t first before after so_far more held holds sent is = subst (λ l. HoldsLetters t after l) (append_assoc sent so_far more)
    (holds (sent ++ so_far) (held sent is))

pub held_none : (t : Tables) (letters : Letters) → Held t letters letters []
held_none t letters sent is = subst (λ l. HoldsLetters t letters l) (sym (append-nil sent)) is

pub cleared_more : (t : Tables) (first before after : Letters) (f : ℕ → List Datagram) (ids : List ℕ) (i id : ℕ) → i < length ids → id ≡ get_or ids i id →
    Held t first before (flat_map f (take i ids)) → Held t before after (f id) →
    Held t first after (flat_map f (take (i + 1) ids))
cleared_more t first before after f ids i id less is held holds =
    let whole : flat_map f (take i ids) ++ f id ≡ flat_map f (take (i + 1) ids) =
    ap (λ l. flat_map f (take i ids) ++ l) (sym (append-nil (f id))) ∙ sym (flat_map-append f (take i ids) (id ∷ []))
    ∙ ap (λ x. flat_map f (take i ids ++ x ∷ [])) is ∙ ap (flat_map f) (sym (take_more ids i id less)) in
    subst (Held t first after) whole (held_more t first before after (flat_map f (take i ids)) (f id) held holds)

pub posted_more : (t : Tables) (first before after : Letters) (c : Cache) (outgoing : List Outgoing) (i : ℕ) (o : Outgoing) → i < length outgoing →
    o ≡ get_or outgoing i o → Held t first before (map (datagram_from c) (take i outgoing)) →
    Held t before after (datagram_from c o ∷ []) → Held t first after (map (datagram_from c) (take (i + 1) outgoing))
posted_more t first before after c outgoing i o less is held holds =
    let whole : map (datagram_from c) (take i outgoing) ++ datagram_from c o ∷ [] ≡ map (datagram_from c) (take (i + 1) outgoing) =
    sym (map-append (datagram_from c) (take i outgoing) (o ∷ [])) ∙ ap (λ x. map (datagram_from c) (take i outgoing ++ x ∷ [])) is
    ∙ ap (map (datagram_from c)) (sym (take_more outgoing i o less)) in
    subst (Held t first after) whole (held_more t first before after (map (datagram_from c) (take i outgoing)) (datagram_from c o ∷ []) held holds)
