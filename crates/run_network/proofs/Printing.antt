-- Feeding a hash writes one after another is feeding it their list, by induction.
use Rattle.std.proofs.Common.{◌≡◌, ℕ, ◌+◌, ◌<◌, ◌≤◌, List, [], ◌∷◌, ◌++◌, map, length, take, get_or, append-nil, sym, ◌∙◌, ap}
use Rattle.std.specs.List.{flat_map}
use Rattle.std.specs.Hash.{HashWrites}
use Rattle.std.specs.Hash as fed
use Rattle.std.specs.Hash.DefaultHasher as sip
use Rattle.std.specs.declared.hash.DefaultHasher.{DefaultHasher}
use Rattle.std.proofs.lemmas.List.{take_more, take_all, map-append, length-map}
use Rattle.std.proofs.lemmas.List.Sums.{fold-append}
use Rattle.std.proofs.lemmas.Grind.{flat_map-append}
use Rattle.http_messages.specs.declared.fields.Field.{Field}
use Rattle.http_messages.specs.Field.{field_text}
use Rattle.run_network.specs.Prints.{written_to, field_writes, fields_writes}

-- the writes us and then the writes vs
pub then : (h : DefaultHasher) (us vs : HashWrites) → written_to (written_to h us) vs ≡ written_to h (us ++ vs)
then h us vs = sym (fold-append sip.write h us vs)

abbrev pub each : List Field → HashWrites
each fields = flat_map field_writes (map field_text fields)

-- one more field
pub one_more : (start before after : DefaultHasher) (fields : List Field) (i : ℕ) (f : Field) → i < length fields → f ≡ get_or fields i f →
    before ≡ written_to start (each (take i fields)) →
    after ≡ written_to before (field_writes (field_text f)) → after ≡ written_to start (each (take (i + 1) fields))
one_more start before after fields i f less is so_far wrote =
    let front = take i fields in
    let added : each (take (i + 1) fields) ≡ each front ++ field_writes (field_text f) =
    ap each (take_more fields i f less)
    ∙ ap (λ g. each (front ++ g ∷ [])) (sym is)
    ∙ ap (flat_map field_writes) (map-append field_text front (f ∷ []))
    ∙ flat_map-append field_writes (map field_text front) (field_text f ∷ [])
    ∙ ap (λ w. each front ++ w) (append-nil (field_writes (field_text f))) in
    wrote ∙ ap (λ h. written_to h (field_writes (field_text f))) so_far ∙ then start (each front) (field_writes (field_text f))
    ∙ ap (written_to start) (sym added)

-- all fields, after their number
pub all_written : (old start after : DefaultHasher) (fields : List Field) (i : ℕ) → length fields ≤ i → start ≡ sip.write old (fed.le_bytes 8 (length fields)) →
    after ≡ written_to start (each (take i fields)) →
    after ≡ written_to old (fields_writes (map field_text fields))
all_written old start after fields i all first wrote =
    wrote ∙ ap (λ l. written_to start (each l)) (take_all i fields all) ∙ ap (λ h. written_to h (each fields)) first
    ∙ ap (λ n. written_to old (fed.le_bytes 8 n ∷ each fields)) (sym (length-map fields field_text))
