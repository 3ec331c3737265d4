use Rattle.std.proofs.Common.{◌≡◌, ◌+◌, ◌++◌, ℕ, suc, Bool, List, refl, sym, subst, ap, ◌∙◌, append_assoc, add-one}
use Rattle.purge_rules.specs.Members.{is_among}
use Rattle.cluster_console.specs.Shown.{id_shown, ids_shown}
use Rattle.cluster_console.proofs.show.push_among.Goals as goal

-- one id more, if it is told
ids_more : (is_told : ℕ → Bool) (id next : ℕ) (start text more : List ℕ) (told : Bool) → next ≡ suc id → told ≡ is_told next →
    text ≡ start ++ ids_shown is_told id → more ≡ text ++ id_shown told next → more ≡ start ++ ids_shown is_told next
ids_more is_told id next start text more told one is so_far wrote =
    wrote ∙ ap (λ t. t ++ id_shown told next) so_far ∙ append_assoc start (ids_shown is_told id) (id_shown told next)
    ∙ ap (λ b. start ++ (ids_shown is_told id ++ id_shown b next)) is
    ∙ ap (λ t. start ++ t) (subst (λ n. ids_shown is_told id ++ id_shown (is_told n) n ≡ ids_shown is_told n) (sym one) refl)

pub loop-place-preserved : goal.loop-place-preserved
loop-place-preserved c =
    ids_more (λ id. is_among id c.args.members) c.loop-place.place (c.loop-place.place + 1) c.args.text.now.items c.loop-place.text.items
    c.push_id.new.text.items c.has.result (add-one c.loop-place.place) c.has.ensures.value c.loop-place.invariant c.in_ok-push_id.ensures
