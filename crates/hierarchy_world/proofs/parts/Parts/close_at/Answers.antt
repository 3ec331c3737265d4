-- The closed node has the same id, roster and stored floors, so it may stand at its index; then
-- what waited there is dropped.
use Rattle.std.proofs.Common.{◌≡◌, not, nat_eq, filter, set, slice_get, Some, refl}
use Rattle.std.proofs.lemmas.Option.{slice_get_read}
use Rattle.node_rules.specs.State.{closed_node}
use Rattle.hierarchy_world.specs.declared.parts.Parts.{Parts}
use Rattle.hierarchy_world.specs.Parts.{MemberNode, IsStored, IsMemberChanged}
use Rattle.hierarchy_world.proofs.Changing.{was_member_node}
use Rattle.hierarchy_world.proofs.Restarting.{then_forgets, state_sound, state_by, closing_stored}
use Rattle.hierarchy_world.proofs.parts.Parts.close_at.Goals as goal

-- The node closes by its rule and its requests are forgotten, so one member changed and the parts stay sound.
pub returns : goal.returns
returns c =
    let old : Parts = c.args.self.now in
    let new : Parts = c.forget.new.self in
    let before : MemberNode = c.index_mut.result.now in
    let n : MemberNode = c.close.new.self in
    let at : slice_get old.nodes.items c.args.place ≡ Some before = slice_get_read old.nodes.items _ c.args.place before refl c.requires.below
    c.index_mut.ensures.value in
    let changed : IsMemberChanged old new (set old.nodes.items c.args.place n) (filter (λ w. not (nat_eq w.node c.args.id)) old.waiting.items) =
    then_forgets old _ new _ c.args.id
    (record { roster = refl; nodes = refl; master = refl; clock = refl; place = refl; datagrams = refl; asks = refl; answers = refl; waiting = refl })
    c.forget.ensures.same in
    let stored : IsStored n = closing_stored before n (was_member_node old before c.args.id c.args.place c.requires.sound c.requires.place at).stored
    c.close.ensures.same c.close.ensures.state in
    record {
      sound = state_sound old new before n c.args.id c.args.place c.requires.sound c.requires.place at changed c.close.ensures.same.id
          c.close.ensures.same.roster stored;
      roster = changed.roster;
      place = changed.place;
      world = state_by old new before n c.args.id c.args.place c.requires.sound c.requires.place at changed c.close.ensures.same.id c.close.ensures.same.roster
          stored (λ s. closed_node s) c.close.ensures.state;
    }
