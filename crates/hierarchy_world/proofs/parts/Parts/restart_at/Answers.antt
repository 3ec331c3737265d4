-- The node that opens over the old node's store has its id, its roster and its floors; it is put
-- back at the index, and what waited there is dropped.
use Rattle.std.proofs.Common.{◌≡◌, Bool, true, cond, List, not, is_ok, nat_eq, filter, set, insert, slice_get, Some, refl, sym, ◌∙◌, ap}
use Rattle.std.proofs.lemmas.Option.{slice_get_read}
use Rattle.floor_rules.specs.Floors.{FloorTable}
use Rattle.node_rules.specs.State.{opened}
use Rattle.hierarchy_world.specs.declared.parts.Parts.{Parts}
use Rattle.hierarchy_world.specs.Parts.{MemberNode, IsStored, IsMemberNode, IsMemberChanged}
use Rattle.hierarchy_world.proofs.Changing.{was_id, was_member_node, put_back}
use Rattle.hierarchy_world.proofs.Restarting.{then_forgets, state_sound, state_by}
use Rattle.hierarchy_world.proofs.parts.Parts.restart_at.Goals as goal

-- The new node is put back in the place of the old one, with its floors, so one member changed and the parts stay sound.
pub returns : goal.returns
returns c =
    let old : Parts = c.args.self.now in
    let new : Parts = c.forget.new.self in
    let before : MemberNode = c.remove.result in
    let n : MemberNode = c.in-Ok.node in
    let at : slice_get old.nodes.items c.args.place ≡ Some before = slice_get_read old.nodes.items _ c.args.place before refl c.requires.below
    c.remove.ensures.value in
    let of_member : IsMemberNode old.roster before = was_member_node old before c.args.id c.args.place c.requires.sound c.requires.place at in
    let done : is_ok c.insert.result ≡ true = c.is_err.ensures.negation ∙ ap not c.if-is_err.false in
    let nodes : c.insert.new.self.items ≡ set old.nodes.items c.args.place n =
    c.insert.ensures.items ∙ ap (λ (b : Bool). cond b (insert c.remove.new.self.items c.args.place n) c.remove.new.self.items) done
    ∙ ap (λ (l : List MemberNode). insert l c.args.place n) c.remove.ensures.items
    ∙ put_back old.nodes.items c.args.place n c.requires.below in
    let changed : IsMemberChanged old new (set old.nodes.items c.args.place n) (filter (λ w. not (nat_eq w.node c.args.id)) old.waiting.items) =
    then_forgets old _ new _ c.args.id
    (record { roster = refl; nodes = nodes; master = refl; clock = refl; place = refl; datagrams = refl; asks = refl; answers = refl; waiting = refl })
    c.forget.ensures.same in
    let same_id = c.in-Ok.ensures.member.1 ∙ sym (was_id old before c.args.id c.args.place c.requires.sound c.requires.place at) in
    let same_roster = c.in-Ok.ensures.member.0 ∙ c.in_ok-roster.ensures.value ∙ sym of_member.roster in
    let store : n.store ≡ before.store = c.in-Ok.ensures.store ∙ c.into_floors-store.ensures in
    let state : n.state ≡ opened before.state.floors = c.in-Ok.ensures.state tt ∙ ap (λ (f : FloorTable). opened f)
    (c.into_floors-store.ensures ∙ of_member.stored) in
    let stored : IsStored n = store ∙ of_member.stored ∙ ap (λ s. s.floors) (sym state) in
    record {
      sound = state_sound old new before n c.args.id c.args.place c.requires.sound c.requires.place at changed same_id same_roster stored;
      roster = changed.roster;
      place = changed.place;
      world = state_by old new before n c.args.id c.args.place c.requires.sound c.requires.place at changed same_id same_roster stored (λ s. opened s.floors)
          state;
    }
