use Rattle.std.proofs.Common.{◌≡◌, ◌<◌, ◌+◌, ◌/◌, nat_lt, length, if◌then◌else◌, sym, subst, ◌∙◌}
use Rattle.purge_master.specs.Store.{witness}
use Rattle.cluster_master.specs.Weight.{call_octets, answer_octets}
use Rattle.cluster_master.proofs.Calls.{answered_told, answered_nothing, answered_weight, answered_called}
use Rattle.cluster_master.proofs.locked_book.LockedBook.call.Goals as goal

pub invariant_of-self : goal.invariant_of-self
invariant_of-self g c =
    let room : length c.self.inside.book.entries < 4096 = subst (λ v. length v.book.entries < 4096) (sym c.self.view_is) c.in_ok-make_ready.ensures.room in
    let added : c.added_weight-entered.result ≡ (if nat_lt (length c.self.inside.book.entries) (length c.call-answer.new.self.entries)
    then 1 + (call_octets c.args.call + answer_octets c.call-answer.result) / 1024 else 0) = cc in (
      λ none. answered_nothing _ _ _ _ _ _ _ c.self.inside.may_be_due (c.call-answer.ensures.entered room) c.self.invariant.0
          (sym c.may_be_due_after-self-inside.ensures ∙ none),
      c.saturating_add-self-inside.ensures
          ∙ answered_weight _ _ _ _ _ _ _ c.self.inside.weight c.added_weight-entered.result (c.call-answer.ensures.entered room) c.self.invariant.1 added,
      c.self.invariant.2,
    )

pub returns-clause-called : goal.returns-clause-called
returns-clause-called g c =
    let room : length c.self.inside.book.entries < 4096 = subst (λ v. length v.book.entries < 4096) (sym c.self.view_is) c.in_ok-make_ready.ensures.room in
    answered_called (λ store. witness (g.S.PurgeStore.is_honest store) (g.S.PurgeStore.may_find store) (g.S.PurgeStore.failed store)) c.args.self.now _
    c.call-answer.new.self _ c.args.call c.call-answer.result c.may_be_due_after-self-inside.result (c.self.view_is ∙ c.in_ok-make_ready.ensures.ready)
    (c.call-answer.ensures.entered room) c.may_be_due_after-self-inside.ensures

pub returns-clause-told : goal.returns-clause-told
returns-clause-told g c =
    let room : length c.self.inside.book.entries < 4096 = subst (λ v. length v.book.entries < 4096) (sym c.self.view_is) c.in_ok-make_ready.ensures.room in
    answered_told _ _ c.self.inside.book c.call-answer.new.self _ c.args.call c.call-answer.result (c.call-answer.ensures.entered room)
