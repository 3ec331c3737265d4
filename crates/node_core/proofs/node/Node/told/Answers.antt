-- An answer to the round of a request: no round, no peer of it or not its first answer, or an
-- answer that counts (proofs/HearingRounds).
use Rattle.std.proofs.Common.{Ok, ap}
use Rattle.node_core.specs.SaidWithStamp.{said_by}
use Rattle.node_core.specs.View.{NodeText, setting_of}
use Rattle.node_core.proofs.HearingRounds.{tells_at, no_round, no_peer, told_again, round_told}
use Rattle.node_core.proofs.node.Node.told.Goals.{in_default-peer_at-via-in-Some-peer_at+else-not-has_answered, in_default-peer_at-via-in_default-peer_at}
use Rattle.node_core.proofs.node.Node.told.Goals as goal

pub returns-in_default-clause-leads : goal.returns-in_default-clause-leads
returns-in_default-clause-leads g c = λ key_of.
    let v = c.args.self.now in
    let p = c.ask.result.now in
    tells_at (setting_of v key_of) v.state c.args.by c.args.from (said_by c.args.heard) c.args.now c.args.mark p c.args.place _
    (ap (λ (v : NodeText _ _). v.state.pending) c.self.view_is) c.ask.ensures.value (Ok c.quiet.result) v.state
    (no_round (setting_of v key_of) v.state c.args.by c.args.from (said_by c.args.heard) c.args.now c.args.mark p c.in_default.is _ c.quiet.ensures)

pub returns-in-Some-peer_at-clause-leads : goal.returns-in-Some-peer_at-clause-leads
returns-in-Some-peer_at-clause-leads g c = λ key_of.
    let v = c.args.self.now in
    let p = c.ask.result.now in
    round_told (setting_of v key_of) v.state c.args.by c.args.from (said_by c.args.heard) c.args.now c.args.mark p c.in-Some.round c.in-Some.is _
    (ap (λ (v : NodeText _ _). v.roster) c.self.view_is) _ c.peer_at.ensures c.args.place _
    (ap (λ (v : NodeText _ _). v.state.pending) c.self.view_is) c.ask.ensures.value c.in-Some-peer_at.peer c.in-Some-peer_at.is
    c.if-not-has_answered.ensures _ _ _ _ c.copy-round.ensures.value c.by.ensures c.answer.ensures c.copy.ensures.value c.round_moves.result
    c.round_moves.new.self.state
    (c.round_moves.ensures.leads key_of)

pub returns-in_default-peer_at-clause-leads : goal.returns-in_default-peer_at-clause-leads
returns-in_default-peer_at-clause-leads g c = λ key_of.
    let v = c.args.self.now in
    let p = c.ask.result.now in
    tells_at (setting_of v key_of) v.state c.args.by c.args.from (said_by c.args.heard) c.args.now c.args.mark p c.args.place _
    (ap (λ (v : NodeText _ _). v.state.pending) c.self.view_is) c.ask.ensures.value (Ok c.quiet-in_default-peer_at.result) v.state
    (elim c.in_default-peer_at.branch [
      | in_default-peer_at-via-in-Some-peer_at+else-not-has_answered w ↦
          told_again (setting_of v key_of) v.state c.args.by c.args.from (said_by c.args.heard) c.args.now c.args.mark p c.in-Some.round c.in-Some.is _
          (ap (λ (v : NodeText _ _). v.roster) c.self.view_is) _ c.peer_at.ensures w.in-Some-peer_at.peer w.in-Some-peer_at.is w.if-not-has_answered.ensures _
          c.quiet-in_default-peer_at.ensures
      | in_default-peer_at-via-in_default-peer_at w ↦
          no_peer (setting_of v key_of) v.state c.args.by c.args.from (said_by c.args.heard) c.args.now c.args.mark p c.in-Some.round c.in-Some.is _
          (ap (λ (v : NodeText _ _). v.roster) c.self.view_is) _ c.peer_at.ensures w.in_default-peer_at.is _ c.quiet-in_default-peer_at.ensures
    ])
