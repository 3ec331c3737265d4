-- The rule takes what an answer says as a function of the peer, the code as a pair
-- (`SaidWithStamp`). If both say the same of each peer, the rule leads to the same.
use Rattle.std.proofs.Common.{◌≡◌, ℕ, Bool, true, false, cond, List, Option, Some, None, Result, refl, ap, subst, ◌∙◌, ◌==◌}
use Rattle.htcp_wire.specs.declared.message.Detail.{Detail}
use Rattle.htcp_wire.specs.declared.message.Content.TheVariants as content
use Rattle.values_plain.specs.declared.address.Address.{Address}
use Rattle.values_plain.specs.declared.address.Udp.{Udp}
use Rattle.values_plain.specs.declared.address.Udp.TheVariants as udp
use Rattle.values_tables.specs.declared.plain.Peer.{Peer}
use Rattle.values_tables.specs.Ranges.{is_foreign_id}
use Rattle.peer_chooser.specs.declared.said.Said.{Said}
use Rattle.peer_chooser.specs.declared.said.Said.TheVariants as said
use Rattle.node_rules.specs.declared.state.Pending.{Pending}
use Rattle.node_rules.specs.declared.state.NodeState.{NodeState}
use Rattle.node_rules.specs.declared.reply.Reply.{Reply}
use Rattle.node_rules.specs.declared.reply.StepFault.{StepFault}
use Rattle.node_rules.specs.State.{Setting}
use Rattle.node_rules.specs.Relation.{raise_in_content}
use Rattle.node_rules.specs.Datagrams.{peer_at, hears, told_by, told_to, htcp_told, htcp_comes, tst_refused, tst_hit_said}
use Rattle.node_core.specs.declared.questions.SaidWithStamp.{SaidWithStamp}
use Rattle.node_core.specs.SaidWithStamp.{said_by}
use Rattle.node_core.specs.Leads.{Leads, MayClose}
use Rattle.node_core.proofs.Outcomes.{leads_may_close}

either : (b : Bool) (word : Said) → cond b word word ≡ word
either true word = refl
either false word = refl

-- an answer that says the same whoever sent it
pub of_both : (word : Said) (heard : SaidWithStamp) → heard ≡ record { member = word; foreign = word } → (p : Peer) → said_by heard p ≡ word
of_both word heard is p = ap (λ h. said_by h p) is ∙ either (is_foreign_id p.id) word

module _ {X : Type 0} (g : Setting) (s : NodeState X) (from : Address) (trans now : ℕ) (mark : X) (one other : Peer → Said)
    (same : (p : Peer) → one p ≡ other p) where
  by_peer : (p : Pending X) (peer : Option Peer) → told_by g s p one now mark peer ≡ told_by g s p other now mark peer
  unfolding told_by
  by_peer p None = refl
  by_peer p (Some peer) = ap (λ word. hears g s p peer word now mark p.round) (same peer)

  to_ask : (by : Udp) (p : Option (Pending X)) → told_to g s by from one now mark p ≡ told_to g s by from other now mark p
  unfolding told_to
  to_ask by None = refl
  to_ask by (Some p) = by_peer p (peer_at g by from p.round)

  told_alike : htcp_told g s from trans one now mark ≡ htcp_told g s from trans other now mark
  unfolding htcp_told
  told_alike = to_ask udp.Htcp _

module _ {X : Type 0} (g : Setting) (s : NodeState X) (from : Address) (trans now : ℕ) (mark : X) (heard : SaidWithStamp) (out : Result (Reply X) StepFault)
    (next : NodeState X) where
  alike : (other : Peer → Said) → ((p : Peer) → said_by heard p ≡ other p) → Leads (htcp_told g s from trans (said_by heard) now mark) s out next →
      Leads (htcp_told g s from trans other now mark) s out next
  alike other same h = subst (λ to. Leads to s out next) (told_alike g s from trans now mark (said_by heard) other same) h

  pub no_tst : (opcode : ℕ) → (opcode == 1) ≡ true → heard ≡ record { member = said.NoFetch; foreign = said.NoFetch } →
      Leads (htcp_told g s from trans (said_by heard) now mark) s out next
      → Leads (tst_refused g s from trans opcode now mark) s out next
  unfolding tst_refused
  no_tst opcode is of h = rw is (alike (λ p. said.NoFetch) (of_both said.NoFetch heard of) h)

  pub miss : (cache : List ℕ) → heard ≡ record { member = said.Miss; foreign = said.Miss } →
      Leads (htcp_told g s from trans (said_by heard) now mark) s out next
      → MayClose (htcp_comes g s from trans now mark (content.TstMiss cache)) s (raise_in_content g from trans (content.TstMiss cache)) out next
  unfolding htcp_comes
  miss cache of h = leads_may_close _ s None out next (alike (λ p. said.Miss) (of_both said.Miss heard of) h)

  pub hit : (detail : Detail) → ((p : Peer) → said_by heard p ≡ tst_hit_said detail.cache_headers p) →
      Leads (htcp_told g s from trans (said_by heard) now mark) s out next
      → MayClose (htcp_comes g s from trans now mark (content.TstHit detail)) s (raise_in_content g from trans (content.TstHit detail)) out next
  unfolding htcp_comes
  hit detail of h = leads_may_close _ s None out next (alike (tst_hit_said detail.cache_headers) of h)
