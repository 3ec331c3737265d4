-- A step by its event. Only a datagram can meet a fault of the store; all other events call no
-- method that writes to it.
use Rattle.node_rules.specs.declared.event.Event.TheVariants as event
use Rattle.node_rules.specs.Step.{open_step}
use Rattle.node_core.specs.View.{setting_of}
use Rattle.node_core.proofs.Outcomes.{steps_may_close, without_fault}
use Rattle.values_keys.specs.KeyOf.{key_of}
use Rattle.node_core.proofs.node.Node.open_step.Goals as goal

pub returns-in-Datagram-clause-steps : goal.returns-in-Datagram-clause-steps
unfolding open_step
returns-in-Datagram-clause-steps g c key_of gives =
    rw c.in-Datagram.is (steps_may_close (setting_of c.args.self.now key_of) c.args.self.now.state
    (event.Datagram c.in-Datagram.from c.in-Datagram.message c.in-Datagram.now) c.args.mark c.datagram.result c.datagram.new.self.state c.requires
    (c.datagram.ensures.leads key_of gives))

pub returns-in-Client-clause-cause : goal.returns-in-Client-clause-cause
returns-in-Client-clause-cause g c = without_fault _ _ _ _ _ _ (c.ask.ensures.leads key_of)

pub returns-in-PeerAsk-clause-cause : goal.returns-in-PeerAsk-clause-cause
returns-in-PeerAsk-clause-cause g c = without_fault _ _ _ _ _ _ (c.ask-in-PeerAsk.ensures.leads key_of)

pub returns-in-PeerAnswer-clause-cause : goal.returns-in-PeerAnswer-clause-cause
returns-in-PeerAnswer-clause-cause g c = without_fault _ _ _ _ _ _ (c.peer_answer.ensures.leads key_of)

pub returns-in-OriginAnswer-clause-cause : goal.returns-in-OriginAnswer-clause-cause
returns-in-OriginAnswer-clause-cause g c = without_fault _ _ _ _ _ _ (c.origin_answer.ensures.leads key_of)

pub returns-in-ForeignAnswer-clause-cause : goal.returns-in-ForeignAnswer-clause-cause
returns-in-ForeignAnswer-clause-cause g c = without_fault _ _ _ _ _ _ (c.foreign_answer.ensures.leads key_of)

pub returns-in-FetchFailed-clause-cause : goal.returns-in-FetchFailed-clause-cause
returns-in-FetchFailed-clause-cause g c = without_fault _ _ _ _ _ _ (c.fetch_failed.ensures.leads key_of)

pub returns-in-Expired-clause-cause : goal.returns-in-Expired-clause-cause
returns-in-Expired-clause-cause g c = without_fault _ _ _ _ _ _ (c.round_expired.ensures.leads key_of)
