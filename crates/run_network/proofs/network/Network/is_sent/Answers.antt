-- For each kind of event, what is held is exactly what was sent (Holds), so the look-up decides.
use Rattle.std.proofs.Common.{◌≡◌, ◌↔◌, ℕ, Bool, true, subst, sym, ◌∙◌}
use Rattle.std.specs.Prelude.{IsTrue}
use Rattle.values_plain.specs.declared.address.Address.{Address}
use Rattle.values_tables.specs.declared.plain.Tables.{Tables}
use Rattle.node_rules.specs.declared.message.Message.{Message}
use Rattle.node_rules.specs.declared.event.Event.TheVariants as event
use Rattle.roster.specs.Lookups.{is_own}
use Rattle.node_rules.specs.Spelled.{IsSpelled}
use Rattle.run_rules.specs.Sent.{Network, IsSent}
use Rattle.run_network.specs.declared.letters.Letters.{Letters}
use Rattle.run_network.specs.Held.{HasLetter, HoldsLetters}
use Rattle.run_network.proofs.Sending.{letter}
use Rattle.run_network.proofs.network.Network.is_sent.Goals as goal

-- a datagram of a member or of the master was sent exactly if it is held
datagram_sent : (roster : Tables) (sent : Network) (letters : Letters) (node : ℕ) (from : Address) (m : Message) (now : ℕ) (b : Bool) →
    HoldsLetters roster letters sent.datagrams → IsSpelled m → is_own roster from ≡ true →
    IsTrue b ↔ HasLetter letters (letter from node m) → IsTrue b ↔ IsSent roster sent node (event.Datagram from m now)
datagram_sent roster sent letters node from m now b held spelled own has = (
  λ h. (spelled, λ _. (held.sent_to (letter from node m)).0 (has.0 h)),
  λ h. has.1 ((held.sent_to (letter from node m)).1 (h.1 own)),
)

pub returns-in-PeerAsk : goal.returns-in-PeerAsk
returns-in-PeerAsk c = λ sent held. (
  λ h. subst (IsSent c.args.roster.now sent c.args.node) (sym c.in-PeerAsk.is) ((held.asks _).0 (c.has_ask.ensures.0 h)),
  λ h. c.has_ask.ensures.1 ((held.asks _).1 (subst (IsSent c.args.roster.now sent c.args.node) c.in-PeerAsk.is h)),
)

pub returns-in-PeerAnswer : goal.returns-in-PeerAnswer
returns-in-PeerAnswer c = λ sent held. (
  λ h. subst (IsSent c.args.roster.now sent c.args.node) (sym c.in-PeerAnswer.is) ((held.answers _).0 (c.has_answer.ensures.0 h)),
  λ h. c.has_answer.ensures.1 ((held.answers _).1 (subst (IsSent c.args.roster.now sent c.args.node) c.in-PeerAnswer.is h)),
)

pub returns-else-not-is_own : goal.returns-else-not-is_own
returns-else-not-is_own c = λ sent held.
    let from = c.in-Datagram.from in
    let has = subst (λ m. IsTrue c.has_letter.result ↔ HasLetter c.args.self.now.letters (letter from c.args.node m)) c.message-message.ensures.value
    c.has_letter.ensures in
    subst (λ e. IsTrue c.has_letter.result ↔ IsSent c.args.roster.now sent c.args.node e) (sym c.in-Datagram.is)
    (datagram_sent c.args.roster.now sent c.args.self.now.letters c.args.node from c.in-Datagram.message c.in-Datagram.now c.has_letter.result held.letters
    c.message-message.ensures.spelled (sym c.is_own.ensures ∙ c.if-not-is_own.false) has)
