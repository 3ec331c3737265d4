-- How what was sent is held, and when that is the network of run_rules (Holds, the last
-- definition).
use Rattle.std.specs.Prelude.{◌≡◌, ◌↔◌, ℕ, nat_eq, List, ◌++◌, Contains, find, option_map, Option}
use Rattle.std.specs.HashMap.{get}
use Rattle.std.specs.Option.{option_and_then}
use Rattle.values_tables.specs.declared.plain.Tables.{Tables}
use Rattle.world_rules.specs.World.{Datagram}
use Rattle.run_rules.specs.Sent.{Network, SentAsk, SentAnswer, Waits, text_of, is_waiting, ComesTo, IsAnswerOf}
use Rattle.run_network.specs.declared.letters.Letter.{Letter}
use Rattle.run_network.specs.declared.letters.Acknowledgement.{Acknowledgement}
use Rattle.run_network.specs.declared.letters.Letters.{Letters}
use Rattle.run_network.specs.declared.asks.SentAsk.{SentAsk as HeldAsk}
use Rattle.run_network.specs.declared.asks.Asks.{Asks}
use Rattle.run_network.specs.declared.answers.SentAnswer.{SentAnswer as HeldAnswer}
use Rattle.run_network.specs.declared.answers.Answers.{Answers}
use Rattle.run_network.specs.declared.waits.Waits.{Waits as HeldWaits}
use Rattle.run_network.specs.declared.network.Network.{Network as Held}
use Rattle.run_network.specs.Bags.{bag_of, Has}
use Rattle.run_network.specs.Prints.{letter_print, ask_print, answer_print}

-- Datagrams

-- this datagram to a member is held, under its print
abbrev pub HasLetter : Letters → Letter → Type 0
HasLetter letters l = Has (λ i. i) (bag_of letters.bags (letter_print letters.keys l.sender l.receiver l.message)) l

-- this response to a CLR is held, under its TRANS-ID
abbrev pub HasAcknowledged : Letters → ℕ → Acknowledgement → Type 0
HasAcknowledged letters trans a = Has (λ i. i) (bag_of letters.acknowledged trans) a

-- one of the datagrams that were sent is this one, and is for the member
abbrev pub IsSentTo : Tables → List Datagram → Letter → Type 0
IsSentTo roster sent l = (d : Datagram) × Contains sent d × (d.sender ≡ l.sender) × (d.message ≡ l.message)
    × ComesTo roster l.receiver d

-- one of the datagrams that were sent is the member's response to the CLR
abbrev pub IsAnswered : Tables → List Datagram → ℕ → Acknowledgement → Type 0
IsAnswered roster sent trans a = (d : Datagram) × Contains sent d × IsAnswerOf roster a.member trans a.code d

-- exactly these datagrams are held, as far as they are looked for
pub record HoldsLetters (roster : Tables) (letters : Letters) (sent : List Datagram) : Type 0 where
  pub sent_to : (l : Letter) → HasLetter letters l ↔ IsSentTo roster sent l
  pub answered : (trans : ℕ) (a : Acknowledgement) → HasAcknowledged letters trans a ↔ IsAnswered roster sent trans a

-- Requests

-- the request that a held one refers to
abbrev pub ask_in : HeldAsk → SentAsk
ask_in a = record { sender = a.sender; receiver = a.receiver; ask = a.ask.now }

-- this request is held, under its print
abbrev pub HasAsk : Asks → SentAsk → Type 0
HasAsk asks a = Has ask_in (bag_of asks.bags (ask_print asks.keys a.sender a.receiver a.ask.key)) a

-- exactly these requests are held
abbrev pub HoldsAsks : Asks → List SentAsk → Type 0
HoldsAsks asks sent = (a : SentAsk) → HasAsk asks a ↔ Contains sent a

-- Responses

-- the response that a held one refers to
abbrev pub answer_in : HeldAnswer → SentAnswer
answer_in a = record { sender = a.sender; receiver = a.receiver; key = a.key.now; answer = text_of a.served.now }

-- this response is held, under its print
abbrev pub HasAnswer : Answers → SentAnswer → Type 0
HasAnswer answers a = Has answer_in (bag_of answers.bags (answer_print answers.keys a.sender a.receiver a.key a.answer))
    a

-- exactly these responses are held
abbrev pub HoldsAnswers : Answers → List SentAnswer → Type 0
HoldsAnswers answers sent = (a : SentAnswer) → HasAnswer answers a ↔ Contains sent a

-- Requests that wait

-- the key that is held for a node and a block
abbrev pub key_at : HeldWaits → ℕ → ℕ → Option (List ℕ)
key_at waits node block = option_and_then (λ blocks. option_map (λ k. k.now) (get nat_eq blocks block))
    (get nat_eq waits.nodes node)

-- the key of the first of these requests that waits at the node as the block: the latest one
abbrev pub waiting_key : List Waits → ℕ → ℕ → Option (List ℕ)
waiting_key waiting node block = option_map (λ w. w.key) (find (is_waiting node block) waiting)

-- for each node and block, the key that is held is that of the first of these requests there
abbrev pub HoldsWaits : HeldWaits → List Waits → Type 0
HoldsWaits waits waiting = (node block : ℕ) → key_at waits node block ≡ waiting_key waiting node block

-- All of it

-- the network with these responses sent too
abbrev pub with_answers : Network → List SentAnswer → Network
with_answers n more = record n { answers = n.answers ++ more }

-- the network in which these requests wait too
abbrev pub with_waits : Network → List Waits → Network
with_waits n more = record n { waiting = more ++ n.waiting }

-- what is held is this network
pub record Holds (roster : Tables) (held : Held) (n : Network) : Type 0 where
  pub letters : HoldsLetters roster held.letters n.datagrams
  pub asks : HoldsAsks held.asks n.asks
  pub answers : HoldsAnswers held.answers n.answers
  pub waits : HoldsWaits held.waits n.waiting
