-- What a step makes of a request.
use Rattle.std.specs.Prelude.{◌≡◌, ◌⊎◌, ℕ, Option, Some, None}
use Rattle.node_rules.specs.declared.event.Event.{Event}
use Rattle.node_rules.specs.declared.event.Event.TheVariants as event
use Rattle.node_rules.specs.declared.reply.Served.{Served}
use Rattle.node_rules.specs.declared.reply.Begin.{Begin}
use Rattle.node_rules.specs.declared.reply.Reply.{Reply}
use Rattle.node_rules.specs.State.{serving}

-- The sender is served at once, and nothing else is done.
pub record ServesAtOnce {X : Type 0} (asker : Option ℕ) (reply : Reply X) : Type 0 where
  pub served : Served X
  pub alone : reply ≡ serving None asker served

-- Nobody is served, and a round or a fetch begins.
pub record BeginsFor {X : Type 0} (reply : Reply X) : Type 0 where
  pub begun : Begin
  pub begins : reply.begin ≡ Some begun
  pub serves : reply.serve ≡ None

-- One of the two.
abbrev pub AnswersAsker : {X : Type 0} → Option ℕ → Reply X → Type 0
AnswersAsker asker reply = ServesAtOnce asker reply ⊎ BeginsFor reply

-- A request is served at once, or waits for what begins with it. Other events are free.
abbrev pub AnswersAsk : {X : Type 0} → Event X → Reply X → Type 0
AnswersAsk (event.Client ask now) reply = AnswersAsker None reply
AnswersAsk (event.PeerAsk asker ask now) reply = AnswersAsker (Some asker) reply
AnswersAsk _ reply = Unit {0}
