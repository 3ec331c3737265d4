-- Which response each served copy comes from, and with which age it is served: what the law of
-- sources says. EachHasSource and EachHasAge, the last definitions, are its clauses.
use Rattle.std.specs.Prelude.{◌≡◌, ◌⊎◌, ℕ, ◌+◌, List, [], ◌∷◌, ◌++◌, length, Some, Result, Ok}
use Rattle.std.specs.List.{Contains}
use Rattle.http_messages.specs.declared.ask.Ask.{Ask}
use Rattle.http_messages.specs.Answer.{AnswerText}
use Rattle.object_store.specs.declared.copy.WebCopy.{WebCopy}
use Rattle.node_rules.specs.declared.state.Fetch.TheVariants.{AtOrigin}
use Rattle.node_rules.specs.declared.state.Pending.{Pending}
use Rattle.node_rules.specs.declared.event.Event.{Event}
use Rattle.node_rules.specs.declared.event.Event.TheVariants as event
use Rattle.node_rules.specs.declared.reply.Served.TheVariants.{Copy}
use Rattle.node_rules.specs.declared.reply.Serve.{Serve}
use Rattle.node_rules.specs.declared.reply.Begin.TheVariants as begin
use Rattle.node_rules.specs.declared.reply.Reply.{Reply}
use Rattle.node_rules.specs.declared.reply.StepFault.{StepFault}
use Rattle.node_rules.specs.State.{fetch_serial, served_age}
use Rattle.node_rules.specs.Questions.{begun}
use Rattle.values_tables.specs.declared.plain.Tables.{Tables}
use Rattle.world_rules.specs.declared.event.WorldEvent.{WorldEvent}
use Rattle.world_rules.specs.World.{World, new_world, node_at}
use Rattle.world_rules.specs.Consequence.{Replied, NodeSteps, consequence}
use Rattle.world_rules.specs.Run.{Step, Run, Happens, IsServedAt}

-- At this place of a run, a member's node took a step with this event and outcome: also the steps
-- and the world before it.
pub record NodeStepAt (roster : Tables) (steps : List Step) (place id : ℕ) (e : Event ℕ)
    (outcome : Result (Reply ℕ) StepFault) : Type 0 where
  pub past : List Step
  pub before : World
  pub cause : WorldEvent
  pub serial : ℕ
  pub rest : List Step
  pub place_is : place ≡ length past + 1
  pub parts : steps ≡ (past ++ record { event = cause; seen = Replied id outcome } ∷ []) ++ rest
  pub runs : Run roster 1 (new_world roster) past before
  pub meets : consequence roster before cause ≡ NodeSteps id e serial

-- what is held has the status, fields and body of the response
pub record HasContent (answer held : AnswerText) : Type 0 where
  pub status : held.status ≡ answer.status
  pub fields : held.fields ≡ answer.fields
  pub body : held.body ≡ answer.body

-- at this place the member began to read this key from its origin, under this serial
pub record BeginsReadAt (roster : Tables) (steps : List Step) (place id serial : ℕ) (key : List ℕ) : Type 0 where
  pub e : Event ℕ
  pub outcome : Result (Reply ℕ) StepFault
  pub step : NodeStepAt roster steps place id e outcome
  pub ask : Ask
  pub begins : begun outcome ≡ Some (begin.Read serial ask)
  pub asks : ask.key ≡ key

-- what is held is an origin's response for the key, to a read that began at the mark and was
-- pending when the response came
pub record IsFromOrigin (roster : Tables) (steps : List Step) (key : List ℕ) (mark : ℕ) (held : AnswerText) :
    Type 0 where
  pub id : ℕ
  pub serial : ℕ
  pub begins : BeginsReadAt roster steps mark id serial key
  pub place : ℕ
  pub answer : AnswerText
  pub now : ℕ
  pub outcome : Result (Reply ℕ) StepFault
  pub comes : NodeStepAt roster steps place id (event.OriginAnswer serial key answer now) outcome
  pub read : Pending ℕ
  pub waits : Contains (node_at comes.before.states id).pending read
  pub as_serial : fetch_serial read ≡ serial
  pub stamp : ℕ
  pub asked : ℕ
  pub since_mark : read.fetch ≡ AtOrigin stamp asked mark
  pub content : HasContent answer held

-- what is held is a foreign cache's response for the key; its mark is 0
pub record IsFromForeign (roster : Tables) (steps : List Step) (key : List ℕ) (mark : ℕ) (held : AnswerText) :
    Type 0 where
  pub id : ℕ
  pub serial : ℕ
  pub peer : ℕ
  pub place : ℕ
  pub answer : AnswerText
  pub now : ℕ
  pub outcome : Result (Reply ℕ) StepFault
  pub unmarked : mark ≡ 0
  pub comes : NodeStepAt roster steps place id (event.ForeignAnswer serial peer key answer 0 now) outcome
  pub content : HasContent answer held

-- what is held for a key under a mark comes from an origin or from a foreign cache
abbrev pub HasSource : Tables → List Step → List ℕ → ℕ → AnswerText → Type 0
HasSource roster steps key mark held = IsFromOrigin roster steps key mark held
    ⊎ IsFromForeign roster steps key mark held

-- the copy's content comes from such a source, for its key under its mark
abbrev pub IsSourcedCopy : Tables → List Step → WebCopy ℕ → Type 0
IsSourcedCopy roster steps c = HasSource roster steps c.key c.tag c.answer

-- each copy that a member begins to serve has the status, fields and body of one response for its
-- key: an origin's, to the read that began at its mark, or a foreign cache's
abbrev pub EachHasSource : Tables → List Step → Type 0
EachHasSource roster steps = (place : ℕ) (c : WebCopy ℕ) → IsServedAt steps place c → IsSourcedCopy roster steps c

-- After the steps, each copy that an event makes a member serve has the age of the response plus
-- the time since it was requested, at most 2147483648 seconds (RFC 9111, sections 1.2.2 and 4.2.3).
abbrev pub EachHasAge : Tables → List Step → World → Type 0
EachHasAge roster steps before =
    (cause : WorldEvent) (id : ℕ) (reply : Reply ℕ) (serve : Serve ℕ) (c : WebCopy ℕ) (age : ℕ) (after : World) →
    Happens roster (length steps + 1) before cause (Replied id (Ok reply)) after → reply.serve ≡ Some serve →
    serve.served ≡ Copy c age →
    age ≡ served_age c before.clock
