-- The event that a node gets at the end of a fetch.
use Rattle.std.specs.Prelude.{ℕ, List, Bool, true, false, not, ◌&&◌, Option, Some, None, if◌then◌else◌}
use Rattle.http_messages.specs.Answer.{AnswerText}
use Rattle.node_rules.specs.declared.event.Event.{Event}
use Rattle.node_rules.specs.declared.event.Event.TheVariants.{PeerAnswer, ForeignAnswer, OriginAnswer, FetchFailed}
use Rattle.node_rules.specs.Arrivals.{is_gateway_fault}
use Rattle.cluster_fetch.specs.declared.events.ResponseSource.{ResponseSource}
use Rattle.cluster_fetch.specs.declared.events.ResponseSource.TheVariants.{Member, Foreign, Origin}

-- a response carries a purge stamp
abbrev pub is_stamped : Option ℕ → Bool
is_stamped (Some stamp) = true
is_stamped None = false

-- the responses that a node gets: of a peer none with 502, 503 or 504, and of a member none without a stamp
abbrev pub is_told : ResponseSource → AnswerText → Bool
is_told (Member id) a = not (is_gateway_fault a.status) && is_stamped a.stamp
is_told (Foreign id) a = not (is_gateway_fault a.status)
is_told Origin a = true

-- the event of a response
abbrev pub event_of_answer : ResponseSource → ℕ → List ℕ → AnswerText → ℕ → Event (Unit {0})
event_of_answer (Member id) serial key answer now = PeerAnswer serial id key answer tt now
event_of_answer (Foreign id) serial key answer now = ForeignAnswer serial id key answer tt now
event_of_answer Origin serial key answer now = OriginAnswer serial key answer now

-- the event of a fetch: a response that the node gets, or a failure [HTTP 18]
abbrev pub event_of_fetch : ResponseSource → ℕ → List ℕ → Option AnswerText → ℕ → Event (Unit {0})
event_of_fetch source serial key None now = FetchFailed serial now
event_of_fetch source serial key (Some a) now = if is_told source a then event_of_answer source serial key a now
    else FetchFailed serial now
