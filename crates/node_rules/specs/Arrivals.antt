-- A response to a fetch arrives, a fetch fails, or a round expires. One rule for each event:
-- peer_answer, foreign_answer, origin_answer, fetch_failed, round_expired.
use Rattle.std.specs.Prelude.{ℕ, Bool, not, ◌&&◌, ◌==◌, nat_le, bytes_eq, List, [], ◌∷◌, ◌++◌, find, unwrap_or, Option, Some, None, if◌then◌else◌}
use Rattle.std.specs.List.{list_any}
use Rattle.http_messages.specs.Answer.{AnswerText}
use Rattle.object_store.specs.declared.copy.WebCopy.{WebCopy}
use Rattle.object_store.specs.Held.{Held, after_put}
use Rattle.floor_rules.specs.Floors.{floor}
use Rattle.reuse_rules.specs.Lifetime.{lifetime}
use Rattle.values_tables.specs.Ranges.{is_foreign_id}
use Rattle.values_tables.specs.declared.plain.Limits.{Limits}
use Rattle.peer_chooser.specs.Round.{RoundText, ended}
use Rattle.node_rules.specs.declared.state.Fetch.{Fetch}
use Rattle.node_rules.specs.declared.state.Fetch.TheVariants.{Nowhere, AtPeer, AtOrigin}
use Rattle.node_rules.specs.declared.state.Pending.{Pending}
use Rattle.node_rules.specs.declared.state.NodeState.{NodeState}
use Rattle.node_rules.specs.declared.reply.Served.TheVariants.{Copy}
use Rattle.node_rules.specs.declared.reply.StepFault.TheVariants.{UnknownSerial}
use Rattle.node_rules.specs.State.{Setting, Stepped, replies, refuses, quiet, serving, with_copies, changing, ending, served_age, round_serial, fetch_serial}
use Rattle.node_rules.specs.State.{is_idle}
use Rattle.node_rules.specs.Fetching.{go_on, give_up}

-- The event names no pending request. Nothing changes.
abbrev pub unknown : {X : Type 0} → NodeState X → Stepped X
unknown s = refuses s UnknownSerial

-- The request after its fetch has ended, with these peers tried.
abbrev pub not_fetching : {X : Type 0} → Pending X → List ℕ → Pending X
not_fetching p tried = record p { tried = tried; fetch = Nowhere }

-- A response as a copy. A response without a lifetime gets the lifetime 0.
abbrev pub new_copy : {X : Type 0} → List ℕ → ℕ → ℕ → Option ℕ → AnswerText → X → WebCopy X
new_copy key stamp asked life answer tag =
    record { key = key; stamp = stamp; asked = asked; lifetime = unwrap_or life 0; answer = answer; tag = tag }

-- The store of a node, within the roster's limits.
abbrev pub store_of : {X : Type 0} → Limits → List (WebCopy X) → Held X
store_of limits copies = record { limit_count = limits.copies; limit_bytes = limits.bytes; copies = copies }

-- The copies after a response arrived: only a copy with a lifetime is stored (RFC 9111, section 3).
abbrev pub stored : {X : Type 0} → Limits → WebCopy X → Option ℕ → List (WebCopy X) → List (WebCopy X)
stored limits c None copies = copies
stored limits c (Some life) copies = (after_put (store_of limits copies) c).copies

-- The copy is stored if it may be, and served to the request, which ends.
abbrev pub serve_new : {X : Type 0} → Setting → NodeState X → Pending X → WebCopy X → Option ℕ → ℕ → Stepped X
serve_new g s p c life now =
    replies (with_copies (ending s p.block) (stored g.roster.limits c life s.copies))
    (serving (Some p.block) p.asker (Copy c (served_age c now)))

-- A response that is used becomes a copy. [Answer 4]
unfoldable pub use_answer : {X : Type 0} → Setting → NodeState X → Pending X → ℕ → ℕ → AnswerText → X → ℕ → Stepped X
use_answer g s p stamp asked answer tag now =
    let life = lifetime answer g.roster.limits.default_lifetime in
    serve_new g s p (new_copy p.ask.key stamp asked life answer tag) life now

-- The peer counts as tried, since its fetch failed or its response is not used, and the request
-- goes on. [Answer 3]
unfoldable pub try_on : {X : Type 0} → Setting → NodeState X → Pending X → ℕ → ℕ → X → Stepped X
try_on g s p peer now mark = go_on g s (not_fetching p (p.tried ++ peer ∷ [])) now mark

-- A status of a gateway: 502, 503 or 504 (RFC 9110, sections 15.6.3 to 15.6.5).
abbrev pub is_gateway_fault : ℕ → Bool
is_gateway_fault status = list_any (λ s. s == status) (502 ∷ 503 ∷ 504 ∷ [])

-- A peer's response is used unless its status is a gateway's, or its stamp is below the key's floor
-- as it is now. [Answer 2]
unfoldable pub peer_gave : {X : Type 0} → Setting → NodeState X → Pending X → ℕ → ℕ → ℕ → AnswerText → X → ℕ → X →
    Stepped X
peer_gave g s p peer asked stamp answer tag now mark =
    if nat_le (floor s.floors p.ask.key) stamp && not (is_gateway_fault answer.status)
    then use_answer g s p stamp asked answer tag now
    else try_on g s p peer now mark

-- An origin's response is used unless the key's floor has risen above the stamp of the read. [Answer 2]
unfoldable pub origin_gave : {X : Type 0} → Setting → NodeState X → Pending X → ℕ → ℕ → X → AnswerText → ℕ → X →
    Stepped X
origin_gave g s p stamp asked read_mark answer now mark =
    if nat_le (floor s.floors p.ask.key) stamp
    then use_answer g s p stamp asked answer read_mark now
    else go_on g s (not_fetching p p.tried) now mark

-- The request is for this key, and this is the serial of its last fetch (that of its round before
-- the first one). [Refusal 1]
abbrev pub is_fetch : {X : Type 0} → ℕ → List ℕ → Pending X → Bool
is_fetch serial key p = (fetch_serial p == serial) && bytes_eq p.ask.key key

-- The response is used if the request is being fetched from this peer. [Refusal 1]
unfoldable pub from_peer : {X : Type 0} → Setting → NodeState X → Pending X → ℕ → ℕ → AnswerText → X → ℕ → X → Fetch X →
    Stepped X
from_peer g s p peer stamp answer tag now mark (AtPeer at asked) =
    if at == peer then peer_gave g s p peer asked stamp answer tag now mark else unknown s
from_peer g s p peer stamp answer tag now mark (AtOrigin read asked read_mark) = unknown s
from_peer g s p peer stamp answer tag now mark Nowhere = unknown s

-- A peer's response with this stamp comes to this request, if there is one.
unfoldable pub peer_answer_to : {X : Type 0} → Setting → NodeState X → ℕ → ℕ → AnswerText → X → ℕ → X →
    Option (Pending X) → Stepped X
peer_answer_to g s peer stamp answer tag now mark None = unknown s
peer_answer_to g s peer stamp answer tag now mark (Some p) = from_peer g s p peer stamp answer tag now mark p.fetch

-- A member responds. The stamp that it bears counts, 0 if it bears none. [Answer 1]
unfoldable pub peer_answer : {X : Type 0} → Setting → NodeState X → ℕ → ℕ → List ℕ → AnswerText → X → ℕ → X → Stepped X
peer_answer g s serial peer key answer tag now mark =
    if is_foreign_id peer
    then unknown s
    else peer_answer_to g s peer (unwrap_or answer.stamp 0) answer tag now mark (find (is_fetch serial key) s.pending)

-- A foreign cache responds. Its stamp counts as 0. [Answer 1]
unfoldable pub foreign_answer : {X : Type 0} → Setting → NodeState X → ℕ → ℕ → List ℕ → AnswerText → X → ℕ → X →
    Stepped X
foreign_answer g s serial peer key answer tag now mark =
    if is_foreign_id peer
    then peer_answer_to g s peer 0 answer tag now mark (find (is_fetch serial key) s.pending)
    else unknown s

-- The response is used if the request is being read from the origin.
unfoldable pub from_origin : {X : Type 0} → Setting → NodeState X → Pending X → AnswerText → ℕ → X → Fetch X → Stepped X
from_origin g s p answer now mark (AtOrigin stamp asked read_mark) =
    origin_gave g s p stamp asked read_mark answer now mark
from_origin g s p answer now mark (AtPeer peer asked) = unknown s
from_origin g s p answer now mark Nowhere = unknown s

-- An origin's response comes to this request, if there is one.
unfoldable pub origin_answer_to : {X : Type 0} → Setting → NodeState X → AnswerText → ℕ → X → Option (Pending X) →
    Stepped X
origin_answer_to g s answer now mark None = unknown s
origin_answer_to g s answer now mark (Some p) = from_origin g s p answer now mark p.fetch

-- The origin responds. The stamp and the mark of the read count.
unfoldable pub origin_answer : {X : Type 0} → Setting → NodeState X → ℕ → List ℕ → AnswerText → ℕ → X → Stepped X
origin_answer g s serial key answer now mark = origin_answer_to g s answer now mark
    (find (is_fetch serial key) s.pending)

-- The present fetch fails: a peer counts as tried, and a failed origin read is 502. [Answer 3]
unfoldable pub fails : {X : Type 0} → Setting → NodeState X → Pending X → ℕ → X → Fetch X → Stepped X
fails g s p now mark (AtPeer peer asked) = try_on g s p peer now mark
fails g s p now mark (AtOrigin stamp asked read_mark) = give_up s p (Some p.block) 502
fails g s p now mark Nowhere = unknown s

-- The fetch of this request fails, if there is one.
unfoldable pub failure_of : {X : Type 0} → Setting → NodeState X → ℕ → X → Option (Pending X) → Stepped X
failure_of g s now mark None = unknown s
failure_of g s now mark (Some p) = fails g s p now mark p.fetch

-- A fetch fails. A failed peer counts as tried; a failed origin read ends in 502 (RFC 9110, section
-- 15.6.3). [Refusal 2]
unfoldable pub fetch_failed : {X : Type 0} → Setting → NodeState X → ℕ → ℕ → X → Stepped X
fetch_failed g s serial now mark = failure_of g s now mark (find (λ p. fetch_serial p == serial) s.pending)

-- The request with its round as it is now.
abbrev pub with_round : {X : Type 0} → Pending X → RoundText → Pending X
with_round p r = record p { round = Some r }

-- A round has changed. A request goes on unless a fetch runs for it; else it only keeps the round.
unfoldable pub round_moves : {X : Type 0} → Setting → NodeState X → Pending X → ℕ → X → Stepped X
round_moves g s p now mark = if is_idle p.fetch then go_on g s p now mark else replies (changing s p) quiet

-- The round ends, if the request has one.
unfoldable pub expires : {X : Type 0} → Setting → NodeState X → Pending X → ℕ → X → Option RoundText → Stepped X
expires g s p now mark None = unknown s
expires g s p now mark (Some r) = round_moves g s (with_round p (ended r)) now mark

-- The round of this request ends, if there is one.
unfoldable pub expiry_of : {X : Type 0} → Setting → NodeState X → ℕ → X → Option (Pending X) → Stepped X
expiry_of g s now mark None = unknown s
expiry_of g s now mark (Some p) = expires g s p now mark p.round

-- A round expires: no more answers are waited for. Later ones still count. [Refusal 2]
unfoldable pub round_expired : {X : Type 0} → Setting → NodeState X → ℕ → ℕ → X → Stepped X
round_expired g s serial now mark = expiry_of g s now mark (find (λ p. round_serial p == serial) s.pending)
