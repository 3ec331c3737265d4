-- What the rules say of a new request, case by case, as the code takes it.
use Rattle.std.proofs.Common.{◌≡◌, ℕ, suc, ◌+◌, ◌*◌, ◌==◌, Bool, true, false, cond, List, [], ◌∷◌, length, Option, Some, None, refl, sym, ap, ◌∙◌, arith}
use Rattle.std.proofs.lemmas.Bool.{false≢true}
use Rattle.std.proofs.lemmas.Bool.Decides.{nat_tests}
use Rattle.http_messages.specs.declared.ask.Ask.{Ask}
use Rattle.object_store.specs.declared.copy.WebCopy.{WebCopy}
use Rattle.object_store.specs.Listed.{to_front}
use Rattle.floor_rules.specs.Floors.{floor, seen}
use Rattle.std.specs.List.{filter_map}
use Rattle.values_tables.specs.declared.plain.Tables.{Tables}
use Rattle.values_tables.specs.declared.plain.Peer.{Peer}
use Rattle.roster.specs.Lookups.{peers_of}
use Rattle.peer_chooser.specs.Round.{RoundText, started}
use Rattle.node_rules.specs.declared.message.Outgoing.{Outgoing}
use Rattle.node_rules.specs.declared.state.Fetch.TheVariants.{AtOrigin}
use Rattle.node_rules.specs.declared.state.NodeState.{NodeState}
use Rattle.node_rules.specs.declared.reply.Served.TheVariants.{Copy, Status}
use Rattle.node_rules.specs.declared.reply.StepFault.TheVariants.{Busy}
use Rattle.node_rules.specs.declared.reply.Begin.TheVariants as begin
use Rattle.node_rules.specs.declared.reply.Reply.{Reply}
use Rattle.node_rules.specs.Known.{has_origin}
use Rattle.node_rules.specs.State.{Setting, Stepped, replies, refuses, is_outside, served_age, with_copies, beginning, serving}
use Rattle.node_rules.specs.Asks.{taking, passing, free_block, new_ask, begin_round, begin_with_read, begin_ask, begin_if_free, ask_around, is_cached_only, not_held}
use Rattle.node_rules.specs.Asks.{copy_for, by_copy, ask_comes_to, ask_comes, question_to}
use Rattle.node_rules.specs.Fetching.{fetching, origin_ask}

module _ {X : Type 0} (g : Setting) (s : NodeState X) (asker : Option ℕ) (ask : Ask) (block now : ℕ) (mark : X) where
  -- without an origin the request is answered at once
  pub read_without_origin : (roster : Tables) → roster ≡ g.roster → false ≡ has_origin roster ask.key → (next : NodeState X) (reply : Reply X) →
      next ≡ passing s block → reply ≡ serving None asker (Status 502) → begin_with_read g s asker ask block now mark ≡ replies next reply
  unfolding begin_with_read
  read_without_origin roster is_roster none next reply is_next is_reply =
      let none : has_origin g.roster ask.key ≡ false = rw (← is_roster) (sym none) in
      rw (none, is_next, is_reply)

  -- else it is pending with its first read
  pub reads_from_origin : (roster : Tables) → roster ≡ g.roster → true ≡ has_origin roster ask.key →
      (next : NodeState X) (reply : Reply X) (stamp serial : ℕ) (asked : Ask) → next ≡ taking s
      (fetching (new_ask block asker ask None) 1 (AtOrigin stamp now mark)) → stamp ≡ seen s.floors → reply ≡ beginning (begin.Read serial asked) →
      serial ≡ 32 * block + 1 → asked ≡ origin_ask ask → begin_with_read g s asker ask block now mark ≡ replies next reply
  unfolding begin_with_read
  reads_from_origin roster is_roster there next reply stamp serial asked is_next is_stamp is_reply is_serial is_asked =
      let there : has_origin g.roster ask.key ≡ true = rw (← is_roster) (sym there) in
      rw (there, is_next, is_stamp, is_reply, is_serial, is_asked)

-- a round begins
pub begins_round : {X : Type 0} (g : Setting) (s : NodeState X) (asker : Option ℕ) (ask : Ask) (block : ℕ) (round : RoundText) (next : NodeState X)
    (roster : Tables) (serial : ℕ) (asked : List Peer) (send : List Outgoing) → next ≡ taking s (new_ask block asker ask (Some round)) →
    send ≡ filter_map (question_to roster serial ask.key) asked → roster ≡ g.roster → asked ≡ round.asked → serial ≡ 32 * block + 0 →
    begin_round g s asker ask block round ≡ replies next record { serve = None; send = send; begin = Some (begin.Round serial) }
unfolding begin_round
begins_round g s asker ask block round next roster serial asked send is_next is_send is_roster is_asked is_serial =
    let same : serial ≡ 32 * block = omega arith in
    rw (is_next, is_send, is_roster, is_asked, same)

-- A new request: whom it asks

not_none : (n : ℕ) → (suc n == 0) ≡ true → ⊥
not_none n e = grind (arith, nat_tests)

module _ {X : Type 0} (g : Setting) (s : NodeState X) (asker : Option ℕ) (ask : Ask) (block now : ℕ) (mark : X) where
  abbrev reads : Stepped X
  reads = begin_with_read g s asker ask block now mark

  around : RoundText → Stepped X
  around round = ask_around g s asker ask block now mark round round.asked

  pub asks_nobody : ask.no_cache ≡ true → begin_ask g s asker ask now mark block ≡ reads
  unfolding begin_ask ask_around around
  asks_nobody uncached = ap (λ b. around (started (cond b [] (peers_of g.roster g.id)) (floor s.floors ask.key))) uncached

  among : (round : RoundText) (peers : List Peer) → Stepped X
  among round peers = ask_around g s asker ask block now mark round peers

  by_none : (round : RoundText) (peers : List Peer) → true ≡ (length peers == 0) → among round peers ≡ reads
  unfolding ask_around among
  by_none round [] none = refl
  by_none round (p ∷ peers) none = absurd (not_none (length peers) (sym none))

  by_some : (round : RoundText) (peers : List Peer) → false ≡ (length peers == 0) → among round peers ≡ begin_round g s asker ask block round
  unfolding ask_around among
  by_some round [] some = absurd (false≢true some)
  by_some round (p ∷ peers) some = refl

  module _ (cached : ask.no_cache ≡ false) (roster : Tables) (id limit : ℕ) (round : RoundText) (asked : List Peer) (is_roster : roster ≡ g.roster)
      (is_id : id ≡ g.id) (is_limit : limit ≡ floor s.floors ask.key) (is_round : round ≡ started (peers_of roster id) limit) (is_asked : asked ≡ round.asked)
    where
      asks_peers : begin_ask g s asker ask now mark block ≡ among round asked
      unfolding begin_ask around among
      asks_peers =
          let is : round ≡ started (peers_of g.roster g.id) (floor s.floors ask.key) = rw (← is_roster, ← is_id, ← is_limit) is_round in
          ap (λ b. around (started (cond b [] (peers_of g.roster g.id)) (floor s.floors ask.key))) cached
          ∙ ap around (sym is)
          ∙ ap (λ peers. among round peers) (sym is_asked)

      pub asks_none_of : true ≡ (length asked == 0) → begin_ask g s asker ask now mark block ≡ reads
      asks_none_of none = asks_peers ∙ by_none round asked none

      pub asks_some_of : false ≡ (length asked == 0) → begin_ask g s asker ask now mark block ≡ begin_round g s asker ask block round
      asks_some_of some = asks_peers ∙ by_some round asked some

module _ {X : Type 0} (g : Setting) (s : NodeState X) (asker : Option ℕ) (ask : Ask) (now : ℕ) (mark : X) where
  -- A request for which no copy may be served

  pub cached_only : true ≡ is_cached_only g asker ask → not_held g s asker ask now mark ≡ replies s (serving None asker (Status 504))
  unfolding not_held
  cached_only only = ap (λ b. cond b (replies s (serving None asker (Status 504))) (begin_if_free g s asker ask now mark (free_block s))) (sym only)

  if_free : (o : Option ℕ) → false ≡ is_cached_only g asker ask → o ≡ free_block s → not_held g s asker ask now mark ≡ begin_if_free g s asker ask now mark o
  unfolding not_held
  if_free o may is =
      ap (λ b. cond b (replies s (serving None asker (Status 504))) (begin_if_free g s asker ask now mark (free_block s))) (sym may)
      ∙ ap (begin_if_free g s asker ask now mark) (sym is)

  pub refused_busy : (o : Option ℕ) → false ≡ is_cached_only g asker ask → o ≡ free_block s → o ≡ None → not_held g s asker ask now mark ≡ refuses s Busy
  unfolding begin_if_free
  refused_busy o may is none = if_free o may is ∙ ap (begin_if_free g s asker ask now mark) none

  pub begins_ask : (o : Option ℕ) (block : ℕ) → false ≡ is_cached_only g asker ask → o ≡ free_block s → o ≡ Some block →
      not_held g s asker ask now mark ≡ begin_ask g s asker ask now mark block
  unfolding begin_if_free
  begins_ask o block may is some = if_free o may is ∙ ap (begin_if_free g s asker ask now mark) some

  -- A request that arrives

  pub comes_to : (outside : Bool) → is_outside g s ≡ outside → ask_comes g s asker ask now mark ≡ ask_comes_to g s asker ask now mark outside
  unfolding ask_comes
  comes_to outside is = ap (ask_comes_to g s asker ask now mark) is

  pub refuses_outside : is_outside g s ≡ true → ask_comes g s asker ask now mark ≡ replies s (serving None asker (Status 503))
  unfolding ask_comes_to
  refuses_outside is = comes_to true is

  pub serves_copy : (found : Option (WebCopy X)) → found ≡ copy_for s ask now → (copy : WebCopy X) → found ≡ Some copy →
      ask_comes_to g s asker ask now mark false ≡ replies (with_copies s (to_front ask.key s.copies)) (serving None asker (Copy copy (served_age copy now)))
  unfolding ask_comes_to by_copy
  serves_copy found is copy held = ap (by_copy g s asker ask now mark) (sym is ∙ held)

  pub serves_none : (found : Option (WebCopy X)) → found ≡ copy_for s ask now → found ≡ None →
      ask_comes_to g s asker ask now mark false ≡ not_held g s asker ask now mark
  unfolding ask_comes_to by_copy
  serves_none found is none = ap (by_copy g s asker ask now mark) (sym is ∙ none)
