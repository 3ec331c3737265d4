-- Each step of a node answers what was requested, with its age, and a new request gets a block that
-- is free. The proof goes over the rules of a node, in the order of node_rules: each serves the
-- request that it was given, and keeps those that wait.
use Rattle.std.proofs.Common.{◌≡◌, ◌≢◌, ℕ, ◌+◌, ◌*◌, ◌/◌, Bool, true, false, not, ◌&&◌, ◌||◌, List, [], ◌∷◌, ◌++◌, find, Option, Some, None, Result, Ok, Err}
use Rattle.std.proofs.Common.{refl, sym, ◌∙◌, ap, subst, nat_le, nat_eq, inl, inr, arith}
use Rattle.std.specs.List.{AllByRecursion, Contains}
use Rattle.std.proofs.lemmas.Option.{cond_some, none-some}
use Rattle.icp_wire.specs.declared.message.IcpOp.{IcpOp}
use Rattle.icp_wire.specs.declared.message.IcpOp.TheVariants as op
use Rattle.icp_wire.specs.declared.message.Icp.{Icp}
use Rattle.htcp_wire.specs.declared.fault.HtcpFault.{HtcpFault}
use Rattle.htcp_wire.specs.declared.message.Content.{Content}
use Rattle.htcp_wire.specs.declared.message.Content.TheVariants as content
use Rattle.http_messages.specs.declared.ask.Ask.{Ask}
use Rattle.http_messages.specs.Answer.{AnswerText}
use Rattle.object_store.specs.declared.copy.WebCopy.{WebCopy}
use Rattle.object_store.specs.Copy.{is_of}
use Rattle.object_store.specs.Listed.{copy_of}
use Rattle.floor_rules.specs.Floors.{floor, seen}
use Rattle.reuse_rules.specs.Lifetime.{lifetime}
use Rattle.values_tables.specs.Ranges.{is_foreign_id}
use Rattle.values_plain.specs.declared.address.Address.{Address}
use Rattle.values_tables.specs.declared.plain.Peer.{Peer}
use Rattle.values_plain.specs.declared.address.Udp.{Udp}
use Rattle.values_plain.specs.declared.address.Udp.TheVariants as udp
use Rattle.roster.specs.Lookups.{is_master}
use Rattle.peer_chooser.specs.declared.said.Said.{Said}
use Rattle.peer_chooser.specs.declared.said.Source.{Source}
use Rattle.peer_chooser.specs.declared.said.Source.TheVariants as source
use Rattle.peer_chooser.specs.Round.{RoundText, has_answered, answered, ended}
use Rattle.node_rules.specs.declared.message.Message.{Message}
use Rattle.node_rules.specs.declared.message.Message.TheVariants as message
use Rattle.node_rules.specs.declared.state.Fetch.{Fetch}
use Rattle.node_rules.specs.declared.state.Fetch.TheVariants.{Nowhere, AtPeer, AtOrigin}
use Rattle.node_rules.specs.declared.state.Pending.{Pending}
use Rattle.node_rules.specs.declared.state.NodeState.{NodeState}
use Rattle.node_rules.specs.declared.event.Event.{Event}
use Rattle.node_rules.specs.declared.event.Event.TheVariants as event
use Rattle.node_rules.specs.declared.reply.Reply.{Reply}
use Rattle.node_rules.specs.declared.reply.StepFault.{StepFault}
use Rattle.node_rules.specs.Known.{has_origin, is_known}
use Rattle.node_rules.specs.declared.raising.Raise.{Raise}
use Rattle.node_rules.specs.declared.raising.Raise.TheVariants.{Floor, Base}
use Rattle.node_rules.specs.State.{Setting, Stepped, replies, refuses, quiet, is_outside, ending, changing, is_idle, is_of_block, is_good, if_good}
use Rattle.node_rules.specs.State.{good_copy, served_age}
use Rattle.node_rules.specs.Fetching.{fetching, ask_peer, begin_read, read_origin, go_to, go_on}
use Rattle.node_rules.specs.Asks.{free_block, taking, passing, new_ask, is_cached_only, begin_round, begin_with_read, ask_around, begin_ask, begin_if_free, not_held}
use Rattle.node_rules.specs.Asks.{by_copy, copy_for, ask_comes_to, ask_comes}
use Rattle.node_rules.specs.Arrivals.{new_copy, not_fetching, with_round, use_answer, try_on, is_gateway_fault, peer_gave, origin_gave, from_peer}
use Rattle.node_rules.specs.Arrivals.{peer_answer_to, peer_answer, foreign_answer, from_origin, origin_answer_to, origin_answer, fails, failure_of}
use Rattle.node_rules.specs.Arrivals.{fetch_failed, round_moves, expires, expiry_of, round_expired}
use Rattle.node_rules.specs.Datagrams.{purged, if_desired, icp_query, htcp_tst, hears, told_by, told_to, icp_told, htcp_told, purge, rebased, rebase}
use Rattle.node_rules.specs.Datagrams.{raising_clr, dropped}
use Rattle.node_rules.specs.Datagrams.{plain_clr, clr_by_line, clr_by_lines, htcp_clr, icp_comes, tst_refused, htcp_comes, datagram}
use Rattle.node_rules.specs.Step.{open_step, step_if, step}
use Rattle.node_rules.specs.Relation.{Steps, Closes, ClosesOn, raise_in}
use Rattle.node_rules.proofs.Cases.{branches, unless_refused, same_Some}
use Rattle.node_rules.proofs.FloorLaws.{same_text}
use Rattle.node_rules.proofs.Pendings.{all_mapped, all_contained, found, found_passes, all_changed, all_left}
use Rattle.node_rules.proofs.Blocks.{all_inserted, free_is_free}
use Rattle.node_rules.proofs.Stepping.{steps_case, closing_closes}
use Rattle.world_rules.specs.World.{reply_in}
use Rattle.world_rules.specs.Asked.{moment, Asks, Waits, block_begun, IsAskAfter, IsFor, ServesRightly, AnswersAsks}

-- a copy that is chosen for a request is of its key
good_key : {X : Type 0} (floor now : ℕ) (o : Option (WebCopy X)) (c : WebCopy X) → if_good floor now o ≡ Some c → o ≡ Some c
good_key floor now None c e = e
good_key floor now (Some d) c e = ap Some (cond_some (is_good floor now d) d c e).1

copy_key : {X : Type 0} (s : NodeState X) (ask : Ask) (now : ℕ) (c : WebCopy X) → copy_for s ask now ≡ Some c → c.key ≡ ask.key
copy_key s ask now c e =
    let good : good_copy s ask.key now ≡ Some c = unless_refused ask.no_cache (good_copy s ask.key now) c e in
    same_text c.key ask.key (found_passes (is_of ask.key) s.copies c (good_key (floor s.floors ask.key) now (copy_of ask.key s.copies) c good))

-- The block of a new request

round_block : (block : ℕ) → (32 * block) / 32 ≡ block
round_block block = omega arith

read_block : (block : ℕ) → (32 * block + (0 + 1)) / 32 ≡ block
read_block block = omega arith

-- all but the block that a new request gets
module _ {X : Type 0} (s : NodeState X) (e : Event X) where
  pub record AnswersSome (outcome : Result (Reply X) StepFault) (next : NodeState X) : Type 0 where
    pub asks : AllByRecursion (IsAskAfter s e outcome) next.pending
    pub opens : next.closed ≡ false → s.closed ≡ false
    pub serves : ServesRightly s e outcome

module _ {X : Type 0} (g : Setting) (s : NodeState X) (e : Event X) (mark : X) (is_open : s.closed ≡ false) where
  abbrev pub Answers : Stepped X → Type 0
  Answers r = AnswersSome s e r.outcome r.state

  abbrev pub HasWaited : Pending X → Type 0
  HasWaited p = Waits s p.block p.asker p.ask

  -- the requests that wait in a state that rules have led to waited before
  abbrev pub GoesOn : NodeState X → Type 0
  GoesOn t = AllByRecursion HasWaited t.pending

  plainly : (t : NodeState X) (outcome : Result (Reply X) StepFault) → GoesOn t → ServesRightly s e outcome → Answers record { state = t; outcome = outcome }
  plainly t outcome on serves =
      record { asks = all_mapped HasWaited (IsAskAfter s e outcome) (λ p h. inl h) t.pending on; opens = λ _. is_open; serves = serves }

  ended_so : (t : NodeState X) (block : ℕ) (outcome : Result (Reply X) StepFault) → GoesOn t → ServesRightly s e outcome →
      Answers record { state = ending t block; outcome = outcome }
  ended_so t block outcome on serves = plainly (ending t block) outcome (all_left HasWaited (λ q. not (is_of_block block q)) t.pending on) serves

  changed_so : (t : NodeState X) (p : Pending X) (outcome : Result (Reply X) StepFault) → GoesOn t → HasWaited p → ServesRightly s e outcome →
      Answers record { state = changing t p; outcome = outcome }
  changed_so t p outcome on is serves = plainly (changing t p) outcome (all_changed HasWaited (is_of_block p.block) p t.pending is on) serves

  was_waiting : (p : Pending X) → Contains s.pending p → HasWaited p
  was_waiting p has = record { was = p; waits = has; block_same = refl; asker_same = refl; ask_same = refl }

  -- a request that waits is served as its block
  waits_served : (p : Pending X) → HasWaited p → (key : List ℕ) × IsFor s e (Some p.block) p.asker key
  waits_served p w = (p.ask.key, (w.was, w.waits, w.block_same, w.asker_same, ap (λ (a : Ask). a.key) w.ask_same))

  here : GoesOn s
  here = all_mapped (Contains s.pending) HasWaited was_waiting s.pending (all_contained s.pending)

  silent : Answers (replies s quiet)
  silent = plainly s _ here tt

  refused : (f : StepFault) → Answers (refuses s f)
  refused f = plainly s _ here tt

  -- Going on

  read_origin_answers : (t : NodeState X) → GoesOn t → (p : Pending X) → HasWaited p → (now : ℕ) → Answers (read_origin g t p (Some p.block) now mark)
  unfolding read_origin begin_read
  read_origin_answers t on p is now =
      branches Answers (nat_le 3 p.reads) _ _ (λ _. ended_so t p.block _ on (waits_served p is))
      (λ _. branches Answers (has_origin g.roster p.ask.key) _ _ (λ _. changed_so t (fetching p (p.reads + 1) (AtOrigin (seen t.floors) now mark)) _ on is tt)
      (λ _. ended_so t p.block _ on (waits_served p is)))

  go_to_answers : (t : NodeState X) → GoesOn t → (p : Pending X) → Waits s p.block p.asker p.ask → (now : ℕ) (to : Source) → Answers (go_to g t p now mark to)
  unfolding go_to ask_peer
  go_to_answers t on p waits now source.Wait = changed_so t p _ on waits tt
  go_to_answers t on p waits now (source.Peer peer cached) = changed_so t (fetching p p.reads (AtPeer peer now)) _ on waits tt
  go_to_answers t on p waits now source.Origin = read_origin_answers t on p waits now

  go_on_answers : (t : NodeState X) → GoesOn t → (p : Pending X) → Waits s p.block p.asker p.ask → (now : ℕ) → Answers (go_on g t p now mark)
  unfolding go_on
  go_on_answers t on p waits now = go_to_answers t on p waits now _

  -- Requests

  module _ (asker : Option ℕ) (ask : Ask) (now : ℕ) (asks : Asks e asker ask) (at : now ≡ moment e) where
    -- a new request waits, with the block of what begins
    waits_too : (p : Pending X) (outcome : Result (Reply X) StepFault) → block_begun (reply_in outcome).begin ≡ Some p.block → Asks e p.asker p.ask →
        ServesRightly s e outcome → Answers record { state = taking s p; outcome = outcome }
    waits_too p outcome begins is serves = record {
      asks = all_inserted (IsAskAfter s e outcome) p s.pending (inr (begins, is))
          (all_mapped HasWaited (IsAskAfter s e outcome) (λ q h. inl h) s.pending here);
      opens = λ _. is_open;
      serves = serves;
    }

    ask_around_answers : (block : ℕ) (round : RoundText) (peers : List Peer) → Answers (ask_around g s asker ask block now mark round peers)
    unfolding ask_around begin_round begin_with_read
    ask_around_answers block round [] =
        branches Answers (has_origin g.roster ask.key) _ _
        (λ _. waits_too (fetching (new_ask block asker ask None) 1 (AtOrigin (seen s.floors) now mark)) _ (ap Some (read_block block)) asks tt)
        (λ _. plainly (passing s block) _ here (ask.key, (ask, asks, refl)))
    ask_around_answers block round (p ∷ peers) = waits_too (new_ask block asker ask (Some round)) _ (ap Some (round_block block)) asks tt

    begin_if_free_answers : (o : Option ℕ) → Answers (begin_if_free g s asker ask now mark o)
    unfolding begin_if_free begin_ask
    begin_if_free_answers None = refused _
    begin_if_free_answers (Some block) = ask_around_answers block _ _

    not_held_answers : Answers (not_held g s asker ask now mark)
    unfolding not_held
    not_held_answers =
        branches Answers (is_cached_only g asker ask) _ _ (λ _. plainly s _ here (ask.key, (ask, asks, refl))) (λ _. begin_if_free_answers _)

    by_copy_answers : (o : Option (WebCopy X)) → ((c : WebCopy X) → o ≡ Some c → c.key ≡ ask.key) → Answers (by_copy g s asker ask now mark o)
    unfolding by_copy
    by_copy_answers None key = not_held_answers
    by_copy_answers (Some c) key = plainly _ _ here (ap (served_age c) at, (ask, asks, sym (key c refl)))

    ask_comes_to_answers : (outside : Bool) → Answers (ask_comes_to g s asker ask now mark outside)
    unfolding ask_comes_to
    ask_comes_to_answers true = plainly s _ here (ask.key, (ask, asks, refl))
    ask_comes_to_answers false = by_copy_answers (copy_for s ask now) (copy_key s ask now)

    ask_comes_answers : Answers (ask_comes g s asker ask now mark)
    unfolding ask_comes
    ask_comes_answers = ask_comes_to_answers (is_outside g s)

  -- Arrivals

  waiting : (test : Pending X → Bool) (p : Pending X) → find test s.pending ≡ Some p → Contains s.pending p
  waiting test p waits = found (Contains s.pending) test s.pending p (all_contained s.pending) waits

  module _ (p : Pending X) (has : Contains s.pending p) (now : ℕ) (at : now ≡ moment e) where
    goes_on : (q : Pending X) → Waits s q.block q.asker q.ask → Answers (go_on g s q now mark)
    goes_on q waits = go_on_answers s here q waits now

    use_answer_answers : (stamp asked : ℕ) (answer : AnswerText) (tag : X) → Answers (use_answer g s p stamp asked answer tag now)
    unfolding use_answer
    use_answer_answers stamp asked answer tag =
        plainly _ _ (all_left HasWaited (λ q. not (is_of_block p.block q)) s.pending here)
        (ap (served_age (new_copy p.ask.key stamp asked (lifetime answer g.roster.limits.default_lifetime) answer tag)) at, (p, has, refl, refl, refl))

    peer_gave_answers : (peer asked stamp : ℕ) (answer : AnswerText) (tag : X) → Answers (peer_gave g s p peer asked stamp answer tag now mark)
    unfolding peer_gave try_on
    peer_gave_answers peer asked stamp answer tag =
        branches Answers (nat_le (floor s.floors p.ask.key) stamp && not (is_gateway_fault answer.status)) _ _
        (λ _. use_answer_answers stamp asked answer tag) (λ _. goes_on (not_fetching p (p.tried ++ peer ∷ [])) (was_waiting p has))

    origin_gave_answers : (stamp asked : ℕ) (read_mark : X) (answer : AnswerText) → Answers (origin_gave g s p stamp asked read_mark answer now mark)
    unfolding origin_gave
    origin_gave_answers stamp asked read_mark answer =
        branches Answers (nat_le (floor s.floors p.ask.key) stamp) _ _
        (λ _. use_answer_answers stamp asked answer read_mark) (λ _. goes_on (not_fetching p p.tried) (was_waiting p has))

    from_peer_answers : (peer stamp : ℕ) (answer : AnswerText) (tag : X) (fetch : Fetch X) → Answers (from_peer g s p peer stamp answer tag now mark fetch)
    unfolding from_peer
    from_peer_answers peer stamp answer tag (AtPeer at_peer asked) =
        branches Answers (nat_eq at_peer peer) _ _ (λ _. peer_gave_answers peer asked stamp answer tag) (λ _. refused _)
    from_peer_answers peer stamp answer tag (AtOrigin read asked read_mark) = refused _
    from_peer_answers peer stamp answer tag Nowhere = refused _

    from_origin_answers : (answer : AnswerText) (fetch : Fetch X) → Answers (from_origin g s p answer now mark fetch)
    unfolding from_origin
    from_origin_answers answer (AtOrigin stamp asked read_mark) = origin_gave_answers stamp asked read_mark answer
    from_origin_answers answer (AtPeer peer asked) = refused _
    from_origin_answers answer Nowhere = refused _

    fails_answers : (fetch : Fetch X) → Answers (fails g s p now mark fetch)
    unfolding fails try_on
    fails_answers (AtPeer peer asked) = goes_on (not_fetching p (p.tried ++ peer ∷ [])) (was_waiting p has)
    fails_answers (AtOrigin stamp asked read_mark) = ended_so s p.block _ here (waits_served p (was_waiting p has))
    fails_answers Nowhere = refused _

    moves_answers : (q : Pending X) → Waits s q.block q.asker q.ask → Answers (round_moves g s q now mark)
    unfolding round_moves
    moves_answers q waits = branches Answers (is_idle q.fetch) _ _ (λ _. goes_on q waits) (λ _. changed_so s q _ here waits tt)

    expires_answers : (o : Option RoundText) → Answers (expires g s p now mark o)
    unfolding expires
    expires_answers None = refused _
    expires_answers (Some r) = moves_answers (with_round p (ended r)) (was_waiting p has)

    hears_answers : (peer : Peer) (said : Said) (o : Option RoundText) → Answers (hears g s p peer said now mark o)
    unfolding hears
    hears_answers peer said None = silent
    hears_answers peer said (Some r) = branches Answers (has_answered r.answers peer.id) _ _ (λ _. silent)
        (λ _. moves_answers (with_round p (answered r peer.id said)) (was_waiting p has))

    told_by_answers : (said : Peer → Said) (o : Option Peer) → Answers (told_by g s p said now mark o)
    unfolding told_by
    told_by_answers said None = silent
    told_by_answers said (Some peer) = hears_answers peer (said peer) p.round

  module _ (now : ℕ) (at : now ≡ moment e) where
    peer_answer_to_answers : (peer stamp : ℕ) (answer : AnswerText) (tag : X) (test : Pending X → Bool) (o : Option (Pending X)) → find test s.pending ≡ o →
        Answers (peer_answer_to g s peer stamp answer tag now mark o)
    unfolding peer_answer_to
    peer_answer_to_answers peer stamp answer tag test None waits = refused _
    peer_answer_to_answers peer stamp answer tag test (Some p) waits = from_peer_answers p (waiting test p waits) now at peer stamp answer tag p.fetch

    origin_answer_to_answers : (answer : AnswerText) (test : Pending X → Bool) (o : Option (Pending X)) → find test s.pending ≡ o →
        Answers (origin_answer_to g s answer now mark o)
    unfolding origin_answer_to
    origin_answer_to_answers answer test None waits = refused _
    origin_answer_to_answers answer test (Some p) waits = from_origin_answers p (waiting test p waits) now at answer p.fetch

    failure_of_answers : (test : Pending X → Bool) (o : Option (Pending X)) → find test s.pending ≡ o → Answers (failure_of g s now mark o)
    unfolding failure_of
    failure_of_answers test None waits = refused _
    failure_of_answers test (Some p) waits = fails_answers p (waiting test p waits) now at p.fetch

    expiry_of_answers : (test : Pending X → Bool) (o : Option (Pending X)) → find test s.pending ≡ o → Answers (expiry_of g s now mark o)
    unfolding expiry_of
    expiry_of_answers test None waits = refused _
    expiry_of_answers test (Some p) waits = expires_answers p (waiting test p waits) now at p.round

    told_to_answers : (by : Udp) (from : Address) (said : Peer → Said) (test : Pending X → Bool) (o : Option (Pending X)) → find test s.pending ≡ o →
        Answers (told_to g s by from said now mark o)
    unfolding told_to
    told_to_answers by from said test None waits = silent
    told_to_answers by from said test (Some p) waits = told_by_answers p (waiting test p waits) now at said _

    -- Datagrams

    if_desired_answers : (t : NodeState X) → GoesOn t → (desired : Bool) (from : Address) (m : Message) → Answers (if_desired t desired from m)
    if_desired_answers t on true from m = plainly t _ on tt
    if_desired_answers t on false from m = plainly t _ on tt

    purge_answers : (from : Address) (trans : ℕ) (desired : Bool) (key : List ℕ) (n : ℕ) → Answers (purge s from trans desired key n)
    unfolding purge
    purge_answers from trans desired key n = if_desired_answers (purged s key n) here desired from _

    rebase_answers : (from : Address) (trans : ℕ) (desired : Bool) (n : ℕ) → Answers (rebase s from trans desired n)
    unfolding rebase
    rebase_answers from trans desired n = if_desired_answers (rebased s n) here desired from _

    raising_answers : (from : Address) (trans : ℕ) (desired : Bool) (o : Option Raise) → Answers (raising_clr s from trans desired o)
    unfolding raising_clr
    raising_answers from trans desired None = if_desired_answers s here desired from _
    raising_answers from trans desired (Some (Floor key n)) = purge_answers from trans desired key n
    raising_answers from trans desired (Some (Base n)) = rebase_answers from trans desired n

    dropped_goes_on : (key : Option (List ℕ)) → GoesOn (dropped s key)
    dropped_goes_on None = here
    dropped_goes_on (Some key) = here

    plain_clr_answers : (from : Address) (trans : ℕ) (desired : Bool) (key : Option (List ℕ)) → Answers (plain_clr g s from trans desired key)
    unfolding plain_clr
    plain_clr_answers from trans desired key =
        branches Answers (is_known g.roster g.id udp.Htcp from || is_master g.roster from) _ _
        (λ _. if_desired_answers (dropped s key) (dropped_goes_on key) desired from _) (λ _. if_desired_answers s here desired from _)

    clr_by_line_answers : (from : Address) (trans : ℕ) (desired : Bool) (key : Option (List ℕ)) (line : Result (Option ℕ) HtcpFault) →
        Answers (clr_by_line g s from trans desired key line)
    unfolding clr_by_line
    clr_by_line_answers from trans desired key (Ok None) = plain_clr_answers from trans desired key
    clr_by_line_answers from trans desired key (Ok (Some n)) = raising_answers from trans desired _
    clr_by_line_answers from trans desired key (Err fault) = if_desired_answers s here desired from _

    clr_by_lines_answers : (from : Address) (trans : ℕ) (desired : Bool) (key : Option (List ℕ)) (number base : Result (Option ℕ) HtcpFault) →
        Answers (clr_by_lines g s from trans desired key number base)
    unfolding clr_by_lines
    clr_by_lines_answers from trans desired key number (Ok None) = clr_by_line_answers from trans desired key number
    clr_by_lines_answers from trans desired key number (Ok (Some n)) = raising_answers from trans desired _
    clr_by_lines_answers from trans desired key number (Err fault) = if_desired_answers s here desired from _

    htcp_told_answers : (from : Address) (trans : ℕ) (said : Peer → Said) → Answers (htcp_told g s from trans said now mark)
    unfolding htcp_told
    htcp_told_answers from trans said = told_to_answers _ from said _ _ refl

    icp_comes_answers : (from : Address) (m : Icp) (o : IcpOp) → Answers (icp_comes g s from m now mark o)
    unfolding icp_comes icp_query icp_told
    icp_comes_answers from m op.Query = plainly s _ here tt
    icp_comes_answers from m _ = told_to_answers _ from _ _ _ refl

    tst_refused_answers : (from : Address) (trans opcode : ℕ) → Answers (tst_refused g s from trans opcode now mark)
    unfolding tst_refused
    tst_refused_answers from trans opcode = branches Answers (nat_eq opcode 1) _ _ (λ _. htcp_told_answers from trans _) (λ _. silent)

    htcp_comes_answers : (from : Address) (trans : ℕ) (content : Content) → Answers (htcp_comes g s from trans now mark content)
    unfolding htcp_comes htcp_tst htcp_clr
    htcp_comes_answers from trans (content.NopAsk desired) = if_desired_answers s here desired from _
    htcp_comes_answers from trans content.NopAnswer = silent
    htcp_comes_answers from trans (content.TstAsk desired spec) = if_desired_answers s here desired from _
    htcp_comes_answers from trans (content.TstHit detail) = htcp_told_answers from trans _
    htcp_comes_answers from trans (content.TstMiss cache) = htcp_told_answers from trans _
    htcp_comes_answers from trans (content.ClrAsk desired reason spec) = clr_by_lines_answers from trans desired _ _ _
    htcp_comes_answers from trans (content.ClrAnswer code) = silent
    htcp_comes_answers from trans (content.Other opcode desired) = if_desired_answers s here desired from _
    htcp_comes_answers from trans (content.Overall opcode code) = tst_refused_answers from trans opcode
    htcp_comes_answers from trans (content.OtherAnswer opcode code) = tst_refused_answers from trans opcode

    datagram_answers : (from : Address) (m : Message) → Answers (datagram g s from now mark m)
    unfolding datagram
    datagram_answers from (message.Icp m) = icp_comes_answers from m m.op
    datagram_answers from (message.Htcp m) = htcp_comes_answers from m.trans m.content

-- The whole step

module _ {X : Type 0} (g : Setting) (s : NodeState X) (mark : X) where
  open_step_answers : s.closed ≡ false → (e : Event X) → AnswersSome s e (open_step g s mark e).outcome (open_step g s mark e).state
  unfolding open_step peer_answer foreign_answer origin_answer fetch_failed round_expired
  open_step_answers is_open (event.Client ask now) = ask_comes_answers g s _ mark is_open None ask now (refl, refl) refl
  open_step_answers is_open (event.Datagram from m now) = datagram_answers g s _ mark is_open now refl from m
  open_step_answers is_open (event.PeerAsk asker ask now) = ask_comes_answers g s _ mark is_open (Some asker) ask now (refl, refl) refl
  open_step_answers is_open (event.PeerAnswer serial peer key answer tag now) =
      branches (Answers g s _ mark is_open) (is_foreign_id peer) _ _ (λ _. refused g s _ mark is_open _)
      (λ _. peer_answer_to_answers g s _ mark is_open now refl peer _ answer tag _ _ refl)
  open_step_answers is_open (event.OriginAnswer serial key answer now) = origin_answer_to_answers g s _ mark is_open now refl answer _ _ refl
  open_step_answers is_open (event.ForeignAnswer serial peer key answer tag now) =
      branches (Answers g s _ mark is_open) (is_foreign_id peer) _ _
      (λ _. peer_answer_to_answers g s _ mark is_open now refl peer 0 answer tag _ _ refl) (λ _. refused g s _ mark is_open _)
  open_step_answers is_open (event.FetchFailed serial now) = failure_of_answers g s _ mark is_open now refl _ _ refl
  open_step_answers is_open (event.Expired serial now) = expiry_of_answers g s _ mark is_open now refl _ _ refl

  stay : (e : Event X) (outcome : Result (Reply X) StepFault) → AllByRecursion (IsAskAfter s e outcome) s.pending
  stay e outcome = all_mapped (Contains s.pending) (IsAskAfter s e outcome)
      (λ p has. inl record { was = p; waits = has; block_same = refl; asker_same = refl; ask_same = refl }) s.pending (all_contained s.pending)

  -- a closed node serves nothing, and what waits there stays
  closed_answers : (e : Event X) → s.closed ≡ true → (f : StepFault) → AnswersSome s e (Err f) s
  closed_answers e is f = record { asks = stay e (Err f); opens = λ is_open. is_open; serves = tt }

  step_if_answers : (e : Event X) (closed : Bool) → s.closed ≡ closed → AnswersSome s e (step_if g s e mark closed).outcome (step_if g s e mark closed).state
  unfolding step_if
  step_if_answers e true is = closed_answers e is _
  step_if_answers e false is = open_step_answers is e

  step_answers : (e : Event X) → AnswersSome s e (step g s e mark).outcome (step g s e mark).state
  unfolding step
  step_answers e = step_if_answers e s.closed refl

  same_answers : (e : Event X) (f : StepFault) → AnswersSome s e (Err f) s
  same_answers e f = record { asks = stay e (Err f); opens = λ is_open. is_open; serves = tt }

  closing_asks : (e : Event X) (f : StepFault) (o : Option Raise) (next : NodeState X) → ClosesOn s o next →
      AllByRecursion (IsAskAfter s e (Err f)) next.pending
  closing_asks e f None next h = absurd h
  closing_asks e f (Some raise) next h = subst (λ pending. AllByRecursion (IsAskAfter s e (Err f)) pending) (sym h.pending) tt

  closing_answers : (e : Event X) (next : NodeState X) (f : StepFault) → Closes g s e next → AnswersSome s e (Err f) next
  closing_answers e next f h = record {
    asks = closing_asks e f (raise_in g e) next h.1;
    opens = λ is_open. absurd (closing_closes g s e mark (raise_in g e) next h.1 is_open);
    serves = tt;
  }

  some_answers : (e : Event X) (outcome : Result (Reply X) StepFault) (next : NodeState X) → Steps g s e mark outcome next → AnswersSome s e outcome next
  some_answers e outcome next steps =
      steps_case g s e mark (λ r. AnswersSome s e r.outcome r.state) (step_answers e) (same_answers e _) (λ n f h. closing_answers e n f h) outcome next steps

  -- The block of a new request is free

  record TakesFree (r : Stepped X) : Type 0 where
    takes : (block : ℕ) → block_begun (reply_in r.outcome).begin ≡ Some block → AllByRecursion (λ p. p.block ≢ block) s.pending

  nothing : (r : Stepped X) → (reply_in r.outcome).begin ≡ None → TakesFree r
  nothing r none = record { takes = λ block e. absurd (none-some block (sym (ap block_begun none) ∙ e)) }

  takes_this : (r : Stepped X) (block begun : ℕ) → free_block s ≡ Some block → block_begun (reply_in r.outcome).begin ≡ Some begun → begun ≡ block → TakesFree r
  takes_this r block begun free begins same = record {
    takes = λ other e. subst (λ n. AllByRecursion (λ p. p.block ≢ n) s.pending) (sym same ∙ same_Some begun other (sym begins ∙ e)) (free_is_free s block free);
  }

  around_free : (block : ℕ) → free_block s ≡ Some block → (asker : Option ℕ) (ask : Ask) (now : ℕ) (round : RoundText) (peers : List Peer) →
      TakesFree (ask_around g s asker ask block now mark round peers)
  unfolding ask_around begin_round begin_with_read
  around_free block free asker ask now round [] =
      branches TakesFree (has_origin g.roster ask.key) _ _ (λ _. takes_this _ block _ free refl (read_block block)) (λ _. nothing _ refl)
  around_free block free asker ask now round (p ∷ peers) = takes_this _ block _ free refl (round_block block)

  if_free : (asker : Option ℕ) (ask : Ask) (now : ℕ) (o : Option ℕ) → free_block s ≡ o → TakesFree (begin_if_free g s asker ask now mark o)
  unfolding begin_if_free begin_ask
  if_free asker ask now None is = nothing _ refl
  if_free asker ask now (Some block) is = around_free block is asker ask now _ _

  by_copy_free : (asker : Option ℕ) (ask : Ask) (now : ℕ) (o : Option (WebCopy X)) → TakesFree (by_copy g s asker ask now mark o)
  unfolding by_copy not_held
  by_copy_free asker ask now None =
      branches TakesFree (is_cached_only g asker ask) _ _ (λ _. nothing _ refl) (λ _. if_free asker ask now (free_block s) refl)
  by_copy_free asker ask now (Some c) = nothing _ refl

  ask_free : (asker : Option ℕ) (ask : Ask) (now : ℕ) (outside : Bool) → TakesFree (ask_comes_to g s asker ask now mark outside)
  unfolding ask_comes_to
  ask_free asker ask now true = nothing _ refl
  ask_free asker ask now false = by_copy_free asker ask now _

  asked_free : (e : Event X) (asker : Option ℕ) (ask : Ask) → Asks e asker ask → (closed : Bool) → TakesFree (step_if g s e mark closed)
  unfolding step_if open_step ask_comes
  asked_free e asker ask asks true = nothing _ refl
  asked_free (event.Client own now) asker ask asks false = ask_free None own now _
  asked_free (event.PeerAsk member own now) asker ask asks false = ask_free (Some member) own now _
  asked_free _ asker ask asks false = absurd asks

  step_free : (e : Event X) (asker : Option ℕ) (ask : Ask) → Asks e asker ask → TakesFree (step g s e mark)
  unfolding step
  step_free e asker ask asks = asked_free e asker ask asks s.closed

  fresh_by : (e : Event X) (outcome : Result (Reply X) StepFault) (next : NodeState X) (asker : Option ℕ) (ask : Ask) → Asks e asker ask →
      Steps g s e mark outcome next → TakesFree record { state = next; outcome = outcome }
  fresh_by e outcome next asker ask asks steps =
      steps_case g s e mark TakesFree (step_free e asker ask asks) (nothing _ refl) (λ n f h. nothing _ refl) outcome next steps

  -- each step of a node answers what was requested
  pub steps_answer_asks : (e : Event X) (outcome : Result (Reply X) StepFault) (next : NodeState X) → Steps g s e mark outcome next →
      AnswersAsks s e outcome next
  steps_answer_asks e outcome next steps =
      let some = some_answers e outcome next steps in
      record {
        asks = some.asks;
        fresh = λ asker ask asks. (fresh_by e outcome next asker ask asks steps).takes;
        opens = some.opens;
        serves = some.serves;
      }
