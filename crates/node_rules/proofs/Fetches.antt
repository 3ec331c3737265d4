-- The blocks of pending requests stay apart, and a fetch that runs keeps its request pending until an
-- event ends it. One lemma for each rule: a rule changes or ends only the request that the event
-- names, and of that one the fetch has ended with the event, does not run, or goes on.
use Rattle.std.proofs.Common.{◌≡◌, ◌≢◌, ◌⊎◌, ℕ, ◌+◌, ◌<◌, ◌≤◌, zero, suc, Bool, true, false, cond, not, ◌&&◌, ◌||◌, List, [], ◌∷◌, ◌++◌, find, Option, Some}
use Rattle.std.proofs.Common.{None, Result, Ok, Err, refl, sym, ◌∙◌, ap, subst, inl, inr, nat_le, nat_lt, nat_eq, arith}
use Rattle.std.specs.List.{AllByRecursion, Contains}
use Rattle.std.proofs.lemmas.Bool.Decides.{nat_tests}
use Rattle.icp_wire.specs.declared.message.IcpOp.{IcpOp}
use Rattle.icp_wire.specs.declared.message.IcpOp.TheVariants as op
use Rattle.icp_wire.specs.declared.message.Icp.{Icp}
use Rattle.htcp_wire.specs.declared.fault.HtcpFault.{HtcpFault}
use Rattle.htcp_wire.specs.declared.message.Content.{Content}
use Rattle.htcp_wire.specs.declared.message.Content.TheVariants as content
use Rattle.http_messages.specs.declared.ask.Ask.{Ask}
use Rattle.http_messages.specs.Answer.{AnswerText}
use Rattle.object_store.specs.declared.copy.WebCopy.{WebCopy}
use Rattle.floor_rules.specs.Floors.{floor, seen}
use Rattle.values_tables.specs.Ranges.{is_foreign_id}
use Rattle.values_plain.specs.declared.address.Address.{Address}
use Rattle.values_tables.specs.declared.plain.Peer.{Peer}
use Rattle.values_plain.specs.declared.address.Udp.{Udp}
use Rattle.values_plain.specs.declared.address.Udp.TheVariants as udp
use Rattle.roster.specs.Lookups.{is_master}
use Rattle.peer_chooser.specs.declared.said.Said.{Said}
use Rattle.peer_chooser.specs.declared.said.Source.{Source}
use Rattle.peer_chooser.specs.declared.said.Source.TheVariants as source
use Rattle.peer_chooser.specs.Round.{RoundText, has_answered, answered, ended}
use Rattle.node_rules.specs.declared.message.Message.{Message}
use Rattle.node_rules.specs.declared.message.Message.TheVariants as message
use Rattle.node_rules.specs.declared.state.Fetch.{Fetch}
use Rattle.node_rules.specs.declared.state.Fetch.TheVariants.{Nowhere, AtPeer, AtOrigin}
use Rattle.node_rules.specs.declared.state.Pending.{Pending}
use Rattle.node_rules.specs.declared.state.NodeState.{NodeState}
use Rattle.node_rules.specs.declared.event.Event.{Event}
use Rattle.node_rules.specs.declared.event.Event.TheVariants as event
use Rattle.node_rules.specs.declared.reply.Reply.{Reply}
use Rattle.node_rules.specs.declared.reply.StepFault.{StepFault}
use Rattle.node_rules.specs.Known.{has_origin, is_known}
use Rattle.node_rules.specs.State.{Setting, Stepped, inserted, changed, ended as without_block, changing, is_idle, is_of_block, fetch_serial}
use Rattle.node_rules.specs.Fetching.{fetching, ask_peer, begin_read, read_origin, go_to, go_on}
use Rattle.node_rules.specs.Asks.{IsBlock, new_ask, is_cached_only, free_block, taking, passing, begin_round, begin_with_read, ask_around, begin_ask, begin_if_free}
use Rattle.node_rules.specs.Asks.{not_held, by_copy, ask_comes_to, ask_comes}
use Rattle.node_rules.specs.Arrivals.{is_fetch, not_fetching, with_round, use_answer, try_on, is_gateway_fault, peer_gave, origin_gave, from_peer}
use Rattle.node_rules.specs.Arrivals.{peer_answer_to, peer_answer, foreign_answer, from_origin, origin_answer_to, origin_answer, fails, failure_of}
use Rattle.node_rules.specs.Arrivals.{fetch_failed, round_moves, expires, expiry_of, round_expired}
use Rattle.node_rules.specs.Datagrams.{purged, if_desired, icp_query, htcp_tst, hears, told_by, told_to, icp_told, htcp_told, purge, dropped}
use Rattle.node_rules.specs.Datagrams.{rebased, rebase, raising_clr, plain_clr, clr_by_line, clr_by_lines, htcp_clr, icp_comes, tst_refused}
use Rattle.node_rules.specs.Datagrams.{htcp_comes, datagram}
use Rattle.node_rules.specs.Step.{open_step, step_if, step}
use Rattle.node_rules.specs.declared.raising.Raise.{Raise}
use Rattle.node_rules.specs.declared.raising.Raise.TheVariants.{Floor, Base}
use Rattle.node_rules.specs.Relation.{Steps, ClosesOn, raise_in}
use Rattle.node_rules.specs.Effect.{IsUnderWay}
use Rattle.node_rules.specs.Serials.{Ascend, EndsFetch, KeepsFetch}
use Rattle.node_rules.proofs.Cases.{branches, true_not_false}
use Rattle.node_rules.proofs.Pendings.{all_mapped, contains_later, all_contained, contained, found, found_passes}
use Rattle.node_rules.proofs.Blocks.{free_is_free, free_is_block}
use Rattle.node_rules.proofs.Stepping.{steps_case, closing_closes}

-- Blocks that ascend

ascend_lower : {X : Type 0} (low high : ℕ) (asks : List (Pending X)) → low ≤ high → Ascend high asks → Ascend low asks
ascend_lower low high [] le rise = tt
ascend_lower low high (p ∷ asks) le rise = (omega (arith, le, rise.0), rise.1)

less : (m n : ℕ) → nat_lt m n ≡ true → m < n
less m n h = grind arith

not_less : (m n : ℕ) → nat_lt m n ≡ false → n ≤ m
not_less m n h = grind arith

same_number : (m n : ℕ) → nat_eq m n ≡ true → m ≡ n
same_number m n h = grind (arith, nat_tests)

ascend_inserted : {X : Type 0} (low : ℕ) (p : Pending X) (asks : List (Pending X)) → low < p.block → AllByRecursion (λ q. q.block ≢ p.block) asks →
    Ascend low asks → Ascend low (inserted p asks)
ascend_inserted low p [] above none rise = (above, tt)
ascend_inserted {X} low p (q ∷ asks) above none rise =
    branches (Ascend low) (nat_lt p.block q.block) (p ∷ q ∷ asks) (q ∷ inserted p asks)
    (λ is. (above, (less p.block q.block is, rise.1)))
    (λ is_not. (
      rise.0,
      ascend_inserted q.block p asks (let l = not_less p.block q.block is_not in omega (arith, l, none.0)) none.1 rise.1,
    ))

ascend_ended : {X : Type 0} (low block : ℕ) (asks : List (Pending X)) → Ascend low asks → Ascend low (without_block block asks)
ascend_ended low block [] rise = tt
ascend_ended {X} low block (p ∷ asks) rise =
    branches (Ascend low) (not (is_of_block block p)) (p ∷ without_block block asks) (without_block block asks)
    (λ _. (rise.0, ascend_ended p.block block asks rise.1))
    (λ _. ascend_ended low block asks (ascend_lower low p.block asks (omega (arith, rise.0)) rise.1))

same_block : {X : Type 0} (q x : Pending X) → (cond (is_of_block q.block x) q x).block ≡ x.block
same_block {X} q x = branches (λ (y : Pending X). y.block ≡ x.block) (nat_eq x.block q.block) q x (λ is. sym (same_number x.block q.block is)) (λ _. refl)

ascend_changed : {X : Type 0} (low : ℕ) (q : Pending X) (asks : List (Pending X)) → Ascend low asks → Ascend low (changed q asks)
ascend_changed low q [] rise = tt
ascend_changed low q (x ∷ asks) rise = (
  subst (λ n. low < n) (sym (same_block q x)) rise.0,
  subst (λ n. Ascend n (changed q asks)) (sym (same_block q x)) (ascend_changed x.block q asks rise.1),
)

above_all : {X : Type 0} (low : ℕ) (asks : List (Pending X)) → Ascend low asks → AllByRecursion (λ p. low < p.block) asks
above_all low [] rise = tt
above_all {X} low (p ∷ asks) rise =
    (rise.0, all_mapped (λ (q : Pending X). p.block < q.block) (λ q. low < q.block) (λ q h. omega (arith, h, rise.0)) asks (above_all p.block asks rise.1))

-- a request has its block alone
unique : {X : Type 0} (low : ℕ) (asks : List (Pending X)) (p q : Pending X) → Ascend low asks → Contains asks p → Contains asks q → p.block ≡ q.block → p ≡ q
unique low [] p q rise (k, h, e) has same = absurd (omega (arith, h))
unique low (x ∷ asks) p q rise (zero, h, e) (zero, i, f) same = sym e ∙ f
unique {X} low (x ∷ asks) p q rise (zero, h, e) (suc k, i, f) same =
    let above : x.block < q.block = contained (λ (r : Pending X). x.block < r.block) asks q (above_all x.block asks rise.1) (k, omega (arith, i), f) in
    absurd (omega (arith, above, same, ap (λ (r : Pending X). r.block) e))
unique {X} low (x ∷ asks) p q rise (suc k, h, e) (zero, i, f) same =
    let above : x.block < p.block = contained (λ (r : Pending X). x.block < r.block) asks p (above_all x.block asks rise.1) (k, omega (arith, h), e) in
    absurd (omega (arith, above, same, ap (λ (r : Pending X). r.block) f))
unique low (x ∷ asks) p q rise (suc k, h, e) (suc j, i, f) same = unique x.block asks p q rise.1 (k, omega (arith, h), e) (j, omega (arith, i), f) same

-- Requests that stay among others

in_inserted : {X : Type 0} (q : Pending X) (asks : List (Pending X)) → AllByRecursion (Contains (inserted q asks)) asks
in_inserted q [] = tt
in_inserted {X} q (x ∷ asks) =
    branches (λ (l : List (Pending X)). AllByRecursion (Contains l) (x ∷ asks)) (nat_lt q.block x.block) (q ∷ x ∷ asks) (x ∷ inserted q asks)
    (λ _. all_mapped (Contains (x ∷ asks)) (Contains (q ∷ x ∷ asks)) (contains_later q (x ∷ asks)) (x ∷ asks) (all_contained (x ∷ asks)))
    (λ _. (
      (0, omega arith, refl),
      all_mapped (Contains (inserted q asks)) (Contains (x ∷ inserted q asks)) (contains_later x (inserted q asks)) asks
          (in_inserted q asks),
    ))

-- one of another block stays as the one of this block changes
in_changed : {X : Type 0} (q : Pending X) (asks : List (Pending X)) → AllByRecursion (λ x. is_of_block q.block x ≡ false → Contains (changed q asks) x) asks
in_changed q [] = tt
in_changed {X} q (x ∷ asks) = (
  λ other. (0, omega arith, ap (λ b. cond b q x) other),
  all_mapped (λ (y : Pending X). is_of_block q.block y ≡ false → Contains (changed q asks) y)
      (λ y. is_of_block q.block y ≡ false → Contains (changed q (x ∷ asks)) y)
      (λ y h other. contains_later (cond (is_of_block q.block x) q x) (changed q asks) y (h other)) asks (in_changed q asks),
)

-- and the one of this block has changed
has_changed : {X : Type 0} (q : Pending X) (asks : List (Pending X)) → AllByRecursion (λ x. is_of_block q.block x ≡ true → Contains (changed q asks) q) asks
has_changed q [] = tt
has_changed {X} q (x ∷ asks) = (
  λ this. (0, omega arith, ap (λ b. cond b q x) this),
  all_mapped (λ (y : Pending X). is_of_block q.block y ≡ true → Contains (changed q asks) q)
      (λ y. is_of_block q.block y ≡ true → Contains (changed q (x ∷ asks)) q)
      (λ y h this. contains_later (cond (is_of_block q.block x) q x) (changed q asks) q (h this)) asks (has_changed q asks),
)

in_ended : {X : Type 0} (block : ℕ) (asks : List (Pending X)) → AllByRecursion (λ x. is_of_block block x ≡ false → Contains (without_block block asks) x) asks
in_ended block [] = tt
in_ended {X} block (x ∷ asks) = (
  λ other. subst (λ b. Contains (cond (not b) (x ∷ without_block block asks) (without_block block asks)) x) (sym other) (0, omega arith, refl),
  all_mapped (λ (y : Pending X). is_of_block block y ≡ false → Contains (without_block block asks) y)
      (λ y. is_of_block block y ≡ false → Contains (without_block block (x ∷ asks)) y)
      (λ y h other. branches (λ (l : List (Pending X)). Contains l y) (not (is_of_block block x)) (x ∷ without_block block asks) (without_block block asks)
      (λ _. contains_later x (without_block block asks) y (h other)) (λ _. h other)) asks (in_ended block asks),
)

-- The rules

-- the same fetch runs for both, under the same serial
record HasSameFetch {X : Type 0} (p q : Pending X) : Type 0 where
  block : q.block ≡ p.block
  fetch : q.fetch ≡ p.fetch
  ask : q.ask ≡ p.ask
  serial : fetch_serial q ≡ fetch_serial p

module _ {X : Type 0} (g : Setting) (s : NodeState X) (e : Event X) (mark : X) (rise : Ascend 0 s.pending) where
  pub record Sound (t : NodeState X) : Type 0 where
    pub apart : IsBlock s.next → Ascend 0 t.pending
    pub keeps : AllByRecursion (KeepsFetch e t) s.pending

  abbrev pub Holds : Stepped X → Type 0
  Holds r = Sound r.state

  all_keep : (t : NodeState X) → ((p : Pending X) → Contains s.pending p → KeepsFetch e t p) → AllByRecursion (KeepsFetch e t) s.pending
  all_keep t each = all_mapped (Contains s.pending) (KeepsFetch e t) each s.pending (all_contained s.pending)

  -- the requests stay as they are
  same : (t : NodeState X) → t.pending ≡ s.pending → Sound t
  same t is = record {
    apart = λ _. subst (Ascend 0) (sym is) rise;
    keeps = all_keep t (λ p has busy. inr record {
      was = p;
      waits = subst (λ (l : List (Pending X)). Contains l p) (sym is) has;
      fetch = refl;
      ask = refl;
      serial = refl;
    });
  }

  stays : Sound s
  stays = same s refl

  -- a new request waits
  takes : (q : Pending X) → free_block s ≡ Some q.block → Sound (taking s q)
  takes q free = record {
    apart = λ is. ascend_inserted 0 q s.pending (let b = free_is_block s q.block is free in omega (arith, b.first)) (free_is_free s q.block free) rise;
    keeps = all_keep (taking s q) (λ p has busy. inr record {
      was = p;
      waits = contained (Contains (inserted q s.pending)) s.pending p (in_inserted q s.pending) has;
      fetch = refl;
      ask = refl;
      serial = refl;
    });
  }

  module _ (p : Pending X) (has : Contains s.pending p) where
    only : (r : Pending X) → Contains s.pending r → (block : ℕ) → block ≡ p.block → is_of_block block r ≡ true → r ≡ p
    only r there block is this = unique 0 s.pending r p rise there has (same_number r.block block this ∙ is)

    -- the request changes
    changes : (q : Pending X) → q.block ≡ p.block → (is_idle p.fetch ≡ false → EndsFetch e (fetch_serial p) ⊎ HasSameFetch p q) → Sound (changing s q)
    changes q is may = record {
      apart = λ _. ascend_changed 0 q s.pending rise;
      keeps = all_keep (changing s q) (λ r there busy. by_block r there busy (is_of_block q.block r) refl);
    }
      where
        by_block : (r : Pending X) → Contains s.pending r → is_idle r.fetch ≡ false → (b : Bool) → is_of_block q.block r ≡ b →
            EndsFetch e (fetch_serial r) ⊎ IsUnderWay (changing s q) r
        by_block r there busy true this =
            let its : r ≡ p = only r there q.block is this in
            let there_now : Contains (changed q s.pending) q =
            contained (λ (x : Pending X). is_of_block q.block x ≡ true → Contains (changed q s.pending) q) s.pending r (has_changed q s.pending) there this in
            elim (may (subst (λ (x : Pending X). is_idle x.fetch ≡ false) its busy)) [
              | inl ends ↦ inl (subst (λ (x : Pending X). EndsFetch e (fetch_serial x)) (sym its) ends)
              | inr goes_on ↦ inr record {
                was = q;
                waits = there_now;
                fetch = goes_on.fetch ∙ ap (λ (x : Pending X). x.fetch) (sym its);
                ask = goes_on.ask ∙ ap (λ (x : Pending X). x.ask) (sym its);
                serial = goes_on.serial ∙ ap (λ (x : Pending X). fetch_serial x) (sym its);
              }
            ]
        by_block r there busy false other = inr record {
          was = r;
          waits = contained (λ (x : Pending X). is_of_block q.block x ≡ false → Contains (changed q s.pending) x) s.pending r (in_changed q s.pending) there
              other;
          fetch = refl;
          ask = refl;
          serial = refl;
        }

    -- the request ends
    ends : (t : NodeState X) (block : ℕ) → t.pending ≡ without_block block s.pending → block ≡ p.block →
        (is_idle p.fetch ≡ false → EndsFetch e (fetch_serial p)) → Sound t
    ends t block left is named = record {
      apart = λ _. subst (Ascend 0) (sym left) (ascend_ended 0 block s.pending rise);
      keeps = all_keep t (λ r there busy. by_block r there busy (is_of_block block r) refl);
    }
      where
        by_block : (r : Pending X) → Contains s.pending r → is_idle r.fetch ≡ false → (b : Bool) → is_of_block block r ≡ b →
            EndsFetch e (fetch_serial r) ⊎ IsUnderWay t r
        by_block r there busy true this =
            let its : r ≡ p = only r there block is this in
            inl (subst (λ (x : Pending X). EndsFetch e (fetch_serial x)) (sym its)
            (named (subst (λ (x : Pending X). is_idle x.fetch ≡ false) its busy)))
        by_block r there busy false other = inr record {
          was = r;
          waits = subst (λ (l : List (Pending X)). Contains l r) (sym left)
              (contained (λ (x : Pending X). is_of_block block x ≡ false → Contains (without_block block s.pending) x) s.pending r
              (in_ended block s.pending) there other);
          fetch = refl;
          ask = refl;
          serial = refl;
        }

    -- the event ends the fetch that runs for the request, or none runs
    module _ (named : is_idle p.fetch ≡ false → EndsFetch e (fetch_serial p)) where
      read_origin_holds : (q : Pending X) → q.block ≡ p.block → (now : ℕ) → Holds (read_origin g s q (Some q.block) now mark)
      unfolding read_origin begin_read
      read_origin_holds q is now =
          branches Holds (nat_le 3 q.reads) _ _ (λ _. ends _ q.block refl is named)
          (λ _. branches Holds (has_origin g.roster q.ask.key) _ _
          (λ _. changes (fetching q (q.reads + 1) (AtOrigin (seen s.floors) now mark)) is (λ busy. inl (named busy)))
          (λ _. ends _ q.block refl is named))

      go_to_holds : (q : Pending X) → q.block ≡ p.block → (now : ℕ) (to : Source) → Holds (go_to g s q now mark to)
      unfolding go_to ask_peer
      go_to_holds q is now source.Wait = changes q is (λ busy. inl (named busy))
      go_to_holds q is now (source.Peer peer cached) = changes (fetching q q.reads (AtPeer peer now)) is (λ busy. inl (named busy))
      go_to_holds q is now source.Origin = read_origin_holds q is now

      go_on_holds : (q : Pending X) → q.block ≡ p.block → (now : ℕ) → Holds (go_on g s q now mark)
      unfolding go_on
      go_on_holds q is now = go_to_holds q is now _

      use_answer_holds : (stamp asked : ℕ) (answer : AnswerText) (tag : X) (now : ℕ) → Holds (use_answer g s p stamp asked answer tag now)
      unfolding use_answer
      use_answer_holds stamp asked answer tag now = ends _ p.block refl refl named

      peer_gave_holds : (peer asked stamp : ℕ) (answer : AnswerText) (tag : X) (now : ℕ) → Holds (peer_gave g s p peer asked stamp answer tag now mark)
      unfolding peer_gave try_on
      peer_gave_holds peer asked stamp answer tag now =
          branches Holds (nat_le (floor s.floors p.ask.key) stamp && not (is_gateway_fault answer.status)) _ _
          (λ _. use_answer_holds stamp asked answer tag now) (λ _. go_on_holds (not_fetching p (p.tried ++ peer ∷ [])) refl now)

      origin_gave_holds : (stamp asked : ℕ) (read_mark : X) (answer : AnswerText) (now : ℕ) → Holds (origin_gave g s p stamp asked read_mark answer now mark)
      unfolding origin_gave
      origin_gave_holds stamp asked read_mark answer now =
          branches Holds (nat_le (floor s.floors p.ask.key) stamp) _ _
          (λ _. use_answer_holds stamp asked answer read_mark now) (λ _. go_on_holds (not_fetching p p.tried) refl now)

      from_peer_holds : (peer stamp : ℕ) (answer : AnswerText) (tag : X) (now : ℕ) (fetch : Fetch X) →
          Holds (from_peer g s p peer stamp answer tag now mark fetch)
      unfolding from_peer
      from_peer_holds peer stamp answer tag now (AtPeer at_peer asked) =
          branches Holds (nat_eq at_peer peer) _ _ (λ _. peer_gave_holds peer asked stamp answer tag now) (λ _. stays)
      from_peer_holds peer stamp answer tag now (AtOrigin read asked read_mark) = stays
      from_peer_holds peer stamp answer tag now Nowhere = stays

      from_origin_holds : (answer : AnswerText) (now : ℕ) (fetch : Fetch X) → Holds (from_origin g s p answer now mark fetch)
      unfolding from_origin
      from_origin_holds answer now (AtOrigin stamp asked read_mark) = origin_gave_holds stamp asked read_mark answer now
      from_origin_holds answer now (AtPeer peer asked) = stays
      from_origin_holds answer now Nowhere = stays

      fails_holds : (now : ℕ) (fetch : Fetch X) → Holds (fails g s p now mark fetch)
      unfolding fails try_on
      fails_holds now (AtPeer peer asked) = go_on_holds (not_fetching p (p.tried ++ peer ∷ [])) refl now
      fails_holds now (AtOrigin stamp asked read_mark) = ends _ p.block refl refl named
      fails_holds now Nowhere = stays

    round_moves_holds : (r : RoundText) (now : ℕ) → Holds (round_moves g s (with_round p r) now mark)
    unfolding round_moves
    round_moves_holds r now =
        branches Holds (is_idle p.fetch) _ _
        (λ idle. go_on_holds (λ busy. absurd (true_not_false (sym idle ∙ busy))) (with_round p r) refl now)
        (λ _. changes (with_round p r) refl (λ busy. inr record { block = refl; fetch = refl; ask = refl; serial = refl }))

    expires_holds : (now : ℕ) (o : Option RoundText) → Holds (expires g s p now mark o)
    unfolding expires
    expires_holds now None = stays
    expires_holds now (Some r) = round_moves_holds (ended r) now

    hears_holds : (peer : Peer) (said : Said) (now : ℕ) (o : Option RoundText) → Holds (hears g s p peer said now mark o)
    unfolding hears
    hears_holds peer said now None = stays
    hears_holds peer said now (Some r) =
        branches Holds (has_answered r.answers peer.id) _ _ (λ _. stays) (λ _. round_moves_holds (answered r peer.id said) now)

    told_by_holds : (said : Peer → Said) (now : ℕ) (o : Option Peer) → Holds (told_by g s p said now mark o)
    unfolding told_by
    told_by_holds said now None = stays
    told_by_holds said now (Some peer) = hears_holds peer (said peer) now p.round

  -- Requests

  ask_around_holds : (asker : Option ℕ) (ask : Ask) (block now : ℕ) → free_block s ≡ Some block → (round : RoundText) (peers : List Peer) →
      Holds (ask_around g s asker ask block now mark round peers)
  unfolding ask_around begin_round begin_with_read
  ask_around_holds asker ask block now free round [] =
      branches Holds (has_origin g.roster ask.key) _ _
      (λ _. takes (fetching (new_ask block asker ask None) 1 (AtOrigin (seen s.floors) now mark)) free) (λ _. same (passing s block) refl)
  ask_around_holds asker ask block now free round (peer ∷ peers) = takes (new_ask block asker ask (Some round)) free

  begin_if_free_holds : (asker : Option ℕ) (ask : Ask) (now : ℕ) (o : Option ℕ) → free_block s ≡ o → Holds (begin_if_free g s asker ask now mark o)
  unfolding begin_if_free begin_ask
  begin_if_free_holds asker ask now None is = stays
  begin_if_free_holds asker ask now (Some block) is = ask_around_holds asker ask block now is _ _

  by_copy_holds : (asker : Option ℕ) (ask : Ask) (now : ℕ) (o : Option (WebCopy X)) → Holds (by_copy g s asker ask now mark o)
  unfolding by_copy not_held
  by_copy_holds asker ask now None =
      branches Holds (is_cached_only g asker ask) _ _ (λ _. stays) (λ _. begin_if_free_holds asker ask now (free_block s) refl)
  by_copy_holds asker ask now (Some c) = same _ refl

  ask_comes_holds : (asker : Option ℕ) (ask : Ask) (now : ℕ) (outside : Bool) → Holds (ask_comes_to g s asker ask now mark outside)
  unfolding ask_comes_to
  ask_comes_holds asker ask now true = stays
  ask_comes_holds asker ask now false = by_copy_holds asker ask now _

  -- Arrivals

  waiting : (test : Pending X → Bool) (p : Pending X) → find test s.pending ≡ Some p → Contains s.pending p
  waiting test p waits = found (Contains s.pending) test s.pending p (all_contained s.pending) waits

  and_first : (a b : Bool) → (a && b) ≡ true → a ≡ true
  and_first true b h = refl
  and_first false b h = h

  -- the request that is found is at this serial
  serial_is : (serial : ℕ) (key : List ℕ) (p : Pending X) → find (is_fetch serial key) s.pending ≡ Some p → fetch_serial p ≡ serial
  serial_is serial key p waits =
      same_number (fetch_serial p) serial (and_first (nat_eq (fetch_serial p) serial) _ (found_passes (is_fetch serial key) s.pending p waits))

  peer_answer_to_holds : (serial peer stamp : ℕ) (key : List ℕ) (answer : AnswerText) (tag : X) (now : ℕ) →
      ((at : ℕ) → serial ≡ at → EndsFetch e at) → (o : Option (Pending X)) → find (is_fetch serial key) s.pending ≡ o →
      Holds (peer_answer_to g s peer stamp answer tag now mark o)
  unfolding peer_answer_to
  peer_answer_to_holds serial peer stamp key answer tag now ends_it None waits = stays
  peer_answer_to_holds serial peer stamp key answer tag now ends_it (Some p) waits =
      from_peer_holds p (waiting _ p waits) (λ _. ends_it (fetch_serial p) (sym (serial_is serial key p waits))) peer stamp answer tag now p.fetch

  origin_answer_to_holds : (serial : ℕ) (key : List ℕ) (answer : AnswerText) (now : ℕ) → ((at : ℕ) → serial ≡ at → EndsFetch e at) →
      (o : Option (Pending X)) → find (is_fetch serial key) s.pending ≡ o → Holds (origin_answer_to g s answer now mark o)
  unfolding origin_answer_to
  origin_answer_to_holds serial key answer now ends_it None waits = stays
  origin_answer_to_holds serial key answer now ends_it (Some p) waits =
      from_origin_holds p (waiting _ p waits) (λ _. ends_it (fetch_serial p) (sym (serial_is serial key p waits))) answer now p.fetch

  failure_of_holds : (serial now : ℕ) → ((at : ℕ) → serial ≡ at → EndsFetch e at) → (o : Option (Pending X)) →
      find (λ p. nat_eq (fetch_serial p) serial) s.pending ≡ o → Holds (failure_of g s now mark o)
  unfolding failure_of
  failure_of_holds serial now ends_it None waits = stays
  failure_of_holds serial now ends_it (Some p) waits =
      let at : fetch_serial p ≡ serial =
      same_number (fetch_serial p) serial (found_passes (λ (p : Pending X). nat_eq (fetch_serial p) serial) s.pending p waits) in
      fails_holds p (waiting _ p waits) (λ _. ends_it (fetch_serial p) (sym at)) now p.fetch

  expiry_of_holds : (test : Pending X → Bool) (now : ℕ) (o : Option (Pending X)) → find test s.pending ≡ o → Holds (expiry_of g s now mark o)
  unfolding expiry_of
  expiry_of_holds test now None waits = stays
  expiry_of_holds test now (Some p) waits = expires_holds p (waiting test p waits) now p.round

  -- Datagrams

  told_to_holds : (by : Udp) (from : Address) (said : Peer → Said) (now : ℕ) (test : Pending X → Bool) (o : Option (Pending X)) → find test s.pending ≡ o →
      Holds (told_to g s by from said now mark o)
  unfolding told_to
  told_to_holds by from said now test None waits = stays
  told_to_holds by from said now test (Some p) waits = told_by_holds p (waiting test p waits) said now _

  if_desired_holds : (t : NodeState X) → Sound t → (desired : Bool) (from : Address) (m : Message) → Holds (if_desired t desired from m)
  if_desired_holds t h true from m = h
  if_desired_holds t h false from m = h

  htcp_told_holds : (from : Address) (trans : ℕ) (said : Peer → Said) (now : ℕ) → Holds (htcp_told g s from trans said now mark)
  unfolding htcp_told
  htcp_told_holds from trans said now = told_to_holds _ from said now _ _ refl

  purge_holds : (from : Address) (trans : ℕ) (desired : Bool) (key : List ℕ) (n : ℕ) → Holds (purge s from trans desired key n)
  unfolding purge
  purge_holds from trans desired key n = if_desired_holds (purged s key n) (same _ refl) desired from _

  rebase_holds : (from : Address) (trans : ℕ) (desired : Bool) (n : ℕ) → Holds (rebase s from trans desired n)
  unfolding rebase
  rebase_holds from trans desired n = if_desired_holds (rebased s n) (same _ refl) desired from _

  raising_holds : (from : Address) (trans : ℕ) (desired : Bool) (o : Option Raise) → Holds (raising_clr s from trans desired o)
  unfolding raising_clr
  raising_holds from trans desired None = if_desired_holds s stays desired from _
  raising_holds from trans desired (Some (Floor key n)) = purge_holds from trans desired key n
  raising_holds from trans desired (Some (Base n)) = rebase_holds from trans desired n

  dropped_holds : (key : Option (List ℕ)) → Sound (dropped s key)
  dropped_holds None = stays
  dropped_holds (Some key) = same _ refl

  plain_clr_holds : (from : Address) (trans : ℕ) (desired : Bool) (key : Option (List ℕ)) → Holds (plain_clr g s from trans desired key)
  unfolding plain_clr
  plain_clr_holds from trans desired key =
      branches Holds (is_known g.roster g.id udp.Htcp from || is_master g.roster from) _ _
      (λ _. if_desired_holds (dropped s key) (dropped_holds key) desired from _) (λ _. if_desired_holds s stays desired from _)

  clr_by_line_holds : (from : Address) (trans : ℕ) (desired : Bool) (key : Option (List ℕ)) (line : Result (Option ℕ) HtcpFault) →
      Holds (clr_by_line g s from trans desired key line)
  unfolding clr_by_line
  clr_by_line_holds from trans desired key (Ok None) = plain_clr_holds from trans desired key
  clr_by_line_holds from trans desired key (Ok (Some n)) = raising_holds from trans desired _
  clr_by_line_holds from trans desired key (Err fault) = if_desired_holds s stays desired from _

  clr_by_lines_holds : (from : Address) (trans : ℕ) (desired : Bool) (key : Option (List ℕ)) (number base : Result (Option ℕ) HtcpFault) →
      Holds (clr_by_lines g s from trans desired key number base)
  unfolding clr_by_lines
  clr_by_lines_holds from trans desired key number (Ok None) = clr_by_line_holds from trans desired key number
  clr_by_lines_holds from trans desired key number (Ok (Some n)) = raising_holds from trans desired _
  clr_by_lines_holds from trans desired key number (Err fault) = if_desired_holds s stays desired from _

  icp_comes_holds : (from : Address) (m : Icp) (now : ℕ) (o : IcpOp) → Holds (icp_comes g s from m now mark o)
  unfolding icp_comes icp_query icp_told
  icp_comes_holds from m now op.Query = stays
  icp_comes_holds from m now _ = told_to_holds _ from _ now _ _ refl

  tst_refused_holds : (from : Address) (trans opcode now : ℕ) → Holds (tst_refused g s from trans opcode now mark)
  unfolding tst_refused
  tst_refused_holds from trans opcode now = branches Holds (nat_eq opcode 1) _ _ (λ _. htcp_told_holds from trans _ now) (λ _. stays)

  htcp_comes_holds : (from : Address) (trans now : ℕ) (c : Content) → Holds (htcp_comes g s from trans now mark c)
  unfolding htcp_comes htcp_tst htcp_clr
  htcp_comes_holds from trans now (content.NopAsk desired) = if_desired_holds s stays desired from _
  htcp_comes_holds from trans now content.NopAnswer = stays
  htcp_comes_holds from trans now (content.TstAsk desired spec) = if_desired_holds s stays desired from _
  htcp_comes_holds from trans now (content.TstHit detail) = htcp_told_holds from trans _ now
  htcp_comes_holds from trans now (content.TstMiss cache) = htcp_told_holds from trans _ now
  htcp_comes_holds from trans now (content.ClrAsk desired reason spec) = clr_by_lines_holds from trans desired _ _ _
  htcp_comes_holds from trans now (content.ClrAnswer code) = stays
  htcp_comes_holds from trans now (content.Other opcode desired) = if_desired_holds s stays desired from _
  htcp_comes_holds from trans now (content.Overall opcode code) = tst_refused_holds from trans opcode now
  htcp_comes_holds from trans now (content.OtherAnswer opcode code) = tst_refused_holds from trans opcode now

  datagram_holds : (from : Address) (now : ℕ) (m : Message) → Holds (datagram g s from now mark m)
  unfolding datagram
  datagram_holds from now (message.Icp m) = icp_comes_holds from m now m.op
  datagram_holds from now (message.Htcp m) = htcp_comes_holds from m.trans now m.content

-- The whole step

module _ {X : Type 0} (g : Setting) (s : NodeState X) (mark : X) (rise : Ascend 0 s.pending) where
  open_step_holds : (e : Event X) → Sound g s e mark rise (open_step g s mark e).state
  unfolding open_step ask_comes peer_answer foreign_answer origin_answer fetch_failed round_expired
  open_step_holds (event.Client ask now) = ask_comes_holds g s _ mark rise None ask now _
  open_step_holds (event.Datagram from m now) = datagram_holds g s _ mark rise from now m
  open_step_holds (event.PeerAsk asker ask now) = ask_comes_holds g s _ mark rise (Some asker) ask now _
  open_step_holds (event.PeerAnswer serial peer key answer tag now) =
      branches (λ (r : Stepped X). Sound g s (event.PeerAnswer serial peer key answer tag now) mark rise r.state) (is_foreign_id peer) _ _
      (λ _. stays g s _ mark rise)
      (λ _. peer_answer_to_holds g s (event.PeerAnswer serial peer key answer tag now) mark rise serial peer _ key answer tag now (λ at is. is) _ refl)
  open_step_holds (event.OriginAnswer serial key answer now) =
      origin_answer_to_holds g s (event.OriginAnswer serial key answer now) mark rise serial key answer now (λ at is. is) _ refl
  open_step_holds (event.ForeignAnswer serial peer key answer tag now) =
      branches (λ (r : Stepped X). Sound g s (event.ForeignAnswer serial peer key answer tag now) mark rise r.state) (is_foreign_id peer) _ _
      (λ _. peer_answer_to_holds g s (event.ForeignAnswer serial peer key answer tag now) mark rise serial peer 0 key answer tag now (λ at is. is) _ refl)
      (λ _. stays g s _ mark rise)
  open_step_holds (event.FetchFailed serial now) = failure_of_holds g s (event.FetchFailed serial now) mark rise serial now (λ at is. is) _ refl
  open_step_holds (event.Expired serial now) = expiry_of_holds g s _ mark rise _ now _ refl

  step_if_holds : (e : Event X) (closed : Bool) → Sound g s e mark rise (step_if g s e mark closed).state
  unfolding step_if
  step_if_holds e true = stays g s e mark rise
  step_if_holds e false = open_step_holds e

  step_holds : (e : Event X) → Sound g s e mark rise (step g s e mark).state
  unfolding step
  step_holds e = step_if_holds e s.closed

  -- a node that closes has no pending request
  closed_apart : (e : Event X) (o : Option Raise) (next : NodeState X) → ClosesOn s o next → Ascend 0 next.pending
  closed_apart e None next h = absurd h
  closed_apart e (Some raise) next h = subst (Ascend 0) (sym h.pending) tt

  record AllSound (e : Event X) (next : NodeState X) : Type 0 where
    apart : IsBlock s.next → Ascend 0 next.pending
    keeps : next.closed ≡ false → AllByRecursion (KeepsFetch e next) s.pending

  all_sound : (e : Event X) (t : NodeState X) → Sound g s e mark rise t → AllSound e t
  all_sound e t h = record { apart = h.apart; keeps = λ _. h.keeps }

  steps_hold : (e : Event X) (outcome : Result (Reply X) StepFault) (next : NodeState X) → Steps g s e mark outcome next → AllSound e next
  steps_hold e outcome next steps =
      steps_case g s e mark (λ (r : Stepped X). AllSound e r.state) (all_sound e _ (step_holds e)) (all_sound e s (stays g s e mark rise))
      (λ n f closes. record {
        apart = λ _. closed_apart e (raise_in g e) n closes.1;
        keeps = λ is_open. absurd (closing_closes g s e mark (raise_in g e) n closes.1 is_open);
      }) outcome next steps

pub blocks_apart : {X : Type 0} (g : Setting) (s : NodeState X) (e : Event X) (mark : X) (outcome : Result (Reply X) StepFault) (next : NodeState X) →
    IsBlock s.next → Ascend 0 s.pending → Steps g s e mark outcome next → Ascend 0 next.pending
blocks_apart g s e mark outcome next is rise steps = (steps_hold g s mark rise e outcome next steps).apart is

pub fetches_kept : {X : Type 0} (g : Setting) (s : NodeState X) (e : Event X) (mark : X) (outcome : Result (Reply X) StepFault) (next : NodeState X) →
    Ascend 0 s.pending → Steps g s e mark outcome next → next.closed ≡ false → AllByRecursion (KeepsFetch e next) s.pending
fetches_kept g s e mark outcome next rise steps = (steps_hold g s mark rise e outcome next steps).keeps
