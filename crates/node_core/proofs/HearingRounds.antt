-- What answers to a round lead to: whether there is a round, whether a peer of it sent the answer,
-- and whether it is that peer's first, the code tests as the rule does.
use Rattle.std.proofs.Common.{◌≡◌, ℕ, ◌<◌, ◌==◌, ◌&&◌, length, inl, inr, arith, Bool, true, false, cond, find, slice_get, IfSome, List, Option, Some, None}
use Rattle.std.proofs.Common.{Result, refl, ap, sym, subst, ◌∙◌}
use Rattle.std.specs.Option.{option_and_then}
use Rattle.std.proofs.lemmas.Option.{none-some, slice_get_cases}
use Rattle.icp_wire.specs.declared.message.Icp.{Icp}
use Rattle.values_tables.specs.Ranges.{is_foreign_id}
use Rattle.values_plain.specs.declared.address.Address.{Address}
use Rattle.values_tables.specs.declared.plain.Peer.{Peer}
use Rattle.values_plain.specs.declared.address.Udp.{Udp}
use Rattle.values_plain.specs.declared.address.Udp.TheVariants as udp
use Rattle.peer_chooser.specs.declared.said.Said.{Said}
use Rattle.peer_chooser.specs.Round.{RoundText, has_answered, answered}
use Rattle.node_rules.specs.declared.state.Pending.{Pending}
use Rattle.values_tables.specs.declared.plain.Tables.{Tables}
use Rattle.node_rules.specs.declared.state.NodeState.{NodeState}
use Rattle.node_rules.specs.declared.reply.Reply.{Reply}
use Rattle.node_rules.specs.declared.reply.StepFault.{StepFault}
use Rattle.node_rules.specs.Known.{is_peer_at}
use Rattle.node_rules.specs.State.{Setting, replies, quiet, round_serial}
use Rattle.node_rules.specs.Datagrams.{peer_at, hears, told_by, told_to, is_key, icp_said, icp_told}
use Rattle.node_rules.specs.Arrivals.{with_round, round_moves}
use Rattle.node_waiting.specs.Found.{if_passes}
use Rattle.node_core.specs.declared.questions.SaidWithStamp.{SaidWithStamp}
use Rattle.node_core.specs.SaidWithStamp.{said_by}
use Rattle.node_core.specs.Leads.{Leads}
use Rattle.node_core.proofs.Hearing.{leads_as}

module _ {X : Type 0} (g : Setting) (s : NodeState X) (by : Udp) (from : Address) (said : Peer → Said) (now : ℕ) (mark : X) (p : Pending X) where
  -- an answer for the request at a place, if it is this one
  pub tells_at : (place : ℕ) (asks : List (Pending X)) → asks ≡ s.pending → slice_get asks place ≡ Some p →
      (outcome : Result (Reply X) StepFault) (next : NodeState X) → Leads (told_to g s by from said now mark (Some p)) s outcome next →
      IfSome (slice_get s.pending place) (λ p. Leads (told_to g s by from said now mark (Some p)) s outcome next)
  tells_at place asks same there outcome next leads =
      let here : slice_get s.pending place ≡ Some p = ap (λ asks. slice_get asks place) (sym same) ∙ there in
      subst (λ o. IfSome o (λ p. Leads (told_to g s by from said now mark (Some p)) s outcome next)) (sym here) leads

  -- without a round no answer counts
  pub no_round : p.round ≡ None → (reply : Reply X) → reply ≡ quiet → told_to g s by from said now mark (Some p) ≡ replies s reply
  unfolding told_to told_by
  no_round none reply is_reply = ap (λ r. told_by g s p said now mark (peer_at g by from r)) none ∙ ap (λ r. replies s r) (sym is_reply)

  module _ (r : RoundText) (has : p.round ≡ Some r) (roster : Tables) (is_roster : roster ≡ g.roster) (found : Option Peer)
      (is_found : found ≡ find (is_peer_at roster by from) r.asked) where
    told_found : told_to g s by from said now mark (Some p) ≡ told_by g s p said now mark found
    unfolding told_to
    told_found =
        ap (λ r. told_by g s p said now mark (peer_at g by from r)) has
        ∙ ap (λ o. told_by g s p said now mark o) (sym (is_found ∙ ap (λ t. find (is_peer_at t by from) r.asked) is_roster))

    told_round : (peer : Peer) → found ≡ Some peer → told_to g s by from said now mark (Some p) ≡ hears g s p peer (said peer) now mark (Some r)
    unfolding told_by
    told_round peer is = told_found ∙ ap (λ o. told_by g s p said now mark o) is ∙ ap (λ o. hears g s p peer (said peer) now mark o) has

    pub no_peer : found ≡ None → (reply : Reply X) → reply ≡ quiet → told_to g s by from said now mark (Some p) ≡ replies s reply
    unfolding told_by
    no_peer none reply is_reply = told_found ∙ ap (λ o. told_by g s p said now mark o) none ∙ ap (λ r. replies s r) (sym is_reply)

    pub told_again : (peer : Peer) → found ≡ Some peer → true ≡ has_answered r.answers peer.id → (reply : Reply X) → reply ≡ quiet →
        told_to g s by from said now mark (Some p) ≡ replies s reply
    unfolding hears
    told_again peer is again reply is_reply =
        told_round peer is
        ∙ ap (λ b. cond b (replies s quiet) (round_moves g s (with_round p (answered r peer.id (said peer))) now mark)) (sym again)
        ∙ ap (λ r. replies s r) (sym is_reply)

    told_first : (peer : Peer) → found ≡ Some peer → false ≡ has_answered r.answers peer.id →
        told_to g s by from said now mark (Some p) ≡ round_moves g s (with_round p (answered r peer.id (said peer))) now mark
    unfolding hears
    told_first peer is first =
        told_round peer is
        ∙ ap (λ b. cond b (replies s quiet) (round_moves g s (with_round p (answered r peer.id (said peer))) now mark)) (sym first)

    -- a peer's first answer counts
    pub round_told : (place : ℕ) (asks : List (Pending X)) → asks ≡ s.pending → slice_get asks place ≡ Some p → (peer : Peer) → found ≡ Some peer →
        false ≡ has_answered r.answers peer.id → (before after told : RoundText) (word : Said) → before ≡ r → word ≡ said peer →
        after ≡ answered before peer.id word → told ≡ after → (outcome : Result (Reply X) StepFault) (next : NodeState X) →
        IfSome (slice_get s.pending place) (λ p. Leads (round_moves g s (with_round p told) now mark) s outcome next) →
        IfSome (slice_get s.pending place) (λ p. Leads (told_to g s by from said now mark (Some p)) s outcome next)
    round_told place asks same there peer is first before after told word is_before is_word is_after is_told outcome next moved =
        let here : slice_get s.pending place ≡ Some p = ap (λ asks. slice_get asks place) (sym same) ∙ there in
        let moved_here : Leads (round_moves g s (with_round p told) now mark) s outcome next =
        subst (λ o. IfSome o (λ p. Leads (round_moves g s (with_round p told) now mark) s outcome next)) here moved in
        let round : told ≡ answered r peer.id (said peer) = is_told ∙ is_after ∙ ap (λ b. answered b peer.id word) is_before
        ∙ ap (answered r peer.id) is_word in
        tells_at place asks same there outcome next
        (leads_as _ _ _ _ _ (told_first peer is first) (subst (λ r. Leads (round_moves g s (with_round p r) now mark) s outcome next) round moved_here))

-- The request of a round

pub none_found : {A : Type 0} (xs ys : List A) (test : A → Bool) (place : Option ℕ) → xs ≡ ys → option_and_then (slice_get xs) place ≡ find test xs →
    place ≡ None → find test ys ≡ None
none_found xs ys test place same is none = sym (ap (find test) same) ∙ sym is ∙ ap (option_and_then (slice_get xs)) none

pub found_at : {A : Type 0} (xs ys : List A) (test : A → Bool) (place : Option ℕ) (at : ℕ) → xs ≡ ys → option_and_then (slice_get xs) place ≡ find test xs →
    place ≡ Some at → find test ys ≡ slice_get xs at
found_at xs ys test place at same is there = sym (ap (find test) same) ∙ sym is ∙ ap (option_and_then (slice_get xs)) there

module _ {X : Type 0} (g : Setting) (s : NodeState X) (by : Udp) (from : Address) (said : Peer → Said) (now : ℕ) (mark : X) where
  pub tells_nobody : (rest : Option (Pending X)) → rest ≡ None → (reply : Reply X) → reply ≡ quiet → told_to g s by from said now mark rest ≡ replies s reply
  unfolding told_to
  tells_nobody rest none reply is_reply = ap (told_to g s by from said now mark) none ∙ ap (λ r. replies s r) (sym is_reply)

  tells_it : (outcome : Result (Reply X) StepFault) (next : NodeState X) (rest : Option (Pending X)) → (rest ≡ None → ⊥) →
      IfSome rest (λ p. Leads (told_to g s by from said now mark (Some p)) s outcome next) → Leads (told_to g s by from said now mark rest) s outcome next
  tells_it outcome next None some told = absurd (some refl)
  tells_it outcome next (Some p) some told = told

  -- an answer for the request at a place
  pub tells_ask : (place : ℕ) (asks : List (Pending X)) → asks ≡ s.pending → place < length asks → (rest : Option (Pending X)) → rest ≡ slice_get asks place →
      (outcome : Result (Reply X) StepFault) (next : NodeState X) → IfSome (slice_get s.pending place)
      (λ p. Leads (told_to g s by from said now mark (Some p)) s outcome next) → Leads (told_to g s by from said now mark rest) s outcome next
  tells_ask place asks same below rest is outcome next told =
      let here : rest ≡ slice_get s.pending place = is ∙ ap (λ asks. slice_get asks place) same in
      let within : place < length s.pending = subst (λ asks. place < length asks) same below in
      let some : slice_get s.pending place ≡ None → ⊥ = λ none. elim ((slice_get_cases s.pending place).1) [
        | inl w ↦ absurd (none-some w.0 (sym none ∙ w.2))
        | inr w ↦ absurd (omega (arith, w.0))
      ] in
      subst (λ o. Leads (told_to g s by from said now mark o) s outcome next) (sym here) (tells_it outcome next (slice_get s.pending place) some told)

-- An answer by ICP

-- an ICP answer says the same whoever sent it
pub same_said : (h : SaidWithStamp) (word : Said) → h ≡ record { member = word; foreign = word } → said_by h ≡ (λ p. word)
same_said h word is =
    let each : (p : Peer) → said_by h p ≡ word = λ p.
    ap (λ h. said_by h p) is ∙ elim (is_foreign_id p.id) as (λ b. cond b word word ≡ word) [ true ↦ refl | false ↦ refl ] in
    λ i p. each p i

module _ {X : Type 0} (g : Setting) (s : NodeState X) (from : Address) (m : Icp) (now : ℕ) (mark : X) (asks : List (Pending X)) (same : asks ≡ s.pending)
    (place : Option ℕ) (is : (test : Pending X → Bool) → if_passes test (option_and_then (slice_get asks) place) ≡ find
    (λ p. (round_serial p == m.number) && test p) asks) where
  abbrev has_its_key : Pending X → Bool
  has_its_key p = is_key (g.key_of m.url) p.ask.key

  abbrev its_ask : Option (Pending X)
  its_ask = find (λ p. (round_serial p == m.number) && has_its_key p) s.pending

  if_found : (o : Option (Pending X)) → option_and_then (slice_get asks) place ≡ o → its_ask ≡ if_passes has_its_key o
  if_found o at = sym (ap (find (λ p. (round_serial p == m.number) && has_its_key p)) same) ∙ sym (is has_its_key) ∙ ap (if_passes has_its_key) at

  pub icp_tells_nobody : place ≡ None → (reply : Reply X) → reply ≡ quiet → icp_told g s from m now mark ≡ replies s reply
  unfolding icp_told
  icp_tells_nobody none reply is_reply =
      tells_nobody g s udp.Icp from (λ p. icp_said m.op) now mark its_ask (if_found None (ap (option_and_then (slice_get asks)) none)) reply is_reply

  module _ (at : ℕ) (there : place ≡ Some at) (p : Pending X) (value : slice_get asks at ≡ Some p) (text : List ℕ) (is_text : text ≡ m.url) (has : Bool)
      (is_has : has ≡ is_key (g.key_of text) p.ask.key) where
    passes_as : (b : Bool) → has ≡ b → its_ask ≡ cond b (Some p) None
    passes_as b is_b =
        if_found (Some p) (ap (option_and_then (slice_get asks)) there ∙ value)
        ∙ ap (λ b. cond b (Some p) None) (ap (λ t. is_key (g.key_of t) p.ask.key) (sym is_text) ∙ sym is_has ∙ is_b)

    pub icp_tells_no_other : has ≡ false → (reply : Reply X) → reply ≡ quiet → icp_told g s from m now mark ≡ replies s reply
    unfolding icp_told
    icp_tells_no_other other reply is_reply =
        tells_nobody g s udp.Icp from (λ p. icp_said m.op) now mark its_ask (passes_as false other) reply is_reply

    pub icp_tells_ask : at < length asks → has ≡ true → (h : SaidWithStamp) (word : Said) → word ≡ icp_said m.op →
        h ≡ record { member = word; foreign = word } → (outcome : Result (Reply X) StepFault) (next : NodeState X) →
        IfSome (slice_get s.pending at) (λ p. Leads (told_to g s udp.Icp from (said_by h) now mark (Some p)) s outcome next) →
        Leads (icp_told g s from m now mark) s outcome next
    unfolding icp_told
    icp_tells_ask below key h word is_word is_h outcome next told =
        let heard : said_by h ≡ (λ p. icp_said m.op) = same_said h word is_h ∙ ap (λ w. λ p. w) is_word in
        let told_so : IfSome (slice_get s.pending at) (λ p. Leads (told_to g s udp.Icp from (λ p. icp_said m.op) now mark (Some p)) s outcome next) =
        subst (λ said. IfSome (slice_get s.pending at) (λ p. Leads (told_to g s udp.Icp from said now mark (Some p)) s outcome next)) heard told in
        tells_ask g s udp.Icp from (λ p. icp_said m.op) now mark at asks same below its_ask (passes_as true key ∙ sym value) outcome next told_so
