-- What a node keeps as a pending request changes or ends, and where a request goes. A changed
-- request keeps its block and can go on, so the invariant holds; each rule of going on comes to
-- what the code does in its case.
use Rattle.std.proofs.Common.{◌≡◌, ℕ, ◌<◌, ◌≤◌, true, false, Bool, List, Option, Some, None, Result, refl, ap, sym, subst, nat_le, arith}
use Rattle.std.proofs.lemmas.Bool.Decides.{nat_tests}
use Rattle.object_store.specs.Held.{Held}
use Rattle.values_tables.specs.declared.plain.Tables.{Tables}
use Rattle.node_rules.specs.declared.state.Pending.{Pending}
use Rattle.node_rules.specs.declared.state.NodeState.{NodeState}
use Rattle.node_rules.specs.declared.reply.Reply.{Reply}
use Rattle.node_rules.specs.declared.reply.StepFault.{StepFault}
use Rattle.floor_rules.specs.Floors.{floor}
use Rattle.peer_chooser.specs.declared.said.Source.{Source}
use Rattle.peer_chooser.specs.declared.said.Source.TheVariants as source
use Rattle.peer_chooser.specs.Round.{RoundText}
use Rattle.peer_chooser.specs.Choice.{choice}
use Rattle.peer_chooser.proofs.Choices.{each_choice_follows}
use Rattle.node_rules.specs.declared.state.Fetch.TheVariants.{AtPeer}
use Rattle.node_rules.specs.State.{Setting, Stepped, changed, ended, is_idle}
use Rattle.node_rules.specs.Known.{has_origin}
use Rattle.node_rules.specs.Fetching.{fetching, choice_of, go_on, go_to, read_origin, begin_read, give_up}
use Rattle.node_waiting.specs.CanGoOn.{CanGoOn}
use Rattle.node_waiting.proofs.Counting.{one_less}
use Rattle.node_core.specs.View.{IsNode}
use Rattle.node_core.specs.Leads.{Leads}

module _ {X : Type 0} {roster : Tables} {id : ℕ} {held : Held X} {pending : List (Pending X)} {next : ℕ} {closed : Bool} where
  -- the invariant still holds after a request has ended
  pub ended_node : (block : ℕ) → IsNode roster id held pending next closed → IsNode roster id held (ended block pending) next closed
  ended_node block is = record {
    member = is.member;
    limits = is.limits;
    block = is.block;
    none_waits = λ e. ap (ended block) (is.none_waits e);
  }

  -- and after a request has changed
  pub changed_node : (q : Pending X) → IsNode roster id held pending next closed → IsNode roster id held (changed q pending) next closed
  changed_node q is = record {
    member = is.member;
    limits = is.limits;
    block = is.block;
    none_waits = λ e. ap (changed q) (is.none_waits e);
  }

-- What the rules of a request that goes on come to

module _ {X : Type 0} (g : Setting) (s : NodeState X) (p : Pending X) (waiter : Option ℕ) (now : ℕ) (mark : X) where
  pub reads_no_more : 3 ≤ p.reads → read_origin g s p waiter now mark ≡ give_up s p waiter 503
  unfolding read_origin
  reads_no_more many =
      let test : nat_le 3 p.reads ≡ true = grind (arith, nat_tests) in
      rw test

  pub has_none_to_read : p.reads < 3 → has_origin g.roster p.ask.key ≡ false → read_origin g s p waiter now mark ≡ give_up s p waiter 502
  unfolding read_origin
  has_none_to_read few none =
      let test : nat_le 3 p.reads ≡ false = grind (arith, nat_tests) in
      rw (test, none)

  pub reads_again : p.reads < 3 → has_origin g.roster p.ask.key ≡ true → read_origin g s p waiter now mark ≡ begin_read s p now mark
  unfolding read_origin
  reads_again few one =
      let test : nat_le 3 p.reads ≡ false = grind (arith, nat_tests) in
      rw (test, one)

-- two rules that say the same lead to the same
pub leads_by : {X : Type 0} (to by : Stepped X) (s next : NodeState X) (out : Result (Reply X) StepFault) → to ≡ by → Leads by s out next → Leads to s out next
leads_by to by s next out same h = subst (λ t. Leads t s out next) (sym same) h

-- a request goes where its round says
pub goes : {X : Type 0} (g : Setting) (s : NodeState X) (p : Pending X) (now : ℕ) (mark : X) (chosen : Source) →
    choice_of p.round (floor s.floors p.ask.key) p.tried ≡ chosen → go_on g s p now mark ≡ go_to g s p now mark chosen
unfolding go_on
goes g s p now mark chosen is = ap (go_to g s p now mark) is

-- a peer is chosen by a round
record IsChosenBy (o : Option RoundText) (floor : ℕ) (tried : List ℕ) (to : Source) : Type 0 where
  pub round : RoundText
  pub is : o ≡ Some round
  pub chosen : choice round floor tried ≡ to

chosen_by : (o : Option RoundText) (floor : ℕ) (tried : List ℕ) (peer : ℕ) (cached : Bool) → choice_of o floor tried ≡ source.Peer peer cached →
    IsChosenBy o floor tried (source.Peer peer cached)
chosen_by None floor tried peer cached e = cc
chosen_by (Some r) floor tried peer cached e = record { round = r; is = refl; chosen = e }

-- a request that goes to the peer that was chosen can go on
pub peer_can_go_on : {X : Type 0} (p : Pending X) (floor peer now : ℕ) (cached : Bool) → CanGoOn p → is_idle p.fetch ≡ true →
    choice_of p.round floor p.tried ≡ source.Peer peer cached → CanGoOn (fetching p p.reads (AtPeer peer now))
peer_can_go_on p floor peer now cached go idle e =
    let by = chosen_by p.round floor p.tried peer cached e in
    let follows = each_choice_follows by.round floor p.tried peer cached by.chosen in
    let less = one_less p by.round follows.answer peer now floor by.is idle follows.answered follows.peer follows.untried in
    record { few_reads = go.few_reads; few_answers = go.few_answers; serials = omega (arith, less, go.serials) }
