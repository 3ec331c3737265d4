-- An entry of a node that may follow stands for events of the world: the clock is set, and some
-- event brings the node what it received (Meeting). An entry that was refused and left the node open stands for no
-- event. One that closed it leaves the floors that are stored, from before the raise or after it.
use Rattle.std.proofs.Common.{◌≡◌, ℕ, ◌+◌, Bool, true, false, cond, List, [], ◌∷◌, ◌++◌, Option, Some, None, Result, Ok, Err, find, refl, sym, ◌∙◌, ap, inl}
use Rattle.std.proofs.Common.{inr, subst}
use Rattle.std.proofs.lemmas.List.Elements.{Contains-append_left}
use Rattle.std.specs.Prelude.{◌⊎◌}
use Rattle.floor_rules.specs.Floors.{FloorTable}
use Rattle.object_store.specs.declared.copy.WebCopy.{WebCopy}
use Rattle.object_store.specs.Listed.{without_all_below}
use Rattle.values_tables.specs.declared.plain.Tables.{Tables}
use Rattle.roster.specs.Lookups.{is_member}
use Rattle.roster.specs.Judged.{IsRoster}
use Rattle.node_rules.specs.declared.state.NodeState.{NodeState}
use Rattle.node_rules.specs.declared.event.Event.{Event}
use Rattle.node_rules.specs.declared.event.Event.TheVariants as event
use Rattle.node_rules.specs.declared.reply.Begin.{Begin}
use Rattle.node_rules.specs.declared.reply.Reply.{Reply}
use Rattle.node_rules.specs.declared.reply.StepFault.{StepFault}
use Rattle.node_rules.specs.declared.reply.StepFault.TheVariants as fault
use Rattle.node_rules.specs.State.{Setting, Stepped, setting, closed_node}
use Rattle.node_rules.specs.Step.{step}
use Rattle.node_rules.specs.declared.raising.Raise.{Raise}
use Rattle.node_rules.specs.Raises.{raised_by, least_by}
use Rattle.node_rules.specs.Relation.{ClosesOn, Closes, raise_in}
use Rattle.node_rules.specs.Relation.{Steps as NodeStepsBy}
use Rattle.node_rules.specs.Tags.{retag_reply, retag_stepped}
use Rattle.node_rules.proofs.TagLists.{without_all_below-retag}
use Rattle.node_rules.proofs.TagSteps.{step-retag}
use Rattle.node_rules.proofs.Lawful.{step_steps}
use Rattle.node_rules.proofs.Stepping.{the_function_closes_no_node}
use Rattle.node_book.specs.declared.book.NodeEntry.{NodeEntry}
use Rattle.world_rules.specs.declared.event.WorldEvent.TheVariants as world
use Rattle.world_rules.specs.World.{World, Waiting, reply_in, after_node, is_waiting_as, waits_now}
use Rattle.world_rules.specs.Consequence.{Replied, Nothing, consequence, with_clock, with_member_state}
use Rattle.world_rules.specs.Run.{Step, Run, Takes}
use Rattle.world_rules.specs.Asked.{moment}
use Rattle.run_rules.specs.Sent.{Network, with_reply, without_waiting, IsSent}
use Rattle.run_rules.specs.Board.{Standing, New, Open, Shut, Astray, Board, standing_at, with_node, with_network}
use Rattle.run_rules.specs.declared.verdict.Cause.{Cause}
use Rattle.run_rules.specs.declared.verdict.Cause.TheVariants.{NotSent, OtherReply}
use Rattle.run_rules.specs.Stored.{are_same, stored_by}
use Rattle.run_rules.specs.Judging.{Fine, Flawed, Reaches, IsStep, StepsBy, OpenStepsBy, StepsSo, after_entry, wanting, failing, left_by, shut_by, is_astray}
use Rattle.run_rules.specs.Judging.{judged, JudgesEntry}
use Rattle.run_rules.specs.Recorded.{Progress, IsTaken, ChangesNothing, event_step, unmarked, unmarked_event, unmarked_outcome, node_in}
use Rattle.run_rules.specs.Recorded.{Stands}
use Rattle.run_rules.specs.Notes.{Note, Steps}
use Rattle.run_rules.proofs.Lists.{ok_same}
use Rattle.run_rules.proofs.Refusals.{no_fault, refusal_same, closed_refuses}
use Rattle.run_rules.proofs.Matching.{NetworkMatches, waits_dropped, waits_dropped_here}
use Rattle.run_rules.proofs.Meeting.{Meets, meets}
use Rattle.run_rules.proofs.Following.{StandsIn, Matches, each_place, each_post, after_goes, place_goes, network_replied, quiet_network}

pub not_flawed : (x : Board) (cause : Cause) → Fine x ≡ Flawed cause → ⊥
not_flawed x cause is = cc

pub same_board : (x y : Board) → Fine x ≡ Fine y → x ≡ y
same_board x y is = cc

-- what a reply is without its marks
reply_unmarked : (o : Result (Reply ℕ) StepFault) (reply : Reply (Unit {0})) → unmarked_outcome o ≡ Ok reply →
    (r : Reply ℕ) × (o ≡ Ok r) × (retag_reply (λ _. tt) r ≡ reply)
reply_unmarked (Ok r) reply is = (r, refl, ok_same (retag_reply (λ _. tt) r) reply _ refl is)
reply_unmarked (Err f) reply is = cc

-- the clock does not change what was sent
network_now : {n : Network} {w : World} {now : ℕ} → NetworkMatches n w → NetworkMatches n (with_clock w now)
network_now h = record { datagrams = h.datagrams; asks = h.asks; answers = h.answers; waiting = h.waiting }

-- what was sent before is still sent
-- no request begins to wait with a raise
raise_waits : (g : Setting) (id : ℕ) (e : Event ℕ) (serial : ℕ) (b : Option Begin) (x : Raise) → raise_in g e ≡ Some x → waits_now id e serial b ≡ []
raise_waits g id (event.Client ask now) serial b x is = refl
raise_waits g id (event.Datagram from m now) serial b x is = refl
raise_waits g id (event.PeerAsk asker ask now) serial b x is = cc
raise_waits g id (event.PeerAnswer s peer key answer tag now) serial b x is = refl
raise_waits g id (event.OriginAnswer s key answer now) serial b x is = refl
raise_waits g id (event.ForeignAnswer s peer key answer tag now) serial b x is = refl
raise_waits g id (event.FetchFailed s now) serial b x is = refl
raise_waits g id (event.Expired s now) serial b x is = refl

network_kept : (t : Tables) (n : Network) (w : World) (id : ℕ) (e : Event ℕ) (serial : ℕ) (o : Result (Reply ℕ) StepFault) (next : NodeState ℕ) →
    waits_now id e serial (reply_in o).begin ≡ [] → NetworkMatches n w → NetworkMatches n (after_node t w id e serial o next)
network_kept t n w id e serial o next none h = record {
  datagrams = λ d has. Contains-append_left w.datagrams _ d (h.datagrams d has);
  asks = λ a has. let (x, there, same) = h.asks a has in (x, Contains-append_left w.asks _ x there, same);
  answers = λ a has. let (x, there, same) = h.answers a has in (x, Contains-append_left w.answers _ x there, same);
  waiting = λ i block x is. let (y, found, same) = h.waiting i block x is in (
    y,
    ap (λ (l : List Waiting). find (is_waiting_as i block) (l ++ w.waiting)) none ∙ found,
    same,
  );
}

pub network_closed : (n : Network) (w : World) (id : ℕ) (next : NodeState ℕ) → NetworkMatches n w →
    NetworkMatches (without_waiting n id) (with_member_state w id next)
network_closed n w id next h = record { datagrams = h.datagrams; asks = h.asks; answers = h.answers; waiting = waits_dropped n.waiting w.waiting id h.waiting }

-- what waits at a closed node is forgotten
network_dropped : (n : Network) (w : World) (id : ℕ) → NetworkMatches n w → NetworkMatches (without_waiting n id) w
network_dropped n w id h = record {
  datagrams = h.datagrams;
  asks = h.asks;
  answers = h.answers;
  waiting =
      waits_dropped_here n.waiting w.waiting id h.waiting;
}

raise_unmarked : (g : Setting) (e : Event ℕ) → raise_in g (unmarked_event e) ≡ raise_in g e
raise_unmarked g (event.Client ask now) = refl
raise_unmarked g (event.Datagram from m now) = refl
raise_unmarked g (event.PeerAsk asker ask now) = refl
raise_unmarked g (event.PeerAnswer serial peer key answer tag now) = refl
raise_unmarked g (event.OriginAnswer serial key answer now) = refl
raise_unmarked g (event.ForeignAnswer serial peer key answer tag now) = refl
raise_unmarked g (event.FetchFailed serial now) = refl
raise_unmarked g (event.Expired serial now) = refl

raise_reaches : (g : Setting) (s : NodeState (Unit {0})) (e : Event (Unit {0})) (x : Raise) → raise_in g e ≡ Some x → Reaches s e
raise_reaches g s (event.Client ask now) x is = tt
raise_reaches g s (event.Datagram from m now) x is = tt
raise_reaches g s (event.PeerAsk asker ask now) x is = tt
raise_reaches g s (event.PeerAnswer serial peer key answer tag now) x is = tt
raise_reaches g s (event.OriginAnswer serial key answer now) x is = cc
raise_reaches g s (event.ForeignAnswer serial peer key answer tag now) x is = cc
raise_reaches g s (event.FetchFailed serial now) x is = tt
raise_reaches g s (event.Expired serial now) x is = tt

-- a fault that the function of a step returns
abbrev IsOwn : StepFault → Type 0
IsOwn fault.NoMemory = ⊥
IsOwn fault.StoreFault = ⊥
IsOwn _ = Unit {0}

own_steps : (g : Setting) (s : NodeState (Unit {0})) (e : Event (Unit {0})) (f : StepFault) → IsOwn f → step g s e tt ≡ record { state = s; outcome = Err f } →
    NodeStepsBy g s e tt (Err f) s
own_steps g s e fault.Closed own is = is
own_steps g s e fault.UnknownSerial own is = is
own_steps g s e fault.Busy own is = is
own_steps g s e fault.StoreFault own is = absurd own
own_steps g s e fault.NoMemory own is = absurd own

-- a fault of memory or of the store
abbrev IsClosing : StepFault → Type 0
IsClosing fault.NoMemory = Unit {0}
IsClosing fault.StoreFault = Unit {0}
IsClosing _ = ⊥

closing_steps : {X : Type 0} (g : Setting) (s : NodeState X) (e : Event X) (mark : X) (f : StepFault) (next : NodeState X) → IsClosing f → Closes g s e next →
    NodeStepsBy g s e mark (Err f) next
closing_steps g s e mark fault.Closed next closing closes = absurd closing
closing_steps g s e mark fault.UnknownSerial next closing closes = absurd closing
closing_steps g s e mark fault.Busy next closing closes = absurd closing
closing_steps g s e mark fault.StoreFault next closing closes = closes
closing_steps g s e mark fault.NoMemory next closing closes = inr closes

-- the floors from before the raise or after it
before_or_after : (is_after : Bool) (floors : FloorTable) (raise : Raise) →
    (cond is_after (raised_by raise floors) floors ≡ floors) ⊎ (cond is_after (raised_by raise floors) floors ≡ raised_by raise floors)
before_or_after true floors raise = inr refl
before_or_after false floors raise = inl refl

-- the note stands for events, after which the world matches the state of the run
pub record Follows (t : Tables) (p : Progress) (note : Note) (next : Board) : Type 0 where
  pub steps : List Step
  pub to : Progress
  pub stands : Stands t p note steps to
  pub matches : Matches t next to

module _ (t : Tables) (b : Board) (p : Progress) (m : Matches t b p) (id : ℕ) (member : is_member t id ≡ true) where
  abbrev g : Setting
  g = setting t id

  abbrev node : NodeState ℕ
  node = node_in p id

  -- the node takes a step with this outcome
  module _ (e : Event (Unit {0})) (how : Meets t p.world id e) (outcome : Result (Reply ℕ) StepFault) (left : NodeState ℕ)
      (steps : NodeStepsBy g node how.met (p.place + 1) outcome left) where
    abbrev reached : Progress
    reached = record {
      world = after_node t (with_clock p.world (moment e)) id how.met how.serial outcome left;
      place = p.place + 2;
      master = p.master;
    }

    abbrev taken : List Step
    taken = event_step (world.Clock (moment e)) Nothing ∷ event_step how.happens (Replied id outcome) ∷ []

    consequences_so : Takes t (p.place + 1) (with_clock p.world (moment e)) (consequence t (with_clock p.world (moment e)) how.happens) (Replied id outcome)
        reached.world
    consequences_so = subst (λ x. Takes t (p.place + 1) (with_clock p.world (moment e)) x (Replied id outcome) reached.world) (sym how.consequences)
        (outcome, left, steps, refl, refl)

    runs_so : Run t p.place p.world taken reached.world
    runs_so = (with_clock p.world (moment e), (tt, (refl, refl)), (reached.world, (how.keyed, consequences_so), refl))

    is_taken_so : IsTaken t p id e outcome taken reached
    is_taken_so = record {
      happens = how.happens;
      met = how.met;
      serial = how.serial;
      consequences = how.consequences;
      event = how.event;
      steps = refl;
      goes = record { run = runs_so; place = refl; master = refl; purges = m.purges ∙ sym (ap (λ x. x.purges) m.master) };
    }

  -- an open node takes the step that is defined
  module _ (is_open : node.closed ≡ false) (e : Event (Unit {0})) (how : Meets t p.world id e) where
    abbrev now : World
    now = with_clock p.world (moment e)

    abbrev r : Stepped ℕ
    r = step g node how.met (p.place + 1)

    r_steps : NodeStepsBy g node how.met (p.place + 1) r.outcome r.state
    r_steps = step_steps g node how.met (p.place + 1)

    abbrev q : Progress
    q = reached e how r.outcome r.state r_steps

    abbrev these : List Step
    these = taken e how r.outcome r.state r_steps

    -- without marks it is the recorded step
    unmarked_step : step g (unmarked node) e tt ≡ retag_stepped (λ _. tt) r
    unmarked_step = subst (λ x. step g (unmarked node) x tt ≡ retag_stepped (λ _. tt) r) how.event (step-retag (λ _. tt) g node how.met (p.place + 1))

    runs : Run t p.place p.world these q.world
    runs = runs_so e how r.outcome r.state r_steps

    is_taken : IsTaken t p id e r.outcome these q
    is_taken = is_taken_so e how r.outcome r.state r_steps

    -- what it sends is sent in the world
    sends : (reply : Reply ℕ) → r.outcome ≡ Ok reply → NetworkMatches (with_reply t b.network id e (retag_reply (λ _. tt) reply)) q.world
    sends reply is =
        subst (λ (x : Event (Unit {0})). NetworkMatches (with_reply t b.network id x (retag_reply (λ _. tt) reply)) q.world) how.event
        (subst (λ (o : Result (Reply ℕ) StepFault). NetworkMatches (with_reply t b.network id (unmarked_event how.met) (retag_reply (λ _. tt) reply))
        (after_node t now id how.met how.serial o r.state)) (sym is)
        (network_replied t b.network now id how.met how.serial reply r.state (network_now m.network)))

    open_after : r.state.closed ≡ false
    open_after = the_function_closes_no_node g node how.met (p.place + 1) ∙ is_open

  -- the world stays the same, and so does the node
  still : (st : Standing) (n : Network) → StandsIn t id st node → NetworkMatches n p.world → Matches t (with_network (with_node b id st) n) p
  still st n stands network = record {
    past = m.past;
    at = m.at;
    after = m.after;
    nodes = each_post t b.posts p.world.states id st stands m.nodes;
    master = m.master;
    purges = m.purges;
    network = network;
  }

  module _ (entry : NodeEntry) (is_closed : Bool) (kept : FloorTable) where
    abbrev note : Note
    note = Steps id entry is_closed kept

    -- the step has a reply
    replied : node.closed ≡ false → Meets t p.world id entry.event → (next : NodeState (Unit {0})) (reply : Reply (Unit {0})) → entry.outcome ≡ Ok reply →
        IsStep g (unmarked node) entry next → Follows t p note (after_entry t b id entry (Open next))
    replied is_open how next reply is_ok is_step =
        let outcome : unmarked_outcome (r is_open entry.event how).outcome ≡ entry.outcome =
        ap (λ (x : Stepped (Unit {0})). x.outcome) (sym (unmarked_step is_open entry.event how) ∙ is_step) in
        let state : unmarked (r is_open entry.event how).state ≡ next = ap (λ (x : Stepped (Unit {0})). x.state)
        (sym (unmarked_step is_open entry.event how) ∙ is_step) in
        let (marked, is_marked, same) = reply_unmarked (r is_open entry.event how).outcome reply (outcome ∙ is_ok) in
        record {
          steps = these is_open entry.event how;
          to = q is_open entry.event how;
          stands = inl ((r is_open entry.event how).outcome, is_taken is_open entry.event how, outcome);
          matches = record {
            past = m.past ++ these is_open entry.event how;
            at = place_goes t b p (these is_open entry.event how) (p.place + 2) m refl;
            after = after_goes t b p (q is_open entry.event how) (these is_open entry.event how) m (runs is_open entry.event how);
            nodes = each_place t b.posts p.world.states id (Open next) (r is_open entry.event how).state (member, open_after is_open entry.event how, state)
                (λ i _. m.nodes i);
            master = m.master;
            purges = m.purges;
            network =
                subst (λ (o : Result (Reply (Unit {0})) StepFault). NetworkMatches (with_reply t b.network id entry.event (reply_in o))
                (q is_open entry.event how).world) (sym is_ok)
                (subst (λ (x : Reply (Unit {0})). NetworkMatches (with_reply t b.network id entry.event x) (q is_open entry.event how).world) same
                (sends is_open entry.event how marked is_marked));
          };
        }

    -- a refused entry sends nothing
    quiet_after : (f : StepFault) → entry.outcome ≡ Err f → NetworkMatches (with_reply t b.network id entry.event (reply_in entry.outcome)) p.world
    quiet_after f is_err =
        subst (λ (o : Result (Reply (Unit {0})) StepFault). NetworkMatches (with_reply t b.network id entry.event (reply_in o)) p.world) (sym is_err)
        (subst (λ (n : Network). NetworkMatches n p.world) (sym (quiet_network t b.network id entry.event)) m.network)

    unchanged : (f : StepFault) → entry.outcome ≡ Err f → NodeStepsBy g (unmarked node) entry.event tt (Err f) (unmarked node) →
        ChangesNothing t p id entry [] p
    unchanged f is_err steps = (
      f,
      is_err,
      refl,
      refl,
      subst (λ (o : Result (Reply (Unit {0})) StepFault). NodeStepsBy g (unmarked node) entry.event tt o (unmarked node)) (sym is_err)
          steps,
    )

    -- the step is refused
    refused : node.closed ≡ false → (f : StepFault) → IsOwn f → (next : NodeState (Unit {0})) → entry.outcome ≡ Err f → IsStep g (unmarked node) entry next →
        Follows t p note (after_entry t b id entry (Open next))
    refused is_open f own next is_err is_step =
        let outcome : (step g (unmarked node) entry.event tt).outcome ≡ Err f = ap (λ (x : Stepped (Unit {0})). x.outcome) is_step ∙ is_err in
        let same : (step g (unmarked node) entry.event tt).state ≡ unmarked node = refusal_same g (unmarked node) tt entry.event f outcome in
        let state : unmarked node ≡ next = sym same ∙ ap (λ (x : Stepped (Unit {0})). x.state) is_step in
        let is : step g (unmarked node) entry.event tt ≡ record { state = unmarked node; outcome = Err f } =
        ap (λ (x : NodeState (Unit {0})). record { state = x; outcome = (step g (unmarked node) entry.event tt).outcome }) same
        ∙ ap (λ (o : Result (Reply (Unit {0})) StepFault). record { state = unmarked node; outcome = o }) outcome in
        record {
          steps = [];
          to = p;
          stands = inr (unchanged f is_err (own_steps g (unmarked node) entry.event f own is));
          matches = still (Open next) _ (member, is_open, state) (quiet_after f is_err);
        }

    -- the step lacks memory, and the node stays open
    wants : node.closed ≡ false → entry.outcome ≡ Err fault.NoMemory → Follows t p note (after_entry t b id entry (Open (unmarked node)))
    wants is_open is_err = record {
      steps = [];
      to = p;
      stands = inr (unchanged fault.NoMemory is_err (inl (is_open, refl)));
      matches = still (Open (unmarked node)) _ (member, is_open, refl) (quiet_after fault.NoMemory is_err);
    }

    -- a closed node refuses so
    shut : (s : NodeState (Unit {0})) → node.closed ≡ true → unmarked node ≡ s → entry.outcome ≡ Err fault.Closed →
        Follows t p note (after_entry t b id entry (Shut s))
    shut s is_shut same is_err = record {
      steps = [];
      to = p;
      stands = inr (unchanged fault.Closed is_err (closed_refuses g (unmarked node) tt entry.event is_shut));
      matches = still (Shut s) _ (member, is_shut, same) (network_dropped b.network p.world id m.network);
    }

    -- The node closes at a raise. It has dropped the copies that were to go first, and has the floors that are stored.
    module _ (is_open : node.closed ≡ false) (f : StepFault) (closing : IsClosing f) (is_err : entry.outcome ≡ Err f) (raise : Raise)
        (raises : raise_in g entry.event ≡ Some raise) (heard : IsSent t b.network id entry.event) (proper : IsRoster t) where
      abbrev left : NodeState (Unit {0})
      left = left_by (unmarked node) raise kept

      -- the same with marks
      abbrev closed : NodeState ℕ
      closed = record (closed_node node) {
        floors = stored_by node.floors raise kept;
        copies =
            without_all_below (least_by raise node.floors) node.copies;
      }

      same_left : unmarked closed ≡ left
      same_left = ap (λ (copies : List (WebCopy (Unit {0}))). record left { copies = copies })
          (sym (without_all_below-retag (λ _. tt) (least_by raise node.floors) node.copies))

      how : Meets t p.world id entry.event
      how = meets t proper p.world id member b.network m.network (unmarked node) refl entry.event heard
          (raise_reaches g (unmarked node) entry.event raise raises)

      meets_raise : raise_in g how.met ≡ Some raise
      meets_raise = sym (raise_unmarked g how.met) ∙ ap (raise_in g) how.event ∙ raises

      closes : NodeStepsBy g node how.met (p.place + 1) (Err f) closed
      closes =
          closing_steps g node how.met (p.place + 1) f closed closing (
            is_open,
            subst (λ (o : Option Raise). ClosesOn node o closed) (sym meets_raise) record {
              closed = refl;
              pending = refl;
              copies = refl;
              block = refl;
              floors =
                  before_or_after (are_same kept (raised_by raise node.floors)) node.floors raise;
            },
          )

      ends : Follows t p note (after_entry t b id entry (Shut left))
      ends =
          let these = taken entry.event how (Err f) closed closes in
          let to = reached entry.event how (Err f) closed closes in
          record {
            steps = these;
            to = to;
            stands = inl (Err f, is_taken_so entry.event how (Err f) closed closes, sym is_err);
            matches = record {
              past = m.past ++ these;
              at = place_goes t b p these (p.place + 2) m refl;
              after = after_goes t b p to these m (runs_so entry.event how (Err f) closed closes);
              nodes = each_place t b.posts p.world.states id (Shut left) closed (member, refl, same_left) (λ i _. m.nodes i);
              master = m.master;
              purges = m.purges;
              network = network_dropped b.network to.world id
                  (network_kept t b.network (with_clock p.world (moment entry.event)) id how.met how.serial (Err f) closed
                  (raise_waits g id how.met how.serial None raise meets_raise) (network_now m.network));
            };
          }

    -- what an entry of an open node stands for
    module _ (proper : IsRoster t) (heard : IsSent t b.network id entry.event) (is_open : node.closed ≡ false) where
      replied_by : (reply : Reply (Unit {0})) → entry.outcome ≡ Ok reply → Reaches (unmarked node) entry.event →
          (st : Standing) (result : Result Standing Cause) → result ≡ Ok st → StepsBy g (unmarked node) entry result →
          Follows t p note (after_entry t b id entry st)
      replied_by reply is_ok reaches st result fine (inl (next, is_step, is)) =
          subst (λ (x : Standing). Follows t p note (after_entry t b id entry x)) (ok_same (Open next) st result is fine)
          (replied is_open (meets t proper p.world id member b.network m.network (unmarked node) refl entry.event heard reaches) next reply is_ok is_step)
      replied_by reply is_ok reaches st result fine (inr (other, is)) = absurd (no_fault st OtherReply (sym fine ∙ is))

      refused_by : (f : StepFault) → entry.outcome ≡ Err f → IsOwn f → (st : Standing) (result : Result Standing Cause) → result ≡ Ok st →
          StepsBy g (unmarked node) entry result → Follows t p note (after_entry t b id entry st)
      refused_by f is_err own st result fine (inl (next, is_step, is)) =
          subst (λ (x : Standing). Follows t p note (after_entry t b id entry x)) (ok_same (Open next) st result is fine)
          (refused is_open f own next is_err is_step)
      refused_by f is_err own st result fine (inr (other, is)) = absurd (no_fault st OtherReply (sym fine ∙ is))

      wanting_by : entry.outcome ≡ Err fault.NoMemory → (st : Standing) (o : Option Raise) (c : Bool) → raise_in g entry.event ≡ o → is_closed ≡ c →
          st ≡ wanting (unmarked node) o c kept → Follows t p note (after_entry t b id entry st)
      wanting_by is_err st (Some x) true raises ended is =
          subst (λ (s : Standing). Follows t p note (after_entry t b id entry s)) (sym is) (ends is_open fault.NoMemory tt is_err x raises heard proper)
      wanting_by is_err st (Some x) false raises ended is = subst (λ (s : Standing). Follows t p note (after_entry t b id entry s)) (sym is)
          (wants is_open is_err)
      wanting_by is_err st None c raises ended is = subst (λ (s : Standing). Follows t p note (after_entry t b id entry s)) (sym is) (wants is_open is_err)

      failing_by : entry.outcome ≡ Err fault.StoreFault → (st : Standing) (o : Option Raise) → raise_in g entry.event ≡ o →
          Ok st ≡ failing (unmarked node) o kept → Follows t p note (after_entry t b id entry st)
      failing_by is_err st (Some x) raises is =
          subst (λ (s : Standing). Follows t p note (after_entry t b id entry s)) (ok_same _ st _ refl (sym is))
          (ends is_open fault.StoreFault tt is_err x raises heard proper)
      failing_by is_err st None raises is = absurd (no_fault st OtherReply is)

      open_by : (o : Result (Reply (Unit {0})) StepFault) → entry.outcome ≡ o → (st : Standing) (result : Result Standing Cause) → result ≡ Ok st →
          OpenStepsBy g (unmarked node) entry is_closed kept o result → Follows t p note (after_entry t b id entry st)
      open_by (Ok reply) is_ok st result fine (inl (reaches, steps)) = replied_by reply is_ok reaches st result fine steps
      open_by (Ok reply) is_ok st result fine (inr (none, is)) = absurd (no_fault st OtherReply (sym fine ∙ is))
      open_by (Err fault.NoMemory) is_err st result fine is = wanting_by is_err st (raise_in g entry.event) is_closed refl refl (ok_same st _ result fine is)
      open_by (Err fault.StoreFault) is_err st result fine is = failing_by is_err st (raise_in g entry.event) refl (sym fine ∙ is)
      open_by (Err fault.Closed) is_err st result fine steps = refused_by fault.Closed is_err tt st result fine steps
      open_by (Err fault.UnknownSerial) is_err st result fine steps = refused_by fault.UnknownSerial is_err tt st result fine steps
      open_by (Err fault.Busy) is_err st result fine steps = refused_by fault.Busy is_err tt st result fine steps

    -- what an entry of a closed node stands for
    shut_by_outcome : (s : NodeState (Unit {0})) → node.closed ≡ true → unmarked node ≡ s → (o : Result (Reply (Unit {0})) StepFault) → entry.outcome ≡ o →
        (st : Standing) → Ok st ≡ shut_by s o → Follows t p note (after_entry t b id entry st)
    shut_by_outcome s is_shut same (Err fault.Closed) is_err st is =
        subst (λ (x : Standing). Follows t p note (after_entry t b id entry x)) (ok_same (Shut s) st _ refl (sym is)) (shut s is_shut same is_err)
    shut_by_outcome s is_shut same (Ok reply) is_ok st is = absurd (no_fault st OtherReply is)
    shut_by_outcome s is_shut same (Err fault.NoMemory) is_err st is = absurd (no_fault st OtherReply is)
    shut_by_outcome s is_shut same (Err fault.StoreFault) is_err st is = absurd (no_fault st OtherReply is)
    shut_by_outcome s is_shut same (Err fault.UnknownSerial) is_err st is = absurd (no_fault st OtherReply is)
    shut_by_outcome s is_shut same (Err fault.Busy) is_err st is = absurd (no_fault st OtherReply is)

module _ (t : Tables) (proper : IsRoster t) (b : Board) (p : Progress) (m : Matches t b p) (id : ℕ) (entry : NodeEntry) (is_closed : Bool) (kept : FloorTable)
  where
    stands_by : (now_so : Standing) → standing_at b.posts id ≡ now_so → StandsIn t id now_so (node_in p id) →
        (is_astray now_so ≡ false → IsSent t b.network id entry.event) →
        (st : Standing) (result : Result Standing Cause) → result ≡ Ok st → StepsSo (setting t id) now_so entry is_closed kept result →
        Follows t p (Steps id entry is_closed kept) (after_entry t b id entry st)
    stands_by New so stands heard st result fine is = absurd (no_fault st OtherReply (sym fine ∙ is))
    stands_by Astray so stands heard st result fine is = absurd stands
    stands_by (Open s) so (member, is_open, same) heard st result fine steps =
        open_by t b p m id member entry is_closed kept proper (heard refl) is_open entry.outcome refl st result fine
        (subst (λ (x : NodeState (Unit {0})). OpenStepsBy (setting t id) x entry is_closed kept entry.outcome result) (sym same) steps)
    stands_by (Shut s) so (member, is_shut, same) heard st result fine is = shut_by_outcome t b p m id member entry is_closed kept s is_shut same
        entry.outcome refl st (sym fine ∙ is)

    fine_by : (r : Result Standing Cause) (next : Board) → Fine next ≡ judged t b id entry r → (st : Standing) × (r ≡ Ok st)
        × (next ≡ after_entry t b id entry st)
    fine_by (Ok st) next is = (st, refl, same_board next (after_entry t b id entry st) is)
    fine_by (Err cause) next is = absurd (not_flawed next cause is)

    -- an entry that may follow stands for events of the world
    pub entry_follows : (next : Board) → JudgesEntry t b id entry is_closed kept (Fine next) → Follows t p (Steps id entry is_closed kept) next
    entry_follows next (inl (heard, r, steps, is)) =
        let (st, fine, same) = fine_by r next is in
        subst (Follows t p (Steps id entry is_closed kept)) (sym same)
        (stands_by (standing_at b.posts id) refl (m.nodes id) heard st r fine steps)
    entry_follows next (inr (unheard, is)) = absurd (not_flawed next NotSent is)
