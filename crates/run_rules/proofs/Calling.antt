-- An entry of the master that may follow stands for events of the world. The master's definition is
-- the one that the world uses; an acknowledgement was sent, so its datagram is in the world; a
-- refused call stands for no event and leaves the purges.
use Rattle.std.proofs.Common.{◌≡◌, ℕ, ◌+◌, Bool, true, false, cond, ◌||◌, List, [], ◌∷◌, ◌++◌, Option, Some, None, Result, Ok, Err, refl, sym, ◌∙◌, ap, inl}
use Rattle.std.proofs.Common.{inr, subst, arith}
use Rattle.std.proofs.lemmas.List.Elements.{Contains-append_left}
use Rattle.htcp_wire.specs.declared.message.Content.{Content}
use Rattle.htcp_wire.specs.declared.message.Content.TheVariants as content
use Rattle.values_plain.specs.declared.address.Address.{Address}
use Rattle.values_tables.specs.declared.plain.Tables.{Tables}
use Rattle.values_plain.specs.declared.address.Udp.TheVariants as udp
use Rattle.roster.specs.Lookups.{member_of, member_at}
use Rattle.node_rules.specs.declared.message.Message.{Message}
use Rattle.node_rules.specs.declared.message.Message.TheVariants as message
use Rattle.node_rules.proofs.Cases.{true_not_false}
use Rattle.purge_rules.specs.declared.calls.Status.{Status}
use Rattle.purge_rules.specs.declared.calls.MasterCall.{MasterCall}
use Rattle.purge_rules.specs.declared.calls.MasterCall.TheVariants as call
use Rattle.purge_rules.specs.declared.calls.MasterAnswer.{MasterAnswer}
use Rattle.purge_rules.specs.declared.calls.MasterAnswer.TheVariants as answer
use Rattle.purge_rules.specs.declared.fault.MasterFault.{MasterFault}
use Rattle.purge_rules.specs.declared.fault.MasterFault.TheVariants as fault
use Rattle.purge_rules.specs.declared.nodes.Nodes.{Nodes}
use Rattle.purge_rules.specs.declared.purges.Admission.{Admission}
use Rattle.purge_rules.specs.Needed.{nodes_of}
use Rattle.purge_rules.specs.Purges.{PurgeList, with_purge, with_admission}
use Rattle.purge_rules.specs.Calls.{MasterState, Called, called, opened, issued, admitted, issue_fault, admit_fault, acknowledged, status_of, is_written}
use Rattle.purge_rules.specs.Calls.{is_due}
use Rattle.purge_rules.specs.Clear.{base_clear}
use Rattle.purge_rules.specs.Calls.{Calls as MasterCalls, WantsMemory}
use Rattle.purge_master.specs.declared.book.MasterEntry.{MasterEntry}
use Rattle.world_rules.specs.declared.event.WorldEvent.{WorldEvent}
use Rattle.world_rules.specs.declared.event.WorldEvent.TheVariants as world
use Rattle.std.specs.Prelude.{Contains}
use Rattle.world_rules.specs.World.{World, Datagram, MemberState, node_at}
use Rattle.world_rules.proofs.Items.{append_nil}
use Rattle.node_rules.specs.Messages.{protocol_of as udp_of, clear_answer, clear_answer_in}
use Rattle.world_rules.specs.Consequence.{Seen, Issued, Admitted, Reported, Nothing, Consequence, Ends, consequence, with_master, with_sent, clear_to}
use Rattle.world_rules.specs.Consequence.{clears_of, clears_due, issue_by, admit_by, master_hears, master_hears_htcp, acknowledged_by, delivered, delivered_to}
use Rattle.world_rules.specs.Run.{Step, Takes}
use Rattle.world_rules.specs.Run.{IsOfKey as IsEventOfKey}
use Rattle.run_rules.specs.Notes.{Calls}
use Rattle.run_rules.specs.Sent.{Network, clears_by, with_clears, IsCallSent}
use Rattle.run_rules.specs.Board.{Board, standing_at}
use Rattle.run_rules.specs.declared.verdict.Cause.TheVariants.{NotSent, OtherReply}
use Rattle.run_rules.specs.Judging.{Fine, IsOfKey, CallsBy, left_wanting, after_call, JudgesCall}
use Rattle.run_rules.specs.Recorded.{Progress, Goes, event_step, CallsIn}
use Rattle.run_rules.proofs.Lists.{contained_item, same_some}
use Rattle.run_rules.proofs.Matching.{NetworkMatches, datagrams_grow}
use Rattle.run_rules.proofs.Following.{StandsIn, Matches, after_goes, place_goes}
use Rattle.run_rules.proofs.Entries.{Follows, same_board, not_flawed}

-- What a call of the master leads to

err_ok : {A B : Type 0} (f : B) (x : A) → Err f ≡ Ok x → ⊥
err_ok f x is = cc

ok_err : {A B : Type 0} (f : B) (x : A) → Ok x ≡ Err f → ⊥
ok_err f x is = cc

-- the answer is of the call's kind
abbrev fits_call : MasterCall → MasterAnswer → Bool
fits_call (call.Issue key) (answer.Issue number) = true
fits_call (call.Admit id) (answer.Admit number) = true
fits_call (call.Acknowledge id trans code) (answer.Acknowledge finished) = true
fits_call call.Due (answer.Due pairs) = true
fits_call (call.Status number) (answer.Status status) = true
fits_call c a = false

answer_same : (a b : MasterAnswer) (r : Result MasterAnswer MasterFault) → r ≡ Ok a → r ≡ Ok b → a ≡ b
answer_same a b r one other = cc

module _ (nodes : Nodes) (purges : PurgeList) where
  abbrev state : Bool → MasterState
  state closed = record { purges = purges; closed = closed }

  issued_by : (key : List ℕ) (o : Option MasterFault) (next : MasterState) (number : ℕ) → issued purges key o ≡ record
      { state = next; outcome = Ok (answer.Issue number) } →
      (o ≡ None) × (next ≡ opened (with_purge purges (purges.last + 1) key)) × (answer.Issue number ≡ answer.Issue (purges.last + 1))
  issued_by key (Some f) next number is = absurd (err_ok f (answer.Issue number) (ap (λ (x : Called). x.outcome) is))
  issued_by key None next number is = (
    refl,
    sym (ap (λ (x : Called). x.state) is),
    answer_same (answer.Issue number) (answer.Issue (purges.last + 1))
        (Ok (answer.Issue number)) refl (sym (ap (λ (x : Called). x.outcome) is)),
  )

  issue_called : (closed : Bool) (key : List ℕ) (next : MasterState) (number : ℕ) → called nodes (state closed) (call.Issue key) ≡ record
      { state = next; outcome = Ok (answer.Issue number) } →
      (issue_fault purges ≡ None) × (next ≡ opened (with_purge purges (purges.last + 1) key)) × (answer.Issue number ≡ answer.Issue (purges.last + 1))
  issue_called true key next number is = absurd (err_ok fault.Closed (answer.Issue number) (ap (λ (x : Called). x.outcome) is))
  issue_called false key next number is = issued_by key (issue_fault purges) next number is

  admitted_by : (id : ℕ) (o : Option MasterFault) (next : MasterState) (number : ℕ) → admitted purges id o ≡ record
      { state = next; outcome = Ok (answer.Admit number) } →
      (o ≡ None) × (next ≡ opened (with_admission purges (purges.last + 1) id)) × (answer.Admit number ≡ answer.Admit (purges.last + 1))
  admitted_by id (Some f) next number is = absurd (err_ok f (answer.Admit number) (ap (λ (x : Called). x.outcome) is))
  admitted_by id None next number is = (
    refl,
    sym (ap (λ (x : Called). x.state) is),
    answer_same (answer.Admit number) (answer.Admit (purges.last + 1))
        (Ok (answer.Admit number)) refl (sym (ap (λ (x : Called). x.outcome) is)),
  )

  admit_called : (closed : Bool) (id : ℕ) (next : MasterState) (number : ℕ) → called nodes (state closed) (call.Admit id) ≡ record
      { state = next; outcome = Ok (answer.Admit number) } →
      (admit_fault nodes purges id ≡ None) × (next ≡ opened (with_admission purges (purges.last + 1) id))
      × (answer.Admit number ≡ answer.Admit (purges.last + 1))
  admit_called true id next number is = absurd (err_ok fault.Closed (answer.Admit number) (ap (λ (x : Called). x.outcome) is))
  admit_called false id next number is = admitted_by id (admit_fault nodes purges id) next number is

  acknowledge_called : (closed : Bool) (id trans code : ℕ) (next : MasterState) (a : MasterAnswer) →
      called nodes (state closed) (call.Acknowledge id trans code) ≡ record { state = next; outcome = Ok a } →
      next ≡ opened (acknowledged nodes purges id trans code).purges
  acknowledge_called true id trans code next a is = absurd (err_ok fault.Closed a (ap (λ (x : Called). x.outcome) is))
  acknowledge_called false id trans code next a is = sym (ap (λ (x : Called). x.state) is)

  due_called : (closed : Bool) (next : MasterState) (a : MasterAnswer) → called nodes (state closed) call.Due ≡ record { state = next; outcome = Ok a } →
      next.purges ≡ purges
  due_called true next a is = absurd (err_ok fault.Closed a (ap (λ (x : Called). x.outcome) is))
  due_called false next a is = sym (ap (λ (x : Called). x.state.purges) is)

  status_called : (closed : Bool) (number : ℕ) (next : MasterState) (status : Status) → called nodes (state closed) (call.Status number) ≡ record
      { state = next; outcome = Ok (answer.Status status) } →
      (next.purges ≡ purges) × (answer.Status status ≡ answer.Status (status_of nodes purges number))
  status_called true number next status is = (
    sym (ap (λ (x : Called). x.state.purges) is),
    answer_same (answer.Status status) (answer.Status (status_of nodes purges number))
        (Ok (answer.Status status)) refl (sym (ap (λ (x : Called). x.outcome) is)),
  )
  status_called false number next status is = (
    sym (ap (λ (x : Called). x.state.purges) is),
    answer_same (answer.Status status) (answer.Status (status_of nodes purges number))
        (Ok (answer.Status status)) refl (sym (ap (λ (x : Called). x.outcome) is)),
  )

  refused_by : (key : List ℕ) (o : Option MasterFault) (next : MasterState) (f : MasterFault) → issued purges key o ≡ record { state = next; outcome = Err f } →
      next.purges ≡ purges
  refused_by key (Some other) next f is = sym (ap (λ (x : Called). x.state.purges) is)
  refused_by key None next f is = absurd (ok_err f (answer.Issue (purges.last + 1)) (ap (λ (x : Called). x.outcome) is))

  admission_refused_by : (id : ℕ) (o : Option MasterFault) (next : MasterState) (f : MasterFault) →
      admitted purges id o ≡ record { state = next; outcome = Err f } → next.purges ≡ purges
  admission_refused_by id (Some other) next f is = sym (ap (λ (x : Called). x.state.purges) is)
  admission_refused_by id None next f is = absurd (ok_err f (answer.Admit (purges.last + 1)) (ap (λ (x : Called). x.outcome) is))

  -- a refused call leaves the purges
  refused_called : (closed : Bool) (c : MasterCall) (next : MasterState) (f : MasterFault) →
      called nodes (state closed) c ≡ record { state = next; outcome = Err f } → next.purges ≡ purges
  refused_called true (call.Issue key) next f is = sym (ap (λ (x : Called). x.state.purges) is)
  refused_called true (call.Admit id) next f is = sym (ap (λ (x : Called). x.state.purges) is)
  refused_called true (call.Acknowledge id trans code) next f is = sym (ap (λ (x : Called). x.state.purges) is)
  refused_called true call.Due next f is = sym (ap (λ (x : Called). x.state.purges) is)
  refused_called true (call.Status number) next f is = sym (ap (λ (x : Called). x.state.purges) is)
  refused_called false (call.Issue key) next f is = refused_by key (issue_fault purges) next f is
  refused_called false (call.Admit id) next f is = admission_refused_by id (admit_fault nodes purges id) next f is
  refused_called false (call.Acknowledge id trans code) next f is =
      absurd (ok_err f (answer.Acknowledge (acknowledged nodes purges id trans code).done) (ap (λ (x : Called). x.outcome) is))
  refused_called false call.Due next f is = sym (ap (λ (x : Called). x.state.purges) is)
  refused_called false (call.Status number) next f is = sym (ap (λ (x : Called). x.state.purges) is)

  fits_issue : (key : List ℕ) (o : Option MasterFault) (next : MasterState) (a : MasterAnswer) → issued purges key o ≡ record { state = next; outcome = Ok a } →
      fits_call (call.Issue key) a ≡ true
  fits_issue key (Some f) next a is = absurd (err_ok f a (ap (λ (x : Called). x.outcome) is))
  fits_issue key None next a is = ap (fits_call (call.Issue key))
      (answer_same a (answer.Issue (purges.last + 1)) (Ok a) refl (sym (ap (λ (x : Called). x.outcome) is)))

  fits_admit : (id : ℕ) (o : Option MasterFault) (next : MasterState) (a : MasterAnswer) → admitted purges id o ≡ record { state = next; outcome = Ok a } →
      fits_call (call.Admit id) a ≡ true
  fits_admit id (Some f) next a is = absurd (err_ok f a (ap (λ (x : Called). x.outcome) is))
  fits_admit id None next a is = ap (fits_call (call.Admit id))
      (answer_same a (answer.Admit (purges.last + 1)) (Ok a) refl (sym (ap (λ (x : Called). x.outcome) is)))

  fits : (closed : Bool) (c : MasterCall) (next : MasterState) (a : MasterAnswer) → called nodes (state closed) c ≡ record { state = next; outcome = Ok a } →
      fits_call c a ≡ true
  fits true (call.Issue key) next a is = absurd (err_ok fault.Closed a (ap (λ (x : Called). x.outcome) is))
  fits true (call.Admit id) next a is = absurd (err_ok fault.Closed a (ap (λ (x : Called). x.outcome) is))
  fits true (call.Acknowledge id trans code) next a is = absurd (err_ok fault.Closed a (ap (λ (x : Called). x.outcome) is))
  fits true call.Due next a is = absurd (err_ok fault.Closed a (ap (λ (x : Called). x.outcome) is))
  fits true (call.Status number) next a is = ap (fits_call (call.Status number)) (answer_same a _ (Ok a) refl (sym (ap (λ (x : Called). x.outcome) is)))
  fits false (call.Issue key) next a is = fits_issue key (issue_fault purges) next a is
  fits false (call.Admit id) next a is = fits_admit id (admit_fault nodes purges id) next a is
  fits false (call.Acknowledge id trans code) next a is = ap (fits_call (call.Acknowledge id trans code))
      (answer_same a _ (Ok a) refl (sym (ap (λ (x : Called). x.outcome) is)))
  fits false call.Due next a is = ap (fits_call call.Due) (answer_same a _ (Ok a) refl (sym (ap (λ (x : Called). x.outcome) is)))
  fits false (call.Status number) next a is = ap (fits_call (call.Status number)) (answer_same a _ (Ok a) refl (sym (ap (λ (x : Called). x.outcome) is)))

-- What the world does

hears_content : (t : Tables) (w : World) (sender : Address) (at trans code : ℕ) (c : Content) → clear_answer_in at c ≡ Some (trans, code) →
    master_hears_htcp t w sender at c ≡ acknowledged_by t w trans code (member_at t sender udp.Htcp)
hears_content t w sender at trans code (content.ClrAnswer said) is =
    ap (λ (x : ℕ × ℕ). acknowledged_by t w x.0 x.1 (member_at t sender udp.Htcp)) (same_some (at, said) (trans, code) is)
hears_content t w sender at trans code (content.NopAsk desired) is = cc
hears_content t w sender at trans code content.NopAnswer is = cc
hears_content t w sender at trans code (content.TstAsk desired spec) is = cc
hears_content t w sender at trans code (content.TstHit detail) is = cc
hears_content t w sender at trans code (content.TstMiss cache) is = cc
hears_content t w sender at trans code (content.ClrAsk desired reason spec) is = cc
hears_content t w sender at trans code (content.Other opcode desired) is = cc
hears_content t w sender at trans code (content.Overall opcode said) is = cc
hears_content t w sender at trans code (content.OtherAnswer opcode said) is = cc

hears_clear : (t : Tables) (w : World) (sender : Address) (m : Message) (trans code : ℕ) → clear_answer m ≡ Some (trans, code) →
    master_hears t w sender m ≡ acknowledged_by t w trans code (member_at t sender udp.Htcp)
hears_clear t w sender (message.Icp m) trans code is = cc
hears_clear t w sender (message.Htcp m) trans code is = hears_content t w sender m.trans trans code m.content is

-- What is sent afterwards

no_clears : (t : Tables) (admissions : List Admission) (c : MasterCall) (f : MasterFault) → clears_by t admissions c (Err f) ≡ []
no_clears t admissions (call.Issue key) f = refl
no_clears t admissions (call.Admit id) f = refl
no_clears t admissions (call.Acknowledge id trans code) f = refl
no_clears t admissions call.Due f = refl
no_clears t admissions (call.Status number) f = refl

without_more : (xs : List Datagram) (d : Datagram) → Contains (xs ++ []) d → Contains xs d
without_more xs d has = subst (λ (l : List Datagram). Contains l d) (append_nil xs) has

none_sent : (t : Tables) (admissions : List Admission) (n : Network) (w : World) (c : MasterCall) (f : MasterFault) → NetworkMatches n w →
    NetworkMatches (with_clears t admissions n c (Err f)) w
none_sent t admissions n w c f h = record {
  datagrams = λ d has. h.datagrams d (without_more n.datagrams d
      (subst (λ (l : List Datagram). Contains (n.datagrams ++ l) d) (no_clears t admissions c f) has));
  asks = h.asks;
  answers = h.answers;
  waiting = h.waiting;
}

more_sent : (n : Network) (w : World) (more : List Datagram) (purges : PurgeList) → NetworkMatches n w →
    NetworkMatches (record { datagrams = n.datagrams ++ more; asks = n.asks; answers = n.answers; waiting = n.waiting }) (with_sent (with_master w purges) more)
more_sent n w more purges h = record {
  datagrams = datagrams_grow n.datagrams more w.datagrams more h.datagrams (λ d has. has);
  asks = h.asks;
  answers =
      h.answers;
  waiting = h.waiting;
}

no_more_sent : (n : Network) (w : World) (purges : PurgeList) → NetworkMatches n w →
    NetworkMatches (record { datagrams = n.datagrams ++ []; asks = n.asks; answers = n.answers; waiting = n.waiting }) (with_master w purges)
no_more_sent n w purges h = record {
  datagrams = λ d has. h.datagrams d (without_more n.datagrams d has);
  asks = h.asks;
  answers = h.answers;
  waiting =
      h.waiting;
}

nothing_sent : (n : Network) (w : World) → NetworkMatches n w →
    NetworkMatches (record { datagrams = n.datagrams ++ []; asks = n.asks; answers = n.answers; waiting = n.waiting }) w
nothing_sent n w h = record { datagrams = λ d has. h.datagrams d (without_more n.datagrams d has); asks = h.asks; answers = h.answers; waiting = h.waiting }

again_sent : (n : Network) (w : World) (others : List Datagram) → NetworkMatches n w →
    NetworkMatches (record { datagrams = n.datagrams ++ []; asks = n.asks; answers = n.answers; waiting = n.waiting }) (with_sent w others)
again_sent n w others h = record {
  datagrams = λ d has. Contains-append_left w.datagrams others d (h.datagrams d (without_more n.datagrams d has));
  asks =
      h.asks;
  answers = h.answers;
  waiting = h.waiting;
}

abbrev number_of : MasterAnswer → ℕ
number_of (answer.Issue number) = number
number_of (answer.Admit number) = number
number_of _ = 0

abbrev status_in : Status → MasterAnswer → Status
status_in other (answer.Status status) = status
status_in other _ = other

module _ (t : Tables) (b : Board) (p : Progress) (m : Matches t b p) (place : ℕ) (is_closed : Bool) where
  abbrev w : World
  w = p.world

  abbrev entry : MasterCall → Result MasterAnswer MasterFault → MasterEntry
  entry c a = record { place = place; call = c; answer = a }

  -- the master's state before the entry, and the world with the same purges
  abbrev before : MasterState
  before = record { purges = w.master; closed = b.master.closed }

  before_same : before ≡ b.master
  before_same = ap (λ (x : PurgeList). record { purges = x; closed = b.master.closed }) m.purges

  -- the call is one event of the world
  module _ (c : MasterCall) (a : Result MasterAnswer MasterFault) (next : MasterState) (happens : WorldEvent) (seen : Seen) (after : World) where
    abbrev one : Step
    one = event_step happens seen

    abbrev q : Progress
    q = record { world = after; place = p.place + 1; master = next }

    -- the event is one step of the world, with its consequence; it changes the master and what was sent, and no node
    by_event : MasterCalls (nodes_of t) p.master c a next → CallsIn t p c a (one ∷ []) → IsEventOfKey happens → consequence t w happens ≡ Ends seen after →
        after.master ≡ next.purges → after.states ≡ w.states →
        NetworkMatches (with_clears t next.purges.admissions b.network c a) after → Follows t p (Calls (entry c a) is_closed) (after_call t b (entry c a) next)
    by_event calls stands keyed consequences purges states network =
        let goes : Goes t p (one ∷ []) next q = record {
          run = (after, (keyed, subst (λ (x : Consequence). Takes t p.place w x seen after) (sym consequences) (refl, refl)), refl);
          place = refl;
          master = refl;
          purges = purges;
        } in
        record {
          steps = one ∷ [];
          to = q;
          stands = (next, calls, stands, goes);
          matches = record {
            past = m.past ++ one ∷ [];
            at = place_goes t b p (one ∷ []) (p.place + 1) m refl;
            after = after_goes t b p q (one ∷ []) m goes.run;
            nodes = λ id. subst (λ (s : List MemberState). StandsIn t id (standing_at b.posts id) (node_at s id)) (sym states) (m.nodes id);
            master = refl;
            purges = purges;
            network = network;
          };
        }

  -- the call is no event
  by_nothing : (c : MasterCall) (f : MasterFault) (next : MasterState) → MasterCalls (nodes_of t) p.master c (Err f) next → next.purges ≡ w.master →
      Follows t p (Calls (entry c (Err f)) is_closed) (after_call t b (entry c (Err f)) next)
  by_nothing c f next calls same = record {
    steps = [];
    to = record { world = w; place = p.place; master = next };
    stands = (next, calls, refl, record { run = refl; place = omega arith; master = refl; purges = sym same });
    matches = record {
      past = m.past;
      at = m.at;
      after = m.after;
      nodes = m.nodes;
      master = refl;
      purges = sym same;
      network = none_sent t next.purges.admissions b.network w c f m.network;
    };
  }

  -- what holds of the world's purges holds of the master's
  in_world : (c : MasterCall) (x : Called) → called (nodes_of t) b.master c ≡ x → called (nodes_of t) before c ≡ x
  in_world c x is = ap (λ (s : MasterState). called (nodes_of t) s c) before_same ∙ is

  in_run : (c : MasterCall) (x : Called) → called (nodes_of t) b.master c ≡ x → called (nodes_of t) p.master c ≡ x
  in_run c x is = ap (λ (s : MasterState). called (nodes_of t) s c) m.master ∙ is

  issues : (key : List ℕ) (number : ℕ) (next : MasterState) → IsOfKey (call.Issue key) → called (nodes_of t) b.master (call.Issue key) ≡ record
      { state = next; outcome = Ok (answer.Issue number) } →
      Follows t p (Calls (entry (call.Issue key) (Ok (answer.Issue number))) is_closed)
      (after_call t b (entry (call.Issue key) (Ok (answer.Issue number))) next)
  issues key number next keyed is =
      let (none, left, same) = issue_called (nodes_of t) w.master b.master.closed key next number (in_world (call.Issue key) _ is) in
      let number_is : number ≡ w.master.last + 1 = ap number_of same in
      let after : World = with_sent (with_master w (with_purge w.master (w.master.last + 1) key)) (clears_of t w.master.admissions (w.master.last + 1) key) in
      by_event (call.Issue key) (Ok (answer.Issue number)) next (world.Issue key) (Issued number) after (in_run (call.Issue key) _ is) refl keyed
      (ap (issue_by t w key) none ∙ ap (λ (n : ℕ). Ends (Issued n) after) (sym number_is)) (sym (ap (λ (s : MasterState). s.purges) left)) refl
      (subst (λ (s : MasterState). NetworkMatches (with_clears t s.purges.admissions b.network (call.Issue key) (Ok (answer.Issue number))) after) (sym left)
      (subst (λ (n : ℕ). NetworkMatches (with_clears t w.master.admissions b.network (call.Issue key) (Ok (answer.Issue n))) after) (sym number_is)
      (more_sent b.network w (clears_of t w.master.admissions (w.master.last + 1) key) (with_purge w.master (w.master.last + 1) key) m.network)))

  admits : (id : ℕ) (number : ℕ) (next : MasterState) → called (nodes_of t) b.master (call.Admit id) ≡ record
      { state = next; outcome = Ok (answer.Admit number) } →
      Follows t p (Calls (entry (call.Admit id) (Ok (answer.Admit number))) is_closed)
      (after_call t b (entry (call.Admit id) (Ok (answer.Admit number))) next)
  admits id number next is =
      let (none, left, same) = admit_called (nodes_of t) w.master b.master.closed id next number (in_world (call.Admit id) _ is) in
      let number_is : number ≡ w.master.last + 1 = ap number_of same in
      let sent : List Datagram = clear_to t (Some (base_clear (w.master.last + 1))) (member_of t id) in
      let after : World = with_sent (with_master w (with_admission w.master (w.master.last + 1) id)) sent in
      by_event (call.Admit id) (Ok (answer.Admit number)) next (world.Admit id) (Admitted number) after (in_run (call.Admit id) _ is) refl tt
      (ap (admit_by t w id) none ∙ ap (λ (n : ℕ). Ends (Admitted n) after) (sym number_is)) (sym (ap (λ (s : MasterState). s.purges) left)) refl
      (subst (λ (n : ℕ). NetworkMatches (with_clears t next.purges.admissions b.network (call.Admit id) (Ok (answer.Admit n))) after) (sym number_is)
      (more_sent b.network w sent (with_admission w.master (w.master.last + 1) id) m.network))

  acknowledges : (id trans code : ℕ) (finished : Option ℕ) (next : MasterState) → IsCallSent t b.network (call.Acknowledge id trans code) →
      called (nodes_of t) b.master (call.Acknowledge id trans code) ≡ record { state = next; outcome = Ok (answer.Acknowledge finished) } →
      Follows t p (Calls (entry (call.Acknowledge id trans code) (Ok (answer.Acknowledge finished))) is_closed)
      (after_call t b (entry (call.Acknowledge id trans code) (Ok (answer.Acknowledge finished))) next)
  acknowledges id trans code finished next (d, has, its) is =
      let (number, there) = contained_item w.datagrams d (m.network.datagrams d has) in
      let purges : PurgeList = (acknowledged (nodes_of t) w.master id trans code).purges in
      let status : Status = status_of (nodes_of t) purges trans in
      let left : next ≡ opened purges = acknowledge_called (nodes_of t) w.master b.master.closed id trans code next (answer.Acknowledge finished)
      (in_world (call.Acknowledge id trans code) _ is) in
      by_event (call.Acknowledge id trans code) (Ok (answer.Acknowledge finished)) next (world.Datagram number) (Reported trans status) (with_master w purges)
      (in_run (call.Acknowledge id trans code) _ is) (number, d, status, there, its, refl) tt
      (ap (delivered t w) there
      ∙ ap (λ c. cond c (master_hears t w d.sender d.message) (delivered_to w d.sender d.message (member_at t d.receiver (udp_of d.message)))) its.receiver
      ∙ hears_clear t w d.sender d.message trans code its.says
      ∙ ap (acknowledged_by t w trans code) its.sender)
      (sym (ap (λ (s : MasterState). s.purges) left)) refl (no_more_sent b.network w purges m.network)

  tells_due : (pairs : List (ℕ × ℕ)) (next : MasterState) → called (nodes_of t) b.master call.Due ≡ record { state = next; outcome = Ok (answer.Due pairs) } →
      Follows t p (Calls (entry call.Due (Ok (answer.Due pairs))) is_closed) (after_call t b (entry call.Due (Ok (answer.Due pairs))) next)
  tells_due pairs next is =
      let same : next.purges ≡ w.master = due_called (nodes_of t) w.master b.master.closed next (answer.Due pairs) (in_world call.Due _ is) in
      by_event call.Due (Ok (answer.Due pairs)) next world.Resend Nothing (with_sent w (clears_due t w.master)) (in_run call.Due _ is) refl tt refl (sym same)
      refl
      (again_sent b.network w (clears_due t w.master) m.network)

  tells_status : (number : ℕ) (status : Status) (next : MasterState) → called (nodes_of t) b.master (call.Status number) ≡ record
      { state = next; outcome = Ok (answer.Status status) } →
      Follows t p (Calls (entry (call.Status number) (Ok (answer.Status status))) is_closed)
      (after_call t b (entry (call.Status number) (Ok (answer.Status status))) next)
  tells_status number status next is =
      let (same, told) = status_called (nodes_of t) w.master b.master.closed number next status (in_world (call.Status number) _ is) in
      by_event (call.Status number) (Ok (answer.Status status)) next (world.Status number) (Reported number status) w (in_run (call.Status number) _ is) refl tt
      (ap (λ (x : Status). Ends (Reported number x) w) (sym (ap (status_in status) told))) (sym same) refl (nothing_sent b.network w m.network)

  misfit : (c : MasterCall) (a : MasterAnswer) (next : MasterState) → called (nodes_of t) b.master c ≡ record { state = next; outcome = Ok a } →
      fits_call c a ≡ false → ⊥
  misfit c a next is other = true_not_false (sym (fits (nodes_of t) w.master b.master.closed c next a (in_world c _ is)) ∙ other)

  -- an answer of the call's own kind has the lemma of that kind, and no call has an answer of another
  follows_ok : (c : MasterCall) (a : MasterAnswer) → IsCallSent t b.network c → IsOfKey c → (next : MasterState) →
      called (nodes_of t) b.master c ≡ record { state = next; outcome = Ok a } →
      Follows t p (Calls (entry c (Ok a)) is_closed) (after_call t b (entry c (Ok a)) next)
  follows_ok (call.Issue key) (answer.Issue number) sent keyed next is = issues key number next keyed is
  follows_ok (call.Admit id) (answer.Admit number) sent keyed next is = admits id number next is
  follows_ok (call.Acknowledge id trans code) (answer.Acknowledge finished) sent keyed next is = acknowledges id trans code finished next sent is
  follows_ok call.Due (answer.Due pairs) sent keyed next is = tells_due pairs next is
  follows_ok (call.Status number) (answer.Status status) sent keyed next is = tells_status number status next is
  follows_ok (call.Issue key) (answer.Admit number) sent keyed next is = absurd (misfit (call.Issue key) (answer.Admit number) next is refl)
  follows_ok (call.Issue key) (answer.Acknowledge finished) sent keyed next is = absurd (misfit (call.Issue key) (answer.Acknowledge finished) next is refl)
  follows_ok (call.Issue key) (answer.Due pairs) sent keyed next is = absurd (misfit (call.Issue key) (answer.Due pairs) next is refl)
  follows_ok (call.Issue key) (answer.Status status) sent keyed next is = absurd (misfit (call.Issue key) (answer.Status status) next is refl)
  follows_ok (call.Admit id) (answer.Issue number) sent keyed next is = absurd (misfit (call.Admit id) (answer.Issue number) next is refl)
  follows_ok (call.Admit id) (answer.Acknowledge finished) sent keyed next is = absurd (misfit (call.Admit id) (answer.Acknowledge finished) next is refl)
  follows_ok (call.Admit id) (answer.Due pairs) sent keyed next is = absurd (misfit (call.Admit id) (answer.Due pairs) next is refl)
  follows_ok (call.Admit id) (answer.Status status) sent keyed next is = absurd (misfit (call.Admit id) (answer.Status status) next is refl)
  follows_ok (call.Acknowledge id trans code) (answer.Issue number) sent keyed next is =
      absurd (misfit (call.Acknowledge id trans code) (answer.Issue number) next is refl)
  follows_ok (call.Acknowledge id trans code) (answer.Admit number) sent keyed next is =
      absurd (misfit (call.Acknowledge id trans code) (answer.Admit number) next is refl)
  follows_ok (call.Acknowledge id trans code) (answer.Due pairs) sent keyed next is =
      absurd (misfit (call.Acknowledge id trans code) (answer.Due pairs) next is refl)
  follows_ok (call.Acknowledge id trans code) (answer.Status status) sent keyed next is =
      absurd (misfit (call.Acknowledge id trans code) (answer.Status status) next is refl)
  follows_ok call.Due (answer.Issue number) sent keyed next is = absurd (misfit call.Due (answer.Issue number) next is refl)
  follows_ok call.Due (answer.Admit number) sent keyed next is = absurd (misfit call.Due (answer.Admit number) next is refl)
  follows_ok call.Due (answer.Acknowledge finished) sent keyed next is = absurd (misfit call.Due (answer.Acknowledge finished) next is refl)
  follows_ok call.Due (answer.Status status) sent keyed next is = absurd (misfit call.Due (answer.Status status) next is refl)
  follows_ok (call.Status asked) (answer.Issue number) sent keyed next is = absurd (misfit (call.Status asked) (answer.Issue number) next is refl)
  follows_ok (call.Status asked) (answer.Admit number) sent keyed next is = absurd (misfit (call.Status asked) (answer.Admit number) next is refl)
  follows_ok (call.Status asked) (answer.Acknowledge finished) sent keyed next is =
      absurd (misfit (call.Status asked) (answer.Acknowledge finished) next is refl)
  follows_ok (call.Status asked) (answer.Due pairs) sent keyed next is = absurd (misfit (call.Status asked) (answer.Due pairs) next is refl)

  plain : (c : MasterCall) (f : MasterFault) (next : MasterState) → called (nodes_of t) b.master c ≡ record { state = next; outcome = Err f } →
      next.purges ≡ w.master
  plain c f next is = refused_called (nodes_of t) w.master b.master.closed c next f (in_world c _ is)

  wants_memory : (c : MasterCall) (writes due shuts : Bool) (next : MasterState) → is_written (nodes_of t) b.master.purges c ≡ writes → is_due c ≡ due →
      (writes || due) ≡ true → next ≡ left_wanting b.master writes shuts →
      WantsMemory (nodes_of t) b.master c next
  wants_memory c true due true next is_writes dues any is = inr (is_writes, is)
  wants_memory c true due false next is_writes dues any is = inl (ap (λ x. x || is_due c) is_writes, is)
  wants_memory c false due shuts next is_writes dues any is = inl (ap (λ x. x || is_due c) is_writes ∙ dues ∙ any, is)

  left_purges : (writes shuts : Bool) → (left_wanting b.master writes shuts).purges ≡ b.master.purges
  left_purges true true = refl
  left_purges true false = refl
  left_purges false shuts = refl

  follows_err : (c : MasterCall) (f : MasterFault) (next : MasterState) → CallsBy (nodes_of t) b.master (entry c (Err f)) is_closed (Err f) next →
      Follows t p (Calls (entry c (Err f)) is_closed) (after_call t b (entry c (Err f)) next)
  follows_err c fault.NoMemory next (is_open, any, is) =
      by_nothing c fault.NoMemory next
      (subst (λ (s : MasterState). MasterCalls (nodes_of t) s c (Err fault.NoMemory) next) (sym m.master)
      (is_open, wants_memory c (is_written (nodes_of t) b.master.purges c) (is_due c) is_closed next refl refl any is))
      (ap (λ (s : MasterState). s.purges) is ∙ left_purges (is_written (nodes_of t) b.master.purges c) is_closed ∙ sym m.purges)
  follows_err c fault.StoreFault next (is_open, writes, is) =
      by_nothing c fault.StoreFault next (subst (λ (s : MasterState). MasterCalls (nodes_of t) s c (Err fault.StoreFault) next) (sym m.master)
      (is_open, writes, is)) (ap (λ (s : MasterState). s.purges) is ∙ sym m.purges)
  follows_err c fault.Closed next is = by_nothing c fault.Closed next (in_run c _ is) (plain c fault.Closed next is)
  follows_err c fault.ShiftFull next is = by_nothing c fault.ShiftFull next (in_run c _ is) (plain c fault.ShiftFull next is)
  follows_err c fault.NumbersSpent next is = by_nothing c fault.NumbersSpent next (in_run c _ is) (plain c fault.NumbersSpent next is)
  follows_err c fault.NotJoining next is = by_nothing c fault.NotJoining next (in_run c _ is) (plain c fault.NotJoining next is)
  follows_err c fault.TooManyPending next is = by_nothing c fault.TooManyPending next (in_run c _ is) (plain c fault.TooManyPending next is)

  follows_call : (c : MasterCall) (a : Result MasterAnswer MasterFault) → IsCallSent t b.network c → IsOfKey c → (next : MasterState) →
      CallsBy (nodes_of t) b.master (entry c a) is_closed a next →
      Follows t p (Calls (entry c a) is_closed) (after_call t b (entry c a) next)
  follows_call c (Ok a) sent keyed next is = follows_ok c a sent keyed next is
  follows_call c (Err f) sent keyed next is = follows_err c f next is

-- a call that may follow stands for events of the world
pub call_follows : (t : Tables) (b : Board) (p : Progress) → Matches t b p → (e : MasterEntry) (is_closed : Bool) (next : Board) →
    JudgesCall t b e is_closed (Fine next) → Follows t p (Calls e is_closed) next
call_follows t b p m e is_closed next (inl (sent, keyed, state, calls, is)) =
    subst (Follows t p (Calls e is_closed)) (sym (same_board next (after_call t b e state) is))
    (follows_call t b p m e.place is_closed e.call e.answer sent keyed state calls)
call_follows t b p m e is_closed next (inr (inl (sent, none, is))) = absurd (not_flawed next OtherReply is)
call_follows t b p m e is_closed next (inr (inr (unsent, is))) = absurd (not_flawed next NotSent is)
