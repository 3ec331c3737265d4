-- Adding all that a reply or a call of the master sends, part by part: each part changes its own list
-- and no other.
use Rattle.std.proofs.Common.{◌≡◌, ℕ, List, ◌++◌, flat_map, Option, Some, ap, subst, ◌∙◌}
use Rattle.std.specs.Prelude.{OnOk, Result, Ok, Err}
use Rattle.values_tables.specs.declared.plain.Tables.{Tables}
use Rattle.roster.specs.Lookups.{member_of}
use Rattle.node_rules.specs.declared.event.Event.{Event}
use Rattle.node_rules.specs.declared.reply.Reply.{Reply}
use Rattle.node_rules.specs.declared.reply.Serve.{Serve}
use Rattle.purge_rules.specs.declared.nodes.Nodes.{Nodes}
use Rattle.purge_rules.specs.declared.purges.Admission.{Admission}
use Rattle.purge_rules.specs.declared.calls.MasterCall.{MasterCall}
use Rattle.purge_rules.specs.declared.calls.MasterAnswer.{MasterAnswer}
use Rattle.purge_rules.specs.declared.fault.MasterFault.{MasterFault}
use Rattle.purge_rules.specs.Members.{possible_ids}
use Rattle.purge_rules.specs.Needed.{nodes_of, needed}
use Rattle.purge_rules.specs.Clear.{base_clear}
use Rattle.world_rules.specs.World.{Datagram, datagrams_from}
use Rattle.world_rules.specs.Consequence.{clear_to, clear_if, clears_of}
use Rattle.world_rules.proofs.Clears.{clears_to_needed}
use Rattle.run_rules.specs.Sent.{Network, SentAsk, SentAnswer, Waits, asks_by, answers_by, waits_by, with_reply, clears_by, with_clears}
use Rattle.run_network.specs.declared.network.Network.{Network as Held}
use Rattle.run_network.specs.declared.letters.Letters.{Letters}
use Rattle.run_network.specs.declared.asks.Asks.{Asks}
use Rattle.run_network.specs.declared.answers.Answers.{Answers}
use Rattle.run_network.specs.declared.waits.Waits.{Waits as HeldWaits}
use Rattle.run_network.specs.Held.{Holds, HoldsLetters, HoldsAsks, HoldsAnswers, HoldsWaits, with_answers, with_waits}

abbrev net : Letters → Asks → Answers → HeldWaits → Held
net letters asks answers waits = record { letters = letters; asks = asks; answers = answers; waits = waits }

-- the response that is sent, by the requests that wait
pub answered_on : {R E : Type 0} (r : Result R E) (old : Held) (new : Answers) (node : ℕ) (e : Event (Unit {0})) (serve : Option (Serve (Unit {0})))
    (more : List SentAnswer) →
    ((waiting : List Waits) → HoldsWaits old.waits waiting → more ≡ answers_by waiting node e serve) →
    OnOk r ((sent : List SentAnswer) → HoldsAnswers old.answers sent → HoldsAnswers new (sent ++ more)) →
    OnOk r ((roster : Tables) (sent : Network) → Holds roster old sent → Holds roster (net old.letters old.asks new old.waits)
    (with_answers sent (answers_by sent.waiting node e serve)))
answered_on (Ok r) old new node e serve more is holds = λ roster sent held. record {
  letters = held.letters;
  asks = held.asks;
  answers = subst (λ l. HoldsAnswers new (sent.answers ++ l)) (is sent.waiting held.waits) (holds sent.answers held.answers);
  waits = held.waits;
}
answered_on (Err x) old new node e serve more is holds = tt

-- each part adds to its own list what the reply sends there, and the parts come one after another
pub replied_on : {R E : Type 0} (r : Result R E) (roster : Tables) (node : ℕ) (e : Event (Unit {0})) (reply : Reply (Unit {0})) (s0 s3 s4 : Held) (l1 : Letters)
    (a2 : Asks) →
    ((sent : List Datagram) → HoldsLetters roster s0.letters sent → HoldsLetters roster l1 (sent ++ datagrams_from (member_of roster node) reply.send)) →
    ((sent : List SentAsk) → HoldsAsks s0.asks sent → HoldsAsks a2 (sent ++ asks_by node reply.begin)) →
    ((t : Tables) (sent : Network) → Holds t (net l1 a2 s0.answers s0.waits) sent → Holds t s3 (with_answers sent (answers_by sent.waiting node e reply.serve)))
    →
    OnOk r ((t : Tables) (sent : Network) → Holds t s3 sent → Holds t s4 (with_waits sent (waits_by node e reply.begin))) →
    OnOk r ((sent : Network) → Holds roster s0 sent → Holds roster s4 (with_reply roster sent node e reply))
replied_on (Ok r) roster node e reply s0 s3 s4 l1 a2 letters asks answers waits = λ sent held.
    let middle : Network = record {
      datagrams = sent.datagrams ++ datagrams_from (member_of roster node) reply.send;
      asks = sent.asks ++ asks_by node reply.begin;
      answers = sent.answers;
      waiting = sent.waiting;
    } in
    waits roster (with_answers middle (answers_by sent.waiting node e reply.serve))
    (answers roster middle (record {
      letters = letters sent.datagrams held.letters;
      asks = asks sent.asks held.asks;
      answers = held.answers;
      waits =
          held.waits;
    }))
replied_on (Err x) roster node e reply s0 s3 s4 l1 a2 letters asks answers waits = tt

-- the letters get the CLRs that a call sends, and nothing else changes
cleared_on : {R E : Type 0} (r : Result R E) (roster : Tables) (old : Held) (now : Letters) (more : List Datagram) (admissions : List Admission)
    (c : MasterCall) (a : Result MasterAnswer MasterFault) →
    more ≡ clears_by roster admissions c a →
    OnOk r ((sent : List Datagram) → HoldsLetters roster old.letters sent → HoldsLetters roster now (sent ++ more)) →
    OnOk r ((sent : Network) → Holds roster old sent → Holds roster (net now old.asks old.answers old.waits) (with_clears roster admissions sent c a))
cleared_on (Ok r) roster old now more admissions c a is holds = λ sent held. record {
  letters = subst (λ l. HoldsLetters roster now (sent.datagrams ++ l)) is (holds sent.datagrams held.letters);
  asks = held.asks;
  answers = held.answers;
  waits = held.waits;
}
cleared_on (Err x) roster old now more admissions c a is holds = tt

module _ {R E : Type 0} (r : Result R E) (roster : Tables) (old : Held) (now : Letters) (admissions : List Admission) (c : MasterCall)
    (a : Result MasterAnswer MasterFault) (read number : ℕ) where
  -- a purge: the CLRs that are made for all possible ids are those to the members that it needs
  pub issue_on : (nodes : Nodes) (ids : List ℕ) (key : List ℕ) → nodes ≡ nodes_of roster → ids ≡ needed nodes admissions read →
      OnOk r ((sent : List Datagram) → HoldsLetters roster old.letters sent →
      HoldsLetters roster now (sent ++ flat_map (clear_if roster ids read key) possible_ids)) →
      clears_of roster admissions number key ≡ clears_by roster admissions c a → read ≡ number →
      OnOk r ((sent : Network) → Holds roster old sent → Holds roster (net now old.asks old.answers old.waits) (with_clears roster admissions sent c a))
  issue_on nodes ids key roster_nodes these holds same is =
      let made : flat_map (clear_if roster ids read key) possible_ids ≡ clears_of roster admissions read key =
      ap (λ (l : List ℕ). flat_map (clear_if roster l read key) possible_ids) (these ∙ ap (λ (n : Nodes). needed n admissions read) roster_nodes)
      ∙ clears_to_needed roster admissions read key in
      cleared_on r roster old now (flat_map (clear_if roster ids read key) possible_ids) admissions c a
      (made ∙ ap (λ (n : ℕ). clears_of roster admissions n key) is ∙ same) holds

  -- an admission: its CLR
  pub admit_on : (id : ℕ) →
      OnOk r ((sent : List Datagram) → HoldsLetters roster old.letters sent →
      HoldsLetters roster now (sent ++ clear_to roster (Some (base_clear read)) (member_of roster id))) →
      clear_to roster (Some (base_clear number)) (member_of roster id) ≡ clears_by roster admissions c a → read ≡ number →
      OnOk r ((sent : Network) → Holds roster old sent → Holds roster (net now old.asks old.answers old.waits) (with_clears roster admissions sent c a))
  admit_on id holds same is = cleared_on r roster old now (clear_to roster (Some (base_clear read)) (member_of roster id)) admissions c a
      (ap (λ (n : ℕ). clear_to roster (Some (base_clear n)) (member_of roster id)) is ∙ same) holds
