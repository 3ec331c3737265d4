-- The history of a node, and the book that has its end.
use Rattle.std.proofs.Common.{◌≡◌, ℕ, true, false, Option, None, Some, List, [], ◌++◌, refl, sym, ap, subst, ◌∙◌, append_assoc, arith}
use Rattle.std.proofs.lemmas.Bool.{false≢true}
use Rattle.std.proofs.lemmas.Bool.Decides.{nat_tests}
use Rattle.std.proofs.lemmas.List.{append-nil}
use Rattle.node_rules.specs.State.{setting}
use Rattle.node_core.specs.View.{NodeText}
use Rattle.node_book.specs.declared.book.NodeEntry.{NodeEntry}
use Rattle.node_book.specs.declared.record.Record.{Record}
use Rattle.node_book.specs.Book.{BookView, IsReplayed, Replays}
use Rattle.node_book.specs.Closed.{IsRecorded}
use Rattle.node_seats.specs.Beginning.{Beginning, LeadsToNode, beginning_of}
use Rattle.node_seats.specs.declared.steps.Steps.{Steps}
use Rattle.node_seats.specs.declared.steps.Steps.TheVariants.{Recorded, Alone}
use Rattle.node_seats.specs.declared.retention.Retention.{Retention}
use Rattle.node_seats.specs.declared.retention.Retention.TheVariants.{UpTo, Dropped}
use Rattle.node_seats.specs.Records.{IsEndOf, IsPart, IsRecordedIn, Stands, keeps, kept_record, next_record, open_record, record_of}
use Rattle.node_seats.specs.Desks.{AreNewSteps, HasRoom, IsEndedIn, IsEnteredIn, IsWithoutBook, with_page_filed}
use Rattle.node_seats.proofs.Histories.{replays_append}

-- the entries of a book of this node lead from its opening state to the node's
book_leads : {S : Type 0} (b : Beginning) (log : List NodeEntry) (book : BookView S) → IsReplayed book → IsRecordedIn b log book →
    Replays (setting b.roster b.id) book.opening book.entries book.node.state
book_leads b log book is r =
    subst (λ n. Replays (setting n b.id) book.opening book.entries book.node.state) r.node.0
    (subst (λ i. Replays (setting book.node.roster i) book.opening book.entries book.node.state) r.node.1 is)

-- a history that is recorded leads to the node
recorded_leads : {S : Type 0} (b : Beginning) (log : List NodeEntry) (book : BookView S) → IsReplayed book → IsRecordedIn b log book →
    LeadsToNode (Some b) log book.node
recorded_leads b log book is r = (
  r.node.0,
  r.node.1,
  subst (λ es. Replays (setting b.roster b.id) b.opening es book.node.state) (sym r.log_is)
      (replays_append (setting b.roster b.id) b.opening r.before book.opening book.entries book.node.state r.began (book_leads b log book is r)),
)

-- where book and history grow by the same entries, the history stays recorded
recorded_more : {S : Type 0} (b : Beginning) (log new : List NodeEntry) (before after : BookView S) →
    IsRecordedIn b log before → IsEnteredIn before after log new → IsRecordedIn b new after
recorded_more b log new before after r e = record {
  node = (subst (λ x. x ≡ b.roster) (sym e.same.roster) r.node.0, subst (λ x. x ≡ b.id) (sym e.same.id) r.node.1);
  before = r.before;
  began = subst (λ s. Replays (setting b.roster b.id) b.opening r.before s) (sym e.opening) r.began;
  log_is = e.log ∙ (ap (λ l. l ++ e.more) r.log_is ∙ (append_assoc r.before before.entries e.more ∙ ap (λ l. r.before ++ l) (sym e.entries)));
}

-- the record of a book of this node
record_leads : {S : Type 0} (b : Beginning) (log : List NodeEntry) (book : BookView S) (done : Record) → IsRecordedIn b log book → IsRecorded book done →
    Replays (setting b.roster b.id) done.opening done.entries done.closing
record_leads b log book done r d =
    subst (λ n. Replays (setting n b.id) done.opening done.entries done.closing) r.node.0
    (subst (λ i. Replays (setting book.node.roster i) done.opening done.entries done.closing) r.node.1 d.replay)

-- it is the end of the history
recorded_end : {S : Type 0} (b : Beginning) (log : List NodeEntry) (book : BookView S) (done : Record) → IsRecordedIn b log book → IsRecorded book done →
    IsEndOf (Some b) log done
recorded_end b log book done r d = (
  r.before,
  r.log_is ∙ ap (λ l. r.before ++ l) (sym d.entries),
  d.node ∙ r.node.1,
  subst (λ s. Replays (setting b.roster b.id) b.opening r.before s) (sym d.opening) r.began,
  record_leads b log book done r d,
)

-- and so a part of it
pub part_of_end : (b : Option Beginning) (log : List NodeEntry) (done : Record) → IsEndOf b log done → IsPart b done
part_of_end None log done end = absurd end
part_of_end (Some b) log done (before, log_is, node, began, leads) = (before, node, began, leads)

-- where the book ends its record, the history stays recorded
recorded_ended : {S : Type 0} (b : Beginning) (log : List NodeEntry) (book : BookView S) (done : Record) → IsRecordedIn b log book → IsRecorded book done →
    IsRecordedIn b log (record { node = book.node; opening = book.node.state; entries = []; filed = 0 })
recorded_ended b log book done r d =
    let g = setting b.roster b.id in
    let replay : Replays g book.opening book.entries book.node.state =
    subst (λ s. Replays g s book.entries book.node.state) d.opening
    (subst (λ es. Replays g done.opening es book.node.state) d.entries
    (subst (λ s. Replays g done.opening done.entries s) d.closing (record_leads b log book done r d))) in
    record {
      node = r.node;
      before = r.before ++ book.entries;
      began = replays_append g b.opening r.before book.opening book.entries book.node.state r.began replay;
      log_is = r.log_is ∙ sym (append-nil (r.before ++ book.entries));
    }

-- a history goes on standing where the book ends its record
pub stands_ended : {S : Type 0} (b : Option Beginning) (log : List NodeEntry) (steps new : Option (Steps S)) (taken : Option Record) →
    Stands b log steps → IsEndedIn steps taken new → Stands b log new
stands_ended None log steps new taken stands ended = absurd stands
stands_ended (Some b) log (Some (Recorded book)) new taken stands (done, recorded, out, is) =
    subst (λ n. Stands (Some b) log n) (sym is) (recorded_ended b log book done stands recorded)
stands_ended {S} (Some b) log (Some (Alone node)) new taken stands (out, is) = subst (λ n. Stands {S = S} (Some b) log n) (sym is) stands
stands_ended {S} (Some b) log None new taken stands (out, is) = subst (λ n. Stands {S = S} (Some b) log n) (sym is) tt

-- and the record is the end of it
pub stands_end : {S : Type 0} (b : Option Beginning) (log : List NodeEntry) (steps new : Option (Steps S)) (taken : Option Record) (done : Record) →
    Stands b log steps → IsEndedIn steps taken new → taken ≡ Some done → IsEndOf b log done
stands_end None log steps new taken done stands ended is = absurd stands
stands_end (Some b) log (Some (Recorded book)) new taken done stands (its, recorded, out, new_is) is =
    subst (λ r. IsEndOf (Some b) log r) (grind (arith, out, is)) (recorded_end b log book its stands recorded)
stands_end (Some b) log (Some (Alone node)) new taken done stands (out, new_is) is = absurd (grind (arith, out, is))
stands_end (Some b) log None new taken done stands (out, new_is) is = absurd (grind (arith, out, is))

-- the record of a book is all that is in it
record_is : {S : Type 0} (book : BookView S) (done : Record) → IsRecorded book done → done ≡ record_of book
record_is book done d =
    ap (λ n. record { node = n; opening = done.opening; entries = done.entries; closing = done.closing }) d.node
    ∙ (ap (λ s. record { node = book.node.id; opening = s; entries = done.entries; closing = done.closing }) d.opening
    ∙ (ap (λ es. record { node = book.node.id; opening = book.opening; entries = es; closing = done.closing }) d.entries
    ∙ ap (λ s. record { node = book.node.id; opening = book.opening; entries = book.entries; closing = s }) d.closing))

-- where the book ends its record, the one that was open is taken
pub ended_taken : {S : Type 0} (steps new : Option (Steps S)) (taken : Option Record) → IsEndedIn steps taken new → taken ≡ open_record steps
ended_taken (Some (Recorded book)) new taken (its, recorded, out, is) = out ∙ ap Some (record_is book its recorded)
ended_taken (Some (Alone node)) new taken (out, is) = out
ended_taken None new taken (out, is) = out

-- and the next one is open
pub ended_next : {S : Type 0} (steps new : Option (Steps S)) (taken : Option Record) → IsEndedIn steps taken new →
    open_record new ≡ next_record (open_record steps)
ended_next {S} (Some (Recorded book)) new taken (its, recorded, out, is) = ap (open_record {S = S}) is
ended_next {S} (Some (Alone node)) new taken (out, is) = ap (open_record {S = S}) is
ended_next {S} None new taken (out, is) = ap (open_record {S = S}) is

-- the record that is kept is the open one
pub kept_open : {S : Type 0} (retention : Retention) (pages : ℕ) (steps : Option (Steps S)) → keeps retention pages ≡ true →
    kept_record retention pages steps ≡ open_record steps
kept_open retention pages steps is = rw is refl

-- where it is not kept, none is
pub kept_none : {S : Type 0} (retention : Retention) (pages : ℕ) (steps : Option (Steps S)) → keeps retention pages ≡ false →
    kept_record retention pages steps ≡ None
kept_none retention pages steps is = rw is refl

-- where one page more is kept beside some, one is kept
pub keeps_first : (retention : Retention) (pages : ℕ) → keeps retention pages ≡ true → keeps retention 0 ≡ true
keeps_first (UpTo most) pages is = grind (arith, nat_tests, is)
keeps_first Dropped pages is = absurd (false≢true is)

-- where the record that is kept was taken, the next one is kept
pub kept_next : {S : Type 0} (retention : Retention) (pages : ℕ) (steps new : Option (Steps S)) (taken : Option Record) → keeps retention pages ≡ true →
    IsEndedIn steps taken new → kept_record retention 0 new ≡ next_record (kept_record retention pages steps)
kept_next retention pages steps new taken is ended =
    kept_open retention 0 new (keeps_first retention pages is)
    ∙ (ended_next steps new taken ended ∙ sym (ap next_record (kept_open retention pages steps is)))

-- a history goes on standing where a page is filed
pub stands_filed : {S : Type 0} (b : Option Beginning) (log : List NodeEntry) (steps : Option (Steps S)) → Stands b log steps →
    Stands b log (with_page_filed steps)
stands_filed None log steps stands = absurd stands
stands_filed (Some b) log (Some (Recorded book)) stands = record { node = stands.node; before = stands.before; began = stands.began; log_is = stands.log_is }
stands_filed (Some b) log (Some (Alone node)) stands = stands
stands_filed (Some b) log None stands = tt

-- then the next entry has room
pub room_filed : {S : Type 0} (steps : Option (Steps S)) → HasRoom 0 (with_page_filed steps)
room_filed (Some (Recorded book)) = (omega arith, omega arith)
room_filed (Some (Alone node)) = tt
room_filed None = tt

-- a history that stands goes on standing without its book
pub stands_alone : {S : Type 0} (b : Option Beginning) (log : List NodeEntry) (steps new : Option (Steps S)) →
    Stands b log steps → IsWithoutBook steps new → Stands b log new
stands_alone None log steps new stands alone = absurd stands
stands_alone (Some b) log (Some (Recorded book)) new stands (is, replayed) =
    let leads = recorded_leads b log book replayed stands in
    subst (λ n. Stands (Some b) log n) (sym is) ((leads.0, leads.1), leads.2)
stands_alone {S} (Some b) log (Some (Alone node)) new stands is = subst (λ n. Stands {S = S} (Some b) log n) (sym is) stands
stands_alone {S} (Some b) log None new stands is = subst (λ n. Stands {S = S} (Some b) log n) (sym is) tt

-- and the next entry has room
pub room_alone : {S : Type 0} (steps new : Option (Steps S)) → IsWithoutBook steps new → HasRoom 0 new
room_alone (Some (Recorded book)) new (is, replayed) = subst (λ n. HasRoom 0 n) (sym is) tt
room_alone (Some (Alone node)) new is = subst (λ n. HasRoom 0 n) (sym is) tt
room_alone {S} None new is = subst (λ n. HasRoom {S = S} 0 n) (sym is) tt

-- a new node stands at the beginning of its history
new_steps_stand : {S : Type 0} (node : NodeText (Unit {0}) S) (steps : Steps S) → AreNewSteps node steps → Stands (Some (beginning_of node)) [] (Some steps)
new_steps_stand {S} node (Recorded book) new =
    subst (λ (k : BookView S). IsRecordedIn (beginning_of node) [] k) (sym new)
    (record { node = (refl, refl); before = []; began = refl; log_is = refl })
new_steps_stand {S} node (Alone alone) new =
    subst (λ (n : NodeText (Unit {0}) S). Stands (Some (beginning_of node)) [] (Some (Alone n))) (sym new) ((refl, refl), refl)

pub stands_new : {S : Type 0} (b : Option Beginning) (log : List NodeEntry) (node : NodeText (Unit {0}) S) (steps : Steps S) →
    b ≡ Some (beginning_of node) → log ≡ [] → AreNewSteps node steps → Stands b log (Some steps)
stands_new b log node steps is none new =
    subst (λ x. Stands x log (Some steps)) (sym is)
    (subst (λ (l : List NodeEntry). Stands (Some (beginning_of node)) l (Some steps)) (sym none) (new_steps_stand node steps new))

-- a history that stands on a book leads to its node
pub stands_leads : {S : Type 0} (b : Option Beginning) (log : List NodeEntry) (book : BookView S) → IsReplayed book →
    Stands b log (Some (Recorded book)) → LeadsToNode b log book.node
stands_leads None log book replayed stands = absurd stands
stands_leads (Some b) log book replayed stands = recorded_leads b log book replayed stands

-- and so does one that stands on a node alone
pub stands_alone_leads : {S : Type 0} (b : Option Beginning) (log : List NodeEntry) (node : NodeText (Unit {0}) S) →
    Stands b log (Some (Alone node)) → LeadsToNode b log node
stands_alone_leads None log node stands = absurd stands
stands_alone_leads (Some b) log node stands = (stands.0.0, stands.0.1, stands.1)

-- a history stands on a book that grew by the same entries
pub stands_entered : {S : Type 0} (b : Option Beginning) (log new : List NodeEntry) (before after : BookView S) →
    Stands b log (Some (Recorded before)) → IsEnteredIn before after log new → Stands b new (Some (Recorded after))
stands_entered None log new before after stands entered = absurd stands
stands_entered (Some b) log new before after stands entered = recorded_more b log new before after stands entered

-- and on a node that it leads to
pub stands_alone_entered : {S : Type 0} (b : Option Beginning) (log new : List NodeEntry) (before after : NodeText (Unit {0}) S) →
    Stands b log (Some (Alone before)) → LeadsToNode b new after → Stands b new (Some (Alone after))
stands_alone_entered None log new before after stands leads = absurd stands
stands_alone_entered (Some b) log new before after stands leads = ((leads.0, leads.1), leads.2)

-- nothing is said of a node that is lost
pub stands_lost : {S : Type 0} (b : Option Beginning) (log new : List NodeEntry) (steps : Option (Steps S)) → Stands b log steps → Stands {S = S} b new None
stands_lost None log new steps stands = absurd stands
stands_lost (Some b) log new steps stands = tt
