-- What the entries of a recorded run say: which issues a purge, reports it done, or begins to serve
-- a copy, and what a sibling's request makes a member begin.
use Rattle.std.specs.Prelude.{◌≡◌, ◌⊎◌, ℕ, ◌<◌, true, List, Option, Some, None, Ok}
use Rattle.object_store.specs.declared.copy.WebCopy.{WebCopy}
use Rattle.node_rules.specs.declared.reply.Begin.{Begin}
use Rattle.node_rules.specs.Effect.{copy_served, sent}
use Rattle.node_rules.specs.Questions.{is_from_sibling, begun}
use Rattle.node_rules.specs.Tags.{retag_copy}
use Rattle.purge_rules.specs.declared.calls.Status.TheVariants.{Done}
use Rattle.purge_rules.specs.declared.calls.MasterCall.TheVariants as call
use Rattle.purge_rules.specs.declared.calls.MasterAnswer.TheVariants as answer
use Rattle.values_tables.specs.declared.plain.Tables.{Tables}
use Rattle.node_rules.specs.State.{setting}
use Rattle.world_rules.specs.Run.{Step, IsItem, IsIssuedAt, IsReportedAt, IsServedAt}
use Rattle.world_rules.specs.Provenance.{IsFromOrigin}
use Rattle.world_rules.specs.Safety.{SendsBack}
use Rattle.run_rules.specs.Notes.{Note, Steps, Calls}

-- the entry issues the purge of this key, under this number
abbrev pub Issues : Note → ℕ → List ℕ → Type 0
Issues (Calls e is_closed) number key = (e.call ≡ call.Issue key) × (e.answer ≡ Ok (answer.Issue number))
Issues note number key = ⊥

-- the entry reports the purge done: as the last acknowledgement, or as a status that was asked for
abbrev pub Reports : Note → ℕ → Type 0
Reports (Calls e is_closed) number = (e.answer ≡ Ok (answer.Acknowledge (Some number)))
    ⊎ ((e.call ≡ call.Status number) × (e.answer ≡ Ok (answer.Status Done)))
Reports note number = ⊥

-- the entry begins to serve this copy, to a client or to a member
abbrev pub Serves : Note → WebCopy (Unit {0}) → Type 0
Serves (Steps id e is_closed kept) c = copy_served e.outcome ≡ Some c
Serves note c = ⊥

-- In the run that the entries stand for, the purge was issued at one place and reported done at
-- another. At a later place some member serves a copy that is this one but for its mark, and that
-- copy is an origin's response to a read that began after the purge was issued.
pub record IsReadSince (roster : Tables) (steps : List Step) (number : ℕ) (key : List ℕ) (c : WebCopy (Unit {0})) :
    Type 0 where
  pub issued : ℕ
  pub is_issued : IsIssuedAt steps issued number key
  pub reported : ℕ
  pub is_reported : IsReportedAt steps reported number
  pub served : ℕ
  pub after : reported < served
  pub copy : WebCopy ℕ
  pub is_served : IsServedAt steps served copy
  pub same : retag_copy (λ _. tt) copy ≡ c
  pub since : issued < copy.tag
  pub read : IsFromOrigin roster steps key copy.tag copy.answer

-- Once an entry reports a purge done, each copy of its key that a later entry begins to serve was
-- read after the purge was issued. (Notes are counted from 1, in the one order of all.)
abbrev pub EntriesServeNothingOld : Tables → List Note → List Step → Type 0
EntriesServeNothingOld roster notes steps =
    (number : ℕ) (key : List ℕ) (c : WebCopy (Unit {0})) (issue report serve : Note) (first done later : ℕ) →
    IsItem notes first issue → Issues issue number key → IsItem notes done report → Reports report number →
    done < later → IsItem notes later serve → Serves serve c → c.key ≡ key →
    IsReadSince roster steps number key c

-- the entry is of a sibling's request: a QUERY or a TST, or a request of a member whose entry in
-- the roster names this member a sibling
abbrev pub IsOfSibling : Tables → Note → Type 0
IsOfSibling roster (Steps id e is_closed kept) = is_from_sibling (setting roster id) e.event ≡ true
IsOfSibling roster note = ⊥

-- the round, the fetch from a peer or the origin read that the entry begins, if any
abbrev pub begun_by : Note → Option Begin
begun_by (Steps id e is_closed kept) = begun e.outcome
begun_by note = None

-- what the entry sends goes back to the source of its event
abbrev pub IsSentBack : Note → Type 0
IsSentBack (Steps id e is_closed kept) = SendsBack e.event (sent e.outcome)
IsSentBack note = Unit {0}

-- no entry of a sibling's request begins anything, and none sends to anybody but the requester
abbrev pub SiblingsBeginNothing : Tables → List Note → Type 0
SiblingsBeginNothing roster notes = (number : ℕ) (note : Note) → IsItem notes number note → IsOfSibling roster note →
    (begun_by note ≡ None) × IsSentBack note
