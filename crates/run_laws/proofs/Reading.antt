-- Nothing old is served, by what the entries say: the three entries stand for three events, of
-- which the safety of world_rules speaks. The copy's mark is not 0, so it is an origin's.
use Rattle.std.proofs.Common.{◌≡◌, ℕ, ◌+◌, ◌<◌, List, ◌∙◌, ap, subst, inl, inr, arith}
use Rattle.object_store.specs.declared.copy.WebCopy.{WebCopy}
use Rattle.values_tables.specs.declared.plain.Tables.{Tables}
use Rattle.roster.specs.Judged.{IsRoster}
use Rattle.node_book.specs.declared.record.Record.{Record}
use Rattle.purge_master.specs.declared.book.MasterEntry.{MasterEntry}
use Rattle.world_rules.specs.Run.{Step}
use Rattle.world_rules.specs.Provenance.{IsFromOrigin, HasSource}
use Rattle.world_rules.proofs.Safe.{nothing_old_is_served}
use Rattle.world_rules.proofs.SourceRuns.{each_has_source}
use Rattle.run_rules.specs.Recorded.{IsRecordedRun, beginning}
use Rattle.run_rules.proofs.Running.{notes_lead}
use Rattle.run_laws.specs.Entries.{EntriesServeNothingOld}
use Rattle.run_laws.proofs.Placing.{placed, both_placed}
use Rattle.run_laws.proofs.Reporting.{reports_done, issues_purge}
use Rattle.run_laws.proofs.Serving.{serves_in_world}

-- a copy with a mark greater than 0 comes from an origin
from_origin : (t : Tables) (steps : List Step) (key : List ℕ) (c : WebCopy ℕ) → 0 < c.tag → HasSource t steps key c.tag c.answer →
    IsFromOrigin t steps key c.tag c.answer
from_origin t steps key c marked (inl origin) = origin
from_origin t steps key c marked (inr foreign) = absurd (omega (arith, marked, foreign.unmarked))

-- The three entries stand for three events of the run in the world, in their order, so the law of the world
-- says that the copy's mark is later than the issue.
pub serve_nothing_old : (t : Tables) (records : List Record) (entries : List MasterEntry) (steps : List Step) → IsRoster t →
    (run : IsRecordedRun t records entries steps) → EntriesServeNothingOld t run.notes steps
serve_nothing_old t records entries steps proper run number key c issue report serve first done later is_issue issues is_report reports before is_serve serves
    same_key =
    let leads = (notes_lead t (beginning t) run.end run.notes steps run.stand).run in
    let begun = placed t run.notes steps run.end run.stand first issue is_issue in
    let both = both_placed t run.notes steps run.end run.stand done later report serve before is_report is_serve in
    let is_issued = issues_purge t steps issue begun number key issues in
    let (is_reported, some) = reports_done t proper steps report both.first number reports in
    let it = serves_in_world t steps serve both.second c serves in
    let after : both.first.offset + 1 < both.second.offset + 2 = omega (arith, both.apart, some) in
    let its_key : it.copy.key ≡ key = ap (λ (x : WebCopy (Unit {0})). x.key) it.same ∙ same_key in
    let since : begun.offset + 1 < it.copy.tag =
    nothing_old_is_served t proper steps run.end.world leads number key (begun.offset + 1) (both.first.offset + 1) (both.second.offset + 2) it.copy is_issued
    is_reported after it.served its_key in
    record {
      issued = begun.offset + 1;
      is_issued = is_issued;
      reported = both.first.offset + 1;
      is_reported = is_reported;
      served = both.second.offset + 2;
      after = after;
      copy = it.copy;
      is_served = it.served;
      same = it.same;
      since = since;
      read = from_origin t steps key it.copy (omega (arith, since))
          (subst (λ (k : List ℕ). HasSource t steps k it.copy.tag it.copy.answer) its_key
          (each_has_source t steps run.end.world leads (both.second.offset + 2) it.copy it.served));
    }
