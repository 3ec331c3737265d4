-- What notes stand for is a run of the world: each note's events lead from one world to the next,
-- and runs join.
use Rattle.std.proofs.Common.{◌≡◌, ℕ, ◌+◌, List, [], ◌∷◌, ◌++◌, length, refl, sym, subst, inl, inr, arith, length-append}
use Rattle.values_tables.specs.declared.plain.Tables.{Tables}
use Rattle.world_rules.specs.World.{World}
use Rattle.world_rules.specs.Run.{Step, Run}
use Rattle.run_rules.specs.Notes.{Note, Opens, Steps, Closes, Calls}
use Rattle.run_rules.specs.Recorded.{Progress, Goes, Stands, AllStand}

-- these events lead from p to q
pub record Leads (roster : Tables) (p : Progress) (steps : List Step) (q : Progress) : Type 0 where
  pub run : Run roster p.place p.world steps q.world
  pub place : q.place ≡ p.place + length steps

pub runs_join : (t : Tables) (place there : ℕ) (a b c : World) (one two : List Step) → there ≡ place + length one → Run t place a one b → Run t there b two c →
    Run t place a (one ++ two) c
runs_join t place there a b c [] two is same run = subst (λ (w : World). Run t place w two c) same (subst (λ (n : ℕ). Run t n b two c) (omega (is, arith)) run)
runs_join t place there a b c (step ∷ one) two is (next, happens, more) run =
    let here : there ≡ place + 1 + length one = omega (is, arith) in
    (next, happens, runs_join t (place + 1) there next b c one two here more run)

leads_nowhere : (t : Tables) (p q : Progress) (steps : List Step) → steps ≡ [] → q ≡ p → Leads t p steps q
leads_nowhere t p q steps none same =
    subst (λ (s : List Step). Leads t p s q) (sym none) (subst (λ (x : Progress). Leads t p [] x) (sym same) record { run = refl; place = omega arith })

goes_leads : (t : Tables) (p q : Progress) (steps : List Step) (m : _) → Goes t p steps m q → Leads t p steps q
goes_leads t p q steps m goes = record { run = goes.run; place = goes.place }

pub leads_join : (t : Tables) (p q r : Progress) (one two : List Step) → Leads t p one q → Leads t q two r → Leads t p (one ++ two) r
leads_join t p q r one two first second = record {
  run = runs_join t p.place q.place p.world q.world r.world one two first.place first.run second.run;
  place = omega (first.place, second.place, length-append one two, arith);
}

pub note_leads : (t : Tables) (p q : Progress) (note : Note) (steps : List Step) → Stands t p note steps q → Leads t p steps q
note_leads t p q (Opens id state) steps (member, inl (none, same, kept)) = leads_nowhere t p q steps none same
note_leads t p q (Opens id state) steps (member, inr (these, goes, again)) = goes_leads t p q steps p.master goes
note_leads t p q (Steps id e is_closed kept) steps (inl (outcome, taken, same)) = goes_leads t p q steps p.master taken.goes
note_leads t p q (Steps id e is_closed kept) steps (inr (fault, is, none, same, refused)) = leads_nowhere t p q steps none same
note_leads t p q (Closes id place state) steps (none, same, kept) = leads_nowhere t p q steps none same
note_leads t p q (Calls e is_closed) steps (next, calls, these, goes) = goes_leads t p q steps next goes

pub notes_lead : (t : Tables) (p q : Progress) (notes : List Note) (steps : List Step) → AllStand t p notes steps q → Leads t p steps q
notes_lead t p q [] steps (none, same) = leads_nowhere t p q steps none same
notes_lead t p q (note ∷ notes) steps (here, rest, next, stands, these, more) =
    subst (λ (s : List Step). Leads t p s q) (sym these)
    (leads_join t p next q here rest (note_leads t p next note here stands) (notes_lead t next q notes rest more))
