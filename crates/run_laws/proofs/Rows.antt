-- Worked examples: what some entries say, by computation. They show that the definitions of Entries
-- accept what they should, and nothing else.
use Rattle.std.proofs.Common.{◌≡◌, false, [], ◌∷◌, Some, None, Result, Ok, Err, refl, inl, inr}
use Rattle.object_store.specs.declared.copy.WebCopy.{WebCopy}
use Rattle.node_rules.specs.declared.event.Event.TheVariants as event
use Rattle.node_rules.specs.declared.reply.Served.{Served}
use Rattle.node_rules.specs.declared.reply.Served.TheVariants.{Copy, Status}
use Rattle.node_rules.specs.declared.reply.Reply.{Reply}
use Rattle.node_rules.specs.declared.reply.StepFault.{StepFault}
use Rattle.node_rules.specs.declared.reply.StepFault.TheVariants as fault
use Rattle.purge_rules.specs.declared.calls.Status.TheVariants as status
use Rattle.purge_rules.specs.declared.calls.MasterCall.{MasterCall}
use Rattle.purge_rules.specs.declared.calls.MasterCall.TheVariants as call
use Rattle.purge_rules.specs.declared.calls.MasterAnswer.{MasterAnswer}
use Rattle.purge_rules.specs.declared.calls.MasterAnswer.TheVariants as answer
use Rattle.purge_rules.specs.declared.fault.MasterFault.{MasterFault}
use Rattle.purge_rules.specs.declared.fault.MasterFault.TheVariants as master_fault
use Rattle.floor_rules.specs.Floors.{FloorTable}
use Rattle.run_rules.specs.Notes.{Note, Steps, Calls}
use Rattle.run_laws.specs.Entries.{Issues, Reports, Serves, begun_by, IsSentBack}

called : MasterCall → Result MasterAnswer MasterFault → Note
called c a = Calls record { place = 7; call = c; answer = a } false

served_by : FloorTable → Result (Reply (Unit {0})) StepFault → Note
served_by kept outcome = Steps 2 record { seat = 1; place = 9; event = event.FetchFailed 34 0; outcome = outcome } false kept

gives : Served (Unit {0}) → Reply (Unit {0})
gives served = record { serve = Some record { waiter = Some 1; asker = None; served = served }; send = []; begin = None }

-- a purge is issued if the master gave it a number, and not if it refused
issue_is_one : Issues (called (call.Issue (104 ∷ [])) (Ok (answer.Issue 3))) 3 (104 ∷ [])
unfolding called
issue_is_one = (refl, refl)

refusal_is_none : Issues (called (call.Issue (104 ∷ [])) (Err master_fault.Closed)) 3 (104 ∷ []) → ⊥
unfolding called
refusal_is_none (same, gave) = cc

-- it is reported done by the acknowledgement that made it done, and by a status
acknowledgement_reports : Reports (called (call.Acknowledge 2 3 0) (Ok (answer.Acknowledge (Some 3)))) 3
unfolding called
acknowledgement_reports = inl refl

status_reports : Reports (called (call.Status 3) (Ok (answer.Status status.Done))) 3
unfolding called
status_reports = inr (refl, refl)

-- it is not reported done by an acknowledgement after which others are missing, by the status of a
-- pending purge, or by that of another purge
missing_is_none : Reports (called (call.Acknowledge 2 3 0) (Ok (answer.Acknowledge None))) 3 → ⊥
unfolding called
missing_is_none (inl is) = cc
missing_is_none (inr (asks, is)) = cc

pending_is_none : Reports (called (call.Status 3) (Ok (answer.Status (status.Pending 1)))) 3 → ⊥
unfolding called
pending_is_none (inl is) = cc
pending_is_none (inr (asks, is)) = cc

another_is_none : Reports (called (call.Status 4) (Ok (answer.Status status.Done))) 3 → ⊥
unfolding called
another_is_none (inl is) = cc
another_is_none (inr (asks, is)) = cc

-- a copy is served if the reply has it, and none with a bare status or a fault
copy_is_served : (kept : FloorTable) (c : WebCopy (Unit {0})) → Serves (served_by kept (Ok (gives (Copy c 5)))) c
unfolding served_by gives
copy_is_served kept c = refl

status_serves_none : (kept : FloorTable) (c : WebCopy (Unit {0})) → Serves (served_by kept (Ok (gives (Status 504)))) c → ⊥
unfolding served_by gives
status_serves_none kept c is = cc

fault_serves_none : (kept : FloorTable) (c : WebCopy (Unit {0})) → Serves (served_by kept (Err fault.Closed)) c → ⊥
unfolding served_by
fault_serves_none kept c is = cc

-- an entry that serves a bare status begins nothing
nothing_begins : (kept : FloorTable) → begun_by (served_by kept (Ok (gives (Status 504)))) ≡ None
unfolding served_by gives
nothing_begins kept = refl

-- and sends nothing
nothing_is_sent : (kept : FloorTable) → IsSentBack (served_by kept (Ok (gives (Status 504))))
unfolding served_by gives
nothing_is_sent kept = refl
