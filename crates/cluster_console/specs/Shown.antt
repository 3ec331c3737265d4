-- How the answers of a cluster's script read.
use Rattle.std.specs.Prelude.{ℕ, zero, suc, Bool, true, not, ◌&&◌, ◌==◌, List, [], ◌∷◌, ◌++◌, length, codes, decimal, if◌then◌else◌, Result, Ok, Err}
use Rattle.std.specs.List.{list_any}
use Rattle.hex.specs.Hex.{encode_lower}
use Rattle.http_messages.specs.Answer.{AnswerText}
use Rattle.http_messages.specs.declared.fault.FetchFault.{FetchFault}
use Rattle.http_messages.specs.Fault.{fetch_fault_name}
use Rattle.purge_rules.specs.declared.calls.Status.{Status}
use Rattle.purge_rules.specs.declared.calls.Status.TheVariants as status
use Rattle.purge_rules.specs.declared.fault.MasterFault.{MasterFault}
use Rattle.purge_rules.specs.Names.{master_fault_name}
use Rattle.purge_rules.specs.declared.nodes.Nodes.{Nodes}
use Rattle.purge_rules.specs.declared.purges.Purge.{Purge}
use Rattle.purge_rules.specs.declared.purges.Admission.{Admission}
use Rattle.purge_rules.specs.Members.{is_among}
use Rattle.purge_rules.specs.Purges.{PurgeList, pending_count}
use Rattle.purge_rules.specs.Calls.{missing}
use Rattle.roster.specs.Lookups.{is_founding}
use Rattle.values_tables.specs.declared.plain.Tables.{Tables}
use Rattle.values_lines.specs.Lines.{newline}
use Rattle.run_rules.specs.declared.verdict.Cause.{Cause}
use Rattle.run_rules.specs.declared.verdict.Cause.TheVariants.{DoublePlace, NotSent, OtherReply, OtherState}
use Rattle.run_rules.specs.declared.verdict.Verdict.{Verdict}
use Rattle.run_rules.specs.declared.verdict.Verdict.TheVariants.{Yes, No}
use Rattle.cluster_console.specs.declared.check.Checked.{Checked}
use Rattle.cluster_console.specs.declared.check.Checked.TheVariants as checked
use Rattle.cluster_console.specs.declared.check.DeadPeer.{DeadPeer}
use Rattle.cluster_console.specs.declared.check.MemberState.{MemberState}
use Rattle.cluster_console.specs.declared.check.MemberState.TheVariants as state

-- the number of a purge that was issued, or the fault's name
abbrev pub purge_shown : Result ℕ MasterFault → List ℕ
purge_shown (Ok number) = codes "purge " ++ decimal number
purge_shown (Err fault) = master_fault_name fault

-- the number of an admission, or the fault's name
abbrev pub admission_shown : Result ℕ MasterFault → List ℕ
admission_shown (Ok number) = codes "admitted " ++ decimal number
admission_shown (Err fault) = master_fault_name fault

-- how far a number is
abbrev pub status_shown : ℕ → Status → List ℕ
status_shown number status.Unknown = codes "unknown"
status_shown number (status.Pending missing) = codes "pending " ++ decimal missing
status_shown number status.Done = codes "done " ++ decimal number

-- how far a number is, or the fault's name
abbrev pub asked_shown : ℕ → Result Status MasterFault → List ℕ
asked_shown number (Ok s) = status_shown number s
asked_shown number (Err fault) = master_fault_name fault

-- a body in hex, and `-` where it is empty
abbrev pub body_shown : List ℕ → List ℕ
body_shown [] = codes "-"
body_shown (octet ∷ octets) = encode_lower (octet ∷ octets)

-- the status and the body of an answer
abbrev pub answer_shown : AnswerText → List ℕ
answer_shown answer = decimal answer.status ++ codes " " ++ body_shown answer.body

-- what a member answered, or the fault's name
abbrev pub got_shown : Result AnswerText FetchFault → List ℕ
got_shown (Ok answer) = answer_shown answer
got_shown (Err fault) = fetch_fault_name fault

-- the name of a flaw
abbrev pub cause_name : Cause → List ℕ
cause_name DoublePlace = codes "DoublePlace"
cause_name NotSent = codes "NotSent"
cause_name OtherReply = codes "OtherReply"
cause_name OtherState = codes "OtherState"

-- `yes`, or the place of the first flaw and what is wrong there
abbrev pub verdict_shown : Verdict → List ℕ
verdict_shown Yes = codes "yes"
verdict_shown (No place cause) = codes "no " ++ decimal place ++ codes " " ++ cause_name cause

-- the verdict, or why there is none
abbrev pub checked_shown : Checked → List ℕ
checked_shown (checked.Judged verdict) = verdict_shown verdict
checked_shown checked.Forgotten = codes "forgotten"
checked_shown checked.Ended = codes "Ended"

-- the id, behind a space, if it is told
abbrev pub id_shown : Bool → ℕ → List ℕ
id_shown is_told id = if is_told then codes " " ++ decimal id else []

-- the ids from 1 to this one that are told, in order, each behind a space
abbrev pub ids_shown : (ℕ → Bool) → ℕ → List ℕ
ids_shown is_told zero = []
ids_shown is_told (suc id) = ids_shown is_told id ++ id_shown (is_told (suc id)) (suc id)

-- the ids among these of 1 to 16, in order, each behind a space
unfoldable pub among_shown : List ℕ → List ℕ
among_shown ids = ids_shown (λ id. is_among id ids) 16

-- a pending number, on a line of its own behind others: the number, what it is of, and the ids of the members that have
-- not acknowledged it
abbrev pub number_line : Nodes → PurgeList → ℕ → List ℕ → List ℕ
number_line nodes purges number what =
    newline ∷ decimal number ++ codes " " ++ what ++ among_shown (missing nodes purges number)

-- a pending purge: its URL
abbrev pub pending_line : Nodes → PurgeList → Purge → List ℕ
pending_line nodes purges p = number_line nodes purges p.number p.key

-- an admission, if it is pending
abbrev pub admission_line : Nodes → PurgeList → Admission → List ℕ
admission_line nodes purges a = if a.is_done then [] else number_line nodes purges a.number (codes "admission")

-- what is shown of each, one after another
abbrev pub all_shown : {A : Type 0} → (A → List ℕ) → List A → List ℕ
all_shown shown [] = []
all_shown shown (x ∷ xs) = shown x ++ all_shown shown xs

-- how many purges and admissions are pending
abbrev pub pending_head : PurgeList → List ℕ
pending_head purges = codes "purges " ++ decimal (pending_count purges)

-- the pending admissions, each on a line of its own, by number
abbrev pub admission_lines : Nodes → PurgeList → List ℕ
admission_lines nodes purges = all_shown (admission_line nodes purges) purges.admissions

-- how many purges and admissions are pending, then the admissions, and then the purges [Cluster 3]
abbrev pub pending_shown : Nodes → PurgeList → List ℕ
pending_shown nodes purges =
    (pending_head purges ++ admission_lines nodes purges) ++ all_shown (pending_line nodes purges) purges.pending

-- how a member stands
abbrev pub state_shown : MemberState → List ℕ
state_shown state.Open = codes "open"
state_shown state.Outside = codes "outside"
state_shown state.StoreFault = codes "closed StoreFault"
state_shown state.NoMemory = codes "closed NoMemory"

-- an admission of the member is done
abbrev pub is_in : PurgeList → ℕ → Bool
is_in purges id = list_any (λ a. (a.member == id) && a.is_done) purges.admissions

-- the member joins, and no admission of it is done
abbrev pub is_outside : Tables → PurgeList → ℕ → Bool
is_outside roster purges id = not (is_founding roster id) && not (is_in purges id)

-- how a member stands that is open or closed, if it is outside or not
abbrev pub stands : Bool → MemberState → MemberState
stands true state.Open = state.Outside
stands _ s = s

-- a member, on a line of its own behind others: its id, and how it stands
abbrev pub member_line : ℕ → MemberState → List ℕ
member_line id s = newline ∷ decimal id ++ codes " " ++ state_shown s

-- a peer that a member thinks dead, on a line of its own behind others: the member's id, the peer's, and for how many
-- seconds
abbrev pub peer_line : DeadPeer → List ℕ
peer_line d = newline ∷ decimal d.member ++ codes " " ++ decimal d.peer ++ codes " dead " ++ decimal d.seconds

-- how many peers are thought dead, and then each of them
abbrev pub peers_shown : List DeadPeer → List ℕ
peers_shown dead = codes "peers " ++ decimal (length dead) ++ all_shown peer_line dead

-- how many requests a member has refused, on a line of its own behind others: its id, and the count
abbrev pub refused_line : ℕ → ℕ → List ℕ
refused_line id count = newline ∷ decimal id ++ codes " " ++ decimal count
