-- Which text may answer a line of a cluster's script.
use Rattle.std.specs.Prelude.{◌≡◌, ◌≢◌, ◌⊎◌, ℕ, zero, suc, true, false, List, [], ◌++◌, length, codes, decimal, Result, Ok, Err, IfOk, IfErr, IsTrue, MatchBool}
use Rattle.std.specs.Prelude.{option_map, Option}
use Rattle.url_key.specs.declared.fault.KeyFault.{KeyFault}
use Rattle.url_key.specs.Fault.{key_fault_name}
use Rattle.url_key.specs.Key.{HasKey}
use Rattle.http_messages.specs.Answer.{AnswerText, is_writable}
use Rattle.http_messages.specs.declared.fault.FetchFault.{FetchFault}
use Rattle.purge_rules.specs.declared.calls.Status.{Status}
use Rattle.purge_rules.specs.declared.fault.MasterFault.{MasterFault}
use Rattle.purge_rules.specs.declared.fault.MasterFault.TheVariants.{ShiftFull}
use Rattle.purge_rules.specs.Needed.{nodes_of}
use Rattle.purge_rules.specs.Purges.{PurgeList, AreNumbered}
use Rattle.roster.specs.Lookups.{member_of, is_member}
use Rattle.values_plain.specs.declared.address.Address.{Address}
use Rattle.values_tables.specs.declared.plain.Tables.{Tables}
use Rattle.values_lines.specs.Lines.{is_long}
use Rattle.values_lines.specs.Words.{words_of}
use Rattle.cluster_console.specs.declared.check.Checked.{Checked}
use Rattle.cluster_console.specs.declared.check.DeadPeer.{DeadPeer}
use Rattle.cluster_console.specs.declared.check.MemberState.{MemberState}
use Rattle.cluster_console.specs.Checked.{Gathered, GoesOn, IsChecked}
use Rattle.cluster_console.specs.Command.{Command, PurgeLine, AdmitLine, StatusLine, GetLine, CheckLine, PendingLine, MembersLine, PeersLine, RefusedLine}
use Rattle.cluster_console.specs.Command.{BadLine, command_of}
use Rattle.cluster_console.specs.Shown.{purge_shown, admission_shown, asked_shown, got_shown, checked_shown, pending_shown, is_outside, stands}
use Rattle.cluster_console.specs.Shown.{member_line, peers_shown, refused_line}

-- the fault of a URL that has no key, or what is told of a URL that has one
abbrev pub IsSaidOf : (List ℕ → Type 0) → Result (List ℕ) KeyFault → List ℕ → Type 0
IsSaidOf Tells (Ok key) text = Tells text
IsSaidOf Tells (Err fault) text = text ≡ key_fault_name fault

-- the same, by the key that the URL has
abbrev pub IsSaid : (List ℕ → Type 0) → List ℕ → List ℕ → Type 0
IsSaid Tells url text = (outcome : Result (List ℕ) KeyFault) × HasKey url outcome × IsSaidOf Tells outcome text

-- a fault that may be told: any but that of a full book, whose page is filed first
abbrev pub IsTold : MasterFault → Type 0
IsTold fault = fault ≢ ShiftFull

-- the number of a purge, or why none was issued
abbrev pub TellsPurge : List ℕ → Type 0
TellsPurge text = (issued : Result ℕ MasterFault) × IfErr issued IsTold × (text ≡ purge_shown issued)

-- the number of an admission, or why there is none
abbrev pub TellsAdmission : List ℕ → Type 0
TellsAdmission text = (admitted : Result ℕ MasterFault) × IfErr admitted IsTold × (text ≡ admission_shown admitted)

-- how far this number is, or why the master does not tell
abbrev pub TellsStatus : ℕ → List ℕ → Type 0
TellsStatus number text = (asked : Result Status MasterFault) × IfErr asked IsTold × (text ≡ asked_shown number asked)

-- the answer of a member, with a status of 200 to 599 and a body of at most 65,536 octets, or why there is none
abbrev pub TellsAnswer : List ℕ → Type 0
TellsAnswer text = (got : Result AnswerText FetchFault) × IfOk got (λ answer. IsTrue (is_writable answer))
    × (text ≡ got_shown got)

-- a `get` of a node that is no member is a bad line
abbrev pub GetTells : Tables → ℕ → List ℕ → List ℕ → Type 0
GetTells roster node url text =
    ((is_member roster node ≡ false) × (text ≡ codes "bad line"))
    ⊎ ((is_member roster node ≡ true) × IsSaid TellsAnswer url text)

-- the verdict on what was gathered of the run so far, or why there is none
abbrev pub TellsCheck : Tables → Option Gathered → List ℕ → Type 0
TellsCheck roster gathered text = (checked : Checked) × IsChecked roster gathered checked
    × (text ≡ checked_shown checked)

-- the pending purges and admissions of a master, which no contract sees
abbrev pub TellsPending : Tables → List ℕ → Type 0
TellsPending roster text = (purges : PurgeList) × AreNumbered purges × (text ≡ pending_shown (nodes_of roster) purges)

-- a member's line behind this text; whether it is open or closed no contract can say
abbrev pub MemberTells : Tables → PurgeList → ℕ → List ℕ → List ℕ → Type 0
MemberTells roster purges id before text =
    (s : MemberState) × (text ≡ before ++ member_line id (stands (is_outside roster purges id) s))

-- the lines of the members with an id of at most this one, by id
abbrev pub MembersTell : Tables → PurgeList → ℕ → List ℕ → Type 0
MembersTell roster purges zero text = text ≡ []
MembersTell roster purges (suc id) text = (before : List ℕ) × MembersTell roster purges id before
    × MatchBool (is_member roster (suc id)) (MemberTells roster purges (suc id) before text) (text ≡ before)

-- how many members there are, and then each of them
abbrev pub TellsEach : Tables → PurgeList → List ℕ → Type 0
TellsEach roster purges text = (lines : List ℕ) × MembersTell roster purges 16 lines
    × (text ≡ codes "members " ++ decimal (length roster.members) ++ lines)

-- the same: who is outside, the admissions of a master say, which no contract sees
abbrev pub TellsMembers : Tables → List ℕ → Type 0
TellsMembers roster text = (purges : PurgeList) × AreNumbered purges × TellsEach roster purges text

-- some peers that members think dead; which, no contract can say
abbrev pub TellsPeers : List ℕ → Type 0
TellsPeers text = (dead : List DeadPeer) × (text ≡ peers_shown dead)

-- a member's line behind this text; how many requests it has refused no contract can say
abbrev pub CountTells : ℕ → List ℕ → List ℕ → Type 0
CountTells id before text = (count : ℕ) × (text ≡ before ++ refused_line id count)

-- the lines of the members with an id of at most this one, by id
abbrev pub CountsTell : Tables → ℕ → List ℕ → Type 0
CountsTell roster zero text = text ≡ []
CountsTell roster (suc id) text = (before : List ℕ) × CountsTell roster id before
    × MatchBool (is_member roster (suc id)) (CountTells (suc id) before text) (text ≡ before)

-- how many members there are, and then how many requests each has refused
abbrev pub TellsRefused : Tables → List ℕ → Type 0
TellsRefused roster text = (lines : List ℕ) × CountsTell roster 16 lines
    × (text ≡ codes "refused " ++ decimal (length roster.members) ++ lines)

-- the text may answer what a line asks for
abbrev pub CommandTells : Tables → Option Gathered → Command → List ℕ → Type 0
CommandTells roster gathered (PurgeLine url) text = IsSaid TellsPurge url text
CommandTells roster gathered (AdmitLine node) text = TellsAdmission text
CommandTells roster gathered (StatusLine number) text = TellsStatus number text
CommandTells roster gathered (GetLine node url) text = GetTells roster node url text
CommandTells roster gathered CheckLine text = TellsCheck roster gathered text
CommandTells roster gathered PendingLine text = TellsPending roster text
CommandTells roster gathered MembersLine text = TellsMembers roster text
CommandTells roster gathered PeersLine text = TellsPeers text
CommandTells roster gathered RefusedLine text = TellsRefused roster text
CommandTells roster gathered BadLine text = text ≡ codes "bad line"

-- the text may answer the line, where this is gathered of the run
abbrev pub LineTells : Tables → Option Gathered → List ℕ → List ℕ → Type 0
LineTells roster gathered line text = CommandTells roster gathered (command_of (words_of line)) text

-- what is said of a line: a line that is too long, or for which there is no memory, is at fault alone [Cluster 3]
abbrev pub LineSays : Tables → Option Gathered → List ℕ → List ℕ → Type 0
LineSays roster gathered line text = MatchBool (is_long line) (text ≡ codes "LineTooLong")
    ((text ≡ codes "NoMemory") ⊎ LineTells roster gathered line text)

-- the text is said of the line, and what was gathered goes on
abbrev pub LineAnswers : Tables → Option Gathered → List ℕ → List ℕ → Option Gathered → Type 0
LineAnswers roster old line text new = LineSays roster new line text × GoesOn old new

-- where the member of an id serves HTTP
abbrev pub http_of : Tables → ℕ → Option Address
http_of roster id = option_map (λ m. m.cache.http) (member_of roster id)
