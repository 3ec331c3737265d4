-- The lines of a world's script.
use Rattle.std.specs.Prelude.{ℕ, ◌^◌, Bool, true, false, ◌&&◌, bytes_eq, List, [], ◌∷◌, codes, Option, Some, None, if◌then◌else◌}
use Rattle.values_lines.specs.Words.{decimal_below}
use Rattle.cli_world.specs.declared.line.Line.{Line}
use Rattle.cli_world.specs.declared.line.Line.TheVariants as lines

-- what a line asks for: moments, ids, counts and serials are numbers, URLs and bodies are octets
pub data Command : Type 0 where
  ClockLine : (now : ℕ) → Command
  ClientLine : (node : ℕ) (url : List ℕ) (only_if_cached : Bool) → Command
  DatagramLine : (number : ℕ) → Command
  AskLine : (number : ℕ) → Command
  AnswerLine : (number : ℕ) (serial : Option ℕ) → Command
  OriginLine : (node serial status : ℕ) (body : List ℕ) → Command
  FailLine : (node serial : ℕ) → Command
  ExpireLine : (node serial : ℕ) → Command
  FaultLine : (node : ℕ) → Command
  RestartLine : (node : ℕ) → Command
  IssueLine : (url : List ℕ) → Command
  AdmitLine : (node : ℕ) → Command
  ResendLine : Command
  StatusLine : (number : ℕ) → Command
  MasterLine : Command
  BadLine : Command

-- a line as the code has it
abbrev pub command_text : Line → Command
command_text (lines.Clock now) = ClockLine now
command_text (lines.Client node url only_if_cached) = ClientLine node url.now only_if_cached
command_text (lines.Datagram number) = DatagramLine number
command_text (lines.Ask number) = AskLine number
command_text (lines.Answer number serial) = AnswerLine number serial
command_text (lines.Origin node serial status body) = OriginLine node serial status body.now
command_text (lines.Fail node serial) = FailLine node serial
command_text (lines.Expire node serial) = ExpireLine node serial
command_text (lines.Fault node) = FaultLine node
command_text (lines.Restart node) = RestartLine node
command_text (lines.Issue url) = IssueLine url.now
command_text (lines.Admit node) = AdmitLine node
command_text lines.Resend = ResendLine
command_text (lines.Status number) = StatusLine number
command_text lines.Master = MasterLine
command_text lines.Bad = BadLine

-- Numbers of 8, 16, 32 and 64 bits

-- a decimal number of 8 bits
abbrev pub octet_in : List ℕ → Option ℕ
octet_in word = decimal_below (2 ^ 8) word

-- a decimal number of 16 bits
abbrev pub short_in : List ℕ → Option ℕ
short_in word = decimal_below (2 ^ 16) word

-- a decimal number of 32 bits
abbrev pub word_in : List ℕ → Option ℕ
word_in word = decimal_below (2 ^ 32) word

-- a decimal number of 64 bits
abbrev pub long_in : List ℕ → Option ℕ
long_in word = decimal_below (2 ^ 64) word

-- Lines of one word

-- `resend` and `master`
abbrev pub bare : List ℕ → Command
bare keyword = if bytes_eq keyword (codes "resend") then ResendLine else if bytes_eq keyword (codes "master") then MasterLine else BadLine

-- Lines of two words

-- `issue URL`
abbrev pub issue_of : List ℕ → Command
issue_of [] = BadLine
issue_of (octet ∷ octets) = IssueLine (octet ∷ octets)

-- `fault N` or `restart N`, by the number that N is
abbrev pub node_by : Bool → Option ℕ → Command
node_by true (Some node) = FaultLine node
node_by false (Some node) = RestartLine node
node_by fails None = BadLine

-- `fault N` or `restart N`
abbrev pub node_of : Bool → List ℕ → Command
node_of fails word = node_by fails (octet_in word)

-- `admit N`, by the number that N is
abbrev pub admit_by : Option ℕ → Command
admit_by (Some node) = AdmitLine node
admit_by None = BadLine

-- `admit N`
abbrev pub admit_of : List ℕ → Command
admit_of word = admit_by (octet_in word)

-- `status P`, by the number that P is
abbrev pub status_by : Option ℕ → Command
status_by (Some number) = StatusLine number
status_by None = BadLine

-- `status P`
abbrev pub status_of : List ℕ → Command
status_of word = status_by (word_in word)

-- `clock T`, `datagram K`, `ask K` or `answer K`, by the number
abbrev pub counted_by : List ℕ → Option ℕ → Command
counted_by keyword None = BadLine
counted_by keyword (Some number) =
    if bytes_eq keyword (codes "clock") then ClockLine number
    else if bytes_eq keyword (codes "datagram") then DatagramLine number
    else if bytes_eq keyword (codes "ask") then AskLine number
    else if bytes_eq keyword (codes "answer") then AnswerLine number None else BadLine

-- `clock T`, `datagram K`, `ask K` or `answer K`
abbrev pub counted : List ℕ → List ℕ → Command
counted keyword word = counted_by keyword (long_in word)

-- a line of a keyword and one word
abbrev pub with_one : List ℕ → List ℕ → Command
with_one keyword word =
    if bytes_eq keyword (codes "issue") then issue_of word
    else if bytes_eq keyword (codes "fault") then node_of true word
    else if bytes_eq keyword (codes "restart") then node_of false word
    else if bytes_eq keyword (codes "admit") then admit_of word
    else if bytes_eq keyword (codes "status") then status_of word else counted keyword word

-- Lines of three words

-- `client N URL`, by the number that N is
abbrev pub client_by : Option ℕ → List ℕ → Bool → Command
client_by None url only_if_cached = BadLine
client_by (Some node) [] only_if_cached = BadLine
client_by (Some node) (octet ∷ octets) only_if_cached = ClientLine node (octet ∷ octets) only_if_cached

-- `client N URL`, with or without `only-if-cached`
abbrev pub client_of : List ℕ → List ℕ → Bool → Command
client_of node url only_if_cached = client_by (octet_in node) url only_if_cached

-- `answer K SERIAL`, by its numbers
abbrev pub answer_by : Option ℕ → Option ℕ → Command
answer_by (Some number) (Some serial) = AnswerLine number (Some serial)
answer_by (Some number) None = BadLine
answer_by None serial = BadLine

-- `answer K SERIAL`
abbrev pub answer_of : List ℕ → List ℕ → Command
answer_of number serial = answer_by (long_in number) (word_in serial)

-- `fail N SERIAL` or `expire N SERIAL`, by its numbers
abbrev pub fetch_by : Bool → Option ℕ → Option ℕ → Command
fetch_by true (Some node) (Some serial) = FailLine node serial
fetch_by false (Some node) (Some serial) = ExpireLine node serial
fetch_by fails (Some node) None = BadLine
fetch_by fails None serial = BadLine

-- `fail N SERIAL` or `expire N SERIAL`
abbrev pub fetch_of : Bool → List ℕ → List ℕ → Command
fetch_of fails node serial = fetch_by fails (octet_in node) (word_in serial)

-- a line of a keyword and two words
abbrev pub with_two : List ℕ → List ℕ → List ℕ → Command
with_two keyword first second =
    if bytes_eq keyword (codes "client") then client_of first second false
    else if bytes_eq keyword (codes "answer") then answer_of first second
    else if bytes_eq keyword (codes "fail") then fetch_of true first second
    else if bytes_eq keyword (codes "expire") then fetch_of false first second else BadLine

-- Lines of four and five words

-- a line of a keyword and three words: `client N URL only-if-cached`
abbrev pub with_three : List ℕ → List ℕ → List ℕ → List ℕ → Command
with_three keyword node url directive =
    if bytes_eq keyword (codes "client") && bytes_eq directive (codes "only-if-cached") then client_of node url true else BadLine

-- `origin N SERIAL STATUS BODY`, by its numbers
abbrev pub origin_by : Option ℕ → Option ℕ → Option ℕ → List ℕ → Command
origin_by (Some node) (Some serial) (Some status) body = OriginLine node serial status body
origin_by (Some node) (Some serial) None body = BadLine
origin_by (Some node) None status body = BadLine
origin_by None serial status body = BadLine

-- `origin N SERIAL STATUS BODY`, whose body has an octet at least
abbrev pub origin_of : List ℕ → List ℕ → List ℕ → List ℕ → Command
origin_of node serial status [] = BadLine
origin_of node serial status (octet ∷ octets) = origin_by (octet_in node) (word_in serial) (short_in status)
    (octet ∷ octets)

-- a line of a keyword and four words
abbrev pub with_four : List ℕ → List ℕ → List ℕ → List ℕ → List ℕ → Command
with_four keyword node serial status body = if bytes_eq keyword (codes "origin") then origin_of node serial status body else BadLine

-- what a line of these words asks for [Script 6]
abbrev pub command_of : List (List ℕ) → Command
command_of (keyword ∷ []) = bare keyword
command_of (keyword ∷ word ∷ []) = with_one keyword word
command_of (keyword ∷ first ∷ second ∷ []) = with_two keyword first second
command_of (keyword ∷ first ∷ second ∷ third ∷ []) = with_three keyword first second third
command_of (keyword ∷ first ∷ second ∷ third ∷ fourth ∷ []) = with_four keyword first second third fourth
command_of _ = BadLine
