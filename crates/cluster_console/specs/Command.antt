-- The lines of a cluster's script.
use Rattle.std.specs.Prelude.{ℕ, ◌^◌, bytes_eq, List, [], ◌∷◌, codes, Option, Some, None, if◌then◌else◌}
use Rattle.values_lines.specs.Words.{decimal_below}
use Rattle.cluster_console.specs.declared.line.Line.{Line}
use Rattle.cluster_console.specs.declared.line.Line.TheVariants as lines

-- what a line asks for: ids, purges and admissions are numbers, URLs are octets
pub data Command : Type 0 where
  PurgeLine : (url : List ℕ) → Command
  AdmitLine : (node : ℕ) → Command
  StatusLine : (number : ℕ) → Command
  GetLine : (node : ℕ) (url : List ℕ) → Command
  CheckLine : Command
  PendingLine : Command
  MembersLine : Command
  PeersLine : Command
  RefusedLine : Command
  BadLine : Command

-- a line as the code has it
abbrev pub command_text : Line → Command
command_text (lines.Purge url) = PurgeLine url.now
command_text (lines.Admit node) = AdmitLine node
command_text (lines.Status number) = StatusLine number
command_text (lines.Get node url) = GetLine node url.now
command_text lines.Check = CheckLine
command_text lines.Pending = PendingLine
command_text lines.Members = MembersLine
command_text lines.Peers = PeersLine
command_text lines.Refused = RefusedLine
command_text lines.Bad = BadLine

-- `check`, `pending`, `members`, `peers` and `refused`
abbrev pub alone : List ℕ → Command
alone keyword =
    if bytes_eq keyword (codes "check") then CheckLine
    else if bytes_eq keyword (codes "pending") then PendingLine
    else if bytes_eq keyword (codes "members") then MembersLine
    else if bytes_eq keyword (codes "peers") then PeersLine
    else if bytes_eq keyword (codes "refused") then RefusedLine else BadLine

-- `purge URL`
abbrev pub purge_of : List ℕ → Command
purge_of [] = BadLine
purge_of (octet ∷ octets) = PurgeLine (octet ∷ octets)

-- `admit N`, by the number that N is
abbrev pub admit_by : Option ℕ → Command
admit_by None = BadLine
admit_by (Some node) = AdmitLine node

-- `admit N`, where N is a number of 8 bits
abbrev pub admit_of : List ℕ → Command
admit_of word = admit_by (decimal_below (2 ^ 8) word)

-- `status P`, by the number that P is
abbrev pub status_by : Option ℕ → Command
status_by None = BadLine
status_by (Some number) = StatusLine number

-- `status P`, where P is a number of 32 bits
abbrev pub status_of : List ℕ → Command
status_of word = status_by (decimal_below (2 ^ 32) word)

-- a line of a keyword and one word
abbrev pub with_one : List ℕ → List ℕ → Command
with_one keyword word =
    if bytes_eq keyword (codes "purge") then purge_of word
    else if bytes_eq keyword (codes "admit") then admit_of word
    else if bytes_eq keyword (codes "status") then status_of word else BadLine

-- `get N URL`, by the number that N is
abbrev pub get_by : Option ℕ → List ℕ → Command
get_by None url = BadLine
get_by (Some node) [] = BadLine
get_by (Some node) (octet ∷ octets) = GetLine node (octet ∷ octets)

-- `get N URL`, where N is a number of 8 bits
abbrev pub get_of : List ℕ → List ℕ → Command
get_of node url = get_by (decimal_below (2 ^ 8) node) url

-- a line of a keyword and two words
abbrev pub with_two : List ℕ → List ℕ → List ℕ → Command
with_two keyword node url = if bytes_eq keyword (codes "get") then get_of node url else BadLine

-- the line that ends the input
abbrev pub quit : List ℕ
quit = codes "quit"

-- what a line of these words asks for
abbrev pub command_of : List (List ℕ) → Command
command_of (keyword ∷ []) = alone keyword
command_of (keyword ∷ word ∷ []) = with_one keyword word
command_of (keyword ∷ node ∷ url ∷ []) = with_two keyword node url
command_of _ = BadLine
