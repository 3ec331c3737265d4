-- What the entries of a master's book weigh.
use Rattle.std.specs.Prelude.{ℕ, ◌+◌, ◌*◌, ◌/◌, min, List, length, sum_by, Result, Ok}
use Rattle.purge_rules.specs.declared.calls.MasterCall.{MasterCall}
use Rattle.purge_rules.specs.declared.calls.MasterCall.TheVariants as call
use Rattle.purge_rules.specs.declared.calls.MasterAnswer.{MasterAnswer}
use Rattle.purge_rules.specs.declared.calls.MasterAnswer.TheVariants as answer
use Rattle.purge_rules.specs.declared.fault.MasterFault.{MasterFault}
use Rattle.purge_master.specs.declared.book.MasterEntry.{MasterEntry}

-- the octets of the URL in a call; no key has more than 1,024
abbrev pub call_octets : MasterCall → ℕ
call_octets (call.Issue key) = min (length key) 1024
call_octets _ = 0

-- the octets of the list in an answer, 8 for each number with its member; none is longer than 1,024 numbers of 16 members
abbrev pub answer_octets : Result MasterAnswer MasterFault → ℕ
answer_octets (Ok (answer.Due pairs)) = 8 * min (length pairs) 16384
answer_octets _ = 0

-- an entry weighs 1, and 1 more for each 1,024 octets of its URL or its list [Cluster 6]
abbrev pub weight_of : MasterEntry → ℕ
weight_of entry = 1 + (call_octets entry.call + answer_octets entry.answer) / 1024

-- what entries weigh in all, up to the greatest number of 64 bits
abbrev pub weight_of_all : List MasterEntry → ℕ
weight_of_all entries = min (sum_by weight_of entries) 18446744073709551615
