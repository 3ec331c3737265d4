-- The names of contents and faults, as scripts print them.
use Rattle.std.specs.Prelude.{ℕ, List, codes}
use Rattle.htcp_wire.specs.declared.message.Content.{Content}
use Rattle.htcp_wire.specs.declared.message.Content.TheVariants.{NopAsk, NopAnswer, TstAsk, TstHit, TstMiss, ClrAsk, ClrAnswer, Other, Overall, OtherAnswer}
use Rattle.htcp_wire.specs.declared.fault.HtcpFault.{HtcpFault}
use Rattle.htcp_wire.specs.declared.fault.HtcpFault.TheVariants.{Short, BadLength, BadMajor, BadData, BadString, BadAuth, BadNumber, NoMemory}

-- the name of a content
abbrev pub content_name : Content → List ℕ
content_name (NopAsk desired) = codes "NopAsk"
content_name NopAnswer = codes "NopAnswer"
content_name (TstAsk desired spec) = codes "TstAsk"
content_name (TstHit detail) = codes "TstHit"
content_name (TstMiss cache) = codes "TstMiss"
content_name (ClrAsk desired reason spec) = codes "ClrAsk"
content_name (ClrAnswer code) = codes "ClrAnswer"
content_name (Other opcode desired) = codes "Other"
content_name (Overall opcode code) = codes "Overall"
content_name (OtherAnswer opcode code) = codes "OtherAnswer"

-- the name of a fault
abbrev pub htcp_fault_name : HtcpFault → List ℕ
htcp_fault_name Short = codes "Short"
htcp_fault_name BadLength = codes "BadLength"
htcp_fault_name BadMajor = codes "BadMajor"
htcp_fault_name BadData = codes "BadData"
htcp_fault_name BadString = codes "BadString"
htcp_fault_name BadAuth = codes "BadAuth"
htcp_fault_name BadNumber = codes "BadNumber"
htcp_fault_name NoMemory = codes "NoMemory"
