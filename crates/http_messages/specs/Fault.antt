-- The names of the faults of reading and writing messages.
use Rattle.std.specs.Prelude.{List, ℕ, codes}
use Rattle.http_messages.specs.declared.fault.FetchFault.{FetchFault}
use Rattle.http_messages.specs.declared.fault.FetchFault.TheVariants.{Io, EndOfInput, BadHead, HeadTooLong, BadTarget, MethodNotServed, Credentials, BadBody}
use Rattle.http_messages.specs.declared.fault.FetchFault.TheVariants.{BodyTooLong, TooManyTurns, NoMemory}

-- the name of a fault, as scripts print it
abbrev pub fetch_fault_name : FetchFault → List ℕ
fetch_fault_name Io = codes "Io"
fetch_fault_name EndOfInput = codes "EndOfInput"
fetch_fault_name BadHead = codes "BadHead"
fetch_fault_name HeadTooLong = codes "HeadTooLong"
fetch_fault_name (BadTarget fault) = codes "BadTarget"
fetch_fault_name MethodNotServed = codes "MethodNotServed"
fetch_fault_name Credentials = codes "Credentials"
fetch_fault_name BadBody = codes "BadBody"
fetch_fault_name BodyTooLong = codes "BodyTooLong"
fetch_fault_name TooManyTurns = codes "TooManyTurns"
fetch_fault_name NoMemory = codes "NoMemory"
