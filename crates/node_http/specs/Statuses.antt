-- The statuses that refuse a request (RFC 9110, section 15), and the names of faults.
use Rattle.std.specs.Prelude.{ℕ, List, Option, Some, None}
use Rattle.http_messages.specs.declared.fault.FetchFault.{FetchFault}
use Rattle.http_messages.specs.declared.fault.FetchFault.TheVariants.{Io, EndOfInput, BadHead, HeadTooLong, BadTarget, MethodNotServed, Credentials, BadBody}
use Rattle.http_messages.specs.declared.fault.FetchFault.TheVariants.{BodyTooLong, TooManyTurns, NoMemory}
use Rattle.http_messages.specs.Fault.{fetch_fault_name}
use Rattle.url_key.specs.declared.fault.KeyFault.TheVariants.{TooLong}
use Rattle.node_rules.specs.Names.{step_fault_name}
use Rattle.node_http.specs.declared.fault.ServeFault.{ServeFault}
use Rattle.node_http.specs.declared.fault.ServeFault.TheVariants.{Fetch, Step}

-- The status for a request that was not read, by its fault (414: RFC 9112, section 3; 431: RFC 6585,
-- section 5). Nothing is written if the request has no end. [HTTP 10]
abbrev pub refusal_of : FetchFault → Option ℕ
refusal_of Io = None
refusal_of EndOfInput = None
refusal_of BadHead = Some 400
refusal_of HeadTooLong = Some 431
refusal_of (BadTarget TooLong) = Some 414
refusal_of (BadTarget fault) = Some 400
refusal_of MethodNotServed = Some 501
refusal_of Credentials = Some 501
refusal_of BadBody = Some 400
refusal_of BodyTooLong = Some 413
refusal_of TooManyTurns = None
refusal_of NoMemory = Some 503

-- The status if a step was refused (RFC 9110, section 15.6.4).
abbrev pub unavailable : ℕ
unavailable = 503

-- The status for a request that was not served.
abbrev pub status_for : ServeFault → Option ℕ
status_for (Fetch fault) = refusal_of fault
status_for (Step fault) = Some unavailable

-- The name of the fault inside, as scripts print it.
abbrev pub serve_fault_name : ServeFault → List ℕ
serve_fault_name (Fetch fault) = fetch_fault_name fault
serve_fault_name (Step fault) = step_fault_name fault
