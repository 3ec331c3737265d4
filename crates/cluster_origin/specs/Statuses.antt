-- The statuses that refuse a request (RFC 9110, section 15).
use Rattle.std.specs.Prelude.{ℕ, Option, Some, None}
use Rattle.http_messages.specs.declared.fault.FetchFault.{FetchFault}
use Rattle.http_messages.specs.declared.fault.FetchFault.TheVariants.{Io, EndOfInput, BadHead, HeadTooLong, BadTarget, MethodNotServed, Credentials, BadBody}
use Rattle.http_messages.specs.declared.fault.FetchFault.TheVariants.{BodyTooLong, TooManyTurns, NoMemory}
use Rattle.url_key.specs.declared.fault.KeyFault.TheVariants.{TooLong}

-- the status for a request that was not read, by what was wrong with it (414: RFC 9112, section 3; 431: RFC 6585,
-- section 5); nothing is told to a client whose request has no end
abbrev pub refusal_of : FetchFault → Option ℕ
refusal_of Io = None
refusal_of EndOfInput = None
refusal_of BadHead = Some 400
refusal_of HeadTooLong = Some 431
refusal_of (BadTarget TooLong) = Some 414
refusal_of (BadTarget fault) = Some 400
refusal_of MethodNotServed = Some 501
refusal_of Credentials = Some 501
refusal_of BadBody = Some 400
refusal_of BodyTooLong = Some 413
refusal_of TooManyTurns = None
refusal_of NoMemory = Some 503
