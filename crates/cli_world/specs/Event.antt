-- Which event a line is.
use Rattle.std.specs.Prelude.{◌≡◌, ℕ, Bool, false, List, [], ◌∷◌, codes, None, Result, Ok, Err, if◌then◌else◌}
use Rattle.url_key.specs.declared.fault.KeyFault.{KeyFault}
use Rattle.url_key.specs.Key.{HasKey}
use Rattle.http_messages.specs.Field.{FieldText}
use Rattle.http_messages.specs.Answer.{AnswerText, is_writable}
use Rattle.http_messages.specs.declared.ask.Ask.{Ask}
use Rattle.world_rules.specs.declared.event.WorldEvent.{WorldEvent}
use Rattle.world_rules.specs.declared.event.WorldEvent.TheVariants as world
use Rattle.values_lines.specs.Words.{words_of}
use Rattle.cli_world.specs.declared.event.Heard.{Heard}
use Rattle.cli_world.specs.declared.event.Heard.TheVariants as heard
use Rattle.cli_world.specs.Command.{Command, ClockLine, ClientLine, DatagramLine, AskLine, AnswerLine, OriginLine, FailLine, ExpireLine, FaultLine, RestartLine}
use Rattle.cli_world.specs.Command.{IssueLine, AdmitLine, ResendLine, StatusLine, MasterLine, BadLine, command_of}

-- what a client asks for
abbrev pub asked_for : List ℕ → Bool → Ask
asked_for key only_if_cached = record { key = key; only_if_cached = only_if_cached; no_cache = false; member = None }

-- the event with the key of the URL, or the fault of a URL that has none
abbrev pub by_key : (List ℕ → WorldEvent) → Result (List ℕ) KeyFault → Heard
by_key event_of (Ok key) = heard.Event (event_of key)
by_key event_of (Err fault) = heard.BadUrl fault

-- a client asks a member for a URL
abbrev pub IsAskedFor : ℕ → List ℕ → Bool → Heard → Type 0
IsAskedFor node url only_if_cached h =
    (outcome : Result (List ℕ) KeyFault) × HasKey url outcome
    × (h ≡ by_key (λ key. world.Client node (asked_for key only_if_cached)) outcome)

-- a purge of a URL is issued
abbrev pub IsIssueFor : List ℕ → Heard → Type 0
IsIssueFor url h = (outcome : Result (List ℕ) KeyFault) × HasKey url outcome × (h ≡ by_key world.Issue outcome)

-- `cache-control: max-age=60` (RFC 9111, section 5.2.2.1)
abbrev pub max_age_field : FieldText
max_age_field = record { name = codes "cache-control"; value = codes "max-age=60" }

-- the origin's response, which may be kept for 60 seconds
abbrev pub answer_with : ℕ → List ℕ → AnswerText
answer_with status body = record { status = status; fields = max_age_field ∷ []; age = None; stamp = None; body = body }

-- the origin answers a read; a bad line, where the response has no text
abbrev pub origin_heard : ℕ → ℕ → AnswerText → Heard
origin_heard node serial answer = if is_writable answer then heard.Event (world.Origin node serial answer)
    else heard.Bad

-- the origin answers a read with this status and body
abbrev pub IsOriginFor : ℕ → ℕ → ℕ → List ℕ → Heard → Type 0
IsOriginFor node serial status body h = h ≡ origin_heard node serial (answer_with status body)

-- what a line is understood as, by what it asks for
abbrev pub IsHeardAs : Command → Heard → Type 0
IsHeardAs (ClockLine now) h = h ≡ heard.Event (world.Clock now)
IsHeardAs (ClientLine node url only_if_cached) h = IsAskedFor node url only_if_cached h
IsHeardAs (DatagramLine number) h = h ≡ heard.Event (world.Datagram number)
IsHeardAs (AskLine number) h = h ≡ heard.Event (world.Ask number)
IsHeardAs (AnswerLine number serial) h = h ≡ heard.Event (world.Answer number serial)
IsHeardAs (OriginLine node serial status body) h = IsOriginFor node serial status body h
IsHeardAs (FailLine node serial) h = h ≡ heard.Event (world.Fail node serial)
IsHeardAs (ExpireLine node serial) h = h ≡ heard.Event (world.Expire node serial)
IsHeardAs (FaultLine node) h = h ≡ heard.Event (world.Fault node)
IsHeardAs (RestartLine node) h = h ≡ heard.Event (world.Restart node)
IsHeardAs (IssueLine url) h = IsIssueFor url h
IsHeardAs (AdmitLine node) h = h ≡ heard.Event (world.Admit node)
IsHeardAs ResendLine h = h ≡ heard.Event world.Resend
IsHeardAs (StatusLine number) h = h ≡ heard.Event (world.Status number)
IsHeardAs MasterLine h = h ≡ heard.Event world.RestartMaster
IsHeardAs BadLine h = h ≡ heard.Bad

-- what a line is understood as
abbrev pub IsHeardIn : List ℕ → Heard → Type 0
IsHeardIn line h = IsHeardAs (command_of (words_of line)) h
