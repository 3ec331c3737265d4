-- How the outcome of an event reads.
use Rattle.std.specs.Prelude.{ℕ, List, [], ◌∷◌, ◌++◌, codes, decimal, flat_map, Option, Some, None}
use Rattle.node_rules.specs.declared.reply.Served.{Served}
use Rattle.node_rules.specs.declared.reply.Served.TheVariants as served
use Rattle.node_rules.specs.declared.reply.Serve.{Serve}
use Rattle.node_rules.specs.Names.{step_fault_name}
use Rattle.purge_rules.specs.declared.calls.Status.{Status}
use Rattle.purge_rules.specs.declared.calls.Status.TheVariants as status
use Rattle.purge_rules.specs.Names.{master_fault_name}
use Rattle.world_rules.specs.declared.outcome.Outcome.{Outcome}
use Rattle.world_rules.specs.declared.outcome.ActorFault.{ActorFault}
use Rattle.world_rules.specs.declared.outcome.ActorFault.TheVariants as actor

-- a number after a space
abbrev pub number_shown : ℕ → List ℕ
number_shown number = codes " " ++ decimal number

-- a number after its name, where there is one
abbrev pub named_number : List ℕ → Option ℕ → List ℕ
named_number name None = []
named_number name (Some number) = codes " " ++ name ++ number_shown number

-- what is served: a copy by its status, stamp and body (its age is not shown), or a status alone
abbrev pub served_shown : Served ℕ → List ℕ
served_shown (served.Copy c age) =
    named_number (codes "serve") (Some c.answer.status) ++ named_number (codes "stamp") (Some c.stamp) ++ codes " body " ++ c.answer.body
served_shown (served.Status s) = named_number (codes "serve") (Some s)

-- what is served, if anything is
abbrev pub serve_shown : Option (Serve ℕ) → List ℕ
serve_shown None = []
serve_shown (Some s) = served_shown s.served

-- how far a number is, if that was asked
abbrev pub status_shown : Option (ℕ × Status) → List ℕ
status_shown None = []
status_shown (Some (number, status.Unknown)) = codes " unknown"
status_shown (Some (number, status.Pending missing)) = named_number (codes "pending") (Some missing)
status_shown (Some (number, status.Done)) = named_number (codes "done") (Some number)

-- the number of a purge that was issued, or of an admission
abbrev pub given_shown : Option ℕ → Option ℕ → List ℕ
given_shown purge admitted = named_number (codes "purge") purge ++ named_number (codes "admitted") admitted

-- the numbers of the datagrams that were sent
abbrev pub sent_shown : List ℕ → List ℕ
sent_shown [] = []
sent_shown (first ∷ others) = codes " send" ++ flat_map number_shown (first ∷ others)

-- a refusal of this name
abbrev pub refusal_shown : List ℕ → List ℕ
refusal_shown name = codes " refused " ++ name

-- the refusal of a step or of a call of the master, if there is one
abbrev pub fault_shown : Option ActorFault → List ℕ
fault_shown None = []
fault_shown (Some (actor.Step f)) = refusal_shown (step_fault_name f)
fault_shown (Some (actor.Master f)) = refusal_shown (master_fault_name f)

-- what is served, which response is sent, and what the master tells
abbrev pub told_shown : Outcome → List ℕ
told_shown o =
    serve_shown o.serve ++ named_number (codes "answer") o.answer ++ given_shown o.purge o.admitted ++ status_shown o.status

-- what is sent and what begins, or what was refused
abbrev pub begun_shown : Outcome → List ℕ
begun_shown o =
    named_number (codes "round") o.round ++ sent_shown o.sent ++ named_number (codes "ask") o.ask ++ named_number (codes "read") o.read ++ fault_shown o.fault

-- all that is told of an event
abbrev pub parts_shown : Outcome → List ℕ
parts_shown o = told_shown o ++ begun_shown o

-- a text, or `-` where it is empty
abbrev pub or_nothing : List ℕ → List ℕ
or_nothing [] = codes " -"
or_nothing (octet ∷ octets) = octet ∷ octets

-- the outcome of an event, or `-` where nothing is told of it [Script 7]
abbrev pub outcome_shown : Outcome → List ℕ
outcome_shown o = or_nothing (parts_shown o)
