-- Which steps are owed where memory lacks, and how they are taken again. [HTTP 20]
use Rattle.std.specs.Prelude.{ℕ, Option, Some, None}
use Rattle.node_rules.specs.declared.event.Event.{Event}
use Rattle.node_rules.specs.declared.event.Event.TheVariants as event
use Rattle.node_rules.specs.declared.reply.Begin.{Begin}
use Rattle.node_rules.specs.declared.reply.Begin.TheVariants as begin
use Rattle.cluster_jobs.specs.declared.job.Job.{Job}
use Rattle.cluster_jobs.specs.declared.job.Job.TheVariants.{Timer, Failed}
use Rattle.cluster_waiting.specs.declared.owed.Ends.{Ends}
use Rattle.cluster_waiting.specs.declared.owed.Ends.TheVariants.{Round, Fetch}
use Rattle.cluster_waiting.specs.declared.owed.OwedStep.{OwedStep}

-- the step at the end of a round
abbrev pub of_round : ℕ → OwedStep
of_round serial = record { serial = serial; ends = Round }

-- the step at the end of a fetch
abbrev pub of_fetch : ℕ → OwedStep
of_fetch serial = record { serial = serial; ends = Fetch }

-- what is owed after a step with this event that found no memory: the end of a round or of a fetch
abbrev pub owed_after : Event (Unit {0}) → Option OwedStep
owed_after (event.Client ask now) = None
owed_after (event.Datagram from message now) = None
owed_after (event.PeerAsk asker ask now) = None
owed_after (event.PeerAnswer serial peer key answer tag now) = Some (of_fetch serial)
owed_after (event.OriginAnswer serial key answer now) = Some (of_fetch serial)
owed_after (event.ForeignAnswer serial peer key answer tag now) = Some (of_fetch serial)
owed_after (event.FetchFailed serial now) = Some (of_fetch serial)
owed_after (event.Expired serial now) = Some (of_round serial)

-- what is owed where this could not begin: its end
abbrev pub ending : Begin → OwedStep
ending (begin.Round serial) = of_round serial
ending (begin.Peer serial peer ask) = of_fetch serial
ending (begin.Read serial ask) = of_fetch serial

-- the job of a step that is owed, by what it ends
abbrev pub again_at : Ends → ℕ → Job
again_at Round serial = Timer serial
again_at Fetch serial = Failed serial

-- the job by which a step that is owed is taken again: the timer of its round, or the failure of its fetch
abbrev pub again : OwedStep → Job
again step = again_at step.ends step.serial
