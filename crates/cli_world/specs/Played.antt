-- A script of a world, played.
use Rattle.std.specs.Prelude.{◌≡◌, ◌⊎◌, ℕ, ◌+◌, ◌^◌, ◌-◌, min, false, List, ◌++◌, codes, decimal, Option, Result, Ok, Err}
use Rattle.url_key.specs.Fault.{key_fault_name}
use Rattle.values_tables.specs.declared.plain.Tables.{Tables}
use Rattle.world_rules.specs.declared.event.WorldEvent.{WorldEvent}
use Rattle.world_rules.specs.declared.outcome.Outcome.{Outcome}
use Rattle.world_rules.specs.declared.outcome.WorldFault.{WorldFault}
use Rattle.world_rules.specs.declared.outcome.WorldFault.TheVariants as fault
use Rattle.world_rules.specs.Names.{world_fault_name}
use Rattle.world_rules.specs.World.{new_world}
use Rattle.hierarchy_world.specs.View.{WorldView, IsApplied}
use Rattle.values_lines.specs.declared.fault.RunFault.{RunFault}
use Rattle.values_lines.specs.declared.fault.RunFault.TheVariants.{NoMemory}
use Rattle.values_lines.specs.Script.{HasPlayed}
use Rattle.cli_world.specs.declared.event.Heard.{Heard}
use Rattle.cli_world.specs.declared.event.Heard.TheVariants as heard
use Rattle.cli_world.specs.declared.play.Player.{Player}
use Rattle.cli_world.specs.Event.{IsHeardIn}
use Rattle.cli_world.specs.Shown.{refusal_shown, outcome_shown}

-- how the outcome of an event reads, or why it is refused; NoMemory is not told
abbrev pub IsTold : Result Outcome WorldFault → List ℕ → Type 0
IsTold (Ok outcome) text = text ≡ outcome_shown outcome
IsTold (Err fault.NoMemory) text = ⊥
IsTold (Err f) text = text ≡ refusal_shown (world_fault_name f)

-- the event is applied to the world or refused, and this is told
abbrev pub EventAnswers : WorldView → WorldEvent → List ℕ → WorldView → Type 0
EventAnswers old event text new = (result : Result Outcome WorldFault) × IsApplied old event result new
    × IsTold result text

-- what is told of a line, after its number [Script 9]
abbrev pub HeardAnswers : WorldView → Heard → List ℕ → WorldView → Type 0
HeardAnswers old (heard.Event event) text new = EventAnswers old event text new
HeardAnswers old (heard.BadUrl f) text new = (text ≡ codes " " ++ key_fault_name f) × (new ≡ old)
HeardAnswers old heard.Bad text new = (text ≡ codes " bad line") × (new ≡ old)

-- the line is counted, and answered by its number and what is told of it
abbrev pub LineAnswers : Player → List ℕ → List ℕ → Player → Type 0
LineAnswers old line text new =
    (h : Heard) × (told : List ℕ) × IsHeardIn line h × HeardAnswers old.world h told new.world
    × (new.lines ≡ min (old.lines + 1) (2 ^ 64 - 1)) × (text ≡ decimal new.lines ++ told)

-- a new world of the roster, before the first line [Script 5]
pub record IsStart (roster : Tables) (player : Player) : Type 0 where
  pub world : player.world ≡ record { roster = roster; place = 1; spoilt = false; world = new_world roster }
  pub lines : player.lines ≡ 0

-- the lines are answered one after another, from a new world on
pub record HasBegun (roster : Tables) (input old new : Option (List ℕ)) (r : Result (Unit {0}) RunFault) : Type 0 where
  pub start : Player
  pub end : Player
  pub first : IsStart roster start
  pub played : HasPlayed LineAnswers start input old new r end

-- there was no memory for a world, and nothing is written
pub record HasNotBegun (old new : Option (List ℕ)) (r : Result (Unit {0}) RunFault) : Type 0 where
  pub refused : r ≡ Err NoMemory
  pub unwritten : new ≡ old

-- a script is played over a new world, or there was no memory for a world
abbrev pub HasPlayedWorld : Tables → Option (List ℕ) → Option (List ℕ) → Option (List ℕ) → Result (Unit {0}) RunFault →
    Type 0
HasPlayedWorld roster input old new r = HasBegun roster input old new r ⊎ HasNotBegun old new r
