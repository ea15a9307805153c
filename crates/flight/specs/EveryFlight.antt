-- What is promised of every flight, in one place.
use Rattle.std.specs.Prelude.{◌≡◌, ℕ, suc, ◌+◌, ◌<◌, true, ◌⊎◌, List, ◌∷◌, length}
use Rattle.schedule.specs.declared.activity.Activity.{Activity}
use Rattle.schedule.specs.Waiting.{due}
use Rattle.frame.specs.declared.Command.{Command}
use Rattle.satellite.specs.State.{parameter}
use Rattle.satellite.specs.Story.{Inputs, at_release, at_reception}
use Rattle.layout.specs.Map.{state_of}
use Rattle.flight.specs.Machine.{AllLawful}
use Rattle.flight.specs.Flight.{keeper, machine, after, Flew}
use Rattle.flight.specs.Commanding.{Turn, FromGround, obeyed_in, first_sent}
use Rattle.flight.specs.Effects.{CommandActs, IgnoresElse}
use Rattle.flight.specs.Scheduling.{Among, LastForPlace}
use Rattle.flight.specs.Protecting.{InSafeMode}

-- what a flight was given is lawful, as the promises ask
abbrev pub FlewLawfully : Type 0
FlewLawfully = (is : List Inputs) (kept : List ℕ) → Flew is kept → AllLawful machine is

-- of a flight (its ticks the latest first), one more tick, and the memory that this left
pub record EveryFlight (i : Inputs) (is : List Inputs) (left : List ℕ) : Type 0 where
  -- whatever a tolerated upset makes of that memory, what is read of it is the story's
  pub memory : (found : List ℕ) → keeper.Upset left found
      → state_of (keeper.read found) ≡ after (i ∷ is)
  -- each command that the ground sent is obeyed once, in order, none left out
  pub each_once : (sent : ℕ → Command) → FromGround sent (i ∷ is)
      → obeyed_in (i ∷ is) ≡ first_sent sent (after (i ∷ is)).expected
  -- what has its turn comes through, and then the next has
  pub comes_through : (c : Command) → Turn i is c
      → (obeyed_in (i ∷ is) ≡ c ∷ obeyed_in is)
      × ((after (i ∷ is)).expected ≡ suc (after is).expected)
  -- it has its effect, and only that, if it can be done
  pub commands_act : CommandActs i is
  -- what cannot be done changes two counters, and what is not its turn changes nothing
  pub else_ignored : IgnoresElse i is
  -- safe mode is had in the tick in which it is commanded
  pub safe_at_once : Turn i is Command.Sleep → (after (i ∷ is)).safe_mode ≡ true
  -- had before or by a rule, it lasts until `Wake` has its turn
  pub safe_lasts : InSafeMode i is → (Turn i is Command.Wake → ⊥)
      → (after (i ∷ is)).safe_mode ≡ true
  -- what waits stays until its tick, or until all is forgotten
  pub waits : (a : Activity) → Among a (after is).schedule → (Turn i is Command.Forget → ⊥)
      → (a.release ≡ (after (i ∷ is)).time) ⊎ Among a (after (i ∷ is)).schedule
  -- in its tick it is put, outside safe mode, if it is the last for its place
  pub put : (a : Activity) → LastForPlace a (after is).schedule → a.release ≡ (after (i ∷ is)).time
      → (InSafeMode i is → ⊥) → parameter (at_reception i (after is)) a.place ≡ a.number
  -- or in safe mode nothing is put, and each one whose tick it is is counted as missed
  pub unput : InSafeMode i is
      → (at_reception i (after is)).parameters ≡ (at_release i (after is)).parameters
  pub missed : InSafeMode i is
      → (after (i ∷ is)).missed ≡
      (after is).missed + length (due (after (i ∷ is)).time (after is).schedule)
  -- nothing waits longer
  pub never_late : (a : Activity) → Among a (after (i ∷ is)).schedule
      → (after (i ∷ is)).time < a.release
