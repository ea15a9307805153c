-- A whole run: what is told of a flight text.
use Rattle.std.specs.Prelude.{◌≡◌, ℕ, ◌<◌, List, [], ◌∷◌, reverse, length, Some, None, Option}
use Rattle.std.specs.Fmt.{HasWritten}
use Rattle.std.specs.declared.fmt.Formatter.{Formatter}
use Rattle.satellite.specs.Fit.{most}
use Rattle.text.specs.declared.event.Event.{Event}
use Rattle.text.specs.declared.fault.Fault.TheVariants as fault
use Rattle.text.specs.Text.{flights, Tells, Fails}
use Rattle.mission.specs.declared.aloft.Aloft.{Aloft}
use Rattle.mission.specs.declared.aloft.Output.{Output}
use Rattle.mission.specs.declared.whole.Failure.{Failure}
use Rattle.mission.specs.declared.whole.Failure.TheVariants as failure
use Rattle.mission.specs.Lines.{told}
use Rattle.mission.specs.Steps.{Ran}
use Rattle.mission.specs.Story.{reports, Tolerated}

-- the text says these events, from launch they gave these outputs, and those are what was written
pub record FlownThrough {W : Type 0} (took : W → List ℕ → W → Type 0) (text : List ℕ)
    (f g : Formatter W) : Type 0 where
  pub events : List Event
  pub says : Tells flights text events
  pub outputs : List Output
  pub aloft : Aloft
  pub ran : Ran (reverse events) aloft (reverse outputs)
  pub written : HasWritten took f (told outputs) g

-- where no word is hit in two copies between two ticks, the story's reports are written, line by
-- line, and nothing else
abbrev pub Storied : {W : Type 0} → (W → List ℕ → W → Type 0) → List ℕ → Formatter W
    → Formatter W → Type 0
Storied took text f g =
    (es : List Event) → Tells flights text es → Tolerated (reverse es) → length es < most
    → HasWritten took f (told (reverse (reports (reverse es)))) g

-- the line of an output and its end, or nothing
abbrev pub line_told : Option Output → List ℕ
line_told None = told []
line_told (Some o) = told (o ∷ [])

-- why a run ends early: a line is at fault, there is no memory, or it cannot be written
abbrev pub Broke : List ℕ → Failure → Type 0
Broke text (failure.Unread fault) = Fails flights text fault
Broke text failure.Unwritten = Unit {0}

-- where a line is at fault, nothing has been written
abbrev pub Untouched : {W : Type 0} → Failure → Formatter W → Formatter W → Type 0
Untouched (failure.Unread (fault.Unreadable n x)) f g = g ≡ f
Untouched (failure.Unread fault.Memory) f g = Unit {0}
Untouched failure.Unwritten f g = Unit {0}
