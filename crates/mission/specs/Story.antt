-- The story of a flight text: what would be reported if there were no radiation. Events are given
-- latest first.
use Rattle.std.specs.Prelude.{◌≡◌, ℕ, cond, ◌&&◌, List, [], ◌∷◌, replicate, Some, None, Ok, Option, nat_lt}
use Rattle.layout.specs.Map.{word_count}
use Rattle.telemetry.specs.Reports.{report_of, numbers_of}
use Rattle.satellite.specs.Story.{Inputs}
use Rattle.flight.specs.Flight.{after}
use Rattle.flight.specs.Scheduling.{Among}
use Rattle.text.specs.declared.event.Event.{Event}
use Rattle.mission.specs.declared.aloft.Output.{Output}
use Rattle.frame.specs.Frame.{come_up}
use Rattle.mission.specs.Steps.{with_reading, with_frame, up_frame}

-- what was said of the instruments, and of the line, since the last tick
abbrev pub readings_of : List Event → List ℕ
readings_of [] = replicate 16 0
readings_of (Event.Read i v ∷ es) = with_reading i v (readings_of es)
readings_of (Event.Up n c ∷ es) = readings_of es
readings_of (Event.Frame f ∷ es) = readings_of es
readings_of (Event.Hit c w v ∷ es) = readings_of es
readings_of (Event.Tick ∷ es) = replicate 16 0

abbrev pub frame_of : List Event → Option (List ℕ)
frame_of [] = None
frame_of (Event.Read i v ∷ es) = frame_of es
frame_of (Event.Up n c ∷ es) = with_frame (up_frame n c) (frame_of es)
frame_of (Event.Frame f ∷ es) = Some f
frame_of (Event.Hit c w v ∷ es) = frame_of es
frame_of (Event.Tick ∷ es) = None

-- the history that the ticks are given
abbrev pub history : List Event → List Inputs
history [] = []
history (Event.Read i v ∷ es) = history es
history (Event.Up n c ∷ es) = history es
history (Event.Frame f ∷ es) = history es
history (Event.Hit c w v ∷ es) = history es
history (Event.Tick ∷ es) =
    record { readings = readings_of es; frame = come_up (frame_of es) } ∷ history es

-- the report of each tick
abbrev pub reports : List Event → List Output
reports [] = []
reports (Event.Read i v ∷ es) = reports es
reports (Event.Up n c ∷ es) = reports es
reports (Event.Frame f ∷ es) = reports es
reports (Event.Hit c w v ∷ es) = reports es
reports (Event.Tick ∷ es) =
    record { 0 = Ok (numbers_of (report_of (after (history (Event.Tick ∷ es))))) } ∷ reports es

-- a copy of a word that was hit
pub record Struck : Type 0 where
  pub copy : ℕ
  pub word : ℕ

-- what was hit since the last tick
abbrev pub hits : List Event → List Struck
hits [] = []
hits (Event.Read i v ∷ es) = hits es
hits (Event.Up n c ∷ es) = hits es
hits (Event.Frame f ∷ es) = hits es
hits (Event.Hit c w v ∷ es) =
    cond (nat_lt c 3 && nat_lt w word_count) (record { copy = c; word = w } ∷ hits es) (hits es)
hits (Event.Tick ∷ es) = []

-- between two ticks no word is hit in two of its copies
abbrev pub Tolerated : List Event → Type 0
Tolerated [] = Unit {0}
Tolerated (Event.Read i v ∷ es) = Tolerated es
Tolerated (Event.Up n c ∷ es) = Tolerated es
Tolerated (Event.Frame f ∷ es) = Tolerated es
Tolerated (Event.Hit c w v ∷ es) =
    Tolerated es × ((s : Struck) → Among s (hits es) → s.word ≡ w → s.copy ≡ c)
Tolerated (Event.Tick ∷ es) = Tolerated es
