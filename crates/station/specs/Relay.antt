-- The ground sends in each tick the frame that it names; the line lets it through or loses it.
use Rattle.std.specs.Prelude.{◌≡◌, ℕ, ◌*◌, ◌≤◌, Bool, true, false, cond, ◌||◌, List, [], ◌∷◌, ◌++◌, reverse, length, replicate, Some, None, Option}
use Rattle.frame.specs.declared.Command.{Command}
use Rattle.frame.specs.File.{Sendable}
use Rattle.satellite.specs.Story.{Inputs}
use Rattle.telemetry.specs.Reports.{report_of}
use Rattle.flight.specs.Commanding.{obeyed_in}
use Rattle.flight.specs.Flight.{machine, after}
use Rattle.flight.specs.Machine.{AllLawful}
use Rattle.frame.specs.Frame.{come_up}
use Rattle.station.specs.Line.{frame_for}
use Rattle.station.specs.Passes.{FromFile, Delivers}

-- a tick: its instruments read 0, and the frame that the ground names comes up if the line is up
abbrev pub relayed : Bool → List Command → List Inputs → Inputs
relayed up cs is = record {
  readings = replicate 16 0;
  frame = cond up (come_up (frame_for cs (report_of (after is)).expected)) [];
}

-- the flight over a line that is up or down in each tick, the latest tick first
abbrev pub sent_over : List Command → List Bool → List Inputs
sent_over cs [] = []
sent_over cs (up ∷ line) = relayed up cs (sent_over cs line) ∷ sent_over cs line

-- whether the line is up in some tick
abbrev pub some_up : List Bool → Bool
some_up [] = false
some_up (up ∷ line) = up || some_up line

-- it is up in one at least of any d ticks
abbrev pub UpIn : ℕ → List Bool → Type 0
UpIn d line =
    (late stretch early : List Bool) → line ≡ late ++ (stretch ++ early) → length stretch ≡ d
    → some_up stretch ≡ true

-- what a tick can be given; nothing but commands of the file; and delivered
pub record Delivered (d : ℕ) (cs : List Command) (is : List Inputs) : Type 0 where
  pub lawful : AllLawful machine is
  pub from_file : FromFile cs is
  pub delivers : Delivers d cs is

-- such is the flight over each such line
abbrev pub DeliveredOver : Type 0
DeliveredOver =
    (d : ℕ) (cs : List Command) (line : List Bool) → Sendable cs → UpIn d line
    → Delivered d cs (sent_over cs line)

-- so each file whose commands can be sent has a flight that is, and that obeys it all
abbrev pub CanDeliver : Type 0
CanDeliver =
    (d : ℕ) (cs : List Command) → 1 ≤ d → Sendable cs
    → (is : List Inputs) × Delivered d cs is × (length is ≡ d * length cs) ×
    (reverse (obeyed_in is) ≡ cs)
