-- What the ground says it knows is so, and every command comes through.
use Rattle.std.specs.Prelude.{◌≡◌, ℕ, suc, ◌*◌, ◌<◌, ◌≤◌, List, [], ◌∷◌, ◌++◌, reverse, length, take, Some}
use Rattle.frame.specs.declared.Command.{Command}
use Rattle.frame.specs.declared.Telecommand.{Telecommand}
use Rattle.frame.specs.File.{telecommand_of, Sendable}
use Rattle.satellite.specs.Story.{Inputs}
use Rattle.telemetry.specs.Reports.{report_of}
use Rattle.flight.specs.Flight.{after}
use Rattle.flight.specs.Commanding.{heard, obeyed_in}
use Rattle.station.specs.Line.{frame_for}

-- a flight over the ground's line: whatever is heard is a command of the file under its number,
-- however often, late and out of order
abbrev pub FromFile : List Command → List Inputs → Type 0
FromFile cs [] = Unit {0}
FromFile cs (i ∷ is) =
    ((t : Telecommand) → heard i is ≡ Some t
    → (t.number < length cs) × (t ≡ telecommand_of cs t.number)) × FromFile cs is

-- if the report of such a flight says that it expects n, then exactly the first n commands of the
-- file have been obeyed, in their order
abbrev pub SurelyObeyed : Type 0
SurelyObeyed =
    (cs : List Command) (is : List Inputs) (n : ℕ) → FromFile cs is
    → (report_of (after is)).expected ≡ n
    → (n ≤ length cs) × (reverse (obeyed_in is) ≡ take n cs)

-- the frame that the ground names for the latest report comes up in a tick
abbrev pub Names : List Command → Inputs → List Inputs → Type 0
Names cs i is = frame_for cs (report_of (after is)).expected ≡ Some i.frame

-- then that command is obeyed in that tick
abbrev pub ComesThrough : Type 0
ComesThrough =
    (cs : List Command) (i : Inputs) (is : List Inputs) → Sendable cs → Names cs i is
    → (obeyed_in (i ∷ is) ≡ (telecommand_of cs (after is).expected).command ∷ obeyed_in is) ×
    ((after (i ∷ is)).expected ≡ suc (after is).expected)

-- in some tick of a stretch the frame that the ground then names comes up
pub data Brings (cs : List Command) : (stretch early : List Inputs) → Type 0 where
  now : (i : Inputs) (is early : List Inputs) → Names cs i (is ++ early) → Brings cs (i ∷ is) early
  before : (i : Inputs) (is early : List Inputs) → Brings cs is early → Brings cs (i ∷ is) early

-- a line on which, while a command is expected, at least one of the frames sent in any d ticks
-- comes up
abbrev pub Delivers : ℕ → List Command → List Inputs → Type 0
Delivers d cs is =
    (late stretch early : List Inputs) → is ≡ late ++ (stretch ++ early) → length stretch ≡ d
    → (after early).expected < length cs → Brings cs stretch early

-- over such a line every command of a file of n is obeyed in at most d * n ticks
abbrev pub AllObeyed : Type 0
AllObeyed =
    (d : ℕ) (cs : List Command) (is : List Inputs) → Sendable cs → FromFile cs is
    → Delivers d cs is → length is ≡ d * length cs → reverse (obeyed_in is) ≡ cs
