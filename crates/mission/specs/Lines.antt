-- What is told of a flight: a line for each tick.
use Rattle.std.specs.Prelude.{ℕ, List, [], ◌∷◌, ◌++◌, take, drop, decimal, slice_index, Ok, Err, Result}
use Rattle.text.specs.Render.{listed}
use Rattle.refusal.specs.declared.Refusal.{Refusal}
use Rattle.refusal.specs.Turned.{turned, turned_text}
use Rattle.mission.specs.declared.aloft.Output.{Output}

-- the eight numbers of a report with a space between, or the number of a refusal and its place
abbrev pub line : Result (List ℕ) Refusal → List ℕ
line (Ok ns) = decimal (slice_index ns 0) ++ listed (take 7 (drop 1 ns))
line (Err r) = turned_text (turned r)

abbrev pub line_of : Output → List ℕ
line_of o = line o.0

-- each with the end of its line
abbrev pub told : List Output → List ℕ
told [] = []
told (o ∷ os) = line_of o ++ (10 ∷ told os)
