-- Flights of the satellite.
use Rattle.std.specs.Prelude.{◌≡◌, ℕ, ◌<◌, ◌≤◌, ◌⊎◌, List, ◌∷◌, length, slice_index}
use Rattle.memory.specs.Keeper.{Keeper}
use Rattle.memory.specs.Kept as memory
use Rattle.satellite.specs.State.{State, at_launch}
use Rattle.satellite.specs.Story.{Inputs, at_reception}
use Rattle.satellite.specs.Story as satellite
use Rattle.satellite.specs.Fit.{most}
use Rattle.layout.specs.Map.{word_count, words_of, state_of, LeftFor}
use Rattle.layout.specs.Fault.{Faultless}
use Rattle.flight.specs.Machine.{Machine, story, Flown, Flies}

-- what a tick can be given: sixteen readings below 2^16, and a frame of twelve numbers or none
pub record Lawful (i : Inputs) : Type 0 where
  pub readings : length i.readings ≡ 16
  pub small : (k : ℕ) → slice_index i.readings k ≤ 65535
  pub frame : (length i.frame ≡ 0) ⊎ (length i.frame ≡ 12)

-- how its words are kept
abbrev pub keeper : Keeper (List ℕ)
keeper = memory.keeper word_count

abbrev pub machine : Machine
machine = record {
  State = State;
  Input = Inputs;
  Lawful = Lawful;
  first = at_launch;
  step = satellite.ticked;
  LeftFor = LeftFor;
  state = state_of;
}

-- the satellite after a history, the latest tick first
abbrev pub after : List Inputs → State
after = story machine

-- a flight that led to this memory, of any program whose ticks leave tidy words that say what the
-- tick makes of what it reads
abbrev pub Flew : List Inputs → List ℕ → Type 0
Flew = Flown keeper machine

-- whatever the readings, the frames and the upsets, what memory holds is the story's
abbrev pub FliesRight : Type 0
FliesRight = Flies keeper machine

-- what a flight of fewer than 2^62 ticks leaves is not refused, however it was upset
abbrev pub NeverRefused : Type 0
NeverRefused =
    (is : List Inputs) (kept found : List ℕ) → Flew is kept → keeper.Upset kept found
    → length is < most → Faultless (keeper.read found)

-- one more tick of a flight, from whatever its memory became, makes the story's state, and the
-- words of that, stored, go on with it
abbrev pub CarriesOn : Type 0
CarriesOn =
    (i : Inputs) (is : List Inputs) (kept found : List ℕ) → Flew is kept → keeper.Upset kept found
    → Lawful i
    → (satellite.ticked i (state_of (keeper.read found)) ≡ after (i ∷ is))
    × Flew (i ∷ is) (keeper.stored (words_of (after (i ∷ is))))
