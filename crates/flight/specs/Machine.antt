-- A machine that keeps its state in a memory that radiation changes: what a flight of it is,
-- whatever the machine and however words are kept.
use Rattle.std.specs.Prelude.{◌≡◌, ℕ, List, [], ◌∷◌}
use Rattle.memory.specs.Keeper.{Keeper, Mends}

pub record Machine : Type 1 where
  pub State : Type 0
  pub Input : Type 0
  -- what a tick can be given
  pub Lawful : Input → Type 0
  pub first : State
  pub step : Input → State → State
  -- words that a program may leave for a state, and the state that words say
  pub LeftFor : List ℕ → State → Type 0
  pub state : List ℕ → State

-- the story: its state after a history of inputs, the latest first, as if there were no radiation
abbrev pub story : (M : Machine) → List M.Input → M.State
story M [] = M.first
story M (i ∷ is) = M.step i (story M is)

pub data AllLawful (M : Machine) : List M.Input → Type 0 where
  none : AllLawful M []
  more : (i : M.Input) (is : List M.Input) → M.Lawful i → AllLawful M is → AllLawful M (i ∷ is)

-- what may be left for a state is read as that state
abbrev pub Returns : Machine → Type 0
Returns M = (words : List ℕ) (s : M.State) → M.LeftFor words s → M.state words ≡ s

-- a flight, of any program: at launch memory holds words for the first state; then, between two
-- ticks, it is upset, and each tick leaves words for what it makes of what it reads
pub data Flown {Memory : Type 0} (K : Keeper Memory) (M : Machine)
    : List M.Input → Memory → Type 0 where
  launched : (words : List ℕ) (left : Memory) → M.LeftFor words M.first → K.Holds left words
      → Flown K M [] left
  ticked : (i : M.Input) (is : List M.Input) (kept found : Memory) (words : List ℕ)
      (left : Memory) → Flown K M is kept → K.Upset kept found → M.Lawful i
      → M.LeftFor words (M.step i (M.state (K.read found))) → K.Holds left words
      → Flown K M (i ∷ is) left

-- memory holds words for a state
pub record Left {Memory : Type 0} (K : Keeper Memory) (M : Machine) (left : Memory)
    (s : M.State) : Type 0 where
  pub words : List ℕ
  pub left_for : M.LeftFor words s
  pub holds : K.Holds left words

-- whatever the inputs and the upsets: what is read is the story's, and so is what was left
pub record Flies {Memory : Type 0} (K : Keeper Memory) (M : Machine) : Type 0 where
  pub reads :
      (is : List M.Input) (kept found : Memory) → Flown K M is kept → K.Upset kept found
      → M.state (K.read found) ≡ story M is
  pub holds : (is : List M.Input) (kept : Memory) → Flown K M is kept → Left K M kept (story M is)

-- this holds of every keeper that mends, whatever its memory is, and every machine that reads back
-- what may be left
abbrev pub AlwaysFlies : Type 1
AlwaysFlies =
    (Memory : Type 0) (K : Keeper Memory) (M : Machine) → Mends K → Returns M → Flies K M
