-- Activities are done in their tick, or missed in safe mode, and nothing waits longer.
use Rattle.std.specs.Prelude.{◌≡◌, ℕ, suc, ◌+◌, ◌<◌, true, false, cond, ◌⊎◌, List, [], ◌∷◌, ◌++◌, length, ◌≢◌}
use Rattle.schedule.specs.declared.activity.Activity.{Activity}
use Rattle.schedule.specs.Waiting.{due}
use Rattle.frame.specs.declared.Command.{Command}
use Rattle.satellite.specs.State.{State, with_missed, with_parameters, with_schedule, parameter}
use Rattle.satellite.specs.Story.{Inputs, released, at_release, at_reception}
use Rattle.flight.specs.Machine.{AllLawful}
use Rattle.flight.specs.Flight.{machine, after}
use Rattle.flight.specs.Commanding.{Turn}

pub data Among {A : Type 0} (x : A) : List A → Type 0 where
  here : (xs : List A) → Among x (x ∷ xs)
  there : (y : A) (xs : List A) → Among x xs → Among x (y ∷ xs)

-- a list of activities parts into those for a time and the others, both in their order, each
-- activity in one of them
pub data Parts (now : ℕ) : (all due others : List Activity) → Type 0 where
  none : Parts now [] [] []
  one_due : (a : Activity) (all ds os : List Activity) → a.release ≡ now → Parts now all ds os
      → Parts now (a ∷ all) (a ∷ ds) os
  one_other : (a : Activity) (all ds os : List Activity) → (a.release ≢ now) → Parts now all ds os
      → Parts now (a ∷ all) ds (a ∷ os)

-- in each tick the schedule parts: those whose time it is are gone, the others wait on, as a list
-- and in their order
abbrev pub PartsInTick : Type 0
PartsInTick =
    (i : Inputs) (is : List Inputs)
    → Parts (suc (after is).time) (after is).schedule
    (due (suc (after is).time) (after is).schedule) (at_reception i (after is)).schedule

-- what becomes in a tick of an activity that waits
pub record EachActivity : Type 0 where
  -- it stays until its time is come, unless all is forgotten
  pub stays : (i : Inputs) (is : List Inputs) (a : Activity) → Among a (after is).schedule
      → (Turn i is Command.Forget → ⊥)
      → (a.release ≡ (after (i ∷ is)).time) ⊎ Among a (after (i ∷ is)).schedule
  -- once its time is come it is gone
  pub gone : (i : Inputs) (is : List Inputs) (a : Activity) → AllLawful machine (i ∷ is)
      → a.release ≡ (after (i ∷ is)).time → Among a (after (i ∷ is)).schedule → ⊥
  -- none comes to wait but one that is added
  pub only : (i : Inputs) (is : List Inputs) (a : Activity) → Among a (after (i ∷ is)).schedule
      → Among a (after is).schedule ⊎ Turn i is (Command.Later a)

-- none is kept past its time
abbrev pub NeverLate : Type 0
NeverLate =
    (is : List Inputs) (a : Activity) → AllLawful machine is → Among a (after is).schedule
    → (after is).time < a.release

-- what waits on after the release stays through the command, unless that is forget; a later that
-- is done adds one behind; no other command touches it
abbrev pub KeptTillDue : Type 0
KeptTillDue =
    (i : Inputs) (is : List Inputs) → (Turn i is Command.Forget → ⊥)
    → ((after (i ∷ is)).schedule ≡ (at_reception i (after is)).schedule)
    ⊎ ((a : Activity) × Turn i is (Command.Later a)
    × ((after (i ∷ is)).schedule ≡ (at_reception i (after is)).schedule ++ (a ∷ [])))

-- an activity that waits, and none behind it for the same place at the same time
pub record LastForPlace (a : Activity) (all : List Activity) : Type 0 where
  pub front : List Activity
  pub back : List Activity
  pub stands : all ≡ front ++ (a ∷ back)
  pub last : (b : Activity) → Among b back → b.release ≡ a.release → b.place ≢ a.place

-- of those that wait for one place and one time there is always a last
abbrev pub OneIsLast : Type 0
OneIsLast =
    (a : Activity) (all : List Activity) → Among a all
    → (l : Activity) × LastForPlace l all × (l.release ≡ a.release) × (l.place ≡ a.place)

-- in its tick the last activity for its place is what stands there, outside safe mode
abbrev pub PutWhenDue : Type 0
PutWhenDue =
    (i : Inputs) (is : List Inputs) (a : Activity) → AllLawful machine (i ∷ is)
    → (at_release i (after is)).safe_mode ≡ false → LastForPlace a (after is).schedule
    → a.release ≡ suc (after is).time → parameter (at_reception i (after is)) a.place ≡ a.number

-- no activity for a place is due in the next tick
abbrev pub NoneDue : ℕ → List Inputs → Type 0
NoneDue p is =
    (a : Activity) → Among a (after is).schedule → a.release ≡ suc (after is).time → a.place ≢ p

-- such a place keeps what the rules left there
abbrev pub ElseKept : Type 0
ElseKept =
    (i : Inputs) (is : List Inputs) (p : ℕ) → NoneDue p is
    → parameter (at_reception i (after is)) p ≡ parameter (at_release i (after is)) p

-- in safe mode no parameter changes by an activity, and each that is due is counted as missed
abbrev pub MissedInSafeMode : Type 0
MissedInSafeMode =
    (i : Inputs) (is : List Inputs) → (at_release i (after is)).safe_mode ≡ true
    → ((at_reception i (after is)).parameters ≡ (at_release i (after is)).parameters)
    × ((at_reception i (after is)).missed
    ≡ (after is).missed + length (due (suc (after is).time) (after is).schedule))

-- the release of activities, of whatever state
pub record ReleasesRight : Type 0 where
  -- in safe mode nothing is put, and each that is due is counted as missed
  pub unput : (s : State) → s.safe_mode ≡ true → (released s).parameters ≡ s.parameters
  pub missed : (s : State) → s.safe_mode ≡ true
      → (released s).missed ≡ s.missed + length (due s.time s.schedule)
  -- outside it none is missed, and the last one due for its place has put its number
  pub unmissed : (s : State) → s.safe_mode ≡ false → (released s).missed ≡ s.missed
  pub put : (s : State) (a : Activity) → s.safe_mode ≡ false → LastForPlace a s.schedule
      → a.release ≡ s.time → a.place < length s.parameters
      → parameter (released s) a.place ≡ a.number
  -- a place for which none is due keeps what it held
  pub else_kept : (s : State) (p : ℕ)
      → ((a : Activity) → Among a s.schedule → a.release ≡ s.time → a.place ≢ p)
      → parameter (released s) p ≡ parameter s p
  -- those that are due are gone, the others wait on, and nothing else changes
  pub waits : (s : State) → Parts s.time s.schedule (due s.time s.schedule) (released s).schedule
  pub others : (s : State) → released s ≡
      with_schedule (released s).schedule (with_parameters (released s).parameters
      (with_missed (released s).missed s))

-- over the whole flight missed counts just these
abbrev pub misses : List Inputs → ℕ
misses [] = 0
misses (i ∷ is) =
    misses is
    + cond (at_release i (after is)).safe_mode
    (length (due (suc (after is).time) (after is).schedule)) 0

abbrev pub MissedRight : Type 0
MissedRight = (is : List Inputs) → (after is).missed ≡ misses is
