-- Activities that wait for their time, in the order in which they came.
use Rattle.std.specs.Prelude.{◌≡◌, ℕ, ◌<◌, Bool, true, false, cond, List, [], ◌∷◌, length, get_or, ◌==◌, slice_set}
use Rattle.std.specs.List.{filter}
use Rattle.schedule.specs.declared.activity.Activity.{Activity}
use Rattle.schedule.specs.declared.activity.Fate.{Fate}
use Rattle.schedule.specs.declared.schedule.Schedule.{Schedule}

-- the activity that stands where there is none
abbrev pub no_activity : Activity
no_activity = record { release = 0; place = 0; number = 0 }

-- the activities that wait in a schedule of the code
abbrev pub waiting : Schedule → List Activity
waiting s = s.activities.items

-- those whose time it is, and those that wait on, both in their order
abbrev pub due : ℕ → List Activity → List Activity
due now [] = []
due now (a ∷ xs) = cond (a.release == now) (a ∷ due now xs) (due now xs)

abbrev pub still_waiting : ℕ → List Activity → List Activity
still_waiting now [] = []
still_waiting now (a ∷ xs) =
    cond (a.release == now) (still_waiting now xs) (a ∷ still_waiting now xs)

-- what becomes of an activity in a tick, in safe mode or not
abbrev pub fate_of : Activity → ℕ → Bool → Fate
fate_of a now safe = cond (a.release == now) (cond safe Fate.Missed Fate.Done) Fate.Waits

-- those of a fate, in their order
abbrev pub is_waiting : Fate → Bool
is_waiting Fate.Waits = true
is_waiting Fate.Missed = false
is_waiting Fate.Done = false

abbrev pub is_missed : Fate → Bool
is_missed Fate.Waits = false
is_missed Fate.Missed = true
is_missed Fate.Done = false

abbrev pub is_done : Fate → Bool
is_done Fate.Waits = false
is_done Fate.Missed = false
is_done Fate.Done = true

abbrev pub fated : (Fate → Bool) → (Activity → Fate) → List Activity → List Activity
fated p f xs = filter (λ a. p (f a)) xs

-- all of them wait on, or it is the time of one of them
abbrev pub AllWait : (Activity → Fate) → List Activity → Type 0
AllWait f xs =
    (fated is_waiting f xs ≡ xs) × (fated is_missed f xs ≡ []) × (fated is_done f xs ≡ [])

abbrev pub NothingDue : ℕ → List Activity → Type 0
NothingDue now xs = (safe : Bool) → AllWait (λ a. fate_of a now safe) xs

abbrev pub SomeDue : ℕ → List Activity → Type 0
SomeDue now xs = (k : ℕ) × ((k < length xs) × ((get_or xs k no_activity).release ≡ now))

-- each puts its number at its place, one after the other
abbrev pub put_all : List Activity → List ℕ → List ℕ
put_all [] values = values
put_all (a ∷ xs) values = put_all xs (slice_set values a.place a.number)

-- every activity is for a place that there is
abbrev pub Placed : List Activity → Type 0
Placed xs = (k : ℕ) → k < length xs → (get_or xs k no_activity).place < 64
