-- An activity as three numbers.
use Rattle.std.specs.Prelude.{ℕ, List, [], ◌∷◌, slice_index}
use Rattle.schedule.specs.declared.activity.Activity.{Activity}

abbrev pub activity_numbers : Activity → List ℕ
activity_numbers a = a.release ∷ (a.place ∷ (a.number ∷ []))

-- the activity that a row of numbers says, wherever they stand
abbrev pub activity_from : (ℕ → ℕ) → Activity
activity_from at = record { release = at 0; place = at 1; number = at 2 }

abbrev pub activity_in : List ℕ → Activity
activity_in xs = activity_from (λ j. slice_index xs j)
