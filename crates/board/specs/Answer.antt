-- The one number that a call answers, and what it says of the memory and the report.
use Rattle.std.specs.Prelude.{◌≡◌, ℕ, ◌+◌, ◌*◌, List, Some, None, Option, Result}
use Rattle.refusal.specs.declared.Refusal.{Refusal}
use Rattle.refusal.specs.Turned.{Turned}
use Rattle.onboard.specs.Entry.{answered, Says, KeepsState, GoesOn, Launches}

-- 0 says that it is done; else the number of the refusal times 2^32, and its place
abbrev pub answer_of : Option Turned → ℕ
answer_of None = 0
answer_of (Some t) = t.number * 4294967296 + t.place

-- the answer is that of some result of which the entry's contract holds
abbrev pub AnswersTick : ℕ → (memory readings frame report memory₁ report₁ : List ℕ) → Type 0
AnswersTick n m r f t m₁ t₁ =
    (d : Result (Unit {0}) Refusal)
    × ((n ≡ answer_of (answered d)) × Says d m r f t m₁ t₁ × KeepsState d m r f m₁
    × GoesOn d m r f t m₁ t₁)

abbrev pub AnswersLaunch : ℕ → (memory memory₁ : List ℕ) → Type 0
AnswersLaunch n m m₁ =
    (d : Result (Unit {0}) Refusal) × ((n ≡ answer_of (answered d)) × Launches d m m₁)
