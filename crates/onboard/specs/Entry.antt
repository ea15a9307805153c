-- What the entries answer and leave behind, over the numbers that they are lent.
use Rattle.std.specs.Prelude.{◌≡◌, ℕ, ◌<◌, cond, ◌||◌, ◌⊎◌, List, [], ◌∷◌, length, Some, None, Ok, Err, Option, Result, ◌==◌, option_map}
use Rattle.std.specs.Option.{option_or}
use Rattle.refusal.specs.declared.Lent.{Lent}
use Rattle.refusal.specs.declared.Refusal.{Refusal}
use Rattle.refusal.specs.Turned.{Turned, turned}
use Rattle.satellite.specs.State.{State, at_launch}
use Rattle.satellite.specs.Story.{Inputs, ticked}
use Rattle.satellite.specs.Fit.{most}
use Rattle.layout.specs.Map.{words_of, state_of}
use Rattle.layout.specs.Fault.{lowest_fault}
use Rattle.telemetry.specs.Reports.{report_of, numbers_of}
use Rattle.flight.specs.Flight.{keeper, after, Flew}
use Rattle.flight.specs.EveryFlight.{EveryFlight}

-- the first that has another length than it should have
abbrev pub wrong_length : (memory readings frame report : ℕ) → Option Lent
wrong_length memory readings frame report =
    cond (memory == keeper.size)
    (cond (readings == 16)
    (cond (frame == 0 || frame == 12)
    (cond (report == 8) None (Some Lent.Report))
    (Some Lent.Frame))
    (Some Lent.Readings))
    (Some Lent.Memory)

-- why a call is turned away, in the order of the numbers: 1, the first length that is wrong; 2, the
-- lowest word at fault of memory as it is read; none: it is done
unfoldable pub turned_away : (memory readings frame report : List ℕ) → Option Turned
turned_away m r f t =
    option_or
    (option_map (λ lent. turned (Refusal.Length lent))
    (wrong_length (length m) (length r) (length f) (length t)))
    (option_map (λ word. turned (Refusal.Unfit word)) (lowest_fault (keeper.read m)))

-- the number and the place that a call answers, none if it is done
abbrev pub answered : Result (Unit {0}) Refusal → Option Turned
answered (Ok u) = None
answered (Err e) = Some (turned e)

-- what a tick makes of the state that words say, and of the memory as it is read
abbrev pub tick_of_words : (words readings frame : List ℕ) → State
tick_of_words words readings frame =
    ticked (record { readings = readings; frame = frame }) (state_of words)

abbrev pub tick_of : (memory readings frame : List ℕ) → State
tick_of memory readings frame = tick_of_words (keeper.read memory) readings frame

-- what is left: if it is done, memory that was written with the words of the ticked state, and its
-- report; else both as they were
abbrev pub Leaves : Option Turned → (memory readings frame report memory₁ report₁ : List ℕ) → Type 0
Leaves None m r f t m₁ t₁ =
    (m₁ ≡ keeper.stored (words_of (tick_of m r f))) × (t₁ ≡ numbers_of (report_of (tick_of m r f)))
Leaves (Some x) m r f t m₁ t₁ = (m₁ ≡ m) × (t₁ ≡ t)

-- the answer, and what is left
abbrev pub Says : Result (Unit {0}) Refusal
    → (memory readings frame report memory₁ report₁ : List ℕ) → Type 0
Says d m r f t m₁ t₁ =
    (answered d ≡ turned_away m r f t) × Leaves (turned_away m r f t) m r f t m₁ t₁

-- whatever was lent, if it is done: what is read of the memory that is left, however it is upset
-- since, says the ticked state
abbrev pub KeepsState : Result (Unit {0}) Refusal → (memory readings frame memory₁ : List ℕ)
    → Type 0
KeepsState d m r f m₁ =
    d ≡ Ok tt → (found : List ℕ) → keeper.Upset m₁ found
    → state_of (keeper.read found) ≡ tick_of m r f

-- from every flight of fewer than 2^62 ticks, and every tolerated upset, that led to the lent
-- memory: the call ticks, its memory goes on with that flight, its report is the story's, and what
-- is promised of every flight holds of that flight and this tick
abbrev pub GoesOn : Result (Unit {0}) Refusal
    → (memory readings frame report memory₁ report₁ : List ℕ) → Type 0
GoesOn d m r f t m₁ t₁ =
    (is : List Inputs) (kept : List ℕ) → Flew is kept → keeper.Upset kept m → length is < most
    → length r ≡ 16 → (length f ≡ 0) ⊎ (length f ≡ 12) → length t ≡ 8
    → (d ≡ Ok tt) × Flew (record { readings = r; frame = f } ∷ is) m₁
    × (t₁ ≡ numbers_of (report_of (after (record { readings = r; frame = f } ∷ is))))
    × EveryFlight (record { readings = r; frame = f }) is m₁

-- at launch only the length of memory is looked at, and what is left begins a flight
abbrev pub no_launch : (memory : List ℕ) → Option Turned
no_launch m = cond (length m == keeper.size) None (Some (turned (Refusal.Length Lent.Memory)))

abbrev pub Launched : Option Turned → (memory memory₁ : List ℕ) → Type 0
Launched None m m₁ = (m₁ ≡ keeper.stored (words_of at_launch)) × Flew [] m₁
Launched (Some x) m m₁ = m₁ ≡ m

abbrev pub Launches : Result (Unit {0}) Refusal → (memory memory₁ : List ℕ) → Type 0
Launches d m m₁ = (answered d ≡ no_launch m) × Launched (no_launch m) m m₁
