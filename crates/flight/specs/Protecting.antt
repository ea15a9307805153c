-- Fault protection: rules count what they should, act in the tick in which they should, and do
-- nothing else.
use Rattle.std.specs.Prelude.{◌≡◌, ℕ, suc, ◌<◌, ◌≤◌, true, false, cond, ◌⊎◌, List, [], ◌∷◌, ◌++◌, ◌≢◌, slice_index}
use Rattle.rules.specs.declared.rule.Rule.{Rule}
use Rattle.rules.specs.Watching.{is_past}
use Rattle.frame.specs.declared.Command.{Command}
use Rattle.satellite.specs.State.{State, parameter, rule, count}
use Rattle.satellite.specs.Story.{Inputs, begun, looked, counted, acted, watched_one, watched, at_release, at_reception}
use Rattle.flight.specs.Machine.{AllLawful}
use Rattle.flight.specs.Flight.{machine, after}
use Rattle.flight.specs.Commanding.{Turn}
use Rattle.flight.specs.Effects.{PutPlace}

-- past its limit, in words: upward from the limit on, downward down from it
pub record PastRight : Type 0 where
  pub upward : (r : Rule) (v : ℕ) → r.upward ≡ true → r.limit ≤ v → is_past r v ≡ true
  pub upward_not : (r : Rule) (v : ℕ) → r.upward ≡ true → v < r.limit → is_past r v ≡ false
  pub downward : (r : Rule) (v : ℕ) → r.upward ≡ false → v ≤ r.limit → is_past r v ≡ true
  pub downward_not : (r : Rule) (v : ℕ) → r.upward ≡ false → r.limit < v → is_past r v ≡ false
  pub at_limit : (r : Rule) → is_past r r.limit ≡ true

-- the state in which rule k is looked at in a tick, each after what the rules before it did (at 16
-- all were looked at), and the value that it then sees
abbrev pub at_look : ℕ → Inputs → List Inputs → State
at_look k i is = watched k (begun i.readings (after is))

abbrev pub seen : ℕ → Inputs → List Inputs → ℕ
seen k i is = parameter (at_look k i is) (rule (after is) k).watches

-- rule k is not set anew in the later ticks
abbrev pub Unset : ℕ → (late early : List Inputs) → Type 0
Unset k [] early = Unit {0}
Unset k (i ∷ late) early =
    ((r : Rule) → Turn i (late ++ early) (Command.SetRule k r) → ⊥) × Unset k late early

-- for how many of the latest ticks what the rule saw was past
abbrev pub past_for : ℕ → Rule → (late early : List Inputs) → ℕ
past_for k r [] early = 0
past_for k r (i ∷ late) early =
    cond (is_past r (seen k i (late ++ early))) (suc (past_for k r late early)) 0

-- the count of a rule, since it was set
abbrev pub CountsRight : Type 0
CountsRight =
    (k : ℕ) (r : Rule) (late early : List Inputs) → AllLawful machine (late ++ early) → k < 16
    → rule (after early) k ≡ r → count (after early) k ≡ 0
    → Unset k late early → count (after (late ++ early)) k ≡ past_for k r late early

-- of an instrument, that is what it read
abbrev pub read_past_for : Rule → List Inputs → ℕ
read_past_for r [] = 0
read_past_for r (i ∷ late) =
    cond (is_past r (slice_index i.readings r.watches)) (suc (read_past_for r late)) 0

abbrev pub InstrumentsRight : Type 0
InstrumentsRight =
    (k : ℕ) (r : Rule) (late early : List Inputs) → AllLawful machine (late ++ early) → k < 16
    → r.watches < 16 → rule (after early) k ≡ r → count (after early) k ≡ 0
    → Unset k late early → count (after (late ++ early)) k ≡ read_past_for r late

-- a rule that is set begins from 0
abbrev pub BeginsAnew : Type 0
BeginsAnew =
    (i : Inputs) (is : List Inputs) (k : ℕ) (r : Rule) → AllLawful machine (i ∷ is)
    → Turn i is (Command.SetRule k r) → k < 16 → r.watches ≤ 63
    → (r.safes ≡ true) ⊎ PutPlace r.place
    → (rule (after (i ∷ is)) k ≡ r) × (count (after (i ∷ is)) k ≡ 0)

-- rule k acts in a tick: it is on, and its count has just become what it needs
pub record Acting (k : ℕ) (i : Inputs) (is : List Inputs) : Type 0 where
  pub below : k < 16
  pub on : 1 ≤ (rule (after is) k).needs
  pub just : count (at_release i (after is)) k ≡ (rule (after is) k).needs

-- looked at, a rule acts just when its count becomes what it needs; else nothing but its count
-- changes
pub record ActsJustThen : Type 0 where
  pub acts : (k : ℕ) (s : State) → 1 ≤ (rule s k).needs → looked k s ≡ (rule s k).needs
      → watched_one k s ≡ acted (rule s k) (counted k s)
  pub idle : (k : ℕ) (s : State) → (1 ≤ (rule s k).needs → looked k s ≢ (rule s k).needs)
      → watched_one k s ≡ counted k s

-- safe mode from before a tick, or by a rule that puts to it and acts in that tick
abbrev pub InSafeMode : Inputs → List Inputs → Type 0
InSafeMode i is =
    ((after is).safe_mode ≡ true) ⊎ ((k : ℕ) × Acting k i is × ((rule (after is) k).safes ≡ true))

-- safe mode at the release of activities: just if it was in safe mode before, or a rule that puts
-- to it acts in this tick
pub record SafeByRules : Type 0 where
  pub from : (i : Inputs) (is : List Inputs) → AllLawful machine is
      → (at_release i (after is)).safe_mode ≡ true → InSafeMode i is
  pub stays : (i : Inputs) (is : List Inputs) → (after is).safe_mode ≡ true
      → (at_release i (after is)).safe_mode ≡ true
  pub by : (i : Inputs) (is : List Inputs) (k : ℕ) → AllLawful machine is → Acting k i is
      → (rule (after is) k).safes ≡ true → (at_release i (after is)).safe_mode ≡ true

-- rule k acts in a tick and puts at a place
pub record Putting (k p : ℕ) (i : Inputs) (is : List Inputs) : Type 0 where
  pub acting : Acting k i is
  pub puts : (rule (after is) k).safes ≡ false
  pub there : (rule (after is) k).place ≡ p

-- at each look the last rule before it that acts for a place has put its number there
abbrev pub RulesPut : Type 0
RulesPut =
    (i : Inputs) (is : List Inputs) (k j p : ℕ) → AllLawful machine (i ∷ is) → k ≤ 16 → j < k
    → Putting j p i is → ((l : ℕ) → j < l → l < k → Putting l p i is → ⊥)
    → parameter (at_look k i is) p ≡ (rule (after is) j).number

-- a place that is no instrument's, and for which no rule before that look acts, holds what the
-- tick before left there
abbrev pub ElseUntouched : Type 0
ElseUntouched =
    (i : Inputs) (is : List Inputs) (k p : ℕ) → AllLawful machine (i ∷ is) → k ≤ 16 → 16 ≤ p
    → ((j : ℕ) → j < k → Putting j p i is → ⊥)
    → parameter (at_look k i is) p ≡ parameter (after is) p

-- at each look the instruments' places hold what was read, and after the last one activities are
-- released
pub record LooksRight : Type 0 where
  pub reads : (i : Inputs) (is : List Inputs) (k p : ℕ) → AllLawful machine (i ∷ is) → k ≤ 16
      → p < 16 → parameter (at_look k i is) p ≡ slice_index i.readings p
  pub release : (i : Inputs) (is : List Inputs) → at_release i (after is) ≡ at_look 16 i is

-- safe mode lasts: the release of activities leaves it as it is, and after that nothing but a
-- command to sleep or to wake changes it
pub record SafeLasts : Type 0 where
  pub in_release : (i : Inputs) (s : State)
      → (at_reception i s).safe_mode ≡ (at_release i s).safe_mode
  pub stays : (i : Inputs) (is : List Inputs) → (Turn i is Command.Wake → ⊥)
      → (at_release i (after is)).safe_mode ≡ true → (after (i ∷ is)).safe_mode ≡ true
  pub awake : (i : Inputs) (is : List Inputs) → (Turn i is Command.Sleep → ⊥)
      → (at_release i (after is)).safe_mode ≡ false → (after (i ∷ is)).safe_mode ≡ false
