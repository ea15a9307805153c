-- Where the words of memory lie. Each part begins where the one before it ends, and is named here,
-- once for definitions and proofs; src/map.rt computes the same for the code, and the proofs
-- compare both. Which number of an activity or of a rule stands where in its own words, schedule
-- and rules say (their Numbers.antt).
--
--   0           time
--   1           expected
--   2           1 in safe mode, else 0
--   3           rejected
--   4           missed
--   5 to 68     the 64 parameters
--   69          how many activities wait
--   70 to 165   32 activities of three words: release, place, number; 0 where none waits
--   166 to 277  16 rules of seven words: watches, limit, 1 for upward, needs, 1 for safe mode, place, number
--   278 to 293  the 16 counts of the rules
use Rattle.std.specs.Prelude.{◌≡◌, ℕ, ◌+◌, ◌-◌, ◌*◌, ◌<◌, ◌≤◌, List, [], ◌∷◌, ◌++◌, map, length, take, drop, replicate, ◌==◌, slice_index}
use Rattle.std.specs.List.{range_with_len, flat_map}
use Rattle.schedule.specs.declared.activity.Activity.{Activity}
use Rattle.rules.specs.declared.rule.Rule.{Rule}
use Rattle.rules.specs.declared.rule.Monitor.{Monitor}
use Rattle.schedule.specs.Numbers.{activity_numbers, activity_from}
use Rattle.rules.specs.Numbers.{bit, rule_numbers, rule_from}
use Rattle.satellite.specs.State.{State}

-- how many words an activity and a rule take, and where each part begins: after the one before it
abbrev pub activity_size : ℕ
activity_size = 3

abbrev pub rule_size : ℕ
rule_size = 7

abbrev pub time_at : ℕ
time_at = 0

abbrev pub expected_at : ℕ
expected_at = time_at + 1

abbrev pub safe_mode_at : ℕ
safe_mode_at = expected_at + 1

abbrev pub rejected_at : ℕ
rejected_at = safe_mode_at + 1

abbrev pub missed_at : ℕ
missed_at = rejected_at + 1

abbrev pub parameters_at : ℕ
parameters_at = missed_at + 1

abbrev pub waiting_at : ℕ
waiting_at = parameters_at + 64

abbrev pub activities_at : ℕ
activities_at = waiting_at + 1

abbrev pub activities_room : ℕ
activities_room = activity_size * 32

abbrev pub rules_at : ℕ
rules_at = activities_at + activities_room

abbrev pub rules_room : ℕ
rules_room = rule_size * 16

abbrev pub counts_at : ℕ
counts_at = rules_at + rules_room

abbrev pub word_count : ℕ
word_count = counts_at + 16

abbrev pub head_words : State → List ℕ
head_words s = s.time ∷ (s.expected ∷ (bit s.safe_mode ∷ (s.rejected ∷ (s.missed ∷ []))))

abbrev pub activity_words : Activity → List ℕ
activity_words a = activity_numbers a

abbrev pub rule_words : Rule → List ℕ
rule_words r = rule_numbers r

-- activities one after the other, and noughts for those that could still come
abbrev pub schedule_words : List Activity → List ℕ
schedule_words xs =
    flat_map activity_words xs ++ replicate (activities_room - activity_size * length xs) 0

-- the parts of memory, one after the other, and how long each is
abbrev pub parts : State → List (List ℕ)
parts s =
    head_words s ∷ s.parameters ∷ (length s.schedule ∷ []) ∷ schedule_words s.schedule
    ∷ flat_map rule_words s.rules ∷ s.counts ∷ []

abbrev pub sizes : List ℕ
sizes = parameters_at ∷ 64 ∷ 1 ∷ activities_room ∷ rules_room ∷ 16 ∷ []

abbrev pub joined : List (List ℕ) → List ℕ
joined [] = []
joined (p ∷ ps) = p ++ joined ps

unfoldable pub words_of : State → List ℕ
words_of s = joined (parts s)

-- an activity, a rule, and what the words say of all of them
abbrev pub activity_at : List ℕ → ℕ → Activity
activity_at ws k = activity_from (λ j. slice_index ws (activities_at + j + activity_size * k))

abbrev pub rule_at : List ℕ → ℕ → Rule
rule_at ws k = rule_from (λ j. slice_index ws (rules_at + j + rule_size * k))

-- which of its own words says what: of an activity its place; of a rule what it watches, its marks
-- and what it needs, and its place (the orders of `activity_numbers` and `rule_numbers`)
abbrev pub release_word : ℕ
release_word = 0

abbrev pub place_word : ℕ
place_word = 1

abbrev pub watches_word : ℕ
watches_word = 0

abbrev pub upward_word : ℕ
upward_word = 2

abbrev pub needs_word : ℕ
needs_word = 3

abbrev pub safes_word : ℕ
safes_word = 4

abbrev pub rule_place_word : ℕ
rule_place_word = 5

-- a rule beside its count
abbrev pub monitor_at : List ℕ → ℕ → Monitor
monitor_at ws k = record { rule = rule_at ws k; count = slice_index ws (counts_at + k) }

unfoldable pub schedule_in : List ℕ → List Activity
schedule_in ws = map (activity_at ws) (range_with_len 0 (slice_index ws waiting_at))

unfoldable pub rules_in : List ℕ → List Rule
rules_in ws = map (rule_at ws) (range_with_len 0 16)

unfoldable pub state_of : List ℕ → State
state_of ws = record {
  time = slice_index ws time_at;
  expected = slice_index ws expected_at;
  safe_mode = (slice_index ws safe_mode_at == 1);
  rejected = slice_index ws rejected_at;
  missed = slice_index ws missed_at;
  parameters = take 64 (drop parameters_at ws);
  schedule = schedule_in ws;
  rules = rules_in ws;
  counts = take 16 (drop counts_at ws);
}

-- the lists of a state have their room in memory
pub record Sized (s : State) : Type 0 where
  pub parameters : length s.parameters ≡ 64
  pub schedule : length s.schedule ≤ 32
  pub rules : length s.rules ≡ 16
  pub counts : length s.counts ≡ 16

-- the law of the map: what was written is what is read
abbrev pub ReadsBack : Type 0
ReadsBack = (s : State) → Sized s → (length (words_of s) ≡ word_count) × (state_of (words_of s) ≡ s)

-- words of which nothing is read, or whether they are 1, hold 0 or 1: what no activity has, and the
-- marks of safe mode and of rules
pub record Tidy (ws : List ℕ) : Type 0 where
  pub safe_mode : slice_index ws safe_mode_at ≤ 1
  pub upward : (i : ℕ) → i < 16 → slice_index ws (rules_at + upward_word + rule_size * i) ≤ 1
  pub safes : (i : ℕ) → i < 16 → slice_index ws (rules_at + safes_word + rule_size * i) ≤ 1
  pub beyond :
      (j : ℕ) → activity_size * slice_index ws waiting_at ≤ j → j < activities_room
      → slice_index ws (activities_at + j) ≤ 1

-- words that a program may leave for a state: they say it, and they are tidy
pub record LeftFor (ws : List ℕ) (s : State) : Type 0 where
  pub says : state_of ws ≡ s
  pub tidy : Tidy ws
