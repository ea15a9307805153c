-- Words that no lawful flight of fewer than 2^62 ticks leaves.
use Rattle.std.specs.Prelude.{◌≡◌, ℕ, ◌+◌, ◌-◌, ◌*◌, ◌/◌, ◌%◌, ◌<◌, ◌≤◌, Bool, true, false, cond, not, ◌&&◌, ◌⊎◌, List, Some, None, Option, ◌==◌, nat_le, nat_lt, slice_index, slice_index_or}
use Rattle.std.specs.List.{find, range_with_len}
use Rattle.parameters.specs.Places.{may_put}
use Rattle.satellite.specs.Fit.{most}
use Rattle.satellite.specs.State.{State}
use Rattle.layout.specs.Map.{Sized, LeftFor, words_of, time_at, word_count, activity_size, rule_size, waiting_at, activities_at, rules_at, counts_at, release_word, place_word, watches_word, needs_word, safes_word, rule_place_word}

-- of an activity that waits: its time is not after now, or its place may not be put
abbrev pub activity_fault : List ℕ → ℕ → Bool
activity_fault ws k =
    nat_lt ((k - activities_at) / activity_size) (slice_index ws waiting_at)
    && cond ((k - activities_at) % activity_size == release_word)
    (nat_le (slice_index ws k) (slice_index ws time_at))
    ((k - activities_at) % activity_size == place_word && not (may_put (slice_index ws k)))

-- of a rule: it watches no parameter, or it is on and puts where it may not
abbrev pub rule_fault : List ℕ → ℕ → Bool
rule_fault ws k =
    cond ((k - rules_at) % rule_size == watches_word) (nat_le 64 (slice_index ws k))
    ((k - rules_at) % rule_size == rule_place_word
    && (nat_le 1 (slice_index ws (k - (rule_place_word - needs_word)))
    && (not (slice_index ws (k - (rule_place_word - safes_word)) == 1) && not (may_put (slice_index ws k)))))

-- word k is at fault
abbrev pub at_fault : List ℕ → ℕ → Bool
at_fault ws k =
    cond (nat_lt most (slice_index ws k)) true
    (cond (k == waiting_at) (nat_lt 32 (slice_index ws waiting_at))
    (cond (nat_lt k activities_at) false
    (cond (nat_lt k rules_at) (activity_fault ws k)
    (cond (nat_lt k counts_at) (rule_fault ws k) false))))

abbrev pub Faultless : List ℕ → Type 0
Faultless ws = (k : ℕ) → k < word_count → at_fault ws k ≡ false

-- the lowest word at fault, if there is one
abbrev pub Lowest : List ℕ → Option ℕ → Type 0
Lowest ws None = Faultless ws
Lowest ws (Some k) =
    (k < word_count) × (at_fault ws k ≡ true) × ((j : ℕ) → j < k → at_fault ws j ≡ false)

-- and which it is
unfoldable pub lowest_fault : List ℕ → Option ℕ
lowest_fault ws = find (at_fault ws) (range_with_len 0 word_count)

-- the same in the words of the map: no word is past 2^62, at most 32 activities wait, each for a
-- time after now and a place that may be put, and each rule watches a parameter and is off, puts to
-- safe mode, or puts where it may
abbrev pub Small : List ℕ → Type 0
Small ws = (k : ℕ) → k < word_count → slice_index ws k ≤ most

abbrev pub Later : List ℕ → ℕ → Type 0
Later ws i = slice_index ws time_at < slice_index ws (activities_at + activity_size * i)

abbrev pub MayPut : List ℕ → ℕ → Type 0
MayPut ws i = may_put (slice_index ws (activities_at + place_word + activity_size * i)) ≡ true

abbrev pub Watches : List ℕ → ℕ → Type 0
Watches ws i = slice_index ws (rules_at + rule_size * i) < 64

abbrev pub Puts : List ℕ → ℕ → Type 0
Puts ws i =
    (slice_index ws (rules_at + needs_word + rule_size * i) ≡ 0)
    ⊎ (((slice_index ws (rules_at + safes_word + rule_size * i) == 1) ≡ true)
    ⊎ (may_put (slice_index ws (rules_at + rule_place_word + rule_size * i)) ≡ true))

pub record Sane (ws : List ℕ) : Type 0 where
  pub small : Small ws
  pub few : slice_index_or ws waiting_at 0 ≤ 32
  pub later : (i : ℕ) → i < slice_index ws waiting_at → Later ws i
  pub placed : (i : ℕ) → i < slice_index ws waiting_at → MayPut ws i
  pub watches : (i : ℕ) → i < 16 → Watches ws i
  pub puts : (i : ℕ) → i < 16 → Puts ws i

pub record FaultsRight : Type 0 where
  pub sound : (ws : List ℕ) → Faultless ws → Sane ws
  pub complete : (ws : List ℕ) → Sane ws → Faultless ws
  pub lowest : (ws : List ℕ) → Lowest ws (lowest_fault ws)

-- what is written for a state may be left for it; and whatever may be left for it is at fault no
-- more than what is written
pub record TidyRight : Type 0 where
  pub written : (s : State) → Sized s → LeftFor (words_of s) s
  pub faultless : (ws : List ℕ) (s : State) → Sized s → LeftFor ws s → Faultless (words_of s)
      → Faultless ws
