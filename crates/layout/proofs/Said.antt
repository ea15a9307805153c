-- Which words a state is read from.
use Rattle.std.proofs.Common.{◌≡◌, ℕ, ◌+◌, ◌<◌, List, length, get_or, drop, refl, ◌∙◌, arith}
use Rattle.std.proofs.lemmas.List.FromFn.{length-map-range_with_len, get_or-map-range_with_len}
use Rattle.std.proofs.lemmas.List.{get_or-take, get_or-drop}
use Rattle.schedule.specs.Waiting.{no_activity}
use Rattle.rules.specs.Watching.{off}
use Rattle.satellite.specs.State.{parameter, rule, count}
use Rattle.layout.specs.Map.{activity_at, rule_at, schedule_in, rules_in, state_of, time_at, expected_at, rejected_at, missed_at, parameters_at, waiting_at, counts_at}

pub heads_said : (ws : List ℕ)
    → ((state_of ws).time ≡ get_or ws time_at 0) × ((state_of ws).expected ≡ get_or ws expected_at 0) × ((state_of ws).rejected ≡ get_or ws rejected_at 0) × ((state_of ws).missed ≡ get_or ws missed_at 0)
unfolding state_of
heads_said ws = (refl, refl, refl, refl)

pub waiting_said : (ws : List ℕ) → length (state_of ws).schedule ≡ get_or ws waiting_at 0
unfolding state_of schedule_in
waiting_said ws = length-map-range_with_len (activity_at ws) 0 (get_or ws waiting_at 0)

pub activity_said : (ws : List ℕ) (k : ℕ) → k < get_or ws waiting_at 0 → get_or (state_of ws).schedule k no_activity ≡ activity_at ws k
unfolding state_of schedule_in
activity_said ws k l = get_or-map-range_with_len (activity_at ws) 0 (get_or ws waiting_at 0) k k no_activity l (omega arith)

pub rule_said : (ws : List ℕ) (k : ℕ) → k < 16 → rule (state_of ws) k ≡ rule_at ws k
unfolding state_of rules_in
rule_said ws k l = get_or-map-range_with_len (rule_at ws) 0 16 k k off l (omega arith)

pub parameter_said : (ws : List ℕ) (k : ℕ) → k < 64 → parameter (state_of ws) k ≡ get_or ws (parameters_at + k) 0
unfolding state_of
parameter_said ws k l = get_or-take 64 (drop parameters_at ws) k 0 l ∙ get_or-drop parameters_at ws k 0

pub count_said : (ws : List ℕ) (k : ℕ) → k < 16 → count (state_of ws) k ≡ get_or ws (counts_at + k) 0
unfolding state_of
count_said ws k l = get_or-take 16 (drop counts_at ws) k 0 l ∙ get_or-drop counts_at ws k 0
