-- What the satellite is: plain numbers, marks and lists.
use Rattle.std.specs.Prelude.{ℕ, Bool, true, List, [], replicate, slice_index, slice_index_or}
use Rattle.schedule.specs.declared.activity.Activity.{Activity}
use Rattle.rules.specs.declared.rule.Rule.{Rule}
use Rattle.rules.specs.Watching.{off}

pub record State : Type 0 where
  -- ticks since launch
  pub time : ℕ
  -- the number of the command that it expects next
  pub expected : ℕ
  -- safe mode: nothing scheduled is done
  pub safe_mode : Bool
  -- how many commands could not be done
  pub rejected : ℕ
  -- how many activities came due in safe mode
  pub missed : ℕ
  -- 64 parameters, the first sixteen read from instruments
  pub parameters : List ℕ
  -- up to 32 activities, in the order in which they came
  pub schedule : List Activity
  -- 16 fault-protection rules
  pub rules : List Rule
  -- for how many ticks each rule has been past its limit
  pub counts : List ℕ

-- one part is another, the others stay
abbrev pub with_time : ℕ → State → State
with_time x s = record s { time = x }

abbrev pub with_expected : ℕ → State → State
with_expected x s = record s { expected = x }

abbrev pub with_safe_mode : Bool → State → State
with_safe_mode x s = record s { safe_mode = x }

abbrev pub with_rejected : ℕ → State → State
with_rejected x s = record s { rejected = x }

abbrev pub with_missed : ℕ → State → State
with_missed x s = record s { missed = x }

abbrev pub with_parameters : List ℕ → State → State
with_parameters x s = record s { parameters = x }

abbrev pub with_schedule : List Activity → State → State
with_schedule x s = record s { schedule = x }

abbrev pub with_rules : List Rule → State → State
with_rules x s = record s { rules = x }

abbrev pub with_counts : List ℕ → State → State
with_counts x s = record s { counts = x }

-- the parameter at a place, a rule, and its count
abbrev pub parameter : State → ℕ → ℕ
parameter s i = slice_index s.parameters i

abbrev pub rule : State → ℕ → Rule
rule s k = slice_index_or s.rules k off

abbrev pub count : State → ℕ → ℕ
count s k = slice_index s.counts k

-- at launch everything is 0, it is in safe mode, nothing waits, and all rules are off
abbrev pub at_launch : State
at_launch = record {
  time = 0;
  expected = 0;
  safe_mode = true;
  rejected = 0;
  missed = 0;
  parameters = replicate 64 0;
  schedule = [];
  rules = replicate 16 off;
  counts = replicate 16 0;
}
