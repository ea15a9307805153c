-- What a tick needs of its state: places that there are, and room for the counters.
use Rattle.std.specs.Prelude.{◌≡◌, ℕ, ◌<◌, ◌≤◌, false}
use Rattle.schedule.specs.Waiting.{Placed}
use Rattle.rules.specs.declared.rule.Rule.{Rule}
use Rattle.satellite.specs.State.{State, rule, count}

-- 2^62: no flight of fewer ticks counts past it
abbrev pub most : ℕ
most = 4611686018427387904

-- a rule watches a parameter, and if it is on and does not put to safe mode it puts at a place
-- that there is
pub record RuleFit (r : Rule) : Type 0 where
  pub watches : r.watches < 64
  pub puts : 1 ≤ r.needs → r.safes ≡ false → r.place < 64

pub record RulesFit (s : State) : Type 0 where
  pub each : (k : ℕ) → k < 16 → RuleFit (rule s k)
  pub counts : (k : ℕ) → k < 16 → count s k ≤ most

pub record Fit (s : State) : Type 0 where
  pub time : s.time ≤ most
  pub expected : s.expected ≤ most
  pub rejected : s.rejected ≤ most
  pub missed : s.missed ≤ most
  pub placed : Placed s.schedule
  pub rules : RulesFit s
