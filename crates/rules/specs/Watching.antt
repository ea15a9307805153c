-- Fault-protection rules: when a value is past a rule's limit, when a rule acts, and which rules may be set.
use Rattle.std.specs.Prelude.{Bool, false, cond, ◌&&◌, ◌||◌, ℕ, suc, ◌==◌, nat_le}
use Rattle.parameters.specs.Places.{may_put}
use Rattle.rules.specs.declared.rule.Rule.{Rule}

-- a rule that is off: it needs 0 ticks
abbrev pub off : Rule
off =
    record {
      watches = 0;
      limit = 0;
      upward = false;
      needs = 0;
      safes = false;
      place = 0;
      number = 0;
    }

-- upward: at the limit and above; else at it and below
abbrev pub is_past : Rule → ℕ → Bool
is_past r v = cond r.upward (nat_le r.limit v) (nat_le v r.limit)

-- for how many ticks a rule has been past, with this one
abbrev pub next_count : Rule → (value count : ℕ) → ℕ
next_count r v n = cond (is_past r v) (suc n) 0

-- it is on, and its count has just become what it needs
abbrev pub acts : Rule → ℕ → Bool
acts r n = nat_le 1 r.needs && n == r.needs

-- it watches a parameter, and puts to safe mode or puts where a number may be put
abbrev pub may_set : Rule → Bool
may_set r = nat_le r.watches 63 && (r.safes || may_put r.place)
