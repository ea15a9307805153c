-- A rule as seven numbers.
use Rattle.std.specs.Prelude.{ℕ, Bool, cond, List, [], ◌∷◌, ◌==◌, slice_index}
use Rattle.rules.specs.declared.rule.Rule.{Rule}

abbrev pub bit : Bool → ℕ
bit b = cond b 1 0

abbrev pub rule_numbers : Rule → List ℕ
rule_numbers r =
    r.watches ∷ (r.limit ∷ (bit r.upward ∷ (r.needs ∷ (bit r.safes ∷ (r.place ∷ (r.number ∷ []))))))

-- the rule that a row of numbers says, wherever they stand; a mark is set by 1 and by nothing else
abbrev pub rule_from : (ℕ → ℕ) → Rule
rule_from at = record {
  watches = at 0;
  limit = at 1;
  upward = (at 2 == 1);
  needs = at 3;
  safes = (at 4 == 1);
  place = at 5;
  number = at 6;
}

abbrev pub rule_in : List ℕ → Rule
rule_in xs = rule_from (λ j. slice_index xs j)
