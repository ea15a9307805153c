use Rattle.std.proofs.Common.{◌≡◌, ◌+◌, ◌*◌, ◌++◌, map, take, drop}
use Rattle.std.specs.List.{flat_map}
use Rattle.rules.specs.Monitors.{rule_of}
use Rattle.layout.specs.Map.{rule_words, rule_size, rules_at}
use Rattle.layout.proofs.write.lay_rules.Given as goal

abbrev pub invariant-loop-k : goal.invariant-loop-k
invariant-loop-k l = l.words ≡ take rules_at l.initial.words ++ (flat_map rule_words (take l.k (map rule_of l.monitors)) ++ drop (rules_at + rule_size * l.k) l.initial.words)
