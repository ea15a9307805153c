-- Rules with their counts, and each of both lists.
use Rattle.std.specs.Prelude.{ℕ, List, map}
use Rattle.rules.specs.declared.rule.Rule.{Rule}
use Rattle.rules.specs.declared.rule.Monitor.{Monitor}
use Rattle.rules.specs.declared.rule.Rules.{Rules}

abbrev pub rule_of : Monitor → Rule
rule_of w = w.rule

abbrev pub count_of : Monitor → ℕ
count_of w = w.count

abbrev pub rules_of : Rules → List Rule
rules_of r = map rule_of r.monitors

abbrev pub counts_of : Rules → List ℕ
counts_of r = map count_of r.monitors
