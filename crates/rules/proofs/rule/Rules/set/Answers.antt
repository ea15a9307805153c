use Rattle.std.proofs.lemmas.List.{map-set}
use Rattle.rules.specs.Monitors.{rule_of, count_of}
use Rattle.rules.proofs.rule.Rules.set.Goals as goal

pub returns-clause-rules : goal.returns-clause-rules
returns-clause-rules c = map-set rule_of c.args.self.now.monitors c.args.index _

pub returns-clause-counts : goal.returns-clause-counts
returns-clause-counts c = map-set count_of c.args.self.now.monitors c.args.index (record { rule = c.args.rule; count = 0 })
