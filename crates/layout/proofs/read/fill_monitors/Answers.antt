use Rattle.std.proofs.Common.{◌≡◌, map, sym, ap, ◌∙◌, arith}
use Rattle.std.specs.List.{range_with_len}
use Rattle.std.proofs.lemmas.List.FromFn.{fill_by_all}
use Rattle.rules.specs.Watching.{off}
use Rattle.rules.specs.Monitors.{rule_of, count_of}
use Rattle.layout.specs.Map.{monitor_at, rules_in, counts_at}
use Rattle.layout.proofs.Parts.{part_of}
use Rattle.layout.proofs.read.fill_monitors.Goals as goal
use Rattle.layout.proofs.read.fill_monitors.Goals.{After-loop-k}

all_monitors : (c : After-loop-k) → c.loop-k.monitors ≡ map (monitor_at c.args.words.now) (range_with_len 0 16)
all_monitors c = fill_by_all (monitor_at c.args.words.now) c.loop-k.monitors 16 (record { rule = off; count = 0 }) c.loop-k.invariant.0 (λ k h. c.loop-k.invariant.1 k (omega arith))

pub returns-clause-rules : goal.returns-clause-rules
unfolding rules_in
returns-clause-rules c = ap (map rule_of) (all_monitors (goal.at.returns-clause-rules c).After-loop-k)

pub returns-clause-counts : goal.returns-clause-counts
returns-clause-counts c = ap (map count_of) (all_monitors (goal.at.returns-clause-counts c).After-loop-k) ∙ sym (part_of counts_at 16 c.args.words.now (omega arith))
