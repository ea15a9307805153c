use Rattle.std.proofs.Common.{sym, refl, subst}
use Rattle.rules.specs.Numbers.{rule_numbers}
use Rattle.text.specs.Table.{RuleNumbers}
use Rattle.text.proofs.event.rule_of.Goals as goal

pub returns-in_err-numbers : goal.returns-in_err-numbers
returns-in_err-numbers c = subst (RuleNumbers c.args.words.now) (sym c.from_residual.ensures) (λ r e. c.in_err-numbers.ensures (rule_numbers r) refl e)
