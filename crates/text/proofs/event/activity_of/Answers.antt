use Rattle.std.proofs.Common.{sym, refl, subst}
use Rattle.schedule.specs.Numbers.{activity_numbers}
use Rattle.text.specs.Table.{ActivityNumbers}
use Rattle.text.proofs.event.activity_of.Goals as goal

pub returns-in_err-numbers : goal.returns-in_err-numbers
returns-in_err-numbers c = subst (ActivityNumbers c.args.words.now) (sym c.from_residual.ensures) (λ a e. c.in_err-numbers.ensures (activity_numbers a) refl e)
