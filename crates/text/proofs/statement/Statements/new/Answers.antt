use Rattle.std.proofs.Common.{◌≡◌, ◌<◌, ◌^◌, length, ap, ◌∙◌, arith, rules}
use Rattle.text.specs.Cut.{stops, cut, left}
use Rattle.text.specs.declared.cut.Stop.{Stop}
use Rattle.std.specs.Iterator.Adapters.{enumerate_source}
use Rattle.text.proofs.Cutting.{length-cut}
use Rattle.text.proofs.statement.Statements.new.Goals as goal

pub returns-clause-numbered : goal.returns-clause-numbered
returns-clause-numbered g c =
    let small : length c.args.text.now < 2 ^ 63 = search rules in
    let all : left (enumerate_source c.enumerate.result) ≡ cut (stops Stop.Line) c.args.text.now = ap left c.enumerate.ensures.source ∙ c.new.ensures in
    omega (arith, small, ap length all, c.enumerate.ensures.count, length-cut (stops Stop.Line) c.args.text.now)
