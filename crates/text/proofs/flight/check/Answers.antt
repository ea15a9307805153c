use Rattle.std.proofs.Common.{List}
use Rattle.text.specs.declared.event.Event.{Event}
use Rattle.text.specs.Text.{flights, Tells, Fails}
use Rattle.text.proofs.Once.{event_readable}
use Rattle.text.proofs.Telling.{fails, reads, passed_on}
use Rattle.text.proofs.flight.check.Goals as goal

pub returns-in_err-read : goal.returns-in_err-read
returns-in_err-read c =
    let i = c.loop-read.invariant.1 in
    passed_on (λ _. (es : List Event) × Tells flights c.args.text.now es) (Fails flights c.args.text.now) c.from_residual.result c.in_err-read.field-0.0 c.from_residual.ensures.1
    (fails flights event_readable c.args.text.now c.loop-read.read-iterator c.next.new.self i.0 i.1 c.in-Some.read c.in-Some.ensures.steps c.in_err-read.field-0.0 c.in_err-read.was)

pub loop-read-preserved : goal.loop-read-preserved
loop-read-preserved c =
    let i = c.loop-read.invariant.1 in
    (c.in-Some.ensures.goes.keeps, reads flights event_readable c.args.text.now c.loop-read.read-iterator c.next.new.self i.0 i.1 c.in-Some.read c.in-Some.ensures.steps c.in_ok-read.field-0 c.in_ok-read.was)
