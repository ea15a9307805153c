use Rattle.std.proofs.Common.{Ok, sym, ap, ◌∙◌, subst}
use Rattle.std.specs.Fmt.{IsPlainFormatter}
use Rattle.text.specs.declared.event.Event.{Event}
use Rattle.text.specs.declared.statement.Statements.{Statements}
use Rattle.text.specs.Lines.{IsNumbered}
use Rattle.text.specs.Text.{flights}
use Rattle.text.proofs.Telling.{start, passed_on}
use Rattle.text.proofs.Writing.{ok_is}
use Rattle.mission.specs.declared.whole.Failure.TheVariants.{Unread}
use Rattle.mission.specs.Run.{FlownThrough, Broke}
use Rattle.mission.specs.Steps.{launched}
use Rattle.mission.proofs.Running.{Underway, begin, faulty, passed, flown}
use Rattle.mission.proofs.whole.run.Goals as goal

pub loop-read-init : goal.loop-read-init
loop-read-init g c =
    let took = g.W.Write.write_str_gives in
    let text = c.args.text.now in
    let a = c.launched-aloft in
    let new = c.new-read-items.ensures in
    subst (λ (s : Statements Event). IsNumbered s × Underway took text s a.result c.args.out.now c.args.out.now) (sym c.into_iter-read-iterator.ensures.into_iter_gives)
    (new.numbered, begin took text c.new-read-items.result a.result c.args.out.now (start flights text _ _ _ new.lines new.line new.heard) (launched a.result a.ensures.memory a.ensures.readings a.ensures.frame))

pub returns-in_err-event : goal.returns-in_err-event
returns-in_err-event g c =
    let took = g.W.Write.write_str_gives in
    let text = c.args.text.now in
    let x = c.in_err-event.field-0.0 in
    passed_on (λ _. IsPlainFormatter c.args.out.now → FlownThrough took text c.args.out.now c.loop-read.out) (Broke text) c.from_residual.result (Unread x) c.from_residual.ensures.1
    (faulty took text c.loop-read.read-iterator c.next.new.self c.loop-read.aloft c.args.out.now c.loop-read.out c.loop-read.invariant.1 c.in-Some.read c.in-Some.ensures.steps x c.in_err-event.was)

pub loop-read-preserved-in-Continue-branch-3 : goal.loop-read-preserved-in-Continue-branch-3
loop-read-preserved-in-Continue-branch-3 g c = (
  c.in-Some.ensures.goes.keeps,
  flown g.W.Write.write_str_gives c.args.text.now c.loop-read.read-iterator c.next.new.self c.loop-read.aloft c.args.out.now c.loop-read.out c.loop-read.invariant.1 c.in-Some.read c.in-Some.ensures.steps
      c.in-Some-2.event c.step.new.self c.step.result c.tell.new.out (c.in_ok-event.was ∙ ap Ok c.in-Some-2.is) c.step.ensures (λ p. c.tell.ensures p (ok_is _ _ c.in_ok-tell.was)),
)

pub loop-read-preserved : goal.loop-read-preserved
loop-read-preserved g c = (
  c.in-Some.ensures.goes.keeps,
  passed g.W.Write.write_str_gives c.args.text.now c.loop-read.read-iterator c.next.new.self c.loop-read.aloft c.args.out.now c.loop-read.out c.loop-read.invariant.1 c.in-Some.read c.in-Some.ensures.steps
      (c.in_ok-event.was ∙ ap Ok c.in_default.is),
)
