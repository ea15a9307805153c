use Rattle.std.proofs.Common.{ℕ, ◌+◌, ◌<◌, List, length, sym, ap, ◌∙◌, subst, arith, rules}
use Rattle.schedule.specs.declared.activity.Activity.{Activity}
use Rattle.schedule.specs.declared.activity.Fate.{Fate}
use Rattle.schedule.specs.Waiting.{fate_of, put_all}
use Rattle.arrayvec.proofs.ArrayVecLemmas.{filter-from_retain}
use Rattle.schedule.proofs.Releasing.{Sofar, next, moved}
use Rattle.schedule.proofs.schedule.Schedule.release.Goals as goal
use Rattle.schedule.proofs.schedule.Schedule.release.Goals.{in-Waits, in-Missed, in-Done}

pub returns-then-not-is_due-clause-waiting : goal.returns-then-not-is_due-clause-waiting
returns-then-not-is_due-clause-waiting c = sym (c.is_due.ensures.none c.if-not-is_due.true c.args.safe_mode).0

pub returns-then-not-is_due-clause-put : goal.returns-then-not-is_due-clause-put
returns-then-not-is_due-clause-put c = ap (λ (l : List Activity). put_all l c.args.parameters.now.values) (sym (c.is_due.ensures.none c.if-not-is_due.true c.args.safe_mode).2)

pub returns-then-not-is_due-clause-missed : goal.returns-then-not-is_due-clause-missed
returns-then-not-is_due-clause-missed c = ap length (sym (c.is_due.ensures.none c.if-not-is_due.true c.args.safe_mode).1)

pub returns-clause-waiting : goal.returns-clause-waiting
returns-clause-waiting c = filter-from_retain _ _ _ (λ x b f y called. search rules) _ _ c.retain.ensures.filtered

pub loop-activity-preserved : goal.loop-activity-preserved
loop-activity-preserved c =
    let f : Activity → Fate = λ a. fate_of a c.args.time c.args.safe_mode in
    let before = c.args.parameters.now.values in
    let ws : List Activity = c.waiting-activity-items.result.now in
    let k : ℕ = c.loop-activity.activity-index in
    let l : k < length ws = omega arith in
    let e = c.waiting-activity-items.ensures.all in
    let s = subst (λ (xs : List Activity). Sofar f before xs k c.loop-activity.missed c.loop-activity.parameters.values) (sym e) c.loop-activity.invariant in
    subst (λ (xs : List Activity). Sofar f before xs (k + 1) c.match-fate.missed c.match-fate.parameters.values) e (elim c.match-fate.branch [
      | in-Waits w ↦ moved f before ws (k + 1) _ _ _ _ (omega (arith, w.missed-is)) (ap (λ p. p.values) w.parameters-is) (next f before ws k _ _ Fate.Waits l w.in-Waits.ensures s)
      | in-Missed w ↦ moved f before ws (k + 1) _ _ _ _ w.missed-is (ap (λ p. p.values) w.parameters-is) (next f before ws k _ _ Fate.Missed l w.in-Missed.ensures s)
      | in-Done w ↦ moved f before ws (k + 1) _ _ _ _ (omega (arith, w.missed-is)) (ap (λ p. p.values) w.parameters-is ∙ w.put.ensures) (next f before ws k _ _ Fate.Done l w.in-Done.ensures s)
    ])
