use Rattle.std.proofs.Common.{◌≡◌, ◌<◌, List, [], ◌∷◌, reverse, take, vec_items, sym, refl, ap, ◌∙◌, subst}
use Rattle.std.proofs.lemmas.List.{take_all, length-reverse}
use Rattle.std.proofs.lemmas.Slice.{pushed}
use Rattle.satellite.specs.Fit.{most}
use Rattle.text.specs.declared.event.Event.{Event}
use Rattle.mission.specs.declared.aloft.Output.{Output}
use Rattle.mission.specs.Steps.{Ran, and_then, launched}
use Rattle.mission.proofs.Flying.{run_more, outputs_more, outputs_same, run_right}
use Rattle.mission.proofs.run.fly.Goals as goal
use Rattle.mission.proofs.run.fly.Goals.{in-Some+in_ok-push, in_default}

pub loop-event-init : goal.loop-event-init
loop-event-init c =
    subst (λ (os : List Output). Ran [] c.launched-aloft.result (reverse os)) (sym c.new-outputs.ensures.items)
    (launched c.launched-aloft.result c.launched-aloft.ensures.memory c.launched-aloft.ensures.readings c.launched-aloft.ensures.frame)

pub loop-event-preserved : goal.loop-event-preserved
loop-event-preserved c =
    let os = vec_items c.loop-event.outputs in
    let ps = vec_items c.match-step.outputs in
    let given : reverse ps ≡ and_then c.step.result (reverse os) =
    elim c.match-step.branch [
      | in-Some+in_ok-push w ↦ outputs_more _ w.in-Some.output os ps w.in-Some.is (ap vec_items w.outputs-is ∙ pushed (w.in-Some.output ∷ []) refl w.in_ok-push.was w.push.ensures.items)
      | in_default w ↦ outputs_same _ os ps w.in_default.is (ap vec_items w.outputs-is)
    ] in
    run_more _ _ _ _ _ _ os ps c.loop-event-test.true c.loop-event.invariant c.step.ensures given

pub returns : goal.returns
returns c =
    let all : take c.loop-event.event-index c.args.events.now ≡ c.args.events.now = take_all c.loop-event.event-index c.args.events.now c.loop-event-test.false in
    let ran : Ran (reverse c.args.events.now) c.loop-event.aloft (reverse (vec_items c.loop-event.outputs)) =
    subst (λ (es : List Event). Ran (reverse es) c.loop-event.aloft (reverse (vec_items c.loop-event.outputs))) all c.loop-event.invariant in
    record {
      ran = (c.loop-event.aloft, ran);
      flies = λ l s. (run_right (reverse c.args.events.now) c.loop-event.aloft (reverse (vec_items c.loop-event.outputs)) ran l (subst (λ n. n < most) (sym (length-reverse c.args.events.now)) s)).told;
    }
