-- The release of activities, of whatever state.
use Rattle.std.proofs.Common.{◌≡◌, ℕ, ◌+◌, ◌<◌, false, List, length, get_or, sym, refl, ap, ◌∙◌, subst, arith}
use Rattle.std.proofs.lemmas.Bool.{cond_both, cond-true, cond-false}
use Rattle.schedule.specs.declared.activity.Activity.{Activity}
use Rattle.schedule.specs.Waiting.{due, put_all}
use Rattle.satellite.specs.State.{State, parameter}
use Rattle.satellite.specs.Story.{released}
use Rattle.flight.specs.Scheduling.{Among, Parts, LastForPlace, ReleasesRight}
use Rattle.flight.proofs.Steps.{released_missed, released_parameters, released_schedule}
use Rattle.flight.proofs.Waits.{parts, among_due, last_due, put_other, put_last}

put_released : (s : State) (a : Activity) → s.safe_mode ≡ false → LastForPlace a s.schedule → a.release ≡ s.time → a.place < length s.parameters → parameter (released s) a.place ≡ a.number
put_released s a awake l e z =
    let d = due s.time s.schedule in
    let p = last_due s.time a s.schedule l e in
    ap (λ (x : List ℕ). get_or x a.place 0) (released_parameters s ∙ cond-false s.safe_mode s.parameters (put_all d s.parameters) awake ∙ ap (λ (x : List Activity). put_all x s.parameters) p.0)
    ∙ put_last (due s.time l.front) (due s.time l.back) a s.parameters z p.1

kept_released : (s : State) (p : ℕ) → ((a : Activity) → Among a s.schedule → a.release ≡ s.time → a.place ≡ p → ⊥) → parameter (released s) p ≡ parameter s p
kept_released s p h =
    let d = due s.time s.schedule in
    ap (λ (x : List ℕ). get_or x p 0) (released_parameters s)
    ∙ cond_both s.safe_mode s.parameters (put_all d s.parameters) (λ x. get_or x p 0 ≡ parameter s p) (λ _. refl)
    (λ _. put_other d s.parameters p (λ a m e. let q = among_due s.time s.schedule _ _ a (parts s.time s.schedule) m in h a q.0 q.1 e))

pub releases_right : ReleasesRight
releases_right = record {
  unput = λ s e. released_parameters s ∙ cond-true s.safe_mode s.parameters (put_all (due s.time s.schedule) s.parameters) e;
  missed = λ s e. released_missed s ∙ ap (λ n. s.missed + n) (cond-true s.safe_mode (length (due s.time s.schedule)) 0 e);
  unmissed = λ s e. released_missed s ∙ ap (λ n. s.missed + n) (cond-false s.safe_mode (length (due s.time s.schedule)) 0 e) ∙ omega arith;
  put = put_released;
  else_kept = kept_released;
  waits = λ s. subst (Parts s.time s.schedule (due s.time s.schedule)) (sym (released_schedule s)) (parts s.time s.schedule);
  others = λ s. refl;
}
