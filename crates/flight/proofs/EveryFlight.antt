-- What is promised of every flight, from the promises that make it up.
use Rattle.std.proofs.Common.{◌≡◌, ℕ, suc, ◌+◌, true, false, cond, List, ◌∷◌, length, sym, ap, ◌∙◌, ⊎_elim}
use Rattle.std.proofs.lemmas.Bool.{cases_Bool, cond-true}
use Rattle.schedule.specs.Waiting.{due}
use Rattle.satellite.specs.Story.{Inputs, at_release}
use Rattle.flight.specs.Machine.{AllLawful, more}
use Rattle.flight.specs.Flight.{keeper, machine, after, Flew}
use Rattle.flight.specs.Protecting.{InSafeMode}
use Rattle.flight.specs.EveryFlight.{FlewLawfully, EveryFlight}
use Rattle.flight.proofs.Flying.{all_lawful, flies_right}
use Rattle.flight.proofs.Commanded.{each_once, comes_through, safe_at_once}
use Rattle.flight.proofs.Effected.{commands_act, else_ignored, after_time}
use Rattle.flight.proofs.Scheduled.{never_late, put_when_due, missed_in_safe_mode, missed_right}
use Rattle.flight.proofs.Protected.{safe_by_rules}
use Rattle.flight.proofs.SafeMode.{safe_lasts}
use Rattle.flight.proofs.Fates.{each_activity}

pub flew_lawfully : FlewLawfully
flew_lawfully = all_lawful keeper machine

before : (i : Inputs) (is : List Inputs) → AllLawful machine (i ∷ is) → AllLawful machine is
before i is (more j js l ls) = ls

-- safe mode at release is that of before or by a rule
safe_then : (i : Inputs) (is : List Inputs) → AllLawful machine (i ∷ is) → InSafeMode i is → (at_release i (after is)).safe_mode ≡ true
safe_then i is l = ⊎_elim (safe_by_rules.stays i is) (λ x. safe_by_rules.by i is x.0 (before i is l) x.1 x.2)

awake_then : (i : Inputs) (is : List Inputs) → AllLawful machine (i ∷ is) → (InSafeMode i is → ⊥) → (at_release i (after is)).safe_mode ≡ false
awake_then i is l f = ⊎_elim (λ e. absurd (f (safe_by_rules.from i is (before i is l) e))) (λ e. e) (cases_Bool (at_release i (after is)).safe_mode)

-- in safe mode each one whose tick it is is counted
missed_in_tick : (i : Inputs) (is : List Inputs) → AllLawful machine (i ∷ is) → InSafeMode i is → (after (i ∷ is)).missed ≡ (after is).missed + length (due (after (i ∷ is)).time (after is).schedule)
missed_in_tick i is l f =
    let s = after is in
    let w = at_release i s in
    let n = length (due (suc s.time) s.schedule) in
    missed_right (i ∷ is) ∙ ap (λ m. m + cond w.safe_mode n 0) (sym (missed_right is)) ∙ ap (λ m. s.missed + m) (cond-true w.safe_mode n 0 (safe_then i is l f))
    ∙ ap (λ t. s.missed + length (due t s.schedule)) (sym (after_time i is))

pub every_flight : (i : Inputs) (is : List Inputs) (left : List ℕ) → Flew (i ∷ is) left → EveryFlight i is left
every_flight i is left flew =
    let l = flew_lawfully (i ∷ is) left flew in
    record {
      memory = λ found upset. flies_right.reads (i ∷ is) left found flew upset;
      each_once = λ sent g. each_once sent (i ∷ is) g;
      comes_through = comes_through i is;
      commands_act = commands_act i is;
      else_ignored = else_ignored i is;
      safe_at_once = safe_at_once i is;
      safe_lasts = λ e f. safe_lasts.stays i is f (safe_then i is l e);
      waits = each_activity.stays i is;
      put = λ a last e f. put_when_due i is a l (awake_then i is l f) last (e ∙ after_time i is);
      unput = λ e. (missed_in_safe_mode i is (safe_then i is l e)).0;
      missed = missed_in_tick i is l;
      never_late = λ a m. never_late (i ∷ is) a l m;
    }
