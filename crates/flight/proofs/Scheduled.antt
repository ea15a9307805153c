-- Activities are done in their tick, or missed in safe mode, and nothing waits longer.
use Rattle.std.proofs.Common.{◌≡◌, suc, ◌+◌, cond, ◌⊎◌, [], ◌∷◌, ◌++◌, length, Some, sym, refl, ap, ◌∙◌, subst, inl, inr, ⊎_elim, arith}
use Rattle.std.proofs.lemmas.Bool.{cond-true}
use Rattle.schedule.specs.declared.activity.Activity.{Activity}
use Rattle.schedule.specs.Waiting.{due}
use Rattle.frame.specs.declared.Command.{Command}
use Rattle.frame.specs.declared.Telecommand.{Telecommand}
use Rattle.satellite.specs.State.{State, parameter}
use Rattle.satellite.specs.Story.{Inputs, done, at_release, at_reception}
use Rattle.flight.specs.Machine.{more}
use Rattle.flight.specs.Flight.{after}
use Rattle.flight.specs.Commanding.{heard, Turn}
use Rattle.flight.specs.Scheduling.{Among, LastForPlace, Parts, PartsInTick, NeverLate, KeptTillDue, PutWhenDue, ElseKept, MissedInSafeMode, misses, MissedRight}
use Rattle.flight.proofs.Steps.{obeyed_cases, ticked_cases, release_kept, reception_is, reception}
use Rattle.flight.proofs.Waits.{parts, among_middle}
use Rattle.flight.proofs.Sound.{after_sound, release_sizes}
use Rattle.flight.proofs.Releasing.{releases_right}
use Rattle.flight.proofs.Commanded.{expected_kept}

pub parts_in_tick : PartsInTick
parts_in_tick i is =
    let s = after is in
    subst (Parts (suc s.time) s.schedule (due (suc s.time) s.schedule)) (sym (reception i s).schedule) (parts (suc s.time) s.schedule)

pub never_late : NeverLate
never_late is a l m = (after_sound is l).0.later a m

-- what a command does to the schedule
done_schedule : (s : State) (c : Command) → (c ≡ Command.Forget → ⊥) → ((done s c).schedule ≡ s.schedule) ⊎ ((a : Activity) × (c ≡ Command.Later a) × ((done s c).schedule ≡ s.schedule ++ (a ∷ [])))
done_schedule s (Command.Later a) f = inr (a, refl, refl)
done_schedule s Command.Forget f = absurd (f refl)
done_schedule s _ f = inl refl

pub kept_till_due : KeptTillDue
kept_till_due i is f =
    let r = at_reception i (after is) in
    let k = expected_kept i (after is) in
    let its : (t : Telecommand) (c : Command) → heard i is ≡ Some t → t.number ≡ r.expected → t.command ≡ c → Turn i is c =
    λ t c e n d. e ∙ (λ j. Some (record { number = (n ∙ k) j; command = d j })) in
    ticked_cases (λ (u : State). (u.schedule ≡ r.schedule) ⊎ ((a : Activity) × Turn i is (Command.Later a) × (u.schedule ≡ r.schedule ++ (a ∷ [])))) i (after is) (λ _. inl refl)
    (λ t e. obeyed_cases t r (λ (u : State). (u.schedule ≡ r.schedule) ⊎ ((a : Activity) × Turn i is (Command.Later a) × (u.schedule ≡ r.schedule ++ (a ∷ []))))
    (λ n _. ⊎_elim inl (λ x. inr (x.0, its t (Command.Later x.0) e n x.1, x.2)) (done_schedule r t.command (λ d. f (its t Command.Forget e n d)))) (λ _ _. inl refl) (λ _. inl refl))

-- the state at release has the activities that waited, and its time is that of the tick
release_schedule : (i : Inputs) (s : State) → (at_release i s).schedule ≡ s.schedule
release_schedule i s = ap (λ (u : State). u.schedule) (release_kept i s)

release_time : (i : Inputs) (s : State) → (at_release i s).time ≡ suc s.time
release_time i s = ap (λ (u : State). u.time) (release_kept i s)

pub put_when_due : PutWhenDue
put_when_due i is a (more j js l ls) awake last e =
    let s = after is in
    let w = at_release i s in
    let so = after_sound is ls in
    let z = (release_sizes i s l so.2).0 in
    let m = subst (Among a) (sym last.stands) (among_middle last.front last.back a) in
    let pl = so.0.places a m in
    ap (λ (u : State). parameter u a.place) (reception_is i s)
    ∙ releases_right.put w a awake (subst (LastForPlace a) (sym (release_schedule i s)) last) (e ∙ sym (release_time i s)) (omega arith)

pub else_kept : ElseKept
else_kept i is p h =
    let s = after is in
    ap (λ (u : State). parameter u p) (reception_is i s)
    ∙ releases_right.else_kept (at_release i s) p (λ a m e. h a (subst (Among a) (release_schedule i s) m) (e ∙ release_time i s))

pub missed_in_safe_mode : MissedInSafeMode
missed_in_safe_mode i is e =
    let s = after is in
    let w = at_release i s in (
      ap (λ (u : State). u.parameters) (reception_is i s) ∙ releases_right.unput w e,
      (reception i s).missed ∙ ap (λ n. s.missed + n) (cond-true w.safe_mode (length (due (suc s.time) s.schedule)) 0 e),
    )

pub missed_right : MissedRight
missed_right [] = refl
missed_right (i ∷ is) =
    let s = after is in
    let r = at_reception i s in
    let e : r.missed ≡ misses (i ∷ is) = (reception i s).missed ∙ ap (λ n. n + cond (at_release i s).safe_mode (length (due (suc s.time) s.schedule)) 0) (missed_right is) in
    ticked_cases (λ (u : State). u.missed ≡ misses (i ∷ is)) i s (λ _. e)
    (λ t _. obeyed_cases t r (λ (u : State). u.missed ≡ misses (i ∷ is)) (λ _ _. e) (λ _ _. e) (λ _. e))
