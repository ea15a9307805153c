-- What becomes in a tick of each activity that waits; and which of them is the last for its place.
use Rattle.std.proofs.Common.{◌≡◌, ℕ, suc, ◌⊎◌, List, [], ◌∷◌, sym, refl, ap, ◌∙◌, subst, inl, inr, ⊎_elim, arith}
use Rattle.std.proofs.lemmas.Bool.{cases_eq}
use Rattle.schedule.specs.declared.activity.Activity.{Activity}
use Rattle.frame.specs.declared.Command.{Command}
use Rattle.satellite.specs.State.{State}
use Rattle.satellite.specs.Story.{Inputs, done, at_reception}
use Rattle.flight.specs.Flight.{after}
use Rattle.flight.specs.Commanding.{Turn}
use Rattle.flight.specs.Scheduling.{Among, EachActivity, LastForPlace, OneIsLast}
use Rattle.flight.proofs.Steps.{obeyed_cases, ticked_cases}
use Rattle.flight.proofs.Waits.{among_cons, among_append, among_front, among_still, among_part}
use Rattle.flight.proofs.Effected.{after_time}
use Rattle.flight.proofs.Scheduled.{parts_in_tick, never_late, kept_till_due}
use Rattle.flight.proofs.SafeMode.{has_turn}

-- what waits at reception stays through the command, unless that is forget
stays_through : (i : Inputs) (is : List Inputs) (a : Activity) → Among a (at_reception i (after is)).schedule → (Turn i is Command.Forget → ⊥) → Among a (after (i ∷ is)).schedule
stays_through i is a m f =
    let xs = (at_reception i (after is)).schedule in
    ⊎_elim (λ e. subst (Among a) (sym e) m) (λ x. subst (Among a) (sym x.2) (among_front a xs (x.0 ∷ []) m)) (kept_till_due i is f)

-- a command that is done adds none but its own
done_only : (s : State) (c : Command) (a : Activity) → Among a (done s c).schedule → Among a s.schedule ⊎ (c ≡ Command.Later a)
done_only s (Command.Later b) a m = ⊎_elim inl (λ e. inr (ap Command.Later (sym e))) (among_append a b s.schedule m)
done_only s Command.Forget a m = elim m [ ]
done_only s _ a m = inl m

only_added : (i : Inputs) (is : List Inputs) (a : Activity) → Among a (after (i ∷ is)).schedule → Among a (after is).schedule ⊎ Turn i is (Command.Later a)
only_added i is a =
    let s = after is in
    let r = at_reception i s in
    let waited : Among a r.schedule → Among a s.schedule = λ m. (among_still (suc s.time) s.schedule _ _ a (parts_in_tick i is) m).0 in
    ticked_cases (λ (u : State). Among a u.schedule → Among a s.schedule ⊎ Turn i is (Command.Later a)) i s (λ _ m. inl (waited m))
    (λ t o. obeyed_cases t r (λ (u : State). Among a u.schedule → Among a s.schedule ⊎ Turn i is (Command.Later a))
    (λ n _ m. ⊎_elim (λ b. inl (waited b)) (λ d. inr (has_turn i is t (Command.Later a) o n d)) (done_only r t.command a m)) (λ _ _ m. inl (waited m)) (λ _ m. inl (waited m)))

pub each_activity : EachActivity
each_activity = record {
  stays = λ i is a m f. (let s = after is in
      ⊎_elim (λ e. inl (e ∙ sym (after_time i is))) (λ n. inr (stays_through i is a n f)) (among_part (suc s.time) s.schedule _ _ a (parts_in_tick i is) m));
  gone = λ i is a l e m. (let t = never_late (i ∷ is) a l m in omega arith);
  only = only_added;
}

-- of a list: none in it is for a place at a time, or one of it is the last that is
abbrev LastOrNone : ℕ → ℕ → List Activity → Type 0
LastOrNone r p xs = ((b : Activity) → Among b xs → b.release ≡ r → b.place ≡ p → ⊥) ⊎ ((l : Activity) × LastForPlace l xs × (l.release ≡ r) × (l.place ≡ p))

none_more : (r p : ℕ) (x : Activity) (xs : List Activity) → ((b : Activity) → Among b xs → b.release ≡ r → b.place ≡ p → ⊥) → (x.release ≡ r → x.place ≡ p → ⊥)
    → (b : Activity) → Among b (x ∷ xs) → b.release ≡ r → b.place ≡ p → ⊥
none_more r p x xs none f b m e d =
    ⊎_elim {C = ⊥} (λ (q : b ≡ x). f (sym (ap (λ (y : Activity). y.release) q) ∙ e) (sym (ap (λ (y : Activity). y.place) q) ∙ d)) (λ n. none b n e d) (among_cons b x xs m)

last_or_none : (r p : ℕ) (xs : List Activity) → LastOrNone r p xs
last_or_none r p [] = inl (λ b m. elim m [ ])
last_or_none r p (x ∷ xs) =
    ⊎_elim
    (λ none. ⊎_elim
    (λ er. ⊎_elim (λ ep. inr (x, record { front = []; back = xs; stands = refl; last = λ b m e d. none b m (e ∙ er) (d ∙ ep) }, er, ep)) (λ np. inl (none_more r p x xs none (λ _ d. np d))) (cases_eq x.place p))
    (λ nr. inl (none_more r p x xs none (λ e _. nr e))) (cases_eq x.release r))
    (λ y. let l = y.1 in inr (y.0, record { front = x ∷ l.front; back = l.back; stands = ap (λ (ys : List Activity). x ∷ ys) l.stands; last = l.last }, y.2, y.3))
    (last_or_none r p xs)

pub one_is_last : OneIsLast
one_is_last a all m = ⊎_elim (λ none. absurd (none a m refl refl)) (λ l. l) (last_or_none a.release a.place all)
