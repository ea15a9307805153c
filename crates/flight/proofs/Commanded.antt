-- Commands obeyed are the first ones sent, each once, in order.
use Rattle.std.proofs.Common.{◌≡◌, ℕ, suc, true, eqb, List, [], ◌∷◌, Some, Option, sym, refl, ap, ◌∙◌}
use Rattle.std.proofs.lemmas.Bool.{eq-eqb, ne_eqb, cond-true, cond-false, true≢false}
use Rattle.frame.specs.declared.Command.{Command}
use Rattle.frame.specs.declared.Telecommand.{Telecommand}
use Rattle.satellite.specs.State.{State}
use Rattle.satellite.specs.Story.{Inputs, obeyed, at_reception}
use Rattle.flight.specs.Flight.{after}
use Rattle.flight.specs.Commanding.{heard, obeyed_with, obeyed_in, first_sent, EachOnce, ComesThrough, SafeAtOnce}
use Rattle.flight.proofs.Steps.{obeyed_cases, ticked_cases, ticked_heard, reception}

-- until reception the same command is expected
pub expected_kept : (i : Inputs) (s : State) → (at_reception i s).expected ≡ s.expected
expected_kept i s = (reception i s).expected

-- a command whose turn it is moves the expected number on by one, any other leaves it
pub obeyed_expected : (t : Telecommand) (s : State) → t.number ≡ s.expected → (obeyed t s).expected ≡ suc s.expected
obeyed_expected t s e = obeyed_cases t s (λ u. u.expected ≡ suc s.expected) (λ _ _. refl) (λ _ _. refl) (λ f. absurd (f e))

pub obeyed_else : (t : Telecommand) (s : State) → (t.number ≡ s.expected → ⊥) → obeyed t s ≡ s
obeyed_else t s f = obeyed_cases t s (λ u. u ≡ s) (λ e _. absurd (f e)) (λ e _. absurd (f e)) (λ _. refl)

turn_with : (o : Option Telecommand) (t : Telecommand) (n : ℕ) (cs : List Command) → o ≡ Some t → t.number ≡ n → obeyed_with o n cs ≡ t.command ∷ cs
turn_with o t n cs e d = ap (λ (x : Option Telecommand). obeyed_with x n cs) e ∙ cond-true (eqb t.number n) (t.command ∷ cs) cs (eq-eqb t.number n d)

else_with : (o : Option Telecommand) (t : Telecommand) (n : ℕ) (cs : List Command) → o ≡ Some t → (t.number ≡ n → ⊥) → obeyed_with o n cs ≡ cs
else_with o t n cs e f = ap (λ (x : Option Telecommand). obeyed_with x n cs) e ∙ cond-false (eqb t.number n) (t.command ∷ cs) cs (ne_eqb t.number n f)

pub each_once : EachOnce
each_once sent [] g = refl
each_once sent (i ∷ is) g =
    let s = after is in
    let r = at_reception i s in
    let k = expected_kept i s in
    let ih : obeyed_in is ≡ first_sent sent s.expected = each_once sent is g.1 in
    ticked_cases (λ (u : State). obeyed_with (heard i is) s.expected (obeyed_in is) ≡ first_sent sent u.expected) i s
    (λ e. ap (λ (x : Option Telecommand). obeyed_with x s.expected (obeyed_in is)) e ∙ ih ∙ ap (first_sent sent) (sym k))
    (λ t e. obeyed_cases t r (λ (u : State). obeyed_with (heard i is) s.expected (obeyed_in is) ≡ first_sent sent u.expected)
    (λ d _. turn_with (heard i is) t s.expected (obeyed_in is) e (d ∙ k) ∙ next t e d ih)
    (λ d _. turn_with (heard i is) t s.expected (obeyed_in is) e (d ∙ k) ∙ next t e d ih)
    (λ f. else_with (heard i is) t s.expected (obeyed_in is) e (λ d. f (d ∙ sym k)) ∙ ih ∙ ap (first_sent sent) (sym k)))
  where
    next : (t : Telecommand) → heard i is ≡ Some t → t.number ≡ (at_reception i (after is)).expected → obeyed_in is ≡ first_sent sent (after is).expected
        → t.command ∷ obeyed_in is ≡ first_sent sent (suc (at_reception i (after is)).expected)
    next t e d ih = (λ j. (g.0 t e ∙ ap sent d) j ∷ (ih ∙ ap (first_sent sent) (sym (expected_kept i (after is)))) j)

pub comes_through : ComesThrough
comes_through i is c e =
    let t : Telecommand = record { number = (after is).expected; command = c } in
    let r = at_reception i (after is) in (
      turn_with (heard i is) t (after is).expected (obeyed_in is) e refl,
      ap (λ (u : State). u.expected) (ticked_heard i (after is) (Some t) e) ∙ obeyed_expected t r (sym (expected_kept i (after is))) ∙ ap suc (expected_kept i (after is)),
    )

pub safe_at_once : SafeAtOnce
safe_at_once i is e =
    let t : Telecommand = record { number = (after is).expected; command = Command.Sleep } in
    let r = at_reception i (after is) in
    ap (λ (u : State). u.safe_mode) (ticked_heard i (after is) (Some t) e)
    ∙ obeyed_cases t r (λ (u : State). u.safe_mode ≡ true) (λ _ _. refl) (λ _ f. absurd (true≢false f)) (λ f. absurd (f (sym (expected_kept i (after is)))))
