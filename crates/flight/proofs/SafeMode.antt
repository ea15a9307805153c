-- Safe mode lasts: after the rules nothing but a command changes it.
use Rattle.std.proofs.Common.{◌≡◌, Bool, true, false, List, ◌∷◌, Some, refl, ◌∙◌}
use Rattle.frame.specs.declared.Command.{Command}
use Rattle.frame.specs.declared.Telecommand.{Telecommand}
use Rattle.satellite.specs.State.{State}
use Rattle.satellite.specs.Story.{Inputs, done, at_release, at_reception}
use Rattle.flight.specs.Flight.{after}
use Rattle.flight.specs.Commanding.{heard, Turn}
use Rattle.flight.specs.Protecting.{SafeLasts}
use Rattle.flight.proofs.Steps.{obeyed_cases, ticked_cases, reception}
use Rattle.flight.proofs.Commanded.{expected_kept}

-- what is received under the number that is expected at reception has its turn
pub has_turn : (i : Inputs) (is : List Inputs) (t : Telecommand) (c : Command) → heard i is ≡ Some t → t.number ≡ (at_reception i (after is)).expected → t.command ≡ c → Turn i is c
has_turn i is t c e n d = e ∙ (λ j. Some (record { number = (n ∙ expected_kept i (after is)) j; command = d j }))

-- what a command that is done leaves of a mode: only those two change it
done_mode : (s : State) (c : Command) (b : Bool) → (c ≡ Command.Sleep → true ≡ b) → (c ≡ Command.Wake → false ≡ b) → s.safe_mode ≡ b → (done s c).safe_mode ≡ b
done_mode s Command.Sleep b f g e = f refl
done_mode s Command.Wake b f g e = g refl
done_mode s _ b f g e = e

after_mode : (i : Inputs) (is : List Inputs) (b : Bool) → (Turn i is Command.Sleep → true ≡ b) → (Turn i is Command.Wake → false ≡ b)
    → (at_release i (after is)).safe_mode ≡ b → (after (i ∷ is)).safe_mode ≡ b
after_mode i is b f g e =
    let r = at_reception i (after is) in
    let h : r.safe_mode ≡ b = (reception i (after is)).safe_mode ∙ e in
    ticked_cases (λ (u : State). u.safe_mode ≡ b) i (after is) (λ _. h)
    (λ t o. obeyed_cases t r (λ (u : State). u.safe_mode ≡ b)
    (λ n _. done_mode r t.command b (λ d. f (has_turn i is t Command.Sleep o n d)) (λ d. g (has_turn i is t Command.Wake o n d)) h) (λ _ _. h) (λ _. h))

pub safe_lasts : SafeLasts
safe_lasts = record {
  in_release = λ i s. (reception i s).safe_mode;
  stays = λ i is f e. after_mode i is true (λ _. refl) (λ t. absurd (f t)) e;
  awake = λ i is f e. after_mode i is false (λ t. absurd (f t)) (λ _. refl) e;
}
