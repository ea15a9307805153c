-- What a report expects was obeyed before it, exactly and in order.
use Rattle.std.proofs.Common.{◌≡◌, ℕ, zero, suc, ◌≤◌, List, [], ◌∷◌, ◌++◌, reverse, length, get_or, take, Some, sym, refl, ap, ◌∙◌, subst, ⊎_elim, add-one, arith}
use Rattle.std.proofs.lemmas.List.{reverse-append, take_more}
use Rattle.frame.specs.declared.Command.{Command}
use Rattle.frame.specs.declared.Telecommand.{Telecommand}
use Rattle.satellite.specs.State.{State}
use Rattle.satellite.specs.Story.{Inputs, at_reception}
use Rattle.flight.specs.Flight.{after}
use Rattle.flight.specs.Commanding.{heard, FromGround, obeyed_in, first_sent}
use Rattle.flight.proofs.Steps.{ticked_cases}
use Rattle.flight.proofs.Commanded.{expected_kept, obeyed_expected, obeyed_else, each_once}
use Rattle.std.proofs.lemmas.Bool.{cases_eq}
use Rattle.station.specs.Passes.{FromFile, SurelyObeyed}

-- the commands of a file, by their numbers
abbrev sent : List Command → ℕ → Command
sent cs n = get_or cs n Command.Sleep

from_ground : (cs : List Command) (is : List Inputs) → FromFile cs is → FromGround (sent cs) is
from_ground cs [] f = tt
from_ground cs (i ∷ is) f = ((λ t e. ap (λ (u : Telecommand). u.command) (f.0 t e).1), from_ground cs is f.1)

-- one tick moves the expected number on by one at most, and only if that command came up
pub tick_expected : (P : ℕ → Type 0) (i : Inputs) (is : List Inputs) → P (after is).expected → ((t : Telecommand) → heard i is ≡ Some t → t.number ≡ (after is).expected → P (suc (after is).expected)) → P (after (i ∷ is)).expected
tick_expected P i is stays moves =
    let r = at_reception i (after is) in
    let k = expected_kept i (after is) in
    ticked_cases (λ (u : State). P u.expected) i (after is) (λ _. subst P (sym k) stays)
    (λ t e. ⊎_elim
    (λ (d : t.number ≡ r.expected). subst P (sym (obeyed_expected t r d ∙ ap suc k)) (moves t e (d ∙ k)))
    (λ (f : t.number ≡ r.expected → ⊥). subst (λ (u : State). P u.expected) (sym (obeyed_else t r f)) (subst P (sym k) stays))
    (cases_eq t.number r.expected))

pub within_file : (cs : List Command) (is : List Inputs) → FromFile cs is → (after is).expected ≤ length cs
within_file cs [] f = omega arith
within_file cs (i ∷ is) f =
    let h = within_file cs is f.1 in
    tick_expected (λ n. n ≤ length cs) i is h (λ t e d. let l = (f.0 t e).0 in omega arith)

pub expected_grows : (i : Inputs) (is : List Inputs) → (after is).expected ≤ (after (i ∷ is)).expected
expected_grows i is = tick_expected (λ n. (after is).expected ≤ n) i is (omega arith) (λ t e d. omega arith)

in_order : (cs : List Command) (n : ℕ) → n ≤ length cs → reverse (first_sent (sent cs) n) ≡ take n cs
in_order cs zero l = refl
in_order cs (suc n) l =
    reverse-append (get_or cs n Command.Sleep ∷ []) (first_sent (sent cs) n) ∙ ap (λ (x : List Command). x ++ (get_or cs n Command.Sleep ∷ [])) (in_order cs n (omega arith))
    ∙ sym (take_more cs n Command.Sleep (omega arith)) ∙ ap (λ k. take k cs) (add-one n)

pub surely_obeyed : SurelyObeyed
surely_obeyed cs is n f e =
    let l = within_file cs is f in
    let o : obeyed_in is ≡ first_sent (sent cs) (after is).expected = each_once (sent cs) is (from_ground cs is f) in
    (subst (λ m. m ≤ length cs) e l, ap reverse o ∙ in_order cs (after is).expected l ∙ ap (λ m. take m cs) e)
