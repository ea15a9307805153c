-- What is received has small numbers.
use Rattle.std.proofs.Common.{◌≡◌, ℕ, ◌+◌, ◌<◌, ◌≤◌, Bool, true, cond, ◌&&◌, eqb, List, length, get_or, Some, None, subst, ⊎_elim, arith}
use Rattle.std.proofs.lemmas.Bool.{and_parts, cases_lt, cond_both}
use Rattle.std.proofs.lemmas.List.{get_or_past}
use Rattle.schedule.specs.declared.activity.Activity.{Activity}
use Rattle.rules.specs.declared.rule.Rule.{Rule}
use Rattle.schedule.specs.Numbers.{activity_from}
use Rattle.rules.specs.Numbers.{rule_from}
use Rattle.frame.specs.declared.Command.{Command}
use Rattle.frame.specs.declared.Telecommand.{Telecommand}
use Rattle.frame.specs.Frame.{all_small, check_of, is_whole, command_of, decoded}
use Rattle.frame.proofs.Smallness.{each_small}

-- a number that a frame can carry
abbrev pub Small : ℕ → Type 0
Small n = n ≤ 4294967295

pub record SmallRule (r : Rule) : Type 0 where
  pub watches : Small r.watches
  pub limit : Small r.limit
  pub needs : Small r.needs
  pub place : Small r.place
  pub number : Small r.number

pub record SmallActivity (a : Activity) : Type 0 where
  pub release : Small a.release
  pub place : Small a.place
  pub number : Small a.number

-- the numbers that a command leaves in the state
abbrev pub SmallCommand : Command → Type 0
SmallCommand (Command.Put place number) = Small number
SmallCommand (Command.Later a) = SmallActivity a
SmallCommand (Command.SetRule k r) = SmallRule r
SmallCommand _ = Unit {0}

small_at : (f : List ℕ) → all_small f ≡ true → (k : ℕ) → Small (get_or f k 0)
small_at f s k = ⊎_elim (λ (l : k < length f). each_small f s k l) (λ (l : length f ≤ k). rw (get_or_past f k 0 l) (omega arith)) (cases_lt k (length f))

either : (b : Bool) (x y : Command) → SmallCommand x → SmallCommand y → SmallCommand (cond b x y)
either b x y p q = cond_both b x y SmallCommand (λ _. p) (λ _. q)

-- a line for each kind
command_small : (f : List ℕ) → all_small f ≡ true → SmallCommand (command_of f)
command_small f s =
    let k = get_or f 1 0 in
    let g = small_at f s in
    either (eqb k 0) (Command.Put (get_or f 2 0) (get_or f 3 0)) _ (g 3)
    (either (eqb k 1) (Command.Later (activity_from (λ j. get_or f (2 + j) 0))) _ (record { release = g 2; place = g 3; number = g 4 })
    (either (eqb k 2) Command.Forget _ tt
    (either (eqb k 3) Command.Sleep _ tt
    (either (eqb k 4) Command.Wake _ tt
    (either (eqb k 5) (Command.SetRule (get_or f 2 0) (rule_from (λ j. get_or f (3 + j) 0))) (Command.Unknown k) (record { watches = g 3; limit = g 4; needs = g 6; place = g 8; number = g 9 })
    tt)))))

pub decoded_small : (f : List ℕ) (t : Telecommand) → decoded f ≡ Some t → SmallCommand t.command
decoded_small f t e =
    cond_both (is_whole f) (Some (record { number = get_or f 0 0; command = command_of f })) None (λ o. o ≡ Some t → SmallCommand t.command)
    (λ w d. let p : record { number = get_or f 0 0; command = command_of f } ≡ t = cc in
    subst (λ (u : Telecommand). SmallCommand u.command) p (command_small f (and_parts (all_small f) (eqb (get_or f 11 0) (check_of f)) (and_parts (eqb (length f) 12) (all_small f && eqb (get_or f 11 0) (check_of f)) w).1).0))
    (λ w d. cc) e
