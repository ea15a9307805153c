-- What is encoded decodes to the same telecommand.
use Rattle.std.proofs.Common.{◌≡◌, ℕ, ◌≤◌, Bool, true, false, eqb, leb, List, get_or, set, Some, None, sym, refl, ap, ◌∙◌, mod-lt, arith}
use Rattle.std.proofs.lemmas.Bool.Decides.{nat_tests}
use Rattle.std.proofs.lemmas.Bool.{eq-eqb, le-leb, leb-true, and_parts, and_from, and_left, and_right, cond-true, cond-false}
use Rattle.frame.specs.declared.Command.{Command}
use Rattle.frame.specs.declared.Telecommand.{Telecommand}
use Rattle.rules.specs.Numbers.{bit}
use Rattle.frame.specs.Frame.{all_small, weighed, check_of, is_whole, command_of, decoded, kinds, is_kind, body, encoded, encodable, encoding}

check_small : (f : List ℕ) → check_of f ≤ 4294967295
unfolding check_of
check_small f = omega (arith, mod-lt (weighed 11 f) {m = 65521} (omega arith))

-- the check does not look at the check
check_same : (t : Telecommand) (v : ℕ) → check_of (set (body t) 11 v) ≡ check_of (body t)
unfolding check_of weighed
check_same t v = refl

-- numbers that are small with a nought behind them are small with any small number there
last_small : (t : Telecommand) (v : ℕ) → all_small (body t) ≡ true → leb v 4294967295 ≡ true → all_small (set (body t) 11 v) ≡ true
last_small t v s l = rw l s

whole_back : (t : Telecommand) → all_small (body t) ≡ true → is_whole (encoded t) ≡ true
whole_back t s =
    let l : List ℕ = body t in
    let v : ℕ = check_of l in
    and_from (all_small (set l 11 v)) (eqb v (check_of (set l 11 v))) (last_small t v s (le-leb v 4294967295 (check_small l))) (eq-eqb v (check_of (set l 11 v)) (sym (check_same t v)))

bit_back : (b : Bool) → eqb (bit b) 1 ≡ b
bit_back true = refl
bit_back false = refl

-- a number past the kinds is of none
no_kind : (f : List ℕ) → kinds ≤ get_or f 1 0 → Command.Unknown (get_or f 1 0) ≡ command_of f
no_kind f l = grind (arith, nat_tests)

-- the command is read back, if its kind is its own
command_back : (n : ℕ) (c : Command) (v : ℕ) → is_kind c ≡ true → command_of (set (body (record { number = n; command = c })) 11 v) ≡ c
command_back n (Command.SetRule k r) v h = λ i. Command.SetRule k (record { watches = r.watches; limit = r.limit; upward = bit_back r.upward i; needs = r.needs; safes = bit_back r.safes i; place = r.place; number = r.number })
command_back n (Command.Unknown k) v h = sym (no_kind (set (body (record { number = n; command = Command.Unknown k })) 11 v) (leb-true kinds k h))
command_back n _ v h = refl

pub round_trip : (t : Telecommand) → encodable t ≡ true → decoded (encoded t) ≡ Some t
round_trip t h =
    let p = and_parts (all_small (body t)) (is_kind t.command) h in
    cond-true (is_whole (encoded t)) (Some (record { number = t.number; command = command_of (encoded t) })) None (whole_back t p.0)
    ∙ ap Some (λ i. record { number = t.number; command = command_back t.number t.command (check_of (body t)) p.1 i })

-- what the encoder answers where the telecommand is encodable, and where it is not
pub encoding_some : (t : Telecommand) (f : List ℕ) (v : ℕ) → f ≡ body t → v ≡ check_of f → all_small f ≡ true → is_kind t.command ≡ true → Some (set f 11 v) ≡ encoding t
encoding_some t f v e d s k =
    ap Some (λ i. set (e i) 11 ((d ∙ ap check_of e) i)) ∙ sym (cond-true (encodable t) (Some (encoded t)) None (and_from (all_small (body t)) (is_kind t.command) (sym (ap all_small e) ∙ s) k))

pub encoding_large : (t : Telecommand) (f : List ℕ) → f ≡ body t → all_small f ≡ false → None ≡ encoding t
encoding_large t f e s = sym (cond-false (encodable t) (Some (encoded t)) None (and_left (all_small (body t)) (is_kind t.command) (sym (ap all_small e) ∙ s)))

pub encoding_other : (t : Telecommand) → is_kind t.command ≡ false → None ≡ encoding t
encoding_other t k = sym (cond-false (encodable t) (Some (encoded t)) None (and_right (all_small (body t)) (is_kind t.command) k))
