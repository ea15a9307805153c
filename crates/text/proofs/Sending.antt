-- A frame can carry each command that a text says.
use Rattle.std.proofs.Common.{◌≡◌, ℕ, zero, suc, ◌^◌, ◌<◌, ◌≤◌, Bool, true, false, ◌&&◌, ltb, leb, List, [], ◌∷◌, length, get_or, Ok, Err, Result, IfOk, MatchResult, refl, arith}
use Rattle.std.specs.List.{AllByRecursion as All}
use Rattle.std.proofs.lemmas.Bool.{and_parts, le-leb, ltb-true}
use Rattle.frame.specs.declared.Command.{Command}
use Rattle.frame.specs.File.{Sendable}
use Rattle.rules.specs.Numbers.{bit}
use Rattle.frame.specs.Frame.{encodable}
use Rattle.text.specs.Law.{all_below, command_bounded, all_said}
use Rattle.text.specs.Text.{orders, Tells}

Small : ℕ → Type 0
Small x = leb x 4294967295 ≡ true

all_small : (xs : List ℕ) → all_below 4294967296 xs ≡ true → All Small xs
unfolding Small
all_small [] l = tt
all_small (x ∷ xs) l =
    let t = and_parts (ltb x 4294967296) (all_below 4294967296 xs) l in
    (le-leb x 4294967295 (let m = ltb-true x 4294967296 t.0 in omega arith), all_small xs t.1)

small_bit : (b : Bool) → Small (bit b)
unfolding Small
small_bit true = refl
small_bit false = refl

carried : (n : ℕ) (c : Command) → Small n → command_bounded c ≡ true → encodable (record { number = n; command = c }) ≡ true
unfolding Small
carried n (Command.Put a b) s l =
    let t = all_small (a ∷ b ∷ []) l in
    λ i. (s i && (t.0 i && (t.1.0 i && true))) && true
carried n (Command.Later a) s l =
    let t = all_small (a.release ∷ a.place ∷ a.number ∷ []) l in
    λ i. (s i && (t.0 i && (t.1.0 i && (t.1.1.0 i && true)))) && true
carried n (Command.SetRule k r) s l =
    let t = all_small (k ∷ r.watches ∷ r.limit ∷ r.needs ∷ r.place ∷ r.number ∷ []) l in
    let u = small_bit r.upward in
    let v = small_bit r.safes in
    λ i. (s i && (t.0 i && (t.1.0 i && (t.1.1.0 i && (u i && (t.1.1.1.0 i && (v i && (t.1.1.1.1.0 i && (t.1.1.1.1.1.0 i && true))))))))) && true
carried n (Command.Unknown k) s l = absurd (let z : ◌≡◌ {A = ℕ} 0 1 = cc in omega arith)
carried n _ s l = λ i. (s i && true) && true

-- each of them may be said
each : (heard : Bool) (cs : List Command) → all_said orders.may orders.heard_after heard cs ≡ true → (n : ℕ) → n < length cs → command_bounded (get_or cs n Command.Sleep) ≡ true
each heard [] l n m = absurd (omega arith)
each heard (c ∷ cs) l zero m = (and_parts (command_bounded c) (all_said orders.may orders.heard_after heard cs) l).0
each heard (c ∷ cs) l (suc n) m = each heard cs (and_parts (command_bounded c) (all_said orders.may orders.heard_after heard cs) l).1 n (omega arith)

sendable : (text : List ℕ) (cs : List Command) → Tells orders text cs → length cs ≤ 2 ^ 32 → Sendable cs
unfolding Small
sendable text cs t long n m = carried n (get_or cs n Command.Sleep) (le-leb n 4294967295 (omega arith)) (each false cs t.1 n m)

pub all_sendable : {V F : Type 0} (items : V → List Command) (text : List ℕ) (r : Result V F) (Q : F → Type 0) → MatchResult r (λ v. Tells orders text (items v)) Q → IfOk r (λ v. length (items v) ≤ 2 ^ 32 → Sendable (items v))
all_sendable items text (Ok v) Q t = sendable text (items v) t
all_sendable items text (Err f) Q t = tt
