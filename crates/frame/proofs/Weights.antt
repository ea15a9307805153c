-- The weighed sum of a frame's numbers, one more at a time.
use Rattle.std.proofs.Common.{◌≡◌, ℕ, ◌+◌, ◌*◌, ◌%◌, ◌<◌, ◌≤◌, List, get_or, refl, ap, mul-le-mul, add-one, arith}
use Rattle.frame.specs.Frame.{weighed, check_of}

pub weighed_none : (f : List ℕ) → 0 ≡ weighed 0 f
unfolding weighed
weighed_none f = refl

pub weighed_more : (n : ℕ) (f : List ℕ) → weighed (n + 1) f ≡ weighed n f + (n + 1) * get_or f n 0
unfolding weighed
weighed_more n f = rw add-one refl

-- a number of a frame, weighed
pub product : (i x : ℕ) → i < 11 → x ≤ 4294967295 → (i + 1) * x ≤ 47244640245
product i x h l = omega (arith, mul-le-mul {n₁ = i + 1} {m₁ = x} {n₂ = 11} {m₂ = 4294967295} (omega arith) l)

pub check_is : (f : List ℕ) (n : ℕ) → n ≡ weighed 11 f → n % 65521 ≡ check_of f
unfolding check_of
check_is f n e = ap (λ x. x % 65521) e
