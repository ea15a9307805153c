-- Numbers that are all small, looked at one after the other.
use Rattle.std.proofs.Common.{◌≡◌, ℕ, zero, suc, ◌<◌, ◌≤◌, true, leb, List, [], ◌∷◌, length, get_or, arith}
use Rattle.std.proofs.lemmas.Bool.{leb-true, and_parts}
use Rattle.frame.specs.Frame.{all_small}

pub each_small : (xs : List ℕ) → all_small xs ≡ true → (i : ℕ) → i < length xs → get_or xs i 0 ≤ 4294967295
each_small [] e i lt = absurd (omega arith)
each_small (x ∷ xs) e zero lt = leb-true x 4294967295 (and_parts (leb x 4294967295) (all_small xs) e).0
each_small (x ∷ xs) e (suc i) lt = each_small xs (and_parts (leb x 4294967295) (all_small xs) e).1 i (omega arith)
