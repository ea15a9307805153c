-- Places of parameters: which may be put, and what reading the instruments leaves.
use Rattle.std.specs.Prelude.{ℕ, Bool, ◌&&◌, List, ◌++◌, drop, nat_le}

abbrev pub may_put : ℕ → Bool
may_put i = nat_le 16 i && nat_le i 63

-- sixteen readings take the first sixteen places, the other parameters stay
abbrev pub read_in : (readings values : List ℕ) → List ℕ
read_in readings values = readings ++ drop 16 values
