-- How words are kept: three times. What is above memory names this keeper, and knows of no copies.
use Rattle.std.specs.Prelude.{ℕ, List}
use Rattle.memory.specs.Keeper.{Keeper, Keeps}
use Rattle.memory.specs.Threefold.{threefold}

abbrev pub keeper : ℕ → Keeper (List ℕ)
keeper n = threefold n

-- an upset in one copy of each word at most is voted away, and what was written is kept
abbrev pub KeepsWords : Type 0
KeepsWords = (n : ℕ) → Keeps n (keeper n)
