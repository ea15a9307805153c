-- The text of events: a line for each.
use Rattle.std.specs.Prelude.{◌≡◌, ℕ, List, [], ◌∷◌, ◌++◌, decimal}
use Rattle.text.specs.declared.words.Word.{Word}
use Rattle.text.specs.declared.fault.Fault.{Fault}
use Rattle.text.specs.Text.{Language, Tells, Fails}
use Rattle.text.specs.Words.{spelt}

-- numbers, each after a space
abbrev pub listed : List ℕ → List ℕ
listed [] = []
listed (x ∷ xs) = 32 ∷ (decimal x ++ listed xs)

-- the words of each, with a newline after them
abbrev pub rendered : {E : Type 0} → (E → List Word) → List E → List ℕ
rendered table [] = []
rendered table (e ∷ es) = spelt (table e) ++ (10 ∷ rendered table es)

-- a text is read as these, or not at all for want of memory
pub record Only {E : Type 0} (l : Language E) (text : List ℕ) (es : List E) : Type 0 where
  pub told : Tells l text es
  pub once : (fs : List E) → Tells l text fs → fs ≡ es
  pub faultless : (f : Fault) → Fails l text f → f ≡ Fault.Memory
