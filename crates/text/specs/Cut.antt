-- A list of bytes is cut at the bytes that pass a test.
use Rattle.std.specs.Prelude.{◌≡◌, ℕ, ◌≤◌, Bool, cond, ◌||◌, List, [], ◌∷◌, length, take, drop, ◌==◌, Some, None, Option}
use denote.Ref.{Bor}
use Rattle.text.specs.declared.cut.Pieces.{Pieces}
use Rattle.text.specs.declared.cut.Stop.{Stop}

-- the bytes that end a line, that begin a comment, and that stand between words
abbrev pub stops : Stop → ℕ → Bool
stops Stop.Line b = b == 10
stops Stop.Comment b = b == 35
stops Stop.Blank b = b == 32 || b == 9

-- what comes before the first byte that passes
abbrev pub before : (ℕ → Bool) → List ℕ → List ℕ
before p [] = []
before p (b ∷ bs) = cond (p b) [] (b ∷ before p bs)

-- one byte more at the front of the first piece
abbrev pub grown : ℕ → List (List ℕ) → List (List ℕ)
grown b [] = []
grown b (w ∷ ws) = (b ∷ w) ∷ ws

-- the pieces between the bytes that pass, of which there is always one
abbrev pub cut : (ℕ → Bool) → List ℕ → List (List ℕ)
cut p [] = [] ∷ []
cut p (b ∷ bs) = cond (p b) ([] ∷ cut p bs) (grown b (cut p bs))

-- the pieces after the first, where the list goes on with a byte that passes, or ends
abbrev pub further : (ℕ → Bool) → List ℕ → List (List ℕ)
further p [] = []
further p (b ∷ bs) = cut p bs

-- the first piece has n bytes
pub record First (p : ℕ → Bool) (bs : List ℕ) (n : ℕ) : Type 0 where
  pub within : n ≤ length bs
  pub pieces : cut p bs ≡ take n bs ∷ further p (drop n bs)
  pub piece : before p bs ≡ take n bs

-- the pieces that are left, of which there is one more as long as there is a rest
abbrev pub cut_some : (ℕ → Bool) → Option (Bor (List ℕ)) → List (List ℕ)
cut_some p None = []
cut_some p (Some bs) = cut p bs.now

abbrev pub left : Pieces → List (List ℕ)
left s = cut_some (stops s.stop) s.rest
