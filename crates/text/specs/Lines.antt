-- The lines of a text, read one after the other.
use Rattle.std.specs.Prelude.{◌≡◌, ℕ, ◌+◌, ◌^◌, ◌<◌, Bool, List, [], ◌∷◌, length, Some, None, Option, Ok, Err, Result}
use Rattle.std.specs.Iterator.Adapters.{enumerate_source, enumerate_count}
use Rattle.text.specs.declared.fault.Fault.{Fault}
use Rattle.text.specs.declared.fault.Unread.{Unread}
use Rattle.text.specs.declared.statement.Statements.{Statements}
use Rattle.text.specs.Cut.{left}
use Rattle.text.specs.Text.{Language, Reads}
use Rattle.text.specs.Words.{line_words}

module _ {E : Type 0} where
  -- the lines that are left, and the number of the next one
  abbrev pub rest : Statements E → List (List ℕ)
  rest s = left (enumerate_source s.lines)

  abbrev pub line_number : Statements E → ℕ
  line_number s = enumerate_count s.lines

  abbrev pub IsNumbered : Statements E → Type 0
  IsNumbered s = line_number s + length (rest s) < 2 ^ 64

  module _ (l : Language E) where
    -- what a line says, or the fault at its number
    abbrev pub ReadsAt : ℕ → Bool → List ℕ → Result (Option E) Fault → Type 0
    ReadsAt n heard bs (Ok o) = Reads l heard (line_words bs) (Ok o)
    ReadsAt n heard bs (Err (Fault.Unreadable m x)) =
        (m ≡ n) × Reads l heard (line_words bs) (Err (Unread.Expected x))
    ReadsAt n heard bs (Err Fault.Memory) = Unit {0}

    -- what it leaves for the next line
    abbrev pub left_by : {X : Type 0} → Bool → Result (Option E) X → Bool
    left_by heard (Ok (Some e)) = l.heard_after heard e
    left_by heard (Ok None) = heard
    left_by heard (Err f) = heard

    abbrev pub reads_next : Statements E → Option (Result (Option E) Fault) → Statements E → Type 0
    reads_next s None t = (rest s ≡ []) × (rest t ≡ [])
    reads_next s (Some r) t =
        (bs : List ℕ) × (rest s ≡ bs ∷ rest t) × (line_number t ≡ line_number s + 1) ×
        ReadsAt (line_number s) s.heard bs r × (t.heard ≡ left_by s.heard r)
