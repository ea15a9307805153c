-- The words of a line, and how they are written.
use Rattle.std.specs.Prelude.{ℕ, ◌^◌, ◌<◌, cond, List, [], ◌∷◌, ◌++◌, map, filter, length, not, ◌==◌, Some, None, codes, decimal, Option}
use Rattle.std.specs.Str.{bytes_eq}
use Rattle.text.specs.declared.words.Word.{Word}
use Rattle.text.specs.declared.words.Keyword.{Keyword}
use Rattle.text.specs.declared.cut.Stop.{Stop}
use Rattle.text.specs.Cut.{stops, before, cut}
use Rattle.text.specs.Number.{read_number}

-- how each keyword is spelt
abbrev pub spelling : Keyword → List ℕ
spelling Keyword.Read = codes "read"
spelling Keyword.Up = codes "up"
spelling Keyword.Frame = codes "frame"
spelling Keyword.Hit = codes "hit"
spelling Keyword.Tick = codes "tick"
spelling Keyword.Put = codes "put"
spelling Keyword.Later = codes "later"
spelling Keyword.Forget = codes "forget"
spelling Keyword.Sleep = codes "sleep"
spelling Keyword.Wake = codes "wake"
spelling Keyword.Rule = codes "rule"

abbrev pub keywords : List Keyword
keywords =
    Keyword.Read ∷ Keyword.Up ∷ Keyword.Frame ∷ Keyword.Hit ∷ Keyword.Tick ∷ Keyword.Put
    ∷ Keyword.Later ∷ Keyword.Forget ∷ Keyword.Sleep ∷ Keyword.Wake ∷ Keyword.Rule ∷ []

-- the first of some keywords that is spelt so
abbrev pub spelt_by : List ℕ → List Keyword → Option Keyword
spelt_by bs [] = None
spelt_by bs (k ∷ ks) = cond (bytes_eq bs (spelling k)) (Some k) (spelt_by bs ks)

abbrev pub named : List ℕ → Option Keyword
named bs = spelt_by bs keywords

abbrev pub keyword_or_other : Option Keyword → Word
keyword_or_other (Some k) = Word.Keyword k
keyword_or_other None = Word.Other

abbrev pub numbered : Option ℕ → List ℕ → Word
numbered (Some n) bs = Word.Number n
numbered None bs = keyword_or_other (named bs)

abbrev pub worded : List ℕ → Word
worded bs = numbered (read_number bs) bs

-- those that are not empty
abbrev pub filled : List (List ℕ) → List (List ℕ)
filled ws = filter (λ w. not (length w == 0)) ws

-- the words between blanks
abbrev pub spaced : List ℕ → List Word
spaced bs = map worded (filled (cut (stops Stop.Blank) bs))

-- what comes before the comment
abbrev pub line_words : List ℕ → List Word
line_words bs = spaced (before (stops Stop.Comment) bs)

abbrev pub lines : List ℕ → List (List Word)
lines bs = map line_words (cut (stops Stop.Line) bs)

abbrev pub written : Word → List ℕ
written (Word.Number n) = decimal n
written (Word.Keyword k) = spelling k
written Word.Other = codes "?"

-- the words of a line, with a space between
abbrev pub spelt : List Word → List ℕ
spelt [] = []
spelt (w ∷ []) = written w
spelt (w ∷ v ∷ ws) = written w ++ (32 ∷ spelt (v ∷ ws))

-- what can be written so that it is read back: a number below 2^64, or a keyword
abbrev pub Writable : Word → Type 0
Writable (Word.Number n) = n < 2 ^ 64
Writable (Word.Keyword k) = Unit {0}
Writable Word.Other = ⊥
