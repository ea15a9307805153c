-- The words of each event: what is written, and all that is read.
use Rattle.std.specs.Prelude.{◌≡◌, ℕ, Bool, true, List, [], ◌∷◌, map, length, Some, None, Option, ◌≢◌}
use Rattle.rules.specs.declared.rule.Rule as Rule
use Rattle.schedule.specs.declared.activity.Activity.{Activity}
use Rattle.schedule.specs.Numbers.{activity_numbers}
use Rattle.rules.specs.Numbers.{rule_numbers}
use Rattle.frame.specs.declared.Command.{Command}
use Rattle.text.specs.declared.words.Word.{Word}
use Rattle.text.specs.declared.words.Keyword.{Keyword}
use Rattle.text.specs.declared.event.Event.{Event}
use Rattle.text.specs.Law.{bounded, command_bounded}

-- an unknown command has no name
abbrev pub command_words : Command → List Word
command_words (Command.Put a b) = Word.Keyword Keyword.Put ∷ map Word.Number (a ∷ b ∷ [])
command_words (Command.Later a) = Word.Keyword Keyword.Later ∷ map Word.Number (activity_numbers a)
command_words Command.Forget = Word.Keyword Keyword.Forget ∷ []
command_words Command.Sleep = Word.Keyword Keyword.Sleep ∷ []
command_words Command.Wake = Word.Keyword Keyword.Wake ∷ []
command_words (Command.SetRule k r) =
    Word.Keyword Keyword.Rule ∷ map Word.Number (k ∷ rule_numbers r)
command_words (Command.Unknown k) = Word.Other ∷ Word.Number k ∷ []

abbrev pub event_words : Event → List Word
event_words (Event.Read i v) = Word.Keyword Keyword.Read ∷ map Word.Number (i ∷ v ∷ [])
event_words (Event.Up n c) = Word.Keyword Keyword.Up ∷ Word.Number n ∷ command_words c
event_words (Event.Frame xs) = Word.Keyword Keyword.Frame ∷ map Word.Number xs
event_words (Event.Hit c w v) = Word.Keyword Keyword.Hit ∷ map Word.Number (c ∷ w ∷ v ∷ [])
event_words Event.Tick = Word.Keyword Keyword.Tick ∷ []

-- what has these words; if there is none, nothing that passes has them
abbrev pub Found : {E : Type 0} → (E → List Word) → (E → Bool) → List Word → Option E → Type 0
Found {E} table passes ws None = (e : E) → passes e ≡ true → ws ≢ table e
Found table passes ws (Some e) = ws ≡ table e

-- and what is found passes
abbrev pub Finds : {E : Type 0} → (E → List Word) → (E → Bool) → List Word → Option E → Type 0
Finds {E} table passes ws None = (e : E) → passes e ≡ true → ws ≢ table e
Finds table passes ws (Some e) = (passes e ≡ true) × (ws ≡ table e)

-- what words are read as: the event that has them; if there is none, none in its bounds has them
abbrev pub Events : List Word → Option Event → Type 0
Events ws o = Found event_words bounded ws o

abbrev pub Commands : List Word → Option Command → Type 0
Commands ws o = Found command_words command_bounded ws o

abbrev pub amount : Word → Option ℕ
amount (Word.Number n) = Some n
amount _ = None

-- the words after `later` are those of an activity
abbrev pub ActivityNumbers : List Word → Option Activity → Type 0
ActivityNumbers ws None = (a : Activity) → ws ≢ map Word.Number (activity_numbers a)
ActivityNumbers ws (Some a) = ws ≡ map Word.Number (activity_numbers a)

-- the words are the numbers of a rule
abbrev pub RuleNumbers : List Word → Option Rule.Rule → Type 0
RuleNumbers ws None = (r : Rule.Rule) → ws ≢ map Word.Number (rule_numbers r)
RuleNumbers ws (Some r) = ws ≡ map Word.Number (rule_numbers r)

-- the words are n numbers
abbrev pub Numbers : ℕ → List Word → Option (List ℕ) → Type 0
Numbers n ws None = (xs : List ℕ) → length xs ≡ n → ws ≢ map Word.Number xs
Numbers n ws (Some xs) = (length xs ≡ n) × (ws ≡ map Word.Number xs)
