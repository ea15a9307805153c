-- The table of words can be undone: two events have the same words only where they are the same.
use Rattle.std.proofs.Common.{◌≡◌, ℕ, Bool, true, false, eqb, List, [], ◌∷◌, map, get_or, drop, Some, None, Option, MatchOption, sym, refl, ap, ◌∙◌, subst, arith}
use Rattle.std.specs.Bool.{then_some}
use Rattle.std.proofs.lemmas.Bool.{false≢true}
use Rattle.rules.specs.Numbers.{bit}
use Rattle.frame.specs.declared.Command.{Command}
use Rattle.text.specs.declared.words.Word.{Word}
use Rattle.text.specs.declared.words.Keyword.{Keyword}
use Rattle.text.specs.declared.event.Event.{Event}
use Rattle.text.specs.Table.{command_words, event_words, amount, Found, Finds}

or_zero : Option ℕ → ℕ
or_zero None = 0
or_zero (Some n) = n

pub num : Word → ℕ
num w = or_zero (amount w)

nth : List Word → ℕ → ℕ
nth ws i = num (get_or ws i Word.Other)

command_named : Word → List Word → Command
command_named (Word.Keyword Keyword.Put) ws = Command.Put (nth ws 1) (nth ws 2)
command_named (Word.Keyword Keyword.Later) ws = Command.Later (record { release = nth ws 1; place = nth ws 2; number = nth ws 3 })
command_named (Word.Keyword Keyword.Forget) ws = Command.Forget
command_named (Word.Keyword Keyword.Sleep) ws = Command.Sleep
command_named (Word.Keyword Keyword.Wake) ws = Command.Wake
command_named (Word.Keyword Keyword.Rule) ws = Command.SetRule (nth ws 1) (record { watches = nth ws 2; limit = nth ws 3; upward = eqb (nth ws 4) 1; needs = nth ws 5; safes = eqb (nth ws 6) 1; place = nth ws 7; number = nth ws 8 })
command_named _ ws = Command.Unknown (nth ws 1)

pub command_back : List Word → Command
command_back ws = command_named (get_or ws 0 Word.Other) ws

mark_back : (b : Bool) → eqb (bit b) 1 ≡ b
mark_back true = refl
mark_back false = refl

pub command_undo : (c : Command) → command_back (command_words c) ≡ c
unfolding command_back command_named nth num or_zero
command_undo (Command.SetRule k r) = λ i. Command.SetRule k (record { watches = r.watches; limit = r.limit; upward = mark_back r.upward i; needs = r.needs; safes = mark_back r.safes i; place = r.place; number = r.number })
command_undo _ = refl

event_named : Word → List Word → Event
event_named (Word.Keyword Keyword.Read) ws = Event.Read (nth ws 1) (nth ws 2)
event_named (Word.Keyword Keyword.Up) ws = Event.Up (nth ws 1) (command_back (drop 2 ws))
event_named (Word.Keyword Keyword.Frame) ws = Event.Frame (map num (drop 1 ws))
event_named (Word.Keyword Keyword.Hit) ws = Event.Hit (nth ws 1) (nth ws 2) (nth ws 3)
event_named _ ws = Event.Tick

pub event_back : List Word → Event
event_back ws = event_named (get_or ws 0 Word.Other) ws

pub all_num : (xs : List ℕ) → map num (map Word.Number xs) ≡ xs
unfolding num or_zero
all_num [] = refl
all_num (x ∷ xs) = ap (λ (l : List ℕ). x ∷ l) (all_num xs)

pub event_undo : (e : Event) → event_back (event_words e) ≡ e
unfolding event_back event_named nth num or_zero
event_undo (Event.Read i v) = refl
event_undo (Event.Up n c) = ap (Event.Up n) (command_undo c)
event_undo (Event.Frame xs) = ap Event.Frame (all_num xs)
event_undo (Event.Hit c w v) = refl
event_undo Event.Tick = refl

-- what is found, and passes
module _ {E : Type 0} (table : E → List Word) (passes : E → Bool) (back : List Word → E) (undo : (e : E) → back (table e) ≡ e) (ws : List Word) where
  passed_by : (e : E) (v : Bool) → passes e ≡ v → ws ≡ table e → Finds table passes ws (then_some v e)
  passed_by e true p w = (p, w)
  passed_by e false p w = λ d b k. false≢true (sym p ∙ ap passes (sym (undo e) ∙ ap back (sym w ∙ k) ∙ undo d) ∙ b)

  pub finds : (o r : Option E) → Found table passes ws o → MatchOption o (r ≡ None) (λ e. r ≡ then_some (passes e) e) → Finds table passes ws r
  finds None r f e = subst (Finds table passes ws) (sym e) f
  finds (Some d) r f e = subst (Finds table passes ws) (sym e) (passed_by d (passes d) refl f)

some_word : (w : Word) (ws : List Word) → w ∷ ws ≡ [] → ⊥
some_word w ws h = let z : ◌≡◌ {A = ℕ} 0 1 = cc in omega arith

pub event_some : (e : Event) → event_words e ≡ [] → ⊥
event_some Event.Tick = some_word _ _
event_some _ = some_word _ _

pub command_some : (c : Command) → command_words c ≡ [] → ⊥
command_some (Command.Unknown k) = some_word _ _
command_some _ = some_word _ _
