-- What a text says: the events in their order, or the first line at fault and what it should be.
use Rattle.std.specs.Prelude.{◌≡◌, ℕ, ◌+◌, ◌<◌, Bool, true, false, List, [], ◌∷◌, map, length, take, Some, None, Option, Ok, Err, Result, ◌≢◌, slice_index_or}
use Rattle.std.specs.List.{AllByRecursion}
use Rattle.frame.specs.declared.Command.{Command}
use Rattle.text.specs.declared.words.Word.{Word}
use Rattle.text.specs.declared.words.Keyword.{Keyword}
use Rattle.text.specs.declared.event.Event.{Event}
use Rattle.text.specs.declared.fault.Expected.{Expected}
use Rattle.text.specs.declared.fault.Fault.{Fault}
use Rattle.text.specs.declared.fault.Unread.{Unread}
use Rattle.text.specs.Words.{lines, Writable}
use Rattle.text.specs.Table.{command_words, event_words}
use Rattle.text.specs.Law.{bounded, allowed, heard_after, command_bounded, all_said}

-- the lines that have words
abbrev pub spoken : List (List Word) → List (List Word)
spoken [] = []
spoken ([] ∷ ls) = spoken ls
spoken ((w ∷ ws) ∷ ls) = (w ∷ ws) ∷ spoken ls

-- they have the words of these things, in order
abbrev pub LinesSay : {E : Type 0} → (E → List Word) → List (List Word) → List E → Type 0
LinesSay table ls es = spoken ls ≡ map table es

-- what a line should have been, by its first word
abbrev pub wanted : Word → Expected
wanted (Word.Keyword Keyword.Read) = Expected.Read
wanted (Word.Keyword Keyword.Up) = Expected.Up
wanted (Word.Keyword Keyword.Frame) = Expected.Frame
wanted (Word.Keyword Keyword.Hit) = Expected.Hit
wanted (Word.Keyword Keyword.Tick) = Expected.Tick
wanted _ = Expected.Event

abbrev pub by_first : List Word → Expected
by_first [] = Expected.Event
by_first (w ∷ ws) = wanted w

-- the words are those of an event in its bounds
abbrev pub Sound : List Word → Type 0
Sound ws = (e : Event) × (bounded e ≡ true) × (ws ≡ event_words e)

-- what the line at fault should have been: a sound one came too early, a second frame in its tick
abbrev pub Expects : List Word → Expected → Type 0
Expects ws x = (Sound ws → x ≡ Expected.TickFirst) × ((Sound ws → ⊥) → x ≡ by_first ws)

-- what may be said in a text: the words of each thing, when it may be said, what it leaves for the
-- lines after it, and what a line should have been that says none
pub record Language (E : Type 0) : Type 1 where
  pub words : E → List Word
  pub may : Bool → E → Bool
  pub heard_after : Bool → E → Bool
  pub Expects : List Word → Expected → Type 0

abbrev pub flights : Language Event
flights = record {
  words = event_words;
  may = allowed;
  heard_after = heard_after;
  Expects = Expects;
}

-- a command may be said whatever the others are
abbrev pub orders : Language Command
orders = record {
  words = command_words;
  may = λ _ c. command_bounded c;
  heard_after = λ heard _. heard;
  Expects = λ _ x. x ≡ Expected.Command;
}

-- what is written in a language can be read back: its words tell what a thing is, there is one at
-- least, and they can be written
pub record Readable {E : Type 0} (l : Language E) : Type 0 where
  pub back : List Word → E
  pub undo : (e : E) → back (l.words e) ≡ e
  pub some : (e : E) → l.words e ≡ [] → ⊥
  pub writable : (heard : Bool) (e : E) → l.may heard e ≡ true
      → AllByRecursion Writable (l.words e)

module _ {E : Type 0} (l : Language E) where
  -- nothing that may be said now has these words, and this is what they should have been
  abbrev pub Unsaid : Bool → List Word → Expected → Type 0
  Unsaid heard ws x = ((e : E) → l.may heard e ≡ true → ws ≢ l.words e) × l.Expects ws x

  -- what may be said now and has these words
  abbrev pub IsSaid : Bool → List Word → E → Type 0
  IsSaid heard ws e = (l.may heard e ≡ true) × (ws ≡ l.words e)

  -- one line: it has no words, or says something, or should have been something else
  abbrev pub Reads : Bool → List Word → Result (Option E) Unread → Type 0
  Reads heard ws (Ok None) = ws ≡ []
  Reads heard ws (Ok (Some e)) = IsSaid heard ws e
  Reads heard ws (Err (Unread.Expected x)) = (ws ≢ []) × Unsaid heard ws x
  Reads heard ws (Err Unread.Memory) = Unit {0}

  -- each may be said after the ones before it, from the start of a text
  abbrev pub IsLawful : List E → Type 0
  IsLawful es = all_said l.may l.heard_after false es ≡ true

  -- a text says these things, and they are lawful
  abbrev pub Tells : List ℕ → List E → Type 0
  Tells text es = LinesSay l.words (lines text) es × IsLawful es

  -- the first n lines say something lawful, and with the next one they do not
  pub record FirstFault (ls : List (List Word)) (n : ℕ) : Type 0 where
    pub within : n < length ls
    pub before : (es : List E) × LinesSay l.words (take n ls) es × IsLawful es
    pub silent : (es : List E) → LinesSay l.words (take (n + 1) ls) es → IsLawful es → ⊥

  -- its first line at fault
  abbrev pub Fails : List ℕ → Fault → Type 0
  Fails text (Fault.Unreadable n x) =
      FirstFault (lines text) n × l.Expects (slice_index_or (lines text) n []) x
  Fails text Fault.Memory = Unit {0}

abbrev pub fault_at : ℕ → Unread → Fault
fault_at n (Unread.Expected x) = Fault.Unreadable n x
fault_at n Unread.Memory = Fault.Memory
