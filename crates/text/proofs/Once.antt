-- A text says one thing at most, and nothing where a line is at fault.
use Rattle.std.proofs.Common.{◌≡◌, ℕ, zero, suc, ◌+◌, ◌^◌, ◌<◌, Bool, true, false, ◌&&◌, eqb, ltb, List, [], ◌∷◌, ◌++◌, map, length, take, drop, sym, refl, ap, ◌∙◌, arith, take-append-drop}
use Rattle.std.specs.List.{AllByRecursion as All}
use Rattle.std.proofs.lemmas.List.{take_at, take-map}
use Rattle.std.proofs.lemmas.Bool.{and_parts, and_from, ltb-true}
use Rattle.rules.specs.Numbers.{bit}
use Rattle.frame.specs.declared.Command.{Command}
use Rattle.text.specs.declared.words.Word.{Word}
use Rattle.text.specs.declared.event.Event.{Event}
use Rattle.text.specs.declared.fault.Fault.{Fault}
use Rattle.text.specs.Law.{command_bounded, bounded, all_below, all_said, kept_words}
use Rattle.text.specs.Render.{rendered, Only}
use Rattle.text.specs.Table.{command_words, event_words}
use Rattle.text.specs.Text.{spoken, LinesSay, Language, Readable, flights, orders, Tells, Fails}
use Rattle.text.specs.Words.{Writable, lines}
use Rattle.text.proofs.Back.{says_back}
use Rattle.text.proofs.Telling.{spoken_append, once}
use Rattle.text.proofs.Undoing.{command_back, command_undo, command_some, event_back, event_undo, event_some}

-- the first lines say the first things
some_said : {E : Type 0} (table : E → List Word) (ls : List (List Word)) (k : ℕ) (es : List E) → LinesSay table ls es → LinesSay table (take k ls) (take (length (spoken (take k ls))) es)
some_said table ls k es s =
    let parts : spoken (take k ls) ++ spoken (drop k ls) ≡ map table es = sym (spoken_append (take k ls) (drop k ls)) ∙ ap spoken (take-append-drop k ls) ∙ s in
    sym (take_at (spoken (take k ls)) (spoken (drop k ls)) (length (spoken (take k ls))) refl) ∙ ap (take (length (spoken (take k ls)))) parts ∙ take-map table (length (spoken (take k ls))) es

-- what is lawful as a whole is so up to any place
first_lawful : {E : Type 0} (may after : Bool → E → Bool) (h : Bool) (n : ℕ) (es : List E) → all_said may after h es ≡ true → all_said may after h (take n es) ≡ true
first_lawful may after h zero es l = refl
first_lawful may after h (suc n) [] l = refl
first_lawful may after h (suc n) (e ∷ es) l =
    let t = and_parts (may h e) (all_said may after (after h e) es) l in
    and_from (may h e) (all_said may after (after h e) (take n es)) t.0 (first_lawful may after (after h e) n es t.1)

-- what may be said can be written

below : (x n : ℕ) → ltb x n ≡ true → n < 2 ^ 64 + 1 → x < 2 ^ 64
below x n l m = omega (arith, ltb-true x n l)

all_writable : (n : ℕ) → n < 2 ^ 64 + 1 → (xs : List ℕ) → all_below n xs ≡ true → All Writable (map Word.Number xs)
all_writable n m [] l = tt
all_writable n m (x ∷ xs) l = let t = and_parts (ltb x n) (all_below n xs) l in (below x n t.0 m, all_writable n m xs t.1)

carried : (xs : List ℕ) → all_below 4294967296 xs ≡ true → All Writable (map Word.Number xs)
carried xs l = all_writable 4294967296 (omega arith) xs l

mark_small : (b : Bool) → bit b < 2 ^ 64
mark_small true = omega arith
mark_small false = omega arith

pub command_writable : (c : Command) → command_bounded c ≡ true → All Writable (command_words c)
command_writable (Command.Put a b) l = (tt, carried (a ∷ b ∷ []) l)
command_writable (Command.Later a) l = (tt, carried (a.release ∷ a.place ∷ a.number ∷ []) l)
command_writable (Command.SetRule k r) l =
    let t = carried (k ∷ r.watches ∷ r.limit ∷ r.needs ∷ r.place ∷ r.number ∷ []) l in
    (tt, (t.0, (t.1.0, (t.1.1.0, (mark_small r.upward, (t.1.1.1.0, (mark_small r.safes, (t.1.1.1.1.0, (t.1.1.1.1.1.0, tt)))))))))
command_writable (Command.Unknown k) l = absurd (let z : ◌≡◌ {A = ℕ} 0 1 = cc in omega arith)
command_writable _ l = (tt, tt)

event_writable : (e : Event) → bounded e ≡ true → All Writable (event_words e)
event_writable (Event.Read i v) l = let t = and_parts (ltb i 16) (ltb v 65536) l in (tt, (below i _ t.0 (omega arith), (below v _ t.1 (omega arith), tt)))
event_writable (Event.Up n c) l = let t = and_parts (ltb n 4294967296) (command_bounded c) l in (tt, (below n _ t.0 (omega arith), command_writable c t.1))
event_writable (Event.Frame xs) l = (tt, all_writable (2 ^ 64) (omega arith) xs (and_parts (eqb (length xs) 12) (all_below (2 ^ 64) xs) l).1)
event_writable (Event.Hit c w v) l =
    let t = and_parts (ltb c 3) (ltb w kept_words && ltb v (2 ^ 64)) l in
    let u = and_parts (ltb w kept_words) (ltb v (2 ^ 64)) t.1 in
    (tt, (below c _ t.0 (omega arith), (below w _ u.0 (omega arith), (below v _ u.1 (omega arith), tt))))
event_writable Event.Tick l = (tt, tt)

-- a text says one thing at most, and where it says something lawful no line of it is at fault
module _ {E : Type 0} (l : Language E) where
  pub told_faultless : (text : List ℕ) (es : List E) → Tells l text es → (f : Fault) → Fails l text f → f ≡ Fault.Memory
  told_faultless text es t (Fault.Unreadable n x) q = absurd (q.0.silent _ (some_said l.words (lines text) (n + 1) es t.0) (first_lawful l.may l.heard_after false _ es t.1))
  told_faultless text es t Fault.Memory q = refl

  module _ (u : Readable l) where
    pub told_once : (text : List ℕ) (es fs : List E) → Tells l text es → Tells l text fs → es ≡ fs
    told_once text es fs p q = once l.words u.back u.undo (lines text) es fs p.0 q.0

    all_writable_from : (h : Bool) (es : List E) → all_said l.may l.heard_after h es ≡ true → All (λ (e : E). All Writable (l.words e)) es
    all_writable_from h [] p = tt
    all_writable_from h (e ∷ es) p =
        let t = and_parts (l.may h e) (all_said l.may l.heard_after (l.heard_after h e) es) p in
        (u.writable h e t.0, all_writable_from (l.heard_after h e) es t.1)

    -- the text of what is lawful is read as that
    pub read_back : (es : List E) → all_said l.may l.heard_after false es ≡ true → Only l (rendered l.words es) es
    read_back es p =
        let t : Tells l (rendered l.words es) es = (says_back l.words u.some es (all_writable_from false es p), p) in
        record {
          told = t;
          once = λ fs q. told_once (rendered l.words es) fs es q t;
          faultless = told_faultless (rendered l.words es) es t;
        }

pub event_readable : Readable flights
event_readable = record { back = event_back; undo = event_undo; some = event_some; writable = λ h e a. event_writable e (and_parts (bounded e) _ a).0 }

pub command_readable : Readable orders
command_readable = record { back = command_back; undo = command_undo; some = command_some; writable = λ _ c a. command_writable c a }
