-- What is written is read back.
use Rattle.std.proofs.Common.{◌≡◌, not, ℕ, ◌^◌, ◌<◌, ◌≤◌, Bool, true, false, cond, ◌&&◌, ◌||◌, eqb, ltb, leb, List, [], ◌∷◌, ◌++◌, map, length, Some, None, decimal, refl, ap, ◌∙◌, arith, rules, lt-ltb, ne_eqb, leb-true}
use Rattle.std.specs.Char.{is_ascii_digit}
use Rattle.std.specs.List.{AllByRecursion as All}
use Rattle.std.specs.Str.{all_ascii_digits}
use Rattle.std.proofs.lemmas.Fmt.{digits_decimal, digits_value-decimal, decimal_nonempty}
use Rattle.std.proofs.lemmas.Str.Parse.{IsNumeralModel, tells_all_ascii_digits, numerals_by_fold}
use Rattle.std.proofs.lemmas.Bool.{and_parts}
use Rattle.text.specs.declared.words.Word.{Word}
use Rattle.text.specs.declared.words.Keyword.{Keyword}
use Rattle.text.specs.declared.cut.Stop.{Stop}
use Rattle.text.specs.Cut.{stops, before, cut, grown}
use Rattle.text.specs.Number.{onward, read_digits, read_number}
use Rattle.text.specs.Render.{rendered}
use Rattle.text.specs.Text.{spoken, LinesSay}
use Rattle.text.specs.Words.{Writable, spelling, worded, numbered, filled, spaced, line_words, lines, written, spelt}
use Rattle.text.proofs.Telling.{spoken_some}

-- numbers

read_on : ℕ → List ℕ → ℕ
read_on n [] = n
read_on n (c ∷ cs) = read_on (onward n c) cs

own : IsNumeralModel (λ ds. all_ascii_digits ds ≡ true) (read_on 0)
unfolding read_on
own = numerals_by_fold _ tells_all_ascii_digits read_on (search rules)

grows : (n : ℕ) (ds : List ℕ) → n ≤ read_on n ds
unfolding read_on
grows n [] = omega arith
grows n (c ∷ cs) = omega (arith, grows (onward n c) cs)

-- digits are read as what they write, if it is below 2^64
digits_are : (n : ℕ) (ds : List ℕ) → all_ascii_digits ds ≡ true → read_on n ds < 2 ^ 64 → read_digits n ds ≡ Some (read_on n ds)
unfolding read_on
digits_are n [] e l = refl
digits_are n (c ∷ cs) e l =
    let t = and_parts (is_ascii_digit c) (all_ascii_digits cs) e in
    ap (λ v. cond (v && ltb (onward n c) (2 ^ 64)) (read_digits (onward n c) cs) None) t.0
    ∙ ap (λ v. cond v (read_digits (onward n c) cs) None) (lt-ltb (onward n c) (2 ^ 64) (omega (arith, grows (onward n c) cs)))
    ∙ digits_are (onward n c) cs t.1 l

number_some : (xs : List ℕ) → 0 < length xs → read_number xs ≡ read_digits 0 xs
number_some [] h = absurd (omega arith)
number_some (x ∷ xs) h = refl

number_back : (n : ℕ) → n < 2 ^ 64 → read_number (decimal n) ≡ Some n
number_back n l =
    let v = digits_value-decimal own n l in
    number_some (decimal n) (decimal_nonempty n l) ∙ digits_are 0 (decimal n) (digits_decimal own n l) (omega (arith, v)) ∙ ap Some v

-- cutting

-- no byte passes
abbrev Free : (ℕ → Bool) → List ℕ → Type 0
Free p [] = Unit {0}
Free p (b ∷ bs) = (p b ≡ false) × Free p bs

free_append : (p : ℕ → Bool) (xs ys : List ℕ) → Free p xs → Free p ys → Free p (xs ++ ys)
free_append p [] ys f g = g
free_append p (x ∷ xs) ys f g = (f.0, free_append p xs ys f.1 g)

before_free : (p : ℕ → Bool) (xs : List ℕ) → Free p xs → before p xs ≡ xs
before_free p [] f = refl
before_free p (x ∷ xs) f = ap (λ v. cond v [] (x ∷ before p xs)) f.0 ∙ ap (λ (l : List ℕ). x ∷ l) (before_free p xs f.1)

cut_free : (p : ℕ → Bool) (xs : List ℕ) → Free p xs → cut p xs ≡ xs ∷ []
cut_free p [] f = refl
cut_free p (x ∷ xs) f = ap (λ v. cond v ([] ∷ cut p xs) (grown x (cut p xs))) f.0 ∙ ap (grown x) (cut_free p xs f.1)

cut_at : (p : ℕ → Bool) (xs ys : List ℕ) (s : ℕ) → Free p xs → p s ≡ true → cut p (xs ++ (s ∷ ys)) ≡ xs ∷ cut p ys
cut_at p [] ys s f e = ap (λ v. cond v ([] ∷ cut p ys) (grown s (cut p ys))) e
cut_at p (x ∷ xs) ys s f e =
    ap (λ v. cond v ([] ∷ cut p (xs ++ (s ∷ ys))) (grown x (cut p (xs ++ (s ∷ ys))))) f.0 ∙ ap (grown x) (cut_at p xs ys s f.1 e)

-- words

-- digits and letters
abbrev High : List ℕ → Type 0
High [] = Unit {0}
High (b ∷ bs) = (48 ≤ b) × High bs

high_test : List ℕ → Bool
high_test [] = true
high_test (b ∷ bs) = leb 48 b && high_test bs

high_from : (bs : List ℕ) → high_test bs ≡ true → High bs
unfolding high_test
high_from [] e = tt
high_from (b ∷ bs) e = let t = and_parts (leb 48 b) (high_test bs) e in (leb-true 48 b t.0, high_from bs t.1)

high_digits : (ds : List ℕ) → all_ascii_digits ds ≡ true → High ds
high_digits [] e = tt
high_digits (d ∷ ds) e = let t = tells_all_ascii_digits.parts d ds e in (t.0.0, high_digits ds t.1)

-- what is spelt of a keyword has no byte that stops, and is read as that keyword, and so as no number and as no other
keyword_high : (k : Keyword) → High (spelling k) × (0 < length (spelling k))
unfolding high_test
keyword_high Keyword.Read = (high_from (spelling Keyword.Read) refl, omega arith)
keyword_high k = (high_from (spelling k) refl, omega arith)

keyword_back : (k : Keyword) → worded (spelling k) ≡ Word.Keyword k
keyword_back Keyword.Read = refl
keyword_back _ = refl

high : (w : Word) → Writable w → High (written w) × (0 < length (written w))
high (Word.Number n) l = (high_digits (decimal n) (digits_decimal own n l), decimal_nonempty n l)
high (Word.Keyword k) l = keyword_high k
high Word.Other l = absurd l

passes_not : (s : Stop) (b : ℕ) → 48 ≤ b → stops s b ≡ false
passes_not Stop.Line b l = ne_eqb b 10 (λ e. omega arith)
passes_not Stop.Comment b l = ne_eqb b 35 (λ e. omega arith)
passes_not Stop.Blank b l = ap (λ v. v || eqb b 9) (ne_eqb b 32 (λ e. omega arith)) ∙ ne_eqb b 9 (λ e. omega arith)

free_high : (s : Stop) (bs : List ℕ) → High bs → Free (stops s) bs
free_high s [] h = tt
free_high s (b ∷ bs) h = (passes_not s b h.0, free_high s bs h.1)

word_back : (w : Word) → Writable w → worded (written w) ≡ w
word_back (Word.Number n) l = ap (λ r. numbered r (decimal n)) (number_back n l)
word_back (Word.Keyword k) l = keyword_back k
word_back Word.Other l = absurd l

filled_some : (xs : List ℕ) (ps : List (List ℕ)) → 0 < length xs → filled (xs ∷ ps) ≡ xs ∷ filled ps
filled_some xs ps l = ap (λ v. cond (not v) (xs ∷ filled ps) (filled ps)) (ne_eqb (length xs) 0 (λ e. omega (arith, e, l)))

-- lines

spaced_back : (ws : List Word) → All Writable ws → spaced (spelt ws) ≡ ws
spaced_back [] a = refl
spaced_back (w ∷ []) a =
    let h = high w a.0 in
    ap (λ ps. map worded (filled ps)) (cut_free (stops Stop.Blank) (written w) (free_high Stop.Blank (written w) h.0)) ∙ ap (map worded) (filled_some (written w) [] h.1) ∙ ap (λ (v : Word). v ∷ []) (word_back w a.0)
spaced_back (w ∷ v ∷ ws) a =
    let h = high w a.0 in
    ap (λ ps. map worded (filled ps)) (cut_at (stops Stop.Blank) (written w) (spelt (v ∷ ws)) 32 (free_high Stop.Blank (written w) h.0) refl)
    ∙ ap (map worded) (filled_some (written w) (cut (stops Stop.Blank) (spelt (v ∷ ws))) h.1) ∙ (λ i. word_back w a.0 i ∷ spaced_back (v ∷ ws) a.1 i)

free_spelt : (s : Stop) → stops s 32 ≡ false → (ws : List Word) → All Writable ws → Free (stops s) (spelt ws)
free_spelt s e [] a = tt
free_spelt s e (w ∷ []) a = free_high s (written w) (high w a.0).0
free_spelt s e (w ∷ v ∷ ws) a = free_append (stops s) (written w) (32 ∷ spelt (v ∷ ws)) (free_high s (written w) (high w a.0).0) (e, free_spelt s e (v ∷ ws) a.1)

line_back : (ws : List Word) → All Writable ws → line_words (spelt ws) ≡ ws
line_back ws a = ap spaced (before_free (stops Stop.Comment) (spelt ws) (free_spelt Stop.Comment refl ws a)) ∙ spaced_back ws a

-- the text that is written of things says them
pub says_back : {E : Type 0} (table : E → List Word) → ((e : E) → table e ≡ [] → ⊥) → (es : List E) → All (λ (e : E). All Writable (table e)) es → LinesSay table (lines (rendered table es)) es
says_back table some [] a = refl
says_back table some (e ∷ es) a =
    ap (λ ps. spoken (map line_words ps)) (cut_at (stops Stop.Line) (spelt (table e)) (rendered table es) 10 (free_spelt Stop.Line refl (table e) a.0) refl)
    ∙ ap (λ l. spoken (l ∷ lines (rendered table es))) (line_back (table e) a.0) ∙ spoken_some (table e) (lines (rendered table es)) (some e) ∙ ap (λ (ls : List (List Word)). table e ∷ ls) (says_back table some es a.1)
