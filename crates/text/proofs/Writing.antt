-- What is written piece by piece.
use Rattle.std.proofs.Common.{◌≡◌, ℕ, ◌+◌, ◌<◌, ◌≤◌, true, List, [], ◌∷◌, ◌++◌, map, length, get_or, take, is_ok, Ok, decimal, Result, sym, refl, ap, ◌∙◌, subst, append_assoc, append-nil}
use Rattle.std.specs.List.{FoldsTo, concat}
use Rattle.std.specs.Fmt.{HasWritten}
use Rattle.std.specs.declared.fmt.Formatter.{Formatter}
use Rattle.std.proofs.lemmas.List.{take_more, take_all}
use Rattle.text.specs.declared.words.Word.{Word}
use Rattle.text.specs.Render.{listed}
use Rattle.text.specs.Words.{written, spelt}

joined_append : (xs ys : List (List ℕ)) → concat (xs ++ ys) ≡ concat xs ++ concat ys
joined_append [] ys = refl
joined_append (x ∷ xs) ys = ap (λ (l : List ℕ). x ++ l) (joined_append xs ys) ∙ sym (append_assoc x (concat xs) (concat ys))

module _ {W : Type 0} (took : W → List ℕ → W → Type 0) where
  calls_append : (w : W) (xs : List (List ℕ)) (v : W) (ys : List (List ℕ)) (u : W) → FoldsTo took w xs v → FoldsTo took v ys u → FoldsTo took w (xs ++ ys) u
  calls_append w [] v ys u p q = subst (λ (x : W). FoldsTo took x ys u) (sym p) q
  calls_append w (x ∷ xs) v ys u p q = (p.0, p.1, calls_append p.0 xs v ys u p.2 q)

  -- one text after another
  pub put_more : (f : Formatter W) (a : List ℕ) (g : Formatter W) (b : List ℕ) (h : Formatter W) → HasWritten took f a g → HasWritten took g b h → HasWritten took f (a ++ b) h
  put_more f a g b h p q =
      record {
        wrote = record {
          parts = p.wrote.parts ++ q.wrote.parts;
          calls = calls_append _ p.wrote.parts _ q.wrote.parts _ p.wrote.calls q.wrote.calls;
          whole = joined_append p.wrote.parts q.wrote.parts ∙ (λ i. p.wrote.whole i ++ q.wrote.whole i);
        };
        plain = q.plain;
      }

  pub put_is : (f : Formatter W) (a b : List ℕ) (g : Formatter W) → a ≡ b → HasWritten took f a g → HasWritten took f b g
  put_is f a b g e = subst (λ (l : List ℕ). HasWritten took f l g) e

listed_append : (xs ys : List ℕ) → listed (xs ++ ys) ≡ listed xs ++ listed ys
listed_append [] ys = refl
listed_append (x ∷ xs) ys = ap (λ (l : List ℕ). 32 ∷ (decimal x ++ l)) (listed_append xs ys) ∙ ap (λ (l : List ℕ). 32 ∷ l) (sym (append_assoc (decimal x) (listed xs) (listed ys)))

pub listed_more : (xs : List ℕ) (i : ℕ) → i < length xs → listed (take i xs) ++ (32 ∷ decimal (get_or xs i 0)) ≡ listed (take (i + 1) xs)
listed_more xs i l =
    sym (ap listed (take_more xs i 0 l) ∙ listed_append (take i xs) (get_or xs i 0 ∷ []) ∙ ap (λ (t : List ℕ). listed (take i xs) ++ (32 ∷ t)) (append-nil (decimal (get_or xs i 0))))

pub listed_all : (xs : List ℕ) (i : ℕ) → length xs ≤ i → listed (take i xs) ≡ listed xs
listed_all xs i l = ap listed (take_all i xs l)

-- a word and numbers, as they are written
pub spelt_listed : (w : Word) (xs : List ℕ) → spelt (w ∷ map Word.Number xs) ≡ written w ++ listed xs
spelt_listed w [] = sym (append-nil (written w))
spelt_listed w (x ∷ xs) = ap (λ (l : List ℕ). written w ++ (32 ∷ l)) (spelt_listed (Word.Number x) xs)

pub ok_is : {V E : Type 0} (r : Result V E) (v : V) → r ≡ Ok v → is_ok r ≡ true
ok_is r v e = ap is_ok e
