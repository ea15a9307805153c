-- Things that take m words each, one after the other.
use Rattle.std.proofs.Common.{◌≡◌, ℕ, zero, suc, ◌+◌, ◌-◌, ◌*◌, ◌<◌, ◌≤◌, List, [], ◌∷◌, ◌++◌, length, get_or, take, drop, sym, ap, ◌∙◌, mul-zero, mul-suc, add-one, arith, length-append}
use Rattle.std.specs.List.{flat_map}
use Rattle.std.proofs.lemmas.List.{append_assoc, get_or_append_left, get_or-append_right, length-take-le, take_at, drop-drop, drop_at, flat_map_more}

pub length_joined : {A : Type 0} (m : ℕ) (f : A → List ℕ) → ((a : A) → length (f a) ≡ m) → (xs : List A) → length (flat_map f xs) ≡ m * length xs
length_joined m f each [] = sym (mul-zero m)
length_joined m f each (x ∷ xs) = omega (arith, length-append (f x) (flat_map f xs), each x, length_joined m f each xs, mul-suc m (length xs))

-- word j of thing i
pub getD_joined : {A : Type 0} (m : ℕ) (f : A → List ℕ) (d : A) → ((a : A) → length (f a) ≡ m) → (xs : List A) (rest : List ℕ) (i j : ℕ) → i < length xs → j < m
    → get_or (flat_map f xs ++ rest) (m * i + j) 0 ≡ get_or (f (get_or xs i d)) j 0
getD_joined m f d each [] rest i j a b = absurd (omega arith)
getD_joined m f d each (x ∷ xs) rest zero j a b =
    let e : m * 0 + j ≡ j = omega (arith, mul-zero m) in
    ap (λ n. get_or ((f x ++ flat_map f xs) ++ rest) n 0) e ∙ ap (λ (l : List ℕ). get_or l j 0) (append_assoc (f x) (flat_map f xs) rest) ∙ get_or_append_left (f x) (flat_map f xs ++ rest) 0 j (omega (arith, each x))
getD_joined m f d each (x ∷ xs) rest (suc i) j a b =
    let e : m * suc i + j - m ≡ m * i + j = omega (arith, mul-suc m i) in
    ap (λ (l : List ℕ). get_or l (m * suc i + j) 0) (append_assoc (f x) (flat_map f xs) rest)
    ∙ get_or-append_right (f x) (flat_map f xs ++ rest) m (m * suc i + j) 0 (each x) (omega (arith, mul-suc m i))
    ∙ ap (λ n. get_or (flat_map f xs ++ rest) n 0) e ∙ getD_joined m f d each xs rest i j (omega arith) b

-- a part laid behind what stands in front
pub laid_on : (front rest part words next : List ℕ) (from p : ℕ) → words ≡ front ++ rest → length front ≡ from
    → next ≡ take from words ++ (part ++ drop (from + p) words) → next ≡ (front ++ part) ++ drop p rest
laid_on front rest part words next from p was f is =
    let a : take from words ≡ front = ap (take from) was ∙ take_at front rest from f in
    let b : drop (from + p) words ≡ drop p rest = sym (drop-drop p from words) ∙ ap (drop p) (ap (drop from) was ∙ drop_at front rest from f) in
    is ∙ (λ i. a i ++ (part ++ b i)) ∙ sym (append_assoc front part (drop p rest))

-- one more part behind those that were laid from a place on
pub laid_next : (from n m : ℕ) (words before part now next : List ℕ) → length before ≡ n → from + (n + m) ≤ length words
    → now ≡ take from words ++ (before ++ drop (from + n) words) → next ≡ take (from + n) now ++ (part ++ drop (from + n + m) now)
    → next ≡ take from words ++ ((before ++ part) ++ drop (from + (n + m)) words)
laid_next from n m words before part now next e l was is =
    let front : List ℕ = take from words ++ before in
    let len : length front ≡ from + n = length-append (take from words) before ∙ (let a = length-take-le from words (omega arith) in omega arith) in
    let b : drop m (drop (from + n) words) ≡ drop (from + (n + m)) words = drop-drop m (from + n) words ∙ ap (λ k. drop k words) (omega arith) in
    laid_on front (drop (from + n) words) part now next (from + n) m (was ∙ sym (append_assoc (take from words) before (drop (from + n) words))) len is
    ∙ (λ i. (front ++ part) ++ b i) ∙ append_assoc front part (drop (from + (n + m)) words) ∙ append_assoc (take from words) before (part ++ drop (from + (n + m)) words)
    ∙ ap (λ (x : List ℕ). take from words ++ x) (sym (append_assoc before part (drop (from + (n + m)) words)))

-- one more thing behind those that were laid
pub laid_one : {A : Type 0} (m : ℕ) (f : A → List ℕ) → ((a : A) → length (f a) ≡ m) → (from k : ℕ) (words part now next : List ℕ) (xs ys : List A) (x : A)
    → length xs ≡ k → ys ≡ xs ++ (x ∷ []) → part ≡ f x → from + m * (k + 1) ≤ length words
    → now ≡ take from words ++ (flat_map f xs ++ drop (from + m * k) words) → next ≡ take (from + m * k) now ++ (part ++ drop (from + m * k + m) now)
    → next ≡ take from words ++ (flat_map f ys ++ drop (from + m * (k + 1)) words)
laid_one m f each from k words part now next xs ys x l e p b was is =
    let s : m * k + m ≡ m * (k + 1) = sym (ap (λ n. m * n) (add-one k) ∙ mul-suc m k) in
    let j : flat_map f xs ++ part ≡ flat_map f ys = ap (λ (q : List ℕ). flat_map f xs ++ q) p ∙ flat_map_more f [] xs x ∙ ap (flat_map f) (sym e) in
    laid_next from (m * k) m words (flat_map f xs) part now next (length_joined m f each xs ∙ ap (λ n. m * n) l) (omega arith) was is
    ∙ (λ i. take from words ++ (j i ++ drop (from + s i) words))
