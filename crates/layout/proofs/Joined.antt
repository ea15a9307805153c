-- Parts of a list, one after the other: where each lies, and how they are laid.
use Rattle.std.proofs.Common.{◌≡◌, ℕ, zero, suc, ◌+◌, ◌-◌, ◌<◌, ◌≤◌, List, [], ◌∷◌, ◌++◌, length, get_or, take, drop, replicate, sym, refl, ap, ◌∙◌, subst, ⊎_elim, arith, length-append}
use Rattle.std.proofs.lemmas.List.{append_assoc, get_or_append_left, get_or-append_right, take_at, take_all, drop_at, drop-drop, length-take-le, length-drop}
use Rattle.std.proofs.lemmas.Bool.{cases_lt}
use Rattle.std.specs.List.{flat_map}
use Rattle.std.proofs.Math.Seq.{take-add}
use Rattle.layout.specs.Map.{joined}

-- each part is as long as it should be
abbrev pub Fit : List (List ℕ) → List ℕ → Type 0
Fit [] [] = Unit {0}
Fit [] (n ∷ ns) = ⊥
Fit (p ∷ ps) [] = ⊥
Fit (p ∷ ps) (n ∷ ns) = (length p ≡ n) × Fit ps ns

-- where part i begins, and how long all are
abbrev pub offset : List ℕ → ℕ → ℕ
offset ns zero = 0
offset [] (suc i) = 0
offset (n ∷ ns) (suc i) = n + offset ns i

abbrev pub total : List ℕ → ℕ
total [] = 0
total (n ∷ ns) = n + total ns

-- behind a front of n words
pub behind : (front rest : List ℕ) (n j : ℕ) → length front ≡ n → get_or (front ++ rest) (n + j) 0 ≡ get_or rest j 0
behind front rest n j e =
    let k : n + j - n ≡ j = omega arith in
    get_or-append_right front rest n (n + j) 0 e (omega arith) ∙ ap (λ i. get_or rest i 0) k

pub all_long : (ps : List (List ℕ)) (ns : List ℕ) → Fit ps ns → length (joined ps) ≡ total ns
all_long [] [] f = omega arith
all_long [] (n ∷ ns) f = absurd f
all_long (p ∷ ps) [] f = absurd f
all_long (p ∷ ps) (n ∷ ns) f = let a = f.0 in let b = all_long ps ns f.1 in omega (arith, length-append p (joined ps))

-- word j of part i
pub part_word : (ps : List (List ℕ)) (ns : List ℕ) → Fit ps ns → (i j : ℕ) → j < get_or ns i 0 → get_or (joined ps) (offset ns i + j) 0 ≡ get_or (get_or ps i []) j 0
part_word [] [] f i j l = absurd (omega arith)
part_word [] (n ∷ ns) f i j l = absurd f
part_word (p ∷ ps) [] f i j l = absurd f
part_word (p ∷ ps) (n ∷ ns) f zero j l = let z : 0 + j ≡ j = omega arith in ap (λ k. get_or (p ++ joined ps) k 0) z ∙ get_or_append_left p (joined ps) 0 j (let a = f.0 in omega arith)
part_word (p ∷ ps) (n ∷ ns) f (suc i) j l =
    let e : n + offset ns i + j ≡ n + (offset ns i + j) = omega arith in
    ap (λ k. get_or (p ++ joined ps) k 0) e ∙ behind p (joined ps) n (offset ns i + j) f.0 ∙ part_word ps ns f.1 i j l

-- part i as a whole
pub whole_part : (ps : List (List ℕ)) (ns : List ℕ) → Fit ps ns → (i : ℕ) → i < length ns → take (get_or ns i 0) (drop (offset ns i) (joined ps)) ≡ get_or ps i []
whole_part [] [] f i l = absurd (omega arith)
whole_part [] (n ∷ ns) f i l = absurd f
whole_part (p ∷ ps) [] f i l = absurd f
whole_part (p ∷ ps) (n ∷ ns) f zero l = take_at p (joined ps) n f.0
whole_part (p ∷ ps) (n ∷ ns) f (suc i) l =
    ap (take (get_or ns i 0)) (sym (drop-drop (offset ns i) n (p ++ joined ps)) ∙ ap (drop (offset ns i)) (drop_at p (joined ps) n f.0)) ∙ whole_part ps ns f.1 i (omega arith)

-- the first n words are laid
pub record Laid (n : ℕ) (ws now : List ℕ) : Type 0 where
  pub long : length now ≡ length ws
  pub right : take n now ≡ take n ws

-- a part laid behind what is laid
pub lay_behind : (from m : ℕ) (ws part now next : List ℕ) → from + m ≤ length ws → part ≡ take m (drop from ws) → next ≡ take from now ++ (part ++ drop (from + m) now) → Laid from ws now → Laid (from + m) ws next
lay_behind from m ws part now next b p e h =
    let front : List ℕ = take from ws ++ take m (drop from ws) in
    let lf : length front ≡ from + m = length-append (take from ws) (take m (drop from ws)) ∙ (let x = length-take-le from ws (omega arith) in let y = length-take-le m (drop from ws) (omega (arith, length-drop from ws)) in omega arith) in
    let is : next ≡ front ++ drop (from + m) now = e ∙ (λ i. h.right i ++ (p i ++ drop (from + m) now)) ∙ sym (append_assoc (take from ws) (take m (drop from ws)) (drop (from + m) now)) in
    record {
      long = ap length is ∙ length-append front (drop (from + m) now) ∙ (let d = length-drop (from + m) now in let l = h.long in omega arith);
      right = ap (take (from + m)) is ∙ take_at front (drop (from + m) now) (from + m) lf ∙ sym (take-add from m ws);
    }

pub all_laid : (n : ℕ) (ws now : List ℕ) → length ws ≡ n → Laid n ws now → now ≡ ws
all_laid n ws now e h = sym (take_all n now (let l = h.long in omega arith)) ∙ h.right ∙ take_all n ws (omega arith)

-- what holds of each word of each part holds of all words
abbrev pub EachPart : (ℕ → Type 0) → List (List ℕ) → Type 0
EachPart P [] = Unit {0}
EachPart P (p ∷ ps) = ((j : ℕ) → P (get_or p j 0)) × EachPart P ps

two : (P : ℕ → Type 0) (p rest : List ℕ) → ((j : ℕ) → P (get_or p j 0)) → ((j : ℕ) → P (get_or rest j 0)) → (k : ℕ) → P (get_or (p ++ rest) k 0)
two P p rest f g k =
    ⊎_elim (λ (l : k < length p). subst P (sym (get_or_append_left p rest 0 k l)) (f k)) (λ (l : length p ≤ k). subst P (sym (get_or-append_right p rest (length p) k 0 refl l)) (g (k - length p))) (cases_lt k (length p))

pub all_words : (P : ℕ → Type 0) (ps : List (List ℕ)) → P 0 → EachPart P ps → (k : ℕ) → P (get_or (joined ps) k 0)
all_words P [] z e k = z
all_words P (p ∷ ps) z e k = two P p (joined ps) e.0 (all_words P ps z e.1) k

-- and so of things one after the other
pub each_flat : {A : Type 0} (P : ℕ → Type 0) (f : A → List ℕ) (xs : List A) (d : A) → P 0 → ((i j : ℕ) → P (get_or (f (get_or xs i d)) j 0)) → (k : ℕ) → P (get_or (flat_map f xs) k 0)
each_flat P f [] d z e k = z
each_flat P f (x ∷ xs) d z e k = two P (f x) (flat_map f xs) (e 0) (each_flat P f xs d z (λ i. e (suc i))) k

pub each_nought : (P : ℕ → Type 0) (n : ℕ) → P 0 → (k : ℕ) → P (get_or (replicate n 0) k 0)
each_nought P zero z k = z
each_nought P (suc n) z zero = z
each_nought P (suc n) z (suc k) = each_nought P n z k

pub each_behind : (P : ℕ → Type 0) (p rest : List ℕ) → ((j : ℕ) → P (get_or p j 0)) → ((j : ℕ) → P (get_or rest j 0)) → (k : ℕ) → P (get_or (p ++ rest) k 0)
each_behind = two
