-- What is read of a memory that held words three times and was upset in one copy of each at most.
use Rattle.std.proofs.Common.{◌≡◌, ℕ, zero, suc, ◌+◌, ◌-◌, ◌*◌, ◌<◌, cond, eqb, ◌≢◌, ◌⊎◌, List, ◌++◌, length, get_or, set, sym, refl, ap, ◌∙◌, inl, inr, ⊎_elim, arith, length-append}
use Rattle.std.proofs.lemmas.List.FromFn.{fill_by_all, length-map-range_with_len}
use Rattle.std.proofs.lemmas.List.{get_or_append_left, get_or-append_right, get_or-set_other, length-set}
use Rattle.std.proofs.lemmas.Bool.{cases_eq, eq-eqb, cond_both, eqb-true}
use Rattle.memory.specs.Keeper.{Mends}
use Rattle.memory.specs.Threefold.{copy, majority, voted, voted_words, thrice, Holds, Spared, Upset, threefold, UpsetsHappen}
use Rattle.memory.specs.Kept.{KeepsWords}

pub voted_at : (n k : ℕ) (m : List ℕ) → majority (get_or m k 0) (get_or m (n + k) 0) (get_or m (2 * n + k) 0) ≡ voted n m k
unfolding voted
voted_at n k m =
    let a : k ≡ 0 * n + k = omega arith in
    let b : n + k ≡ 1 * n + k = omega arith in
    λ i. majority (get_or m (a i) 0) (get_or m (b i) 0) (get_or m (2 * n + k) 0)

-- two that agree win the vote
pub last_two : (a x : ℕ) → majority a x x ≡ x
last_two a x =
    cond_both (eqb a x) a (cond (eqb a x) a (cond (eqb x x) x a)) (λ y. y ≡ x) (λ e. eqb-true a x e)
    (λ _. cond_both (eqb a x) a (cond (eqb x x) x a) (λ y. y ≡ x) (λ e. eqb-true a x e) (λ _. rw (eq-eqb x x refl) refl))

pub outer_two : (b x : ℕ) → majority x b x ≡ x
outer_two b x =
    cond_both (eqb x b) x (cond (eqb x x) x (cond (eqb b x) b x)) (λ y. y ≡ x) (λ _. refl) (λ _. rw (eq-eqb x x refl) refl)

pub first_two : (c x : ℕ) → majority x x c ≡ x
first_two c x = rw (eq-eqb x x refl) refl

-- the copies of a word in a memory that holds it three times
copy_first : (n : ℕ) (ws : List ℕ) (k : ℕ) → length ws ≡ n → k < n → copy n (thrice ws) 0 k ≡ get_or ws k 0
copy_first n ws k e lt =
    let a : 0 * n + k ≡ k = omega arith in
    ap (λ j. get_or (thrice ws) j 0) a ∙ get_or_append_left ws (ws ++ ws) 0 k (omega arith)

copy_second : (n : ℕ) (ws : List ℕ) (k : ℕ) → length ws ≡ n → k < n → copy n (thrice ws) 1 k ≡ get_or ws k 0
copy_second n ws k e lt =
    let a : 1 * n + k - n ≡ k = omega arith in
    get_or-append_right ws (ws ++ ws) n (1 * n + k) 0 e (omega arith) ∙ ap (λ j. get_or (ws ++ ws) j 0) a ∙ get_or_append_left ws ws 0 k (omega arith)

copy_third : (n : ℕ) (ws : List ℕ) (k : ℕ) → length ws ≡ n → k < n → copy n (thrice ws) 2 k ≡ get_or ws k 0
copy_third n ws k e lt =
    let a : 2 * n + k - n - n ≡ k = omega arith in
    get_or-append_right ws (ws ++ ws) n (2 * n + k) 0 e (omega arith) ∙ get_or-append_right ws ws n (2 * n + k - n) 0 e (omega arith) ∙ ap (λ j. get_or ws j 0) a

mended : (a b c x : ℕ) → ((b ≡ x) × (c ≡ x)) ⊎ (((a ≡ x) × (c ≡ x)) ⊎ ((a ≡ x) × (b ≡ x))) → majority a b c ≡ x
mended a b c x h =
    ⊎_elim (λ (p : (b ≡ x) × (c ≡ x)). (λ i. majority a (p.0 i) (p.1 i)) ∙ last_two a x)
    (⊎_elim (λ (p : (a ≡ x) × (c ≡ x)). (λ i. majority (p.0 i) b (p.1 i)) ∙ outer_two b x) (λ (p : (a ≡ x) × (b ≡ x)). (λ i. majority (p.0 i) (p.1 i) c) ∙ first_two c x)) h

voted_back : (n : ℕ) (m h ws : List ℕ) → Holds n m ws → Upset n m h → (k : ℕ) → k < n → voted n h k ≡ get_or ws k 0
unfolding voted
voted_back n m h ws holds upset k lt =
    let e = holds.0 in
    let z : copy n m 0 k ≡ get_or ws k 0 = ap (λ l. copy n l 0 k) holds.1 ∙ copy_first n ws k e lt in
    let o : copy n m 1 k ≡ get_or ws k 0 = ap (λ l. copy n l 1 k) holds.1 ∙ copy_second n ws k e lt in
    let t : copy n m 2 k ≡ get_or ws k 0 = ap (λ l. copy n l 2 k) holds.1 ∙ copy_third n ws k e lt in
    mended (copy n h 0 k) (copy n h 1 k) (copy n h 2 k) (get_or ws k 0)
    (⊎_elim (λ (p : Spared n m h 1 k × Spared n m h 2 k). inl (p.0 ∙ o, p.1 ∙ t))
    (⊎_elim (λ (p : Spared n m h 0 k × Spared n m h 2 k). inr (inl (p.0 ∙ z, p.1 ∙ t))) (λ (p : Spared n m h 0 k × Spared n m h 1 k). inr (inr (p.0 ∙ z, p.1 ∙ o))))
    (upset.two k lt))

mends : (n : ℕ) → Mends (threefold n)
unfolding voted_words
mends n kept found words holds upset = sym (fill_by_all (voted n found) words n 0 holds.0 (λ k lt. sym (voted_back n kept found words holds upset k lt)))

read_long : (n : ℕ) (found : List ℕ) → length (voted_words n found) ≡ n
unfolding voted_words
read_long n found = length-map-range_with_len (voted n found) 0 n

thrice_long : (ws : List ℕ) → length (thrice ws) ≡ 3 * length ws
thrice_long ws = grind (arith, length-append)

pub keeps_words : KeepsWords
keeps_words n = record {
  mends = mends n;
  stores = λ words e. (e, refl);
  words_long = λ kept words h. h.0;
  long = λ kept found words h u. u.long ∙ ap length h.1 ∙ thrice_long words ∙ ap (λ k. 3 * k) h.0;
  unharmed = λ kept. record { long = refl; two = λ k lt. inl (refl, refl) };
  read_long = read_long n;
}

-- places of different copies or words differ
pub apart : (n c k d j : ℕ) → k < n → j < n → c < 3 → d < 3 → (c ≡ d → k ≡ j → ⊥) → c * n + k ≢ d * n + j
apart n zero k zero j a b x y f e = f refl (omega arith)
apart n zero k (suc zero) j a b x y f e = omega arith
apart n zero k (suc (suc zero)) j a b x y f e = omega arith
apart n (suc zero) k zero j a b x y f e = omega arith
apart n (suc zero) k (suc zero) j a b x y f e = f refl (omega arith)
apart n (suc zero) k (suc (suc zero)) j a b x y f e = omega arith
apart n (suc (suc zero)) k zero j a b x y f e = omega arith
apart n (suc (suc zero)) k (suc zero) j a b x y f e = omega arith
apart n (suc (suc zero)) k (suc (suc zero)) j a b x y f e = f refl (omega arith)
apart n (suc (suc (suc c))) k d j a b x y f e = omega arith
apart n zero k (suc (suc (suc d))) j a b x y f e = omega arith
apart n (suc zero) k (suc (suc (suc d))) j a b x y f e = omega arith
apart n (suc (suc zero)) k (suc (suc (suc d))) j a b x y f e = omega arith

other_spared : (n : ℕ) (m h : List ℕ) (c k v d j : ℕ) → k < n → j < n → c < 3 → d < 3 → (c ≡ d → k ≡ j → ⊥) → Spared n m h d j → Spared n m (set h (c * n + k) v) d j
other_spared n m h c k v d j a b x y f s = get_or-set_other h (c * n + k) (d * n + j) v 0 (λ e. apart n c k d j a b x y f (sym e)) ∙ s

one_upset : (n : ℕ) (m h : List ℕ) (c k v : ℕ) → c < 3 → k < n → Upset n m h → ((d : ℕ) → d < 3 → Spared n m h d k) → (j : ℕ) → j < n
    → (Spared n m (set h (c * n + k) v) 1 j × Spared n m (set h (c * n + k) v) 2 j) ⊎ ((Spared n m (set h (c * n + k) v) 0 j × Spared n m (set h (c * n + k) v) 2 j) ⊎ (Spared n m (set h (c * n + k) v) 0 j × Spared n m (set h (c * n + k) v) 1 j))
one_upset n m h c k v x a u s j b =
    let h₁ : List ℕ = set h (c * n + k) v in
    let away : (k ≡ j → ⊥) → (d : ℕ) → d < 3 → Spared n m h d j → Spared n m h₁ d j = λ f d y p. other_spared n m h c k v d j a b x y (λ _ e. f e) p in
    let here : k ≡ j → (d : ℕ) → d < 3 → (c ≡ d → ⊥) → Spared n m h₁ d j = λ e d y f. other_spared n m h c k v d j a b x y (λ g _. f g) (rw e at (s d y)) in
    ⊎_elim
    (λ (e : k ≡ j).
    ⊎_elim (λ (z : c ≡ 0). inl (here e 1 (omega arith) (λ g. omega arith), here e 2 (omega arith) (λ g. omega arith)))
    (λ (z : c ≡ 0 → ⊥). ⊎_elim (λ (o : c ≡ 1). inr (inl (here e 0 (omega arith) (λ g. omega arith), here e 2 (omega arith) (λ g. omega arith))))
    (λ (o : c ≡ 1 → ⊥). inr (inr (here e 0 (omega arith) (λ g. omega arith), here e 1 (omega arith) (λ g. omega arith)))) (cases_eq c 1))
    (cases_eq c 0))
    (λ (f : k ≡ j → ⊥).
    ⊎_elim (λ (p : Spared n m h 1 j × Spared n m h 2 j). inl (away f 1 (omega arith) p.0, away f 2 (omega arith) p.1))
    (⊎_elim (λ (p : Spared n m h 0 j × Spared n m h 2 j). inr (inl (away f 0 (omega arith) p.0, away f 2 (omega arith) p.1)))
    (λ (p : Spared n m h 0 j × Spared n m h 1 j). inr (inr (away f 0 (omega arith) p.0, away f 1 (omega arith) p.1))))
    (u.two j b))
    (cases_eq k j)

pub upsets_happen : UpsetsHappen
upsets_happen = record {
  none = λ n m. record { long = refl; two = λ k lt. inl (refl, refl) };
  one = λ n m h c k v x a u s. record { long = length-set h (c * n + k) v ∙ u.long; two = one_upset n m h c k v x a u s };
}
