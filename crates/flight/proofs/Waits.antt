-- Lists of activities: which are among them, how they part, and what the due ones put.
use Rattle.std.proofs.Common.{◌≡◌, ℕ, zero, suc, ◌+◌, ◌<◌, Bool, true, false, cond, eqb, ◌⊎◌, List, [], ◌∷◌, ◌++◌, length, get_or, set, sym, refl, ap, ◌∙◌, subst, inl, inr, ⊎_elim, arith}
use Rattle.std.proofs.lemmas.List.{get_or-set_same, get_or-set_other, length-set}
use Rattle.std.proofs.lemmas.Bool.{eqb-true, eqb-false, eq-eqb, cond-true}
use Rattle.schedule.specs.declared.activity.Activity.{Activity}
use Rattle.schedule.specs.Waiting.{due, still_waiting, put_all}
use Rattle.flight.specs.Scheduling.{Among, here, there, Parts, none, one_due, one_other, LastForPlace}

pub among_cons : {A : Type 0} (w v : A) (xs : List A) → Among w (v ∷ xs) → (w ≡ v) ⊎ Among w xs
among_cons w v xs (here ys) = inl refl
among_cons w v xs (there y ys a) = inr a

pub among_append : {A : Type 0} (w v : A) (xs : List A) → Among w (xs ++ (v ∷ [])) → Among w xs ⊎ (w ≡ v)
among_append w v [] a = ⊎_elim inr (λ b. elim b [ ]) (among_cons w v [] a)
among_append w v (x ∷ xs) a =
    ⊎_elim (λ e. inl (subst (λ y. Among w (y ∷ xs)) e (here xs))) (λ b. ⊎_elim (λ d. inl (there x xs d)) inr (among_append w v xs b)) (among_cons w x (xs ++ (v ∷ [])) a)

pub among_front : {A : Type 0} (w : A) (xs ys : List A) → Among w xs → Among w (xs ++ ys)
among_front w xs ys (here zs) = here (zs ++ ys)
among_front w xs ys (there z zs m) = there z (zs ++ ys) (among_front w zs ys m)

pub among_at : {A : Type 0} (xs : List A) (k : ℕ) (d : A) → k < length xs → Among (get_or xs k d) xs
among_at [] k d l = absurd (omega arith)
among_at (x ∷ xs) zero d l = here xs
among_at (x ∷ xs) (suc k) d l = there x xs (among_at xs k d (omega arith))

pub among_middle : {A : Type 0} (front back : List A) (a : A) → Among a (front ++ (a ∷ back))
among_middle [] back a = here back
among_middle (x ∷ front) back a = there x (front ++ (a ∷ back)) (among_middle front back a)

-- the list parts
pub parts : (t : ℕ) (xs : List Activity) → Parts t xs (due t xs) (still_waiting t xs)
parts t [] = none
parts t (a ∷ xs) = go (eqb a.release t) (eqb-true a.release t) (eqb-false a.release t) (parts t xs)
  where
    go : (b : Bool) → (b ≡ true → a.release ≡ t) → (b ≡ false → a.release ≡ t → ⊥) → Parts t xs (due t xs) (still_waiting t xs)
        → Parts t (a ∷ xs) (cond b (a ∷ due t xs) (due t xs)) (cond b (still_waiting t xs) (a ∷ still_waiting t xs))
    go true p q h = one_due a xs (due t xs) (still_waiting t xs) (p refl) h
    go false p q h = one_other a xs (due t xs) (still_waiting t xs) (q refl) h

pub among_due : (t : ℕ) (xs ds os : List Activity) (a : Activity) → Parts t xs ds os → Among a ds → Among a xs × (a.release ≡ t)
among_due t xs ds os a none m = elim m [ ]
among_due t xs ds os a (one_due b all es ps e p) m =
    ⊎_elim (λ (d : a ≡ b). (subst (λ y. Among a (y ∷ all)) d (here all), subst (λ (y : Activity). y.release ≡ t) (sym d) e))
    (λ n. let q = among_due t all es ps a p n in (there b all q.0, q.1)) (among_cons a b es m)
among_due t xs ds os a (one_other b all es ps f p) m = let q = among_due t all es ps a p m in (there b all q.0, q.1)

pub among_still : (t : ℕ) (xs ds os : List Activity) (a : Activity) → Parts t xs ds os → Among a os → Among a xs × (a.release ≡ t → ⊥)
among_still t xs ds os a none m = elim m [ ]
among_still t xs ds os a (one_due b all es ps e p) m = let q = among_still t all es ps a p m in (there b all q.0, q.1)
among_still t xs ds os a (one_other b all es ps f p) m =
    ⊎_elim (λ (d : a ≡ b). (subst (λ y. Among a (y ∷ all)) d (here all), subst (λ (y : Activity). y.release ≡ t → ⊥) (sym d) f))
    (λ n. let q = among_still t all es ps a p n in (there b all q.0, q.1)) (among_cons a b ps m)

pub among_part : (t : ℕ) (xs ds os : List Activity) (a : Activity) → Parts t xs ds os → Among a xs → (a.release ≡ t) ⊎ Among a os
among_part t xs ds os a none m = elim m [ ]
among_part t xs ds os a (one_due b all es ps e p) m =
    ⊎_elim (λ (d : a ≡ b). inl (ap (λ (y : Activity). y.release) d ∙ e)) (λ n. among_part t all es ps a p n) (among_cons a b all m)
among_part t xs ds os a (one_other b all es ps f p) m =
    ⊎_elim (λ (d : a ≡ b). inr (subst (λ y. Among a (y ∷ ps)) d (here ps))) (λ n. ⊎_elim inl (λ q. inr (there b ps q)) (among_part t all es ps a p n)) (among_cons a b all m)

pub parts_length : (t : ℕ) (xs ds os : List Activity) → Parts t xs ds os → length ds + length os ≡ length xs
parts_length t xs ds os none = refl
parts_length t xs ds os (one_due b all es ps e p) = let h = parts_length t all es ps p in omega arith
parts_length t xs ds os (one_other b all es ps f p) = let h = parts_length t all es ps p in omega arith

-- those due before and behind one that is due
pub due_middle : (t : ℕ) (front back : List Activity) (a : Activity) → a.release ≡ t → due t (front ++ (a ∷ back)) ≡ due t front ++ (a ∷ due t back)
due_middle t [] back a e = cond-true (eqb a.release t) (a ∷ due t back) (due t back) (eq-eqb a.release t e)
due_middle t (x ∷ front) back a e = go (eqb x.release t) (due_middle t front back a e)
  where
    go : (b : Bool) → due t (front ++ (a ∷ back)) ≡ due t front ++ (a ∷ due t back)
        → cond b (x ∷ due t (front ++ (a ∷ back))) (due t (front ++ (a ∷ back))) ≡ cond b (x ∷ due t front) (due t front) ++ (a ∷ due t back)
    go true h = ap (λ (l : List Activity). x ∷ l) h
    go false h = h

-- the last for its place among all is so among those that are due
pub last_due : (t : ℕ) (a : Activity) (all : List Activity) (l : LastForPlace a all) → a.release ≡ t
    → (due t all ≡ due t l.front ++ (a ∷ due t l.back)) × ((b : Activity) → Among b (due t l.back) → b.place ≡ a.place → ⊥)
last_due t a all l e = (
  ap (due t) l.stands ∙ due_middle t l.front l.back a e,
  λ b m. (let q = among_due t l.back _ _ b (parts t l.back) m in l.last b q.0 (q.1 ∙ sym e)),
)

-- what they put
pub put_other : (ds : List Activity) (values : List ℕ) (p : ℕ) → ((a : Activity) → Among a ds → a.place ≡ p → ⊥) → get_or (put_all ds values) p 0 ≡ get_or values p 0
put_other [] values p h = refl
put_other (a ∷ ds) values p h =
    put_other ds (set values a.place a.number) p (λ b m. h b (there a ds m)) ∙ get_or-set_other values a.place p a.number 0 (λ e. h a (here ds) (sym e))

pub put_length : (ds : List Activity) (values : List ℕ) → length (put_all ds values) ≡ length values
put_length [] values = refl
put_length (a ∷ ds) values = put_length ds (set values a.place a.number) ∙ length-set values a.place a.number

pub put_last : (front back : List Activity) (a : Activity) (values : List ℕ) → a.place < length values → ((b : Activity) → Among b back → b.place ≡ a.place → ⊥)
    → get_or (put_all (front ++ (a ∷ back)) values) a.place 0 ≡ a.number
put_last [] back a values l h = put_other back (set values a.place a.number) a.place h ∙ get_or-set_same values a.place a.number 0 l
put_last (x ∷ front) back a values l h = put_last front back a (set values x.place x.number) (subst (λ n. a.place < n) (sym (length-set values x.place x.number)) l) h

-- what holds of a list and of what is set in it
pub set_both : {A : Type 0} (P : A → Type 0) (xs : List A) (p : ℕ) (v d : A) (i : ℕ) → P v → P (get_or xs i d) → P (get_or (set xs p v) i d)
set_both P [] p v d i a b = b
set_both P (x ∷ xs) zero v d zero a b = a
set_both P (x ∷ xs) zero v d (suc i) a b = b
set_both P (x ∷ xs) (suc p) v d zero a b = b
set_both P (x ∷ xs) (suc p) v d (suc i) a b = set_both P xs p v d i a b

pub put_both : (P : ℕ → Type 0) (ds : List Activity) (values : List ℕ) (p : ℕ) → ((a : Activity) → Among a ds → P a.number) → P (get_or values p 0) → P (get_or (put_all ds values) p 0)
put_both P [] values p h g = g
put_both P (a ∷ ds) values p h g = put_both P ds (set values a.place a.number) p (λ b m. h b (there a ds m)) (set_both P values a.place a.number 0 p (h a (here ds)) g)
