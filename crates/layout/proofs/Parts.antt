-- Parts of a list of words, copied in and out.
use Rattle.std.proofs.Common.{◌≡◌, ℕ, zero, suc, ◌+◌, ◌<◌, ◌≤◌, List, map, length, get_or, take, drop, sym, refl, ◌∙◌, subst, arith}
use Rattle.std.specs.Array.{IsFromFnResultFrom, IsFromFnResult}
use Rattle.std.specs.Fn.{Called}
use denote.Param.Members.{Mut}
use Rattle.std.specs.List.{range_with_len}
use Rattle.std.proofs.lemmas.List.FromFn.{fill_by_all}
use Rattle.std.proofs.lemmas.List.{length-take-le, length-drop, length-map, get_or-map, get_or-take, get_or-drop}

-- n words from a place on, one by one
pub part_of : (from n : ℕ) (words : List ℕ) → from + n ≤ length words → take n (drop from words) ≡ map (λ k. get_or words (from + k) 0) (range_with_len 0 n)
part_of from n words b =
    fill_by_all (λ k. get_or words (from + k) 0) (take n (drop from words)) n 0 (length-take-le n (drop from words) (simp length-drop (omega arith)))
    (λ k h. get_or-take n (drop from words) k 0 h ∙ get_or-drop from words k 0)

-- what a closure that keeps its state made of each index
made_from : {F B : Type 0} (g : Mut F (ℕ × Unit {0}) B) (h : ℕ → B) (f : F) → ((k : ℕ) (y : B) (q : F) → Called g f (k, tt) y q → (q ≡ f) × (y ≡ h k)) → (ys : List B) (d : B) (i n : ℕ) (p : F) → p ≡ f → IsFromFnResultFrom g p ys i n → (k : ℕ) → k < n → get_or ys (i + k) d ≡ h (i + k)
made_from g h f each ys d i zero p e m k l = absurd (omega arith)
made_from g h f each ys d i (suc n) p e m zero l =
    let c = each i m.1 m.0 (subst (λ s. Called g s (i, tt) m.1 m.0) e m.3) in
    let z : i ≡ i + 0 = omega arith in
    subst (λ j. get_or ys j d ≡ h j) z (m.2.1 d ∙ c.1)
made_from g h f each ys d i (suc n) p e m (suc k) l =
    let c = each i m.1 m.0 (subst (λ s. Called g s (i, tt) m.1 m.0) e m.3) in
    let z : i + 1 + k ≡ i + suc k = omega arith in
    subst (λ j. get_or ys j d ≡ h j) z (made_from g h f each ys d (i + 1) n m.0 c.0 m.4 k (omega arith))

pub made : {F B : Type 0} (g : Mut F (ℕ × Unit {0}) B) (h : ℕ → B) (f : F) (ys : List B) (d : B) (n : ℕ) → ((k : ℕ) (y : B) (q : F) → Called g f (k, tt) y q → (q ≡ f) × (y ≡ h k)) → IsFromFnResult g f ys n → ys ≡ map h (range_with_len 0 n)
made g h f ys d n each m =
    fill_by_all h ys n d m.long (λ k l. let z : 0 + k ≡ k = omega arith in subst (λ j. get_or ys j d ≡ h j) z (made_from g h f each ys d 0 n f refl m.each k l))

-- where the closure reads a thing at the index
pub made_of : {F A B : Type 0} (g : Mut F (ℕ × Unit {0}) B) (h : A → B) (f : F) (ys : List B) (d : A) (e : B) (xs : List A) (n : ℕ) → length xs ≡ n → ((k : ℕ) (y : B) (q : F) → Called g f (k, tt) y q → (q ≡ f) × (y ≡ h (get_or xs k d))) → IsFromFnResult g f ys n → ys ≡ map h xs
made_of g h f ys d e xs n l each m =
    made g (λ k. h (get_or xs k d)) f ys e n each m ∙ sym (fill_by_all (λ k. h (get_or xs k d)) (map h xs) n e (length-map xs h ∙ l) (λ k b. get_or-map h xs k d e (omega arith)))
