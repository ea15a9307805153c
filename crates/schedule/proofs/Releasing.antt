-- Activities looked at one after the other, each by its fate.
use Rattle.std.proofs.Common.{◌≡◌, ℕ, ◌+◌, ◌<◌, ◌≤◌, Bool, true, false, cond, eqb, List, [], ◌∷◌, ◌++◌, ◌||◌, length, set, get_or, take, sym, refl, ap, ◌∙◌, subst, arith}
use Rattle.std.specs.List.{list_any}
use Rattle.std.proofs.lemmas.List.Elements.{filter_more}
use Rattle.std.proofs.lemmas.List.Filters.{length-filter_more}
use Rattle.std.proofs.lemmas.Bool.{cond-false, true≢false}
use Rattle.schedule.specs.declared.activity.Activity.{Activity}
use Rattle.schedule.specs.declared.activity.Fate.{Fate}
use Rattle.schedule.specs.Waiting.{no_activity, fate_of, is_waiting, is_missed, is_done, fated, put_all, AllWait, NothingDue}

put_append : (xs ys : List Activity) (values : List ℕ) →
    put_all (xs ++ ys) values ≡ put_all ys (put_all xs values)
put_append [] ys values = refl
put_append (x ∷ xs) ys values = put_append xs ys (set values x.place x.number)

-- where no one of them is for now, all wait on
wait_more : (t : ℕ) (safe : Bool) (x : Activity) (xs : List Activity) (b : Bool) → eqb x.release t ≡ b → (b || list_any (λ a. eqb a.release t) xs) ≡ false → (list_any (λ a. eqb a.release t) xs ≡ false → AllWait (λ a. fate_of a t safe) xs) → AllWait (λ a. fate_of a t safe) (x ∷ xs)
wait_more t safe x xs true h f n = absurd (true≢false f)
wait_more t safe x xs false h f n =
    let w : fate_of x t safe ≡ Fate.Waits = cond-false (eqb x.release t) (cond safe Fate.Missed Fate.Done) Fate.Waits h in
    let k = n f in (
      ap (λ v. cond (is_waiting v) (x ∷ fated is_waiting (λ a. fate_of a t safe) xs) (fated is_waiting (λ a. fate_of a t safe) xs)) w ∙ ap (λ (l : List Activity). x ∷ l) k.0,
      ap (λ v. cond (is_missed v) (x ∷ fated is_missed (λ a. fate_of a t safe) xs) (fated is_missed (λ a. fate_of a t safe) xs)) w ∙ k.1,
      ap (λ v. cond (is_done v) (x ∷ fated is_done (λ a. fate_of a t safe) xs) (fated is_done (λ a. fate_of a t safe) xs)) w ∙ k.2,
    )

pub none_due : (t : ℕ) (xs : List Activity) → list_any (λ a. eqb a.release t) xs ≡ false → NothingDue t xs
none_due t [] e safe = (refl, refl, refl)
none_due t (x ∷ xs) e safe = wait_more t safe x xs (eqb x.release t) refl e (λ h. none_due t xs h safe)

-- what the first k were put, and how many of them were missed
pub record Sofar (f : Activity → Fate) (before : List ℕ) (xs : List Activity) (k missed : ℕ)
    (values : List ℕ) : Type 0 where
  pub small : missed ≤ k
  pub lost : missed ≡ length (fated is_missed f (take k xs))
  pub put : values ≡ put_all (fated is_done f (take k xs)) before

at_most_one : (b : Bool) → cond b 1 0 ≤ 1
at_most_one true = omega arith
at_most_one false = omega arith

-- one more, of this fate
pub next : (f : Activity → Fate) (before : List ℕ) (xs : List Activity) (k missed : ℕ)
    (values : List ℕ) (v : Fate) → k < length xs → v ≡ f (get_or xs k no_activity) →
    Sofar f before xs k missed values →
    Sofar f before xs (k + 1) (missed + cond (is_missed v) 1 0)
    (put_all (cond (is_done v) (get_or xs k no_activity ∷ []) []) values)
next f before xs k missed values v l w s =
    let a : Activity = get_or xs k no_activity in
    let one : Fate → List Activity = λ u. cond (is_done u) (a ∷ []) [] in record {
      small = omega (arith, s.small, at_most_one (is_missed v));
      lost = (λ i. s.lost i + cond (is_missed (w i)) 1 0)
          ∙ sym (length-filter_more (λ b. is_missed (f b)) xs k no_activity l);
      put = (λ i. put_all (one (w i)) (s.put i))
          ∙ sym (put_append (fated is_done f (take k xs)) (one (f a)) before)
          ∙ ap (λ d. put_all d before) (sym (filter_more (λ b. is_done (f b)) xs k no_activity l));
    }

pub moved : (f : Activity → Fate) (before : List ℕ) (xs : List Activity) (k missed missed' : ℕ)
    (values values' : List ℕ) → missed' ≡ missed → values' ≡ values →
    Sofar f before xs k missed values → Sofar f before xs k missed' values'
moved f before xs k missed missed' values values' c d s =
    subst (λ n. Sofar f before xs k n values') (sym c)
    (subst (λ v. Sofar f before xs k missed v) (sym d) s)
