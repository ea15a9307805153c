-- Rules count what they should, act in the tick in which they should, and do nothing else.
use Rattle.std.proofs.Common.{◌≡◌, ℕ, zero, suc, ◌<◌, ◌≤◌, true, false, cond, eqb, leb, ◌⊎◌, List, [], ◌∷◌, ◌++◌, length, get_or, set, Some, sym, refl, ap, ◌∙◌, subst, inl, inr, ⊎_elim, arith}
use Rattle.std.proofs.lemmas.Bool.{eq-eqb, eqb-true, le-leb, lt-leb, leb-true, and_parts, and_from, cases_eq, cases_Bool, cond-true, cond-false, true≢false}
use Rattle.std.proofs.lemmas.List.{get_or-set_same, get_or-set_other}
use Rattle.rules.specs.declared.rule.Rule.{Rule}
use Rattle.rules.specs.Watching.{off, is_past, next_count, acts}
use Rattle.frame.specs.declared.Command.{Command}
use Rattle.satellite.specs.State.{State, parameter, rule, count}
use Rattle.satellite.specs.Story.{Inputs, begun, looked, counted, acted, watched_one, watched, done, at_release, at_reception}
use Rattle.satellite.proofs.Watching.{one_rules, watched_rules, count_before}
use Rattle.flight.specs.Machine.{AllLawful, more}
use Rattle.flight.specs.Flight.{machine, after}
use Rattle.flight.specs.Commanding.{Turn}
use Rattle.flight.specs.Protecting.{PastRight, at_look, seen, Unset, CountsRight, InstrumentsRight, BeginsAnew, Acting, ActsJustThen, SafeByRules, RulesPut, ElseUntouched, LooksRight}
use Rattle.flight.proofs.Steps.{obeyed_cases, ticked_cases, one_cases, watched_zero, watched_suc, begun_low, begun_high, release_is, reception}
use Rattle.flight.proofs.Sound.{RuleOk, after_sound, reception_sound, watched_sizes, begun_size}
use Rattle.flight.proofs.Commanded.{expected_kept}
use Rattle.flight.proofs.Effected.{commands_act, watched_low}

past_upward : (r : Rule) (v : ℕ) → r.upward ≡ true → is_past r v ≡ leb r.limit v
past_upward r v e = cond-true r.upward (leb r.limit v) (leb v r.limit) e

past_downward : (r : Rule) (v : ℕ) → r.upward ≡ false → is_past r v ≡ leb v r.limit
past_downward r v e = cond-false r.upward (leb r.limit v) (leb v r.limit) e

pub past_right : PastRight
past_right = record {
  upward = λ r v e l. past_upward r v e ∙ le-leb r.limit v l;
  upward_not = λ r v e l. past_upward r v e ∙ lt-leb r.limit v l;
  downward = λ r v e l. past_downward r v e ∙ le-leb v r.limit l;
  downward_not = λ r v e l. past_downward r v e ∙ lt-leb v r.limit l;
  at_limit = λ r. ⊎_elim (λ e. past_upward r r.limit e ∙ le-leb r.limit r.limit (omega arith)) (λ e. past_downward r r.limit e ∙ le-leb r.limit r.limit (omega arith)) (cases_Bool r.upward);
}

-- the count of a rule after all were looked at is what it was found to be at its turn
count_then : (n : ℕ) (s : State) (k : ℕ) → k < n → k < length s.counts → count (watched n s) k ≡ looked k (watched k s)
count_then zero s k l z = absurd (omega arith)
count_then (suc n) s k l z =
    let t = (watched_sizes k s).1 in
    ap (λ (u : State). count u k) (watched_suc n s) ∙ ap (λ (c : List ℕ). get_or c k 0) (one_rules n (watched n s)).1
    ∙ ⊎_elim
    (λ (e : k ≡ n). subst (λ i. get_or (set (watched i s).counts i (looked i (watched i s))) k 0 ≡ looked k (watched k s)) e (get_or-set_same (watched k s).counts k (looked k (watched k s)) 0 (omega arith)))
    (λ (f : k ≡ n → ⊥). get_or-set_other (watched n s).counts n k (looked n (watched n s)) 0 f ∙ count_then n s k (omega arith) z)
    (cases_eq k n)

rule_same : (n : ℕ) (s : State) (k : ℕ) → rule (watched n s) k ≡ rule s k
rule_same n s k = ap (λ (rs : List Rule). get_or rs k off) (watched_rules n s)

-- at its turn a rule is as it was set, and its count as the tick before left it
looked_at : (k : ℕ) (s : State) → looked k (watched k s) ≡ next_count (rule s k) (parameter (watched k s) (rule s k).watches) (count s k)
looked_at k s =
    (λ j. next_count (rule_same k s k j) (parameter (watched k s) (rule_same k s k j).watches) (count_before k k s (omega arith) j))

pub release_count : (i : Inputs) (is : List Inputs) (k : ℕ) → AllLawful machine is → k < 16 → count (at_release i (after is)) k ≡ looked k (at_look k i is)
release_count i is k l lt =
    let z = (after_sound is l).4 in
    ap (λ (u : State). count u k) (release_is i (after is)) ∙ count_then 16 (begun i.readings (after is)) k lt (omega arith)

-- rule k and its count, unless it is set
abbrev About : ℕ → State → State → Type 0
About k s u = (rule u k ≡ rule s k) × (count u k ≡ count s k)

done_about : (s : State) (c : Command) (k : ℕ) → ((r : Rule) → c ≡ Command.SetRule k r → ⊥) → About k s (done s c)
done_about s (Command.SetRule j r) k f = let n : k ≡ j → ⊥ = λ e. f r (ap (λ m. Command.SetRule m r) (sym e)) in (get_or-set_other s.rules j k r off n, get_or-set_other s.counts j k 0 0 n)
done_about s _ k f = (refl, refl)

after_about : (i : Inputs) (is : List Inputs) (k : ℕ) → ((r : Rule) → Turn i is (Command.SetRule k r) → ⊥) → About k (at_reception i (after is)) (after (i ∷ is))
after_about i is k f =
    let r = at_reception i (after is) in
    let e = expected_kept i (after is) in
    ticked_cases (About k r) i (after is) (λ _. (refl, refl))
    (λ t h. obeyed_cases t r (About k r)
    (λ n _. done_about r t.command k (λ x d. f x (h ∙ (λ j. Some (record { number = (n ∙ e) j; command = d j }))))) (λ _ _. (refl, refl)) (λ _. (refl, refl)))

rule_stays : (k : ℕ) (r : Rule) (late early : List Inputs) → rule (after early) k ≡ r → Unset k late early → rule (after (late ++ early)) k ≡ r
rule_stays k r [] early e n = e
rule_stays k r (i ∷ late) early e n =
    (after_about i (late ++ early) k n.0).0 ∙ ap (λ (rs : List Rule). get_or rs k off) (reception i (after (late ++ early))).rules ∙ rule_stays k r late early e n.1

-- one more tick in which the rule was not set
count_on : (k : ℕ) (i : Inputs) (is : List Inputs) → AllLawful machine is → k < 16 → ((r : Rule) → Turn i is (Command.SetRule k r) → ⊥)
    → count (after (i ∷ is)) k ≡ next_count (rule (after is) k) (seen k i is) (count (after is) k)
count_on k i is l lt f =
    (after_about i is k f).1 ∙ ap (λ (c : List ℕ). get_or c k 0) (reception i (after is)).counts ∙ release_count i is k l lt ∙ looked_at k (begun i.readings (after is))

pub counts_right : CountsRight
counts_right k r [] early l lt e z n = z
counts_right k r (i ∷ late) early (more j js x l) lt e z n =
    let is = late ++ early in
    let ru = rule_stays k r late early e n.1 in
    let ih = counts_right k r late early l lt e z n.1 in
    count_on k i is l lt n.0 ∙ (λ j. cond (is_past (ru j) (seen k i is)) (suc (ih j)) 0)

pub instruments_right : InstrumentsRight
instruments_right k r [] early l lt w e z n = z
instruments_right k r (i ∷ late) early (more j js x l) lt w e z n =
    let is = late ++ early in
    let b = begun i.readings (after is) in
    let ru = rule_stays k r late early e n.1 in
    let ih = instruments_right k r late early l lt w e z n.1 in
    let sees : seen k i is ≡ get_or i.readings r.watches 0 =
    ap (λ (u : Rule). parameter (watched k b) u.watches) ru ∙ watched_low k b r.watches w (after_sound is l).1 ∙ begun_low i (after is) r.watches x w in
    count_on k i is l lt n.0 ∙ (λ j. cond (is_past (ru j) (sees j)) (suc (ih j)) 0)

pub begins_anew : BeginsAnew
begins_anew i is k r (more j js l ls) e lt w o =
    let d = (commands_act i is).set_rule k r e lt w o in
    let h = reception_sound i (after is) l (after_sound is ls) in
    let a = h.3 in
    let b = h.4 in
    (ap (λ (u : State). rule u k) d ∙ get_or-set_same (at_reception i (after is)).rules k r off (omega arith), ap (λ (u : State). count u k) d ∙ get_or-set_same (at_reception i (after is)).counts k 0 0 (omega arith))

acts_of : (r : Rule) (n : ℕ) → 1 ≤ r.needs → n ≡ r.needs → acts r n ≡ true
acts_of r n a b = and_from (leb 1 r.needs) (eqb n r.needs) (le-leb 1 r.needs a) (eq-eqb n r.needs b)

acts_parts : (r : Rule) (n : ℕ) → acts r n ≡ true → (1 ≤ r.needs) × (n ≡ r.needs)
acts_parts r n e = let p = and_parts (leb 1 r.needs) (eqb n r.needs) e in (leb-true 1 r.needs p.0, eqb-true n r.needs p.1)

pub acts_just_then : ActsJustThen
acts_just_then = record {
  acts = λ k s a b. cond-true (acts (rule s k) (looked k s)) (acted (rule s k) (counted k s)) (counted k s) (acts_of (rule s k) (looked k s) a b);
  idle = λ k s f. ⊎_elim (λ e. let p = acts_parts (rule s k) (looked k s) e in absurd (f p.0 p.1)) (λ e. cond-false (acts (rule s k) (looked k s)) (acted (rule s k) (counted k s)) (counted k s) e) (cases_Bool (acts (rule s k) (looked k s)));
}

-- rule k fires when it is looked at
abbrev Fires : ℕ → State → Type 0
Fires k s = acts (rule (watched k s) k) (looked k (watched k s)) ≡ true

fires_acting : (i : Inputs) (is : List Inputs) (k : ℕ) → AllLawful machine is → k < 16 → Fires k (begun i.readings (after is)) → Acting k i is
fires_acting i is k l lt f =
    let b = begun i.readings (after is) in
    let p = acts_parts (rule (watched k b) k) (looked k (watched k b)) f in
    let e = ap (λ (u : Rule). u.needs) (rule_same k b k) in
    record { below = lt; on = subst (λ n. 1 ≤ n) e p.0; just = release_count i is k l lt ∙ p.1 ∙ e }

acting_fires : (i : Inputs) (is : List Inputs) (k : ℕ) → AllLawful machine is → Acting k i is → Fires k (begun i.readings (after is))
acting_fires i is k l a =
    let b = begun i.readings (after is) in
    let e = ap (λ (u : Rule). u.needs) (rule_same k b k) in
    acts_of (rule (watched k b) k) (looked k (watched k b)) (subst (λ n. 1 ≤ n) (sym e) a.on) (sym (release_count i is k l a.below) ∙ a.just ∙ sym e)

-- safe mode comes from before or from a rule that fires
safe_from : (n : ℕ) (s : State) → (watched n s).safe_mode ≡ true → (s.safe_mode ≡ true) ⊎ ((k : ℕ) × (k < n) × Fires k s × ((rule s k).safes ≡ true))
safe_from zero s e = inl (sym (ap (λ (u : State). u.safe_mode) (watched_zero s)) ∙ e)
safe_from (suc n) s e =
    let t = watched n s in
    let on : t.safe_mode ≡ true → (s.safe_mode ≡ true) ⊎ ((k : ℕ) × (k < suc n) × Fires k s × ((rule s k).safes ≡ true)) = λ d. ⊎_elim inl (λ x. inr (x.0, omega arith, x.2, x.3)) (safe_from n s d) in
    one_cases n t (λ (u : State). u.safe_mode ≡ true → (s.safe_mode ≡ true) ⊎ ((k : ℕ) × (k < suc n) × Fires k s × ((rule s k).safes ≡ true)))
    (λ f g _. inr (n, omega arith, f, ap (λ (u : Rule). u.safes) (sym (rule_same n s n)) ∙ g)) (λ _ _ d. on d) (λ _ d. on d) (sym (ap (λ (u : State). u.safe_mode) (watched_suc n s)) ∙ e)

safe_stays : (n : ℕ) (s : State) → s.safe_mode ≡ true → (watched n s).safe_mode ≡ true
safe_stays zero s e = ap (λ (u : State). u.safe_mode) (watched_zero s) ∙ e
safe_stays (suc n) s e =
    ap (λ (u : State). u.safe_mode) (watched_suc n s) ∙ one_cases n (watched n s) (λ (u : State). u.safe_mode ≡ true) (λ _ _. refl) (λ _ _. safe_stays n s e) (λ _. safe_stays n s e)

fires_safe : (n : ℕ) (s : State) (k : ℕ) → k < n → Fires k s → (rule s k).safes ≡ true → (watched n s).safe_mode ≡ true
fires_safe zero s k l f g = absurd (omega arith)
fires_safe (suc n) s k l f g =
    ap (λ (u : State). u.safe_mode) (watched_suc n s)
    ∙ ⊎_elim
    (λ (e : k ≡ n). subst (λ j. (watched_one j (watched j s)).safe_mode ≡ true) e
    (one_cases k (watched k s) (λ (u : State). u.safe_mode ≡ true) (λ _ _. refl) (λ _ d. absurd (true≢false (sym g ∙ ap (λ (u : Rule). u.safes) (sym (rule_same k s k)) ∙ d))) (λ d. absurd (true≢false (sym f ∙ d)))))
    (λ (d : k ≡ n → ⊥). let h = fires_safe n s k (omega arith) f g in one_cases n (watched n s) (λ (u : State). u.safe_mode ≡ true) (λ _ _. refl) (λ _ _. h) (λ _. h))
    (cases_eq k n)

pub safe_by_rules : SafeByRules
safe_by_rules = record {
  from = λ i is l e. ⊎_elim inl (λ x. inr (x.0, fires_acting i is x.0 l x.1 x.2, x.3)) (safe_from 16 (begun i.readings (after is)) (sym (ap (λ (u : State). u.safe_mode) (release_is i (after is))) ∙ e));
  stays = λ i is e. ap (λ (u : State). u.safe_mode) (release_is i (after is)) ∙ safe_stays 16 (begun i.readings (after is)) e;
  by = λ i is k l a g. ap (λ (u : State). u.safe_mode) (release_is i (after is)) ∙ fires_safe 16 (begun i.readings (after is)) k a.below (acting_fires i is k l a) g;
}

-- parameters, where no rule that fires puts
value_else : (n : ℕ) (s : State) (p : ℕ) → ((k : ℕ) → k < n → Fires k s → (rule s k).safes ≡ false → (rule s k).place ≡ p → ⊥) → parameter (watched n s) p ≡ parameter s p
value_else zero s p h = ap (λ (u : State). parameter u p) (watched_zero s)
value_else (suc n) s p h =
    let t = watched n s in
    let ih = value_else n s p (λ k l. h k (omega arith)) in
    let e = rule_same n s n in
    ap (λ (u : State). parameter u p) (watched_suc n s)
    ∙ one_cases n t (λ (u : State). parameter u p ≡ parameter s p) (λ _ _. ih)
    (λ f g. get_or-set_other t.parameters (rule t n).place p (rule t n).number 0 (λ d. h n (omega arith) f (ap (λ (u : Rule). u.safes) (sym e) ∙ g) (ap (λ (u : Rule). u.place) (sym e) ∙ sym d)) ∙ ih) (λ _. ih)

value_last : (n : ℕ) (s : State) (k p : ℕ) → k < n → p < length s.parameters → (rule s k).place ≡ p → Fires k s → (rule s k).safes ≡ false
    → ((j : ℕ) → k < j → j < n → Fires j s → (rule s j).safes ≡ false → (rule s j).place ≡ p → ⊥) → parameter (watched n s) p ≡ (rule s k).number
value_last zero s k p l z pl f g h = absurd (omega arith)
value_last (suc n) s k p l z pl f g h =
    ap (λ (u : State). parameter u p) (watched_suc n s)
    ∙ ⊎_elim
    (λ (e : k ≡ n). subst (λ j. parameter (watched_one j (watched j s)) p ≡ (rule s k).number) e (here f g z pl))
    (λ (d : k ≡ n → ⊥).
    let t = watched n s in
    let ih = value_last n s k p (omega arith) z pl f g (λ j a b. h j a (omega arith)) in
    let q = rule_same n s n in
    one_cases n t (λ (u : State). parameter u p ≡ (rule s k).number) (λ _ _. ih)
    (λ x y. get_or-set_other t.parameters (rule t n).place p (rule t n).number 0
    (λ c. h n (omega arith) (omega arith) x (ap (λ (u : Rule). u.safes) (sym q) ∙ y) (ap (λ (u : Rule). u.place) (sym q) ∙ sym c)) ∙ ih) (λ _. ih))
    (cases_eq k n)
  where
    here : Fires k s → (rule s k).safes ≡ false → p < length s.parameters → (rule s k).place ≡ p → parameter (watched_one k (watched k s)) p ≡ (rule s k).number
    here f g z pl =
        let t = watched k s in
        let q = rule_same k s k in
        let size = (watched_sizes k s).0 in
        let at : (rule t k).place ≡ p = ap (λ (u : Rule). u.place) q ∙ pl in
        one_cases k t (λ (u : State). parameter u p ≡ (rule s k).number) (λ _ x. absurd (true≢false (sym x ∙ ap (λ (u : Rule). u.safes) q ∙ g)))
        (λ _ _. (λ j. get_or (set t.parameters (at j) (q j).number) p 0) ∙ get_or-set_same t.parameters p (rule s k).number 0 (omega arith)) (λ x. absurd (true≢false (sym f ∙ x)))

pub else_untouched : ElseUntouched
else_untouched i is k p (more j js l ls) lk h f =
    let b = begun i.readings (after is) in
    value_else k b p (λ n lt x g e. f n lt (record { acting = fires_acting i is n ls (omega arith) x; puts = g; there = e })) ∙ begun_high i (after is) p l h

acting_place : (r : Rule) → RuleOk r → 1 ≤ r.needs → r.safes ≡ false → r.place ≤ 63
acting_place r o n e = ⊎_elim {C = r.place ≤ 63} (λ z. absurd (omega arith)) (⊎_elim {C = r.place ≤ 63} (λ t. absurd (true≢false (sym t ∙ e))) (λ p. p.1)) o.puts

pub rules_put : RulesPut
rules_put i is k n p (more j js l ls) lk lt a h =
    let b = begun i.readings (after is) in
    let so = after_sound is ls in
    let z = begun_size i (after is) l so.2 in
    let fits = acting_place (rule (after is) n) (so.1 n) a.acting.on a.puts in
    let pl = a.there in
    value_last k b n p lt (omega arith) pl (acting_fires i is n ls a.acting) a.puts
    (λ m x y f g e. h m x y (record { acting = fires_acting i is m ls (omega arith) f; puts = g; there = e }))

read_at_look : (i : Inputs) (is : List Inputs) (k p : ℕ) → AllLawful machine (i ∷ is) → p < 16 → parameter (at_look k i is) p ≡ get_or i.readings p 0
read_at_look i is k p (more j js l ls) lt = watched_low k (begun i.readings (after is)) p lt (after_sound is ls).1 ∙ begun_low i (after is) p l lt

pub looks_right : LooksRight
looks_right = record {
  reads = λ i is k p l lk lt. read_at_look i is k p l lt;
  release = λ i is. release_is i (after is);
}
