-- Words without fault are those that the map allows.
use Rattle.std.proofs.Common.{◌≡◌, ℕ, zero, suc, ◌+◌, ◌-◌, ◌*◌, ◌/◌, ◌%◌, ◌<◌, ◌≤◌, Bool, true, false, cond, not, ◌&&◌, eqb, ltb, leb, ◌⊎◌, List, [], ◌∷◌, ◌++◌, length, length-append, bit_or, get_or, Some, None, Option, sym, refl, ap, ◌∙◌, subst, ⊎_elim, arith}
use Rattle.std.specs.Prelude.{MatchOption, MatchBool}
use lib.Bits.{or_add_and, and_le_l, and_le_r}
use Rattle.std.specs.List.{range_with_len, AllWithin, find}
use Rattle.std.proofs.lemmas.List.{get_or_append_left, get_or_push}
use Rattle.std.proofs.lemmas.List.FromFn.{length-range_with_len, get_or-range_with_len}
use Rattle.std.proofs.lemmas.Bool.Decides.{nat_tests}
use Rattle.std.proofs.lemmas.Bool.{lt-ltb, le-ltb, ltb-false, leb-false, ne_eqb, cases_lt, cases_eq, true≢false, and_left, and_right}
use Rattle.parameters.specs.Places.{may_put}
use Rattle.satellite.specs.Fit.{most}
use Rattle.layout.specs.Map.{activity_size, rule_size, waiting_at, activities_at, rules_at, counts_at, word_count}
use Rattle.layout.specs.Fault.{at_fault, Faultless, Lowest, lowest_fault, Sane, FaultsRight}

-- a word at its place in an activity or a rule
activity_place : (ws : List ℕ) (k i j : ℕ) → j < activity_size → k ≡ activities_at + activity_size * i + j → i < 32
    → at_fault ws k ≡ cond (ltb most (get_or ws k 0)) true (ltb i (get_or ws waiting_at 0) && cond (eqb j 0) (leb (get_or ws k 0) (get_or ws 0 0)) (eqb j 1 && not (may_put (get_or ws k 0))))
activity_place ws k i j h e lt =
    let q : (k - activities_at) / activity_size ≡ i = omega arith in
    let r : (k - activities_at) % activity_size ≡ j = omega arith in
    simp (ne_eqb k waiting_at (λ x. omega arith), le-ltb k activities_at (omega arith), lt-ltb k rules_at (omega arith), q, r)

rule_place : (ws : List ℕ) (k i j : ℕ) → j < rule_size → k ≡ rules_at + rule_size * i + j → i < 16
    → at_fault ws k ≡ cond (ltb most (get_or ws k 0)) true (cond (eqb j 0) (leb 64 (get_or ws k 0)) (eqb j 5 && (leb 1 (get_or ws (k - 2) 0) && (not (eqb (get_or ws (k - 1) 0) 1) && not (may_put (get_or ws k 0))))))
rule_place ws k i j h e lt =
    let r : (k - rules_at) % rule_size ≡ j = omega arith in
    simp (ne_eqb k waiting_at (λ x. omega arith), le-ltb k activities_at (omega arith), le-ltb k rules_at (omega arith), lt-ltb k counts_at (omega arith), r)

after_most : (x : ℕ) (b : Bool) → cond (ltb most x) true b ≡ false → (x ≤ most) × (b ≡ false)
after_most x b e = grind (arith, nat_tests)

rule_facts : (n : ℕ) (r m : Bool) → (leb 1 n && (not r && not m)) ≡ false → (n ≡ 0) ⊎ ((r ≡ true) ⊎ (m ≡ true))
rule_facts n r m e = grind (arith, nat_tests)

time_facts : (a b c d : ℕ) → (ltb a b && leb c d) ≡ false → a < b → d < c
time_facts a b c d e h = grind (arith, nat_tests)

place_facts : (a b : ℕ) (m : Bool) → (ltb a b && not m) ≡ false → a < b → m ≡ true
place_facts a b m e h = grind (arith, nat_tests)

pub sane_of : (ws : List ℕ) → Faultless ws → Sane ws
sane_of ws h =
    let few : get_or ws waiting_at 0 ≤ 32 = ltb-false 32 (get_or ws waiting_at 0) (after_most (get_or ws waiting_at 0) (ltb 32 (get_or ws waiting_at 0)) (h waiting_at (omega arith))).1 in
    record {
      small = λ k lt. (after_most (get_or ws k 0) _ (h k lt)).0;
      few = few;
      later = λ i lt. let p = after_most (get_or ws (activities_at + activity_size * i) 0) _ (sym (activity_place ws (activities_at + activity_size * i) i 0 (omega arith) (omega arith) (omega arith)) ∙ h (activities_at + activity_size * i) (omega arith)) in time_facts i (get_or ws waiting_at 0) (get_or ws (activities_at + activity_size * i) 0) (get_or ws 0 0) p.1 lt;
      placed = λ i lt. let p = after_most (get_or ws (activities_at + 1 + activity_size * i) 0) _ (sym (activity_place ws (activities_at + 1 + activity_size * i) i 1 (omega arith) (omega arith) (omega arith)) ∙ h (activities_at + 1 + activity_size * i) (omega arith)) in place_facts i (get_or ws waiting_at 0) (may_put (get_or ws (activities_at + 1 + activity_size * i) 0)) p.1 lt;
      watches = λ i lt. let p = after_most (get_or ws (rules_at + rule_size * i) 0) _ (sym (rule_place ws (rules_at + rule_size * i) i 0 (omega arith) (omega arith) lt) ∙ h (rules_at + rule_size * i) (omega arith)) in leb-false 64 (get_or ws (rules_at + rule_size * i) 0) p.1;
      puts = λ i lt.
          let p = after_most (get_or ws (rules_at + 5 + rule_size * i) 0) _ (sym (rule_place ws (rules_at + 5 + rule_size * i) i 5 (omega arith) (omega arith) lt) ∙ h (rules_at + 5 + rule_size * i) (omega arith)) in
          let a : rules_at + 5 + rule_size * i - 2 ≡ rules_at + 3 + rule_size * i = omega arith in
          let b : rules_at + 5 + rule_size * i - 1 ≡ rules_at + 4 + rule_size * i = omega arith in
          rule_facts (get_or ws (rules_at + 3 + rule_size * i) 0) (eqb (get_or ws (rules_at + 4 + rule_size * i) 0) 1) (may_put (get_or ws (rules_at + 5 + rule_size * i) 0)) (simp (a, b) at p.1);
    }

activity_none : (a b j x t : ℕ) (m : Bool) → (a < b → j ≡ 0 → t < x) → (a < b → j ≡ 1 → m ≡ true) → (ltb a b && cond (eqb j 0) (leb x t) (eqb j 1 && not m)) ≡ false
activity_none a b j x t m f g =
    ⊎_elim (λ lt. and_right (ltb a b) (cond (eqb j 0) (leb x t) (eqb j 1 && not m)) (⊎_elim (λ e. let h = f lt e in grind (arith, nat_tests)) (λ ne. ⊎_elim (λ e. let h = g lt e in grind (arith, nat_tests)) (λ nf. grind (arith, nat_tests)) (cases_eq j 1)) (cases_eq j 0)))
    (λ le. and_left _ _ (le-ltb _ _ le)) (cases_lt a b)

rule_none : (j x n : ℕ) (r m : Bool) → (j ≡ 0 → x < 64) → (j ≡ 5 → (n ≡ 0) ⊎ ((r ≡ true) ⊎ (m ≡ true))) → cond (eqb j 0) (leb 64 x) (eqb j 5 && (leb 1 n && (not r && not m))) ≡ false
rule_none j x n r m f g =
    ⊎_elim (λ e. let h = f e in grind (arith, nat_tests)) (λ ne. ⊎_elim (λ e. let h = g e in grind (arith, nat_tests)) (λ nf. grind (arith, nat_tests)) (cases_eq j 5)) (cases_eq j 0)

below_most : (x : ℕ) (b : Bool) → x ≤ most → b ≡ false → cond (ltb most x) true b ≡ false
below_most x b h e = grind (arith, nat_tests)

pub faultless_of : (ws : List ℕ) → Sane ws → Faultless ws
faultless_of ws f k lt =
    below_most (get_or ws k 0) _ (f.small k lt)
    (⊎_elim (λ e. rw e (le-ltb 32 (get_or ws waiting_at 0) f.few))
    (λ ne. rw (ne_eqb k waiting_at ne) (⊎_elim (λ a. rw (lt-ltb k activities_at a) refl)
    (λ a. rw (le-ltb k activities_at a) (⊎_elim
    (λ b. rw (lt-ltb k rules_at b) (activity_none ((k - activities_at) / activity_size) (get_or ws waiting_at 0) ((k - activities_at) % activity_size) (get_or ws k 0) (get_or ws 0 0) (may_put (get_or ws k 0))
    (λ i j. let s : activities_at + activity_size * ((k - activities_at) / activity_size) ≡ k = omega arith in rw s at (f.later ((k - activities_at) / activity_size) i))
    (λ i j. let s : activities_at + 1 + activity_size * ((k - activities_at) / activity_size) ≡ k = omega arith in rw s at (f.placed ((k - activities_at) / activity_size) i))))
    (λ b. rw (le-ltb k rules_at b) (⊎_elim
    (λ d. rw (lt-ltb k counts_at d) (rule_none ((k - rules_at) % rule_size) (get_or ws k 0) (get_or ws (k - 2) 0) (eqb (get_or ws (k - 1) 0) 1) (may_put (get_or ws k 0))
    (λ j. let s : rules_at + rule_size * ((k - rules_at) / rule_size) ≡ k = omega arith in rw s at (f.watches ((k - rules_at) / rule_size) (omega arith)))
    (λ j. let s : rules_at + 3 + rule_size * ((k - rules_at) / rule_size) ≡ k - 2 = omega arith in let t : rules_at + 4 + rule_size * ((k - rules_at) / rule_size) ≡ k - 1 = omega arith in let u : rules_at + 5 + rule_size * ((k - rules_at) / rule_size) ≡ k = omega arith in
    simp (s, t, u) at (f.puts ((k - rules_at) / rule_size) (omega arith)))))
    (λ d. rw (le-ltb k counts_at d) refl) (cases_lt k counts_at))) (cases_lt k rules_at))) (cases_lt k activities_at)))
    (cases_eq k waiting_at))

-- the first at fault of n words from word a on
abbrev First : List ℕ → ℕ → ℕ → Option ℕ → Type 0
First ws a n None = (k : ℕ) → a ≤ k → k < a + n → at_fault ws k ≡ false
First ws a n (Some k) = (k < a + n) × (at_fault ws k ≡ true) × ((j : ℕ) → a ≤ j → j < k → at_fault ws j ≡ false)

one_before : (ws : List ℕ) (a n : ℕ) (o : Option ℕ) → First ws (a + 1) n o → (b : Bool) → at_fault ws a ≡ b → First ws a (suc n) (cond b (Some a) o)
one_before ws a n o h true e = (omega arith, e, λ j l m. absurd (omega arith))
one_before ws a n None h false e = λ k l m. ⊎_elim (λ (p : a < k). h k (omega arith) (omega arith)) (λ (p : k ≤ a). let d : a ≡ k = omega arith in subst (λ j. at_fault ws j ≡ false) d e) (cases_lt a k)
one_before ws a n (Some k) h false e =
    (omega (arith, h.0), h.1, λ j l m. ⊎_elim (λ (p : a < j). h.2 j (omega arith) m) (λ (p : j ≤ a). let d : a ≡ j = omega arith in subst (λ i. at_fault ws i ≡ false) d e) (cases_lt a j))

is_first : (ws : List ℕ) (a n : ℕ) → First ws a n (find (at_fault ws) (range_with_len a n))
is_first ws a zero = λ k l m. absurd (omega arith)
is_first ws a (suc n) = one_before ws a n (find (at_fault ws) (range_with_len (a + 1) n)) (is_first ws (a + 1) n) (at_fault ws a) refl

as_lowest : (ws : List ℕ) (o : Option ℕ) → First ws 0 word_count o → Lowest ws o
as_lowest ws None h = λ k l. h k (omega arith) l
as_lowest ws (Some k) h = (h.0, h.1, λ j l. h.2 j (omega arith) l)

pub lowest_right : (ws : List ℕ) → Lowest ws (lowest_fault ws)
unfolding lowest_fault
lowest_right ws = as_lowest ws (find (at_fault ws) (range_with_len 0 word_count)) (is_first ws 0 word_count)

-- there is one such answer
once : (ws : List ℕ) (o p : Option ℕ) → Lowest ws o → Lowest ws p → o ≡ p
once ws None None h g = refl
once ws None (Some k) h g = absurd (true≢false (sym g.1 ∙ h k g.0))
once ws (Some k) None h g = absurd (true≢false (sym h.1 ∙ g k h.0))
once ws (Some j) (Some k) h g =
    ⊎_elim (λ (l : j < k). absurd (true≢false (sym h.1 ∙ g.2 j l)))
    (λ (l : k ≤ j). ⊎_elim (λ (m : k < j). absurd (true≢false (sym g.1 ∙ h.2 k m))) (λ (m : j ≤ k). let e : j ≡ k = omega arith in ap Some e) (cases_lt k j)) (cases_lt j k)

pub lowest_is : (ws : List ℕ) (o : Option ℕ) → Lowest ws o → o ≡ lowest_fault ws
lowest_is ws o h = once ws o (lowest_fault ws) h (lowest_right ws)

pub faults_right : FaultsRight
faults_right = record { sound = sane_of; complete = faultless_of; lowest = lowest_right }

-- the lowest number that is at fault, of those below the last
pub lowest_of : (ws : List ℕ) (o : Option ℕ) → MatchOption o ((k : ℕ) → 0 ≤ k → k < word_count → at_fault ws k ≡ false) (λ i. (0 ≤ i) × (i < word_count) × (at_fault ws i ≡ true) × ((k : ℕ) → 0 ≤ k → k < i → at_fault ws k ≡ false)) → Lowest ws o
lowest_of ws None h = λ k lt. h k (omega arith) lt
lowest_of ws (Some i) h = (h.1, h.2, λ k lt. h.3 k (omega arith) lt)

-- what all numbers below n passed holds of each
pub each_of : (n : ℕ) (P : ℕ → Type 0) (b : Bool) (Q : Type 0) → MatchBool b (AllWithin P (range_with_len 0 n) 0 (length (range_with_len 0 n))) Q → b ≡ true → (i : ℕ) → i < n → P i
each_of n P true Q h e i lt = subst P (get_or-range_with_len 0 n i 0 lt ∙ omega arith) (h i 0 (omega arith) (let l = length-range_with_len 0 n in omega arith))
each_of n P false Q h e i lt = absurd (true≢false (sym e))

-- none of the words so far is larger than all of them or-ed together
abbrev pub Within : List ℕ → ℕ → Type 0
Within ws all = (k : ℕ) → k < length ws → get_or ws k 0 ≤ all

pub within_more : (ws : List ℕ) (all word : ℕ) → Within ws all → Within (ws ++ (word ∷ [])) (bit_or all word)
within_more ws all word h k lt =
    ⊎_elim (λ (l : k < length ws). rw (get_or_append_left ws (word ∷ []) 0 k l) (omega (arith, h k l, or_add_and all word, and_le_r all word)))
    (λ (l : length ws ≤ k). let e : k ≡ length ws = (let n = length-append ws (word ∷ []) in omega arith) in rw (e, get_or_push ws word 0 (length ws) refl) (omega (arith, or_add_and all word, and_le_l all word))) (cases_lt k (length ws))
