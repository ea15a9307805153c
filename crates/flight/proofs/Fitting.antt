-- What a flight leaves is not refused.
use Rattle.std.proofs.Common.{◌≡◌, ℕ, zero, suc, ◌+◌, ◌*◌, ◌<◌, ◌≤◌, Bool, true, false, eqb, leb, List, [], ◌∷◌, length, get_or, sym, refl, ap, ◌∙◌, subst, inl, inr, ⊎_elim, arith}
use Rattle.std.proofs.lemmas.Bool.{le-leb, and_from}
use Rattle.schedule.specs.declared.activity.Activity.{Activity}
use Rattle.schedule.specs.Waiting.{no_activity}
use Rattle.std.specs.List.{flat_map}
use Rattle.rules.specs.Watching.{off}
use Rattle.rules.specs.declared.rule.Rule.{Rule}
use Rattle.parameters.specs.Places.{may_put}
use Rattle.satellite.specs.State.{State, rule}
use Rattle.satellite.specs.Fit.{most}
use Rattle.rules.specs.Numbers.{bit}
use Rattle.layout.specs.Map.{activity_words, rule_words, words_of, Sized, activity_size, rule_size, waiting_at, activities_at, rules_at, head_words, parts}
use Rattle.layout.specs.Fault.{Faultless, Sane}
use Rattle.layout.proofs.Places.{head_word, waiting_word, activity_word, rule_word}
use Rattle.layout.proofs.Sanity.{faultless_of}
use Rattle.layout.proofs.Tidiness.{tidy_right}
use Rattle.flight.specs.Flight.{keeper, machine, after, NeverRefused}
use Rattle.flight.specs.Effects.{PutPlace}
use Rattle.flight.specs.Scheduling.{Among, here, there}
use Rattle.flight.proofs.Waits.{among_at}
use Rattle.layout.proofs.Joined.{all_words, each_flat, each_nought, each_behind}
use Rattle.flight.proofs.Sound.{Sound, after_sound, after_sized}
use Rattle.flight.proofs.Received.{Small, SmallRule, SmallActivity}
use Rattle.flight.proofs.Bounds.{Bounded, after_bounded}
use Rattle.flight.proofs.Flying.{all_lawful, keeps, flies_right}

pub place_may : (a : ℕ) → PutPlace a → may_put a ≡ true
place_may a p = and_from (leb 16 a) (leb a 63) (le-leb 16 a p.0) (le-leb a 63 p.1)

bit_small : (b : Bool) → Small (bit b)
bit_small true = omega arith
bit_small false = omega arith

-- each word of an activity and of a rule is small
activity_small : (a : Activity) (j : ℕ) → SmallActivity a → Small (get_or (activity_words a) j 0)
activity_small a zero h = h.release
activity_small a (suc zero) h = h.place
activity_small a (suc (suc zero)) h = h.number
activity_small a (suc (suc (suc j))) h = omega arith

rule_small : (r : Rule) (j : ℕ) → SmallRule r → Small (get_or (rule_words r) j 0)
rule_small r zero h = h.watches
rule_small r (suc zero) h = h.limit
rule_small r (suc (suc zero)) h = bit_small r.upward
rule_small r (suc (suc (suc zero))) h = h.needs
rule_small r (suc (suc (suc (suc zero)))) h = bit_small r.safes
rule_small r (suc (suc (suc (suc (suc zero))))) h = h.place
rule_small r (suc (suc (suc (suc (suc (suc zero)))))) h = h.number
rule_small r (suc (suc (suc (suc (suc (suc (suc j))))))) h = omega arith

head_most : (n : ℕ) (s : State) → n < most → Bounded n n s → (k : ℕ) → get_or (head_words s) k 0 ≤ most
head_most n s l b zero = omega (arith, b.time)
head_most n s l b (suc zero) = omega (arith, b.expected)
head_most n s l b (suc (suc zero)) = let p = bit_small s.safe_mode in omega arith
head_most n s l b (suc (suc (suc zero))) = omega (arith, b.rejected)
head_most n s l b (suc (suc (suc (suc zero)))) = omega (arith, b.missed)
head_most n s l b (suc (suc (suc (suc (suc k))))) = omega arith

waiting_most : (n k : ℕ) → n ≤ 32 → get_or (n ∷ []) k 0 ≤ most
waiting_most n zero h = omega arith
waiting_most n (suc k) h = omega arith

-- an activity of a bounded state, or the one that stands where there is none
each_activity : (xs : List Activity) → ((a : Activity) → Among a xs → SmallActivity a) → (i : ℕ) → SmallActivity (get_or xs i no_activity)
each_activity [] h i = record { release = omega arith; place = omega arith; number = omega arith }
each_activity (x ∷ xs) h zero = h x (here xs)
each_activity (x ∷ xs) h (suc i) = each_activity xs (λ a m. h a (there x xs m)) i

-- no word of a bounded state is past 2^62, part by part
words_most : (n : ℕ) (s : State) → n < most → Sized s → Bounded n n s → (k : ℕ) → get_or (words_of s) k 0 ≤ most
unfolding words_of
words_most n s l z b =
    all_words (λ x. x ≤ most) (parts s) (omega arith) (
      head_most n s l b,
      (
        λ k. (let p = b.parameters k in omega arith),
        (
          λ k. waiting_most (length s.schedule) k z.schedule,
          (
            each_behind (λ x. x ≤ most) (flat_map activity_words s.schedule) _ (each_flat (λ x. x ≤ most) activity_words s.schedule no_activity (omega arith) (λ i j. let p = activity_small (get_or s.schedule i no_activity) j (each_activity s.schedule b.schedule i) in omega arith)) (each_nought (λ x. x ≤ most) _ (omega arith)),
            (
              each_flat (λ x. x ≤ most) rule_words s.rules off (omega arith) (λ i j. let p = rule_small (rule s i) j (b.rules i) in omega arith),
              (
                λ k. (let p = b.counts k in omega arith),
                tt,
              ),
            ),
          ),
        ),
      ),
    )

-- a word of an activity or a rule, by its name
activity_at : (s : State) → Sized s → (i j k : ℕ) → i < length s.schedule → j < activity_size → activities_at + (activity_size * i + j) ≡ k → get_or (words_of s) k 0 ≡ get_or (activity_words (get_or s.schedule i no_activity)) j 0
activity_at s z i j k a b e = ap (λ n. get_or (words_of s) n 0) (sym e) ∙ activity_word s z i j a b

rule_at : (s : State) → Sized s → (i j k : ℕ) → i < 16 → j < rule_size → rules_at + (rule_size * i + j) ≡ k → get_or (words_of s) k 0 ≡ get_or (rule_words (rule s i)) j 0
rule_at s z i j k a b e = ap (λ n. get_or (words_of s) n 0) (sym e) ∙ rule_word s z i j a b

bit_one : (b : Bool) → b ≡ true → eqb (bit b) 1 ≡ true
bit_one true e = refl
bit_one false e = e

sane : (n : ℕ) (s : State) → n < most → Sized s → Sound s → Bounded n n s → Sane (words_of s)
sane n s l z h b =
    let w = words_of s in
    let c : get_or w waiting_at 0 ≡ length s.schedule = waiting_word s z in
    let t : get_or w 0 0 ≡ s.time = (head_word s).0 in
    record {
      small = λ k lt. words_most n s l z b k;
      few = (let f = z.schedule in omega arith);
      later = λ i lt. (let e = activity_at s z i 0 (activities_at + activity_size * i) (omega arith) (omega arith) (omega arith) in let p = h.0.later (get_or s.schedule i no_activity) (among_at s.schedule i no_activity (omega arith)) in omega arith);
      placed = λ i lt. (let e = activity_at s z i 1 (activities_at + 1 + activity_size * i) (omega arith) (omega arith) (omega arith) in ap may_put e ∙ place_may (get_or s.schedule i no_activity).place (h.0.places (get_or s.schedule i no_activity) (among_at s.schedule i no_activity (omega arith))));
      watches = λ i lt. (let e = rule_at s z i 0 (rules_at + rule_size * i) lt (omega arith) (omega arith) in let p = (h.1 i).watches in omega arith);
      puts = λ i lt.
          (let needs = rule_at s z i 3 (rules_at + 3 + rule_size * i) lt (omega arith) (omega arith) in
          let safes = rule_at s z i 4 (rules_at + 4 + rule_size * i) lt (omega arith) (omega arith) in
          let place = rule_at s z i 5 (rules_at + 5 + rule_size * i) lt (omega arith) (omega arith) in
          ⊎_elim (λ e. inl (needs ∙ e)) (λ o. inr (⊎_elim (λ e. inl (ap (λ x. eqb x 1) safes ∙ bit_one (rule s i).safes e)) (λ p. inr (ap may_put place ∙ place_may (rule s i).place p)) o)) (h.1 i).puts);
    }

pub never_refused : NeverRefused
never_refused is kept found flown upset short =
    let lawful = all_lawful keeper machine is kept flown in
    let left = flies_right.holds is kept flown in
    let sized = after_sized is lawful in
    let written = faultless_of (words_of (after is)) (sane (length is) (after is) short sized (after_sound is lawful) (after_bounded is lawful)) in
    subst Faultless (sym (keeps.mends kept found left.words left.holds upset)) (tidy_right.faultless left.words (after is) sized left.left_for written)
