-- Which word of a state stands where.
use Rattle.std.proofs.Common.{◌≡◌, ℕ, ◌+◌, ◌-◌, ◌*◌, ◌<◌, ◌≤◌, List, [], length, get_or, take, drop, replicate, sym, refl, ap, ◌∙◌, ⊎_elim, arith, length-append}
use lib.ListN.{length-replicate}
use Rattle.std.specs.List.{flat_map}
use Rattle.std.proofs.lemmas.List.{append-nil, get_or-replicate, get_or_past}
use Rattle.std.proofs.lemmas.Bool.{cases_lt}
use Rattle.schedule.specs.Waiting.{no_activity}
use Rattle.rules.specs.Watching.{off}
use Rattle.satellite.specs.State.{State, parameter, rule, count}
use Rattle.layout.specs.Map.{activity_words, rule_words, schedule_words, words_of, Sized, activity_size, rule_size, parameters_at, waiting_at, activities_at, activities_room, rules_at, rules_room, counts_at, word_count, parts, sizes}
use Rattle.layout.proofs.Units.{length_joined, getD_joined}
use Rattle.layout.proofs.Joined.{Fit, offset, behind, all_long, part_word, whole_part}

-- each part has its length
length_schedule : (s : State) → Sized s → length (schedule_words s.schedule) ≡ activities_room
length_schedule s z =
    let n : ℕ = length s.schedule in
    let f : n ≤ 32 = z.schedule in
    let e : activity_size * n + (activities_room - activity_size * n) ≡ activities_room = omega arith in
    length-append (flat_map activity_words s.schedule) (replicate (activities_room - activity_size * n) 0) ∙ (λ i. length_joined activity_size activity_words (λ x. refl) s.schedule i + length-replicate {A = ℕ} (activities_room - activity_size * n) 0 i) ∙ e

length_rules : (s : State) → Sized s → length (flat_map rule_words s.rules) ≡ rules_room
length_rules s z = length_joined rule_size rule_words (λ x. refl) s.rules ∙ ap (λ k. rule_size * k) z.rules

fits : (s : State) → Sized s → Fit (parts s) sizes
fits s z = (refl, (z.parameters, (refl, (length_schedule s z, (length_rules s z, (z.counts, tt))))))

-- word j of part i, and all of part i
word : (s : State) → Sized s → (i j : ℕ) → j < get_or sizes i 0 → get_or (words_of s) (offset sizes i + j) 0 ≡ get_or (get_or (parts s) i []) j 0
unfolding words_of
word s z i j l = part_word (parts s) sizes (fits s z) i j l

pub part_is : (s : State) → Sized s → (i : ℕ) → i < length sizes → take (get_or sizes i 0) (drop (offset sizes i) (words_of s)) ≡ get_or (parts s) i []
unfolding words_of
part_is s z i l = whole_part (parts s) sizes (fits s z) i l

pub length_words : (s : State) → Sized s → length (words_of s) ≡ word_count
unfolding words_of
length_words s z = all_long (parts s) sizes (fits s z)

-- the first five words
pub head_word : (s : State) → (get_or (words_of s) 0 0 ≡ s.time) × (get_or (words_of s) 1 0 ≡ s.expected) × (get_or (words_of s) 3 0 ≡ s.rejected) × (get_or (words_of s) 4 0 ≡ s.missed)
unfolding words_of
head_word s = (refl, refl, refl, refl)

pub parameter_word : (s : State) → Sized s → (k : ℕ) → k < 64 → get_or (words_of s) (parameters_at + k) 0 ≡ parameter s k
parameter_word s z k l = word s z 1 k l

pub parameter_words : (s : State) → Sized s → take 64 (drop parameters_at (words_of s)) ≡ s.parameters
parameter_words s z = part_is s z 1 (omega arith)

pub waiting_word : (s : State) → Sized s → get_or (words_of s) waiting_at 0 ≡ length s.schedule
waiting_word s z = word s z 2 0 (omega arith)

-- word j of activity i, and of rule i
pub activity_word : (s : State) → Sized s → (i j : ℕ) → i < length s.schedule → j < activity_size → get_or (words_of s) (activities_at + (activity_size * i + j)) 0 ≡ get_or (activity_words (get_or s.schedule i no_activity)) j 0
activity_word s z i j a b =
    word s z 3 (activity_size * i + j) (let f = z.schedule in omega arith) ∙ getD_joined activity_size activity_words no_activity (λ x. refl) s.schedule (replicate (activities_room - activity_size * length s.schedule) 0) i j a b

pub rule_word : (s : State) → Sized s → (i j : ℕ) → i < 16 → j < rule_size → get_or (words_of s) (rules_at + (rule_size * i + j)) 0 ≡ get_or (rule_words (rule s i)) j 0
rule_word s z i j a b =
    word s z 4 (rule_size * i + j) (omega arith) ∙ ap (λ (ws : List ℕ). get_or ws (rule_size * i + j) 0) (sym (append-nil (flat_map rule_words s.rules)))
    ∙ getD_joined rule_size rule_words off (λ x. refl) s.rules [] i j (let e = z.rules in omega arith) b

pub nought_word : (s : State) → Sized s → (j : ℕ) → activity_size * length s.schedule ≤ j → j < activities_room → get_or (words_of s) (activities_at + j) 0 ≡ 0
nought_word s z j a b =
    let n = length_joined activity_size activity_words (λ x. refl) s.schedule in
    let e : activity_size * length s.schedule + (j - activity_size * length s.schedule) ≡ j = omega arith in
    word s z 3 j b ∙ ap (λ k. get_or (schedule_words s.schedule) k 0) (sym e)
    ∙ behind (flat_map activity_words s.schedule) _ (activity_size * length s.schedule) (j - activity_size * length s.schedule) n
    ∙ get_or-replicate (activities_room - activity_size * length s.schedule) (j - activity_size * length s.schedule) 0 0 (omega arith)

pub count_word : (s : State) → Sized s → (k : ℕ) → get_or (words_of s) (counts_at + k) 0 ≡ count s k
count_word s z k =
    ⊎_elim (λ (l : k < 16). word s z 5 k l)
    (λ (past : 16 ≤ k). get_or_past (words_of s) (counts_at + k) 0 (let e = length_words s z in omega arith) ∙ sym (get_or_past s.counts k 0 (let e = z.counts in omega arith)))
    (cases_lt k 16)

pub count_words : (s : State) → Sized s → take 16 (drop counts_at (words_of s)) ≡ s.counts
count_words s z = part_is s z 5 (omega arith)
