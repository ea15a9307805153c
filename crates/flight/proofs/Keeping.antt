-- What a tick leaves of any words without fault is read as the state that it made.
use Rattle.std.proofs.Common.{◌≡◌, ℕ, suc, ◌<◌, ◌≤◌, List, length, get_or, drop, sym, refl, ap, ◌∙◌, subst, inl, inr, ⊎_elim, arith, length-drop}
use Rattle.std.proofs.lemmas.Bool.{cases_lt}
use Rattle.std.proofs.lemmas.List.{get_or_past, length-take-le}
use Rattle.std.proofs.lemmas.List.FromFn.{length-map-range_with_len}
use Rattle.schedule.specs.declared.activity.Activity.{Activity}
use Rattle.schedule.specs.Waiting.{no_activity}
use Rattle.rules.specs.Watching.{off}
use Rattle.satellite.specs.Story.{Inputs, ticked}
use Rattle.layout.specs.Map.{word_count, words_of, rule_at, rules_in, state_of, parameters_at, counts_at}
use Rattle.layout.specs.Fault.{Faultless, Sane}
use Rattle.layout.proofs.Places.{length_words}
use Rattle.layout.proofs.Back.{state_back}
use Rattle.layout.proofs.Said.{heads_said, waiting_said, activity_said, rule_said}
use Rattle.layout.proofs.Sanity.{sane_of}
use Rattle.flight.specs.Flight.{Lawful, keeper}
use Rattle.flight.specs.Scheduling.{Among, here, there}
use Rattle.flight.proofs.Flying.{keeps}
use Rattle.flight.proofs.Sound.{Sound, WaitsSound, RulesSound, RuleOk, may_place, ticked_sound, sound_sized}

-- what holds of each at its place holds of all
each_among : (P : Activity → Type 0) (a : Activity) (xs : List Activity) → ((k : ℕ) → k < length xs → P (get_or xs k no_activity)) → Among a xs → P a
each_among P a xs h (here ys) = h 0 (omega arith)
each_among P a xs h (there y ys m) = each_among P a ys (λ k l. h (suc k) (omega arith)) m

waits_sound : (ws : List ℕ) → Sane ws → WaitsSound (state_of ws).time (state_of ws).schedule
waits_sound ws s =
    let n = waiting_said ws in
    let t = (heads_said ws).0 in
    record {
      later = λ b. each_among (λ a. (state_of ws).time < a.release) b (state_of ws).schedule
          (λ k l. subst (λ (a : Activity). (state_of ws).time < a.release) (sym (activity_said ws k (omega arith))) (let e = s.later k (omega arith) in omega arith));
      places = λ b. each_among (λ a. (16 ≤ a.place) × (a.place ≤ 63)) b (state_of ws).schedule
          (λ k l. subst (λ (a : Activity). (16 ≤ a.place) × (a.place ≤ 63)) (sym (activity_said ws k (omega arith))) (may_place _ (s.placed k (omega arith))));
      few = (let f = s.few in omega arith);
    }

rule_sound : (ws : List ℕ) → Sane ws → (k : ℕ) → k < 16 → RuleOk (rule_at ws k)
rule_sound ws s k l = record { watches = (let w = s.watches k l in omega arith); puts = ⊎_elim inl (λ o. inr (⊎_elim inl (λ p. inr (may_place _ p)) o)) (s.puts k l) }

rules_long : (ws : List ℕ) → length (state_of ws).rules ≡ 16
unfolding state_of rules_in
rules_long ws = length-map-range_with_len (rule_at ws) 0 16

off_ok : RuleOk off
off_ok = record { watches = omega arith; puts = inl refl }

rules_sound : (ws : List ℕ) → Sane ws → RulesSound (state_of ws).rules
rules_sound ws s k =
    let n = rules_long ws in
    ⊎_elim (λ (l : k < 16). subst RuleOk (sym (rule_said ws k l)) (rule_sound ws s k l)) (λ (l : 16 ≤ k). subst RuleOk (sym (get_or_past (state_of ws).rules k off (omega arith))) off_ok) (cases_lt k 16)

lists_long : (ws : List ℕ) → length ws ≡ word_count → (length (state_of ws).parameters ≡ 64) × (length (state_of ws).counts ≡ 16)
unfolding state_of
lists_long ws e = (length-take-le 64 (drop parameters_at ws) (simp length-drop (omega arith)), length-take-le 16 (drop counts_at ws) (simp length-drop (omega arith)))

pub sane_sound : (ws : List ℕ) → length ws ≡ word_count → Sane ws → Sound (state_of ws)
sane_sound ws e s = let l = lists_long ws e in (waits_sound ws s, rules_sound ws s, l.0, rules_long ws, l.1)

pub tick_kept : (i : Inputs) (m found : List ℕ) → Lawful i → Faultless (keeper.read m) → keeper.Upset (keeper.stored (words_of (ticked i (state_of (keeper.read m))))) found
    → state_of (keeper.read found) ≡ ticked i (state_of (keeper.read m))
tick_kept i m found lawful faultless upset =
    let ws : List ℕ = keeper.read m in
    let s = ticked i (state_of ws) in
    let sized = sound_sized s (ticked_sound i (state_of ws) lawful (sane_sound ws (keeps.read_long m) (sane_of ws faultless))) in
    ap state_of (keeps.mends (keeper.stored (words_of s)) found (words_of s) (keeps.stores (words_of s) (length_words s sized)) upset) ∙ state_back s sized
