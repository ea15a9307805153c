-- What holds of the satellite after every history of lawful inputs.
use Rattle.std.proofs.Common.{◌≡◌, ℕ, zero, suc, ◌<◌, ◌≤◌, true, ◌&&◌, ◌||◌, ltb, leb, ◌⊎◌, List, [], ◌∷◌, ◌++◌, length, get_or, drop, set, replicate, sym, refl, ap, ◌∙◌, subst, inl, inr, ⊎_elim, arith, length-append, length-drop, length-set}
use Rattle.std.proofs.lemmas.List.{get_or-set_same, get_or-set_other}
use Rattle.std.proofs.lemmas.Bool.{and_parts, or_cases, ltb-true, leb-true, cases_eq, cond_both}
use Rattle.schedule.specs.declared.activity.Activity.{Activity}
use Rattle.schedule.specs.Waiting.{due, still_waiting, put_all}
use Rattle.rules.specs.declared.rule.Rule.{Rule}
use Rattle.rules.specs.Watching.{off, may_set}
use Rattle.frame.specs.declared.Command.{Command}
use Rattle.frame.specs.declared.Telecommand.{Telecommand}
use Rattle.parameters.specs.Places.{may_put}
use Rattle.satellite.specs.State.{State, rule}
use Rattle.satellite.specs.Story.{Inputs, begun, looked, watched_one, watched, can, parameters_by, schedule_by, rules_by, counts_by, done, obeyed, at_release, at_reception, ticked}
use Rattle.layout.specs.Map.{Sized}
use Rattle.flight.specs.Machine.{AllLawful, more}
use Rattle.flight.specs.Flight.{Lawful, machine, after}
use Rattle.flight.specs.Effects.{PutPlace}
use Rattle.flight.specs.Scheduling.{Among}
use Rattle.flight.proofs.Steps.{obeyed_cases, ticked_cases, one_cases, watched_zero, watched_suc, release_is, reception}
use Rattle.flight.proofs.Waits.{among_append, parts, among_still, parts_length, put_length}

pub may_place : (i : ℕ) → may_put i ≡ true → PutPlace i
may_place i e = let p = and_parts (leb 16 i) (leb i 63) e in (leb-true 16 i p.0, leb-true i 63 p.1)

pub record RuleOk (r : Rule) : Type 0 where
  pub watches : r.watches ≤ 63
  pub puts : (r.needs ≡ 0) ⊎ ((r.safes ≡ true) ⊎ PutPlace r.place)

-- of activities at a time; of rules; how long lists are
pub record WaitsSound (t : ℕ) (xs : List Activity) : Type 0 where
  pub later : (a : Activity) → Among a xs → t < a.release
  pub places : (a : Activity) → Among a xs → PutPlace a.place
  pub few : length xs ≤ 32

abbrev pub RulesSound : List Rule → Type 0
RulesSound rs = (k : ℕ) → RuleOk (get_or rs k off)

abbrev pub Long : {A : Type 0} → ℕ → List A → Type 0
Long n xs = length xs ≡ n

-- a product over the parts of the state that it speaks of: what touches none of them keeps it as it stands
abbrev pub Sound : State → Type 0
Sound s = WaitsSound s.time s.schedule × RulesSound s.rules × Long 64 s.parameters × Long 16 s.rules × Long 16 s.counts

all_off : (n k : ℕ) → RuleOk (get_or (replicate n off) k off)
all_off zero k = record { watches = omega arith; puts = inl refl }
all_off (suc n) zero = record { watches = omega arith; puts = inl refl }
all_off (suc n) (suc k) = all_off n k

no_waits : (t : ℕ) → WaitsSound t []
no_waits t = record { later = λ a m. elim m [ ]; places = λ a m. elim m [ ]; few = omega arith }

-- rules and the release of activities keep the lengths
abbrev SameSizes : State → State → Type 0
SameSizes s u = (length u.parameters ≡ length s.parameters) × (length u.counts ≡ length s.counts)

one_sizes : (k : ℕ) (s : State) → SameSizes s (watched_one k s)
one_sizes k s =
    one_cases k s (SameSizes s) (λ _ _. (refl, length-set s.counts k (looked k s))) (λ _ _. (length-set s.parameters (rule s k).place (rule s k).number, length-set s.counts k (looked k s)))
    (λ _. (refl, length-set s.counts k (looked k s)))

pub watched_sizes : (k : ℕ) (s : State) → SameSizes s (watched k s)
watched_sizes zero s = subst (SameSizes s) (sym (watched_zero s)) (refl, refl)
watched_sizes (suc k) s =
    let p = one_sizes k (watched k s) in
    let q = watched_sizes k s in
    subst (SameSizes s) (sym (watched_suc k s)) (p.0 ∙ q.0, p.1 ∙ q.1)

pub begun_size : (i : Inputs) (s : State) → Lawful i → length s.parameters ≡ 64 → length (begun i.readings s).parameters ≡ 64
begun_size i s l e = length-append i.readings (drop 16 s.parameters) ∙ simp length-drop (let a = l.readings in omega arith)

pub release_sizes : (i : Inputs) (s : State) → Lawful i → length s.parameters ≡ 64 → (length (at_release i s).parameters ≡ 64) × (length (at_release i s).counts ≡ length s.counts)
release_sizes i s l e =
    let b = begun i.readings s in
    let p = watched_sizes 16 b in
    let r = release_is i s in
    (ap (λ (u : State). length u.parameters) r ∙ p.0 ∙ begun_size i s l e, ap (λ (u : State). length u.counts) r ∙ p.1)

reception_size : (i : Inputs) (s : State) → Lawful i → length s.parameters ≡ 64 → length (at_reception i s).parameters ≡ 64
reception_size i s l e =
    let w = at_release i s in
    let p = release_sizes i s l e in
    ap length (reception i s).parameters
    ∙ cond_both w.safe_mode w.parameters (put_all (due (suc s.time) s.schedule) w.parameters) (λ x. length x ≡ 64) (λ _. p.0) (λ _. put_length (due (suc s.time) s.schedule) w.parameters ∙ p.0)

still_sound : (t : ℕ) (xs : List Activity) → WaitsSound t xs → WaitsSound (suc t) (still_waiting (suc t) xs)
still_sound t xs h =
    let p = parts (suc t) xs in
    record {
      later = λ a m. (let q = among_still (suc t) xs _ _ a p m in let l = h.later a q.0 in let n = q.1 in omega arith);
      places = λ a m. h.places a (among_still (suc t) xs _ _ a p m).0;
      few = (let q = parts_length (suc t) xs _ _ p in let f = h.few in omega arith);
    }

pub reception_sound : (i : Inputs) (s : State) → Lawful i → Sound s → Sound (at_reception i s)
reception_sound i s l h =
    let r = reception i s in
    let z = release_sizes i s l h.2 in (
      subst (λ t. WaitsSound t (at_reception i s).schedule) (sym r.time) (subst (WaitsSound (suc s.time)) (sym r.schedule) (still_sound s.time s.schedule h.0)),
      subst RulesSound (sym r.rules) h.1,
      reception_size i s l h.2,
      ap length r.rules ∙ h.3,
      ap length r.counts ∙ z.1 ∙ h.4,
    )

rule_ok : (r : Rule) → may_set r ≡ true → RuleOk r
rule_ok r e =
    let p = and_parts (leb r.watches 63) (r.safes || may_put r.place) e in
    record { watches = leb-true r.watches 63 p.0; puts = inr (⊎_elim inl (λ d. inr (may_place r.place d)) (or_cases r.safes (may_put r.place) p.1)) }

later_sound : (t : ℕ) (xs : List Activity) (x : Activity) → t < x.release → PutPlace x.place → length xs < 32 → WaitsSound t xs → WaitsSound t (xs ++ (x ∷ []))
later_sound t xs x l p n h = record {
  later = λ a m. ⊎_elim (h.later a) (λ d. subst (λ (y : Activity). t < y.release) (sym d) l) (among_append a x xs m);
  places = λ a m. ⊎_elim (h.places a) (λ d. subst (λ (y : Activity). PutPlace y.place) (sym d) p) (among_append a x xs m);
  few = rw (length-append xs (x ∷ [])) (omega arith);
}

set_sound : (rs : List Rule) (k : ℕ) (r : Rule) → k < length rs → RuleOk r → RulesSound rs → RulesSound (set rs k r)
set_sound rs k r l o h j = ⊎_elim (λ (e : j ≡ k). rw (e, get_or-set_same rs k r off l) o) (λ n. rw (get_or-set_other rs k j r off n) (h j)) (cases_eq j k)

-- what a command that can be done makes of each part
schedule_sound : (s : State) (c : Command) → can s c ≡ true → WaitsSound s.time s.schedule → WaitsSound s.time (schedule_by c s.schedule)
schedule_sound s (Command.Later a) e h =
    let p = and_parts (may_put a.place) (ltb s.time a.release && ltb (length s.schedule) 32) e in
    let q = and_parts (ltb s.time a.release) (ltb (length s.schedule) 32) p.1 in
    later_sound s.time s.schedule a (ltb-true s.time a.release q.0) (may_place a.place p.0) (ltb-true (length s.schedule) 32 q.1) h
schedule_sound s Command.Forget e h = no_waits s.time
schedule_sound s _ e h = h

rules_sound : (s : State) (c : Command) → can s c ≡ true → Long 16 s.rules → RulesSound s.rules → RulesSound (rules_by c s.rules)
rules_sound s (Command.SetRule k r) e z h =
    let p = and_parts (ltb k 16) (may_set r) e in
    let l = ltb-true k 16 p.0 in
    set_sound s.rules k r (omega arith) (rule_ok r p.1) h
rules_sound s _ e z h = h

parameters_long : (c : Command) (xs : List ℕ) → length (parameters_by c xs) ≡ length xs
parameters_long (Command.Put a b) xs = length-set xs a b
parameters_long _ xs = refl

rules_long : (c : Command) (rs : List Rule) → length (rules_by c rs) ≡ length rs
rules_long (Command.SetRule k r) rs = length-set rs k r
rules_long _ rs = refl

counts_long : (c : Command) (ns : List ℕ) → length (counts_by c ns) ≡ length ns
counts_long (Command.SetRule k r) ns = length-set ns k 0
counts_long _ ns = refl

done_sound : (s : State) (c : Command) → can s c ≡ true → Sound s → Sound (done s c)
done_sound s c e h = (schedule_sound s c e h.0, rules_sound s c e h.3 h.1, parameters_long c s.parameters ∙ h.2, rules_long c s.rules ∙ h.3, counts_long c s.counts ∙ h.4)

obeyed_sound : (t : Telecommand) (s : State) → Sound s → Sound (obeyed t s)
obeyed_sound t s h = obeyed_cases t s Sound (λ _ e. done_sound s t.command e h) (λ _ _. h) (λ _. h)

pub ticked_sound : (i : Inputs) (s : State) → Lawful i → Sound s → Sound (ticked i s)
ticked_sound i s l h =
    let r = reception_sound i s l h in
    ticked_cases Sound i s (λ _. r) (λ t _. obeyed_sound t (at_reception i s) r)

pub after_sound : (is : List Inputs) → AllLawful machine is → Sound (after is)
after_sound [] l = (no_waits 0, all_off 16, refl, refl, refl)
after_sound (i ∷ is) (more j js l ls) = ticked_sound i (after is) l (after_sound is ls)

pub sound_sized : (s : State) → Sound s → Sized s
sound_sized s h = record { parameters = h.2; schedule = h.0.few; rules = h.3; counts = h.4 }

pub after_sized : (is : List Inputs) → AllLawful machine is → Sized (after is)
after_sized is l = sound_sized (after is) (after_sound is l)
