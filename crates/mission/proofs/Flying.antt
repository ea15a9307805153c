-- A run of tolerated events gives the story's reports.
use Rattle.std.proofs.Common.{◌≡◌, ℕ, ◌+◌, ◌*◌, ◌<◌, ◌≤◌, true, false, cond, ◌&&◌, ltb, ◌⊎◌, List, [], ◌∷◌, ◌++◌, reverse, length, get_or, take, set, Some, None, Ok, Option, Result, sym, refl, ap, ◌∙◌, subst, inl, inr, ⊎_elim, arith}
use Rattle.std.proofs.lemmas.List.{length-set, get_or-set_other, reverse-append, take_more}
use Rattle.std.proofs.lemmas.Bool.{cases_eq, cases_Bool, cond-true, cond-false, and_parts, ltb-true}
use Rattle.memory.specs.Threefold.{copy, Spared, Upset}
use Rattle.memory.proofs.Mending.{apart}
use Rattle.layout.specs.Map.{word_count}
use Rattle.satellite.specs.Story.{Inputs}
use Rattle.satellite.specs.Fit.{most}
use Rattle.telemetry.specs.Reports.{report_of, numbers_of}
use Rattle.flight.specs.Flight.{after, Flew}
use Rattle.flight.specs.Scheduling.{Among, here, there}
use Rattle.flight.proofs.Waits.{among_cons}
use Rattle.flight.proofs.Flying.{launch_flies}
use Rattle.text.specs.declared.event.Event.{Event}
use Rattle.refusal.specs.declared.Refusal.{Refusal}
use Rattle.mission.specs.declared.aloft.Aloft.{Aloft}
use Rattle.mission.specs.declared.aloft.Output.{Output}
use Rattle.frame.specs.Frame.{come_up}
use Rattle.mission.specs.Steps.{with_reading, with_frame, up_frame, with_hit, output_of, Ticks, Steps, and_then, Ran, launched, stepped}
use Rattle.mission.specs.Story.{readings_of, frame_of, history, reports, Struck, hits, Tolerated}

-- memory differs from what was kept only where it was hit
pub record Scarred (hs : List Struck) (kept found : List ℕ) : Type 0 where
  pub long : length found ≡ length kept
  pub else_same : (c k : ℕ) → c < 3 → k < word_count → (Among (record { copy = c; word = k }) hs → ⊥) → copy word_count found c k ≡ copy word_count kept c k

-- all hits of a word are in one copy
OneCopy : List Struck → Type 0
OneCopy hs = (s t : Struck) → Among s hs → Among t hs → s.word ≡ t.word → s.copy ≡ t.copy

one_copy : (es : List Event) → Tolerated es → OneCopy (hits es)
unfolding OneCopy
one_copy [] l = λ s t a b e. elim a [ ]
one_copy (Event.Read i v ∷ es) l = one_copy es l
one_copy (Event.Up n c ∷ es) l = one_copy es l
one_copy (Event.Frame f ∷ es) l = one_copy es l
one_copy (Event.Hit c w v ∷ es) l =
    let ih = one_copy es l.0 in
    let new : Struck = record { copy = c; word = w } in
    ⊎_elim
    (λ (b : (ltb c 3 && ltb w word_count) ≡ true). subst OneCopy (sym (cond-true (ltb c 3 && ltb w word_count) (new ∷ hits es) (hits es) b))
    (λ s t x y e. ⊎_elim
    (λ (p : s ≡ new). ⊎_elim (λ (q : t ≡ new). ap (λ (u : Struck). u.copy) (p ∙ sym q)) (λ q. ap (λ (u : Struck). u.copy) p ∙ sym (l.1 t q (sym e ∙ ap (λ (u : Struck). u.word) p))) (among_cons t new (hits es) y))
    (λ p. ⊎_elim (λ (q : t ≡ new). l.1 s p (e ∙ ap (λ (u : Struck). u.word) q) ∙ ap (λ (u : Struck). u.copy) (sym q)) (λ q. ih s t p q e) (among_cons t new (hits es) y))
    (among_cons s new (hits es) x)))
    (λ (b : (ltb c 3 && ltb w word_count) ≡ false). subst OneCopy (sym (cond-false (ltb c 3 && ltb w word_count) (new ∷ hits es) (hits es) b)) ih)
    (cases_Bool (ltb c 3 && ltb w word_count))
one_copy (Event.Tick ∷ es) l = λ s t a b e. elim a [ ]

-- whether a word was hit
find : (hs : List Struck) (k : ℕ) → ((s : Struck) × Among s hs × (s.word ≡ k)) ⊎ ((s : Struck) → Among s hs → s.word ≡ k → ⊥)
find [] k = inr (λ s a e. elim a [ ])
find (h ∷ hs) k =
    ⊎_elim (λ (e : h.word ≡ k). inl (h, here hs, e))
    (λ (f : h.word ≡ k → ⊥). ⊎_elim (λ x. inl (x.0, there h hs x.1, x.2)) (λ g. inr (λ s a e. ⊎_elim (λ (p : s ≡ h). f (ap (λ (u : Struck). u.word) (sym p) ∙ e)) (λ q. g s q e) (among_cons s h hs a))) (find hs k))
    (cases_eq h.word k)

upset_of : (hs : List Struck) (kept found : List ℕ) → OneCopy hs → Scarred hs kept found → Upset word_count kept found
unfolding OneCopy
upset_of hs kept found one s = record {
  long = s.long;
  two = λ k lt. ⊎_elim
      (λ x.
      let far : (c : ℕ) → (c ≡ x.0.copy → ⊥) → Among (record { copy = c; word = k }) hs → ⊥ = λ c f a. f (one (record { copy = c; word = k }) x.0 a x.1 (sym x.2)) in
      let fine : (c : ℕ) → c < 3 → (c ≡ x.0.copy → ⊥) → Spared word_count kept found c k = λ c l f. s.else_same c k l lt (far c f) in
      ⊎_elim (λ (z : x.0.copy ≡ 0). inl (fine 1 (omega arith) (λ e. omega arith), fine 2 (omega arith) (λ e. omega arith)))
      (λ (z : x.0.copy ≡ 0 → ⊥). ⊎_elim (λ (o : x.0.copy ≡ 1). inr (inl (fine 0 (omega arith) (λ e. omega arith), fine 2 (omega arith) (λ e. omega arith))))
      (λ (o : x.0.copy ≡ 1 → ⊥). inr (inr (fine 0 (omega arith) (λ e. z (sym e)), fine 1 (omega arith) (λ e. o (sym e))))) (cases_eq x.0.copy 1))
      (cases_eq x.0.copy 0))
      (λ g. inl (s.else_same 1 k (omega arith) lt (λ a. g _ a refl), s.else_same 2 k (omega arith) lt (λ a. g _ a refl)))
      (find hs k);
}

-- a hit leaves one scar more
hit_scar : (hs : List Struck) (kept found : List ℕ) (c w v : ℕ) → Scarred hs kept found
    → Scarred (cond (ltb c 3 && ltb w word_count) (record { copy = c; word = w } ∷ hs) hs) kept (with_hit c w v found)
hit_scar hs kept found c w v s =
    let new : Struck = record { copy = c; word = w } in
    ⊎_elim
    (λ (b : (ltb c 3 && ltb w word_count) ≡ true).
    let p = and_parts (ltb c 3) (ltb w word_count) b in
    let m : with_hit c w v found ≡ set found (c * word_count + w) v = cond-true (ltb c 3 && ltb w word_count) (set found (c * word_count + w) v) found b in
    subst (λ (l : List Struck). Scarred l kept (with_hit c w v found)) (sym (cond-true (ltb c 3 && ltb w word_count) (new ∷ hs) hs b)) (subst (Scarred (new ∷ hs) kept) (sym m) (record {
      long = length-set found (c * word_count + w) v ∙ s.long;
      else_same = λ d k l lt f.
          get_or-set_other found (c * word_count + w) (d * word_count + k) v 0 (λ e. apart word_count c w d k (ltb-true w word_count p.1) lt (ltb-true c 3 p.0) l
          (λ x y. f (subst (λ (u : Struck). Among u (new ∷ hs)) (λ i. record { copy = x i; word = y i }) (here hs))) (sym e))
          ∙ s.else_same d k l lt (λ a. f (there new hs a));
    })))
    (λ (b : (ltb c 3 && ltb w word_count) ≡ false).
    subst (λ (l : List Struck). Scarred l kept (with_hit c w v found)) (sym (cond-false (ltb c 3 && ltb w word_count) (new ∷ hs) hs b))
    (subst (Scarred hs kept) (sym (cond-false (ltb c 3 && ltb w word_count) (set found (c * word_count + w) v) found b)) s))
    (cases_Bool (ltb c 3 && ltb w word_count))

no_scar : (kept : List ℕ) → Scarred [] kept kept
no_scar kept = record { long = refl; else_same = λ c k l lt f. refl }

-- a flight that leads here, as the story tells it
pub record AloftRight (es : List Event) (a : Aloft) (os : List Output) : Type 0 where
  pub kept : List ℕ
  pub flew : Flew (history es) kept
  pub scarred : Scarred (hits es) kept a.memory
  pub readings : a.readings ≡ readings_of es
  pub frame : a.frame ≡ frame_of es
  pub told : os ≡ reports es

history_short : (es : List Event) → length (history es) ≤ length es
history_short [] = omega arith
history_short (Event.Read i v ∷ es) = let h = history_short es in omega arith
history_short (Event.Up n c ∷ es) = let h = history_short es in omega arith
history_short (Event.Frame f ∷ es) = let h = history_short es in omega arith
history_short (Event.Hit c w v ∷ es) = let h = history_short es in omega arith
history_short (Event.Tick ∷ es) = let h = history_short es in omega arith

tick_right : (es : List Event) (a b : Aloft) (o : Output) (os : List Output) → Tolerated es → length (history es) < most → AloftRight es a os → Ticks a b o → AloftRight (Event.Tick ∷ es) b (o ∷ os)
tick_right es a b o os l short h t =
    let i : Inputs = record { readings = a.readings; frame = come_up a.frame } in
    let same : i ≡ record { readings = readings_of es; frame = come_up (frame_of es) } = λ j. record { readings = h.readings j; frame = come_up (h.frame j) } in
    let on = t.calls.flies (history es) h.kept h.flew (upset_of (hits es) h.kept a.memory (one_copy es l) h.scarred) short t.calls.readings t.calls.frame refl in
    let d : t.done ≡ Ok tt = on.0 in
    record {
      kept = b.memory;
      flew = subst (λ (x : Inputs). Flew (x ∷ history es) b.memory) same on.1;
      scarred = no_scar b.memory;
      readings = t.readings;
      frame = t.frame;
      told = λ j. (t.told ∙ ap (λ (x : Result (Unit {0}) Refusal). output_of x t.report) d ∙ ap (λ (x : List ℕ). output_of (Ok tt) x) (on.2 ∙ ap (λ (x : Inputs). numbers_of (report_of (after (x ∷ history es)))) same)) j ∷ h.told j;
    }

-- an event that is no tick gives nothing and leaves this
silently : {es : List Event} {b c : Aloft} {o : Option Output} {os : List Output} → (o ≡ None) × (b ≡ c) → AloftRight es c os → AloftRight es b (and_then o os)
silently {es = es} {b = b} {os = os} s h =
    subst (λ (x : List Output). AloftRight es b x) (sym (ap (λ (x : Option Output). and_then x os) s.0)) (subst (λ (x : Aloft). AloftRight es x os) (sym s.1) h)

step_right : (e : Event) (es : List Event) (a b : Aloft) (o : Option Output) (os : List Output) → Tolerated (e ∷ es) → length (history es) < most → AloftRight es a os → Steps a e b o → AloftRight (e ∷ es) b (and_then o os)
step_right (Event.Read i v) es a b o os l short h s =
    silently s (record { kept = h.kept; flew = h.flew; scarred = h.scarred; readings = ap (with_reading i v) h.readings; frame = h.frame; told = h.told })
step_right (Event.Up n c) es a b o os l short h s =
    silently s (record { kept = h.kept; flew = h.flew; scarred = h.scarred; readings = h.readings; frame = ap (with_frame (up_frame n c)) h.frame; told = h.told })
step_right (Event.Frame f) es a b o os l short h s =
    silently s (record { kept = h.kept; flew = h.flew; scarred = h.scarred; readings = h.readings; frame = refl; told = h.told })
step_right (Event.Hit c w v) es a b o os l short h s =
    silently s (record { kept = h.kept; flew = h.flew; scarred = hit_scar (hits es) h.kept a.memory c w v h.scarred; readings = h.readings; frame = h.frame; told = h.told })
step_right Event.Tick es a b o os l short h s =
    subst (λ (x : List Output). AloftRight (Event.Tick ∷ es) b x) (sym (ap (λ (x : Option Output). and_then x os) s.1)) (tick_right es a b s.0 os l short h s.2)

earlier : (e : Event) (es : List Event) → Tolerated (e ∷ es) → Tolerated es
earlier (Event.Read i v) es l = l
earlier (Event.Up n c) es l = l
earlier (Event.Frame f) es l = l
earlier (Event.Hit c w v) es l = l.0
earlier Event.Tick es l = l

pub run_right : (es : List Event) (a : Aloft) (os : List Output) → Ran es a os → Tolerated es → length es < most → AloftRight es a os
run_right es a os (launched b f r g) l short = record { kept = b.memory; flew = subst (Flew []) (sym f) launch_flies; scarred = no_scar b.memory; readings = r; frame = g; told = refl }
run_right es a os (stepped e fs b c o ps ran s) l short =
    let h = history_short fs in
    step_right e fs b c o ps l (omega arith) (run_right fs b ps ran (earlier e fs l) (omega arith)) s

-- one more event, and one more output, at the end of a list
pub latest : {A : Type 0} (xs : List A) (x : A) → reverse (xs ++ (x ∷ [])) ≡ x ∷ reverse xs
latest xs x = reverse-append xs (x ∷ [])

pub run_more : (es : List Event) (k : ℕ) (d : Event) (a b : Aloft) (o : Option Output) (os ps : List Output) → k < length es → Ran (reverse (take k es)) a (reverse os) → Steps a (get_or es k d) b o
    → reverse ps ≡ and_then o (reverse os) → Ran (reverse (take (k + 1) es)) b (reverse ps)
run_more es k d a b o os ps l ran s e =
    subst (λ (x : List Output). Ran (reverse (take (k + 1) es)) b x) (sym e)
    (subst (λ (x : List Event). Ran x b (and_then o (reverse os))) (sym (ap reverse (take_more es k d l) ∙ latest (take k es) (get_or es k d)))
    (stepped (get_or es k d) (reverse (take k es)) a b o (reverse os) ran s))

-- the outputs with one more, or as they were
pub outputs_more : (o : Option Output) (x : Output) (os ps : List Output) → o ≡ Some x → ps ≡ os ++ (x ∷ []) → reverse ps ≡ and_then o (reverse os)
outputs_more o x os ps e d = ap reverse d ∙ latest os x ∙ ap (λ (y : Option Output). and_then y (reverse os)) (sym e)

pub outputs_same : (o : Option Output) (os ps : List Output) → o ≡ None → ps ≡ os → reverse ps ≡ and_then o (reverse os)
outputs_same o os ps e d = ap reverse d ∙ ap (λ (y : Option Output). and_then y (reverse os)) (sym e)
