-- What a command changes, and that nothing else changes.
use Rattle.std.proofs.Common.{◌≡◌, ℕ, zero, suc, ◌+◌, ◌<◌, ◌≤◌, true, false, not, ◌&&◌, ◌||◌, eqb, ltb, leb, ◌⊎◌, List, [], ◌∷◌, length, get_or, replicate, Some, None, Option, sym, refl, ap, ◌∙◌, subst, ⊎_elim, add-zero, add-one, arith}
use Rattle.std.proofs.lemmas.Bool.{eq-eqb, ne_eqb, le-leb, lt-leb, leb-true, lt-ltb, le-ltb, and_from, and_left, and_right, and_parts, or_left, or_right, or_from, not_from_true, not_from_false, cond-true, cond-false, cond_both, true≢false}
use Rattle.std.proofs.lemmas.List.{get_or-set_other}
use Rattle.schedule.specs.Waiting.{due, put_all}
use Rattle.rules.specs.declared.rule.Rule.{Rule}
use Rattle.rules.specs.Watching.{off, acts, may_set}
use Rattle.frame.specs.declared.Command.{Command}
use Rattle.frame.specs.declared.Telecommand.{Telecommand}
use Rattle.parameters.specs.Places.{may_put}
use Rattle.satellite.specs.State.{State, with_expected, parameter, rule}
use Rattle.satellite.specs.Story.{Inputs, begun, looked, watched_one, watched, can, done, rejecting, at_release, at_reception}
use Rattle.satellite.proofs.Watching.{watched_rules}
use Rattle.flight.specs.Flight.{Lawful, after}
use Rattle.flight.specs.Commanding.{heard, Turn}
use Rattle.flight.specs.Effects.{PutPlace, CommandsAct, Undoable, put_low, put_high, later_low, later_high, later_past, later_full, rule_none, rule_blind, rule_low, rule_high, no_kind, ElseIgnored, ReadsRight, KeepsSizes, TimeRight, turned_down, rejections, RejectedRight, LaunchesRight}
use Rattle.flight.proofs.Steps.{obeyed_cases, ticked_cases, ticked_heard, one_cases, watched_zero, watched_suc, begun_low, release_is, reception}
use Rattle.flight.proofs.Waits.{parts, among_due, put_other}
use Rattle.flight.proofs.Sound.{may_place, RuleOk, RulesSound, Sound, after_sound, after_sized}
use Rattle.flight.proofs.Fitting.{place_may}
use Rattle.flight.proofs.Commanded.{expected_kept, obeyed_else}

low_place : (a : ℕ) → a < 16 → may_put a ≡ false
low_place a l = and_left (leb 16 a) (leb a 63) (lt-leb 16 a l)

high_place : (a : ℕ) → 63 < a → may_put a ≡ false
high_place a l = and_right (leb 16 a) (leb a 63) (lt-leb a 63 l)

blind : (r : Rule) → may_put r.place ≡ false → r.safes ≡ false → may_set r ≡ false
blind r p s = and_right (leb r.watches 63) (r.safes || may_put r.place) (or_from r.safes (may_put r.place) s p)

undoable_cannot : (s : State) (c : Command) → Undoable s c → can s c ≡ false
undoable_cannot s c (put_low a b l) = low_place a l
undoable_cannot s c (put_high a b l) = high_place a l
undoable_cannot s c (later_low a l) = and_left (may_put a.place) (ltb s.time a.release && ltb (length s.schedule) 32) (low_place a.place l)
undoable_cannot s c (later_high a l) = and_left (may_put a.place) (ltb s.time a.release && ltb (length s.schedule) 32) (high_place a.place l)
undoable_cannot s c (later_past a l) = and_right (may_put a.place) (ltb s.time a.release && ltb (length s.schedule) 32) (and_left (ltb s.time a.release) (ltb (length s.schedule) 32) (le-ltb s.time a.release l))
undoable_cannot s c (later_full a l) = and_right (may_put a.place) (ltb s.time a.release && ltb (length s.schedule) 32) (and_right (ltb s.time a.release) (ltb (length s.schedule) 32) (le-ltb (length s.schedule) 32 l))
undoable_cannot s c (rule_none k r l) = and_left (ltb k 16) (may_set r) (le-ltb k 16 l)
undoable_cannot s c (rule_blind k r l) = and_right (ltb k 16) (may_set r) (and_left (leb r.watches 63) (r.safes || may_put r.place) (lt-leb r.watches 63 l))
undoable_cannot s c (rule_low k r e l) = and_right (ltb k 16) (may_set r) (blind r (low_place r.place l) e)
undoable_cannot s c (rule_high k r e l) = and_right (ltb k 16) (may_set r) (blind r (high_place r.place l) e)
undoable_cannot s c (no_kind k) = refl

-- a command whose turn it is, and that can be done, or not
pub its_turn : (i : Inputs) (is : List Inputs) (c : Command) → Turn i is c → can (at_reception i (after is)) c ≡ true → after (i ∷ is) ≡ with_expected (suc (after is).expected) (done (at_reception i (after is)) c)
its_turn i is c e can-do =
    let t : Telecommand = record { number = (after is).expected; command = c } in
    let r = at_reception i (after is) in
    let k = expected_kept i (after is) in
    ticked_heard i (after is) (Some t) e
    ∙ obeyed_cases t r (λ u. u ≡ with_expected (suc (after is).expected) (done r c)) (λ _ _. ap (λ n. with_expected (suc n) (done r c)) k)
    (λ _ f. absurd (true≢false (sym can-do ∙ f))) (λ f. absurd (f (sym k)))

not_done : (i : Inputs) (is : List Inputs) (c : Command) → Turn i is c → can (at_reception i (after is)) c ≡ false → after (i ∷ is) ≡ with_expected (suc (after is).expected) (rejecting (at_reception i (after is)))
not_done i is c e cannot =
    let t : Telecommand = record { number = (after is).expected; command = c } in
    let r = at_reception i (after is) in
    let k = expected_kept i (after is) in
    ticked_heard i (after is) (Some t) e
    ∙ obeyed_cases t r (λ u. u ≡ with_expected (suc (after is).expected) (rejecting r)) (λ _ f. absurd (true≢false (sym f ∙ cannot)))
    (λ _ _. ap (λ n. with_expected (suc n) (rejecting r)) k) (λ f. absurd (f (sym k)))

can_set : (k : ℕ) (r : Rule) → k < 16 → r.watches ≤ 63 → (r.safes ≡ true) ⊎ PutPlace r.place → (ltb k 16 && may_set r) ≡ true
can_set k r l w o =
    and_from (ltb k 16) (may_set r) (lt-ltb k 16 l) (and_from (leb r.watches 63) (r.safes || may_put r.place) (le-leb r.watches 63 w)
    (⊎_elim (or_left r.safes (may_put r.place)) (λ p. or_right r.safes (may_put r.place) (place_may r.place p)) o))

pub commands_act : CommandsAct
commands_act i is =
    let s = at_reception i (after is) in
    record {
      put = λ a b e p. its_turn i is (Command.Put a b) e (place_may a p);
      later = λ a e p l n. its_turn i is (Command.Later a) e (and_from (may_put a.place) (ltb s.time a.release && ltb (length s.schedule) 32) (place_may a.place p)
          (and_from (ltb s.time a.release) (ltb (length s.schedule) 32) (lt-ltb s.time a.release l) (lt-ltb (length s.schedule) 32 n)));
      forget = λ e. its_turn i is Command.Forget e refl;
      sleep = λ e. its_turn i is Command.Sleep e refl;
      wake = λ e. its_turn i is Command.Wake e refl;
      set_rule = λ k r e l w o. its_turn i is (Command.SetRule k r) e (can_set k r l w o);
    }

pub else_ignored : ElseIgnored
else_ignored i is = record {
  nothing_came = λ e. ticked_heard i (after is) None e;
  not_its_turn = λ t e f. ticked_heard i (after is) (Some t) e ∙ obeyed_else t (at_reception i (after is)) (λ d. f (d ∙ expected_kept i (after is)));
  undoable = λ c e u. not_done i is c e (undoable_cannot (at_reception i (after is)) c u);
}

-- no rule, activity or command puts where instruments are read
one_low : (k : ℕ) (s : State) (j : ℕ) → j < 16 → RuleOk (rule s k) → parameter (watched_one k s) j ≡ parameter s j
one_low k s j l h =
    one_cases k s (λ (u : State). parameter u j ≡ parameter s j) (λ _ _. refl) (λ a e. get_or-set_other s.parameters (rule s k).place j (rule s k).number 0 (λ d. low a e d)) (λ _. refl)
  where
    low : acts (rule s k) (looked k s) ≡ true → (rule s k).safes ≡ false → j ≡ (rule s k).place → ⊥
    low a e d =
        let n = leb-true 1 (rule s k).needs (and_parts (leb 1 (rule s k).needs) (eqb (looked k s) (rule s k).needs) a).0 in
        ⊎_elim {C = ⊥} (λ z. omega arith) (⊎_elim (λ t. true≢false (sym t ∙ e)) (λ p. omega arith)) h.puts

pub watched_low : (k : ℕ) (s : State) (j : ℕ) → j < 16 → RulesSound s.rules → parameter (watched k s) j ≡ parameter s j
watched_low zero s j l h = ap (λ (u : State). parameter u j) (watched_zero s)
watched_low (suc k) s j l h =
    ap (λ (u : State). parameter u j) (watched_suc k s)
    ∙ one_low k (watched k s) j l (subst (λ (rs : List Rule). RuleOk (get_or rs k off)) (sym (watched_rules k s)) (h k)) ∙ watched_low k s j l h

done_low : (s : State) (c : Command) (k : ℕ) → can s c ≡ true → k < 16 → parameter (done s c) k ≡ parameter s k
done_low s (Command.Put a b) k h l = let p = may_place a h in get_or-set_other s.parameters a k b 0 (λ e. omega arith)
done_low s _ k h l = refl

reception_low : (i : Inputs) (s : State) (k : ℕ) → Lawful i → Sound s → k < 16 → parameter (at_reception i s) k ≡ get_or i.readings k 0
reception_low i s k l h lt =
    let w = at_release i s in
    let d = due (suc s.time) s.schedule in
    let low : parameter w k ≡ get_or i.readings k 0 = ap (λ (u : State). parameter u k) (release_is i s) ∙ watched_low 16 (begun i.readings s) k lt h.1 ∙ begun_low i s k l lt in
    ap (λ (x : List ℕ). get_or x k 0) (reception i s).parameters
    ∙ cond_both w.safe_mode w.parameters (put_all d w.parameters) (λ x. get_or x k 0 ≡ get_or i.readings k 0) (λ _. low)
    (λ _. put_other d w.parameters k (λ a m e. let p = h.0.places a (among_due (suc s.time) s.schedule _ _ a (parts (suc s.time) s.schedule) m).0 in omega arith) ∙ low)

pub reads_right : ReadsRight
reads_right i is k l ls h =
    let r = at_reception i (after is) in
    let e = reception_low i (after is) k l (after_sound is ls) h in
    ticked_cases (λ (u : State). parameter u k ≡ get_or i.readings k 0) i (after is) (λ _. e)
    (λ t _. obeyed_cases t r (λ (u : State). parameter u k ≡ get_or i.readings k 0) (λ _ c. done_low r t.command k c h ∙ e) (λ _ _. e) (λ _. e))

pub keeps_sizes : KeepsSizes
keeps_sizes = after_sized

pub after_time : (i : Inputs) (is : List Inputs) → (after (i ∷ is)).time ≡ suc (after is).time
after_time i is =
    let r = at_reception i (after is) in
    let e = (reception i (after is)).time in
    ticked_cases (λ (u : State). u.time ≡ suc (after is).time) i (after is) (λ _. e)
    (λ t _. obeyed_cases t r (λ (u : State). u.time ≡ suc (after is).time) (λ _ _. e) (λ _ _. e) (λ _. e))

pub time_right : TimeRight
time_right [] = refl
time_right (i ∷ is) = after_time i is ∙ ap suc (time_right is)

pub rejected_right : RejectedRight
rejected_right [] = refl
rejected_right (i ∷ is) =
    let r = at_reception i (after is) in
    let k : r.rejected ≡ rejections is = (reception i (after is)).rejected ∙ rejected_right is in
    let none : (o : Option Telecommand) → heard i is ≡ o → turned_down o r ≡ 0 → rejections is ≡ rejections is + turned_down (heard i is) r =
    λ o e z. sym (add-zero (rejections is)) ∙ ap (λ n. rejections is + n) (sym z) ∙ ap (λ (x : Option Telecommand). rejections is + turned_down x r) (sym e) in
    ticked_cases (λ (u : State). u.rejected ≡ rejections is + turned_down (heard i is) r) i (after is)
    (λ e. k ∙ none None e refl)
    (λ t e. obeyed_cases t r (λ (u : State). u.rejected ≡ rejections is + turned_down (heard i is) r)
    (λ d c. k ∙ none (Some t) e (cond-false (eqb t.number r.expected && not (can r t.command)) 1 0 (and_right (eqb t.number r.expected) (not (can r t.command)) (not_from_true (can r t.command) c))))
    (λ d c. ap suc k ∙ sym (add-one (rejections is)) ∙ ap (λ n. rejections is + n) (sym (cond-true (eqb t.number r.expected && not (can r t.command)) 1 0 (and_from (eqb t.number r.expected) (not (can r t.command)) (eq-eqb t.number r.expected d) (not_from_false (can r t.command) c)))) ∙ ap (λ (x : Option Telecommand). rejections is + turned_down x r) (sym e))
    (λ f. k ∙ none (Some t) e (cond-false (eqb t.number r.expected && not (can r t.command)) 1 0 (and_left (eqb t.number r.expected) (not (can r t.command)) (ne_eqb t.number r.expected f)))))

same : {A : Type 0} (n k : ℕ) (d : A) → get_or (replicate n d) k d ≡ d
same zero k d = refl
same (suc n) zero d = refl
same (suc n) (suc k) d = same n k d

pub launches_right : LaunchesRight
launches_right = record {
  time = refl;
  expected = refl;
  safe_mode = refl;
  rejected = refl;
  missed = refl;
  parameters = λ k. same 64 k 0;
  schedule = refl;
  rules = λ k. same 16 k off;
  counts = λ k. same 16 k 0;
}
