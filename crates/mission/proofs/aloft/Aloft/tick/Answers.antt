use Rattle.std.proofs.Common.{◌≡◌, rules, ℕ, List, length, replicate, Ok, Err, Result, Bor, refl, ap, sym, ◌∙◌, subst, inl, inr}
use Rattle.std.specs.Result.{result_and}
use Rattle.refusal.specs.declared.Refusal.{Refusal}
use Rattle.onboard.specs.Entry.{Says, GoesOn}
use Rattle.mission.specs.declared.aloft.Output.{Output}
use Rattle.frame.specs.Frame.{come_up}
use Rattle.mission.specs.Steps.{output_of}
use Rattle.mission.proofs.aloft.Aloft.tick.Goals as goal
use Rattle.mission.proofs.aloft.Aloft.tick.Goals.{in-Some, in-None}

told : (d : Result (Unit {0}) Refusal) (report : List ℕ) → ◌≡◌ {A = Output} (record { 0 = result_and d (Ok report) }) (output_of d report)
told (Ok u) report = refl
told (Err e) report = refl

pub returns : goal.returns
returns c =
    let a = c.args.self.now in
    let d = c.tick-done.result in
    let m = c.tick-done.new.memory in
    let t = c.tick-done.new.report in
    let heard : c.match-heard.frame.now ≡ come_up a.frame = elim c.match-heard.branch [
      | in-Some w ↦ ap (λ (b : Bor (List ℕ)). b.now) w.frame-is ∙ ap come_up (sym w.in-Some.is ∙ c.take-heard.ensures.value)
      | in-None w ↦ ap (λ (b : Bor (List ℕ)). b.now) w.frame-is ∙ ap come_up (sym w.in-None.is ∙ c.take-heard.ensures.value)
    ] in
    record {
      done = d;
      report = t;
      calls = record {
        readings = search rules;
        frame = rw (← c.take-heard.ensures.value) (elim c.match-heard.branch [ in-Some w ↦ inr (search rules) | in-None w ↦ inl (ap (λ f. length (come_up f)) w.in-None.is) ]);
        says = subst (λ f. Says d a.memory a.readings f (replicate 8 0) m t) heard c.tick-done.ensures.says;
        flies = subst (λ f. GoesOn d a.memory a.readings f (replicate 8 0) m t) heard c.tick-done.ensures.flies;
      };
      told = ap (λ (x : Result (List ℕ) Refusal). record { 0 = x }) c.and.ensures ∙ told d t;
      readings = refl;
      frame = c.take-heard.ensures.after;
    }
