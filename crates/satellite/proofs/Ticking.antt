-- The steps of a tick, one after the other, are the tick.
use Rattle.std.proofs.Common.{◌≡◌, ◌≤◌, sym, ap, ◌∙◌, subst}
use Rattle.schedule.specs.Waiting.{Placed}
use Rattle.frame.specs.Frame.{decoded}
use Rattle.satellite.specs.State.{State, with_safe_mode, with_parameters, with_counts}
use Rattle.satellite.specs.Fit.{Fit, most}
use Rattle.satellite.proofs.Watching.{watched_kept}
use Rattle.satellite.specs.Story.{Inputs, begun, watched, released, heeded, at_release, at_reception, ticked}

pub receiving : (i : Inputs) (s b w u : State) → b ≡ begun i.readings s → w ≡ watched 16 b → u ≡ released w → u ≡ at_reception i s
unfolding at_reception at_release
receiving i s b w u e d f = f ∙ ap released (d ∙ ap (watched 16) e)

pub heeding : (i : Inputs) (s u : State) → u ≡ at_reception i s → heeded (decoded i.frame) u ≡ ticked i s
unfolding ticked
heeding i s u e = ap (heeded (decoded i.frame)) e

-- what the later steps need of the state is as it was before the rules
pub release_fit : (i : Inputs) (s b w : State) → b ≡ begun i.readings s → w ≡ watched 16 b → Fit s → Placed w.schedule × (w.missed ≤ most)
release_fit i s b w e d f =
    let k : w ≡ with_safe_mode (watched 16 b).safe_mode (with_parameters (watched 16 b).parameters (with_counts (watched 16 b).counts b)) = d ∙ watched_kept 16 b in (
      subst Placed (sym (ap (λ (u : State). u.schedule) (k ∙ ap (λ (v : State). with_safe_mode (watched 16 b).safe_mode (with_parameters (watched 16 b).parameters (with_counts (watched 16 b).counts v))) e))) f.placed,
      subst (λ n. n ≤ most) (sym (ap (λ (u : State). u.missed) (k ∙ ap (λ (v : State). with_safe_mode (watched 16 b).safe_mode (with_parameters (watched 16 b).parameters (with_counts (watched 16 b).counts v))) e))) f.missed,
    )

pub obey_fit : (i : Inputs) (s b w u : State) → b ≡ begun i.readings s → w ≡ watched 16 b → u ≡ released w → Fit s → (u.expected ≤ most) × (u.rejected ≤ most)
obey_fit i s b w u e d g f =
    let k : w ≡ with_safe_mode (watched 16 b).safe_mode (with_parameters (watched 16 b).parameters (with_counts (watched 16 b).counts b)) = d ∙ watched_kept 16 b in
    let x : u.expected ≡ s.expected = ap (λ (v : State). v.expected) g ∙ ap (λ (v : State). v.expected) k ∙ ap (λ (v : State). v.expected) e in
    let y : u.rejected ≡ s.rejected = ap (λ (v : State). v.rejected) g ∙ ap (λ (v : State). v.rejected) k ∙ ap (λ (v : State). v.rejected) e in
    (subst (λ n. n ≤ most) (sym x) f.expected, subst (λ n. n ≤ most) (sym y) f.rejected)
