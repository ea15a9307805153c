-- A text is flown line by line, and what its ticks give is written.
use Rattle.std.proofs.Common.{◌≡◌, ℕ, ◌<◌, List, [], ◌∷◌, ◌++◌, reverse, IfOk, Some, None, Ok, Err, Option, Result, sym, refl, ap, ◌∙◌, subst, append_assoc, append-nil, MatchResult}
use Rattle.std.specs.Fmt.{IsPlainFormatter, HasWritten}
use Rattle.std.specs.declared.fmt.Formatter.{Formatter}
use Rattle.std.proofs.lemmas.List.{length-reverse, reverse-reverse}
use Rattle.satellite.specs.Fit.{most}
use Rattle.text.specs.declared.event.Event.{Event}
use Rattle.text.specs.declared.fault.Fault.{Fault}
use Rattle.text.specs.declared.fault.Fault.TheVariants as fault
use Rattle.text.specs.declared.statement.Statements.{Statements}
use Rattle.text.specs.Lines.{reads_next}
use Rattle.text.specs.Text.{flights, Tells, Fails}
use Rattle.text.proofs.Once.{event_readable, told_once, told_faultless}
use Rattle.text.proofs.Telling.{Until, fails, silent, said}
use Rattle.text.proofs.Writing.{put_more, put_is}
use Rattle.mission.specs.declared.aloft.Aloft.{Aloft}
use Rattle.mission.specs.declared.aloft.Output.{Output}
use Rattle.mission.specs.Lines.{line_of, told}
use Rattle.mission.specs.declared.whole.Failure.{Failure}
use Rattle.mission.specs.declared.whole.Failure.TheVariants as failure
use Rattle.mission.specs.Run.{FlownThrough, Storied, Broke, Untouched, line_told}
use Rattle.mission.specs.Steps.{Steps, and_then, Ran, stepped}
use Rattle.mission.proofs.Flying.{latest, run_right}

-- whether a line is at fault
LineFault : Fault → Type 0
LineFault (fault.Unreadable n x) = Unit {0}
LineFault fault.Memory = ⊥

-- nothing, or one more
some : Option Output → List Output
some None = []
some (Some o) = o ∷ []

some_and_then : (os : List Output) (o : Option Output) → reverse (os ++ some o) ≡ and_then o (reverse os)
unfolding some
some_and_then os None = ap reverse (append-nil os)
some_and_then os (Some o) = latest os o

told_append : (os ps : List Output) → told (os ++ ps) ≡ told os ++ told ps
told_append [] ps = refl
told_append (o ∷ os) ps = ap (λ (l : List ℕ). line_of o ++ (10 ∷ l)) (told_append os ps) ∙ sym (append_assoc (line_of o) (10 ∷ told os) (told ps))

told_some : (os : List Output) (o : Option Output) → told os ++ line_told o ≡ told (os ++ some o)
unfolding some
told_some os None = sym (told_append os [])
told_some os (Some o) = sym (told_append os (o ∷ []))

module _ {W : Type 0} (took : W → List ℕ → W → Type 0) where
  -- the first lines of a text have been flown, and s is about to read the others
  pub record Underway (text : List ℕ) (s : Statements Event) (aloft : Aloft) (f g : Formatter W) : Type 0 where
    pub events : List Event
    pub sofar : Until flights event_readable text s events
    pub outputs : List Output
    pub ran : Ran (reverse events) aloft (reverse outputs)
    pub written : IsPlainFormatter f → HasWritten took f (told outputs) g

  pub begin : (text : List ℕ) (s : Statements Event) (aloft : Aloft) (f : Formatter W) → Until flights event_readable text s [] → Ran [] aloft [] → Underway text s aloft f f
  begin text s aloft f u r = record {
    events = [];
    sofar = u;
    outputs = [];
    ran = r;
    written = λ p. record { wrote = record { parts = []; calls = refl; whole = refl }; plain = p };
  }

  module _ (text : List ℕ) (s t : Statements Event) (aloft : Aloft) (f g : Formatter W) (u : Underway text s aloft f g) (r : Result (Option Event) Fault) (steps : reads_next flights s (Some r) t) where
    pub faulty : (x : Fault) → r ≡ Err x → Fails flights text x
    faulty x e = fails flights event_readable text s t u.events u.sofar r steps x e

    pub passed : r ≡ Ok None → Underway text t aloft f g
    passed e = record { events = u.events; sofar = silent flights event_readable text s t u.events u.sofar r steps e; outputs = u.outputs; ran = u.ran; written = u.written }

    pub flown : (e : Event) (b : Aloft) (o : Option Output) (h : Formatter W) → r ≡ Ok (Some e) → Steps aloft e b o → (IsPlainFormatter g → HasWritten took g (line_told o) h) → Underway text t b f h
    flown e b o h w m p = record {
      events = u.events ++ e ∷ [];
      sofar = said flights event_readable text s t u.events u.sofar r steps e w;
      outputs = u.outputs ++ some o;
      ran = subst (λ (es : List Event). Ran es b (reverse (u.outputs ++ some o))) (sym (latest u.events e))
          (subst (λ (os : List Output). Ran (e ∷ reverse u.events) b os) (sym (some_and_then u.outputs o)) (stepped e (reverse u.events) aloft b o (reverse u.outputs) u.ran m));
      written = λ q. let x = u.written q in put_is took f _ _ h (told_some u.outputs o) (put_more took f (told u.outputs) g (line_told o) h x (p x.plain));
    }

  -- where the hits are tolerated, what was written is the story
  pub storied : (text : List ℕ) (f g : Formatter W) → FlownThrough took text f g → Storied took text f g
  storied text f g x es t l s =
      let e : x.events ≡ es = told_once flights event_readable text x.events es x.says t in
      let ran : Ran (reverse es) x.aloft (reverse x.outputs) = subst (λ (y : List Event). Ran (reverse y) x.aloft (reverse x.outputs)) e x.ran in
      let right = run_right (reverse es) x.aloft (reverse x.outputs) ran l (subst (λ n. n < most) (sym (length-reverse es)) s) in
      put_is took f _ _ g (ap told (sym (reverse-reverse x.outputs) ∙ ap reverse right.told)) x.written

-- a text that has been checked has no line at fault, so that where one is said to be, nothing was written
pub untouched : {W : Type 0} (text : List ℕ) (es : List Event) → Tells flights text es → (r : Failure) (f g : Formatter W) → Broke text r → Untouched r f g
unfolding LineFault
untouched text es t (failure.Unread (fault.Unreadable n x)) f g b = absurd (faulty (told_faultless flights text es t (fault.Unreadable n x) b))
  where
    faulty : fault.Unreadable n x ≡ fault.Memory → ⊥
    faulty e = elim (subst LineFault e tt) [ ]
untouched text es t (failure.Unread fault.Memory) f g b = tt
untouched text es t failure.Unwritten f g b = tt

-- a run of a text that has been checked
module _ {W : Type 0} (took : W → List ℕ → W → Type 0) (text : List ℕ) (f g : Formatter W) where
  pub whole_run : (es : List Event) → Tells flights text es → (r : Result (Unit {0}) Failure) → MatchResult r (λ _. IsPlainFormatter f → FlownThrough took text f g) (λ x. Broke text x) → MatchResult r (λ _. IsPlainFormatter f → FlownThrough took text f g) (λ x. Broke text x × Untouched x f g)
  whole_run es t (Ok u) h = h
  whole_run es t (Err x) h = (h, untouched text es t x f g h)

  pub whole_story : (r : Result (Unit {0}) Failure) → MatchResult r (λ _. IsPlainFormatter f → FlownThrough took text f g) (λ x. Broke text x) → IfOk r (λ _. IsPlainFormatter f → Storied took text f g)
  whole_story (Ok u) h = λ p. storied took text f g (h p)
  whole_story (Err x) h = tt
