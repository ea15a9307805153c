-- The lines of a text, one after the other.
use Rattle.std.proofs.Common.{◌≡◌, ℕ, ◌+◌, Bool, true, false, List, [], ◌∷◌, ◌++◌, map, length, get_or, take, Some, None, Ok, Err, Option, Result, IsErrAnd, MatchResult, sym, refl, ap, ◌∙◌, subst, append_assoc, append-nil, arith, length-append}
use mathlib.Core.List.{map-append}
use Rattle.std.proofs.lemmas.List.{take_at, get_or_at, length_push, map_push, same_from_push}
use Rattle.text.specs.declared.fault.Fault.{Fault}
use Rattle.text.specs.declared.words.Word.{Word}
use Rattle.text.specs.declared.cut.Stop.{Stop}
use Rattle.text.specs.Cut.{stops, cut}
use Rattle.text.specs.Law.{all_said, after_all}
use Rattle.text.specs.declared.statement.Statements.{Statements}
use Rattle.text.specs.Lines.{ReadsAt, rest, line_number, reads_next}
use Rattle.text.specs.Words.{line_words, lines}
use Rattle.text.specs.Text.{spoken, LinesSay, FirstFault, Language, Readable, Tells, Fails}
use Rattle.text.proofs.Lawfulness.{after_push, one_lawful, one_may}

pub spoken_append : (ls ms : List (List Word)) → spoken (ls ++ ms) ≡ spoken ls ++ spoken ms
spoken_append [] ms = refl
spoken_append ([] ∷ ls) ms = spoken_append ls ms
spoken_append ((w ∷ ws) ∷ ls) ms = ap (λ (l : List (List Word)). (w ∷ ws) ∷ l) (spoken_append ls ms)

pub spoken_some : (l : List Word) (ls : List (List Word)) → (l ≡ [] → ⊥) → spoken (l ∷ ls) ≡ l ∷ spoken ls
spoken_some [] ls n = absurd (n refl)
spoken_some (w ∷ ws) ls n = refl

says_more : {E : Type 0} (table : E → List Word) (done : List (List Word)) (l : List Word) (es fs : List E) → LinesSay table done es → LinesSay table (l ∷ []) fs → LinesSay table (done ++ l ∷ []) (es ++ fs)
says_more table done l es fs p q = spoken_append done (l ∷ []) ∙ (λ i. p i ++ q i) ∙ sym (map-append table es fs)

-- a table that can be undone tells what it is a table of
all_back : {E : Type 0} (table : E → List Word) (back : List Word → E) → ((e : E) → back (table e) ≡ e) → (es : List E) → map back (map table es) ≡ es
all_back table back undo [] = refl
all_back table back undo (e ∷ es) = λ i. undo e i ∷ all_back table back undo es i

pub once : {E : Type 0} (table : E → List Word) (back : List Word → E) → ((e : E) → back (table e) ≡ e) → (ls : List (List Word)) (es fs : List E) → LinesSay table ls es → LinesSay table ls fs → es ≡ fs
once table back undo ls es fs p q = sym (all_back table back undo es) ∙ ap (map back) (sym p ∙ q) ∙ all_back table back undo fs

-- where lines say es and one more line comes, what they say is es and one thing more
one_over : {E : Type 0} (table : E → List Word) (back : List Word → E) → ((e : E) → back (table e) ≡ e) → (done : List (List Word)) (l : List Word) (es fs : List E) → (l ≡ [] → ⊥) → LinesSay table done es → LinesSay table (done ++ l ∷ []) fs → (fs ≡ es ++ back l ∷ []) × (l ≡ table (back l))
one_over table back undo done l es fs n p q =
    let s : map table es ++ l ∷ [] ≡ map table fs = sym (spoken_append done (l ∷ []) ∙ (λ i. p i ++ spoken_some l [] n i)) ∙ q in
    let e : fs ≡ es ++ back l ∷ [] = sym (all_back table back undo fs) ∙ ap (map back) (sym s) ∙ map_push back (map table es) l ∙ ap (λ x. x ++ back l ∷ []) (all_back table back undo es) in
    (e, (same_from_push _ _ l (table (back l)) (s ∙ ap (map table) e ∙ map_push table es (back l))).1)

module _ {E : Type 0} (l : Language E) where
  -- the first lines of the text say es, which is lawful, and rest is what is left of it
  pub record Sofar (text : List ℕ) (rest : List (List ℕ)) (line : ℕ) (heard : Bool) (es : List E) : Type 0 where
    pub done : List (List Word)
    pub cutting : lines text ≡ done ++ map line_words rest
    pub long : length done ≡ line
    pub says : LinesSay l.words done es
    pub lawful : all_said l.may l.heard_after false es ≡ true
    pub hears : heard ≡ after_all l.heard_after false es

  pub start : (text : List ℕ) (rest : List (List ℕ)) (line : ℕ) (heard : Bool) → rest ≡ cut (stops Stop.Line) text → line ≡ 0 → heard ≡ false → Sofar text rest line heard []
  start text rest line heard c n h = record { done = []; cutting = ap (map line_words) (sym c); long = sym n; says = refl; lawful = refl; hears = h }

  module _ {text : List ℕ} {rest : List (List ℕ)} {line : ℕ} {heard : Bool} {es : List E} (s : Sofar text rest line heard es) where
    pub last : rest ≡ [] → Tells l text es
    last e = (ap spoken (s.cutting ∙ ap (λ (bs : List (List ℕ)). s.done ++ map line_words bs) e ∙ append-nil s.done) ∙ s.says, s.lawful)

    module _ (bs : List ℕ) (more : List (List ℕ)) (e : rest ≡ bs ∷ more) where
      on : lines text ≡ (s.done ++ line_words bs ∷ []) ++ map line_words more
      on = s.cutting ∙ ap (λ (r : List (List ℕ)). s.done ++ map line_words r) e ∙ sym (append_assoc s.done (line_words bs ∷ []) (map line_words more))

      pub next_silent : (n : ℕ) (h : Bool) → n ≡ line + 1 → h ≡ heard → line_words bs ≡ [] → Sofar text more n h es
      next_silent n h m k w = record {
        done = s.done ++ line_words bs ∷ [];
        cutting = on;
        long = length_push s.done (line_words bs) ∙ ap (λ (j : ℕ). j + 1) s.long ∙ sym m;
        says = spoken_append s.done (line_words bs ∷ []) ∙ ap (λ (v : List Word). spoken s.done ++ spoken (v ∷ [])) w ∙ append-nil (spoken s.done) ∙ s.says;
        lawful = s.lawful;
        hears = k ∙ s.hears;
      }

      pub next_said : Readable l → (n : ℕ) (h : Bool) (d : E) → n ≡ line + 1 → h ≡ l.heard_after heard d → l.may heard d ≡ true → line_words bs ≡ l.words d → Sofar text more n h (es ++ d ∷ [])
      next_said u n h d m k a w = record {
        done = s.done ++ line_words bs ∷ [];
        cutting = on;
        long = length_push s.done (line_words bs) ∙ ap (λ (j : ℕ). j + 1) s.long ∙ sym m;
        says = says_more l.words s.done (line_words bs) es (d ∷ []) s.says (ap (λ (v : List Word). spoken (v ∷ [])) w ∙ spoken_some (l.words d) [] (u.some d));
        lawful = one_lawful l.may l.heard_after es heard s.lawful s.hears d a;
        hears = k ∙ ap (λ (v : Bool). l.heard_after v d) s.hears ∙ sym (after_push l.heard_after false es d);
      }

      stopped : Readable l → (line_words bs ≡ [] → ⊥) → ((d : E) → l.may heard d ≡ true → line_words bs ≡ l.words d → ⊥) → FirstFault l (lines text) line
      stopped u n never =
          record {
            within = omega (arith, ap length on, length-append (s.done ++ line_words bs ∷ []) (map line_words more), length_push s.done (line_words bs), s.long);
            before = (es, ap spoken (ap (take line) s.cutting ∙ take_at s.done (map line_words rest) line s.long) ∙ s.says, s.lawful);
            silent = λ fs q k.
                let c : take (line + 1) (lines text) ≡ s.done ++ line_words bs ∷ [] = ap (take (line + 1)) on ∙ take_at (s.done ++ line_words bs ∷ []) _ (line + 1) (length_push s.done (line_words bs) ∙ ap (λ (j : ℕ). j + 1) s.long) in
                let o = one_over l.words u.back u.undo s.done (line_words bs) es fs n s.says (subst (λ (ls : List (List Word)). LinesSay l.words ls fs) c q) in
                never (u.back (line_words bs)) (one_may l.may l.heard_after es heard s.lawful s.hears (u.back (line_words bs)) (sym (ap (all_said l.may l.heard_after false) o.0) ∙ k)) o.1;
          }

      here : get_or (lines text) line [] ≡ line_words bs
      here = ap (λ (ls : List (List Word)). get_or ls line []) (s.cutting ∙ ap (λ (r : List (List ℕ)). s.done ++ map line_words r) e) ∙ get_or_at s.done (line_words bs) _ [] line s.long

      pub next_fails : Readable l → (f : Fault) → ReadsAt l line heard bs (Err f) → Fails l text f
      next_fails u (Fault.Unreadable m x) r =
          subst (λ k. Fails l text (Fault.Unreadable k x)) (sym r.0) (stopped u r.1.0 r.1.1.0, subst (λ ws. l.Expects ws x) (sym here) r.1.1.1)
      next_fails u Fault.Memory r = tt

-- the same of an iterator over the lines
module _ {E : Type 0} (l : Language E) (u : Readable l) (text : List ℕ) where
  abbrev pub Until : Statements E → List E → Type 0
  Until s es = Sofar l text (rest s) (line_number s) s.heard es

  module _ (s t : Statements E) (es : List E) (h : Until s es) where
    fails_at : (f : Fault) → reads_next l s (Some (Err f)) t → Fails l text f
    fails_at f (bs, e, m, r, k) = next_fails l h bs (rest t) e u f r

    silent_at : reads_next l s (Some (Ok None)) t → Until t es
    silent_at (bs, e, m, r, k) = next_silent l h bs (rest t) e (line_number t) t.heard m k r

    said_at : (d : E) → reads_next l s (Some (Ok (Some d))) t → Until t (es ++ d ∷ [])
    said_at d (bs, e, m, r, k) = next_said l h bs (rest t) e u (line_number t) t.heard d m k r.0 r.1

    module _ (r : Result (Option E) Fault) (steps : reads_next l s (Some r) t) where
      pub fails : (f : Fault) → r ≡ Err f → Fails l text f
      fails f e = fails_at f (subst (λ x. reads_next l s (Some x) t) e steps)

      pub silent : r ≡ Ok None → Until t es
      silent e = silent_at (subst (λ x. reads_next l s (Some x) t) e steps)

      pub said : (d : E) → r ≡ Ok (Some d) → Until t (es ++ d ∷ [])
      said d e = said_at d (subst (λ x. reads_next l s (Some x) t) e steps)

      pub reads : (o : Option E) → r ≡ Ok o → (now : List E) × Until t now
      reads None e = (es, silent e)
      reads (Some d) e = (es ++ d ∷ [], said d e)

-- an error that `?` passes on
pub passed_on : {V F : Type 0} (P : V → Type 0) (Q : F → Type 0) (r : Result V F) (f : F) → IsErrAnd r (λ y. y ≡ f) → Q f → MatchResult r P Q
passed_on P Q (Ok v) f e q = absurd e
passed_on P Q (Err y) f e q = subst Q (sym e) q
