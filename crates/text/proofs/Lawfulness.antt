-- One thing more, and whether it may be said.
use Rattle.std.proofs.Common.{◌≡◌, Bool, true, false, ◌&&◌, List, [], ◌∷◌, ◌++◌, sym, refl, ap, ◌∙◌}
use Rattle.std.proofs.lemmas.Bool.{and_from, and_parts}
use Rattle.text.specs.Law.{all_said, after_all}

and_assoc : (a b c : Bool) → ((a && b) && c) ≡ (a && (b && c))
and_assoc true b c = refl
and_assoc false b c = refl

and_true : (a : Bool) → a ≡ (a && true)
and_true true = refl
and_true false = refl

pub after_push : {E : Type 0} (after : Bool → E → Bool) (h : Bool) (es : List E) (e : E) → after_all after h (es ++ e ∷ []) ≡ after (after_all after h es) e
after_push after h [] e = refl
after_push after h (x ∷ es) e = after_push after (after h x) es e

pub said_push : {E : Type 0} (may after : Bool → E → Bool) (h : Bool) (es : List E) (e : E) → all_said may after h (es ++ e ∷ []) ≡ (all_said may after h es && may (after_all after h es) e)
said_push may after h [] e = sym (and_true (may h e))
said_push may after h (x ∷ es) e =
    ap (λ v. may h x && v) (said_push may after (after h x) es e) ∙ sym (and_assoc (may h x) (all_said may after (after h x) es) (may (after_all after (after h x) es) e))

module _ {E : Type 0} (may after : Bool → E → Bool) (es : List E) (h : Bool) (right : all_said may after false es ≡ true) (hears : h ≡ after_all after false es) where
  pub one_lawful : (e : E) → may h e ≡ true → all_said may after false (es ++ e ∷ []) ≡ true
  one_lawful e a = said_push may after false es e ∙ and_from (all_said may after false es) (may (after_all after false es) e) right (ap (λ v. may v e) (sym hears) ∙ a)

  pub one_may : (e : E) → all_said may after false (es ++ e ∷ []) ≡ true → may h e ≡ true
  one_may e a = ap (λ v. may v e) hears ∙ (and_parts (all_said may after false es) (may (after_all after false es) e) (sym (said_push may after false es e) ∙ a)).1
