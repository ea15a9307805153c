use Rattle.std.proofs.Common.{◌≡◌, ℕ, cond, List, Ok, Err, Result, MatchResult, Bor, codes, sym, refl, ap, ◌∙◌}
use Rattle.std.specs.Result.{result_unwrap_or}
use Rattle.std.specs.Str.{IsUtf8, is_utf8}
use Rattle.std.proofs.lemmas.Bool.{false_from_ne_true}
use Rattle.std.proofs.lemmas.Str.{IsUtf8-from_is_utf8, is_utf8-from_IsUtf8}
use Rattle.text.specs.Phrase.{shown}
use Rattle.text.proofs.misread.show.Goals as goal

module _ (bs : List ℕ) where
  shown_text : IsUtf8 bs → shown bs ≡ bs
  shown_text h = ap (λ v. cond v bs (codes "what is no text")) (is_utf8-from_IsUtf8 bs h)

  shown_other : (IsUtf8 bs → ⊥) → shown bs ≡ codes "what is no text"
  shown_other h = ap (λ v. cond v bs (codes "what is no text")) (false_from_ne_true (is_utf8 bs) (λ e. h (IsUtf8-from_is_utf8 bs e)))

  shown_by : {E : Type 0} (P : E → Type 0) (r : Result (Bor (List ℕ)) E) (d : Bor (List ℕ)) → d.now ≡ codes "what is no text" → MatchResult r (λ s. (s.now ≡ bs) × IsUtf8 bs) (λ e. ¬ IsUtf8 bs × P e) → (result_unwrap_or r d).now ≡ shown bs
  shown_by P (Ok s) d z h = h.0 ∙ sym (shown_text h.1)
  shown_by P (Err e) d z h = z ∙ sym (shown_other h.0)

pub returns : goal.returns
returns c = ap (λ (x : Bor (List ℕ)). x.now) c.unwrap_or.ensures ∙ shown_by c.args.line.now _ c.from_utf8.result _ refl c.from_utf8.ensures.cases
