-- What a line says is what it says in its text.
use Rattle.std.proofs.Common.{◌≡◌, ℕ, Bool, List, Ok, Err, Option, Result, IsErrAnd, MatchResult, sym, refl, ap, subst}
use Rattle.text.specs.declared.fault.Fault.{Fault}
use Rattle.text.specs.declared.fault.Unread.{Unread}
use Rattle.text.specs.Lines.{ReadsAt, left_by}
use Rattle.text.specs.Text.{Language, Reads, fault_at}
use Rattle.text.specs.Words.{line_words}

module _ {E : Type 0} (l : Language E) (heard : Bool) (bs : List ℕ) (n : ℕ) where
  -- q is r with its line
  abbrev pub IsAt : Result (Option E) Unread → Result (Option E) Fault → Type 0
  IsAt r q = MatchResult r (λ o. q ≡ Ok o) (λ e. IsErrAnd q (λ f. f ≡ fault_at n e))

  pub reads_at : (r : Result (Option E) Unread) (q : Result (Option E) Fault) → IsAt r q → Reads l heard (line_words bs) r → ReadsAt l n heard bs q
  reads_at (Ok o) q e h = subst (ReadsAt l n heard bs) (sym e) h
  reads_at (Err u) (Ok o) e h = absurd e
  reads_at (Err (Unread.Expected x)) (Err f) e h = subst (λ g. ReadsAt l n heard bs (Err g)) (sym e) (refl, h)
  reads_at (Err Unread.Memory) (Err f) e h = subst (λ g. ReadsAt l n heard bs (Err g)) (sym e) tt

  pub same_left : (r : Result (Option E) Unread) (q : Result (Option E) Fault) → IsAt r q → left_by l heard r ≡ left_by l heard q
  same_left (Ok o) q e = ap (left_by l heard) (sym e)
  same_left (Err u) (Ok o) e = absurd e
  same_left (Err u) (Err f) e = refl
