use Rattle.std.proofs.Common.{◌≡◌, ℕ, ◌<◌, List, get_or, Some, None, sym, ap, ◌∙◌, subst, arith}
use Rattle.std.proofs.lemmas.List.{get_or-map}
use Rattle.text.specs.declared.words.Word.{Word}
use Rattle.text.specs.Table.{amount, Numbers}
use Rattle.text.proofs.event.numbers.Goals as goal

not_number : (ws : List Word) (n i : ℕ) (d : Word) → i < n → amount (get_or ws i d) ≡ None → Numbers n ws None
not_number ws n i d l a xs long e =
    let s : amount (get_or ws i d) ≡ Some (get_or xs i 0) = ap (λ (v : List Word). amount (get_or v i d)) e ∙ ap amount (get_or-map Word.Number xs i 0 d (omega arith)) in
    let z : ◌≡◌ {A = ℕ} 0 1 = cc in omega arith

pub returns-in_err-numbers : goal.returns-in_err-numbers
returns-in_err-numbers g c =
    subst (Numbers g.row.N c.args.words.now) (sym c.from_residual.ensures) (not_number c.args.words.now g.row.N c.loop-i.i _ (omega (arith, c.loop-i-test.true)) (sym c.in_err-numbers.ensures))
