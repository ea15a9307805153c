use Rattle.std.proofs.Common.{◌≡◌, ℕ, ◌^◌, ◌<◌, eqb, ltb, length, get_or, true, sym, ap, ◌∙◌, subst, rules}
use Rattle.std.proofs.lemmas.Bool.{and_from, lt-ltb, eq-eqb}
use Rattle.std.proofs.lemmas.Grind.{get_or_default_zero}
use Rattle.std.proofs.lemmas.List.Sums.{list_all-from_AllPass}
use Rattle.text.specs.Law.{all_below, bounded}
use Rattle.text.proofs.law.bounded.Goals as goal

pub returns-in-Frame : goal.returns-in-Frame
returns-in-Frame c =
    let xs = c.in-Frame.numbers in
    let twelve : length xs ≡ 12 = search rules in
    let small : (i : ℕ) → i < length xs → get_or xs i 0 < 2 ^ 64 = λ i l. search rules in
    let below : all_below (2 ^ 64) xs ≡ true = list_all-from_AllPass (λ x. ltb x (2 ^ 64)) xs (λ i d l. lt-ltb _ _ (subst (λ n. n < 2 ^ 64) (sym (get_or_default_zero xs i d l)) (small i l))) in
    sym (ap bounded c.in-Frame.is ∙ and_from (eqb (length xs) 12) (all_below (2 ^ 64) xs) (eq-eqb (length xs) 12 twelve) below)
