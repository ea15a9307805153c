use Rattle.std.proofs.Common.{◌≡◌, ◌++◌, rules, ◌∙◌, ap, drop, arith, List, ℕ}
use Rattle.std.proofs.lemmas.List.{same_lists}
use Rattle.parameters.proofs.Parameters.read.Goals as goal

pub returns : goal.returns
returns c =
    let e : c.map.result ≡ c.args.readings.now = same_lists c.map.result c.args.readings.now (omega (arith, c.map.ensures.items.long)) (λ k d h. let p = c.map.ensures.items.at k d d (omega (arith, c.map.ensures.items.long)) in search rules) in
    ap (λ (l : List ℕ). l ++ drop 16 c.args.self.now.values) (c.copy_from_slice.ensures.after ∙ e)
