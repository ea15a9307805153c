use Rattle.std.proofs.Common.{◌≡◌, ℕ, List, string_bytes, sym, subst, arith}
use Rattle.std.proofs.lemmas.Grind.{common_steps}
use Rattle.text.specs.Render.{rendered, Only}
use Rattle.text.proofs.Once.{read_back}
use Rattle.text.proofs.write.lines_of.Goals as goal

pub returns-clause-back : goal.returns-clause-back
returns-clause-back g c = λ p.
    let l = g.S.Statement.language in
    let said = c.args.said.now in
    let text : string_bytes c.loop-one.out ≡ rendered l.words said = grind (arith, common_steps) in
    subst (λ (bs : List ℕ). Only l bs said) (sym text) (read_back l c.requires.readable said p)
