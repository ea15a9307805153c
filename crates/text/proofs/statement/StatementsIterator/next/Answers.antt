use Rattle.std.proofs.Common.{◌∙◌, subst, rules, tests}
use Rattle.text.specs.Lines.{ReadsAt}
use Rattle.text.proofs.Reading.{IsAt, reads_at, same_left}
use Rattle.text.proofs.statement.StatementsIterator.next.Goals as goal

pub returns-clause-steps : goal.returns-clause-steps
returns-clause-steps g c =
    let s = c.in_ok-n.ensures.steps in
    let l = g.S.Statement.language in
    let h = c.args.self.now.heard in
    let bs = c.in_ok-n.line.now in
    let q : IsAt l h bs c.in_ok-n.n c.read_line-read.result c.map_err.result = search (rules, tests) in (
      bs,
      s.0,
      s.2,
      subst (λ n. ReadsAt l n h bs c.map_err.result) s.1 (reads_at l h bs c.in_ok-n.n c.read_line-read.result c.map_err.result q c.read_line-read.ensures),
      c.heard_on-self.ensures ∙ same_left l h bs c.in_ok-n.n c.read_line-read.result c.map_err.result q,
    )
