use Rattle.std.proofs.Common.{[], ◌∷◌, Ok, vec_items, sym, refl, ap, ◌∙◌, subst}
use Rattle.std.proofs.lemmas.Slice.{pushed}
use Rattle.text.specs.Text.{Tells, Fails}
use Rattle.text.proofs.Telling.{Until, fails, silent, said, passed_on}
use Rattle.text.proofs.statement.parse_all.Goals as goal

pub returns-in_err-said : goal.returns-in_err-said
returns-in_err-said g c =
    let l = g.S.Statement.language in
    passed_on (λ v. Tells l c.args.text.now v.items) (Fails l c.args.text.now) c.from_residual.result c.in_err-said.field-0.0 c.from_residual.ensures.1
    (fails l c.requires c.args.text.now c.loop-read.read-iterator c.next.new.self (vec_items c.loop-read.all) c.loop-read.invariant.1 c.in-Some.read c.in-Some.ensures.steps c.in_err-said.field-0.0 c.in_err-said.was)

pub loop-read-preserved-in-Continue-branch-3 : goal.loop-read-preserved-in-Continue-branch-3
loop-read-preserved-in-Continue-branch-3 g c =
    let l = g.S.Statement.language in
    let d = c.in-Some-2.said in (
      c.in-Some.ensures.goes.keeps,
      subst (Until l c.requires c.args.text.now c.next.new.self) (sym (pushed (d ∷ []) refl c.in_ok-push.was c.push.ensures.items))
          (said l c.requires c.args.text.now c.loop-read.read-iterator c.next.new.self (vec_items c.loop-read.all) c.loop-read.invariant.1 c.in-Some.read c.in-Some.ensures.steps d (c.in_ok-said.was ∙ ap Ok c.in-Some-2.is)),
    )

pub loop-read-preserved : goal.loop-read-preserved
loop-read-preserved g c =
    (c.in-Some.ensures.goes.keeps, silent g.S.Statement.language c.requires c.args.text.now c.loop-read.read-iterator c.next.new.self (vec_items c.loop-read.all) c.loop-read.invariant.1 c.in-Some.read c.in-Some.ensures.steps (c.in_ok-said.was ∙ ap Ok c.in_default.is))
