use Rattle.std.proofs.Common.{◌≡◌, ℕ, List, [], Some, None, Option, Bor, unwrap_or, slice_get, refl, ap, ◌∙◌}
use Rattle.std.specs.Option.{option_map}
use Rattle.std.proofs.lemmas.Option.{unwrap_or-slice_get}
use Rattle.std.proofs.lemmas.Iterator.Consumers.{nth_from_yields_List, YieldsList-from_first}
use Rattle.text.specs.declared.cut.Stop.{Stop}
use Rattle.text.specs.Cut.{stops, cut, left}
use Rattle.text.proofs.cut.line_at.Goals as goal

now_or : (r : Option (Bor (List ℕ))) (d : Bor (List ℕ)) → (unwrap_or r d).now ≡ unwrap_or (option_map (λ x. x.now) r) d.now
now_or None d = refl
now_or (Some x) d = refl

pub returns : goal.returns
returns c =
    let found : option_map (λ (x : Bor (List ℕ)). x.now) c.nth.result ≡ slice_get (cut (stops Stop.Line) c.args.text.now) c.args.line =
    nth_from_yields_List c.nth.result c.nth.new.self c.args.line c.nth.ensures.ran (YieldsList-from_first _ left _ c.new.ensures) in
    ap (λ (x : Bor (List ℕ)). x.now) c.unwrap_or.ensures ∙ now_or c.nth.result _ ∙ ap (λ o. unwrap_or o []) found ∙ unwrap_or-slice_get (cut (stops Stop.Line) c.args.text.now) c.args.line []
