use Rattle.std.proofs.Common.{sym, subst}
use Rattle.text.specs.Cut.{stops, First}
use Rattle.text.proofs.Cutting.{first_at}
use Rattle.text.proofs.cut.piece_len.Goals as goal

pub returns : goal.returns
returns c = subst (First (stops c.args.stop) c.args.text.now) (sym c.unwrap_or.ensures) (first_at (stops c.args.stop) c.args.text.now c.first_in.result c.first_in.ensures)
