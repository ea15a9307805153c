use Rattle.std.proofs.Common.{sym, rules}
use Rattle.frame.proofs.Back.{round_trip, encoding_some, encoding_large, encoding_other}
use Rattle.frame.proofs.encode.Goals as goal

pub returns-then-not-small : goal.returns-then-not-small
returns-then-not-small c =
    record {
      value = search (rules, encoding_large c.args.telecommand c.unchecked-frame.result c.unchecked-frame.ensures, encoding_other c.args.telecommand);
      back = round_trip c.args.telecommand;
    }

pub returns : goal.returns
returns c =
    record {
      value = encoding_some c.args.telecommand c.unchecked-frame.result c.check.result c.unchecked-frame.ensures c.check.ensures (sym c.if-not-small.ensures) (sym c.if-not-of_its_kind.ensures);
      back = round_trip c.args.telecommand;
    }
