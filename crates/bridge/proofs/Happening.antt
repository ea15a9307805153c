-- Histories of readings and frames of then exist.
use Rattle.std.proofs.Common.{zero, suc, [], ◌∷◌, replicate, refl, ap, inl}
use Rattle.origin.specs.Entry.{Input, Lent}
use Rattle.bridge.specs.Same.{none_then, more_then, ThenHappens}

-- a tick in which no instrument reads anything and nothing comes up
abbrev quiet : Input
quiet = record { readings = replicate 16 0; frame = [] }

quiet_lent : Lent quiet
quiet_lent = record { readings = refl; small = refl; frame = inl refl }

pub then_happens : ThenHappens
then_happens zero = ([], refl, none_then)
then_happens (suc n) =
    let h = then_happens n in
    (quiet ∷ h.0, ap suc h.1, more_then quiet h.0 quiet_lent (record {}) h.2)
