-- The number and the place by which what is turned away is known: each case of the answer has its own.
use Rattle.std.specs.Prelude.{ℕ, List, ◌∷◌, ◌++◌, codes, decimal}
use Rattle.refusal.specs.declared.Lent.{Lent}
use Rattle.refusal.specs.declared.Refusal.{Refusal}

pub record Turned : Type 0 where
  pub number : ℕ
  pub place : ℕ

-- which of the four that a call is lent
abbrev pub lent_place : Lent → ℕ
lent_place Lent.Memory = 0
lent_place Lent.Readings = 1
lent_place Lent.Frame = 2
lent_place Lent.Report = 3

-- 1, a length: which of those that were lent; 2, memory: the lowest word at fault; 3, a text: its first line at fault
abbrev pub turned : Refusal → Turned
turned (Refusal.Length lent) = record { number = 1; place = lent_place lent }
turned (Refusal.Unfit word) = record { number = 2; place = word }
turned (Refusal.Unreadable line) = record { number = 3; place = line }

-- as programs write it
abbrev pub turned_text : Turned → List ℕ
turned_text t = codes "refused " ++ (decimal t.number ++ (32 ∷ decimal t.place))
