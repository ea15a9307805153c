-- Which events a text may say: numbers in their bounds, and one frame in a tick.
use Rattle.std.specs.Prelude.{ℕ, ◌^◌, Bool, true, false, not, ◌&&◌, List, [], ◌∷◌, length, ◌==◌, nat_lt}
use Rattle.std.specs.List.{list_all}
use Rattle.frame.specs.declared.Command.{Command}
use Rattle.text.specs.declared.event.Event.{Event}

-- how many words can be hit
abbrev pub kept_words : ℕ
kept_words = 294

abbrev pub all_below : ℕ → List ℕ → Bool
all_below n xs = list_all (λ x. nat_lt x n) xs

-- what a frame can carry; an unknown command has no name to write
abbrev pub command_bounded : Command → Bool
command_bounded (Command.Put a b) = all_below 4294967296 (a ∷ b ∷ [])
command_bounded (Command.Later a) = all_below 4294967296 (a.release ∷ a.place ∷ a.number ∷ [])
command_bounded Command.Forget = true
command_bounded Command.Sleep = true
command_bounded Command.Wake = true
command_bounded (Command.SetRule k r) =
    all_below 4294967296 (k ∷ r.watches ∷ r.limit ∷ r.needs ∷ r.place ∷ r.number ∷ [])
command_bounded (Command.Unknown k) = false

abbrev pub bounded : Event → Bool
bounded (Event.Read i v) = nat_lt i 16 && nat_lt v 65536
bounded (Event.Up n c) = nat_lt n 4294967296 && command_bounded c
bounded (Event.Frame xs) = length xs == 12 && all_below (2 ^ 64) xs
bounded (Event.Hit c w v) = nat_lt c 3 && (nat_lt w kept_words && nat_lt v (2 ^ 64))
bounded Event.Tick = true

-- whether a frame comes up
abbrev pub brings : Event → Bool
brings (Event.Up n c) = true
brings (Event.Frame xs) = true
brings _ = false

-- whether a frame has come up since the last tick, after one event more
abbrev pub heard_after : Bool → Event → Bool
heard_after heard (Event.Up n c) = true
heard_after heard (Event.Frame xs) = true
heard_after heard Event.Tick = false
heard_after heard _ = heard

-- what may be said next
abbrev pub allowed : Bool → Event → Bool
allowed heard e = bounded e && not (heard && brings e)

-- things are said one after the other: each may be, by what the ones before it left
abbrev pub all_said : {E : Type 0} → (Bool → E → Bool) → (Bool → E → Bool) → Bool → List E → Bool
all_said may after heard [] = true
all_said may after heard (e ∷ es) = may heard e && all_said may after (after heard e) es

-- what they leave
abbrev pub after_all : {E : Type 0} → (Bool → E → Bool) → Bool → List E → Bool
after_all after heard [] = heard
after_all after heard (e ∷ es) = after_all after (after heard e) es
