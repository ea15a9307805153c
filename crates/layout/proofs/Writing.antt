-- The words of a satellite, laid one part after the other over whatever was there.
use Rattle.std.proofs.Common.{◌≡◌, ℕ, ◌+◌, ◌-◌, ◌<◌, ◌≤◌, List, [], ◌++◌, length, get_or, take, drop, replicate, sym, refl, ap, ◌∙◌, arith}
use Rattle.std.proofs.lemmas.List.{append_assoc, drop-append-le, drop-replicate, length-take-le}
use lib.ListN.{length-replicate}
use Rattle.satellite.specs.State.{State}
use Rattle.layout.specs.Map.{activities_at, activities_room, rules_at, word_count, parts, sizes, words_of, Sized}
use Rattle.layout.proofs.Units.{laid_on}
use Rattle.layout.proofs.Joined.{offset, Laid, lay_behind, all_laid}
use Rattle.layout.proofs.Places.{length_words, part_is}

-- nothing is laid yet
pub none : (s : State) → Sized s → (now : List ℕ) → length now ≡ word_count → Laid 0 (words_of s) now
none s z now l = record { long = l ∙ sym (length_words s z); right = refl }

-- part i is laid behind the parts before it
pub next : (s : State) → Sized s → (i : ℕ) → i < length sizes → offset sizes i + get_or sizes i 0 ≤ word_count → (now new : List ℕ) → Laid (offset sizes i) (words_of s) now
    → new ≡ take (offset sizes i) now ++ (get_or (parts s) i [] ++ drop (offset sizes i + get_or sizes i 0) now) → Laid (offset sizes i + get_or sizes i 0) (words_of s) new
next s z i l b now new h e = lay_behind (offset sizes i) (get_or sizes i 0) (words_of s) (get_or (parts s) i []) now new (omega (arith, length_words s z)) (sym (part_is s z i l)) e h

-- all parts are laid
pub all : (s : State) → Sized s → (now : List ℕ) → Laid word_count (words_of s) now → now ≡ words_of s
all s z now h = all_laid word_count (words_of s) now (length_words s z) h

-- activities laid over noughts
pub over_noughts : (n : ℕ) (acts w₀ w₁ w₂ : List ℕ) → n ≤ activities_room → length w₀ ≡ word_count → w₁ ≡ take activities_at w₀ ++ (replicate activities_room 0 ++ drop rules_at w₀)
    → w₂ ≡ take activities_at w₁ ++ (acts ++ drop (activities_at + n) w₁) → w₂ ≡ take activities_at w₀ ++ ((acts ++ replicate (activities_room - n) 0) ++ drop rules_at w₀)
over_noughts n acts w₀ w₁ w₂ b l e d =
    let front : List ℕ = take activities_at w₀ in
    let rest : List ℕ = drop rules_at w₀ in
    let z : List ℕ = replicate (activities_room - n) 0 in
    let c : drop n (replicate activities_room 0 ++ rest) ≡ z ++ rest =
    drop-append-le n (replicate activities_room 0) rest (let r : length (replicate {A = ℕ} activities_room 0) ≡ activities_room = length-replicate {A = ℕ} activities_room 0 in omega arith) ∙ ap (λ (x : List ℕ). x ++ rest) (drop-replicate n activities_room 0) in
    laid_on front (replicate activities_room 0 ++ rest) acts w₁ w₂ activities_at n e (length-take-le activities_at w₀ (omega arith)) d
    ∙ ap (λ (x : List ℕ). (front ++ acts) ++ x) c ∙ append_assoc front acts (z ++ rest) ∙ ap (λ (x : List ℕ). front ++ x) (sym (append_assoc acts z rest))
