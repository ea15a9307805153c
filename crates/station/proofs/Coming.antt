-- Every command comes through.
use Rattle.std.proofs.Common.{◌≡◌, ℕ, zero, suc, ◌*◌, ◌<◌, ◌≤◌, true, false, ltb, List, [], ◌∷◌, ◌++◌, length, take, drop, Some, None, Option, sym, refl, ap, ◌∙◌, subst, ⊎_elim, mul-suc, arith, length-drop, take-append-drop}
use Rattle.std.proofs.lemmas.List.{append_assoc, length-take-le, take_all}
use Rattle.std.proofs.lemmas.Bool.{cases_lt, cases_Bool, ltb-true, cond-true, cond-false}
use Rattle.frame.specs.declared.Command.{Command}
use Rattle.frame.specs.declared.Telecommand.{Telecommand}
use Rattle.frame.specs.File.{telecommand_of, Sendable}
use Rattle.frame.specs.Frame.{decoded, encodable, encoded, encoding}
use Rattle.frame.proofs.Back.{round_trip}
use Rattle.satellite.specs.Story.{Inputs}
use Rattle.flight.specs.Flight.{after}
use Rattle.flight.specs.Commanding.{heard}
use Rattle.flight.proofs.Commanded as commanded
use Rattle.station.specs.Passes.{Names, ComesThrough, Brings, now, before, Delivers, AllObeyed}
use Rattle.station.proofs.Knowing.{within_file, expected_grows, surely_obeyed}

-- the frame that is named carries the expected command
named_heard : (cs : List Command) (i : Inputs) (is : List Inputs) → Sendable cs → Names cs i is → heard i is ≡ Some (telecommand_of cs (after is).expected)
named_heard cs i is s e =
    let n : ℕ = (after is).expected in
    let t : Telecommand = telecommand_of cs n in
    ⊎_elim
    (λ (l : ltb n (length cs) ≡ true).
    let ok = s n (ltb-true n (length cs) l) in
    let f : Some (encoded t) ≡ Some i.frame = sym (cond-true (ltb n (length cs)) (encoding t) None l ∙ cond-true (encodable t) (Some (encoded t)) None ok) ∙ e in
    let g : encoded t ≡ i.frame = cc in
    ap decoded (sym g) ∙ round_trip t ok)
    (λ (l : ltb n (length cs) ≡ false).
    let f : ◌≡◌ {A = Option (List ℕ)} None (Some i.frame) = sym (cond-false (ltb n (length cs)) (encoding t) None l) ∙ e in
    cc)
    (cases_Bool (ltb n (length cs)))

pub comes_through : ComesThrough
comes_through cs i is s e = commanded.comes_through i is (telecommand_of cs (after is).expected).command (named_heard cs i is s e)

grows : (stretch early : List Inputs) → (after early).expected ≤ (after (stretch ++ early)).expected
grows [] early = omega arith
grows (i ∷ is) early = let a = grows is early in let b = expected_grows i (is ++ early) in omega arith

-- a stretch that brings a named frame moves the expected number on
stretch_grows : (cs : List Command) (stretch early : List Inputs) → Sendable cs → Brings cs stretch early → suc (after early).expected ≤ (after (stretch ++ early)).expected
stretch_grows cs stretch early s (now i is es n) = let a = grows is early in let b = (comes_through cs i (is ++ early) s n).1 in omega arith
stretch_grows cs stretch early s (before i is es b) = let a = stretch_grows cs is early s b in let c = expected_grows i (is ++ early) in omega arith

earlier : (d : ℕ) (cs : List Command) (stretch early : List Inputs) → Delivers d cs (stretch ++ early) → Delivers d cs early
earlier d cs stretch early h late st es e l x =
    h (stretch ++ late) st es (ap (λ (y : List Inputs). stretch ++ y) e ∙ sym (append_assoc stretch late (st ++ es))) l x

-- after d * k ticks k commands have been obeyed, as far as there are that many
in_time : (d : ℕ) (cs : List Command) (k : ℕ) (is : List Inputs) → Sendable cs → Delivers d cs is → length is ≡ d * k → k ≤ length cs → k ≤ (after is).expected
in_time d cs zero is s h e l = omega arith
in_time d cs (suc k) is s h e l =
    let stretch : List Inputs = take d is in
    let early : List Inputs = drop d is in
    let parts : stretch ++ early ≡ is = take-append-drop d is in
    let m = mul-suc d k in
    let a : length stretch ≡ d = length-take-le d is (omega arith) in
    let b : length early ≡ d * k = length-drop d is ∙ omega arith in
    let whole : Delivers d cs (stretch ++ early) = subst (Delivers d cs) (sym parts) h in
    let ih = in_time d cs k early s (earlier d cs stretch early whole) b (omega arith) in
    subst (λ (x : List Inputs). suc k ≤ (after x).expected) parts
    (⊎_elim
    (λ (x : (after early).expected < length cs). let g = stretch_grows cs stretch early s (whole [] stretch early refl a x) in omega arith)
    (λ (x : length cs ≤ (after early).expected). let g = grows stretch early in omega arith)
    (cases_lt (after early).expected (length cs)))

pub all_obeyed : AllObeyed
all_obeyed d cs is s f h e =
    let a = in_time d cs (length cs) is s h e (omega arith) in
    let b = within_file cs is f in
    (surely_obeyed cs is (length cs) f (omega arith)).1 ∙ take_all (length cs) cs (omega arith)
