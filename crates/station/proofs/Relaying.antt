-- The flight over a line that is up often enough delivers.
use Rattle.std.proofs.Common.{◌≡◌, ℕ, zero, suc, ◌*◌, ◌<◌, ◌≤◌, Bool, true, false, cond, ltb, ◌⊎◌, inl, inr, List, [], ◌∷◌, ◌++◌, length, get_or, set, drop, replicate, Some, None, Option, sym, refl, ap, ◌∙◌, subst, ⊎_elim, arith}
use Rattle.std.specs.List.{AllByRecursion as All}
use Rattle.std.proofs.lemmas.List.{get_or-replicate, get_or_past}
use Rattle.std.proofs.lemmas.Bool.{cases_Bool, cases_lt, ltb-true, ltb-false, cond-true, cond-false}
use Rattle.frame.specs.declared.Command.{Command}
use Rattle.frame.specs.declared.Telecommand.{Telecommand}
use Rattle.frame.specs.File.{telecommand_of, Sendable}
use Rattle.frame.specs.Frame.{decoded, encodable, encoded, encoding, body, check_of, come_up}
use Rattle.frame.proofs.Back.{round_trip}
use Rattle.satellite.specs.Story.{Inputs}
use Rattle.flight.specs.Flight.{machine, after}
use Rattle.flight.specs.Machine.{AllLawful, none, more}
use Rattle.station.specs.Line.{frame_for}
use Rattle.station.specs.Passes.{FromFile, Names, Brings, now, before, Delivers}
use Rattle.station.specs.Relay.{relayed, sent_over, some_up, UpIn, DeliveredOver, CanDeliver}
use Rattle.station.proofs.Coming.{all_obeyed}
use Rattle.station.proofs.Knowing.{tick_expected}

-- the frame of a command of a file is there as long as the file goes on
frame_cases : (cs : List Command) (n : ℕ) (P : Option (List ℕ) → Type 0) → Sendable cs → (n < length cs → P (Some (encoded (telecommand_of cs n)))) → (length cs ≤ n → P None) → P (frame_for cs n)
frame_cases cs n P s there past =
    let t : Telecommand = telecommand_of cs n in
    ⊎_elim
    (λ (l : ltb n (length cs) ≡ true).
    let m = ltb-true n (length cs) l in
    subst P (sym (cond-true (ltb n (length cs)) (encoding t) None l ∙ cond-true (encodable t) (Some (encoded t)) None (s n m))) (there m))
    (λ (l : ltb n (length cs) ≡ false). subst P (sym (cond-false (ltb n (length cs)) (encoding t) None l)) (past (ltb-false n (length cs) l)))
    (cases_Bool (ltb n (length cs)))

-- nothing is heard where nothing comes up
nothing_heard : (t : Telecommand) → decoded [] ≡ Some t → ⊥
nothing_heard t e = cc

-- what is heard is a command of the file under its number
OfFile : List Command → List ℕ → Type 0
OfFile cs f = (t : Telecommand) → decoded f ≡ Some t → (t.number < length cs) × (t ≡ telecommand_of cs t.number)

heard_of_file : (cs : List Command) (up : Bool) (n : ℕ) → Sendable cs → OfFile cs (cond up (come_up (frame_for cs n)) [])
unfolding OfFile
heard_of_file cs false n s = λ t e. absurd (nothing_heard t e)
heard_of_file cs true n s =
    frame_cases cs n (λ o. OfFile cs (come_up o)) s
    (λ m t e.
    let same : telecommand_of cs n ≡ t = let g : Some (telecommand_of cs n) ≡ Some t = sym (round_trip (telecommand_of cs n) (s n m)) ∙ e in cc in
    subst (λ (u : Telecommand). (u.number < length cs) × (u ≡ telecommand_of cs u.number)) same (m, refl))
    (λ _ t e. absurd (nothing_heard t e))

from_file : (cs : List Command) (line : List Bool) → Sendable cs → FromFile cs (sent_over cs line)
unfolding OfFile
from_file cs [] s = tt
from_file cs (up ∷ line) s = (heard_of_file cs up (after (sent_over cs line)).expected s, from_file cs line s)

-- what comes up is nothing or a whole frame
FrameLong : List ℕ → Type 0
FrameLong f = (length f ≡ 0) ⊎ (length f ≡ 12)

twelve : (n : ℕ) (c : Command) (v : ℕ) → length (set (body (record { number = n; command = c })) 11 v) ≡ 12
twelve n Command.Sleep v = refl
twelve n _ v = refl

frame_long : (cs : List Command) (up : Bool) (n : ℕ) → Sendable cs → FrameLong (cond up (come_up (frame_for cs n)) [])
unfolding FrameLong
frame_long cs false n s = inl refl
frame_long cs true n s =
    frame_cases cs n (λ o. FrameLong (come_up o)) s
    (λ _. let t : Telecommand = telecommand_of cs n in inr (twelve n t.command (check_of (body t))))
    (λ _. inl refl)

no_reading : (k : ℕ) → get_or (replicate 16 0) k 0 ≤ 65535
no_reading k =
    ⊎_elim (λ (l : k < 16). omega (arith, get_or-replicate {A = ℕ} 16 k 0 0 l)) (λ (l : 16 ≤ k). omega (arith, get_or_past {X = ℕ} (replicate 16 0) k 0 l)) (cases_lt k 16)

all_lawful : (cs : List Command) (line : List Bool) → Sendable cs → AllLawful machine (sent_over cs line)
unfolding FrameLong
all_lawful cs [] s = none
all_lawful cs (up ∷ line) s =
    more (relayed up cs (sent_over cs line)) (sent_over cs line) (record { readings = refl; small = no_reading; frame = frame_long cs up (after (sent_over cs line)).expected s }) (all_lawful cs line s)

-- the later ticks of the flight were flown over the later part of the line
parted : (cs : List Command) (line : List Bool) (late rest : List Inputs) → sent_over cs line ≡ late ++ rest →
    (l r : List Bool) × (line ≡ l ++ r) × (rest ≡ sent_over cs r) × (length l ≡ length late)
parted cs line [] rest e = ([], line, refl, sym e, refl)
parted cs [] (i ∷ late) rest e = absurd (let z : ◌≡◌ {A = ℕ} 0 1 = cc in omega arith)
parted cs (up ∷ line) (i ∷ late) rest e =
    let t = parted cs line late rest (ap (drop 1) e) in
    (up ∷ t.0, t.1, ap (λ (l : List Bool). up ∷ l) t.2, t.3, omega (arith, t.4))

-- over a stretch of the line a named frame comes up, or the line is down and nothing moves on
Passed : List Command → List Bool → (stretch early : List Inputs) → Type 0
Passed cs line stretch early = Brings cs stretch early ⊎ ((some_up line ≡ false) × ((after (stretch ++ early)).expected ≡ (after early).expected))

module _ (cs : List Command) (s : Sendable cs) (early : List Inputs) (left : (after early).expected < length cs) where
  named : (i : Inputs) (is : List Inputs) → i ≡ relayed true cs is → (after is).expected ≡ (after early).expected → Names cs i is
  named i is e same =
      frame_cases cs (after is).expected (λ o. o ≡ Some (come_up o)) s (λ _. refl) (λ l. absurd (omega (arith, l, same, left))) ∙ ap (λ (x : Inputs). Some x.frame) (sym e)

  unmoved : (i : Inputs) (is : List Inputs) → i ≡ relayed false cs is → (after is).expected ≡ (after early).expected → (after (i ∷ is)).expected ≡ (after early).expected
  unmoved i is e same = tick_expected (λ n. n ≡ (after early).expected) i is same (λ t h _. absurd (nothing_heard t (ap (λ (x : Inputs). decoded x.frame) (sym e) ∙ h)))

  one_more : (up : Bool) (line : List Bool) (i : Inputs) (is : List Inputs) → i ≡ relayed up cs (is ++ early) → Passed cs line is early → Passed cs (up ∷ line) (i ∷ is) early
  unfolding Passed
  one_more up line i is e (inl b) = inl (before i is early b)
  one_more true line i is e (inr p) = inl (now i is early (named i (is ++ early) e p.1))
  one_more false line i is e (inr p) = inr (p.0, unmoved i (is ++ early) e p.1)

  passed : (line down : List Bool) (stretch : List Inputs) → length line ≡ length stretch → stretch ++ early ≡ sent_over cs (line ++ down) → Passed cs line stretch early
  unfolding Passed
  passed [] down [] l e = inr (refl, refl)
  passed [] down (i ∷ is) l e = absurd (omega (arith, l))
  passed (up ∷ line) down [] l e = absurd (omega (arith, l))
  passed (up ∷ line) down (i ∷ is) l e =
      let rest : is ++ early ≡ sent_over cs (line ++ down) = ap (drop 1) e in
      let first : i ≡ relayed up cs (sent_over cs (line ++ down)) = cc in
      one_more up line i is (first ∙ ap (relayed up cs) (sym rest)) (passed line down is (omega (arith, l)) rest)

  brings : (line : List Bool) (stretch : List Inputs) → some_up line ≡ true → Passed cs line stretch early → Brings cs stretch early
  unfolding Passed
  brings line stretch u (inl b) = b
  brings line stretch u (inr p) = absurd (let z : false ≡ true = sym p.0 ∙ u in cc)

delivers : (d : ℕ) (cs : List Command) (line : List Bool) → Sendable cs → UpIn d line → Delivers d cs (sent_over cs line)
delivers d cs line s u late stretch early e l x =
    let p = parted cs line late (stretch ++ early) e in
    let q = parted cs p.1 stretch early (sym p.3) in
    let whole : line ≡ p.0 ++ (q.0 ++ q.1) = p.2 ∙ ap (λ (y : List Bool). p.0 ++ y) q.2 in
    let flown : stretch ++ early ≡ sent_over cs (q.0 ++ q.1) = p.3 ∙ ap (sent_over cs) q.2 in
    brings cs s early x q.0 stretch (u p.0 q.0 q.1 whole (q.4 ∙ l)) (passed cs s early x q.0 q.1 stretch q.4 flown)

pub delivered_over : DeliveredOver
delivered_over d cs line s u = record { lawful = all_lawful cs line s; from_file = from_file cs line s; delivers = delivers d cs line s u }

-- a line that is always up

AllUp : List Bool → Type 0
AllUp line = All (λ (up : Bool). up ≡ true) line

always : (n : ℕ) → AllUp (replicate n true)
unfolding AllUp
always zero = tt
always (suc n) = (refl, always n)

later_up : (late rest : List Bool) → AllUp (late ++ rest) → AllUp rest
unfolding AllUp
later_up [] rest a = a
later_up (up ∷ late) rest a = later_up late rest a.1

first_up : (d : ℕ) (stretch early : List Bool) → 1 ≤ d → length stretch ≡ d → AllUp (stretch ++ early) → some_up stretch ≡ true
unfolding AllUp
first_up d [] early m l a = absurd (omega (arith, m, l))
first_up d (true ∷ stretch) early m l a = refl
first_up d (false ∷ stretch) early m l a = absurd (let z : false ≡ true = a.0 in cc)

always_up : (d n : ℕ) → 1 ≤ d → UpIn d (replicate n true)
always_up d n m late stretch early e l = first_up d stretch early m l (later_up late (stretch ++ early) (subst AllUp e (always n)))

long : (cs : List Command) (line : List Bool) → length (sent_over cs line) ≡ length line
long cs [] = refl
long cs (up ∷ line) = omega (arith, long cs line)

length-ups : (n : ℕ) → length (replicate n true) ≡ n
length-ups zero = refl
length-ups (suc n) = omega (arith, length-ups n)

pub can_deliver : CanDeliver
can_deliver d cs m s =
    let line : List Bool = replicate (d * length cs) true in
    let is : List Inputs = sent_over cs line in
    let h = delivered_over d cs line s (always_up d (d * length cs) m) in
    let l : length is ≡ d * length cs = long cs line ∙ length-ups (d * length cs) in
    (is, h, l, all_obeyed d cs is s h.from_file h.delivers l)
