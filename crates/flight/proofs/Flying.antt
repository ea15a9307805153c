-- Every flight of every machine over every keeper that mends, and then the satellite's.
use Rattle.std.proofs.Common.{◌≡◌, ℕ, List, [], ◌∷◌, sym, ap, ◌∙◌, subst}
use Rattle.memory.specs.Keeper.{Keeper, Mends, Keeps}
use Rattle.memory.proofs.Mending.{keeps_words}
use Rattle.layout.specs.Map.{word_count, words_of, state_of, LeftFor}
use Rattle.layout.proofs.Places.{length_words}
use Rattle.layout.proofs.Tidiness.{tidy_right}
use Rattle.satellite.specs.State.{at_launch}
use Rattle.satellite.specs.Story.{Inputs}
use Rattle.satellite.specs.Story as satellite
use Rattle.flight.specs.Machine.{Machine, story, AllLawful, none, more, Returns, Flown, launched, ticked, Left, AlwaysFlies}
use Rattle.flight.specs.Flight.{keeper, machine, after, Flew, FliesRight, CarriesOn}
use Rattle.flight.proofs.Sound.{after_sized}

pub all_lawful : {Memory : Type 0} (K : Keeper Memory) (M : Machine) (is : List M.Input) (kept : Memory) → Flown K M is kept → AllLawful M is
all_lawful K M is kept (launched words left left_for holds) = none
all_lawful K M is kept (ticked i js m found words left flown upset lawful left_for holds) = more i js lawful (all_lawful K M js m flown)

left_story : {Memory : Type 0} (K : Keeper Memory) (M : Machine) → Mends K → Returns M → (is : List M.Input) (kept : Memory) → Flown K M is kept → Left K M kept (story M is)
left_story K M mends returns is kept (launched words left left_for holds) = record { words = words; left_for = left_for; holds = holds }
left_story K M mends returns is kept (ticked i js m found words left flown upset lawful left_for holds) =
    let before = left_story K M mends returns js m flown in
    let state : M.state (K.read found) ≡ story M js = ap M.state (mends m found before.words before.holds upset) ∙ returns before.words (story M js) before.left_for in
    record { words = words; left_for = subst (λ s. M.LeftFor words (M.step i s)) state left_for; holds = holds }

pub always_flies : AlwaysFlies
always_flies Memory K M mends returns = record {
  reads = λ is kept found flown upset.
      let left = left_story K M mends returns is kept flown in
      ap M.state (mends kept found left.words left.holds upset) ∙ returns left.words (story M is) left.left_for;
  holds = left_story K M mends returns;
}

-- the laws of the satellite's keeper
pub keeps : Keeps word_count keeper
keeps = keeps_words word_count

pub flies_right : FliesRight
flies_right = always_flies (List ℕ) keeper machine keeps.mends (λ words s left_for. left_for.says)

-- what is stored for a state that has its room in memory
pub stored : (is : List Inputs) → AllLawful machine is → Left keeper machine (keeper.stored (words_of (after is))) (after is)
stored is lawful =
    let sized = after_sized is lawful in
    record { words = words_of (after is); left_for = tidy_right.written (after is) sized; holds = keeps.stores (words_of (after is)) (length_words (after is) sized) }

pub launch_flies : Flew [] (keeper.stored (words_of at_launch))
launch_flies = let s = stored [] none in launched s.words (keeper.stored (words_of at_launch)) s.left_for s.holds

pub carries_on : CarriesOn
carries_on i is kept found flown upset lawful =
    let t : satellite.ticked i (state_of (keeper.read found)) ≡ after (i ∷ is) = ap (satellite.ticked i) (flies_right.reads is kept found flown upset) in
    let s = stored (i ∷ is) (more i is lawful (all_lawful keeper machine is kept flown)) in
    (t, ticked i is kept found s.words (keeper.stored (words_of (after (i ∷ is)))) flown upset lawful (subst (LeftFor s.words) (sym t) s.left_for) s.holds)
