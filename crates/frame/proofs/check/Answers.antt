use Rattle.std.proofs.Common.{◌≡◌, ℕ, ◌+◌, ◌*◌, ◌<◌, ◌≤◌, true, List, length, get_or, take, ap, arith}
use Rattle.std.proofs.lemmas.List.{get_or-take, length-take-le}
use Rattle.frame.specs.Frame.{all_small, weighed}
use Rattle.frame.proofs.Smallness.{each_small}
use Rattle.frame.proofs.Weights.{weighed_none, weighed_more, product, check_is}
use Rattle.frame.proofs.check.Goals as goal

pub loop-i-init : goal.loop-i-init
loop-i-init c = (weighed_none c.args.frame.now, omega arith)

-- a number of the frame, weighed, as the loop lends it
weight : (f : List ℕ) (i : ℕ) → length f ≡ 12 → i < 11 → all_small f ≡ true → ((i + 1) * get_or (take 11 f) i 0 ≡ (i + 1) * get_or f i 0) × ((i + 1) * get_or f i 0 ≤ 47244640245)
weight f i e lt s = (ap (λ x. (i + 1) * x) (get_or-take 11 f i 0 lt), product i (get_or f i 0) lt (each_small f s i (omega arith)))

pub overflow_add-sum-in-loop-i : goal.overflow_add-sum-in-loop-i
overflow_add-sum-in-loop-i c =
    let w = weight c.args.frame.now c.loop-i.i c.told-frame (let l = length-take-le 11 c.args.frame.now (omega arith) in omega arith) c.requires in omega arith

pub loop-i-preserved : goal.loop-i-preserved
loop-i-preserved c =
    let w = weight c.args.frame.now c.loop-i.i c.told-frame (let l = length-take-le 11 c.args.frame.now (omega arith) in omega arith) c.requires in
    (omega (arith, weighed_more c.loop-i.i c.args.frame.now), omega arith)

pub returns : goal.returns
returns c = let e : c.loop-i.sum ≡ weighed 11 c.args.frame.now = (let e : c.loop-i.i ≡ 11 = (let l = length-take-le 11 c.args.frame.now (omega arith) in omega arith) in rw e at c.loop-i.invariant.0) in check_is c.args.frame.now c.loop-i.sum e
