use Rattle.std.proofs.Common.{◌≡◌, ◌≤◌, ℕ, ◌+◌, ◌*◌, Bool, true, false, List, [], ◌∷◌, ◌++◌, length, take, drop, sym, refl, ap, ◌∙◌, arith, rules}
use mir.Val.{bool_byte}
use Rattle.std.specs.List.{flat_map}
use Rattle.std.proofs.lemmas.List.{length-map}
use Rattle.schedule.specs.declared.activity.Activity.{Activity}
use Rattle.schedule.specs.Waiting.{waiting}
use Rattle.rules.specs.Watching.{off}
use Rattle.rules.specs.declared.rule.Monitor.{Monitor}
use Rattle.rules.specs.Monitors.{rule_of, count_of, counts_of}
use Rattle.satellite.specs.Model.{model}
use Rattle.rules.specs.Numbers.{bit}
use Rattle.layout.specs.Map.{Sized, activity_words, activity_size, waiting_at, activities_at, counts_at, word_count}
use Rattle.layout.proofs.Parts.{made_of}
use Rattle.layout.proofs.Places.{length_words}
use Rattle.layout.proofs.Writing.{none, next, all, over_noughts}
use Rattle.layout.proofs.write.write_words.Goals as goal

as_bit : (b : Bool) → bool_byte b ≡ bit b
as_bit true = refl
as_bit false = refl

pub returns : goal.returns
returns c =
    let s = c.args.satellite.now in
    let unset : Monitor = record { rule = off; count = 0 } in
    let few : length (waiting s.schedule) ≤ 32 = (let f = c.waiting.ensures.few in let e = ap length c.waiting.ensures.all in omega arith) in
    let sixteen : length s.rules.monitors ≡ 16 = c.lay_rules.ensures.long in
    let counts : c.from_fn-counts.result ≡ counts_of s.rules =
    made_of _ count_of _ c.from_fn-counts.result unset 0 s.rules.monitors 16 sixteen (λ k y q e. search rules) c.from_fn-counts.ensures.items in
    let z : Sized (model s) = record { parameters = c.lay-2.ensures.long; schedule = few; rules = length-map s.rules.monitors rule_of ∙ sixteen; counts = ap length (sym counts) ∙ c.lay-5.ensures.long } in
    let l₁ = next (model s) z 0 (omega arith) (omega arith) _ _ (none (model s) z c.args.words.now (omega arith))
    (c.lay.ensures.laid ∙ ap (λ m. take 0 c.args.words.now ++ ((s.time ∷ (s.expected ∷ (m ∷ (s.rejected ∷ (s.missed ∷ []))))) ++ drop 5 c.args.words.now)) (c.from.ensures ∙ as_bit s.safe_mode)) in
    let l₂ = next (model s) z 1 (omega arith) (omega arith) _ _ l₁ c.lay-2.ensures.laid in
    let l₃ = next (model s) z 2 (omega arith) (omega arith) _ _ l₂ (c.lay-3.ensures.laid ∙ ap (λ k. take waiting_at c.lay-2.new.words ++ ((k ∷ []) ++ drop activities_at c.lay-2.new.words)) c.len.ensures) in
    let l₄ = next (model s) z 3 (omega arith) (omega arith) _ _ l₃
    (over_noughts (activity_size * length (waiting s.schedule)) (flat_map activity_words (waiting s.schedule)) _ _ _ (omega arith) (l₃.long ∙ length_words (model s) z) c.lay-4.ensures.laid
    (c.lay_activities.ensures ∙ ap (λ (x : List Activity). take activities_at c.lay-4.new.words ++ (flat_map activity_words x ++ drop (activities_at + activity_size * length x) c.lay-4.new.words)) c.waiting.ensures.all)) in
    let l₅ = next (model s) z 4 (omega arith) (omega arith) _ _ l₄ c.lay_rules.ensures.laid in
    let l₆ = next (model s) z 5 (omega arith) (omega arith) _ _ l₅ (c.lay-5.ensures.laid ∙ ap (λ (x : List ℕ). take counts_at c.lay_rules.new.words ++ (x ++ drop word_count c.lay_rules.new.words)) counts) in
    all (model s) z _ l₆
