use Rattle.std.proofs.Common.{rules, ◌≡◌, ◌∷◌, [], ℕ, true, ap, ◌∙◌, subst}
use Rattle.std.specs.Prelude.{nat_eq, List}
use Rattle.std.specs.List.{list_any}
use Rattle.std.specs.HashSet.{contains}
use Rattle.meaning_round.proofs.Called.{all_waking, next_waking, none_left, AreWaking}
use Rattle.meaning_round.proofs.worklist.wake_all.Goals as goal

pub loop-number-init : goal.loop-number-init
loop-number-init c =
    let keys : c.into_iter-number-iterator.result ≡ c.args.numbers.now.keys = search rules in
    let listed : (k : ℕ) → contains nat_eq c.args.numbers.now k ≡ true → list_any (nat_eq k) c.into_iter-number-iterator.result ≡ true =
    λ k e. ap (λ (xs : List ℕ). list_any (nat_eq k) xs) keys ∙ e in
    all_waking c.args.numbers.now c.into_iter-number-iterator.result c.args.asleep.now c.args.awake.now.items listed

pub loop-number-preserved : goal.loop-number-preserved
loop-number-preserved c =
    let split : c.loop-number.number-iterator ≡ c.in-Some.number.now ∷ c.next.new.self = search rules in
    next_waking c.args.numbers.now c.in-Some.number.now c.next.new.self c.args.asleep.now c.loop-number.asleep c.wake_one.new.asleep c.args.awake.now.items c.loop-number.awake.items c.wake_one.new.awake.items
    c.in_ok-wake_one.ensures.fewer c.in_ok-wake_one.ensures.woken c.in_ok-wake_one.ensures.still
    (subst (λ (z : List ℕ). AreWaking c.args.numbers.now z c.args.asleep.now c.loop-number.asleep c.args.awake.now.items c.loop-number.awake.items) split c.loop-number.invariant)

pub returns : goal.returns
returns c =
    let none : c.loop-number.number-iterator ≡ [] = search rules in
    record {
      fewer = c.loop-number.invariant.fewer;
      others = none_left c.args.numbers.now c.loop-number.number-iterator c.args.asleep.now c.loop-number.asleep c.args.awake.now.items c.loop-number.awake.items none c.loop-number.invariant;
      woken = c.loop-number.invariant.woken;
      still = c.loop-number.invariant.still;
    }
