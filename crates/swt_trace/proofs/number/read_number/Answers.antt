use Rattle.std.proofs.Common.{rules, ◌≡◌, ◌^◌, ◌<◌, ◌++◌, ◌∷◌, ℕ, List, decimal}
use Rattle.swt_trace.proofs.Numbers.{no_end, number_before}
use Rattle.swt_trace.proofs.number.read_number.Goals as goal

pub returns-in_err-place-clause-none : goal.returns-in_err-place-clause-none
returns-in_err-place-clause-none c =
    let none : (n : ℕ) (rest : List ℕ) → n < 2 ^ 64 → c.args.bytes.now ≡ decimal n ++ c.args.end ∷ rest → ⊥ = no_end c.args.bytes.now c.args.end c.in_err-place.ensures.none in
    search (rules, none)

pub returns-in_err-n-clause-none : goal.returns-in_err-n-clause-none
returns-in_err-n-clause-none c =
    let none : (n : ℕ) (rest : List ℕ) → n < 2 ^ 64 → c.args.bytes.now ≡ decimal n ++ c.args.end ∷ rest → ⊥ =
    λ n rest small e. c.in_err-n.ensures.none n small (number_before c.args.bytes.now c.args.end c.in_ok-place.place n rest c.requires c.in_ok-place.ensures.found c.in_ok-place.ensures.first small e) in
    search (rules, none)
