use Rattle.std.proofs.Common.{◌≡◌, arith, ◌<◌}
use Rattle.std.specs.Prelude.{pos, ◌+ℤ◌}
use Rattle.std.proofs.lemmas.Int.{ints}
use Rattle.values.proofs.Ranges.{both_ends}
use Rattle.values.proofs.range.IntRange.new.Goals as goal

pub returns-clause-both_ends : goal.returns-clause-both_ends
returns-clause-both_ends c =
    let step : c.args.step ≡ pos c.unsigned_abs.result = grind (arith, ints) in
    let some : 0 < c.unsigned_abs.result = grind (arith, ints) in
    let apart : c.args.high ≡ c.args.low +ℤ pos c.abs_diff.result = grind (arith, ints) in
    both_ends c.args.low c.args.high c.args.step c.abs_diff.result c.unsigned_abs.result step some apart
