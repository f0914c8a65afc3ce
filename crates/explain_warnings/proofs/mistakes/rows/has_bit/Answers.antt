use Rattle.std.proofs.Common.{◌∙◌}
use Rattle.std.proofs.lemmas.Bool.{le-ltb}
use Rattle.explain_warnings.proofs.Bits.{no_bit}
use Rattle.explain_warnings.proofs.mistakes.rows.has_bit.Goals as goal

pub returns-else-place-lt64 : goal.returns-else-place-lt64
returns-else-place-lt64 c = le-ltb c.args.place 64 c.if-place-lt64.false ∙ no_bit c.args.row c.args.place c.ranges.row.fits c.if-place-lt64.false
