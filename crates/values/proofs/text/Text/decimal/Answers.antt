use Rattle.std.proofs.Common.{◌∙◌, ap, w64}
use Rattle.std.proofs.lemmas.Int.{to_z-of_z}
use Rattle.std.specs.Fmt.{signed_decimal}
use Rattle.values.proofs.Decimals.{read_back, fits_signed}
use Rattle.values.proofs.text.Text.decimal.Goals as goal

pub returns-clause-reads_back : goal.returns-clause-reads_back
returns-clause-reads_back c =
    read_back c.from_slice.result c.args.n c.as_bytes.result.now (fits_signed c.args.n c.ranges.n)
    (c.as_bytes.ensures.value ∙ c.format.ensures.text ∙ ap signed_decimal (to_z-of_z w64 c.args.n c.ranges.n))
    c.from_slice.ensures
