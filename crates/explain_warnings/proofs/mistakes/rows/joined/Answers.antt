use Rattle.std.proofs.Common.{ap, sym, ◌∙◌}
use Rattle.std.specs.Prelude.{Bool, ◌||◌, ◌&&◌}
use Rattle.explain_warnings.specs.Ways.{bit_is_set}
use Rattle.explain_warnings.proofs.Bits.{bits_joined}
use Rattle.explain_warnings.proofs.mistakes.rows.joined.Goals as goal

pub returns-then-has_bit : goal.returns-then-has_bit
returns-then-has_bit c k =
    bits_joined c.args.row c.args.other k
    ∙ ap (λ (b : Bool). bit_is_set c.args.row k || (b && bit_is_set c.args.other k)) (sym c.if-has_bit.true ∙ c.has_bit.ensures)
