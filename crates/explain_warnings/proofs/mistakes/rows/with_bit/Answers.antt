use Rattle.std.proofs.Common.{ap, sym, ◌∙◌, nat_eq}
use Rattle.std.specs.Prelude.{Bool, ◌||◌, ◌&&◌}
use Rattle.explain_warnings.specs.Ways.{bit_is_set}
use Rattle.explain_warnings.proofs.Bits.{bit_added}
use Rattle.explain_warnings.proofs.mistakes.rows.with_bit.Goals as goal

pub returns-then-holds : goal.returns-then-holds
returns-then-holds c k =
    bit_added c.args.row c.args.place c.requires k
    ∙ ap (λ (b : Bool). (b && nat_eq k c.args.place) || bit_is_set c.args.row k) (sym c.if-holds.true)

pub returns-else-holds : goal.returns-else-holds
returns-else-holds c k = ap (λ (b : Bool). (b && nat_eq k c.args.place) || bit_is_set c.args.row k) (sym c.if-holds.false)
