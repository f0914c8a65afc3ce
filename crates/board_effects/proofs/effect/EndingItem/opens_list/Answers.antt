use Rattle.std.proofs.Common.{refl, subst}
use Rattle.std.specs.List.{AllZip}
use Rattle.board_effects.specs.Ended.{code_of, needs_of}
use Rattle.board_data.specs.Openings.{IsSpare}
use Rattle.board_effects.proofs.effect.EndingItem.opens_list.Goals as goal

pub returns : goal.returns
returns c = record {
  openings = _;
  is = refl;
  body_is = refl;
  list_is = refl;
  value_is = refl;
  turn_is = refl;
  goes_is = refl;
  spare = subst (λ l. AllZip IsSpare (needs_of (code_of c.args.self) l) c.in_ok-spare.spare.items) c.as_slice.ensures.value c.in_ok-spare.ensures;
}
