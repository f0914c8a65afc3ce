use Rattle.std.proofs.Common.{◌≡◌, ◌+◌, length, arith, ap, ◌∙◌}
use Rattle.std.proofs.lemmas.Grind.{common_steps}
use Rattle.explain_warnings.specs.Ways.{in_rows, leads}
use Rattle.explain_warnings.proofs.Bits.{led_more}
use Rattle.explain_warnings.proofs.mistakes.rows.close.Goals as goal

pub loop-place-preserved : goal.loop-place-preserved
loop-place-preserved c = record {
  led = led_more (in_rows c.args.rows.now.items) c.loop-place.rows.items c.pass.new.rows.items c.loop-place.place (c.loop-place.place + 1)
      c.loop-place.invariant.led c.pass.ensures.joins (omega arith);
  as_many = c.pass.ensures.as_many ∙ c.loop-place.invariant.as_many;
}

pub returns : goal.returns
returns c =
    let all : c.loop-place.place ≡ length c.args.rows.now.items = grind (arith, common_steps) in
    record {
      led = c.loop-place.invariant.led ∙ ap (leads (in_rows c.args.rows.now.items)) all;
      as_many = c.loop-place.invariant.as_many;
    }
