use Rattle.std.proofs.Common.{◌≡◌, ◌-◌, ◌<◌, ◌++◌, ◌∷◌, [], Bool, suc, length, map, refl, ap, sym, ◌∙◌, arith}
use Rattle.std.specs.Prelude.{not}
use Rattle.std.proofs.lemmas.Grind.{common_steps}
use Rattle.std.proofs.lemmas.Result.{err_from_is_err_and}
use Rattle.syntax_trees.specs.View.{part_of}
use Rattle.language.specs.Rules.{Place}
use Rattle.syntax.specs.Readers.{at_end}
use Rattle.syntax.specs.Reading.{read_part, read_script}
use Rattle.syntax.proofs.expressions.Forms.{many_stop, many_more, many_fails, fails_on}
use Rattle.syntax.proofs.scripts.Parts.{part_within, part_pushed, part_counted}
use Rattle.syntax.proofs.statements.Commands.{script_begin}
use Rattle.syntax.proofs.grammar.script.script.Goals as goal

pub loop-cursor-init : goal.loop-cursor-init
loop-cursor-init g c = (
  suc (length c.args.cursor.now.rest),
  [],
  omega arith,
  script_begin c.args.depth c.args.cursor.now [] refl,
  ap (map (part_of {A = g.row.A.Denot})) c.new-items.ensures.items,
  omega arith,
  omega arith,
)

pub part-next-requires : goal.part-next-requires
part-next-requires g c =
    let inv = c.loop-cursor.invariant in
    let counts = inv.6 in
    let room = c.requires in
    let fits = part_within c.args.depth c.loop-cursor.cursor (part_of c.in_ok-item.item) c.part.new.cursor c.in_ok-item.ensures.reads in
    omega arith

pub loop-cursor-preserved : goal.loop-cursor-preserved
loop-cursor-preserved g c =
    let inv = c.loop-cursor.invariant in
    let left = inv.2 in
    let counts = inv.6 in
    let short = c.in_ok-item.ensures.shorter in
    let some : 0 < inv.0 = omega arith in
    let test : Place → Bool = λ s. not (at_end s) in
    let p = part_of c.in_ok-item.item in
    let fits = part_within c.args.depth c.loop-cursor.cursor p c.part.new.cursor c.in_ok-item.ensures.reads in
    let next = c.part-next.ensures.next in
    let more : map (part_of {A = g.row.A.Denot}) c.push.new.self.items ≡ map (part_of {A = g.row.A.Denot}) c.loop-cursor.items.items ++ part_of c.part-next.new.item ∷ [] = grind (arith, common_steps) in (
      inv.0 - 1,
      inv.1 ++ p ∷ [],
      omega arith,
      inv.3 ∙ many_more test (read_part c.args.depth) inv.0 inv.1 c.loop-cursor.cursor p c.part.new.cursor some
          (ap not (sym c.is_empty.ensures ∙ c.loop-cursor-test.true)) c.in_ok-item.ensures.reads,
      part_pushed part_of inv.1 p c.loop-cursor.items.items c.push.new.self.items c.part-next.new.item c.loop-cursor.next inv.4 inv.5 more c.part-next.ensures.numbered,
      next ∙ part_counted inv.1 p c.loop-cursor.next inv.5,
      omega arith,
    )

pub returns-in_err-item : goal.returns-in_err-item
returns-in_err-item g c =
    let inv = c.loop-cursor.invariant in
    let left = inv.2 in
    let some : 0 < inv.0 = omega arith in
    let fails = fails_on c.in_err-item.field-0.0 (read_part c.args.depth c.loop-cursor.cursor) (read_script c.args.depth c.args.cursor.now)
    (λ stop none. inv.3 ∙ many_fails (λ s. not (at_end s)) (read_part c.args.depth) inv.0 inv.1 c.loop-cursor.cursor stop some
    (ap not (sym c.is_empty.ensures ∙ c.loop-cursor-test.true)) none) c.in_err-item.ensures.reads in
    let p = err_from_is_err_and c.from_residual-in_err-item.result c.from_residual-in_err-item.ensures.1 in
    rw (p.1, p.2) fails

pub returns : goal.returns
returns g c =
    let inv = c.loop-cursor.invariant in
    let left = inv.2 in
    let some : 0 < inv.0 = omega arith in (
      inv.1,
      inv.3 ∙ many_stop (λ s. not (at_end s)) (read_part c.args.depth) inv.0 inv.1 c.loop-cursor.cursor some
          (ap not (sym c.is_empty.ensures ∙ c.loop-cursor-test.false)),
      inv.4,
    )
