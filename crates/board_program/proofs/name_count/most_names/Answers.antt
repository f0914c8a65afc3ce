use Rattle.std.proofs.Common.{◌≤◌, length, arith}
use Rattle.task_code.specs.Code.{entry as entry_at}
use Rattle.board_program.proofs.Most.{all_looked, one_wider, reads_past, writes_past}
use Rattle.board_program.proofs.name_count.most_names.Goals as goal

pub loop-number-init : goal.loop-number-init
loop-number-init c = (λ i l. absurd (omega (arith, l)), λ i l. absurd (omega (arith, l)))

pub loop-number-preserved : goal.loop-number-preserved
loop-number-preserved c = (
  one_wider (λ i. length (entry_at c.args.code.now i).reads) c.loop-number.number c.loop-number.most c.loop-number.invariant.0 c.max_count-most.result c.max_count-most.ensures.most (let a = c.names_of.ensures.reads in let b = c.max_count-most.ensures.more in omega (arith, a, b)),
  one_wider (λ i. length (entry_at c.args.code.now i).writes) c.loop-number.number c.loop-number.most c.loop-number.invariant.1 c.max_count-most.result c.max_count-most.ensures.most (let a = c.names_of.ensures.writes in let b = c.max_count-most.ensures.more in omega (arith, a, b)),
)

pub returns : goal.returns
returns c =
    let few : length c.args.code.now.entries ≤ c.loop-number.number = let n = c.entry_count-number-end.ensures.count in let s = c.entry_count-number-end.ensures.few in let f = c.loop-number-test.false in omega (arith, n, f, s) in
    record {
      reads = all_looked (λ i. length (entry_at c.args.code.now i).reads) c.loop-number.number c.loop-number.most c.loop-number.invariant.0 (λ i l. reads_past c.args.code.now i c.loop-number.most (omega (arith, few, l)));
      writes = all_looked (λ i. length (entry_at c.args.code.now i).writes) c.loop-number.number c.loop-number.most c.loop-number.invariant.1 (λ i l. writes_past c.args.code.now i c.loop-number.most (omega (arith, few, l)));
    }
