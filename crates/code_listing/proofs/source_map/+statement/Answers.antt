use Rattle.std.proofs.Common.{rules, arith, ◌≡◌, ◌<◌, [], List, length, get_or, drop, map}
use Rattle.std.proofs.lemmas.Grind.{common_steps}
use Rattle.flow.specs.declared.statement.Statement.{Statement}
use Rattle.code_listing.specs.Blocks.{blocks_among, in_statement, names_among}
use Rattle.code_listing.proofs.Finding.{choose_gained, statements_end, statements_step}
use Rattle.code_listing.proofs.source_map.+statement.Goals as goal

pub find_action-returns-in-Choose : goal.find_action-returns-in-Choose
find_action-returns-in-Choose g t c =
    let A = g.row.A.Denot in
    let x : c.deref-in-Choose.result.now ≡ c.in-Choose.then.value = search rules in
    let y : c.deref-in-Choose-2.result.now ≡ c.in-Choose.other.value = search rules in
    let z : c.deref-in-Choose-3.result.now ≡ c.in-Choose.then.value = search rules in
    let w : c.deref-in-Choose-4.result.now ≡ c.in-Choose.other.value = search rules in
    choose_gained {A = A} c.args.found.now c.find_block.new.found c.find_block-in-Choose.new.found c.add_inner.new.self c.add_inner-in-Choose.new.self c.args.function c.args.action.now c.in-Choose.condition c.in-Choose.then c.in-Choose.other
    c.deref-in-Choose.result.now c.deref-in-Choose-2.result.now c.deref-in-Choose-3.result.now c.deref-in-Choose-4.result.now c.in-Choose.is x y z w c.find_block.ensures c.find_block-in-Choose.ensures c.add_inner.ensures c.add_inner-in-Choose.ensures

pub find_statements-loop-one-preserved : goal.find_statements-loop-one-preserved
find_statements-loop-one-preserved g t c =
    let A = g.row.A.Denot in
    let ss : List (Statement A) = c.args.statements.now.items in
    let all = map (in_statement {A = A}) ss in
    let within : c.loop-one.one-index < length ss = grind (arith, common_steps) in
    let item : get_or ss c.loop-one.one-index c.one-item.result ≡ c.one-item.result = search rules in
    statements_step A c.args.found.now c.loop-one.found c.find_statement.new.found c.args.function (blocks_among all c.args.function) (names_among all) ss c.loop-one.one-index c.one-item.result within item c.loop-one.invariant c.find_statement.ensures

pub find_statements-returns : goal.find_statements-returns
find_statements-returns g t c =
    let A = g.row.A.Denot in
    let ss : List (Statement A) = c.args.statements.now.items in
    let all = map (in_statement {A = A}) ss in
    let behind : drop c.loop-one.one-index ss ≡ [] = grind (arith, common_steps) in
    statements_end A c.args.found.now c.loop-one.found c.args.function (blocks_among all c.args.function) (names_among all) (drop c.loop-one.one-index ss) behind c.loop-one.invariant
