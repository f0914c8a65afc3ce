use Rattle.std.proofs.Common.{option_map, refl, ap, sym, ◌∙◌}
use Rattle.syntax_trees.specs.View.{word_of, expression_view, over_of, range_of}
use Rattle.syntax_trees.specs.declared.tree.Source.{Source}
use Rattle.syntax_trees.specs.declared.tree.Range.{Range}
use Rattle.language.specs.Resolved as rules_of
use Rattle.types.specs.Typed.{table_of}
use Rattle.flow.specs.View.{block_view}
use Rattle.lowering.proofs.Loops.{each_found, range_found}
use Rattle.lowering.proofs.Declaring.{each_declared, range_declared}
use Rattle.lowering.proofs.Showing.{each_shown, range_shown, same_loop}
use Rattle.flow.specs.Listed.{block_listed}
use Rattle.flow.proofs.Anchors.{each_anchors, range_loop_anchors}
use Rattle.flow.proofs.Growing.{among_as, among_each, among_equal, among_right, among_self, among_then}
use Rattle.lowering.specs.Nodes.{over_nodes}
use Rattle.lowering.proofs.statement.repeated.Goals as goal

pub returns-in_ok-range-in-Range-clause-core : goal.returns-in_ok-range-in-Range-clause-core
returns-in_ok-range-in-Range-clause-core g c =
    let A = g.row.A.Denot in
    let tb = table_of c.args.typed.now in
    let over = c.in-Range.over.value in
    range_found tb (word_of {A = A} c.args.header.now.value) (option_map (word_of {A = A}) c.args.header.now.key) (over_of {A = A} c.args.header.now.source)
    (expression_view {A = A} over.low) (expression_view {A = A} over.high) (option_map (expression_view {A = A}) over.step) (block_view {A = A} c.args.body.value)
    c.in_ok-range-in-Range.range c.in_ok-value.value c.in_ok-key.key c.args.body
    (ap (over_of {A = A}) c.in-Range.is)
    (c.in_ok-range-in-Range.ensures.low ∙ ap (λ (r : Range A). rules_of.outer tb (expression_view r.low)) c.deref.ensures)
    (c.in_ok-range-in-Range.ensures.high ∙ ap (λ (r : Range A). rules_of.outer tb (expression_view r.high)) c.deref.ensures)
    (c.in_ok-range-in-Range.ensures.step ∙ ap (λ (r : Range A). option_map (rules_of.outer tb) (option_map expression_view r.step)) c.deref.ensures)
    c.in_ok-value.ensures.node c.in_ok-key.ensures.node refl

pub returns-in_ok-range-in-Range-clause-declared : goal.returns-in_ok-range-in-Range-clause-declared
returns-in_ok-range-in-Range-clause-declared g c = range_declared c.in_ok-range-in-Range.range c.in_ok-value.value c.in_ok-key.key c.args.body

pub returns-in-Array-clause-core : goal.returns-in-Array-clause-core
returns-in-Array-clause-core g c =
    let A = g.row.A.Denot in
    let tb = table_of c.args.typed.now in
    each_found tb (word_of {A = A} c.args.header.now.value) (option_map (word_of {A = A}) c.args.header.now.key) (over_of {A = A} c.args.header.now.source)
    (word_of {A = A} c.in-Array.name) (block_view {A = A} c.args.body.value) c.refer.result c.in_ok-value.value c.in_ok-key.key c.args.body
    (ap (over_of {A = A}) c.in-Array.is) c.refer.ensures.name c.in_ok-value.ensures.node c.in_ok-key.ensures.node refl

pub returns-in-Array-clause-declared : goal.returns-in-Array-clause-declared
returns-in-Array-clause-declared g c = each_declared c.refer.result c.in_ok-value.value c.in_ok-key.key c.args.body

pub returns-in_ok-range-in-Range-clause-listed : goal.returns-in_ok-range-in-Range-clause-listed
returns-in_ok-range-in-Range-clause-listed g c =
    range_shown c.in_ok-range-in-Range.range c.in_ok-value.value c.in_ok-key.key c.args.body
    ∙ same_loop _ _ _ _ (block_listed c.args.body.value) c.in_ok-value.ensures.variable c.in_ok-key.ensures.variable

pub returns-in-Array-clause-listed : goal.returns-in-Array-clause-listed
returns-in-Array-clause-listed g c =
    each_shown c.refer.result c.in_ok-value.value c.in_ok-key.key c.args.body
    ∙ same_loop _ _ _ _ (block_listed c.args.body.value) c.in_ok-value.ensures.variable c.in_ok-key.ensures.variable

pub returns-in_ok-range-in-Range-clause-cells : goal.returns-in_ok-range-in-Range-clause-cells
returns-in_ok-range-in-Range-clause-cells g c =
    let A = g.row.A.Denot in
    among_as (range_loop_anchors c.in_ok-range-in-Range.range c.in_ok-value.value c.in_ok-key.key c.args.body)
    (among_each _ _ _ _
    (among_then c.in_ok-range-in-Range.ensures.cells (among_equal (ap (λ (r : Range A). over_nodes (range_of r)) c.deref.ensures ∙ sym (ap (λ (s : Source A). over_nodes (over_of s)) c.in-Range.is))))
    (among_self _))

pub returns-in-Array-clause-cells : goal.returns-in-Array-clause-cells
returns-in-Array-clause-cells g c = among_as (each_anchors c.refer.result c.in_ok-value.value c.in_ok-key.key c.args.body) (among_right _ _)
