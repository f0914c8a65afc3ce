use Rattle.std.proofs.Common.{[], ◌∷◌, Option, option_map, ap, sym, ◌∙◌}
use Rattle.std.proofs.lemmas.Result.{on_ok_weaker}
use Rattle.language.specs.Core as core
use Rattle.syntax_trees.specs.View.{declaration_of, right_of}
use Rattle.types.specs.Typed.{table_of}
use Rattle.flow.specs.declared.statement.Action.{Declare}
use Rattle.flow.specs.View.{action_view, name_view, statements_view}
use Rattle.lowering.proofs.Loops.{view_declare}
use Rattle.flow.specs.Listed.{action_listed, declares, other}
use Rattle.syntax_trees.specs.declared.tree.Right.{Right}
use Rattle.flow.proofs.Anchors.{declare_anchors}
use Rattle.flow.proofs.Growing.{among_as, among_equal, among_none, among_then, grows_again, grows_among}
use Rattle.lowering.specs.Nodes.{maybe_nodes, right_nodes}
use Rattle.lowering.specs.Listed.{listed_by}
use Rattle.lowering.specs.View.{Declared}
use Rattle.lowering.proofs.Showing.{declare_shown, declares_alone, declares_both}
use Rattle.lowering.proofs.Statements.{declared_with}
use Rattle.lowering.proofs.statement.declaration.Goals as goal

pub returns-in_ok-action-in-Some-clause-core : goal.returns-in_ok-action-in-Some-clause-core
returns-in_ok-action-in-Some-clause-core g c =
    let A = g.row.A.Denot in
    let tb = table_of c.args.typed.now in
    on_ok_weaker c.add-in-Some.result
    (λ adds. λ to. declared_with tb (record { number = c.args.number; first = c.args.first; to = to }) (declaration_of {A = A} c.args.decl.now) (right_of {A = A} c.in-Some.right)
    (option_map (right_of {A = A}) c.args.right.now) (statements_view c.args.found.now.items) (statements_view c.add.new.found.items) (statements_view c.add-in-Some.new.found.items)
    (action_view (Declare c.in_ok-variable.variable)) (action_view c.in_ok-action-in-Some.action) (name_view c.own_name.result) c.own_name.result.shape
    (ap (option_map (right_of {A = A})) c.in-Some.is) c.in_ok-add.ensures.core (view_declare c.in_ok-variable.variable ∙ ap core.declare c.in_ok-variable.ensures.node)
    adds c.in_ok-action-in-Some.ensures.core c.own_name.ensures.name c.own_name.ensures.shape)
    c.add-in-Some.ensures.core

pub returns-in-None-clause-listed : goal.returns-in-None-clause-listed
returns-in-None-clause-listed g c =
    let A = g.row.A.Denot in
    declares_alone (declaration_of {A = A} c.args.decl.now) (option_map (right_of {A = A}) c.args.right.now) (listed_by c.args.found.now.items) (listed_by c.add.new.found.items)
    (action_listed (Declare c.in_ok-variable.variable)) (ap (option_map (right_of {A = A})) c.in-None.is) c.in_ok-add.ensures.listed
    (declare_shown c.in_ok-variable.variable ∙ ap (λ (d : Declared). other (declares d ∷ [])) c.in_ok-variable.ensures.variable)

pub returns-in_ok-action-in-Some-clause-listed : goal.returns-in_ok-action-in-Some-clause-listed
returns-in_ok-action-in-Some-clause-listed g c =
    let A = g.row.A.Denot in
    on_ok_weaker c.add-in-Some.result
    (λ adds. declares_both (declaration_of {A = A} c.args.decl.now) (right_of {A = A} c.in-Some.right) (option_map (right_of {A = A}) c.args.right.now)
    (listed_by c.args.found.now.items) (listed_by c.add.new.found.items) (listed_by c.add-in-Some.new.found.items)
    (action_listed (Declare c.in_ok-variable.variable)) (action_listed c.in_ok-action-in-Some.action)
    (ap (option_map (right_of {A = A})) c.in-Some.is) c.in_ok-add.ensures.listed
    (declare_shown c.in_ok-variable.variable ∙ ap (λ (d : Declared). other (declares d ∷ [])) c.in_ok-variable.ensures.variable) adds c.in_ok-action-in-Some.ensures.listed)
    c.add-in-Some.ensures.listed

pub returns-in-None-clause-cells : goal.returns-in-None-clause-cells
returns-in-None-clause-cells g c = grows_among c.in_ok-add.ensures.cells (among_as (declare_anchors c.in_ok-variable.variable) (among_none _))

pub returns-in_ok-action-in-Some-clause-cells : goal.returns-in_ok-action-in-Some-clause-cells
returns-in_ok-action-in-Some-clause-cells g c =
    let A = g.row.A.Denot in
    on_ok_weaker c.add-in-Some.result
    (λ adds. grows_again (grows_among c.in_ok-add.ensures.cells (among_as (declare_anchors c.in_ok-variable.variable) (among_none _)))
    (grows_among adds (among_then c.in_ok-action-in-Some.ensures.cells (among_equal (sym (ap (λ (o : Option (Right A)). maybe_nodes right_nodes (option_map right_of o)) c.in-Some.is))))))
    c.add-in-Some.ensures.cells
