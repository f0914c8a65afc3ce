-- What statements of a flow declare, one after another.
use Rattle.std.proofs.Common.{rules, ◌≡◌, List, [], ◌∷◌, ◌++◌, map, Option, refl, sym, ap, ◌∙◌, append_assoc}
use Rattle.std.specs.Prelude.{Box}
use Rattle.std.proofs.lemmas.List.{map-append, append-nil}
use Rattle.language.specs.Scopes.{signatures}
use Rattle.language.specs.Tree.{Declaration, Statement, Tree, Part, import, function, single}
use Rattle.language_accepted.specs.Types.{statement_declarations, body_declarations}
use Rattle.flow.specs.declared.statement.Statement.{Statement as Found}
use Rattle.flow.specs.declared.statement.Block.{Block}
use Rattle.flow.specs.declared.statement.Range.{Range}
use Rattle.flow.specs.declared.statement.Variable.{Variable}
use Rattle.flow.specs.declared.name.Name.{Name}
use Rattle.flow.specs.declared.statement.Action.{Each, Range as RangeOf, the_lemmas}
use Rattle.flow.specs.declared.script.Function.{Function}
use Rattle.flow.specs.Shapes.{is_array, functions_declared}
use Rattle.language.specs.Scopes.{declared_type}
use Rattle.lowering.specs.View as seen
use Rattle.flow.specs.Shapes.{Declared, together, statement_declared, action_declared, block_declared}
use Rattle.lowering.specs.Shapes.{flagged, declared_by, among, own_declarations, function_declarations, kinds_of_signature}

pub together_append : (xs ys : List Declared) → together (xs ++ ys) ≡ together xs ++ together ys
together_append [] ys = refl
together_append (x ∷ xs) ys = ap (λ ds. x ++ ds) (together_append xs ys) ∙ sym (append_assoc x (together xs) (together ys))

-- one more statement
pub one_more : {A : Type 0} (old : List (Found A)) (s : Found A) → declared_by (old ++ s ∷ []) ≡ declared_by old ++ statement_declared s
one_more old s =
    ap together (map-append statement_declared old (s ∷ []))
    ∙ together_append (map statement_declared old) (statement_declared s ∷ [])
    ∙ ap (λ ds. declared_by old ++ ds) (append-nil (statement_declared s))

pub flagged_append : (xs ys : List Declaration) → flagged (xs ++ ys) ≡ flagged xs ++ flagged ys
flagged_append xs ys = map-append _ xs ys

pub statement_next : (s : Statement) (ss : List Statement) → flagged (among (s ∷ ss)) ≡ flagged (statement_declarations s) ++ flagged (among ss)
statement_next s ss = flagged_append (statement_declarations s) (among ss)

pub own_next : (p : Part) (ps : Tree) → flagged (own_declarations (p ∷ ps)) ≡ flagged (own_declarations (p ∷ [])) ++ flagged (own_declarations ps)
own_next (import sp) ps = refl
own_next (function f) ps = refl
own_next (single s) ps =
    flagged_append (statement_declarations s) (own_declarations ps)
    ∙ ap (λ ds. flagged ds ++ flagged (own_declarations ps)) (sym (append-nil (statement_declarations s)))

pub function_next : (p : Part) (ps : Tree) → flagged (function_declarations (p ∷ ps)) ≡ flagged (function_declarations (p ∷ [])) ++ flagged (function_declarations ps)
function_next (import sp) ps = refl
function_next (single s) ps = refl
function_next (function f) ps =
    flagged_append (body_declarations f.body) (function_declarations ps)
    ∙ ap (λ ds. flagged ds ++ flagged (function_declarations ps)) (sym (append-nil (body_declarations f.body)))

pub kinds_next : (p : Part) (ps : Tree) → map kinds_of_signature (signatures (p ∷ ps)) ≡ map kinds_of_signature (signatures (p ∷ [])) ++ map kinds_of_signature (signatures ps)
kinds_next (import sp) ps = refl
kinds_next (single s) ps = refl
kinds_next (function f) ps = refl

pub one_more_function : {A : Type 0} (old : List (Function A)) (f : Function A) → functions_declared (old ++ f ∷ []) ≡ functions_declared old ++ block_declared f.body
one_more_function {A} old f =
    ap together (map-append (λ (g : Function A). block_declared g.body) old (f ∷ []))
    ∙ together_append (map (λ (g : Function A). block_declared g.body) old) (block_declared f.body ∷ [])
    ∙ ap (λ ds. functions_declared old ++ ds) (append-nil (block_declared f.body))

-- variables that are declared are arrays where their declarations say so
pub same_shapes : {A : Type 0} (vs : List (Variable A)) (ds : List Declaration) → map seen.declared vs ≡ map seen.variable_of ds
    → map (λ (v : Variable A). is_array v.shape) vs ≡ map (λ τ. is_array τ.shape) (map declared_type ds)
same_shapes {A} vs ds e = shapes vs ∙ ap (map (λ (d : seen.Declared). is_array d.shape)) e ∙ types ds
  where
    shapes : (ws : List (Variable A)) → map (λ (v : Variable A). is_array v.shape) ws ≡ map (λ (d : seen.Declared). is_array d.shape) (map seen.declared ws)
    shapes [] = refl
    shapes (w ∷ ws) = ap (λ bs. is_array w.shape ∷ bs) (shapes ws)

    types : (es : List Declaration) → map (λ (d : seen.Declared). is_array d.shape) (map seen.variable_of es) ≡ map (λ τ. is_array τ.shape) (map declared_type es)
    types [] = refl
    types (d ∷ es) = ap (λ bs. is_array d.shape ∷ bs) (types es)

pub range_declared : {A : Type 0} → (r : Box (Range A) A) (v : Variable A) (k : Option (Variable A)) (b : Box (Block A) A) → action_declared (RangeOf r v k b) ≡ block_declared b.value
range_declared r v k b = search (rules, the_lemmas)

pub each_declared : {A : Type 0} → (a : Name) (v : Variable A) (k : Option (Variable A)) (b : Box (Block A) A) → action_declared (Each a v k b) ≡ block_declared b.value
each_declared a v k b = search (rules, the_lemmas)
