-- A flow that is lowered and merged is that of its tree.
use Rattle.std.proofs.Common.{◌≡◌, inl, inr, ℕ, Bool, List, [], ◌∷◌, ◌++◌, map, refl, sym, ap, subst, ◌∙◌}
use Rattle.language.specs.declared.tree.Shape.{Shape}
use Rattle.language.specs.Members.{◌∈◌, first, later}
use Rattle.language.proofs.Members.{split_in, to_left, to_right, either}
use Rattle.language.specs.Resolved.{core}
use Rattle.language.specs.Scopes.{Typ, Signature, signatures}
use Rattle.language.specs.Table.{Table}
use Rattle.language.specs.Tree.{Declaration, Tree, import, function, single}
use Rattle.language_accepted.specs.Types.{statement_declarations, body_declarations, tree_declarations}
use Rattle.flow.specs.Cells.{Anchor, AreAmong, anchors_of}
use Rattle.flow.specs.Listed.{shown_of}
use Rattle.flow.specs.Shapes.{Declared, is_array, declared_of, kinds_of}
use Rattle.flow.specs.View.{core_of}
use Rattle.flow.specs.declared.script.Flow.{Flow}
use Rattle.lowering.specs.Listed.{shown}
use Rattle.lowering.specs.Nodes.{nodes_of}
use Rattle.lowering.specs.Shapes.{flagged, function_declarations, own_declarations}
use Rattle.lowering.specs.Shapes as found
use Rattle.wait_merge.specs.Merged.{IsMerged}
use Rattle.code_laws.specs.Described.{DeclaredIn, KindsOf, is_array_shape}
use Rattle.code_laws.specs.Described as wanted
use Rattle.compile.specs.Compiled.{IsFlowFor}

same_shape : (s : Shape) → is_array s ≡ is_array_shape s
same_shape Shape.Scalar = refl
same_shape (Shape.Array κ) = refl

map_same : {X Y : Type 0} (f g : X → Y) → ((x : X) → f x ≡ g x) → (xs : List X) → map f xs ≡ map g xs
map_same f g h [] = refl
map_same f g h (x ∷ xs) = λ i. h x i ∷ map_same f g h xs i

same_kinds : (f : Signature) → ◌≡◌ {A = List Bool × List Bool} (found.kinds_of_signature f) (wanted.kinds_of_signature f)
same_kinds f = λ i. (map_same (λ (τ : Typ). is_array τ.shape) (λ (τ : Typ). is_array_shape τ.shape) (λ τ. same_shape τ.shape) f.inputs i, map_same (λ (τ : Typ). is_array τ.shape) (λ (τ : Typ). is_array_shape τ.shape) (λ τ. same_shape τ.shape) f.outputs i)

-- a variable of these declarations
abbrev Flagged : List Declaration → ℕ → Bool → Type 0
Flagged ds n b = (d : Declaration) × d ∈ ds × (d.name.number ≡ n) × (is_array_shape d.shape ≡ b)

unflagged : (ds : List Declaration) (n : ℕ) (b : Bool) → ◌∈◌ {X = ℕ × Bool} (n, b) (flagged ds) → Flagged ds n b
unflagged [] n b h = elim h [ ]
unflagged (d ∷ ds) n b h =
    elim (split_in h) [
      | inl e ↦ (d, first, sym (ap (λ (z : ℕ × Bool). z.0) e), sym (ap (λ (z : ℕ × Bool). z.1) e ∙ same_shape d.shape))
      | inr i ↦ (let r = unflagged ds n b i in (r.0, later r.1, r.2, r.3))
    ]

own_there : (tree : Tree) (d : Declaration) → d ∈ own_declarations tree → d ∈ tree_declarations tree
own_there [] d h = h
own_there (import sp ∷ ps) d h = own_there ps d h
own_there (function f ∷ ps) d h = to_right (body_declarations f.body) _ (own_there ps d h)
own_there (single s ∷ ps) d h = elim (either (statement_declarations s) _ h) [ inl i ↦ to_left (statement_declarations s) _ i | inr i ↦ to_right (statement_declarations s) _ (own_there ps d i) ]

functions_there : (tree : Tree) (d : Declaration) → d ∈ function_declarations tree → d ∈ tree_declarations tree
functions_there [] d h = h
functions_there (import sp ∷ ps) d h = functions_there ps d h
functions_there (function f ∷ ps) d h = elim (either (body_declarations f.body) _ h) [ inl i ↦ to_left (body_declarations f.body) _ i | inr i ↦ to_right (body_declarations f.body) _ (functions_there ps d i) ]
functions_there (single s ∷ ps) d h = to_right (statement_declarations s) _ (functions_there ps d h)

all_declared : (tree : Tree) → DeclaredIn (flagged (own_declarations tree) ++ flagged (function_declarations tree)) tree
all_declared tree n b h =
    elim (either (flagged (own_declarations tree)) _ h) [
      | inl i ↦ (let r = unflagged (own_declarations tree) n b i in (r.0, own_there tree r.0 r.1, r.2, r.3))
      | inr i ↦ (let r = unflagged (function_declarations tree) n b i in (r.0, functions_there tree r.0 r.1, r.2, r.3))
    ]

-- what `lower` and `merge` owe
pub record Lowered {A : Type 0} (t : Table) (tree : Tree) (flow : Flow A) : Type 0 where
  pub core_is : core_of flow ≡ core t tree
  pub declared_is : declared_of flow ≡ flagged (own_declarations tree) ++ flagged (function_declarations tree)
  pub kinds_are : kinds_of flow ≡ map found.kinds_of_signature (signatures tree)
  pub shown_is : shown_of flow ≡ shown tree
  pub cells_are : AreAmong (anchors_of flow) (nodes_of tree)

pub record Kept {A : Type 0} (lowered flow : Flow A) : Type 0 where
  pub core_stays : core_of flow ≡ core_of lowered
  pub declared_stays : declared_of flow ≡ declared_of lowered
  pub kinds_stay : kinds_of flow ≡ kinds_of lowered
  pub shown_stays : shown_of flow ≡ shown_of lowered
  pub cells_stay : anchors_of flow ≡ anchors_of lowered
  pub merged : IsMerged flow

pub flow_for : {A : Type 0} (t : Table) (tree : Tree) (lowered flow : Flow A) → Lowered t tree lowered → Kept lowered flow → IsFlowFor t tree flow
flow_for t tree lowered flow l k = record {
  core_is = k.core_stays ∙ l.core_is;
  kinds = k.kinds_stay ∙ l.kinds_are ∙ map_same found.kinds_of_signature wanted.kinds_of_signature same_kinds (signatures tree);
  declared = subst (λ (ds : Declared). DeclaredIn ds tree) (sym (k.declared_stays ∙ l.declared_is)) (all_declared tree);
  shows = k.shown_stays ∙ l.shown_is;
  cells = subst (λ (xs : List Anchor). AreAmong xs (nodes_of tree)) (sym k.cells_stay) l.cells_are;
  merged = k.merged;
}

-- the same of a tree that is another one
pub flow_for_same : {A : Type 0} (t : Table) (tree other : Tree) (lowered flow : Flow A) → other ≡ tree → Lowered t other lowered → Kept lowered flow → IsFlowFor t tree flow
flow_for_same t tree other lowered flow is l k = subst (λ (u : Tree). IsFlowFor t u flow) is (flow_for t other lowered flow l k)
