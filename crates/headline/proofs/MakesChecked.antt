-- What a body declares, told by a test.
use Rattle.std.proofs.Common.{◌≡◌, inl, inr, ℕ, Bool, true, false, List, [], ◌∷◌, sym, ap, subst, ◌∙◌}
use Rattle.std.specs.Prelude.{not, ◌&&◌, ◌||◌, nat_eq}
use Rattle.std.specs.List.{list_all}
use Rattle.values.specs.Values.{same_truth}
use Rattle.language.specs.Core.{Stmt, stmt, Action, declare, Block}
use Rattle.language.specs.Members.{◌∈◌, first, later}
use Rattle.language.specs.Parts.{stmt_action, block_list}
use Rattle.task_code.specs.Code.{Variable, Code}
use Rattle.task_code.specs.Check.{variable_in}
use Rattle.task_code.proofs.Equal.{nat_sound, bool_sound, every_in}
use Rattle.task_code.proofs.Checked.{variable_in_sound}
use Rattle.code_rules.specs.IsCodeOf.{Layout, MakesAs}
use Rattle.std.proofs.lemmas.Bool.{not-true, or_cases, and_parts}

-- some statement declares this node
abbrev pub declares_node : ℕ → Action → Bool
declares_node n (declare m) = nat_eq m n
declares_node n _ = false

abbrev pub is_declared_in : ℕ → List Stmt → Bool
is_declared_in n [] = false
is_declared_in n (st ∷ sts) = declares_node n (stmt_action st) || is_declared_in n sts

-- what a statement declares is there
abbrev pub is_made : Layout → List Variable → Action → Bool
is_made l vs (declare n) = variable_in (record { node = n; array = l.array n }) vs
is_made l vs _ = true

abbrev pub all_made : Layout → List Variable → List Stmt → Bool
all_made l vs sts = list_all (λ st. is_made l vs (stmt_action st)) sts

abbrev pub is_real : Layout → List Stmt → Variable → Bool
is_real l sts v = (not v.array || is_declared_in v.node sts) && (same_truth v.array (l.array v.node) && not (l.plain v.node))

node_there : (n : ℕ) (a : Action) → declares_node n a ≡ true → a ≡ declare n
node_there n (declare m) h = ap declare (nat_sound m n h)
node_there n _ h = absurd (cc)

declared_there : (n : ℕ) (sts : List Stmt) → is_declared_in n sts ≡ true → (at : ℕ) × (m : ℕ) × (stmt at m (declare n) ∈ sts)
declared_there n [] h = absurd (cc)
declared_there n (stmt at m a ∷ sts) h =
    elim (or_cases (declares_node n a) (is_declared_in n sts) h) [
      | inl p ↦ (at, m, subst (λ (x : Action). stmt at m x ∈ (stmt at m a ∷ sts)) (node_there n a p) first)
      | inr q ↦ (let r = declared_there n sts q in (r.0, r.1, later r.2))
    ]

every_member : {X : Type 0} (f : X → Bool) (xs : List X) → list_all f xs ≡ true → {x : X} → x ∈ xs → f x ≡ true
every_member f [] h i = elim i [ ]
every_member f (x ∷ xs) h first = (and_parts (f x) (list_all f xs) h).0
every_member f (x ∷ xs) h (later i) = every_member f xs (and_parts (f x) (list_all f xs) h).1 i

true_false : {A : Type 0} {b : Bool} → b ≡ true → b ≡ false → A
true_false h k = absurd (let n : true ≡ false = sym h ∙ k in cc)

pub makes_checked : (C : Code) (l : Layout) (b : Block) (vs : List Variable) → all_made l vs (block_list b) ≡ true → list_all (is_real l (block_list b)) vs ≡ true → MakesAs C l b vs
makes_checked C l b vs h r = record {
  declared = λ at m n i. variable_in_sound _ vs (every_member (λ st. is_made l vs (stmt_action st)) (block_list b) h i);
  arrays = λ n i. (let x = and_parts _ _ (every_in (is_real l (block_list b)) vs r _ i) in declared_there n (block_list b) x.0);
  kinds = λ v i. (let x = and_parts _ _ (every_in (is_real l (block_list b)) vs r v i) in bool_sound v.array (l.array v.node) (and_parts _ _ x.1).0);
  real = λ v i. (let x = and_parts _ _ (every_in (is_real l (block_list b)) vs r v i) in not-true (l.plain v.node) (and_parts _ _ x.1).1);
}
