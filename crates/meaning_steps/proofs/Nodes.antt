-- Where no number of a tree stands twice, statements of its core with one node have one offset, and prints with one node are one.
use Rattle.std.specs.Prelude.{◌≡◌, ℕ, ℤ, ◌+◌, ◌≤◌, Bool, true, false, not, List, [], ◌∷◌, refl, nat_eq}
use Rattle.std.proofs.Common.{sym, ap, ◌∙◌, subst, arith}
use Rattle.std.proofs.lemmas.Bool.{eqb-true, eq-eqb}
use Rattle.language.specs.declared.tree.Shape.{Shape}
use Rattle.language.specs.Tree.{expression, number, text, truth, variable, element, call, prefixed, chain, RightSide, value, list, Tree}
use Rattle.language.specs.Core.{Name, Outer, Action, declare, call_alone, assign, fill, insert, print, assert, when, choose, range, each, wait, Stmt, stmt}
use Rattle.language.specs.Members.{◌∈◌, first}
use Rattle.language.specs.Parts.{script_stmts, stmt_node, stmt_at}
use Rattle.language.specs.Reads.{Reads}
use Rattle.language.specs.Resolved.{call_right, right_of, core}
use Rattle.language.specs.Table.{Table, Callee, composite, built_in}
use Rattle.language.proofs.Tested.{flat, flat_once}
use Rattle.language.specs.Distinct.{distinct}
use Rattle.language.proofs.TreeNumbers.{hit, times, few_distinct, distinct_few}
use Rattle.language_laws.proofs.TreeNodes.{tree_numbers, core_both}
use Rattle.language_accepted.proofs.Once.{numbers_once}
use Rattle.meaning_steps.specs.News.{NodesTell}

-- STATEMENTS BY THEIR OFFSETS, DECLARATIONS AND OTHERS APART

abbrev is_declaration : Action → Bool
is_declaration (declare v) = true
is_declaration (call_alone p ps c) = false
is_declaration (assign x e) = false
is_declaration (fill a e) = false
is_declaration (insert a i e) = false
is_declaration (print p e) = false
is_declaration (assert p e) = false
is_declaration (when c b) = false
is_declaration (choose c b d) = false
is_declaration (range lo hi st v k b) = false
is_declaration (each a v k b) = false
is_declaration (wait ns b) = false

abbrev either : Bool → Bool → Bool → Bool
either true b c = b
either false b c = c

abbrev pick : Bool → ℕ → List ℕ
pick true n = n ∷ []
pick false n = []

-- the node of a declaration at an offset that `d` picks, and of another statement at an offset that `o` picks
abbrev head_of : (ℕ → Bool) → (ℕ → Bool) → Stmt → List ℕ
head_of d o (stmt at n a) = pick (either (is_declaration a) (d at) (o at)) n

pick_few : (n m : ℕ) (b : Bool) → times n (pick b m) ≤ hit n m
pick_few n m true = omega arith
pick_few n m false = omega arith

two_picks : (n m : ℕ) (b c : Bool) → (b ≡ true → c ≡ true → ⊥) → times n (pick b m) + times n (pick c m) ≤ hit n m
two_picks n m true true h = absurd (h refl refl)
two_picks n m true false h = omega arith
two_picks n m false c h = let f = pick_few n m c in omega arith

-- a right side declares nothing
right_plain : (t : Table) (x : Name) (sh : Shape) (r : RightSide) → is_declaration (right_of t x sh r) ≡ false
right_plain t x sh (value (expression nd (call w es))) = by (t.callee_of w.number)
  where
    by : (c : Callee) → is_declaration (call_right t x (expression nd (call w es)) w es c) ≡ false
    by (composite i) = refl
    by (built_in b) = refl
right_plain t x (Shape.Array κ) (value (expression nd (variable w))) = refl
right_plain t x Shape.Scalar (value (expression nd (variable w))) = refl
right_plain t x sh (list nd es) = refl
right_plain t x (Shape.Array κ) (value (expression nd (number z))) = refl
right_plain t x Shape.Scalar (value (expression nd (number z))) = refl
right_plain t x (Shape.Array κ) (value (expression nd (text bytes))) = refl
right_plain t x Shape.Scalar (value (expression nd (text bytes))) = refl
right_plain t x (Shape.Array κ) (value (expression nd (truth b))) = refl
right_plain t x Shape.Scalar (value (expression nd (truth b))) = refl
right_plain t x (Shape.Array κ) (value (expression nd (element w i))) = refl
right_plain t x Shape.Scalar (value (expression nd (element w i))) = refl
right_plain t x (Shape.Array κ) (value (expression nd (prefixed p e))) = refl
right_plain t x Shape.Scalar (value (expression nd (prefixed p e))) = refl
right_plain t x (Shape.Array κ) (value (expression nd (chain os es))) = refl
right_plain t x Shape.Scalar (value (expression nd (chain os es))) = refl

module _ (d o : ℕ → Bool) (apart : (at : ℕ) → d at ≡ true → o at ≡ true → ⊥) where
  few : (n at m : ℕ) (a : Action) → times n (head_of d o (stmt at m a)) ≤ hit n m
  few n at m a = pick_few n m (either (is_declaration a) (d at) (o at))

  pair : (n at m v : ℕ) (t : Table) (x : Name) (sh : Shape) (r : RightSide)
      → times n (head_of d o (stmt at m (declare v))) + times n (head_of d o (stmt at m (right_of t x sh r))) ≤ hit n m
  pair n at m v t x sh r =
      subst (λ (z : Bool). times n (pick (d at) m) + times n (pick (either z (d at) (o at)) m) ≤ hit n m) (sym (right_plain t x sh r)) (two_picks n m (d at) (o at) (apart at))

  -- statements that are picked and have one node are one
  one_picked : (t : Table) (tree : Tree) → distinct (0 ∷ tree_numbers tree) ≡ true → (st x : Stmt) (n : ℕ) → st ∈ script_stmts (core t tree) → x ∈ script_stmts (core t tree)
      → n ∈ head_of d o st → n ∈ head_of d o x → st ≡ x
  one_picked t tree once st x n m k i j = flat_once (head_of d o) (script_stmts (core t tree)) heads m k i j
    where
      heads : distinct (flat (head_of d o) (script_stmts (core t tree))) ≡ true
      heads =
          few_distinct (flat (head_of d o) (script_stmts (core t tree)))
          (λ n. (let b = core_both (head_of d o) few pair n t tree in let f = distinct_few (0 ∷ tree_numbers tree) once n in omega arith))

never_both : (b : Bool) → b ≡ true → not b ≡ true → ⊥
never_both true h k = absurd (cc (k))
never_both false h k = absurd (cc (h))

picked : (b : Bool) (n : ℕ) → b ≡ true → n ∈ pick b n
picked b n e = subst (λ (z : Bool). n ∈ pick z n) (sym e) first

in_declared : (d o : ℕ → Bool) (at n : ℕ) (a : Action) → is_declaration a ≡ true → d at ≡ true → n ∈ head_of d o (stmt at n a)
in_declared d o at n a e h = picked (either (is_declaration a) (d at) (o at)) n (ap (λ (z : Bool). either z (d at) (o at)) e ∙ h)

in_others : (d o : ℕ → Bool) (at n : ℕ) (a : Action) → is_declaration a ≡ false → o at ≡ true → n ∈ head_of d o (stmt at n a)
in_others d o at n a e h = picked (either (is_declaration a) (d at) (o at)) n (ap (λ (z : Bool). either z (d at) (o at)) e ∙ h)

module _ (t : Table) (tree : Tree) (once : distinct (0 ∷ tree_numbers tree) ≡ true) where
  others_one : (st x : Stmt) (n : ℕ) → st ∈ script_stmts (core t tree) → x ∈ script_stmts (core t tree) → n ∈ head_of (λ _. false) (λ _. true) st → n ∈ head_of (λ _. false) (λ _. true) x → st ≡ x
  others_one st x n m k i j = one_picked (λ _. false) (λ _. true) (λ at h k. absurd (cc (h))) t tree once st x n m k i j

  declared_one : (st x : Stmt) (n : ℕ) → st ∈ script_stmts (core t tree) → x ∈ script_stmts (core t tree) → n ∈ head_of (λ _. true) (λ _. false) st → n ∈ head_of (λ _. true) (λ _. false) x → st ≡ x
  declared_one st x n m k i j = one_picked (λ _. true) (λ _. false) (λ at h k. absurd (cc (k))) t tree once st x n m k i j

  -- a declaration and another statement of one node have one offset
  mixed : (at to n : ℕ) (a b : Action) → stmt at n a ∈ script_stmts (core t tree) → stmt to n b ∈ script_stmts (core t tree) → is_declaration a ≡ true → is_declaration b ≡ false → at ≡ to
  mixed at to n a b m k e f = by (nat_eq at to) refl
    where
      by : (c : Bool) → nat_eq at to ≡ c → at ≡ to
      by true q = eqb-true at to q
      by false q =
          ap stmt_at
          (one_picked (λ z. nat_eq at z) (λ z. not (nat_eq at z)) (λ z. never_both (nat_eq at z)) t tree once (stmt at n a) (stmt to n b) n m k
          (in_declared (λ z. nat_eq at z) (λ z. not (nat_eq at z)) at n a e (eq-eqb at at refl)) (in_others (λ z. nat_eq at z) (λ z. not (nat_eq at z)) to n b f (ap not q)))

  one_offset : (at to n : ℕ) (a b : Action) → stmt at n a ∈ script_stmts (core t tree) → stmt to n b ∈ script_stmts (core t tree) → at ≡ to
  one_offset at to n a b m k = by (is_declaration a) (is_declaration b) refl refl
    where
      by : (c e : Bool) → is_declaration a ≡ c → is_declaration b ≡ e → at ≡ to
      by true true p q = ap stmt_at (declared_one (stmt at n a) (stmt to n b) n m k (in_declared (λ _. true) (λ _. false) at n a p refl) (in_declared (λ _. true) (λ _. false) to n b q refl))
      by true false p q = mixed at to n a b m k p q
      by false true p q = sym (mixed to at n b a k m q p)
      by false false p q = ap stmt_at (others_one (stmt at n a) (stmt to n b) n m k (in_others (λ _. false) (λ _. true) at n a p refl) (in_others (λ _. false) (λ _. true) to n b q refl))

  one_at : (st x : Stmt) → st ∈ script_stmts (core t tree) → x ∈ script_stmts (core t tree) → stmt_node st ≡ stmt_node x → stmt_at st ≡ stmt_at x
  one_at (stmt at n a) (stmt to n' b) m k e = one_offset at to n a b m (subst (λ (z : ℕ). stmt to z b ∈ script_stmts (core t tree)) (sym e) k)

  one_line : (at to n : ℕ) (p q : ℤ) (c e : Outer) → stmt at n (print p c) ∈ script_stmts (core t tree) → stmt to n (print q e) ∈ script_stmts (core t tree) → c ≡ e
  one_line at to n p q c e m k =
      let same = others_one (stmt at n (print p c)) (stmt to n (print q e)) n m k (in_others (λ _. false) (λ _. true) at n (print p c) refl refl) (in_others (λ _. false) (λ _. true) to n (print q e) refl refl) in
      cc

  nodes_tell : NodesTell (core t tree)
  nodes_tell = record { one_at = one_at; one_line = one_line }

pub accepted_nodes : (bytes : List ℕ) (t : Table) (tree : Tree) → Reads bytes tree → NodesTell (core t tree)
accepted_nodes bytes t tree r = nodes_tell t tree (subst (λ (p : Tree). distinct (0 ∷ tree_numbers p) ≡ true) (sym r.is_numbered) (numbers_once r.parsed))
