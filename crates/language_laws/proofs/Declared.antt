-- What a name is, and which blocks are live: facts about one script.
use Rattle.std.specs.Prelude.{◌≡◌, ◌⊎◌, ℕ, zero, suc, List, [], ◌∷◌, Some, slice_get, refl}
use Rattle.std.proofs.Common.{inl, inr, sym, ap, ◌∙◌, subst, arith}
use Rattle.std.proofs.lemmas.Bool.{cases_eq}
use Rattle.values.specs.declared.key.Key.{Key}
use Rattle.values.specs.declared.value.Value.{Value}
use Rattle.language.specs.Core.{Owned, local, input, output, Name, Stmt, stmt, Action, declare, call_alone, assign, fill, insert, print, assert, when, choose, range, each, wait, Block, Core}
use Rattle.language.specs.Facts.{Knowledge}
use Rattle.language.specs.Meaning.{Live, script, opened, waited, called, LiveStmt, in_block}
use Rattle.language.specs.Members.{◌∈◌, first, later}
use Rattle.language.specs.Openings.{Opens, then_alone, then_first, else_second, turn, item}
use Rattle.language.specs.Parts.{block_list, script_blocks, script_stmts, name_at}
use Rattle.language.specs.Places.{Path, place_of}
use Rattle.language.specs.WellFormed.{header_blocks, Declares}
use Rattle.language.proofs.Blocks.{header_inner, inner_block, main_block, function_block, among_script}
use Rattle.language.proofs.Members.{split_in}

pub header_of : {a : Action} {vs : List Value} {k : Key} {c : Block} → Opens a vs k c → c ∈ header_blocks a
header_of then_alone = first
header_of then_first = first
header_of else_second = later first
header_of (turn e f i) = first
header_of (item m) = first

pub place_here : (s : Core) (path : Path) (n : ℕ) → place_of s path 0 (local n) ≡ (path, n)
place_here s [] n = refl
place_here s (t ∷ path) n = refl

pub output_found : (xs : List Name) (j : ℕ) (x : Name) → slice_get xs j ≡ Some x → name_at xs j ≡ x
output_found [] zero x e = absurd (cc (e))
output_found [] (suc j) x e = absurd (cc (e))
output_found (y ∷ xs) zero x e = cc
output_found (y ∷ xs) (suc j) x e = output_found xs j x e

pub output_in : (xs : List Name) (j : ℕ) (x : Name) → slice_get xs j ≡ Some x → x ∈ xs
output_in [] zero x e = absurd (cc (e))
output_in [] (suc j) x e = absurd (cc (e))
output_in (y ∷ xs) zero x e = let same : y ≡ x = cc (e) in subst (λ (z : Name). x ∈ (z ∷ xs)) (sym same) first
output_in (y ∷ xs) (suc j) x e = later (output_in xs j x e)

pub local_same : {m n : ℕ} → local m ≡ local n → m ≡ n
local_same h = cc

-- whether a block declares a name
is_declare : (a : Action) → ((k : ℕ) × (a ≡ declare k)) ⊎ ((k : ℕ) → a ≡ declare k → ⊥)
is_declare (declare v) = inl (v, refl)
is_declare (call_alone p ps c) = inr (λ k e. absurd (cc (e)))
is_declare (assign x c) = inr (λ k e. absurd (cc (e)))
is_declare (fill a c) = inr (λ k e. absurd (cc (e)))
is_declare (insert a i c) = inr (λ k e. absurd (cc (e)))
is_declare (print p c) = inr (λ k e. absurd (cc (e)))
is_declare (assert p c) = inr (λ k e. absurd (cc (e)))
is_declare (when c b) = inr (λ k e. absurd (cc (e)))
is_declare (choose c b d) = inr (λ k e. absurd (cc (e)))
is_declare (range lo hi st v t b) = inr (λ k e. absurd (cc (e)))
is_declare (each a v t b) = inr (λ k e. absurd (cc (e)))
is_declare (wait ns b) = inr (λ k e. absurd (cc (e)))

record DeclaredIn (n : ℕ) (ss : List Stmt) : Type 0 where
  at : ℕ
  node : ℕ
  there : stmt at node (declare n) ∈ ss

declared_in : (n : ℕ) (ss : List Stmt) → DeclaredIn n ss ⊎ (DeclaredIn n ss → ⊥)
declared_in n [] = inr (λ d. (let m = d.there in elim m [ ]))
declared_in n (stmt at m a ∷ ss) = by (is_declare a) (declared_in n ss)
  where
    stmt_actions : {i j : ℕ} {b : Action} → stmt i j b ≡ stmt at m a → a ≡ b
    stmt_actions e = cc

    declare_same : {i j : ℕ} → declare i ≡ declare j → i ≡ j
    declare_same e = cc

    by : (((k : ℕ) × (a ≡ declare k)) ⊎ ((k : ℕ) → a ≡ declare k → ⊥)) → (DeclaredIn n ss ⊎ (DeclaredIn n ss → ⊥)) → DeclaredIn n (stmt at m a ∷ ss) ⊎ (DeclaredIn n (stmt at m a ∷ ss) → ⊥)
    by x (inl d) = inl (record { at = d.at; node = d.node; there = later d.there })
    by (inr x) (inr y) = inr (λ d. elim (split_in d.there) [ inl e ↦ x n (stmt_actions e) | inr k ↦ y (record { at = d.at; node = d.node; there = k }) ])
    by (inl x) (inr y) = elim (cases_eq x.0 n) [
      | inl e ↦ inl (record { at = at; node = m; there = subst (λ (b : Action). stmt at m b ∈ (stmt at m a ∷ ss)) (x.1 ∙ ap (λ (k : ℕ). declare k) e) first })
      | inr z ↦ inr (λ d. elim (split_in d.there) [ inl e ↦ z (declare_same (sym x.1 ∙ stmt_actions e)) | inr k ↦ y (record { at = d.at; node = d.node; there = k }) ])
    ]

input_local : {i n : ℕ} → input i ≡ local n → ⊥
input_local h = cc

output_local : {i n : ℕ} → output i ≡ local n → ⊥
output_local h = cc

pub declared : (b : Block) (what : Owned) → Declares b what ⊎ (Declares b what → ⊥)
declared b (input i) = inr (λ d. input_local d.is)
declared b (output i) = inr (λ d. output_local d.is)
declared b (local n) =
    elim (declared_in n (block_list b)) [
      | inl d ↦ inl (record { node = n; at = d.at; stmt_node = d.node; is = refl; there = d.there })
      | inr x ↦ inr (λ d. x (record { at = d.at; node = d.stmt_node; there = subst (λ (k : ℕ). stmt d.at d.stmt_node (declare k) ∈ block_list b) (sym (local_same d.is)) d.there }))
    ]

-- a live block is one of the script's
pub live_block : (s : Core) {K : Knowledge} {path : Path} {b : Block} → Live s K path b → b ∈ script_blocks s
live_block s script = main_block s
live_block s (opened {header = a} l i r o d) = inner_block s (live_block s l) i (header_inner a (header_of o))
live_block s (waited l i r) = inner_block s (live_block s l) i first
live_block s (called {f = f} {c = c} l i m e d) = function_block s c.function f e

-- a live statement is one of the script's
pub stmt_in : (s : Core) {K : Knowledge} {path : Path} {st : Stmt} → LiveStmt s K path st → st ∈ script_stmts s
stmt_in s (in_block l i) = among_script s (live_block s l) i
