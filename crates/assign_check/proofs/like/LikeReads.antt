-- What an outline reads is what the block reads that it stands for.
use Rattle.std.specs.Prelude.{◌≡◌, ℕ, List, [], ◌∷◌}
use Rattle.std.proofs.Common.{inl, inr, subst}
use Rattle.language.specs.Core.{Owned, Expr, compute, Cell, Part, inner, calls, Stmt, stmt, Action, declare, call_alone, assign, fill, insert, print, assert, when, choose, range, each, wait, Block}
use Rattle.language.specs.Members.{◌∈◌, first, later}
use Rattle.language.specs.Parts.{block_list, stmts_within, parts, part_cells, cells}
use Rattle.language.specs.Single.{Reads, IsRead, in_cell, in_wait}
use Rattle.assign_check.specs.Outline as outline
use Rattle.assign_check.specs.Outline.{Use, Declared, Outline, uses}
use Rattle.assign_check.proofs.clauses.SingleOutline.{HasUse}
use Rattle.assign_check.proofs.like.Like.{Like}
use Rattle.assign_check.proofs.like.CoreBlocks.{within, stands_in, used_at, at_used}
use Rattle.assign_check.proofs.like.LikeSteps.{stands, Comes, of_plain, of_block, comes, down, up}
use Rattle.assign_check.proofs.uses.Reading.{Clear}
use Rattle.assign_check.proofs.uses.Statements.{InWait, ReadHere, SameReads}

part_cell : {c : Cell} {ps : List Part} → inner c ∈ ps → c ∈ part_cells ps
part_cell first = first
part_cell (later {y = inner d} m) = later (part_cell m)
part_cell (later {y = calls d} m) = part_cell m

cell_part : {c : Cell} (ps : List Part) → c ∈ part_cells ps → inner c ∈ ps
cell_part [] m = elim m [ ]
cell_part (inner d ∷ ps) first = first
cell_part (inner d ∷ ps) (later m) = later (cell_part ps m)
cell_part (calls d ∷ ps) m = later (cell_part ps m)

waits_for : (a : Action) {x : Owned} {b : Block} {at n : ℕ} → InWait x a → stmt at n a ∈ stmts_within b → IsRead x b
waits_for (wait ns d) w i = in_wait i w.1 w.2
waits_for (declare v) w i = absurd w
waits_for (call_alone p ps c) w i = absurd w
waits_for (assign x e) w i = absurd w
waits_for (fill x e) w i = absurd w
waits_for (insert x k e) w i = absurd w
waits_for (print p e) w i = absurd w
waits_for (assert p e) w i = absurd w
waits_for (when c b) w i = absurd w
waits_for (choose c b d) w i = absurd w
waits_for (range lo hi st v k b) w i = absurd w
waits_for (each x v k b) w i = absurd w

read_in_block : (a : Action) {x : Owned} {b : Block} {at n : ℕ} → ReadHere x a → stmt at n a ∈ stmts_within b → IsRead x b
read_in_block a (inl h) i = in_cell i (part_cell h.there) h.reads
read_in_block a (inr w) i = waits_for a w i

module _ {Taken Own : ℕ → Type 0} where
  read_here : {ds : List Declared} {c : Block} {u : Use} → Comes (SameReads Taken Own) ds c (uses u) → u.kind ≡ outline.read
      → (at : ℕ) × (n : ℕ) × (a : Action) × (stmt at n a ∈ block_list c) × ReadHere u.of a
  read_here {u = u} (of_plain {at = at} {n = n} {a = a} i p r m) k = (at, n, a, i, r.to u m k)
  read_here (of_block i t) k = elim t [ ]

  pub to_read : {ds : List Declared} {o : Outline} {b : Block} {x : Owned} → Like (SameReads Taken Own) ds o b → HasUse outline.read x o → IsRead x b
  to_read {o = o} {b = b} l h =
      let w = used_at o h.there in
      let p = down l w.there w.has in
      let q = read_here (comes p.like w.has) h.kind in
      subst (λ (y : Owned). IsRead y b) h.is (read_in_block q.2 q.4 (within p.below q.3))

  use_read : {ds : List Declared} {o : Outline} {b : Block} {x : Owned} {at n : ℕ} {a : Action} → Like (SameReads Taken Own) ds o b → Clear Taken x → stmt at n a ∈ stmts_within b → ReadHere x a
      → HasUse outline.read x o
  use_read {b = b} {x = x} l d i h =
      let s = stands_in b i in
      let p = up l s.1 in
      let w = stands p.like s.2 in
      let q = w.reads.from x d h in
      record { use_there = q.0; there = at_used p.inside (w.there (uses q.0) q.1); kind = q.2; is = q.3 }

  cell_read : {ds : List Declared} {o : Outline} {b : Block} {x : Owned} {n : ℕ} {e : Expr} (s : Stmt) → Like (SameReads Taken Own) ds o b → Clear Taken x → s ∈ stmts_within b
      → record { node = n; form = compute e } ∈ cells s → Reads x e → HasUse outline.read x o
  cell_read {n = n} {e = e} (stmt at m a) l d i c r = use_read l d i (inl (record { node = n; expr = e; there = cell_part (parts a) c; reads = r }))

  pub of_read : {ds : List Declared} {o : Outline} {b : Block} {x : Owned} → Like (SameReads Taken Own) ds o b → Clear Taken x → IsRead x b → HasUse outline.read x o
  of_read l d (in_cell {s = s} i c r) = cell_read s l d i c r
  of_read l d (in_wait {y = y} i m e) = use_read l d i (inr (y, m, e))
