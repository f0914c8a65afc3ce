-- Where each statement of an array's block is finished for it, so is each live statement that may write the array.
use Rattle.std.specs.Prelude.{◌≡◌, ◌⊎◌, ℕ, zero, suc, ℤ, pos, List, [], ◌∷◌, Option, Some, slice_get, refl}
use Rattle.std.proofs.Common.{inl, inr, sym, ap, ◌∙◌, subst}
use Rattle.values.specs.declared.key.Key.{Key}
use Rattle.values.specs.declared.value.Value.{Value}
use Rattle.language.specs.Core.{Owned, local, output, Name, here, Call, Part, Outer, Awaited, Stmt, stmt, Action, call_alone, fill, insert, wait, Block, Function, Core}
use Rattle.language.specs.Facts.{Knowledge}
use Rattle.language.specs.Meaning.{IsTarget, Live, script, opened, waited, called, Ready, LiveStmt, in_block}
use Rattle.language.specs.Members.{◌∈◌, first, later}
use Rattle.language.specs.Openings.{Opens, Branches}
use Rattle.language.specs.Parts.{block_list, script_blocks, stmts_of, function_body, output_name}
use Rattle.language.specs.Places.{Path, Place, place, place_of}
use Rattle.language.specs.WellFormed.{IsOwnTarget, Declares, Uses, own, inside, in_wait, IsHidden, IsAlone, NamesFound}
use Rattle.language.proofs.Blocks.{header_inner, inner_block, main_block, function_block, owner_of, inside_target, uses_target}
use Rattle.language_laws.proofs.Declared.{header_of, place_here, output_found, output_in, declared, live_block}

only_one : {X : Type 0} {x y : X} → x ∈ (y ∷ []) → x ≡ y
only_one first = refl
only_one (later m) = elim m [ ]

-- Done says of a statement that fills an array or inserts an element that it has written
module _ (s : Core) (w : NamesFound s) (K : Knowledge) (Done : Path → Stmt → Type 0) where
  -- a statement is finished for an array, whatever it opens: each statement in it that writes is done
  pub data FinishedIn : Owned → Path → Stmt → Type 0 where
    no_target_in : {a : Owned} {path : Path} {st : Stmt} → (IsTarget a st → ⊥) → FinishedIn a path st
    fill_in : {a : Owned} {path : Path} {at n : ℕ} {x : Name} {c : Outer} → Done path (stmt at n (fill x c)) → FinishedIn a path (stmt at n (fill x c))
    insert_in : {a : Owned} {path : Path} {at n : ℕ} {x : Name} {i c : Outer} → Done path (stmt at n (insert x i c)) → FinishedIn a path (stmt at n (insert x i c))
    body_in : {a : Owned} {path : Path} {at n : ℕ} {p : ℤ} {ps : List Part} {c : Call}
        → ((j : ℕ) (x : Name) (st : Stmt) → slice_get c.outputs j ≡ Some x → x.what ≡ a → st ∈ function_body s c.function → FinishedIn (output j) ((c.at, Key.Number (pos 0)) ∷ path) st)
        → FinishedIn a path (stmt at n (call_alone p ps c))
    blocks_in : {a : Owned} {path : Path} {at n : ℕ} {header : Action}
        → Branches header
        → ((vs : List Value) (k : Key) (b : Block) (st : Stmt) → Ready s K path header vs → Opens header vs k b → st ∈ block_list b → FinishedIn a ((at, k) ∷ path) st)
        → FinishedIn a path (stmt at n header)
    content_in : {a : Owned} {path : Path} {at n : ℕ} {ns : List Awaited} {b : Block}
        → ((st : Stmt) → st ∈ block_list b → FinishedIn a path st)
        → FinishedIn a path (stmt at n (wait ns b))

  -- each statement of the block that declares the array is finished for it
  pub record ClosedIn (p : Place) : Type 0 where
    pub block : Block
    pub there : block ∈ script_blocks s
    pub declares : Declares block (local p.1)
    pub all : (st : Stmt) → st ∈ block_list block → FinishedIn (local p.1) p.0 st

  -- what a finished header opens is finished
  below_header : {what : Owned} {path : Path} {at n : ℕ} {a : Action} {vs : List Value} {k : Key} {c : Block} (st : Stmt)
      → FinishedIn what path (stmt at n a) → IsTarget what (stmt at n a) → Ready s K path a vs → Opens a vs k c → st ∈ block_list c → FinishedIn what ((at, k) ∷ path) st
  below_header st (no_target_in h) t r o i = absurd (h t)
  below_header st (fill_in k) t r o i = elim o [ ]
  below_header st (insert_in k) t r o i = elim o [ ]
  below_header st (body_in f) t r o i = elim o [ ]
  below_header st (blocks_in h f) t r o i = f _ _ _ st r o i
  below_header st (content_in f) t r o i = elim o [ ]

  below_wait : {what : Owned} {path : Path} {at n : ℕ} {ns : List Awaited} {c : Block} (st : Stmt)
      → FinishedIn what path (stmt at n (wait ns c)) → IsTarget what (stmt at n (wait ns c)) → st ∈ block_list c → FinishedIn what path st
  below_wait st (no_target_in h) t i = absurd (h t)
  below_wait st (blocks_in h f) t i = absurd h
  below_wait st (content_in f) t i = f st i

  below_call : {what : Owned} {path : Path} {at n : ℕ} {p : ℤ} {ps : List Part} {c : Call} (j : ℕ) (x : Name) (st : Stmt)
      → FinishedIn what path (stmt at n (call_alone p ps c)) → IsTarget what (stmt at n (call_alone p ps c)) → slice_get c.outputs j ≡ Some x → x.what ≡ what → st ∈ function_body s c.function
      → FinishedIn (output j) ((c.at, Key.Number (pos 0)) ∷ path) st
  below_call j x st (no_target_in h) t e q i = absurd (h t)
  below_call j x st (body_in f) t e q i = f j x st e q i
  below_call j x st (blocks_in h f) t e q i = absurd h

  -- in the block that declares it
  in_own_block : (p : Place) → ClosedIn p → {path : Path} {b : Block} → b ∈ script_blocks s → (what : Owned) → Declares b what → place_of s path 0 what ≡ p
      → (st : Stmt) → st ∈ block_list b → FinishedIn what path st
  in_own_block p c {path} {b} m what d e st i =
      let spot : (path, d.node) ≡ p = sym (place_here s path d.node) ∙ ap (λ (z : Owned). place_of s path 0 z) (sym d.is) ∙ e in
      let named : local p.1 ≡ what = ap (λ (z : Place). local z.1) (sym spot) ∙ sym d.is in
      let same : b ≡ c.block = w.one_block b c.block what m c.there d (subst (λ (z : Owned). Declares c.block z) named c.declares) in
      subst (λ (z : Path). FinishedIn what z st) (sym (ap (λ (z : Place). z.0) spot))
      (subst (λ (z : Owned). FinishedIn z p.0 st) named (c.all st (subst (λ (z : Block). st ∈ block_list z) same i)))

  -- each live statement that may write a closed array is finished for it
  frozen : (p : Place) → ClosedIn p → {path : Path} {b : Block} → Live s K path b → (up : ℕ) (what : Owned) → Uses b up what → place_of s path up what ≡ p
      → (st : Stmt) → st ∈ block_list b → FinishedIn what path st
  frozen p c script up what u e st i =
      let r = w.script_names up what u in
      in_own_block p c (main_block s) what r.1 (subst (λ (n : ℕ). place_of s [] n what ≡ p) r.0 e) st i
  frozen p c {path = t ∷ path} (opened {b = b} {c = d} {at = at} {n = n} {header = a} l m r o q) (suc up) what u e st i =
      below_header st (frozen p c l up what (inside m (header_of o) u) e (stmt at n a) m) (inside_target a at n (header_of o) u) r o i
  frozen p c (opened {b = b} {c = d} {at = at} {n = n} {header = a} l m r o q) zero what u e st i =
      let k = live_block s l in
      in_own_block p c (inner_block s k m (header_inner a (header_of o))) what (w.header_names b d at n a what k m (header_of o) u) e st i
  frozen p c {path} (waited {b = b} {c = d} {at = at} {n = n} {ns = ns} l m r) up what u e st i = by (declared d what) (λ x. frozen p c l up what (in_wait m u x) e (stmt at n (wait ns d)) m)
    where
      by : (Declares d what ⊎ (Declares d what → ⊥)) → ((Declares d what → ⊥) → FinishedIn what path (stmt at n (wait ns d))) → FinishedIn what path st
      by (inl x) rec =
          let k = inner_block s (live_block s l) m first in
          in_own_block p c k what x (subst (λ (z : ℕ). place_of s path z what ≡ p) (w.wait_names d up what k u x) e) st i
      by (inr x) rec = below_wait st (rec x) (uses_target u) i
  frozen p c (called {path = path} {b = b} {f = f} {st = call_stmt} {c = x} l m n q d) up what u e st i =
      by (w.function_names x.function f up what q u) (λ up' what' u' e' st' i'. frozen p c l up' what' u' e' st' i')
    where
      here_path : Path
      here_path = (x.at, Key.Number (pos 0)) ∷ path

      Outer_ : Type 0
      Outer_ = (up' : ℕ) (what' : Owned) → Uses b up' what' → place_of s path up' what' ≡ p → (st' : Stmt) → st' ∈ block_list b → FinishedIn what' path st'

      by_output : (j : ℕ) → what ≡ output j → up ≡ 0 → ((up' : ℕ) (what' : Owned) → Uses b up' what' → place_of s path up' what' ≡ p → (st' : Stmt) → st' ∈ block_list b → FinishedIn what' path st') → FinishedIn what ((x.at, Key.Number (pos 0)) ∷ path) st
      by_output j ej ez rec = kind (w.call_kinds b call_stmt x (live_block s l) m n)
        where
          used : Uses f.body 0 (output j)
          used = subst (λ (z : ℕ). Uses f.body z (output j)) ez (subst (λ (z : Owned). Uses f.body up z) ej u)

          out : (y : Name) × (slice_get x.outputs j ≡ Some y)
          out = w.call_outputs b call_stmt x f j (live_block s l) m n q used

          place_out : place_of s path out.0.up out.0.what ≡ p
          place_out =
              ap (λ (y : Name). place_of s path y.up y.what) (sym (ap (λ (o : Option Call). output_name o j) (w.call_found b call_stmt x (live_block s l) m n) ∙ output_found x.outputs j out.0 out.1))
              ∙ subst (λ (z : ℕ). place_of s ((x.at, Key.Number (pos 0)) ∷ path) z (output j) ≡ p) ez (subst (λ (z : Owned). place_of s ((x.at, Key.Number (pos 0)) ∷ path) up z ≡ p) ej e)

          kind : (IsAlone call_stmt x ⊎ IsHidden s x) → FinishedIn what ((x.at, Key.Number (pos 0)) ∷ path) st
          kind (inl a) =
              let m' : stmt a.at a.node (call_alone a.priority a.parts x) ∈ block_list b = subst (λ (z : Stmt). z ∈ block_list b) a.is m in
              let i' : out.0 ∈ x.outputs = output_in x.outputs j out.0 out.1 in
              let fin : FinishedIn out.0.what path (stmt a.at a.node (call_alone a.priority a.parts x)) = rec out.0.up out.0.what (own m' (inl i')) place_out (stmt a.at a.node (call_alone a.priority a.parts x)) m' in
              let st_in : st ∈ function_body s x.function = subst (λ (o : Option Function). st ∈ stmts_of o) (sym q) i in
              subst (λ (z : Owned). FinishedIn z ((x.at, Key.Number (pos 0)) ∷ path) st) (sym ej) (below_call j out.0 st fin (owner_of i') out.1 refl st_in)
          kind (inr h) =
              let y : out.0 ≡ here h.node = only_one (subst (λ (os : List Name). out.0 ∈ os) h.is (output_in x.outputs j out.0 out.1)) in
              let spot : p ≡ (path, h.node) = sym place_out ∙ ap (λ (z : Name). place_of s path z.up z.what) y ∙ place_here s path h.node in
              absurd (h.undeclared c.block c.there (subst (λ (z : Place). Declares c.block (local z.1)) spot c.declares))

      by : ((up ≡ 0) × (Declares f.body what ⊎ ((j : ℕ) × (what ≡ output j)))) → ((up' : ℕ) (what' : Owned) → Uses b up' what' → place_of s path up' what' ≡ p → (st' : Stmt) → st' ∈ block_list b → FinishedIn what' path st') → FinishedIn what ((x.at, Key.Number (pos 0)) ∷ path) st
      by r rec =
          elim r.1 [
            | inl dd ↦ in_own_block p c (function_block s x.function f q) what dd (subst (λ (z : ℕ). place_of s ((x.at, Key.Number (pos 0)) ∷ path) z what ≡ p) r.0 e) st i
            | inr o ↦ by_output o.0 o.1 r.0 rec
          ]

  pub live_finished : (p : Place) → ClosedIn p → {path : Path} {at n : ℕ} {a : Action} (x : Name) → LiveStmt s K path (stmt at n a) → IsOwnTarget x a → place s path x ≡ p → FinishedIn x.what path (stmt at n a)
  live_finished p c {at = at} {n = n} {a = a} x (in_block l i) m e = frozen p c l x.up x.what (own i m) e (stmt at n a) i

-- finished, by what is done or by what follows from it
module _ (s : Core) (w : NamesFound s) (K : Knowledge) (Done More : Path → Stmt → Type 0) (more : (path : Path) (st : Stmt) → Done path st → More path st) where
  pub finished_more : {a : Owned} {path : Path} {st : Stmt} → FinishedIn s w K Done a path st → FinishedIn s w K More a path st
  finished_more (no_target_in h) = no_target_in h
  finished_more (fill_in d) = fill_in (more _ _ d)
  finished_more (insert_in d) = insert_in (more _ _ d)
  finished_more (body_in f) = body_in (λ j x st e t i. finished_more (f j x st e t i))
  finished_more (blocks_in h f) = blocks_in h (λ vs k b st r o i. finished_more (f vs k b st r o i))
  finished_more (content_in f) = content_in (λ st i. finished_more (f st i))
