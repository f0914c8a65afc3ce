-- The block that owns a name round a block that assigns it, and what single assignment says there: the outputs of one call are different variables.
use Rattle.std.specs.Prelude.{◌≡◌, ℕ, ◌<◌, ℤ, List, Some, slice_get}
use Rattle.std.proofs.Common.{inl, inr, sym, subst, arith}
use Rattle.language.specs.Core.{Owned, local, output, Name, Call, Part, Awaited, stmt, Action, declare, call_alone, assign, fill, insert, print, assert, when, choose, range, each, wait, Block, Function, Core}
use Rattle.language.specs.Members.{◌∈◌, first, later}
use Rattle.language.specs.Parts.{block_list, blocks_of, script_blocks}
use Rattle.language.specs.Single.{SinglyAssigned, simple, IsNamed, Owns, declared_here, an_output, of_range, of_each}
use Rattle.language.specs.WellFormed.{header_blocks, Declares}
use Rattle.language.proofs.Blocks.{header_inner, inner_below, among}
use Rattle.language_laws.proofs.Declared.{output_in}
use Rattle.language_laws.proofs.OneAssign.{function_in, outwards}
use Rattle.language_laws.proofs.Ways.{times_of, times_two, block_way, in_when, in_then, in_else, in_content, Reach, at_once, into, reach_way, reach_within}

module _ (s : Core) (single : SinglyAssigned s) where
  -- the block is reached from the name's owner through no loop, or the name is not assigned in it
  pub data OwnerOf (b : Block) (what : Owned) : Type 0 where
    owned : (o : Block) → Owns s what o → Reach o b → OwnerOf b what
    unnamed : (IsNamed what b → ⊥) → OwnerOf b what

  pub owner_here : {b : Block} {n : ℕ} → b ∈ script_blocks s → Declares b (local n) → OwnerOf b (local n)
  owner_here {b} {n} m d = owned b (subst (λ (o : Owned). Owns s o b) (sym d.is) (declared_here m d.there)) at_once

  pub owner_output : (i : ℕ) (f : Function) (j : ℕ) → slice_get s.functions i ≡ Some f → j < f.outputs → OwnerOf f.body (output j)
  owner_output i f j q l = owned f.body (an_output (function_in s.functions i f q) l) at_once

  pub owner_header : {b c : Block} {what : Owned} {at n : ℕ} (a : Action) → stmt at n a ∈ block_list b → c ∈ header_blocks a → OwnerOf b what → OwnerOf c what
  owner_header a m h (unnamed z) = unnamed (λ x. z (outwards _ (inner_below _ m (header_inner a h)) x))
  owner_header (when x b) m first (owned o w r) = owned o w (into r m in_when)
  owner_header (choose x b d) m first (owned o w r) = owned o w (into r m in_then)
  owner_header (choose x b d) m (later first) (owned o w r) = owned o w (into r m in_else)
  owner_header {what = what} (range lo hi st v k b) m first (owned o w r) = unnamed (λ x. single.outside_loops what o b (inl w) (of_range (reach_within r m)) x)
  owner_header {what = what} (each y v k b) m first (owned o w r) = unnamed (λ x. single.outside_loops what o b (inl w) (of_each (reach_within r m)) x)
  owner_header (when x b) m (later h) (owned o w r) = elim h [ ]
  owner_header (choose x b d) m (later (later h)) (owned o w r) = elim h [ ]
  owner_header (range lo hi st v k b) m (later h) (owned o w r) = elim h [ ]
  owner_header (each y v k b) m (later h) (owned o w r) = elim h [ ]
  owner_header (declare v) m h (owned o w r) = elim h [ ]
  owner_header (call_alone p ps c) m h (owned o w r) = elim h [ ]
  owner_header (assign x e) m h (owned o w r) = elim h [ ]
  owner_header (fill x e) m h (owned o w r) = elim h [ ]
  owner_header (insert x k e) m h (owned o w r) = elim h [ ]
  owner_header (print p e) m h (owned o w r) = elim h [ ]
  owner_header (assert p e) m h (owned o w r) = elim h [ ]
  owner_header (wait ns b) m h (owned o w r) = elim h [ ]

  pub owner_wait : {b c : Block} {what : Owned} {at n : ℕ} {ns : List Awaited} → stmt at n (wait ns c) ∈ block_list b → OwnerOf b what → OwnerOf c what
  owner_wait m (owned o w r) = owned o w (into r m in_content)
  owner_wait m (unnamed z) = unnamed (λ x. z (outwards _ (inner_below _ m first) x))

  -- two outputs of a call are two variables
  pub outputs_apart : {b : Block} {what : Owned} {at n : ℕ} {p : ℤ} {ps : List Part} {c : Call} → OwnerOf b what → stmt at n (call_alone p ps c) ∈ block_list b
      → (j j' : ℕ) (x x' : Name) → slice_get c.outputs j ≡ Some x → slice_get c.outputs j' ≡ Some x' → x.what ≡ what → x'.what ≡ what → j ≡ j'
  outputs_apart {b} {what} {at} {n} {p} {ps} {c} (unnamed z) m j j' x x' e e' q q' =
      absurd (z (record { st = stmt at n (call_alone p ps c); target = x; there = among (blocks_of b) first m; assigns = output_in c.outputs j x e; is = q }))
  outputs_apart {b} {what} {at} {n} {p} {ps} {c} (owned o w r) m j j' x x' e e' q q' =
      let t = times_of what c.outputs in
      elim (times_two c.outputs t.1 j j' x x' e e' q q') [
        | inl h ↦ h
        | inr l ↦ (let g = block_way what b m (simple {at = at} {n = n} {a = call_alone p ps c} tt t.1) in
            let y = reach_way r g.1 in
            let few = single.once what o y.0 w y.1 in
            let k = g.2 in
            let i = y.2 in
            absurd (omega arith))
      ]
