-- The flow of an accepted script is whole.
use Rattle.std.specs.Prelude.{◌≡◌, ℕ, zero, suc, ◌<◌, List, [], ◌∷◌, map, length, Some, slice_get, refl}
use Rattle.std.proofs.Common.{subst, arith}
use Rattle.language.specs.Core.{Owned, local, input, output, Name, Action, declare, call_alone, assign, fill, insert, print, assert, when, choose, range, each, wait, Block, stmt, Function, Core}
use Rattle.language.specs.Members.{◌∈◌, first, later}
use Rattle.language.specs.Parts.{script_blocks}
use Rattle.language.specs.Resolved.{core}
use Rattle.language.specs.Table.{Table}
use Rattle.language.specs.Tree.{Tree}
use Rattle.language.specs.Typing.{WellTyped}
use Rattle.language.specs.WellFormed.{header_blocks}
use Rattle.language.proofs.Blocks.{header_inner, inner_block, main_block, function_block, among_script}
use Rattle.language.proofs.Tested as tested
use Rattle.language.proofs.Tested.{distinct_right, flat}
use Rattle.language.specs.Distinct.{distinct}
use Rattle.language.proofs.TreeNumbers.{distinct_few, in_times}
use Rattle.language_laws.proofs.TreeNodes.{nodes_once}
use Rattle.language_accepted.specs.Placed.{IsPlaced}
use Rattle.language_accepted.proofs.Formed.{scoped}
use Rattle.language_accepted.proofs.Once.{rising_once}
use Rattle.flow.specs.Names.{Opened, opens}
use Rattle.flow.specs.Whole.{Owner, Declares, IsDeclared, IsWithin, of_script, of_function, in_wait, opened, IsWhole}
use Rattle.flow_laws.proofs.Blocks.{Has, Stands, clear_at, within_clear}
use Rattle.flow_laws.proofs.Few.{same_times, OwnersFew, owners_few}

-- what an owner has, it declares once
declared : (os : List Owner) (x : Name) → ((n : ℕ) → OwnersFew n os) → Stands os x → IsDeclared os x
declared os x few s = record { owner = s.owner; there = s.there; declares = by x.what s.has }
  where
    by : (w : Owned) → Has s.owner w → Declares s.owner w
    by (local n) h = let a = same_times n s.owner.nodes in let b = in_times h in let c = few n x.up s.owner s.there in omega arith
    by (input i) h = h
    by (output i) h = h

opened_headers : (a : Action) → map (λ (o : Opened). o.block) (opens a) ≡ header_blocks a
opened_headers (declare v) = refl
opened_headers (call_alone p ps c) = refl
opened_headers (assign x e) = refl
opened_headers (fill x e) = refl
opened_headers (insert x k e) = refl
opened_headers (print p e) = refl
opened_headers (assert p e) = refl
opened_headers (when c b) = refl
opened_headers (choose c b d) = refl
opened_headers (range lo hi st v k b) = refl
opened_headers (each x v k b) = refl
opened_headers (wait xs b) = refl

opened_in : (os : List Opened) (o : Opened) → o ∈ os → o.block ∈ map (λ (p : Opened). p.block) os
opened_in [] o m = elim m [ ]
opened_in (p ∷ os) o first = first
opened_in (p ∷ os) o (later m) = later (opened_in os o m)

within_script : (s : Core) {os : List Owner} {b : Block} → IsWithin s os b → b ∈ script_blocks s
within_script s of_script = main_block s
within_script s (of_function i {f = f} e) = function_block s i f e
within_script s (in_wait w m) = inner_block s (within_script s w) m first
within_script s (opened {a = a} {o = o} w m i) = inner_block s (within_script s w) m (header_inner a (subst (λ (bs : List Block). o.block ∈ bs) (opened_headers a) (opened_in (opens a) o i)))

found_below : (fs : List Function) (i : ℕ) (f : Function) → slice_get fs i ≡ Some f → i < length fs
found_below [] zero f e = absurd (cc (e))
found_below [] (suc i) f e = absurd (cc (e))
found_below (g ∷ fs) zero f e = omega arith
found_below (g ∷ fs) (suc i) f e = let r = found_below fs i f e in omega arith

-- THE CORE IS WHOLE
pub accepted_whole : (t : Table) (tree : Tree) → IsPlaced tree → WellTyped tree t → IsWhole (core t tree)
accepted_whole t tree place typed =
    let s : Core = core t tree in
    let held = scoped t tree place.in_order typed in
    let once = distinct_right (0 ∷ []) (flat tested.block_nodes (script_blocks s)) (nodes_once t tree (rising_once tree place.in_order)) in
    record {
      names = λ os b at n a x w m i. declared os x (λ k. owners_few k s (distinct_few (flat tested.block_nodes (script_blocks s)) once k) w) ((clear_at os b (within_clear t tree typed w) m).0 x i);
      functions = λ os b at n a c w m i. (let r = held.calls (stmt at n a) c (among_script s (within_script s w) m) i in found_below s.functions c.function r.0 r.1);
    }
