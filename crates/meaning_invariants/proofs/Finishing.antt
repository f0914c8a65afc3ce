-- A block that is done is finished by what a program takes.
use Rattle.std.specs.Prelude.{◌≡◌, ℕ, ◌<◌, ℤ, pos, Bool, true, false, not, List, [], ◌∷◌, length, nat_le, is_some, Option, Some, None, slice_get, refl}
use Rattle.std.proofs.Common.{arith, sym, ap, ◌∙◌, subst}
use Rattle.std.proofs.lemmas.Bool.Decides.{nat_tests}
use Rattle.values.specs.declared.key.Key.{Key}
use Rattle.values.specs.declared.value.Scalar.{Scalar}
use Rattle.values.specs.declared.value.Value.{Value}
use Rattle.values.specs.declared.value.Value.TheVariants.{One, Many}
use Rattle.language.specs.Core.{Owned, output, Name, Part, Call, Outer, Awaited, Stmt, stmt, Action, declare, call_alone, assign, fill, insert, print, assert, when, choose, range, each, wait, Block, Function, Core}
use Rattle.language.specs.Facts.{Knowledge, OneWriter}
use Rattle.language.specs.Members.{◌∈◌, first}
use Rattle.language.specs.Openings.{Branches}
use Rattle.language.specs.Parts.{block_list, stmts_of}
use Rattle.language.specs.Places.{Path, Place, place, max_path_steps}
use Rattle.meaning_steps.specs.News.{Past}
use Rattle.meaning_steps.specs.Taken.{FinishedBy, no_target_by, value_by, write_by, body_by, blocks_by, content_by, by_names}
use Rattle.meaning_facts.specs.declared.fact_base.FactBase.{FactBase}
use Rattle.meaning_cells.specs.Chosen.{Chosen, block_in, chosen_in, count_in, have_come_in, key_in}
use Rattle.meaning_cells.specs.Ending.{Goal, action_goals, block_goals, body_goals, choice_goals, function_goals, inserted_by, IsDone, done, is_inserted_in, statement_goals, turn_goals, where_aimed, where_so, output_goals}
use Rattle.meaning_facts.specs.Growing.{KeepsFacts}
use Rattle.meaning_facts.specs.Keeping.{kept_of, IsPlaced}
use Rattle.meaning_facts.specs.Paths.{child_at, path_of}
use Rattle.meaning_facts.specs.Sighted.{sight_of}
use Rattle.meaning_facts.specs.Store.{is_written_in, spot, value_at, writes_at}
use Rattle.meaning_cells.specs.Targeted.{aims_of}
use Rattle.meaning_facts.proofs.Keeping.{recalls_kept}
use Rattle.meaning_cells.proofs.Readying.{chosen_ready}
use Rattle.meaning_invariants.specs.Active.{Active, taken_by}
use Rattle.meaning_invariants.proofs.Aiming.{aimed_all}
use Rattle.meaning_invariants.proofs.Parts.{part_of_block, part_of_turns, Child, child_of, output_first, where_parts}
use Rattle.meaning_invariants.proofs.Sights.{sees, come_so, some_is}

below : (n : ℕ) → not (nat_le max_path_steps n) ≡ true → n < max_path_steps
below n e = grind (arith, nat_tests, e)

module _ (s : Core) (K : Knowledge) (l : FactBase) (ls : List Active) (placed : IsPlaced s l.instances) (keeps : KeepsFacts K l)
    (apart : (a : Place) → (kept_of l).closed a ≡ true → OneWriter K a) where
  abbrev At : ℕ → Path
  At i = path_of l.instances.all.items i

  -- what is to be shown of a goal
  abbrev Ended : Goal → Type 0
  Ended h = h.instance < length l.instances.all.items → (x : Stmt) → x ∈ block_list h.block → FinishedBy s K (taken_by l ls) h.what (At h.instance) x

  -- an instance that was opened stands at a path that is not too long
  pub not_deep : (i at : ℕ) (k : Key) (j : ℕ) → child_at l.instances i at k ≡ Some j → length (At i) < max_path_steps
  not_deep i at k j e =
      let c = placed.tree.opens i at k j e in
      let longer : length (At j) ≡ length ((at, k) ∷ At i) = ap length c.path_is in
      omega (arith, longer, placed.tree.short j)

  by_fill : (i at n : ℕ) (a : Owned) (x : Name) (c : Outer) → i < length l.instances.all.items → is_some (value_at l.facts (record { instance = i; node = c.cell.node })) ≡ true
      → FinishedBy s K (taken_by l ls) a (At i) (stmt at n (fill x c))
  by_fill i at n a x c within e =
      let v = some_is (value_at l.facts (record { instance = i; node = c.cell.node })) e in
      value_by {v = v.0} ((sees s K l ls placed keeps apart i within).cell_so c.cell.node v.0 v.1)

  by_write : (i at n : ℕ) (a : Owned) (x : Name) (k c : Outer) (key : Key) → i < length l.instances.all.items
      → is_written_in (writes_at l.facts (spot l.instances.all.items i x)) key (record { instance = i; node = n }) ≡ true → FinishedBy s K (taken_by l ls) a (At i) (stmt at n (insert x k c))
  by_write i at n a x k c key within e =
      let told : (kept_of l).written (place s (At i) x) key (At i, n) ≡ true = subst (λ (z : Past). z.written x key n ≡ true) (recalls_kept s l placed i within) e in
      let r = keeps.written_so (place s (At i) x) key (At i, n) told in
      write_by {k = key} {v = r.0} r.1

  by_insert : (i at n : ℕ) (a : Owned) (x : Name) (k c : Outer) → i < length l.instances.all.items → (o : Option Value) → inserted_by l i x n o ≡ true
      → FinishedBy s K (taken_by l ls) a (At i) (stmt at n (insert x k c))
  by_insert i at n a x k c within (Some (One (Scalar.Number z))) e = by_write i at n a x k c (Key.Number z) within e
  by_insert i at n a x k c within (Some (One (Scalar.Text t))) e = by_write i at n a x k c (Key.Text t) within e
  by_insert i at n a x k c within (Some (One (Scalar.Truth t))) e = absurd (cc (e))
  by_insert i at n a x k c within (Some (Many es)) e = absurd (cc (e))
  by_insert i at n a x k c within None e = absurd (cc (e))

  -- CALLS

  by_body : (i at n : ℕ) (a : Owned) (p : ℤ) (ps : List Part) (c : Call) (f : Function) → i < length l.instances.all.items → slice_get s.functions c.function ≡ Some f
      → (o : Option ℕ) → child_at l.instances i c.at (Key.Number (pos 0)) ≡ o → (hs : List Goal) → body_goals o a f.body c.outputs ≡ Some hs → ((h : Goal) → h ∈ hs → Ended h)
      → FinishedBy s K (taken_by l ls) a (At i) (stmt at n (call_alone p ps c))
  by_body i at n a p ps c f within found None e hs q ended = absurd (cc (q))
  by_body i at n a p ps c f within found (Some j) e hs q ended =
      let child = placed.tree.opens i c.at (Key.Number (pos 0)) j e in
      let same : output_goals j a f.body 0 c.outputs ≡ hs = cc (q) in
      body_by (not_deep i c.at (Key.Number (pos 0)) j e) (λ t x st there what m.
      (let goal : Goal = record { instance = j; what = output t; block = f.body } in
      let among : record { instance = j; what = output t; block = f.body } ∈ hs = subst (λ (z : List Goal). record { instance = j; what = output t; block = f.body } ∈ z) same (output_first j a f.body c.outputs t x there what) in
      let inside : st ∈ block_list f.body = subst (λ (z : Option Function). st ∈ stmts_of z) found m in
      subst (λ (z : Path). FinishedBy s K (taken_by l ls) (output t) z st) child.path_is (ended (record { instance = j; what = output t; block = f.body }) among child.within st inside)))

  by_call : (i at n : ℕ) (a : Owned) (p : ℤ) (ps : List Part) (c : Call) → i < length l.instances.all.items → (o : Option Function) → slice_get s.functions c.function ≡ o
      → (hs : List Goal) → function_goals l i a c o ≡ Some hs → ((h : Goal) → h ∈ hs → Ended h) → FinishedBy s K (taken_by l ls) a (At i) (stmt at n (call_alone p ps c))
  by_call i at n a p ps c within (Some f) found hs q ended = by_body i at n a p ps c f within found (child_at l.instances i c.at (Key.Number (pos 0))) refl hs q ended
  by_call i at n a p ps c within None found hs q ended =
      body_by (below (length (At i)) (where_parts (not (nat_le max_path_steps (length (At i)))) [] hs q).0)
      (λ t x st there what m. (let none : st ∈ [] = subst (λ (z : Option Function). st ∈ stmts_of z) found m in elim none [ ]))

  -- HEADERS

  by_turns : (i at n : ℕ) (a : Owned) (header : Action) (c : Chosen) (b : Block) → i < length l.instances.all.items → Branches header → chosen_in (sight_of l i) header ≡ Some c → block_in header c ≡ Some b
      → (hs : List Goal) → turn_goals l i a at b c 0 (count_in c) ≡ Some hs → ((h : Goal) → h ∈ hs → Ended h) → FinishedBy s K (taken_by l ls) a (At i) (stmt at n header)
  by_turns i at n a header c b within branches chosen block hs q ended =
      let r = chosen_ready s K (taken_by l ls) (At i) (sight_of l i) (sees s K l ls placed keeps apart i within) header c chosen in
      blocks_by branches r.ready
      (λ k d o. (let x = r.opens.all k d o in let child = turn x.index x.below in not_deep i at (key_in c x.index) child.instance child.is))
      (λ k d st o m.
      (let x = r.opens.all k d o in
      let child = turn x.index x.below in
      let is = placed.tree.opens i at (key_in c x.index) child.instance child.is in
      let same : d ≡ b = cc (x.block_is, block) in
      let inside : st ∈ block_list b = subst (λ (z : Block). st ∈ block_list z) same m in
      let there = ended (record { instance = child.instance; what = a; block = b }) child.there is.within st inside in
      subst (λ (z : Key). FinishedBy s K (taken_by l ls) a ((at, z) ∷ At i) st) x.key_is (subst (λ (z : Path). FinishedBy s K (taken_by l ls) a z st) is.path_is there)))
    where
      turn : (t : ℕ) → t < count_in c → Child (child_at l.instances i at (key_in c t)) a b hs
      turn t w = child_of (child_at l.instances i at (key_in c t)) a b hs (part_of_turns l i a at b c 0 (count_in c) hs q t (omega arith) (omega (arith, w)))

  by_block : (i at n : ℕ) (a : Owned) (header : Action) (c : Chosen) → i < length l.instances.all.items → Branches header → chosen_in (sight_of l i) header ≡ Some c → (o : Option Block) → block_in header c ≡ o
      → (hs : List Goal) → block_goals l i a at c o ≡ Some hs → ((h : Goal) → h ∈ hs → Ended h) → FinishedBy s K (taken_by l ls) a (At i) (stmt at n header)
  by_block i at n a header c within branches chosen (Some b) block hs q ended = by_turns i at n a header c b within branches chosen block hs q ended
  by_block i at n a header c within branches chosen None block hs q ended = absurd (cc (q))

  by_header : (i at n : ℕ) (a : Owned) (header : Action) → i < length l.instances.all.items → Branches header → (o : Option Chosen) → chosen_in (sight_of l i) header ≡ o
      → (hs : List Goal) → choice_goals l i a at header o ≡ Some hs → ((h : Goal) → h ∈ hs → Ended h) → FinishedBy s K (taken_by l ls) a (At i) (stmt at n header)
  by_header i at n a header within branches (Some c) chosen hs q ended = by_block i at n a header c within branches chosen (block_in header c) refl hs q ended
  by_header i at n a header within branches None chosen hs q ended = absurd (cc (q))

  by_wait : (i at n : ℕ) (a : Owned) (ns : List Awaited) (b : Block) → i < length l.instances.all.items
      → (hs : List Goal) → where_so (have_come_in (sight_of l i) ns) (record { instance = i; what = a; block = b } ∷ []) ≡ Some hs → ((h : Goal) → h ∈ hs → Ended h)
      → FinishedBy s K (taken_by l ls) a (At i) (stmt at n (wait ns b))
  by_wait i at n a ns b within hs q ended =
      let r = where_parts (have_come_in (sight_of l i) ns) (record { instance = i; what = a; block = b } ∷ []) hs q in
      let among : record { instance = i; what = a; block = b } ∈ hs = subst (λ (z : List Goal). record { instance = i; what = a; block = b } ∈ z) r.1 first in
      content_by (by_names (come_so s l ls placed i within ns r.0)) (λ st m. ended (record { instance = i; what = a; block = b }) among within st m)

  -- STATEMENTS

  by_action : (i at n : ℕ) (a : Owned) (action : Action) → i < length l.instances.all.items → (hs : List Goal) → action_goals s l i a at n action ≡ Some hs → ((h : Goal) → h ∈ hs → Ended h)
      → FinishedBy s K (taken_by l ls) a (At i) (stmt at n action)
  by_action i at n a (fill x c) within hs q ended = by_fill i at n a x c within (where_parts (is_some (value_at l.facts (record { instance = i; node = c.cell.node }))) [] hs q).0
  by_action i at n a (insert x k c) within hs q ended =
      by_insert i at n a x k c within (value_at l.facts (record { instance = i; node = k.cell.node })) (where_parts (is_inserted_in l i x k.cell.node n) [] hs q).0
  by_action i at n a (call_alone p ps c) within hs q ended = by_call i at n a p ps c within (slice_get s.functions c.function) refl hs q ended
  by_action i at n a (when c b) within hs q ended = by_header i at n a (when c b) within tt (chosen_in (sight_of l i) (when c b)) refl hs q ended
  by_action i at n a (choose c b d) within hs q ended = by_header i at n a (choose c b d) within tt (chosen_in (sight_of l i) (choose c b d)) refl hs q ended
  by_action i at n a (range lo hi st x t b) within hs q ended = by_header i at n a (range lo hi st x t b) within tt (chosen_in (sight_of l i) (range lo hi st x t b)) refl hs q ended
  by_action i at n a (each x v t b) within hs q ended = by_header i at n a (each x v t b) within tt (chosen_in (sight_of l i) (each x v t b)) refl hs q ended
  by_action i at n a (wait ns b) within hs q ended = by_wait i at n a ns b within hs q ended
  by_action i at n a (declare v) within hs q ended = absurd (cc (q))
  by_action i at n a (assign x e) within hs q ended = absurd (cc (q))
  by_action i at n a (print p e) within hs q ended = absurd (cc (q))
  by_action i at n a (assert p e) within hs q ended = absurd (cc (q))

  by_statement : (i : ℕ) (a : Owned) (st : Stmt) → i < length l.instances.all.items → (hs : List Goal) → statement_goals s l i a st ≡ Some hs → ((h : Goal) → h ∈ hs → Ended h)
      → FinishedBy s K (taken_by l ls) a (At i) st
  by_statement i a (stmt at n action) within hs q ended = by (aims_of a action) refl
    where
      by : (b : Bool) → aims_of a action ≡ b → FinishedBy s K (taken_by l ls) a (At i) (stmt at n action)
      by false e = no_target_by (λ m. (let never : true ≡ false = sym (aimed_all a action m) ∙ e in cc (never)))
      by true e = by_action i at n a action within hs (sym (ap (λ (z : Bool). where_aimed z (action_goals s l i a at n action)) e) ∙ q) ended

  -- BLOCKS
  pub finished : (g : Goal) → IsDone s l g → Ended g
  finished g (done {gs = gs} e all) within st m =
      let r = part_of_block s l g.instance g.what g.block gs e st m in
      by_statement g.instance g.what st within r.goals r.is (λ h q. finished h (all h (r.within h q)))
