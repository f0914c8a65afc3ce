-- A block that is finished by what a program takes is done, where all that is ready is open.
use Rattle.std.specs.Prelude.{◌≡◌, ℕ, ◌+◌, ◌<◌, ℤ, pos, Bool, true, false, not, List, [], ◌∷◌, length, nat_le, is_some, Option, Some, None, slice_get, if◌then◌else◌, refl}
use Rattle.std.proofs.Common.{arith, sym, ap, ◌∙◌, subst}
use Rattle.std.proofs.lemmas.Bool.Decides.{nat_tests}
use Rattle.values.specs.declared.key.Key.{Key}
use Rattle.values.specs.declared.value.Scalar.{Scalar}
use Rattle.values.specs.declared.value.Value.{Value}
use Rattle.language.specs.Core.{Owned, output, Name, Part, Call, calls, Stmt, stmt, Action, call_alone, fill, insert, when, choose, range, each, wait, Block, Function, Core}
use Rattle.language.specs.Facts.{Knowledge, IsKey, a_number, a_text, value, element}
use Rattle.language.specs.Meaning.{IsTarget}
use Rattle.language.specs.Members.{◌∈◌, first}
use Rattle.language.specs.Openings.{Branches, Opens}
use Rattle.language.specs.Parts.{block_list, function_body, part_calls, stmt_calls, stmts_of}
use Rattle.language.specs.Places.{Path, place, max_path_steps}
use Rattle.language.proofs.Members.{to_right}
use Rattle.language_laws.proofs.Declared.{stmt_in}
use Rattle.meaning_steps.specs.News.{Past}
use Rattle.meaning_steps.specs.Taken.{FinishedBy, no_target_by, value_by, write_by, body_by, blocks_by, content_by, ReadyBy}
use Rattle.meaning_steps.proofs.Settled.{ready_so}
use Rattle.meaning_facts.specs.declared.fact_base.FactBase.{FactBase}
use Rattle.meaning_cells.specs.Chosen.{Chosen, block_in, is_other, count_in, have_come_in, key_in}
use Rattle.meaning_cells.specs.Ending.{Goal, Goals, action_goals, block_goals, body_goals, child_goals, choice_goals, function_goals, header_goals, inserted_by, is_inserted_in, IsDone, output_goals, statement_goals, where_aimed}
use Rattle.meaning_facts.specs.Growing.{KeepsFacts}
use Rattle.meaning_facts.specs.Keeping.{kept_of, past_of, IsPlaced}
use Rattle.meaning_facts.specs.Paths.{child_at, path_of}
use Rattle.meaning_facts.specs.Sighted.{sight_of}
use Rattle.meaning_facts.specs.Store.{value_at}
use Rattle.meaning_cells.specs.Taking.{SeesBy}
use Rattle.meaning_cells.specs.Targeted.{aims_of}
use Rattle.meaning_facts.proofs.Keeping.{recalls_kept}
use Rattle.meaning_cells.proofs.Parting.{calls_append}
use Rattle.meaning_cells.proofs.Readying.{HasChosen, ready_chosen}
use Rattle.meaning_invariants.specs.Active.{Active, active, taken_by, HasIndexes, IsAllOpen, IsRight}
use Rattle.meaning_invariants.proofs.Aiming.{aimed_so}
use Rattle.meaning_invariants.proofs.Done.{AllDone, done_none, done_one, done_where, done_block, done_goal, done_turns, done_outputs}
use Rattle.meaning_invariants.proofs.EndedRight.{right_apart, right_so}
use Rattle.meaning_invariants.proofs.Sights.{sees, come_all, ready_names}

done_aimed : {s : Core} {l : FactBase} (b : Bool) (o : Goals) → AllDone s l o → AllDone s l (where_aimed b o)
done_aimed true o x = x
done_aimed false o x = done_none

not_below : (n : ℕ) → n < max_path_steps → not (nat_le max_path_steps n) ≡ true
not_below n h = grind (arith, nat_tests, h)

some_true : {X : Type 0} (o : Option X) (x : X) → o ≡ Some x → is_some o ≡ true
some_true o x e = ap is_some e

-- the block that a header opens does not hang on the turn
block_some : (header : Action) (c : Chosen) → Branches header → (b : Block) × (block_in header c ≡ Some b)
block_some (when o b) c h = (b, refl)
block_some (choose o b d) c h = by (is_other c)
  where
    by : (z : Bool) → (x : Block) × ((if z then Some d else Some b) ≡ Some x)
    by true = (d, refl)
    by false = (b, refl)
block_some (range lo hi st x t b) c h = (b, refl)
block_some (each a x t b) c h = (b, refl)
block_some _ c h = elim h [ ]

of_header : (s : Core) (l : FactBase) (i : ℕ) (a : Owned) (at n : ℕ) (header : Action) → Branches header → AllDone s l (header_goals l i a at header) → AllDone s l (action_goals s l i a at n header)
of_header s l i a at n (when c b) h x = x
of_header s l i a at n (choose c b d) h x = x
of_header s l i a at n (range lo hi st v t b) h x = x
of_header s l i a at n (each v y t b) h x = x
of_header s l i a at n _ h x = elim h [ ]

untargeted : (s : Core) (l : FactBase) (i : ℕ) (a : Owned) (st : Stmt) → (IsTarget a st → ⊥) → AllDone s l (statement_goals s l i a st)
untargeted s l i a (stmt at n action) h = by (aims_of a action) refl
  where
    by : (b : Bool) → aims_of a action ≡ b → AllDone s l (where_aimed (aims_of a action) (action_goals s l i a at n action))
    by false e = subst (λ (z : Bool). AllDone s l (where_aimed z (action_goals s l i a at n action))) (sym e) done_none
    by true e = absurd (h (aimed_so a action e))

alone_there : (at n : ℕ) (p : ℤ) (ps : List Part) (c : Call) → c ∈ stmt_calls (stmt at n (call_alone p ps c))
alone_there at n p ps c = subst (λ (z : List Call). c ∈ z) (sym (calls_append ps (calls c ∷ []))) (to_right (part_calls ps) (c ∷ []) first)

module _ (s : Core) (K : Knowledge) (l : FactBase) (ls : List Active) (placed : IsPlaced s l.instances) (keeps : KeepsFacts K l) (right : IsRight s K l ls)
    (open_all : IsAllOpen s K l ls) (indexes : HasIndexes s K) where
  abbrev At : ℕ → Path
  At i = path_of l.instances.all.items i

  abbrev Within : ℕ → Type 0
  Within i = i < length l.instances.all.items

  abbrev sight : (i : ℕ) → Within i → SeesBy s K (taken_by l ls) (At i) (sight_of l i)
  sight i within = sees s K l ls placed keeps (right_apart s K l ls right) i within

  -- a header

  done_header : (i at n : ℕ) (a : Owned) (header : Action) (vs : List Value) → Within i → active i (stmt at n header) ∈ ls → Branches header → ReadyBy s K (taken_by l ls) (At i) header vs
      → ((k : Key) (b : Block) → Opens header vs k b → length (At i) < max_path_steps)
      → ((k : Key) (b : Block) (st : Stmt) → Opens header vs k b → st ∈ block_list b → (j : ℕ) → Within j → At j ≡ (at, k) ∷ At i → active j st ∈ ls → AllDone s l (statement_goals s l j a st))
      → AllDone s l (header_goals l i a at header)
  done_header i at n a header vs within there branches ready fits rest =
      let r = ready_chosen s K (taken_by l ls) (At i) (sight_of l i) (sight i within) header vs branches ready in
      let b = block_some header r.choice branches in
      subst (λ (z : Option Chosen). AllDone s l (choice_goals l i a at header z)) (sym r.chosen_is)
      (subst (λ (z : Option Block). AllDone s l (block_goals l i a at r.choice z)) (sym b.1)
      (done_turns s l i a at b.0 r.choice 0 (count_in r.choice) (λ t p q. one r b.0 b.1 t (omega (arith, q)))))
    where
      one : (r : HasChosen (sight_of l i) header vs) (b : Block) → block_in header r.choice ≡ Some b → (t : ℕ) → t < count_in r.choice
          → AllDone s l (child_goals (child_at l.instances i at (key_in r.choice t)) a b)
      one r b e t w =
          let o = r.opens.so t b w e in
          let k = key_in r.choice t in
          let h = open_all.blocks i at n header r.choice vs k b there r.chosen_is (ready_so s K (taken_by l ls) (right_so s K l ls keeps right) ready) o (fits k b o) in
          let child = placed.tree.opens i at k h.instance h.opened in
          let goal : Goal = record { instance = h.instance; what = a; block = b } in
          subst (λ (z : Option ℕ). AllDone s l (child_goals z a b)) (sym h.opened)
          (done_one (record { instance = h.instance; what = a; block = b })
          (done_goal (record { instance = h.instance; what = a; block = b }) (done_block s l h.instance a b (λ st m. rest k b st o m h.instance child.within child.path_is (h.listed st m)))))

  -- a call

  done_body : (i at n : ℕ) (a : Owned) (p : ℤ) (ps : List Part) (c : Call) → Within i → active i (stmt at n (call_alone p ps c)) ∈ ls → length (At i) < max_path_steps
      → ((t : ℕ) (x : Name) (st : Stmt) → slice_get c.outputs t ≡ Some x → x.what ≡ a → st ∈ function_body s c.function
      → (j : ℕ) → Within j → At j ≡ (c.at, Key.Number (pos 0)) ∷ At i → active j st ∈ ls → AllDone s l (statement_goals s l j (output t) st))
      → (o : Option Function) → slice_get s.functions c.function ≡ o → AllDone s l (function_goals l i a c o)
  done_body i at n a p ps c within there fits rest None found =
      done_where (not (nat_le max_path_steps (length (At i)))) [] (not_below (length (At i)) fits) done_none
  done_body i at n a p ps c within there fits rest (Some f) found =
      let h = open_all.calls i (stmt at n (call_alone p ps c)) c f there (alone_there at n p ps c) found fits in
      let child = placed.tree.opens i c.at (Key.Number (pos 0)) h.instance h.opened in
      subst (λ (z : Option ℕ). AllDone s l (body_goals z a f.body c.outputs)) (sym h.opened)
      (record {
        goals = output_goals h.instance a f.body 0 c.outputs;
        is = refl;
        each = done_outputs s l h.instance a f.body 0 c.outputs (λ t x e q. by h.instance child.within child.path_is h.listed t x e q);
      })
    where
      by : (j : ℕ) → Within j → At j ≡ (c.at, Key.Number (pos 0)) ∷ At i → ((st : Stmt) → st ∈ block_list f.body → active j st ∈ ls) → (t : ℕ) (x : Name) → slice_get c.outputs t ≡ Some x → x.what ≡ a
          → IsDone s l (record { instance = j; what = output (0 + t); block = f.body })
      by j w e listed t x g q =
          let at : t ≡ 0 + t = omega arith in
          subst (λ (z : ℕ). IsDone s l (record { instance = j; what = output z; block = f.body })) at
          (done_goal (record { instance = j; what = output t; block = f.body })
          (done_block s l j (output t) f.body (λ st m. rest t x st g q (subst (λ (z : Option Function). st ∈ stmts_of z) (sym found) m) j w e (listed st m))))

  -- an element

  inserted_key : (i n : ℕ) (x : Name) {u : Value} {key : Key} → IsKey u key → inserted_by l i x n (Some u) ≡ (past_of l i).written x key n
  inserted_key i n x a_number = refl
  inserted_key i n x a_text = refl

  done_write : (i n : ℕ) (x : Name) (node : ℕ) (key : Key) (u : Value) (v : Scalar) → Within i → IsKey u key → K (value (At i, node) u) → K (element (place s (At i) x) key (At i, n) v)
      → is_inserted_in l i x node n ≡ true
  done_write i n x node key u v within is k w =
      let seen : value_at l.facts (record { instance = i; node = node }) ≡ Some u = (sight i within).cell_all node u k in
      let told : (kept_of l).written (place s (At i) x) key (At i, n) ≡ true = keeps.written_all (place s (At i) x) key (At i, n) v w in
      let written : (past_of l i).written x key n ≡ true = subst (λ (m : Past). m.written x key n ≡ true) (sym (recalls_kept s l placed i within)) told in
      ap (inserted_by l i x n) seen ∙ inserted_key i n x is ∙ written

  -- STATEMENTS
  pub done_statement : {a : Owned} {path : Path} {st : Stmt} → FinishedBy s K (taken_by l ls) a path st → (i : ℕ) → Within i → At i ≡ path → active i st ∈ ls → AllDone s l (statement_goals s l i a st)
  done_statement (no_target_by {a = a} {st = st} h) i within p there = untargeted s l i a st h
  done_statement (value_by {a = a} {path = path} {at = at} {n = n} {x = x} {c = c} {v = v} k) i within p there =
      let known : K (value (At i, c.cell.node) v) = subst (λ (z : Path). K (value (z, c.cell.node) v)) (sym p) k in
      done_aimed (aims_of a (fill x c)) (action_goals s l i a at n (fill x c))
      (done_where (is_some (value_at l.facts (record { instance = i; node = c.cell.node }))) [] (ap is_some ((sight i within).cell_all c.cell.node v known)) done_none)
  done_statement (write_by {a = a} {path = path} {at = at} {n = n} {x = x} {i = index} {c = c} {k = key} {v = v} w) i within p there =
      let write : K (element (place s (At i) x) key (At i, n) v) = subst (λ (z : Path). K (element (place s z x) key (z, n) v)) (sym p) w in
      let known = indexes.index (At i) at n x index c key v (stmt_in s (right.live (active i (stmt at n (insert x index c))) there)) write in
      done_aimed (aims_of a (insert x index c)) (action_goals s l i a at n (insert x index c))
      (done_where (is_inserted_in l i x index.cell.node n) [] (done_write i n x index.cell.node key known.0 v within known.2 known.1 write) done_none)
  done_statement (body_by {a = a} {path = path} {at = at} {n = n} {p = priority} {ps = ps} {c = c} fits fs) i within p there =
      done_aimed (aims_of a (call_alone priority ps c)) (action_goals s l i a at n (call_alone priority ps c))
      (done_body i at n a priority ps c within there (subst (λ (z : Path). length z < max_path_steps) (sym p) fits)
      (λ t x st e q m j w g h. done_statement (fs t x st e q m) j w (g ∙ ap (λ (z : Path). (c.at, Key.Number (pos 0)) ∷ z) p) h)
      (slice_get s.functions c.function) refl)
  done_statement (blocks_by {a = a} {path = path} {at = at} {n = n} {header = header} {vs = vs} branches ready fits fs) i within p there =
      done_aimed (aims_of a header) (action_goals s l i a at n header)
      (of_header s l i a at n header branches
      (done_header i at n a header vs within there branches (subst (λ (z : Path). ReadyBy s K (taken_by l ls) z header vs) (sym p) ready)
      (λ k b o. subst (λ (z : Path). length z < max_path_steps) (sym p) (fits k b o))
      (λ k b st o m j w g h. done_statement (fs k b st o m) j w (g ∙ ap (λ (z : Path). (at, k) ∷ z) p) h)))
  done_statement (content_by {a = a} {path = path} {at = at} {n = n} {ns = ns} {b = b} ready fs) i within p there =
      let come : have_come_in (sight_of l i) ns ≡ true = come_all s l ls placed i within ns (ready_names (subst (λ (z : Path). ReadyBy s K (taken_by l ls) z (wait ns b) []) (sym p) ready)) in
      done_aimed (aims_of a (wait ns b)) (action_goals s l i a at n (wait ns b))
      (done_where (have_come_in (sight_of l i) ns) (record { instance = i; what = a; block = b } ∷ []) come
      (done_one (record { instance = i; what = a; block = b })
      (done_goal (record { instance = i; what = a; block = b }) (done_block s l i a b (λ st m. done_statement (fs st m) i within p (open_all.waits i at n ns b st there come m))))))

  -- BLOCKS
  pub done_by : (g : Goal) → Within g.instance → ((st : Stmt) → st ∈ block_list g.block → active g.instance st ∈ ls)
      → ((st : Stmt) → st ∈ block_list g.block → FinishedBy s K (taken_by l ls) g.what (At g.instance) st) → IsDone s l g
  done_by g within listed fs = done_goal g (done_block s l g.instance g.what g.block (λ st m. done_statement (fs st m) g.instance within refl (listed st m)))
