-- Faults of an entry's expression are the script's: that of the cell that the entry stands for, at its statement's offset. The split over entries, literals, loops' bounds,
-- missing elements and paths that are too long are left.
use Rattle.std.proofs.Common.{◌≡◌, ◌⊎◌, inl, inr, ℕ, Bool, true, false, List, [], refl, sym, ap, ◌∙◌, subst, Result, Ok, Err, Some, None}
use Rattle.std.specs.Prelude.{ℤ}
use Rattle.dataflow.specs.System.{In}
use Rattle.dataflow.proofs.Lists.{in_left, in_right}
use Rattle.values.specs.declared.fault.OpFault.{OpFault}
use Rattle.values.specs.declared.value.Value.{Value}
use Rattle.language.specs.Core.{Name, Expr, name, Form, compute, read, Cell, Outer, Stmt, stmt, Action, assign, insert, print, assert, when, choose, Block, Core}
use Rattle.language.specs.Facts.{operation, fault, Knowledge}
use Rattle.language.specs.Meaning.{ValueUnder, of_literal, of_name, of_array, of_operator, LiveStmt, in_block, Gives, faulty, cell_fault}
use Rattle.language.specs.Members.{◌∈◌}
use Rattle.language.specs.Outcomes.{Faults}
use Rattle.language.specs.Parts.{stmt_at, cells, block_list}
use Rattle.language.specs.Places.{Path}
use Rattle.language.specs.WellFormed.{WellFormed}
use Rattle.language_laws.proofs.Sources.{outer_in, index_in, right_in}
use Rattle.task_code.specs.Code as code
use Rattle.task_code.specs.Code.{Need, Act, Set, InsertElement, Print, Assert, If, Code, entry, body}
use Rattle.task_code.specs.Compute as Compute
use Rattle.task_code.specs.Compute.{InOperation, Fails, given, branched, insert_element, eval}
use Rattle.task_code.specs.Effects.{Item}
use Rattle.task_code.specs.Places.{Step}
use Rattle.task_code.specs.System.{answered, code_system}
use Rattle.task_code.specs.Whole.{IsCode}
use Rattle.headline.specs.Headline.{script_path}
use Rattle.headline.specs.Answered.{ReadAll}
use Rattle.headline.specs.Knows.{Knows}
use Rattle.headline.specs.Chains.{Answers, Chain}
use Rattle.code_rules.specs.CodeNames.{name_as, wanted, over, each_once}
use Rattle.language_laws.specs.Scoped.{AreIn, FormIn, Scoped}
use Rattle.code_rules.specs.IsCodeOf.{own_form, own_expr, own_needs, seen, seen_as, IsEntry, IsCodeOf}
use Rattle.headline.proofs.Backing.{backs}
use Rattle.headline.proofs.Evaluate.{Got, answers_of, computes, in_once}
use Rattle.headline.proofs.Means.{chain_live, chain_scope}
use Rattle.headline.proofs.Opening.{arrays_are_data, seen_scoped}
use Rattle.headline.proofs.Readings.{says_script}

-- what fails is the expression
pub given_fails : {f : OpFault} (r : Result Value OpFault) → given r ≡ Fails (InOperation f) → r ≡ Err f
given_fails (Ok v) h = absurd (cc (h))
given_fails (Err g) h = cc

pub branched_fails : {f : OpFault} (r : Result Value OpFault) → branched r ≡ Fails (InOperation f) → r ≡ Err f
branched_fails (Ok v) h = absurd (cc (h))
branched_fails (Err g) h = cc

pub put_fails : {f : OpFault} (i r : Result Value OpFault) → insert_element i r ≡ Fails (InOperation f) → (i ≡ Err f) ⊎ (r ≡ Err f)
put_fails (Err g) r h = inl (cc)
put_fails (Ok v) (Err g) h = inr (cc)
put_fails (Ok v) (Ok u) h = absurd (cc (h))

own_scoped : (k n : ℕ) (f : Form) → FormIn k f → AreIn k (own_form n f)
own_scoped k n (compute e) g = g
own_scoped k n (read a j) g = λ i e. absurd (cc (e))

module _ (s : Core) (C : Code) (w : IsCodeOf s C) (K : Knowledge) (wf : WellFormed s) (kn : Knows s K) (I : IsCode C) (sc : Scoped s) where
  -- a name has no fault
  name_no : {A : Type 0} {path : Path} {x : Name} {e : Expr} {r : Result Value OpFault} {f : OpFault} → ValueUnder s K path e r → e ≡ name x → r ≡ Err f → A
  name_no of_literal e q = absurd (cc (q))
  name_no (of_name h) e q = absurd (cc (q))
  name_no (of_array c es) e q = absurd (cc (q))
  name_no (of_operator us h) e q = absurd (cc (e))

  -- a cell that has a fault, as its statement's own entry or as other entries see it
  pub own_fault : {path : Path} {st : Stmt} (c : Cell) {f : OpFault} → LiveStmt s K path st → c ∈ cells st → ValueUnder s K path (own_form c.node c.form) (Err f) → K (fault (operation f) (stmt_at st) (path, c.node))
  own_fault {path} {st} c {f} live i u = by c.form refl u
    where
      by : (g : Form) → c.form ≡ g → ValueUnder s K path (own_form c.node g) (Err f) → K (fault (operation f) (stmt_at st) (path, c.node))
      by (compute e) q u = kn.shut _ (cell_fault live i (subst (λ (z : Form). Gives s K path z (Err (operation f))) (sym q) (faulty u)))
      by (read y j) q u = name_no u refl refl

  pub seen_fault : {path : Path} {st : Stmt} (c : Cell) {f : OpFault} → LiveStmt s K path st → c ∈ cells st → ValueUnder s K path (seen w.layout c) (Err f) → K (fault (operation f) (stmt_at st) (path, c.node))
  seen_fault {path} {st} c {f} live i u = by (w.layout.plain c.node) c.form refl u
    where
      by : (b : Bool) (g : Form) → c.form ≡ g → ValueUnder s K path (seen_as b c.node g) (Err f) → K (fault (operation f) (stmt_at st) (path, c.node))
      by true (compute e) q u = kn.shut _ (cell_fault live i (subst (λ (z : Form). Gives s K path z (Err (operation f))) (sym q) (faulty u)))
      by true (read y j) q u = name_no u refl refl
      by false g q u = name_no u refl refl

  -- A LIVE ENTRY WHOSE INPUTS ARE READ, whatever comes of it
  module _ {p : List Step} {t k : ℕ} {b : Block} (ch : Chain s C w.layout K p t k b) (i c : ℕ) (there : In i (body C t).entries)
      (xs : List Got) (read_all : ReadAll (code_system C) (Answers s K) ((code_system C).inputs (Item i p c)) xs) where
    pub value_at : (x : Expr) → AreIn k x → (ms : List Need) → (entry C i).needs ≡ ms → ((n : Need) → In n (wanted k x) → In n ms) → ValueUnder s K (script_path p) x (eval (answered C p (entry C i).needs xs) (over k ms x))
    value_at x g ms q h =
        subst (λ (l : List Need). ValueUnder s K (script_path p) x (eval (answered C p (entry C i).needs xs) (over k l x))) q
        (computes s C K p k (entry C i).needs (answered C p (entry C i).needs xs) (answers_of s C K p (entry C i).needs (arrays_are_data s C w.layout K I ch i there) xs read_all) (says_script s wf K (backs s K kn) C w.layout I sc ch i there kn) x g
        (λ n m. subst (λ (l : List Need). In n l) (sym q) (h n m)))

    abbrev pub IsFault : OpFault → Type 0
    IsFault f = Faults K (operation f) (entry C i).at (script_path p)

    pub placed : {at : ℕ} (f : OpFault) (n : ℕ) → (entry C i).at ≡ at → K (fault (operation f) at (script_path p, n)) → IsFault f
    placed f n e h = (n, subst (λ (z : ℕ). K (fault (operation f) z (script_path p, n))) (sym e) h)

    pub live_here : {st : Stmt} → st ∈ block_list b → LiveStmt s K (script_path p) st
    live_here m = in_block (chain_live s C w.layout K wf.names I sc ch) m

    -- of the cell that the entry works out itself: cells, assignments, literals, lines and assertions
    pub own_fails : {at n : ℕ} {a : Action} (d : Cell) {f : OpFault} → stmt at n a ∈ block_list b → d ∈ cells (stmt at n a) → (entry C i).at ≡ at → (ms : List Need) → (entry C i).needs ≡ ms
        → ((m : Need) → In m (wanted k (own_form d.node d.form)) → In m ms) → eval (answered C p (entry C i).needs xs) (over k ms (own_form d.node d.form)) ≡ Err f → IsFault f
    own_fails {at} {n} {a} d {f} sm cm e ms q sub ev =
        let g = (sc.statements k b (stmt at n a) (chain_scope s C w.layout K wf.names I sc ch) sm).in_cells d cm in
        placed f d.node e (own_fault d (live_here sm) cm (subst (λ (r : Result Value OpFault). ValueUnder s K (script_path p) (own_form d.node d.form) r) ev (value_at (own_form d.node d.form) (own_scoped k d.node d.form g) ms q sub)))

    -- of a cell that it sees: conditions, bounds, indices and elements
    pub seen_fails : {at n : ℕ} {a : Action} (d : Cell) {f : OpFault} → stmt at n a ∈ block_list b → d ∈ cells (stmt at n a) → (entry C i).at ≡ at → (ms : List Need) → (entry C i).needs ≡ ms
        → ((m : Need) → In m (wanted k (seen w.layout d)) → In m ms) → eval (answered C p (entry C i).needs xs) (over k ms (seen w.layout d)) ≡ Err f → IsFault f
    seen_fails {at} {n} {a} d {f} sm cm e ms q sub ev =
        let g = (sc.statements k b (stmt at n a) (chain_scope s C w.layout K wf.names I sc ch) sm).in_cells d cm in
        placed f d.node e (seen_fault d (live_here sm) cm (subst (λ (r : Result Value OpFault). ValueUnder s K (script_path p) (seen w.layout d) r) ev (value_at (seen w.layout d) (seen_scoped k w.layout d g) ms q sub)))

    -- BY STATEMENTS
    abbrev Fails_as : OpFault → Type 0
    Fails_as f = Compute.compute (entry C i).act (answered C p (entry C i).needs xs) ≡ Fails (InOperation f)

    pub assign_fails : {at n : ℕ} {pr : ℤ} {x : Name} (o : Outer) {f : OpFault} → stmt at n (assign x o) ∈ block_list b
        → IsEntry (entry C i) at pr (own_needs w.layout k (assign x o)) (Set (name_as k false x) (over k (own_needs w.layout k (assign x o)) (own_expr o))) → Fails_as f → IsFault f
    assign_fails o sm en h = own_fails o.cell sm (outer_in o.parts o.cell) en.at_is _ en.needs_is (λ m j. in_once m _ (in_left m _ [] j)) (given_fails _ (sym (ap (λ (z : Act). Compute.compute z (answered C p (entry C i).needs xs)) en.act_is) ∙ h))

    pub print_fails : {at n : ℕ} {pr q : ℤ} (o : Outer) {f : OpFault} → stmt at n (print q o) ∈ block_list b
        → IsEntry (entry C i) at pr (own_needs w.layout k (print q o)) (Print (over k (own_needs w.layout k (print q o)) (own_expr o))) → Fails_as f → IsFault f
    print_fails o sm en h = own_fails o.cell sm (outer_in o.parts o.cell) en.at_is _ en.needs_is (λ m j. in_once m _ (in_left m _ [] j)) (given_fails _ (sym (ap (λ (z : Act). Compute.compute z (answered C p (entry C i).needs xs)) en.act_is) ∙ h))

    pub assert_fails : {at n : ℕ} {pr q : ℤ} (o : Outer) {f : OpFault} → stmt at n (assert q o) ∈ block_list b
        → IsEntry (entry C i) at pr (own_needs w.layout k (assert q o)) (Assert (over k (own_needs w.layout k (assert q o)) (own_expr o))) → Fails_as f → IsFault f
    assert_fails o sm en h = own_fails o.cell sm (outer_in o.parts o.cell) en.at_is _ en.needs_is (λ m j. in_once m _ (in_left m _ [] j)) (given_fails _ (sym (ap (λ (z : Act). Compute.compute z (answered C p (entry C i).needs xs)) en.act_is) ∙ h))

    pub when_fails : {at n t' : ℕ} {pr : ℤ} {o : Outer} {d : Block} {f : OpFault} → stmt at n (when o d) ∈ block_list b
        → IsEntry (entry C i) at pr (own_needs w.layout k (when o d)) (If (over k (own_needs w.layout k (when o d)) (seen w.layout o.cell)) t' None) → Fails_as f → IsFault f
    when_fails {o = o} sm en h = seen_fails o.cell sm (outer_in o.parts o.cell) en.at_is _ en.needs_is (λ m j. in_once m _ (in_left m _ [] j)) (branched_fails _ (sym (ap (λ (z : Act). Compute.compute z (answered C p (entry C i).needs xs)) en.act_is) ∙ h))

    pub choose_fails : {at n t' u : ℕ} {pr : ℤ} {o : Outer} {d d' : Block} {f : OpFault} → stmt at n (choose o d d') ∈ block_list b
        → IsEntry (entry C i) at pr (own_needs w.layout k (choose o d d')) (If (over k (own_needs w.layout k (choose o d d')) (seen w.layout o.cell)) t' (Some u)) → Fails_as f → IsFault f
    choose_fails {o = o} sm en h = seen_fails o.cell sm (outer_in o.parts o.cell) en.at_is _ en.needs_is (λ m j. in_once m _ (in_left m _ [] j)) (branched_fails _ (sym (ap (λ (z : Act). Compute.compute z (answered C p (entry C i).needs xs)) en.act_is) ∙ h))

    pub insert_fails : {at n : ℕ} {pr : ℤ} {y : Name} (x o : Outer) {f : OpFault} → stmt at n (insert y x o) ∈ block_list b
        → IsEntry (entry C i) at pr (own_needs w.layout k (insert y x o)) (InsertElement (name_as k true y) (over k (own_needs w.layout k (insert y x o)) (seen w.layout x.cell)) (over k (own_needs w.layout k (insert y x o)) (seen w.layout o.cell))) → Fails_as f → IsFault f
    insert_fails x o sm en h =
        elim (put_fails _ _ (sym (ap (λ (z : Act). Compute.compute z (answered C p (entry C i).needs xs)) en.act_is) ∙ h)) [
          | inl e ↦ seen_fails x.cell sm (index_in x o) en.at_is _ en.needs_is (λ m j. in_once m _ (in_left m (wanted k (seen w.layout x.cell)) _ j)) e
          | inr e ↦ seen_fails o.cell sm (right_in x o) en.at_is _ en.needs_is (λ m j. in_once m _ (in_right m (wanted k (seen w.layout x.cell)) _ (in_left m (wanted k (seen w.layout o.cell)) [] j))) e
        ]

    -- a cell's own entry, once the entry's offset is the statement's
    pub cell_fails : {at at' n m : ℕ} {pr : ℤ} {a : Action} (ex : Expr) {f : OpFault} → stmt at n a ∈ block_list b → record { node = m; form = compute ex } ∈ cells (stmt at n a)
        → IsEntry (entry C i) at' pr (each_once (wanted k ex)) (code.Cell (over k (each_once (wanted k ex)) ex)) → at' ≡ at → Fails_as f → IsFault f
    cell_fails {m = m} ex sm cm en e h = own_fails (record { node = m; form = compute ex }) sm cm (en.at_is ∙ e) _ en.needs_is (λ z j. in_once z _ j) (given_fails _ (sym (ap (λ (z : Act). Compute.compute z (answered C p (entry C i).needs xs)) en.act_is) ∙ h))
