-- What fails in the script, fails in the code: where no live item comes to a fault, the script has none.
use Rattle.std.proofs.Common.{◌≡◌, ◌⊎◌, inl, inr, ℕ, suc, ◌<◌, Bool, true, false, List, [], ◌∷◌, ◌++◌, map, length, refl, sym, ap, ◌∙◌, subst, Option, Some, Result, Ok, Err, arith}
use Rattle.std.specs.Prelude.{pos, ℤ, ◌&&◌, nat_le}
use Rattle.dataflow.specs.System.{In, Missing, Effect, Outcome, Bad}
use Rattle.dataflow.proofs.Lists.{in_right, in_map}
use Rattle.values.specs.declared.fault.OpFault.{OpFault}
use Rattle.values.specs.declared.key.Key.{Key}
use Rattle.values.specs.declared.map.Element.{Element}
use Rattle.values.specs.Maps.{element as element_of}
use Rattle.values.specs.declared.value.Scalar.{Scalar}
use Rattle.values.specs.declared.value.Scalar.TheVariants.{Number, Truth}
use Rattle.values.specs.declared.value.Value.{Value}
use Rattle.values.specs.declared.value.Value.TheVariants.{One, Many}
use Rattle.values.specs.Operators.{literal as list_of}
use Rattle.values.specs.Ranges.{range_count, value_in}
use Rattle.language.specs.Core as Co
use Rattle.language.specs.Core.{Name, Expr, literal, name, whole, operator, Form, compute, read, Cell, Call, Part, inner, Outer, Awaited, Stmt, stmt, Action, assign, fill, insert, print, assert, when, choose, range, each, wait, Block, Function, Core}
use Rattle.language.specs.Facts.{Fault, Fact, value, element, fault, Knowledge, KnownAll, no_cell, next_cell}
use Rattle.language.specs.Meaning as Mn
use Rattle.language.specs.Meaning.{ValueUnder, of_literal, of_name, of_array, of_operator, Gives, computed, faulty, found, missing, Comes, ComeAll, none_comes, next_comes, LiveStmt, in_block, Ready, cells_known, source_closed, names_known, New, cell_value, cell_fault, assigned, filled, inserted, printed, bad_range, too_deep_header, too_deep_call, written_twice}
use Rattle.language.specs.Members.{◌∈◌, first, later}
use Rattle.language.specs.Openings.{Bounds, bounds, Opens, then_alone, then_first, else_second, turn, item}
use Rattle.language.specs.Outcomes.{Faults}
use Rattle.language.specs.Parts.{outers, outer_cells, outer_parts, cells, block_list}
use Rattle.language.specs.Places.{Path, Place, place, max_path_steps}
use Rattle.language.specs.WellFormed.{WellFormed, IsMany, a_list, a_copy}
use Rattle.language.proofs.Members.{to_right}
use Rattle.language_laws.proofs.Declared.{stmt_in}
use Rattle.language_laws.proofs.Sources.{outer_in}
use Rattle.language_laws.specs.Scoped.{AreIn, FormIn, Scoped}
use Rattle.task_code.specs.Code as code
use Rattle.task_code.specs.Code.{Need, Act, Code, entry, body, loop_of}
use Rattle.task_code.proofs.Rights.{loop_instances}
use Rattle.headline.proofs.HeaderWorks.{CallFound}
use Rattle.headline.proofs.Readings.{in_element}
use Rattle.task_code.specs.Compute as Compute
use Rattle.task_code.specs.Compute.{Computed, Fails, Turns, Elements, turns_or, range_turns, EntryFault, InOperation, NoElement, TooDeep, given, filled as filled_by, eval, key_of}
use Rattle.task_code.specs.Effects.{Task, Item, chunk, step_at, effect_at, instances, is_too_deep, steps_on, outcome_of}
use Rattle.task_code.specs.Places as CodePlaces
use Rattle.task_code.specs.Places.{Step, Datum}
use Rattle.task_code.specs.System.{answered, code_system}
use Rattle.task_code.specs.Whole.{IsCode}
use Rattle.task_code.specs.Code.{Variable}
use Rattle.code_rules.specs.CodeNames.{name_as, wanted, over, each_once}
use Rattle.headline.specs.Headline.{script_path, script_place}
use Rattle.code_rules.specs.IsCodeOf.{own_form, own_expr, own_needs, own_priority, fill_act, simple_act, IsEntry, PartAs, a_cell, a_read, a_call, StmtAs, simple, branch, branches, range_loop, array_loop, WaitAs, IsCodeOf}
use Rattle.headline.specs.Answered.{ReadAll}
use Rattle.headline.specs.Chains.{Answers, Chain, Lacks}
use Rattle.headline.specs.Knows.{Knows}
use Rattle.headline.proofs.Backing.{backs, came}
use Rattle.headline.proofs.Evaluate.{Got, Ans, AnsAll, inputs_of, in_once, once_in}
use Rattle.headline.proofs.Facts.{Known, known, computes_so, has_answers, IsGood}
use Rattle.headline.proofs.HeaderWorks.{StmtFound, find_call, found_body, only_stmt, opens_no_wait, calls_no_wait, branch_works, each_turns, range_seen, range_works, turn_there, some_of}
use Rattle.headline.proofs.LiveBy.{at_body, between}
use Rattle.headline.proofs.LiveFrom.{Alive, Where, live_from}
use Rattle.headline.proofs.Means.{chain_live, chain_body, chain_scope}
use Rattle.headline.proofs.Roles.{cell_among}
use Rattle.headline.proofs.CellsOf.{IsPlain, is_literal, is_name, WorksOwn, of_assign, of_fill, of_print, of_assert, OwnCell, find_any}
use Rattle.headline.proofs.WrittenFrom.{CellFound, StmtLive, stmt_live, nothing_behind, own_scope, index_answer}
use Rattle.headline.proofs.KeysOf.{key_as}

path_length : (p : List Step) → length (script_path p) ≡ length p
path_length [] = refl
path_length (t ∷ p) = ap suc (path_length p)

past : (n : ℕ) → n ≡ max_path_steps → nat_le max_path_steps n ≡ true
past n h = grind arith

-- no effect where the path would be too long
deep_outcome : (x : Computed) (b : Bool) (e : Effect Task CodePlaces.Place Key Scalar) → IsGood x → b ≡ true → ◌≡◌ {A = Outcome Task CodePlaces.Place Key Scalar EntryFault} (outcome_of x b e) (Bad TooDeep)
deep_outcome (Fails f) b e g q = absurd g
deep_outcome (Compute.Gives v) true e g q = refl
deep_outcome (Compute.Gives v) false e g q = absurd (cc (q))
deep_outcome (Compute.Inserts xs) true e g q = refl
deep_outcome (Compute.Inserts xs) false e g q = absurd (cc (q))
deep_outcome (Compute.Takes t) true e g q = refl
deep_outcome (Compute.Takes t) false e g q = absurd (cc (q))
deep_outcome (Compute.Turns ts) true e g q = refl
deep_outcome (Compute.Turns ts) false e g q = absurd (cc (q))
deep_outcome Compute.Opens true e g q = refl
deep_outcome Compute.Opens false e g q = absurd (cc (q))

compute_same : {x y : Expr} → compute x ≡ compute y → x ≡ y
compute_same h = cc

part_cell : {x y : Cell} → inner x ≡ inner y → x ≡ y
part_cell h = cc

-- literals and names have no fault
plain_good : {s : Core} {K : Knowledge} {path : Path} {g : Form} {r : Result Value Fault} {f : Fault} → IsPlain g → Gives s K path g r → r ≡ Err f → ⊥
plain_good is_literal (computed u) q = absurd (cc (q))
plain_good is_literal (faulty u) q = elim u [ ]
plain_good is_name (computed u) q = absurd (cc (q))
plain_good is_name (faulty u) q = elim u [ ]

-- what a computation gives that fails
faulty_under : {s : Core} {K : Knowledge} {path : Path} {g : Form} {r : Result Value Fault} {f : Fault} {e : Expr} → Gives s K path g r → r ≡ Err f → g ≡ compute e → (o : OpFault) × ValueUnder s K path e (Err o)
faulty_under (computed u) q h = absurd (cc (q))
faulty_under {s} {K} {path} (faulty {f = o} u) q h = (o, subst (λ (z : Expr). ValueUnder s K path z (Err o)) (compute_same h) u)
faulty_under (found a b c) q h = absurd (cc (q))
faulty_under (missing a b c d) q h = absurd (cc (h))

outer_cell_in : (os : List Outer) (c : Cell) → c ∈ map (λ (o : Outer). o.cell) os → inner c ∈ outer_parts os
outer_cell_in [] c h = elim h [ ]
outer_cell_in (o ∷ os) c first = to_right o.parts _ first
outer_cell_in (o ∷ os) c (later h) = to_right o.parts _ (later (outer_cell_in os c h))

-- a list that has a member has one in its first chunk
in_first_chunk : {X : Type 0} (xs : List X) (x : X) → In x xs → (y : X) × In y (chunk 0 xs)
in_first_chunk [] x h = absurd h
in_first_chunk (y ∷ ys) x h = (y, inl refl)

module _ (s : Core) (C : Code) (w : IsCodeOf s C) (K : Knowledge) (wf : WellFormed s) (kn : Knows s K) (I : IsCode C) (sc : Scoped s)
    (never : (t : Task) (f : EntryFault) → Alive s C w K wf (backs s K kn) I sc t → (xs : List Got) → ReadAll (code_system C) (Answers s K) ((code_system C).inputs t) xs → ◌≡◌ {A = Outcome Task CodePlaces.Place Key Scalar EntryFault} ((code_system C).effect t xs) (Bad f) → ⊥) where
  module _ {p : List Step} {t k : ℕ} {b : Block} (ch : Chain s C w.layout K p t k b) (alive : (j : ℕ) → In j (body C t).entries → Alive s C w K wf (backs s K kn) I sc (Item j p 0)) (j : ℕ) (there : In j (body C t).entries) where
    -- no item fails, and none lies too deep
    no_fail : (z : Known s C w K wf (backs s K kn) I sc ch j there) (f : EntryFault) → Compute.compute (entry C j).act (answered C p (entry C j).needs z.answers) ≡ Fails f → ⊥
    no_fail z f e = never (Item j p 0) f (alive j there) z.answers z.read (ap (λ (x : Computed). outcome_of x (is_too_deep (entry C j).act p (instances (entry C j).act (entry C j).offset p 0 x)) (effect_at C j p 0 x)) e)

    not_deep : (z : Known s C w K wf (backs s K kn) I sc ch j there) (x : Computed) → Compute.compute (entry C j).act (answered C p (entry C j).needs z.answers) ≡ x → IsGood x → (q : ℕ × List Step) → In q (instances (entry C j).act (entry C j).offset p 0 x) → steps_on (entry C j).act ≡ true → length (script_path p) ≡ max_path_steps → ⊥
    not_deep z x e g q i st dp =
        let ss = instances (entry C j).act (entry C j).offset p 0 x in
        let d : is_too_deep (entry C j).act p (instances (entry C j).act (entry C j).offset p 0 x) ≡ true =
        (λ y. past (length p) (sym (path_length p) ∙ dp) y && (st y && some_of ss q i y)) in
        never (Item j p 0) TooDeep (alive j there) z.answers z.read
        (ap (λ (y : Computed). outcome_of y (is_too_deep (entry C j).act p (instances (entry C j).act (entry C j).offset p 0 y)) (effect_at C j p 0 y)) e ∙ deep_outcome x _ (effect_at C j p 0 x) g d)

    -- an entry that works out one expression
    one_fails : {ex : Expr} {o : OpFault} {at : ℕ} {pr : ℤ} {ms : List Need} (act : code.Expr → Act) (by : Result Value OpFault → Computed) → ((x : code.Expr) (ys : List Got) → Compute.compute (act x) ys ≡ by (eval ys x)) → by (Err o) ≡ Fails (InOperation o)
        → IsEntry (entry C j) at pr ms (act (over k ms ex)) → ms ≡ each_once (wanted k ex) → AreIn k ex → ValueUnder s K (script_path p) ex (Err o) → ⊥
    one_fails {ex} {o} {ms = ms} act by comp bad en mq g vu =
        let sub : (n : Need) → In n (wanted k ex) → In n ms = λ n h. subst (λ (l : List Need). In n l) (sym mq) (in_once n _ h) in
        let z = known s C w K wf (backs s K kn) I sc ch j there (λ n h. has_answers s C w K wf (backs s K kn) I sc ch j there vu g (λ n h. subst (λ (l : List Need). In n l) (sym en.needs_is) (sub n h)) n (once_in n _ (subst (λ (l : List Need). In n l) (en.needs_is ∙ mq) h))) in
        let ev = computes_so s C w K wf (backs s K kn) I sc ch j there z vu g ms en.needs_is sub in
        no_fail z (InOperation o) (ap (λ (a : Act). Compute.compute a (answered C p (entry C j).needs z.answers)) en.act_is ∙ comp (over k ms ex) (answered C p (entry C j).needs z.answers) ∙ ap by ev ∙ bad)

    -- a read of an element that is not there
    read_fails : {need : Need} {at : ℕ} {pr : ℤ} → IsEntry (entry C j) at pr (need ∷ []) code.Read → Ans s C K p need Missing → ⊥
    read_fails {need} en an =
        let inp = inputs_of s C K p (entry C j).needs (Missing ∷ []) (subst (λ (l : List Need). AnsAll s C K p l (Missing ∷ [])) (sym en.needs_is) (an, tt)) in
        let z : Known s C w K wf (backs s K kn) I sc ch j there = record { answers = inp.answers; read = inp.read; says = subst (λ (l : List Got). AnsAll s C K p (entry C j).needs l) (sym inp.back) (subst (λ (l : List Need). AnsAll s C K p l (Missing ∷ [])) (sym en.needs_is) (an, tt)) } in
        no_fail z NoElement (ap (λ (a : Act). Compute.compute a (answered C p (entry C j).needs z.answers)) en.act_is ∙ ap (λ (l : List Got). Compute.compute code.Read l) inp.back)

    -- a statement's own right side
    once_is : (o : Outer) → each_once (wanted k (own_expr o) ++ []) ≡ each_once (wanted k (own_expr o))
    once_is o = ap each_once (nothing_behind s C w K wf (backs s K kn) I sc (wanted k (own_expr o)))

    own_fails : {at n : ℕ} {a : Action} {o : Outer} {f : OpFault} → WorksOwn a o → stmt at n a ∈ block_list b → IsEntry (entry C j) at (own_priority a) (own_needs w.layout k a) (simple_act w.layout k (own_needs w.layout k a) a) → (e : Expr) → o.cell.form ≡ compute e → ValueUnder s K (script_path p) e (Err f) → ⊥
    own_fails {at} {n} {a} {o} {f} wo m en e fq vu = by wo m en
      where
        under : ValueUnder s K (script_path p) (own_expr o) (Err f)
        under = subst (λ (g : Form). ValueUnder s K (script_path p) (own_form o.cell.node g) (Err f)) (sym fq) vu

        scoped : {a : Action} → stmt at n a ∈ block_list b → o.cell ∈ cells (stmt at n a) → AreIn k (own_expr o)
        scoped {a} m cm = own_scope s C w K wf (backs s K kn) I sc k o ((sc.statements k b (stmt at n a) (chain_scope s C w.layout K wf.names I sc ch) m).in_cells o.cell cm)

        by : {a : Action} → WorksOwn a o → stmt at n a ∈ block_list b → IsEntry (entry C j) at (own_priority a) (own_needs w.layout k a) (simple_act w.layout k (own_needs w.layout k a) a) → ⊥
        by (of_assign {x = x}) m en = one_fails (code.Set (name_as k false x)) given (λ x ys. refl) refl en (once_is o) (scoped m (outer_in o.parts o.cell)) under
        by of_print m en = one_fails code.Print given (λ x ys. refl) refl en (once_is o) (scoped m (outer_in o.parts o.cell)) under
        by of_assert m en = one_fails code.Assert given (λ x ys. refl) refl en (once_is o) (scoped m (outer_in o.parts o.cell)) under
        by (of_fill {x = x}) m en = fills fq (wf.cells.fill_many at n x o (stmt_in s live))
          where
            live : LiveStmt s K (script_path p) (stmt at n (fill x o))
            live = in_block (chain_live s C w.layout K wf.names I sc ch) m

            list_fails : (exs : Co.Exprs) → own_expr o ≡ operator list_of exs → ⊥
            list_fails exs eq =
                let E = operator list_of exs in
                let ms = own_needs w.layout k (fill x o) in
                let mq : ms ≡ each_once (wanted k E) = once_is o ∙ ap (λ (z : Expr). each_once (wanted k z)) eq in
                let g : AreIn k E = subst (λ (z : Expr). AreIn k z) eq (scoped m (outer_in o.parts o.cell)) in
                let vu' : ValueUnder s K (script_path p) E (Err f) = subst (λ (z : Expr). ValueUnder s K (script_path p) z (Err f)) eq under in
                let sub : (n : Need) → In n (wanted k E) → In n ms = λ n h. subst (λ (l : List Need). In n l) (sym mq) (in_once n _ h) in
                let z = known s C w K wf (backs s K kn) I sc ch j there (λ n h. has_answers s C w K wf (backs s K kn) I sc ch j there vu' g (λ n h. subst (λ (l : List Need). In n l) (sym en.needs_is) (sub n h)) n (once_in n _ (subst (λ (l : List Need). In n l) (en.needs_is ∙ mq) h))) in
                let ev = computes_so s C w K wf (backs s K kn) I sc ch j there z vu' g ms en.needs_is sub in
                let act : (entry C j).act ≡ fill_act w.layout k ms x E = en.act_is ∙ ap (fill_act w.layout k ms x) eq in
                no_fail z (InOperation f) (ap (λ (a : Act). Compute.compute a (answered C p (entry C j).needs z.answers)) act ∙ ap filled_by ev)

            fills : {g : Form} → g ≡ compute e → IsMany g → ⊥
            fills q (a_list {es = exs}) = list_fails exs (ap (own_form o.cell.node) (fq ∙ sym q))
            fills q (a_copy {a = a}) = elim (subst (λ (z : Expr). ValueUnder s K (script_path p) z (Err f)) (sym (compute_same q)) vu) [ ]

  -- CELLS
  pub cell_good : {path : Path} {st : Stmt} {c : Cell} {f : Fault} → LiveStmt s K path st → c ∈ cells st → Gives s K path c.form (Err f) → ⊥
  cell_good {path} {st} {c} {f} live cm gv = by st (stmt_live s C w K wf (backs s K kn) I sc live c cm) cm live
    where
      by : (st : Stmt) → StmtLive s C w K wf (backs s K kn) I sc path st → c ∈ cells st → LiveStmt s K path st → ⊥
      by (stmt at n a) sl cm live = elim (find_any C w.layout c sl.entries.as_stmt cm) [ inl cf ↦ by_entry cf | inr r ↦ elim r [ inl pf ↦ plain_good pf gv refl | inr ow ↦ by_own ow ] ]
        where
          there_gives : {e : Expr} → c.form ≡ compute e → (o : OpFault) × ValueUnder s K (script_path sl.p) e (Err o)
          there_gives {e} q = (let r = faulty_under gv refl q in (r.0, subst (λ (z : Path). ValueUnder s K z e (Err r.0)) (sym sl.path_is) r.1))

          by_own : OwnCell C w.layout sl.k c (sl.entries).numbers at n a → ⊥
          by_own ow =
              let q : c.form ≡ compute ow.expr = ap (λ (z : Cell). z.form) ow.is ∙ ow.form_is in
              let r = there_gives q in
              own_fails sl.chain sl.alive ow.number ((sl.entries).among ow.number ow.there) ow.works sl.there ow.as_entry ow.expr ow.form_is r.1

          scoped : FormIn sl.k c.form
          scoped = (sc.statements sl.k sl.block (stmt at n a) (chain_scope s C w.layout K wf.names I sc sl.chain) sl.there).in_cells c cm

          by_entry : CellFound C w.layout sl.k (stmt at n a) c (sl.entries).numbers → ⊥
          by_entry cf = by_part cf.as_cell refl
            where
              inside : In cf.number (body C sl.t).entries
              inside = (sl.entries).among cf.number cf.there

              by_part : {x : Part} → PartAs C w.layout sl.k cf.all cf.at cf.priority x (cf.number ∷ []) → x ≡ inner c → ⊥
              by_part (a_cell {e = e} z nd en) q =
                  let fe : c.form ≡ compute e = ap (λ (y : Cell). y.form) (sym (part_cell q)) in
                  let r = there_gives fe in
                  one_fails sl.chain sl.alive cf.number inside code.Cell given (λ x ys. refl) refl en refl (subst (FormIn sl.k) fe scoped) r.1
              by_part (a_read {i = i} {a = y} {need = need} z nd ia en) q =
                  let fe : c.form ≡ read y i = ap (λ (y : Cell). y.form) (sym (part_cell q)) in
                  reads (subst (λ (g : Form). Gives s K path g (Err f)) fe gv) refl
                where
                  reads : {r : Result Value Fault} → Gives s K path (read y i) r → r ≡ Err f → ⊥
                  reads (found kv ik one) e = absurd (cc (e))
                  reads (missing {k = key} kv ik cl none) e = by_key kv (key_as ik) cl none
                    where
                      by_key : {u : Value} {key : Key} → K (value (path, i) u) → (v : Scalar) × (u ≡ One v) × (key_of v ≡ key) → Mn.Closed s K (place s path y) → ((d : Place) (v : Scalar) → K (element (place s path y) key d v) → ⊥) → ⊥
                      by_key {key = key} kv (index, index_is, is_key) cl none =
                          let scp = sc.statements sl.k sl.block (stmt at n a) (chain_scope s C w.layout K wf.names I sc sl.chain) sl.there in
                          let fe : c.form ≡ read y i = ap (λ (y : Cell). y.form) (sym (part_cell q)) in
                          let live' = subst (λ (z : Path). LiveStmt s K z (stmt at n a)) (sym sl.path_is) live in
                          let kv' = subst (λ (z : Path). K (value (z, i) (One index))) (sym sl.path_is) (subst (λ (z : Value). K (value (path, i) z)) index_is kv) in
                          let lacks : (d : List Step) (v : Variable) → place s (script_path sl.p) y ≡ script_place d v → Lacks s K (script_place d v) key =
                          (λ d v e. (let e' : place s path y ≡ script_place d v = ap (λ (z : Path). place s z y) (sym sl.path_is) ∙ e in record { closed = subst (λ (z : Place). Mn.Closed s K z) e' cl; none = λ u x h. none u x (subst (λ (z : Place). K (element z key u x)) (sym e') h) })) in
                          read_fails sl.chain sl.alive cf.number inside en
                          (index_answer s C w K wf (backs s K kn) I sc sl.chain sl.alive cf.number inside Missing index live' cf.cells_in scp ia (subst (λ (l : List Need). In need l) (sym en.needs_is) (inl refl)) (subst (FormIn sl.k) fe scoped) kv' is_key lacks)
              by_part (a_call ca) q = absurd (cc (q))

  -- WHERE A STATEMENT STANDS
  record StandsAt (path : Path) (st : Stmt) : Type 0 where
    p : List Step
    t : ℕ
    k : ℕ
    block : Block
    path_is : script_path p ≡ path
    chain : Chain s C w.layout K p t k block
    alive : (j : ℕ) → In j (body C t).entries → Alive s C w K wf (backs s K kn) I sc (Item j p 0)
    there : st ∈ block_list block
    entries : StmtFound C w.layout k st (body C t).entries

  stands_at : {path : Path} {st : Stmt} → LiveStmt s K path st → ((k t : ℕ) (gs : List code.Header) → WaitAs C w.layout k st gs t → ⊥) → StandsAt path st
  stands_at {path} {st} (in_block {b = b} lv m) no_wait = by (live_from s C w K wf (backs s K kn) I sc lv)
    where
      by : Where s C w K wf (backs s K kn) I sc path b → StandsAt path st
      by (at_body {p = p} {t = t} {k = k} e ch al op) = record { p = p; t = t; k = k; block = b; path_is = e; chain = ch; alive = al; there = m; entries = found_body s C w K wf (backs s K kn) I sc (chain_body s C w.layout K wf.names I sc ch) m }
      by (between x) = absurd (no_wait x.k x.content x.below (subst (λ (z : Stmt). WaitAs C w.layout x.k z x.below x.content) (sym (only_stmt s C w K wf (backs s K kn) I sc m x.block_is)) x.as_wait))

  -- the outermost cells of a header that have their values
  known_all : {path : Path} {st : Stmt} {cs : List Cell} {vs : List Value} → LiveStmt s K path st → ((c : Cell) → c ∈ cs → c ∈ cells st) → ComeAll s K path cs vs → KnownAll K path cs vs
  known_all live sub none_comes = no_cell
  known_all live sub (next_comes {c = c} g gs) = next_cell (came s K kn live (sub c first) g) (known_all live (λ d i. sub d (later i)) gs)

  module _ {p : List Step} {t k : ℕ} {b : Block} (ch : Chain s C w.layout K p t k b) (alive : (j : ℕ) → In j (body C t).entries → Alive s C w K wf (backs s K kn) I sc (Item j p 0)) where
    -- RANGES
    range_good : {at n x : ℕ} {lo hi : Outer} {st : Option Outer} {y : Option ℕ} {d : Block} {js : List ℕ} {vs : List Value} {r : Bounds} {f : OpFault} → stmt at n (range lo hi st x y d) ∈ block_list b → StmtAs C w.layout k (stmt at n (range lo hi st x y d)) js → ((j : ℕ) → In j js → In j (body C t).entries)
        → KnownAll K (script_path p) (outer_cells (range lo hi st x y d)) vs → bounds vs ≡ Some r → range_count r.low r.high r.step ≡ Err f → ⊥
    range_good m (simple j z op as' e nd q) sub ks bq rc = absurd z
    range_good {lo = lo} {hi = hi} {st = st} {d = d} {r = r} {f = f} m (range_loop j {is = is} as' en mk ba q) sub ks bq rc =
        let there = sub j (subst (λ (l : List ℕ). In j l) (sym q) (in_right j is (j ∷ []) (inl refl))) in
        let z = range_works s C w K wf (backs s K kn) I sc ch j there lo hi st d _ refl en (range_seen s C w K wf (backs s K kn) I sc ch j there st m ks bq) in
        no_fail ch alive j there z.answers (InOperation f) (z.computed ∙ ap (λ (c : Result ℕ OpFault). turns_or c r.low r.step) rc)

    -- HEADERS AT THE LIMIT
    loop_deep : {x t' : ℕ} {y : Option ℕ} (j : ℕ) (there : In j (body C t).entries) (z : Known s C w K wf (backs s K kn) I sc ch j there) (ts : Elements) → Compute.compute (entry C j).act (answered C p (entry C j).needs z.answers) ≡ Turns ts → loop_of (entry C j).act ≡ Some (record { body = t'; value = x; turn = y })
        → steps_on (entry C j).act ≡ true → (u : Key × Scalar) → In u ts → length (script_path p) ≡ max_path_steps → ⊥
    loop_deep {x} {t'} {y} j there z ts e lq st u i dp =
        let r = in_first_chunk ts u i in
        not_deep ch alive j there z (Turns ts) e tt (t', step_at (entry C j).offset (r.0).0 p)
        (subst (λ (l : List (ℕ × List Step)). In (t', step_at (entry C j).offset (r.0).0 p) l) (sym (loop_instances C (entry C j).act (record { body = t'; value = x; turn = y }) (entry C j).offset p 0 (Turns ts) lq))
        (in_map (λ (v : Key × Scalar). (t', step_at (entry C j).offset v.0 p)) r.0 (chunk 0 ts) r.1)) st dp

    when_good : {at n : ℕ} {o : Outer} {d : Block} {js : List ℕ} → stmt at n (when o d) ∈ block_list b → StmtAs C w.layout k (stmt at n (when o d)) js → ((j : ℕ) → In j js → In j (body C t).entries) → K (value (script_path p, o.cell.node) (One (Truth true))) → length (script_path p) ≡ max_path_steps → ⊥
    when_good m (simple j z op as' e nd q) sub kv dp = absurd z
    when_good {o = o} m (branch {t = u} j {is = is} as' en mk ba q) sub kv dp =
        let there = sub j (subst (λ (l : List ℕ). In j l) (sym q) (in_right j is (j ∷ []) (inl refl))) in
        let z = branch_works s C w K wf (backs s K kn) I sc ch j there o true m (outer_in o.parts o.cell) kv en in
        not_deep ch alive j there z.answers (Compute.Takes true) z.computed tt (u, step_at (entry C j).offset (Key.Number (pos 0)) p) (subst (λ (a : Act). In (u, step_at (entry C j).offset (Key.Number (pos 0)) p) (instances a (entry C j).offset p 0 (Compute.Takes true))) (sym en.act_is) (inl refl)) (ap steps_on en.act_is) dp

    choose_good : {at n : ℕ} {o : Outer} {d d' : Block} {js : List ℕ} (x : Bool) → stmt at n (choose o d d') ∈ block_list b → StmtAs C w.layout k (stmt at n (choose o d d')) js → ((j : ℕ) → In j js → In j (body C t).entries) → K (value (script_path p, o.cell.node) (One (Truth x))) → length (script_path p) ≡ max_path_steps → ⊥
    choose_good x m (simple j z op as' e nd q) sub kv dp = absurd z
    choose_good {o = o} true m (branches {t = u} {u = u'} j {is = is} as' en mk ba bb q) sub kv dp =
        let there = sub j (subst (λ (l : List ℕ). In j l) (sym q) (in_right j is (j ∷ []) (inl refl))) in
        let z = branch_works s C w K wf (backs s K kn) I sc ch j there o true m (outer_in o.parts o.cell) kv en in
        not_deep ch alive j there z.answers (Compute.Takes true) z.computed tt (u, step_at (entry C j).offset (Key.Number (pos 0)) p) (subst (λ (a : Act). In (u, step_at (entry C j).offset (Key.Number (pos 0)) p) (instances a (entry C j).offset p 0 (Compute.Takes true))) (sym en.act_is) (inl refl)) (ap steps_on en.act_is) dp
    choose_good {o = o} false m (branches {t = u} {u = u'} j {is = is} as' en mk ba bb q) sub kv dp =
        let there = sub j (subst (λ (l : List ℕ). In j l) (sym q) (in_right j is (j ∷ []) (inl refl))) in
        let z = branch_works s C w K wf (backs s K kn) I sc ch j there o false m (outer_in o.parts o.cell) kv en in
        not_deep ch alive j there z.answers (Compute.Takes false) z.computed tt (u', step_at (entry C j).offset (Key.Number (pos 1)) p) (subst (λ (a : Act). In (u', step_at (entry C j).offset (Key.Number (pos 1)) p) (instances a (entry C j).offset p 0 (Compute.Takes false))) (sym en.act_is) (inl refl)) (ap steps_on en.act_is) dp

    turn_good : {at n x : ℕ} {lo hi : Outer} {st : Option Outer} {y : Option ℕ} {d : Block} {js : List ℕ} {vs : List Value} {r : Bounds} {many i : ℕ} → stmt at n (range lo hi st x y d) ∈ block_list b → StmtAs C w.layout k (stmt at n (range lo hi st x y d)) js → ((j : ℕ) → In j js → In j (body C t).entries)
        → KnownAll K (script_path p) (outer_cells (range lo hi st x y d)) vs → bounds vs ≡ Some r → range_count r.low r.high r.step ≡ Ok many → i < many → length (script_path p) ≡ max_path_steps → ⊥
    turn_good m (simple j z op as' e nd q) sub ks bq rc lt dp = absurd z
    turn_good {lo = lo} {hi = hi} {st = st} {d = d} {r = r} {many = many} {i = i} m (range_loop j {is = is} as' en mk ba q) sub ks bq rc lt dp =
        let there = sub j (subst (λ (l : List ℕ). In j l) (sym q) (in_right j is (j ∷ []) (inl refl))) in
        let z = range_works s C w K wf (backs s K kn) I sc ch j there lo hi st d _ refl en (range_seen s C w K wf (backs s K kn) I sc ch j there st m ks bq) in
        loop_deep j there z.answers (range_turns r.low r.step 0 many) (z.computed ∙ ap (λ (c : Result ℕ OpFault). turns_or c r.low r.step) rc) (ap loop_of en.act_is) (ap steps_on en.act_is)
        (Key.Number (pos i), Number (value_in r.low r.step i)) (turn_there r.low r.step 0 many i (omega arith) (omega arith)) dp

    item_good : {at n x : ℕ} {a : Name} {y : Option ℕ} {d : Block} {js : List ℕ} {es : List Element} {key : Key} {v : Scalar} → stmt at n (each a x y d) ∈ block_list b → StmtAs C w.layout k (stmt at n (each a x y d)) js → ((j : ℕ) → In j js → In j (body C t).entries) → Ready s K (script_path p) (each a x y d) (Many es ∷ []) → element_of key v ∈ es → length (script_path p) ≡ max_path_steps → ⊥
    item_good m (simple j z op as' e nd q) sub r i dp = absurd z
    item_good {at} {n} {x} {a} {y} {d} {es = es} {key = key} {v = v} m (array_loop j en mk ba q) sub r i dp =
        let there = sub j (subst (λ (l : List ℕ). In j l) (sym q) (inl refl)) in
        let o = each_turns s C w K wf (backs s K kn) I sc ch j there (sc.loops k b at n x a y d (chain_scope s C w.layout K wf.names I sc ch) m) en r in
        loop_deep j there o.answers o.turns o.computed (ap loop_of en.act_is) (ap steps_on en.act_is) (key, v) (in_element o.turns (element_of key v) (subst (λ (l : List Element). element_of key v ∈ l) (sym o.all) i)) dp

    call_good : {st : Stmt} {c : Call} {js : List ℕ} → CallFound C w.layout k st c js → ((j : ℕ) → In j js → In j (body C t).entries) → length (script_path p) ≡ max_path_steps → ⊥
    call_good {c = c} cf sub dp =
        let j = cf.number in
        let there = sub cf.number cf.there in
        let is = (cf.as_call).is in
        let z = known s C w K wf (backs s K kn) I sc ch cf.number there (λ n h. absurd (subst (λ (l : List Need). In n l) is.needs_is h)) in
        not_deep ch alive cf.number there z Compute.Opens (ap (λ (a : Act). Compute.compute a (answered C p (entry C cf.number).needs z.answers)) is.act_is) tt (w.layout.body_of c.function, step_at (entry C cf.number).offset (Key.Number (pos 0)) p)
        (subst (λ (a : Act). In (w.layout.body_of c.function, step_at (entry C cf.number).offset (Key.Number (pos 0)) p) (instances a (entry C cf.number).offset p 0 Compute.Opens)) (sym is.act_is) (inl refl)) (ap steps_on is.act_is) dp

    -- the values of a condition and of bounds
    condition_is : {path : Path} {o : Cell} {v : Value} → KnownAll K path (o ∷ []) (v ∷ []) → K (value (path, o.node) v)
    condition_is (next_cell kv no_cell) = kv

    of_header : {at n : ℕ} {a : Action} {vs : List Value} {key : Key} {d : Block} {js : List ℕ} → stmt at n a ∈ block_list b → StmtAs C w.layout k (stmt at n a) js → ((j : ℕ) → In j js → In j (body C t).entries) → LiveStmt s K (script_path p) (stmt at n a) → Opens a vs key d
        → ComeAll s K (script_path p) (outer_cells a) vs ⊎ Ready s K (script_path p) a vs → length (script_path p) ≡ max_path_steps → ⊥
    of_header m sa sub live (then_alone {c = o} {b = d}) (inl g) dp = when_good m sa sub (condition_is (known_all live (λ c i. cell_among _ (outer_cell_in (o ∷ []) c i)) g)) dp
    of_header m sa sub live then_alone (inr (cells_known ks x)) dp = when_good m sa sub (condition_is ks) dp
    of_header m sa sub live (then_first {c = o}) (inl g) dp = choose_good true m sa sub (condition_is (known_all live (λ c i. cell_among _ (outer_cell_in (o ∷ []) c i)) g)) dp
    of_header m sa sub live then_first (inr (cells_known ks x)) dp = choose_good true m sa sub (condition_is ks) dp
    of_header m sa sub live (else_second {c = o}) (inl g) dp = choose_good false m sa sub (condition_is (known_all live (λ c i. cell_among _ (outer_cell_in (o ∷ []) c i)) g)) dp
    of_header m sa sub live else_second (inr (cells_known ks x)) dp = choose_good false m sa sub (condition_is ks) dp
    of_header m sa sub live (turn {lo = lo} {hi = hi} {st = st} {x = x} {t = y} {b = d} bq rc lt) (inl g) dp = turn_good m sa sub (known_all live (λ c i. cell_among _ (outer_cell_in (outers (range lo hi st x y d)) c i)) g) bq rc lt dp
    of_header m sa sub live (turn bq rc lt) (inr (cells_known ks x)) dp = turn_good m sa sub ks bq rc lt dp
    of_header m sa sub live (item i) (inl g) dp = elim g [ ]
    of_header m sa sub live (item i) (inr r) dp = item_good m sa sub r i dp

  -- WHAT IS NEW IS NO FAULT
  header_good : {path : Path} {at n : ℕ} {a : Action} {vs : List Value} {key : Key} {d : Block} → LiveStmt s K path (stmt at n a) → ComeAll s K path (outer_cells a) vs ⊎ Ready s K path a vs → Opens a vs key d → length path ≡ max_path_steps → ⊥
  header_good {path} {at} {n} {a} {vs} {key} {d} live come o dp =
      let sa = stands_at live (λ k t gs wa. opens_no_wait s C w K wf (backs s K kn) I sc wa o) in
      of_header sa.chain sa.alive sa.there (sa.entries).as_stmt (sa.entries).among (subst (λ (z : Path). LiveStmt s K z (stmt at n a)) (sym sa.path_is) live) o
      (elim come [ inl g ↦ inl (subst (λ (z : Path). ComeAll s K z (outer_cells a) vs) (sym sa.path_is) g) | inr r ↦ inr (subst (λ (z : Path). Ready s K z a vs) (sym sa.path_is) r) ])
      (ap (λ (z : Path). length z) sa.path_is ∙ dp)

  no_new : {x : Fact} → New s K x → (f : Fault) (at : ℕ) (pl : Place) → x ≡ fault f at pl → ⊥
  no_new (cell_value live i g) f at pl q = absurd (cc (q))
  no_new (assigned live g) f at pl q = absurd (cc (q))
  no_new (filled live g i) f at pl q = absurd (cc (q))
  no_new (inserted live g k m) f at pl q = absurd (cc (q))
  no_new (printed live g) f at pl q = absurd (cc (q))
  no_new (cell_fault live i g) f at pl q = cell_good live i g
  no_new (bad_range {path = path} {at = at'} {n = n} {x = x} {lo = lo} {hi = hi} {st = st} {t = y} {b = d} {vs = vs} live g bq rc) f at pl q =
      let ks = known_all live (λ c i. cell_among _ (outer_cell_in (outers (range lo hi st x y d)) c i)) g in
      let sa = stands_at live (λ k t gs wa. elim wa [ ]) in
      range_good sa.chain sa.alive sa.there (sa.entries).as_stmt (sa.entries).among (subst (λ (z : Path). KnownAll K z (outer_cells (range lo hi st x y d)) vs) (sym sa.path_is) ks) bq rc
  no_new (too_deep_header live come o dp) f at pl q = header_good live come o dp
  no_new (too_deep_call {c = c} live i dp) f at pl q =
      let sa = stands_at live (λ k t gs wa. calls_no_wait s C w K wf (backs s K kn) I sc wa i) in
      call_good sa.chain sa.alive (find_call C w.layout c (sa.entries).as_stmt i) (sa.entries).among (ap (λ (z : Path). length z) sa.path_is ∙ dp)
  no_new (written_twice live h g ne) f at pl q = ne (kn.one_writer _ _ _ _ _ _ g h)

  -- THE SCRIPT HAS NO FAULT
  pub no_faults : (f : Fault) (at : ℕ) (path : Path) → Faults K f at path → ⊥
  no_faults f at path h = no_new (kn.backed _ h.1) f at (path, h.0) refl
