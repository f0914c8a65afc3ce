-- The lines that the code prints, by the script's answers, are the script's, writer for writer.
use Rattle.std.proofs.Common.{◌≡◌, inl, inr, ℕ, List, [], ◌∷◌, refl, sym, ap, ◌∙◌, subst, Result, Ok, Err}
use Rattle.std.specs.Prelude.{ℤ}
use Rattle.dataflow.specs.System.{In, Effect}
use Rattle.dataflow.specs.Facts.{Live}
use Rattle.dataflow.specs.Laws.{Can}
use Rattle.dataflow.proofs.Lists.{in_left, in_right}
use Rattle.values.specs.declared.fault.OpFault.{OpFault}
use Rattle.values.specs.declared.key.Key.{Key}
use Rattle.values.specs.declared.value.Scalar.{Scalar}
use Rattle.values.specs.declared.value.Scalar.TheVariants.{Text}
use Rattle.values.specs.declared.value.Value.{Value}
use Rattle.values.specs.declared.value.Value.TheVariants.{One}
use Rattle.values.specs.Values.{scalar_of}
use Rattle.language.specs.Core as Co
use Rattle.language.specs.Core.{Expr, name, Form, compute, read, Cell, Outer, Stmt, stmt, Action, print, Block, Core}
use Rattle.language.specs.Facts as Sf
use Rattle.language.specs.Facts.{value, line, Knowledge}
use Rattle.language.specs.Meaning.{ValueUnder, of_name, LiveStmt, in_block, HasValue, stored, Gives, Comes, before, now, computed, New, cell_value, cell_fault, assigned, filled, inserted, printed, bad_range, too_deep_header, too_deep_call, written_twice}
use Rattle.language.specs.Members.{◌∈◌}
use Rattle.language.specs.Parts.{cells, block_list}
use Rattle.language.specs.Places.{Path, Place}
use Rattle.language.specs.WellFormed.{WellFormed}
use Rattle.language_laws.proofs.Declared.{stmt_in, place_here}
use Rattle.language_laws.proofs.Sources.{outer_in, cell_gives}
use Rattle.task_code.specs.Code as code
use Rattle.task_code.specs.Code.{Need, Act, Code, entry, body}
use Rattle.task_code.specs.Compute as Compute
use Rattle.task_code.specs.Compute.{given, eval}
use Rattle.task_code.specs.Effects.{Task, Item, prints, effect_at}
use Rattle.task_code.specs.Places.{Step}
use Rattle.task_code.specs.Places as CodePlaces
use Rattle.task_code.specs.System.{answered, code_system}
use Rattle.task_code.specs.Whole.{IsCode}
use Rattle.task_code.proofs.Kept.{code_laws}
use Rattle.task_code.proofs.Opens.{effect_is}
use Rattle.headline.specs.Headline.{script_path}
use Rattle.code_rules.proofs.Given.{gives_value}
use Rattle.headline.specs.Answered.{Reading}
use Rattle.headline.specs.Backs.{RightKnown, Backs}
use Rattle.headline.specs.Knows as Know
use Rattle.headline.specs.Inclusions.{Facts, LinesTo, LinesFrom}
use Rattle.headline.specs.Chains.{Answers, Chain}
use Rattle.code_rules.specs.CodeNames.{wanted, over, each_once}
use Rattle.language_laws.specs.Scoped.{IsScoped, Scoped}
use Rattle.code_rules.specs.IsCodeOf.{own_form, own_expr, own_needs, own_priority, simple_act, fill_act, IsSimple, IsEntry, PartAs, plain_literal, plain_name, a_cell, a_read, a_call, BodyAs, body_as, StmtAs, simple, IsCodeOf}
use Rattle.language_laws.specs.TypedValues.{TypedValues}
use Rattle.headline.proofs.Evaluate.{in_once}
use Rattle.headline.proofs.LiveTo.{Fact, ItemLive, live_to, value_of, in_one}
use Rattle.headline.proofs.Means.{chain_live, chain_body, chain_scope}
use Rattle.headline.proofs.Opening.{name_value}
use Rattle.headline.proofs.Readings.{cell_has}
use Rattle.headline.proofs.Roles.{PartOf, OwnAs, own_simple, own_branch, own_branches, own_range, own_each, own_wait, RoleIn, find_role}
use Rattle.headline.proofs.Transfer.{reading_valid}
use Rattle.headline.proofs.WrittenFrom.{StmtLive, stmt_live, nothing_behind, own_scope, gives_one}
use Rattle.headline.proofs.WrittenTo.{own_in_scope}

-- a line that is printed
given_line : (x : code.Expr) (r : Result Value OpFault) (v : Scalar) → In v (prints (code.Print x) (given r)) → (u : Value) × (r ≡ Ok u) × (v ≡ scalar_of u)
given_line x (Ok u) v (inl e) = (u, refl, e)
given_line x (Ok u) v (inr z) = absurd z
given_line x (Err f) v h = absurd h

-- a line is a statement's
record LineOf (s : Core) (K : Knowledge) (u : Place) (bytes : List ℕ) : Type 0 where
  path : Path
  at : ℕ
  node : ℕ
  priority : ℤ
  right : Outer
  live : LiveStmt s K path (stmt at node (print priority right))
  known : K (value (path, right.cell.node) (One (Text bytes)))
  writer_is : (path, node) ≡ u

line_parts : {u w : Place} {x y : List ℕ} → line u x ≡ line w y → (u ≡ w) × (x ≡ y)
line_parts h = (cc (h), cc (h))

line_view : {s : Core} {K : Knowledge} {f : Sf.Fact} {u : Place} {bytes : List ℕ} (n : New s K f) → RightKnown s K n → f ≡ line u bytes → LineOf s K u bytes
line_view {s} {K} (printed {path = path} {at = at} {n = n} {p = p} {c = c} h g) k q =
    let r = line_parts q in
    record { path = path; at = at; node = n; priority = p; right = c; live = h; known = subst (λ (z : List ℕ). K (value (path, c.cell.node) (One (Text z)))) r.1 k; writer_is = r.0 }
line_view (cell_value h i g) k q = absurd (cc (q))
line_view (assigned h g) k q = absurd (cc (q))
line_view (cell_fault h i g) k q = absurd (cc (q))
line_view (filled h g i) k q = absurd (cc (q))
line_view (inserted h g j m) k q = absurd (cc (q))
line_view (bad_range h g e z) k q = absurd (cc (q))
line_view (too_deep_header h g e z) k q = absurd (cc (q))
line_view (too_deep_call h i e) k q = absurd (cc (q))
line_view (written_twice h y z e) k q = absurd (cc (q))

item_parts : {i j c c' : ℕ} {p q : List Step} → Item i p c ≡ Item j q c' → (i ≡ j) × (p ≡ q) × (c ≡ c')
item_parts h = (cc (h), cc (h), cc (h))

module _ (s : Core) (C : Code) (w : IsCodeOf s C) (K : Knowledge) (wf : WellFormed s) (kn : Backs s K) (I : IsCode C) (sc : Scoped s) where
  -- FROM THE SCRIPT
  own_value : {path : Path} {at n : ℕ} {pr : ℤ} (o : Outer) {u : Scalar} → LiveStmt s K path (stmt at n (print pr o)) → K (value (path, o.cell.node) (One u)) → ValueUnder s K path (own_expr o) (Ok (One u))
  own_value {path} {at} {n} {pr} o {u} live c = by o.cell.form refl
    where
      cm : o.cell ∈ cells (stmt at n (print pr o))
      cm = outer_in o.parts o.cell

      gave : Gives s K path o.cell.form (Ok (One u))
      gave = (cell_gives s wf.cells K (stmt_in s live) cm (kn.backed _ c)).1

      by : (f : Form) → o.cell.form ≡ f → ValueUnder s K path (own_form o.cell.node f) (Ok (One u))
      by (compute e) q = gives_value gave q
      by (read y i) q = of_name (subst (λ (z : Place). HasValue s K z u) (sym (place_here s path o.cell.node)) (stored c))

  abbrev Printed : Path → ℕ → List ℕ → Type 0
  Printed path n bytes = (i : ℕ) × (p : List Step) × (e : Effect Task CodePlaces.Place Key Scalar) × Facts s C K (Item i p 0) e × In (Text bytes) e.lines × (script_path p ≡ path) × ((entry C i).node ≡ n)

  from_line : (path : Path) (n : ℕ) (bytes : List ℕ) → LineOf s K (path, n) bytes → Printed path n bytes
  from_line path n bytes a = by_entry (sl.entries).as_stmt (sl.entries).among
    where
      sl : StmtLive s C w K wf kn I sc a.path (stmt a.at a.node (print a.priority a.right))
      sl = stmt_live s C w K wf kn I sc a.live (a.right).cell (outer_in (a.right).parts (a.right).cell)

      scp : IsScoped sl.k (stmt a.at a.node (print a.priority a.right))
      scp = sc.statements sl.k sl.block _ (chain_scope s C w.layout K wf.names I sc sl.chain) sl.there

      by_entry : {js : List ℕ} → StmtAs C w.layout sl.k (stmt a.at a.node (print a.priority a.right)) js → ((j : ℕ) → In j js → In j (body C sl.t).entries) → Printed path n bytes
      by_entry (simple j {is = is} z op as' en nd q) sub =
          let there = sub j (subst (λ (l : List ℕ). In j l) (sym q) (in_right j is (j ∷ []) (inl refl))) in
          let vu = subst (λ (z : Path). ValueUnder s K z (own_expr a.right) (Ok (One (Text bytes)))) (sym sl.path_is) (own_value a.right a.live a.known) in
          let f = gives_one s C w K wf kn I sc sl.chain sl.alive j there code.Print (λ x ys. refl) (λ x. refl) en (ap each_once (nothing_behind s C w K wf kn I sc (wanted sl.k (own_expr a.right))))
          (own_scope s C w K wf kn I sc sl.k a.right (scp.in_cells (a.right).cell (outer_in (a.right).parts (a.right).cell))) vu in (
            j,
            sl.p,
            effect_at C j sl.p 0 (Compute.Gives (Text bytes)),
            f,
            subst (λ (x : Act). In (Text bytes) (prints x (Compute.Gives (Text bytes)))) (sym en.act_is) (inl refl),
            sl.path_is ∙ ap (λ (z : Place). z.0) a.writer_is,
            nd ∙ ap (λ (z : Place). z.1) a.writer_is,
          )

  pub lines_from : LinesFrom s C K
  lines_from path n bytes h = from_line path n bytes (line_view (kn.backed _ h) (kn.behind _ h) refl)

module _ (s : Core) (C : Code) (w : IsCodeOf s C) (K : Knowledge) (wf : WellFormed s) (kn : Know.Knows s K) (I : IsCode C) (sc : Scoped s) where
  -- FROM THE CODE
  module _ (ty : TypedValues s K) where
    module _ {p : List Step} {t k : ℕ} {b : Block} (ch : Chain s C w.layout K p t k b) (i c : ℕ) (there : In i (body C t).entries) (e : Effect Task CodePlaces.Place Key Scalar) (f : Fact s C w K wf kn I sc ty (Item i p c) e) where
      abbrev PrintsAs : Act → Scalar → Type 0
      PrintsAs a x = In x (prints a (Compute.compute a (answered C p (entry C i).needs f.answers)))

      abbrev pub IsLine : Scalar → Type 0
      IsLine x = (bytes : List ℕ) × (x ≡ Text bytes) × K (line (script_path p, (entry C i).node) bytes)

      right_known : {at n : ℕ} {pr : ℤ} (o : Outer) {v : Value} → LiveStmt s K (script_path p) (stmt at n (print pr o)) → ValueUnder s K (script_path p) (own_expr o) (Ok v) → Comes s K (script_path p) o.cell v × K (value (script_path p, o.cell.node) v)
      right_known {at} {n} {pr} o {v} live u = by o.cell.form refl u
        where
          cm : o.cell ∈ cells (stmt at n (print pr o))
          cm = outer_in o.parts o.cell

          by : (g : Form) → o.cell.form ≡ g → ValueUnder s K (script_path p) (own_form o.cell.node g) (Ok v) → Comes s K (script_path p) o.cell v × K (value (script_path p, o.cell.node) v)
          by (compute ex) q u =
              let gv = subst (λ (z : Form). Gives s K (script_path p) z (Ok v)) (sym q) (computed u) in
              (now gv, kn.shut _ (cell_value live cm gv))
          by (read y j) q u =
              let r = name_value s wf K kn w.layout u refl refl in
              let kv = subst (λ (z : Value). K (value (script_path p, o.cell.node) z)) (sym r.1) (cell_has s wf K r.2 (script_path p) (stmt at n (print pr o)) o.cell (stmt_in s live) cm (place_here s (script_path p) o.cell.node)) in
              (before kv, kv)

      print_line : {at n : ℕ} {pr : ℤ} (o : Outer) → stmt at n (print pr o) ∈ block_list b → IsEntry (entry C i) at pr (own_needs w.layout k (print pr o)) (code.Print (over k (own_needs w.layout k (print pr o)) (own_expr o))) → (entry C i).node ≡ n
          → (x : Scalar) → PrintsAs (entry C i).act x → IsLine x
      print_line {at} {n} {pr} o sm en nd x h =
          let ms = own_needs w.layout k (print pr o) in
          let r = given_line (over k ms (own_expr o)) (eval (answered C p (entry C i).needs f.answers) (over k ms (own_expr o))) x (subst (λ (z : Act). PrintsAs z x) en.act_is h) in
          let lv = in_block (chain_live s C w.layout K wf.names I sc ch) sm in
          let scp = sc.statements k b (stmt at n (print pr o)) (chain_scope s C w.layout K wf.names I sc ch) sm in
          let u = subst (λ (z : Result Value OpFault). ValueUnder s K (script_path p) (own_expr o) z) r.1
          (value_of s C w K wf kn I sc ty ch i c there e f (own_expr o) (own_in_scope s C w K wf kn I sc ty ch i c there e f o (scp.in_cells o.cell (outer_in o.parts o.cell))) ms en.needs_is (λ z j. in_once z _ (in_left z _ [] j))) in
          let rk = right_known o lv u in
          let tx = ty.print_text (script_path p) at n pr o r.0 (stmt_in s lv) rk.1 in
          (tx.0, r.2 ∙ ap scalar_of tx.1, subst (λ (m : ℕ). K (line (script_path p, m) tx.0)) (sym nd) (kn.shut _ (printed lv (subst (λ (z : Value). Comes s K (script_path p) o.cell z) tx.1 rk.0))))

      no_line : {a : Act} → (entry C i).act ≡ a → (x : Scalar) → PrintsAs (entry C i).act x → PrintsAs a x
      no_line q x h = subst (λ (z : Act). PrintsAs z x) q h

      fill_prints : (x : Scalar) (ms : List Need) (y : Co.Name) (E : Expr) → PrintsAs (fill_act w.layout k ms y E) x → ⊥
      fill_prints x ms y (Co.whole z) h = h
      fill_prints x ms y (Co.literal z) h = h
      fill_prints x ms y (Co.name z) h = h
      fill_prints x ms y (Co.operator z es) h = h

      simple_line : (x : Scalar) → PrintsAs (entry C i).act x → {at n : ℕ} (a : Action) → stmt at n a ∈ block_list b → IsSimple a → IsEntry (entry C i) at (own_priority a) (own_needs w.layout k a) (simple_act w.layout k (own_needs w.layout k a) a) → (entry C i).node ≡ n → IsLine x
      simple_line x h (Co.assign y o) sm z en nd = absurd (no_line en.act_is x h)
      simple_line x h (Co.fill y o) sm z en nd = absurd (fill_prints x _ y (own_expr o) (no_line en.act_is x h))
      simple_line x h (Co.insert y ix o) sm z en nd = absurd (no_line en.act_is x h)
      simple_line x h (Co.print y o) sm z en nd = print_line o sm en nd x h
      simple_line x h (Co.assert y o) sm z en nd = absurd (no_line en.act_is x h)
      simple_line x h (Co.declare v) sm z en nd = absurd z
      simple_line x h (Co.call_alone u v o) sm z en nd = absurd z
      simple_line x h (Co.when u v) sm z en nd = absurd z
      simple_line x h (Co.choose u v o) sm z en nd = absurd z
      simple_line x h (Co.range u v o d l m) sm z en nd = absurd z
      simple_line x h (Co.each u v o d) sm z en nd = absurd z
      simple_line x h (Co.wait u v) sm z en nd = absurd z

      own_line : (x : Scalar) → PrintsAs (entry C i).act x → (st : Stmt) → st ∈ block_list b → OwnAs C w.layout k st i → IsLine x
      own_line x h st sm (own_simple {a = a} z en nd) = simple_line x h a sm z en nd
      own_line x h st sm (own_branch en mk ba) = absurd (no_line en.act_is x h)
      own_line x h st sm (own_branches en mk ba bb) = absurd (no_line en.act_is x h)
      own_line x h st sm (own_range en mk ba) = absurd (no_line en.act_is x h)
      own_line x h st sm (own_each en mk ba) = absurd (no_line en.act_is x h)
      own_line x h st sm (own_wait wa en) = absurd (no_line en.act_is x h)

      part_line : (x : Scalar) → PrintsAs (entry C i).act x → (st : Stmt) → PartOf C w.layout k st i → IsLine x
      part_line x h st po = by po.as_part po.there
        where
          by : {y : Co.Part} {js : List ℕ} → PartAs C w.layout k po.all po.at po.priority y js → In i js → IsLine x
          by (plain_literal z) j = absurd j
          by (plain_name z) j = absurd j
          by (a_cell {j = j'} z nd en) j = absurd (no_line (ap (λ (u : ℕ). (entry C u).act) (in_one i j' j) ∙ en.act_is) x h)
          by (a_read {j = j'} z nd ix en) j = absurd (no_line (ap (λ (u : ℕ). (entry C u).act) (in_one i j' j) ∙ en.act_is) x h)
          by (a_call {j = j'} ca) j = absurd (no_line (ap (λ (u : ℕ). (entry C u).act) (in_one i j' j) ∙ ca.is.act_is) x h)

    entry_line : {p : List Step} {t k : ℕ} {b : Block} (ch : Chain s C w.layout K p t k b) (i c : ℕ) (there : In i (body C t).entries) (e : Effect Task CodePlaces.Place Key Scalar) (f : Fact s C w K wf kn I sc ty (Item i p c) e) (x : Scalar)
        → In x (prints (entry C i).act (Compute.compute (entry C i).act (answered C p (entry C i).needs f.answers))) → IsLine ch i c there e f x
    entry_line {t = t} {k = k} {b = b} ch i c there e f x h = by_body (chain_body s C w.layout K wf.names I sc ch)
      where
        by_role : RoleIn C w.layout k b i → IsLine ch i c there e f x
        by_role r = elim r.role [ inl po ↦ part_line ch i c there e f x h r.st po | inr ow ↦ own_line ch i c there e f x h r.st r.there ow ]

        by_body : BodyAs C w.layout k b t → IsLine ch i c there e f x
        by_body (body_as bl mk) = by_role (find_role C w.layout bl there)

    pub lines_to : LinesTo s C K
    lines_to i c p e x fact h = elim (live_to s C w K wf kn I sc ty fact.live) [ inl q ↦ absurd (cc (q)) | inr a ↦ item_case a ]
      where
        item_case : ItemLive s C w K wf kn I sc ty (Item i p c) → (bytes : List ℕ) × (x ≡ Text bytes) × K (line (script_path p, (entry C i).node) bytes)
        item_case a =
            let lv = subst (λ (z : Task). Live (code_system C) (Reading (code_system C) (Answers s K)) z) (sym a.is) fact.live in
            let f = subst (λ (z : Task). Fact s C w K wf kn I sc ty z e) (sym a.is) fact.reading in
            let can : Can (code_system C) (Item a.number a.path a.chunk) e = record { answers = f.answers; is = f.is; valid = reading_valid (code_system C) (code_laws C I) (Answers s K) lv } in
            let g = subst (λ (z : Effect Task CodePlaces.Place Key Scalar). In x z.lines) (sym (effect_is C a.number a.chunk a.path e can)) h in
            let r = entry_line a.chain a.number a.chunk a.there e f x g in
            let q = item_parts a.is in
            (r.0, r.1, subst (λ (m : ℕ). K (line (script_path p, (entry C m).node) r.0)) q.0 (subst (λ (z : List Step). K (line (script_path z, (entry C a.number).node) r.0)) q.1 r.2))
