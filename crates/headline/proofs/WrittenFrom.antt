-- What the script knows, the code writes, by the script's answers: cells and assignments.
use Rattle.std.proofs.Common.{Result, ◌≡◌, inl, inr, ℕ, Bool, true, false, List, [], ◌∷◌, ◌++◌, refl, sym, ap, ◌∙◌, subst, Ok}
use Rattle.std.specs.Prelude.{ℤ, ◌&&◌, ◌<◌, nat_le, length}
use Rattle.dataflow.specs.System.{In, Found}
use Rattle.dataflow.specs.Facts.{Written}
use Rattle.dataflow.proofs.Lists.{in_left, in_right}
use Rattle.values.specs.declared.key.Key.{Key}
use Rattle.values.specs.declared.value.Scalar.{Scalar}
use Rattle.values.specs.declared.value.Value.{Value}
use Rattle.values.specs.declared.value.Value.TheVariants.{One}
use Rattle.language.specs.Core as Co
use Rattle.language.specs.Core.{Name, here, Expr, name, Form, compute, read, Cell, Outer, Part, Stmt, stmt, Action, assign, fill, insert, print, assert, when, choose, range, each, wait, Block, Core}
use Rattle.language.specs.Facts.{value, Knowledge, IsKey, OneWrite, Fault}
use Rattle.language.specs.Meaning.{ValueUnder, of_name, LiveStmt, in_block, HasValue, stored, in_turn, Gives, Ready, New, found, missing}
use Rattle.language.specs.Members.{◌∈◌, first}
use Rattle.language.specs.Parts.{parts, cells, block_list, script_stmts, part_cells}
use Rattle.language.specs.Places.{Path, Place, Step as ScriptStep, place, max_path_steps}
use Rattle.language.specs.WellFormed.{WellFormed}
use Rattle.language_laws.proofs.Declared.{stmt_in, place_here}
use Rattle.language.proofs.Members.{split_in, to_left, to_right, either}
use Rattle.language.specs.Openings.{Opens, InTurn}
use Rattle.language_laws.proofs.Sources.{outer_in, cell_gives}
use Rattle.task_code.specs.Code as code
use Rattle.task_code.specs.Code.{Variable, Need, Act, Code, entry, body, scalar}
use Rattle.task_code.specs.Compute.{given, eval, key_of}
use Rattle.task_code.specs.Compute as Compute
use Rattle.task_code.specs.Effects.{Item, only, effect_at, stores, steps_on, is_some_list, is_too_deep}
use Rattle.task_code.specs.Places.{Step, Datum, place_at}
use Rattle.task_code.specs.Places as CodePlaces
use Rattle.task_code.specs.System.{answered, code_system}
use Rattle.task_code.specs.Whole.{IsCode}
use Rattle.task_code.proofs.Places.{declared_at}
use Rattle.headline.specs.Headline.{script_path, script_place}
use Rattle.code_rules.proofs.Given.{gives_value}
use Rattle.headline.proofs.Readings.{name_stands, to_code, same_array, name_inv, literal_inv}
use Rattle.headline.specs.Backs.{RightKnown, Backs}
use Rattle.headline.specs.Inclusions.{Facts}
use Rattle.headline.specs.Chains.{Chain, Stands, same, plain, constant, HasElement}
use Rattle.code_rules.specs.CodeNames.{name_as, wanted, over, each_once}
use Rattle.language_laws.specs.Scoped.{IsScoped, AreIn, FormIn, Scoped, IsIn}
use Rattle.code_rules.specs.IsCodeOf.{Layout, own_form, own_expr, own_is_plain, OwnPlain, IsSimple, IsEntry, PartAs, plain_literal, plain_name, a_cell, a_read, a_call, PartsAs, no_part, one_part, StmtAs, declares, calls_alone, simple, branch, branches, range_loop, array_loop, waits, WaitAs, one_wait, merged, IsCodeOf, IndexAs, at_literal, at_name, at_datum}
use Rattle.language_laws.specs.TypedValues.{own_cell, own_outer, own_parts}
use Rattle.headline.proofs.Evaluate.{in_once, once_in, Got, Ans, AnsAll, inputs_of}
use Rattle.headline.proofs.Facts.{known, fact_of, computes_so, has_answers, Known}
use Rattle.headline.proofs.Backing.{value_known}
use Rattle.headline.proofs.HeaderWorks.{StmtFound, found_body, cells_of}
use Rattle.headline.proofs.LiveBy.{at_body, between}
use Rattle.headline.proofs.LiveFrom.{Alive, Where, live_from}
use Rattle.headline.proofs.Means.{chain_body, chain_scope, means, covering_writes}
use Rattle.headline.proofs.Roles.{among_cells, part_of_stmt}
use Rattle.headline.proofs.KeysOf.{key_as}

-- paths of the code are paths of the script
pub path_same : (p q : List Step) → script_path p ≡ script_path q → p ≡ q
path_same [] [] h = refl
path_same [] (t ∷ q) h = absurd (cc)
path_same (s ∷ p) [] h = absurd (cc)
path_same (s ∷ p) (t ∷ q) h =
    let e = path_same p q (tails h) in
    let d = heads h in
    λ i. record { offset = (ap (λ (z : ScriptStep). z.0) d) i; key = (ap (λ (z : ScriptStep). z.1) d) i } ∷ e i
  where
    tails : {x y : ScriptStep} {xs ys : Path} → ◌≡◌ {A = Path} (x ∷ xs) (y ∷ ys) → xs ≡ ys
    tails h = cc

    heads : {x y : ScriptStep} {xs ys : Path} → ◌≡◌ {A = Path} (x ∷ xs) (y ∷ ys) → x ≡ y
    heads h = cc

part_cell : {x y : Cell} → Co.inner x ≡ Co.inner y → x ≡ y
part_cell h = cc

one_of : {x y : Scalar} → ◌≡◌ {A = Result Value Fault} (Ok (One x)) (Ok (One y)) → x ≡ y
one_of h = cc

-- THE ENTRY OF A CELL
module _ (C : Code) (l : Layout) where
  pub record CellFound (k : ℕ) (st : Stmt) (c : Cell) (es : List ℕ) : Type 0 where
    pub number : ℕ
    pub there : In number es
    pub all : List Part
    pub at : ℕ
    pub priority : ℤ
    pub as_cell : PartAs C l k all at priority (Co.inner c) (number ∷ [])
    pub node_is : (entry C number).node ≡ c.node
    pub cells_in : (d : Cell) → d ∈ part_cells all → d ∈ cells st

  pub widen_cell : {k : ℕ} {st : Stmt} {c : Cell} {js es : List ℕ} (is : List ℕ) → es ≡ is ++ js → CellFound k st c js → CellFound k st c es
  widen_cell {js = js} is q r = record { number = r.number; there = subst (λ (z : List ℕ). In r.number z) (sym q) (in_right r.number is js r.there); all = r.all; at = r.at; priority = r.priority; as_cell = r.as_cell; node_is = r.node_is; cells_in = r.cells_in }

  inner_same : {x y : Cell} → Co.inner x ≡ Co.inner y → x ≡ y
  inner_same h = cc

  clash : {A : Type 0} {b : Bool} → b ≡ true → b ≡ false → A
  clash h g = let z : true ≡ false = sym h ∙ g in absurd (cc (z))

  found_in : {k at : ℕ} {p : ℤ} {all xs : List Part} {js : List ℕ} (st : Stmt) (c : Cell) → ((d : Cell) → d ∈ part_cells all → d ∈ cells st) → PartsAs C l k all at p xs js → Co.inner c ∈ xs → l.plain c.node ≡ false → CellFound k st c js
  found_in st c sub no_part h pl = elim h [ ]
  found_in st c sub (one_part {is = is} (plain_literal z) rest q) h pl =
      elim (split_in h) [ inl e ↦ clash (ap (λ (y : Cell). l.plain y.node) (inner_same e) ∙ z) pl | inr m ↦ widen_cell [] q (found_in st c sub rest m pl) ]
  found_in st c sub (one_part (plain_name z) rest q) h pl =
      elim (split_in h) [ inl e ↦ clash (ap (λ (y : Cell). l.plain y.node) (inner_same e) ∙ z) pl | inr m ↦ widen_cell [] q (found_in st c sub rest m pl) ]
  found_in {k} {at} {p} {all} st c sub (one_part (a_cell {j = j} z nd en) rest q) h pl =
      elim (split_in h) [
        | inl e ↦ record { number = j; there = subst (λ (y : List ℕ). In j y) (sym q) (inl refl); all = all; at = at; priority = p; as_cell = subst (λ (y : Part). PartAs C l k all at p y (j ∷ [])) (sym e) (a_cell z nd en); node_is = nd ∙ sym (ap (λ (y : Cell). y.node) (inner_same e)); cells_in = sub }
        | inr m ↦ widen_cell (j ∷ []) q (found_in st c sub rest m pl)
      ]
  found_in {k} {at} {p} {all} st c sub (one_part (a_read {j = j} z nd ix en) rest q) h pl =
      elim (split_in h) [
        | inl e ↦ record { number = j; there = subst (λ (y : List ℕ). In j y) (sym q) (inl refl); all = all; at = at; priority = p; as_cell = subst (λ (y : Part). PartAs C l k all at p y (j ∷ [])) (sym e) (a_read z nd ix en); node_is = nd ∙ sym (ap (λ (y : Cell). y.node) (inner_same e)); cells_in = sub }
        | inr m ↦ widen_cell (j ∷ []) q (found_in st c sub rest m pl)
      ]
  found_in st c sub (one_part (a_call {j = j} ca) rest q) h pl = elim (split_in h) [ inl e ↦ absurd (cc (e)) | inr m ↦ widen_cell (j ∷ []) q (found_in st c sub rest m pl) ]

  pub before_own : {k : ℕ} {st : Stmt} {c : Cell} {is es : List ℕ} (j : ℕ) → es ≡ is ++ j ∷ [] → CellFound k st c is → CellFound k st c es
  before_own {is = is} j q r = record { number = r.number; there = subst (λ (z : List ℕ). In r.number z) (sym q) (in_left r.number is (j ∷ []) r.there); all = r.all; at = r.at; priority = r.priority; as_cell = r.as_cell; node_is = r.node_is; cells_in = r.cells_in }

  -- a cell that makes no entry before its statement's own is that one's cell
  own_or_before : (o : Outer) (c : Cell) → own_is_plain l o.cell o.cell.form → Co.inner c ∈ (o.parts ++ Co.inner o.cell ∷ []) → l.plain c.node ≡ false → Co.inner c ∈ own_outer o
  own_or_before o c op h pl = elim (either o.parts _ h) [ inl m ↦ to_left o.parts _ m | inr m ↦ to_right o.parts _ (by o.cell.form refl op (elim (split_in m) [ inl e ↦ e | inr z ↦ elim z [ ] ])) ]
    where
      by : (f : Form) → o.cell.form ≡ f → own_is_plain l o.cell f → Co.inner c ≡ Co.inner o.cell → Co.inner c ∈ own_cell o.cell f
      by (compute e) q op h = clash (ap (λ (y : Cell). l.plain y.node) (inner_same h) ∙ op) pl
      by (read a i) q op h = subst (λ (y : Part). Co.inner c ∈ (y ∷ [])) h first

  simple_cell : (a : Action) → IsSimple a → OwnPlain l a → (c : Cell) → Co.inner c ∈ parts a → l.plain c.node ≡ false → Co.inner c ∈ own_parts a
  simple_cell (assign x o) z op c h pl = own_or_before o c op h pl
  simple_cell (fill x o) z op c h pl = own_or_before o c op h pl
  simple_cell (insert x i o) z op c h pl = h
  simple_cell (print x o) z op c h pl = own_or_before o c op h pl
  simple_cell (assert x o) z op c h pl = own_or_before o c op h pl
  simple_cell (Co.declare v) z op c h pl = absurd z
  simple_cell (Co.call_alone x y o) z op c h pl = absurd z
  simple_cell (when o d) z op c h pl = absurd z
  simple_cell (choose o d e) z op c h pl = absurd z
  simple_cell (range o d e f g i) z op c h pl = absurd z
  simple_cell (each o d e f) z op c h pl = absurd z
  simple_cell (wait o d) z op c h pl = absurd z

  pub find_cell : {k : ℕ} {st : Stmt} {es : List ℕ} (c : Cell) → StmtAs C l k st es → c ∈ cells st → l.plain c.node ≡ false → CellFound k st c es
  find_cell c declares h pl = elim h [ ]
  find_cell c (calls_alone {at = at} {n = n} {p = p} {ps = ps} {c = d} as') h pl = found_in (stmt at n (Co.call_alone p ps d)) c (λ x m. m) as' (among_cells _ h) pl
  find_cell c (simple {at = at} {n = n} j {a = a} z op as' e nd q) h pl =
      before_own j q (found_in (stmt at n a) c (cells_of C l at n a _ (λ x m. part_of_stmt a m)) as' (simple_cell a z op c (among_cells (parts a) h) pl) pl)
  find_cell c (branch {at = at} {n = n} j {c = o} {b = b} as' e mk ba q) h pl = before_own j q (found_in (stmt at n (when o b)) c (λ x m. m) as' (among_cells _ h) pl)
  find_cell c (branches {at = at} {n = n} j {c = o} {b = b} {d = d} as' e mk ba bb q) h pl = before_own j q (found_in (stmt at n (choose o b d)) c (λ x m. m) as' (among_cells _ h) pl)
  find_cell c (range_loop {at = at} {n = n} {x = x} j {lo = lo} {hi = hi} {st = st} {y = y} {b = b} as' e mk ba q) h pl = before_own j q (found_in (stmt at n (range lo hi st x y b)) c (λ x m. m) as' (among_cells _ h) pl)
  find_cell c (array_loop j e mk ba q) h pl = elim h [ ]
  find_cell c (waits j wa e q) h pl = elim h [ ]

module _ (s : Core) (C : Code) (w : IsCodeOf s C) (K : Knowledge) (wf : WellFormed s) (kn : Backs s K) (I : IsCode C) (sc : Scoped s) where
  -- where the entries of a live statement are
  pub record StmtLive (path : Path) (st : Stmt) : Type 0 where
    pub p : List Step
    pub t : ℕ
    pub k : ℕ
    pub block : Block
    pub path_is : script_path p ≡ path
    pub chain : Chain s C w.layout K p t k block
    pub alive : (j : ℕ) → In j (body C t).entries → Alive s C w K wf kn I sc (Item j p 0)
    pub there : st ∈ block_list block
    pub entries : StmtFound C w.layout k st (body C t).entries

  -- a statement between merged waits has no cell
  wait_cells : {k t' : ℕ} {gs : List code.Header} {st : Stmt} {c : Cell} → WaitAs C w.layout k st gs t' → c ∈ cells st → ⊥
  wait_cells (one_wait ba q) m = elim m [ ]
  wait_cells (merged wa q) m = elim m [ ]

  only_stmt : {b : Block} {st inner : Stmt} → st ∈ block_list b → b ≡ Co.stmts inner Co.no_stmts → st ≡ inner
  only_stmt {st = st} h q = elim (split_in (subst (λ (z : Block). st ∈ block_list z) q h)) [ inl e ↦ e | inr z ↦ elim z [ ] ]

  pub stmt_live : {path : Path} {st : Stmt} → LiveStmt s K path st → (c : Cell) → c ∈ cells st → StmtLive path st
  stmt_live {path} {st} (in_block {b = b} lv m) c cm = by (live_from s C w K wf kn I sc lv)
    where
      by : Where s C w K wf kn I sc path b → StmtLive path st
      by (at_body {p = p} {t = t} {k = k} e ch al op) = record { p = p; t = t; k = k; block = b; path_is = e; chain = ch; alive = al; there = m; entries = found_body s C w K wf kn I sc (chain_body s C w.layout K wf.names I sc ch) m }
      by (between x) = absurd (wait_cells (subst (λ (z : Stmt). WaitAs C w.layout x.k z x.below x.content) (sym (only_stmt m x.block_is)) x.as_wait) cm)

  -- A CELL'S VALUE IS STORED
  no_step : (a b : Bool) → (a && (false && b)) ≡ false
  no_step true b = refl
  no_step false b = refl

  pub leaf_deep : (a : Act) (p : List Step) (ss : List (ℕ × List Step)) → steps_on a ≡ false → is_too_deep a p ss ≡ false
  leaf_deep a p ss h = ap (λ (z : Bool). nat_le max_path_steps (length p) && (z && is_some_list ss)) h ∙ no_step (nat_le max_path_steps (length p)) (is_some_list ss)

  compute_same : {x y : Expr} → compute x ≡ compute y → x ≡ y
  compute_same h = cc

  read_compute : {A : Type 0} {y : Name} {i : ℕ} {x : Expr} → read y i ≡ compute x → A
  read_compute h = absurd (cc)

  module _ {p : List Step} {t k : ℕ} {b : Block} (ch : Chain s C w.layout K p t k b) (alive : (j : ℕ) → In j (body C t).entries → Alive s C w K wf kn I sc (Item j p 0)) (j : ℕ) (there : In j (body C t).entries) where
    -- an entry that works out one expression gives its value
    pub gives_one : {ex : Expr} {u : Scalar} {at : ℕ} {pr : ℤ} {ms : List Need} (act : code.Expr → Act) → ((x : code.Expr) (ys : List _) → Compute.compute (act x) ys ≡ given (eval ys x)) → ((x : code.Expr) → steps_on (act x) ≡ false)
        → IsEntry (entry C j) at pr ms (act (over k ms ex)) → ms ≡ each_once (wanted k ex) → AreIn k ex → ValueUnder s K (script_path p) ex (Ok (One u)) → Facts s C K (Item j p 0) (effect_at C j p 0 (Compute.Gives u))
    gives_one {ex} {u} {ms = ms} act comp leaf en mq g vu =
        let sub : (n : Need) → In n (wanted k ex) → In n ms = λ n h. subst (λ (l : List Need). In n l) (sym mq) (in_once n _ h) in
        let z = known s C w K wf kn I sc ch j there (λ n h. has_answers s C w K wf kn I sc ch j there vu g (λ n h. subst (λ (l : List Need). In n l) (sym en.needs_is) (sub n h)) n (once_in n _ (subst (λ (l : List Need). In n l) (en.needs_is ∙ mq) h))) in
        let ev = computes_so s C w K wf kn I sc ch j there z vu g ms en.needs_is sub in
        record {
          live = alive j there;
          reading = fact_of s C w K wf kn I sc ch j there z 0 (Compute.Gives u)
              (ap (λ (a : Act). Compute.compute a (answered C p (entry C j).needs z.answers)) en.act_is ∙ comp (over k ms ex) (answered C p (entry C j).needs z.answers) ∙ ap given ev) tt
              (leaf_deep (entry C j).act p _ (ap steps_on en.act_is ∙ leaf (over k ms ex)));
        }

    cell_fact : {n : ℕ} {ex : Expr} {u : Scalar} {at : ℕ} {pr : ℤ} → (entry C j).node ≡ n → IsEntry (entry C j) at pr (each_once (wanted k ex)) (code.Cell (over k (each_once (wanted k ex)) ex)) → AreIn k ex
        → ValueUnder s K (script_path p) ex (Ok (One u)) → Written (code_system C) (Facts s C K) (Datum p (scalar n)) only u
    cell_fact {n} {ex} {u} nd en g vu = record {
      task = Item j p 0;
      effect = effect_at C j p 0 (Compute.Gives u);
      fact = gives_one code.Cell (λ x ys. refl) (λ x. refl) en refl g vu;
      write = subst (λ (a : Act). In (record { place = Datum p (scalar n); key = only; value = u }) (stores C a (entry C j).node (entry C j).offset p 0 (Compute.Gives u))) (sym en.act_is)
          (inl (ap (λ (d : CodePlaces.Place). record { place = d; key = only; value = u }) (sym (declared_at C p (scalar (entry C j).node) ∙ ap (λ (z : ℕ). Datum p (scalar z)) nd))));
    }

    set_fact : (x : Name) {ex : Expr} {u : Scalar} {at : ℕ} {pr : ℤ} {q : List Step} {v : Variable} {ms : List Need} → ms ≡ each_once (wanted k ex) → IsEntry (entry C j) at pr ms (code.Set (name_as k false x) (over k ms ex)) → AreIn k ex
        → ValueUnder s K (script_path p) ex (Ok (One u)) → place_at C p (name_as k false x) ≡ Datum q v → Written (code_system C) (Facts s C K) (Datum q v) only u
    set_fact x {ex} {u} {q = q} {v = v} mq en g vu pq = record {
      task = Item j p 0;
      effect = effect_at C j p 0 (Compute.Gives u);
      fact = gives_one (code.Set (name_as k false x)) (λ x ys. refl) (λ x. refl) en mq g vu;
      write = subst (λ (a : Act). In (record { place = Datum q v; key = only; value = u }) (stores C a (entry C j).node (entry C j).offset p 0 (Compute.Gives u))) (sym en.act_is)
          (inl (ap (λ (d : CodePlaces.Place). record { place = d; key = only; value = u }) (sym pq)));
    }

  pub computed_stored : {path : Path} {st : Stmt} {n : ℕ} {ex : Expr} {u : Scalar} → LiveStmt s K path st → record { node = n; form = compute ex } ∈ cells st → w.layout.plain n ≡ false → ValueUnder s K path ex (Ok (One u))
      → (p : List Step) × (script_path p ≡ path) × Written (code_system C) (Facts s C K) (Datum p (scalar n)) only u
  computed_stored {path} {st} {n} {ex} {u} live cm pl vu = from_live (stmt_live live _ cm)
    where
      from_live : StmtLive path st → (p : List Step) × (script_path p ≡ path) × Written (code_system C) (Facts s C K) (Datum p (scalar n)) only u
      from_live sl = (sl.p, sl.path_is, by_cell (find_cell C w.layout (record { node = n; form = compute ex }) sl.entries.as_stmt cm pl))
        where
          g : AreIn sl.k ex
          g = (sc.statements sl.k sl.block st (chain_scope s C w.layout K wf.names I sc sl.chain) sl.there).in_cells _ cm

          vu' : ValueUnder s K (script_path sl.p) ex (Ok (One u))
          vu' = subst (λ (z : Path). ValueUnder s K z ex (Ok (One u))) (sym sl.path_is) vu

          by_cell : CellFound C w.layout sl.k st (record { node = n; form = compute ex }) (sl.entries).numbers → Written (code_system C) (Facts s C K) (Datum sl.p (scalar n)) only u
          by_cell cf = by_part cf.as_cell refl
            where
              by_part : {x : Part} → PartAs C w.layout sl.k cf.all cf.at cf.priority x (cf.number ∷ []) → x ≡ Co.inner (record { node = n; form = compute ex }) → Written (code_system C) (Facts s C K) (Datum sl.p (scalar n)) only u
              by_part (a_cell {e = e'} z nd en) q =
                  let e : e' ≡ ex = compute_same (ap (λ (y : Cell). y.form) (part_cell q)) in
                  let en' = subst (λ (y : Expr). IsEntry (entry C cf.number) cf.at cf.priority (each_once (wanted sl.k y)) (code.Cell (over sl.k (each_once (wanted sl.k y)) y))) e en in
                  cell_fact sl.chain sl.alive cf.number ((sl.entries).among cf.number cf.there) cf.node_is en' g vu'
              by_part (a_read z nd ix en) q = read_compute (ap (λ (y : Cell). y.form) (part_cell q))
              by_part (a_call ca) q = absurd (cc (q))

  -- AN ASSIGNED VALUE IS STORED
  pub nothing_behind : {X : Type 0} (xs : List X) → xs ++ [] ≡ xs
  nothing_behind [] = refl
  nothing_behind (x ∷ xs) = λ i. x ∷ nothing_behind xs i

  target_of : {d : Bool} {y : CodePlaces.Place} {pl : Place} → Stands s C w.layout K d y pl → d ≡ false → (path : Path) {at n : ℕ} {x : Name} {o : Outer} → stmt at n (assign x o) ∈ script_stmts s → pl ≡ place s path x
      → (q : List Step) × (v : Variable) × (v.array ≡ false) × (y ≡ Datum q v) × (pl ≡ script_place q v)
  target_of (same {p = q} {v = v}) e path m h = (q, v, e, refl, refl)
  target_of (plain {path = path'} {st = st'} live cm pl st) e path {at} {n} {x} {o} m h = absurd ((wf.cells).assign_apart at n x o st' _ path path' m (stmt_in s live) cm (sym h))
  target_of (constant {path = path'} {st = st'} live cm pl) e path {at} {n} {x} {o} m h = absurd ((wf.cells).assign_apart at n x o st' _ path path' m (stmt_in s live) cm (sym h))

  pub own_scope : (k : ℕ) (o : Outer) → FormIn k o.cell.form → AreIn k (own_expr o)
  own_scope k o g = by o.cell.form g
    where
      by : (y : Form) → FormIn k y → AreIn k (own_form o.cell.node y)
      by (compute ex) g = g
      by (read y j) g = λ i e. absurd (cc (e))

  pub record AssignedStored (path : Path) (x : Name) (u : Scalar) : Type 0 where
    pub at_path : List Step
    pub variable : Variable
    pub array : variable.array ≡ false
    pub place_is : place s path x ≡ script_place at_path variable
    pub written : Written (code_system C) (Facts s C K) (Datum at_path variable) only u

  pub assigned_stored : {path : Path} {at n : ℕ} {x : Name} {o : Outer} {u : Scalar} → LiveStmt s K path (stmt at n (assign x o)) → ValueUnder s K path (own_expr o) (Ok (One u)) → AssignedStored path x u
  assigned_stored {path} {at} {n} {x} {o} {u} live vu = from_live (stmt_live live o.cell (outer_in o.parts o.cell))
    where
      from_live : StmtLive path (stmt at n (assign x o)) → AssignedStored path x u
      from_live sl = by_entry (sl.entries).as_stmt (sl.entries).among
        where
          scp : IsScoped sl.k (stmt at n (assign x o))
          scp = sc.statements sl.k sl.block (stmt at n (assign x o)) (chain_scope s C w.layout K wf.names I sc sl.chain) sl.there

          by_entry : {js : List ℕ} → StmtAs C w.layout sl.k (stmt at n (assign x o)) js → ((j : ℕ) → In j js → In j (body C sl.t).entries) → AssignedStored path x u
          by_entry (simple j {is = is} z op as' en nd q) sub =
              let there = sub j (subst (λ (l : List ℕ). In j l) (sym q) (in_right j is (j ∷ []) (inl refl))) in
              let right : In (name_as sl.k false x) (entry C j).writes = I.stores j (name_as sl.k false x) (subst (λ (z : Act). In (name_as sl.k false x) (code.targets_of (entry C j).node z)) (sym en.act_is) (inl refl)) in
              let st = means s C w.layout K wf.names I sc (λ z. z.writes) (covering_writes s C w.layout K wf.names I sc) sl.chain j there false x right (scp.in_targets x first) in
              let tg = target_of st refl (script_path sl.p) (stmt_in s live) refl in
              let vu' = subst (λ (z : Path). ValueUnder s K z (own_expr o) (Ok (One u))) (sym sl.path_is) vu in
              record {
                at_path = tg.0;
                variable = tg.1;
                array = tg.2;
                place_is = ap (λ (z : Path). place s z x) (sym sl.path_is) ∙ tg.4;
                written = set_fact sl.chain sl.alive j there x (ap each_once (nothing_behind (wanted sl.k (own_expr o)))) en (own_scope sl.k o (scp.in_cells o.cell (outer_in o.parts o.cell))) vu' tg.3;
              }

  -- AN ELEMENT READ'S VALUE IS STORED
  module _ {p : List Step} {t k : ℕ} {b : Block} (ch : Chain s C w.layout K p t k b) (alive : (j : ℕ) → In j (body C t).entries → Alive s C w K wf kn I sc (Item j p 0)) (j : ℕ) (there : In j (body C t).entries) where
    element_has : (y : Name) (n : Need) → IsIn k y → In n (entry C j).needs → In (name_as k true y) (code.needed n) → (v : Scalar) (key : Key) (x : Got) → key_of v ≡ key → ((q : List Step) (d : Variable) → place s (script_path p) y ≡ script_place q d → HasElement s K (Datum q d) key x)
        → HasElement s K (place_at C p (name_as k true y)) (key_of v) x
    element_has y n g m h v key x q has =
        let z = same_array s wf K (name_stands s wf K kn C w.layout I sc ch j there true y n g m h) refl in
        subst (λ (d : CodePlaces.Place). HasElement s K d (key_of v) x) (sym z.is) (subst (λ (e : Key). HasElement s K (Datum z.path z.variable) e x) (sym q) (has z.path z.variable z.place_is))

    -- what the read needs is answered as the element is
    pub index_answer : {st : Stmt} {all : List Part} {y : Name} {i : ℕ} {need : Need} {key : Key} (x : Got) (v : Scalar) → LiveStmt s K (script_path p) st → ((d : Cell) → d ∈ part_cells all → d ∈ cells st) → IsScoped k st → IndexAs C w.layout k all y i need → In need (entry C j).needs → IsIn k y
        → K (value (script_path p, i) (One v)) → key_of v ≡ key → ((q : List Step) (d : Variable) → place s (script_path p) y ≡ script_place q d → HasElement s K (Datum q d) key x) → Ans s C K p need x
    index_answer {y = y} {key = key} u v live sub scp (at_literal {n = n} {v = v'} im pl) m g kv ik has =
        let e : v' ≡ v = literal_inv s wf K (gives_value (cell_gives s wf.cells K (stmt_in s live) (sub _ im) (kn.backed _ kv)).1 refl) refl refl in
        element_has y _ g m (inl refl) v' key u (ap key_of e ∙ ik) has
    index_answer {y = y} {key = key} u v live sub scp (at_name {n = n} {x = x} im pl) m g kv ik has =
        let hv = name_inv s wf K (gives_value (cell_gives s wf.cells K (stmt_in s live) (sub _ im) (kn.backed _ kv)).1 refl) refl refl in
        (v, to_code s wf K kn C w.layout (name_stands s wf K kn C w.layout I sc ch j there false x _ (scp.in_cells _ (sub _ im)) m (inr (inl refl))) v hv, element_has y _ g m (inl refl) v key u ik has)
    index_answer {y = y} {key = key} u v live sub scp (at_datum {c = d} im pl) m g kv ik has =
        let hv = subst (λ (z : Place). HasValue s K z v) (sym (place_here s (script_path p) d.node)) (stored kv) in
        (v, to_code s wf K kn C w.layout (name_stands s wf K kn C w.layout I sc ch j there false (here d.node) _ (λ i e. absurd (cc (e))) m (inr (inl refl))) v hv, element_has y _ g m (inl refl) v key u ik has)

    read_fact : {need : Need} {n : ℕ} {u : Scalar} {at : ℕ} {pr : ℤ} → (entry C j).node ≡ n → IsEntry (entry C j) at pr (need ∷ []) code.Read → Ans s C K p need (Found u) → Written (code_system C) (Facts s C K) (Datum p (scalar n)) only u
    read_fact {need} {n} {u} nd en an =
        let inp = inputs_of s C K p (entry C j).needs (Found u ∷ []) (subst (λ (l : List Need). AnsAll s C K p l (Found u ∷ [])) (sym en.needs_is) (an, tt)) in
        let z : Known s C w K wf kn I sc ch j there = record { answers = inp.answers; read = inp.read; says = subst (λ (l : List Got). AnsAll s C K p (entry C j).needs l) (sym inp.back) (subst (λ (l : List Need). AnsAll s C K p l (Found u ∷ [])) (sym en.needs_is) (an, tt)) } in
        record {
          task = Item j p 0;
          effect = effect_at C j p 0 (Compute.Gives u);
          fact = record {
            live = alive j there;
            reading = fact_of s C w K wf kn I sc ch j there z 0 (Compute.Gives u)
                (ap (λ (a : Act). Compute.compute a (answered C p (entry C j).needs z.answers)) en.act_is ∙ ap (λ (l : List Got). Compute.compute code.Read l) inp.back) tt
                (leaf_deep (entry C j).act p _ (ap steps_on en.act_is));
          };
          write = subst (λ (a : Act). In (record { place = Datum p (scalar n); key = only; value = u }) (stores C a (entry C j).node (entry C j).offset p 0 (Compute.Gives u))) (sym en.act_is)
              (inl (ap (λ (d : CodePlaces.Place). record { place = d; key = only; value = u }) (sym (declared_at C p (scalar (entry C j).node) ∙ ap (λ (z : ℕ). Datum p (scalar z)) nd))));
        }

  read_same : {x y : Name} {i m : ℕ} → read x i ≡ read y m → (x ≡ y) × (i ≡ m)
  read_same h = (cc (h), cc (h))

  compute_read : {A : Type 0} {y : Name} {i : ℕ} {x : Expr} → compute x ≡ read y i → A
  compute_read h = absurd (cc)

  pub read_stored : {path : Path} {st : Stmt} {n i : ℕ} {y : Name} {u : Scalar} {ix : Value} {key : Key} → LiveStmt s K path st → record { node = n; form = read y i } ∈ cells st → w.layout.plain n ≡ false
      → K (value (path, i) ix) → IsKey ix key → OneWrite K (place s path y) key u → (p : List Step) × (script_path p ≡ path) × Written (code_system C) (Facts s C K) (Datum p (scalar n)) only u
  read_stored {path} {st} {n} {i} {y} {u} {ix} {key} live cm pl kv ik one = from_live (stmt_live live _ cm)
    where
      index : (v : Scalar) × (ix ≡ One v) × (key_of v ≡ key)
      index = key_as ik

      from_live : StmtLive path st → (p : List Step) × (script_path p ≡ path) × Written (code_system C) (Facts s C K) (Datum p (scalar n)) only u
      from_live sl = (sl.p, sl.path_is, by_cell (find_cell C w.layout (record { node = n; form = read y i }) sl.entries.as_stmt cm pl))
        where
          scp : IsScoped sl.k st
          scp = sc.statements sl.k sl.block st (chain_scope s C w.layout K wf.names I sc sl.chain) sl.there

          by_cell : CellFound C w.layout sl.k st (record { node = n; form = read y i }) (sl.entries).numbers → Written (code_system C) (Facts s C K) (Datum sl.p (scalar n)) only u
          by_cell cf = by_part cf.as_cell refl
            where
              by_part : {x : Part} → PartAs C w.layout sl.k cf.all cf.at cf.priority x (cf.number ∷ []) → x ≡ Co.inner (record { node = n; form = read y i }) → Written (code_system C) (Facts s C K) (Datum sl.p (scalar n)) only u
              by_part (a_cell z nd en) q = compute_read (ap (λ (y : Cell). y.form) (part_cell q))
              by_part (a_read {i = i'} {a = y'} {need = need} zz nd ia en) q =
                  let e = read_same (ap (λ (y : Cell). y.form) (part_cell q)) in
                  let ia' = subst (λ (m : ℕ). IndexAs C w.layout sl.k cf.all y m need) e.1 (subst (λ (x : Name). IndexAs C w.layout sl.k cf.all x i' need) e.0 ia) in
                  let there = (sl.entries).among cf.number cf.there in
                  let live' = subst (λ (z : Path). LiveStmt s K z st) (sym sl.path_is) live in
                  let kv' = subst (λ (z : Path). K (value (z, i) (One index.0))) (sym sl.path_is) (subst (λ (z : Value). K (value (path, i) z)) index.1 kv) in
                  let one' = subst (λ (z : Path). OneWrite K (place s z y) key u) (sym sl.path_is) one in
                  read_fact sl.chain sl.alive cf.number there cf.node_is en
                  (index_answer sl.chain sl.alive cf.number there (Found u) index.0 live' cf.cells_in scp ia' (subst (λ (l : List Need). In need l) (sym en.needs_is) (inl refl)) (scp.in_cells _ cm) kv' index.2 (λ q d e. subst (λ (z : Place). OneWrite K z key u) e one'))
              by_part (a_call ca) q = absurd (cc (q))

  -- a datum that a live body makes
  pub record IsMade (p : List Step) (v : Variable) : Type 0 where
    pub body_number : ℕ
    pub inputs : ℕ
    pub block : Block
    pub chain : Chain s C w.layout K p body_number inputs block
    pub made : In v (body C body_number).makes

  -- A SCALAR THAT THE SCRIPT KNOWS IS STORED; loop variables are handed over
  abbrev pub TurnsStored : Type 0
  TurnsStored = (p : List Step) (v : Variable) (u : Scalar) (at n x : ℕ) (header : Action) (path : Path) (vs : List Value) (key : Key) (b : Block) → v.array ≡ false → LiveStmt s K path (stmt at n header) → Ready s K path header vs → Opens header vs key b → InTurn header vs key x u
      → length path < max_path_steps → script_place p v ≡ ((at, key) ∷ path, x) → Written (code_system C) (Facts s C K) (Datum p v) only u

  module _ (turns : TurnsStored) where
    same_variable : {x y : Variable} → x.node ≡ y.node → x.array ≡ y.array → x ≡ y
    same_variable e f = λ i. record { node = e i; array = f i }

    move : {p q : List Step} {x y : Variable} {u : Scalar} → p ≡ q → x ≡ y → Written (code_system C) (Facts s C K) (Datum p x) only u → Written (code_system C) (Facts s C K) (Datum q y) only u
    move {p} {q} {x} {y} {u} e f h = subst (λ (z : CodePlaces.Place). Written (code_system C) (Facts s C K) z only u) (λ i. Datum (e i) (f i)) h

    own_value : {path : Path} {at n : ℕ} {x : Name} (o : Outer) {u : Scalar} → LiveStmt s K path (stmt at n (assign x o)) → K (value (path, o.cell.node) (One u)) → ValueUnder s K path (own_expr o) (Ok (One u))
    own_value {path} {at} {n} {x} o {u} live c = by o.cell.form refl
      where
        cm : o.cell ∈ cells (stmt at n (assign x o))
        cm = outer_in o.parts o.cell

        gave : Gives s K path o.cell.form (Ok (One u))
        gave = (cell_gives s wf.cells K (stmt_in s live) cm (kn.backed _ c)).1

        by : (f : Form) → o.cell.form ≡ f → ValueUnder s K path (own_form o.cell.node f) (Ok (One u))
        by (compute e) q = gives_value gave q
        by (read y i) q = of_name (subst (λ (z : Place). HasValue s K z u) (sym (place_here s path o.cell.node)) (stored c))

    from_cell : (p : List Step) (v : Variable) (u : Scalar) → v.array ≡ false → w.layout.plain v.node ≡ false → {path : Path} {st : Stmt} (c : Cell) → LiveStmt s K path st → c ∈ cells st → Gives s K path c.form (Ok (One u)) → script_place p v ≡ (path, c.node) → Written (code_system C) (Facts s C K) (Datum p v) only u
    from_cell p v u va pl {path} {st} c live cm gv q = by c.form refl
      where
        node_is : c.node ≡ v.node
        node_is = sym (ap (λ (z : Place). z.1) q)

        real : w.layout.plain c.node ≡ false
        real = ap w.layout.plain node_is ∙ pl

        finish : (p' : List Step) × (script_path p' ≡ path) × Written (code_system C) (Facts s C K) (Datum p' (scalar c.node)) only u → Written (code_system C) (Facts s C K) (Datum p v) only u
        finish r = move (path_same r.0 p (r.1 ∙ sym (ap (λ (z : Place). z.0) q))) (same_variable node_is (sym va)) r.2

        by_read : {y : Name} {i : ℕ} {f : Result Value Fault} → record { node = c.node; form = read y i } ∈ cells st → Gives s K path (read y i) f → f ≡ Ok (One u) → (p' : List Step) × (script_path p' ≡ path) × Written (code_system C) (Facts s C K) (Datum p' (scalar c.node)) only u
        by_read {y} m (found {k = key} {v = x} kv ik one) e = read_stored live m real kv ik (subst (λ (z : Scalar). OneWrite K (place s path y) key z) (one_of e) one)
        by_read m (missing kv ik cl no_write) e = absurd (cc (e))

        by : (f : Form) → c.form ≡ f → Written (code_system C) (Facts s C K) (Datum p v) only u
        by (compute e) g =
            finish (computed_stored live (subst (λ (z : Cell). z ∈ cells st) (λ i. record { node = c.node; form = g i }) cm) real (gives_value gv g))
        by (read y i) g =
            finish (by_read (subst (λ (z : Cell). z ∈ cells st) (λ i. record { node = c.node; form = g i }) cm) (subst (λ (z : Form). Gives s K path z (Ok (One u))) g gv) refl)

    pub from_fact : (p : List Step) (v : Variable) (u : Scalar) → v.array ≡ false → w.layout.plain v.node ≡ false → {pl : Place} (n : New s K (value pl (One u))) → RightKnown s K n → pl ≡ script_place p v → Written (code_system C) (Facts s C K) (Datum p v) only u
    from_fact p v u va pl n h q =
        elim (value_known n h refl) [
          | inl a ↦ from_cell p v u va pl a.cell a.live a.there a.gives (sym q ∙ a.is)
          | inr z ↦ (let a = z.0 in let r = assigned_stored a.live (own_value a.right a.live z.1) in
              let e : script_place r.at_path r.variable ≡ script_place p v = sym r.place_is ∙ sym a.is ∙ q in
              move (path_same r.at_path p (ap (λ (z : Place). z.0) e)) (same_variable (ap (λ (z : Place). z.1) e) (r.array ∙ sym va)) r.written)
        ]

    pub scalars_from : (p : List Step) (v : Variable) (u : Scalar) → v.array ≡ false → w.layout.plain v.node ≡ false → {pl : Place} → HasValue s K pl u → pl ≡ script_place p v → Written (code_system C) (Facts s C K) (Datum p v) only u
    scalars_from p v u va pl (stored k) q = from_fact p v u va pl (kn.backed _ k) (kn.behind _ k) q
    scalars_from p v u va pl (in_turn {path = path} {at = at} {n = n} {x = x} {header = header} {vs = vs} {k = key} {b = b} lv m r o t d) q = turns p v u at n x header path vs key b va (in_block lv m) r o t d (sym q)
