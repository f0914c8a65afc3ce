-- The data that a body declares: those of cells, of calls in expressions, of loops, and the variables that are declared.
use Rattle.std.proofs.Common.{◌≡◌, inl, inr, ℕ, ◌<◌, Bool, true, false, List, [], ◌∷◌, ◌++◌, length, refl, sym, ap, ◌∙◌, subst, Option, Some, None}
use Rattle.dataflow.specs.System.{In}
use Rattle.dataflow.proofs.Lists.{in_left, in_right}
use Rattle.language.specs.Core.{Name, here, Form, read, Cell, Call, Part, inner, calls, Stmt, stmt, Action, declare, call_alone, assign, fill, insert, print, assert, when, choose, range, each, wait, Core}
use Rattle.language.specs.Members.{◌∈◌}
use Rattle.language.specs.Parts.{block_list}
use Rattle.language.specs.Scopes.{Typ}
use Rattle.language.proofs.Members.{split_in}
use Rattle.task_code.specs.Code as code
use Rattle.task_code.specs.Code.{Variable, Code, body, scalar}
use Rattle.task_code.specs.Whole.{Declared}
use Rattle.language_laws.specs.TypedValues.{own_parts}
use Rattle.code_rules.specs.IsCodeOf.{Layout}
use Rattle.code_rules.specs.Laying.{Kinds, PlainAs, plain_after, cell_data, output_scalars, data_in, data_of}
use Rattle.code_rules.specs.Laid.{Table, StmtLaid, declares_laid, call_laid, simple_laid, branch_laid, branches_laid, range_laid, each_laid, wait_laid, StmtsLaid, none_laid, one_laid, BodyLaid, IsLaid}
use Rattle.code_laws.specs.Described.{is_array_shape}
use Rattle.code_laws.proofs.Scoping.{before}
use Rattle.code_laws.proofs.Shapes.{HomeIn}

pub inner_same : {x y : Cell} → inner x ≡ inner y → x ≡ y
inner_same h = cc

pub calls_same : {x y : Call} → calls x ≡ calls y → x ≡ y
calls_same h = cc

-- the datum of a cell
own_datum : (b : Bool) (n : ℕ) → b ≡ false → In (scalar n) (cell_data b n)
own_datum true n e = absurd (cc (e))
own_datum false n e = inl refl

cell_datum : (l : Layout) (p : Option Part) (ps : List Part) {c : Cell} → PlainAs l p ps → inner c ∈ ps → l.plain c.node ≡ false → In (scalar c.node) (data_in p ps)
cell_datum l p [] f m e = elim m [ ]
cell_datum l p (inner d ∷ ps) {c} f m e = elim (split_in m) [
  | inl q ↦ (let same : c ≡ d = inner_same q in
      subst (λ (n : ℕ). In (scalar n) (data_in p (inner d ∷ ps))) (sym (ap (λ (x : Cell). x.node) same))
      (in_left (scalar d.node) (cell_data (plain_after p d.form) d.node) (data_in (Some (inner d)) ps) (own_datum (plain_after p d.form) d.node (sym f.0 ∙ subst (λ (x : Cell). l.plain x.node ≡ false) same e))))
  | inr i ↦ in_right (scalar c.node) (cell_data (plain_after p d.form) d.node) (data_in (Some (inner d)) ps) (cell_datum l (Some (inner d)) ps f.1 i e)
]
cell_datum l p (calls d ∷ ps) {c} f m e = elim (split_in m) [
  | inl q ↦ absurd (cc (q))
  | inr i ↦ in_right (scalar c.node) (output_scalars d.outputs) (data_in (Some (calls d)) ps) (cell_datum l (Some (calls d)) ps f i e)
]

-- a cell that reads an element has one
pub read_real : (l : Layout) (p : Option Part) (ps : List Part) {c : Cell} {a : Name} {i : ℕ} → PlainAs l p ps → inner c ∈ ps → c.form ≡ read a i → l.plain c.node ≡ false
read_real l p [] f m e = elim m [ ]
read_real l p (inner d ∷ ps) {c} f m e = elim (split_in m) [
  | inl q ↦ (let same : c ≡ d = inner_same q in
      subst (λ (x : Cell). l.plain x.node ≡ false) (sym same) (f.0 ∙ ap (λ (x : Form). plain_after p x) (sym (ap (λ (x : Cell). x.form) same) ∙ e)))
  | inr i ↦ read_real l (Some (inner d)) ps f.1 i e
]
read_real l p (calls d ∷ ps) f m e = elim (split_in m) [ inl q ↦ absurd (cc (q)) | inr i ↦ read_real l (Some (calls d)) ps f i e ]

-- the datum of a call's output
call_datum : (p : Option Part) (ps : List Part) {c : Call} {n : ℕ} → calls c ∈ ps → c.outputs ≡ here n ∷ [] → In (scalar n) (data_in p ps)
call_datum p [] m e = elim m [ ]
call_datum p (inner d ∷ ps) {n = n} m e = elim (split_in m) [
  | inl q ↦ absurd (cc (q))
  | inr i ↦ in_right (scalar n) (cell_data (plain_after p d.form) d.node) (data_in (Some (inner d)) ps) (call_datum (Some (inner d)) ps i e)
]
call_datum p (calls d ∷ ps) {c} {n} m e = elim (split_in m) [
  | inl q ↦ in_left (scalar n) (output_scalars d.outputs) (data_in (Some (calls d)) ps) (subst (λ (xs : List Name). In (scalar n) (output_scalars xs)) (sym (sym (ap (λ (x : Call). x.outputs) (calls_same q)) ∙ e)) (inl refl))
  | inr i ↦ in_right (scalar n) (output_scalars d.outputs) (data_in (Some (calls d)) ps) (call_datum (Some (calls d)) ps i e)
]

plain_front : (l : Layout) (p : Option Part) (ps qs : List Part) → PlainAs l p (ps ++ qs) → PlainAs l p ps
plain_front l p [] qs f = tt
plain_front l p (inner d ∷ ps) qs f = (f.0, plain_front l (Some (inner d)) ps qs f.1)
plain_front l p (calls d ∷ ps) qs f = plain_front l (Some (calls d)) ps qs f

pub plain_before : (l : Layout) (a : Action) → PlainAs l None (own_parts a) → PlainAs l None (before a)
plain_before l (call_alone p ps d) f = plain_front l None ps (calls d ∷ []) f
plain_before l (declare v) f = f
plain_before l (assign x e) f = f
plain_before l (fill a e) f = f
plain_before l (insert a j e) f = f
plain_before l (print p e) f = f
plain_before l (assert p e) f = f
plain_before l (when c b) f = f
plain_before l (choose c b d) f = f
plain_before l (range lo hi st v t b) f = f
plain_before l (each a v t b) f = f
plain_before l (wait ns b) f = f

pub data_before : (a : Action) → data_of a ≡ data_in None (before a)
data_before (call_alone p ps d) = refl
data_before (declare v) = refl
data_before (assign x e) = refl
data_before (fill a e) = refl
data_before (insert a j e) = refl
data_before (print p e) = refl
data_before (assert p e) = refl
data_before (when c b) = refl
data_before (choose c b d) = refl
data_before (range lo hi st v t b) = refl
data_before (each a v t b) = refl
data_before (wait ns b) = refl

module _ (C : Code) (l : Layout) (T : Table) where
  laid_data : {k at n : ℕ} {a : Action} {es : List ℕ} {vs : List Variable} → StmtLaid C l T k (stmt at n a) es vs → (v : Variable) → In v (data_of a) → In v vs
  laid_data (declares_laid b) v h = absurd h
  laid_data (call_laid as') v h = h
  laid_data (simple_laid i z as' e q r) v h = h
  laid_data (branch_laid i as' e m s r) v h = h
  laid_data (branches_laid i as' e m s u r) v h = h
  laid_data (range_laid i as' e m s r) v h = h
  laid_data (each_laid i e m s r) v h = h
  laid_data (wait_laid i w e s r) v h = h

  declare_laid : {k at n m : ℕ} {es : List ℕ} {vs : List Variable} → StmtLaid C l T k (stmt at n (declare m)) es vs → (b : Bool) × In (record { node = m; array = b }) vs
  declare_laid (declares_laid b) = (b, inl refl)
  declare_laid (simple_laid i z as' e q r) = absurd z

  declared_in : {k at n m : ℕ} {sts : List Stmt} {es : List ℕ} {own : List Variable} → StmtsLaid C l T k sts es own → stmt at n (declare m) ∈ sts → (b : Bool) × In (record { node = m; array = b }) own
  declared_in none_laid i = elim i [ ]
  declared_in {k} {at} {n} {m} {own = own} (one_laid {st = st} {is = is} {vs = vs} {ws = ws} one rest q r) i = elim (split_in i) [
    | inl e ↦ (let d = declare_laid (subst (λ (z : Stmt). StmtLaid C l T k z is vs) (sym e) one) in (d.0, subst (λ (z : List Variable). In (record { node = m; array = d.0 }) z) (sym r) (in_left (record { node = m; array = d.0 }) vs ws d.1)))
    | inr j ↦ (let d = declared_in rest j in (d.0, subst (λ (z : List Variable). In (record { node = m; array = d.0 }) z) (sym r) (in_right (record { node = m; array = d.0 }) vs ws d.1)))
  ]

module _ {s : Core} {fs : List Kinds} {ds : List (ℕ × Bool)} (C : Code) (l : Layout) (L : IsLaid s fs ds C l) where
  own_made : {t : ℕ} (b : BodyLaid C l L.table s t) (v : Variable) → In v b.own → In v (body C t).makes
  own_made {t} b v h = subst (λ (z : List Variable). In v z) (sym b.makes) (in_right v (L.table.variables_of t) b.own h)

  -- a variable that a block declares is an array where its type is one
  pub declares : (type_of : ℕ → Typ) → ((n : ℕ) (b : Bool) → ◌∈◌ {X = ℕ × Bool} (n, b) ds → is_array_shape (type_of n).shape ≡ b)
      → (t at n m : ℕ) → t < length C.bodies → stmt at n (declare m) ∈ block_list (L.table.block_of t) → In (record { node = m; array = is_array_shape (type_of m).shape }) (body C t).makes
  declares type_of D t at n m h i =
      let b = L.bodies t h in
      let r = declared_in C l L.table b.stmts i in
      by r.0 (own_made b (record { node = m; array = r.0 }) r.1)
    where
      by : (f : Bool) → In (record { node = m; array = f }) (body C t).makes → In (record { node = m; array = is_array_shape (type_of m).shape }) (body C t).makes
      by true g = subst (λ (z : Bool). In (record { node = m; array = z }) (body C t).makes) (sym (D m true (L.arrays t (record { node = m; array = true }) g refl))) g
      by false g = subst (λ (z : Bool). In (record { node = m; array = z }) (body C t).makes) (sym (D m false (L.scalars t (record { node = m; array = false }) at n g refl h i))) g

  -- what a statement's parts make
  pub record PartsMade (t : ℕ) (a : Action) : Type 0 where
    pub plain : PlainAs l None (own_parts a)
    pub made : (v : Variable) → In v (data_of a) → In v (body C t).makes

  pub parts_made : {t j at n : ℕ} {a : Action} (x : HomeIn C l L t j) → (x.of).st ≡ stmt at n a → PartsMade t a
  parts_made {t} {at = at} {n = n} {a = a} x e = record {
    plain = (x.laid.suits at n a (subst (λ (z : Stmt). z ∈ block_list (L.table.block_of t)) e (x.of).there)).parts_plain;
    made = λ v h. own_made x.laid v ((x.of).made v (laid_data C l L.table (subst (λ (z : Stmt). StmtLaid C l L.table (L.table.inputs_of t) z (x.of).numbers (x.of).variables) e (x.of).laid) v h));
  }

  stmt_laid : {k : ℕ} {sts : List Stmt} {es : List ℕ} {own : List Variable} (st : Stmt) → StmtsLaid C l L.table k sts es own → st ∈ sts → (is : List ℕ) × (vs : List Variable) × StmtLaid C l L.table k st is vs × ((v : Variable) → In v vs → In v own)
  stmt_laid st none_laid i = elim i [ ]
  stmt_laid {k} {own = own} st (one_laid {st = u} {is = is} {vs = vs} {ws = ws} one rest q r) i = elim (split_in i) [
    | inl e ↦ (is, vs, subst (λ (z : Stmt). StmtLaid C l L.table k z is vs) (sym e) one, λ v m. subst (λ (z : List Variable). In v z) (sym r) (in_left v vs ws m))
    | inr j ↦ (let d = stmt_laid st rest j in (d.0, d.1, d.2, λ v m. subst (λ (z : List Variable). In v z) (sym r) (in_right v vs ws (d.3 v m))))
  ]

  pub stmt_made : (t at n : ℕ) (a : Action) → t < length C.bodies → stmt at n a ∈ block_list (L.table.block_of t) → PartsMade t a
  stmt_made t at n a h m =
      let b = L.bodies t h in
      let r = stmt_laid (stmt at n a) b.stmts m in
      record { plain = (b.suits at n a m).parts_plain; made = λ v i. own_made b v (r.3 v (laid_data C l L.table r.2 v i)) }

  scalar_declared : {t : ℕ} (n : ℕ) → In (scalar n) (body C t).makes → Declared C t (code.here (scalar n))
  scalar_declared n h = record { variable = scalar n; is = refl; made = h }

  pub cell_declared : {t : ℕ} {a : Action} {c : Cell} → PartsMade t a → inner c ∈ before a → l.plain c.node ≡ false → Declared C t (code.here (scalar c.node))
  cell_declared {a = a} {c = c} p m e =
      scalar_declared c.node (p.made (scalar c.node) (subst (λ (z : List Variable). In (scalar c.node) z) (sym (data_before a)) (cell_datum l None (before a) (plain_before l a p.plain) m e)))

  pub read_declared : {t n i : ℕ} {a : Action} {x : Name} → PartsMade t a → inner (record { node = n; form = read x i }) ∈ before a → Declared C t (code.here (scalar n))
  read_declared {a = a} p m = cell_declared p m (read_real l None (before a) (plain_before l a p.plain) m refl)

  pub call_declared : {t n : ℕ} {a : Action} {c : Call} → PartsMade t a → calls c ∈ before a → c.outputs ≡ here n ∷ [] → Declared C t (code.here (scalar n))
  call_declared {n = n} {a = a} p m e = scalar_declared n (p.made (scalar n) (subst (λ (z : List Variable). In (scalar n) z) (sym (data_before a)) (call_datum None (before a) m e)))
