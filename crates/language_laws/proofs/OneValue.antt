-- Where a place has one value, an expression has one, and a cell has one value or fault, also as knowledge grows.
use Rattle.std.specs.Prelude.{◌≡◌, ◌⊎◌, ℕ, Bool, true, false, IsTrue, List, [], ◌∷◌, Option, Some, Result, Ok, Err, refl}
use Rattle.std.proofs.Common.{inl, inr, sym, ap, ◌∙◌, subst}
use Rattle.values.specs.declared.fault.OpFault.{OpFault}
use Rattle.values.specs.declared.key.Key.{Key}
use Rattle.values.specs.declared.map.Element.{Element}
use Rattle.values.specs.declared.value.Scalar.{Scalar}
use Rattle.values.specs.declared.value.Scalar.TheVariants.{Number}
use Rattle.values.specs.declared.value.Value.{Value}
use Rattle.values.specs.declared.value.Value.TheVariants.{One, Many}
use Rattle.values.specs.Maps.{rising}
use Rattle.values.specs.Operators.{evaluated}
use Rattle.values.specs.Ranges.{value_in}
use Rattle.language.specs.Core.{Name, Expr, Exprs, Form, Stmt, stmt, Action, each, Block, Core}
use Rattle.language.specs.Facts.{Fault, operation, value, element, Knowledge, IsKey, a_number, a_text, Elements}
use Rattle.language.specs.Meaning.{Ready, cells_known, source_closed, in_block, HasValue, stored, in_turn, ValueUnder, of_literal, of_name, of_array, of_operator, ValuesUnder, no_operand, operand, Gives, computed, faulty, found, missing}
use Rattle.language_laws.proofs.Declared.{stmt_in}
use Rattle.language.specs.Members.{◌∈◌}
use Rattle.language.specs.Openings.{Bounds, InTurn, range_value, range_turn, each_value, each_key}
use Rattle.language.specs.Parts.{script_stmts}
use Rattle.language.specs.Places.{Path, Place, Step, place}
use Rattle.language.specs.WellFormed.{NamesFound, LoopsApart, Role, range_value_role, range_turn_role, each_value_role, each_key_role}
use Rattle.language_laws.proofs.Growth.{Grows, keeps_value, keeps_closed, keeps_elements}
use Rattle.language_laws.proofs.Hinge.{Later, choice_stays, grows}
use Rattle.language_laws.proofs.Rising.{rising_same, rising_once}

-- a place has one value, none is stored at a loop variable, and a writer has one value under a key
pub record OneEach (s : Core) (K : Knowledge) : Type 0 where
  pub one_value : (p : Place) (v u : Value) → K (value p v) → K (value p u) → v ≡ u
  pub one_element : (a : Place) (k : Key) (w : Place) (v u : Scalar) → K (element a k w v) → K (element a k w u) → v ≡ u
  pub no_loop_value : (st : Stmt) (x : ℕ) (r : Bool) (path : Path) (v : Value) → st ∈ script_stmts s → Role st x r → K (value (path, x) v) → ⊥

role_of : {at n x : ℕ} {a : Action} {vs : List Value} {k : Key} {v : Scalar} → InTurn a vs k x v → (r : Bool) × Role (stmt at n a) x r
role_of (range_value e q) = (true, range_value_role)
role_of (range_turn q) = (false, range_turn_role)
role_of (each_value m) = (true, each_value_role)
role_of (each_key q) = (false, each_key_role)

-- a loop variable, by the turn that has it
record Turn (s : Core) (K : Knowledge) (p : Place) (v : Scalar) : Type 0 where
  at : ℕ
  node : ℕ
  header : Action
  path : Path
  key : Key
  values : List Value
  variable : ℕ
  there : stmt at node header ∈ script_stmts s
  ready : Ready s K path header values
  turn : InTurn header values key variable v
  is : p ≡ ((at, key) ∷ path, variable)

view : {s : Core} {K : Knowledge} {p : Place} {v : Scalar} → HasValue s K p v → K (value p (One v)) ⊎ Turn s K p v
view (stored k) = inl k
view {s} (in_turn l m r o t d) = inr (record { at = _; node = _; header = _; path = _; key = _; values = _; variable = _; there = stmt_in s (in_block l m); ready = r; turn = t; is = refl })

one_same : {v u : Scalar} → One v ≡ One u → v ≡ u
one_same h = cc

some_same : {A : Type 0} {x y : A} → ◌≡◌ {A = Option A} (Some x) (Some y) → x ≡ y
some_same h = cc

action_same : {at n at' n' : ℕ} {a b : Action} → stmt at n a ≡ stmt at' n' b → a ≡ b
action_same h = cc

true_false : {A : Type 0} → true ≡ false → A
true_false h = absurd (cc (h))

-- a ready loop over an array has its elements by rising key
ready_rising : {s : Core} {K : Knowledge} {path : Path} {a : Name} {x : ℕ} {t : Option ℕ} {b : Block} {es : List Element} → Ready s K path (each a x t b) (Many es ∷ []) → IsTrue (rising es)
ready_rising (cells_known ks d) = elim d [ ]
ready_rising (source_closed c x) = x.in_order

module _ (s : Core) (w : NamesFound s) (apart : LoopsApart s) (K : Knowledge) (g : OneEach s K) (l : Later s K K) where
  one_role : {A : Type 0} {st : Stmt} {x y : ℕ} → st ∈ script_stmts s → Role st x true → Role st y false → x ≡ y → A
  one_role {st = st} {x = x} {y = y} m a b e = true_false ((apart.role_once st st y true false m m (subst (λ (z : ℕ). Role st z true) e a) b).1)

  turn_same : {at n x y : ℕ} {a : Action} {path : Path} {vs : List Value} {k : Key} {v u : Scalar} → stmt at n a ∈ script_stmts s → Ready s K path a vs
      → InTurn a vs k x v → InTurn a vs k y u → x ≡ y → v ≡ u
  turn_same m r (range_value {i = i} e q) (range_value e' q') h = q ∙ ap (λ (b : Bounds). Number (value_in b.low b.step i)) (some_same (sym e ∙ e')) ∙ sym q'
  turn_same m r (range_value e q) (range_turn q') h = one_role m range_value_role range_turn_role h
  turn_same m r (range_turn q) (range_value e q') h = one_role m range_value_role range_turn_role (sym h)
  turn_same m r (range_turn q) (range_turn q') h = q ∙ sym q'
  turn_same {v = v} {u = u} m r (each_value {es = es} {k = k} i) (each_value j) h = rising_once es (ready_rising r) k v u i j
  turn_same m r (each_value i) (each_key q) h = one_role m each_value_role each_key_role h
  turn_same m r (each_key q) (each_value i) h = one_role m each_value_role each_key_role (sym h)
  turn_same m r (each_key q) (each_key q') h = q ∙ sym q'

  -- a place has one scalar
  pub scalar_same : (p : Place) (v u : Scalar) → HasValue s K p v → HasValue s K p u → v ≡ u
  scalar_same p v u h k = by (view h) (view k)
    where
      clash : {y : Scalar} (x : Scalar) → K (value p (One x)) → Turn s K p y → v ≡ u
      clash x f t =
          let r = role_of {at = t.at} {n = t.node} t.turn in
          absurd (g.no_loop_value (stmt t.at t.node t.header) t.variable r.0 ((t.at, t.key) ∷ t.path) (One x) t.there r.1 (subst (λ (z : Place). K (value z (One x))) t.is f))

      turns : Turn s K p v → Turn s K p u → v ≡ u
      turns t m =
          let e : ◌≡◌ {A = Place} ((t.at, t.key) ∷ t.path, t.variable) ((m.at, m.key) ∷ m.path, m.variable) = sym t.is ∙ m.is in
          let en : t.variable ≡ m.variable = ap (λ (z : Place). z.1) e in
          let ep : (t.at, t.key) ∷ t.path ≡ (m.at, m.key) ∷ m.path = ap (λ (z : Place). z.0) e in
          let eh : ◌≡◌ {A = Step} (t.at, t.key) (m.at, m.key) = cc (ep) in
          let et : t.path ≡ m.path = cc (ep) in
          let ek : t.key ≡ m.key = ap (λ (z : Step). z.1) eh in
          let rt = role_of {at = t.at} {n = t.node} t.turn in
          let rm = role_of {at = m.at} {n = m.node} m.turn in
          let same = apart.role_once (stmt t.at t.node t.header) (stmt m.at m.node m.header) m.variable rt.0 rm.0 t.there m.there
          (subst (λ (z : ℕ). Role (stmt t.at t.node t.header) z rt.0) en rt.1) rm.1 in
          let ea : t.header ≡ m.header = action_same same.0 in
          let ready : Ready s K m.path m.header t.values = subst (λ (z : Path). Ready s K z m.header t.values) et (subst (λ (z : Action). Ready s K t.path z t.values) ea t.ready) in
          let turn : InTurn m.header t.values m.key m.variable v =
          subst (λ (z : ℕ). InTurn m.header t.values m.key z v) en (subst (λ (z : Key). InTurn m.header t.values z t.variable v) ek (subst (λ (z : Action). InTurn z t.values t.key t.variable v) ea t.turn)) in
          let values : t.values ≡ m.values = choice_stays s w K K l ready m.ready in
          turn_same m.there m.ready (subst (λ (z : List Value). InTurn m.header z m.key m.variable v) values turn) m.turn refl

      by : (K (value p (One v)) ⊎ Turn s K p v) → (K (value p (One u)) ⊎ Turn s K p u) → v ≡ u
      by (inl a) (inl b) = one_same (g.one_value p (One v) (One u) a b)
      by (inl a) (inr m) = clash v a m
      by (inr t) (inl b) = clash u b t
      by (inr t) (inr m) = turns t m

  elements_same : (a : Place) (es fs : List Element) → Elements K a es → Elements K a fs → es ≡ fs
  elements_same a es fs x y =
      rising_same es fs x.in_order y.in_order
      (λ e m. (let z = x.written e.key e.value m in y.all e.key z.0 e.value z.1))
      (λ e m. (let z = y.written e.key e.value m in x.all e.key z.0 e.value z.1))

  mutual
    -- an expression has one value or fault
    pub answer_same : {path : Path} {e : Expr} {q r : Result Value OpFault} → ValueUnder s K path e q → ValueUnder s K path e r → q ≡ r
    answer_same of_literal of_literal = refl
    answer_same (of_name h) (of_name k) = ap (λ (v : Scalar). Ok (One v)) (scalar_same _ _ _ h k)
    answer_same (of_array c x) (of_array d y) = ap (λ (es : List Element). Ok (Many es)) (elements_same _ _ _ x y)
    answer_same (of_operator {o = o} qs e) (of_operator rs f) = sym e ∙ ap (λ (l : List (Result Value OpFault)). evaluated o l) (answers_same qs rs) ∙ f

    answers_same : {path : Path} {es : Exprs} {qs rs : List (Result Value OpFault)} → ValuesUnder s K path es qs → ValuesUnder s K path es rs → qs ≡ rs
    answers_same no_operand no_operand = refl
    answers_same (operand q qs) (operand r rs) = λ i. answer_same q r i ∷ answers_same qs rs i

-- an expression keeps its value as knowledge grows
module _ (s : Core) (K K' : Knowledge) (g : Grows s K K') where
  mutual
    pub keeps_answer : {path : Path} {e : Expr} {r : Result Value OpFault} → ValueUnder s K path e r → ValueUnder s K' path e r
    keeps_answer of_literal = of_literal
    keeps_answer (of_name h) = of_name (keeps_value s K K' g h)
    keeps_answer (of_array c x) = of_array (keeps_closed s K K' g c) (keeps_elements s K K' g c x)
    keeps_answer (of_operator es q) = of_operator (keeps_answers es) q

    pub keeps_answers : {path : Path} {es : Exprs} {rs : List (Result Value OpFault)} → ValuesUnder s K path es rs → ValuesUnder s K' path es rs
    keeps_answers no_operand = no_operand
    keeps_answers (operand e es) = operand (keeps_answer e) (keeps_answers es)

ok_same : {v u : Value} → ◌≡◌ {A = Result Value OpFault} (Ok v) (Ok u) → ◌≡◌ {A = Result Value Fault} (Ok v) (Ok u)
ok_same h = let e : _ ≡ _ = cc (h) in ap (λ (v : Value). Ok v) e

err_same : {f g : OpFault} → ◌≡◌ {A = Result Value OpFault} (Err f) (Err g) → ◌≡◌ {A = Result Value Fault} (Err (operation f)) (Err (operation g))
err_same h = let e : _ ≡ _ = cc (h) in ap (λ (f : OpFault). Err (operation f)) e

ok_err : {A : Type 0} {v : Value} {f : OpFault} → ◌≡◌ {A = Result Value OpFault} (Ok v) (Err f) → A
ok_err h = absurd (cc (h))

pub key_same : {v u : Value} {k l : Key} → IsKey v k → IsKey u l → v ≡ u → k ≡ l
key_same a_number a_number h = let e : _ ≡ _ = cc (h) in ap Key.Number e
key_same a_number a_text h = absurd (cc (h))
key_same a_text a_number h = absurd (cc (h))
key_same a_text a_text h = let e : _ ≡ _ = cc (h) in ap Key.Text e

-- a cell has one value or fault, also as knowledge grows
module _ (s : Core) (w : NamesFound s) (apart : LoopsApart s) (K K' : Knowledge) (g : OneEach s K') (l : Later s K K') (l' : Later s K' K') where
  grown : Grows s K K'
  grown = grows s w K K' l

  index_same : {p : Place} {v u : Value} {k j : Key} → K (value p v) → IsKey v k → K' (value p u) → IsKey u j → k ≡ j
  index_same {p} {v} {u} h i h' i' = key_same i i' (g.one_value p v u (l.more _ h) h')

  pub gives_same : {path : Path} {f : Form} {r q : Result Value Fault} → Gives s K path f r → Gives s K' path f q → r ≡ q
  gives_same (computed x) (computed y) = ok_same (answer_same s w apart K' g l' (keeps_answer s K K' grown x) y)
  gives_same (computed x) (faulty y) = ok_err (answer_same s w apart K' g l' (keeps_answer s K K' grown x) y)
  gives_same (faulty x) (computed y) = ok_err (answer_same s w apart K' g l' y (keeps_answer s K K' grown x))
  gives_same (faulty x) (faulty y) = err_same (answer_same s w apart K' g l' (keeps_answer s K K' grown x) y)
  gives_same {path} (found {a = a} {k = k} {v = v} h i o) (found {k = j} {v = u} h' i' o') =
      let e : j ≡ k = sym (index_same h i h' i') in
      let other : K' (element (place s path a) k o'.writer u) = subst (λ (z : Key). K' (element (place s path a) z o'.writer u)) e o'.write in
      let same : o.writer ≡ o'.writer = o'.only o.writer v (subst (λ (z : Key). K' (element (place s path a) z o.writer v)) (sym e) (l.more _ o.write)) in
      ap (λ (z : Scalar). Ok (One z)) (g.one_element (place s path a) k o'.writer v u (subst (λ (z : Place). K' (element (place s path a) k z v)) same (l.more _ o.write)) other)
  gives_same {path} (found {a = a} {k = k} {v = v} h i o) (missing {k = j} h' i' c n) =
      absurd (n o.writer v (subst (λ (z : Key). K' (element (place s path a) z o.writer v)) (index_same h i h' i') (l.more _ o.write)))
  gives_same {path} (missing {a = a} {k = k} h i c n) (found {k = j} {v = u} h' i' o) =
      absurd (n o.writer u (grown.stays _ c k o.writer u (subst (λ (z : Key). K' (element (place s path a) z o.writer u)) (sym (index_same h i h' i')) o.write)))
  gives_same (missing h i c n) (missing h' i' c' n') = refl
