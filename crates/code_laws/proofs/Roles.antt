-- What an entry of a laid body is for: a part of a statement of its block, or the statement itself.
use Rattle.std.proofs.Common.{◌≡◌, ◌⊎◌, inl, inr, ℕ, ℤ, pos, List, [], ◌∷◌, ◌++◌, sym, subst, Option, Some, None}
use Rattle.std.specs.List.{flat_map}
use Rattle.dataflow.specs.System.{In}
use Rattle.dataflow.proofs.Lists.{in_left, in_right, in_split}
use Rattle.language.specs.Core.{Name, Part, Outer, Awaited, Stmt, stmt, Action, call_alone, when, choose, range, each, wait, Block}
use Rattle.language.specs.Members.{◌∈◌, first, later}
use Rattle.language.specs.Parts.{stmt_at}
use Rattle.task_code.specs.Code.{Variable, Header, If, Range, Each, Wait, Code, ByStep, ByWait, entry, loop_variables}
use Rattle.code_rules.specs.CodeNames.{over, each_once}
use Rattle.code_rules.specs.IsCodeOf.{Layout, seen, own_priority, own_needs, simple_act, step_expr, IsSimple, IsEntry, PartAs, PartsAs, no_part, one_part}
use Rattle.code_rules.specs.Laying.{Headers}
use Rattle.code_rules.specs.Laid.{Table, Stands, StmtLaid, declares_laid, call_laid, simple_laid, branch_laid, branches_laid, range_laid, each_laid, wait_laid, StmtsLaid, none_laid, one_laid}
use Rattle.language_laws.specs.TypedValues.{own_parts}

-- the parts of a statement that make entries before its own
abbrev pub own_of : Stmt → List Part
own_of (stmt at n a) = own_parts a

module _ (C : Code) (l : Layout) (T : Table) where
  -- an entry of a part of a statement
  pub record PartOf (k : ℕ) (st : Stmt) (j : ℕ) : Type 0 where
    pub priority : ℤ
    pub part : Part
    pub numbers : List ℕ
    pub as_part : PartAs C l k (own_of st) (stmt_at st) priority part numbers
    pub among : In j numbers
    pub there : part ∈ own_of st

  -- a statement's own entry
  pub data OwnOf (k : ℕ) : Stmt → ℕ → Type 0 where
    own_simple : {at n : ℕ} {a : Action} {j : ℕ} → IsSimple a → IsEntry (entry C j) at (own_priority a) (own_needs l k a) (simple_act l k (own_needs l k a) a) → (entry C j).node ≡ n → OwnOf k (stmt at n a) j
    own_branch : {at n t : ℕ} {c : Outer} {b : Block} {j : ℕ}
        → IsEntry (entry C j) at (pos 0) (own_needs l k (when c b)) (If (over k (own_needs l k (when c b)) (seen l c.cell)) t None) → (entry C j).offset ≡ at → Stands C l T k b [] (ByStep j) t → OwnOf k (stmt at n (when c b)) j
    own_branches : {at n t u : ℕ} {c : Outer} {b d : Block} {j : ℕ}
        → IsEntry (entry C j) at (pos 0) (own_needs l k (choose c b d)) (If (over k (own_needs l k (choose c b d)) (seen l c.cell)) t (Some u)) → (entry C j).offset ≡ at → Stands C l T k b [] (ByStep j) t → Stands C l T k d [] (ByStep j) u
        → OwnOf k (stmt at n (choose c b d)) j
    own_range : {at n t x : ℕ} {lo hi : Outer} {st : Option Outer} {y : Option ℕ} {b : Block} {j : ℕ}
        → IsEntry (entry C j) at (pos 0) (own_needs l k (range lo hi st x y b))
        (Range (over k (own_needs l k (range lo hi st x y b)) (seen l lo.cell)) (over k (own_needs l k (range lo hi st x y b)) (seen l hi.cell)) (over k (own_needs l k (range lo hi st x y b)) (step_expr l k st)) (record { body = t; value = x; turn = y }))
        → (entry C j).offset ≡ at → Stands C l T k b (loop_variables (record { body = t; value = x; turn = y })) (ByStep j) t → OwnOf k (stmt at n (range lo hi st x y b)) j
    own_each : {at n t x : ℕ} {a : Name} {y : Option ℕ} {b : Block} {j : ℕ}
        → IsEntry (entry C j) at (pos 0) (own_needs l k (each a x y b)) (Each (record { body = t; value = x; turn = y })) → (entry C j).offset ≡ at
        → Stands C l T k b (loop_variables (record { body = t; value = x; turn = y })) (ByStep j) t → OwnOf k (stmt at n (each a x y b)) j
    own_wait : {at n t : ℕ} {ns : List Awaited} {c b : Block} {hs : List Header} {j : ℕ} → Headers k (stmt at n (wait ns c)) hs b
        → IsEntry (entry C j) at (pos 0) (each_once (flat_map (λ h. h.needs) hs)) (Wait hs t) → Stands C l T k b [] (ByWait j) t → OwnOf k (stmt at n (wait ns c)) j

  abbrev pub Role : ℕ → Stmt → ℕ → Type 0
  Role k st j = PartOf k st j ⊎ OwnOf k st j

  pub part_role : {k at j : ℕ} {p : ℤ} (n : ℕ) (a : Action) {xs : List Part} {js : List ℕ} → PartsAs C l k (own_parts a) at p xs js → In j js → ((x : Part) → x ∈ xs → x ∈ own_parts a) → PartOf k (stmt at n a) j
  part_role n a no_part h o = absurd h
  part_role {j = j} {p = p} n a (one_part {x = x} {is = is} {js = js} one rest q) h o =
      elim (in_split j is js (subst (λ (z : List ℕ). In j z) q h)) [
        | inl i ↦ record { priority = p; part = x; numbers = is; as_part = one; among = i; there = o x first }
        | inr i ↦ part_role n a rest i (λ y m. o y (later m))
      ]

  own_last : {k : ℕ} {st : Stmt} {j i : ℕ} {es : List ℕ} (is : List ℕ) → es ≡ is ++ i ∷ [] → In j es → (In j is → PartOf k st j) → OwnOf k st i → Role k st j
  own_last {k} {st} {j} {i} is q h f o = elim (in_split j is (i ∷ []) (subst (λ (z : List ℕ). In j z) q h)) [
    | inl m ↦ inl (f m)
    | inr m ↦ inr (elim m [ inl e ↦ subst (λ (z : ℕ). OwnOf k st z) (sym e) o | inr z ↦ absurd z ])
  ]

  -- each entry of a statement has its role
  pub role_of : {k : ℕ} {st : Stmt} {es : List ℕ} {vs : List Variable} {j : ℕ} → StmtLaid C l T k st es vs → In j es → Role k st j
  role_of (declares_laid b) h = absurd h
  role_of (call_laid {n = n} {p = p} {ps = ps} {c = c} as') h = inl (part_role n (call_alone p ps c) as' h (λ x m. m))
  role_of (simple_laid {n = n} i {a = a} {is = is} z as' e q r) h = own_last is r h (λ m. part_role n a as' m (λ x y. y)) (own_simple z e q)
  role_of (branch_laid {n = n} i {c = c} {b = b} {is = is} as' e m s r) h = own_last is r h (λ y. part_role n (when c b) as' y (λ x z. z)) (own_branch e m s)
  role_of (branches_laid {n = n} i {c = c} {b = b} {d = d} {is = is} as' e m s u r) h = own_last is r h (λ y. part_role n (choose c b d) as' y (λ x z. z)) (own_branches e m s u)
  role_of (range_laid {n = n} {x = x} i {lo = lo} {hi = hi} {st = st} {y = y} {b = b} {is = is} as' e m s r) h = own_last is r h (λ w. part_role n (range lo hi st x y b) as' w (λ v z. z)) (own_range e m s)
  role_of (each_laid i e m s r) h = own_last [] r h (λ z. absurd z) (own_each e m s)
  role_of (wait_laid i w e s r) h = own_last [] r h (λ z. absurd z) (own_wait w e s)

  -- the statement that an entry is of, with the variables that the block declares for it
  pub record StmtOf (k : ℕ) (sts : List Stmt) (own : List Variable) (j : ℕ) : Type 0 where
    pub st : Stmt
    pub there : st ∈ sts
    pub numbers : List ℕ
    pub variables : List Variable
    pub laid : StmtLaid C l T k st numbers variables
    pub among : In j numbers
    pub made : (v : Variable) → In v variables → In v own

  pub stmt_of : {k : ℕ} {sts : List Stmt} {es : List ℕ} {own : List Variable} {j : ℕ} → StmtsLaid C l T k sts es own → In j es → StmtOf k sts own j
  stmt_of none_laid h = absurd h
  stmt_of {own = own} {j = j} (one_laid {st = st} {is = is} {js = js} {vs = vs} {ws = ws} one rest q r) h =
      elim (in_split j is js (subst (λ (z : List ℕ). In j z) q h)) [
        | inl i ↦ record { st = st; there = first; numbers = is; variables = vs; laid = one; among = i; made = λ v m. subst (λ (z : List Variable). In v z) (sym r) (in_left v vs ws m) }
        | inr i ↦ (let o = stmt_of rest i in
            record { st = o.st; there = later o.there; numbers = o.numbers; variables = o.variables; laid = o.laid; among = o.among; made = λ v m. subst (λ (z : List Variable). In v z) (sym r) (in_right v vs ws (o.made v m)) })
      ]
