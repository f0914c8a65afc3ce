-- What expressions and cells come to by what is seen is just what the meaning's rules give them.
use Rattle.std.specs.Prelude.{◌≡◌, ℕ, Bool, true, false, List, [], ◌∷◌, Option, Some, None, Result, Ok, Err, refl}
use Rattle.std.proofs.Common.{sym, ap, ◌∙◌, subst}
use Rattle.std.proofs.lemmas.Option.{same_Some}
use Rattle.values.specs.declared.fault.OpFault.{OpFault}
use Rattle.values.specs.declared.key.Key.{Key}
use Rattle.values.specs.declared.map.Element.{Element}
use Rattle.values.specs.declared.value.Scalar.{Scalar}
use Rattle.values.specs.declared.value.Value.{Value}
use Rattle.values.specs.declared.value.Value.TheVariants.{One, Many}
use Rattle.values.specs.Operators.{Operation}
use Rattle.language.specs.Core.{Name, Expr, Exprs, literal, name, whole, operator, none, also, Form, compute, read, Core}
use Rattle.language.specs.Facts.{Fault, Knowledge, IsKey, a_number, a_text}
use Rattle.language.specs.Meaning.{ValueUnder, of_literal, of_name, of_array, of_operator, ValuesUnder, no_operand, operand, Gives, computed, faulty, found, missing}
use Rattle.language.specs.Places.{Path}
use Rattle.meaning_steps.specs.Environment.{Sight, Sees, Come, one_come, many_come, with_come, operated, worked, worked_all, as_outcome, element_come, read_come, outcome}

module _ (s : Core) (K : Knowledge) (path : Path) (g : Sight) (h : Sees s K path g) where
  name_so : (x : Name) (o : Option Scalar) (r : Result Value OpFault) → g.scalar x ≡ o → one_come o ≡ Some r → ValueUnder s K path (name x) r
  name_so x (Some v) r e q = subst (λ (z : Result Value OpFault). ValueUnder s K path (name x) z) (same_Some _ _ q) (of_name (h.scalar_so x v e))
  name_so x None r e q = absurd (cc (q))

  whole_so : (a : Name) (c : Bool) (r : Result Value OpFault) → g.closed a ≡ c → many_come c (g.elements a) ≡ Some r → ValueUnder s K path (whole a) r
  whole_so a true r e q = subst (λ (z : Result Value OpFault). ValueUnder s K path (whole a) z) (same_Some _ _ q) (of_array (h.closed_so a e) (h.elements_so a (h.closed_so a e)))
  whole_so a false r e q = absurd (cc (q))

  operator_so : (o : Operation) (es : Exprs) (c : Option (List (Result Value OpFault))) (r : Result Value OpFault) → operated o c ≡ Some r
      → ((rs : List (Result Value OpFault)) → c ≡ Some rs → ValuesUnder s K path es rs) → ValueUnder s K path (operator o es) r
  operator_so o es (Some rs) r q f = of_operator (f rs refl) (same_Some _ _ q)
  operator_so o es None r q f = absurd (cc (q))

  also_so : (e : Expr) (es : Exprs) (c : Come) (d : Option (List (Result Value OpFault))) (rs : List (Result Value OpFault)) → with_come c d ≡ Some rs
      → ((r : Result Value OpFault) → c ≡ Some r → ValueUnder s K path e r) → ((us : List (Result Value OpFault)) → d ≡ Some us → ValuesUnder s K path es us)
      → ValuesUnder s K path (also e es) rs
  also_so e es (Some r) (Some us) rs q f k = subst (λ (z : List (Result Value OpFault)). ValuesUnder s K path (also e es) z) (same_Some _ _ q) (operand (f r refl) (k us refl))
  also_so e es (Some r) None rs q f k = absurd (cc (q))
  also_so e es None d rs q f k = absurd (cc (q))

  mutual
    pub worked_so : (e : Expr) (r : Result Value OpFault) → worked g e ≡ Some r → ValueUnder s K path e r
    worked_so (literal v) r q = subst (λ (z : Result Value OpFault). ValueUnder s K path (literal v) z) (same_Some _ _ q) of_literal
    worked_so (name x) r q = name_so x (g.scalar x) r refl q
    worked_so (whole a) r q = whole_so a (g.closed a) r refl q
    worked_so (operator o es) r q = operator_so o es (worked_all g es) r q (λ rs e. worked_all_so es rs e)

    pub worked_all_so : (es : Exprs) (rs : List (Result Value OpFault)) → worked_all g es ≡ Some rs → ValuesUnder s K path es rs
    worked_all_so none rs q = subst (λ (z : List (Result Value OpFault)). ValuesUnder s K path none z) (same_Some _ _ q) no_operand
    worked_all_so (also e es) rs q = also_so e es (worked g e) (worked_all g es) rs q (λ r p. worked_so e r p) (λ us p. worked_all_so es us p)

  mutual
    pub worked_is : {e : Expr} {r : Result Value OpFault} → ValueUnder s K path e r → worked g e ≡ Some r
    worked_is of_literal = refl
    worked_is (of_name {x = x} {v = v} k) = ap one_come (h.scalar_all x v k)
    worked_is (of_array {a = a} {es = es} c k) = ap (λ (z : Bool). many_come z (g.elements a)) (h.closed_all a c) ∙ ap (λ (z : List Element). Some (Ok (Many z))) (sym (h.elements_all a es c k))
    worked_is (of_operator {o = o} k q) = ap (operated o) (worked_all_is k) ∙ ap Some q

    pub worked_all_is : {es : Exprs} {rs : List (Result Value OpFault)} → ValuesUnder s K path es rs → worked_all g es ≡ Some rs
    worked_all_is no_operand = refl
    worked_all_is (operand {e = e} {es = es} {r = r} {rs = rs} k ks) =
        ap (λ (z : Come). with_come z (worked_all g es)) (worked_is k) ∙ ap (with_come (Some r)) (worked_all_is ks)

  compute_so : (e : Expr) (c : Come) (r : Result Value Fault) → worked g e ≡ c → as_outcome c ≡ Some r → Gives s K path (compute e) r
  compute_so e (Some (Ok v)) r k q = subst (λ (z : Result Value Fault). Gives s K path (compute e) z) (same_Some _ _ q) (computed (worked_so e (Ok v) k))
  compute_so e (Some (Err f)) r k q = subst (λ (z : Result Value Fault). Gives s K path (compute e) z) (same_Some _ _ q) (faulty (worked_so e (Err f) k))
  compute_so e None r k q = absurd (cc (q))

  element_so : (a : Name) (i : ℕ) (u : Value) (key : Key) (ws : List Scalar) (c : Bool) (r : Result Value Fault) → g.cell i ≡ Some u → IsKey u key → g.writes a key ≡ ws → g.closed a ≡ c
      → element_come ws c ≡ Some r → Gives s K path (read a i) r
  element_so a i u key (v ∷ []) c r k is w d q = subst (λ (y : Result Value Fault). Gives s K path (read a i) y) (same_Some _ _ q) (found (h.cell_so i u k) is (h.once_so a key v w))
  element_so a i u key [] true r k is w d q = subst (λ (y : Result Value Fault). Gives s K path (read a i) y) (same_Some _ _ q) (missing (h.cell_so i u k) is (h.closed_so a d) (h.never_so a key w))
  element_so a i u key [] false r k is w d q = absurd (cc (q))
  element_so a i u key (v ∷ x ∷ vs) c r k is w d q = absurd (cc (q))

  read_so : (a : Name) (i : ℕ) (c : Option Value) (r : Result Value Fault) → g.cell i ≡ c → read_come g a c ≡ Some r → Gives s K path (read a i) r
  read_so a i (Some (One (Scalar.Number z))) r k q = element_so a i (One (Scalar.Number z)) (Key.Number z) (g.writes a (Key.Number z)) (g.closed a) r k a_number refl refl q
  read_so a i (Some (One (Scalar.Text t))) r k q = element_so a i (One (Scalar.Text t)) (Key.Text t) (g.writes a (Key.Text t)) (g.closed a) r k a_text refl refl q
  read_so a i (Some (One (Scalar.Truth b))) r k q = absurd (cc (q))
  read_so a i (Some (Many es)) r k q = absurd (cc (q))
  read_so a i None r k q = absurd (cc (q))

  -- WHAT COMES OF A CELL IS WHAT IT HAS
  pub outcome_so : (f : Form) (r : Result Value Fault) → outcome g f ≡ Some r → Gives s K path f r
  outcome_so (compute e) r q = compute_so e (worked g e) r refl q
  outcome_so (read a i) r q = read_so a i (g.cell i) r refl q

  key_seen : {u : Value} {k : Key} → IsKey u k → (a : Name) (i : ℕ) → g.cell i ≡ Some u → outcome g (read a i) ≡ element_come (g.writes a k) (g.closed a)
  key_seen a_number a i e = ap (read_come g a) e
  key_seen a_text a i e = ap (read_come g a) e

  -- AND ALL THAT IT HAS
  pub outcome_is : {f : Form} {r : Result Value Fault} → Gives s K path f r → outcome g f ≡ Some r
  outcome_is (computed k) = ap as_outcome (worked_is k)
  outcome_is (faulty k) = ap as_outcome (worked_is k)
  outcome_is (found {a = a} {i = i} {u = u} {k = k} {v = v} c j o) =
      key_seen j a i (h.cell_all i u c) ∙ ap (λ (z : List Scalar). element_come z (g.closed a)) (h.once_all a k v o)
  outcome_is (missing {a = a} {i = i} {u = u} {k = k} c j d n) =
      key_seen j a i (h.cell_all i u c) ∙ ap (λ (z : List Scalar). element_come z (g.closed a)) (h.never_all a k n) ∙ ap (element_come []) (h.closed_all a d)
