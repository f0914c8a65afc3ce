-- What a cell gives that computes an expression, and what an assertion gives.
use Rattle.std.proofs.Common.{◌≡◌, Bool, true, false, List, refl, sym, ap, subst, Result, Ok, Err}
use Rattle.std.specs.Prelude.{if◌then◌else◌}
use Rattle.values.specs.declared.fault.OpFault.{OpFault}
use Rattle.values.specs.declared.value.Value.{Value}
use Rattle.values.specs.declared.value.Value.TheVariants.{One}
use Rattle.values.specs.declared.value.Scalar.TheVariants.{Truth}
use Rattle.values.specs.Operators.{on_all, all_values, yes_or_no, assert}
use Rattle.values.specs.Values.{truth_of, first as first_of}
use Rattle.language.specs.Core.{Expr, Exprs, operator, Form, compute, Core}
use Rattle.language.specs.Facts.{Fault, operation, Knowledge}
use Rattle.language.specs.Meaning.{ValueUnder, of_operator, Gives, computed, faulty, found, missing}
use Rattle.language.specs.Places.{Path}
use Rattle.language_laws.proofs.Rounds.{ok_values}

-- A CELL THAT COMPUTES AN EXPRESSION

-- an expression's result as a cell's
abbrev lifted : Result Value OpFault → Result Value Fault
lifted (Ok v) = Ok v
lifted (Err f) = Err (operation f)

record GivesResult (s : Core) (K : Knowledge) (path : Path) (e : Expr) (r : Result Value Fault) : Type 0 where
  result : Result Value OpFault
  under : ValueUnder s K path e result
  is : r ≡ lifted result

gives_result : {s : Core} {K : Knowledge} {path : Path} {f : Form} {r : Result Value Fault} {e : Expr} → Gives s K path f r → f ≡ compute e → GivesResult s K path e r
gives_result {s} {K} {path} {e = e} (computed {e = e'} {v = v} ev) q =
    let same : e' ≡ e = cc (q) in record { result = Ok v; under = subst (λ (x : Expr). ValueUnder s K path x (Ok v)) same ev; is = refl }
gives_result {s} {K} {path} {e = e} (faulty {e = e'} {f = f} ev) q =
    let same : e' ≡ e = cc (q) in record { result = Err f; under = subst (λ (x : Expr). ValueUnder s K path x (Err f)) same ev; is = refl }
gives_result (found x y z) q = absurd (cc (q))
gives_result (missing x y z u) q = absurd (cc (q))

ok_result : (a : Result Value OpFault) (v : Value) → Ok v ≡ lifted a → a ≡ Ok v
ok_result (Ok u) v h = ap Ok (sym (ok_values h))
ok_result (Err f) v h = absurd (cc (h))

pub gives_value : {s : Core} {K : Knowledge} {path : Path} {f : Form} {v : Value} {e : Expr} → Gives s K path f (Ok v) → f ≡ compute e → ValueUnder s K path e (Ok v)
gives_value {s} {K} {path} {v = v} {e = e} g q =
    let r = gives_result g q in
    subst (λ (x : Result Value OpFault). ValueUnder s K path e x) (ok_result r.result v r.is) r.under

-- AN ASSERTION

ok_same : {v u : Value} → ◌≡◌ {A = Result Value OpFault} (Ok v) (Ok u) → v ≡ u
ok_same h = cc

err_ok : {A : Type 0} {f : OpFault} {v : Value} → ◌≡◌ {A = Result Value OpFault} (Err f) (Ok v) → A
err_ok h = absurd (cc)

true_if : (b : Bool) (f : OpFault) (v : Value) → (if b then yes_or_no true else Err f) ≡ Ok v → v ≡ One (Truth true)
true_if true f v h = sym (ok_same h)
true_if false f v h = err_ok h

true_on : (r : Result (List Value) OpFault) (v : Value) → on_all assert r ≡ Ok v → v ≡ One (Truth true)
true_on (Ok vs) v h = true_if (truth_of (first_of vs)) _ v h
true_on (Err f) v h = err_ok h

pub true_value : {s : Core} {K : Knowledge} {p : Path} {es : Exprs} {v : Value} → ValueUnder s K p (operator assert es) (Ok v) → v ≡ One (Truth true)
true_value {v = v} (of_operator {rs = rs} vs q) = true_on (all_values rs) v q
