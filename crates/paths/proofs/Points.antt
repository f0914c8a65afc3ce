-- The orders of statements and of faults.
use Rattle.std.proofs.Common.{◌≡◌, ℕ, Bool, true, ◌&&◌, ◌||◌, List, refl, sym, ap, ◌∙◌}
use Rattle.std.specs.Prelude.{if◌then◌else◌, nat_eq, nat_lt}
use Rattle.paths.specs.declared.faults.Fault.{Fault}
use Rattle.paths.specs.declared.faults.FaultKind.{FaultKind}
use Rattle.paths.specs.declared.faults.FaultKind.TheVariants as Kind
use Rattle.paths.specs.declared.statements.StatementInstance.{StatementInstance}
use Rattle.paths.specs.declared.steps.Step.{Step}
use Rattle.paths.specs.Order.{fault_number, path_below, same_fault, same_path, same_statement}
use Rattle.paths.proofs.Orders.{number_order, order_by, path_order, IsOrder}

-- what a statement is told by
abbrev pub Point : Type 0
Point = List Step × ℕ

abbrev pub point_of : StatementInstance → Point
point_of s = (s.path.items, s.at)

-- what a fault is told by
abbrev pub Mark : Type 0
Mark = Point × ℕ

abbrev pub mark_of : Fault → Mark
mark_of f = (point_of f.statement, fault_number f.kind)

pair_is : {A B : Type 0} (x y : A × B) → x.0 ≡ y.0 → x.1 ≡ y.1 → x ≡ y
pair_is x y p q = λ i. (p i, q i)

-- of points, by path and then by offset
abbrev pub point_below : Point → Point → Bool
point_below x y = path_below x.0 y.0 || (same_path x.0 y.0 && nat_lt x.1 y.1)

abbrev pub same_point : Point → Point → Bool
same_point x y = same_path x.0 y.0 && nat_eq x.1 y.1

pub point_order : IsOrder point_below same_point
point_order = order_by {X = Point} (λ x. x.0) (λ x. x.1) pair_is path_below same_path nat_lt nat_eq path_order number_order

-- of marks, by point and then by number
abbrev pub mark_below : Mark → Mark → Bool
mark_below x y = point_below x.0 y.0 || (same_point x.0 y.0 && nat_lt x.1 y.1)

abbrev pub same_mark : Mark → Mark → Bool
same_mark x y = same_point x.0 y.0 && nat_eq x.1 y.1

pub mark_order : IsOrder mark_below same_mark
mark_order = order_by {X = Mark} (λ x. x.0) (λ x. x.1) pair_is point_below same_point nat_lt nat_eq point_order number_order

-- WHAT IS THE SAME

-- the same statement has the same path and offset
pub point_is : (s t : StatementInstance) → same_statement s t ≡ true → point_of s ≡ point_of t
point_is s t h = point_order.is (point_of s) (point_of t) h

kind_back : ℕ → FaultKind
kind_back n = if nat_eq n 1 then Kind.Overflow else if nat_eq n 2 then Kind.DivideByZero else if nat_eq n 3 then Kind.NoElement else if nat_eq n 4 then Kind.ElementTwice
    else if nat_eq n 5 then Kind.BadStep else if nat_eq n 6 then Kind.TooDeep else if nat_eq n 7 then Kind.NotANumber else Kind.AssertFailed

kind_same : (k : FaultKind) → kind_back (fault_number k) ≡ k
unfolding kind_back
kind_same Kind.Overflow = refl
kind_same Kind.DivideByZero = refl
kind_same Kind.NoElement = refl
kind_same Kind.ElementTwice = refl
kind_same Kind.BadStep = refl
kind_same Kind.TooDeep = refl
kind_same Kind.NotANumber = refl
kind_same Kind.AssertFailed = refl

-- the same fault has the same kind, offset and path
pub fault_is : (f g : Fault) → same_fault f g ≡ true → (point_of f.statement ≡ point_of g.statement) × (f.kind ≡ g.kind)
fault_is f g h =
    let m = mark_order.is (mark_of f) (mark_of g) h in
    let n = ap (λ (x : Mark). x.1) m in
    (ap (λ (x : Mark). x.0) m, sym (kind_same f.kind) ∙ ap kind_back n ∙ kind_same g.kind)
