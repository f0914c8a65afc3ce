-- Expressions one after another.
use Rattle.std.proofs.Common.{◌≡◌, ℕ, zero, suc, ◌<◌, ◌≤◌, ◌+◌, List, [], ◌∷◌, ◌++◌, map, length, refl, sym, ap, subst, ◌∙◌, take, get_or, append_assoc, arith}
use Rattle.std.proofs.lemmas.List.{append-nil, take_all, take_more, map-append}
use Rattle.language.specs.Core as Pure
use Rattle.task_code.specs.Code as Code
use Rattle.task_code.specs.View as code_view
use Rattle.flow.specs.View.{operands}
use Rattle.code_rules.specs.CodeNames.{wanted, wanted_all, over, all_over}
use Rattle.code_rules.specs.Room.{ExprRoom, ExprsRoom}

all_wanted : (k : ℕ) (es fs : List Pure.Expr) → wanted_all k (operands (es ++ fs)) ≡ wanted_all k (operands es) ++ wanted_all k (operands fs)
all_wanted k [] fs = refl
all_wanted k (e ∷ es) fs = ap (λ l. wanted k e ++ l) (all_wanted k es fs) ∙ sym (append_assoc (wanted k e) (wanted_all k (operands es)) (wanted_all k (operands fs)))

-- what one more expression waits for
pub wanted_more : {E : Type 0} (V : E → Pure.Expr) (k : ℕ) (es : List E) (i : ℕ) (e : E) → i < length es → e ≡ get_or es i e
    → wanted_all k (operands (map V (take (i + 1) es))) ≡ wanted_all k (operands (map V (take i es))) ++ wanted k (V e)
wanted_more V k es i e below is =
    ap (λ l. wanted_all k (operands (map V l))) (take_more es i e below ∙ ap (λ x. take i es ++ x ∷ []) (sym is))
    ∙ ap (λ l. wanted_all k (operands l)) (map-append V (take i es) (e ∷ []))
    ∙ all_wanted k (map V (take i es)) (V e ∷ [])
    ∙ ap (λ l. wanted_all k (operands (map V (take i es))) ++ l) (append-nil (wanted k (V e)))

-- an expression among those that have room has it
pub room_at : {E : Type 0} (V : E → Pure.Expr) (k : ℕ) (es : List E) (i : ℕ) (e : E) → i < length es → e ≡ get_or es i e → ExprsRoom k (operands (map V es)) → ExprRoom k (V e)
room_at V k [] i e below is room = absurd (omega arith)
room_at V k (x ∷ es) zero e below is room = subst (λ y. ExprRoom k (V y)) (sym is) room.0
room_at V k (x ∷ es) (suc i) e below is room = room_at V k es i e (omega arith) is room.1

-- EXPRESSIONS OVER NEEDS

all_over_each : (k : ℕ) (ns : List Code.Need) (es : List Pure.Expr) → all_over k ns (operands es) ≡ code_view.operands_of (map (over k ns) es)
all_over_each k ns [] = refl
all_over_each k ns (e ∷ es) = ap (λ l. Code.operand (over k ns e) l) (all_over_each k ns es)

map-map : {E : Type 0} (V : E → Pure.Expr) (f : Pure.Expr → Code.Expr) (es : List E) → map (λ e. f (V e)) es ≡ map f (map V es)
map-map V f [] = refl
map-map V f (e ∷ es) = ap (λ l. f (V e) ∷ l) (map-map V f es)

pub over_more : {E : Type 0} (V : E → Pure.Expr) (k : ℕ) (ns : List Code.Need) (es : List E) (i : ℕ) (e : E) (before after : List Code.Expr) (x : Code.Expr) → i < length es → e ≡ get_or es i e
    → before ≡ map (λ e. over k ns (V e)) (take i es) → x ≡ over k ns (V e) → after ≡ before ++ x ∷ []
    → after ≡ map (λ e. over k ns (V e)) (take (i + 1) es)
over_more V k ns es i e before after x below is b o a =
    a ∙ ap (λ l. l ++ x ∷ []) b ∙ ap (λ y. map (λ e. over k ns (V e)) (take i es) ++ y ∷ []) o
    ∙ sym (ap (map (λ e. over k ns (V e))) (take_more es i e below ∙ ap (λ x. take i es ++ x ∷ []) (sym is)) ∙ map-append (λ e. over k ns (V e)) (take i es) (e ∷ []))

pub over_all : {E : Type 0} (V : E → Pure.Expr) (k : ℕ) (ns : List Code.Need) (es : List E) (i : ℕ) (found : List Code.Expr) → length es ≤ i
    → found ≡ map (λ e. over k ns (V e)) (take i es) → code_view.operands_of found ≡ all_over k ns (operands (map V es))
over_all V k ns es i found done is =
    ap code_view.operands_of (is ∙ ap (map (λ e. over k ns (V e))) (take_all i es done) ∙ map-map V (over k ns) es) ∙ sym (all_over_each k ns (map V es))
