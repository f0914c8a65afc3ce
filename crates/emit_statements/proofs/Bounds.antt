-- The bounds and the step of a range, one behind another.
use Rattle.std.proofs.Common.{◌≡◌, ℕ, List, [], ◌∷◌, ◌++◌, sym, ap, subst, ◌∙◌}
use Rattle.std.specs.List.{flat_map}
use Rattle.std.proofs.lemmas.List.{append-nil}
use Rattle.language.specs.Core.{Expr}
use Rattle.task_code.specs.Code as code
use Rattle.task_code.specs.Code.{Loop, Need, Range}
use Rattle.code_rules.specs.CodeNames.{over, wanted}
use Rattle.emit_cells.specs.PlainNeeds.{Notes}
use Rattle.emit_cells.specs.declared.needs.PlainNeed.{PlainNeed}
use Rattle.emit_cells.proofs.Keys.{notes_both}
use Rattle.emit_statements.specs.Blocks.{ranged}

-- what three expressions wait for is noted
pub notes_three : (k : ℕ) (d e f : Expr) (x y z w : List PlainNeed) → Notes x y (wanted k d) → Notes y z (wanted k e) → Notes z w (wanted k f) → Notes x w (flat_map (wanted k) (d ∷ e ∷ f ∷ []))
notes_three k d e f x y z w a b c =
    notes_both x y w (wanted k d) (wanted k e ++ (wanted k f ++ [])) a
    (notes_both y z w (wanted k e) (wanted k f ++ []) b (subst (λ ns. Notes z w ns) (sym (append-nil (wanted k f))) c))

pub ranged_is : (k : ℕ) (w : Loop) (ns : List Need) (d e f : Expr) (x y z : code.Expr) → x ≡ over k ns d → y ≡ over k ns e → z ≡ over k ns f → Range x y z w ≡ ranged k w ns (d ∷ e ∷ f ∷ [])
ranged_is k w ns d e f x y z a b c = ap (λ t. Range t y z w) a ∙ ap (λ t. Range (over k ns d) t z w) b ∙ ap (λ t. Range (over k ns d) (over k ns e) t w) c
