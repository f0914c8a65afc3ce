-- Two codes of one text are alike.
use Rattle.std.proofs.Common.{◌≡◌, ℕ, List, subst}
use Rattle.language.specs.Core.{Core}
use Rattle.language.specs.Resolved.{core}
use Rattle.language.specs.Tree.{Tree}
use Rattle.language.specs.Typing.{WellTyped}
use Rattle.language_laws.proofs.OneCore.{one_core}
use Rattle.language_accepted.proofs.Apart.{read_placed}
use Rattle.syntax.proofs.scripts.Trees.{one_text}
use Rattle.constant_fold.specs.Folded.{folded_tree}
use Rattle.constant_fold.proofs.Placed.{folded_placed}
use Rattle.constant_fold.proofs.Typed.{folded_typed}
use Rattle.task_code.specs.Code.{Code}
use Rattle.code_rules.specs.Emitted.{IsEmitted}
use Rattle.code_laws.specs.Alike.{AreAlike}
use Rattle.code_laws.proofs.Trees.{codes_alike}
use Rattle.compile.specs.Compiled.{IsCompiled, IsLaidFor}
use Rattle.compile.proofs.Runs.{declared_stay, kinds_stay}

pub text_alike : (src : List ℕ) (C D : Code) → IsCompiled src C → IsCompiled src D → AreAlike C D
text_alike src C D x y =
    let one : y.tree ≡ x.tree = one_text src y.tree x.tree (y.accepted).reads (x.accepted).reads in
    let typed : WellTyped x.tree y.table = subst (λ (t : Tree). WellTyped t y.table) one (y.accepted).typed in
    let laid : IsLaidFor y.table x.tree D = subst (λ (t : Tree). IsLaidFor y.table t D) one y.laid in
    let same : core y.table (folded_tree x.tree) ≡ core x.table (folded_tree x.tree) = one_core (folded_tree x.tree) y.table x.table (folded_typed y.table x.tree typed) (folded_typed x.table x.tree (x.accepted).typed) in
    codes_alike x.table (folded_tree x.tree) (x.laid).kinds laid.kinds (x.laid).declared laid.declared C D (folded_placed x.tree (read_placed src x.tree (x.accepted).reads)) (folded_typed x.table x.tree (x.accepted).typed)
    (kinds_stay (x.laid).kinds x.tree (x.laid).kinds_of) (kinds_stay laid.kinds x.tree laid.kinds_of) (declared_stay (x.laid).declared x.tree (x.laid).declared_in) (declared_stay laid.declared x.tree laid.declared_in)
    (x.laid).emitted (subst (λ (c : Core). IsEmitted c laid.kinds laid.declared D) same laid.emitted)
