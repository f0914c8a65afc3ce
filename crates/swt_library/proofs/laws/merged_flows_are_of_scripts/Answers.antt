use Rattle.std.proofs.Common.{◌≡◌, inl, inr, subst}
use Rattle.compile.specs.Accepted.{IsAccepted}
use Rattle.compile.proofs.Flows.{Kept, Lowered}
use Rattle.language.specs.Tree.{Tree}
use Rattle.swt_library.proofs.Flows.{of_fold, of_written}
use Rattle.swt_library.proofs.laws.merged_flows_are_of_scripts.Goals as goal

pub returns : goal.returns
returns g c =
    λ src t tree other lowered merged accepted which core_is declared_is kinds_are shown_is cells_are core_stays declared_stays kinds_stay shown_stays cells_stay is_merged.
    (let low : Lowered t other lowered = record { core_is = core_is; declared_is = declared_is; kinds_are = kinds_are; shown_is = shown_is; cells_are = cells_are } in
    let kept : Kept lowered merged = record { core_stays = core_stays; declared_stays = declared_stays; kinds_stay = kinds_stay; shown_stays = shown_stays; cells_stay = cells_stay; merged = is_merged } in
    elim which [
      | inl same ↦ of_written src t tree lowered merged accepted (subst (λ (u : Tree). Lowered t u lowered) same low) kept
      | inr fold_is ↦ of_fold src t tree other lowered merged accepted fold_is low kept
    ])
