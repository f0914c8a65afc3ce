use Rattle.std.proofs.Common.{◌≡◌, ◌-◌, map, ap, ap₂, sym, ◌∙◌, arith}
use Rattle.std.specs.Prelude.{vec_len}
use Rattle.std.proofs.lemmas.List.{take-map}
use Rattle.std.proofs.lemmas.Grind.{common_steps}
use Rattle.types.specs.Known.{seen_at}
use Rattle.types.proofs.visible.Growth.{made}
use Rattle.types.proofs.statements.leave.Goals as goal

pub returns : goal.returns
returns c =
    let fewer : vec_len c.pop-closed.new.self ≡ vec_len c.args.scope.now.blocks - 1 = grind (arith, common_steps) in
    ap₂ made fewer (ap (map (λ e. seen_at e.0.items e.1)) c.truncate.ensures.entries ∙ sym (take-map (λ e. seen_at e.0.items e.1) c.args.visible c.args.scope.now.names.entries))
