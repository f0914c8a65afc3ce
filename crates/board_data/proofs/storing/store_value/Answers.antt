use Rattle.std.proofs.Common.{◌∷◌, [], subst, sym}
use Rattle.task_code.specs.Effects.{only}
use Rattle.board_data.specs.Stored.{StoresIn}
use Rattle.board_data.proofs.Rising.{put_rises}
use Rattle.board_data.proofs.Stored.{stored_scalar}
use Rattle.board_data.proofs.storing.store_value.Goals as goal

pub returns-in-Some : goal.returns-in-Some
returns-in-Some c = record {
  stores = λ h. subst (λ t. StoresIn t ((only, c.args.value) ∷ []) c.args.store.now c.set_scalar.new.store) (sym c.in-Some.is) (stored_scalar c.in-Some.d c.args.value c.args.store.now c.set_scalar.new.store c.set_scalar.ensures (h c.in-Some.d c.in-Some.is));
  rising = put_rises c.in-Some.d c.args.value c.args.store.now c.set_scalar.new.store c.set_scalar.ensures;
}
