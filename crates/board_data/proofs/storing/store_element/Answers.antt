use Rattle.std.proofs.Common.{◌∷◌, [], refl, subst, sym}
use Rattle.values.specs.Maps.{element}
use Rattle.board_data.specs.Stored.{StoresIn}
use Rattle.board_data.proofs.Rising.{insert_rises}
use Rattle.board_data.proofs.Stored.{end_stored, step_stored}
use Rattle.board_data.proofs.storing.store_element.Goals as goal

pub returns-in-Some : goal.returns-in-Some
returns-in-Some c = record {
  stores = λ h.
      let e = element c.args.key c.args.value in
      let k = h c.in-Some.d c.in-Some.is in
      let r = step_stored c.in-Some.d e [] c.args.store.now c.insert.new.store _ k refl c.insert.ensures.took in
      subst (λ t. StoresIn t ((c.args.key, c.args.value) ∷ []) c.args.store.now c.insert.new.store) (sym c.in-Some.is) (end_stored c.in-Some.d (e ∷ []) c.args.store.now c.insert.new.store k r.1);
  rising = insert_rises c.in-Some.d c.args.key c.args.value c.args.store.now c.insert.new.store c.insert.ensures.exact;
}
