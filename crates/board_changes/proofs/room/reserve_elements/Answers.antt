use Rattle.std.proofs.Common.{◌≡◌, ◌∙◌, ap, length, subst, sym, take}
use Rattle.data_store.specs.Stores.{Store}
use Rattle.values.specs.Keys.{key_seen}
use Rattle.values.specs.declared.key.Key.{Key}
use Rattle.board_data.specs.Data.{AreRising, roomy}
use Rattle.board_data.specs.View.{cells_view}
use Rattle.board_changes.proofs.Roomy.{places_next, roomy_cells, roomy_rises}
use Rattle.board_changes.proofs.room.reserve_elements.Goals as goal

pub loop-one-preserved : goal.loop-one-preserved
loop-one-preserved c =
    let made : c.reserve.new.store ≡ roomy c.args.d c.one-item.result.key (length c.args.elements.now) c.loop-one.store = c.in_ok-reserve.ensures.ok ∙ ap (λ (k : Key). roomy c.args.d k (length c.args.elements.now) c.loop-one.store) c.as_ref.ensures in
    record {
      places = places_next c.args.d (length c.args.elements.now) c.args.elements.now c.loop-one.one-index c.one-item.result c.loop-one.store c.reserve.new.store c.loop-one-test.true c.one-item.is made c.loop-one.invariant.places;
      cells = ap (λ (s : Store). cells_view s.cells) made ∙ roomy_cells c.args.d c.one-item.result.key (length c.args.elements.now) c.loop-one.store ∙ c.loop-one.invariant.cells;
      rising = λ r. subst AreRising (sym made) (roomy_rises c.args.d c.one-item.result.key (length c.args.elements.now) c.loop-one.store (c.loop-one.invariant.rising r));
    }
