-- The effect of offering a list of items.
use Rattle.std.specs.Prelude.{◌≡◌, List, [], ◌∷◌}
use Rattle.pool.specs.declared.pool.Offer.{Offer}
use Rattle.pool.specs.declared.protocol.SeatView.{SeatView}
use Rattle.pool.specs.Seats.{OfferDid, class_order}
use Rattle.pool.specs.declared.offers.ReadyItem.{ReadyItem}

-- each item was offered once, in order, to the holes of its kind and class
abbrev pub OfferedEach : List ReadyItem → SeatView → SeatView → Type 0
OfferedEach [] old new = new ≡ old
OfferedEach (x ∷ xs) old new = (mid : SeatView) × ((answer : Offer) × OfferDid old mid (class_order x.side x.class) x.number answer) × OfferedEach xs mid new
