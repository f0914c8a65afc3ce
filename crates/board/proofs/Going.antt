-- Whether an event may be accepted.
use Rattle.std.proofs.Common.{◌≡◌, ℕ, Bool, true, false, map, sym, ◌∙◌, None, IsTrue, length, nat_lt, arith}
use Rattle.std.proofs.lemmas.List.{length-map}
use Rattle.task_code.specs.View.{event_view}
use Rattle.board.specs.Board.{IsGoing}
use Rattle.board.specs.Inside.{IsSound, seen_of}
use Rattle.board.specs.declared.board.Board.TheInside.{Inside}
use Rattle.board.proofs.Own.{free_core, free_state}

pub going : (a : Inside) → IsSound a → a.core.fault ≡ None → (n : ℕ) → n ≡ length a.history.items → (IsTrue (nat_lt n a.limit) → IsGoing (seen_of a)) × (IsGoing (seen_of a) → IsTrue (nat_lt n a.limit))
going a s none n len =
    let same : length (map event_view a.history.items) ≡ length a.history.items = length-map a.history.items event_view in (
      (λ h. (free_state a.program s.whole (map event_view a.history.items) a.core s.stand none, grind (arith, same, len, h))),
      (λ g. let l = g.1 in grind (arith, same, len, l)),
    )

pub not_going : (a : Inside) → IsSound a → (a.core.fault ≡ None → ⊥) → (b : Bool) → b ≡ false → (IsTrue b → IsGoing (seen_of a)) × (IsGoing (seen_of a) → IsTrue b)
not_going a s met b off = (
  (λ t. let clash : true ≡ false = sym t ∙ off in absurd (cc)),
  (λ g. absurd (met (free_core a.program s.whole (map event_view a.history.items) a.core s.stand g.0))),
)
