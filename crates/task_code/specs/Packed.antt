-- The event that nine bytes stand for.
use Rattle.std.specs.Prelude.{ℕ, ◌≡◌, ◌+◌, ◌-◌, ◌*◌, Bool, true, false, cond, nat_lt}
use Rattle.std.proofs.Common.{refl}
use Rattle.std.proofs.Math.Nat.{sub-add_cancel}
use Rattle.std.proofs.lemmas.Bool.{ltb-false}
use Rattle.task_code.specs.declared.event.Event.{Event}
use Rattle.task_code.specs.declared.event.Event.TheVariants.{Back, Begin, End}
use Rattle.values.specs.Limits.{max_threads}

-- The event with this mark and item. A mark below the maximum number of threads is the worker who begins the item. A
-- mark below twice that number is the worker who ends it, plus the number. Any other is the worker who gives it back,
-- plus twice the number.
abbrev pub unpacked : (mark item : ℕ) → Event
unpacked mark item = cond (nat_lt mark max_threads) (Begin mark item) (cond (nat_lt mark (2 * max_threads)) (End (mark - max_threads) item) (Back (mark - 2 * max_threads) item))

-- the mark of an event
abbrev pub mark_of : Event → ℕ
mark_of (Begin worker item) = worker
mark_of (End worker item) = worker + max_threads
mark_of (Back worker item) = worker + 2 * max_threads

-- the number of the item of an event
abbrev pub number_of : Event → ℕ
number_of (Begin worker item) = item
number_of (End worker item) = item
number_of (Back worker item) = item

-- an unpacked event has the mark and the number that it was unpacked from
pub mark_again : (mark item : ℕ) → mark_of (unpacked mark item) ≡ mark
mark_again mark item = by (nat_lt mark max_threads) (nat_lt mark (2 * max_threads)) refl refl
  where
    by : (b c : Bool) → nat_lt mark max_threads ≡ b → nat_lt mark (2 * max_threads) ≡ c → mark_of (cond b (Begin mark item) (cond c (End (mark - max_threads) item) (Back (mark - 2 * max_threads) item))) ≡ mark
    by true c p q = refl
    by false true p q = sub-add_cancel (ltb-false mark max_threads p)
    by false false p q = sub-add_cancel (ltb-false mark (2 * max_threads) q)

pub number_again : (mark item : ℕ) → number_of (unpacked mark item) ≡ item
number_again mark item = by (nat_lt mark max_threads) (nat_lt mark (2 * max_threads))
  where
    by : (b c : Bool) → number_of (cond b (Begin mark item) (cond c (End (mark - max_threads) item) (Back (mark - 2 * max_threads) item))) ≡ item
    by true c = refl
    by false true = refl
    by false false = refl
