-- Knowledge of an item by its number, which stays valid as long as the item is present.
use Rattle.std.specs.Prelude.{◌≡◌, ◌<◌, ℕ, List}
use Rattle.dataflow.specs.System.{In, Answer, System}
use Rattle.dataflow.specs.Machine.{Item, State, SeesAll}

-- the number was assigned; if its item is present, it has this task and sees these answers
pub record Knows {T D K V E : Type 0} (S : System T D K V E) (s : State T D K V E) (n : ℕ) (t : T) (xs : List (Answer K V)) : Type 0 where
  pub given : n < s.next
  pub task : (i : Item T) → In i s.items → i.number ≡ n → i.task ≡ t
  pub seen : (i : Item T) → In i s.items → i.number ≡ n → SeesAll S s (S.inputs t) xs
