-- Counts of rights: the number of times that the items that have not ended name a place.
use Rattle.std.specs.Prelude.{◌≡◌, ℕ, ◌+◌, List, [], ◌∷◌, if◌then◌else◌}
use Rattle.dataflow.specs.System.{In, tasks_of, Opening, Answer, Effect, Good, System}
use Rattle.dataflow.specs.Machine.{Item, State, SeesAll}
use Rattle.dataflow.specs.Promises.{tasks_in_items}
use Rattle.board_history.specs.Replay.{Tests}

module _ {T D K V E : Type 0} (S : System T D K V E) (X : Tests D K V) where
  -- the number of times that the place occurs in the list
  abbrev pub times : D → List D → ℕ
  times a [] = 0
  times a (b ∷ bs) = (if X.same_place a b then 1 else 0) + times a bs

  -- the number of times that these tasks name it among the rights of this kind
  abbrev pub holds : (T → List D) → D → List T → ℕ
  holds rights a [] = 0
  holds rights a (t ∷ ts) = times a (rights t) + holds rights a ts

  -- the two counts of a datum
  abbrev pub readers : State T D K V E → D → ℕ
  readers s a = holds S.may_read a (tasks_in_items S s.items)

  abbrev pub writers : State T D K V E → D → ℕ
  writers s a = holds S.may_write a (tasks_in_items S s.items)

  -- all counts are the same
  abbrev pub SameCounts : State T D K V E → State T D K V E → Type 0
  SameCounts s t = (rights : T → List D) (a : D) → holds rights a (tasks_in_items S t.items) ≡ holds rights a (tasks_in_items S s.items)

  -- an item that ends without fault: the tasks that it opens add their rights, it gives up its own, and no other count
  -- changes
  pub record Exchanges (s : State T D K V E) (number : ℕ) (t : State T D K V E) : Type 0 where
    pub item : Item T
    pub there : In item s.items
    pub number_is : item.number ≡ number
    pub answers : List (Answer K V)
    pub known : SeesAll S s (S.inputs item.task) answers
    pub effect : Effect T D K V
    pub is : S.effect item.task answers ≡ Good effect
    pub counts : (rights : T → List D) (a : D) → holds rights a (tasks_in_items S t.items) + times a (rights item.task) ≡ holds rights a (tasks_in_items S s.items) + holds rights a (tasks_of effect.opens)

  -- a datum that it creates is held by the tasks of its own block, and by no other
  pub record StartsWith (t : State T D K V E) (effect : Effect T D K V) : Type 0 where
    pub read : (o : Opening T D) (a : D) → In o effect.opens → In a o.makes → readers t a ≡ holds S.may_read a o.tasks
    pub written : (o : Opening T D) (a : D) → In o effect.opens → In a o.makes → writers t a ≡ holds S.may_write a o.tasks
