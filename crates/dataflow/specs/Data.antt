-- The data that a state keeps, and the answers that its items see.
use Rattle.std.specs.Prelude.{◌≡◌, ◌⊎◌, ℕ, List, []}
use Rattle.dataflow.specs.System.{In, Answer, Write, Effect, System}
use Rattle.dataflow.specs.Facts.{Live, Written, Made, Known}
use Rattle.dataflow.specs.Log.{Logged}
use Rattle.dataflow.specs.Machine.{Item, State, ClosedByRights, Free, HasContent, Enabled, SeesAll}

module _ {T D K V E : Type 0} (S : System T D K V E) where
  -- an enabled item has one list of answers, and any other has none; a closed array has one content
  pub record AnswersAreOne (s : State T D K V E) : Type 0 where
    pub some : (i : Item T) → In i s.items → Enabled S s i.task → (xs : List (Answer K V)) × SeesAll S s (S.inputs i.task) xs
    pub none : (i : Item T) → In i s.items → (xs : List (Answer K V)) → SeesAll S s (S.inputs i.task) xs → Enabled S s i.task
    pub one : (i : Item T) → In i s.items → (xs ys : List (Answer K V)) → SeesAll S s (S.inputs i.task) xs → SeesAll S s (S.inputs i.task) ys → xs ≡ ys
    pub content : (a : D) → ClosedByRights S s a → (xs : List (K × V)) × HasContent S s a xs
    pub one_content : (a : D) (xs ys : List (K × V)) → HasContent S s a xs → HasContent S s a ys → xs ≡ ys

  -- each datum that the log made is present or free, and no other is present
  pub record DataAreKept (s : State T D K V E) (log : List (T × Effect T D K V)) : Type 0 where
    pub made : (a : D) → In a s.places → Made S (Logged S log) a
    pub kept : (a : D) → Made S (Logged S log) a → In a s.places ⊎ Free S s a
    pub written : (w : Write D K V) → In w s.stored → Written S (Logged S log) w.place w.key w.value

  -- every free datum has been removed
  abbrev pub IsTidy : State T D K V E → Type 0
  IsTidy s = (a : D) → In a s.places → Free S s a → ⊥

  -- the data of a tidy state: exactly those made that are not free; none are present if no item is left
  pub record DataAreExact (s : State T D K V E) (log : List (T × Effect T D K V)) : Type 0 where
    pub there : (a : D) → In a s.places → Made S (Logged S log) a × (Free S s a → ⊥)
    pub exact : (a : D) → Made S (Logged S log) a → (Free S s a → ⊥) → In a s.places
    pub none_left : s.items ≡ [] → s.places ≡ []

  -- two states with the same items, lines and fault, which differ only in free data
  pub record SameButFree (s s' : State T D K V E) : Type 0 where
    pub items : s.items ≡ s'.items
    pub next : s.next ≡ s'.next
    pub lines : s.lines ≡ s'.lines
    pub fault : s.fault ≡ s'.fault
    pub places : (a : D) → In a s.places → In a s'.places ⊎ Free S s a
    pub values : (w : Write D K V) → In w s.stored → In w s'.stored ⊎ Free S s w.place

  -- the list has every task that is live after some round
  abbrev pub HasAllLive : List T → Type 0
  HasAllLive all = (n : ℕ) (t : T) → Live S (Known S n) t → In t all
