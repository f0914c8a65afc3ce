-- The item that a choice names, or the first one.
use Rattle.std.proofs.Common.{◌≡◌, ◌∙◌, sym, ap, refl, inl, inr, ℕ, zero, suc, IfNone, ◌<◌, ◌%◌, List, [], ◌∷◌, Option, None, Some, length, get_or, map, arith}
use Rattle.std.specs.Prelude.{slice_index}
use Rattle.dataflow.specs.System.{In}
use Rattle.task_code.specs.Machine.{CodeItem}
use Rattle.board.specs.Board.{IsGoing, MayBegin, Seen}
use Rattle.board.specs.Ready.{AreReady}
use Rattle.board_runs.specs.Turns.{IsNamed, NoneReady}

-- the item at a place of a list
at_place : (items : List CodeItem) (k : ℕ) → k < length items → (i : CodeItem) × In i items × (i.number ≡ get_or (map (λ (j : CodeItem). j.number) items) k 0)
at_place [] k l = absurd (omega (arith, l))
at_place (i ∷ is) zero l = (i, inl refl, refl)
at_place (i ∷ is) (suc k) l = let more = at_place is k (omega (arith, l)) in (more.0, inr more.1, more.2)

as_many : (items : List CodeItem) → length (map (λ (j : CodeItem). j.number) items) ≡ length items
as_many [] = refl
as_many (i ∷ is) = ap suc (as_many is)

-- the item that a choice names can begin
can_begin : (b : Seen) (numbers : List ℕ) (choice number : ℕ) → AreReady b numbers → 0 < length numbers → number ≡ slice_index numbers (choice % length numbers) → MayBegin b number
can_begin b numbers choice number ready some is_number =
    let k = choice % length numbers in
    let l : k < length numbers = omega arith in
    let within : k < length ready.items = omega (arith, l, ap length ready.numbers_are, as_many ready.items) in
    let found = at_place ready.items k within in
    let is = ready.ready found.0 found.1 in
    record {
      item = found.0;
      there = is.there;
      number_is = found.2 ∙ ap (λ ns. get_or ns k 0) (sym ready.numbers_are) ∙ sym is_number;
      idle = is.idle;
      enabled = is.enabled;
    }

pub named_can_begin : (b : Seen) (choice : Option ℕ) (number : ℕ) → IsNamed b choice number → MayBegin b number
named_can_begin b (Some choice) number named = can_begin b named.numbers choice number named.ready named.some named.number_is
named_can_begin b None number named = record {
  item = named.item;
  there = named.ready.there;
  number_is = named.number_is;
  idle = named.ready.idle;
  enabled = named.ready.enabled;
}

not_listed : (items : List CodeItem) (i : CodeItem) → [] ≡ map (λ (j : CodeItem). j.number) items → In i items → ⊥
not_listed [] i e there = there
not_listed (j ∷ items) i e there = absurd (cc (e))

-- where the list of those that can begin is empty, none can
pub none_listed : (b : Seen) (numbers : List ℕ) → AreReady b numbers → length numbers ≡ 0 → NoneReady b
none_listed b [] ready e = λ i is. not_listed ready.items i ready.numbers_are (ready.all i is)
none_listed b (n ∷ numbers) ready e = absurd (cc (e))

-- where the first is looked for and there is none, none can begin
pub none_first : {A : Type 0} (b : Seen) (found : Option A) → IsGoing b → IfNone found (IsGoing b → NoneReady b) → IfNone found (NoneReady b)
none_first b None going none = none going
none_first b (Some item) going none = tt
