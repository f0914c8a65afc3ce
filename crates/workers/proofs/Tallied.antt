-- What the threads of one number counted, one thread after the other.
use Rattle.std.proofs.Common.{◌≡◌, ◌≢◌, ◌∙◌, ap, refl, sym, ℕ, ◌+◌, ◌<◌, List, [], ◌∷◌, length, map, nat_eq, if◌then◌else◌, arith, inl, inr, get_or-set_other, get_or-set_same, slice_index, slice_index_or, slice_set, sum}
use Rattle.std.specs.List.{sum_by}
use Rattle.std.proofs.lemmas.Bool.Decides.{eqb_tells}
use Rattle.std.proofs.lemmas.Grind.{common_steps}
use Rattle.std.proofs.lemmas.List.{length-map}
use Rattle.std.proofs.lemmas.List.Elements.{All-map}
use Rattle.std.proofs.lemmas.List.Folds.{fold-map}
use Rattle.std.proofs.lemmas.List.Sums.{sum_by-cons, sum_by-set}
use Rattle.task_code.specs.Code.{Control, Kind, Leaf}
use Rattle.values.specs.Limits.{max_threads}
use Rattle.workers.specs.Reports.{AreCounted, OwnCount}
use Rattle.workers.specs.Threads.{IsRunWorker, MayRun}

its_own : (v w t : ℕ) → v ≡ w → (if nat_eq v w then t else 0) ≡ t
its_own v w t same = grind (arith, common_steps)

of_others : (v w t : ℕ) → v ≢ w → (if nat_eq v w then t else 0) ≡ 0
of_others v w t other = grind (arith, common_steps)

-- one thread more, of those that are left
pub tallied_more : (ts new : List ℕ) (v t w rest all : ℕ) → w < length ts → new ≡ slice_set ts v (slice_index ts v + t)
    → slice_index ts w + ((if nat_eq v w then t else 0) + rest) ≡ all → slice_index new w + rest ≡ all
tallied_more ts new v t w rest all within is before = elim (eqb_tells v w) [ inl s ↦ at s.1 | inr n ↦ off n.1 ]
  where
    at : v ≡ w → slice_index new w + rest ≡ all
    at same =
        let told : slice_index new w ≡ slice_index ts w + t = ap (λ (l : List ℕ). slice_index l w) is ∙ (ap (λ (k : ℕ). slice_index (slice_set ts k (slice_index ts k + t)) w) same ∙ get_or-set_same ts w (slice_index ts w + t) 0 within) in
        omega (arith, told, its_own v w t same, before)

    off : v ≢ w → slice_index new w + rest ≡ all
    off other =
        let told : slice_index new w ≡ slice_index ts w = ap (λ (l : List ℕ). slice_index l w) is ∙ get_or-set_other ts v w (slice_index ts v + t) 0 (λ e. other (sym e)) in
        omega (arith, told, of_others v w t other, before)

-- the count of one thread is that of its number's threads that are left, with the rest
pub tallied_step : {H : Type 0} (number count : H → ℕ) (ts new : List ℕ) (h : H) (items rest : List H) (w all : ℕ) → w < length ts → items ≡ h ∷ rest
    → new ≡ slice_set ts (number h) (slice_index ts (number h) + count h)
    → slice_index ts w + sum_by (λ x. if nat_eq (number x) w then count x else 0) items ≡ all
    → slice_index new w + sum_by (λ x. if nat_eq (number x) w then count x else 0) rest ≡ all
tallied_step {H} number count ts new h items rest w all within split is before =
    let f : H → ℕ = λ (x : H). if nat_eq (number x) w then count x else 0 in
    let parts : sum_by f items ≡ f h + sum_by f rest = ap (sum_by f) split ∙ sum_by-cons f h rest in
    tallied_more ts new (number h) (count h) w (sum_by f rest) all within is (ap (λ (n : ℕ). slice_index ts w + n) (sym parts) ∙ before)

pub tallied_all : {H : Type 0} (number count : H → ℕ) (ts : List ℕ) (items : List H) (w all : ℕ) → length items ≡ 0
    → slice_index ts w + sum_by (λ x. if nat_eq (number x) w then count x else 0) items ≡ all → slice_index ts w ≡ all
tallied_all number count ts [] w all none before = omega (arith, before)
tallied_all number count ts (x ∷ xs) w all none before = absurd (omega (arith, none))

-- what is added at one place comes to the sum
pub sum_set : (ts : List ℕ) (v t : ℕ) → v < length ts → sum (slice_set ts v (slice_index ts v + t)) ≡ sum ts + t
sum_set ts v t within = let e = sum_by-set (λ (x : ℕ). x) ts v (slice_index ts v + t) 0 within in omega (arith, e)

-- whoever has a place is one of theirs
pub theirs : (e k w : ℕ) (kind : Kind) → MayRun e k w kind → w < e + k
theirs e k w Control p = let a = p.engine refl in omega (arith, a)
theirs e k w Leaf p = let a = p.worker refl in omega (arith, a.1)

-- what each of them counted under its number, where the tallies are the sums
pub own_counts : {H : Type 0} (number count : H → ℕ) (e k n : ℕ) (tallies : List ℕ) (items : List H) → length items ≡ n → ((h : H) → IsRunWorker e k (number h))
    → ((w : ℕ) → w < max_threads → slice_index tallies w ≡ sum_by (λ h. if nat_eq (number h) w then count h else 0) items) → AreCounted e k n tallies
own_counts {H} number count e k n tallies items len theirs each =
    let counted : H → OwnCount = λ h. record { worker = number h; events = count h } in
    record {
      counts = map counted items;
      states = length-map items counted ∙ len;
      theirs = All-map (λ (o : OwnCount). IsRunWorker e k o.worker) counted items (λ i d lt. theirs (slice_index_or items i d));
      each = λ w lt. each w lt ∙ sym (fold-map (λ (a : ℕ) (o : OwnCount). a + (if nat_eq o.worker w then o.events else 0)) counted 0 items);
    }
