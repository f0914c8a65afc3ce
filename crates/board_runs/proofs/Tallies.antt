-- Tallies, as they are counted event by event.
use Rattle.std.proofs.Common.{◌≡◌, ◌≢◌, ◌∙◌, sym, ap, subst, refl, ℕ, ◌+◌, ◌<◌, ◌≤◌, true, false, List, [], ◌∷◌, ◌++◌, length, get_or, set, take, map, replicate, nat_eq, if◌then◌else◌, arith, add_assoc, add-zero, inl, inr, length-set, get_or-set_other, get_or-set_same}
use Rattle.std.proofs.lemmas.List.{get_or-replicate, get_or_past, map_more}
use Rattle.std.proofs.lemmas.Bool.Decides.{eqb_tells, leb_tells}
use Rattle.std.proofs.lemmas.Grind.{common_steps}
use Rattle.dataflow.specs.Events.{tally, worker_of}
use Rattle.dataflow.specs.Machine.{Event}
use Rattle.task_code.specs.declared.event.Event.{Event as Happens}
use Rattle.task_code.specs.View.{event_view}
use Rattle.board_runs.specs.Report.{AreTallies}
use Rattle.values.specs.Limits.{max_threads}

-- 1 for an event of the worker
one_of : Event → ℕ → ℕ
one_of e w = if nat_eq (worker_of e) w then 1 else 0

-- one more event
tally_more : (es : List Event) (e : Event) (w : ℕ) → tally (es ++ e ∷ []) w ≡ tally es w + one_of e w
unfolding one_of
tally_more [] e w = omega arith
tally_more (d ∷ es) e w = ap (λ n. one_of d w + n) (tally_more es e w) ∙ sym (add_assoc (one_of d w) (tally es w) (one_of e w))

own : (e : Event) → one_of e (worker_of e) ≡ 1
unfolding one_of
own e = grind (arith, common_steps)

other : (e : Event) (w : ℕ) → w ≢ worker_of e → one_of e w ≡ 0
unfolding one_of
other e w n = grind (arith, common_steps)

at_most_one : (e : Event) (w : ℕ) → one_of e w ≤ 1
unfolding one_of
at_most_one e w = elim (nat_eq (worker_of e) w) as (λ b. (if b then 1 else 0) ≤ 1) [ true ↦ omega arith | false ↦ omega arith ]

-- a worker has no more events than there are
pub tally_bound : (es : List Event) (w : ℕ) → tally es w ≤ length es
unfolding one_of
tally_bound [] w = omega arith
tally_bound (e ∷ es) w = omega (arith, tally_bound es w, at_most_one e w)

pub none_counted : AreTallies [] (replicate max_threads 0)
none_counted = record { workers = refl; each = λ w l. get_or-replicate max_threads w 0 0 l }

-- one more event is counted
each_counted : (es : List Event) (e : Event) (ts : List ℕ) → AreTallies es ts → (w : ℕ) → w < max_threads → get_or (set ts (worker_of e) (get_or ts (worker_of e) 0 + 1)) w 0 ≡ tally (es ++ e ∷ []) w
each_counted es e ts t w b = elim (eqb_tells w (worker_of e)) [ inl s ↦ same_worker s.1 | inr n ↦ other_worker n.1 ]
  where
    same_worker : w ≡ worker_of e → get_or (set ts (worker_of e) (get_or ts (worker_of e) 0 + 1)) w 0 ≡ tally (es ++ e ∷ []) w
    same_worker s =
        let within : worker_of e < length ts = omega (arith, t.workers, b, s) in
        ap (λ k. get_or (set ts (worker_of e) (get_or ts (worker_of e) 0 + 1)) k 0) s
        ∙ get_or-set_same ts (worker_of e) (get_or ts (worker_of e) 0 + 1) 0 within
        ∙ ap (λ k. get_or ts k 0 + 1) (sym s)
        ∙ ap (λ k. k + 1) (t.each w b)
        ∙ ap (λ k. tally es w + k) (sym (ap (one_of e) s ∙ own e))
        ∙ sym (tally_more es e w)

    other_worker : w ≢ worker_of e → get_or (set ts (worker_of e) (get_or ts (worker_of e) 0 + 1)) w 0 ≡ tally (es ++ e ∷ []) w
    other_worker n =
        get_or-set_other ts (worker_of e) w (get_or ts (worker_of e) 0 + 1) 0 n ∙ t.each w b
        ∙ sym (tally_more es e w ∙ ap (λ k. tally es w + k) (other e w n) ∙ add-zero (tally es w))

pub counted : (es : List Event) (e : Event) (ts : List ℕ) → AreTallies es ts → AreTallies (es ++ e ∷ []) (set ts (worker_of e) (get_or ts (worker_of e) 0 + 1))
counted es e ts t = record { workers = length-set ts (worker_of e) _ ∙ t.workers; each = each_counted es e ts t }

-- an event of the list is counted
pub counted_at : (xs : List Happens) (i : ℕ) (d : Happens) (ts new : List ℕ) (w : ℕ) → i < length xs → AreTallies (map event_view (take i xs)) ts → w ≡ worker_of (event_view (get_or xs i d)) → new ≡ set ts w (get_or ts w 0 + 1) → AreTallies (map event_view (take (i + 1) xs)) new
counted_at xs i d ts new w l t is_worker is_new =
    let P : List Event → List ℕ → Type 0 = λ es ns. AreTallies es ns in
    subst (λ (es : List Event). P es new) (sym (map_more event_view xs i d l))
    (subst (λ (ns : List ℕ). P (map event_view (take i xs) ++ event_view (get_or xs i d) ∷ []) ns) (sym (is_new ∙ ap (λ k. set ts k (get_or ts k 0 + 1)) is_worker))
    (counted (map event_view (take i xs)) (event_view (get_or xs i d)) ts t))

-- no tally is greater than the number of events
pub tally_small : (es : List Event) (ts : List ℕ) (w : ℕ) → AreTallies es ts → get_or ts w 0 ≤ length es
tally_small es ts w t = elim (leb_tells max_threads w) [ inl past ↦ omega (arith, get_or_past ts w 0 (omega (arith, past.1, t.workers))) | inr below ↦ omega (arith, t.each w below.1, tally_bound es w) ]
