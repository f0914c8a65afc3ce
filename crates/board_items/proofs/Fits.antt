-- Fields that stand for the state of a history have items that fit.
use Rattle.std.proofs.Common.{◌≡◌, ◌⊎◌, inl, inr, ◌∙◌, ℕ, zero, suc, ◌+◌, Bool, true, false, List, [], ◌∷◌, refl, sym, ap, subst, arith, Some, None}
use Rattle.std.specs.Prelude.{ℤ, nat_eq}
use Rattle.dataflow.specs.System.{In}
use Rattle.dataflow.specs.Machine.{Event, Run}
use Rattle.dataflow.specs.History.{log_of}
use Rattle.dataflow.proofs.Follows.{Follows, sees_enabled}
use Rattle.dataflow.proofs.Known.{sees_only}
use Rattle.dataflow.proofs.Steps.{run_follows}
use Rattle.board_history.specs.Elements.{code_tests}
use Rattle.board_history.specs.Fields.{Fields, Layout, Status, Over, Ready, Row, Running, Waiter, Waiting, row_of, task_of}
use Rattle.board_history.specs.Stands.{Stands}
use Rattle.board_history.proofs.Elements.{code_told}
use Rattle.board_history.proofs.Marking.{IsItem, RowIs, item, status_is, row_found}
use Rattle.board_history.proofs.Next.{nat_same, nat_sound}
use Rattle.board_history.proofs.Remarked.{runs_of}
use Rattle.board_history.proofs.Replays.{run_replayed}
use Rattle.board_history.proofs.Rows.{no_row, row_item}
use Rattle.board_history.proofs.Standing.{missing_told}
use Rattle.board_history.proofs.Tests.{none_some, yes_no}
use Rattle.task_code.proofs.Kept.{code_laws}
use Rattle.task_code.specs.Code.{Code, Kind}
use Rattle.task_code.specs.Effects.{Task}
use Rattle.task_code.specs.Machine.{CodeItem, CodeState, Enabled}
use Rattle.task_code.specs.System.{code_system}
use Rattle.task_code.specs.Whole.{IsCode}
use Rattle.board_items.specs.Ended.{ItemsFit}

waits_over : {B : Type 0} → Waiting ≡ Over → B
waits_over h = absurd (cc)

-- an item waits, or none of this number does
waiter_or : (ws : List Waiter) (m : ℕ) → ((w : Waiter) × In w ws × (w.item ≡ m)) ⊎ ((w : Waiter) → In w ws → w.item ≡ m → ⊥)
waiter_or [] m = inr (λ w h e. h)
waiter_or (v ∷ ws) m = by (nat_eq v.item m) refl (waiter_or ws m)
  where
    by : (b : Bool) → nat_eq v.item m ≡ b → ((w : Waiter) × In w ws × (w.item ≡ m)) ⊎ ((w : Waiter) → In w ws → w.item ≡ m → ⊥) → ((w : Waiter) × In w (v ∷ ws) × (w.item ≡ m)) ⊎ ((w : Waiter) → In w (v ∷ ws) → w.item ≡ m → ⊥)
    by true e rest = inl (v, inl refl, nat_sound v.item m e)
    by false e (inl r) = inl (r.0, inr r.1, r.2)
    by false e (inr d) =
        inr (λ w h q. elim h [
          | inl p ↦ yes_no (subst (λ (k : ℕ). nat_eq v.item k ≡ true) (ap (λ (x : Waiter). x.item) (sym p) ∙ q) (nat_same v.item)) e
          | inr g ↦ d w g q
        ])

module _ (C : Code) (I : IsCode C) (L : Layout) (es : List Event) (F : Fields) (x : Stands C L es F) where
  abbrev s : CodeState
  s = x.state

  run : Run (code_system C) es s
  run = (run_replayed (code_system C) code_tests (code_told C) (code_laws C I) es s x.reached).0

  follows : Follows (code_system C) s (log_of (code_system C) es s run)
  follows = run_follows (code_system C) (code_laws C I) es s run

  running_enabled : (i : CodeItem) (w : ℕ) → In i s.items → i.runs ≡ Some w → Enabled C s i.task
  running_enabled i w h e =
      let r = (follows.items.runs i w h e).1 in
      sees_only (code_system C) (code_laws C I) s (log_of (code_system C) es s run) follows i.task r.answers
      (sees_enabled (code_system C) (code_laws C I) s (log_of (code_system C) es s run) follows i.task r.waits r.answers r.known)

  row_at : (i : CodeItem) → In i s.items → RowIs F.frames F.rows 1 i
  row_at i h = row_found F.frames 1 F.rows i (subst (λ (l : List CodeItem). In i l) (sym x.items.items) h)

  waits : (m : ℕ) (r : Row) → row_of F.rows m ≡ Some r → r.status ≡ Waiting → (w : Waiter) × In w F.waiting × (w.item ≡ m)
  waits zero r h k = no_row F.rows r h
  waits (suc j) r h k = elim (waiter_or F.waiting (suc j)) [ inl w ↦ w | inr d ↦ absurd (x.items.waiting (suc j) r h k (by (status_is r.status) d)) ]
    where
      by : (r.status ≡ Over) ⊎ IsItem r.status → ((w : Waiter) → In w F.waiting → w.item ≡ suc j → ⊥) → Enabled C s (task_of F.frames r.job)
      by (inl o) d = waits_over (sym k ∙ o)
      by (inr y) d =
          let i = item (suc j) (task_of F.frames r.job) y.runs in
          let n : suc j ≡ 1 + j = omega arith in
          (missing_told C I L es F x i (subst (λ (l : List CodeItem). In i l) x.items.items (row_item F.frames 1 F.rows j (suc j) r h y n))).0 d

  waiting : (w : Waiter) → In w F.waiting → (w.missing ≡ [] → ⊥) × ((r : Row) × (row_of F.rows w.item ≡ Some r) × (r.status ≡ Waiting))
  waiting w h = let p = x.waits.missing w h in let f = row_at p.0 p.1 in (p.3, (f.row, ap (row_of F.rows) (number p.0 f p.2) ∙ f.there, by p.0 p.1 p.2 f f.row.status refl))
    where
      number : (i : CodeItem) (f : RowIs F.frames F.rows 1 i) → i.number ≡ w.item → w.item ≡ suc f.at
      number i f e = let q = f.number_is in omega arith

      idle : (i : CodeItem) → In i s.items → i.number ≡ w.item → Enabled C s i.task → ⊥
      idle i g e en = (missing_told C I L es F x i g).1 en w h (sym e)

      by : (i : CodeItem) → In i s.items → i.number ≡ w.item → (f : RowIs F.frames F.rows 1 i) → (m : Status) → f.row.status ≡ m → f.row.status ≡ Waiting
      by i g e f Waiting q = q
      by i g e f Ready q = absurd (idle i g e (subst (λ (t : Task). Enabled C s t) (sym f.task_is) (x.items.ready (suc f.at) f.row f.there q)))
      by i g e f (Running v) q = absurd (idle i g e (of (status_is f.row.status)))
        where
          of : (f.row.status ≡ Over) ⊎ IsItem f.row.status → Enabled C s i.task
          of (inl o) = absurd (f.not_over o)
          of (inr y) = running_enabled i v g (f.runs_is y ∙ runs_of f.row.status v y q)
      by i g e f Over q = absurd (f.not_over q)

  queued : (k : Kind) (z : ℤ) (m : ℕ) → In m (F.queue k z) → (r : Row) × (row_of F.rows m ≡ Some r) × (r.status ≡ Ready)
  queued k z m h = let q = x.queue.only k z m h in let f = row_at q.item q.there in (f.row, ap (row_of F.rows) (number q.item f q.number_is) ∙ f.there, by q.item q.idle q.enabled f f.row.status refl)
    where
      number : (i : CodeItem) (f : RowIs F.frames F.rows 1 i) → i.number ≡ m → m ≡ suc f.at
      number i f e = let q = f.number_is in omega arith

      by : (i : CodeItem) → i.runs ≡ None → Enabled C s i.task → (f : RowIs F.frames F.rows 1 i) → (m : Status) → f.row.status ≡ m → f.row.status ≡ Ready
      by i d en f Waiting q = absurd (x.items.waiting (suc f.at) f.row f.there q (subst (λ (t : Task). Enabled C s t) f.task_is en))
      by i d en f Ready q = q
      by i d en f (Running v) q = of (status_is f.row.status)
        where
          of : (f.row.status ≡ Over) ⊎ IsItem f.row.status → f.row.status ≡ Ready
          of (inl o) = absurd (f.not_over o)
          of (inr y) = none_some (sym d ∙ f.runs_is y ∙ runs_of f.row.status v y q)
      by i d en f Over q = absurd (f.not_over q)

  pub items_fit : ItemsFit F
  items_fit = record { waits = waits; waiting = waiting; once = x.waits.once; queued = queued; queued_once = x.queue.once }
