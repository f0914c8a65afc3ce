-- Items that are settled, told by their rows.
use Rattle.std.proofs.Common.{◌≡◌, ◌∙◌, ℕ, ◌+◌, ◌-◌, ◌<◌, List, length, sym, ap, subst, arith, Option, Some}
use Rattle.std.specs.Prelude.{ℤ, slice_index_or}
use Rattle.board_instances.proofs.Rows.{row_there}
use Rattle.board_instances.specs.View.{job_view, row_view, rows_view}
use Rattle.board_instances.specs.declared.item.ItemRecord.{ItemRecord}
use Rattle.board_instances.specs.declared.item.ItemTask.{ItemTask as AJob}
use Rattle.board_history.specs.Ending.{job_kind, job_priority}
use Rattle.board_history.specs.Fields.{Frame, Job, Row, Want, row_of}
use Rattle.board_history.proofs.Tests.{some_same}
use Rattle.task_code.specs.Code.{Code}
use Rattle.work_queue.specs.declared.entry.Kind.{Kind}
use Rattle.board_items.specs.Ended.{IsSeen}
use Rattle.board_items.specs.Settled.{Settles}
use Rattle.board_items.specs.declared.items.Items.{Items}

-- the job of a row
pub job_found : (xs ys : List ItemRecord) (n : ℕ) (i : ItemRecord) (j : AJob) (r : Row) → job_view j ≡ (row_view i).job → ◌≡◌ {A = Option Row} (Some (row_view i)) (row_of (rows_view ys) n) → ys ≡ xs → row_of (rows_view xs) n ≡ Some r → job_view j ≡ r.job
job_found xs ys n i j r same e q h = same ∙ ap (λ (x : Row). x.job) (some_same (e ∙ ap (λ (l : List ItemRecord). row_of (rows_view l) n) q ∙ h))

pub job_placed : (xs : List ItemRecord) (place : ℕ) (i : ItemRecord) (j : AJob) (r : Row) → job_view j ≡ (row_view i).job → place < length xs → i ≡ slice_index_or xs place i → row_of (rows_view xs) (place + 1) ≡ Some r → job_view j ≡ r.job
job_placed xs place i j r same l e h =
    let a = row_there xs (place + 1) i (omega arith) (omega arith) in
    let b : (place + 1) - 1 ≡ place = omega arith in
    same ∙ ap (λ (x : Row). x.job) (some_same (ap (λ (x : ItemRecord). Some (row_view x)) e ∙ ap (λ (k : ℕ). Some (row_view (slice_index_or xs k i))) (sym b) ∙ sym a ∙ h))

-- an item that misses this is settled
pub settles_by : (C : Code) (fs : List (Option Frame)) (f : Job → List (Want ℕ)) (n : ℕ) (old new : Items) (j j' : Job) (k : Kind) (p : ℤ) (ms : List (Want ℕ)) → j ≡ j' → IsSeen C fs j' → (IsSeen C fs j → ms ≡ f j) → k ≡ job_kind C j → p ≡ job_priority C j → Settles n ms k p old new → Settles n (f j') (job_kind C j') (job_priority C j') old new
settles_by C fs f n old new j j' k p ms e seen is a b s =
    let m = is (subst (λ (x : Job). IsSeen C fs x) (sym e) seen) in
    subst (λ (x : Job). Settles n (f x) (job_kind C x) (job_priority C x) old new) e
    (subst (λ (x : List (Want ℕ)). Settles n x (job_kind C j) (job_priority C j) old new) m
    (subst (λ (x : Kind). Settles n ms x (job_priority C j) old new) a
    (subst (λ (x : ℤ). Settles n ms k x old new) b s)))
