-- Rows with one status changed.
use Rattle.std.proofs.Common.{◌≡◌, ◌⊎◌, inl, inr, ℕ, zero, suc, ◌+◌, ◌≤◌, true, false, List, [], ◌∷◌, ◌++◌, refl, sym, ap, ◌∙◌, subst, Option, None, Some, if◌then◌else◌, arith}
use Rattle.std.specs.Prelude.{nat_eq}
use Rattle.dataflow.specs.System.{Distinct, In}
use Rattle.board_history.specs.Fields.{Frame, Status, Over, Ready, Row, Running, Script, Waiting, is_of, is_over, is_running, item_before, items_from, row_of, rows_in, running_in, task_of}
use Rattle.board_history.specs.Marking.{with_status, without}
use Rattle.board_history.proofs.Tests.{choose, yes_no, none_some}
use Rattle.task_code.specs.Effects.{Task}
use Rattle.task_code.specs.Machine.{CodeItem}

abbrev pub item : ℕ → Task → Option ℕ → CodeItem
item n t r = record { number = n; task = t; runs = r }

-- a status is over, or its row is an item
pub record IsItem (m : Status) : Type 0 where
  pub runs : Option ℕ
  pub is : (n : ℕ) (t : Task) (is : List CodeItem) → item_before n t m is ≡ item n t runs ∷ is

pub status_is : (m : Status) → (m ≡ Over) ⊎ IsItem m
status_is Waiting = inr (record { runs = None; is = λ n t is. refl })
status_is Ready = inr (record { runs = None; is = λ n t is. refl })
status_is (Running w) = inr (record { runs = Some w; is = λ n t is. refl })
status_is Over = inl refl

pub over_before : (m : Status) (n : ℕ) (t : Task) (is : List CodeItem) → m ≡ Over → item_before n t m is ≡ is
over_before m n t is h = ap (λ (x : Status). item_before n t x is) h

-- an item's row
pub record RowIs (fs : List (Option Frame)) (rows : List Row) (k : ℕ) (i : CodeItem) : Type 0 where
  pub at : ℕ
  pub row : Row
  pub there : row_of rows (suc at) ≡ Some row
  pub not_over : row.status ≡ Over → ⊥
  pub number_is : i.number ≡ k + at
  pub task_is : i.task ≡ task_of fs row.job
  pub runs_is : (x : IsItem row.status) → i.runs ≡ x.runs

pub item_not_over : (m : Status) → IsItem m → m ≡ Over → ⊥
item_not_over m x h =
    let e : item_before 0 (task) m [] ≡ [] = over_before m 0 task [] h in
    no_cons (sym (x.is 0 task []) ∙ e)
  where
    task : Task
    task = task_of [] Script

    no_cons : {i : CodeItem} {is : List CodeItem} → ◌≡◌ {A = List CodeItem} (i ∷ is) [] → ⊥
    no_cons h = absurd (cc)

pub first_of : {i j : CodeItem} {is js : List CodeItem} → ◌≡◌ {A = List CodeItem} (i ∷ is) (j ∷ js) → i ≡ j
first_of h = cc

pub later_of : {i j : CodeItem} {is js : List CodeItem} → ◌≡◌ {A = List CodeItem} (i ∷ is) (j ∷ js) → is ≡ js
later_of h = cc

pub row_found : (fs : List (Option Frame)) (k : ℕ) (rows : List Row) (i : CodeItem) → In i (items_from fs k rows) → RowIs fs rows k i
row_found fs k [] i h = absurd h
row_found fs k (r ∷ rows) i h = by (status_is r.status) (λ g. row_found fs (suc k) rows i g)
  where
    on : RowIs fs rows (suc k) i → RowIs fs (r ∷ rows) k i
    on x = record { at = suc x.at; row = x.row; there = x.there; not_over = x.not_over; number_is = (let e = x.number_is in omega arith); task_is = x.task_is; runs_is = x.runs_is }

    by : (r.status ≡ Over) ⊎ IsItem r.status → (In i (items_from fs (suc k) rows) → RowIs fs rows (suc k) i) → RowIs fs (r ∷ rows) k i
    by (inl o) f = on (f (subst (λ (is : List CodeItem). In i is) (over_before r.status k (task_of fs r.job) (items_from fs (suc k) rows) o) h))
    by (inr x) f =
        elim (subst (λ (is : List CodeItem). In i is) (x.is k (task_of fs r.job) (items_from fs (suc k) rows)) h) [
          | inl p ↦ record {
            at = 0;
            row = r;
            there = refl;
            not_over = item_not_over r.status x;
            number_is = (let e = ap (λ (j : CodeItem). j.number) p in omega arith);
            task_is = ap (λ (j : CodeItem). j.task) p;
            runs_is = λ y. ap (λ (j : CodeItem). j.runs) p ∙ ap (λ (j : CodeItem). j.runs) (first_of (sym (x.is 0 i.task []) ∙ y.is 0 i.task []));
          }
          | inr g ↦ on (f g)
        ]

-- numbers rise
pub above : (fs : List (Option Frame)) (k : ℕ) (rows : List Row) (i : CodeItem) → In i (items_from fs k rows) → k ≤ i.number
above fs k rows i h = let x = row_found fs k rows i h in let e = x.number_is in omega arith

pub in_mid : (i : CodeItem) (xs ys : List CodeItem) → In i (xs ++ i ∷ ys)
in_mid i [] ys = inl refl
in_mid i (x ∷ xs) ys = inr (in_mid i xs ys)

-- the items after a status was changed
pub items_marked : (fs : List (Option Frame)) (k : ℕ) (rows : List Row) (j : ℕ) (r : Row) (m : Status) (y : IsItem m) (before after : List CodeItem) (i : CodeItem) → row_of rows (suc j) ≡ Some r → (r.status ≡ Over → ⊥) → items_from fs k rows ≡ before ++ i ∷ after → i.number ≡ k + j → items_from fs k (with_status rows (suc j) m) ≡ before ++ item i.number i.task y.runs ∷ after
items_marked fs k [] j r m y before after i there live is num = none_some there
items_marked fs k (q ∷ rows) zero r m y before after i there live is num = by (status_is q.status) before is
  where
    same : q ≡ r
    same = let e : ◌≡◌ {A = Option Row} (Some q) (Some r) = there in cc

    by : (q.status ≡ Over) ⊎ IsItem q.status → (before : List CodeItem) → items_from fs k (q ∷ rows) ≡ before ++ i ∷ after → items_from fs k (record { job = q.job; status = m } ∷ rows) ≡ before ++ item i.number i.task y.runs ∷ after
    by (inl o) before is = absurd (live (ap (λ (y : Row). y.status) (sym same) ∙ o))
    by (inr x) [] is =
        let e = sym (x.is k (task_of fs q.job) (items_from fs (suc k) rows)) ∙ is in
        let f = first_of e in
        y.is k (task_of fs q.job) (items_from fs (suc k) rows) ∙ (λ z. item (f z).number (f z).task y.runs ∷ later_of e z)
    by (inr x) (b ∷ before) is =
        let e = later_of (sym (x.is k (task_of fs q.job) (items_from fs (suc k) rows)) ∙ is) in
        let l = above fs (suc k) rows i (subst (λ (l : List CodeItem). In i l) (sym e) (in_mid i before after)) in
        absurd (omega arith)
items_marked fs k (q ∷ rows) (suc j) r m y before after i there live is num =
    by (status_is q.status) before is (λ before is. items_marked fs (suc k) rows j r m y before after i there live is (omega arith))
  where
    by : (q.status ≡ Over) ⊎ IsItem q.status → (before : List CodeItem) → items_from fs k (q ∷ rows) ≡ before ++ i ∷ after → ((before : List CodeItem) → items_from fs (suc k) rows ≡ before ++ i ∷ after → items_from fs (suc k) (with_status rows (suc j) m) ≡ before ++ item i.number i.task y.runs ∷ after) → items_from fs k (q ∷ with_status rows (suc j) m) ≡ before ++ item i.number i.task y.runs ∷ after
    by (inl o) before is ih =
        over_before q.status k (task_of fs q.job) (items_from fs (suc k) (with_status rows (suc j) m)) o
        ∙ ih before (sym (over_before q.status k (task_of fs q.job) (items_from fs (suc k) rows) o) ∙ is)
    by (inr x) [] is ih =
        let e = first_of (sym (x.is k (task_of fs q.job) (items_from fs (suc k) rows)) ∙ is) in
        let n : k ≡ i.number = ap (λ (y : CodeItem). y.number) e in
        absurd (omega arith)
    by (inr x) (b ∷ before) is ih =
        let e = sym (x.is k (task_of fs q.job) (items_from fs (suc k) rows)) ∙ is in
        let f = first_of e in
        let g = ih before (later_of e) in
        x.is k (task_of fs q.job) (items_from fs (suc k) (with_status rows (suc j) m)) ∙ (λ z. f z ∷ g z)

-- a row after a status was changed: the changed one, or another as it was
pub record RowWas (rows : List Row) (n : ℕ) (m : Status) (k : ℕ) (r : Row) : Type 0 where
  pub old : Row
  pub there : row_of rows k ≡ Some old
  pub job_is : r.job ≡ old.job
  pub status_is : ((k ≡ n) × (r.status ≡ m)) ⊎ (r.status ≡ old.status)

pub row_was : (rows : List Row) (n : ℕ) (m : Status) (k : ℕ) (r : Row) → row_of (with_status rows n m) k ≡ Some r → RowWas rows n m k r
row_was [] n m k r h = none_some h
row_was (q ∷ rows) zero m k r h = record { old = r; there = h; job_is = refl; status_is = inr refl }
row_was (q ∷ rows) (suc zero) m zero r h = none_some h
row_was (q ∷ rows) (suc zero) m (suc zero) r h =
    let e : record { job = q.job; status = m } ≡ r = cc in
    record { old = q; there = refl; job_is = sym (ap (λ (y : Row). y.job) e); status_is = inl (refl, sym (ap (λ (y : Row). y.status) e)) }
row_was (q ∷ rows) (suc zero) m (suc (suc k)) r h = record { old = r; there = h; job_is = refl; status_is = inr refl }
row_was (q ∷ rows) (suc (suc n)) m zero r h = none_some h
row_was (q ∷ rows) (suc (suc n)) m (suc zero) r h = record { old = r; there = h; job_is = refl; status_is = inr refl }
row_was (q ∷ rows) (suc (suc n)) m (suc (suc k)) r h =
    let x = row_was rows (suc n) m (suc k) r h in
    record { old = x.old; there = x.there; job_is = x.job_is; status_is = elim x.status_is [ inl p ↦ inl (ap suc p.0, p.1) | inr p ↦ inr p ] }

-- counts of rows
pub live_status : (m : Status) → (m ≡ Over → ⊥) → is_over m ≡ false
live_status Waiting n = refl
live_status Ready n = refl
live_status (Running w) n = refl
live_status Over n = absurd (n refl)

pub rows_marked : (k : ℕ) (rows : List Row) (j : ℕ) (r : Row) (m : Status) → row_of rows (suc j) ≡ Some r → is_over r.status ≡ false → is_over m ≡ false → rows_in k (with_status rows (suc j) m) ≡ rows_in k rows
rows_marked k [] j r m h o l = none_some h
rows_marked k (q ∷ rows) zero r m h o l =
    let e : q ≡ r = (let p : ◌≡◌ {A = Option Row} (Some q) (Some r) = h in cc) in
    let s : is_over m ≡ is_over q.status = l ∙ sym o ∙ ap (λ (y : Row). is_over y.status) (sym e) in
    λ i. (if s i then 0 else (if is_of k q.job then 1 else 0)) + rows_in k rows
rows_marked k (q ∷ rows) (suc j) r m h o l =
    ap (λ (n : ℕ). (if is_over q.status then 0 else (if is_of k q.job then 1 else 0)) + n) (rows_marked k rows j r m h o l)

pub running_marked : (rows : List Row) (j : ℕ) (r : Row) (m : Status) → row_of rows (suc j) ≡ Some r → running_in (with_status rows (suc j) m) + (if is_running r.status then 1 else 0) ≡ running_in rows + (if is_running m then 1 else 0)
running_marked [] j r m h = none_some h
running_marked (q ∷ rows) zero r m h =
    let e : r ≡ q = (let p : ◌≡◌ {A = Option Row} (Some q) (Some r) = h in cc) in
    let f : (if is_running r.status then 1 else 0) ≡ (if is_running q.status then 1 else 0) = λ i. (if is_running (e i).status then 1 else 0) in
    swap (if is_running m then 1 else 0) (running_in rows) _ _ f
  where
    swap : (a b c d : ℕ) → c ≡ d → (a + b) + c ≡ (d + b) + a
    swap a b c d h = omega arith
running_marked (q ∷ rows) (suc j) r m h =
    let x = running_marked rows j r m h in
    behind (if is_running q.status then 1 else 0) (running_in (with_status rows (suc j) m)) (if is_running r.status then 1 else 0) (running_in rows) (if is_running m then 1 else 0) x
  where
    behind : (z a b c d : ℕ) → a + b ≡ c + d → (z + a) + b ≡ (z + c) + d
    behind z a b c d h = omega arith

-- lists without a number
pub in_without : (n m : ℕ) (ms : List ℕ) → In m (without n ms) → In m ms × (n ≡ m → ⊥)
in_without n m [] = λ h. absurd h
in_without n m (k ∷ ms) =
    choose (λ (l : List ℕ). In m l → In m (k ∷ ms) × (n ≡ m → ⊥)) (nat_eq n k) (without n ms) (k ∷ without n ms)
    (λ t h. let r = in_without n m ms h in (inr r.0, r.1))
    (λ t h. elim h [ inl p ↦ (inl p, λ e. yes_no (test n k (e ∙ p)) t) | inr i ↦ (let r = in_without n m ms i in (inr r.0, r.1)) ])
  where
    test : (a b : ℕ) → a ≡ b → nat_eq a b ≡ true
    test a b h = grind arith

pub without_in : (n m : ℕ) (ms : List ℕ) → In m ms → (n ≡ m → ⊥) → In m (without n ms)
without_in n m [] h d = h
without_in n m (k ∷ ms) h d =
    choose (λ (l : List ℕ). In m l) (nat_eq n k) (without n ms) (k ∷ without n ms)
    (λ t. elim h [ inl p ↦ absurd (d (sound n k t ∙ sym p)) | inr i ↦ without_in n m ms i d ])
    (λ t. elim h [ inl p ↦ inl p | inr i ↦ inr (without_in n m ms i d) ])
  where
    sound : (a b : ℕ) → nat_eq a b ≡ true → a ≡ b
    sound a b h = grind arith

pub distinct_without : (n : ℕ) (ms : List ℕ) → Distinct ms → Distinct (without n ms)
distinct_without n [] d = tt
distinct_without n (k ∷ ms) d =
    choose (λ (l : List ℕ). Distinct l) (nat_eq n k) (without n ms) (k ∷ without n ms)
    (λ t. distinct_without n ms d.1)
    (λ t. ((λ h. d.0 (in_without n k ms h).0), distinct_without n ms d.1))
