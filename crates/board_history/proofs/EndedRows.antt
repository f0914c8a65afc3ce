-- How many rows of each instance are left after an End.
use Rattle.std.proofs.Common.{◌≡◌, ◌⊎◌, inl, inr, ℕ, zero, suc, ◌+◌, ◌*◌, ◌<◌, true, false, List, [], ◌∷◌, ◌++◌, map, length, refl, sym, ap, ◌∙◌, subst, None, Some, if◌then◌else◌, arith}
use Rattle.std.specs.Prelude.{◌-◌, nat_eq}
use Rattle.dataflow.specs.Machine.{Item as MachineItem, new_items}
use Rattle.dataflow.specs.System.{Distinct, In, Opening}
use Rattle.dataflow.proofs.Lists.{in_map}
use Rattle.board_history.specs.Ending.{Instance, home, is_home, is_one, made_jobs, status_after, with_statuses, new_row, rest_jobs}
use Rattle.board_history.specs.Fields.{Does, Job, Status, Over, Ready, Row, Script, Waiting, is_of, is_over, row_of, rows_in}
use Rattle.board_history.proofs.Frames.{one_if}
use Rattle.board_history.proofs.Next.{nat_same, nat_sound}
use Rattle.board_history.proofs.Tests.{choose, none_some, yes_no, some_same}
use Rattle.task_code.specs.Code.{Code, body}
use Rattle.task_code.specs.Effects.{Task}
use Rattle.task_code.specs.Places.{Place}

abbrev pub jobs_in : ℕ → List Job → ℕ
jobs_in k [] = 0
jobs_in k (j ∷ js) = one_if (is_of k j) + jobs_in k js

module _ (n : ℕ) (newly : List ℕ) where
  abbrev f : ℕ → Status → Status
  f = status_after n newly

  -- those newly enabled are not over
  abbrev pub AllLive : ℕ → List Row → Type 0
  AllLive e rows = (j m : ℕ) (r : Row) → row_of rows (suc j) ≡ Some r → m ≡ e + j → is_one m newly ≡ true → is_over r.status ≡ false

  pub kept_over : (k : ℕ) (m : Status) → (k ≡ n → ⊥) → (is_one k newly ≡ true → is_over m ≡ false) → is_over (f k m) ≡ is_over m
  kept_over k m ne x =
      choose (λ (z : Status). is_over z ≡ is_over m) (nat_eq k n) Over (if is_one k newly then Ready else m)
      (λ h. absurd (ne (nat_sound k n h)))
      (λ h. choose (λ (z : Status). is_over z ≡ is_over m) (is_one k newly) Ready m (λ u. sym (x u)) (λ u. refl))

  own_over : (k : ℕ) (m : Status) → k ≡ n → is_over (f k m) ≡ true
  own_over k m e =
      choose (λ (z : Status). is_over z ≡ true) (nat_eq k n) Over (if is_one k newly then Ready else m)
      (λ h. refl)
      (λ h. yes_no (subst (λ (l : ℕ). nat_eq k l ≡ true) e (nat_same k)) h)

  new_in : (k e : ℕ) (jobs : List Job) → n < e → rows_in k (with_statuses f e (map new_row jobs)) ≡ jobs_in k jobs
  new_in k e [] lt = refl
  new_in k e (j ∷ jobs) lt =
      let ih = new_in k (suc e) jobs (omega arith) in
      let h : is_over (f e Waiting) ≡ false = kept_over e Waiting (λ p. omega arith) (λ u. refl) in
      λ i. (if h i then 0 else one_if (is_of k j)) + ih i

  rest_in : (k e : ℕ) (rows : List Row) (jobs : List Job) → n < e → AllLive e rows → rows_in k (with_statuses f e (rows ++ map new_row jobs)) ≡ rows_in k rows + jobs_in k jobs
  rest_in k e [] jobs lt a = let r = new_in k e jobs lt in omega arith
  rest_in k e (r ∷ rows) jobs lt a =
      let ih = rest_in k (suc e) rows jobs (omega arith) (λ j m q h s. a (suc j) m q h (omega arith)) in
      let h = kept_over e r.status (λ q. omega arith) (a 0 e r refl (omega arith)) in
      behind (if is_over (f e r.status) then 0 else one_if (is_of k r.job)) (if is_over r.status then 0 else one_if (is_of k r.job)) _ _ _ (λ i. if h i then 0 else one_if (is_of k r.job)) ih
    where
      behind : (a b c d e : ℕ) → a ≡ b → c ≡ d + e → a + c ≡ (b + d) + e
      behind a b c d e h g = omega arith

  -- the item's own instance has one less, and each has its new ones
  pub ended_in : (k e : ℕ) (rows : List Row) (jobs : List Job) → AllLive e rows → (j : ℕ) (r : Row) → row_of rows (suc j) ≡ Some r → n ≡ e + j → is_over r.status ≡ false → rows_in k (with_statuses f e (rows ++ map new_row jobs)) + one_if (is_of k r.job) ≡ rows_in k rows + jobs_in k jobs
  ended_in k e [] jobs a j r h q o = none_some h
  ended_in k e (y ∷ rows) jobs a zero r h q o =
      let ih = rest_in k (suc e) rows jobs (omega arith) (λ j m q h s. a (suc j) m q h (omega arith)) in
      let own = own_over e y.status (omega arith) in
      let same : y ≡ r = some_same h in
      let was : is_over y.status ≡ false = ap (λ (z : Row). is_over z.status) same ∙ o in
      let job : one_if (is_of k y.job) ≡ one_if (is_of k r.job) = ap (λ (z : Row). one_if (is_of k z.job)) same in
      gone (if is_over (f e y.status) then 0 else one_if (is_of k y.job)) (if is_over y.status then 0 else one_if (is_of k y.job)) (one_if (is_of k y.job)) (one_if (is_of k r.job)) _ _ _ (λ i. if own i then 0 else one_if (is_of k y.job)) (λ i. if was i then 0 else one_if (is_of k y.job)) job ih
    where
      gone : (a b p q c d e : ℕ) → a ≡ 0 → b ≡ p → p ≡ q → c ≡ d + e → (a + c) + q ≡ (b + d) + e
      gone a b p q c d e x y z h = omega arith
  ended_in k e (y ∷ rows) jobs a (suc j) r h q o =
      let ih = ended_in k (suc e) rows jobs (λ j m q h s. a (suc j) m q h (omega arith)) j r h (omega arith) o in
      let same = kept_over e y.status (λ p. omega arith) (a 0 e y refl (omega arith)) in
      behind (if is_over (f e y.status) then 0 else one_if (is_of k y.job)) (if is_over y.status then 0 else one_if (is_of k y.job)) _ _ _ _ (λ i. if same i then 0 else one_if (is_of k y.job)) ih
    where
      behind : (a b c p d e : ℕ) → a ≡ b → c + p ≡ d + e → (a + c) + p ≡ (b + d) + e
      behind a b c p d e h g = omega arith

pub jobs_append : (k : ℕ) (xs ys : List Job) → jobs_in k (xs ++ ys) ≡ jobs_in k xs + jobs_in k ys
jobs_append k [] ys = omega arith
jobs_append k (x ∷ xs) ys = let r = jobs_append k xs ys in omega arith

block_jobs : (k j : ℕ) (es : List ℕ) → jobs_in k (map (λ e. Does j e 0) es) ≡ length es * one_if (nat_eq j k)
block_jobs k j [] = omega arith
block_jobs k j (e ∷ es) = let r = block_jobs k j es in one (length es) (one_if (nat_eq j k)) _ r
  where
    one : (n m x : ℕ) → x ≡ n * m → m + x ≡ suc n * m
    one n m x h = grind arith

apart_test : (a b : ℕ) → (a ≡ b → ⊥) → one_if (nat_eq a b) ≡ 0
apart_test a b ne = choose (λ (z : ℕ). z ≡ 0) (nat_eq a b) 1 0 (λ t. absurd (ne (nat_sound a b t))) (λ t. refl)

same_test : (a b : ℕ) → a ≡ b → one_if (nat_eq a b) ≡ 1
same_test a b e = ap one_if (subst (λ (l : ℕ). nat_eq a l ≡ true) e (nat_same a))

times_zero : (n m : ℕ) → m ≡ 0 → n * m ≡ 0
times_zero n m h = grind arith

times_one : (n m : ℕ) → m ≡ 1 → n * m ≡ n
times_one n m h = grind arith

pub rest_in_home : (C : Code) (k : ℕ) (j : Job) (os : List (Opening Task Place)) → jobs_in k (rest_jobs j os) ≡ length os * one_if (is_home (home j) k)
rest_in_home C k Script os = (let z : (n : ℕ) → 0 ≡ n * 0 = λ n. omega arith in z (length os))
rest_in_home C k (Does i e c) [] = omega arith
rest_in_home C k (Does i e c) (o ∷ os) = let r = rest_in_home C k (Does i e c) os in one (length os) (one_if (nat_eq i k)) _ r
  where
    one : (n m x : ℕ) → x ≡ n * m → m + x ≡ suc n * m
    one n m x h = grind arith

module _ (C : Code) where
  pub made_none : (k : ℕ) (made : List Instance) → ((m : Instance) → In m made → m.key ≡ k → ⊥) → jobs_in k (made_jobs C made) ≡ 0
  made_none k [] ne = refl
  made_none k (m ∷ ms) ne =
      let a = jobs_append k (map (λ e. Does m.key e 0) (body C m.body).entries) (made_jobs C ms) in
      let b = block_jobs k m.key (body C m.body).entries in
      let c = times_zero (length (body C m.body).entries) (one_if (nat_eq m.key k)) (apart_test m.key k (ne m (inl refl))) in
      let r = made_none k ms (λ l i. ne l (inr i)) in
      omega arith

  -- each new instance has its items
  pub made_own : (made : List Instance) → Distinct (map (λ (m : Instance). m.key) made) → (m : Instance) → In m made → jobs_in m.key (made_jobs C made) ≡ length (body C m.body).entries
  made_own [] d m i = absurd i
  made_own (l ∷ ms) d m i =
      let a = jobs_append m.key (map (λ e. Does l.key e 0) (body C l.body).entries) (made_jobs C ms) in
      let b = block_jobs m.key l.key (body C l.body).entries in
      elim i [
        | inl p ↦ (let c = times_one (length (body C l.body).entries) (one_if (nat_eq l.key m.key)) (same_test l.key m.key (ap (λ (z : Instance). z.key) (sym p))) in
            let r = made_none m.key ms (λ z j e. d.0 (subst (λ (y : ℕ). In y (map (λ (m : Instance). m.key) ms)) (e ∙ ap (λ (z : Instance). z.key) p) (in_map (λ (m : Instance). m.key) z ms j))) in
            let q : length (body C l.body).entries ≡ length (body C m.body).entries = ap (λ (z : Instance). length (body C z.body).entries) (sym p) in
            omega arith)
        | inr j ↦ (let c = times_zero (length (body C l.body).entries) (one_if (nat_eq l.key m.key)) (apart_test l.key m.key (λ e. d.0 (subst (λ (y : ℕ). In y (map (λ (m : Instance). m.key) ms)) (sym e) (in_map (λ (m : Instance). m.key) m ms j)))) in
            let r = made_own ms d.1 m j in
            omega arith)
      ]

-- rows of an instance
pub rows_some : (k : ℕ) (rows : List Row) (j : ℕ) (r : Row) → row_of rows (suc j) ≡ Some r → is_over r.status ≡ false → is_of k r.job ≡ true → 0 < rows_in k rows
rows_some k [] j r h o i = none_some h
rows_some k (y ∷ rows) zero r h o i =
    let same : y ≡ r = some_same h in
    let a : is_over y.status ≡ false = ap (λ (z : Row). is_over z.status) same ∙ o in
    let b : is_of k y.job ≡ true = ap (λ (z : Row). is_of k z.job) same ∙ i in
    let c : (if is_over y.status then 0 else one_if (is_of k y.job)) ≡ 1 = (λ q. if a q then 0 else one_if (b q)) in
    omega arith
rows_some k (y ∷ rows) (suc j) r h o i = let q = rows_some k rows j r h o i in omega arith

pub rows_zero : (k : ℕ) (rows : List Row) → ((j : ℕ) (r : Row) → row_of rows (suc j) ≡ Some r → is_over r.status ≡ false → is_of k r.job ≡ true → ⊥) → rows_in k rows ≡ 0
rows_zero k [] n = refl
rows_zero k (y ∷ rows) n =
    let r = rows_zero k rows (λ j q h. n (suc j) q h) in
    let c : (if is_over y.status then 0 else one_if (is_of k y.job)) ≡ 0 =
    choose (λ (z : ℕ). z ≡ 0) (is_over y.status) 0 (one_if (is_of k y.job)) (λ t. refl)
    (λ t. choose (λ (z : ℕ). z ≡ 0) (is_of k y.job) 1 0 (λ u. absurd (n 0 y refl t u)) (λ u. refl)) in
    omega arith

-- a row that was there keeps its place
pub row_kept : (rows more : List Row) (m : ℕ) (r : Row) → row_of rows m ≡ Some r → row_of (rows ++ more) m ≡ Some r
row_kept [] more m r h = none_some h
row_kept (y ∷ rows) more zero r h = none_some h
row_kept (y ∷ rows) more (suc zero) r h = h
row_kept (y ∷ rows) more (suc (suc m)) r h = row_kept rows more (suc m) r h

-- a job's instance
pub of_is : (k : ℕ) (j : Job) → is_of k j ≡ true → (e : ℕ) × (c : ℕ) × (j ≡ Does k e c)
of_is k Script h = yes_no h refl
of_is k (Does i e c) h = (e, c, ap (λ (l : ℕ). Does l e c) (nat_sound i k h))

pub of_home : (k : ℕ) (j : Job) → is_of k j ≡ is_home (home j) k
of_home k Script = refl
of_home k (Does i e c) = refl

-- the row of a new job
pub new_job : (rows : List Row) (jobs : List Job) (j : ℕ) (r : Row) → row_of (rows ++ map new_row jobs) (suc j) ≡ Some r → (row_of rows (suc j) ≡ Some r) ⊎ (In r.job jobs × (r.status ≡ Waiting) × (length rows < suc j))
new_job [] [] j r h = none_some h
new_job [] (b ∷ jobs) zero r h = let e = some_same h in inr (inl (ap (λ (y : Row). y.job) (sym e)), ap (λ (y : Row). y.status) (sym e), omega arith)
new_job [] (b ∷ jobs) (suc j) r h =
    elim (new_job [] jobs j r h) [
      | inl g ↦ none_some g
      | inr g ↦ (let l = g.2 in inr (inr g.0, g.1, omega arith))
    ]
new_job (y ∷ rows) jobs zero r h = inl h
new_job (y ∷ rows) jobs (suc j) r h =
    elim (new_job rows jobs j r h) [
      | inl g ↦ inl g
      | inr g ↦ (let l = g.2 in inr (g.0, g.1, omega arith))
    ]

pub job_row : (rows : List Row) (jobs : List Job) (b : Job) → In b jobs → (j : ℕ) × (row_of (rows ++ map new_row jobs) (suc j) ≡ Some (new_row b)) × (length rows < suc j)
job_row [] [] b h = absurd h
job_row [] (c ∷ jobs) b h =
    elim h [
      | inl p ↦ (0, ap (λ (x : Job). Some (new_row x)) (sym p), omega arith)
      | inr g ↦ (let r = job_row [] jobs b g in let l = r.2 in (suc r.0, r.1, omega arith))
    ]
job_row (y ∷ rows) jobs b h = let r = job_row rows jobs b h in let l = r.2 in (suc r.0, r.1, omega arith)

pub row_to : (f : ℕ → Status → Status) (k : ℕ) (rows : List Row) (j m : ℕ) (q : Row) → row_of rows (suc j) ≡ Some q → m ≡ k + j → row_of (with_statuses f k rows) (suc j) ≡ Some (record { job = q.job; status = f m q.status })
row_to f k [] j m q h e = none_some h
row_to f k (y ∷ rows) zero m q h e =
    let s : y ≡ q = some_same h in
    let l : k ≡ m = omega arith in
    λ i. Some (record { job = (s i).job; status = f (l i) (s i).status })
row_to f k (y ∷ rows) (suc j) m q h e = row_to f (suc k) rows j m q h (omega arith)

-- a row behind others
row_behind : (rows ys : List Row) (j m : ℕ) → m ≡ length rows + suc j → row_of (rows ++ ys) m ≡ row_of ys (suc j)
row_behind [] ys j m e = let q : m ≡ suc j = omega arith in ap (row_of ys) q
row_behind (x ∷ rows) ys j zero e = absurd (omega arith)
row_behind (x ∷ rows) ys j (suc zero) e = absurd (omega arith)
row_behind (x ∷ rows) ys j (suc (suc m)) e = row_behind rows ys j (suc m) (omega arith)

-- a new item and its row
pub record NewItem {T : Type 0} (f : Job → T) (k : ℕ) (jobs : List Job) (i : MachineItem T) : Type 0 where
  pub at : ℕ
  pub job : Job
  pub there : row_of (map new_row jobs) (suc at) ≡ Some (new_row job)
  pub number_is : i.number ≡ k + at
  pub task_is : i.task ≡ f job
  pub job_in : In job jobs
  pub idle : i.runs ≡ None

pub new_item_at : {T : Type 0} (f : Job → T) (k : ℕ) (jobs : List Job) (i : MachineItem T) → In i (new_items k (map f jobs)) → NewItem f k jobs i
new_item_at f k [] i h = absurd h
new_item_at {T} f k (b ∷ jobs) i h =
    elim h [
      | inl p ↦ record { at = 0; job = b; there = refl; number_is = (let e = ap (λ (x : MachineItem T). x.number) p in omega arith); task_is = ap (λ (x : MachineItem T). x.task) p; job_in = inl refl; idle = ap (λ (x : MachineItem T). x.runs) p }
      | inr g ↦ (let r = new_item_at f (suc k) jobs i g in record { at = suc r.at; job = r.job; there = r.there; number_is = (let e = r.number_is in omega arith); task_is = r.task_is; job_in = inr r.job_in; idle = r.idle })
    ]

pub new_at_item : {T : Type 0} (f : Job → T) (k : ℕ) (jobs : List Job) (j m : ℕ) (r : Row) → row_of (map new_row jobs) (suc j) ≡ Some r → m ≡ k + j → In (record { number = m; task = f r.job; runs = None }) (new_items k (map f jobs)) × In r.job jobs
new_at_item f k [] j m r h e = none_some h
new_at_item {T} f k (b ∷ jobs) zero m r h e =
    let s : new_row b ≡ r = some_same h in
    let n : m ≡ k = omega arith in
    (inl (λ i. record { number = n i; task = f (sym s i).job; runs = None }), inl (ap (λ (y : Row). y.job) (sym s)))
new_at_item f k (b ∷ jobs) (suc j) m r h e = let g = new_at_item f (suc k) jobs j m r h (omega arith) in (inr g.0, inr g.1)

pub row_of_new : (rows : List Row) (jobs : List Job) (j : ℕ) → row_of (rows ++ map new_row jobs) (length rows + suc j) ≡ row_of (map new_row jobs) (suc j)
row_of_new rows jobs j = row_behind rows (map new_row jobs) j (length rows + suc j) refl

-- a row with a number above is a new one
pub row_split_at : (rows : List Row) (jobs : List Job) (m : ℕ) (r : Row) → length rows < m → row_of (rows ++ map new_row jobs) m ≡ Some r → (j : ℕ) × (m ≡ length rows + suc j) × (row_of (map new_row jobs) (suc j) ≡ Some r)
row_split_at rows jobs m r lt h = at (m - suc (length rows)) (omega arith)
  where
    at : (j : ℕ) → m ≡ length rows + suc j → (j : ℕ) × (m ≡ length rows + suc j) × (row_of (map new_row jobs) (suc j) ≡ Some r)
    at j e = (j, e, sym (row_behind rows (map new_row jobs) j m e) ∙ h)
