-- The rows of items after an End.
use Rattle.std.proofs.Common.{◌≡◌, ◌⊎◌, inl, inr, ℕ, zero, suc, ◌+◌, ◌<◌, ◌≤◌, Bool, true, false, List, [], ◌∷◌, ◌++◌, map, length, refl, sym, ap, ◌∙◌, subst, Option, None, Some, if◌then◌else◌, arith}
use Rattle.std.specs.Prelude.{nat_eq}
use Rattle.dataflow.specs.System.{In}
use Rattle.dataflow.specs.Machine.{new_items}
use Rattle.board_history.specs.Ending.{is_one, status_after, with_statuses, new_row}
use Rattle.board_history.specs.Fields.{Frame, Job, Status, Over, Ready, Row, Running, Waiting, is_running, item_before, items_from, row_of, running_in, task_of}
use Rattle.board_history.proofs.Marking.{IsItem, above, first_of, in_mid, item, item_not_over, later_of, status_is, over_before}
use Rattle.board_history.proofs.Next.{nat_same, nat_sound}
use Rattle.board_history.proofs.Tests.{choose, none_some, yes_no, some_same}
use Rattle.task_code.specs.Effects.{Task}
use Rattle.task_code.specs.Machine.{CodeItem}

no_middle : {B : Type 0} (before after : List CodeItem) (i : CodeItem) → [] ≡ before ++ i ∷ after → B
no_middle [] after i h = absurd (cc)
no_middle (b ∷ before) after i h = absurd (cc)

none_more : (b : Bool) (x : ℕ) → b ≡ false → x ≡ 0 → (if b then 1 else 0) + x ≡ 0
none_more true x h e = yes_no refl h
none_more false x h e = omega arith

one_less : (a b : Bool) (x y : ℕ) → a ≡ false → b ≡ true → x ≡ y → suc ((if a then 1 else 0) + x) ≡ (if b then 1 else 0) + y
one_less true b x y h g e = yes_no refl h
one_less false false x y h g e = yes_no g refl
one_less false true x y h g e = omega arith

-- a status of an item that does not run
abbrev pub is_idle : Status → Bool
is_idle Waiting = true
is_idle Ready = true
is_idle (Running w) = false
is_idle Over = false

idle_item : (m : Status) → is_idle m ≡ true → (k : ℕ) (t : Task) (is : List CodeItem) → item_before k t m is ≡ item k t None ∷ is
idle_item Waiting h k t is = refl
idle_item Ready h k t is = refl
idle_item (Running w) h k t is = yes_no h refl
idle_item Over h k t is = yes_no h refl

idle_stays : (m : Status) → is_idle m ≡ true → is_running m ≡ false
idle_stays Waiting h = refl
idle_stays Ready h = refl
idle_stays (Running w) h = yes_no h refl
idle_stays Over h = refl

pub idle_not_over : (m : Status) → is_idle m ≡ true → m ≡ Over → ⊥
idle_not_over m h o = yes_no h (ap is_idle o)

before_append : (k : ℕ) (t : Task) (m : Status) (xs ys : List CodeItem) → item_before k t m (xs ++ ys) ≡ item_before k t m xs ++ ys
before_append k t Waiting xs ys = refl
before_append k t Ready xs ys = refl
before_append k t (Running w) xs ys = refl
before_append k t Over xs ys = refl

before_in : (k : ℕ) (t : Task) (m : Status) (i : CodeItem) (is : List CodeItem) → In i is → In i (item_before k t m is)
before_in k t Waiting i is h = inr h
before_in k t Ready i is h = inr h
before_in k t (Running w) i is h = inr h
before_in k t Over i is h = h

-- a row is an item
pub row_item : (fs : List (Option Frame)) (k : ℕ) (rows : List Row) (j m : ℕ) (r : Row) → row_of rows (suc j) ≡ Some r → (y : IsItem r.status) → m ≡ k + j → In (item m (task_of fs r.job) y.runs) (items_from fs k rows)
row_item fs k [] j m r h y e = none_some h
row_item fs k (q ∷ rows) zero m r h y e =
    let s : r ≡ q = sym (some_same h) in
    let n : m ≡ k = omega arith in
    subst (λ (z : Row). In (item m (task_of fs r.job) y.runs) (item_before k (task_of fs z.job) z.status (items_from fs (suc k) rows))) s
    (subst (λ (l : List CodeItem). In (item m (task_of fs r.job) y.runs) l) (sym (y.is k (task_of fs r.job) (items_from fs (suc k) rows)))
    (inl (λ i. item (n i) (task_of fs r.job) y.runs)))
row_item fs k (q ∷ rows) (suc j) m r h y e =
    before_in k (task_of fs q.job) q.status (item m (task_of fs r.job) y.runs) (items_from fs (suc k) rows) (row_item fs (suc k) rows j m r h y (omega arith))

pub no_row : {B : Type 0} (rows : List Row) (r : Row) → row_of rows zero ≡ Some r → B
no_row [] r h = none_some h
no_row (q ∷ rows) r h = none_some h

-- a row afterwards, and before
pub row_by : (f : ℕ → Status → Status) (k : ℕ) (rows : List Row) (j m : ℕ) (r : Row) → row_of (with_statuses f k rows) (suc j) ≡ Some r → m ≡ k + j → (q : Row) × (row_of rows (suc j) ≡ Some q) × (r.job ≡ q.job) × (r.status ≡ f m q.status)
row_by f k [] j m r h e = none_some h
row_by f k (q ∷ rows) zero m r h e =
    let s : record { job = q.job; status = f k q.status } ≡ r = some_same h in
    let n : k ≡ m = omega arith in
    (q, refl, ap (λ (y : Row). y.job) (sym s), ap (λ (y : Row). y.status) (sym s) ∙ ap (λ (l : ℕ). f l q.status) n)
row_by f k (q ∷ rows) (suc j) m r h e = row_by f (suc k) rows j m r h (omega arith)

new_waits : (jobs : List Job) (j : ℕ) (q : Row) → row_of (map new_row jobs) (suc j) ≡ Some q → q.status ≡ Waiting
new_waits [] j q h = none_some h
new_waits (b ∷ jobs) zero q h = ap (λ (y : Row). y.status) (sym (some_same h))
new_waits (b ∷ jobs) (suc j) q h = new_waits jobs j q h

-- a row is an old one, or a new one behind them
pub row_split : (rows : List Row) (jobs : List Job) (j : ℕ) (q : Row) → row_of (rows ++ map new_row jobs) (suc j) ≡ Some q → (row_of rows (suc j) ≡ Some q) ⊎ ((q.status ≡ Waiting) × (length rows ≤ j))
row_split [] jobs j q h = inr (new_waits jobs j q h, omega arith)
row_split (r ∷ rows) jobs zero q h = inl h
row_split (r ∷ rows) jobs (suc j) q h = elim (row_split rows jobs j q h) [ inl g ↦ inl g | inr g ↦ (let l = g.1 in inr (g.0, omega arith)) ]

pub rows_length : (f : ℕ → Status → Status) (k : ℕ) (rows : List Row) (jobs : List Job) → length (with_statuses f k (rows ++ map new_row jobs)) ≡ length rows + length jobs
rows_length f k [] [] = refl
rows_length f k [] (b ∷ jobs) = let r = rows_length f (suc k) [] jobs in omega arith
rows_length f k (r ∷ rows) jobs = let h = rows_length f (suc k) rows jobs in omega arith

module _ (fs gs : List (Option Frame)) (n : ℕ) (newly : List ℕ) where
  abbrev f : ℕ → Status → Status
  f = status_after n newly

  -- what is asked of a row: those newly enabled did not run, and its task stays
  pub record Fine (m : ℕ) (r : Row) : Type 0 where
    pub idle : is_one m newly ≡ true → is_idle r.status ≡ true
    pub task : (r.status ≡ Over → ⊥) → (m ≡ n → ⊥) → task_of gs r.job ≡ task_of fs r.job

  abbrev pub AllFine : ℕ → List Row → Type 0
  AllFine k rows = (j m : ℕ) (r : Row) → row_of rows (suc j) ≡ Some r → m ≡ k + j → Fine m r

  kept_item : (k : ℕ) (r : Row) → (k ≡ n → ⊥) → Fine k r → (is : List CodeItem) → item_before k (task_of gs r.job) (f k r.status) is ≡ item_before k (task_of fs r.job) r.status is
  kept_item k r ne x is =
      choose (λ (m : Status). item_before k (task_of gs r.job) m is ≡ item_before k (task_of fs r.job) r.status is) (nat_eq k n) Over (if is_one k newly then Ready else r.status)
      (λ t. absurd (ne (nat_sound k n t)))
      (λ t. choose (λ (m : Status). item_before k (task_of gs r.job) m is ≡ item_before k (task_of fs r.job) r.status is) (is_one k newly) Ready r.status
      (λ u. (let e = x.task (idle_not_over r.status (x.idle u)) ne in ap (λ (z : Task). item k z None ∷ is) e ∙ sym (idle_item r.status (x.idle u) k (task_of fs r.job) is)))
      (λ u. elim (status_is r.status) [
        | inl o ↦ over_before r.status k (task_of gs r.job) is o ∙ sym (over_before r.status k (task_of fs r.job) is o)
        | inr y ↦ ap (λ (z : Task). item_before k z r.status is) (x.task (item_not_over r.status y) ne)
      ]))

  own_item : (k : ℕ) (m : Status) (t : Task) → k ≡ n → (is : List CodeItem) → item_before k t (f k m) is ≡ is
  own_item k m t e is =
      choose (λ (z : Status). item_before k t z is ≡ is) (nat_eq k n) Over (if is_one k newly then Ready else m)
      (λ h. refl)
      (λ h. yes_no (subst (λ (l : ℕ). nat_eq k l ≡ true) e (nat_same k)) h)

  over_item : (k : ℕ) (r : Row) (t : Task) → r.status ≡ Over → Fine k r → (is : List CodeItem) → item_before k t (f k r.status) is ≡ is
  over_item k r t o x is =
      choose (λ (z : Status). item_before k t z is ≡ is) (nat_eq k n) Over (if is_one k newly then Ready else r.status)
      (λ h. refl)
      (λ h. choose (λ (z : Status). item_before k t z is ≡ is) (is_one k newly) Ready r.status
      (λ u. absurd (idle_not_over r.status (x.idle u) o))
      (λ u. over_before r.status k t is o))

  -- rows behind the item's own
  rest_items : (k : ℕ) (rows tail : List Row) (e : ℕ) → e ≡ k + length rows → n < k → AllFine k rows → items_from gs k (with_statuses f k (rows ++ tail)) ≡ items_from fs k rows ++ items_from gs e (with_statuses f e tail)
  rest_items k [] tail e p lt a = let q : k ≡ e = omega arith in λ i. items_from gs (q i) (with_statuses f (q i) tail)
  rest_items k (r ∷ rows) tail e p lt a =
      let ih = rest_items (suc k) rows tail e (omega arith) (omega arith) (λ j m q h s. a (suc j) m q h (omega arith)) in
      kept_item k r (λ q. omega arith) (a 0 k r refl (omega arith)) (items_from gs (suc k) (with_statuses f (suc k) (rows ++ tail)))
      ∙ ap (λ (l : List CodeItem). item_before k (task_of fs r.job) r.status l) ih
      ∙ before_append k (task_of fs r.job) r.status (items_from fs (suc k) rows) (items_from gs e (with_statuses f e tail))

  -- the item is gone, and the others are as they were
  pub ended_items : (k : ℕ) (rows tail : List Row) (e : ℕ) → e ≡ k + length rows → AllFine k rows → (before after : List CodeItem) (i : CodeItem) → items_from fs k rows ≡ before ++ i ∷ after → i.number ≡ n → items_from gs k (with_statuses f k (rows ++ tail)) ≡ (before ++ after) ++ items_from gs e (with_statuses f e tail)
  ended_items k [] tail e p a before after i is num = no_middle before after i is
  ended_items k (r ∷ rows) tail e p a before after i is num =
      by (status_is r.status) before is (λ b s. ended_items (suc k) rows tail e (omega arith) (λ j m q h s. a (suc j) m q h (omega arith)) b after i s num)
    where
      by : (r.status ≡ Over) ⊎ IsItem r.status → (before : List CodeItem) → items_from fs k (r ∷ rows) ≡ before ++ i ∷ after → ((b : List CodeItem) → items_from fs (suc k) rows ≡ b ++ i ∷ after → items_from gs (suc k) (with_statuses f (suc k) (rows ++ tail)) ≡ (b ++ after) ++ items_from gs e (with_statuses f e tail)) → items_from gs k (with_statuses f k ((r ∷ rows) ++ tail)) ≡ (before ++ after) ++ items_from gs e (with_statuses f e tail)
      by (inl o) before is ih =
          over_item k r (task_of gs r.job) o (a 0 k r refl (omega arith)) (items_from gs (suc k) (with_statuses f (suc k) (rows ++ tail)))
          ∙ ih before (sym (over_before r.status k (task_of fs r.job) (items_from fs (suc k) rows) o) ∙ is)
      by (inr y) [] is ih =
          let h = sym (y.is k (task_of fs r.job) (items_from fs (suc k) rows)) ∙ is in
          let own : k ≡ n = ap (λ (z : CodeItem). z.number) (first_of h) ∙ num in
          own_item k r.status (task_of gs r.job) own (items_from gs (suc k) (with_statuses f (suc k) (rows ++ tail)))
          ∙ rest_items (suc k) rows tail e (omega arith) (omega arith) (λ j m q h s. a (suc j) m q h (omega arith))
          ∙ ap (λ (l : List CodeItem). l ++ items_from gs e (with_statuses f e tail)) (later_of h)
      by (inr y) (b ∷ before) is ih =
          let h = sym (y.is k (task_of fs r.job) (items_from fs (suc k) rows)) ∙ is in
          let g = first_of h in
          let l = above fs (suc k) rows i (subst (λ (l : List CodeItem). In i l) (sym (later_of h)) (in_mid i before after)) in
          kept_item k r (λ q. omega arith) (a 0 k r refl (omega arith)) (items_from gs (suc k) (with_statuses f (suc k) (rows ++ tail)))
          ∙ ap (λ (l : List CodeItem). item_before k (task_of fs r.job) r.status l) (ih before (later_of h))
          ∙ y.is k (task_of fs r.job) ((before ++ after) ++ items_from gs e (with_statuses f e tail))
          ∙ (λ z. g z ∷ ((before ++ after) ++ items_from gs e (with_statuses f e tail)))

  -- new rows are new items
  pub opened_items : (k : ℕ) (jobs : List Job) → n < k → items_from gs k (with_statuses f k (map new_row jobs)) ≡ new_items k (map (task_of gs) jobs)
  opened_items k [] lt = refl
  opened_items k (j ∷ jobs) lt =
      let ih = opened_items (suc k) jobs (omega arith) in
      first (items_from gs (suc k) (with_statuses f (suc k) (map new_row jobs))) ∙ ap (λ (l : List CodeItem). item k (task_of gs j) None ∷ l) ih
    where
      first : (is : List CodeItem) → item_before k (task_of gs j) (f k Waiting) is ≡ item k (task_of gs j) None ∷ is
      first is =
          choose (λ (m : Status). item_before k (task_of gs j) m is ≡ item k (task_of gs j) None ∷ is) (nat_eq k n) Over (if is_one k newly then Ready else Waiting)
          (λ h. let e = nat_sound k n h in absurd (omega arith))
          (λ h. choose (λ (m : Status). item_before k (task_of gs j) m is ≡ item k (task_of gs j) None ∷ is) (is_one k newly) Ready Waiting (λ u. refl) (λ u. refl))

  -- how many run
  kept_running : (k : ℕ) (r : Row) → (k ≡ n → ⊥) → Fine k r → is_running (f k r.status) ≡ is_running r.status
  kept_running k r ne x =
      choose (λ (m : Status). is_running m ≡ is_running r.status) (nat_eq k n) Over (if is_one k newly then Ready else r.status)
      (λ h. absurd (ne (nat_sound k n h)))
      (λ h. choose (λ (m : Status). is_running m ≡ is_running r.status) (is_one k newly) Ready r.status (λ u. sym (idle_stays r.status (x.idle u))) (λ u. refl))

  own_running : (k : ℕ) (m : Status) → k ≡ n → is_running (f k m) ≡ false
  own_running k m e =
      choose (λ (z : Status). is_running z ≡ false) (nat_eq k n) Over (if is_one k newly then Ready else m)
      (λ h. refl)
      (λ h. yes_no (subst (λ (l : ℕ). nat_eq k l ≡ true) e (nat_same k)) h)

  new_running : (k : ℕ) (jobs : List Job) → running_in (with_statuses f k (map new_row jobs)) ≡ 0
  new_running k [] = refl
  new_running k (j ∷ jobs) =
      let ih = new_running (suc k) jobs in
      let h : is_running (f k Waiting) ≡ false =
      choose (λ (z : Status). is_running z ≡ false) (nat_eq k n) Over (if is_one k newly then Ready else Waiting) (λ t. refl)
      (λ t. choose (λ (z : Status). is_running z ≡ false) (is_one k newly) Ready Waiting (λ u. refl) (λ u. refl)) in
      none_more (is_running (f k Waiting)) (running_in (with_statuses f (suc k) (map new_row jobs))) h ih

  rest_running : (k : ℕ) (rows : List Row) (jobs : List Job) → n < k → AllFine k rows → running_in (with_statuses f k (rows ++ map new_row jobs)) ≡ running_in rows
  rest_running k [] jobs lt a = new_running k jobs
  rest_running k (r ∷ rows) jobs lt a =
      let ih = rest_running (suc k) rows jobs (omega arith) (λ j m q h s. a (suc j) m q h (omega arith)) in
      let h = kept_running k r (λ q. omega arith) (a 0 k r refl (omega arith)) in
      λ i. (if h i then 1 else 0) + ih i

  pub ended_running : (k : ℕ) (rows : List Row) (jobs : List Job) → AllFine k rows → (j : ℕ) (r : Row) → row_of rows (suc j) ≡ Some r → n ≡ k + j → is_running r.status ≡ true → suc (running_in (with_statuses f k (rows ++ map new_row jobs))) ≡ running_in rows
  ended_running k [] jobs a j r h e run = none_some h
  ended_running k (q ∷ rows) jobs a zero r h e run =
      let ih = rest_running (suc k) rows jobs (omega arith) (λ j m q h s. a (suc j) m q h (omega arith)) in
      let own = own_running k q.status (omega arith) in
      let was : is_running q.status ≡ true = ap (λ (y : Row). is_running y.status) (some_same h) ∙ run in
      one_less (is_running (f k q.status)) (is_running q.status) _ _ own was ih
  ended_running k (q ∷ rows) jobs a (suc j) r h e run =
      let ih = ended_running (suc k) rows jobs (λ j m q h s. a (suc j) m q h (omega arith)) j r h (omega arith) run in
      let same = kept_running k q (λ p. omega arith) (a 0 k q refl (omega arith)) in
      behind (if is_running q.status then 1 else 0) (if is_running (f k q.status) then 1 else 0) _ _ (λ i. if same i then 1 else 0) ih
    where
      behind : (a b c d : ℕ) → b ≡ a → suc c ≡ d → suc (b + c) ≡ a + d
      behind a b c d h g = omega arith
