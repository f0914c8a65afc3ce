-- Rows whose marks are changed one after the other.
use Rattle.std.proofs.Common.{◌≡◌, ◌∙◌, ℕ, zero, suc, ◌+◌, ◌≤◌, Bool, true, false, ◌||◌, List, [], ◌∷◌, ◌++◌, refl, sym, ap, subst, Some, arith}
use Rattle.std.specs.Prelude.{nat_eq, if◌then◌else◌, IsPermutation}
use Rattle.board_history.proofs.EndedItems.{in_one, one_in}
use Rattle.board_history.proofs.Next.{nat_same, nat_sound}
use Rattle.board_history.proofs.Rows.{no_row}
use Rattle.board_history.proofs.Tests.{choose, yes_no}
use Rattle.board_history.specs.Ending.{is_one, status_after, with_statuses}
use Rattle.board_history.specs.Fields.{Status, Over, Ready, Row, row_of}
use Rattle.board_history.specs.Marking.{with_status}
use Rattle.board_items.proofs.Lists.{in_back, in_moved}

marked_same : (f g : ℕ → Status → Status) (k : ℕ) (rows : List Row) → ((i : ℕ) (m : Status) → k ≤ i → f i m ≡ g i m) → with_statuses f k rows ≡ with_statuses g k rows
marked_same f g k [] h = refl
marked_same f g k (r ∷ rows) h =
    let a = h k r.status (omega arith) in
    let b = marked_same f g (suc k) rows (λ i m l. h i m (omega arith)) in
    λ i. record { job = r.job; status = a i } ∷ b i

marked_not : (k : ℕ) (rows : List Row) → rows ≡ with_statuses (λ i m. m) k rows
marked_not k [] = refl
marked_not k (r ∷ rows) = ap (λ (rs : List Row). r ∷ rs) (marked_not (suc k) rows)

abbrev at_one : (n : ℕ) → Status → (ℕ → Status → Status) → ℕ → Status → Status
at_one n x f i m = if nat_eq i n then x else f i m

at_here : (n : ℕ) (x : Status) (f : ℕ → Status → Status) (i : ℕ) (m : Status) → i ≡ n → at_one n x f i m ≡ x
at_here n x f i m e = choose (λ (y : Status). y ≡ x) (nat_eq i n) x (f i m) (λ t. refl) (λ u. yes_no (subst (λ (k : ℕ). nat_eq i k ≡ true) e (nat_same i)) u)

at_other : (n : ℕ) (x : Status) (f : ℕ → Status → Status) (i : ℕ) (m : Status) → (i ≡ n → ⊥) → at_one n x f i m ≡ f i m
at_other n x f i m d = choose (λ (y : Status). y ≡ f i m) (nat_eq i n) x (f i m) (λ t. absurd (d (nat_sound i n t))) (λ u. refl)

status_one : (f : ℕ → Status → Status) (k : ℕ) (rows : List Row) (j n : ℕ) (x : Status) → n ≡ k + j → with_status (with_statuses f k rows) (suc j) x ≡ with_statuses (at_one n x f) k rows
status_one f k [] j n x e = refl
status_one f k (r ∷ rows) zero n x e =
    let a = sym (at_here n x f k r.status (omega arith)) in
    let b = marked_same f (at_one n x f) (suc k) rows (λ i m l. sym (at_other n x f i m (λ q. absurd (omega arith)))) in
    λ i. record { job = r.job; status = a i } ∷ b i
status_one f k (r ∷ rows) (suc j) n x e =
    let a = sym (at_other n x f k r.status (λ q. absurd (omega arith))) in
    let b = status_one f (suc k) rows j n x (omega arith) in
    λ i. record { job = r.job; status = a i } ∷ b i

is_one_more : (i : ℕ) (ms : List ℕ) (m : ℕ) → is_one i (ms ++ m ∷ []) ≡ (is_one i ms || nat_eq i m)
is_one_more i [] m = by (nat_eq i m)
  where
    by : (b : Bool) → (b || false) ≡ b
    by true = refl
    by false = refl
is_one_more i (k ∷ ms) m = ap (λ (b : Bool). nat_eq i k || b) (is_one_more i ms m) ∙ or_each (nat_eq i k) (is_one i ms) (nat_eq i m)
  where
    or_each : (a b c : Bool) → (a || (b || c)) ≡ ((a || b) || c)
    or_each true b c = refl
    or_each false b c = refl

-- one more is ready
pub ready_more : (n : ℕ) (newly : List ℕ) (m : ℕ) (rows : List Row) (r : Row) → row_of rows m ≡ Some r → (m ≡ n → ⊥) → with_status (with_statuses (status_after n newly) 1 rows) m Ready ≡ with_statuses (status_after n (newly ++ m ∷ [])) 1 rows
ready_more n newly zero rows r h d = no_row rows r h
ready_more n newly (suc j) rows r h d =
    status_one (status_after n newly) 1 rows j (suc j) Ready (omega arith)
    ∙ marked_same (at_one (suc j) Ready (status_after n newly)) (status_after n (newly ++ suc j ∷ [])) 1 rows
    (λ i m l. by i m (nat_eq i (suc j)) (nat_eq i n) refl refl)
  where
    by : (i : ℕ) (m : Status) (a b : Bool) → nat_eq i (suc j) ≡ a → nat_eq i n ≡ b → at_one (suc j) Ready (status_after n newly) i m ≡ status_after n (newly ++ suc j ∷ []) i m
    by i m true true p q = absurd (d (sym (nat_sound i (suc j) p) ∙ nat_sound i n q))
    by i m true false p q =
        let o : is_one i (newly ++ suc j ∷ []) ≡ true = is_one_more i newly (suc j) ∙ ap (λ (x : Bool). is_one i newly || x) p ∙ end (is_one i newly) in
        at_here (suc j) Ready (status_after n newly) i m (nat_sound i (suc j) p)
        ∙ sym (ap (λ (x : Bool). if x then Over else (if is_one i (newly ++ suc j ∷ []) then Ready else m)) q ∙ ap (λ (x : Bool). if x then Ready else m) o)
      where
        end : (x : Bool) → (x || true) ≡ true
        end true = refl
        end false = refl
    by i m false b p q =
        let o : is_one i (newly ++ suc j ∷ []) ≡ is_one i newly = is_one_more i newly (suc j) ∙ ap (λ (x : Bool). is_one i newly || x) p ∙ end (is_one i newly) in
        ap (λ (x : Bool). if x then Ready else status_after n newly i m) p
        ∙ sym (ap (λ (x : Bool). if nat_eq i n then Over else (if x then Ready else m)) o)
      where
        end : (x : Bool) → (x || false) ≡ x
        end true = refl
        end false = refl

-- the item that ended is over
pub over_first : (n : ℕ) (rows : List Row) (r : Row) → row_of rows n ≡ Some r → with_status rows n Over ≡ with_statuses (status_after n []) 1 rows
over_first zero rows r h = no_row rows r h
over_first (suc j) rows r h =
    ap (λ (rs : List Row). with_status rs (suc j) Over) (marked_not 1 rows)
    ∙ status_one (λ i m. m) 1 rows j (suc j) Over (omega arith)

-- the order of those newly enabled does not matter
pub ready_moved : (n : ℕ) (a b : List ℕ) (rows : List Row) → IsPermutation a b → with_statuses (status_after n a) 1 rows ≡ with_statuses (status_after n b) 1 rows
ready_moved n a b rows p =
    marked_same (status_after n a) (status_after n b) 1 rows (λ i m l. ap (λ (x : Bool). if nat_eq i n then Over else (if x then Ready else m)) (same i (is_one i a) (is_one i b) refl refl))
  where
    same : (i : ℕ) (x y : Bool) → is_one i a ≡ x → is_one i b ≡ y → is_one i a ≡ is_one i b
    same i true true e f = e ∙ sym f
    same i false false e f = e ∙ sym f
    same i true false e f = yes_no (in_one i b (in_moved a b i p (one_in i a e))) f
    same i false true e f = yes_no (in_one i a (in_back a b i p (one_in i b f))) e
