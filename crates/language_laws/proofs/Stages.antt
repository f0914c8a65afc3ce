-- Finitely many things: what holds of each at some stage holds of all at one, where stages can be joined. So of lists, of numbers below a bound, of
-- the blocks that a ready header opens.
use Rattle.std.specs.Prelude.{◌≡◌, ◌⊎◌, ℕ, zero, suc, ◌<◌, true, false, pos, List, [], ◌∷◌, length, slice_get, Option, Some, None, Result, Ok, refl}
use Rattle.std.proofs.Common.{inl, inr, sym, ap, ◌∙◌, subst, arith}
use Rattle.values.specs.declared.fault.OpFault.{OpFault}
use Rattle.values.specs.declared.key.Key.{Key}
use Rattle.values.specs.declared.map.Element.{Element}
use Rattle.values.specs.declared.value.Scalar.TheVariants.{Truth}
use Rattle.values.specs.declared.value.Value.{Value}
use Rattle.values.specs.declared.value.Value.TheVariants.{One, Many}
use Rattle.values.specs.Maps.{element as entry}
use Rattle.values.specs.Ranges.{range_count}
use Rattle.language.specs.Core.{Owned, output, Name, Outer, Awaited, Stmt, Action, when, choose, range, each, wait, Block, Core}
use Rattle.language.specs.Facts.{Knowledge}
use Rattle.language.specs.Meaning.{Ready, cells_known, source_closed, names_known}
use Rattle.language.specs.Members.{◌∈◌, first, later}
use Rattle.language.specs.Openings.{Bounds, bounds, one_way, two_ways, in_turns, Opens, then_alone, then_first, else_second, turn, item}
use Rattle.language.specs.Parts.{block_list}
use Rattle.language.specs.Places.{Path}
use Rattle.language.proofs.Members.{split_in}
use Rattle.language_laws.proofs.OneAssign.{found_below}
use Rattle.language_laws.proofs.Ways.{owned_is}

bounds_same : {r q : Bounds} → ◌≡◌ {A = Option Bounds} (Some r) (Some q) → r ≡ q
bounds_same h = cc

count_same : {n m : ℕ} → ◌≡◌ {A = Result ℕ OpFault} (Ok n) (Ok m) → n ≡ m
count_same h = cc

only_then : {c : Outer} {b d : Block} {k : Key} (P : Key → Block → Type 0) → Opens (when c b) (One (Truth true) ∷ []) k d → P (Key.Number (pos 0)) b → P k d
only_then P then_alone x = x

no_then : {c : Outer} {b d : Block} {k : Key} {A : Type 0} → Opens (when c b) (One (Truth false) ∷ []) k d → A
no_then o = elim o [ ]

first_branch : {c : Outer} {b e d : Block} {k : Key} (P : Key → Block → Type 0) → Opens (choose c b e) (One (Truth true) ∷ []) k d → P (Key.Number (pos 0)) b → P k d
first_branch P then_first x = x

second_branch : {c : Outer} {b e d : Block} {k : Key} (P : Key → Block → Type 0) → Opens (choose c b e) (One (Truth false) ∷ []) k d → P (Key.Number (pos 1)) e → P k d
second_branch P else_second x = x

each_turn : {lo hi : Outer} {st : Option Outer} {x : ℕ} {t : Option ℕ} {b d : Block} {vs : List Value} {r : Bounds} {n : ℕ} {k : Key} (P : Key → Block → Type 0) → bounds vs ≡ Some r → range_count r.low r.high r.step ≡ Ok n
    → Opens (range lo hi st x t b) vs k d → ((i : ℕ) → i < n → P (Key.Number (pos i)) b) → P k d
each_turn {r = r} {n = n} P e q (turn {r = r'} {n = n'} {i = i} e' q' l) f =
    let same : r' ≡ r = bounds_same (sym e' ∙ e) in
    let count : n' ≡ n = count_same (sym q' ∙ ap (λ (z : Bounds). range_count z.low z.high z.step) same ∙ q) in
    f i (subst (λ (m : ℕ). i < m) count l)

each_item : {a : Name} {x : ℕ} {t : Option ℕ} {b d : Block} {es : List Element} {k : Key} (P : Key → Block → Type 0) → Opens (each a x t b) (Many es ∷ []) k d → ((e : Element) → e ∈ es → P e.key b) → P k d
each_item P (item {k = k} {v = v} m) f = f (entry k v) m

no_content : {ns : List Awaited} {b d : Block} {vs : List Value} {k : Key} {A : Type 0} → Opens (wait ns b) vs k d → A
no_content o = elim o [ ]

below_next : (i n : ℕ) → i < suc n → (i < n) ⊎ (i ≡ n)
below_next i n h = grind arith

-- stages: one comes within another, and two are within their join
module _ (T : Type 0) (start : T) (join : T → T → T) (Within : T → T → Type 0) (left : (n m : T) → Within n (join n m)) (right : (n m : T) → Within m (join n m)) where
  -- what goes on holding
  abbrev IsKept : (T → Type 0) → Type 0
  IsKept P = (n m : T) → Within n m → P n → P m

  -- what holds of each member after some round holds of all after one
  pub bound_list : {X : Type 0} (P : T → X → Type 0) → ((x : X) → IsKept (λ n. P n x)) → (xs : List X) → ((x : X) → x ∈ xs → (n : T) × P n x) → (n : T) × ((x : X) → x ∈ xs → P n x)
  bound_list P keeps [] f = (start, λ x m. elim m [ ])
  bound_list P keeps (x ∷ xs) f =
      let r = f x first in
      let q = bound_list P keeps xs (λ y m. f y (later m)) in
      let n = join r.0 q.0 in (
        n,
        λ y m. elim (split_in m) [
          | inl e ↦ subst (λ (z : _). P n z) (sym e) (keeps x r.0 n (left r.0 q.0) r.1)
          | inr k ↦ keeps y q.0 n (right r.0 q.0) (q.1 y k)
        ],
      )

  -- what holds below a number of each after some round holds of all after one
  bound_below : (P : T → ℕ → Type 0) → ((i : ℕ) → IsKept (λ n. P n i)) → (k : ℕ) → ((i : ℕ) → i < k → (n : T) × P n i) → (n : T) × ((i : ℕ) → i < k → P n i)
  bound_below P keeps zero f = (start, λ i h. absurd (omega arith))
  bound_below P keeps (suc k) f =
      let r = f k (omega arith) in
      let q = bound_below P keeps k (λ i h. f i (omega arith)) in
      let n = join r.0 q.0 in (
        n,
        λ i h. elim (below_next i k h) [
          | inl l ↦ keeps i q.0 n (right r.0 q.0) (q.1 i l)
          | inr e ↦ subst (λ (z : ℕ). P n z) (sym e) (keeps k r.0 n (left r.0 q.0) r.1)
        ],
      )

  -- what holds of each block that a ready header opens after some round holds of all after one
  bound_opens : {s : Core} {K : Knowledge} {path : Path} {a : Action} {vs : List Value} (P : T → Key → Block → Type 0) → ((k : Key) (b : Block) → IsKept (λ n. P n k b)) → Ready s K path a vs
      → ((k : Key) (b : Block) → Opens a vs k b → (n : T) × P n k b) → (n : T) × ((k : Key) (b : Block) → Opens a vs k b → P n k b)
  bound_opens P keeps (cells_known ks (one_way {t = true})) f = let r = f _ _ then_alone in (r.0, λ k b o. only_then (P r.0) o r.1)
  bound_opens P keeps (cells_known ks (one_way {t = false})) f = (start, λ k b o. no_then o)
  bound_opens P keeps (cells_known ks (two_ways {t = true})) f = let r = f _ _ then_first in (r.0, λ k b o. first_branch (P r.0) o r.1)
  bound_opens P keeps (cells_known ks (two_ways {t = false})) f = let r = f _ _ else_second in (r.0, λ k b o. second_branch (P r.0) o r.1)
  bound_opens P keeps (cells_known ks (in_turns {b = b} {n = count} e q)) f =
      let r = bound_below (λ n i. P n (Key.Number (pos i)) b) (λ i. keeps (Key.Number (pos i)) b) count (λ i l. f (Key.Number (pos i)) b (turn e q l)) in
      (r.0, λ k d o. each_turn (P r.0) e q o r.1)
  bound_opens P keeps (source_closed {b = b} {es = es} c x) f =
      let r = bound_list (λ n (e : Element). P n e.key b) (λ e. keeps e.key b) es (λ e m. f e.key b (item {v = e.value} m)) in
      (r.0, λ k d o. each_item (P r.0) o r.1)
  bound_opens P keeps (names_known f) g = (start, λ k b o. no_content o)

  -- WHAT IS FINISHED

  module _ (P : T → Owned → Path → Stmt → Type 0) (keeps : (a : Owned) (path : Path) (st : Stmt) → IsKept (λ n. P n a path st)) where
    pub all_stmts : {a : Owned} {path : Path} (ss : List Stmt) → ((st : Stmt) → st ∈ ss → (n : T) × P n a path st) → (n : T) × ((st : Stmt) → st ∈ ss → P n a path st)
    all_stmts {a} {path} ss f = bound_list (λ n st. P n a path st) (λ st. keeps a path st) ss f

    pub all_body : {a : Owned} {path : Path} (os : List Name) (body : List Stmt) → ((j : ℕ) (x : Name) (st : Stmt) → slice_get os j ≡ Some x → x.what ≡ a → st ∈ body → (n : T) × P n (output j) path st)
        → (n : T) × ((j : ℕ) (x : Name) (st : Stmt) → slice_get os j ≡ Some x → x.what ≡ a → st ∈ body → P n (output j) path st)
    all_body {a} {path} os body f =
        let r = bound_below (λ n j. Body n j) (λ j n m h k x st e t i. keeps (output j) path st n m h (k x st e t i)) (length os) (λ j l. at_output j (slice_get os j) refl) in
        (r.0, λ j x st e t i. r.1 j (found_below os j x e) x st e t i)
      where
        Body : T → ℕ → Type 0
        Body n j = (x : Name) (st : Stmt) → slice_get os j ≡ Some x → x.what ≡ a → st ∈ body → P n (output j) path st

        some_name : {x y : Name} → ◌≡◌ {A = Option Name} (Some x) (Some y) → x ≡ y
        some_name h = cc

        at_output : (j : ℕ) (o : Option Name) → slice_get os j ≡ o → (n : T) × ((x : Name) (st : Stmt) → slice_get os j ≡ Some x → x.what ≡ a → st ∈ body → P n (output j) path st)
        at_output j None h = (start, λ x st e t i. (let q : ◌≡◌ {A = Option Name} None (Some x) = sym h ∙ e in absurd (cc (q))))
        at_output j (Some y) h = elim (owned_is y.what a) [
          | inr differs ↦ (start, λ x st e t i. absurd (differs (ap (λ (z : Name). z.what) (some_name (sym h ∙ e)) ∙ t)))
          | inl same ↦ (let r = all_stmts body (λ st i. f j y st h same i) in (r.0, λ x st e t i. r.1 st i))
        ]

    pub all_opened : {s : Core} {K : Knowledge} {a : Owned} {path : Path} {at : ℕ} {header : Action} {vs : List Value} → Ready s K path header vs
        → ((k : Key) (b : Block) (st : Stmt) → Opens header vs k b → st ∈ block_list b → (n : T) × P n a ((at, k) ∷ path) st)
        → (n : T) × ((k : Key) (b : Block) (st : Stmt) → Opens header vs k b → st ∈ block_list b → P n a ((at, k) ∷ path) st)
    all_opened {a = a} {path = path} {at = at} r f =
        let q = bound_opens (λ n k b. (st : Stmt) → st ∈ block_list b → P n a ((at, k) ∷ path) st)
        (λ k b n m h x st i. keeps a ((at, k) ∷ path) st n m h (x st i)) r (λ k b o. all_stmts (block_list b) (λ st i. f k b st o i)) in
        (q.0, λ k b st o i. q.1 k b o st i)
