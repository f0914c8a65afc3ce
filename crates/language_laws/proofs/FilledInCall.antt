-- An array that a called function fills: (int B[]) g(int m) { foreach i in [0:m-1] { B[i] = i*i; } } int C[]; C = g(4); printf("%i %i", size(C), C[3]);
use Rattle.std.specs.Prelude.{◌≡◌, ◌⊎◌, ℕ, zero, suc, ◌<◌, ◌*◌, List, [], ◌∷◌, slice_get, Option, Some, Result, Ok, pos, refl, codes}
use Rattle.std.specs.Fmt.{digits}
use Rattle.std.proofs.Common.{inl, inr, sym, ap, subst, ◌∙◌, arith}
use Rattle.values.specs.declared.fault.OpFault.{OpFault}
use Rattle.values.specs.declared.key.Key.{Key}
use Rattle.values.specs.declared.map.Element.{Element}
use Rattle.values.specs.declared.value.Scalar.{Scalar}
use Rattle.values.specs.declared.value.Scalar.TheVariants.{Number}
use Rattle.values.specs.declared.value.Value.{Value}
use Rattle.values.specs.declared.value.Value.TheVariants.{One}
use Rattle.values.specs.Maps.{element as entry}
use Rattle.values.specs.Ranges.{range_count, value_in}
use Rattle.language.specs.Core.{local, output, Name, here, Call, Outer, Awaited, Stmt, stmt, Action, fill, insert, wait, Block, Function, Core}
use Rattle.language_laws.specs.HeaderExamples as example
use Rattle.language.specs.Facts.{value, element, line, IsKey, a_number, a_text, OneWriter, Elements, no_cell, next_cell}
use Rattle.language.specs.Meaning.{Live, script, opened, waited, called, Closed, closed, Finished, no_target, write_known, body_finished, blocks_finished, Ready, cells_known, HasValue, stored, in_turn, of_literal, of_name, of_array, of_operator, no_operand, operand, computed, found, now, LiveStmt, in_block, cell_value, inserted, printed, Known, Meaning}
use Rattle.language.specs.Members.{◌∈◌, first, later}
use Rattle.language.specs.Openings.{Bounds, bounds, in_turns, Opens, turn, range_value}
use Rattle.language.specs.Outcomes.{Lines}
use Rattle.language.specs.Parts.{block_list, stmt_calls, function_body}
use Rattle.language.specs.Places.{Path, Place}
use Rattle.language.specs.Single.{SinglyAssigned}
use Rattle.language.specs.WellFormed.{WellFormed}
use Rattle.language_laws.proofs.Ever.{sound, one_value, one_element}
use Rattle.language_laws.proofs.Passing as passing
use Rattle.language_laws.proofs.Printing.{main_prints, one_line}
use Rattle.language_laws.proofs.Rounds.{FromFill, FromInsert, known_later}

abbrev S : Core
S = example.filled_in_a_call

keeps : WellFormed S × SinglyAssigned S
keeps = passing.filled_in_a_call

abbrev body : Block
body = example.squaring_body

abbrev inside : Block
inside = example.squaring_turn

abbrev header : Action
header = example.squaring_loop

-- the call, and the turn under a number
abbrev in_call : Path
in_call = (73, Key.Number (pos 0)) ∷ []

abbrev turn_path : ℕ → Path
turn_path i = (21, Key.Number (pos i)) ∷ in_call

-- THE BOUNDS

argument : Known S 1 (value ([], 27) (One (Number (pos 4))))
argument = inr (cell_value (in_block script (later first)) first (computed of_literal))

live_body : (n : ℕ) → Live S (Known S n) in_call body
live_body n = called script (later first) first refl (omega arith)

low : Known S 1 (value (in_call, 7) (One (Number (pos 0))))
low = inr (cell_value (in_block (live_body 0) first) first (computed of_literal))

high : Known S 2 (value (in_call, 8) (One (Number (pos 3))))
high = inr (cell_value (in_block (live_body 1) first) (later first) (computed (of_operator (operand (of_name (stored argument)) (operand of_literal no_operand)) refl)))

abbrev these : List Value
these = One (Number (pos 0)) ∷ One (Number (pos 3)) ∷ []

ready : (n : ℕ) → Ready S (Known S (suc (suc n))) in_call header these
ready n = cells_known (next_cell (known_later S 1 (suc (suc n)) _ (omega arith) low) (next_cell (known_later S 2 (suc (suc n)) _ (omega arith) high) no_cell)) (in_turns refl refl)

turn_live : (n i : ℕ) → i < 4 → Live S (Known S (suc (suc n))) (turn_path i) inside
turn_live n i h = opened (live_body (suc (suc n))) first (ready n) (turn refl refl h) (omega arith)

turn_value : (n i : ℕ) → i < 4 → HasValue S (Known S (suc (suc n))) (turn_path i, 6) (Number (value_in (pos 0) (pos 1) i))
turn_value n i h = in_turn (live_body (suc (suc n))) first (ready n) (turn refl refl h) (range_value refl refl) (omega arith)

the_number : (i : ℕ) → i < 4 → value_in (pos 0) (pos 1) i ≡ pos i
the_number zero h = refl
the_number (suc zero) h = refl
the_number (suc (suc zero)) h = refl
the_number (suc (suc (suc zero))) h = refl
the_number (suc (suc (suc (suc i)))) h = absurd (omega arith)

-- WHAT IS LIVE: the script's block, the function's body in the call, its loop's body in one of four turns
abbrev LiveAt : Path → Block → Type 0
LiveAt path b = ((path ≡ []) × (b ≡ S.body)) ⊎ (((path ≡ in_call) × (b ≡ body)) ⊎ ((i : ℕ) × (i < 4) × (path ≡ turn_path i) × (b ≡ inside)))

bounds_same : {r q : Bounds} → ◌≡◌ {A = Option Bounds} (Some r) (Some q) → r ≡ q
bounds_same h = cc

count_same : {n m : ℕ} → ◌≡◌ {A = Result ℕ OpFault} (Ok n) (Ok m) → n ≡ m
count_same h = cc

function_same : {f g : Function} → ◌≡◌ {A = Option Function} (Some f) (Some g) → f ≡ g
function_same h = cc

the_values : (n : ℕ) {vs : List Value} → Ready S (Known S n) in_call header vs → vs ≡ these
the_values n (cells_known (next_cell h (next_cell k no_cell)) d) =
    let a = one_value S keeps.0 keeps.1 (in_call, 7) _ (One (Number (pos 0))) (n, h) (1, low) in
    let b = one_value S keeps.0 keeps.1 (in_call, 8) _ (One (Number (pos 3))) (n, k) (2, high) in
    λ i. a i ∷ b i ∷ []

below_four : {vs : List Value} {k : Key} {c : Block} → Opens header vs k c → vs ≡ these → (i : ℕ) × (i < 4) × (k ≡ Key.Number (pos i)) × (c ≡ inside)
below_four (turn {r = r} {n = n} {i = i} e q l) h =
    let same : r ≡ record { low = pos 0; high = pos 3; step = pos 1 } = bounds_same (sym e ∙ ap bounds h) in
    let count : n ≡ 4 = count_same (sym q ∙ ap (λ (b : Bounds). range_count b.low b.high b.step) same) in
    (i, (omega arith), refl, refl)

opened_main : {at m : ℕ} {h : Action} {vs : List Value} {k : Key} {c : Block} {A : Type 0} → stmt at m h ∈ block_list S.body → Opens h vs k c → A
opened_main first o = elim o [ ]
opened_main (later first) o = elim o [ ]
opened_main (later (later first)) o = elim o [ ]
opened_main (later (later (later m))) o = elim m [ ]

opened_body : (n : ℕ) {path : Path} {at m : ℕ} {h : Action} {vs : List Value} {k : Key} {c : Block} → path ≡ in_call → stmt at m h ∈ block_list body → Ready S (Known S n) path h vs → Opens h vs k c → LiveAt ((at, k) ∷ path) c
opened_body n {vs = vs} p first r o =
    let z = below_four o (the_values n (subst (λ (q : Path). Ready S (Known S n) q header vs) p r)) in
    inr (inr (z.0, z.1, (λ i. (21, z.2 i) ∷ p i), z.3))
opened_body n p (later m) r o = elim m [ ]

opened_inside : {at m : ℕ} {h : Action} {vs : List Value} {k : Key} {c : Block} {A : Type 0} → stmt at m h ∈ block_list inside → Opens h vs k c → A
opened_inside first o = elim o [ ]
opened_inside (later m) o = elim m [ ]

wait_main : {at m : ℕ} {ns : List Awaited} {c : Block} {A : Type 0} → stmt at m (wait ns c) ∈ block_list S.body → A
wait_main (later (later (later m))) = elim m [ ]

wait_body : {at m : ℕ} {ns : List Awaited} {c : Block} {A : Type 0} → stmt at m (wait ns c) ∈ block_list body → A
wait_body (later m) = elim m [ ]

wait_inside : {at m : ℕ} {ns : List Awaited} {c : Block} {A : Type 0} → stmt at m (wait ns c) ∈ block_list inside → A
wait_inside (later m) = elim m [ ]

call_main : {path : Path} {st : Stmt} {c : Call} {f : Function} → path ≡ [] → st ∈ block_list S.body → c ∈ stmt_calls st → slice_get S.functions c.function ≡ Some f → LiveAt ((c.at, Key.Number (pos 0)) ∷ path) f.body
call_main p first i e = elim i [ ]
call_main p (later first) first e = inr (inl ((λ j. (73, Key.Number (pos 0)) ∷ p j), ap (λ (g : Function). g.body) (sym (function_same e))))
call_main p (later first) (later i) e = elim i [ ]
call_main p (later (later first)) i e = elim i [ ]
call_main p (later (later (later m))) i e = elim m [ ]

call_body : {st : Stmt} {c : Call} {A : Type 0} → st ∈ block_list body → c ∈ stmt_calls st → A
call_body first i = elim i [ ]
call_body (later m) i = elim m [ ]

call_inside : {st : Stmt} {c : Call} {A : Type 0} → st ∈ block_list inside → c ∈ stmt_calls st → A
call_inside first i = elim i [ ]
call_inside (later m) i = elim m [ ]

live_at : (n : ℕ) {path : Path} {b : Block} → Live S (Known S n) path b → LiveAt path b
live_at n script = inl (refl, refl)
live_at n (opened {at = at} {n = m} {header = h} l i r o d) = elim (live_at n l) [
  | inl v ↦ opened_main (subst (λ (b : Block). stmt at m h ∈ block_list b) v.1 i) o
  | inr u ↦ elim u [
    | inl v ↦ opened_body n v.0 (subst (λ (b : Block). stmt at m h ∈ block_list b) v.1 i) r o
    | inr v ↦ opened_inside (subst (λ (b : Block). stmt at m h ∈ block_list b) v.3 i) o
  ]
]
live_at n (waited {c = c} {at = at} {n = m} {ns = ns} l i r) = elim (live_at n l) [
  | inl v ↦ wait_main (subst (λ (b : Block). stmt at m (wait ns c) ∈ block_list b) v.1 i)
  | inr u ↦ elim u [
    | inl v ↦ wait_body (subst (λ (b : Block). stmt at m (wait ns c) ∈ block_list b) v.1 i)
    | inr v ↦ wait_inside (subst (λ (b : Block). stmt at m (wait ns c) ∈ block_list b) v.3 i)
  ]
]
live_at n (called {st = st} l i m e d) = elim (live_at n l) [
  | inl v ↦ call_main v.0 (subst (λ (b : Block). st ∈ block_list b) v.1 i) m e
  | inr u ↦ elim u [
    | inl v ↦ call_body (subst (λ (b : Block). st ∈ block_list b) v.1 i) m
    | inr v ↦ call_inside (subst (λ (b : Block). st ∈ block_list b) v.3 i) m
  ]
]

-- WHO WRITES

data Writer : Key → Place → Type 0 where
  a_turn : (i : ℕ) → i < 4 → Writer (Key.Number (pos i)) (turn_path i, 12)

key_of : {u : Value} {k : Key} {i : ℕ} → IsKey u k → i < 4 → u ≡ One (Number (value_in (pos 0) (pos 1) i)) → k ≡ Key.Number (pos i)
key_of {i = i} a_number l h = let e : _ ≡ _ = cc (h) in ap Key.Number (e ∙ the_number i l)
key_of a_text l h = absurd (cc (h))

fill_main : {at m : ℕ} {x : Name} {c : Outer} {A : Type 0} → stmt at m (fill x c) ∈ block_list S.body → A
fill_main (later (later (later m))) = elim m [ ]

fill_body : {at m : ℕ} {x : Name} {c : Outer} {A : Type 0} → stmt at m (fill x c) ∈ block_list body → A
fill_body (later m) = elim m [ ]

fill_inside : {at m : ℕ} {x : Name} {c : Outer} {A : Type 0} → stmt at m (fill x c) ∈ block_list inside → A
fill_inside (later m) = elim m [ ]

fill_at : (n : ℕ) {path : Path} {at m : ℕ} {x : Name} {c : Outer} {A : Type 0} → LiveStmt S (Known S n) path (stmt at m (fill x c)) → A
fill_at n {at = at} {m = m} {x = x} {c = c} (in_block l i) = elim (live_at n l) [
  | inl v ↦ fill_main (subst (λ (b : Block). stmt at m (fill x c) ∈ block_list b) v.1 i)
  | inr u ↦ elim u [
    | inl v ↦ fill_body (subst (λ (b : Block). stmt at m (fill x c) ∈ block_list b) v.1 i)
    | inr v ↦ fill_inside (subst (λ (b : Block). stmt at m (fill x c) ∈ block_list b) v.3 i)
  ]
]

insert_main : {at m : ℕ} {x : Name} {i c : Outer} {A : Type 0} → stmt at m (insert x i c) ∈ block_list S.body → A
insert_main (later (later (later m))) = elim m [ ]

insert_body : {at m : ℕ} {x : Name} {i c : Outer} {A : Type 0} → stmt at m (insert x i c) ∈ block_list body → A
insert_body (later m) = elim m [ ]

index_known : (i : ℕ) → i < 4 → Known S 3 (value (turn_path i, 14) (One (Number (value_in (pos 0) (pos 1) i))))
index_known i h = inr (cell_value (in_block (turn_live 0 i h) first) first (computed (of_name (turn_value 0 i h))))

insert_inside : (n i : ℕ) {at m : ℕ} {x : Name} {j c : Outer} {u : Value} {k : Key} → i < 4 → stmt at m (insert x j c) ∈ block_list inside → Known S n (value (turn_path i, j.cell.node) u) → IsKey u k → Writer k (turn_path i, m)
insert_inside n i {u = u} l first h q =
    let same = key_of q l (one_value S keeps.0 keeps.1 (turn_path i, 14) u (One (Number (value_in (pos 0) (pos 1) i))) (n, h) (3, index_known i l)) in
    subst (λ (z : Key). Writer z (turn_path i, 12)) (sym same) (a_turn i l)
insert_inside n i l (later m) h q = elim m [ ]

insert_at : (n : ℕ) {path : Path} {at m : ℕ} {x : Name} {j c : Outer} {u : Value} {k : Key} → LiveStmt S (Known S n) path (stmt at m (insert x j c)) → Known S n (value (path, j.cell.node) u) → IsKey u k → Writer k (path, m)
insert_at n {at = at} {m = m} {x = x} {j = j} {c = c} {u = u} {k = k} (in_block l i) h q = elim (live_at n l) [
  | inl v ↦ insert_main (subst (λ (b : Block). stmt at m (insert x j c) ∈ block_list b) v.1 i)
  | inr w ↦ elim w [
    | inl v ↦ insert_body (subst (λ (b : Block). stmt at m (insert x j c) ∈ block_list b) v.1 i)
    | inr v ↦ subst (λ (p : Path). Writer k (p, m)) (sym v.2) (insert_inside n v.0 v.1 (subst (λ (b : Block). stmt at m (insert x j c) ∈ block_list b) v.3 i) (subst (λ (p : Path). Known S n (value (p, j.cell.node) u)) v.2 h) q)
  ]
]

writes : (n : ℕ) (a : Place) (k : Key) (w : Place) (v : Scalar) → Known S n (element a k w v) → Writer k w
writes n a k w v f = by ((sound S keeps.0 keeps.1 n).wrote a k w v f)
  where
    by : (FromFill S (Known S n) (Known S n) a k w v ⊎ FromInsert S (Known S n) (Known S n) a k w v) → Writer k w
    by (inl e) = fill_at n e.live
    by (inr e) = subst (λ (z : Place). Writer k z) e.writer_is (insert_at n e.live e.known_index e.is_key)

same_writer : {k : Key} {w u : Place} → Writer k w → Writer k u → w ≡ u
same_writer (a_turn i l) (a_turn j h) = refl

once : (n : ℕ) (a : Place) → OneWriter (Known S n) a
once n a k w w' v v' f g = same_writer (writes n a k w v f) (writes n a k w' v' g)

-- THE ARRAY

abbrev squares : List Element
squares = entry (Key.Number (pos 0)) (Number (pos 0)) ∷ entry (Key.Number (pos 1)) (Number (pos 1)) ∷ entry (Key.Number (pos 2)) (Number (pos 4)) ∷ entry (Key.Number (pos 3)) (Number (pos 9)) ∷ []

written : (i : ℕ) → i < 4 → Known S 3 (element ([], 22) (Key.Number (pos i)) (turn_path i, 12) (Number (pos (i * i))))
written zero h = inr (inserted (in_block (turn_live 0 0 h) first) (now (computed (of_name (turn_value 0 0 h)))) a_number (now (computed (of_operator (operand (of_name (turn_value 0 0 h)) (operand (of_name (turn_value 0 0 h)) no_operand)) refl))))
written (suc zero) h = inr (inserted (in_block (turn_live 0 1 h) first) (now (computed (of_name (turn_value 0 1 h)))) a_number (now (computed (of_operator (operand (of_name (turn_value 0 1 h)) (operand (of_name (turn_value 0 1 h)) no_operand)) refl))))
written (suc (suc zero)) h = inr (inserted (in_block (turn_live 0 2 h) first) (now (computed (of_name (turn_value 0 2 h)))) a_number (now (computed (of_operator (operand (of_name (turn_value 0 2 h)) (operand (of_name (turn_value 0 2 h)) no_operand)) refl))))
written (suc (suc (suc zero))) h = inr (inserted (in_block (turn_live 0 3 h) first) (now (computed (of_name (turn_value 0 3 h)))) a_number (now (computed (of_operator (operand (of_name (turn_value 0 3 h)) (operand (of_name (turn_value 0 3 h)) no_operand)) refl))))
written (suc (suc (suc (suc i)))) h = absurd (omega arith)

up : (n i : ℕ) → i < 4 → Known S (suc (suc (suc n))) (element ([], 22) (Key.Number (pos i)) (turn_path i, 12) (Number (pos (i * i))))
up n i h = known_later S 3 (suc (suc (suc n))) _ (omega arith) (written i h)

turn_finished : (n : ℕ) {vs : List Value} {k : Key} {b : Block} (st : Stmt) → Opens header vs k b → vs ≡ these → st ∈ block_list b → Finished S (Known S (suc (suc (suc n)))) (output 0) ((21, k) ∷ in_call) st
turn_finished n {k = k} {b = b} st o e i = by (below_four o e)
  where
    at_turn : (j : ℕ) (st : Stmt) → j < 4 → st ∈ block_list inside → Finished S (Known S (suc (suc (suc n)))) (output 0) (turn_path j) st
    at_turn j _ l first = write_known (up n j l)
    at_turn j _ l (later m) = elim m [ ]

    by : ((j : ℕ) × (j < 4) × (k ≡ Key.Number (pos j)) × (b ≡ inside)) → Finished S (Known S (suc (suc (suc n)))) (output 0) ((21, k) ∷ in_call) st
    by z = subst (λ (q : Key). Finished S (Known S (suc (suc (suc n)))) (output 0) ((21, q) ∷ in_call) st) (sym z.2) (at_turn z.0 st z.1 (subst (λ (c : Block). st ∈ block_list c) z.3 i))

body_done : (n j : ℕ) (x : Name) (st : Stmt) → slice_get (here 22 ∷ []) j ≡ Some x → st ∈ function_body S 0 → Finished S (Known S (suc (suc (suc n)))) (output j) in_call st
body_done n zero x _ e first = blocks_finished tt (ready (suc n)) (λ k b o. omega arith) (λ k b st o i. turn_finished n st o refl i)
body_done n zero x st e (later m) = elim m [ ]
body_done n (suc zero) x st e i = absurd (cc (e))
body_done n (suc (suc j)) x st e i = absurd (cc (e))

all_finished : (n : ℕ) (st : Stmt) → st ∈ block_list S.body → Finished S (Known S (suc (suc (suc n)))) (local 22) [] st
all_finished n _ first = no_target (λ h. elim h [ ])
all_finished n _ (later first) = body_finished (omega arith) (λ j x st e t i. body_done n j x st e i)
all_finished n _ (later (later first)) = no_target (λ h. elim h [ ])
all_finished n _ (later (later (later m))) = elim m [ ]

is_closed : (n : ℕ) → Closed S (Known S (suc (suc (suc n)))) ([], 22)
is_closed n = closed script first (all_finished n) (once (suc (suc (suc n))) ([], 22))

square_in : (i : ℕ) → i < 4 → entry (Key.Number (pos i)) (Number (pos (i * i))) ∈ squares
square_in zero h = first
square_in (suc zero) h = later first
square_in (suc (suc zero)) h = later (later first)
square_in (suc (suc (suc zero))) h = later (later (later first))
square_in (suc (suc (suc (suc i)))) h = absurd (omega arith)

listed : (n : ℕ) (k : Key) (v : Scalar) → entry k v ∈ squares → (w : Place) × Known S (suc (suc (suc n))) (element ([], 22) k w v)
listed n _ _ first = ((turn_path 0, 12), up n 0 (omega arith))
listed n _ _ (later first) = ((turn_path 1, 12), up n 1 (omega arith))
listed n _ _ (later (later first)) = ((turn_path 2, 12), up n 2 (omega arith))
listed n _ _ (later (later (later first))) = ((turn_path 3, 12), up n 3 (omega arith))
listed n k v (later (later (later (later m)))) = elim m [ ]

all_in : (n : ℕ) (k : Key) (w : Place) (v : Scalar) → Writer k w → Known S (suc (suc (suc n))) (element ([], 22) k w v) → entry k v ∈ squares
all_in n _ _ v (a_turn i l) f =
    let same : v ≡ Number (pos (i * i)) = one_element S keeps.0 keeps.1 ([], 22) (Key.Number (pos i)) (turn_path i, 12) v (Number (pos (i * i))) (suc (suc (suc n)), f) (suc (suc (suc n)), up n i l) in
    subst (λ (u : Scalar). entry (Key.Number (pos i)) u ∈ squares) (sym same) (square_in i l)

its_elements : (n : ℕ) → Elements (Known S (suc (suc (suc n)))) ([], 22) squares
its_elements n = record { in_order = refl; written = listed n; all = λ k w v f. all_in n k w v (writes (suc (suc (suc n))) ([], 22) k w v f) f }

-- WHAT IS PRINTED

the_index : Known S 1 (value ([], 38) (One (Number (pos 3))))
the_index = inr (cell_value (in_block script (later (later first))) first (computed of_literal))

the_read : Known S 4 (value ([], 36) (One (Number (pos 9))))
the_read = inr (cell_value (in_block script (later (later first))) (later first)
    (found (inl (inl the_index)) a_number (record { writer = (turn_path 3, 12); write = written 3 (omega arith); only = λ w u g. once 3 ([], 22) _ w (turn_path 3, 12) u _ g (written 3 (omega arith)) })))

the_line : Known S 5 (line ([], 28) (codes "4 9"))
unfolding digits
the_line = inr (printed (in_block script (later (later first)))
    (now (computed (of_operator (operand (of_operator (operand (of_array (is_closed 1) (its_elements 1)) no_operand) refl) (operand (of_name (stored the_read)) no_operand)) refl))))

pub prints_four_nine : Lines (Meaning S) (codes "4 9" ∷ [])
prints_four_nine = one_line S keeps.0 keeps.1 28 _ (main_prints S refl) (codes "4 9") (5, the_line)
