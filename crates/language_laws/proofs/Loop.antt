-- A loop that reads what it writes: int A[]; A[0] = 1; foreach i in [1:2] { A[i] = A[i-1] * 2; } printf("%i", A[2]);
use Rattle.std.specs.Prelude.{◌≡◌, ◌⊎◌, ℕ, zero, suc, ◌<◌, List, [], ◌∷◌, Option, Some, None, Result, Ok, ℤ, pos, refl, codes}
use Rattle.std.specs.Fmt.{digits}
use Rattle.std.proofs.Common.{inl, inr, sym, ap, subst, ◌∙◌, arith}
use Rattle.values.specs.declared.fault.OpFault.{OpFault}
use Rattle.values.specs.declared.key.Key.{Key}
use Rattle.values.specs.declared.op.Factor.TheVariants as Factor
use Rattle.values.specs.declared.op.Sign.TheVariants as Sign
use Rattle.values.specs.declared.value.Scalar.{Scalar}
use Rattle.values.specs.declared.value.Scalar.TheVariants.{Number}
use Rattle.values.specs.declared.value.Value.{Value}
use Rattle.values.specs.declared.value.Value.TheVariants.{One}
use Rattle.values.specs.Operators as op
use Rattle.values.specs.Ranges.{range_count, value_in}
use Rattle.language.specs.Core.{local, Name, operator, compute, read, Call, inner, Outer, Awaited, Stmt, stmt, Action, fill, insert, range, wait, Block, Core}
use Rattle.language_laws.specs.Examples as example
use Rattle.language_laws.specs.Examples.{plain, num, variable, two, block_of}
use Rattle.language.specs.Facts.{Fact, value, element, line, IsKey, a_number, a_text, OneWrite, no_cell, next_cell}
use Rattle.language.specs.Meaning.{Live, script, opened, waited, called, Ready, cells_known, HasValue, stored, in_turn, of_literal, of_name, of_operator, no_operand, operand, computed, found, now, LiveStmt, in_block, cell_value, inserted, printed, Known}
use Rattle.language.specs.Members.{◌∈◌, first, later}
use Rattle.language.specs.Openings.{Bounds, bounds, in_turns, Opens, turn, range_value}
use Rattle.language.specs.Parts.{block_list, stmt_calls}
use Rattle.language.specs.Places.{Path, Place}
use Rattle.language.specs.Single.{SinglyAssigned}
use Rattle.language.specs.WellFormed.{WellFormed}
use Rattle.language_laws.proofs.Ever.{sound, one_value}
use Rattle.language_laws.proofs.Passing as passing
use Rattle.language_laws.proofs.Rounds.{FromFill, FromInsert, known_later}

abbrev S : Core
S = example.loop_reads_what_it_writes

keeps : WellFormed S × SinglyAssigned S
keeps = passing.loop_reads_what_it_writes

-- the name A as seen from the loop's body
abbrev outer_a : Name
outer_a = record { up = 1; what = local 2 }

abbrev right_side : Outer
right_side = record {
  parts = inner (record { node = 18; form = compute (operator (op.sum_of (Sign.Minus ∷ [])) (two (variable 8) (num 1))) }) ∷ inner (record { node = 16; form = read outer_a 18 }) ∷ [];
  cell = record { node = 15; form = compute (operator (op.product_of (Factor.Times ∷ [])) (two (variable 16) (num 2))) };
}

abbrev write : Stmt
write = stmt 40 11 (insert outer_a (plain 13 (variable 8)) right_side)

abbrev body : Block
body = block_of (write ∷ [])

abbrev header : Action
header = range (plain 9 (num 1)) (plain 10 (num 2)) None 8 None body

abbrev turn_path : ℕ → Path
turn_path j = (19, Key.Number (pos j)) ∷ []

-- THE BOUNDS

low : Known S 1 (value ([], 9) (One (Number (pos 1))))
low = inr (cell_value (in_block script (later (later first))) first (computed of_literal))

high : Known S 1 (value ([], 10) (One (Number (pos 2))))
high = inr (cell_value (in_block script (later (later first))) (later first) (computed of_literal))

abbrev these : List Value
these = One (Number (pos 1)) ∷ One (Number (pos 2)) ∷ []

up : (n : ℕ) {f : Fact} → Known S 1 f → Known S (suc n) f
up n k = known_later S 1 (suc n) _ (omega arith) k

ready : (n : ℕ) → Ready S (Known S (suc n)) [] header these
ready n = cells_known (next_cell (up n low) (next_cell (up n high) no_cell)) (in_turns refl refl)

turn_live : (n j : ℕ) → j < 2 → Live S (Known S (suc n)) (turn_path j) body
turn_live n j h = opened script (later (later first)) (ready n) (turn refl refl h) (omega arith)

turn_value : (n j : ℕ) → j < 2 → HasValue S (Known S (suc n)) (turn_path j, 8) (Number (value_in (pos 1) (pos 1) j))
turn_value n j h = in_turn script (later (later first)) (ready n) (turn refl refl h) (range_value refl refl) (omega arith)

-- WHO WRITES

-- a live block is the script's, or the body in one of two turns
abbrev LiveAt : Path → Block → Type 0
LiveAt path b = ((path ≡ []) × (b ≡ S.body)) ⊎ ((j : ℕ) × (j < 2) × (path ≡ turn_path j) × (b ≡ body))

bounds_same : {r q : Bounds} → ◌≡◌ {A = Option Bounds} (Some r) (Some q) → r ≡ q
bounds_same h = cc

count_same : {n m : ℕ} → ◌≡◌ {A = Result ℕ OpFault} (Ok n) (Ok m) → n ≡ m
count_same h = cc

the_values : (n : ℕ) {vs : List Value} → Ready S (Known S n) [] header vs → vs ≡ these
the_values n (cells_known (next_cell h (next_cell k no_cell)) d) =
    let a = one_value S keeps.0 keeps.1 ([], 9) _ (One (Number (pos 1))) (n, h) (1, low) in
    let b = one_value S keeps.0 keeps.1 ([], 10) _ (One (Number (pos 2))) (n, k) (1, high) in
    λ i. a i ∷ b i ∷ []

below_two : {vs : List Value} {k : Key} {c : Block} → Opens header vs k c → vs ≡ these → (j : ℕ) × (j < 2) × (k ≡ Key.Number (pos j)) × (c ≡ body)
below_two (turn {r = r} {n = n} {i = i} e q l) h =
    let same : r ≡ record { low = pos 1; high = pos 2; step = pos 1 } = bounds_same (sym e ∙ ap bounds h) in
    let count : n ≡ 2 = count_same (sym q ∙ ap (λ (b : Bounds). range_count b.low b.high b.step) same) in
    (i, (omega arith), refl, refl)

-- what a statement of the script's block opens
opened_here : (n : ℕ) {path : Path} {at m : ℕ} {h : Action} {vs : List Value} {k : Key} {c : Block} → path ≡ [] → stmt at m h ∈ block_list S.body → Ready S (Known S n) path h vs → Opens h vs k c → LiveAt ((at, k) ∷ path) c
opened_here n p first r o = elim o [ ]
opened_here n p (later first) r o = elim o [ ]
opened_here n {vs = vs} p (later (later first)) r o =
    let z = below_two o (the_values n (subst (λ (q : Path). Ready S (Known S n) q header vs) p r)) in
    inr (z.0, z.1, (λ i. (19, z.2 i) ∷ p i), z.3)
opened_here n p (later (later (later first))) r o = elim o [ ]
opened_here n p (later (later (later (later h)))) r o = elim h [ ]

opened_there : {at m : ℕ} {h : Action} {vs : List Value} {k : Key} {c : Block} {A : Type 0} → stmt at m h ∈ block_list body → Opens h vs k c → A
opened_there first o = elim o [ ]
opened_there (later h) o = elim h [ ]

wait_here : {at m : ℕ} {ns : List Awaited} {c : Block} {A : Type 0} → stmt at m (wait ns c) ∈ block_list S.body → A
wait_here (later (later (later (later h)))) = elim h [ ]

wait_there : {at m : ℕ} {ns : List Awaited} {c : Block} {A : Type 0} → stmt at m (wait ns c) ∈ block_list body → A
wait_there (later h) = elim h [ ]

call_here : {st : Stmt} {c : Call} {A : Type 0} → st ∈ block_list S.body → c ∈ stmt_calls st → A
call_here first m = elim m [ ]
call_here (later first) m = elim m [ ]
call_here (later (later first)) m = elim m [ ]
call_here (later (later (later first))) m = elim m [ ]
call_here (later (later (later (later h)))) m = elim h [ ]

call_there : {st : Stmt} {c : Call} {A : Type 0} → st ∈ block_list body → c ∈ stmt_calls st → A
call_there first m = elim m [ ]
call_there (later h) m = elim h [ ]

live_at : (n : ℕ) {path : Path} {b : Block} → Live S (Known S n) path b → LiveAt path b
live_at n script = inl (refl, refl)
live_at n (opened {at = at} {n = m} {header = h} l i r o d) = elim (live_at n l) [
  | inl v ↦ opened_here n v.0 (subst (λ (b : Block). stmt at m h ∈ block_list b) v.1 i) r o
  | inr v ↦ opened_there (subst (λ (b : Block). stmt at m h ∈ block_list b) v.3 i) o
]
live_at n (waited {c = c} {at = at} {n = m} {ns = ns} l i r) = elim (live_at n l) [
  | inl v ↦ wait_here (subst (λ (b : Block). stmt at m (wait ns c) ∈ block_list b) v.1 i)
  | inr v ↦ wait_there (subst (λ (b : Block). stmt at m (wait ns c) ∈ block_list b) v.3 i)
]
live_at n (called {st = st} l i m e d) = elim (live_at n l) [
  | inl v ↦ call_here (subst (λ (b : Block). st ∈ block_list b) v.1 i) m
  | inr v ↦ call_there (subst (λ (b : Block). st ∈ block_list b) v.3 i) m
]

fill_here : {at m : ℕ} {a : Name} {c : Outer} {A : Type 0} → stmt at m (fill a c) ∈ block_list S.body → A
fill_here (later (later (later (later h)))) = elim h [ ]

fill_there : {at m : ℕ} {a : Name} {c : Outer} {A : Type 0} → stmt at m (fill a c) ∈ block_list body → A
fill_there (later h) = elim h [ ]

key_of : {u : Value} {k : Key} {z : ℤ} → IsKey u k → u ≡ One (Number z) → k ≡ Key.Number z
key_of a_number h = let e : _ ≡ _ = cc (h) in ap Key.Number e
key_of a_text h = absurd (cc (h))

zero_known : Known S 1 (value ([], 5) (One (Number (pos 0))))
zero_known = inr (cell_value (in_block script (later first)) first (computed of_literal))

index_known : (j : ℕ) → j < 2 → Known S 2 (value (turn_path j, 13) (One (Number (value_in (pos 1) (pos 1) j))))
index_known j h = inr (cell_value (in_block (turn_live 0 j h) first) first (computed (of_name (turn_value 0 j h))))

-- the three writes
data Writer : Key → Place → Type 0 where
  the_first : Writer (Key.Number (pos 0)) ([], 3)
  in_turn_0 : Writer (Key.Number (pos 1)) (turn_path 0, 11)
  in_turn_1 : Writer (Key.Number (pos 2)) (turn_path 1, 11)

writer : {k l : Key} {w u : Place} → k ≡ l → w ≡ u → Writer l u → Writer k w
writer {l = l} {w = w} e h r = subst (λ (x : Key). Writer x w) (sym e) (subst (λ (p : Place). Writer l p) (sym h) r)

in_turn_j : (j : ℕ) → j < 2 → Writer (Key.Number (value_in (pos 1) (pos 1) j)) (turn_path j, 11)
in_turn_j zero h = in_turn_0
in_turn_j (suc zero) h = in_turn_1
in_turn_j (suc (suc j)) h = absurd (omega arith)

insert_here : (n : ℕ) {at m : ℕ} {a : Name} {i c : Outer} {u : Value} {k : Key} → stmt at m (insert a i c) ∈ block_list S.body → Known S n (value ([], i.cell.node) u) → IsKey u k → Writer k ([], m)
insert_here n {u = u} (later first) h q = writer (key_of q (one_value S keeps.0 keeps.1 ([], 5) u (One (Number (pos 0))) (n, h) (1, zero_known))) refl the_first
insert_here n (later (later (later (later x)))) h q = elim x [ ]

insert_there : (n j : ℕ) {at m : ℕ} {a : Name} {i c : Outer} {u : Value} {k : Key} → j < 2 → stmt at m (insert a i c) ∈ block_list body → Known S n (value (turn_path j, i.cell.node) u) → IsKey u k → Writer k (turn_path j, m)
insert_there n j {u = u} l first h q = writer (key_of q (one_value S keeps.0 keeps.1 (turn_path j, 13) u (One (Number (value_in (pos 1) (pos 1) j))) (n, h) (2, index_known j l))) refl (in_turn_j j l)
insert_there n j l (later x) h q = elim x [ ]

fill_at : (n : ℕ) {path : Path} {at m : ℕ} {a : Name} {c : Outer} {A : Type 0} → LiveStmt S (Known S n) path (stmt at m (fill a c)) → A
fill_at n {at = at} {m = m} {a = a} {c = c} (in_block l i) = elim (live_at n l) [
  | inl v ↦ fill_here (subst (λ (b : Block). stmt at m (fill a c) ∈ block_list b) v.1 i)
  | inr v ↦ fill_there (subst (λ (b : Block). stmt at m (fill a c) ∈ block_list b) v.3 i)
]

insert_at : (n : ℕ) {path : Path} {at m : ℕ} {a : Name} {x c : Outer} {u : Value} {k : Key} → LiveStmt S (Known S n) path (stmt at m (insert a x c)) → Known S n (value (path, x.cell.node) u) → IsKey u k → Writer k (path, m)
insert_at n {path = path} {at = at} {m = m} {a = a} {x = x} {c = c} {u = u} {k = k} (in_block l i) h q = elim (live_at n l) [
  | inl v ↦ subst (λ (p : Path). Writer k (p, m)) (sym v.0) (insert_here n (subst (λ (b : Block). stmt at m (insert a x c) ∈ block_list b) v.1 i) (subst (λ (p : Path). Known S n (value (p, x.cell.node) u)) v.0 h) q)
  | inr v ↦ subst (λ (p : Path). Writer k (p, m)) (sym v.2) (insert_there n v.0 v.1 (subst (λ (b : Block). stmt at m (insert a x c) ∈ block_list b) v.3 i) (subst (λ (p : Path). Known S n (value (p, x.cell.node) u)) v.2 h) q)
]

-- each write is one of the three
writes : (n : ℕ) (a : Place) (k : Key) (w : Place) (v : Scalar) → Known S n (element a k w v) → Writer k w
writes n a k w v f = by ((sound S keeps.0 keeps.1 n).wrote a k w v f)
  where
    by : (FromFill S (Known S n) (Known S n) a k w v ⊎ FromInsert S (Known S n) (Known S n) a k w v) → Writer k w
    by (inl e) = fill_at n e.live
    by (inr e) = subst (λ (p : Place). Writer k p) e.writer_is (insert_at n e.live e.known_index e.is_key)

same_writer : {k : Key} {w u : Place} → Writer k w → Writer k u → w ≡ u
same_writer the_first the_first = refl
same_writer in_turn_0 in_turn_0 = refl
same_writer in_turn_1 in_turn_1 = refl

one_write : (n : ℕ) (k : Key) (w : Place) (v : Scalar) → Writer k w → Known S n (element ([], 2) k w v) → OneWrite (Known S n) ([], 2) k v
one_write n k w v r f = record { writer = w; write = f; only = λ u x g. same_writer (writes n ([], 2) k u x g) r }

-- ROUND BY ROUND

write_0 : Known S 1 (element ([], 2) (Key.Number (pos 0)) ([], 3) (Number (pos 1)))
write_0 = inr (inserted (in_block script (later first)) (now (computed of_literal)) a_number (now (computed of_literal)))

before_index : (j : ℕ) → j < 2 → Known S 2 (value (turn_path j, 18) (One (Number (pos j))))
before_index zero h = inr (cell_value (in_block (turn_live 0 0 h) first) (later first) (computed (of_operator (operand (of_name (turn_value 0 0 h)) (operand of_literal no_operand)) refl)))
before_index (suc zero) h = inr (cell_value (in_block (turn_live 0 1 h) first) (later first) (computed (of_operator (operand (of_name (turn_value 0 1 h)) (operand of_literal no_operand)) refl)))
before_index (suc (suc j)) h = absurd (omega arith)

read_0 : Known S 3 (value (turn_path 0, 16) (One (Number (pos 1))))
read_0 = inr (cell_value (in_block (turn_live 1 0 (omega arith)) first) (later (later first)) (found (before_index 0 (omega arith)) a_number (one_write 2 _ _ _ the_first (inl write_0))))

write_1 : Known S 4 (element ([], 2) (Key.Number (pos 1)) (turn_path 0, 11) (Number (pos 2)))
write_1 = inr (inserted (in_block (turn_live 2 0 (omega arith)) first) (now (computed (of_name (turn_value 2 0 (omega arith))))) a_number
    (now (computed (of_operator (operand (of_name (stored read_0)) (operand of_literal no_operand)) refl))))

read_1 : Known S 5 (value (turn_path 1, 16) (One (Number (pos 2))))
read_1 = inr (cell_value (in_block (turn_live 3 1 (omega arith)) first) (later (later first)) (found (inl (inl (before_index 1 (omega arith)))) a_number (one_write 4 _ _ _ in_turn_0 write_1)))

write_2 : Known S 6 (element ([], 2) (Key.Number (pos 2)) (turn_path 1, 11) (Number (pos 4)))
write_2 = inr (inserted (in_block (turn_live 4 1 (omega arith)) first) (now (computed (of_name (turn_value 4 1 (omega arith))))) a_number
    (now (computed (of_operator (operand (of_name (stored read_1)) (operand of_literal no_operand)) refl))))

two_known : Known S 1 (value ([], 29) (One (Number (pos 2))))
two_known = inr (cell_value (in_block script (later (later (later first)))) first (computed of_literal))

read_2 : Known S 7 (value ([], 27) (One (Number (pos 4))))
read_2 = inr (cell_value (in_block script (later (later (later first)))) (later first) (found (up 5 two_known) a_number (one_write 6 _ _ _ in_turn_1 write_2)))

pub prints_four : Known S 8 (line ([], 23) (codes "4"))
unfolding digits
prints_four = inr (printed (in_block script (later (later (later first)))) (now (computed (of_operator (operand (of_name (stored read_2)) no_operand) refl))))
