-- A loop over an array: int A[] = [7, 9]; int B[]; foreach v, i in A { B[i] = v; } printf("%i %i", size(B), B[1]);
use Rattle.std.specs.Prelude.{◌≡◌, ◌≢◌, ◌⊎◌, ℕ, suc, List, [], ◌∷◌, Some, pos, refl, codes}
use Rattle.std.specs.Fmt.{digits}
use Rattle.std.proofs.Common.{inl, inr, sym, ap, subst, ◌∙◌, arith}
use Rattle.values.specs.declared.key.Key.{Key}
use Rattle.values.specs.declared.map.Element.{Element}
use Rattle.values.specs.declared.value.Scalar.{Scalar}
use Rattle.values.specs.declared.value.Scalar.TheVariants.{Number}
use Rattle.values.specs.declared.value.Value.{Value}
use Rattle.values.specs.declared.value.Value.TheVariants.{One, Many}
use Rattle.values.specs.Maps.{element as entry}
use Rattle.language.specs.Core.{local, here, Name, Call, Outer, Awaited, Stmt, stmt, Action, fill, insert, each, wait, Block, Core}
use Rattle.language_laws.specs.HeaderExamples as example
use Rattle.language.specs.Facts.{value, element, line, IsKey, a_number, a_text, key_value, OneWriter, Elements}
use Rattle.language.specs.Meaning.{Live, script, opened, waited, called, Closed, closed, Finished, no_target, value_known, write_known, blocks_finished, Ready, cells_known, source_closed, HasValue, stored, in_turn, of_literal, of_name, of_array, of_operator, no_operand, operand, computed, found, now, LiveStmt, in_block, cell_value, inserted, printed, Known, Meaning}
use Rattle.language.specs.Members.{◌∈◌, first, later}
use Rattle.language.specs.Openings.{Opens, item, each_value, each_key}
use Rattle.language.specs.Outcomes.{Lines}
use Rattle.language.specs.Parts.{block_list, stmt_calls}
use Rattle.language.specs.Places.{Path, Place, place}
use Rattle.language.specs.Single.{SinglyAssigned}
use Rattle.language.specs.WellFormed.{WellFormed}
use Rattle.language.proofs.Members.{split_in}
use Rattle.language_laws.proofs.ArrayWriters.{one_writer, filled_elements}
use Rattle.language_laws.proofs.Declared.{local_same}
use Rattle.language_laws.proofs.Ever.{sound, one_value, one_element}
use Rattle.language_laws.proofs.Printing.{main_prints, one_line}
use Rattle.language_laws.proofs.Rounds.{FromFill, FromInsert, known_later}
use Rattle.language_laws.proofs.TestedNames.{well_formed}
use Rattle.language_laws.proofs.TestedSingle.{singly_assigned}

abbrev S : Core
S = example.loop_over_array

formed : WellFormed S
formed = well_formed S (record { nodes_once = refl; writers_once = refl; offsets_once = refl; targets = refl; named = refl; script_body = refl; headers = refl; waits = refl; functions = refl; calls = refl; hidden = refl; fills = refl })

single : SinglyAssigned S
single = singly_assigned S (record { declared = refl; outputs = refl; inputs = refl; loops = refl })

abbrev seven_nine : List Element
seven_nine = entry (Key.Number (pos 0)) (Number (pos 7)) ∷ entry (Key.Number (pos 1)) (Number (pos 9)) ∷ []

abbrev body : Block
body = example.copying_body

abbrev header : Action
header = each (here 2) 9 (Some 10) body

abbrev turn_path : Key → Path
turn_path k = (27, k) ∷ []

-- WHAT IS LIVE: the script's block, and the body under some key
abbrev LiveAt : ℕ → Path → Block → Type 0
LiveAt n path b = ((path ≡ []) × (b ≡ S.body)) ⊎ ((k : Key) × (vs : List Value) × (path ≡ turn_path k) × (b ≡ body) × Ready S (Known S n) [] header vs × Opens header vs k body)

opened_here : (n : ℕ) {path : Path} {at m : ℕ} {h : Action} {vs : List Value} {k : Key} {c : Block} → path ≡ [] → stmt at m h ∈ block_list S.body → Ready S (Known S n) path h vs → Opens h vs k c → LiveAt n ((at, k) ∷ path) c
opened_here n p first r o = elim o [ ]
opened_here n p (later first) r o = elim o [ ]
opened_here n p (later (later first)) r o = elim o [ ]
opened_here n {vs = vs} {k = k} p (later (later (later first))) r (item m) = inr (k, vs, (λ i. (27, k) ∷ p i), refl, subst (λ (q : Path). Ready S (Known S n) q header vs) p r, item m)
opened_here n p (later (later (later (later first)))) r o = elim o [ ]
opened_here n p (later (later (later (later (later m))))) r o = elim m [ ]

opened_there : {at m : ℕ} {h : Action} {vs : List Value} {k : Key} {c : Block} {A : Type 0} → stmt at m h ∈ block_list body → Opens h vs k c → A
opened_there first o = elim o [ ]
opened_there (later h) o = elim h [ ]

wait_here : {at m : ℕ} {ns : List Awaited} {c : Block} {A : Type 0} → stmt at m (wait ns c) ∈ block_list S.body → A
wait_here (later (later (later (later (later m))))) = elim m [ ]

wait_there : {at m : ℕ} {ns : List Awaited} {c : Block} {A : Type 0} → stmt at m (wait ns c) ∈ block_list body → A
wait_there (later h) = elim h [ ]

call_here : {st : Stmt} {c : Call} {A : Type 0} → st ∈ block_list S.body → c ∈ stmt_calls st → A
call_here first m = elim m [ ]
call_here (later first) m = elim m [ ]
call_here (later (later first)) m = elim m [ ]
call_here (later (later (later first))) m = elim m [ ]
call_here (later (later (later (later first)))) m = elim m [ ]
call_here (later (later (later (later (later h))))) m = elim h [ ]

call_there : {st : Stmt} {c : Call} {A : Type 0} → st ∈ block_list body → c ∈ stmt_calls st → A
call_there first m = elim m [ ]
call_there (later h) m = elim h [ ]

live_at : (n : ℕ) {path : Path} {b : Block} → Live S (Known S n) path b → LiveAt n path b
live_at n script = inl (refl, refl)
live_at n (opened {at = at} {n = m} {header = h} l i r o d) = elim (live_at n l) [
  | inl v ↦ opened_here n v.0 (subst (λ (b : Block). stmt at m h ∈ block_list b) v.1 i) r o
  | inr v ↦ opened_there (subst (λ (b : Block). stmt at m h ∈ block_list b) v.3 i) o
]
live_at n (waited {c = c} {at = at} {n = m} {ns = ns} l i r) = elim (live_at n l) [
  | inl v ↦ wait_here (subst (λ (b : Block). stmt at m (wait ns c) ∈ block_list b) v.1 i)
  | inr v ↦ wait_there (subst (λ (b : Block). stmt at m (wait ns c) ∈ block_list b) v.3 i)
]
live_at n (called {st = st} l i m e d) = elim (live_at n l) [
  | inl v ↦ call_here (subst (λ (b : Block). st ∈ block_list b) v.1 i) m
  | inr v ↦ call_there (subst (λ (b : Block). st ∈ block_list b) v.3 i) m
]

-- WHO WRITES: the literal fills A, and the turn under a key writes that key of B

data Writer : Place → Key → Place → Type 0 where
  the_literal : {k : Key} → Writer ([], 2) k ([], 1)
  a_turn : {k : Key} → Writer ([], 7) k (turn_path k, 12)

main_fill : {at m : ℕ} {x : Name} {c : Outer} {k : Key} → stmt at m (fill x c) ∈ block_list S.body → Writer (place S [] x) k ([], m)
main_fill (later first) = the_literal
main_fill (later (later (later (later (later h))))) = elim h [ ]

body_fill : {at m : ℕ} {x : Name} {c : Outer} → stmt at m (fill x c) ∈ block_list body → ⊥
body_fill (later h) = elim h [ ]

main_insert : {at m : ℕ} {x : Name} {i c : Outer} → stmt at m (insert x i c) ∈ block_list S.body → ⊥
main_insert (later (later (later (later (later h))))) = elim h [ ]

fill_writes : (n : ℕ) {path : Path} {at m : ℕ} {x : Name} {c : Outer} (k : Key) → LiveStmt S (Known S n) path (stmt at m (fill x c)) → Writer (place S path x) k (path, m)
fill_writes n {path} {at} {m} {x} {c} k (in_block l i) = elim (live_at n l) [
  | inl v ↦ subst (λ (p : Path). Writer (place S p x) k (p, m)) (sym v.0) (main_fill (subst (λ (b : Block). stmt at m (fill x c) ∈ block_list b) v.1 i))
  | inr v ↦ absurd (body_fill (subst (λ (b : Block). stmt at m (fill x c) ∈ block_list b) v.3 i))
]

-- no turn fills an array
fill_in_turn : (n : ℕ) {path : Path} {k : Key} {at m : ℕ} {x : Name} {c : Outer} → LiveStmt S (Known S n) path (stmt at m (fill x c)) → path ≡ turn_path k → ⊥
fill_in_turn n {path} {k} {at} {m} {x} {c} (in_block l i) e = elim (live_at n l) [
  | inl v ↦ (let q : [] ≡ turn_path k = sym v.0 ∙ e in absurd (cc (q)))
  | inr v ↦ body_fill (subst (λ (b : Block). stmt at m (fill x c) ∈ block_list b) v.3 i)
]

key_of : {u : Value} {k l : Key} → IsKey u k → u ≡ One (key_value l) → k ≡ l
key_of {l = Key.Number z} a_number h = let e : _ ≡ _ = cc (h) in ap Key.Number e
key_of {l = Key.Number z} a_text h = absurd (cc (h))
key_of {l = Key.Text bytes} a_number h = absurd (cc (h))
key_of {l = Key.Text bytes} a_text h = let e : _ ≡ _ = cc (h) in ap Key.Text e

is_key : (k : Key) → IsKey (One (key_value k)) k
is_key (Key.Number z) = a_number
is_key (Key.Text bytes) = a_text

turn_live : (n : ℕ) {vs : List Value} {k : Key} → Ready S (Known S n) [] header vs → Opens header vs k body → Live S (Known S n) (turn_path k) body
turn_live n r o = opened script (later (later (later first))) r o (omega arith)

key_value_in : (n : ℕ) {vs : List Value} {k : Key} → Ready S (Known S n) [] header vs → Opens header vs k body → HasValue S (Known S n) (turn_path k, 10) (key_value k)
key_value_in n r o = in_turn script (later (later (later first))) r o (each_key refl) (omega arith)

-- an insertion is that of the turn under its key
record TurnWrites (n : ℕ) (k : Key) (path : Path) (m : ℕ) (x : Name) : Type 0 where
  values : List Value
  ready : Ready S (Known S n) [] header values
  opens : Opens header values k body
  path_is : path ≡ turn_path k
  node_is : m ≡ 12
  array_is : place S path x ≡ ([], 7)

body_insert : (n : ℕ) {path : Path} {at m : ℕ} {x : Name} {i c : Outer} {u : Value} {k : Key} (l : Key) (vs : List Value) → path ≡ turn_path l → Ready S (Known S n) [] header vs → Opens header vs l body
    → Known S n (value (path, i.cell.node) u) → IsKey u k → stmt at m (insert x i c) ∈ block_list body → TurnWrites n k path m x
body_insert n {path = path} {u = u} {k = k} l vs e r o h q first =
    let known : Known S (suc n) (value (turn_path l, 14) (One (key_value l))) = inr (cell_value (in_block (turn_live n r o) first) first (computed (of_name (key_value_in n r o)))) in
    let here : Known S n (value (turn_path l, 14) u) = subst (λ (p : Path). Known S n (value (p, 14) u)) e h in
    let same : k ≡ l = key_of q (one_value S formed single (turn_path l, 14) u (One (key_value l)) (n, here) (suc n, known)) in
    record { values = vs; ready = r; opens = subst (λ (z : Key). Opens header vs z body) (sym same) o; path_is = e ∙ (λ j. turn_path (sym same j)); node_is = refl; array_is = λ j. place S (e j) (record { up = 1; what = local 7 }) }
body_insert n l vs e r o h q (later t) = elim t [ ]

insert_writes : (n : ℕ) {path : Path} {at m : ℕ} {x : Name} {i c : Outer} {u : Value} (k : Key) → LiveStmt S (Known S n) path (stmt at m (insert x i c)) → Known S n (value (path, i.cell.node) u) → IsKey u k → TurnWrites n k path m x
insert_writes n {path} {at} {m} {x} {i} {c} {u} k (in_block l j) h q = elim (live_at n l) [
  | inl v ↦ absurd (main_insert (subst (λ (b : Block). stmt at m (insert x i c) ∈ block_list b) v.1 j))
  | inr v ↦ body_insert n v.0 v.1 v.2 v.4 v.5 h q (subst (λ (b : Block). stmt at m (insert x i c) ∈ block_list b) v.3 j)
]

writes : (n : ℕ) (a : Place) (k : Key) (w : Place) (v : Scalar) → Known S n (element a k w v) → Writer a k w
writes n a k w v f = by ((sound S formed single n).wrote a k w v f)
  where
    by : (FromFill S (Known S n) (Known S n) a k w v ⊎ FromInsert S (Known S n) (Known S n) a k w v) → Writer a k w
    by (inl e) = subst (λ (z : Place). Writer z k w) e.array_is (subst (λ (z : Place). Writer (place S e.path e.array) k z) e.writer_is (fill_writes n k e.live))
    by (inr e) =
        let t = insert_writes n k e.live e.known_index e.is_key in
        subst (λ (z : Place). Writer z k w) (sym t.array_is ∙ e.array_is) (subst (λ (z : Place). Writer ([], 7) k z) ((λ j. (sym t.path_is j, sym t.node_is j)) ∙ e.writer_is) a_turn)

differ : {m n : ℕ} → m ≢ n → ◌≡◌ {A = Place} ([], m) ([], n) → ⊥
differ d e = d (ap (λ (z : Place). z.1) e)

two_seven : {A : Type 0} → ◌≡◌ {A = Place} ([], 2) ([], 7) → A
two_seven e = absurd (differ (λ q. absurd (omega arith)) e)

of_a : {a w : Place} {k : Key} → Writer a k w → a ≡ ([], 2) → w ≡ ([], 1)
of_a the_literal e = refl
of_a a_turn e = two_seven (sym e)

of_b : {a w : Place} {k : Key} → Writer a k w → a ≡ ([], 7) → w ≡ (turn_path k, 12)
of_b the_literal e = two_seven e
of_b a_turn e = refl

sole_a : (m : ℕ) (k : Key) (w : Place) (v : Scalar) → Known S m (element ([], 2) k w v) → w ≡ ([], 1)
sole_a m k w v f = of_a (writes m ([], 2) k w v f) refl

writer_b : (m : ℕ) (k : Key) (w : Place) (v : Scalar) → Known S m (element ([], 7) k w v) → w ≡ (turn_path k, 12)
writer_b m k w v f = of_b (writes m ([], 7) k w v f) refl

once_b : (m : ℕ) → OneWriter (Known S m) ([], 7)
once_b m k w w' v v' f g = writer_b m k w v f ∙ sym (writer_b m k w' v' g)

-- THE ARRAY A

a_value : (n : ℕ) → Known S (suc n) (value ([], 3) (Many seven_nine))
a_value n = known_later S 1 (suc n) _ (omega arith) (inr (cell_value (in_block script (later first)) first (computed (of_operator (operand of_literal (operand of_literal no_operand)) refl))))

not_seven : local 2 ∈ (local 7 ∷ []) → ⊥
not_seven h = elim (split_in h) [ inl e ↦ (let q = local_same e in absurd (omega arith)) | inr m ↦ elim m [ ] ]

not_two : local 7 ∈ (local 2 ∷ []) → ⊥
not_two h = elim (split_in h) [ inl e ↦ (let q = local_same e in absurd (omega arith)) | inr m ↦ elim m [ ] ]

a_finished : (n : ℕ) (st : Stmt) → st ∈ block_list S.body → Finished S (Known S (suc n)) (local 2) [] st
a_finished n _ first = no_target (λ h. elim h [ ])
a_finished n _ (later first) = value_known (a_value n)
a_finished n _ (later (later first)) = no_target (λ h. elim h [ ])
a_finished n _ (later (later (later first))) = no_target not_seven
a_finished n _ (later (later (later (later first)))) = no_target (λ h. elim h [ ])
a_finished n _ (later (later (later (later (later m))))) = elim m [ ]

a_closed : (n : ℕ) → Closed S (Known S (suc n)) ([], 2)
a_closed n = closed script first (a_finished n) (one_writer S ([], 2) 1 sole_a (suc n))

a_elements : (n : ℕ) → Elements (Known S (suc n)) ([], 2) seven_nine
a_elements n = filled_elements S ([], 2) 1 sole_a formed single (suc n) 0 _ _ (later first) refl seven_nine refl (a_value n)

ready : (n : ℕ) → Ready S (Known S (suc n)) [] header (Many seven_nine ∷ [])
ready n = source_closed (a_closed n) (a_elements n)

-- a turn is under a key of A
turn_key : (n : ℕ) {vs : List Value} {k : Key} → Ready S (Known S n) [] header vs → Opens header vs k body → (v : Scalar) × (entry k v ∈ seven_nine)
turn_key n (source_closed c x) (item {k = k} {v = v} m) =
    let z = x.written k v m in
    (v, (a_elements n).all k z.0 v (inl z.1))
turn_key n (cells_known ks d) o = elim d [ ]

-- THE ARRAY B

b_element : (n : ℕ) (k : Key) (v : Scalar) → entry k v ∈ seven_nine → Known S (suc (suc n)) (element ([], 7) k (turn_path k, 12) v)
b_element n k v m =
    let o : Opens header (Many seven_nine ∷ []) k body = item m in
    inr (inserted (in_block (turn_live (suc n) (ready n) o) first) (now (computed (of_name (key_value_in (suc n) (ready n) o)))) (is_key k)
    (now (computed (of_name (in_turn script (later (later (later first))) (ready n) o (each_value m) (omega arith))))))

turn_finished : (n : ℕ) (k : Key) (b : Block) (st : Stmt) → Opens header (Many seven_nine ∷ []) k b → st ∈ block_list b → Finished S (Known S (suc (suc n))) (local 7) (turn_path k) st
turn_finished n _ _ _ (item {k = k} {v = v} m) first = write_known (b_element n k v m)
turn_finished n _ _ st (item m) (later h) = elim h [ ]

b_finished : (n : ℕ) (st : Stmt) → st ∈ block_list S.body → Finished S (Known S (suc (suc n))) (local 7) [] st
b_finished n _ first = no_target (λ h. elim h [ ])
b_finished n _ (later first) = no_target not_two
b_finished n _ (later (later first)) = no_target (λ h. elim h [ ])
b_finished n _ (later (later (later first))) = blocks_finished tt (ready (suc n)) (λ k b o. omega arith) (λ k b st o i. turn_finished n k b st o i)
b_finished n _ (later (later (later (later first)))) = no_target (λ h. elim h [ ])
b_finished n _ (later (later (later (later (later m))))) = elim m [ ]

b_closed : (n : ℕ) → Closed S (Known S (suc (suc n))) ([], 7)
b_closed n = closed script (later (later first)) (b_finished n) (once_b (suc (suc n)))

fill_of_b : (n : ℕ) {path : Path} {at m : ℕ} {x : Name} {c : Outer} → LiveStmt S (Known S n) path (stmt at m (fill x c)) → place S path x ≡ ([], 7) → ⊥
fill_of_b n {path} {at} {m} {x} {c} l e =
    let q : ◌≡◌ {A = Place} (path, m) (turn_path (Key.Number (pos 0)), 12) = of_b (fill_writes n (Key.Number (pos 0)) l) e in
    fill_in_turn n l (ap (λ (z : Place). z.0) q)

-- each element of B is under a key of A
b_key : (n : ℕ) (k : Key) (w : Place) (v : Scalar) → Known S n (element ([], 7) k w v) → (u : Scalar) × (entry k u ∈ seven_nine)
b_key n k w v f = by ((sound S formed single n).wrote ([], 7) k w v f)
  where
    by : (FromFill S (Known S n) (Known S n) ([], 7) k w v ⊎ FromInsert S (Known S n) (Known S n) ([], 7) k w v) → (u : Scalar) × (entry k u ∈ seven_nine)
    by (inl e) = absurd (fill_of_b n e.live e.array_is)
    by (inr e) = let t = insert_writes n k e.live e.known_index e.is_key in turn_key n t.ready t.opens

b_elements : (n : ℕ) → Elements (Known S (suc (suc n))) ([], 7) seven_nine
b_elements n = record {
  in_order = refl;
  written = λ k v m. ((turn_path k, 12), b_element n k v m);
  all = λ k w v f. (let z = b_key (suc (suc n)) k w v f in
      let here : Known S (suc (suc n)) (element ([], 7) k (turn_path k, 12) v) = subst (λ (p : Place). Known S (suc (suc n)) (element ([], 7) k p v)) (writer_b (suc (suc n)) k w v f) f in
      let same : v ≡ z.0 = one_element S formed single ([], 7) k (turn_path k, 12) v z.0 (suc (suc n), here) (suc (suc n), b_element n k z.0 z.1) in
      subst (λ (u : Scalar). entry k u ∈ seven_nine) (sym same) z.1);
}

-- WHAT IS PRINTED

the_index : Known S 1 (value ([], 28) (One (Number (pos 1))))
the_index = inr (cell_value (in_block script (later (later (later (later first))))) first (computed of_literal))

the_read : Known S 3 (value ([], 26) (One (Number (pos 9))))
the_read = inr (cell_value (in_block script (later (later (later (later first))))) (later first)
    (found (inl the_index) a_number (record { writer = (turn_path (Key.Number (pos 1)), 12); write = b_element 0 _ _ (later first); only = λ w u g. writer_b 2 _ w u g })))

the_line : Known S 4 (line ([], 18) (codes "2 9"))
unfolding digits
the_line = inr (printed (in_block script (later (later (later (later first)))))
    (now (computed (of_operator (operand (of_operator (operand (of_array (b_closed 1) (b_elements 1)) no_operand) refl) (operand (of_name (stored the_read)) no_operand)) refl))))

pub prints_two_nine : Lines (Meaning S) (codes "2 9" ∷ [])
prints_two_nine = one_line S formed single 18 _ (main_prints S refl) (codes "2 9") (4, the_line)
