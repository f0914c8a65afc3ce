-- Whatever a core with types comes to know of a node has the node's type.
use Rattle.std.specs.Prelude.{◌≡◌, ℕ, zero, suc, ℤ, pos, Bool, true, false, List, [], ◌∷◌, length, Some, Result, Ok, Err, if◌then◌else◌, refl}
use Rattle.std.proofs.Common.{inl, inr, sym, ◌∙◌, subst}
use Rattle.values.specs.declared.fault.OpFault.{OpFault}
use Rattle.values.specs.declared.fault.OpFault.TheVariants.{AssertFailed, Overflow}
use Rattle.values.specs.declared.key.Key.{Key}
use Rattle.values.specs.declared.map.Element.{Element}
use Rattle.values.specs.declared.value.Scalar.{Scalar}
use Rattle.values.specs.declared.value.Value.{Value}
use Rattle.values.specs.declared.value.Value.TheVariants.{One, Many}
use Rattle.values.specs.Keys.{key_scalar}
use Rattle.values.specs.Maps.{element as entry}
use Rattle.values.specs.Numbers.{fits}
use Rattle.values.specs.Operators as op
use Rattle.values.specs.Operators.{Operation, all_values, with_value, on_all, yes_or_no, spelling}
use Rattle.values.specs.Values.{is_text, scalar_of, first as first_value}
use Rattle.language.specs.declared.tree.Base.{Base}
use Rattle.language.specs.declared.tree.Base.TheVariants.{Int, Text, Boolean}
use Rattle.language.specs.declared.tree.Keys.{Keys}
use Rattle.language.specs.declared.tree.Keys.TheVariants.{Numbers, Texts}
use Rattle.language.specs.Kinds.{base_of_keys}
use Rattle.language.specs.Core.{Name, Expr, Exprs, Form, Cell, Call, Outer, Stmt, stmt, Action, assign, fill, insert, Block, Core}
use Rattle.language.specs.Facts.{Fact, value, element, Knowledge, IsKey, a_number, a_text, Elements, key_value}
use Rattle.language.specs.Meaning.{HasValue, stored, in_turn, Ready, cells_known, source_closed, ValueUnder, of_literal, of_name, of_array, of_operator, ValuesUnder, no_operand, operand, Gives, computed, found, Comes, before, now, in_block, New, cell_value, cell_fault, assigned, filled, inserted, printed, bad_range, too_deep_header, too_deep_call, written_twice, Known, Meaning}
use Rattle.language.specs.Members.{◌∈◌, first, later}
use Rattle.language.specs.Openings.{Opens, turn, item, InTurn, range_value, range_turn, each_value, each_key}
use Rattle.language.specs.Parts.{block_list, script_blocks, stmt_calls, call_at}
use Rattle.language.specs.Places.{Path, Place, place}
use Rattle.language.specs.Scopes.{Typ, one_of, many_of, Signature}
use Rattle.language.proofs.Members.{split_in}
use Rattle.language_accepted.specs.Types as types
use Rattle.language_accepted.specs.Types.{OfBase, OfKeys, OfType, one_scalar, many_scalars, NameHas, ExprHas, literal_has, name_has, operator_has, OperatorHas, AllHave, none_left, one_more, FormHas, computes, copies, lists, reads, ActionHas, of_assign, of_fill, of_insert, of_range, of_each, OfElement, of_array, FactHas, HasTypes, TypedAt}
use Rattle.language_accepted.proofs.Typed.{StmtHas, stmt_has, cell_has, live_stands}

-- VALUES OF A TYPE

pub one_base : {v : Scalar} {τ : Typ} → OfType (One v) τ → OfBase v τ.base
one_base (one_scalar h) = h

-- a key as a scalar and as a value
pub key_same : (k : Key) → key_scalar k ≡ key_value k
key_same (Key.Number z) = refl
key_same (Key.Text bytes) = refl

-- a key is a value of the type that its array's keys have
key_has : {k : Key} {κ : Keys} → OfKeys k κ → OfType (One (key_value k)) (one_of (base_of_keys κ))
key_has types.of_numbers = one_scalar types.a_number
key_has types.of_texts = one_scalar types.a_text

value_has_key : {v : Value} {k : Key} {κ : Keys} → OfType v (one_of (base_of_keys κ)) → IsKey v k → OfKeys k κ
value_has_key {κ = Numbers} (one_scalar types.a_number) a_number = types.of_numbers
value_has_key {κ = Texts} (one_scalar types.a_text) a_text = types.of_texts

-- an element of an array of a type
element_base : {k : Key} {v : Scalar} {κ : Keys} {b : Base} → OfElement k v (many_of κ b) → OfKeys k κ × OfBase v b
element_base (of_array h g) = (h, g)

-- all values are scalars of a type
data AllOf (b : Base) : List Value → Type 0 where
  none_of : AllOf b []
  more_of : {v : Value} {vs : List Value} → OfType v (one_of b) → AllOf b vs → AllOf b (v ∷ vs)

whole_number : (r : Result ℤ OpFault) {v : Value} → op.whole r ≡ Ok v → OfType v (one_of Int)
whole_number (Ok z) e = let same : One (Scalar.Number z) ≡ _ = cc (e) in subst (λ (x : Value). OfType x (one_of Int)) same (one_scalar types.a_number)
whole_number (Err f) e = absurd (cc (e))

a_truth_value : (b : Bool) {v : Value} → yes_or_no b ≡ Ok v → OfType v (one_of Boolean)
a_truth_value b e = let same : One (Scalar.Truth b) ≡ _ = cc (e) in subst (λ (x : Value). OfType x (one_of Boolean)) same (one_scalar types.a_truth)

a_text_value : (bytes : List ℕ) {v : Value} → spelling bytes ≡ Ok v → OfType v (one_of Text)
a_text_value bytes e = let same : One (Scalar.Text bytes) ≡ _ = cc (e) in subst (λ (x : Value). OfType x (one_of Text)) same (one_scalar types.a_text)

asserted : (b : Bool) {v : Value} → (if b then yes_or_no true else Err AssertFailed) ≡ Ok v → OfType v (one_of Boolean)
asserted true e = a_truth_value true e
asserted false e = absurd (cc (e))

number_no_text : {v : Value} → OfType v (one_of Int) → is_text v ≡ false
number_no_text (one_scalar types.a_number) = refl

text_is_text : {v : Value} → OfType v (one_of Text) → is_text v ≡ true
text_is_text (one_scalar types.a_text) = refl

sum_value : (r : Result ℤ OpFault) (bytes : List ℕ) (b : Bool) {v : Value} → b ≡ false → (if b then spelling bytes else op.whole r) ≡ Ok v → OfType v (one_of Int)
sum_value r bytes true h e = absurd (cc (h))
sum_value r bytes false h e = whole_number r e

joined_value : (r : Result ℤ OpFault) (bytes : List ℕ) (b : Bool) {v : Value} → b ≡ true → (if b then spelling bytes else op.whole r) ≡ Ok v → OfType v (one_of Text)
joined_value r bytes true h e = a_text_value bytes e
joined_value r bytes false h e = absurd (cc (h))

numbers_first : {vs : List Value} → AllOf Int vs → is_text (first_value vs) ≡ false
numbers_first none_of = refl
numbers_first (more_of h r) = number_no_text h

numbered_have : {b : Base} (k : ℕ) {vs : List Value} → AllOf b vs → (e : Element) → e ∈ op.numbered k vs → OfKeys e.key Numbers × OfBase e.value b
numbered_have k none_of e m = elim m [ ]
numbered_have {b} k (more_of {v = v} h r) e m = elim (split_in m) [
  | inl q ↦ subst (λ (z : Element). OfKeys z.key Numbers × OfBase z.value b) (sym q) (types.of_numbers, scalar_base h)
  | inr i ↦ numbered_have (suc k) r e i
]
  where
    scalar_base : {x : Value} → OfType x (one_of b) → OfBase (scalar_of x) b
    scalar_base (one_scalar g) = g

list_value : {b : Base} {vs : List Value} (w : Bool) {v : Value} → AllOf b vs → (if w then Ok (Many (op.numbered 0 vs)) else Err Overflow) ≡ Ok v → OfType v (many_of Numbers b)
list_value {b} {vs} true h e = let same : Many (op.numbered 0 vs) ≡ _ = cc (e) in subst (λ (x : Value). OfType x (many_of Numbers b)) same (many_scalars (numbered_have 0 h))
list_value false h e = absurd (cc (e))

with_values : {b : Base} (v : Value) (r : Result (List Value) OpFault) (vs : List Value) → OfType v (one_of b) → ((ws : List Value) → r ≡ Ok ws → AllOf b ws) → with_value v r ≡ Ok vs → AllOf b vs
with_values {b} v (Ok ws) vs h rest e = let same : v ∷ ws ≡ vs = cc (e) in subst (AllOf b) same (more_of h (rest ws refl))
with_values v (Err f) vs h rest e = absurd (cc (e))

module _ (fs : List Signature) (type_of : ℕ → Typ) (s : Core) (has : HasTypes fs type_of s) (found_by : (b : Block) (st : Stmt) (c : Call) → b ∈ script_blocks s → st ∈ block_list b → c ∈ stmt_calls st → call_at s c.at ≡ Some c) where
  -- every known fact has the type of its node
  abbrev pub FactsHave : Knowledge → Type 0
  FactsHave K = (f : Fact) → K f → FactHas type_of f

  module _ (K : Knowledge) (facts : FactsHave K) where
    -- NAMES

    known_element : (a : Place) (κ : Keys) (b : Base) (k : Key) (w : Place) (v : Scalar) → type_of a.1 ≡ many_of κ b → K (element a k w v) → OfKeys k κ × OfBase v b
    known_element a κ b k w v e h = element_base (subst (OfElement k v) e (facts (element a k w v) h))

    elements_have : (a : Place) (κ : Keys) (b : Base) {es : List Element} → type_of a.1 ≡ many_of κ b → Elements K a es → (e : Element) → e ∈ es → OfKeys e.key κ × OfBase e.value b
    elements_have a κ b q h e m = let r = h.written e.key e.value m in known_element a κ b e.key r.0 e.value q r.1

    -- what a loop's variable is in a turn
    turn_has : {path : Path} {c : Block} {x : ℕ} {header : Action} {vs : List Value} {k : Key} {d : Block} {v : Scalar}
        → (q : TypedAt fs type_of s path c) → InTurn header vs k x v → Opens header vs k d → ActionHas fs type_of q.signature q.depth header → Ready s K path header vs → OfType (One v) (type_of x)
    turn_has {v = v} q (range_value e w) o (of_range cs h t d) r = subst (OfType (One v)) (sym h) (subst (λ (z : Scalar). OfType (One z) (one_of Int)) (sym w) (one_scalar types.a_number))
    turn_has {v = v} q (range_turn {t = y} w) (turn f g l) (of_range cs h t d) r = subst (OfType (One v)) (sym (t y refl)) (subst (λ (z : Scalar). OfType (One z) (one_of Int)) (sym w) (one_scalar types.a_number))
    turn_has {path} {v = v} q (each_value {k = k} m) o (of_each {a = a} κ {β = β} g h t d) (source_closed cl el) =
        subst (OfType (One v)) (sym h) (one_scalar (elements_have (place s path a) κ β (q.names a (many_of κ β) g) el (entry k v) m).1)
    turn_has q (each_value m) o (of_each κ g h t d) (cells_known u x) = elim x [ ]
    turn_has {path} {v = v} q (each_key {t = y} {k = k} w) (item {v = u} m) (of_each {a = a} κ {β = β} g h t d) (source_closed cl el) =
        let same = (elements_have (place s path a) κ β (q.names a (many_of κ β) g) el (entry k u) m).0 in
        subst (OfType (One v)) (sym (t y refl)) (subst (λ (z : Scalar). OfType (One z) (one_of (base_of_keys κ))) (sym w) (key_has same))
    turn_has q (each_key w) o (of_each κ g h t d) (cells_known u x) = elim x [ ]

    value_at : {p : Place} {v : Scalar} → HasValue s K p v → OfType (One v) (type_of p.1)
    value_at {p} (stored {v = v} h) = facts (value p (One v)) h
    value_at (in_turn {c = c} {at = at} {n = n} l i r o t d) = let q = live_stands fs type_of s has found_by l in turn_has q t o (stmt_has fs type_of c q.typed i).action r

    -- EXPRESSIONS

    module _ {path : Path} {c : Block} (q : TypedAt fs type_of s path c) where
      abbrev Has : Expr → Base → Type 0
      Has e b = ExprHas fs type_of q.signature q.depth e b

      named : (x : Name) (b : Base) {v : Scalar} → NameHas fs type_of q.signature q.depth x (one_of b) → HasValue s K (place s path x) v → OfType (One v) (one_of b)
      named x b {v} h g = subst (OfType (One v)) (q.names x (one_of b) h) (value_at g)

      mutual
        pub value_has : {e : Expr} {b : Base} {v : Value} → Has e b → ValueUnder s K path e (Ok v) → OfType v (one_of b)
        value_has (literal_has h) of_literal = one_scalar h
        value_has (name_has {x = x} {b = b} h) (of_name g) = named x b h g
        value_has (operator_has h) (of_operator {rs = rs} vs e) = operator_value h vs (all_values rs) refl e

        operator_value : {o : Operation} {es : Exprs} {b : Base} {v : Value} {rs : List (Result Value OpFault)} → OperatorHas fs type_of q.signature q.depth o es b → ValuesUnder s K path es rs
            → (r : Result (List Value) OpFault) → all_values rs ≡ r → on_all o r ≡ Ok v → OfType v (one_of b)
        operator_value h us (Err f) p e = absurd (cc (e))
        operator_value (types.sum_has {ss = ss} h) us (Ok ws) p e = sum_value (op.chain op.added ss ws) (op.joined ws) (is_text (first_value ws)) (numbers_first (operands_have h us ws p)) e
        operator_value (types.texts_have {ss = ss} h) us (Ok ws) p e = joined_value (op.chain op.added ss ws) (op.joined ws) (is_text (first_value ws)) (texts_first h us ws p) e
        operator_value (types.product_has {gs = gs} h) us (Ok ws) p e = whole_number (op.chain op.scaled gs ws) e
        operator_value (types.compare_has h) us (Ok ws) p e = a_truth_value _ e
        operator_value (types.equal_has b h) us (Ok ws) p e = a_truth_value _ e
        operator_value (types.unequal_has b h) us (Ok ws) p e = a_truth_value _ e
        operator_value (types.all_has h) us (Ok ws) p e = a_truth_value _ e
        operator_value (types.any_has h) us (Ok ws) p e = a_truth_value _ e
        operator_value (types.not_has h) us (Ok ws) p e = a_truth_value _ e
        operator_value (types.negate_has h) us (Ok ws) p e = whole_number _ e
        operator_value (types.join_has h) us (Ok ws) p e = a_text_value _ e
        operator_value (types.from_int_has h) us (Ok ws) p e = a_text_value _ e
        operator_value (types.to_int_has h) us (Ok ws) p e = whole_number _ e
        operator_value (types.size_has κ b h) us (Ok ws) p e = whole_number _ e
        operator_value (types.printf_has h) us (Ok ws) p e = a_text_value _ e
        operator_value (types.assert_has h g) us (Ok ws) p e = asserted _ e

        operands_have : {es : Exprs} {b : Base} {rs : List (Result Value OpFault)} → AllHave fs type_of q.signature q.depth es b → ValuesUnder s K path es rs → (vs : List Value) → all_values rs ≡ Ok vs → AllOf b vs
        operands_have {b = b} none_left no_operand vs p = let same : [] ≡ vs = cc (p) in subst (AllOf b) same none_of
        operands_have (one_more h r) (operand {r = Ok v} {rs = rs} u us) vs p = with_values v (all_values rs) vs (value_has h u) (λ ws e. operands_have r us ws e) p
        operands_have (one_more h r) (operand {r = Err f} u us) vs p = absurd (cc (p))

        texts_first : {x : Expr} {es : Exprs} {rs : List (Result Value OpFault)} → AllHave fs type_of q.signature q.depth (Exprs.also x es) Text → ValuesUnder s K path (Exprs.also x es) rs → (vs : List Value) → all_values rs ≡ Ok vs → is_text (first_value vs) ≡ true
        texts_first (one_more h r) (operand {r = Ok v} {rs = rs} u us) vs p = by (text_is_text (value_has h u)) (all_values rs) p
          where
            by : is_text v ≡ true → (z : Result (List Value) OpFault) → with_value v z ≡ Ok vs → is_text (first_value vs) ≡ true
            by k (Ok ws) e = let same : v ∷ ws ≡ vs = cc (e) in subst (λ (y : List Value). is_text (first_value y) ≡ true) same k
            by k (Err f) e = absurd (cc (e))
        texts_first (one_more h r) (operand {r = Err f} u us) vs p = absurd (cc (p))

      -- what a cell gives
      pub gives_has : {form : Form} {τ : Typ} {v : Value} → FormHas fs type_of q.signature q.depth form τ → Gives s K path form (Ok v) → OfType v τ
      gives_has (computes h) (computed u) = value_has h u
      gives_has (copies {a = a} {κ = κ} {b = b} h) (computed (of_array cl el)) = many_scalars (elements_have (place s path a) κ b (q.names a (many_of κ b) h) el)
      gives_has {v = v} (lists {es = es} {b = b} h) (computed (of_operator {rs = rs} us e)) = by (all_values rs) refl e
        where
          by : (r : Result (List Value) OpFault) → all_values rs ≡ r → on_all op.literal r ≡ Ok v → OfType v (many_of Numbers b)
          by (Ok ws) p k = list_value (fits (pos (length ws))) (operands_have h us ws p) k
          by (Err f) p k = absurd (cc (k))
      gives_has (reads {a = a} κ {b = b} h i) (found {k = k} {v = v} u y w) = one_scalar (known_element (place s path a) κ b k w.writer v (q.names a (many_of κ b) h) w.write).1

      comes_has : {o : Cell} {v : Value} → FormHas fs type_of q.signature q.depth o.form (type_of o.node) → Comes s K path o v → OfType v (type_of o.node)
      comes_has {o} {v} h (before k) = facts (value (path, o.node) v) k
      comes_has h (now g) = gives_has h g

    -- ONE ROUND

    pub new_has : {f : Fact} → New s K f → FactHas type_of f
    new_has (cell_value {st = stmt at n a} (in_block {b = b} l i) m g) =
        let q = live_stands fs type_of s has found_by l in
        gives_has q (cell_has fs type_of a (stmt_has fs type_of b q.typed i) m) g
    new_has (assigned {path = path} {at = at} {n = n} {x = x} {c = c} {v = v} (in_block {b = b} l i) k) =
        let q = live_stands fs type_of s has found_by l in
        let h = stmt_has fs type_of b q.typed i in
        assigned_has q x c v h (comes_has q (h.outer c first).cell k)
      where
        assigned_has : {b : Block} (q : TypedAt fs type_of s path b) (x : Name) (c : Outer) (v : Value) → StmtHas fs type_of q.signature q.depth (assign x c) → OfType v (type_of c.cell.node) → OfType v (type_of (place s path x).1)
        assigned_has q x c v h g = by h.action
          where
            by : ActionHas fs type_of q.signature q.depth (assign x c) → OfType v (type_of (place s path x).1)
            by (of_assign {b = β} u e) = subst (OfType v) (e ∙ sym (q.names x (one_of β) u)) g
    new_has (filled {path = path} {a = a} {c = c} {es = es} {k = k} {v = v} (in_block {b = b} l i) o m) =
        let q = live_stands fs type_of s has found_by l in
        let h = stmt_has fs type_of b q.typed i in
        filled_has q a c es h (comes_has q (h.outer c first).cell o) k v m
      where
        filled_has : {b : Block} (q : TypedAt fs type_of s path b) (a : Name) (c : Outer) (es : List Element) → StmtHas fs type_of q.signature q.depth (fill a c) → OfType (Many es) (type_of c.cell.node) → (k : Key) (v : Scalar) → entry k v ∈ es
            → OfElement k v (type_of (place s path a).1)
        filled_has q a c es h g k v m = by h.action
          where
            of_many : {τ : Typ} → OfType (Many es) τ → OfElement k v τ
            of_many (many_scalars r) = let o = r (entry k v) m in of_array o.0 o.1

            by : ActionHas fs type_of q.signature q.depth (fill a c) → OfElement k v (type_of (place s path a).1)
            by (of_fill {κ = κ} {b = β} u e) = subst (OfElement k v) (e ∙ sym (q.names a (many_of κ β) u)) (of_many g)
    new_has (inserted {path = path} {a = a} {i = i} {c = c} {u = x} {k = k} {v = v} (in_block {b = b} l j) n y o) =
        let q = live_stands fs type_of s has found_by l in
        let h = stmt_has fs type_of b q.typed j in
        inserted_has q a i c h (comes_has q (h.outer i first).cell n) (comes_has q (h.outer c (later first)).cell o)
      where
        inserted_has : {b : Block} (q : TypedAt fs type_of s path b) (a : Name) (i c : Outer) → StmtHas fs type_of q.signature q.depth (insert a i c) → OfType x (type_of i.cell.node)
            → OfType (One v) (type_of c.cell.node) → OfElement k v (type_of (place s path a).1)
        inserted_has q a i c h m g = by h.action
          where
            by : ActionHas fs type_of q.signature q.depth (insert a i c) → OfElement k v (type_of (place s path a).1)
            by (of_insert κ {b = β} u e f) =
                subst (OfElement k v) (sym (q.names a (many_of κ β) u)) (of_array (value_has_key {κ = κ} (subst (OfType x) e m) y) (one_base (subst (OfType (One v)) f g)))
    new_has (cell_fault l m g) = tt
    new_has (printed l k) = tt
    new_has (bad_range l k e f) = tt
    new_has (too_deep_header l k o d) = tt
    new_has (too_deep_call l m d) = tt
    new_has (written_twice l x y d) = tt

  -- EVERY ROUND

  pub known_have : (n : ℕ) → FactsHave (Known s n)
  known_have zero f k = absurd k
  known_have (suc n) f (inl k) = known_have n f k
  known_have (suc n) f (inr k) = new_has (Known s n) (known_have n) k

  pub meaning_has : FactsHave (Meaning s)
  meaning_has f k = known_have k.0 f k.1
