-- Each comparison decides whether two values are equal.
use Rattle.std.proofs.Common.{◌≡◌, Bool, true, false, List, [], ◌∷◌, Option, Some, None, refl, ap, subst, arith}
use Rattle.std.proofs.lemmas.Int.{ints}
use Rattle.std.specs.Prelude.{suc, nat_eq, ◌==◌, length}
use Rattle.std.specs.Bool.{Decides}
use Rattle.std.specs.Ordering.{int_eq}
use Rattle.std.proofs.lemmas.Bool.{and_from, and_parts}
use lib.Pointwise.{pointwise, pointwise_decides}
use Rattle.dataflow.specs.System.{Answer, Found, Missing, Content}
use Rattle.values.specs.declared.format.FormatPiece.{FormatPiece}
use Rattle.values.specs.declared.format.FormatPiece.TheVariants as Of
use Rattle.values.specs.declared.key.Key.{Key}
use Rattle.values.specs.declared.op.Sign.{Sign}
use Rattle.values.specs.declared.op.Sign.TheVariants.{Plus, Minus}
use Rattle.values.specs.declared.op.Factor.{Factor}
use Rattle.values.specs.declared.op.Factor.TheVariants.{Times, Divide, Remainder}
use Rattle.values.specs.declared.op.Order.{Order}
use Rattle.values.specs.declared.op.Order.TheVariants.{Less, LessOrEqual, Greater, GreaterOrEqual}
use Rattle.values.specs.declared.value.Scalar.{Scalar}
use Rattle.values.specs.Keys.{same_key}
use Rattle.values.proofs.Keys.{same_key-refl, same_key-eq}
use Rattle.values.specs.Operators.{Operation, sum_of, product_of, compare, equal, unequal, all_true, any_true, not_true, negate, join, from_int, to_int, size, printf, assert, literal}
use Rattle.task_code.specs.Code.{Need, Stored, Closed, At, AtKey, Expr, constant, need, operation, Exprs, no_operand, operand, Argument, Named, Fixed, Loop, Header, Act, Cell, Read, Call, Set, Fill, Copy, InsertElement, Print, Assert, If, Range, Each, Wait, Entry}
use Rattle.task_code.specs.declared.expr.Expr.{Expr as Written}
use Rattle.task_code.specs.View.{exprs_view}
use Rattle.task_code.specs.Places.{Place, Constant, Datum, Nowhere, name_eq}
use Rattle.task_code.proofs.Equal.{nat_sound, nat_same, name_sound, name_same, place_sound, place_same}
use Rattle.board_work.specs.Same.{option_eq, scalar_eq, need_eq, argument_eq, sign_eq, factor_eq, order_eq, piece_eq, operation_eq, expr_eq, exprs_eq, loop_eq, header_eq, act_eq, entry_eq, element_eq, answer_eq}

-- a comparison that is true of equal values alone, and of each value and itself
record Exact {A : Type 0} (f : A → A → Bool) : Type 0 where
  sound : (a b : A) → f a b ≡ true → a ≡ b
  own : (a : A) → f a a ≡ true

decides : {A : Type 0} {f : A → A → Bool} → Exact f → (a b : A) → Decides (f a b) (a ≡ b)
decides {A} {f} e a b = (e.sound a b, λ p. subst (λ (x : A). f a x ≡ true) p (e.own a))

lists : {A : Type 0} {f : A → A → Bool} → Exact f → Exact (pointwise f)
lists {A} {f} e = record { sound = λ xs ys h. (pointwise_decides (decides e) xs ys).0 h; own = λ xs. (pointwise_decides (decides e) xs xs).1 refl }

options : {A : Type 0} {f : A → A → Bool} → Exact f → Exact (option_eq f)
options {A} {f} e = record { sound = sound'; own = own' }
  where
    sound' : (a b : Option A) → option_eq f a b ≡ true → a ≡ b
    sound' None None h = refl
    sound' (Some a) (Some b) h = ap Some (e.sound a b h)
    sound' _ _ h = absurd (cc)

    own' : (a : Option A) → option_eq f a a ≡ true
    own' None = refl
    own' (Some a) = e.own a

numbers : Exact nat_eq
numbers = record { sound = nat_sound; own = nat_same }

integers : Exact int_eq
integers = record { sound = λ a b h. grind (arith, ints); own = λ a. grind (arith, ints) }

names : Exact name_eq
names = record { sound = name_sound; own = name_same }

keys : Exact same_key
keys = record { sound = same_key-eq; own = same_key-refl }

-- a constant's place tells the constant
constant_at : Scalar → Place → Scalar
constant_at v (Constant w) = w
constant_at v (Datum p x) = v
constant_at v Nowhere = v

scalars : Exact scalar_eq
unfolding constant_at
scalars = record { sound = λ v w h. ap (constant_at v) (place_sound (Constant v) (Constant w) h); own = λ v. place_same (Constant v) }

needs : Exact need_eq
needs = record { sound = sound'; own = own' }
  where
    sound' : (a b : Need) → need_eq a b ≡ true → a ≡ b
    sound' (Stored r) (Stored s) h = ap Stored (name_sound r s h)
    sound' (Closed r) (Closed s) h = ap Closed (name_sound r s h)
    sound' (At a r) (At b s) h =
        let t = and_parts (name_eq a b) (name_eq r s) h in
        let x = name_sound a b t.0 in
        let y = name_sound r s t.1 in
        λ i. At (x i) (y i)
    sound' (AtKey a k) (AtKey b l) h =
        let t = and_parts (name_eq a b) (same_key k l) h in
        let x = name_sound a b t.0 in
        let y = same_key-eq k l t.1 in
        λ i. AtKey (x i) (y i)
    sound' _ _ h = absurd (cc)

    own' : (a : Need) → need_eq a a ≡ true
    own' (Stored r) = name_same r
    own' (Closed r) = name_same r
    own' (At a r) = and_from (name_eq a a) _ (name_same a) (name_same r)
    own' (AtKey a k) = and_from (name_eq a a) _ (name_same a) (same_key-refl k)

arguments : Exact argument_eq
arguments = record { sound = sound'; own = own' }
  where
    sound' : (a b : Argument) → argument_eq a b ≡ true → a ≡ b
    sound' (Named r) (Named s) h = ap Named (name_sound r s h)
    sound' (Fixed v) (Fixed w) h = ap Fixed (scalars.sound v w h)
    sound' _ _ h = absurd (cc)

    own' : (a : Argument) → argument_eq a a ≡ true
    own' (Named r) = name_same r
    own' (Fixed v) = scalars.own v

signs : Exact sign_eq
signs = record { sound = sound'; own = own' }
  where
    sound' : (a b : Sign) → sign_eq a b ≡ true → a ≡ b
    sound' Plus Plus h = refl
    sound' Minus Minus h = refl
    sound' _ _ h = absurd (cc)

    own' : (a : Sign) → sign_eq a a ≡ true
    own' Plus = refl
    own' Minus = refl

factors : Exact factor_eq
factors = record { sound = sound'; own = own' }
  where
    sound' : (a b : Factor) → factor_eq a b ≡ true → a ≡ b
    sound' Times Times h = refl
    sound' Divide Divide h = refl
    sound' Remainder Remainder h = refl
    sound' _ _ h = absurd (cc)

    own' : (a : Factor) → factor_eq a a ≡ true
    own' Times = refl
    own' Divide = refl
    own' Remainder = refl

orders : Exact order_eq
orders = record { sound = sound'; own = own' }
  where
    sound' : (a b : Order) → order_eq a b ≡ true → a ≡ b
    sound' Less Less h = refl
    sound' LessOrEqual LessOrEqual h = refl
    sound' Greater Greater h = refl
    sound' GreaterOrEqual GreaterOrEqual h = refl
    sound' _ _ h = absurd (cc)

    own' : (a : Order) → order_eq a a ≡ true
    own' Less = refl
    own' LessOrEqual = refl
    own' Greater = refl
    own' GreaterOrEqual = refl

pieces : Exact piece_eq
pieces = record { sound = sound'; own = own' }
  where
    sound' : (a b : FormatPiece) → piece_eq a b ≡ true → a ≡ b
    sound' (Of.Byte b) (Of.Byte c) h = ap Of.Byte (nat_sound b c h)
    sound' Of.Number Of.Number h = refl
    sound' Of.Text Of.Text h = refl
    sound' _ _ h = absurd (cc)

    own' : (a : FormatPiece) → piece_eq a a ≡ true
    own' (Of.Byte b) = nat_same b
    own' Of.Number = refl
    own' Of.Text = refl

operations : Exact operation_eq
operations = record { sound = sound'; own = own' }
  where
    sound' : (a b : Operation) → operation_eq a b ≡ true → a ≡ b
    sound' (sum_of ss) (sum_of ts) h = ap sum_of ((lists signs).sound ss ts h)
    sound' (product_of fs) (product_of gs) h = ap product_of ((lists factors).sound fs gs h)
    sound' (compare o) (compare p) h = ap compare (orders.sound o p h)
    sound' equal equal h = refl
    sound' unequal unequal h = refl
    sound' all_true all_true h = refl
    sound' any_true any_true h = refl
    sound' not_true not_true h = refl
    sound' negate negate h = refl
    sound' join join h = refl
    sound' from_int from_int h = refl
    sound' to_int to_int h = refl
    sound' size size h = refl
    sound' (printf ps) (printf qs) h = ap printf ((lists pieces).sound ps qs h)
    sound' assert assert h = refl
    sound' literal literal h = refl
    sound' _ _ h = absurd (cc)

    own' : (a : Operation) → operation_eq a a ≡ true
    own' (sum_of ss) = (lists signs).own ss
    own' (product_of fs) = (lists factors).own fs
    own' (compare o) = orders.own o
    own' equal = refl
    own' unequal = refl
    own' all_true = refl
    own' any_true = refl
    own' not_true = refl
    own' negate = refl
    own' join = refl
    own' from_int = refl
    own' to_int = refl
    own' size = refl
    own' (printf ps) = (lists pieces).own ps
    own' assert = refl
    own' literal = refl

mutual
  expr_sound : (a b : Expr) → expr_eq a b ≡ true → a ≡ b
  expr_sound (constant v) (constant w) h = ap constant (scalars.sound v w h)
  expr_sound (need m) (need n) h = ap need (nat_sound m n h)
  expr_sound (operation o es) (operation p fs) h =
      let t = and_parts (operation_eq o p) (exprs_eq es fs) h in
      let x = operations.sound o p t.0 in
      let y = exprs_sound es fs t.1 in
      λ i. operation (x i) (y i)
  expr_sound _ _ h = absurd (cc)

  exprs_sound : (a b : Exprs) → exprs_eq a b ≡ true → a ≡ b
  exprs_sound no_operand no_operand h = refl
  exprs_sound (operand e es) (operand f fs) h =
      let t = and_parts (expr_eq e f) (exprs_eq es fs) h in
      let x = expr_sound e f t.0 in
      let y = exprs_sound es fs t.1 in
      λ i. operand (x i) (y i)
  exprs_sound _ _ h = absurd (cc)

mutual
  expr_own : (a : Expr) → expr_eq a a ≡ true
  expr_own (constant v) = scalars.own v
  expr_own (need n) = nat_same n
  expr_own (operation o es) = and_from (operation_eq o o) _ (operations.own o) (exprs_own es)

  exprs_own : (a : Exprs) → exprs_eq a a ≡ true
  exprs_own no_operand = refl
  exprs_own (operand e es) = and_from (expr_eq e e) _ (expr_own e) (exprs_own es)

loops : Exact loop_eq
loops = record { sound = sound'; own = own' }
  where
    sound' : (a b : Loop) → loop_eq a b ≡ true → a ≡ b
    sound' a b h =
        let t = and_parts (nat_eq a.body b.body) _ h in
        let u = and_parts (nat_eq a.value b.value) _ t.1 in
        let x = nat_sound a.body b.body t.0 in
        let y = nat_sound a.value b.value u.0 in
        let z = (options numbers).sound a.turn b.turn u.1 in
        λ i. record { body = x i; value = y i; turn = z i }

    own' : (a : Loop) → loop_eq a a ≡ true
    own' a = and_from (nat_eq a.body a.body) _ (nat_same a.body) (and_from (nat_eq a.value a.value) _ (nat_same a.value) ((options numbers).own a.turn))

headers : Exact header_eq
headers = record { sound = sound'; own = own' }
  where
    sound' : (a b : Header) → header_eq a b ≡ true → a ≡ b
    sound' a b h =
        let t = and_parts (nat_eq a.at b.at) _ h in
        let x = nat_sound a.at b.at t.0 in
        let y = (lists needs).sound a.needs b.needs t.1 in
        λ i. record { at = x i; needs = y i }

    own' : (a : Header) → header_eq a a ≡ true
    own' a = and_from (nat_eq a.at a.at) _ (nat_same a.at) ((lists needs).own a.needs)

acts : Exact act_eq
acts = record { sound = sound'; own = own' }
  where
    sound' : (a b : Act) → act_eq a b ≡ true → a ≡ b
    sound' (Cell e) (Cell f) h = ap Cell (expr_sound e f h)
    sound' Read Read h = refl
    sound' (Call b rs os) (Call c ss ps) h =
        let t = and_parts (nat_eq b c) _ h in
        let u = and_parts (pointwise argument_eq rs ss) _ t.1 in
        let x = nat_sound b c t.0 in
        let y = (lists arguments).sound rs ss u.0 in
        let z = (lists names).sound os ps u.1 in
        λ i. Call (x i) (y i) (z i)
    sound' (Set r e) (Set s f) h =
        let t = and_parts (name_eq r s) _ h in
        let x = name_sound r s t.0 in
        let y = expr_sound e f t.1 in
        λ i. Set (x i) (y i)
    sound' (Fill r es) (Fill s fs) h =
        let t = and_parts (name_eq r s) _ h in
        let x = name_sound r s t.0 in
        let y = exprs_sound es fs t.1 in
        λ i. Fill (x i) (y i)
    sound' (Copy r) (Copy s) h = ap Copy (name_sound r s h)
    sound' (InsertElement r j e) (InsertElement s k f) h =
        let t = and_parts (name_eq r s) _ h in
        let u = and_parts (expr_eq j k) _ t.1 in
        let x = name_sound r s t.0 in
        let y = expr_sound j k u.0 in
        let z = expr_sound e f u.1 in
        λ i. InsertElement (x i) (y i) (z i)
    sound' (Print e) (Print f) h = ap Print (expr_sound e f h)
    sound' (Assert e) (Assert f) h = ap Assert (expr_sound e f h)
    sound' (If e b c) (If f d g) h =
        let t = and_parts (expr_eq e f) _ h in
        let u = and_parts (nat_eq b d) _ t.1 in
        let x = expr_sound e f t.0 in
        let y = nat_sound b d u.0 in
        let z = (options numbers).sound c g u.1 in
        λ i. If (x i) (y i) (z i)
    sound' (Range l m s w) (Range l' m' s' w') h =
        let t = and_parts (expr_eq l l') _ h in
        let u = and_parts (expr_eq m m') _ t.1 in
        let v = and_parts (expr_eq s s') _ u.1 in
        let x = expr_sound l l' t.0 in
        let y = expr_sound m m' u.0 in
        let z = expr_sound s s' v.0 in
        let r = loops.sound w w' v.1 in
        λ i. Range (x i) (y i) (z i) (r i)
    sound' (Each w) (Each x) h = ap Each (loops.sound w x h)
    sound' (Wait hs b) (Wait is c) h =
        let t = and_parts (pointwise header_eq hs is) _ h in
        let x = (lists headers).sound hs is t.0 in
        let y = nat_sound b c t.1 in
        λ i. Wait (x i) (y i)
    sound' _ _ h = absurd (cc)

    own' : (a : Act) → act_eq a a ≡ true
    own' (Cell e) = expr_own e
    own' Read = refl
    own' (Call b rs os) = and_from (nat_eq b b) _ (nat_same b) (and_from (pointwise argument_eq rs rs) _ ((lists arguments).own rs) ((lists names).own os))
    own' (Set r e) = and_from (name_eq r r) _ (name_same r) (expr_own e)
    own' (Fill r es) = and_from (name_eq r r) _ (name_same r) (exprs_own es)
    own' (Copy r) = name_same r
    own' (InsertElement r j e) = and_from (name_eq r r) _ (name_same r) (and_from (expr_eq j j) _ (expr_own j) (expr_own e))
    own' (Print e) = expr_own e
    own' (Assert e) = expr_own e
    own' (If e b c) = and_from (expr_eq e e) _ (expr_own e) (and_from (nat_eq b b) _ (nat_same b) ((options numbers).own c))
    own' (Range l m s w) =
        and_from (expr_eq l l) _ (expr_own l) (and_from (expr_eq m m) _ (expr_own m) (and_from (expr_eq s s) _ (expr_own s) (loops.own w)))
    own' (Each w) = loops.own w
    own' (Wait hs b) = and_from (pointwise header_eq hs hs) _ ((lists headers).own hs) (nat_same b)

entries : Exact entry_eq
entries = record { sound = sound'; own = own' }
  where
    sound' : (a b : Entry) → entry_eq a b ≡ true → a ≡ b
    sound' a b h =
        let t1 = and_parts (nat_eq a.node b.node) _ h in
        let t2 = and_parts (nat_eq a.at b.at) _ t1.1 in
        let t3 = and_parts (nat_eq a.offset b.offset) _ t2.1 in
        let t4 = and_parts (int_eq a.priority b.priority) _ t3.1 in
        let t5 = and_parts (pointwise need_eq a.needs b.needs) _ t4.1 in
        let t6 = and_parts (act_eq a.act b.act) _ t5.1 in
        let t7 = and_parts (pointwise name_eq a.reads b.reads) _ t6.1 in
        let node' = nat_sound a.node b.node t1.0 in
        let at' = nat_sound a.at b.at t2.0 in
        let mark' = nat_sound a.offset b.offset t3.0 in
        let priority' = integers.sound a.priority b.priority t4.0 in
        let needs' = (lists needs).sound a.needs b.needs t5.0 in
        let act' = acts.sound a.act b.act t6.0 in
        let reads' = (lists names).sound a.reads b.reads t7.0 in
        let writes' = (lists names).sound a.writes b.writes t7.1 in
        λ i. record { node = node' i; at = at' i; offset = mark' i; priority = priority' i; needs = needs' i; act = act' i; reads = reads' i; writes = writes' i }

    own' : (a : Entry) → entry_eq a a ≡ true
    own' a =
        and_from (nat_eq a.node a.node) _ (nat_same a.node)
        (and_from (nat_eq a.at a.at) _ (nat_same a.at)
        (and_from (nat_eq a.offset a.offset) _ (nat_same a.offset)
        (and_from (int_eq a.priority a.priority) _ (integers.own a.priority)
        (and_from (pointwise need_eq a.needs a.needs) _ ((lists needs).own a.needs)
        (and_from (act_eq a.act a.act) _ (acts.own a.act)
        (and_from (pointwise name_eq a.reads a.reads) _ ((lists names).own a.reads) ((lists names).own a.writes)))))))

elements : Exact element_eq
elements = record { sound = sound'; own = own' }
  where
    sound' : (a b : Key × Scalar) → element_eq a b ≡ true → a ≡ b
    sound' a b h =
        let t = and_parts (same_key a.0 b.0) _ h in
        let x = same_key-eq a.0 b.0 t.0 in
        let y = scalars.sound a.1 b.1 t.1 in
        λ i. (x i, y i)

    own' : (a : Key × Scalar) → element_eq a a ≡ true
    own' a = and_from (same_key a.0 a.0) _ (same_key-refl a.0) (scalars.own a.1)

answers : Exact answer_eq
answers = record { sound = sound'; own = own' }
  where
    sound' : (a b : Answer Key Scalar) → answer_eq a b ≡ true → a ≡ b
    sound' (Found v) (Found w) h = ap Found (scalars.sound v w h)
    sound' Missing Missing h = refl
    sound' (Content xs) (Content ys) h = ap Content ((lists elements).sound xs ys h)
    sound' _ _ h = absurd (cc)

    own' : (a : Answer Key Scalar) → answer_eq a a ≡ true
    own' (Found v) = scalars.own v
    own' Missing = refl
    own' (Content xs) = (lists elements).own xs

-- no expression is the same as no others alone
pub no_exprs : (es : List Written) → exprs_eq (exprs_view []) (exprs_view es) ≡ (length es == 0)
no_exprs [] = refl
no_exprs (e ∷ es) = let past : false ≡ (suc (length es) == 0) = grind arith in past

-- the same entry, and the same answers
pub same_entry : (e f : Entry) → Decides (entry_eq e f) (e ≡ f)
same_entry = decides entries

pub same_answers : (xs ys : List (Answer Key Scalar)) → Decides (pointwise answer_eq xs ys) (xs ≡ ys)
same_answers = decides (lists answers)
