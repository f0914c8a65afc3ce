-- What an expression of a well typed script reads: the names that its outline has, and the names in the cells that it makes.
use Rattle.std.specs.Prelude.{◌≡◌, ◌⊎◌, ℕ, List, [], ◌∷◌, ◌++◌, refl}
use Rattle.std.proofs.Common.{inl, inr, sym, ap, subst}
use Rattle.values.specs.Operators.{Operation}
use Rattle.values.specs.declared.format.FormatPiece.{FormatPiece}
use Rattle.language.specs.declared.tree.Base.{Base}
use Rattle.language.specs.declared.tree.Operator.{Operator}
use Rattle.language.specs.declared.tree.Keys.{Keys}
use Rattle.language.specs.declared.tree.Shape.{Shape}
use Rattle.language.specs.declared.tree.Shape.TheVariants.{Scalar, Array}
use Rattle.language.specs.Core.{Owned, local, Name, here, Expr, name, whole, operator, none, also, Form, compute, read, Call, Part, inner, calls}
use Rattle.language.specs.Members.{◌∈◌, first, later}
use Rattle.language.specs.Numbers.{expression_numbers, expressions_numbers}
use Rattle.language.specs.Resolved.{Formed, Operands, Arguments, as_cell, as_operand, as_argument, with_operand, with_argument, one_operand, computes, call_form, form_of, operands_of, arguments_of, number_of, refers, call_to, variable_or_cell}
use Rattle.language.specs.Scopes.{Typ, Scope, Signature}
use Rattle.language.specs.Single.{Reads, the_name, an_operand, ReadsSome, the_first, a_later}
use Rattle.language.specs.Table.{Table, Builtin, Callee, composite, built_in}
use Rattle.language.specs.Tree.{Word, Node, Expression, expression, variable, Expressions, no_expressions, and_expression}
use Rattle.language.specs.Typing.{HasType, of_number, of_text, of_truth, of_variable, of_element, of_prefixed, of_chain, of_call, of_builtin, RestType, last_operand, next_operand, ArgumentTypes, no_argument, scalar_argument, array_argument, BuiltinType, of_strcat, of_fromint, of_toint, of_size, AllHaveType, none_left, one_more, wanted}
use Rattle.language.proofs.Members.{split_in, to_left, to_right, either}
use Rattle.assign_check.specs.Outline as outline
use Rattle.assign_check.specs.Outline.{Use, Step, uses, reading, name_read, read_in, read_all}
use Rattle.assign_check.proofs.like.Like.{Plain, no_step, read_step}

-- STEPS AND NAMES

-- a variable with none of some numbers
abbrev pub Clear : (ℕ → Type 0) → Owned → Type 0
Clear Taken x = (n : ℕ) → Taken n → x ≡ local n → ⊥

abbrev pub Counted : (ℕ → Type 0) → List ℕ → Type 0
Counted Taken ns = (n : ℕ) → n ∈ ns → Taken n

-- steps that are reads, of what is read; of variables with a taken number nothing is said
pub record Match (Taken : ℕ → Type 0) (rs : List Step) (P : Owned → Type 0) : Type 0 where
  pub plain : Plain rs [] [] []
  pub to : (u : Use) → uses u ∈ rs → P u.of
  pub from : (x : Owned) → Clear Taken x → P x → (u : Use) × (uses u ∈ rs) × (u.of ≡ x)

pub plain_append : {xs ys : List Step} {ns es : List Name} {vs : List ℕ} → Plain xs [] [] [] → Plain ys ns es vs → Plain (xs ++ ys) ns es vs
plain_append no_step q = q
plain_append (read_step h p) q = read_step h (plain_append p q)

pub match_none : {Taken : ℕ → Type 0} {P : Owned → Type 0} → ((x : Owned) → P x → ⊥) → Match Taken [] P
match_none f = record { plain = no_step; to = λ u m. elim m [ ]; from = λ x d p. absurd (f x p) }

pub match_same : {Taken : ℕ → Type 0} {rs : List Step} {P Q : Owned → Type 0} → ((x : Owned) → P x → Q x) → ((x : Owned) → Clear Taken x → Q x → P x) → Match Taken rs P
    → Match Taken rs Q
match_same f g m = record { plain = m.plain; to = λ u i. f u.of (m.to u i); from = λ x d q. m.from x d (g x d q) }

pub match_both : {Taken : ℕ → Type 0} {rs qs : List Step} {P Q : Owned → Type 0} → Match Taken rs P → Match Taken qs Q → Match Taken (rs ++ qs) (λ x. P x ⊎ Q x)
match_both {rs = rs} {qs = qs} m k = record {
  plain = plain_append m.plain k.plain;
  to = λ u i. elim (either rs qs i) [ inl a ↦ inl (m.to u a) | inr b ↦ inr (k.to u b) ];
  from = λ x d p. elim p [
    | inl a ↦ (let r = m.from x d a in (r.0, to_left rs qs r.1, r.2))
    | inr b ↦ (let r = k.from x d b in (r.0, to_right rs qs r.1, r.2))
  ];
}

-- a name as it stands
pub match_use : {Taken : ℕ → Type 0} (t : Table) (w : Word) {P : Owned → Type 0} → P (t.name_of w.number).what
    → ((x : Owned) → P x → (t.name_of w.number).what ≡ x) → Match Taken (reading Scalar t w) P
match_use t w {P} p f = record {
  plain = read_step refl no_step;
  to = λ u i. one i;
  from = λ x d q. (record { kind = outline.read; of = (t.name_of w.number).what; span = w.span }, first, f x q);
}
  where
    one : {u : Use} → uses u ∈ reading Scalar t w → P u.of
    one first = p
    one (later m) = elim m [ ]

pub match_name : {Taken : ℕ → Type 0} (t : Table) (w : Word) {P : Owned → Type 0} → t.shape_of w.number ≡ Scalar → P (t.name_of w.number).what
    → ((x : Owned) → P x → (t.name_of w.number).what ≡ x) → Match Taken (name_read t w) P
match_name {Taken} t w {P} e p f = subst (λ (s : Shape). Match Taken (reading s t w) P) (sym e) (match_use t w p f)

-- an array's name reads no scalar
pub match_array : {Taken : ℕ → Type 0} (t : Table) (w : Word) {P : Owned → Type 0} {κ : Keys} → t.shape_of w.number ≡ Array κ → ((x : Owned) → P x → ⊥) → Match Taken (name_read t w) P
match_array {Taken} t w {P} e f = subst (λ (s : Shape). Match Taken (reading s t w) P) (sym e) (match_none f)

-- PARTS

-- a variable is read in a cell among parts
pub record InParts (x : Owned) (ps : List Part) : Type 0 where
  pub node : ℕ
  pub expr : Expr
  pub there : inner (record { node = node; form = compute expr }) ∈ ps
  pub reads : Reads x expr

abbrev pub InForm : Owned → Form → Type 0
InForm x (compute e) = Reads x e
InForm x (read a i) = ⊥

abbrev pub InFormed : Owned → Formed → Type 0
InFormed x f = InParts x f.0 ⊎ InForm x f.1

abbrev pub InOperand : Owned → (List Part × Expr) → Type 0
InOperand x o = InParts x o.0 ⊎ Reads x o.1

abbrev pub InOperands : Owned → Operands → Type 0
InOperands x o = InParts x o.0 ⊎ ReadsSome x o.1

pub no_parts : {x : Owned} → InParts x [] → ⊥
no_parts h = elim h.there [ ]

pub parts_left : {x : Owned} (ps qs : List Part) → InParts x ps → InParts x (ps ++ qs)
parts_left ps qs h = record { node = h.node; expr = h.expr; there = to_left ps qs h.there; reads = h.reads }

pub parts_right : {x : Owned} (ps qs : List Part) → InParts x qs → InParts x (ps ++ qs)
parts_right ps qs h = record { node = h.node; expr = h.expr; there = to_right ps qs h.there; reads = h.reads }

pub parts_either : {x : Owned} (ps qs : List Part) → InParts x (ps ++ qs) → InParts x ps ⊎ InParts x qs
parts_either ps qs h = elim (either ps qs h.there) [
  | inl i ↦ inl (record { node = h.node; expr = h.expr; there = i; reads = h.reads })
  | inr i ↦ inr (record { node = h.node; expr = h.expr; there = i; reads = h.reads })
]

-- a cell before parts
pub cell_first : {x : Owned} (n : ℕ) (f : Form) (ps : List Part) → InForm x f → InParts x (inner (record { node = n; form = f }) ∷ ps)
cell_first n (compute e) ps r = record { node = n; expr = e; there = first; reads = r }
cell_first n (read a i) ps r = absurd r

abbrev part_form : Part → Form
part_form (inner c) = c.form
part_form (calls c) = compute (name (here 0))

pub cell_split : {x : Owned} (n : ℕ) (f : Form) (ps : List Part) → InParts x (inner (record { node = n; form = f }) ∷ ps) → InForm x f ⊎ InParts x ps
cell_split {x} n f ps h = elim (split_in h.there) [
  | inl e ↦ inl (subst (λ (g : Form). InForm x g) (ap (λ (p : Part). part_form p) e) h.reads)
  | inr i ↦ inr (record { node = h.node; expr = h.expr; there = i; reads = h.reads })
]

pub call_split : {x : Owned} (ps : List Part) (c : Call) → InParts x (ps ++ calls c ∷ []) → InParts x ps
call_split ps c h = elim (parts_either ps (calls c ∷ []) h) [
  | inl i ↦ i
  | inr i ↦ elim (split_in i.there) [ inl e ↦ absurd (cc (e)) | inr m ↦ elim m [ ] ]
]

-- a cell of its own
pub into_cell : {x : Owned} (n : ℕ) (f : Formed) → InFormed x f → InParts x (as_cell n f)
into_cell n f (inl i) = parts_left f.0 (inner (record { node = n; form = f.1 }) ∷ []) i
into_cell n f (inr r) = parts_right f.0 (inner (record { node = n; form = f.1 }) ∷ []) (cell_first n f.1 [] r)

pub from_cell : {x : Owned} (n : ℕ) (f : Formed) → InParts x (as_cell n f) → InFormed x f
from_cell n f h = elim (parts_either f.0 (inner (record { node = n; form = f.1 }) ∷ []) h) [
  | inl i ↦ inl i
  | inr i ↦ elim (cell_split n f.1 [] i) [ inl r ↦ inr r | inr j ↦ absurd (no_parts j) ]
]

pub match_cell : {Taken : ℕ → Type 0} {rs : List Step} (n : ℕ) (f : Formed) → Match Taken rs (λ x. InFormed x f) → Match Taken rs (λ x. InParts x (as_cell n f))
match_cell n f m = match_same (λ x p. into_cell n f p) (λ x d q. from_cell n f q) m

-- OPERANDS

as_operand_of : {Taken : ℕ → Type 0} {rs : List Step} (n : ℕ) (f : Formed) → Taken n → Match Taken rs (λ x. InFormed x f) → Match Taken rs (λ x. InOperand x (as_operand n f))
as_operand_of n (ps, compute e) k m = m
as_operand_of {Taken} n (ps, read a i) k m = match_same (λ x p. inl (into_cell n (ps, read a i) p)) (λ x d q. back d q) m
  where
    back : {x : Owned} → Clear Taken x → InOperand x (as_operand n (ps, read a i)) → InFormed x (ps, read a i)
    back d (inl h) = from_cell n (ps, read a i) h
    back d (inr (the_name e)) = absurd (d n k (sym e))

more_operands : {Taken : ℕ → Type 0} {rs qs : List Step} (o : List Part × Expr) (os : Operands) → Match Taken rs (λ x. InOperand x o) → Match Taken qs (λ x. InOperands x os)
    → Match Taken (rs ++ qs) (λ x. InOperands x (with_operand o os))
more_operands (ps, e) (qs, es) m k = match_same (λ x p. to p) (λ x d q. from q) (match_both m k)
  where
    to : {x : Owned} → (InOperand x (ps, e) ⊎ InOperands x (qs, es)) → InOperands x (ps ++ qs, also e es)
    to (inl (inl h)) = inl (parts_left ps qs h)
    to (inl (inr r)) = inr (the_first r)
    to (inr (inl h)) = inl (parts_right ps qs h)
    to (inr (inr r)) = inr (a_later r)

    from : {x : Owned} → InOperands x (ps ++ qs, also e es) → (InOperand x (ps, e) ⊎ InOperands x (qs, es))
    from (inl h) = elim (parts_either ps qs h) [ inl i ↦ inl (inl i) | inr i ↦ inr (inl i) ]
    from (inr (the_first r)) = inl (inr r)
    from (inr (a_later r)) = inr (inr r)

no_operands : {Taken : ℕ → Type 0} → Match Taken [] (λ x. InOperands x ([], none))
no_operands = match_none (λ x p. elim p [ inl h ↦ no_parts h | inr r ↦ elim r [ ] ])

pub computed : {Taken : ℕ → Type 0} {rs : List Step} (o : Operation) (os : Operands) → Match Taken rs (λ x. InOperands x os) → Match Taken rs (λ x. InFormed x (computes o os))
computed o (ps, es) m = match_same (λ x p. to p) (λ x d q. from q) m
  where
    to : {x : Owned} → InOperands x (ps, es) → InFormed x (ps, compute (operator o es))
    to (inl h) = inl h
    to (inr r) = inr (an_operand r)

    from : {x : Owned} → InFormed x (ps, compute (operator o es)) → InOperands x (ps, es)
    from (inl h) = inl h
    from (inr (an_operand r)) = inr r

only_operand : {Taken : ℕ → Type 0} {rs : List Step} (o : List Part × Expr) → Match Taken rs (λ x. InOperand x o) → Match Taken rs (λ x. InOperands x (one_operand o))
only_operand (ps, e) m = match_same (λ x p. to p) (λ x d q. from q) m
  where
    to : {x : Owned} → InOperand x (ps, e) → InOperands x (ps, also e none)
    to (inl h) = inl h
    to (inr r) = inr (the_first r)

    from : {x : Owned} → InOperands x (ps, also e none) → InOperand x (ps, e)
    from (inl h) = inl h
    from (inr (the_first r)) = inr r
    from (inr (a_later r)) = elim r [ ]

-- EXPRESSIONS

-- all are types of scalars
abbrev pub AllOne : List Typ → Type 0
AllOne [] = Unit {0}
AllOne (τ ∷ τs) = (τ.shape ≡ Scalar) × AllOne τs

pub wanted_one : (ps : List FormatPiece) → AllOne (wanted ps)
wanted_one [] = tt
wanted_one (FormatPiece.Byte c ∷ ps) = wanted_one ps
wanted_one (FormatPiece.Number ∷ ps) = (refl, wanted_one ps)
wanted_one (FormatPiece.Text ∷ ps) = (refl, wanted_one ps)

-- a scalar argument of a composite call is a cell
argument_cell : {fs : List Signature} {t : Table} {g : Scope} {e : Expression} {b : Base} → HasType fs t g e b → (f : Formed) → as_argument t e f ≡ (as_cell (number_of e) f, here (number_of e))
argument_cell of_number f = refl
argument_cell of_text f = refl
argument_cell of_truth f = refl
argument_cell {t = t} (of_variable {nd = nd} {w = w} r) f = ap (λ (s : Shape). variable_or_cell s t w nd.number f) r.shaped
argument_cell (of_element r h) f = refl
argument_cell (of_prefixed p h) f = refl
argument_cell (of_chain h k) f = refl
argument_cell (of_call c h e) f = refl
argument_cell (of_builtin c h) f = refl

-- arguments, with the parts that they are
abbrev pub InArguments : Owned → Arguments → Type 0
InArguments x a = InParts x a.0

more_arguments : {Taken : ℕ → Type 0} {rs qs : List Step} (a : List Part × Name) (bs : Arguments) → Match Taken rs (λ x. InParts x a.0) → Match Taken qs (λ x. InArguments x bs)
    → Match Taken (rs ++ qs) (λ x. InArguments x (with_argument a bs))
more_arguments (ps, y) (qs, ys) m k = match_same (λ x p. to p) (λ x d q. parts_either ps qs q) (match_both m k)
  where
    to : {x : Owned} → (InParts x ps ⊎ InParts x qs) → InParts x (ps ++ qs)
    to (inl h) = parts_left ps qs h
    to (inr h) = parts_right ps qs h

-- a call of a function of the script: its arguments' parts, and its output, which no statement declares
composite_reads : {Taken : ℕ → Type 0} {rs : List Step} (t : Table) (w : Word) (i : ℕ) (es : Expressions) (xs : Arguments) (os : Operands) → Taken w.number
    → Match Taken rs (λ x. InArguments x xs) → Match Taken rs (λ x. InFormed x (call_form t w (composite i) es xs os))
composite_reads {Taken} t w i es (ps, xs) os k m = match_same (λ x p. inl (parts_left ps (calls (call_to w i xs (here w.number ∷ [])) ∷ []) p)) (λ x d q. from d q) m
  where
    from : {x : Owned} → Clear Taken x → InFormed x (call_form t w (composite i) es (ps, xs) os) → InParts x ps
    from d (inl h) = call_split ps (call_to w i xs (here w.number ∷ [])) h
    from d (inr (the_name e)) = absurd (d w.number k (sym e))

own_number : (e : Expression) → number_of e ∈ expression_numbers e
own_number (expression nd f) = first

no_whole : {x : Owned} {y : Name} {o : Operation} {A : Type 0} → Reads x (operator o (also (whole y) none)) → A
no_whole (an_operand (the_first r)) = elim r [ ]
no_whole (an_operand (a_later r)) = elim r [ ]

array_cell : {κ : Keys} (t : Table) (nd : Node) (w : Word) → t.shape_of w.number ≡ Array κ → as_argument t (expression nd (variable w)) (form_of t (expression nd (variable w))) ≡ ([], refers t w)
array_cell t nd w e = ap (λ (s : Shape). variable_or_cell s t w nd.number (form_of t (expression nd (variable w)))) e

match_none_behind : {Taken : ℕ → Type 0} {rs : List Step} {P : Owned → Type 0} → Match Taken rs P → Match Taken (rs ++ []) P
match_none_behind {rs = rs} {P = P} m = match_same (λ x p. elim p [ inl h ↦ h | inr z ↦ absurd z ]) (λ x d q. inl q) (match_both {Q = λ x. ⊥} m (match_none (λ x z. z)))

module _ (Taken : ℕ → Type 0) (fs : List Signature) (t : Table) (g : Scope) where
  operand_from : (e : Expression) → Counted Taken (expression_numbers e) → Match Taken (read_in t e) (λ x. InFormed x (form_of t e))
      → Match Taken (read_in t e) (λ x. InOperand x (as_operand (number_of e) (form_of t e)))
  operand_from e k m = as_operand_of (number_of e) (form_of t e) (k (number_of e) (own_number e)) m

  one_operand_of : (e : Expression) → Counted Taken (expression_numbers e) → Match Taken (read_in t e) (λ x. InFormed x (form_of t e))
      → Match Taken (read_all t (and_expression e no_expressions)) (λ x. InOperands x (operands_of t (and_expression e no_expressions)))
  one_operand_of e k m = more_operands (as_operand (number_of e) (form_of t e)) ([], none) (operand_from e k m) no_operands

  mutual
    pub reading_of : {e : Expression} {b : Base} → HasType fs t g e b → Counted Taken (expression_numbers e) → Match Taken (read_in t e) (λ x. InFormed x (form_of t e))
    reading_of of_number k = match_none (λ x p. elim p [ inl h ↦ no_parts h | inr r ↦ elim r [ ] ])
    reading_of of_text k = match_none (λ x p. elim p [ inl h ↦ no_parts h | inr r ↦ elim r [ ] ])
    reading_of of_truth k = match_none (λ x p. elim p [ inl h ↦ no_parts h | inr r ↦ elim r [ ] ])
    reading_of (of_variable {w = w} r) k = match_name t w r.shaped (inr (the_name refl)) (λ x p. one p)
      where
        one : {x : Owned} {y : Name} → InFormed x ([], compute (name y)) → y.what ≡ x
        one (inl h) = absurd (no_parts h)
        one (inr (the_name e)) = e
    reading_of (of_element {i = i} r h) k =
        match_same (λ x p. inl p) (λ x d q. elim q [ inl p ↦ p | inr z ↦ absurd z ]) (match_cell (number_of i) (form_of t i) (reading_of h (λ n m. k n (later (later m)))))
    reading_of (of_prefixed {e = e} p h) k = computed _ (one_operand (as_operand (number_of e) (form_of t e))) (only_operand (as_operand (number_of e) (form_of t e)) (operand_from e (λ n m. k n (later m)) (reading_of h (λ n m. k n (later m)))))
    reading_of (of_chain {os = os} {e = e} {es = es} h r) k =
        computed _ (operands_of t (and_expression e es))
        (more_operands (as_operand (number_of e) (form_of t e)) (operands_of t es) (operand_from e (λ n m. k n (later (to_left (expression_numbers e) (expressions_numbers es) m))) (reading_of h (λ n m. k n (later (to_left (expression_numbers e) (expressions_numbers es) m)))))
        (rest_of r (λ n m. k n (later (to_right (expression_numbers e) (expressions_numbers es) m)))))
    reading_of (of_call {w = w} {es = es} c h e) k =
        subst (λ (a : Callee). Match Taken (read_all t es) (λ x. InFormed x (call_form t w a es (arguments_of t es) (operands_of t es)))) (sym c.named)
        (composite_reads t w c.place es (arguments_of t es) (operands_of t es) (k w.number (later first)) (arguments_read h (λ n m. k n (later (later m)))))
    reading_of (of_builtin {w = w} {es = es} {f = f} c h) k =
        subst (λ (a : Callee). Match Taken (read_all t es) (λ x. InFormed x (call_form t w a es (arguments_of t es) (operands_of t es)))) (sym c.named)
        (builtin_of w h (λ n m. k n (later (later m))))

    rest_of : {os : List Operator} {es : Expressions} {b c : Base} → RestType fs t g os es b c → Counted Taken (expressions_numbers es)
        → Match Taken (read_all t es) (λ x. InOperands x (operands_of t es))
    rest_of (last_operand {e = e} o h) k =
        more_operands (as_operand (number_of e) (form_of t e)) ([], none) (operand_from e (λ n m. k n (to_left (expression_numbers e) [] m)) (reading_of h (λ n m. k n (to_left (expression_numbers e) [] m)))) no_operands
    rest_of (next_operand {e = e} {es = es} o h r) k =
        more_operands (as_operand (number_of e) (form_of t e)) (operands_of t es) (operand_from e (λ n m. k n (to_left (expression_numbers e) (expressions_numbers es) m)) (reading_of h (λ n m. k n (to_left (expression_numbers e) (expressions_numbers es) m))))
        (rest_of r (λ n m. k n (to_right (expression_numbers e) (expressions_numbers es) m)))

    pub all_of : {es : Expressions} {b : Base} → AllHaveType fs t g es b → Counted Taken (expressions_numbers es) → Match Taken (read_all t es) (λ x. InOperands x (operands_of t es))
    all_of none_left k = no_operands
    all_of (one_more {e = e} {es = es} h r) k =
        more_operands (as_operand (number_of e) (form_of t e)) (operands_of t es) (operand_from e (λ n m. k n (to_left (expression_numbers e) (expressions_numbers es) m)) (reading_of h (λ n m. k n (to_left (expression_numbers e) (expressions_numbers es) m))))
        (all_of r (λ n m. k n (to_right (expression_numbers e) (expressions_numbers es) m)))

    pub arguments_read : {es : Expressions} {τs : List Typ} → ArgumentTypes fs t g es τs → Counted Taken (expressions_numbers es) → Match Taken (read_all t es) (λ x. InArguments x (arguments_of t es))
    arguments_read no_argument k = match_none (λ x p. no_parts p)
    arguments_read (scalar_argument {e = e} {es = es} h r) k =
        more_arguments (as_argument t e (form_of t e)) (arguments_of t es)
        (subst (λ (a : List Part × Name). Match Taken (read_in t e) (λ x. InParts x a.0)) (sym (argument_cell h (form_of t e)))
        (match_cell (number_of e) (form_of t e) (reading_of h (λ n m. k n (to_left (expression_numbers e) (expressions_numbers es) m)))))
        (arguments_read r (λ n m. k n (to_right (expression_numbers e) (expressions_numbers es) m)))
    arguments_read (array_argument {nd = nd} {w = w} {es = es} r h) k =
        more_arguments (as_argument t (expression nd (variable w)) (form_of t (expression nd (variable w)))) (arguments_of t es)
        (match_array t w r.shaped (λ x p. no_parts (subst (λ (a : List Part × Name). InParts x a.0) (array_cell t nd w r.shaped) p)))
        (arguments_read h (λ n m. k n (to_right (expression_numbers (expression nd (variable w))) (expressions_numbers es) m)))

    pub builtin_of : (w : Word) {f : Builtin} {es : Expressions} {b : Base} → BuiltinType fs t g f es b → Counted Taken (expressions_numbers es)
        → Match Taken (read_all t es) (λ x. InFormed x (call_form t w (built_in f) es (arguments_of t es) (operands_of t es)))
    builtin_of w (of_strcat {e = e} {es = es} h) k = computed _ (operands_of t (and_expression e es)) (all_of h k)
    builtin_of w (of_fromint {e = e} h) k = computed _ (operands_of t (and_expression e no_expressions)) (one_operand_of e (λ n m. k n (to_left (expression_numbers e) [] m)) (reading_of h (λ n m. k n (to_left (expression_numbers e) [] m))))
    builtin_of w (of_toint {e = e} h) k = computed _ (operands_of t (and_expression e no_expressions)) (one_operand_of e (λ n m. k n (to_left (expression_numbers e) [] m)) (reading_of h (λ n m. k n (to_left (expression_numbers e) [] m))))
    builtin_of w (of_size {nd = nd} {w = v} r) k =
        match_same (λ x p. absurd p) (λ x d q. elim q [ inl h ↦ absurd (no_parts h) | inr z ↦ no_whole z ]) (match_none_behind (match_array t v r.shaped (λ x z. z)))

  -- arguments that are all scalars, as operands
  pub each_of : {es : Expressions} {τs : List Typ} → ArgumentTypes fs t g es τs → AllOne τs → Counted Taken (expressions_numbers es)
      → Match Taken (read_all t es) (λ x. InOperands x (operands_of t es))
  each_of no_argument a k = no_operands
  each_of (scalar_argument {e = e} {es = es} h r) a k =
      more_operands (as_operand (number_of e) (form_of t e)) (operands_of t es)
      (operand_from e (λ n m. k n (to_left (expression_numbers e) (expressions_numbers es) m)) (reading_of h (λ n m. k n (to_left (expression_numbers e) (expressions_numbers es) m))))
      (each_of r a.1 (λ n m. k n (to_right (expression_numbers e) (expressions_numbers es) m)))
  each_of (array_argument r h) a k = absurd (cc (a.0))
