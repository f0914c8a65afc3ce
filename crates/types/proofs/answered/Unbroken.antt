-- An expression that is well typed breaks no rule.
use Rattle.std.proofs.Common.{◌≡◌, ℕ, List, [], ◌∷◌, length, map, refl, sym, ap, ◌∙◌, subst}
use Rattle.std.specs.Prelude.{Option, Some, zero, suc, slice_get}
use Rattle.types.specs.declared.fault.TypeFault.{TypeFault}
use Rattle.language.specs.declared.tree.Base.{Base}
use Rattle.language.specs.declared.tree.Base.TheVariants.{Int}
use Rattle.language.specs.declared.tree.Keys.{Keys}
use Rattle.language.specs.declared.tree.Shape.{Shape}
use Rattle.language.specs.declared.tree.Shape.TheVariants.{Scalar, Array}
use Rattle.language.specs.declared.tree.Operator.{Operator}
use Rattle.language.specs.Members.{◌∈◌, first, later}
use Rattle.language.specs.Tree.{Word, Node, Expression, expression, number, text, truth, variable, element, prefixed, chain, Expressions, no_expressions, and_expression}
use Rattle.language.specs.Tree as tree
use Rattle.language.specs.Table.{Table, Builtin, builtin_text, strcat, fromint, toint, size, printf, assert}
use Rattle.language.specs.Kinds.{base_of_keys}
use Rattle.language.specs.Scopes.{Typ, one_of, many_of, Visible, Scope, Signature, Refers, Calls, CallsBuiltin, IsBuiltinName}
use Rattle.language.specs.Typing as rules
use Rattle.language.specs.Typing.{Operates, HasType, RestType, ArgumentTypes, BuiltinType, AllHaveType}
use Rattle.types.specs.Typed.{builtin_name}
use Rattle.types.specs.Names.{builtin_of}
use Rattle.types.specs.declared.typed.Builtin as typed
use Rattle.types.specs.declared.typed.Builtin.TheVariants as Named
use Rattle.types.specs.Expressions.{count}
use Rattle.types.specs.Wants.{OfType, value_of, Outputs, of_function, of_builtin, Gives, gives_number, gives_text, gives_truth, gives_variable, gives_element, gives_prefixed, gives_chain, gives_call, Want, of_type, Meets, each, argument, BuiltinTakes, strcat_takes, fromint_takes, toint_takes, size_takes, Takes, function_takes, builtin_takes}
use Rattle.types.specs.Breaks.{Purpose, giving, used, call, expects, as_array, BuiltinCounts, Counts, Broken, unknown, wrong_count, wrong_count_of_builtin, wrong_count_of_conversions, no_format, no_function, wrong_type, no_array, InExpression, its_name, its_array, its_elements, its_index, its_operand, no_operators, first_operand, in_first_operand, its_operands, its_call, its_arguments, InOperands, its_operator, next_operand, behind_operand, InWanted, itself, within, InExpressions, first_expression, later_expression}
use Rattle.types.proofs.accepted.Typing.{gives_complete, base_complete}
use Rattle.types.proofs.answered.Breaks.{Breaking}

-- NAMES OF ONE MEANING

-- visible variables of one name have one type
abbrev pub Clear : Scope → Type 0
Clear g = (v u : Visible) → v ∈ g → u ∈ g → v.text ≡ u.text → v.type ≡ u.type

pub refers_type : {g : Scope} {t : Table} {w : Word} {τ : Typ} → Refers g t w τ → OfType g w τ
refers_type r = (r.variable, r.visible, r.same, r.typed)

pub type_once : (g : Scope) (w : Word) (τ σ : Typ) → Clear g → OfType g w τ → OfType g w σ → τ ≡ σ
type_once g w τ σ clear a b = sym a.3 ∙ clear a.0 b.0 a.1 b.1 (a.2 ∙ sym b.2) ∙ b.3

-- the type of an index of what has a type
abbrev index_by : Shape → Base
index_by Scalar = Int
index_by (Array κ) = base_of_keys κ

abbrev pub index_of : Typ → Base
index_of τ = index_by τ.shape

in_at : (fs : List Signature) (p : ℕ) (f : Signature) → slice_get fs p ≡ Some f → f ∈ fs
in_at [] p f is = absurd (cc)
in_at (h ∷ hs) zero f is = let same : h ≡ f = cc in subst (λ (x : Signature). x ∈ (h ∷ hs)) same first
in_at (h ∷ hs) (suc p) f is = later (in_at hs p f is)

pub called_in : {fs : List Signature} {t : Table} {w : Word} {f : Signature} → Calls fs t w f → f ∈ fs
called_in {fs} {f = f} calls = in_at fs calls.place f calls.there

-- functions of one name are one, and none has the name of a built-in one
abbrev pub OneOfAName : List Signature → Type 0
OneOfAName fs = ((f h : Signature) → f ∈ fs → h ∈ fs → f.text ≡ h.text → f ≡ h) × ((f : Signature) → f ∈ fs → ¬ IsBuiltinName f.text)

pub function_once : (fs : List Signature) (f h : Signature) → OneOfAName fs → f ∈ fs → h ∈ fs → f.text ≡ h.text → f ≡ h
function_once fs f h one a b same = one.0 f h a b same

pub no_builtin_in : (fs : List Signature) (f : Signature) (b : Builtin) → OneOfAName fs → f ∈ fs → ¬ (f.text ≡ builtin_text b)
no_builtin_in fs f b one m same = one.1 f m (b, same)

-- a built-in function of the rules, as the check names it
abbrev named_builtin : Builtin → typed.Builtin
named_builtin strcat = Named.Strcat
named_builtin fromint = Named.FromInt
named_builtin toint = Named.ToInt
named_builtin size = Named.Size
named_builtin printf = Named.Printf
named_builtin assert = Named.Assert

builtin_text_of : (f : Builtin) → builtin_of (builtin_text f) ≡ Some (named_builtin f)
builtin_text_of strcat = refl
builtin_text_of fromint = refl
builtin_text_of toint = refl
builtin_text_of size = refl
builtin_text_of printf = refl
builtin_text_of assert = refl

back_named : (f : Builtin) → builtin_name (named_builtin f) ≡ f
back_named strcat = refl
back_named fromint = refl
back_named toint = refl
back_named size = refl
back_named printf = refl
back_named assert = refl

pub builtin_once : (f h : Builtin) → builtin_text f ≡ builtin_text h → f ≡ h
builtin_once f h same =
    let both : Some (named_builtin f) ≡ Some (named_builtin h) = sym (builtin_text_of f) ∙ ap builtin_of same ∙ builtin_text_of h in
    let named : named_builtin f ≡ named_builtin h = cc in
    sym (back_named f) ∙ ap builtin_name named ∙ back_named h

-- TYPES

pub some_once : {X : Type 0} {a b : X} {o : Option X} → o ≡ Some a → o ≡ Some b → a ≡ b
some_once x y = let both : Some _ ≡ Some _ = sym x ∙ y in cc

pub outputs_once : (fs : List Signature) (name : List ℕ) (τs σs : List Typ) → OneOfAName fs → Outputs fs name τs → Outputs fs name σs → τs ≡ σs
outputs_once fs name τs σs one (of_function f m same outs) (of_function h k also outs') =
    let it = function_once fs f h one m k (same ∙ sym also) in sym outs ∙ ap (λ (x : Signature). x.outputs) it ∙ outs'
outputs_once fs name τs σs one (of_function f m same outs) (of_builtin h also value) = absurd (no_builtin_in fs f h one m (same ∙ also))
outputs_once fs name τs σs one (of_builtin f same value) (of_function h k also outs) = absurd (no_builtin_in fs h f one k (also ∙ same))
outputs_once fs name τs σs one (of_builtin {b = b} f same value) (of_builtin {b = c} h also value') =
    let it = builtin_once f h (sym same ∙ also) in
    ap (λ (x : Base). one_of x ∷ []) (some_once (ap value_of (sym it) ∙ value) value')

base_of_one : (b c : Base) → one_of b ≡ one_of c → b ≡ c
base_of_one b c same = ap (λ (x : Typ). x.base) same

-- an expression gives one type
pub gives_once : (fs : List Signature) (g : Scope) (e : Expression) (τ σ : Typ) → OneOfAName fs → Clear g → Gives fs g e τ → Gives fs g e σ → τ ≡ σ
gives_once fs g (expression nd (number z)) τ σ one clear gives_number gives_number = refl
gives_once fs g (expression nd (text z)) τ σ one clear gives_text gives_text = refl
gives_once fs g (expression nd (truth z)) τ σ one clear gives_truth gives_truth = refl
gives_once fs g (expression nd (variable w)) τ σ one clear (gives_variable a) (gives_variable b) = type_once g w τ σ clear a b
gives_once fs g (expression nd (element w i)) τ σ one clear (gives_element {κ = κ} {b = b} x) (gives_element {κ = ι} {b = c} y) =
    ap one_of (ap (λ (x : Typ). x.base) (type_once g w (many_of κ b) (many_of ι c) clear x y))
gives_once fs g (expression nd (prefixed p e)) τ σ one clear (gives_prefixed {b = b} x) (gives_prefixed {b = c} y) = ap one_of (sym (base_complete p b x) ∙ base_complete p c y)
gives_once fs g (expression nd (chain [] ds)) τ σ one clear x y = elim x [ ]
gives_once fs g (expression nd (chain (o ∷ os) no_expressions)) τ σ one clear x y = elim x [ ]
gives_once fs g (expression nd (chain (o ∷ os) (and_expression e es))) τ σ one clear (gives_chain {b = b} {c = c} x rule) (gives_chain {b = b'} {c = c'} y rule') =
    let it = base_of_one b b' (gives_once fs g e (one_of b) (one_of b') one clear x y) in
    ap one_of (some_once (gives_complete o b c rule) (gives_complete o b c' (subst (λ (z : Base). Operates o z c') (sym it) rule')))
gives_once fs g (expression nd (tree.call w es)) τ σ one clear (gives_call x) (gives_call y) =
    let both = outputs_once fs w.text (τ ∷ []) (σ ∷ []) one x y in cc

pub builtin_value_of : {fs : List Signature} {t : Table} {g : Scope} {f : Builtin} {es : Expressions} {b : Base} → BuiltinType fs t g f es b → value_of f ≡ Some b
builtin_value_of (rules.of_strcat x) = refl
builtin_value_of (rules.of_fromint x) = refl
builtin_value_of (rules.of_toint x) = refl
builtin_value_of (rules.of_size x) = refl

-- the type that an expression has by the typing rules is the one that it gives
pub has_gives : {fs : List Signature} {t : Table} {g : Scope} {e : Expression} {b : Base} → HasType fs t g e b → Gives fs g e (one_of b)
has_gives rules.of_number = gives_number
has_gives rules.of_text = gives_text
has_gives rules.of_truth = gives_truth
has_gives (rules.of_variable refers) = gives_variable (refers_type refers)
has_gives (rules.of_element refers index) = gives_element (refers_type refers)
has_gives (rules.of_prefixed rule has) = gives_prefixed rule
has_gives (rules.of_chain has (rules.last_operand rule other)) = gives_chain (has_gives has) rule
has_gives (rules.of_chain has (rules.next_operand rule other rest)) = gives_chain (has_gives has) rule
has_gives (rules.of_call {f = f} calls given outs) = gives_call (of_function f (called_in calls) calls.same outs)
has_gives (rules.of_builtin {f = f} calls given) = gives_call (of_builtin f calls.same (builtin_value_of given))

-- NOTHING IS BROKEN

pub name_holds : {fs : List Signature} {t : Table} {g : Scope} {w : Word} {τ : Typ} {y : TypeFault} → Refers g t w τ → ¬ Broken fs g (used w) y
name_holds refers (unknown hidden) = hidden (refers.variable, refers.visible, refers.same)

pub array_holds : {fs : List Signature} {t : Table} {g : Scope} {w : Word} {κ : Keys} {b : Base} {y : TypeFault} → Clear g → Refers g t w (many_of κ b) → ¬ Broken fs g (as_array w) y
array_holds {g = g} {w = w} {κ = κ} {b = b} clear refers (no_array {b = c} it) =
    let same = type_once g w (many_of κ b) (one_of c) clear (refers_type refers) it in
    let shape : Array κ ≡ Scalar = ap (λ (x : Typ). x.shape) same in absurd (cc)

pub want_holds : {fs : List Signature} {g : Scope} {e : Expression} {want : Want} {τ : Typ} {y : TypeFault} → OneOfAName fs → Clear g → Gives fs g e τ → Meets want e τ → ¬ Broken fs g (expects want e) y
want_holds {fs} {g} {e} {want} {τ} one clear it meets (wrong_type {τ = σ} other not) = not (subst (Meets want e) (gives_once fs g e τ σ one clear it other) meets)

-- a call of a function with as many inputs and outputs
pub call_holds : {fs : List Signature} {t : Table} {g : Scope} {w : Word} {es : Expressions} {u : Purpose} {f : Signature} {y : TypeFault} → OneOfAName fs → Calls fs t w f → Counts f (count es) u
    → ¬ Broken fs g (call w es u) y
call_holds {fs} {w = w} {es = es} {u = u} {f = f} one calls counts (wrong_count h m same not) =
    not (subst (λ (x : Signature). Counts x (count es) u) (function_once fs f h one (called_in calls) m (calls.same ∙ sym same)) counts)
call_holds {fs} {f = f} one calls counts (wrong_count_of_builtin b same not) = no_builtin_in fs f b one (called_in calls) (calls.same ∙ same)
call_holds {fs} {f = f} one calls counts (wrong_count_of_conversions ps same has not) = no_builtin_in fs f printf one (called_in calls) (calls.same ∙ same)
call_holds {fs} {f = f} one calls counts (no_format same not) = no_builtin_in fs f printf one (called_in calls) (calls.same ∙ same)
call_holds {fs} {f = f} one calls counts (no_function none plain) = none f (called_in calls) calls.same

-- a call of a built-in function for its value
pub value_holds : {fs : List Signature} {t : Table} {g : Scope} {w : Word} {es : Expressions} {n : ℕ} {f : Builtin} {y : TypeFault} → OneOfAName fs → CallsBuiltin t w f → BuiltinCounts f (count es) (giving n)
    → ¬ Broken fs g (call w es (giving n)) y
value_holds {fs} {f = f} one calls counts (wrong_count h m same not) = no_builtin_in fs h f one m (same ∙ calls.same)
value_holds {es = es} {n = n} {f = f} one calls counts (wrong_count_of_builtin b same not) =
    not (subst (λ (x : Builtin). BuiltinCounts x (count es) (giving n)) (builtin_once f b (sym calls.same ∙ same)) counts)
value_holds {f = f} one calls counts (no_function none plain) = plain (f, calls.same)

pub many_arguments : {fs : List Signature} {t : Table} {g : Scope} {es : Expressions} {τs : List Typ} → ArgumentTypes fs t g es τs → count es ≡ length τs
many_arguments rules.no_argument = refl
many_arguments (rules.scalar_argument has others) = ap suc (many_arguments others)
many_arguments (rules.array_argument refers others) = ap suc (many_arguments others)

pub value_counts : {fs : List Signature} {t : Table} {g : Scope} {f : Builtin} {es : Expressions} {b : Base} → BuiltinType fs t g f es b → BuiltinCounts f (count es) (giving 1)
value_counts (rules.of_strcat x) = (λ none. absurd (cc), refl)
value_counts (rules.of_fromint x) = (refl, refl)
value_counts (rules.of_toint x) = (refl, refl)
value_counts (rules.of_size x) = (refl, refl)

-- the first operator behind an operand takes it
first_rule : {fs : List Signature} {t : Table} {g : Scope} {o : Operator} {os : List Operator} {es : Expressions} {b c : Base} → RestType fs t g (o ∷ os) es b c → Operates o b c
first_rule (rules.last_operand rule other) = rule
first_rule (rules.next_operand rule other rest) = rule

-- what a chain's operands are said to be is what they are
operands_same : {fs : List Signature} {g : Scope} {e : Expression} {o : Operator} {os : List Operator} {es : Expressions} {b c b' c' : Base} {y : TypeFault} → OneOfAName fs → Clear g
    → Gives fs g e (one_of b) → Operates o b c → Gives fs g e (one_of b') → Operates o b' c' → InOperands fs (Breaking fs y) g b' c' e (o ∷ os) es → InOperands fs (Breaking fs y) g b c e (o ∷ os) es
operands_same {fs} {g} {e} {o} {os} {es} {b} {c} {b'} {c'} {y} one clear has rule it rule' x =
    let same = base_of_one b' b (gives_once fs g e (one_of b') (one_of b) one clear it has) in
    let result : c' ≡ c = some_once (gives_complete o b c' (subst (λ (z : Base). Operates o z c') same rule')) (gives_complete o b c rule) in
    subst (λ (z : Base). InOperands fs (Breaking fs y) g b z e (o ∷ os) es) result (subst (λ (z : Base). InOperands fs (Breaking fs y) g z c' e (o ∷ os) es) same x)

-- what a called name takes is what the function takes
inputs_taken : {fs : List Signature} {t : Table} {w : Word} {es : Expressions} {f : Signature} {wants : List Want} → OneOfAName fs → Calls fs t w f → Takes fs w.text es wants → wants ≡ map argument f.inputs
inputs_taken {fs} {f = f} one calls (function_takes h m same) = ap (λ (z : Signature). map argument z.inputs) (function_once fs h f one m (called_in calls) (same ∙ sym calls.same))
inputs_taken {fs} {f = f} one calls (builtin_takes b same takes) = absurd (no_builtin_in fs f b one (called_in calls) (calls.same ∙ same))

pub values_taken : {fs : List Signature} {t : Table} {w : Word} {es : Expressions} {f : Builtin} {wants : List Want} → OneOfAName fs → CallsBuiltin t w f → Takes fs w.text es wants → BuiltinTakes f es wants
values_taken {fs} {f = f} one calls (function_takes h m same) = absurd (no_builtin_in fs h f one m (same ∙ calls.same))
values_taken {es = es} {f = f} {wants = wants} one calls (builtin_takes h same takes) = subst (λ (z : Builtin). BuiltinTakes z es wants) (builtin_once h f (sym same ∙ calls.same)) takes

mutual
  -- no thing of an expression that has a type
  pub expression_holds : {fs : List Signature} {t : Table} {g : Scope} {e : Expression} {b : Base} {y : TypeFault} → OneOfAName fs → Clear g → HasType fs t g e b → ¬ InExpression fs (Breaking fs y) g e
  expression_holds one clear rules.of_number x = elim x [ ]
  expression_holds one clear rules.of_text x = elim x [ ]
  expression_holds one clear rules.of_truth x = elim x [ ]
  expression_holds one clear (rules.of_variable refers) (its_name x) = name_holds refers x
  expression_holds one clear (rules.of_element refers index) (its_array x) = name_holds refers x
  expression_holds one clear (rules.of_element refers index) (its_elements x) = array_holds clear refers x
  expression_holds {g = g} one clear (rules.of_element {w = w} {κ = κ} {b = b} refers index) (its_index {κ = ι} {b = c} it (itself x)) =
      want_holds one clear (has_gives index) (ap one_of (ap index_of (type_once g w (many_of κ b) (many_of ι c) clear (refers_type refers) it))) x
  expression_holds one clear (rules.of_element refers index) (its_index it (within x)) = expression_holds one clear index x
  expression_holds one clear (rules.of_prefixed {p = p} {b = b} rule has) (its_operand {b = c} rule' (itself x)) =
      want_holds one clear (has_gives has) (ap one_of (sym (base_complete p b rule) ∙ base_complete p c rule')) x
  expression_holds one clear (rules.of_prefixed rule has) (its_operand rule' (within x)) = expression_holds one clear has x
  expression_holds one clear (rules.of_chain has rest) (no_operators x) = elim rest [ ]
  expression_holds one clear (rules.of_chain {b = b} {c = c} has rest) (first_operand x) = want_holds one clear (has_gives has) (b, refl, first_rule rest) (x c)
  expression_holds one clear (rules.of_chain has rest) (in_first_operand x) = expression_holds one clear has x
  expression_holds one clear (rules.of_chain has rest) (its_operands it rule x) = operands_hold one clear (has_gives has) rest (operands_same one clear (has_gives has) (first_rule rest) it rule x)
  expression_holds one clear (rules.of_call calls given outs) (its_call x) = call_holds one calls (sym (many_arguments given), ap length outs) x
  expression_holds {fs} {g = g} {y = y} one clear (rules.of_call {es = es} calls given outs) (its_arguments takes x) =
      arguments_hold one clear given (subst (λ (z : List Want). InExpressions fs (Breaking fs y) g z es) (inputs_taken one calls takes) x)
  expression_holds one clear (rules.of_builtin calls given) (its_call x) = value_holds one calls (value_counts given) x
  expression_holds one clear (rules.of_builtin calls given) (its_arguments takes x) = taken_hold one clear given (values_taken one calls takes) x

  -- of an operand and those behind it
  operands_hold : {fs : List Signature} {t : Table} {g : Scope} {e : Expression} {os : List Operator} {es : Expressions} {b c : Base} {y : TypeFault} → OneOfAName fs → Clear g → Gives fs g e (one_of b)
      → RestType fs t g os es b c → ¬ InOperands fs (Breaking fs y) g b c e os es
  operands_hold {b = b} one clear has (rules.last_operand rule other) (its_operator x) = want_holds one clear has (b, refl, rule) x
  operands_hold {b = b} one clear has (rules.next_operand rule other rest) (its_operator x) = want_holds one clear has (b, refl, rule) x
  operands_hold one clear has (rules.last_operand rule other) (next_operand (itself x)) = want_holds one clear (has_gives other) refl x
  operands_hold one clear has (rules.last_operand rule other) (next_operand (within x)) = expression_holds one clear other x
  operands_hold one clear has (rules.next_operand rule other rest) (next_operand (itself x)) = want_holds one clear (has_gives other) refl x
  operands_hold one clear has (rules.next_operand rule other rest) (next_operand (within x)) = expression_holds one clear other x
  operands_hold one clear has (rules.last_operand rule other) (behind_operand x) = elim x [ ]
  operands_hold one clear has (rules.next_operand rule other rest) (behind_operand x) = operands_hold one clear (has_gives other) rest x

  -- of arguments
  pub arguments_hold : {fs : List Signature} {t : Table} {g : Scope} {es : Expressions} {τs : List Typ} {y : TypeFault} → OneOfAName fs → Clear g → ArgumentTypes fs t g es τs
      → ¬ InExpressions fs (Breaking fs y) g (map argument τs) es
  arguments_hold one clear rules.no_argument x = elim x [ ]
  arguments_hold one clear (rules.scalar_argument has others) (first_expression (itself x)) = want_holds one clear (has_gives has) refl x
  arguments_hold one clear (rules.scalar_argument has others) (first_expression (within x)) = expression_holds one clear has x
  arguments_hold one clear (rules.scalar_argument has others) (later_expression x) = arguments_hold one clear others x
  arguments_hold one clear (rules.array_argument {nd = nd} {w = w} refers others) (first_expression (itself x)) = want_holds one clear (gives_variable (refers_type refers)) ((nd, w, refl), refl) x
  arguments_hold one clear (rules.array_argument refers others) (first_expression (within (its_name x))) = name_holds refers x
  arguments_hold one clear (rules.array_argument refers others) (later_expression x) = arguments_hold one clear others x

  -- of elements
  pub elements_hold : {fs : List Signature} {t : Table} {g : Scope} {es : Expressions} {b : Base} {y : TypeFault} → OneOfAName fs → Clear g → AllHaveType fs t g es b
      → ¬ InExpressions fs (Breaking fs y) g (each (of_type (one_of b)) es) es
  elements_hold one clear rules.none_left x = elim x [ ]
  elements_hold one clear (rules.one_more has others) (first_expression (itself x)) = want_holds one clear (has_gives has) refl x
  elements_hold one clear (rules.one_more has others) (first_expression (within x)) = expression_holds one clear has x
  elements_hold one clear (rules.one_more has others) (later_expression x) = elements_hold one clear others x

  -- of what a built-in function takes
  pub taken_hold : {fs : List Signature} {t : Table} {g : Scope} {es : Expressions} {f : Builtin} {b : Base} {wants : List Want} {y : TypeFault} → OneOfAName fs → Clear g
      → BuiltinType fs t g f es b → BuiltinTakes f es wants → ¬ InExpressions fs (Breaking fs y) g wants es
  taken_hold one clear (rules.of_strcat texts) strcat_takes x = elements_hold one clear texts x
  taken_hold one clear (rules.of_fromint has) fromint_takes (first_expression (itself x)) = want_holds one clear (has_gives has) refl x
  taken_hold one clear (rules.of_fromint has) fromint_takes (first_expression (within x)) = expression_holds one clear has x
  taken_hold one clear (rules.of_fromint has) fromint_takes (later_expression x) = elim x [ ]
  taken_hold one clear (rules.of_toint has) toint_takes (first_expression (itself x)) = want_holds one clear (has_gives has) refl x
  taken_hold one clear (rules.of_toint has) toint_takes (first_expression (within x)) = expression_holds one clear has x
  taken_hold one clear (rules.of_toint has) toint_takes (later_expression x) = elim x [ ]
  taken_hold one clear (rules.of_size {nd = nd} {w = w} {κ = κ} refers) size_takes (first_expression (itself x)) = want_holds one clear (gives_variable (refers_type refers)) ((nd, w, refl), κ, refl) x
  taken_hold one clear (rules.of_size refers) size_takes (first_expression (within (its_name x))) = name_holds refers x
  taken_hold one clear (rules.of_size refers) size_takes (later_expression x) = elim x [ ]

-- of an expression of which something is wanted that its type meets
pub wanted_holds : {fs : List Signature} {t : Table} {g : Scope} {e : Expression} {b : Base} {want : Want} {y : TypeFault} → OneOfAName fs → Clear g → HasType fs t g e b → Meets want e (one_of b)
    → ¬ InWanted fs (Breaking fs y) g want e
wanted_holds one clear has meets (itself x) = want_holds one clear (has_gives has) meets x
wanted_holds one clear has meets (within x) = expression_holds one clear has x

pub inputs_hold : {fs : List Signature} {t : Table} {g : Scope} {w : Word} {es : Expressions} {f : Signature} {wants : List Want} {y : TypeFault} → OneOfAName fs → Clear g → Calls fs t w f
    → ArgumentTypes fs t g es f.inputs → Takes fs w.text es wants → ¬ InExpressions fs (Breaking fs y) g wants es
inputs_hold {fs} {g = g} {es = es} {y = y} one clear calls given takes x =
    arguments_hold one clear given (subst (λ (z : List Want). InExpressions fs (Breaking fs y) g z es) (inputs_taken one calls takes) x)

pub values_hold : {fs : List Signature} {t : Table} {g : Scope} {w : Word} {es : Expressions} {f : Builtin} {b : Base} {wants : List Want} {y : TypeFault} → OneOfAName fs → Clear g → CallsBuiltin t w f
    → BuiltinType fs t g f es b → Takes fs w.text es wants → ¬ InExpressions fs (Breaking fs y) g wants es
values_hold one clear calls given takes x = taken_hold one clear given (values_taken one calls takes) x
