-- What statements that are calls, loops and waits of a well typed script read and assign.
use Rattle.std.specs.Prelude.{◌≡◌, ◌⊎◌, ℕ, ℤ, pos, List, [], ◌∷◌, ◌++◌, map, Option, option_map, option_to_list, refl}
use Rattle.std.specs.List.{flat_map}
use Rattle.std.proofs.Common.{inl, inr, sym, ap, subst}
use Rattle.values.specs.Operators as op
use Rattle.language.specs.declared.tree.Base.{Base}
use Rattle.language.specs.declared.tree.Shape.{Shape}
use Rattle.language.specs.declared.tree.Shape.TheVariants.{Scalar, Array}
use Rattle.language.specs.Core.{Owned, Name, Awaited, scalar, Stmt, Action, assign, print, assert, wait, Block}
use Rattle.language.specs.Members.{◌∈◌, first, later}
use Rattle.language.specs.Numbers.{expression_numbers, expressions_numbers, over_numbers, option_numbers}
use Rattle.language.specs.Parts.{outer_parts, by_name, by_element}
use Rattle.language.specs.Resolved.{Formed, Operands, Arguments, computes, call_form, form_of, operands_of, arguments_of, number_of, refers, outer, outer_of, composite_call, call_action, several, format_of, awaited, awaited_as, loop_action}
use Rattle.language.specs.Scopes.{Scope, Signature, Calls, CallsBuiltin}
use Rattle.language.specs.Single.{IsSimple}
use Rattle.language.specs.Table as table
use Rattle.language.specs.Table.{Table, Builtin, Callee, built_in}
use Rattle.language.specs.Tree as T
use Rattle.language.specs.Tree.{Word, Expression, expression, text, Expressions, and_expression, expressions_of, Over}
use Rattle.language.specs.Typing.{ArgumentTypes, no_argument, scalar_argument, BuiltinType, StepType, no_step, a_step, SourceType, of_elements, of_range, CallTyped, function_called, printf_called, assert_called}
use Rattle.language.proofs.Members.{to_left, to_right, either}
use Rattle.language.proofs.Tested.{declared_of}
use Rattle.assign_check.specs.Outline as outline
use Rattle.assign_check.specs.Outline.{Step, reading, read_in, read_all, read_step, read_over, read_names, use_of}
use Rattle.assign_check.proofs.like.Like.{Plain, named_step, named_is_not_read, IsLoop, a_range, an_each}
use Rattle.assign_check.proofs.uses.Reading.{Counted, Match, match_use, match_none, match_same, match_both, InParts, InFormed, InArguments, no_parts, computed, reading_of, arguments_read, builtin_of, each_of, wanted_one}
use Rattle.assign_check.proofs.uses.Statements.{ReadHere, SameReads, behind_target, at_parts, next_outer, last_outer, in_call, in_list}

pub append_later : {X : Type 0} (xs ys zs : List X) → (xs ++ ys) ++ zs ≡ xs ++ (ys ++ zs)
append_later [] ys zs = refl
append_later (x ∷ xs) ys zs = ap (λ rest. x ∷ rest) (append_later xs ys zs)

-- SEVERAL NAMES

pub names_plain : (t : Table) {rs : List Step} (ws : List Word) → Plain rs [] [] [] → Plain (map (use_of t outline.named) ws ++ rs) (map (refers t) ws) [] []
names_plain t [] p = p
names_plain t (w ∷ ws) p = named_step refl refl (names_plain t ws p)

pub behind_names : {Taken Own : ℕ → Type 0} (t : Table) {rs : List Step} {st : Stmt} (ws : List Word) → SameReads Taken Own rs st → SameReads Taken Own (map (use_of t outline.named) ws ++ rs) st
behind_names t [] r = r
behind_names t (w ∷ ws) r = behind_target (λ e. named_is_not_read refl e) (behind_names t ws r)

-- an action that assigns names, with what it reads
pub record Assigns (Taken : ℕ → Type 0) (rs : List Step) (xs : List Name) (a : Action) : Type 0 where
  pub simple : IsSimple a
  pub names : by_name a ≡ xs
  pub elements : by_element a ≡ []
  pub variables : declared_of a ≡ []
  pub reads : Match Taken rs (λ z. ReadHere z a)

pub assigns_declare_nothing : {Taken : ℕ → Type 0} {rs : List Step} {xs : List Name} {a : Action} {v : ℕ} → Assigns Taken rs xs a → v ∈ declared_of a → ⊥
assigns_declare_nothing {v = v} r m = elim (subst (λ (vs : List ℕ). v ∈ vs) r.variables m) [ ]

pub assigns_plain : {Taken : ℕ → Type 0} {rs ss : List Step} {xs : List Name} {a : Action} → Assigns Taken rs xs a → Plain ss xs [] [] → Plain ss (by_name a) (by_element a) (declared_of a)
assigns_plain {ss = ss} {xs = xs} {a = a} r p =
    subst (λ (vs : List ℕ). Plain ss (by_name a) (by_element a) vs) (sym r.variables)
    (subst (λ (es : List Name). Plain ss (by_name a) es []) (sym r.elements) (subst (λ (ns : List Name). Plain ss ns [] []) (sym r.names) p))

composite_assigns : {Taken : ℕ → Type 0} {rs : List Step} (p : ℤ) (w : Word) (i : ℕ) (a : Arguments) (os : List Name) → Match Taken rs (λ x. InArguments x a)
    → Assigns Taken rs os (composite_call p w i a os)
composite_assigns p w i (ps, xs) os m = record { simple = tt; names = refl; elements = refl; variables = refl; reads = in_call p w i (ps, xs) os m }

-- a built-in call needs no arguments as names
same_form : (t : Table) (w : Word) (f : Builtin) (es : Expressions) (xs ys : Arguments) (os : Operands) → call_form t w (built_in f) es xs os ≡ call_form t w (built_in f) es ys os
same_form t w table.strcat es xs ys os = refl
same_form t w table.fromint es xs ys os = refl
same_form t w table.toint es xs ys os = refl
same_form t w table.size es xs ys os = refl
same_form t w table.printf es xs ys os = refl
same_form t w table.assert es xs ys os = refl

module _ (Taken : ℕ → Type 0) (fs : List Signature) (t : Table) (g : Scope) where
  pub several_assigns : {w : Word} {es : Expressions} {f : Signature} (n : ℕ) (xs : List Name) → Calls fs t w f → ArgumentTypes fs t g es f.inputs → Counted Taken (expressions_numbers es)
      → Assigns Taken (read_all t es) xs (several t n w es xs (t.callee_of w.number))
  several_assigns {w} {es} n xs c h k =
      subst (λ (a : Callee). Assigns Taken (read_all t es) xs (several t n w es xs a)) (sym c.named)
      (composite_assigns (pos 0) w c.place (arguments_of t es) xs (arguments_read Taken fs t g h k))

  pub one_assigns : {w : Word} {es : Expressions} {f : Builtin} {b : Base} (n : ℕ) (x : Name) → CallsBuiltin t w f → BuiltinType fs t g f es b → Counted Taken (expressions_numbers es)
      → Assigns Taken (read_all t es) (x ∷ []) (several t n w es (x ∷ []) (t.callee_of w.number))
  one_assigns {w} {es} {f} n x c h k =
      let form = call_form t w (built_in f) es ([], []) (operands_of t es) in
      subst (λ (a : Callee). Assigns Taken (read_all t es) (x ∷ []) (several t n w es (x ∷ []) a)) (sym c.named)
      (record {
        simple = tt;
        names = refl;
        elements = refl;
        variables = refl;
        reads = at_parts (assign x (outer_of n form)) (λ z i. i) (last_outer n form
            (subst (λ (q : Formed). Match Taken (read_all t es) (λ z. InFormed z q)) (same_form t w f es (arguments_of t es) ([], []) (operands_of t es)) (builtin_of Taken fs t g w h k)));
      })

  pub call_assigns : {w : Word} {es : List Expression} (p : ℤ) (n : ℕ) → CallTyped fs t g w es → Counted Taken (flat_map expression_numbers es)
      → Assigns Taken (read_all t (expressions_of es)) [] (call_action t p n w (expressions_of es) (t.callee_of w.number))
  call_assigns {w} {es} p n (function_called c e h) k =
      subst (λ (a : Callee). Assigns Taken (read_all t (expressions_of es)) [] (call_action t p n w (expressions_of es) a)) (sym c.named)
      (composite_assigns p w c.place (arguments_of t (expressions_of es)) [] (arguments_read Taken fs t g h (in_list es k)))
  call_assigns {w} p n (printf_called {nd = nd} {bytes = bytes} {es = es} {ps = ps} c e h) k =
      let all = and_expression (expression nd (text bytes)) (expressions_of es) in
      let form = computes (op.printf (format_of all)) (operands_of t (expressions_of es)) in
      subst (λ (a : Callee). Assigns Taken (read_all t all) [] (call_action t p n w all a)) (sym c.named)
      (record {
        simple = tt;
        names = refl;
        elements = refl;
        variables = refl;
        reads = at_parts (print p (outer_of n form)) (λ z i. i) (last_outer n form
            (computed (op.printf (format_of all)) (operands_of t (expressions_of es)) (each_of Taken fs t g h (wanted_one ps) (in_list es (λ m i. k m (later i))))));
      })
  call_assigns {w} {es} p n (assert_called {c = c} {m = m} b h q) k =
      let all = expressions_of es in
      let form = computes op.assert (operands_of t all) in
      subst (λ (a : Callee). Assigns Taken (read_all t all) [] (call_action t p n w all a)) (sym b.named)
      (record {
        simple = tt;
        names = refl;
        elements = refl;
        variables = refl;
        reads = at_parts (assert p (outer_of n form)) (λ z i. i) (last_outer n form
            (computed op.assert (operands_of t all)
            (each_of Taken fs t g (scalar_argument h (scalar_argument q no_argument)) (refl, (refl, tt)) (in_list es k))));
      })

  -- LOOPS

  step_reads : {o : Option Expression} → StepType fs t g o → Counted Taken (option_numbers expression_numbers o)
      → Match Taken (read_step t o) (λ z. InParts z (outer_parts (option_to_list (option_map (outer t) o))))
  step_reads no_step k = match_none (λ x p. no_parts p)
  step_reads (a_step {e = e} h) k = last_outer (number_of e) (form_of t e) (reading_of Taken fs t g h k)

  pub loop_reads : {o : Over} {b c : Base} (v : Word) (i : Option Word) (d : Block) → SourceType fs t g o b c → Counted Taken (over_numbers o)
      → Match Taken (read_over t o) (λ z. ReadHere z (loop_action t v i o d))
  loop_reads v i d (of_elements r) k = match_none (λ x p. elim p [ inl h ↦ no_parts h | inr z ↦ z ])
  loop_reads v i d (of_range {low = low} {high = high} {step = step} l h s) k =
      let numbers = option_numbers expression_numbers step in
      let ends = expression_numbers low ++ expression_numbers high in
      subst (λ (rs : List Step). Match Taken rs (λ z. ReadHere z (loop_action t v i (T.range low high step) d))) (sym (append_later (read_in t low) (read_in t high) (read_step t step)))
      (at_parts (loop_action t v i (T.range low high step) d) (λ z q. q)
      (next_outer (number_of low) (form_of t low) (outer t high ∷ option_to_list (option_map (outer t) step))
      (reading_of Taken fs t g l (λ n m. k n (to_left ends numbers (to_left (expression_numbers low) (expression_numbers high) m))))
      (next_outer (number_of high) (form_of t high) (option_to_list (option_map (outer t) step))
      (reading_of Taken fs t g h (λ n m. k n (to_left ends numbers (to_right (expression_numbers low) (expression_numbers high) m))))
      (step_reads s (λ n m. k n (to_right ends numbers m))))))

-- a loop's action is a loop
pub is_loop : (t : Table) (v : Word) (k : Option Word) (o : Over) (d : Block) → IsLoop (loop_action t v k o d) v.number (option_map (λ (x : Word). x.number) k) d
is_loop t v k (T.array w) d = an_each
is_loop t v k (T.range low high step) d = a_range

-- WAITS

abbrev InNames : Owned → List Awaited → Type 0
InNames x ns = (y : Name) × (scalar y ∈ ns) × (y.what ≡ x)

one_name : {Taken : ℕ → Type 0} (t : Table) (w : Word) (s : Shape) → Match Taken (reading s t w) (λ x. InNames x (awaited_as s (refers t w) ∷ []))
one_name {Taken} t w (Array κ) = match_none (λ x p. elim p.1 [ later m ↦ elim m [ ] ])
one_name {Taken} t w Scalar = match_use t w (refers t w, first, refl) (λ x p. one p)
  where
    one : {x : Owned} → InNames x (scalar (refers t w) ∷ []) → (refers t w).what ≡ x
    one (y, m, e) = two m e
      where
        two : {x : Owned} {y : Name} → scalar y ∈ (scalar (refers t w) ∷ []) → y.what ≡ x → (refers t w).what ≡ x
        two first e = e
        two (later m) e = elim m [ ]

names_read : {Taken : ℕ → Type 0} (t : Table) (ws : List Word) → Match Taken (read_names t ws) (λ x. InNames x (map (awaited t) ws))
names_read t [] = match_none (λ x p. elim p.1 [ ])
names_read t (w ∷ ws) = match_same (λ x p. to p) (λ x d q. from q) (match_both (one_name t w (t.shape_of w.number)) (names_read t ws))
  where
    to : {x : Owned} → (InNames x (awaited t w ∷ []) ⊎ InNames x (map (awaited t) ws)) → InNames x (awaited t w ∷ map (awaited t) ws)
    to (inl p) = (p.0, to_left (awaited t w ∷ []) (map (awaited t) ws) p.1, p.2)
    to (inr p) = (p.0, later p.1, p.2)

    from : {x : Owned} → InNames x (awaited t w ∷ map (awaited t) ws) → (InNames x (awaited t w ∷ []) ⊎ InNames x (map (awaited t) ws))
    from p = elim (either (awaited t w ∷ []) (map (awaited t) ws) p.1) [ inl m ↦ inl (p.0, m, p.2) | inr m ↦ inr (p.0, m, p.2) ]

pub wait_reads : {Taken : ℕ → Type 0} (t : Table) (ws : List Word) (d : Block) → Match Taken (read_names t ws) (λ x. ReadHere x (wait (map (awaited t) ws) d))
wait_reads t ws d = match_same (λ x p. inr p) (λ x d' q. elim q [ inl h ↦ absurd (no_parts h) | inr p ↦ p ]) (names_read t ws)
