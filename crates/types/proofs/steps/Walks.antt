-- Steps of the check of statements and of the parts of a script, as the code takes them.
use Rattle.std.proofs.Common.{rules, ◌≡◌, ℕ, ◌+◌, ◌<◌, ◌≤◌, List, map, drop, length, get_or, Box, refl, ap, ◌∙◌}
use Rattle.std.specs.Prelude.{Option, Some, None, IsSome, option_map}
use Rattle.types.specs.declared.fault.TypeFault.{TypeFault}
use Rattle.types.specs.declared.fault.TypeFault.TheVariants.{Declared}
use Rattle.types.specs.declared.typed.NameEntry.{NameEntry}
use Rattle.types.specs.declared.typed.Binding.{Binding}
use Rattle.syntax_trees.specs.declared.tree.Expr.{Expr}
use Rattle.syntax_trees.specs.declared.tree.Block.{Block}
use Rattle.syntax_trees.specs.declared.tree.StmtKind.{If, the_lemmas as statement_lemmas}
use Rattle.language.specs.Tree.{Word, Declaration, Statement, statements_of}
use Rattle.syntax_trees.specs.View.{expression_view, command_view, body_view}
use Rattle.language.specs.Tree.{choice_of}
use Rattle.language.specs.Scopes.{declared_type, Signature}
use Rattle.types.specs.Known.{Seen, Around}
use Rattle.types.specs.Outcomes.{Outcome, refused, got, ◌>>=◌}
use Rattle.types.specs.Names.{seen, free, added}
use Rattle.types.specs.Scripts.{parameters}
use Rattle.types.specs.Statements.{stated, in_order}
use Rattle.types.proofs.lists.Rest.{rest_more}
use Rattle.std.proofs.lemmas.List.{at_drop_all}

-- STATEMENTS

pub order_done : {X : Type 0} (fs : List Signature) (g : Around) (s : List NameEntry) (f : X → Statement) (xs : List X) (i : ℕ) → length xs ≤ i
    → in_order fs g (statements_of (map f (drop i xs))) s ≡ got (tt {0}) s
unfolding in_order
order_done fs g s f xs i past = at_drop_all (λ (ys : List _). in_order fs g (statements_of (map f ys)) s) xs i past

order_now : {X : Type 0} (fs : List Signature) (g : Around) (s : List NameEntry) (f : X → Statement) (xs : List X) (i : ℕ) (x : X) → i < length xs → x ≡ get_or xs i x
    → in_order fs g (statements_of (map f (drop i xs))) s ≡ (stated fs g (f x) s >>= λ h. in_order fs h (statements_of (map f (drop (i + 1) xs))))
unfolding in_order
order_now fs g s f xs i x below is = rest_more (λ (ys : List _). in_order fs g (statements_of (map f ys)) s) xs i x below is

pub order_refused : {X : Type 0} (fs : List Signature) (g : Around) (s : List NameEntry) (f : X → Statement) (xs : List X) (i : ℕ) (x : X) (y : TypeFault) → i < length xs → x ≡ get_or xs i x
    → stated fs g (f x) s ≡ refused y → in_order fs g (statements_of (map f (drop i xs))) s ≡ refused y
order_refused fs g s f xs i x y below is fails =
    order_now fs g s f xs i x below is ∙ ap (λ (o : Outcome Around). o >>= λ h. in_order fs h (statements_of (map f (drop (i + 1) xs)))) fails

pub order_next : {X : Type 0} (fs : List Signature) (g h : Around) (s r : List NameEntry) (f : X → Statement) (xs : List X) (i : ℕ) (x : X) → i < length xs → x ≡ get_or xs i x
    → stated fs g (f x) s ≡ got h r → in_order fs g (statements_of (map f (drop i xs))) s ≡ in_order fs h (statements_of (map f (drop (i + 1) xs))) r
order_next fs g h s r f xs i x below is has =
    order_now fs g s f xs i x below is ∙ ap (λ (o : Outcome Around). o >>= λ h. in_order fs h (statements_of (map f (drop (i + 1) xs)))) has

-- VIEWS

pub view-If : {A : Type 0} → (e : Box (Expr A) A) (b : Box (Block A) A) (o : Option (Box (Block A) A))
    → command_view (If e b o) ≡ choice_of (expression_view e.value) (body_view b.value) (option_map (λ it. body_view it.value) o)
view-If e b None = search (rules, statement_lemmas)
view-If e b (Some d) = search (rules, statement_lemmas)

-- OUTPUTS AND INPUTS

pub parameters_done : {X : Type 0} (owned : ℕ → Binding) (g : Around) (n : ℕ) (s : List NameEntry) (f : X → Declaration) (xs : List X) (i : ℕ) → length xs ≤ i
    → parameters owned g n (map f (drop i xs)) s ≡ got g s
parameters_done owned g n s f xs i past = at_drop_all (λ (ys : List _). parameters owned g n (map f ys) s) xs i past

free_some : (w : Word) (o : Option Seen) (s : List NameEntry) → IsSome o → free w o s ≡ refused (Declared w.span)
free_some w None s some = absurd (cc)
free_some w (Some k) s some = refl

pub parameters_refused : {X : Type 0} (owned : ℕ → Binding) (g : Around) (n : ℕ) (s : List NameEntry) (f : X → Declaration) (xs : List X) (i : ℕ) (x : X) → i < length xs → x ≡ get_or xs i x
    → IsSome (seen g.names (f x).name.text) → parameters owned g n (map f (drop i xs)) s ≡ refused (Declared (f x).name.span)
parameters_refused owned g n s f xs i x below is taken =
    rest_more (λ (ys : List _). parameters owned g n (map f ys) s) xs i x below is
    ∙ ap (λ (o : Outcome (Unit {0})). o >>= λ u. parameters owned (added g (f x).name (owned n) (declared_type (f x))) (n + 1) (map f (drop (i + 1) xs))) (free_some (f x).name (seen g.names (f x).name.text) s taken)
