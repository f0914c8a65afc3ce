-- Targets of waits one in another, and of statements one after another.
use Rattle.std.specs.Prelude.{◌≡◌, ℕ, ◌+◌, ◌<◌, Bool, true, false, ◌||◌, List, [], ◌∷◌, length, drop, Vec, Box, refl, map}
use Rattle.std.proofs.Common.{rules, sym, ap, ◌∙◌, get_or}
use Rattle.std.proofs.lemmas.List.{drop_more}
use Rattle.language.specs.Core as core
use Rattle.flow.specs.declared.name.Name.{Name}
use Rattle.flow.specs.declared.statement.Header.{Header}
use Rattle.flow.specs.declared.statement.Action.{Wait, the_lemmas}
use Rattle.flow.specs.declared.statement.Block.{Block}
use Rattle.flow.specs.declared.statement.Statement.{Statement, out-Statement}
use Rattle.flow.specs.View.{awaited_view, waits_around, action_view, block_view, block_of, statement_view, statements_view}
use Rattle.meaning_cells.specs.Targeted.{aims, aims_of, aims_in, assigns, assigns_of, assigns_in}

or_false : (b : Bool) → b || false ≡ b
or_false true = refl
or_false false = refl

true_or : {a : Bool} (b : Bool) → a ≡ true → true ≡ a || b
true_or b h = sym (ap (λ (z : Bool). z || b) h)

false_or : {a : Bool} (b : Bool) → a ≡ false → a || b ≡ b
false_or b h = ap (λ (z : Bool). z || b) h

pub view_wait : {A : Type 0} → (ns : Vec Name A) (hs : Vec (Header A) A) (b : Box (Block A) A)
    → action_view (Wait ns hs b) ≡ core.wait (map awaited_view ns.items) (waits_around hs.items (block_view b.value))
view_wait ns hs b = search (rules, the_lemmas)

pub view_statement : (A : Type 0) → (s : Statement A) → statement_view s ≡ core.stmt (out-Statement A s).at (out-Statement A s).node (action_view (out-Statement A s).action)
view_statement A s = search (rules, the_lemmas)

pub waits_aim : {A : Type 0} (x : core.Owned) (hs : List (Header A)) (b : core.Block) → aims_in x (waits_around hs b) ≡ aims_in x b
waits_aim x [] b = refl
waits_aim x (h ∷ hs) b = or_false (aims_in x (waits_around hs b)) ∙ waits_aim x hs b

pub waits_assign : {A : Type 0} (x : core.Owned) (hs : List (Header A)) (b : core.Block) → assigns_in x (waits_around hs b) ≡ assigns_in x b
waits_assign x [] b = refl
waits_assign x (h ∷ hs) b = or_false (assigns_in x (waits_around hs b)) ∙ waits_assign x hs b

pub aim_step : (A : Type 0) (x : core.Owned) (ss : List (Statement A)) (i : ℕ) (d : Statement A) → i < length ss
    → aims_in x (block_of (statements_view (drop i ss))) ≡ aims_of x (action_view (out-Statement A (get_or ss i d)).action) || aims_in x (block_of (statements_view (drop (i + 1) ss)))
aim_step A x ss i d l =
    ap (λ (z : List (Statement A)). aims_in x (block_of (statements_view z))) (drop_more ss i d l)
    ∙ ap (λ (z : core.Stmt). aims x z || aims_in x (block_of (statements_view (drop (i + 1) ss)))) (view_statement A (get_or ss i d))

pub assign_step : (A : Type 0) (x : core.Owned) (ss : List (Statement A)) (i : ℕ) (d : Statement A) → i < length ss
    → assigns_in x (block_of (statements_view (drop i ss))) ≡ assigns_of x (action_view (out-Statement A (get_or ss i d)).action) || assigns_in x (block_of (statements_view (drop (i + 1) ss)))
assign_step A x ss i d l =
    ap (λ (z : List (Statement A)). assigns_in x (block_of (statements_view z))) (drop_more ss i d l)
    ∙ ap (λ (z : core.Stmt). assigns x z || assigns_in x (block_of (statements_view (drop (i + 1) ss)))) (view_statement A (get_or ss i d))

pub hit : {a : Bool} (b : Bool) → a ≡ true → true ≡ a || b
hit b h = true_or b h

pub miss : {a : Bool} (b : Bool) → a ≡ false → a || b ≡ b
miss b h = false_or b h
