-- The statements of a block that become live, one after another.
use Rattle.std.specs.Prelude.{◌≡◌, ℕ, ◌+◌, ◌<◌, List, [], ◌∷◌, ◌++◌, length, take, refl}
use Rattle.std.proofs.Common.{rules, sym, ap, ◌∙◌, get_or}
use Rattle.std.proofs.lemmas.List.{map-append, append_assoc, take_more}
use Rattle.flow.specs.declared.statement.Block.{Block, out-Block}
use Rattle.flow.specs.declared.statement.Statement.{Statement}
use Rattle.flow.specs.declared.statement.Action.{the_lemmas}
use Rattle.flow.specs.View.{block_of, block_view, statement_view, statements_view}
use Rattle.language.specs.Core as core
use Rattle.language.specs.Core.{Stmt, stmt}
use Rattle.language.specs.Parts.{block_list}
use Rattle.meaning_invariants.specs.Active.{Candidate, active}
use Rattle.meaning_invariants.specs.Listed.{all_active}
use Rattle.meaning_round.specs.Made.{declares_here, declares_here_by}

pub block_seen : (A : Type 0) (b : Block A) → block_view b ≡ block_of (statements_view (out-Block A b).statements.items)
block_seen A b = search (rules, the_lemmas)

list_of_block : (ss : List Stmt) → block_list (block_of ss) ≡ ss
list_of_block [] = refl
list_of_block (s ∷ ss) = ap (λ (z : List Stmt). s ∷ z) (list_of_block ss)

pub listed : (A : Type 0) (b : Block A) → block_list (block_view b) ≡ statements_view (out-Block A b).statements.items
listed A b = ap block_list (block_seen A b) ∙ list_of_block (statements_view (out-Block A b).statements.items)

pub active_joins : (i : ℕ) (ss us : List Stmt) → all_active i (ss ++ us) ≡ all_active i ss ++ all_active i us
active_joins i ss us = map-append (active i) ss us

pub declares_joins : (i : ℕ) (b : core.Block) (ss us : List Stmt) → declares_here i b (ss ++ us) ≡ declares_here i b ss ++ declares_here i b us
declares_joins i b [] us = refl
declares_joins i b (stmt at n a ∷ ss) us =
    ap (λ (z : List Candidate). declares_here_by i b a ++ z) (declares_joins i b ss us) ∙ sym (append_assoc (declares_here_by i b a) (declares_here i b ss) (declares_here i b us))

-- what statements make, with one more
pub made_step : (A : Type 0) (X : Type 0) (make : List Stmt → List X) → ((ss us : List Stmt) → make (ss ++ us) ≡ make ss ++ make us)
    → (ss : List (Statement A)) (k : ℕ) (d : Statement A) (xs ys zs : List X) → k < length ss
    → ys ≡ xs ++ make (statements_view (take k ss)) → zs ≡ ys ++ make (statement_view (get_or ss k d) ∷ [])
    → zs ≡ xs ++ make (statements_view (take (k + 1) ss))
made_step A X make joins ss k d xs ys zs h e f =
    f ∙ ap (λ (z : List X). z ++ make (statement_view (get_or ss k d) ∷ [])) e
    ∙ append_assoc xs (make (statements_view (take k ss))) (make (statement_view (get_or ss k d) ∷ []))
    ∙ ap (λ (z : List X). xs ++ z)
    (sym (joins (statements_view (take k ss)) (statement_view (get_or ss k d) ∷ []))
    ∙ ap make (sym (map-append statement_view (take k ss) (get_or ss k d ∷ []))
    ∙ ap (λ (z : List (Statement A)). statements_view z) (sym (take_more ss k d h))))

-- what all of them make
pub made_all : (A : Type 0) (X : Type 0) (make : List Stmt → List X) (b : Block A) (ss : List (Statement A)) (xs zs : List X) → ss ≡ (out-Block A b).statements.items
    → zs ≡ xs ++ make (statements_view ss) → zs ≡ xs ++ make (block_list (block_view b))
made_all A X make b ss xs zs e f = f ∙ ap (λ (z : List Stmt). xs ++ make z) (ap (λ (z : List (Statement A)). statements_view z) e ∙ sym (listed A b))
