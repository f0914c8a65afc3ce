-- Blocks that are exactly one `wait`.
use Rattle.std.proofs.Common.{rules, ◌≡◌, ◌<◌, List, [], ◌∷◌, ◌++◌, map, length, slice_index_or, Bool, true, false, ◌&&◌, if◌then◌else◌, IsTrue, refl, ap, sym, ◌∙◌, arith}
use Rattle.std.specs.List.{flat_map}
use Rattle.std.proofs.lemmas.List.{append-nil}
use Rattle.flow.specs.declared.statement.Statement.{Statement}
use Rattle.flow.specs.declared.statement.Block.{Block, out-Block}
use Rattle.flow.specs.declared.statement.Action.{the_lemmas}
use Rattle.flow.specs.View.{block_view, block_of, statement_view}
use Rattle.flow.specs.Shapes.{block_declared, statement_declared, together}
use Rattle.flow.specs.declared.statement.Statement.{out-Statement}
use Rattle.flow.specs.Cells.{block_anchors, statement_anchors}
use Rattle.flow.proofs.Anchors.{anchors_block}
use Rattle.flow.specs.Listed as shows
use Rattle.flow.specs.Listed.{Listed, block_listed, content, statement_listed}
use Rattle.language.specs.Core as core
use Rattle.wait_merge.proofs.Actions.{listed_statement, seen_statement}
use Rattle.wait_merge.proofs.Forms.{same_wait}
use Rattle.wait_merge.specs.Merged.{Seen, alone, all_merged, block_seen, statement_seen}

view_block : (A : Type 0) (b : Block A) → block_view b ≡ block_of (map statement_view (out-Block A b).statements.items)
view_block A b = search (rules, the_lemmas)

declared_block : (A : Type 0) (b : Block A) → block_declared b ≡ together (map statement_declared (out-Block A b).statements.items)
declared_block A b = search (rules, the_lemmas)

listed_block : (A : Type 0) (b : Block A) → block_listed b ≡ shows.block_of (out-Block A b).from (map statement_listed (out-Block A b).statements.items)
listed_block A b = search (rules, the_lemmas)

pub seen_alone : (A : Type 0) (b : Block A) → (block_seen b).wait ≡ alone (map statement_seen (out-Block A b).statements.items)
seen_alone A b = search (rules, the_lemmas)

seen_merged : (A : Type 0) (b : Block A) → (block_seen b).merged ≡ all_merged (map statement_seen (out-Block A b).statements.items)
seen_merged A b = search (rules, the_lemmas)

pub alone_one : {X : Type 0} (seen : X → Seen) (xs : List X) (x : X) → length xs ≡ 1 → x ≡ slice_index_or xs 0 x → (seen x).wait ≡ alone (map seen xs)
alone_one seen [] x one is = absurd (omega (arith, one))
alone_one seen (y ∷ []) x one is = ap (λ z. (seen z).wait) is
alone_one seen (y ∷ z ∷ zs) x one is = absurd (omega (arith, one))

pub alone_empty : {X : Type 0} (seen : X → Seen) (xs : List X) → length xs < 1 → false ≡ alone (map seen xs)
alone_empty seen [] few = refl
alone_empty seen (y ∷ ys) few = absurd (omega (arith, few))

pub alone_many : {X : Type 0} (seen : X → Seen) (xs : List X) → 1 < length xs → false ≡ alone (map seen xs)
alone_many seen [] many = refl
alone_many seen (y ∷ []) many = absurd (omega (arith, many))
alone_many seen (y ∷ z ∷ zs) many = refl

none_before : {X : Type 0} (seen : X → Seen) (xs : List X) (y : X) → alone (map seen (xs ++ y ∷ [])) ≡ true → xs ≡ []
none_before seen [] y e = refl
none_before seen (x ∷ []) y e = absurd (cc (e))
none_before seen (x ∷ z ∷ zs) y e = absurd (cc (e))

module _ (A : Type 0) (b : Block A) (xs : List (Statement A)) (only : Statement A) (whole : (out-Block A b).statements.items ≡ xs ++ only ∷ []) (waits : (block_seen b).wait ≡ true) where
  one_only : (out-Block A b).statements.items ≡ only ∷ []
  one_only = whole ∙ ap (λ (ys : List (Statement A)). ys ++ only ∷ []) (none_before statement_seen xs only (ap (λ (ys : List (Statement A)). alone (map statement_seen ys)) (sym whole) ∙ sym (seen_alone A b) ∙ waits))

  pub one_view : block_view b ≡ core.stmts (statement_view only) core.no_stmts
  one_view = view_block A b ∙ ap (λ (ys : List (Statement A)). block_of (map statement_view ys)) one_only

  pub one_declared : block_declared b ≡ statement_declared only
  one_declared = declared_block A b ∙ ap (λ (ys : List (Statement A)). together (map statement_declared ys)) one_only ∙ append-nil (statement_declared only)

  pub one_anchors : block_anchors b ≡ statement_anchors only
  one_anchors = anchors_block A b ∙ ap (λ (ys : List (Statement A)). flat_map statement_anchors ys) one_only ∙ append-nil (statement_anchors only)

  pub one_wait : IsTrue ((statement_seen only).wait)
  one_wait = ap (λ (ys : List (Statement A)). alone (map statement_seen ys)) (sym one_only) ∙ sym (seen_alone A b) ∙ waits

  both : (x y : Bool) → x && true ≡ y → x ≡ y
  both x y e = grind arith

  pub one_merged : (block_seen b).merged ≡ (statement_seen only).merged
  one_merged = seen_merged A b ∙ ap (λ (ys : List (Statement A)). all_merged (map statement_seen ys)) one_only ∙ sym (both ((statement_seen only).merged) _ refl)

  -- its content is shown in its place
  pub one_listed : content (block_listed b) ≡ (statement_listed only).shown
  one_listed =
      ap content (listed_block A b ∙ ap (λ (ys : List (Statement A)). shows.block_of (out-Block A b).from (map statement_listed ys)) one_only)
      ∙ ap (λ (w : Bool). if w then (statement_listed only).shown ++ [] else shows.opens (out-Block A b).from ∷ (statement_listed only).shown ++ [])
      (ap (λ (l : Listed). l.wait) (listed_statement A only) ∙ same_wait A (out-Statement A only).action ∙ sym (ap (λ (s : Seen). s.wait) (seen_statement A only)) ∙ one_wait)
      ∙ append-nil (statement_listed only).shown
