-- The ends of items that store, print or only test.
use Rattle.std.proofs.Common.{◌≡◌, ◌∙◌, refl, sym, ap, subst, inl, ℕ, true, false, List, [], ◌∷◌, Option, Some, Ok}
use Rattle.std.specs.Prelude.{IsTrue}
use Rattle.std.specs.List.{list_any}
use Rattle.dataflow.specs.Machine.{ElementTwice}
use Rattle.board_history.specs.Fields.{slot_at}
use Rattle.board_history.specs.Needs.{cell_element, has}
use Rattle.task_code.specs.Code as Pure
use Rattle.task_code.specs.Code.{Leaf, kind_of}
use Rattle.task_code.specs.Compute.{Computed, Gives, Inserts, pairs}
use Rattle.task_code.specs.View.{act_view, expr_view}
use Rattle.task_code.specs.declared.entry.Act.{Act}
use Rattle.task_code.specs.declared.entry.Act.TheVariants as Acts
use Rattle.task_code.specs.declared.entry.Name.{Name}
use Rattle.task_code.specs.declared.expr.Expr.{Expr}
use Rattle.values.specs.Maps.{rising}
use Rattle.values.specs.Values.{scalar_of}
use Rattle.values.specs.declared.key.Key.{Key}
use Rattle.values.specs.declared.map.Element.{Element}
use Rattle.values.specs.declared.value.Scalar.{Scalar}
use Rattle.values.specs.declared.value.Value.{Value}
use Rattle.board_instances.specs.Names.{datum_of, led_slot}
use Rattle.board_work.specs.Outcome.{of_leaf}
use Rattle.board_effects.specs.Effects.{GoesWell, IsStored, OpensBy, OpensNothing, lines_in, target_in, values_in}
use Rattle.board_effects.specs.Ended.{Ends, FailsWith, IsEnded, act_of, cells_of, code_of, frames_of, job_of}
use Rattle.board_effects.specs.Fits.{gives_elements, gives_scalar}
use Rattle.board_effects.specs.declared.effect.Effect.{Effect}
use Rattle.board_effects.specs.declared.effect.Effect.TheVariants as To
use Rattle.board_effects.specs.declared.effect.EndingItem.{EndingItem}
use Rattle.board_effects.proofs.Ends.{elements_clash, elements_end, scalar_ends, shown_ends, tested_ends}
use Rattle.board_effects.proofs.Values.{fails_ends, in_order, key_none, key_some, none_there, some_there, there}

-- an entry of leaf kind that is none of the others tests a value
pub only_tests : (a : Act) → kind_of (act_view a) ≡ Leaf → ((e : Expr) → a ≡ Acts.Cell e → ⊥) → ((r : Name) (e : Expr) → a ≡ Acts.Set r e → ⊥) → ((r : Name) (es : _) → a ≡ Acts.Fill r es → ⊥) → ((e : Expr) → a ≡ Acts.Print e → ⊥) → (e : Pure.Expr) × (act_view a ≡ Pure.Assert e)
only_tests (Acts.Cell e) k nc ns nf np = absurd (nc e refl)
only_tests Acts.Read k nc ns nf np = absurd (cc k)
only_tests (Acts.Call b rs os) k nc ns nf np = absurd (cc k)
only_tests (Acts.Set r e) k nc ns nf np = absurd (ns r e refl)
only_tests (Acts.Fill r es) k nc ns nf np = absurd (nf r es refl)
only_tests (Acts.Copy r) k nc ns nf np = absurd (cc k)
only_tests (Acts.InsertElement r i e) k nc ns nf np = absurd (cc k)
only_tests (Acts.Print e) k nc ns nf np = absurd (np e refl)
only_tests (Acts.Assert e) k nc ns nf np = (expr_view e, refl)
only_tests (Acts.If e b d) k nc ns nf np = absurd (cc k)
only_tests (Acts.Range lo hi s w) k nc ns nf np = absurd (cc k)
only_tests (Acts.Each w) k nc ns nf np = absurd (cc k)
only_tests (Acts.Wait hs b) k nc ns nf np = absurd (cc k)

module _ (p : EndingItem) (w : IsEnded p) where
  abbrev pub at : Option ℕ
  at = datum_of (led_slot (frames_of p) p.view.at p.table.now.target)

  pub stores_ends : (t : Option ℕ) (v : Scalar) → t ≡ at → gives_scalar (act_of p) ≡ true → Ends p (Gives v) (To.Stores t v)
  stores_ends t v e g = subst (λ (o : Option ℕ). Ends p (Gives v) (To.Stores o v)) (sym e) (scalar_ends (code_of p) (frames_of p) p.view.at p.number p.chunk _ _ w (cells_of p) v g)

  pub inserts_ends : (t : Option ℕ) (es : List Element) (e : Effect) → IsStored e (Inserts (pairs es)) → t ≡ at → target_in e ≡ t → values_in e ≡ pairs es → lines_in e ≡ [] → gives_elements (act_of p) ≡ true → IsTrue (rising es) → ((d : ℕ) → t ≡ Some d → list_any (there (cells_of p) d) es ≡ false) → (OpensNothing (code_of p) (frames_of p) (job_of p) (Inserts (pairs es)) → OpensBy (code_of p) (frames_of p) (job_of p) (Inserts (pairs es)) e) → GoesWell (code_of p) (frames_of p) (cells_of p) (job_of p) (Inserts (pairs es)) e
  inserts_ends t es e said q ts vs ls g r h opens = elements_end (code_of p) (frames_of p) p.view.at p.number p.chunk _ _ w (cells_of p) (pairs es) e said g (ts ∙ q) vs ls (in_order es r) (λ d s. none_there (cells_of p) d es (h d (q ∙ s))) opens

  pub inserts_clash : (d : ℕ) (es : List Element) → at ≡ Some d → gives_elements (act_of p) ≡ true → list_any (there (cells_of p) d) es ≡ true → (e : Effect) → FailsWith p ElementTwice e → Ends p (Inserts (pairs es)) e
  inserts_clash d es s g h e f =
      let q = some_there (cells_of p) d es h in
      fails_ends p (Inserts (pairs es)) ElementTwice e (elements_clash (code_of p) (frames_of p) p.view.at p.number p.chunk _ _ w (cells_of p) (pairs es) g d s q.0 q.1 q.2 q.3) f

  pub puts_ends : (t : Option ℕ) (k l : Key) (v u : Scalar) → t ≡ at → l ≡ k → u ≡ v → gives_elements (act_of p) ≡ true → ((d : ℕ) → t ≡ Some d → has (cell_element k (slot_at (cells_of p) d)) ≡ false) → Ends p (Inserts ((k, v) ∷ [])) (To.InsertsElement t l u)
  puts_ends t k l v u e ek ev g h = elements_end (code_of p) (frames_of p) p.view.at p.number p.chunk _ _ w (cells_of p) ((k, v) ∷ []) (To.InsertsElement t l u) (λ i. Inserts ((sym ek i, sym ev i) ∷ [])) g e (ap (λ (x : Key). (x, u) ∷ []) ek ∙ ap (λ (x : Scalar). (k, x) ∷ []) ev) refl refl (λ d s. key_none (cells_of p) d k v (h d (e ∙ s))) (λ o. o)

  pub puts_clash : (d : ℕ) (k : Key) (v : Scalar) → at ≡ Some d → gives_elements (act_of p) ≡ true → has (cell_element k (slot_at (cells_of p) d)) ≡ true → (e : Effect) → FailsWith p ElementTwice e → Ends p (Inserts ((k, v) ∷ [])) e
  puts_clash d k v s g h e f =
      let q = key_some (cells_of p) d k h in
      fails_ends p (Inserts ((k, v) ∷ [])) ElementTwice e (elements_clash (code_of p) (frames_of p) p.view.at p.number p.chunk _ _ w (cells_of p) ((k, v) ∷ []) g d s (k, v) q.0 (inl refl) q.1) f

  pub prints_end : (e : Pure.Expr) (v : Value) (u : Scalar) → act_of p ≡ Pure.Print e → u ≡ scalar_of v → Ends p (of_leaf (act_of p) (Ok v)) (To.Prints u)
  prints_end e v u g is = subst (λ (x : Scalar). Ends p (of_leaf (act_of p) (Ok v)) (To.Prints x)) (sym is) (subst (λ (x : Computed). Ends p x (To.Prints (scalar_of v))) (ap (λ b. of_leaf b (Ok v)) (sym g)) (shown_ends (code_of p) (frames_of p) p.view.at p.number p.chunk _ _ w (cells_of p) e (scalar_of v) g))

  pub tests_end : (e : Pure.Expr) (v : Value) → act_of p ≡ Pure.Assert e → Ends p (of_leaf (act_of p) (Ok v)) To.Passes
  tests_end e v g = subst (λ (x : Computed). Ends p x To.Passes) (ap (λ b. of_leaf b (Ok v)) (sym g)) (tested_ends (code_of p) (frames_of p) p.view.at p.number p.chunk _ _ w (cells_of p) e (scalar_of v) g)
