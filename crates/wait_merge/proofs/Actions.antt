-- Actions with one block in the place of another that is seen alike.
use Rattle.std.proofs.Common.{rules, true, ◌≡◌, ◌&&◌, ◌++◌, Option, option_map, map, List, [], ◌∷◌, refl, ap, sym, ◌∙◌, Vec, Box}
use Rattle.flow.specs.declared.name.Name.{Name}
use Rattle.flow.specs.declared.cell.OuterCell.{OuterCell}
use Rattle.flow.specs.declared.statement.Variable.{Variable}
use Rattle.flow.specs.declared.statement.Header.{Header}
use Rattle.flow.specs.declared.statement.Range.{Range as Ranged}
use Rattle.flow.specs.declared.statement.Block.{Block}
use Rattle.flow.specs.declared.statement.Statement.{Statement, out-Statement, roll-Statement}
use Rattle.flow.specs.declared.statement.Action.{Action, When, Choose, Range, Each, Wait, the_lemmas}
use Rattle.flow.specs.View.{action_view, awaited_view, block_view, statement_view, waits_around}
use Rattle.flow.specs.Cells.{action_anchors, statement_anchors}
use Rattle.flow.proofs.Anchors.{anchors_statement}
use Rattle.flow.specs.Listed.{Listed, declared, action_listed, block_listed, statement_listed, content, looping, other, waiting, whole}
use Rattle.flow.specs.Shapes.{Declared, action_declared, block_declared, statement_declared}
use Rattle.language.specs.Core as core
use Rattle.wait_merge.specs.Merged.{action_seen, block_seen, statement_seen}

module _ {A : Type 0} where
  view_when : (e : Box (OuterCell A) A) (b b' : Box (Block A) A) → block_view b'.value ≡ block_view b.value → action_view (When e b') ≡ action_view (When e b)
  view_when e b b' same = search (rules, the_lemmas)

  pub when_core : (a : Action A) (e : Box (OuterCell A) A) (b b' : Box (Block A) A) → a ≡ When e b → block_view b'.value ≡ block_view b.value → action_view (When e b') ≡ action_view a
  when_core a e b b' is same = view_when e b b' same ∙ sym (ap action_view is)

  view_choose : (e : Box (OuterCell A) A) (b b' d d' : Box (Block A) A) → block_view b'.value ≡ block_view b.value → block_view d'.value ≡ block_view d.value
      → action_view (Choose e b' d') ≡ action_view (Choose e b d)
  view_choose e b b' d d' same also = search (rules, the_lemmas)

  pub choose_core : (a : Action A) (e : Box (OuterCell A) A) (b b' d d' : Box (Block A) A) → a ≡ Choose e b d → block_view b'.value ≡ block_view b.value → block_view d'.value ≡ block_view d.value
      → action_view (Choose e b' d') ≡ action_view a
  choose_core a e b b' d d' is same also = view_choose e b b' d d' same also ∙ sym (ap action_view is)

  view_range : (r : Box (Ranged A) A) (v : Variable A) (k : Option (Variable A)) (b b' : Box (Block A) A) → block_view b'.value ≡ block_view b.value
      → action_view (Range r v k b') ≡ action_view (Range r v k b)
  view_range r v k b b' same = search (rules, the_lemmas)

  pub range_core : (a : Action A) (r : Box (Ranged A) A) (v : Variable A) (k : Option (Variable A)) (b b' : Box (Block A) A) → a ≡ Range r v k b → block_view b'.value ≡ block_view b.value
      → action_view (Range r v k b') ≡ action_view a
  range_core a r v k b b' is same = view_range r v k b b' same ∙ sym (ap action_view is)

  view_each : (n : Name) (v : Variable A) (k : Option (Variable A)) (b b' : Box (Block A) A) → block_view b'.value ≡ block_view b.value
      → action_view (Each n v k b') ≡ action_view (Each n v k b)
  view_each n v k b b' same = search (rules, the_lemmas)

  pub each_core : (a : Action A) (n : Name) (v : Variable A) (k : Option (Variable A)) (b b' : Box (Block A) A) → a ≡ Each n v k b → block_view b'.value ≡ block_view b.value
      → action_view (Each n v k b') ≡ action_view a
  each_core a n v k b b' is same = view_each n v k b b' same ∙ sym (ap action_view is)

  pub when_declared : (e : Box (OuterCell A) A) (b : Box (Block A) A) → action_declared (When e b) ≡ block_declared b.value
  when_declared e b = search (rules, the_lemmas)

  pub choose_declared : (e : Box (OuterCell A) A) (b d : Box (Block A) A) → action_declared (Choose e b d) ≡ block_declared b.value ++ block_declared d.value
  choose_declared e b d = search (rules, the_lemmas)

  pub range_declared : (r : Box (Ranged A) A) (v : Variable A) (k : Option (Variable A)) (b : Box (Block A) A) → action_declared (Range r v k b) ≡ block_declared b.value
  range_declared r v k b = search (rules, the_lemmas)

  pub each_declared : (n : Name) (v : Variable A) (k : Option (Variable A)) (b : Box (Block A) A) → action_declared (Each n v k b) ≡ block_declared b.value
  each_declared n v k b = search (rules, the_lemmas)

  pub when_merged : (e : Box (OuterCell A) A) (b : Box (Block A) A) → (action_seen (When e b)).merged ≡ (block_seen b.value).merged
  when_merged e b = search (rules, the_lemmas)

  pub choose_merged : (e : Box (OuterCell A) A) (b d : Box (Block A) A) → (action_seen (Choose e b d)).merged ≡ (block_seen b.value).merged && (block_seen d.value).merged
  choose_merged e b d = search (rules, the_lemmas)

  pub range_merged : (r : Box (Ranged A) A) (v : Variable A) (k : Option (Variable A)) (b : Box (Block A) A) → (action_seen (Range r v k b)).merged ≡ (block_seen b.value).merged
  range_merged r v k b = search (rules, the_lemmas)

  pub each_merged : (n : Name) (v : Variable A) (k : Option (Variable A)) (b : Box (Block A) A) → (action_seen (Each n v k b)).merged ≡ (block_seen b.value).merged
  each_merged n v k b = search (rules, the_lemmas)

  -- WHAT A LISTING SHOWS

  pub when_listed : (e : Box (OuterCell A) A) (b : Box (Block A) A) → action_listed (When e b) ≡ other (whole (block_listed b.value))
  when_listed e b = search (rules, the_lemmas)

  pub choose_listed : (e : Box (OuterCell A) A) (b d : Box (Block A) A) → action_listed (Choose e b d) ≡ other (whole (block_listed b.value) ++ whole (block_listed d.value))
  choose_listed e b d = search (rules, the_lemmas)

  pub range_listed : (r : Box (Ranged A) A) (v : Variable A) (k : Option (Variable A)) (b : Box (Block A) A) → action_listed (Range r v k b) ≡ looping (declared v) (option_map declared k) (block_listed b.value)
  range_listed r v k b = search (rules, the_lemmas)

  pub each_listed : (n : Name) (v : Variable A) (k : Option (Variable A)) (b : Box (Block A) A) → action_listed (Each n v k b) ≡ looping (declared v) (option_map declared k) (block_listed b.value)
  each_listed n v k b = search (rules, the_lemmas)

  pub wait_listed : (ns : Vec Name A) (hs : Vec (Header A) A) (b : Box (Block A) A) → action_listed (Wait ns hs b) ≡ waiting (block_listed b.value)
  wait_listed ns hs b = search (rules, the_lemmas)

-- a `wait` shows what its content does
pub same_waiting : (b c : Listed) → content b ≡ content c → waiting b ≡ waiting c
same_waiting b c same = ap (λ xs. record { wait = true; from = 0; shown = xs }) same

pub both_declared : (a b c d : Declared) → a ≡ c → b ≡ d → a ++ b ≡ c ++ d
both_declared a b c d e f = ap (λ (x : Declared). x ++ b) e ∙ ap (λ (x : Declared). c ++ x) f

-- A STATEMENT WITH ANOTHER ACTION

pub view_statement : (A : Type 0) (s : Statement A) → statement_view s ≡ core.stmt (out-Statement A s).at (out-Statement A s).node (action_view (out-Statement A s).action)
view_statement A s = search (rules, the_lemmas)

pub declared_statement : (A : Type 0) (s : Statement A) → statement_declared s ≡ action_declared (out-Statement A s).action
declared_statement A s = search (rules, the_lemmas)

pub seen_statement : (A : Type 0) (s : Statement A) → statement_seen s ≡ action_seen (out-Statement A s).action
seen_statement A s = search (rules, the_lemmas)

pub listed_statement : (A : Type 0) (s : Statement A) → statement_listed s ≡ action_listed (out-Statement A s).action
listed_statement A s = search (rules, the_lemmas)

pub anchors_changed : (A : Type 0) (s : Statement A) (a : Action A) → action_anchors a ≡ action_anchors (out-Statement A s).action
    → statement_anchors (roll-Statement A (record { at = (out-Statement A s).at; node = (out-Statement A s).node; action = a })) ≡ statement_anchors s
anchors_changed A s a same = anchors_statement A _ ∙ same ∙ sym (anchors_statement A s)

pub listed_changed : (A : Type 0) (s : Statement A) (a : Action A) → action_listed a ≡ action_listed (out-Statement A s).action
    → statement_listed (roll-Statement A (record { at = (out-Statement A s).at; node = (out-Statement A s).node; action = a })) ≡ statement_listed s
listed_changed A s a same = listed_statement A _ ∙ same ∙ sym (listed_statement A s)

pub view_changed : (A : Type 0) (s : Statement A) (a : Action A) → action_view a ≡ action_view (out-Statement A s).action
    → statement_view (roll-Statement A (record { at = (out-Statement A s).at; node = (out-Statement A s).node; action = a })) ≡ statement_view s
view_changed A s a same = view_statement A _ ∙ ap (core.stmt (out-Statement A s).at (out-Statement A s).node) same ∙ sym (view_statement A s)

pub declared_changed : (A : Type 0) (s : Statement A) (a : Action A) → action_declared a ≡ action_declared (out-Statement A s).action
    → statement_declared (roll-Statement A (record { at = (out-Statement A s).at; node = (out-Statement A s).node; action = a })) ≡ statement_declared s
declared_changed A s a same = declared_statement A _ ∙ same ∙ sym (declared_statement A s)

pub seen_changed : (A : Type 0) (s : Statement A) (a : Action A)
    → (statement_seen (roll-Statement A (record { at = (out-Statement A s).at; node = (out-Statement A s).node; action = a }))).merged ≡ (action_seen a).merged
seen_changed A s a = ap (λ x. x.merged) (seen_statement A _)

-- WAITS IN WAITS

pub around_more : {A : Type 0} → (hs ks : List (Header A)) (b : core.Block) → waits_around (hs ++ ks) b ≡ waits_around hs (waits_around ks b)
around_more [] ks b = refl
around_more (h ∷ hs) ks b = ap (λ (x : core.Block). core.stmts (core.stmt h.at h.node (core.wait (map awaited_view h.names.items) x)) core.no_stmts) (around_more hs ks b)

pub view_waits : {A : Type 0} → (ns : Vec Name A) (hs : Vec (Header A) A) (b : Box (Block A) A)
    → action_view (Wait ns hs b) ≡ core.wait (map awaited_view ns.items) (waits_around hs.items (block_view b.value))
view_waits ns hs b = search (rules, the_lemmas)
