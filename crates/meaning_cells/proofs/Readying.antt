-- A header's choice is seen just where it is ready by what is taken.
use Rattle.std.specs.Prelude.{◌≡◌, Bool, true, false, List, [], ◌∷◌, Option, Some, None, refl}
use Rattle.std.proofs.Common.{sym, ap, ◌∙◌, subst}
use Rattle.values.specs.declared.map.Element.{Element}
use Rattle.values.specs.declared.value.Value.{Value}
use Rattle.values.specs.declared.value.Value.TheVariants.{Many}
use Rattle.language.specs.Core.{Action, Block, Cell, Core, choose, each, range, when}
use Rattle.language.specs.Facts.{Knowledge, KnownAll, no_cell, next_cell}
use Rattle.language.specs.Openings.{Branches, Opens}
use Rattle.language.specs.Parts.{outer_cells}
use Rattle.language.specs.Places.{Path}
use Rattle.meaning_steps.specs.Environment.{Sight}
use Rattle.meaning_steps.specs.News.{with_value}
use Rattle.meaning_steps.specs.Taken.{ReadyBy, by_cells, by_source, by_names, Taken}
use Rattle.meaning_cells.specs.Chosen.{Chosen, items, key_in, all_seen, chosen_by, chosen_from, chosen_in, items_seen}
use Rattle.meaning_cells.specs.Taking.{OpensBy, SeesBy}
use Rattle.meaning_cells.proofs.Choosing.{decided, decides, opens_all, opens_so}
use Rattle.meaning_cells.proofs.Looping.{each_all, each_so}

-- cells of which the values are seen are known
pub cells_so : (s : Core) (K : Knowledge) (T : Taken) (path : Path) (g : Sight) → SeesBy s K T path g → (cs : List Cell) (vs : List Value) → all_seen g cs ≡ Some vs → KnownAll K path cs vs
cells_so s K T path g sees [] vs e = let same : [] ≡ vs = cc (e) in subst (λ (z : List Value). KnownAll K path [] z) same no_cell
cells_so s K T path g sees (c ∷ cs) vs e = by (λ us q. cells_so s K T path g sees cs us q) (g.cell c.node) refl (all_seen g cs) refl e
  where
    by : ((us : List Value) → all_seen g cs ≡ Some us → KnownAll K path cs us) → (o : Option Value) → g.cell c.node ≡ o → (r : Option (List Value)) → all_seen g cs ≡ r → with_value o r ≡ Some vs → KnownAll K path (c ∷ cs) vs
    by rest (Some v) p (Some us) q f =
        let same : v ∷ us ≡ vs = cc (f) in
        subst (λ (z : List Value). KnownAll K path (c ∷ cs) z) same (next_cell (sees.cell_so c.node v p) (rest us q))
    by rest (Some v) p None q f = absurd (cc (f))
    by rest None p r q f = absurd (cc (f))

-- and cells that are known are seen
pub cells_all : (s : Core) (K : Knowledge) (T : Taken) (path : Path) (g : Sight) → SeesBy s K T path g → (cs : List Cell) (vs : List Value) → KnownAll K path cs vs → all_seen g cs ≡ Some vs
cells_all s K T path g sees cs vs no_cell = refl
cells_all s K T path g sees cs vs (next_cell {c = c} {cs = ds} {v = v} {vs = us} k m) =
    ap (λ (z : Option Value). with_value z (all_seen g ds)) (sees.cell_all c.node v k) ∙ ap (λ (z : Option (List Value)). with_value (Some v) z) (cells_all s K T path g sees ds us m)

pub record IsReady (s : Core) (K : Knowledge) (T : Taken) (path : Path) (a : Action) (c : Chosen) : Type 0 where
  pub values : List Value
  pub ready : ReadyBy s K T path a values
  pub opens : OpensBy a values c

pub by_values : (s : Core) (K : Knowledge) (T : Taken) (path : Path) (g : Sight) → SeesBy s K T path g → (a : Action) (c : Chosen) → chosen_from a (all_seen g (outer_cells a)) ≡ Some c → IsReady s K T path a c
by_values s K T path g sees a c e = by (all_seen g (outer_cells a)) refl e
  where
    by : (o : Option (List Value)) → all_seen g (outer_cells a) ≡ o → chosen_from a o ≡ Some c → IsReady s K T path a c
    by (Some vs) p f = record {
      values = vs;
      ready = by_cells (cells_so s K T path g sees (outer_cells a) vs p) (decides a vs c f);
      opens = record { all = λ k b o. opens_all a vs c k b f o; so = λ i b l m. opens_so a vs c f i l b m };
    }
    by None p f = absurd (cc (f))

-- what a header has chosen is ready
pub chosen_ready : (s : Core) (K : Knowledge) (T : Taken) (path : Path) (g : Sight) → SeesBy s K T path g → (a : Action) (c : Chosen) → chosen_in g a ≡ Some c → IsReady s K T path a c
chosen_ready s K T path g sees (when o b) c e = by_values s K T path g sees (when o b) c e
chosen_ready s K T path g sees (choose o b d) c e = by_values s K T path g sees (choose o b d) c e
chosen_ready s K T path g sees (range lo hi st x t b) c e = by_values s K T path g sees (range lo hi st x t b) c e
chosen_ready s K T path g sees (each a x t b) c e = by (g.closed a) refl e
  where
    by : (o : Bool) → g.closed a ≡ o → items_seen o (g.elements a) ≡ Some c → IsReady s K T path (each a x t b) c
    by true p f =
        let same : items (g.elements a) ≡ c = cc (f) in
        subst (λ (z : Chosen). IsReady s K T path (each a x t b) z) same (record {
          values = Many (g.elements a) ∷ [];
          ready = by_source (sees.closed_so a p) (sees.elements_so a (sees.closed_so a p));
          opens = record { all = λ k d o. each_all a x t b (g.elements a) k d o; so = λ i d l m. let block : b ≡ d = cc (m) in subst (λ (z : Block). Opens (each a x t b) (Many (g.elements a) ∷ []) (key_in (items (g.elements a)) i) z) block (each_so a x t b (g.elements a) i l) };
        })
    by false p f = absurd (cc (f))
chosen_ready s K T path g sees _ c e = absurd (cc (e))

pub record HasChosen (g : Sight) (a : Action) (vs : List Value) : Type 0 where
  pub choice : Chosen
  pub chosen_is : chosen_in g a ≡ Some choice
  pub opens : OpensBy a vs choice

pub from_cells : (g : Sight) (a : Action) (vs : List Value) (c : Chosen) → Branches a → all_seen g (outer_cells a) ≡ Some vs → chosen_by a vs ≡ Some c → chosen_in g a ≡ Some c
from_cells g (when o b) vs c _ p e = ap (chosen_from (when o b)) p ∙ e
from_cells g (choose o b d) vs c _ p e = ap (chosen_from (choose o b d)) p ∙ e
from_cells g (range lo hi st x t b) vs c _ p e = ap (chosen_from (range lo hi st x t b)) p ∙ e
from_cells g (each a x t b) vs c _ p e = absurd (cc (e))
from_cells g _ vs c never p e = elim never [ ]

-- and what is ready was chosen
pub ready_chosen : (s : Core) (K : Knowledge) (T : Taken) (path : Path) (g : Sight) → SeesBy s K T path g → (a : Action) (vs : List Value) → Branches a → ReadyBy s K T path a vs → HasChosen g a vs
ready_chosen s K T path g sees a vs branches (by_cells k d) =
    let r = decided a vs d in
    record {
      choice = r.0;
      chosen_is = from_cells g a vs r.0 branches (cells_all s K T path g sees (outer_cells a) vs k) r.1;
      opens = record { all = λ k b o. opens_all a vs r.0 k b r.1 o; so = λ i b l m. opens_so a vs r.0 r.1 i l b m };
    }
ready_chosen s K T path g sees header vs branches (by_source {a = a} {x = x} {t = t} {b = b} {es = es} closed elements) =
    record {
      choice = items es;
      chosen_is = ap (λ (z : Bool). items_seen z (g.elements a)) (sees.closed_all a closed) ∙ ap (λ (z : List Element). Some (items z)) (sym (sees.elements_all a es closed elements));
      opens = record { all = λ k d o. each_all a x t b es k d o; so = λ i d l m. let block : b ≡ d = cc (m) in subst (λ (z : Block). Opens (each a x t b) (Many es ∷ []) (key_in (items es) i) z) block (each_so a x t b es i l) };
    }
ready_chosen s K T path g sees a vs branches (by_names f) = elim branches [ ]
