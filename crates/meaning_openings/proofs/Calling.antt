-- The bodies of the calls of a statement, one after another.
use Rattle.std.specs.Prelude.{◌≡◌, ℕ, ◌+◌, ◌<◌, pos, List, [], ◌∷◌, ◌++◌, length, take, Some, slice_get}
use Rattle.std.specs.Borrow.{Bor}
use Rattle.std.proofs.Common.{inl, inr, sym, ap, ◌∙◌, subst, get_or}
use Rattle.std.proofs.lemmas.List.{map-append, take_more}
use Rattle.values.specs.declared.key.Key.{Key}
use Rattle.flow.specs.declared.cell.Call.{Call}
use Rattle.flow.specs.View.{call_view}
use Rattle.language.specs.Core as core
use Rattle.language.specs.Core.{Core, Stmt}
use Rattle.language.specs.Members.{◌∈◌}
use Rattle.language.specs.Parts.{stmt_calls}
use Rattle.language.specs.Places.{Path, max_path_steps}
use Rattle.language.proofs.Members.{either, split_in}
use Rattle.meaning_cells.specs.Listed.{calls_listed}
use Rattle.meaning_facts.specs.Paths.{path_of}
use Rattle.meaning_invariants.specs.Active.{Active, active, HasBlock}
use Rattle.meaning_invariants.specs.Opened.{AreCalled}
use Rattle.meaning_invariants.proofs.Going.{block_stays}
use Rattle.meaning_round.specs.declared.state.RoundState.{RoundState}
use Rattle.meaning_round.specs.Made.{tasks_of}
use Rattle.meaning_round.proofs.Listed.{mapped_in, nth_in}
use Rattle.meaning_openings.specs.Opening.{HaveBodies, IsGood, IsStep}
use Rattle.meaning_openings.proofs.Entering.{no_step, step_joins}

-- no call
pub no_bodies : {A : Type 0} (s : Core) (n : ℕ) (old : RoundState A) (i : ℕ) → IsGood s n old → HaveBodies s n old old i []
no_bodies {A} s n old i good = record { step = no_step s n old good; bodies = λ c f m e short. elim m [ ] }

pub only_one : {X : Type 0} (x y : X) → x ∈ (y ∷ []) → x ≡ y
only_one x y m = elim (split_in m) [ inl e ↦ e | inr i ↦ absurd (none i) ]
  where
    none : x ∈ [] → ⊥
    none i = elim i [ ]

-- one call more
pub body_next : {A : Type 0} (s : Core) (n : ℕ) (old mid new : RoundState A) (i : ℕ) (st : Stmt) (cs : List core.Call) (c : core.Call) → IsGood s n old → active i st ∈ tasks_of old → HaveBodies s n old mid i cs
    → (IsGood s n mid → active i st ∈ tasks_of mid → IsStep s n mid new
    × ((f : core.Function) → slice_get s.functions c.function ≡ Some f → length (path_of mid.fact_base.instances.all.items i) < max_path_steps → HasBlock new.fact_base (tasks_of new) i c.at (Key.Number (pos 0)) f.body))
    → HaveBodies s n old new i (cs ++ c ∷ [])
body_next {A} s n old mid new i st cs c good there h opens =
    let within = (good.live (active i st) there).within in
    let now = opens h.step.so (h.step.goes.listed (active i st) there) in
    let one : (f : core.Function) → slice_get s.functions c.function ≡ Some f → length (path_of old.fact_base.instances.all.items i) < max_path_steps → HasBlock new.fact_base (tasks_of new) i c.at (Key.Number (pos 0)) f.body
    = λ f e short. now.1 f e (subst (λ (p : Path). length p < max_path_steps) (sym (h.step.goes.path_same i within)) short) in
    record {
      step = step_joins s n old mid new h.step now.0;
      bodies = λ d f m e short. elim (either cs (c ∷ []) m) [
        | inl before ↦ block_stays mid.fact_base new.fact_base (tasks_of mid) (tasks_of new) now.0.goes (h.bodies d f before e short)
        | inr last ↦ (
            let same : d ≡ c = only_one d c last in
            subst (λ (z : core.Call). HasBlock new.fact_base (tasks_of new) i z.at (Key.Number (pos 0)) f.body) (sym same)
            (one f (subst (λ (z : core.Call). slice_get s.functions z.function ≡ Some f) same e) short)
            )
      ];
    }

-- all of them
pub bodies_called : {A : Type 0} (s : Core) (n : ℕ) (old new : RoundState A) (a : Active) → IsGood s n old → a ∈ tasks_of old → HaveBodies s n old new a.instance (stmt_calls a.statement)
    → IsStep s n old new × AreCalled s new.fact_base (tasks_of new) a
bodies_called {A} s n old new a good there h =
    let within = (good.live a there).within in
    (h.step, λ c f m e short. h.bodies c f m e (subst (λ (p : Path). length p < max_path_steps) (h.step.goes.path_same a.instance within) short))

-- the calls of a list with one more
pub calls_more : {A : Type 0} (cs : List (Bor (Call A))) (i : ℕ) (d : Bor (Call A)) → i < length cs → calls_listed (take (i + 1) cs) ≡ calls_listed (take i cs) ++ call_view (get_or cs i d).now ∷ []
calls_more {A} cs i d l =
    ap (λ (z : List (Bor (Call A))). calls_listed z) (take_more cs i d l) ∙ map-append (λ (c : Bor (Call A)). call_view c.now) (take i cs) (get_or cs i d ∷ [])

pub call_there : {A : Type 0} (cs : List (Bor (Call A))) (i : ℕ) (d : Bor (Call A)) → i < length cs → call_view (get_or cs i d).now ∈ calls_listed cs
call_there {A} cs i d l = mapped_in (λ (c : Bor (Call A)). call_view c.now) cs (nth_in cs i d l)
