-- What was opened so far is so with a block that became live.
use Rattle.std.specs.Prelude.{◌≡◌, ℕ, ◌<◌, Bool, true, false, List, [], ◌∷◌, ◌++◌, length, nat_le, pos, Some, slice_get, refl}
use Rattle.std.proofs.Common.{sym, ap, ◌∙◌, subst, arith}
use Rattle.std.proofs.lemmas.Bool.Decides.{nat_tests}
use Rattle.std.proofs.lemmas.List.{append-nil, append_assoc}
use Rattle.std.proofs.lemmas.Option.{same_Some}
use mathlib.Core.Path.{fun_ext}
use Rattle.values.specs.declared.key.Key.{Key}
use Rattle.language.specs.Core as core
use Rattle.language.specs.Core.{Core, Stmt, stmt, local, declare, Action}
use Rattle.language.specs.Meaning.{Known}
use Rattle.language.specs.Parts.{block_list, stmt_action, stmt_calls}
use Rattle.language.specs.Members.{◌∈◌}
use Rattle.language.specs.WellFormed.{WellFormed}
use Rattle.language.specs.Places.{max_path_steps}
use Rattle.meaning_facts.specs.declared.instances.InstanceBindings.{InstanceBindings}
use Rattle.paths.specs.declared.steps.Step.{Step}
use Rattle.meaning_cells.specs.Chosen.{Chosen, block_in, chosen_in, count_in, key_in}
use Rattle.meaning_facts.specs.Paths.{path_of}
use Rattle.meaning_facts.specs.Sighted.{sight_of}
use Rattle.meaning_facts.specs.Store.{spots}
use Rattle.meaning_invariants.specs.Active.{Active, active, Candidate, HasBlock}
use Rattle.meaning_invariants.specs.Turns.{turn_variables}
use Rattle.meaning_invariants.specs.Never.{never_called, never_in}
use Rattle.meaning_invariants.specs.Listed.{all_active, declares, declares_by, unless_never}
use Rattle.meaning_invariants.specs.Opened.{GoesOn, IsOpening, IsSoFar, OffsetsApart}
use Rattle.meaning_invariants.proofs.Going.{goes_further, goes_nowhere}
use Rattle.meaning_invariants.proofs.Calling.{call_opening}
use Rattle.meaning_invariants.proofs.Turning.{seen_opening}
use Rattle.meaning_invariants.proofs.Entering.{entered}
use Rattle.meaning_round.specs.declared.state.RoundState.{RoundState}
use Rattle.meaning_round.specs.Made.{arrays_of, declares_here, declares_here_by, no_calls, tasks_of}
use Rattle.meaning_openings.specs.Opening.{IsEnteredBy, IsGood, IsMore, IsStep}

-- with no level of calls nothing is said of functions
no_level : (s : Core) → never_called s 0 ≡ no_calls
no_level s = fun_ext (λ f. fun_ext (λ j. refl))

here_by : (s : Core) (i : ℕ) (b : core.Block) (x : Action) → declares_here_by i b x ≡ declares_by s 0 i b x
here_by s i b (declare v) = ap (λ (f : ℕ → ℕ → Bool). unless_never i b v (never_in f (local v) b)) (sym (no_level s))
here_by s i b (core.call_alone p ps c) = refl
here_by s i b (core.assign y e) = refl
here_by s i b (core.fill y e) = refl
here_by s i b (core.insert y k e) = refl
here_by s i b (core.print p e) = refl
here_by s i b (core.assert p e) = refl
here_by s i b (core.when c d) = refl
here_by s i b (core.choose c d e) = refl
here_by s i b (core.range lo hi st v k d) = refl
here_by s i b (core.each y v k d) = refl
here_by s i b (core.wait ns d) = refl

pub here_declares : (s : Core) (i : ℕ) (b : core.Block) (ss : List Stmt) → declares_here i b ss ≡ declares s 0 i b ss
here_declares s i b [] = refl
here_declares s i b (st ∷ ss) = λ j. here_by s i b (stmt_action st) j ++ here_declares s i b ss j

-- nothing is opened
pub no_step : {A : Type 0} (s : Core) (n : ℕ) (old : RoundState A) → IsGood s n old → IsStep s n old old
no_step s n old good = record { so = good; goes = goes_nowhere old.fact_base (tasks_of old) (tasks_of old) (λ a m. m) }

pub record HasEntered {A : Type 0} (s : Core) (n : ℕ) (old : RoundState A) (i : ℕ) (x : Step) (b : core.Block) (new : RoundState A) : Type 0 where
  pub step : IsStep s n old new
  pub block : HasBlock new.fact_base (tasks_of new) i x.offset x.key b

-- a block became live
pub enter_step : {A : Type 0} (s : Core) (n : ℕ) (old new : RoundState A) (i : ℕ) (x : Step) (g : InstanceBindings) (b : core.Block) → IsGood s n old → IsOpening s (Known s n) old.fact_base i x g b
    → IsEnteredBy old i x g b new → HasEntered s n old i x b new
enter_step {A} s n old new i x g b good opening e =
    let h = entered s (Known s n) 0 old.fact_base (tasks_of old) (arrays_of old) good i x g b opening new.fact_base e.child e.found in
    let arrays : arrays_of new ≡ arrays_of old ++ declares s 0 e.child b (block_list b) = e.arrays ∙ ap (λ (z : List Candidate). arrays_of old ++ z) (here_declares s e.child b (block_list b)) in
    record {
      step = record {
        so = subst (λ (z : List Active). IsSoFar s (Known s n) 0 new.fact_base z (arrays_of new)) (sym e.tasks)
            (subst (λ (z : List Candidate). IsSoFar s (Known s n) 0 new.fact_base (tasks_of old ++ all_active e.child (block_list b)) z) (sym arrays) h.so);
        goes = subst (λ (z : List Active). GoesOn old.fact_base (tasks_of old) new.fact_base z) (sym e.tasks) h.goes;
      };
      block = subst (λ (z : List Active). HasBlock new.fact_base z i x.offset x.key b) (sym e.tasks) h.block;
    }

-- where a path is full no further step is short
pub not_short : (n : ℕ) {X : Type 0} → true ≡ nat_le max_path_steps n → n < max_path_steps → X
not_short n e l = absurd (grind (arith, nat_tests))

pub short_path : (n : ℕ) → false ≡ nat_le max_path_steps n → n < max_path_steps
short_path n e = grind (arith, nat_tests)

-- nothing more
pub more_none : {A : Type 0} (old : RoundState A) → IsMore old old
more_none old = record { more = []; tasks = sym (append-nil (tasks_of old)); worklist = refl; facts = refl; closed = refl }

pub more_entered : {A : Type 0} (old new : RoundState A) (i : ℕ) (x : Step) (g : InstanceBindings) (b : core.Block) → IsEnteredBy old i x g b new → new.fact_base.facts ≡ old.fact_base.facts
    → new.fact_base.closed ≡ old.fact_base.closed → new.worklist ≡ old.worklist → IsMore old new
more_entered old new i x g b e p q r = record { more = all_active e.child (block_list b); tasks = e.tasks; worklist = r; facts = p; closed = q }

pub more_joins : {A : Type 0} (a b c : RoundState A) → IsMore a b → IsMore b c → IsMore a c
more_joins a b c p q = record {
  more = p.more ++ q.more;
  tasks = q.tasks ∙ ap (λ (z : List Active). z ++ q.more) p.tasks ∙ append_assoc (tasks_of a) p.more q.more;
  worklist = q.worklist ∙ p.worklist;
  facts = q.facts ∙ p.facts;
  closed = q.closed ∙ p.closed;
}

pub step_joins : {A : Type 0} (s : Core) (n : ℕ) (a b c : RoundState A) → IsStep s n a b → IsStep s n b c → IsStep s n a c
step_joins s n a b c p q = record { so = q.so; goes = goes_further a.fact_base b.fact_base c.fact_base (tasks_of a) (tasks_of b) (tasks_of c) p.goes q.goes }

-- CALLS

-- the body of a call becomes live
pub call_step : {A : Type 0} (s : Core) (n : ℕ) (old new : RoundState A) (i : ℕ) (c : core.Call) (b : core.Block) (f : core.Function) (x : Step) (g : InstanceBindings)
    → WellFormed s → IsGood s n old → (st : Stmt) → active i st ∈ tasks_of old → c ∈ stmt_calls st → slice_get s.functions c.function ≡ Some f → f.body ≡ b
    → length (path_of old.fact_base.instances.all.items i) < max_path_steps → x.offset ≡ c.at → x.key ≡ Key.Number (pos 0)
    → g.inputs.items ≡ spots old.fact_base.instances.all.items i c.inputs → g.outputs.items ≡ spots old.fact_base.instances.all.items i c.outputs → g.variables.items ≡ []
    → IsEnteredBy old i x g b new → IsStep s n old new × HasBlock new.fact_base (tasks_of new) i c.at (Key.Number (pos 0)) f.body
call_step {A} s n old new i c b f x g w good st m j found body short at key ins outs none e =
    let opening = call_opening s w.names (Known s n) 0 old.fact_base (tasks_of old) (arrays_of old) good i x g short st c f m j found at key ins outs none in
    let h = enter_step s n old new i x g f.body good opening (subst (λ (d : core.Block). IsEnteredBy old i x g d new) (sym body) e) in (
      h.step,
      subst (λ (k : Key). HasBlock new.fact_base (tasks_of new) i c.at k f.body) key (subst (λ (a : ℕ). HasBlock new.fact_base (tasks_of new) i a x.key f.body) at h.block),
    )

-- what is called: by any function that is found
pub one_function : (s : Core) (k : ℕ) (f h : core.Function) → slice_get s.functions k ≡ Some f → slice_get s.functions k ≡ Some h → h ≡ f
one_function s k f h p q = same_Some _ _ (sym q ∙ p)

-- TURNS

-- a block that a header opens in a turn becomes live
pub turn_step : {A : Type 0} (s : Core) (n : ℕ) (old new : RoundState A) (i at node : ℕ) (header : Action) (c : Chosen) (j : ℕ) (b : core.Block) (x : Step) (g : InstanceBindings)
    → WellFormed s → OffsetsApart s → IsGood s n old → active i (stmt at node header) ∈ tasks_of old → chosen_in (sight_of old.fact_base i) header ≡ Some c → j < count_in c → block_in header c ≡ Some b
    → length (path_of old.fact_base.instances.all.items i) < max_path_steps → x.offset ≡ at → x.key ≡ key_in c j → g.inputs.items ≡ [] → g.outputs.items ≡ [] → g.variables.items ≡ turn_variables header c j
    → IsEnteredBy old i x g b new → IsStep s n old new × HasBlock new.fact_base (tasks_of new) i at (key_in c j) b
turn_step {A} s n old new i at node header c j b x g w offsets good there chosen below block short at_is key ins outs variables e =
    let opening = seen_opening s w offsets (Known s n) 0 old.fact_base (tasks_of old) (arrays_of old) good i x g short at node header c j b there chosen below block at_is key ins outs variables in
    let h = enter_step s n old new i x g b good opening e in (
      h.step,
      subst (λ (k : Key). HasBlock new.fact_base (tasks_of new) i at k b) key (subst (λ (a : ℕ). HasBlock new.fact_base (tasks_of new) i a x.key b) at_is h.block),
    )
