-- What a call or a header opens may be opened.
use Rattle.std.specs.Prelude.{◌≡◌, ℕ, zero, suc, ◌<◌, pos, List, [], ◌∷◌, length, Option, Some, None, slice_get, refl}
use Rattle.std.proofs.Common.{sym, ap, ◌∙◌, subst}
use Rattle.values.specs.declared.key.Key.{Key}
use Rattle.values.specs.declared.value.Scalar.{Scalar}
use Rattle.values.specs.declared.value.Value.{Value}
use Rattle.language.specs.Core.{Action, Block, Call, Core, Function, Name, Stmt, stmt}
use Rattle.language.specs.Facts.{Knowledge}
use Rattle.language.specs.Members.{◌∈◌}
use Rattle.language.specs.Meaning.{Live, called, opened, LiveStmt, in_block, Ready}
use Rattle.language.specs.Openings.{InTurn, Opens}
use Rattle.language.specs.Parts.{call_at, input_name, name_at, output_name, stmt_calls}
use Rattle.language.specs.Places.{Path, max_path_steps}
use Rattle.language.specs.WellFormed.{NamesFound}
use Rattle.language_laws.proofs.Declared.{stmt_in}
use Rattle.meaning_facts.specs.declared.facts.Place.{Place as Spot}
use Rattle.meaning_facts.specs.declared.instances.InstanceBindings.{InstanceBindings}
use Rattle.meaning_facts.specs.declared.instances.Instance.{Instance}
use Rattle.paths.specs.declared.steps.Step.{Step}
use Rattle.meaning_facts.specs.declared.instances.LoopVariable.{LoopVariable}
use Rattle.meaning_facts.specs.declared.fact_base.FactBase.{FactBase}
use Rattle.meaning_facts.specs.Paths.{path_of}
use Rattle.meaning_facts.specs.Store.{given_at, spot, spots, variable_in}
use Rattle.meaning_invariants.specs.Active.{Active, active, Candidate}
use Rattle.meaning_invariants.specs.Opened.{IsOpening, IsSoFar, OffsetsApart, Origin, of_call, of_header}
use Rattle.meaning_invariants.proofs.Final.{live_call, opens_branches}

-- what is given lies where the names do
given_name : (ns : List Instance) (i : ℕ) (xs : List Name) (j : ℕ) → given_at (spots ns i xs) j i ≡ spot ns i (name_at xs j)
given_name ns i [] j = refl
given_name ns i (x ∷ xs) zero = refl
given_name ns i (x ∷ xs) (suc j) = given_name ns i xs j

live_body : {s : Core} {K : Knowledge} {path : Path} {st : Stmt} {c : Call} {f : Function} → LiveStmt s K path st → c ∈ stmt_calls st → slice_get s.functions c.function ≡ Some f
    → length path < max_path_steps → Live s K ((c.at, Key.Number (pos 0)) ∷ path) f.body
live_body (in_block l m) j e h = called l m j e h

live_turn : {s : Core} {K : Knowledge} {path : Path} {at n : ℕ} {header : Action} {vs : List Value} {k : Key} {b : Block} → LiveStmt s K path (stmt at n header) → Ready s K path header vs
    → Opens header vs k b → length path < max_path_steps → Live s K ((at, k) ∷ path) b
live_turn (in_block l m) r o h = opened l m r o h

module _ (s : Core) (names : NamesFound s) (K : Knowledge) (levels : ℕ) (l : FactBase) (ls : List Active) (arrays : List Candidate) (far : IsSoFar s K levels l ls arrays) (i : ℕ)
    (x : Step) (g : InstanceBindings) (short : length (path_of l.instances.all.items i) < max_path_steps) where
  abbrev ns : List Instance
  ns = l.instances.all.items

  -- the body of a call
  module _ (st : Stmt) (c : Call) (f : Function) (there : active i st ∈ ls) (calls : c ∈ stmt_calls st) (found : slice_get s.functions c.function ≡ Some f)
      (at : x.offset ≡ c.at) (key : x.key ≡ Key.Number (pos 0)) (ins : g.inputs.items ≡ spots ns i c.inputs) (outs : g.outputs.items ≡ spots ns i c.outputs) (none : g.variables.items ≡ []) where
    call_is : call_at s x.offset ≡ Some c
    call_is = ap (call_at s) at ∙ live_call s names c (far.live (active i st) there).so calls

    pub call_opening : IsOpening s K l i x g f.body
    call_opening = record {
      within = (far.live (active i st) there).within;
      short = short;
      live = subst (λ (k : Key). Live s K ((x.offset, k) ∷ path_of ns i) f.body) (sym key)
          (subst (λ (a : ℕ). Live s K ((a, Key.Number (pos 0)) ∷ path_of ns i) f.body) (sym at) (live_body (far.live (active i st) there).so calls found short));
      inputs = λ j. ap (λ (ps : List Spot). given_at ps j i) ins ∙ given_name ns i c.inputs j ∙ ap (λ (o : Option Call). spot ns i (input_name o j)) (sym call_is);
      outputs = λ j. ap (λ (ps : List Spot). given_at ps j i) outs ∙ given_name ns i c.outputs j ∙ ap (λ (o : Option Call). spot ns i (output_name o j)) (sym call_is);
      origin = of_call (far.live (active i st) there).so calls (sym at) (λ y. ap (λ (vs : List LoopVariable). variable_in vs y) none);
    }

  -- a turn of a header
  module _ (offsets : OffsetsApart s) (at n : ℕ) (header : Action) (vs : List Value) (b : Block) (there : active i (stmt at n header) ∈ ls) (ready : Ready s K (path_of ns i) header vs)
      (at_is : x.offset ≡ at) (opens : Opens header vs x.key b) (ins : g.inputs.items ≡ []) (outs : g.outputs.items ≡ [])
      (all : (y : ℕ) (v : Scalar) → InTurn header vs x.key y v → variable_in g.variables.items y ≡ Some v) (so : (y : ℕ) (v : Scalar) → variable_in g.variables.items y ≡ Some v → InTurn header vs x.key y v) where
    no_call : call_at s x.offset ≡ None
    no_call = ap (call_at s) at_is ∙ offsets.no_call (stmt at n header) (stmt_in s (far.live (active i (stmt at n header)) there).so) (opens_branches opens)

    pub turn_opening : IsOpening s K l i x g b
    turn_opening = record {
      within = (far.live (active i (stmt at n header)) there).within;
      short = short;
      live = subst (λ (a : ℕ). Live s K ((a, x.key) ∷ path_of ns i) b) (sym at_is) (live_turn (far.live (active i (stmt at n header)) there).so ready opens short);
      inputs = λ j. ap (λ (ps : List Spot). given_at ps j i) ins ∙ ap (λ (o : Option Call). spot ns i (input_name o j)) (sym no_call);
      outputs = λ j. ap (λ (ps : List Spot). given_at ps j i) outs ∙ ap (λ (o : Option Call). spot ns i (output_name o j)) (sym no_call);
      origin = subst (λ (a : ℕ). Origin s K (path_of ns i) a x.key (variable_in g.variables.items)) (sym at_is) (of_header (far.live (active i (stmt at n header)) there).so ready opens all so);
    }
