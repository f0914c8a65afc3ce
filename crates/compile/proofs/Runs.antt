-- What is emitted for the flow of a script is the script's code, and what every run of it keeps.
use Rattle.std.proofs.Common.{◌≡◌, inl, inr, ℕ, Bool, ◌≤◌, List, length, map, ap, sym, subst, ◌∙◌, arith}
use Rattle.dataflow.specs.History.{log_of}
use Rattle.dataflow.proofs.Bound.{events_bound}
use Rattle.dataflow.proofs.Ends.{same_end}
use Rattle.dataflow.proofs.Headline.{goes_on}
use Rattle.dataflow.proofs.Keeping.{data_exact, data_kept, leads_to}
use Rattle.dataflow.proofs.Numbers.{run_numbered}
use Rattle.dataflow.proofs.Possible.{has_steps}
use Rattle.dataflow.proofs.Steps.{run_follows}
use Rattle.dataflow.proofs.Swept.{step_tidy}
use Rattle.language.specs.Core.{Core}
use Rattle.language.specs.Members.{◌∈◌}
use Rattle.language.specs.Outcomes.{Clean}
use Rattle.language.specs.Resolved.{core}
use Rattle.language.specs.Numbered.{tree_size}
use Rattle.language.specs.Scopes.{Signature}
use Rattle.language.specs.Single.{SinglyAssigned}
use Rattle.language.specs.Table.{Table}
use Rattle.language.specs.Tree.{Declaration, Tree}
use Rattle.language.specs.Typing.{WellTyped}
use Rattle.language_accepted.proofs.Accepted.{placed_formed, values_meant}
use Rattle.language_accepted.specs.Placed.{IsPlaced}
use Rattle.language_accepted.proofs.Apart.{read_placed}
use Rattle.language_accepted.proofs.Formed.{scoped}
use Rattle.flow.specs.Cells.{AreAmong, anchors_of}
use Rattle.flow.specs.Shapes.{declared_of, kinds_of}
use Rattle.flow.specs.View.{core_of}
use Rattle.flow.specs.declared.script.Flow.{Flow}
use Rattle.task_code.specs.Code.{Code}
use Rattle.task_code.specs.System.{code_system}
use Rattle.task_code.specs.Whole.{IsCode}
use Rattle.task_code.proofs.Kept.{code_laws}
use Rattle.code_rules.specs.Emitted.{CallsOnce, CellsOnce, IsEmitted, ReadsStand, size_of}
use Rattle.headline.specs.Headline.{Headline}
use Rattle.code_rules.specs.IsCodeOf.{IsCodeOf}
use Rattle.code_rules.specs.Laying.{Kinds}
use Rattle.code_rules.specs.Room.{CoreRoom}
use Rattle.headline.proofs.Meant.{meaning_knows}
use Rattle.code_laws.proofs.Accepted.{accepted_cells, accepted_code, accepted_nodes}
use Rattle.code_laws.proofs.IndexParts.{reads_stand}
use Rattle.code_laws.proofs.Small.{laid_small}
use Rattle.code_laws.proofs.Offsets.{accepted_calls}
use Rattle.compile.proofs.Whole.{exact_rights, headline_emitted, whole_emitted}
use Rattle.code_laws.specs.Described.{DeclaredIn, KindsOf, is_array_shape, kinds_of_signature}
use Rattle.emit.specs.Marks.{marks_of}
use Rattle.lowering.specs.Nodes.{nodes_of}
use Rattle.fold_laws.specs.Same.{SameCore}
use Rattle.fold_laws.proofs.Turned.{turned_core}
use Rattle.fold_laws.proofs.Views.{same_clean}
use Rattle.headline.proofs.Same.{headline_too}
use Rattle.headline.proofs.Bounds.{run_bound, run_live}
use Rattle.constant_fold.specs.Folded.{folded_tree}
use Rattle.constant_fold.proofs.Declared.{tree_declares}
use Rattle.constant_fold.proofs.Placed.{folded_placed}
use Rattle.constant_fold.proofs.Scripts.{core_same}
use Rattle.constant_fold.proofs.Singly.{singly_assigned}
use Rattle.constant_fold.proofs.Typed.{folded_typed, signatures_stay}
use Rattle.compile.specs.Compiled.{IsCompiled, IsFlowFor, IsFlowOf, IsFoldedFlowOf, IsOfScript, RunsAreLive, RunsGoOn}
use Rattle.compile.specs.Accepted.{IsAccepted}
use Rattle.compile.proofs.Sizes.{fold_fits, read_fits, room_tree, small_fold, small_tree}
use Rattle.values.specs.Limits.{max_entries}

runs_go_on : (C : Code) → IsCode C → RunsGoOn C
runs_go_on C I = record {
  goes_on = λ es st x. goes_on (code_system C) (code_laws C I) st (log_of (code_system C) es st x) (run_follows (code_system C) (code_laws C I) es st x) (run_numbered (code_system C) es st x);
  steps = λ es st x. has_steps (code_system C) (code_laws C I) st (goes_on (code_system C) (code_laws C I) st (log_of (code_system C) es st x) (run_follows (code_system C) (code_laws C I) es st x) (run_numbered (code_system C) es st x));
  once = λ es st x. leads_to (code_system C) (code_laws C I) st (log_of (code_system C) es st x) (run_follows (code_system C) (code_laws C I) es st x);
  one_end = λ es fs st u x y qs qu. same_end (code_system C) (code_laws C I) st u (log_of (code_system C) es st x) (log_of (code_system C) fs u y) (run_follows (code_system C) (code_laws C I) es st x) (run_follows (code_system C) (code_laws C I) fs u y) qs qu;
  kept = λ es st x. data_kept (code_system C) (code_laws C I) st (log_of (code_system C) es st x) (run_follows (code_system C) (code_laws C I) es st x);
  can_be_tidy = λ old e new x. step_tidy (code_system C) (code_laws C I) old e new x;
  exact = λ es st x tidy. data_exact (code_system C) (code_laws C I) st (log_of (code_system C) es st x) (run_follows (code_system C) (code_laws C I) es st x) tidy;
  bound = λ es st x. events_bound (code_system C) es st x;
}

-- WHAT THE FOLD OF AN ACCEPTED SCRIPT IS

module _ (src : List ℕ) (t : Table) (tree : Tree) (a : IsAccepted src t tree) where
  pub folds_placed : IsPlaced (folded_tree tree)
  folds_placed = folded_placed tree (read_placed src tree a.reads)

  pub folds_typed : WellTyped (folded_tree tree) t
  folds_typed = folded_typed t tree a.typed

  folds_same : SameCore (core t tree) (core t (folded_tree tree))
  folds_same = core_same t tree a.typed

  pub folds_single : SinglyAssigned (core t (folded_tree tree))
  folds_single = singly_assigned (core t tree) (core t (folded_tree tree)) folds_same a.single

pub kinds_stay : (fs : List Kinds) (tree : Tree) → KindsOf fs tree → KindsOf fs (folded_tree tree)
kinds_stay fs tree k = k ∙ ap (λ (xs : List Signature). map kinds_of_signature xs) (sym (signatures_stay tree))

kinds_back : (fs : List Kinds) (tree : Tree) → KindsOf fs (folded_tree tree) → KindsOf fs tree
kinds_back fs tree k = k ∙ ap (λ (xs : List Signature). map kinds_of_signature xs) (signatures_stay tree)

-- declared among these
abbrev pub DeclaredAmong : List (ℕ × Bool) → List Declaration → Type 0
DeclaredAmong ds xs = (n : ℕ) (b : Bool) → ◌∈◌ {X = ℕ × Bool} (n, b) ds → (d : Declaration) × d ∈ xs × (d.name.number ≡ n) × (is_array_shape d.shape ≡ b)

pub declared_stay : (ds : List (ℕ × Bool)) (tree : Tree) → DeclaredIn ds tree → DeclaredIn ds (folded_tree tree)
declared_stay ds tree h = subst (DeclaredAmong ds) (sym (tree_declares tree)) h

declared_back : (ds : List (ℕ × Bool)) (tree : Tree) → DeclaredIn ds (folded_tree tree) → DeclaredIn ds tree
declared_back ds tree h = subst (DeclaredAmong ds) (tree_declares tree) h

-- WHAT IS EMITTED FOR IT

module _ (src : List ℕ) (t : Table) (tree : Tree) (fs : List Kinds) (ds : List (ℕ × Bool)) (C : Code) (a : IsAccepted src t tree) (kinds : KindsOf fs tree) (declared : DeclaredIn ds tree) (e : IsEmitted (core t (folded_tree tree)) fs ds C) where
  code_is : IsCodeOf (core t (folded_tree tree)) C
  code_is = accepted_code t (folded_tree tree) fs ds C (folds_placed src t tree a) e.laid

  is_whole : IsCode C
  is_whole = whole_emitted t (folded_tree tree) fs ds C (folds_placed src t tree a) (folds_typed src t tree a) (folds_single src t tree a) (kinds_stay fs tree kinds) (declared_stay ds tree declared) e

  owes : Headline (core t tree) C
  owes =
      headline_too (core t (folded_tree tree)) (core t tree) (turned_core (folds_same src t tree a)) C
      (headline_emitted t (folded_tree tree) fs ds C (folds_placed src t tree a) (folds_typed src t tree a) (folds_single src t tree a) (kinds_stay fs tree kinds) (declared_stay ds tree declared) e)

  few : length C.entries ≤ max_entries
  few =
      let x = laid_small (core t (folded_tree tree)) fs ds C e.laid (accepted_cells t (folded_tree tree) (folds_placed src t tree a)) (reads_stand t (folded_tree tree)) in
      let y = small_fold src t tree a.reads in
      omega arith

  are_live : Clean (core t tree) → RunsAreLive (core t tree) C code_is.layout
  are_live clean =
      let T = folded_tree tree in
      let same = folds_same src t tree a in
      let place = folds_placed src t tree a in
      let typed = folds_typed src t tree a in
      let single = folds_single src t tree a in
      let wf = placed_formed t T place typed single in
      let kn = meaning_knows (core t T) wf single (same_clean (core t tree) (core t T) same clean) in
      let sc = scoped t T place.in_order typed in
      let ty = values_meant t T place typed in
      let nodes = accepted_nodes t T fs ds C place e.laid in
      let ex = exact_rights C e.rights in
      record {
        live = run_live (core t tree) (core t T) same C code_is wf kn is_whole sc ty nodes ex single;
        bound = run_bound (core t tree) (core t T) same C code_is wf kn is_whole sc ty nodes ex single;
      }

  pub of_tree : AreAmong (marks_of C.entries) (nodes_of (folded_tree tree)) → IsCompiled src C
  of_tree marks = record {
    table = t;
    tree = tree;
    accepted = a;
    laid = record { kinds = fs; declared = ds; kinds_of = kinds; declared_in = declared; emitted = e };
    code_of = code_is;
    whole = is_whole;
    exact = exact_rights C e.rights;
    nodes = accepted_nodes t (folded_tree tree) fs ds C (folds_placed src t tree a) e.laid;
    marks = marks;
    few = few;
    headline = owes;
    runs = runs_go_on C is_whole;
    live = are_live;
  }

-- WHAT THE EMISSION ASKS OF A FLOW

-- the flow of a placed, typed and singly assigned tree that is not too large
pub record Suits {A : Type 0} (flow : Flow A) : Type 0 where
  pub table : Table
  pub tree : Tree
  pub place : IsPlaced tree
  pub typed : WellTyped tree table
  pub single : SinglyAssigned (core table tree)
  pub fits : tree_size tree ≤ 2097152
  pub is : IsFlowFor table tree flow

pub written_suits : {A : Type 0} (src : List ℕ) (flow : Flow A) → IsFlowOf src flow → Suits flow
written_suits src flow is = record {
  table = is.0;
  tree = is.1;
  place = read_placed src is.1 (is.2).reads;
  typed = (is.2).typed;
  single = (is.2).single;
  fits = read_fits src is.1 (is.2).reads;
  is = is.3;
}

pub folded_suits : {A : Type 0} (src : List ℕ) (flow : Flow A) → IsFoldedFlowOf src flow → Suits flow
folded_suits src flow is = record {
  table = is.0;
  tree = folded_tree is.1;
  place = folds_placed src is.0 is.1 is.2;
  typed = folds_typed src is.0 is.1 is.2;
  single = folds_single src is.0 is.1 is.2;
  fits = fold_fits src is.1 (is.2).reads;
  is = is.3;
}

pub script_suits : {A : Type 0} (flow : Flow A) → IsOfScript flow → Suits flow
script_suits flow script = elim script.is [ inl is ↦ written_suits script.src flow is | inr is ↦ folded_suits script.src flow is ]

module _ {A : Type 0} (flow : Flow A) (suits : Suits flow) where
  back : core suits.table suits.tree ≡ core_of flow
  back = sym (suits.is).core_is

  pub flow_calls : CallsOnce (core_of flow)
  flow_calls = subst CallsOnce back (accepted_calls suits.table suits.tree suits.place)

  pub flow_cells : CellsOnce (core_of flow)
  flow_cells = subst CellsOnce back (accepted_cells suits.table suits.tree suits.place)

  pub flow_reads : ReadsStand (core_of flow)
  flow_reads = subst ReadsStand back (reads_stand suits.table suits.tree)

  pub flow_room : CoreRoom (core_of flow)
  flow_room = subst CoreRoom back (room_tree suits.table suits.tree suits.place suits.typed suits.fits)

  pub flow_size : size_of (core_of flow) ≤ max_entries
  flow_size = subst (λ (c : Core). size_of c ≤ max_entries) back (small_tree suits.table suits.tree suits.fits)

  -- what is emitted for it is whole and not too long
  module _ (code : Code) (e : IsEmitted (core_of flow) (kinds_of flow) (declared_of flow) code) where
    of_core : IsEmitted (core suits.table suits.tree) (kinds_of flow) (declared_of flow) code
    of_core = subst (λ (c : Core). IsEmitted c (kinds_of flow) (declared_of flow) code) (suits.is).core_is e

    pub flow_whole : IsCode code
    flow_whole = whole_emitted suits.table suits.tree (kinds_of flow) (declared_of flow) code suits.place suits.typed suits.single (suits.is).kinds (suits.is).declared of_core

    pub flow_few : length code.entries ≤ max_entries
    flow_few =
        let x = laid_small (core suits.table suits.tree) (kinds_of flow) (declared_of flow) code of_core.laid (accepted_cells suits.table suits.tree suits.place) (reads_stand suits.table suits.tree) in
        let y = small_tree suits.table suits.tree suits.fits in
        omega arith

-- what is emitted for the flow of a fold is the script's code
pub compiled : {A : Type 0} (src : List ℕ) (flow : Flow A) (is : IsFoldedFlowOf src flow) (code : Code) → IsEmitted (core_of flow) (kinds_of flow) (declared_of flow) code → AreAmong (marks_of code.entries) (anchors_of flow) → IsCompiled src code
compiled src flow is code e marks =
    of_tree src is.0 is.1 (kinds_of flow) (declared_of flow) code is.2 (kinds_back (kinds_of flow) is.1 (is.3).kinds) (declared_back (declared_of flow) is.1 (is.3).declared)
    (subst (λ (c : Core). IsEmitted c (kinds_of flow) (declared_of flow) code) (is.3).core_is e) (λ x there. (is.3).cells x (marks x there))
