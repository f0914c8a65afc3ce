-- Laid code of an accepted script keeps the scopes of names.
use Rattle.std.proofs.Common.{◌≡◌, ◌⊎◌, inl, inr, ℕ, Bool, List, map, sym, ap, ◌∙◌, subst}
use Rattle.dataflow.specs.System.{In}
use Rattle.language.specs.Core.{Core}
use Rattle.language.specs.Members.{◌∈◌}
use Rattle.language_accepted.specs.Placed.{IsPlaced}
use Rattle.language.specs.Resolved.{core}
use Rattle.language.specs.Scopes.{Typ, Signature, signatures}
use Rattle.language.specs.Single.{SinglyAssigned, an_input}
use Rattle.language.specs.Table.{Table}
use Rattle.language.specs.Tree.{Tree}
use Rattle.language.specs.Typing.{WellTyped}
use Rattle.language_laws.proofs.OneAssign.{function_in}
use Rattle.language_laws.specs.Scoped.{Scoped}
use Rattle.task_code.specs.Code as code
use Rattle.task_code.specs.Code.{Code, Way, Calling, Entry, body, entry, ways, targets}
use Rattle.task_code.specs.Exact.{needs_of}
use Rattle.task_code.specs.Whole.{Declared, Fixes, SeenFrom}
use Rattle.code_rules.specs.Emitted.{HasRights}
use Rattle.code_rules.specs.IsCodeOf.{Layout}
use Rattle.code_rules.specs.NodesOnce.{NodesOnce}
use Rattle.task_code.specs.Whole.{IsCode}
use Rattle.language_laws.proofs.TreeNodes.{nodes_once}
use Rattle.language_accepted.proofs.Once.{rising_once}
use Rattle.code_rules.specs.Laying.{Kinds}
use Rattle.code_rules.specs.Laid.{IsLaid}
use Rattle.language_accepted.proofs.Accepted.{placed_types}
use Rattle.language_accepted.proofs.Formed.{scoped}
use Rattle.language_accepted.proofs.Given.{no_target}
use Rattle.language_accepted.specs.Types.{Types}
use Rattle.code_laws.specs.Described.{is_array_shape, kinds_of_signature, KindsOf, DeclaredIn}
use Rattle.code_laws.specs.Standing.{CallsAreFound}
use Rattle.code_laws.specs.Within.{IsWithin}
use Rattle.code_laws.proofs.Settling.{ScriptScoped, scopes_of}
use Rattle.code_laws.proofs.Bases.{Assigns, has_target, keeps_targets, Free, keeps_all, base_reads, base_written}
use Rattle.code_laws.proofs.Standings.{standing}
use Rattle.code_laws.proofs.WholeCode.{whole}
use Rattle.code_laws.proofs.Fields.{script_settled, passes}

module _ {s : Core} {fs : List Kinds} {ds : List (ℕ × Bool)} (C : Code) (l : Layout) (L : IsLaid s fs ds C l) (R : HasRights C) (found : CallsAreFound C) (scoped : Scoped s)
    (sigs : List Signature) (type_of : ℕ → Typ) (S : ScriptScoped sigs type_of s) (D : (n : ℕ) (b : Bool) → ◌∈◌ {X = ℕ × Bool} (n, b) ds → is_array_shape (type_of n).shape ≡ b) (kinds : fs ≡ map kinds_of_signature sigs) (single : SinglyAssigned s) where
  reads_pass : (i : ℕ) (w : Way) (b j : ℕ) (r : code.Name) → In {X = Way × ℕ} (w, b) (ways (entry C i).act) → In j (body C b).entries → In r (entry C j).reads → (Declared C b r ⊎ SeenFrom C (λ e. e.reads) i w r) ⊎ Fixes C (entry C i).offset w r
  reads_pass i w b j r way h right =
      elim (passes C l L found scoped sigs type_of S D kinds single Free (keeps_all s) needs_of (λ e. e.reads) R.reads R.all_reads (base_reads C l L found scoped sigs type_of S D) i b w j r way h right) [
        | inl x ↦ inl x
        | inr x ↦ inr (subst (λ (v : Way). Fixes C (entry C i).offset v r) (sym x.0) (x.1).fixes)
      ]

  writes_pass : (i : ℕ) (w : Way) (b j : ℕ) (r : code.Name) → In {X = Way × ℕ} (w, b) (ways (entry C i).act) → In j (body C b).entries → In r (entry C j).writes → Declared C b r ⊎ SeenFrom C (λ e. e.writes) i w r
  writes_pass i w b j r way h right =
      elim (passes C l L found scoped sigs type_of S D kinds single Assigns (keeps_targets s single) targets (λ e. e.writes) R.writes R.all_writes (base_written C l L found scoped sigs type_of S D single kinds) i b w j r way h right) [
        | inl x ↦ x
        | inr x ↦ absurd (no_target s single (an_input (function_in s.functions (x.1).place (x.1).function (x.1).there) (x.1).below) (has_target (x.1).kept))
      ]

  pub within : IsWithin C
  within = record {
    script_reads = script_settled C l L found scoped sigs type_of S D kinds single Free (keeps_all s) needs_of (λ e. e.reads) R.reads R.all_reads (base_reads C l L found scoped sigs type_of S D);
    script_writes = script_settled C l L found scoped sigs type_of S D kinds single Assigns (keeps_targets s single) targets (λ e. e.writes) R.writes R.all_writes (base_written C l L found scoped sigs type_of S D single kinds);
    reads = reads_pass;
    writes = writes_pass;
  }

-- what is declared is an array where its type is one
pub declared_kinds : (type_of : ℕ → Typ) (ds : List (ℕ × Bool)) (tree : Tree) → DeclaredIn ds tree → Rattle.language_accepted.specs.Types.DeclaredAs type_of (Rattle.language_accepted.specs.Types.tree_declarations tree) → (n : ℕ) (b : Bool) → ◌∈◌ {X = ℕ × Bool} (n, b) ds → is_array_shape (type_of n).shape ≡ b
declared_kinds type_of ds tree h k n b m =
    let r = h n b m in
    ap (λ (τ : Typ). is_array_shape τ.shape) (subst (λ (x : ℕ). type_of x ≡ Rattle.language.specs.Scopes.declared_type r.0) r.2 (k r.0 r.1)) ∙ r.3

pub accepted_within : (t : Table) (tree : Tree) (fs : List Kinds) (ds : List (ℕ × Bool)) (C : Code) (l : Layout) → IsPlaced tree → WellTyped tree t → SinglyAssigned (core t tree) → KindsOf fs tree → DeclaredIn ds tree
    → IsLaid (core t tree) fs ds C l → HasRights C → CallsAreFound C → IsWithin C
accepted_within t tree fs ds C l place typed single kinds declared laid rights found =
    let types : Types t tree = placed_types t tree place typed in
    within C l laid rights found (scoped t tree place.in_order typed) (signatures tree) types.type_of (scopes_of types.type_of t tree types.declared typed) (declared_kinds types.type_of ds tree declared types.declared) kinds single

-- LAID CODE OF AN ACCEPTED SCRIPT IS WHOLE
pub accepted_whole : (t : Table) (tree : Tree) (fs : List Kinds) (ds : List (ℕ × Bool)) (C : Code) (l : Layout) → IsPlaced tree → WellTyped tree t → SinglyAssigned (core t tree) → KindsOf fs tree → DeclaredIn ds tree
    → IsLaid (core t tree) fs ds C l → HasRights C → CallsAreFound C → NodesOnce C → IsCode C
accepted_whole t tree fs ds C l place typed single kinds declared laid rights found nodes =
    let types : Types t tree = placed_types t tree place typed in
    let held = scoped t tree place.in_order typed in
    whole C l laid rights found held (signatures tree) types.type_of (scopes_of types.type_of t tree types.declared typed) (declared_kinds types.type_of ds tree declared types.declared) kinds single nodes
    (nodes_once t tree (rising_once tree place.in_order))
    (standing C l laid rights found held) (accepted_within t tree fs ds C l place typed single kinds declared laid rights found)
