-- The block that owns a variable that is seen, and what single assignment says of it.
use Rattle.std.specs.Prelude.{◌≡◌, ℕ, ◌<◌, List, [], Some, None, slice_get, refl}
use Rattle.std.proofs.Common.{inl, inr, sym, subst}
use Rattle.language.specs.Core.{Owned, local, output, Name, stmt, Action, declare, call_alone, assign, fill, insert, print, assert, when, choose, range, each, wait, Block, Function, Core}
use Rattle.language.specs.Members.{◌∈◌, first, later}
use Rattle.language.specs.Parts.{block_list, blocks_of, script_blocks, script_stmts}
use Rattle.language.specs.Scopes.{Typ, Visible, Scope, Signature}
use Rattle.language.specs.Single.{SinglyAssigned, IsNamed, Owns, declared_here, an_output, Given, an_input, range_value, range_turn, each_value, each_key, of_range, of_each}
use Rattle.language.specs.WellFormed.{header_blocks}
use Rattle.language.proofs.Blocks.{inner_blocks, header_inner, inner_below, inner_block, among, main_block, function_block}
use Rattle.language.proofs.Members.{split_in}
use Rattle.language.proofs.Tested.{roles_of}
use Rattle.language_laws.proofs.OneAssign.{function_in, outwards}
use Rattle.language_laws.proofs.Ways.{in_when, in_then, in_else, in_content, Reach, at_once, into, reach_within}
use Rattle.language_laws.specs.Scoped.{InScope, of_script, of_function, inside, in_wait}
use Rattle.language_accepted.proofs.Given.{HasTarget, no_target}
use Rattle.code_laws.proofs.Scoping.{InScopes}
use Rattle.code_laws.proofs.Settling.{IsParameter, is_output, is_input, FunctionScoped, ScriptScoped}
use Rattle.code_laws.proofs.Lookup.{deeper_of, StmtAt, lookup}
use Rattle.std.proofs.lemmas.Option.{slice_get_within}

-- what is assigned by name is a target
pub named_target : {w : Owned} {b : Block} → IsNamed w b → HasTarget w b
named_target {w} {b} n =
    let r = Rattle.language.proofs.Tested.among_split (blocks_of b) n.there in
    record { block = r.0; inside = r.1; st = n.st; there = r.2; target = n.target; is = n.is; of = inl n.assigns }

module _ (s : Core) (single : SinglyAssigned s) where
  -- the block is reached from the variable's owner through no loop, or the variable is not assigned by name in it
  pub data OwnerOf (b : Block) (what : Owned) : Type 0 where
    owned : (o : Block) → Owns s what o → Reach o b → OwnerOf b what
    unnamed : (IsNamed what b → ⊥) → OwnerOf b what

  pub owner_inner : {b c : Block} {what : Owned} {at n : ℕ} (a : Action) → stmt at n a ∈ block_list b → c ∈ inner_blocks a → OwnerOf b what → OwnerOf c what
  owner_inner a m h (unnamed z) = unnamed (λ x. z (outwards _ (inner_below _ m h) x))
  owner_inner (when x b) m first (owned o w r) = owned o w (into r m in_when)
  owner_inner (choose x b d) m first (owned o w r) = owned o w (into r m in_then)
  owner_inner (choose x b d) m (later first) (owned o w r) = owned o w (into r m in_else)
  owner_inner {what = what} (range lo hi st v k b) m first (owned o w r) = unnamed (λ x. single.outside_loops what o b (inl w) (of_range (reach_within r m)) x)
  owner_inner {what = what} (each y v k b) m first (owned o w r) = unnamed (λ x. single.outside_loops what o b (inl w) (of_each (reach_within r m)) x)
  owner_inner (wait ns b) m first (owned o w r) = owned o w (into r m in_content)
  owner_inner (when x b) m (later h) (owned o w r) = elim h [ ]
  owner_inner (choose x b d) m (later (later h)) (owned o w r) = elim h [ ]
  owner_inner (range lo hi st v k b) m (later h) (owned o w r) = elim h [ ]
  owner_inner (each y v k b) m (later h) (owned o w r) = elim h [ ]
  owner_inner (wait ns b) m (later h) (owned o w r) = elim h [ ]
  owner_inner (declare v) m h (owned o w r) = elim h [ ]
  owner_inner (call_alone p ps c) m h (owned o w r) = elim h [ ]
  owner_inner (assign x e) m h (owned o w r) = elim h [ ]
  owner_inner (fill x e) m h (owned o w r) = elim h [ ]
  owner_inner (insert x k e) m h (owned o w r) = elim h [ ]
  owner_inner (print p e) m h (owned o w r) = elim h [ ]
  owner_inner (assert p e) m h (owned o w r) = elim h [ ]

  given_owner : {b : Block} {what : Owned} → Given s what b → OwnerOf b what
  given_owner g = unnamed (λ x. no_target s single g (named_target x))

  pub role_given : {at n x : ℕ} {c : Block} (a : Action) → stmt at n a ∈ script_stmts s → c ∈ header_blocks a → x ∈ roles_of a → Given s (local x) c
  role_given (range lo hi st v None b) m first r = elim (split_in r) [ inl e ↦ subst (λ (z : ℕ). Given s (local z) b) (sym e) (range_value m) | inr i ↦ elim i [ ] ]
  role_given (range lo hi st v (Some t) b) m first r = elim (split_in r) [
    | inl e ↦ subst (λ (z : ℕ). Given s (local z) b) (sym e) (range_value m)
    | inr i ↦ elim (split_in i) [ inl e ↦ subst (λ (z : ℕ). Given s (local z) b) (sym e) (range_turn m) | inr j ↦ elim j [ ] ]
  ]
  role_given (each y v None b) m first r = elim (split_in r) [ inl e ↦ subst (λ (z : ℕ). Given s (local z) b) (sym e) (each_value m) | inr i ↦ elim i [ ] ]
  role_given (each y v (Some t) b) m first r = elim (split_in r) [
    | inl e ↦ subst (λ (z : ℕ). Given s (local z) b) (sym e) (each_value m)
    | inr i ↦ elim (split_in i) [ inl e ↦ subst (λ (z : ℕ). Given s (local z) b) (sym e) (each_key m) | inr j ↦ elim j [ ] ]
  ]
  role_given (range lo hi st v t b) m (later h) r = elim h [ ]
  role_given (each y v t b) m (later h) r = elim h [ ]
  role_given (when c b) m h r = elim r [ ]
  role_given (choose c b d) m h r = elim r [ ]
  role_given (wait ns b) m h r = elim r [ ]
  role_given (declare v) m h r = elim r [ ]
  role_given (call_alone p ps c) m h r = elim r [ ]
  role_given (assign x e) m h r = elim r [ ]
  role_given (fill x e) m h r = elim r [ ]
  role_given (insert x k e) m h r = elim r [ ]
  role_given (print p e) m h r = elim r [ ]
  role_given (assert p e) m h r = elim r [ ]

  module _ (sigs : List Signature) (type_of : ℕ → Typ) (S : ScriptScoped sigs type_of s) where
    -- a block in a scope, of whose variables the owners are known
    pub record OwnedScope (b : Block) : Type 0 where
      pub scope : Scope
      pub scoped_in : InScopes sigs type_of scope b
      pub owner : (v : Visible) → v ∈ scope → OwnerOf b v.refers_to.what
      pub there : b ∈ script_blocks s

    -- what a statement of it sees
    pub owner_at : {b : Block} {a : Action} (g : OwnedScope b) (k : StmtAt sigs type_of g.scope b a) (v : Visible) → v ∈ k.scope → OwnerOf b v.refers_to.what
    owner_at {b} g k v m = elim (k.grows v m) [
      | inl i ↦ g.owner v i
      | inr d ↦ owned b (subst (λ (x : Name). Owns s x.what b) (sym d.is) (declared_here g.there d.there)) at_once
    ]

    header_scope : {b c : Block} {at n : ℕ} (a : Action) (g : OwnedScope b) → stmt at n a ∈ block_list b → c ∈ header_blocks a → OwnedScope c
    header_scope {b} {c} a g m i =
        let k = lookup sigs type_of g.scoped_in m in
        let h = k.headers c i in
        record {
          scope = h.scope;
          scoped_in = h.inner;
          owner = λ v j. elim (h.sees v j) [
            | inl d ↦ (let u = deeper_of k.scope v d in subst (λ (x : Name). OwnerOf c x.what) (sym u.is) (owner_inner a m (header_inner a i) (owner_at g k u.variable u.there)))
            | inr r ↦ subst (λ (x : Name). OwnerOf c x.what) (sym r.is) (given_owner (role_given a (among (script_blocks s) g.there m) i r.role))
          ];
          there = inner_block s g.there m (header_inner a i);
        }

    parameter_owner : (i : ℕ) (f : Function) (F : FunctionScoped sigs type_of sigs i f) → slice_get s.functions i ≡ Some f → (v : Visible) → IsParameter F.signature v → OwnerOf f.body v.refers_to.what
    parameter_owner i f F e v (is_output j q ty) =
        subst (λ (x : Name). OwnerOf f.body x.what) (sym q) (owned f.body (an_output (function_in s.functions i f e) (subst (λ (n : ℕ). j < n) F.outputs (slice_get_within F.signature.outputs j v.type ty))) at_once)
    parameter_owner i f F e v (is_input j q ty) =
        subst (λ (x : Name). OwnerOf f.body x.what) (sym q) (given_owner (an_input (function_in s.functions i f e) (subst (λ (n : ℕ). j < n) F.inputs (slice_get_within F.signature.inputs j v.type ty))))

    pub owned_scope : {k : ℕ} {b : Block} → InScope s k b → OwnedScope b
    owned_scope of_script = record { scope = []; scoped_in = S.script; owner = λ v m. elim m [ ]; there = main_block s }
    owned_scope (of_function i {f = f} e) =
        let F = S.functions i f e in
        record { scope = F.scope; scoped_in = F.body; owner = λ v m. parameter_owner i f F e v (F.parameters v m); there = function_block s i f e }
    owned_scope (inside {a = a} h m i) = header_scope a (owned_scope h) m i
    owned_scope (in_wait {c = c} {ns = ns} h m) =
        let g = owned_scope h in
        let k = lookup sigs type_of g.scoped_in m in
        record { scope = k.scope; scoped_in = k.content ns c refl; owner = λ v j. owner_inner (wait ns c) m first (owner_at g k v j); there = inner_block s g.there m first }

  -- a variable that is owned is a local one or an output
  pub data Assignable : Owned → Type 0 where
    of_local : (n : ℕ) → Assignable (local n)
    of_output : (j : ℕ) → Assignable (output j)

  pub assignable : {w : Owned} {o : Block} → Owns s w o → Assignable w
  assignable (declared_here {n = n} m i) = of_local n
  assignable (an_output {j = j} m i) = of_output j

  -- a variable assigned in a block has its owner round it
  pub record Round (b : Block) (w : Owned) : Type 0 where
    pub owner : Block
    pub owns : Owns s w owner
    pub reach : Reach owner b

  pub round : {b : Block} {w : Owned} → OwnerOf b w → IsNamed w b → Round b w
  round (owned o w r) n = record { owner = o; owns = w; reach = r }
  round (unnamed z) n = absurd (z n)
