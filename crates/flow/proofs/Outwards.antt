-- Scopes, seen one after another.
use Rattle.std.specs.Prelude.{◌≡◌, ◌<◌, ℕ, zero, suc, false, List, [], ◌∷◌, nat_eq, nat_lt, refl}
use Rattle.std.proofs.Common.{rules, arith, sym, ap, ◌∙◌, Bor}
use Rattle.std.proofs.lemmas.Bool.{le-ltb, ne_eqb}
use Rattle.language.specs.Core as core
use Rattle.language.specs.Core.{Owned, local, input, output}
use Rattle.flow.specs.Names.{block_nodes}
use Rattle.flow.specs.Tests.{leads}
use Rattle.flow.specs.View.{block_view}
use Rattle.flow.specs.Whole.{Owner, in_content, times}
use Rattle.flow.specs.declared.scopes.Scope.{Scope}
use Rattle.flow.specs.declared.scopes.Scopes.{Scopes, End, Within, Content, the_lemmas}
use Rattle.flow.specs.declared.statement.Block.{Block}
use Rattle.flow.specs.declared.declaring.Multiplicity.{Multiplicity}
use Rattle.flow.specs.Viewed.{inputs_within, is_once, number_as, outputs_within, owner_of, owners_of, plus, times_as, times_within}
use Rattle.flow.proofs.Times.{one_more}

pub owners_end : (A : Type 0) → owners_of {A = A} End ≡ []
owners_end A = search (rules, the_lemmas)

pub owners_within : {A : Type 0} (s : Scope A) (o : Bor (Scopes A)) → owners_of {A = A} (Within s o) ≡ owner_of s ∷ owners_of o.now
owners_within s o = search (rules, the_lemmas)

-- the outermost scope
pub owners_only : {A : Type 0} (s : Scope A) (o : Bor (Scopes A)) → o.now ≡ End → owners_of {A = A} (Within s o) ≡ owner_of s ∷ []
owners_only {A} s o h = owners_within {A = A} s o ∙ ap (λ z. owner_of s ∷ owners_of {A = A} z) h ∙ ap (λ os. owner_of s ∷ os) (owners_end A)

pub owners_content : {A : Type 0} (b : Bor (Block A)) (o : Bor (Scopes A)) → owners_of {A = A} (Content b o) ≡ in_content (block_view b.now) (owners_of o.now)
owners_content b o = search (rules, the_lemmas)

-- WHAT THE CONTENT OF A WAIT CHANGES

pub leads_content : (c : core.Block) (os : List Owner) (k : ℕ) (w : Owned) → 0 < k → leads (in_content c os) k w ≡ leads os k w
leads_content c os zero w l = absurd (omega (arith, l))
leads_content c [] (suc k) w l = refl
leads_content c (o ∷ os) (suc k) w l = refl

pub inputs_content : (c : core.Block) (os : List Owner) → inputs_within (in_content c os) ≡ inputs_within os
inputs_content c [] = refl
inputs_content c (o ∷ os) = refl

pub outputs_content : (c : core.Block) (os : List Owner) → outputs_within (in_content c os) ≡ outputs_within os
outputs_content c [] = refl
outputs_content c (o ∷ os) = refl

pub times_content : (n : ℕ) (t : Multiplicity) (c : core.Block) (os : List Owner) → times_within n t (in_content c os) ≡ times_within n (plus t (times_as n (block_nodes c))) os
times_content n t c [] = refl
times_content n t c (o ∷ os) = one_more n t (block_nodes c) o.nodes

-- NAMES OF THE INNERMOST BLOCK

once_is_one : (k : ℕ) → is_once (number_as k) ≡ nat_eq k 1
once_is_one zero = refl
once_is_one (suc zero) = refl
once_is_one (suc (suc k)) = sym (ne_eqb (suc (suc k)) 1 (λ e. omega (arith, e)))

pub leads_local : (os : List Owner) (n : ℕ) → leads os 0 (local n) ≡ is_once (times_within n Multiplicity.Never os)
leads_local [] n = refl
leads_local (o ∷ os) n = sym (once_is_one (times n o.nodes))

none_below : (i : ℕ) → nat_lt i 0 ≡ false
none_below i = le-ltb i 0 (omega arith)

pub leads_input : (os : List Owner) (i : ℕ) → leads os 0 (input i) ≡ nat_lt i (inputs_within os)
leads_input [] i = sym (none_below i)
leads_input (o ∷ os) i = refl

pub leads_output : (os : List Owner) (i : ℕ) → leads os 0 (output i) ≡ nat_lt i (outputs_within os)
leads_output [] i = sym (none_below i)
leads_output (o ∷ os) i = refl
