-- A refusal of a script names a rule that is broken there.
use Rattle.std.proofs.Common.{◌≡◌, ℕ, ◌+◌, ◌<◌, true, false, List, [], ◌∷◌, ◌++◌, length, length-append, append_assoc, refl, sym, ap, ap₂, ◌∙◌, subst, arith, inl, inr}
use Rattle.std.specs.Prelude.{◌⊎◌, Some, None, cond, nat_lt, zero, suc, slice_get}
use Rattle.std.proofs.lemmas.Bool.Decides.{Decides-ltb}
use Rattle.types.specs.declared.fault.TypeFault.{TypeFault}
use Rattle.types.specs.declared.fault.TypeFault.TheVariants.{Declared}
use Rattle.types.specs.declared.typed.NameEntry.{NameEntry}
use Rattle.types.specs.declared.typed.Binding.{Binding}
use Rattle.types.specs.declared.typed.Binding.TheVariants.{Input, Output}
use Rattle.language.specs.Members.{◌∈◌, first, later}
use Rattle.language.specs.Core as core
use Rattle.language.specs.Tree.{Word, Declaration, Statement, statement, Composite, Tree, import, function, single}
use Rattle.language.specs.Scopes.{declared_type, Scope, Signature, signature_of, signatures}
use Rattle.types.specs.Known.{Around, nowhere}
use Rattle.types.specs.Typed.{owned_name, builtin_name}
use Rattle.types.specs.Outcomes.{refused, got, ◌>>=◌}
use Rattle.types.specs.Names.{fresh, added, builtin_of, missing, found, find}
use Rattle.types.specs.Agrees.{scope_of}
use Rattle.types.specs.Statements.{stated, enclosed}
use Rattle.types.specs.Scripts.{parameters, name_by, name_of, function_checked, parts_checked}
use Rattle.types.specs.Breaks.{composite, Broken, named_before, named_as_builtin, parameter, with_parameters, InParameters, first_parameter, later_parameter, outputs_scope, InBody, InFunction, in_outputs, in_name, in_inputs, in_body, InParts, in_function, in_statement, behind_import, behind_function, behind_statement, RefusalNames}
use Rattle.types.proofs.accepted.Accepted.{builtin_named}
use Rattle.types.proofs.settled.Settling.{find_there}
use Rattle.types.proofs.accepted.Typing.{bind_got}
use Rattle.types.proofs.visible.Sight.{Inside, inside_added, scope_added}
use Rattle.types.proofs.answered.Breaks.{bind_refused, Breaking, fresh_broken}
use Rattle.types.proofs.answered.BreaksStated.{statement_left, command_broken, enclosed_broken}

-- OUTPUTS AND INPUTS

scope_parameter : (made : ℕ → Binding) (owned : ℕ → core.Owned) → ((i : ℕ) → owned_name (made i) ≡ owned i) → (g : Around) (i : ℕ) (d : Declaration)
    → scope_of (added g d.name (made i) (declared_type d)) ≡ parameter owned i d ∷ scope_of g
scope_parameter made owned named g i d =
    scope_added g d.name (made i) (declared_type d) ∙ ap (λ (x : core.Owned). record { text = d.name.text; refers_to = record { up = 0; what = x }; type = declared_type d } ∷ scope_of g) (named i)

parameters_broken : (fs : List Signature) (made : ℕ → Binding) (owned : ℕ → core.Owned) → ((i : ℕ) → owned_name (made i) ≡ owned i) → (g : Around) (i : ℕ) (ds : List Declaration) (s : List NameEntry) (y : TypeFault)
    → parameters made g i ds s ≡ refused y → InParameters (Breaking fs y) owned (scope_of g) i ds
parameters_broken fs made owned named g i [] s y is = absurd (cc)
parameters_broken fs made owned named g i (d ∷ ds) s y is =
    let next : i + 1 ≡ suc i = omega arith in
    elim (bind_refused (fresh g d.name s) (λ u. parameters made (added g d.name (made i) (declared_type d)) (i + 1) ds) y is) [
      | inl a ↦ first_parameter (fresh_broken fs g d.name s y a)
      | inr a ↦ later_parameter (subst (λ (x : Scope). InParameters (Breaking fs y) owned x (suc i) ds) (scope_parameter made owned named g i d)
          (subst (λ (n : ℕ). InParameters (Breaking fs y) owned (scope_of (added g d.name (made i) (declared_type d))) n ds) next
          (parameters_broken fs made owned named (added g d.name (made i) (declared_type d)) (i + 1) ds a.1 y a.3)))
    ]

parameters_left : (made : ℕ → Binding) (owned : ℕ → core.Owned) → ((i : ℕ) → owned_name (made i) ≡ owned i) → (g h : Around) (i : ℕ) (ds : List Declaration) (s s' : List NameEntry) → Inside g
    → parameters made g i ds s ≡ got h s' → Inside h × (scope_of h ≡ with_parameters owned (scope_of g) i ds)
parameters_left made owned named g h i [] s s' low is = let same : g ≡ h = cc in (subst Inside same low, ap scope_of (sym same))
parameters_left made owned named g h i (d ∷ ds) s s' low is =
    let one = bind_got (fresh g d.name s) (λ u. parameters made (added g d.name (made i) (declared_type d)) (i + 1) ds) h s' is in
    let others = parameters_left made owned named (added g d.name (made i) (declared_type d)) h (i + 1) ds one.1 s' (inside_added g d.name (made i) (declared_type d) low) one.3 in
    let next : i + 1 ≡ suc i = omega arith in
    (others.0, others.1 ∙ ap₂ (λ (x : Scope) (n : ℕ). with_parameters owned x n ds) (scope_parameter made owned named g i d) next)

-- NAMES OF FUNCTIONS

-- the names have that of each function above
abbrev Named : List Signature → ℕ → List (List ℕ) → Type 0
Named fs above names = (x : List ℕ) (p : ℕ) (f : Signature) → find fs x ≡ found p f → p < above → x ∈ names

below_or_last : (p n : ℕ) → p < n + 1 → (p < n) ⊎ (p ≡ n)
below_or_last zero zero less = inr refl
below_or_last zero (suc n) less = inl (omega arith)
below_or_last (suc p) zero less = absurd (omega arith)
below_or_last (suc p) (suc n) less =
    let fewer : p < n + 1 = omega arith in
    elim (below_or_last p n fewer) [ inl a ↦ inl (omega arith) | inr e ↦ inr (ap suc e) ]

at_seam : (pre : List Signature) (f : Signature) (rest : List Signature) → slice_get (pre ++ f ∷ rest) (length pre) ≡ Some f
at_seam [] f rest = refl
at_seam (x ∷ xs) f rest = at_seam xs f rest

named_more : (fs : List Signature) (above : ℕ) (names : List (List ℕ)) (pre : List Signature) (f : Signature) (rest : List Signature)
    → fs ≡ pre ++ f ∷ rest → above ≡ length pre → Named fs above names → Named fs (above + 1) (f.text ∷ names)
named_more fs above names pre f rest these many all x p h is less =
    let there = find_there 0 fs x p h is in
    elim (below_or_last p above less) [
      | inl a ↦ later (all x p h is a)
      | inr e ↦
          let place : p ≡ 0 + there.0 = there.1 in
          let at : there.0 ≡ length pre = omega (arith, place, e, many) in
          let both : Some f ≡ Some h = sym (at_seam pre f rest) ∙ sym (ap₂ slice_get these at) ∙ there.2 in
          let same : f ≡ h = cc in
          subst (λ (z : List ℕ). z ∈ (f.text ∷ names)) (ap (λ (z : Signature). z.text) same ∙ there.3) first
    ]

name_broken : (fs : List Signature) (g : Scope) (above : ℕ) (names : List (List ℕ)) (w : Word) (s : List NameEntry) (y : TypeFault) → Named fs above names
    → name_of (builtin_of w.text) fs above w s ≡ refused y → Broken fs g (composite names w) y
name_broken fs g above names w s y all is =
    elim (builtin_of w.text) as (λ o. builtin_of w.text ≡ o → name_of o fs above w s ≡ refused y → Broken fs g (composite names w) y) [
      | Some b ↦ λ some here.
          let same : Declared w.span ≡ y = cc in
          subst (Broken fs g (composite names w)) same (named_as_builtin (builtin_name b, builtin_named w.text b some))
      | None ↦ λ none here.
          elim (find fs w.text) as (λ o. find fs w.text ≡ o → name_by o above w s ≡ refused y → Broken fs g (composite names w) y) [
            | missing ↦ λ no here. absurd (cc)
            | found p f ↦ λ there here.
                elim (nat_lt p above) as (λ v. nat_lt p above ≡ v → cond v (refused (Declared w.span)) (got (tt {0}) s) ≡ refused y → Broken fs g (composite names w) y) [
                  | true ↦ λ less here.
                      let same : Declared w.span ≡ y = cc in
                      subst (Broken fs g (composite names w)) same (named_before (all w.text p f there ((Decides-ltb p above).0 less)))
                  | false ↦ λ more here. absurd (cc)
                ] refl here
          ] refl here
    ] refl is

-- FUNCTIONS AND SCRIPTS

composite_broken : (fs : List Signature) (above : ℕ) (names : List (List ℕ)) (f : Composite) (s : List NameEntry) (y : TypeFault) → Named fs above names
    → function_checked fs above f s ≡ refused y → InFunction fs (Breaking fs y) names f
composite_broken fs above names f s y all is =
    elim (bind_refused (parameters Output nowhere 0 f.outputs s) (λ g r. name_of (builtin_of f.name.text) fs above f.name r >>= λ u r. parameters Input g 0 f.inputs r >>= λ h. enclosed fs h f.body) y is) [
      | inl a ↦ in_outputs (parameters_broken fs Output core.output (λ i. refl) nowhere 0 f.outputs s y a)
      | inr b ↦
          let outs = parameters_left Output core.output (λ i. refl) nowhere b.0 0 f.outputs s b.1 tt b.2 in
          elim (bind_refused (name_of (builtin_of f.name.text) fs above f.name b.1) (λ u r. parameters Input b.0 0 f.inputs r >>= λ h. enclosed fs h f.body) y b.3) [
            | inl a ↦ in_name (name_broken fs (outputs_scope f) above names f.name b.1 y all a)
            | inr c ↦ elim (bind_refused (parameters Input b.0 0 f.inputs c.1) (λ h. enclosed fs h f.body) y c.3) [
              | inl a ↦ in_inputs (subst (λ (x : Scope). InParameters (Breaking fs y) core.input x 0 f.inputs) outs.1 (parameters_broken fs Input core.input (λ i. refl) b.0 0 f.inputs c.1 y a))
              | inr d ↦
                  let ins = parameters_left Input core.input (λ i. refl) b.0 d.0 0 f.inputs c.1 d.1 outs.0 d.2 in
                  in_body (subst (λ (x : Scope). InBody fs (Breaking fs y) x f.body) (ins.1 ∙ ap (λ (x : Scope). with_parameters core.input x 0 f.inputs) outs.1)
                  (enclosed_broken fs d.0 f.body d.1 y ins.0 d.3))
            ]
          ]
    ]

single_broken : (fs : List Signature) (g : Around) (names : List (List ℕ)) (st : Statement) (ps : Tree) (s : List NameEntry) (y : TypeFault) → Inside g
    → stated fs g st s ≡ refused y → InParts fs (Breaking fs y) names (scope_of g) (single st ∷ ps)
unfolding stated
single_broken fs g names (statement nd c) ps s y low is = in_statement (command_broken fs g c s y low is)

parts_broken : (fs : List Signature) (above : ℕ) (names : List (List ℕ)) (g : Around) (pre : List Signature) (ps : Tree) (s : List NameEntry) (y : TypeFault)
    → fs ≡ pre ++ signatures ps → above ≡ length pre → Named fs above names → Inside g
    → parts_checked fs above g ps s ≡ refused y → InParts fs (Breaking fs y) names (scope_of g) ps
parts_broken fs above names g pre [] s y these many all low is = absurd (cc)
parts_broken fs above names g pre (import sp ∷ ps) s y these many all low is = behind_import (parts_broken fs above names g pre ps s y these many all low is)
parts_broken fs above names g pre (function f ∷ ps) s y these many all low is =
    elim (bind_refused (function_checked fs above f s) (λ u. parts_checked fs (above + 1) g ps) y is) [
      | inl a ↦ in_function (composite_broken fs above names f s y all a)
      | inr a ↦
          let next = these ∙ sym (append_assoc pre (signature_of f ∷ []) (signatures ps)) in
          let more : above + 1 ≡ length (pre ++ signature_of f ∷ []) = ap (λ (n : ℕ). n + 1) many ∙ sym (length-append pre (signature_of f ∷ [])) in
          behind_function (parts_broken fs (above + 1) (f.name.text ∷ names) g (pre ++ signature_of f ∷ []) ps a.1 y next more
          (named_more fs above names pre (signature_of f) (signatures ps) these many all) low a.3)
    ]
parts_broken fs above names g pre (single st ∷ ps) s y these many all low is =
    elim (bind_refused (stated fs g st s) (λ h. parts_checked fs above h ps) y is) [
      | inl a ↦ single_broken fs g names st ps s y low a
      | inr a ↦
          let left = statement_left fs g a.0 st s a.1 low a.2 in
          behind_statement (subst (λ (x : Scope). InParts fs (Breaking fs y) names x ps) left.1 (parts_broken fs above names a.0 pre ps a.1 y these many all left.0 a.3))
    ]

pub refusal_names : RefusalNames
refusal_names tree y is =
    parts_broken (signatures tree) 0 [] nowhere [] tree [] y refl refl (λ x p f there less. absurd (omega arith)) tt is
