-- Each rule that a variable breaks has its fault.
use Rattle.std.specs.Prelude.{◌≡◌, ◌⊎◌, Bool, true, false, not, ◌&&◌, ◌||◌, cond, List, [], ◌∷◌, ◌++◌, refl}
use Rattle.std.specs.List.{flat_map}
use Rattle.std.proofs.Common.{inl, inr, sym, ap, ◌∙◌, subst}
use Rattle.language.specs.declared.tree.Shape.{Shape}
use Rattle.language.specs.declared.tree.Shape.TheVariants.{Scalar, Array}
use Rattle.language.specs.Core.{Owned}
use Rattle.language.specs.Members.{◌∈◌, first, later}
use Rattle.language.proofs.Members.{split_in, to_left, to_right}
use Rattle.lexer.specs.declared.token.Span.{Span}
use Rattle.assign_check.specs.declared.fault.AssignFault.{AssignFault}
use Rattle.assign_check.specs.declared.fault.AssignFault.TheVariants.{NeverAssigned, WholeAndElements, OutputUnassigned}
use Rattle.assign_check.specs.Outline.{Kind, named, written, read, Use, Role, own, result, given, Declared, Outline}
use Rattle.assign_check.specs.Faults.{same, is_kind, is_used, other_form, form_faults, never_faults, output_faults, role_faults, variable_faults, uses_in, declared_in}
use Rattle.assign_check.specs.Breaks.{Used, IsTarget, IsNever, IsBoth, IsUnassigned}
use Rattle.assign_check.proofs.counting.Counts.{same_is, kind_from}
use Rattle.assign_check.proofs.faults.Variables.{used_or, not_kind, kind_or, is_target, target_true}
use Rattle.assign_check.proofs.faults.Broken.{no_target_read, target_of}
use Rattle.std.proofs.lemmas.Bool.{and_parts, and_from}

-- LISTS

pub in_flat : {A B : Type 0} (f : A → List B) (xs : List A) (x : A) (y : B) → x ∈ xs → y ∈ f x → y ∈ flat_map f xs
in_flat f [] x y i j = elim i [ ]
in_flat {A = A} f (z ∷ zs) x y i j = elim (split_in i) [
  | inl e ↦ to_left (f z) (flat_map f zs) (subst (λ (w : A). y ∈ f w) e j)
  | inr k ↦ to_right (f z) (flat_map f zs) (in_flat f zs x y k j)
]

-- A SCALAR THAT IS READ, AND AN OUTPUT

is_used_when : (k : Kind) (x : Owned) (us : List Use) → Used k x us → is_used k x us ≡ true
is_used_when k x us u = elim (used_or k x us) [ inl p ↦ p.1 | inr p ↦ absurd (p.0 u) ]

is_unused_when : (k : Kind) (x : Owned) (us : List Use) → (Used k x us → ⊥) → is_used k x us ≡ false
is_unused_when k x us h = elim (used_or k x us) [ inl p ↦ absurd (h p.0) | inr p ↦ p.1 ]

never_found : (s : Shape) (x : Owned) (at : Span) (us : List Use) → s ≡ Scalar → Used read x us → (Used named x us → ⊥) → NeverAssigned at ∈ never_faults s x at us
never_found (Array κ) x at us e r n = absurd (cc (e))
never_found Scalar x at us e r n =
    subst (λ (b : Bool). NeverAssigned at ∈ cond b (NeverAssigned at ∷ []) []) (sym (and_from _ _ (is_used_when read x us r) (ap not (is_unused_when named x us n)))) first

output_found : (x : Owned) (at : Span) (us : List Use) → (Used named x us → ⊥) → (Used written x us → ⊥) → OutputUnassigned at ∈ output_faults x at us
output_found x at us n w =
    subst (λ (b : Bool). OutputUnassigned at ∈ cond b [] (OutputUnassigned at ∷ [])) (sym (ap (λ (b : Bool). b || is_used written x us) (is_unused_when named x us n) ∙ is_unused_when written x us w)) first

-- FORMS

form_true : (x : Owned) (u : Use) → u.of ≡ x → IsTarget u → is_target x u ≡ true
form_true x u e form = target_true x u e (no_target_read u.kind form)

-- the first target of the other form
other_there : (k : Kind) (x : Owned) (earlier behind : List Use) (u : Use) → u.of ≡ x → IsTarget u → (u.kind ≡ k → ⊥) → ((v : Use) → v ∈ earlier → v.of ≡ x → IsTarget v → v.kind ≡ k)
    → WholeAndElements u.span ∈ other_form k x (earlier ++ u ∷ behind)
other_there k x [] behind u is form other same_form = elim (kind_or u.kind k) [
  | inl e ↦ absurd (other e)
  | inr e ↦ subst (λ (b : Bool). WholeAndElements u.span ∈ cond b (WholeAndElements u.span ∷ []) (other_form k x behind)) (sym (and_from _ _ (form_true x u is form) e)) first
]
other_there k x (v ∷ vs) behind u is form other same_form =
    subst (λ (b : Bool). WholeAndElements u.span ∈ cond b (WholeAndElements v.span ∷ []) (other_form k x (vs ++ u ∷ behind))) (sym passed)
    (other_there k x vs behind u is form other (λ w i. same_form w (later i)))
  where
    passed : (is_target x v && not (is_kind v.kind k)) ≡ false
    passed = by (is_target x v) refl
      where
        by : (b : Bool) → is_target x v ≡ b → (b && not (is_kind v.kind k)) ≡ false
        by false e = refl
        by true e =
            let q = and_parts (same v.of x) (not (is_kind v.kind read)) e in
            ap not (kind_from (same_form v first (same_is v.of x q.0) (target_of v.kind (not_kind v.kind read q.1))))

-- of two forms that are not a third one, both are the other
one_of_two : (j k m : Kind) → (j ≡ named) ⊎ (j ≡ written) → (k ≡ named) ⊎ (k ≡ written) → (m ≡ named) ⊎ (m ≡ written) → (j ≡ m → ⊥) → (k ≡ m → ⊥) → j ≡ k
one_of_two j k m (inl a) (inl b) r f g = a ∙ sym b
one_of_two j k m (inr a) (inr b) r f g = a ∙ sym b
one_of_two j k m (inl a) (inr b) (inl c) f g = absurd (f (a ∙ sym c))
one_of_two j k m (inl a) (inr b) (inr c) f g = absurd (g (b ∙ sym c))
one_of_two j k m (inr a) (inl b) (inl c) f g = absurd (g (b ∙ sym c))
one_of_two j k m (inr a) (inl b) (inr c) f g = absurd (f (a ∙ sym c))

-- a target of the other form than all before it, of which there is one
forms_found : (x : Owned) (earlier behind : List Use) (u one : Use) → u.of ≡ x → IsTarget u → ((v : Use) → v ∈ earlier → v.of ≡ x → IsTarget v → v.kind ≡ u.kind → ⊥)
    → one ∈ earlier → one.of ≡ x → IsTarget one → WholeAndElements u.span ∈ form_faults x (earlier ++ u ∷ behind)
forms_found x [] behind u one is form differs i e t = elim i [ ]
forms_found x (v ∷ vs) behind u one is form differs i e t = by (is_target x v) refl (λ j. forms_found x vs behind u one is form (λ w k. differs w (later k)) j e t)
  where
    by : (b : Bool) → is_target x v ≡ b → (one ∈ vs → WholeAndElements u.span ∈ form_faults x (vs ++ u ∷ behind)) → WholeAndElements u.span ∈ form_faults x (v ∷ vs ++ u ∷ behind)
    by true h rec =
        let q = and_parts (same v.of x) (not (is_kind v.kind read)) h in
        let is_v = same_is v.of x q.0 in
        let form_v = target_of v.kind (not_kind v.kind read q.1) in
        subst (λ (b : Bool). WholeAndElements u.span ∈ cond b (other_form v.kind x (vs ++ u ∷ behind)) (form_faults x (vs ++ u ∷ behind))) (sym h)
        (other_there v.kind x vs behind u is form (λ k. differs v first is_v form_v (sym k))
        (λ w j e' t'. one_of_two w.kind v.kind u.kind t' form_v form (differs w (later j) e' t') (differs v first is_v form_v)))
    by false h rec =
        subst (λ (b : Bool). WholeAndElements u.span ∈ cond b (other_form v.kind x (vs ++ u ∷ behind)) (form_faults x (vs ++ u ∷ behind))) (sym h)
        (elim (split_in i) [
          | inl q ↦ (let no : true ≡ false = sym (form_true x one e t) ∙ ap (is_target x) q ∙ h in absurd (cc (no)))
          | inr j ↦ rec j
        ])

-- ALL OF A VARIABLE

never_in : (r : Role) (s : Shape) (x : Owned) (at : Span) (us : List Use) (f : AssignFault) → (r ≡ given → ⊥) → f ∈ never_faults s x at us → f ∈ role_faults r s x at us
never_in own s x at us f h i = to_left (never_faults s x at us) (form_faults x us) i
never_in result s x at us f h i = to_left (never_faults s x at us ++ output_faults x at us) (form_faults x us) (to_left (never_faults s x at us) (output_faults x at us) i)
never_in given s x at us f h i = absurd (h refl)

output_in : (r : Role) (s : Shape) (x : Owned) (at : Span) (us : List Use) (f : AssignFault) → r ≡ result → f ∈ output_faults x at us → f ∈ role_faults r s x at us
output_in own s x at us f h i = absurd (cc (h))
output_in result s x at us f h i = to_left (never_faults s x at us ++ output_faults x at us) (form_faults x us) (to_right (never_faults s x at us) (output_faults x at us) i)
output_in given s x at us f h i = absurd (cc (h))

form_in : (r : Role) (s : Shape) (x : Owned) (at : Span) (us : List Use) (f : AssignFault) → (r ≡ given → ⊥) → f ∈ form_faults x us → f ∈ role_faults r s x at us
form_in own s x at us f h i = to_right (never_faults s x at us) (form_faults x us) i
form_in result s x at us f h i = to_right (never_faults s x at us ++ output_faults x at us) (form_faults x us) i
form_in given s x at us f h i = absurd (h refl)

given_form_in : (r : Role) (s : Shape) (x : Owned) (at : Span) (us : List Use) (f : AssignFault) → r ≡ given → f ∈ other_form named x us → f ∈ role_faults r s x at us
given_form_in own s x at us f h i = absurd (cc (h))
given_form_in result s x at us f h i = absurd (cc (h))
given_form_in given s x at us f h i = i

-- where a written target is to differ from all before it, these are named
all_named : (k j : Kind) → (k ≡ named) ⊎ (k ≡ written) → j ≡ written → (k ≡ j → ⊥) → k ≡ named
all_named k j (inl e) w h = e
all_named k j (inr e) w h = absurd (h (e ∙ sym w))

named_no_written : {k : Kind} → k ≡ written → k ≡ named → ⊥
named_no_written e f = cc

pub variable_in : (o : Outline) (d : Declared) (f : AssignFault) → d ∈ declared_in o → f ∈ role_faults d.role d.shape d.what d.span (uses_in o) → f ∈ flat_map (variable_faults (uses_in o)) (declared_in o)
variable_in o d f i j = in_flat (variable_faults (uses_in o)) (declared_in o) d f i j

pub never_there : {o : Outline} {at : Span} → IsNever o at → NeverAssigned at ∈ flat_map (variable_faults (uses_in o)) (declared_in o)
never_there {o} {at} w =
    let d = w.variable in
    subst (λ (z : Span). NeverAssigned z ∈ flat_map (variable_faults (uses_in o)) (declared_in o)) w.place
    (variable_in o d (NeverAssigned d.span) w.declared (never_in d.role d.shape d.what d.span (uses_in o) (NeverAssigned d.span) w.not_given
    (never_found d.shape d.what d.span (uses_in o) w.scalar w.is_read w.not_named)))

pub output_there : {o : Outline} {at : Span} → IsUnassigned o at → OutputUnassigned at ∈ flat_map (variable_faults (uses_in o)) (declared_in o)
output_there {o} {at} w =
    let d = w.variable in
    subst (λ (z : Span). OutputUnassigned z ∈ flat_map (variable_faults (uses_in o)) (declared_in o)) w.place
    (variable_in o d (OutputUnassigned d.span) w.declared (output_in d.role d.shape d.what d.span (uses_in o) (OutputUnassigned d.span) w.output
    (output_found d.what d.span (uses_in o) w.not_named w.not_written)))

pub both_there : {o : Outline} {at : Span} → IsBoth o at → WholeAndElements at ∈ flat_map (variable_faults (uses_in o)) (declared_in o)
both_there {o} {at} w =
    let d = w.variable in
    let u = w.target in
    let f = WholeAndElements u.span in
    subst (λ (z : Span). WholeAndElements z ∈ flat_map (variable_faults (uses_in o)) (declared_in o)) w.place
    (variable_in o d f w.declared (elim w.has_other [
      | inl g ↦ given_form_in d.role d.shape d.what d.span (uses_in o) f g.0
          (subst (λ (us : List Use). f ∈ other_form named d.what us) (sym w.there)
          (other_there named d.what w.earlier w.later u w.is w.form (λ e. named_no_written g.1 e) (λ v i e t. all_named v.kind u.kind t g.1 (w.differs v i e t))))
      | inr g ↦ form_in d.role d.shape d.what d.span (uses_in o) f g.0
          (subst (λ (us : List Use). f ∈ form_faults d.what us) (sym w.there)
          (forms_found d.what w.earlier w.later u g.1 w.is w.form w.differs g.2 g.3 g.4))
    ]))
