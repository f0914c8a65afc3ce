-- A fault of a variable names a rule that is broken at its place.
use Rattle.std.proofs.Common.{◌≡◌, ◌⊎◌, inl, inr, Bool, true, false, List, [], ◌∷◌, ◌++◌, refl, sym, ap, ◌∙◌, subst}
use Rattle.std.specs.Prelude.{not, ◌&&◌, ◌||◌, cond}
use Rattle.std.specs.List.{flat_map}
use Rattle.language.specs.declared.tree.Shape.{Shape}
use Rattle.language.specs.declared.tree.Shape.TheVariants.{Scalar, Array}
use Rattle.language.specs.Core.{Owned}
use Rattle.language.specs.Members.{◌∈◌, first, later}
use Rattle.language.proofs.Members.{split_in, either}
use Rattle.assign_check.specs.declared.fault.AssignFault.{AssignFault}
use Rattle.assign_check.specs.declared.fault.AssignFault.TheVariants.{NeverAssigned, WholeAndElements, OutputUnassigned}
use Rattle.assign_check.specs.Outline.{Kind, named, written, read, Use, Role, own, result, given, Declared, Outline}
use Rattle.assign_check.specs.Faults.{same, is_kind, is_used, other_form, form_faults, never_faults, output_faults, role_faults, variable_faults, uses_in, declared_in}
use Rattle.assign_check.specs.Breaks.{IsTarget, BreaksIn}
use Rattle.assign_check.proofs.counting.Counts.{same_is}
use Rattle.assign_check.proofs.like.Like.{own_is_not_given, result_is_not_given}
use Rattle.assign_check.proofs.faults.Variables.{used_when, unused_when, not_kind, kind_or, is_target, target_true}
use Rattle.std.proofs.lemmas.Bool.{or_parts, not-true, and_parts, and_from}

-- LISTS

pub record Came {A B : Type 0} (f : A → List B) (xs : List A) (y : B) : Type 0 where
  pub from : A
  pub there : from ∈ xs
  pub made : y ∈ f from

pub came : {A B : Type 0} (f : A → List B) (xs : List A) (y : B) → y ∈ flat_map f xs → Came f xs y
came f [] y i = elim i [ ]
came f (x ∷ xs) y i = elim (either (f x) (flat_map f xs) i) [
  | inl j ↦ record { from = x; there = first; made = j }
  | inr j ↦ (let rest = came f xs y j in record { from = rest.from; there = later rest.there; made = rest.made })
]

pub only_if : {A : Type 0} (b : Bool) (x y : A) → y ∈ cond b (x ∷ []) [] → (b ≡ true) × (y ≡ x)
only_if true x y i = elim (split_in i) [ inl e ↦ (refl, e) | inr j ↦ elim j [ ] ]
only_if false x y i = elim i [ ]

only_unless : {A : Type 0} (b : Bool) (x y : A) → y ∈ cond b [] (x ∷ []) → (b ≡ false) × (y ≡ x)
only_unless true x y i = elim i [ ]
only_unless false x y i = elim (split_in i) [ inl e ↦ (refl, e) | inr j ↦ elim j [ ] ]

-- A SCALAR THAT IS READ

never_broken : (o : Outline) (d : Declared) (s : Shape) (f : AssignFault) → d ∈ declared_in o → (d.role ≡ given → ⊥) → d.shape ≡ s → f ∈ never_faults s d.what d.span (uses_in o) → BreaksIn o f
never_broken o d (Array κ) f there role shape i = elim i [ ]
never_broken o d Scalar f there role shape i =
    let r = only_if (is_used read d.what (uses_in o) && not (is_used named d.what (uses_in o))) (NeverAssigned d.span) f i in
    let uses = and_parts (is_used read d.what (uses_in o)) (not (is_used named d.what (uses_in o))) r.0 in
    subst (BreaksIn o) (sym r.1) (record {
      variable = d;
      declared = there;
      place = refl;
      scalar = shape;
      not_given = role;
      is_read = used_when read d.what (uses_in o) uses.0;
      not_named = unused_when named d.what (uses_in o) (not-true (is_used named d.what (uses_in o)) uses.1);
    })

-- AN OUTPUT

output_broken : (o : Outline) (d : Declared) (f : AssignFault) → d ∈ declared_in o → d.role ≡ result → f ∈ output_faults d.what d.span (uses_in o) → BreaksIn o f
output_broken o d f there role i =
    let r = only_unless (is_used named d.what (uses_in o) || is_used written d.what (uses_in o)) (OutputUnassigned d.span) f i in
    let uses = or_parts (is_used named d.what (uses_in o)) (is_used written d.what (uses_in o)) r.0 in
    subst (BreaksIn o) (sym r.1) (record {
      variable = d;
      declared = there;
      output = role;
      place = refl;
      not_named = unused_when named d.what (uses_in o) uses.0;
      not_written = unused_when written d.what (uses_in o) uses.1;
    })

-- FORMS

pub target_of : (k : Kind) → (k ≡ read → ⊥) → (k ≡ named) ⊎ (k ≡ written)
target_of named no_read = inl refl
target_of written no_read = inr refl
target_of read no_read = absurd (no_read refl)

pub no_target_read : (k : Kind) → (k ≡ named) ⊎ (k ≡ written) → k ≡ read → ⊥
no_target_read k (inl e) f = absurd (cc (e, f))
no_target_read k (inr e) f = absurd (cc (e, f))

-- a use of a variable that is of another form than a kind, with those before it, of which none is
record Other (k : Kind) (x : Owned) (us : List Use) (f : AssignFault) : Type 0 where
  target : Use
  earlier : List Use
  behind : List Use
  there : us ≡ earlier ++ target ∷ behind
  is : target.of ≡ x
  form : IsTarget target
  other : target.kind ≡ k → ⊥
  fault : f ≡ WholeAndElements target.span
  same_form : (u : Use) → u ∈ earlier → u.of ≡ x → IsTarget u → u.kind ≡ k

other_found : (k : Kind) (x : Owned) (us : List Use) (f : AssignFault) → f ∈ other_form k x us → Other k x us f
other_found k x [] f i = elim i [ ]
other_found k x (u ∷ us) f i = by (is_target x u && not (is_kind u.kind k)) refl i (λ j. other_found k x us f j)
  where
    same_kind : (is_target x u && not (is_kind u.kind k)) ≡ false → (v : Use) → v ≡ u → v.of ≡ x → IsTarget v → v.kind ≡ k
    same_kind h v e is form = elim (kind_or v.kind k) [
      | inl same ↦ same
      | inr other ↦ absurd (
          let target : is_target x v ≡ true = target_true x v is (no_target_read v.kind form) in
          let no : true ≡ false = sym (and_from _ _ target other) ∙ ap (λ (z : Use). is_target x z && not (is_kind z.kind k)) e ∙ h in
          cc (no)
          )
    ]

    by : (b : Bool) → (is_target x u && not (is_kind u.kind k)) ≡ b → f ∈ cond b (WholeAndElements u.span ∷ []) (other_form k x us) → (f ∈ other_form k x us → Other k x us f) → Other k x (u ∷ us) f
    by true h i rec =
        let r = and_parts (is_target x u) (not (is_kind u.kind k)) h in
        let q = and_parts (same u.of x) (not (is_kind u.kind read)) r.0 in
        record {
          target = u;
          earlier = [];
          behind = us;
          there = refl;
          is = same_is u.of x q.0;
          form = target_of u.kind (not_kind u.kind read q.1);
          other = not_kind u.kind k r.1;
          fault = (only_if true (WholeAndElements u.span) f i).1;
          same_form = λ v j. elim j [ ];
        }
    by false h i rec =
        let rest = rec i in
        record {
          target = rest.target;
          earlier = u ∷ rest.earlier;
          behind = rest.behind;
          there = ap (λ (vs : List Use). u ∷ vs) rest.there;
          is = rest.is;
          form = rest.form;
          other = rest.other;
          fault = rest.fault;
          same_form = λ v j e form. elim (split_in j) [ inl s ↦ same_kind h v s e form | inr l ↦ rest.same_form v l e form ];
        }

-- the same, where the first target gives the form
record Both (x : Owned) (us : List Use) (f : AssignFault) : Type 0 where
  target : Use
  earlier : List Use
  behind : List Use
  there : us ≡ earlier ++ target ∷ behind
  is : target.of ≡ x
  form : IsTarget target
  fault : f ≡ WholeAndElements target.span
  differs : (u : Use) → u ∈ earlier → u.of ≡ x → IsTarget u → u.kind ≡ target.kind → ⊥
  one_before : Use
  is_before_it : one_before ∈ earlier
  of_it : one_before.of ≡ x
  is_target_too : IsTarget one_before

both_found : (x : Owned) (us : List Use) (f : AssignFault) → f ∈ form_faults x us → Both x us f
both_found x [] f i = elim i [ ]
both_found x (u ∷ us) f i = by (is_target x u) refl i (λ j. both_found x us f j)
  where
    no_target : is_target x u ≡ false → (v : Use) → v ≡ u → v.of ≡ x → IsTarget v → ⊥
    no_target h v e is form =
        let no : true ≡ false = sym (target_true x v is (no_target_read v.kind form)) ∙ ap (is_target x) e ∙ h in
        absurd (cc (no))

    by : (b : Bool) → is_target x u ≡ b → f ∈ cond b (other_form u.kind x us) (form_faults x us) → (f ∈ form_faults x us → Both x us f) → Both x (u ∷ us) f
    by true h i rec =
        let q = and_parts (same u.of x) (not (is_kind u.kind read)) h in
        let o = other_found u.kind x us f i in
        record {
          target = o.target;
          earlier = u ∷ o.earlier;
          behind = o.behind;
          there = ap (λ (vs : List Use). u ∷ vs) o.there;
          is = o.is;
          form = o.form;
          fault = o.fault;
          differs = λ v j e form same. elim (split_in j) [
            | inl s ↦ o.other (sym same ∙ ap (λ (z : Use). z.kind) s)
            | inr l ↦ o.other (sym same ∙ o.same_form v l e form)
          ];
          one_before = u;
          is_before_it = first;
          of_it = same_is u.of x q.0;
          is_target_too = target_of u.kind (not_kind u.kind read q.1);
        }
    by false h i rec =
        let o = rec i in
        record {
          target = o.target;
          earlier = u ∷ o.earlier;
          behind = o.behind;
          there = ap (λ (vs : List Use). u ∷ vs) o.there;
          is = o.is;
          form = o.form;
          fault = o.fault;
          differs = λ v j e form same. elim (split_in j) [
            | inl s ↦ absurd (no_target h v s e form)
            | inr l ↦ o.differs v l e form same
          ];
          one_before = o.one_before;
          is_before_it = later o.is_before_it;
          of_it = o.of_it;
          is_target_too = o.is_target_too;
        }

forms_broken : (o : Outline) (d : Declared) (f : AssignFault) → d ∈ declared_in o → (d.role ≡ given → ⊥) → f ∈ form_faults d.what (uses_in o) → BreaksIn o f
forms_broken o d f there role i =
    let b = both_found d.what (uses_in o) f i in
    subst (BreaksIn o) (sym b.fault) (record {
      variable = d;
      declared = there;
      target = b.target;
      earlier = b.earlier;
      later = b.behind;
      there = b.there;
      is = b.is;
      form = b.form;
      place = refl;
      differs = b.differs;
      has_other = inr (role, b.one_before, b.is_before_it, b.of_it, b.is_target_too);
    })

written_of : (k : Kind) → (k ≡ named) ⊎ (k ≡ written) → (k ≡ named → ⊥) → k ≡ written
written_of k (inl e) other = absurd (other e)
written_of k (inr e) other = e

given_broken : (o : Outline) (d : Declared) (f : AssignFault) → d ∈ declared_in o → d.role ≡ given → f ∈ other_form named d.what (uses_in o) → BreaksIn o f
given_broken o d f there role i =
    let b = other_found named d.what (uses_in o) f i in
    subst (BreaksIn o) (sym b.fault) (record {
      variable = d;
      declared = there;
      target = b.target;
      earlier = b.earlier;
      later = b.behind;
      there = b.there;
      is = b.is;
      form = b.form;
      place = refl;
      differs = λ u j e form same. b.other (sym same ∙ b.same_form u j e form);
      has_other = inl (role, written_of b.target.kind b.form b.other);
    })

-- ALL OF A VARIABLE

role_broken : (o : Outline) (d : Declared) (r : Role) (f : AssignFault) → d ∈ declared_in o → d.role ≡ r → f ∈ role_faults r d.shape d.what d.span (uses_in o) → BreaksIn o f
role_broken o d own f there role i = elim (either (never_faults d.shape d.what d.span (uses_in o)) (form_faults d.what (uses_in o)) i) [
  | inl j ↦ never_broken o d d.shape f there (λ e. own_is_not_given role e) refl j
  | inr j ↦ forms_broken o d f there (λ e. own_is_not_given role e) j
]
role_broken o d result f there role i = elim (either (never_faults d.shape d.what d.span (uses_in o) ++ output_faults d.what d.span (uses_in o)) (form_faults d.what (uses_in o)) i) [
  | inl j ↦ elim (either (never_faults d.shape d.what d.span (uses_in o)) (output_faults d.what d.span (uses_in o)) j) [
    | inl k ↦ never_broken o d d.shape f there (λ e. result_is_not_given role e) refl k
    | inr k ↦ output_broken o d f there role k
  ]
  | inr j ↦ forms_broken o d f there (λ e. result_is_not_given role e) j
]
role_broken o d given f there role i = given_broken o d f there role i

pub variable_broken : (o : Outline) (d : Declared) (f : AssignFault) → d ∈ declared_in o → f ∈ variable_faults (uses_in o) d → BreaksIn o f
variable_broken o d f there i = role_broken o d d.role f there refl i
