-- A variable has no fault of its own exactly where the clauses that speak of its uses hold.
use Rattle.std.specs.Prelude.{◌≡◌, ◌⊎◌, Bool, true, false, not, ◌&&◌, ◌||◌, cond, List, [], ◌∷◌, ◌++◌, refl}
use Rattle.std.proofs.Common.{inl, inr, sym, ap, ◌∙◌}
use Rattle.lexer.specs.declared.token.Span.{Span}
use Rattle.language.specs.declared.tree.Keys.{Keys}
use Rattle.language.specs.declared.tree.Shape.{Shape}
use Rattle.language.specs.declared.tree.Shape.TheVariants.{Scalar, Array}
use Rattle.language.specs.Core.{Owned}
use Rattle.language.specs.Members.{◌∈◌, first, later}
use Rattle.language.proofs.Members.{split_in}
use Rattle.assign_check.specs.declared.fault.AssignFault.TheVariants.{NeverAssigned, WholeAndElements, OutputUnassigned}
use Rattle.assign_check.specs.Outline.{Kind, named, written, read, Use, Role, own, result, given}
use Rattle.assign_check.specs.Faults.{same, is_kind, is_used, other_form, form_faults, never_faults, output_faults, role_faults}
use Rattle.assign_check.specs.Breaks.{Used}
use Rattle.assign_check.proofs.counting.Counts.{same_is, same_from, kind_is, kind_from, none_left, none_right, none_both, only_if_none, only_unless_none, false_any}
use Rattle.std.proofs.lemmas.Bool.{and_parts, and_from}

used_later : {k : Kind} {x : Owned} {u : Use} {us : List Use} → Used k x us → Used k x (u ∷ us)
used_later h = record { use_there = h.use_there; there = later h.there; kind = h.kind; is = h.is }

pub used_when : (k : Kind) (x : Owned) (us : List Use) → is_used k x us ≡ true → Used k x us
used_when k x [] h = absurd (cc (h))
used_when k x (u ∷ us) h = by (is_kind u.kind k && same u.of x) refl h (λ g. used_when k x us g)
  where
    by : (b : Bool) → (is_kind u.kind k && same u.of x) ≡ b → (b || is_used k x us) ≡ true → (is_used k x us ≡ true → Used k x us) → Used k x (u ∷ us)
    by true e g rec = let r = and_parts (is_kind u.kind k) (same u.of x) e in record { use_there = u; there = first; kind = kind_is u.kind k r.0; is = same_is u.of x r.1 }
    by false e g rec = used_later (rec g)

pub unused_when : (k : Kind) (x : Owned) (us : List Use) → is_used k x us ≡ false → Used k x us → ⊥
unused_when k x us h u =
    let no = false_any (λ (z : Use). is_kind z.kind k && same z.of x) us h u.use_there u.there in
    let yes = and_from _ _ (kind_from u.kind) (same_from u.is) in
    let both : true ≡ false = sym yes ∙ no in
    absurd (cc (both))

-- whether it is used so
pub used_or : (k : Kind) (x : Owned) (us : List Use) → (Used k x us × (is_used k x us ≡ true)) ⊎ ((Used k x us → ⊥) × (is_used k x us ≡ false))
used_or k x us = by (is_used k x us) refl
  where
    by : (b : Bool) → is_used k x us ≡ b → (Used k x us × (is_used k x us ≡ true)) ⊎ ((Used k x us → ⊥) × (is_used k x us ≡ false))
    by true e = inl (used_when k x us e, e)
    by false e = inr (unused_when k x us e, e)

-- FORMS

abbrev pub is_target : Owned → Use → Bool
is_target x u = same u.of x && not (is_kind u.kind read)

no_read : (k : Kind) → (k ≡ read → ⊥) → not (is_kind k read) ≡ true
no_read named h = refl
no_read written h = refl
no_read read h = absurd (h refl)

pub not_kind : (k j : Kind) → not (is_kind k j) ≡ true → k ≡ j → ⊥
not_kind k j h e =
    let no : false ≡ true = sym (ap not (kind_from e)) ∙ h in
    absurd (cc (no))

pub kind_or : (k j : Kind) → (k ≡ j) ⊎ (not (is_kind k j) ≡ true)
kind_or k j = by (is_kind k j) refl
  where
    by : (b : Bool) → is_kind k j ≡ b → (k ≡ j) ⊎ (not (is_kind k j) ≡ true)
    by true e = inl (kind_is k j e)
    by false e = inr (ap not e)

pub target_true : (x : Owned) (u : Use) → u.of ≡ x → (u.kind ≡ read → ⊥) → is_target x u ≡ true
target_true x u e n = and_from _ _ (same_from e) (no_read u.kind n)

-- all targets of a variable are of this form
abbrev Formed : Kind → Owned → List Use → Type 0
Formed k x us = (u : Use) → u ∈ us → u.of ≡ x → (u.kind ≡ read → ⊥) → u.kind ≡ k

formed_rest : {k : Kind} {x : Owned} {u : Use} {us : List Use} → Formed k x (u ∷ us) → Formed k x us
formed_rest h u i = h u (later i)

other_none : (k : Kind) (x : Owned) (us : List Use) → other_form k x us ≡ [] → Formed k x us
other_none k x [] h u i e n = elim i [ ]
other_none k x (y ∷ us) h u i e n = by (is_target x y && not (is_kind y.kind k)) refl h (λ g j. other_none k x us g u j e n)
  where
    head : (is_target x y && not (is_kind y.kind k)) ≡ false → u ≡ y → u.kind ≡ k
    head f q = elim (kind_or u.kind k) [
      | inl s ↦ s
      | inr s ↦ absurd (
          let yes : (is_target x u && not (is_kind u.kind k)) ≡ true = and_from _ _ (target_true x u e n) s in
          let no : true ≡ false = sym yes ∙ ap (λ (z : Use). is_target x z && not (is_kind z.kind k)) q ∙ f in
          cc (no)
          )
    ]

    by : (b : Bool) → (is_target x y && not (is_kind y.kind k)) ≡ b → cond b (WholeAndElements y.span ∷ []) (other_form k x us) ≡ [] → (other_form k x us ≡ [] → u ∈ us → u.kind ≡ k) → u.kind ≡ k
    by true f g rec = absurd (cc (g))
    by false f g rec = elim (split_in i) [ inl q ↦ head f q | inr j ↦ rec g j ]

other_clean : (k : Kind) (x : Owned) (us : List Use) → Formed k x us → other_form k x us ≡ []
other_clean k x [] h = refl
other_clean k x (y ∷ us) h = by (is_target x y && not (is_kind y.kind k)) refl (other_clean k x us (formed_rest h))
  where
    by : (b : Bool) → (is_target x y && not (is_kind y.kind k)) ≡ b → other_form k x us ≡ [] → cond b (WholeAndElements y.span ∷ []) (other_form k x us) ≡ []
    by true e rec =
        let r = and_parts (is_target x y) (not (is_kind y.kind k)) e in
        let s = and_parts (same y.of x) (not (is_kind y.kind read)) r.0 in
        absurd (not_kind y.kind k r.1 (h y first (same_is y.of x s.0) (not_kind y.kind read s.1)))
    by false e rec = rec

form_none : (x : Owned) (us : List Use) → form_faults x us ≡ [] → (k : Kind) × Formed k x us
form_none x [] h = (named, λ u i e n. elim i [ ])
form_none x (y ∷ us) h = by (is_target x y) refl h (λ g. form_none x us g)
  where
    by : (b : Bool) → is_target x y ≡ b → cond b (other_form y.kind x us) (form_faults x us) ≡ [] → (form_faults x us ≡ [] → (k : Kind) × Formed k x us) → (k : Kind) × Formed k x (y ∷ us)
    by true f g rec = (y.kind, λ u i e n. elim (split_in i) [ inl q ↦ ap (λ (z : Use). z.kind) q | inr j ↦ other_none y.kind x us g u j e n ])
    by false f g rec =
        let r = rec g in (
          r.0,
          λ u i e n. elim (split_in i) [
            | inl q ↦ absurd (
                let no : true ≡ false = sym (target_true x u e n) ∙ ap (is_target x) q ∙ f in
                cc (no)
                )
            | inr j ↦ r.1 u j e n
          ],
        )

form_clean : (k : Kind) (x : Owned) (us : List Use) → Formed k x us → form_faults x us ≡ []
form_clean k x [] h = refl
form_clean k x (y ∷ us) h = by (is_target x y) refl (form_clean k x us (formed_rest h))
  where
    by : (b : Bool) → is_target x y ≡ b → form_faults x us ≡ [] → cond b (other_form y.kind x us) (form_faults x us) ≡ []
    by true e rec =
        let s = and_parts (same y.of x) (not (is_kind y.kind read)) e in
        let same_kind : y.kind ≡ k = h y first (same_is y.of x s.0) (not_kind y.kind read s.1) in
        other_clean y.kind x us (λ u i f n. h u (later i) f n ∙ sym same_kind)
    by false e rec = rec

named_no_read : {k : Kind} → k ≡ named → k ≡ read → ⊥
named_no_read e f = absurd (cc (e, f))

written_no_read : {k : Kind} → k ≡ written → k ≡ read → ⊥
written_no_read e f = absurd (cc (e, f))

not_both : {k : Kind} {x : Owned} {us : List Use} → Formed k x us → Used named x us → Used written x us → ⊥
not_both {k} h a b =
    let one : named ≡ k = sym a.kind ∙ h a.use_there a.there a.is (named_no_read a.kind) in
    let two : written ≡ k = sym b.kind ∙ h b.use_there b.there b.is (written_no_read b.kind) in
    absurd (cc (one, two))

formed_named : {x : Owned} {us : List Use} → (Used written x us → ⊥) → Formed named x us
formed_named {x} {us} h u i e n = by u.kind refl
  where
    by : (k : Kind) → u.kind ≡ k → u.kind ≡ named
    by named f = f
    by written f = absurd (h (record { use_there = u; there = i; kind = f; is = e }))
    by read f = absurd (n f)

formed_written : {x : Owned} {us : List Use} → (Used named x us → ⊥) → Formed written x us
formed_written {x} {us} h u i e n = by u.kind refl
  where
    by : (k : Kind) → u.kind ≡ k → u.kind ≡ written
    by named f = absurd (h (record { use_there = u; there = i; kind = f; is = e }))
    by written f = f
    by read f = absurd (n f)

one_form : (x : Owned) (us : List Use) → (Used named x us → Used written x us → ⊥) → form_faults x us ≡ []
one_form x us h = elim (used_or named x us) [
  | inl r ↦ form_clean named x us (formed_named (h r.0))
  | inr r ↦ form_clean written x us (formed_written r.0)
]

-- A VARIABLE

-- what single assignment asks of a variable's uses
pub record Fine (r : Role) (s : Shape) (x : Owned) (us : List Use) : Type 0 where
  pub assigned : (r ≡ given → ⊥) → ((κ : Keys) → s ≡ Array κ → ⊥) → Used read x us → Used named x us
  pub one_form : (r ≡ given → ⊥) → Used named x us → Used written x us → ⊥
  pub given_form : r ≡ given → Used written x us → ⊥
  pub output_assigned : r ≡ result → Used named x us ⊎ Used written x us

never_none : (s : Shape) (x : Owned) (at : Span) (us : List Use) → never_faults s x at us ≡ [] → ((κ : Keys) → s ≡ Array κ → ⊥) → Used read x us → Used named x us
never_none (Array κ) x at us h n r = absurd (n κ refl)
never_none Scalar x at us h n r = elim (used_or named x us) [
  | inl p ↦ p.0
  | inr p ↦ elim (used_or read x us) [
    | inl q ↦ absurd (
        let no : true ≡ false = sym (and_from _ _ q.1 (ap not p.1)) ∙ only_if_none (is_used read x us && not (is_used named x us)) (NeverAssigned at) h in
        cc (no)
        )
    | inr q ↦ absurd (q.0 r)
  ]
]

never_clean : (s : Shape) (x : Owned) (at : Span) (us : List Use) → (((κ : Keys) → s ≡ Array κ → ⊥) → Used read x us → Used named x us) → never_faults s x at us ≡ []
never_clean (Array κ) x at us h = refl
never_clean Scalar x at us h = elim (used_or read x us) [
  | inl p ↦ elim (used_or named x us) [
    | inl q ↦ ap (λ (b : Bool). cond b (NeverAssigned at ∷ []) []) (ap (λ (b : Bool). b && not (is_used named x us)) p.1 ∙ ap not q.1)
    | inr q ↦ absurd (q.0 (h (λ κ e. absurd (cc (e))) p.0))
  ]
  | inr p ↦ ap (λ (b : Bool). cond (b && not (is_used named x us)) (NeverAssigned at ∷ []) []) p.1
]

output_none : (x : Owned) (at : Span) (us : List Use) → output_faults x at us ≡ [] → Used named x us ⊎ Used written x us
output_none x at us h = elim (used_or named x us) [
  | inl p ↦ inl p.0
  | inr p ↦ elim (used_or written x us) [
    | inl q ↦ inr q.0
    | inr q ↦ absurd (
        let no : false ≡ true = sym (ap (λ (b : Bool). b || is_used written x us) p.1 ∙ q.1) ∙ only_unless_none (is_used named x us || is_used written x us) (OutputUnassigned at) h in
        cc (no)
        )
  ]
]

output_clean : (x : Owned) (at : Span) (us : List Use) → Used named x us ⊎ Used written x us → output_faults x at us ≡ []
output_clean x at us h = elim (used_or named x us) [
  | inl p ↦ ap (λ (b : Bool). cond (b || is_used written x us) [] (OutputUnassigned at ∷ [])) p.1
  | inr p ↦ elim (used_or written x us) [
    | inl q ↦ ap (λ (b : Bool). cond b [] (OutputUnassigned at ∷ [])) (ap (λ (b : Bool). b || is_used written x us) p.1 ∙ q.1)
    | inr q ↦ elim h [ inl u ↦ absurd (p.0 u) | inr u ↦ absurd (q.0 u) ]
  ]
]

one_none : (x : Owned) (us : List Use) → form_faults x us ≡ [] → Used named x us → Used written x us → ⊥
one_none x us h = not_both (form_none x us h).1

given_none : (x : Owned) (us : List Use) → other_form named x us ≡ [] → Used written x us → ⊥
given_none x us h u =
    let e : written ≡ named = sym u.kind ∙ other_none named x us h u.use_there u.there u.is (written_no_read u.kind) in
    absurd (cc (e))

pub fine : (r : Role) (s : Shape) (x : Owned) (at : Span) (us : List Use) → role_faults r s x at us ≡ [] → Fine r s x us
fine own s x at us h = record {
  assigned = λ g. never_none s x at us (none_left (never_faults s x at us) (form_faults x us) h);
  one_form = λ g. one_none x us (none_right (never_faults s x at us) (form_faults x us) h);
  given_form = λ e. absurd (cc (e));
  output_assigned = λ e. absurd (cc (e));
}
fine result s x at us h =
    let front = none_left (never_faults s x at us ++ output_faults x at us) (form_faults x us) h in
    record {
      assigned = λ g. never_none s x at us (none_left (never_faults s x at us) (output_faults x at us) front);
      one_form = λ g. one_none x us (none_right (never_faults s x at us ++ output_faults x at us) (form_faults x us) h);
      given_form = λ e. absurd (cc (e));
      output_assigned = λ e. output_none x at us (none_right (never_faults s x at us) (output_faults x at us) front);
    }
fine given s x at us h = record {
  assigned = λ g. absurd (g refl);
  one_form = λ g. absurd (g refl);
  given_form = λ e. given_none x us h;
  output_assigned = λ e. absurd (cc (e));
}

pub no_fault_of : (r : Role) (s : Shape) (x : Owned) (at : Span) (us : List Use) → Fine r s x us → role_faults r s x at us ≡ []
no_fault_of own s x at us h = none_both (never_clean s x at us (h.assigned (λ e. absurd (cc (e))))) (one_form x us (h.one_form (λ e. absurd (cc (e)))))
no_fault_of result s x at us h =
    none_both (none_both (never_clean s x at us (h.assigned (λ e. absurd (cc (e))))) (output_clean x at us (h.output_assigned refl))) (one_form x us (h.one_form (λ e. absurd (cc (e)))))
no_fault_of given s x at us h = other_clean named x us (formed_named (h.given_form refl))
