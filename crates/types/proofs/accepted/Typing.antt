-- What the check finds of an expression is what the typing rules say.
use Rattle.std.proofs.Common.{◌≡◌, true, false, List, refl, ap, ap₂, subst}
use Rattle.std.specs.Prelude.{Some, cond}
use Rattle.lexer.specs.declared.token.Span.{Span}
use Rattle.types.specs.declared.fault.TypeFault.TheVariants.{Mismatch}
use Rattle.types.specs.declared.typed.NameEntry.{NameEntry}
use Rattle.types.specs.declared.typed.ElementTypes.{ElementTypes}
use Rattle.language.specs.declared.tree.Base.{Base}
use Rattle.language.specs.declared.tree.Base.TheVariants.{Int, Text, Boolean}
use Rattle.language.specs.declared.tree.Keys.{Keys}
use Rattle.language.specs.declared.tree.Keys.TheVariants.{Numbers, Texts}
use Rattle.language.specs.declared.tree.Shape.{Shape}
use Rattle.language.specs.declared.tree.Shape.TheVariants.{Scalar, Array}
use Rattle.language.specs.declared.tree.Operator.{Operator}
use Rattle.language.specs.declared.tree.Operator.TheVariants as Sign
use Rattle.language.specs.declared.tree.Prefix.{Prefix}
use Rattle.language.specs.declared.tree.Prefix.TheVariants as Before
use Rattle.language.specs.Kinds.{base_of_keys}
use Rattle.language.specs.Scopes.{Typ, one_of, many_of}
use Rattle.language.specs.Typing as rules
use Rattle.types.specs.Outcomes.{Outcome, refused, got, Check, ◌>>=◌}
use Rattle.types.specs.Expressions.{same_base, same_keys, same_shape, has_base, has_type, scalar, scalar_by, elements_of, elements_by, gives, base_of, number_only, truth_only, sum_of}

-- an answer of two checks in a row comes from an answer of the first and one of the second
pub bind_got : {A B : Type 0} (o : Outcome A) (k : A → Check B) (b : B) (s : List NameEntry) → (o >>= k) ≡ got b s
    → (a : A) × (r : List NameEntry) × (o ≡ got a r) × (k a r ≡ got b s)
bind_got (refused f) k b s is = absurd (cc)
bind_got (got a r) k b s is = (a, r, refl, is)

pub base_same : (b c : Base) → same_base b c ≡ true → b ≡ c
base_same Int Int is = refl
base_same Int Text is = absurd (cc)
base_same Int Boolean is = absurd (cc)
base_same Text Int is = absurd (cc)
base_same Text Text is = refl
base_same Text Boolean is = absurd (cc)
base_same Boolean Int is = absurd (cc)
base_same Boolean Text is = absurd (cc)
base_same Boolean Boolean is = refl

pub has_base_got : (b c : Base) (at : Span) (s s' : List NameEntry) → has_base b c at s ≡ got (tt {0}) s' → (b ≡ c) × (s ≡ s')
has_base_got b c at s s' is =
    elim (same_base b c) as (λ v. same_base b c ≡ v → cond v (got (tt {0}) s) (refused (Mismatch at)) ≡ got (tt {0}) s' → (b ≡ c) × (s ≡ s')) [
      | true ↦ λ same here. (base_same b c same, cc)
      | false ↦ λ other here. absurd (cc)
    ] refl is

abbrev made : Base → Shape → Typ
made b h = record { base = b; shape = h }

pub scalar_got : (τ : Typ) (at : Span) (s s' : List NameEntry) (b : Base) → scalar τ at s ≡ got b s' → (τ ≡ one_of b) × (s ≡ s')
scalar_got τ at s s' b is =
    elim τ.shape as (λ h. τ.shape ≡ h → scalar_by h τ.base at s ≡ got b s' → (τ ≡ one_of b) × (s ≡ s')) [
      | Scalar ↦ λ shape here. let base : τ.base ≡ b = cc in (ap₂ made base shape, cc)
      | Array κ ↦ λ shape here. absurd (cc)
    ] refl is

-- what an array gives is what its type says
pub elements_got : (τ : Typ) (at : Span) (s s' : List NameEntry) (a : ElementTypes) → elements_of τ at s ≡ got a s' → (κ : Keys) × (τ ≡ many_of κ a.value) × (base_of_keys κ ≡ a.key) × (s ≡ s')
elements_got τ at s s' a is =
    elim τ.shape as (λ h. τ.shape ≡ h → elements_by h τ.base at s ≡ got a s' → (κ : Keys) × (τ ≡ many_of κ a.value) × (base_of_keys κ ≡ a.key) × (s ≡ s')) [
      | Scalar ↦ λ shape here. absurd (cc)
      | Array κ ↦ λ shape here.
          let same : ◌≡◌ {A = ElementTypes} (record { value = τ.base; key = base_of_keys κ }) a = cc in
          (κ, ap₂ made (ap (λ (x : ElementTypes). x.value) same) shape, ap (λ (x : ElementTypes). x.key) same, cc)
    ] refl is

keys_same : (κ ι : Keys) → same_keys κ ι ≡ true → κ ≡ ι
keys_same Numbers Numbers is = refl
keys_same Numbers Texts is = absurd (cc)
keys_same Texts Numbers is = absurd (cc)
keys_same Texts Texts is = refl

pub shape_same : (h k : Shape) → same_shape h k ≡ true → h ≡ k
shape_same Scalar Scalar is = refl
shape_same Scalar (Array ι) is = absurd (cc)
shape_same (Array κ) Scalar is = absurd (cc)
shape_same (Array κ) (Array ι) is = ap Array (keys_same κ ι is)

pub has_type_got : (τ σ : Typ) (at : Span) (s s' : List NameEntry) → has_type τ σ at s ≡ got (tt {0}) s' → (τ ≡ σ) × (s ≡ s')
has_type_got τ σ at s s' is =
    elim (same_base τ.base σ.base) as (λ v. same_base τ.base σ.base ≡ v → cond v (cond (same_shape τ.shape σ.shape) (got (tt {0}) s) (refused (Mismatch at))) (refused (Mismatch at)) ≡ got (tt {0}) s' → (τ ≡ σ) × (s ≡ s')) [
      | true ↦ λ base here.
          elim (same_shape τ.shape σ.shape) as (λ v. same_shape τ.shape σ.shape ≡ v → cond v (got (tt {0}) s) (refused (Mismatch at)) ≡ got (tt {0}) s' → (τ ≡ σ) × (s ≡ s')) [
            | true ↦ λ shape here. (ap₂ made (base_same τ.base σ.base base) (shape_same τ.shape σ.shape shape), cc)
            | false ↦ λ other here. absurd (cc)
          ] refl here
      | false ↦ λ other here. absurd (cc)
    ] refl is

pub number_gives : (o : Operator) (c d b : Base) → rules.Operates o Int d → number_only d b ≡ Some c → rules.Operates o b c
number_gives o c d Int rule is = let same : d ≡ c = cc in subst (rules.Operates o Int) same rule
number_gives o c d Text rule is = absurd (cc)
number_gives o c d Boolean rule is = absurd (cc)

pub truth_gives : (o : Operator) (c b : Base) → rules.Operates o Boolean Boolean → truth_only b ≡ Some c → rules.Operates o b c
truth_gives o c Boolean rule is = let same : Boolean ≡ c = cc in subst (rules.Operates o Boolean) same rule
truth_gives o c Int rule is = absurd (cc)
truth_gives o c Text rule is = absurd (cc)

pub sum_gives : (c b : Base) → sum_of b ≡ Some c → rules.Operates Sign.Plus b c
sum_gives c Int is = let same : Int ≡ c = cc in subst (rules.Operates Sign.Plus Int) same rules.sum_of_numbers
sum_gives c Text is = let same : Text ≡ c = cc in subst (rules.Operates Sign.Plus Text) same rules.sum_of_texts
sum_gives c Boolean is = absurd (cc)

pub truth_given : (o : Operator) (b c : Base) → rules.Operates o b Boolean → Some Boolean ≡ Some c → rules.Operates o b c
truth_given o b c rule is = let same : Boolean ≡ c = cc in subst (rules.Operates o b) same rule

-- what an operator gives is what the rules say
pub gives_sound : (o : Operator) (b c : Base) → gives o b ≡ Some c → rules.Operates o b c
gives_sound Sign.Or b c is = truth_gives Sign.Or c b rules.disjunction is
gives_sound Sign.And b c is = truth_gives Sign.And c b rules.conjunction is
gives_sound Sign.Equal b c is = truth_given Sign.Equal b c (rules.equal b) is
gives_sound Sign.NotEqual b c is = truth_given Sign.NotEqual b c (rules.unequal b) is
gives_sound Sign.Less b c is = number_gives Sign.Less c Boolean b rules.less is
gives_sound Sign.AtMost b c is = number_gives Sign.AtMost c Boolean b rules.at_most is
gives_sound Sign.Greater b c is = number_gives Sign.Greater c Boolean b rules.greater is
gives_sound Sign.AtLeast b c is = number_gives Sign.AtLeast c Boolean b rules.at_least is
gives_sound Sign.Plus b c is = sum_gives c b is
gives_sound Sign.Minus b c is = number_gives Sign.Minus c Int b rules.difference is
gives_sound Sign.Times b c is = number_gives Sign.Times c Int b rules.product is
gives_sound Sign.Quotient b c is = number_gives Sign.Quotient c Int b rules.quotient is
gives_sound Sign.Remainder b c is = number_gives Sign.Remainder c Int b rules.remainder is

pub prefix_sound : (p : Prefix) → rules.Prefixes p (base_of p)
prefix_sound Before.Not = rules.inverted
prefix_sound Before.Negative = rules.negative

-- and each operator that the rules know gives what they say
pub gives_complete : (o : Operator) (b c : Base) → rules.Operates o b c → gives o b ≡ Some c
gives_complete o b c rules.sum_of_numbers = refl
gives_complete o b c rules.sum_of_texts = refl
gives_complete o b c rules.difference = refl
gives_complete o b c rules.product = refl
gives_complete o b c rules.quotient = refl
gives_complete o b c rules.remainder = refl
gives_complete o b c rules.less = refl
gives_complete o b c rules.at_most = refl
gives_complete o b c rules.greater = refl
gives_complete o b c rules.at_least = refl
gives_complete o b c (rules.equal d) = refl
gives_complete o b c (rules.unequal d) = refl
gives_complete o b c rules.conjunction = refl
gives_complete o b c rules.disjunction = refl

pub base_complete : (p : Prefix) (b : Base) → rules.Prefixes p b → base_of p ≡ b
base_complete p b rules.negative = refl
base_complete p b rules.inverted = refl

pub same_self : (b : Base) → same_base b b ≡ true
same_self Int = refl
same_self Text = refl
same_self Boolean = refl
