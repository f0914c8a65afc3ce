-- What calls hand over, and what their answers say.
use Rattle.std.proofs.Common.{◌≡◌, ℕ, zero, suc, ◌<◌, ◌≤◌, ◌-◌, Bool, true, false, List, [], ◌∷◌, ◌++◌, length, get_or, Option, None, Some, refl, sym, ap, subst, ◌∙◌, arith}
use Rattle.dataflow.specs.System.{In}
use Rattle.values.specs.Values.{same_truth}
use Rattle.task_code.proofs.Equal.{bool_same, bool_sound}
use Rattle.task_code.specs.declared.entry.Name.{Name}
use Rattle.task_code.specs.Code as pure
use Rattle.task_code.specs.Code.{Argument, Named, Fixed, Code, Entry, Variable, Calling, InPlace, Parameter, Through, argument, argument_in, arguments, blank_entry, body, call_at, entry, here, is_array_name, nth}
use Rattle.task_code.specs.View.{name_view}
use Rattle.task_code.specs.Whole.{Declared, Seen}
use Rattle.ref_counting.specs.declared.declarations.DeclaredIn.{DeclaredIn}
use Rattle.ref_counting.specs.Makes.{AreMade, IsWaited, made_by}
use Rattle.ref_counting.specs.Passing.{Answers, Hands, Outlives, Sees}

pub answers_none : (P : pure.Name → Type 0) → ((r : pure.Name) → P r → ⊥) → Answers None P
answers_none P h = record { such = λ x e. absurd (cc); all = λ r p. absurd (h r p) }

pub answers_as : (a : Option Name) (P Q : pure.Name → Type 0) → ((r : pure.Name) → P r → Q r) → ((r : pure.Name) → Q r → P r) → Answers a P → Answers a Q
answers_as a P Q f g h = record { such = λ x e. f (name_view x) (h.such x e); all = λ r q. h.all r (g r q) }

-- ARGUMENTS

named_is : {r s : pure.Name} → ◌≡◌ {A = Option Argument} (Some (Named r)) (Some (Named s)) → r ≡ s
named_is h = cc

pub to_hands : (xs : List Argument) (k : ℕ) (b : Bool) (r : pure.Name) (d : Argument) → argument_in xs k b ≡ Some (Named r) → (k < length xs) × Hands (get_or xs k d) b r
to_hands [] k b r d h = absurd (cc)
to_hands (Named s ∷ xs) zero b r d h = by (same_truth (is_array_name s) b) refl h
  where
    by : (t : Bool) → same_truth (is_array_name s) b ≡ t → elim t [ true ↦ Some (Named s) | false ↦ None ] ≡ Some (Named r) → (0 < length (Named s ∷ xs)) × Hands (Named s) b r
    by true e h = (omega arith, (ap Named (named_is h), subst (λ n. is_array_name n ≡ b) (named_is h) (bool_sound (is_array_name s) b e)))
    by false e h = absurd (cc)
to_hands (Fixed v ∷ xs) zero true r d h = absurd (cc)
to_hands (Fixed v ∷ xs) zero false r d h = absurd (cc)
to_hands (Named s ∷ xs) (suc k) b r d h = let t = to_hands xs k b r d h in (omega arith, t.1)
to_hands (Fixed v ∷ xs) (suc k) b r d h = let t = to_hands xs k b r d h in (omega arith, t.1)

pub from_hands : (xs : List Argument) (k : ℕ) (b : Bool) (r : pure.Name) (d : Argument) → k < length xs → Hands (get_or xs k d) b r → argument_in xs k b ≡ Some (Named r)
from_hands [] k b r d l h = absurd (omega arith)
from_hands (x ∷ xs) zero b r d l h = subst (λ y. argument_in (y ∷ xs) zero b ≡ Some (Named r)) (sym h.0) (here_is r h.1)
  where
    here_is : (s : pure.Name) → is_array_name s ≡ b → argument_in (Named s ∷ xs) zero b ≡ Some (Named s)
    here_is s e = subst (λ c. argument_in (Named s ∷ xs) zero c ≡ Some (Named s)) e (ap (λ t. elim t [ true ↦ Some (Named s) | false ↦ None ]) (bool_same (is_array_name s)))
from_hands (Named s ∷ xs) (suc k) b r d l h = from_hands xs k b r d (omega arith) h
from_hands (Fixed v ∷ xs) (suc k) b r d l h = from_hands xs k b r d (omega arith) h

-- the arguments behind others
pub behind : (xs ys : List Argument) (k : ℕ) (b : Bool) → length xs ≤ k → argument_in (xs ++ ys) k b ≡ argument_in ys (k - length xs) b
behind [] ys k b h = ap (λ n. argument_in ys n b) (omega arith)
behind (x ∷ xs) ys zero b h = absurd (omega arith)
behind (Named s ∷ xs) ys (suc k) b h = behind xs ys k b (omega arith) ∙ ap (λ n. argument_in ys n b) (omega arith)
behind (Fixed v ∷ xs) ys (suc k) b h = behind xs ys k b (omega arith) ∙ ap (λ n. argument_in ys n b) (omega arith)

pub before : (xs ys : List Argument) (k : ℕ) (b : Bool) → k < length xs → argument_in (xs ++ ys) k b ≡ argument_in xs k b
before [] ys k b h = absurd (omega arith)
before (Named s ∷ xs) ys zero b h = refl
before (Fixed v ∷ xs) ys zero b h = refl
before (Named s ∷ xs) ys (suc k) b h = before xs ys k b (omega arith)
before (Fixed v ∷ xs) ys (suc k) b h = before xs ys k b (omega arith)

pub none_at : (xs : List Argument) (k : ℕ) (b : Bool) → length xs ≤ k → Answers None (λ r. argument_in xs k b ≡ Some (Named r))
none_at xs k b h = answers_none (λ r. argument_in xs k b ≡ Some (Named r)) (λ r e. (let t = to_hands xs k b r (Named r) e in absurd (omega arith)))

pub some_at : (xs : List Argument) (k : ℕ) (b : Bool) (y : Argument) (a : Option Name) → k < length xs → get_or xs k y ≡ y → Answers a (Hands y b) → Answers a (λ r. argument_in xs k b ≡ Some (Named r))
some_at xs k b y a l e h = answers_as a (Hands y b) (λ r. argument_in xs k b ≡ Some (Named r)) (λ r t. from_hands xs k b r y l (subst (λ z. Hands z b r) (sym e) t)) (λ r t. subst (λ z. Hands z b r) e (to_hands xs k b r y t).1) h

pub behind_all : (xs ys : List Argument) (k : ℕ) (b : Bool) (a : Option Name) → length xs ≤ k → Answers a (λ r. argument_in ys (k - length xs) b ≡ Some (Named r)) → Answers a (λ r. argument_in (xs ++ ys) k b ≡ Some (Named r))
behind_all xs ys k b a l h = answers_as a (λ r. argument_in ys (k - length xs) b ≡ Some (Named r)) (λ r. argument_in (xs ++ ys) k b ≡ Some (Named r)) (λ r t. behind xs ys k b l ∙ t) (λ r t. sym (behind xs ys k b l) ∙ t) h

pub before_all : (xs ys : List Argument) (k : ℕ) (b : Bool) (a : Option Name) → k < length xs → Answers a (λ r. argument_in xs k b ≡ Some (Named r)) → Answers a (λ r. argument_in (xs ++ ys) k b ≡ Some (Named r))
before_all xs ys k b a l h = answers_as a (λ r. argument_in xs k b ≡ Some (Named r)) (λ r. argument_in (xs ++ ys) k b ≡ Some (Named r)) (λ r t. before xs ys k b l ∙ t) (λ r t. sym (before xs ys k b l) ∙ t) h

-- CALLS

pub past_all : (es : List Entry) (i : ℕ) → length es ≤ i → nth blank_entry es i ≡ blank_entry
past_all [] i h = refl
past_all (e ∷ es) zero h = absurd (omega arith)
past_all (e ∷ es) (suc i) h = past_all es i (omega arith)

module _ (C : Code) (offset call : ℕ) (at : call_at C offset ≡ call) where
  pub no_call : (q : pure.Name) → length C.entries ≤ call → Answers None (Seen C offset Calling q)
  no_call q h = answers_none (Seen C offset Calling q) (λ r s. absurd (none_there s.0 s.1 r s.3))
    where
      none_there : (k : ℕ) (b : Bool) (r : pure.Name) → argument C offset k b ≡ Some (Named r) → ⊥
      none_there k b r e =
          let blank : entry C (call_at C offset) ≡ blank_entry = ap (entry C) at ∙ past_all C.entries call h in
          let none : ◌≡◌ {A = Option Argument} None (Some (Named r)) = sym (ap (λ (x : Entry). argument_in (arguments x.act) k b) blank) ∙ e in
          absurd (cc)

  pub called : (k : ℕ) (b : Bool) (q : pure.Name) (a : Option Name) → q ≡ record { up = 0; owned = Parameter k b } → Answers a (λ r. argument_in (arguments (entry C call).act) k b ≡ Some (Named r)) → Answers a (Seen C offset Calling q)
  called k b q a e h = answers_as a (λ r. argument_in (arguments (entry C call).act) k b ≡ Some (Named r)) (Seen C offset Calling q) to from h
    where
      to : (r : pure.Name) → argument_in (arguments (entry C call).act) k b ≡ Some (Named r) → Seen C offset Calling q r
      to r t = (k, b, e, ap (λ n. argument_in (arguments (entry C n).act) k b) at ∙ t)

      from : (r : pure.Name) → Seen C offset Calling q r → argument_in (arguments (entry C call).act) k b ≡ Some (Named r)
      from r s =
          let o : Parameter k b ≡ Parameter s.0 s.1 = ap (λ (x : pure.Name). x.owned) (sym e ∙ s.2) in
          let i : k ≡ s.0 = cc in
          let j : b ≡ s.1 = cc in
          ap (λ n. argument_in (arguments (entry C n).act) k b) (sym at) ∙ ap (λ n. argument C offset n b) i ∙ ap (λ t. argument C offset s.0 t) j ∙ s.3

-- DECLARED NAMES

pub outlives_not : (ms : List DeclaredIn) (b : ℕ) (v : Variable) → In (made_by b v) ms → Answers None (Outlives ms b (here v))
outlives_not ms b v t = answers_none (Outlives ms b (here v)) (λ r o. o.lives v refl t)

module _ (C : Code) (ms : List DeclaredIn) (M : AreMade C ms) (b : ℕ) (h : b < length C.bodies) (w : IsWaited C b) (q : pure.Name) where
  pub not_declared : ((v : Variable) → q ≡ here v → In (made_by b v) ms → ⊥) → Declared C b q → ⊥
  not_declared lives d = lives d.variable d.is (M.all b d.variable h w d.made)

  pub still_lives : (Declared C b q → ⊥) → (v : Variable) → q ≡ here v → In (made_by b v) ms → ⊥
  still_lives outer v e t = outer (record { variable = v; is = e; made = M.only (made_by b v) t })

module _ (C : Code) (i b : ℕ) (q : pure.Name) where
  pub seen_in_place : (ms : List DeclaredIn) → AreMade C ms → b < length C.bodies → IsWaited C b → (a : Option Name) → Answers a (Outlives ms b q) → Answers a (Sees C i InPlace b q)
  seen_in_place ms M h w a t = answers_as a (Outlives ms b q) (Sees C i InPlace b q) (λ r o. record { outer = not_declared C ms M b h w q o.lives; seen = o.is }) (λ r s. record { lives = still_lives C ms M b h w q s.outer; is = s.seen }) t

  pub seen_through : (a : Option Name) → Answers a (λ r. q ≡ record { up = suc r.up; owned = r.owned }) → Answers a (Sees C i Through b q)
  seen_through a t = answers_as a (λ r. q ≡ record { up = suc r.up; owned = r.owned }) (Sees C i Through b q) (λ r e. record { outer = outer r e; seen = e }) (λ r s. s.seen) t
    where
      outer : (r : pure.Name) → q ≡ record { up = suc r.up; owned = r.owned } → Declared C b q → ⊥
      outer r e d = let z : suc r.up ≡ 0 = ap (λ (x : pure.Name). x.up) (sym e ∙ d.is) in absurd (omega arith)

  pub seen_calling : (a : Option Name) → Answers a (Seen C (entry C i).offset Calling q) → Answers a (Sees C i Calling b q)
  seen_calling a t = answers_as a (Seen C (entry C i).offset Calling q) (Sees C i Calling b q) (λ r s. record { outer = outer s.0 s.1 s.2; seen = s }) (λ r s. s.seen) t
    where
      outer : (k : ℕ) (c : Bool) → q ≡ record { up = 0; owned = Parameter k c } → Declared C b q → ⊥
      outer k c e d = let z : Parameter k c ≡ pure.Local d.variable = ap (λ (x : pure.Name). x.owned) (sym e ∙ d.is) in absurd (cc)
