-- The table of a checked script says what was settled.
use Rattle.std.proofs.Common.{◌≡◌, ℕ, ◌<◌, true, false, List, [], ◌∷◌, ◌++◌, refl, sym, ap, ◌∙◌, subst, arith}
use Rattle.std.specs.Prelude.{Option, Some, None, cond, nat_eq, slice_get}
use Rattle.std.proofs.lemmas.Bool.{eqb-true, eq-eqb}
use Rattle.types.specs.declared.typed.Typed as typed
use Rattle.types.specs.declared.typed.NameMeaning.{NameMeaning}
use Rattle.types.specs.declared.typed.NameMeaning.TheVariants.{Nothing, Variable, Called}
use Rattle.types.specs.declared.typed.Reference.{Reference}
use Rattle.types.specs.declared.typed.Callee.{Callee}
use Rattle.types.specs.declared.typed.NameEntry.{NameEntry}
use Rattle.language.specs.declared.tree.Shape.{Shape}
use Rattle.language.specs.Table.{Table}
use Rattle.language.specs.Numbered.{numbered}
use Rattle.types.specs.Typed.{table_of, name_in, shape_in, callee_in, reference_name, callee_name, or_nothing, meaning_at, settled_at}
use Rattle.types.specs.Rising.{Rises, none_settled, one_settled}
use Rattle.types.specs.Agrees.{Says, SaysOf, Agrees}
use Rattle.types.specs.Accepted.{ScriptTyped}
use Rattle.types.proofs.accepted.Checked.{script_sound}
use Rattle.types.proofs.settled.Numbered.{numbers_rise}

same_number : (n : ℕ) → nat_eq n n ≡ true
same_number n = eq-eqb n n refl

settled_last : (ss : List NameEntry) (s : NameEntry) (n : ℕ) (m : NameMeaning) → settled_at (ss ++ s ∷ []) n m ≡ cond (nat_eq s.number n) s.meaning (settled_at ss n m)
settled_last [] s n m = refl
settled_last (r ∷ rs) s n m = settled_last rs s n (cond (nat_eq r.number n) r.meaning m)

agrees_more : (t : Table) (ss : List NameEntry) (s : NameEntry) → Agrees t ss → Says t s → Agrees t (ss ++ s ∷ [])
agrees_more t [] s all says = (says, tt)
agrees_more t (r ∷ rs) s all says = (all.0, agrees_more t rs s all.1 says)

name_settled : (o : Option NameMeaning) (r : Reference) (h : Shape) → or_nothing o ≡ Variable r h → (name_in o ≡ reference_name r) × (shape_in o ≡ h)
name_settled None r h is = absurd (cc)
name_settled (Some Nothing) r h is = absurd (cc)
name_settled (Some (Called c)) r h is = absurd (cc)
name_settled (Some (Variable q k)) r h is = let name : q ≡ r = cc in (ap reference_name name, cc)

callee_settled : (o : Option NameMeaning) (c : Callee) → or_nothing o ≡ Called c → callee_in o ≡ callee_name c
callee_settled None c is = absurd (cc)
callee_settled (Some Nothing) c is = absurd (cc)
callee_settled (Some (Variable q k)) c is = absurd (cc)
callee_settled (Some (Called d)) c is = let same : d ≡ c = cc in ap callee_name same

says_meaning : (t : typed.Typed) (n : ℕ) (m : NameMeaning) → meaning_at t n ≡ m → SaysOf (table_of t) n m
says_meaning t n Nothing is = tt
says_meaning t n (Variable r h) is = name_settled (slice_get t.meanings.items n) r h is
says_meaning t n (Called c) is = callee_settled (slice_get t.meanings.items n) c is

not_same : (k n : ℕ) → n < k → nat_eq k n ≡ false
not_same k n less =
    elim (nat_eq k n) as (λ v. nat_eq k n ≡ v → v ≡ false) [
      | true ↦ λ same. (let equal : k ≡ n = eqb-true k n same in absurd (omega arith))
      | false ↦ λ other. refl
    ] refl

pub agrees_rising : (t : typed.Typed) {m : ℕ} {ss : List NameEntry} → Rises m ss → ((n : ℕ) → n < m → meaning_at t n ≡ settled_at ss n Nothing) → Agrees (table_of t) ss
agrees_rising t none_settled says = tt
agrees_rising t {m} (one_settled {n = low} {ss = ss} s rises less high is) says =
    let before = agrees_rising t rises (λ n below.
    let under : n < m = omega arith in
    let apart : nat_eq s.number n ≡ false = not_same s.number n (omega arith) in
    says n under ∙ ap (λ (x : List NameEntry). settled_at x n Nothing) is ∙ settled_last ss s n Nothing ∙ ap (λ b. cond b s.meaning (settled_at ss n Nothing)) apart) in
    let here : meaning_at t s.number ≡ s.meaning =
    says s.number high ∙ ap (λ (x : List NameEntry). settled_at x s.number Nothing) is ∙ settled_last ss s s.number Nothing ∙ ap (λ b. cond b s.meaning (settled_at ss s.number Nothing)) (same_number s.number) in
    subst (Agrees (table_of t)) (sym is) (agrees_more (table_of t) ss s before (says_meaning t s.number s.meaning here))

pub script_typed : ScriptTyped
script_typed n tree t s is says =
    script_sound (numbered n tree) (table_of t) s is (agrees_rising t (numbers_rise n tree s is) (λ k below. says k))
