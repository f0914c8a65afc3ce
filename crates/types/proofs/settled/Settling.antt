-- What is settled of a name is what the typing rules ask of the table.
use Rattle.std.proofs.Common.{◌≡◌, ℕ, ◌-◌, ◌+◌, true, false, List, [], ◌∷◌, ◌++◌, length, refl, sym, ap, ◌∙◌, subst, arith}
use Rattle.std.specs.Prelude.{Some, None, cond, nat_eq, slice_get, suc}
use Rattle.std.specs.Str.{bytes_eq}
use Rattle.std.proofs.lemmas.Slice.Eq.{bytes_eq-Decides}
use Rattle.types.specs.declared.typed.NameEntry.{NameEntry}
use Rattle.types.specs.declared.typed.NameMeaning.TheVariants.{Variable, Called}
use Rattle.types.specs.declared.typed.Callee.TheVariants.{Function}
use Rattle.types.specs.declared.fault.TypeFault.TheVariants.{WrongCount}
use Rattle.language.specs.Members.{◌∈◌, first, later}
use Rattle.language.specs.Table.{Table}
use Rattle.language.specs.Scopes.{Visible, Scope, Signature, Refers, Calls}
use Rattle.types.specs.Known.{Seen}
use Rattle.types.specs.Outcomes.{refused, got}
use Rattle.types.specs.Names.{seen, referred, settles, missing, found, find, find_from, counted}
use Rattle.types.specs.Agrees.{Says, Agrees, visible_at, scope_onto, scope_of, ReferSound, CallSound}

pub agrees_last : (t : Table) (ss : List NameEntry) (s : NameEntry) → Agrees t (ss ++ s ∷ []) → Agrees t ss × Says t s
agrees_last t [] s all = (tt, all.0)
agrees_last t (r ∷ rs) s all = let rest = agrees_last t rs s all.1 in ((all.0, rest.0), rest.1)

pub still_in : (d : ℕ) (ks : List Seen) (g : Scope) (v : Visible) → v ∈ g → v ∈ scope_onto d ks g
still_in d [] g v there = there
still_in d (k ∷ ks) g v there = still_in d ks (visible_at d k ∷ g) v (later there)

-- the text that a test found
pub same_text : (a b : List ℕ) → bytes_eq a b ≡ true → a ≡ b
same_text a b same = (bytes_eq-Decides a b).0 same

pub seen_in : (d : ℕ) (ks : List Seen) (g : Scope) (text : List ℕ) (k : Seen) → seen ks text ≡ Some k → (visible_at d k ∈ scope_onto d ks g) × (k.text ≡ text)
seen_in d [] g text k is = absurd (cc)
seen_in d (x ∷ xs) g text k is =
    elim (bytes_eq x.text text) as (λ b. bytes_eq x.text text ≡ b → cond b (Some x) (seen xs text) ≡ Some k → (visible_at d k ∈ scope_onto d (x ∷ xs) g) × (k.text ≡ text)) [
      | true ↦ λ it_is here. let same : x ≡ k = cc in
          let P : Seen → Type 0 = λ y. (visible_at d y ∈ scope_onto d (x ∷ xs) g) × (y.text ≡ text) in
          subst P same (still_in d xs (visible_at d x ∷ g) (visible_at d x) first, same_text x.text text it_is)
      | false ↦ λ other here. seen_in d xs (visible_at d x ∷ g) text k here
    ] refl is

pub refer_sound : ReferSound
refer_sound g t w τ s s' is all =
    elim (seen g.names w.text) as (λ o. seen g.names w.text ≡ o → referred g w o s ≡ got τ s' → Agrees t s × Refers (scope_of g) t w τ) [
      | None ↦ λ none refusal. absurd (cc)
      | Some k ↦ λ found here.
          let type : k.of ≡ τ = cc in
          let after : settles w (Variable (record { up = g.depth - k.depth; what = k.what }) k.of.shape) s ≡ s' = cc in
          let agreed = agrees_last t s (record { number = w.number; meaning = Variable (record { up = g.depth - k.depth; what = k.what }) k.of.shape }) (subst (Agrees t) (sym after) all) in
          let visible = seen_in g.depth g.names [] w.text k found in
          (agreed.0, record { variable = visible_at g.depth k; visible = visible.0; same = visible.1; typed = type; named = agreed.1.0; shaped = agreed.1.1 ∙ ap (λ ρ. ρ.shape) type })
    ] refl is

pub find_there : (n : ℕ) (fs : List Signature) (text : List ℕ) (p : ℕ) (f : Signature) → find_from n fs text ≡ found p f
    → (i : ℕ) × (p ≡ n + i) × (slice_get fs i ≡ Some f) × (f.text ≡ text)
find_there n [] text p f is = absurd (cc)
find_there n (x ∷ xs) text p f is =
    elim (bytes_eq x.text text) as (λ b. bytes_eq x.text text ≡ b → cond b (found n x) (find_from (n + 1) xs text) ≡ found p f → (i : ℕ) × (p ≡ n + i) × (slice_get (x ∷ xs) i ≡ Some f) × (f.text ≡ text)) [
      | true ↦ λ it_is here.
          let place : n ≡ p = cc in
          let same : x ≡ f = cc in
          (0, omega (arith, place), ap Some same, ap (λ y. y.text) (sym same) ∙ same_text x.text text it_is)
      | false ↦ λ other here.
          let rest = find_there (n + 1) xs text p f here in
          let place : p ≡ n + 1 + rest.0 = rest.1 in
          (suc rest.0, omega (arith, place), rest.2, rest.3)
    ] refl is

pub call_sound : CallSound
call_sound fs t w n m f s s' is all =
    elim (find fs w.text) as (λ o. find fs w.text ≡ o → counted w n m o s ≡ got f s' → Agrees t s × Calls fs t w f) [
      | missing ↦ λ none refusal. absurd (cc)
      | found p x ↦ λ there here.
          elim (nat_eq (length x.inputs) n) as (λ b. cond b (cond (nat_eq (length x.outputs) m) (got x (settles w (Called (Function p)) s)) (refused (WrongCount w.span))) (refused (WrongCount w.span)) ≡ got f s' → Agrees t s × Calls fs t w f) [
            | true ↦ λ here.
                elim (nat_eq (length x.outputs) m) as (λ b. cond b (got x (settles w (Called (Function p)) s)) (refused (WrongCount w.span)) ≡ got f s' → Agrees t s × Calls fs t w f) [
                  | true ↦ λ here.
                      let same : x ≡ f = cc in
                      let after : settles w (Called (Function p)) s ≡ s' = cc in
                      let agreed = agrees_last t s (record { number = w.number; meaning = Called (Function p) }) (subst (Agrees t) (sym after) all) in
                      let is_there = find_there 0 fs w.text p x there in
                      let place : p ≡ 0 + is_there.0 = is_there.1 in
                      let at_p : is_there.0 ≡ p = omega (arith, place) in
                      let P : ℕ → Type 0 = λ i. slice_get fs i ≡ Some x in
                      (agreed.0, record { place = p; there = subst P at_p is_there.2 ∙ ap Some same; same = ap (λ y. y.text) (sym same) ∙ is_there.3; named = agreed.1 })
                  | false ↦ λ refusal. absurd (cc)
                ] here
            | false ↦ λ refusal. absurd (cc)
          ] here
    ] refl is
