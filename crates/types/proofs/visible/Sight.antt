-- What is visible, for the check and for the typing rules.
use Rattle.std.proofs.Common.{◌≡◌, ℕ, ◌-◌, ◌+◌, ◌≤◌, true, false, List, [], ◌∷◌, ◌++◌, refl, sym, ap, ◌∙◌, arith}
use Rattle.std.proofs.Common.{inl, inr}
use Rattle.std.specs.Prelude.{Some, None, cond, suc}
use Rattle.std.specs.Str.{bytes_eq}
use Rattle.std.proofs.lemmas.Slice.Eq.{bytes_eq-Decides}
use Rattle.types.specs.declared.typed.Binding.{Binding}
use Rattle.types.specs.declared.typed.Binding.TheVariants.{Local}
use Rattle.types.specs.declared.typed.NameEntry.{NameEntry}
use Rattle.language.proofs.Members.{split_in}
use Rattle.language.specs.Tree.{Word}
use Rattle.language.specs.Scopes.{Typ, Visible, Scope, deeper, own, IsVisible}
use Rattle.types.specs.Known.{Seen, Around}
use Rattle.types.specs.Typed.{owned_name}
use Rattle.types.specs.Outcomes.{got}
use Rattle.types.specs.Names.{seen, free, fresh, added}
use Rattle.types.specs.Statements.{inside, declared}
use Rattle.types.specs.Agrees.{visible_at, scope_onto, scope_of}

-- no visible variable is declared further in
abbrev pub Below : ℕ → List Seen → Type 0
Below d [] = Unit {0}
Below d (k ∷ ks) = (k.depth ≤ d) × Below d ks

abbrev pub Inside : Around → Type 0
Inside g = Below g.depth g.names

below_more : (d : ℕ) (ks : List Seen) → Below d ks → Below (d + 1) ks
below_more d [] all = tt
below_more d (k ∷ ks) all = let low = all.0 in (omega arith, below_more d ks all.1)

below_last : (d : ℕ) (ks : List Seen) (k : Seen) → Below d ks → k.depth ≤ d → Below d (ks ++ k ∷ [])
below_last d [] k all low = (low, tt)
below_last d (x ∷ xs) k all low = (all.0, below_last d xs k all.1 low)

pub inside_more : (g : Around) → Inside g → Inside (inside g)
inside_more g all = below_more g.depth g.names all

pub inside_added : (g : Around) (w : Word) (what : Binding) (τ : Typ) → Inside g → Inside (added g w what τ)
inside_added g w what τ all = below_last g.depth g.names (record { text = w.text; depth = g.depth; what = what; of = τ }) all (omega arith)

-- a variable that is declared in a block
abbrev pub owned : Word → Binding → Typ → Visible
owned w what τ = record { text = w.text; refers_to = record { up = 0; what = owned_name what }; type = τ }

scope_last : (d : ℕ) (ks : List Seen) (k : Seen) (g : Scope) → scope_onto d (ks ++ k ∷ []) g ≡ visible_at d k ∷ scope_onto d ks g
scope_last d [] k g = refl
scope_last d (x ∷ xs) k g = scope_last d xs k (visible_at d x ∷ g)

abbrev at_up : Word → Binding → Typ → Scope → ℕ → Scope
at_up w what τ g n = record { text = w.text; refers_to = record { up = n; what = owned_name what }; type = τ } ∷ g

pub scope_added : (g : Around) (w : Word) (what : Binding) (τ : Typ) → scope_of (added g w what τ) ≡ owned w what τ ∷ scope_of g
scope_added g w what τ =
    let here : g.depth - g.depth ≡ 0 = omega arith in
    scope_last g.depth g.names (record { text = w.text; depth = g.depth; what = what; of = τ }) [] ∙ ap (at_up w what τ (scope_of g)) here

pub scope_declared : (g : Around) (w : Word) (τ : Typ) → scope_of (declared g w τ) ≡ own w τ ∷ scope_of g
scope_declared g w τ = scope_added g w (Local w.number) τ

abbrev seen_from : Seen → Scope → ℕ → Scope
seen_from k g n = record { text = k.text; refers_to = record { up = n; what = owned_name k.what }; type = k.of } ∷ g

deeper_onto : (d : ℕ) (ks : List Seen) (g : Scope) → Below d ks → scope_onto (d + 1) ks (deeper g) ≡ deeper (scope_onto d ks g)
deeper_onto d [] g all = refl
deeper_onto d (k ∷ ks) g all =
    let low = all.0 in
    let up : d + 1 - k.depth ≡ suc (d - k.depth) = omega arith in
    ap (λ (h : Scope). scope_onto (d + 1) ks h) (ap (seen_from k (deeper g)) up) ∙ deeper_onto d ks (visible_at d k ∷ g) all.1

pub scope_inside : (g : Around) → Inside g → scope_of (inside g) ≡ deeper (scope_of g)
scope_inside g all = deeper_onto g.depth g.names [] all

-- NAMES THAT ARE NOT VISIBLE

pub none_first : (v : Visible) (g : Scope) (letters : List ℕ) → ¬ (v.text ≡ letters) → ¬ IsVisible g letters → ¬ IsVisible (v ∷ g) letters
none_first v g letters other none it =
    elim (split_in it.1) [ inl e ↦ other (ap (λ (x : Visible). x.text) (sym e) ∙ it.2) | inr m ↦ none (it.0, m, it.2) ]

pub other_text : (a b : List ℕ) → bytes_eq a b ≡ false → ¬ (a ≡ b)
other_text a b other same = let it : bytes_eq a b ≡ true = (bytes_eq-Decides a b).1 same in absurd (cc)

pub unseen_onto : (d : ℕ) (ks : List Seen) (g : Scope) (letters : List ℕ) → seen ks letters ≡ None → ¬ IsVisible g letters → ¬ IsVisible (scope_onto d ks g) letters
unseen_onto d [] g letters none here = here
unseen_onto d (k ∷ ks) g letters none here =
    elim (bytes_eq k.text letters) as (λ b. bytes_eq k.text letters ≡ b → cond b (Some k) (seen ks letters) ≡ None → ¬ IsVisible (scope_onto d (k ∷ ks) g) letters) [
      | true ↦ λ same is. absurd (cc)
      | false ↦ λ other is. unseen_onto d ks (visible_at d k ∷ g) letters is (none_first (visible_at d k) g letters (other_text k.text letters other) here)
    ] refl none

pub none_visible : (letters : List ℕ) → ¬ IsVisible [] letters
none_visible letters it = elim it.1 [ ]

pub fresh_got : (g : Around) (w : Word) (s s' : List NameEntry) → fresh g w s ≡ got (tt {0}) s' → (¬ IsVisible (scope_of g) w.text) × (s ≡ s')
fresh_got g w s s' is =
    elim (seen g.names w.text) as (λ o. seen g.names w.text ≡ o → free w o s ≡ got (tt {0}) s' → (¬ IsVisible (scope_of g) w.text) × (s ≡ s')) [
      | None ↦ λ none here. (unseen_onto g.depth g.names [] w.text none (none_visible w.text), cc)
      | Some k ↦ λ some here. absurd (cc)
    ] refl is
