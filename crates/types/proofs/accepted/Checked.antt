-- A script that the check accepts is well typed, for each table that says what was settled.
use Rattle.std.proofs.Common.{◌≡◌, ℕ, ◌+◌, ◌<◌, true, false, List, [], ◌∷◌, ◌++◌, length, refl, sym, ap, ap₂, ◌∙◌, subst, arith, inl, inr, append_assoc}
use Rattle.std.specs.Prelude.{Some, None, cond, nat_lt, suc}
use Rattle.std.proofs.lemmas.Bool.Decides.{Decides-ltb}
use Rattle.std.proofs.lemmas.List.{length-append}
use Rattle.std.specs.Str.{bytes_eq}
use Rattle.types.specs.declared.fault.TypeFault.TheVariants.{Declared}
use Rattle.types.specs.declared.typed.Binding.{Binding}
use Rattle.types.specs.declared.typed.Binding.TheVariants.{Input, Output}
use Rattle.types.specs.declared.typed.NameEntry.{NameEntry}
use Rattle.std.proofs.lemmas.Slice.Eq.{bytes_eq-Decides}
use Rattle.language.specs.Core as core
use Rattle.language.specs.Members.{◌∈◌}
use Rattle.language.proofs.Members.{split_in}
use Rattle.language.specs.Tree.{Word, Declaration, Composite, import, function, single, Tree}
use Rattle.language.specs.Table.{Table, strcat, fromint, toint, size, printf, assert}
use Rattle.language.specs.Table as table
use Rattle.language.specs.Scopes.{declared_type, Scope, Signature, signature_of, signatures, IsBuiltinName}
use Rattle.language.specs.Typing as rules
use Rattle.language.specs.Typing.{Parameters, FunctionTyped, PartsTyped, WellTyped}
use Rattle.types.specs.Known.{Around, nowhere}
use Rattle.types.specs.Typed.{owned_name}
use Rattle.types.specs.Outcomes.{refused, got, ◌>>=◌}
use Rattle.types.specs.Names.{fresh, added, builtin_of, missing, found, find, find_from}
use Rattle.types.specs.Statements.{stated, enclosed}
use Rattle.types.specs.Scripts.{parameters, name_by, name_of, function_checked, parts_checked}
use Rattle.types.specs.Agrees.{Agrees, scope_of}
use Rattle.types.specs.Accepted.{ScriptSound}
use Rattle.types.proofs.accepted.Typing.{bind_got}
use Rattle.types.proofs.accepted.Accepted.{kept}
use Rattle.types.proofs.visible.Sight.{Inside, inside_added, scope_added, fresh_got}
use Rattle.types.proofs.accepted.Stated.{stated_sound, enclosed_sound}

-- PARAMETERS

parameters_sound : (made : ℕ → Binding) (owned : ℕ → core.Owned) → ((i : ℕ) → owned_name (made i) ≡ owned i) → (g h : Around) (i : ℕ) (ds : List Declaration) (s s' : List NameEntry)
    → parameters made g i ds s ≡ got h s' → Inside g → Parameters owned (scope_of g) i ds (scope_of h) × (s ≡ s') × Inside h
parameters_sound made owned named g h i [] s s' is low =
    let same : g ≡ h = cc in
    (subst (λ (x : Around). Parameters owned (scope_of g) i [] (scope_of x)) same rules.no_more, cc, subst Inside same low)
parameters_sound made owned named g h i (d ∷ ds) s s' is low =
    let one = bind_got (fresh g d.name s) (λ u. parameters made (added g d.name (made i) (declared_type d)) (i + 1) ds) h s' is in
    let new = fresh_got g d.name s one.1 one.2 in
    let others = parameters_sound made owned named (added g d.name (made i) (declared_type d)) h (i + 1) ds one.1 s' one.3 (inside_added g d.name (made i) (declared_type d) low) in
    let next : i + 1 ≡ suc i = omega arith in
    let scope = scope_added g d.name (made i) (declared_type d) ∙ ap (λ (x : core.Owned). record { text = d.name.text; refers_to = record { up = 0; what = x }; type = declared_type d } ∷ scope_of g) (named i) in (
      rules.one_parameter new.0 (subst (λ (x : Scope). Parameters owned x (suc i) ds (scope_of h)) scope (subst (λ (n : ℕ). Parameters owned (scope_of (added g d.name (made i) (declared_type d))) n ds (scope_of h)) next others.0)),
      new.1 ∙ others.1,
      others.2,
    )

-- NAMES OF FUNCTIONS

-- each of the names is that of a function above
abbrev Above : List Signature → ℕ → List (List ℕ) → Type 0
Above fs above names = (x : List ℕ) → x ∈ names → (p : ℕ) × (f : Signature) × (find fs x ≡ found p f) × (p < above)

pub not_builtin : (x : List ℕ) → builtin_of x ≡ None → (b : table.Builtin) → ¬ (x ≡ table.builtin_text b)
not_builtin x none strcat is = absurd (cc (ap builtin_of is))
not_builtin x none fromint is = absurd (cc (ap builtin_of is))
not_builtin x none toint is = absurd (cc (ap builtin_of is))
not_builtin x none size is = absurd (cc (ap builtin_of is))
not_builtin x none printf is = absurd (cc (ap builtin_of is))
not_builtin x none assert is = absurd (cc (ap builtin_of is))

new_name : (fs : List Signature) (above : ℕ) (names : List (List ℕ)) (w : Word) (s s' : List NameEntry) → Above fs above names
    → name_by (find fs w.text) above w s ≡ got (tt {0}) s' → (¬ (w.text ∈ names)) × (s ≡ s')
new_name fs above names w s s' higher is =
    elim (find fs w.text) as (λ o. find fs w.text ≡ o → name_by o above w s ≡ got (tt {0}) s' → (¬ (w.text ∈ names)) × (s ≡ s')) [
      | missing ↦ λ none here. (λ m. let it = higher w.text m in absurd (cc (none, it.2)), cc)
      | found n f ↦ λ there here.
          elim (nat_lt n above) as (λ v. nat_lt n above ≡ v → cond v (refused (Declared w.span)) (got (tt {0}) s) ≡ got (tt {0}) s' → (¬ (w.text ∈ names)) × (s ≡ s')) [
            | true ↦ λ less here. absurd (cc)
            | false ↦ λ more here. (
              λ m.
                  let it = higher w.text m in
                  let same : found n f ≡ found it.0 it.1 = sym there ∙ it.2 in
                  let place : n ≡ it.0 = cc in
                  let below : n < above = subst (λ (k : ℕ). k < above) (sym place) it.3 in
                  let less : nat_lt n above ≡ true = (Decides-ltb n above).1 below in
                  absurd (cc),
              cc,
            )
          ] refl here
    ] refl is

name_sound : (fs : List Signature) (above : ℕ) (names : List (List ℕ)) (w : Word) (s s' : List NameEntry) → Above fs above names
    → name_of (builtin_of w.text) fs above w s ≡ got (tt {0}) s' → (¬ (w.text ∈ names)) × (¬ IsBuiltinName w.text) × (s ≡ s')
name_sound fs above names w s s' higher is =
    elim (builtin_of w.text) as (λ o. builtin_of w.text ≡ o → name_of o fs above w s ≡ got (tt {0}) s' → (¬ (w.text ∈ names)) × (¬ IsBuiltinName w.text) × (s ≡ s')) [
      | None ↦ λ none here. let new = new_name fs above names w s s' higher here in (new.0, λ b. not_builtin w.text none b.0 b.1, new.1)
      | Some b ↦ λ some here. absurd (cc)
    ] refl is

same_bytes : (x : List ℕ) → bytes_eq x x ≡ true
same_bytes x = (bytes_eq-Decides x x).1 refl

-- the first function of a name is no further down than one of that name
find_upto : (n : ℕ) (pre : List Signature) (f : Signature) (rest : List Signature) → (p : ℕ) × (x : Signature) × (find_from n (pre ++ f ∷ rest) f.text ≡ found p x) × (p < n + length pre + 1)
find_upto n [] f rest = (n, f, ap (λ b. cond b (found n f) (find_from (n + 1) rest f.text)) (same_bytes f.text), omega arith)
find_upto n (x ∷ xs) f rest =
    elim (bytes_eq x.text f.text) as (λ b. bytes_eq x.text f.text ≡ b → (p : ℕ) × (y : Signature) × (find_from n ((x ∷ xs) ++ f ∷ rest) f.text ≡ found p y) × (p < n + length (x ∷ xs) + 1)) [
      | true ↦ λ same. (n, x, ap (λ b. cond b (found n x) (find_from (n + 1) (xs ++ f ∷ rest) f.text)) same, omega arith)
      | false ↦ λ other.
          let it = find_upto (n + 1) xs f rest in
          let below = it.3 in
          (it.0, it.1, ap (λ b. cond b (found n x) (find_from (n + 1) (xs ++ f ∷ rest) f.text)) other ∙ it.2, omega arith)
    ] refl

above_more : (fs : List Signature) (above : ℕ) (names : List (List ℕ)) (pre : List Signature) (f : Signature) (rest : List Signature)
    → fs ≡ pre ++ f ∷ rest → above ≡ length pre → Above fs above names → Above fs (above + 1) (f.text ∷ names)
above_more fs above names pre f rest is many higher x m =
    elim (split_in m) [
      | inl e ↦
          let it = find_upto 0 pre f rest in
          let below = it.3 in
          (it.0, it.1, ap₂ find is e ∙ it.2, omega arith)
      | inr h ↦
          let it = higher x h in
          let below = it.3 in
          (it.0, it.1, it.2, omega arith)
    ]

-- FUNCTIONS AND SCRIPTS

function_sound : (fs : List Signature) (above : ℕ) (names : List (List ℕ)) (t : Table) (f : Composite) (s s' : List NameEntry) → Above fs above names
    → function_checked fs above f s ≡ got (tt {0}) s' → Agrees t s' → Agrees t s × FunctionTyped fs t names f
function_sound fs above names t f s s' higher is all =
    let one = bind_got (parameters Output nowhere 0 f.outputs s) (λ g r. name_of (builtin_of f.name.text) fs above f.name r >>= λ u r. parameters Input g 0 f.inputs r >>= λ h. enclosed fs h f.body) (tt {0}) s' is in
    let two = bind_got (name_of (builtin_of f.name.text) fs above f.name one.1) (λ u r. parameters Input one.0 0 f.inputs r >>= λ h. enclosed fs h f.body) (tt {0}) s' one.3 in
    let three = bind_got (parameters Input one.0 0 f.inputs two.1) (λ h. enclosed fs h f.body) (tt {0}) s' two.3 in
    let outs = parameters_sound Output core.output (λ i. refl) nowhere one.0 0 f.outputs s one.1 one.2 tt in
    let name = name_sound fs above names f.name one.1 two.1 higher two.2 in
    let ins = parameters_sound Input core.input (λ i. refl) one.0 three.0 0 f.inputs two.1 three.1 three.2 outs.2 in
    let content = enclosed_sound fs three.0 t f.body three.1 s' ins.2 three.3 all in
    (kept t s three.1 (outs.1 ∙ name.2 ∙ ins.1) content.0, rules.function_typed name.0 name.1 outs.0 ins.0 content.1)

parts_sound : (fs : List Signature) (above : ℕ) (names : List (List ℕ)) (t : Table) (g : Around) (pre : List Signature) (ps : Tree) (s s' : List NameEntry)
    → fs ≡ pre ++ signatures ps → above ≡ length pre → Above fs above names → Inside g
    → parts_checked fs above g ps s ≡ got (tt {0}) s' → Agrees t s' → Agrees t s × PartsTyped fs t names (scope_of g) ps
parts_sound fs above names t g pre [] s s' these many higher low is all = (kept t s s' (cc) all, rules.no_parts)
parts_sound fs above names t g pre (import sp ∷ ps) s s' these many higher low is all =
    let others = parts_sound fs above names t g pre ps s s' these many higher low is all in
    (others.0, rules.an_import others.1)
parts_sound fs above names t g pre (function f ∷ ps) s s' these many higher low is all =
    let one = bind_got (function_checked fs above f s) (λ u. parts_checked fs (above + 1) g ps) (tt {0}) s' is in
    let next = these ∙ sym (append_assoc pre (signature_of f ∷ []) (signatures ps)) in
    let more : above + 1 ≡ length (pre ++ signature_of f ∷ []) = ap (λ (n : ℕ). n + 1) many ∙ sym (length-append pre (signature_of f ∷ [])) in
    let others = parts_sound fs (above + 1) (f.name.text ∷ names) t g (pre ++ signature_of f ∷ []) ps one.1 s' next more (above_more fs above names pre (signature_of f) (signatures ps) these many higher) low one.3 all in
    let has = function_sound fs above names t f s one.1 higher one.2 others.0 in
    (has.0, rules.a_function has.1 others.1)
parts_sound fs above names t g pre (single st ∷ ps) s s' these many higher low is all =
    let one = bind_got (stated fs g st s) (λ h. parts_checked fs above h ps) (tt {0}) s' is in
    let sound = stated_sound fs g one.0 t st s one.1 low one.2 in
    let others = parts_sound fs above names t one.0 pre ps one.1 s' these many higher sound.0 one.3 all in
    let has = sound.1 others.0 in
    (has.0, rules.a_statement has.1 others.1)

pub script_sound : ScriptSound
script_sound tree t s is all =
    (parts_sound (signatures tree) 0 [] t nowhere [] tree [] s refl refl (λ x m. elim m [ ]) tt is all).1
