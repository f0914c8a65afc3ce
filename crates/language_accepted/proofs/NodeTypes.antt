-- Types for numbers of a tree, each number at most as often as it stands there, and what follows for every choice of types that agrees.
use Rattle.std.specs.Prelude.{◌≡◌, ℕ, ◌+◌, ◌≤◌, Bool, true, false, List, [], ◌∷◌, ◌++◌, nat_eq, cond, refl}
use Rattle.std.proofs.Common.{inl, inr, sym, ap, ◌∙◌, subst, arith}
use Rattle.std.proofs.lemmas.Bool.{eqb-true}
use Rattle.language.specs.declared.tree.Base.TheVariants.{Int}
use Rattle.language.specs.Members.{◌∈◌, first, later}
use Rattle.language.specs.Scopes.{Typ, one_of}
use Rattle.language.proofs.Members.{split_in}
use Rattle.language.proofs.Tested.{self_eq}
use Rattle.language.proofs.TreeNumbers.{hit, hit_self, times, times-append}

pub record NodeType : Type 0 where
  pub node : ℕ
  pub type : Typ

-- how often a number has a type
abbrev pub tally : ℕ → List NodeType → ℕ
tally n [] = 0
tally n (x ∷ xs) = hit n x.node + tally n xs

tally-append : (n : ℕ) (xs ys : List NodeType) → tally n (xs ++ ys) ≡ tally n xs + tally n ys
tally-append n [] ys = omega arith
tally-append n (x ∷ xs) ys = let e = tally-append n xs ys in omega arith

abbrev pub Agrees : (ℕ → Typ) → List NodeType → Type 0
Agrees type_of xs = (x : NodeType) → x ∈ xs → type_of x.node ≡ x.type

left_in : {x : NodeType} (xs ys : List NodeType) → x ∈ xs → x ∈ (xs ++ ys)
left_in [] ys m = elim m [ ]
left_in (x ∷ xs) ys first = first
left_in (y ∷ xs) ys (later m) = later (left_in xs ys m)

right_in : {x : NodeType} (xs ys : List NodeType) → x ∈ ys → x ∈ (xs ++ ys)
right_in [] ys m = m
right_in (y ∷ xs) ys m = later (right_in xs ys m)

pub record NodesTyped (numbers : List ℕ) (P : (ℕ → Typ) → Type 0) : Type 0 where
  pub types : List NodeType
  pub few : (n : ℕ) → tally n types ≤ times n numbers
  pub holds : (type_of : ℕ → Typ) → Agrees type_of types → P type_of

pub always : {P : (ℕ → Typ) → Type 0} → ((type_of : ℕ → Typ) → P type_of) → NodesTyped [] P
always h = record { types = []; few = λ n. omega arith; holds = λ type_of a. h type_of }

-- no number
pub nothing : NodesTyped [] (λ type_of. Unit {0})
nothing = always (λ type_of. tt)

pub joined : {ns ms : List ℕ} {P Q : (ℕ → Typ) → Type 0} → NodesTyped ns P → NodesTyped ms Q → NodesTyped (ns ++ ms) (λ type_of. P type_of × Q type_of)
joined {ns} {ms} a b = record {
  types = a.types ++ b.types;
  few = λ n. (let x = tally-append n a.types b.types in let y = times-append n ns ms in let p = a.few n in let q = b.few n in omega arith);
  holds = λ type_of h. (a.holds type_of (λ x m. h x (left_in a.types b.types m)), b.holds type_of (λ x m. h x (right_in a.types b.types m)));
}

-- a further number, with its type
pub noted : (n : ℕ) (τ : Typ) {ns : List ℕ} {P : (ℕ → Typ) → Type 0} → NodesTyped ns P → NodesTyped (n ∷ ns) (λ type_of. (type_of n ≡ τ) × P type_of)
noted n τ {ns} a = record {
  types = record { node = n; type = τ } ∷ a.types;
  few = λ m. (let p = a.few m in omega arith);
  holds = λ type_of h. (h (record { node = n; type = τ }) first, a.holds type_of (λ x m. h x (later m)));
}

-- or without one
pub passed : (n : ℕ) {ns : List ℕ} {P : (ℕ → Typ) → Type 0} → NodesTyped ns P → NodesTyped (n ∷ ns) P
passed n {ns} a = record { types = a.types; few = λ m. (let p = a.few m in omega arith); holds = a.holds }

pub all_passed : (ms : List ℕ) {ns : List ℕ} {P : (ℕ → Typ) → Type 0} → NodesTyped ns P → NodesTyped (ms ++ ns) P
all_passed [] a = a
all_passed (m ∷ ms) a = passed m (all_passed ms a)

pub and_so : {ns : List ℕ} {P Q : (ℕ → Typ) → Type 0} → NodesTyped ns P → ((type_of : ℕ → Typ) → P type_of → Q type_of) → NodesTyped ns Q
and_so a h = record { types = a.types; few = a.few; holds = λ type_of g. h type_of (a.holds type_of g) }

-- where no number stands twice, there are such types
abbrev pub type_in : List NodeType → ℕ → Typ
type_in [] n = one_of Int
type_in (x ∷ xs) n = cond (nat_eq n x.node) x.type (type_in xs n)

in_tally : (x : NodeType) (xs : List NodeType) → x ∈ xs → 1 ≤ tally x.node xs
in_tally x [] m = elim m [ ]
in_tally x (y ∷ ys) m = elim (split_in m) [
  | inl e ↦ (let h = hit_self x.node in let q : hit x.node y.node ≡ hit x.node x.node = ap (λ (z : NodeType). hit x.node z.node) (sym e) in omega arith)
  | inr i ↦ (let r = in_tally x ys i in omega arith)
]

agree : (xs : List NodeType) → ((n : ℕ) → tally n xs ≤ 1) → Agrees (type_in xs) xs
agree [] few x m = elim m [ ]
agree (y ∷ ys) few x m = elim (split_in m) [
  | inl e ↦ here e
  | inr i ↦ behind i (agree ys (λ n. (let f = few n in omega arith)) x i) (nat_eq x.node y.node) refl
]
  where
    here : x ≡ y → type_in (y ∷ ys) x.node ≡ x.type
    here e = subst (λ (z : NodeType). type_in (z ∷ ys) x.node ≡ x.type) e (ap (λ (b : Bool). cond b x.type (type_in ys x.node)) (self_eq x.node))

    behind : x ∈ ys → type_in ys x.node ≡ x.type → (b : Bool) → nat_eq x.node y.node ≡ b → type_in (y ∷ ys) x.node ≡ x.type
    behind i rec true e =
        let same : x.node ≡ y.node = eqb-true x.node y.node e in
        let h = hit_self x.node in
        let q : hit x.node y.node ≡ hit x.node x.node = ap (λ (z : ℕ). hit x.node z) (sym same) in
        let r = in_tally x ys i in
        let f = few x.node in
        absurd (omega arith)
    behind i rec false e = ap (λ (b : Bool). cond b y.type (type_in ys x.node)) e ∙ rec

pub there_are : {ns : List ℕ} {P : (ℕ → Typ) → Type 0} → NodesTyped ns P → ((n : ℕ) → times n ns ≤ 1) → (type_of : ℕ → Typ) × P type_of
there_are a few = (type_in a.types, a.holds (type_in a.types) (agree a.types (λ n. (let f = few n in let g = a.few n in omega arith))))
