-- The visible variables along statements and behind blocks.
use Rattle.std.proofs.Common.{◌≡◌, ℕ, List, [], ◌∷◌, ◌++◌, take, map, length, refl, sym, ap, ap₂, ◌∙◌, subst, append_assoc}
use Rattle.std.proofs.Math.Seq.{take-append_seam}
use Rattle.std.proofs.lemmas.List.{append-nil, take-map, length-map}
use Rattle.types.specs.declared.typed.NameEntry.{NameEntry}
use Rattle.types.specs.declared.typed.Binding.{Binding}
use Rattle.types.specs.declared.typed.Binding.TheVariants.{Local}
use Rattle.language.specs.declared.tree.Base.TheVariants.{Int, Boolean}
use Rattle.language.specs.Tree.{Word, Statement, statement, Command, declare, assign, write, assign_all, calls, choice, choice_else, loop, waits}
use Rattle.language.specs.Scopes.{Typ, declared_type, Signature}
use Rattle.types.specs.Known.{Seen, Around}
use Rattle.types.specs.Outcomes.{Outcome, got, ◌>>=◌}
use Rattle.types.specs.Names.{refer, fresh, added}
use Rattle.types.specs.Expressions.{elements_of, expected}
use Rattle.types.specs.Statements.{right, initial, refer_all, several, call_alone, source, fresh_variables, inside, declared, loop_scope, stated, commanded, enclosed}
use Rattle.types.specs.Growth.{Grown}
use Rattle.types.proofs.accepted.Typing.{bind_got}

abbrev pub made : ℕ → List Seen → Around
made d ks = record { depth = d; names = ks }

pub grown_same : (g : Around) → Grown g g
grown_same g = record { depth = refl; later = []; names = sym (append-nil g.names) }

pub grown_more : {g h k : Around} → Grown g h → Grown h k → Grown g k
grown_more {g} {h} {k} one two = record {
  depth = two.depth ∙ one.depth;
  later = one.later ++ two.later;
  names = two.names ∙ ap (λ ks. ks ++ two.later) one.names ∙ append_assoc g.names one.later two.later;
}

pub grown_added : (g : Around) (w : Word) (what : Binding) (τ : Typ) → Grown g (added g w what τ)
grown_added g w what τ = record { depth = refl; later = record { text = w.text; depth = g.depth; what = what; of = τ } ∷ []; names = refl }

-- behind a block there is what there was before it
first_grown : {g h : Around} → Grown g h → made h.depth (take (length g.names) h.names) ≡ g
first_grown {g} {h} more = ap₂ made more.depth (ap (take (length g.names)) more.names ∙ take-append_seam g.names more.later)

-- the same, of variables that are seen
pub cut_back : {X : Type 0} (f : X → Seen) (d e n : ℕ) (xs ys zs : List X) → Grown (made d (map f xs)) (made e (map f ys)) → n ≡ length xs → zs ≡ take n ys → made e (map f zs) ≡ made d (map f xs)
cut_back f d e n xs ys zs more many cut =
    ap (λ (us : List _). made e (map f us)) cut
    ∙ ap (made e) (sym (take-map f n ys) ∙ ap (λ k. take k (map f ys)) (many ∙ sym (length-map xs f)))
    ∙ first_grown more

-- a check that leaves its scope as it was
same_grown : {A : Type 0} (o : Outcome A) (g h : Around) (s : List NameEntry) → (o >>= λ u. got g) ≡ got h s → Grown g h
same_grown o g h s is =
    let one = bind_got o (λ u. got g) h s is in
    let same : g ≡ h = cc in
    subst (Grown g) same (grown_same g)

commanded_grown : (fs : List Signature) (g h : Around) (c : Command) (s s' : List NameEntry) → commanded fs g c s ≡ got h s' → Grown g h
unfolding commanded
commanded_grown fs g h (declare d r) s s' is =
    let one = bind_got (fresh g d.name s) (λ u r'. initial fs (declared g d.name (declared_type d)) r (declared_type d) r' >>= λ u. got (declared g d.name (declared_type d))) h s' is in
    let two = bind_got (initial fs (declared g d.name (declared_type d)) r (declared_type d) one.1) (λ u. got (declared g d.name (declared_type d))) h s' one.3 in
    let same : declared g d.name (declared_type d) ≡ h = cc in
    subst (Grown g) same (grown_added g d.name (Local d.name.number) (declared_type d))
commanded_grown fs g h (assign w r) s s' is =
    let one = bind_got (refer g w s) (λ τ r'. right fs g r τ r' >>= λ u. got g) h s' is in
    same_grown (right fs g r one.0 one.1) g h s' one.3
commanded_grown fs g h (write w i e) s s' is =
    let one = bind_got (refer g w s >>= λ τ. elements_of τ w.span) (λ a r. expected fs g i a.key r >>= λ u r. expected fs g e a.value r >>= λ u. got g) h s' is in
    let two = bind_got (expected fs g i one.0.key one.1) (λ u r. expected fs g e one.0.value r >>= λ u. got g) h s' one.3 in
    same_grown (expected fs g e one.0.value two.1) g h s' two.3
commanded_grown fs g h (assign_all ws c) s s' is =
    let one = bind_got (refer_all g ws s) (λ τs r. several fs g c τs r >>= λ u. got g) h s' is in
    same_grown (several fs g c one.0 one.1) g h s' one.3
commanded_grown fs g h (calls p c) s s' is = same_grown (call_alone fs g c s) g h s' is
commanded_grown fs g h (choice e b) s s' is =
    let one = bind_got (expected fs g e Boolean s) (λ u r. enclosed fs (inside g) b r >>= λ u. got g) h s' is in
    same_grown (enclosed fs (inside g) b one.1) g h s' one.3
commanded_grown fs g h (choice_else e b d) s s' is =
    let one = bind_got (expected fs g e Boolean s) (λ u r. enclosed fs (inside g) b r >>= λ u r. enclosed fs (inside g) d r >>= λ u. got g) h s' is in
    let two = bind_got (enclosed fs (inside g) b one.1) (λ u r. enclosed fs (inside g) d r >>= λ u. got g) h s' one.3 in
    same_grown (enclosed fs (inside g) d two.1) g h s' two.3
commanded_grown fs g h (loop v k o b) s s' is =
    let one = bind_got (fresh_variables g v k s) (λ u r. source fs g o r >>= λ a r. enclosed fs (loop_scope g v k a) b r >>= λ u. got g) h s' is in
    let two = bind_got (source fs g o one.1) (λ a r. enclosed fs (loop_scope g v k a) b r >>= λ u. got g) h s' one.3 in
    same_grown (enclosed fs (loop_scope g v k two.0) b two.1) g h s' two.3
commanded_grown fs g h (waits ws b) s s' is =
    let one = bind_got (refer_all g ws s) (λ τs r. enclosed fs g b r >>= λ u. got g) h s' is in
    same_grown (enclosed fs g b one.1) g h s' one.3

-- a statement that is accepted adds to the scope
pub stated_grown : (fs : List Signature) (g h : Around) (st : Statement) (s s' : List NameEntry) → stated fs g st s ≡ got h s' → Grown g h
unfolding stated
stated_grown fs g h (statement nd c) s s' is = commanded_grown fs g h c s s' is
