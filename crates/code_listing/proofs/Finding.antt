-- What a source map gains from the parts of a flow, one after another.
use denote.Bor.{Bor}
use Rattle.std.proofs.Common.{rules, arith, ◌≡◌, Bool, false, cond, nat_eq, sym, ap, ◌∙◌, refl, subst, ℕ, zero, suc, ◌+◌, ◌<◌, List, [], ◌∷◌, ◌++◌, length, drop, map, get_or, append-nil, append_assoc, Option}
use Rattle.std.specs.Prelude.{Vec, Box, option_map}
use Rattle.std.proofs.Math.Dec.{eqb-zero-suc, eqb-suc-zero, eqb-suc-suc}
use Rattle.std.proofs.Math.ListN.{set}
use Rattle.std.proofs.lemmas.List.{drop_more}
use Rattle.flow.specs.declared.name.Name.{Name}
use Rattle.flow.specs.declared.cell.OuterCell.{OuterCell}
use Rattle.flow.specs.declared.statement.Action.{Action, Choose, Each, Range, Wait, When, the_lemmas}
use Rattle.flow.specs.declared.statement.Block.{Block, out-Block}
use Rattle.flow.specs.declared.statement.Header.{Header}
use Rattle.flow.specs.declared.statement.Range.{Range as Ranged}
use Rattle.flow.specs.declared.statement.Statement.{Statement, out-Statement}
use Rattle.flow.specs.declared.statement.Variable.{Variable}
use Rattle.flow.specs.declared.script.Function.{Function}
use Rattle.code_listing.specs.declared.source_map.BodyInfo.{BodyInfo}
use Rattle.code_listing.specs.declared.source_map.BodyKind.TheVariants as Of
use Rattle.code_listing.specs.declared.source_map.SourceMap.{SourceMap}
use Rattle.code_listing.specs.Blocks.{Inside, Named, blocks_among, choosing, functions_inner, functions_names, functions_roots, in_action, in_block, in_statement, info, looping, name_among, named, names_among, opening}
use Rattle.code_listing.specs.Finding.{Gains}
use Rattle.code_listing.specs.Labels.{name_in, name_of}

-- NAMES

pub among_joins : (before : List ℕ) (xs ys : List Named) (n : ℕ) → name_among before (xs ++ ys) n ≡ name_among (name_among before xs n) ys n
among_joins before [] ys n = refl
among_joins before (x ∷ xs) ys n = among_joins (cond (nat_eq x.node n) x.name before) xs ys n

-- a name was put at a number
pub named_put : (v : Bor (List ℕ)) (xs : List (Bor (List ℕ))) (n k : ℕ) → n < length xs → name_in (set xs n v) k ≡ cond (nat_eq n k) v.now (name_in xs k)
named_put v [] n k below = absurd (omega (arith, below))
named_put v (x ∷ xs) zero zero below = refl
named_put v (x ∷ xs) zero (suc k) below = ap (λ (b : Bool). cond b v.now (name_in xs k)) (sym (eqb-zero-suc k))
named_put v (x ∷ xs) (suc n) zero below = ap (λ (b : Bool). cond b v.now x.now) (sym (eqb-suc-zero n))
named_put v (x ∷ xs) (suc n) (suc k) below = named_put v xs n k (omega (arith, below)) ∙ ap (λ (b : Bool). cond b v.now (name_in xs k)) (sym (eqb-suc-suc n k))

at_end : (v : Bor (List ℕ)) (xs : List (Bor (List ℕ))) (k : ℕ) → name_in (xs ++ v ∷ []) k ≡ cond (nat_eq (length xs) k) v.now (name_in xs k)
at_end v [] zero = refl
at_end v [] (suc k) = ap (λ (b : Bool). cond b v.now []) (sym (eqb-zero-suc k))
at_end v (x ∷ xs) zero = ap (λ (b : Bool). cond b v.now x.now) (sym (eqb-suc-zero (length xs)))
at_end v (x ∷ xs) (suc k) = at_end v xs k ∙ ap (λ (b : Bool). cond b v.now (name_in xs k)) (sym (eqb-suc-suc (length xs) k))

-- and one was added at the end
pub named_added : (v : Bor (List ℕ)) (xs ys : List (Bor (List ℕ))) (n k : ℕ) → length xs ≡ n → ys ≡ xs ++ v ∷ [] → name_in ys k ≡ cond (nat_eq n k) v.now (name_in xs k)
named_added v xs ys n k many adds =
    ap (λ (zs : List (Bor (List ℕ))). name_in zs k) adds ∙ at_end v xs k ∙ ap (λ (m : ℕ). cond (nat_eq m k) v.now (name_in xs k)) many

unseen : (v : Bor (List ℕ)) → v.now ≡ [] → (xs : List (Bor (List ℕ))) (k : ℕ) → name_in (xs ++ v ∷ []) k ≡ name_in xs k
unseen v none [] zero = none
unseen v none [] (suc k) = refl
unseen v none (x ∷ xs) zero = refl
unseen v none (x ∷ xs) (suc k) = unseen v none xs k

-- an empty name is seen as none
pub named_padded : (xs ys : List (Bor (List ℕ))) (v : Bor (List ℕ)) (k : ℕ) → v.now ≡ [] → ys ≡ xs ++ v ∷ [] → name_in ys k ≡ name_in xs k
named_padded xs ys v k none adds = ap (λ (zs : List (Bor (List ℕ))). name_in zs k) adds ∙ unseen v none xs k

-- PARTS

pub gains_none : (a : SourceMap) → Gains a a [] [] []
gains_none a h = record { whole = h; first = sym (append-nil a.roots.items); later = sym (append-nil a.inner.items); naming = λ n. refl }

pub gains_more : (a b c : SourceMap) (r s i j : List BodyInfo) (xs ys : List Named) → Gains a b r i xs → Gains b c s j ys → Gains a c (r ++ s) (i ++ j) (xs ++ ys)
gains_more a b c r s i j xs ys p q h =
    let y = q h in
    let x = p y.whole in
    record {
      whole = x.whole;
      first = y.first ∙ ap (λ (z : List BodyInfo). z ++ s) x.first ∙ append_assoc a.roots.items r s;
      later = y.later ∙ ap (λ (z : List BodyInfo). z ++ j) x.later ∙ append_assoc a.inner.items i j;
      naming = λ n. y.naming n ∙ ap (λ (z : List ℕ). name_among z ys n) (x.naming n) ∙ sym (among_joins (name_of a n) xs ys n);
    }

pub gains_same : (a b : SourceMap) (r s i j : List BodyInfo) (xs ys : List Named) → r ≡ s → i ≡ j → xs ≡ ys → Gains a b r i xs → Gains a b s j ys
gains_same a b r s i j xs ys e f g p h =
    let x = p h in
    record {
      whole = x.whole;
      first = x.first ∙ ap (λ (z : List BodyInfo). a.roots.items ++ z) e;
      later = x.later ∙ ap (λ (z : List BodyInfo). a.inner.items ++ z) f;
      naming = λ n. x.naming n ∙ ap (λ (z : List Named). name_among (name_of a n) z n) g;
    }

-- what is still to be gained of a whole
pub record Lacking (old new : SourceMap) (R I r i : List BodyInfo) (N ns : List Named) : Type 0 where
  pub whole : old.lacks ≡ false
  pub first : new.roots.items ++ r ≡ old.roots.items ++ R
  pub later : new.inner.items ++ i ≡ old.inner.items ++ I
  pub naming : (n : ℕ) → name_among (name_of new n) ns n ≡ name_among (name_of old n) N n

abbrev pub Lacks : (old new : SourceMap) (R I r i : List BodyInfo) (N ns : List Named) → Type 0
Lacks old new R I r i N ns = new.lacks ≡ false → Lacking old new R I r i N ns

pub lacks_all : (a : SourceMap) (R I : List BodyInfo) (N : List Named) → Lacks a a R I R I N N
lacks_all a R I N h = record { whole = h; first = refl; later = refl; naming = λ n. refl }

pub lacks_less : (a b c : SourceMap) (R I s r j i : List BodyInfo) (N ys ns : List Named) → Lacks a b R I (s ++ r) (j ++ i) N (ys ++ ns) → Gains b c s j ys → Lacks a c R I r i N ns
lacks_less a b c R I s r j i N ys ns p q h =
    let y = q h in
    let x = p y.whole in
    record {
      whole = x.whole;
      first = ap (λ (z : List BodyInfo). z ++ r) y.first ∙ append_assoc b.roots.items s r ∙ x.first;
      later = ap (λ (z : List BodyInfo). z ++ i) y.later ∙ append_assoc b.inner.items j i ∙ x.later;
      naming = λ n. ap (λ (z : List ℕ). name_among z ns n) (y.naming n) ∙ sym (among_joins (name_of b n) ys ns n) ∙ x.naming n;
    }

pub lacks_none : (a b : SourceMap) (R I : List BodyInfo) (N : List Named) → Lacks a b R I [] [] N [] → Gains a b R I N
lacks_none a b R I N p h =
    let x = p h in
    record { whole = x.whole; first = sym (append-nil b.roots.items) ∙ x.first; later = sym (append-nil b.inner.items) ∙ x.later; naming = x.naming }

-- FORMS

pub of_block : (A : Type 0) (b : Block A) → in_block b ≡ record { from = (out-Block A b).from; blocks = blocks_among (map in_statement (out-Block A b).statements.items); names = names_among (map in_statement (out-Block A b).statements.items) }
of_block A b = search (rules, the_lemmas)

pub of_statement : (A : Type 0) (s : Statement A) → in_statement s ≡ in_action (out-Statement A s).action
of_statement A s = search (rules, the_lemmas)

pub of_when : {A : Type 0} (c : Box (OuterCell A) A) (b : Box (Block A) A) → in_action (When c b) ≡ opening Of.Then (in_block b.value)
of_when c b = search (rules, the_lemmas)

pub of_choose : {A : Type 0} (c : Box (OuterCell A) A) (b d : Box (Block A) A) → in_action (Choose c b d) ≡ choosing (in_block b.value) (in_block d.value)
of_choose c b d = search (rules, the_lemmas)

pub of_range : {A : Type 0} (r : Box (Ranged A) A) (v : Variable A) (k : Option (Variable A)) (b : Box (Block A) A)
    → in_action (Range r v k b) ≡ looping (named v) (option_map named k) (in_block b.value)
of_range r v k b = search (rules, the_lemmas)

pub of_each : {A : Type 0} (x : Name) (v : Variable A) (k : Option (Variable A)) (b : Box (Block A) A)
    → in_action (Each x v k b) ≡ looping (named v) (option_map named k) (in_block b.value)
of_each x v k b = search (rules, the_lemmas)

pub of_wait : {A : Type 0} (ns : Vec Name A) (hs : Vec (Header A) A) (b : Box (Block A) A) → in_action (Wait ns hs b) ≡ opening Of.Wait (in_block b.value)
of_wait ns hs b = search (rules, the_lemmas)

-- STEPS

pub choose_gained : {A : Type 0} (a b c d e : SourceMap) (f : ℕ) (act : Action A) (test : Box (OuterCell A) A) (t o : Box (Block A) A) (x y z w : Block A)
    → act ≡ Choose test t o → x ≡ t.value → y ≡ o.value → z ≡ t.value → w ≡ o.value
    → Gains a b [] ((in_block x).blocks f) (in_block x).names → Gains b c [] ((in_block y).blocks f) (in_block y).names
    → Gains c d [] (info Of.Then (out-Block A z).from f ∷ []) [] → Gains d e [] (info Of.Else (out-Block A w).from f ∷ []) []
    → Gains a e [] ((in_action act).blocks f) (in_action act).names
choose_gained {A} a b c d e f act test t o x y z w is ex ey ez ew p q r s =
    let first = (in_block t.value).blocks f in
    let second = (in_block o.value).blocks f in
    let names = (in_block t.value).names ++ (in_block o.value).names in
    let then_at : (out-Block A z).from ≡ (in_block t.value).from = ap (λ (k : Block A). (out-Block A k).from) ez ∙ sym (ap (λ (k : Inside). k.from) (of_block A t.value)) in
    let else_at : (out-Block A w).from ≡ (in_block o.value).from = ap (λ (k : Block A). (out-Block A k).from) ew ∙ sym (ap (λ (k : Inside). k.from) (of_block A o.value)) in
    let p1 = gains_same a b [] [] ((in_block x).blocks f) first (in_block x).names (in_block t.value).names refl (ap (λ (k : Block A). (in_block k).blocks f) ex) (ap (λ (k : Block A). (in_block k).names) ex) p in
    let q1 = gains_same b c [] [] ((in_block y).blocks f) second (in_block y).names (in_block o.value).names refl (ap (λ (k : Block A). (in_block k).blocks f) ey) (ap (λ (k : Block A). (in_block k).names) ey) q in
    let r1 = gains_same c d [] [] (info Of.Then (out-Block A z).from f ∷ []) (info Of.Then (in_block t.value).from f ∷ []) [] [] refl (ap (λ (k : ℕ). info Of.Then k f ∷ []) then_at) refl r in
    let s1 = gains_same d e [] [] (info Of.Else (out-Block A w).from f ∷ []) (info Of.Else (in_block o.value).from f ∷ []) [] [] refl (ap (λ (k : ℕ). info Of.Else k f ∷ []) else_at) refl s in
    let one = info Of.Then (in_block t.value).from f ∷ [] in
    let two = info Of.Else (in_block o.value).from f ∷ [] in
    let all = gains_more a d e [] [] ((first ++ second) ++ one) two (names ++ []) [] (gains_more a c d [] [] (first ++ second) one names [] (gains_more a b c [] [] first second (in_block t.value).names (in_block o.value).names p1 q1) r1) s1 in
    let form : in_action act ≡ choosing (in_block t.value) (in_block o.value) = ap (λ (k : Action A). in_action k) is ∙ of_choose test t o in
    gains_same a e [] [] (((first ++ second) ++ one) ++ two) ((in_action act).blocks f) ((names ++ []) ++ []) (in_action act).names refl
    (append_assoc (first ++ second) one two ∙ sym (ap (λ (k : Inside). k.blocks f) form))
    (append-nil (names ++ []) ∙ append-nil names ∙ sym (ap (λ (k : Inside). k.names) form)) all

pub statements_step : (A : Type 0) (a b c : SourceMap) (f : ℕ) (I : List BodyInfo) (N : List Named) (ss : List (Statement A)) (k : ℕ) (s : Statement A) → k < length ss → get_or ss k s ≡ s
    → Lacks a b [] I [] (blocks_among (map in_statement (drop k ss)) f) N (names_among (map in_statement (drop k ss)))
    → Gains b c [] ((in_statement s).blocks f) (in_statement s).names
    → Lacks a c [] I [] (blocks_among (map in_statement (drop (k + 1) ss)) f) N (names_among (map in_statement (drop (k + 1) ss)))
statements_step A a b c f I N ss k s l item p q =
    let rest = drop (k + 1) ss in
    let e : drop k ss ≡ s ∷ rest = drop_more ss k s l ∙ ap (λ (z : Statement A). z ∷ rest) item in
    let more : Lacks a b [] I [] (blocks_among (map in_statement (s ∷ rest)) f) N (names_among (map in_statement (s ∷ rest))) =
    subst (λ (z : List (Statement A)). Lacks a b [] I [] (blocks_among (map in_statement z) f) N (names_among (map in_statement z))) e p in
    lacks_less a b c [] I [] [] ((in_statement s).blocks f) (blocks_among (map in_statement rest) f) N (in_statement s).names (names_among (map in_statement rest)) more q

pub statements_end : (A : Type 0) (a b : SourceMap) (f : ℕ) (I : List BodyInfo) (N : List Named) (rest : List (Statement A)) → rest ≡ []
    → Lacks a b [] I [] (blocks_among (map in_statement rest) f) N (names_among (map in_statement rest)) → Gains a b [] I N
statements_end A a b f I N rest e p =
    lacks_none a b [] I N (subst (λ (z : List (Statement A)). Lacks a b [] I [] (blocks_among (map in_statement z) f) N (names_among (map in_statement z))) e p)

pub functions_step : (A : Type 0) (a b c : SourceMap) (R I : List BodyInfo) (N : List Named) (fs : List (Function A)) (k : ℕ) (f : Function A) → k < length fs → get_or fs k f ≡ f
    → Lacks a b R I (functions_roots (k + 1) (drop k fs)) (functions_inner (k + 1) (drop k fs)) N (functions_names (drop k fs))
    → Gains b c (info Of.Function (in_block f.body).from (k + 1) ∷ []) ((in_block f.body).blocks (k + 1)) (in_block f.body).names
    → Lacks a c R I (functions_roots (k + 1 + 1) (drop (k + 1) fs)) (functions_inner (k + 1 + 1) (drop (k + 1) fs)) N (functions_names (drop (k + 1) fs))
functions_step A a b c R I N fs k f l item p q =
    let rest = drop (k + 1) fs in
    let e : drop k fs ≡ f ∷ rest = drop_more fs k f l ∙ ap (λ (z : Function A). z ∷ rest) item in
    let more : Lacks a b R I (functions_roots (k + 1) (f ∷ rest)) (functions_inner (k + 1) (f ∷ rest)) N (functions_names (f ∷ rest)) =
    subst (λ (z : List (Function A)). Lacks a b R I (functions_roots (k + 1) z) (functions_inner (k + 1) z) N (functions_names z)) e p in
    lacks_less a b c R I (info Of.Function (in_block f.body).from (k + 1) ∷ []) (functions_roots (k + 1 + 1) rest) ((in_block f.body).blocks (k + 1)) (functions_inner (k + 1 + 1) rest) N (in_block f.body).names (functions_names rest) more q

pub functions_end : (A : Type 0) (a b : SourceMap) (k : ℕ) (R I : List BodyInfo) (N : List Named) (rest : List (Function A)) → rest ≡ []
    → Lacks a b R I (functions_roots k rest) (functions_inner k rest) N (functions_names rest) → Gains a b R I N
functions_end A a b k R I N rest e p =
    lacks_none a b R I N (subst (λ (z : List (Function A)). Lacks a b R I (functions_roots k z) (functions_inner k z) N (functions_names z)) e p)
