-- What a listing shows of statements, one after another.
use Rattle.std.proofs.Common.{rules, ◌≡◌, ℕ, List, [], ◌∷◌, ◌++◌, Option, Some, None, option_map, Result, Ok, Err, refl, sym, ap, ap₂, ◌∙◌, append_assoc}
use Rattle.std.specs.Prelude.{IfOk, IsOkAnd, Box}
use Rattle.std.proofs.lemmas.List.{append-nil}
use Rattle.language.specs.Tree as T
use Rattle.language.specs.Tree.{Composite, Declaration, RightSide, Statement, Command, Part, Tree, import, function, single}
use Rattle.flow.specs.declared.statement.Block.{Block}
use Rattle.flow.specs.declared.statement.Range.{Range}
use Rattle.flow.specs.declared.statement.Variable.{Variable}
use Rattle.flow.specs.declared.name.Name.{Name}
use Rattle.flow.specs.declared.statement.Action.{Action, Declare, Each, Range as RangeOf, the_lemmas}
use Rattle.flow.specs.Listed.{Declared, declared, declares, Shown, Listed, other, looping, function_of, action_listed, block_listed}
use Rattle.lowering.specs.View.{variable_of}
use Rattle.lowering.specs.Listed.{listed, command_listed, all_listed, own_listed, composite_shown, composites_shown}

-- STATEMENTS

pub declare_shown : {A : Type 0} → (v : Variable A) → action_listed (Declare v) ≡ other (declares (declared v) ∷ [])
declare_shown v = search (rules, the_lemmas)

pub range_shown : {A : Type 0} → (r : Box (Range A) A) (v : Variable A) (k : Option (Variable A)) (b : Box (Block A) A) → action_listed (RangeOf r v k b) ≡ looping (declared v) (option_map declared k) (block_listed b.value)
range_shown r v k b = search (rules, the_lemmas)

pub each_shown : {A : Type 0} → (a : Name) (v : Variable A) (k : Option (Variable A)) (b : Box (Block A) A) → action_listed (Each a v k b) ≡ looping (declared v) (option_map declared k) (block_listed b.value)
each_shown a v k b = search (rules, the_lemmas)

pub same_loop : (v w : Declared) (k l : Option Declared) (b : Listed) → v ≡ w → k ≡ l → looping v k b ≡ looping w l b
same_loop v w k l b one key = ap₂ (λ (x : Declared) (y : Option Declared). looping x y b) one key

-- one statement for a form
pub lists_form : {A E : Type 0} (made : Result (Action A) E) (k k' : Command) (old now : List Listed) (l : Listed)
    → k ≡ k' → IfOk made (λ x. action_listed x ≡ l) → l ∷ [] ≡ command_listed k'
    → IsOkAnd made (λ x. now ≡ old ++ action_listed x ∷ []) → now ≡ old ++ command_listed k
lists_form (Ok x) k k' old now l is does same adds = adds ∙ ap (λ (m : Listed). old ++ m ∷ []) does ∙ ap (λ ms. old ++ ms) (same ∙ sym (ap command_listed is))
lists_form (Err e) k k' old now l is does same adds = absurd adds

-- a declaration alone, and one with its right side
pub declares_alone : (d : Declaration) (o : Option RightSide) (old now : List Listed) (l : Listed)
    → o ≡ None → now ≡ old ++ l ∷ [] → l ≡ other (declares (variable_of d) ∷ []) → now ≡ old ++ command_listed (T.declare d o)
declares_alone d o old now l none adds is =
    adds ∙ ap (λ (m : Listed). old ++ m ∷ []) is ∙ ap (λ (p : Option RightSide). old ++ command_listed (T.declare d p)) (sym none)

pub declares_both : (d : Declaration) (r : RightSide) (o : Option RightSide) (old mid now : List Listed) (l m : Listed)
    → o ≡ Some r → mid ≡ old ++ l ∷ [] → l ≡ other (declares (variable_of d) ∷ []) → now ≡ mid ++ m ∷ [] → m ≡ other [] → now ≡ old ++ command_listed (T.declare d o)
declares_both d r o old mid now l m some first is second nothing =
    second
    ∙ ap (λ (ls : List Listed). ls ++ m ∷ []) first
    ∙ append_assoc old (l ∷ []) (m ∷ [])
    ∙ ap₂ (λ (x y : Listed). old ++ x ∷ y ∷ []) is nothing
    ∙ ap (λ (p : Option RightSide). old ++ command_listed (T.declare d p)) (sym some)

pub listed_next : (s : Statement) (ss : List Statement) → all_listed (s ∷ ss) ≡ listed s ++ all_listed ss
listed_next s ss = refl

-- SCRIPTS

pub own_next : (p : Part) (ps : Tree) → own_listed (p ∷ ps) ≡ own_listed (p ∷ []) ++ own_listed ps
own_next (import sp) ps = refl
own_next (function f) ps = refl
own_next (single s) ps = ap (λ ls. ls ++ own_listed ps) (sym (append-nil (listed s)))

pub shown_next : (p : Part) (ps : Tree) → composites_shown (p ∷ ps) ≡ composites_shown (p ∷ []) ++ composites_shown ps
shown_next (import sp) ps = refl
shown_next (single s) ps = refl
shown_next (function f) ps = ap (λ ls. ls ++ composites_shown ps) (sym (append-nil (composite_shown f)))

pub shown_alone : (f : Composite) → composites_shown (function f ∷ []) ≡ composite_shown f
shown_alone f = append-nil (composite_shown f)

pub one_shown : (f : Composite) (p : Part) (before now ls : List Shown) → now ≡ before ++ (ls ++ []) → ls ≡ composite_shown f → p ≡ function f → now ≡ before ++ composites_shown (p ∷ [])
one_shown f p before now ls adds is part =
    adds
    ∙ ap (λ (x : List Shown). before ++ x) (append-nil ls ∙ is ∙ sym (shown_alone f))
    ∙ ap (λ (q : Part). before ++ composites_shown (q ∷ [])) (sym part)

pub same_function_shown : (at : ℕ) (n n' : List ℕ) (is is' os os' : List Declared) (b b' : Listed) → n ≡ n' → is ≡ is' → os ≡ os' → b ≡ b' → function_of at n is os b ≡ function_of at n' is' os' b'
same_function_shown at n n' is is' os os' b b' name inputs outputs inside =
    ap (λ (x : List ℕ). function_of at x is os b) name
    ∙ ap₂ (λ (xs ys : List Declared). function_of at n' xs ys b) inputs outputs
    ∙ ap (λ (x : Listed). function_of at n' is' os' x) inside
