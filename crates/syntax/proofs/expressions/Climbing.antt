-- An expression from its first unary on: only levels with an operator behind it make chains.
use Rattle.std.proofs.Common.{◌≡◌, ℕ, zero, suc, ◌+◌, ◌-◌, ◌<◌, ◌≤◌, List, [], ◌∷◌, Bool, true, false, refl, ap, sym, ◌∙◌, subst, arith}
use Rattle.std.proofs.lemmas.Bool.{leb-true, le-leb}
use Rattle.std.specs.Prelude.{Option, Some, None, Result, Ok, Err, nat_le}
use denote.Enum.Bare.{same_true, true_same}
use Rattle.lexer.specs.declared.token.Span.{Span}
use Rattle.language.specs.contracts.tree.Level as levels
use Rattle.language.specs.declared.tree.Operator.{Operator}
use Rattle.language.specs.declared.tree.Level.{Level}
use Rattle.language.specs.Tree.{Expression}
use Rattle.language.specs.Kinds.{operator_of, level_of, same_level}
use Rattle.language.specs.Rules.{Place}
use Rattle.language.specs.Grammar.{first_of, chained}
use Rattle.syntax.specs.declared.grammar.stop.ParseStop.{ParseStop}
use Rattle.syntax.specs.Readers.{Read, refused, got, ◌>>=◌, cond, kind_at}
use Rattle.syntax.specs.Answers.{Gives}
use Rattle.syntax.specs.Reading.{operator_at, at_operator, of_level, is_some, operands, read_unary, read_form, read_operand, read_operands, read_chain, joined, read_link, read_links, rank, ranked, level_within, level_at}
use Rattle.syntax.proofs.expressions.Forms.{bind_assoc, fails_on, form_same}
use Rattle.syntax.proofs.expressions.Chains.{no_operand}

-- RANKS

pub rank_ranked : (l : Level) → ranked (rank l) ≡ l
rank_ranked Level.Product = refl
rank_ranked Level.Sum = refl
rank_ranked Level.Order = refl
rank_ranked Level.Equality = refl
rank_ranked Level.And = refl
rank_ranked Level.Or = refl

ranked_rank : (n : ℕ) → n ≤ 5 → rank (ranked n) ≡ n
ranked_rank zero h = refl
ranked_rank (suc zero) h = refl
ranked_rank (suc (suc zero)) h = refl
ranked_rank (suc (suc (suc zero))) h = refl
ranked_rank (suc (suc (suc (suc zero)))) h = refl
ranked_rank (suc (suc (suc (suc (suc zero))))) h = refl
ranked_rank (suc (suc (suc (suc (suc (suc n)))))) h = absurd (omega arith)

pub rank_small : (l : Level) → rank l ≤ 5
rank_small Level.Product = omega arith
rank_small Level.Sum = omega arith
rank_small Level.Order = omega arith
rank_small Level.Equality = omega arith
rank_small Level.And = omega arith
rank_small Level.Or = omega arith

-- LINKS

bind_same : {A B : Type 0} (x : Read A) (f h : A → Place → Read B) → ((a : A) (v : Place) → f a v ≡ h a v) → (x >>= f) ≡ (x >>= h)
bind_same (refused stop) f h each = refl
bind_same (got a v) f h each = each a v

bind_unit : {A : Type 0} (x : Read A) → (x >>= λ a v. got a v) ≡ x
bind_unit (refused stop) = refl
bind_unit (got a v) = refl

chained_joined : (s : Place) (x : Expression) (ps : List (Operator × Expression)) (u : Place) → chained s (x, ps) u ≡ joined (first_of s.rest) x ps u
chained_joined s x [] u = refl
chained_joined s x (p ∷ ps) u = refl

-- a chain is its first operand and what goes on behind it
chain_linked : (depth : ℕ) (l : Level) (s : Place) → read_chain depth l s ≡ (read_operand depth l s >>= λ x v. read_link depth l (first_of s.rest) x v)
unfolding read_chain read_link read_operands
chain_linked depth l s = by (read_operand depth l s)
  where
    behind : (x : Expression) (r : Read (List (Operator × Expression))) → ((r >>= λ b u. got (x, b) u) >>= λ p u. got (chained s p u) u) ≡ (r >>= λ ps u. got (joined (first_of s.rest) x ps u) u)
    behind x (refused stop) = refl
    behind x (got ps u) = ap (λ e. got e u) (chained_joined s x ps u)

    by : (r : Read Expression) → ((r >>= λ a w. operands l (read_operand depth l) [] w >>= λ b u. got (a, b) u) >>= λ p u. got (chained s p u) u)
        ≡ (r >>= λ x v. operands l (read_operand depth l) [] v >>= λ ps u. got (joined (first_of s.rest) x ps u) u)
    by (refused stop) = refl
    by (got x v) = behind x (operands l (read_operand depth l) [] v)

-- one level more
links_more : (depth n m : ℕ) (f : Span) (x : Expression) (v : Place) → (read_links depth n m f x v >>= λ y u. read_link depth (ranked (m + n)) f y u) ≡ read_links depth (suc n) m f x v
unfolding read_links
links_more depth zero m f x v =
    let none : m + 0 ≡ m = omega arith in
    ap (λ k. read_link depth (ranked k) f x v) none ∙ sym (bind_unit (read_link depth (ranked m) f x v))
links_more depth (suc n) m f x v =
    let next : m + suc n ≡ suc m + n = omega arith in
    bind_assoc (read_link depth (ranked m) f x v) (λ y u. read_links depth n (suc m) f y u) (λ y u. read_link depth (ranked (m + suc n)) f y u)
    ∙ bind_same (read_link depth (ranked m) f x v) (λ y u. read_links depth n (suc m) f y u >>= λ z w. read_link depth (ranked (m + suc n)) f z w) (λ y u. read_links depth (suc n) (suc m) f y u)
    (λ y u. ap (λ k. read_links depth n (suc m) f y u >>= λ z w. read_link depth (ranked k) f z w) next ∙ links_more depth n (suc m) f y u)

-- a chain is its first unary and what goes on behind it
abbrev Climbs : ℕ → Level → Place → Type 0
Climbs depth l s = read_chain depth l s ≡ (read_unary depth s >>= λ x v. read_links depth (suc (rank l)) 0 (first_of s.rest) x v)

climbs_next : (depth : ℕ) (l m : Level) (s : Place) → read_operand depth m s ≡ read_chain depth l s → rank m ≡ suc (rank l) → Climbs depth l s → Climbs depth m s
climbs_next depth l m s operand next climbs =
    let none : suc (rank l) ≡ 0 + suc (rank l) = omega arith in
    chain_linked depth m s
    ∙ ap (λ r. r >>= λ x v. read_link depth m (first_of s.rest) x v) (operand ∙ climbs)
    ∙ bind_assoc (read_unary depth s) (λ x v. read_links depth (suc (rank l)) 0 (first_of s.rest) x v) (λ x v. read_link depth m (first_of s.rest) x v)
    ∙ bind_same (read_unary depth s) (λ x v. read_links depth (suc (rank l)) 0 (first_of s.rest) x v >>= λ y u. read_link depth m (first_of s.rest) y u) (λ x v. read_links depth (suc (rank m)) 0 (first_of s.rest) x v)
    (λ x v.
    ap (λ k. read_links depth (suc (rank l)) 0 (first_of s.rest) x v >>= λ y u. read_link depth k (first_of s.rest) y u) (sym (rank_ranked m) ∙ ap ranked (next ∙ none))
    ∙ links_more depth (suc (rank l)) 0 (first_of s.rest) x v
    ∙ ap (λ k. read_links depth (suc k) 0 (first_of s.rest) x v) (sym next))

climbs_product : (depth : ℕ) (s : Place) → Climbs depth Level.Product s
unfolding read_operand read_links
climbs_product depth s =
    chain_linked depth Level.Product s
    ∙ bind_same (read_unary depth s) (λ x v. read_link depth Level.Product (first_of s.rest) x v) (λ x v. read_link depth Level.Product (first_of s.rest) x v >>= λ y u. got y u)
    (λ x v. sym (bind_unit (read_link depth Level.Product (first_of s.rest) x v)))

climbs_sum : (depth : ℕ) (s : Place) → Climbs depth Level.Sum s
unfolding read_operand read_chain
climbs_sum depth s = climbs_next depth Level.Product Level.Sum s refl refl (climbs_product depth s)

climbs_order : (depth : ℕ) (s : Place) → Climbs depth Level.Order s
unfolding read_operand read_chain
climbs_order depth s = climbs_next depth Level.Sum Level.Order s refl refl (climbs_sum depth s)

climbs_equality : (depth : ℕ) (s : Place) → Climbs depth Level.Equality s
unfolding read_operand read_chain
climbs_equality depth s = climbs_next depth Level.Order Level.Equality s refl refl (climbs_order depth s)

climbs_and : (depth : ℕ) (s : Place) → Climbs depth Level.And s
unfolding read_operand read_chain
climbs_and depth s = climbs_next depth Level.Equality Level.And s refl refl (climbs_equality depth s)

climbs_or : (depth : ℕ) (s : Place) → Climbs depth Level.Or s
unfolding read_operand read_chain
climbs_or depth s = climbs_next depth Level.And Level.Or s refl refl (climbs_and depth s)

climbs : (depth : ℕ) (l : Level) (s : Place) → Climbs depth l s
climbs depth Level.Product s = climbs_product depth s
climbs depth Level.Sum s = climbs_sum depth s
climbs depth Level.Order s = climbs_order depth s
climbs depth Level.Equality s = climbs_equality depth s
climbs depth Level.And s = climbs_and depth s
climbs depth Level.Or s = climbs_or depth s

-- WHERE NO OPERATOR FOLLOWS

link_none : (depth : ℕ) (l : Level) (f : Span) (x : Expression) (v : Place) → at_operator l v ≡ false → read_link depth l f x v ≡ got x v
unfolding read_link
link_none depth l f x v none = ap (λ r. r >>= λ ps u. got (joined f x ps u) u) (no_operand depth l v none)

-- levels that have no operator here are passed
links_skip : (depth k n m : ℕ) (f : Span) (x : Expression) (v : Place) → ((j : ℕ) → m ≤ j → j < m + k → at_operator (ranked j) v ≡ false)
    → read_links depth (k + n) m f x v ≡ read_links depth n (m + k) f x v
unfolding read_links
links_skip depth zero n m f x v none =
    let one : 0 + n ≡ n = omega arith in
    let two : m ≡ m + 0 = omega arith in
    ap (λ i. read_links depth i m f x v) one ∙ ap (λ i. read_links depth n i f x v) two
links_skip depth (suc k) n m f x v none =
    let one : suc k + n ≡ suc (k + n) = omega arith in
    let two : suc m + k ≡ m + suc k = omega arith in
    ap (λ i. read_links depth i m f x v) one
    ∙ ap (λ r. r >>= λ y u. read_links depth (k + n) (suc m) f y u) (link_none depth (ranked m) f x v (none m (omega arith) (omega arith)))
    ∙ links_skip depth k n (suc m) f x v (λ j low high. none j (omega arith) (omega arith))
    ∙ ap (λ i. read_links depth n i f x v) two

-- an operator stands at its own level alone
other_level : (o : Operator) (j : ℕ) → j ≤ 5 → ((rank (level_of o) ≡ j) → ⊥) → is_some (of_level (ranked j) (Some o)) ≡ false
other_level o j small differ = by (same_level (level_of o) (ranked j)) refl
  where
    by : (b : Bool) → same_level (level_of o) (ranked j) ≡ b → is_some (cond (same_level (level_of o) (ranked j)) (Some o) None) ≡ false
    by true is = absurd (differ (ap rank (same_true levels.the_type tt (level_of o) (ranked j) is) ∙ ranked_rank j small))
    by false is = ap (λ b. is_some (cond b (Some o) None)) is

none_within : (m : ℕ) (l : Level) (op : Option Operator) → level_within m l op ≡ None → (j : ℕ) → m ≤ j → j < suc (rank l) → is_some (of_level (ranked j) op) ≡ false
none_within m l None h j low high = refl
none_within m l (Some o) h j low high = let small = rank_small l in other_level o j (omega arith) differ
  where
    differ : (rank (level_of o) ≡ j) → ⊥
    differ is =
        let least = le-leb m (rank (level_of o)) (subst (λ i. m ≤ i) (sym is) low) in
        let most = le-leb (rank (level_of o)) (rank l) (omega arith) in
        let bad = sym (ap (λ b. cond b (cond (nat_le (rank (level_of o)) (rank l)) (Some (level_of o)) None) None) least ∙ ap (λ b. cond b (Some (level_of o)) None) most) ∙ h in
        absurd (cc)

-- the operator here is of a level within these
abbrev Within : ℕ → Level → Level → Option Operator → Type 0
Within m l k op = (m ≤ rank k) × (rank k ≤ rank l) × (is_some (of_level k op) ≡ true) × ((j : ℕ) → j < rank k → is_some (of_level (ranked j) op) ≡ false)

some_within : (m : ℕ) (l k : Level) (op : Option Operator) → level_within m l op ≡ Some k → Within m l k op
some_within m l k None h = absurd (cc)
some_within m l k (Some o) h = low (nat_le m (rank (level_of o))) refl h
  where
    here : (level_of o ≡ k) → m ≤ rank (level_of o) → rank (level_of o) ≤ rank l → Within m l k (Some o)
    here is least most = (
      subst (λ i. m ≤ rank i) is least,
      subst (λ i. rank i ≤ rank l) is most,
      ap (λ b. is_some (cond b (Some o) None)) (true_same levels.the_type (level_of o) k is),
      λ j less. let small = rank_small k in let same' = ap rank is in other_level o j (omega arith) (λ also. absurd (omega arith)),
    )

    high : (b : Bool) → nat_le (rank (level_of o)) (rank l) ≡ b → m ≤ rank (level_of o) → cond b (Some (level_of o)) None ≡ Some k → Within m l k (Some o)
    high true most least g = here (cc) least (leb-true (rank (level_of o)) (rank l) most)
    high false most least g = absurd (cc)

    low : (b : Bool) → nat_le m (rank (level_of o)) ≡ b → cond b (cond (nat_le (rank (level_of o)) (rank l)) (Some (level_of o)) None) None ≡ Some k → Within m l k (Some o)
    low true least g = high (nat_le (rank (level_of o)) (rank l)) refl (leb-true m (rank (level_of o)) least) g
    low false least g = absurd (cc)

-- behind the last operator of these levels nothing goes on
pub links_end : (depth m : ℕ) (l : Level) (f : Span) (x : Expression) (v : Place) → m ≤ suc (rank l) → level_at m l v ≡ None → read_links depth (suc (rank l) - m) m f x v ≡ got x v
unfolding level_at read_links operator_at
links_end depth m l f x v fits none =
    let all : suc (rank l) - m ≡ suc (rank l) - m + 0 = omega arith in
    ap (λ n. read_links depth n m f x v) all
    ∙ links_skip depth (suc (rank l) - m) 0 m f x v (λ j low high. none_within m l (operator_of (kind_at v)) none j low (omega arith))

-- at an operator of one of them its chain comes next
links_at : (depth m : ℕ) (l k : Level) (f : Span) (x : Expression) (v : Place) → level_at m l v ≡ Some k
    → read_links depth (suc (rank l) - m) m f x v ≡ (read_link depth k f x v >>= λ y u. read_links depth (suc (rank l) - suc (rank k)) (suc (rank k)) f y u)
unfolding level_at read_links operator_at
links_at depth m l k f x v some =
    let here = some_within m l k (operator_of (kind_at v)) some in
    let least = here.0 in
    let most = here.1 in
    let all : suc (rank l) - m ≡ rank k - m + suc (rank l - rank k) = omega arith in
    let at : m + (rank k - m) ≡ rank k = omega arith in
    let left : rank l - rank k ≡ suc (rank l) - suc (rank k) = omega arith in
    ap (λ n. read_links depth n m f x v) all
    ∙ links_skip depth (rank k - m) (suc (rank l - rank k)) m f x v (λ j low high. here.3 j (omega arith))
    ∙ ap (λ i. read_links depth (suc (rank l - rank k)) i f x v) at
    ∙ ap (λ i. read_link depth i f x v >>= λ y u. read_links depth (rank l - rank k) (suc (rank k)) f y u) (rank_ranked k)
    ∙ ap (λ n. read_link depth k f x v >>= λ y u. read_links depth n (suc (rank k)) f y u) left

pub links_step : (depth m : ℕ) (l k : Level) (f : Span) (x y : Expression) (v u : Place) → level_at m l v ≡ Some k → read_link depth k f x v ≡ got y u
    → read_links depth (suc (rank l) - m) m f x v ≡ read_links depth (suc (rank l) - suc (rank k)) (suc (rank k)) f y u
links_step depth m l k f x y v u some read = links_at depth m l k f x v some ∙ ap (λ r. r >>= λ y u. read_links depth (suc (rank l) - suc (rank k)) (suc (rank k)) f y u) read

pub links_stop : (depth m : ℕ) (l k : Level) (f : Span) (x : Expression) (v : Place) (stop : ParseStop) → level_at m l v ≡ Some k → read_link depth k f x v ≡ refused stop
    → read_links depth (suc (rank l) - m) m f x v ≡ refused stop
links_stop depth m l k f x v stop some read = links_at depth m l k f x v some ∙ ap (λ r. r >>= λ y u. read_links depth (suc (rank l) - suc (rank k)) (suc (rank k)) f y u) read

pub level_operator : (m : ℕ) (l k : Level) (v : Place) → level_at m l v ≡ Some k → at_operator k v ≡ true
unfolding level_at operator_at
level_operator m l k v some = (some_within m l k (operator_of (kind_at v)) some).2

pub level_below : (m : ℕ) (l k : Level) (v : Place) → level_at m l v ≡ Some k → rank k ≤ rank l
unfolding level_at
level_below m l k v some = (some_within m l k (operator_of (kind_at v)) some).1

pub level_above : (m : ℕ) (l k : Level) (v : Place) → level_at m l v ≡ Some k → m ≤ rank k
unfolding level_at
level_above m l k v some = (some_within m l k (operator_of (kind_at v)) some).0

-- WHAT IS READ BEHIND A UNARY

pub unary_climbs : (depth : ℕ) (l : Level) (s : Place) (x : Expression) (v : Place) → read_form depth s ≡ got x v → read_chain depth l s ≡ read_links depth (suc (rank l)) 0 (first_of s.rest) x v
unary_climbs depth l s x v read = climbs depth l s ∙ ap (λ r. r >>= λ x v. read_links depth (suc (rank l)) 0 (first_of s.rest) x v) (sym (form_same depth s) ∙ read)

pub unary_stops : (depth : ℕ) (l : Level) (s : Place) (stop : ParseStop) → read_form depth s ≡ refused stop → read_chain depth l s ≡ refused stop
unary_stops depth l s stop read = climbs depth l s ∙ ap (λ r. r >>= λ x v. read_links depth (suc (rank l)) 0 (first_of s.rest) x v) (sym (form_same depth s) ∙ read)

-- all levels up to one are those from the tightest on
pub links_all : (depth : ℕ) (l : Level) (f : Span) (x : Expression) (v : Place) → read_links depth (suc (rank l)) 0 f x v ≡ read_links depth (suc (rank l) - 0) 0 f x v
links_all depth l f x v = let all : suc (rank l) ≡ suc (rank l) - 0 = omega arith in ap (λ n. read_links depth n 0 f x v) all

-- with no operator behind it, it is the chain
pub unary_alone : {X : Type 0} (view : X → Expression) (r : Result X ParseStop) (depth : ℕ) (l : Level) (s u : Place) → Gives view r u (read_form depth s) → level_at 0 l u ≡ None → Gives view r u (read_chain depth l s)
unary_alone view (Ok x) depth l s u read none = unary_climbs depth l s (view x) u read ∙ links_all depth l (first_of s.rest) (view x) u ∙ links_end depth 0 l (first_of s.rest) (view x) u (omega arith) none
unary_alone view (Err stop) depth l s u read none = fails_on stop (read_form depth s) (read_chain depth l s) (unary_stops depth l s) read

-- what goes on behind it makes the chain
pub unary_goes_on : {X : Type 0} (view : X → Expression) (r : Result X ParseStop) (depth : ℕ) (l : Level) (s v u : Place) (x : Expression) (first : Span) → read_form depth s ≡ got x v → first ≡ first_of s.rest
    → Gives view r u (read_links depth (suc (rank l)) 0 first x v) → Gives view r u (read_chain depth l s)
unary_goes_on view r depth l s v u x first read is reads =
    subst (Gives view r u) (ap (λ f. read_links depth (suc (rank l)) 0 f x v) is ∙ sym (unary_climbs depth l s x v read)) reads
