-- The fact that an item of a live block has, once the script knows what its entry works out.
use Rattle.std.proofs.Common.{◌≡◌, inl, inr, ℕ, suc, Bool, true, false, List, [], ◌∷◌, length, refl, sym, ap, ◌∙◌, subst, Result, Ok, arith}
use Rattle.std.specs.Prelude.{◌&&◌, nat_le, ◌<◌}
use Rattle.dataflow.specs.System.{In, Found, Content, Effect, Outcome, Good}
use Rattle.dataflow.proofs.Lists.{in_left, in_right, in_split}
use Rattle.values.specs.declared.fault.OpFault.{OpFault}
use Rattle.values.specs.declared.key.Key.{Key}
use Rattle.values.specs.declared.value.Scalar.{Scalar}
use Rattle.values.specs.declared.value.Value.{Value}
use Rattle.values.specs.declared.value.Value.TheVariants.{One}
use Rattle.language.specs.Core.{here, Expr, Exprs, name, Form, compute, read, Cell, Stmt, Block, Core}
use Rattle.language.specs.Facts.{value, Knowledge}
use Rattle.language.specs.Meaning.{ValueUnder, of_literal, of_name, of_array, of_operator, ValuesUnder, no_operand, operand, LiveStmt, HasValue, stored}
use Rattle.language.specs.Members.{◌∈◌}
use Rattle.language.specs.Parts.{cells}
use Rattle.language.specs.Places.{Path, max_path_steps}
use Rattle.language.specs.WellFormed.{WellFormed}
use Rattle.language_laws.proofs.Declared.{stmt_in, place_here}
use Rattle.language_laws.proofs.Sources.{cell_gives}
use Rattle.task_code.specs.Code as code
use Rattle.task_code.specs.Code.{Need, Stored, Code, entry, body, needed}
use Rattle.task_code.specs.Compute.{Computed, Fails, Gives, Inserts, Takes, Turns, Opens, EntryFault, pairs, eval}
use Rattle.task_code.specs.Compute as Compute
use Rattle.task_code.specs.Effects.{Task, Item, effect_at, instances, is_too_deep, steps_on, is_some_list, outcome_of}
use Rattle.task_code.specs.Places.{Step}
use Rattle.task_code.specs.Places as CodePlaces
use Rattle.task_code.specs.System.{answered, code_system}
use Rattle.task_code.specs.Whole.{IsCode}
use Rattle.headline.specs.Headline.{script_path}
use Rattle.code_rules.proofs.Given.{gives_value}
use Rattle.headline.specs.Answered.{ReadAll, Reading}
use Rattle.headline.specs.Backs.{Backs}
use Rattle.headline.specs.Chains.{Answers, Chain}
use Rattle.code_rules.specs.CodeNames.{wanted, wanted_all, over}
use Rattle.language_laws.specs.Scoped.{AreIn, AllAreIn, Scoped}
use Rattle.code_rules.specs.IsCodeOf.{seen, seen_as, IsCodeOf}
use Rattle.headline.proofs.Evaluate.{Got, Ans, AnsAll, inputs_of, computed}
use Rattle.headline.proofs.Readings.{name_stands, to_code, same_array, gives_all, says_code}

-- a computation that is no fault
abbrev pub IsGood : Computed → Type 0
IsGood (Fails f) = ⊥
IsGood _ = Unit {0}

good_outcome : (x : Computed) (b : Bool) (e : Effect Task CodePlaces.Place Key Scalar) → IsGood x → b ≡ false → ◌≡◌ {A = Outcome Task CodePlaces.Place Key Scalar EntryFault} (outcome_of x b e) (Good e)
good_outcome (Fails f) b e g q = absurd g
good_outcome (Gives v) true e g q = absurd (cc (q))
good_outcome (Gives v) false e g q = refl
good_outcome (Inserts xs) true e g q = absurd (cc (q))
good_outcome (Inserts xs) false e g q = refl
good_outcome (Takes t) true e g q = absurd (cc (q))
good_outcome (Takes t) false e g q = refl
good_outcome (Turns ts) true e g q = absurd (cc (q))
good_outcome (Turns ts) false e g q = refl
good_outcome Opens true e g q = absurd (cc (q))
good_outcome Opens false e g q = refl

path_length : (p : List Step) → length (script_path p) ≡ length p
path_length [] = refl
path_length (t ∷ p) = ap suc (path_length p)

below_so : (n : ℕ) → n < max_path_steps → nat_le max_path_steps n ≡ false
below_so n h = grind arith

pub not_too_deep : (a : code.Act) (p : List Step) (ss : List (ℕ × List Step)) → length (script_path p) < max_path_steps → is_too_deep a p ss ≡ false
not_too_deep a p ss h = ap (λ (b : Bool). b && (steps_on a && is_some_list ss)) (below_so (length p) (subst (λ (n : ℕ). n < max_path_steps) (path_length p) h))

module _ (s : Core) (C : Code) (w : IsCodeOf s C) (K : Knowledge) (wf : WellFormed s) (kn : Backs s K) (I : IsCode C) (sc : Scoped s) where
  -- a known cell has its value as it is seen
  pub seen_value : {path : Path} {st : Stmt} (c : Cell) {u : Scalar} → LiveStmt s K path st → c ∈ cells st → K (value (path, c.node) (One u)) → ValueUnder s K path (seen w.layout c) (Ok (One u))
  seen_value {path} {st} c {u} live i k = by (w.layout.plain c.node) c.form refl
    where
      own : ValueUnder s K path (name (here c.node)) (Ok (One u))
      own = of_name (subst (λ z. HasValue s K z u) (sym (place_here s path c.node)) (stored k))

      by : (b : Bool) (f : Form) → c.form ≡ f → ValueUnder s K path (seen_as b c.node f) (Ok (One u))
      by true (compute e) q = gives_value (cell_gives s wf.cells K (stmt_in s live) i (kn.backed _ k)).1 q
      by true (read a n) q = own
      by false f q = own

  module _ {p : List Step} {t k : ℕ} {b : Block} (ch : Chain s C w.layout K p t k b) (i : ℕ) (there : In i (body C t).entries) where
    -- an answer to each need of an expression that has a value or a fault
    mutual
      pub has_answers : {e : Expr} {r : Result Value OpFault} → ValueUnder s K (script_path p) e r → AreIn k e → ((n : Need) → In n (wanted k e) → In n (entry C i).needs) → (n : Need) → In n (wanted k e) → (y : Got) × Ans s C K p n y
      has_answers of_literal g sub n h = absurd h
      has_answers (of_name {x = x} {v = v} u) g sub n (inl q) =
          subst (λ (z : Need). (y : Got) × Ans s C K p z y) (sym q)
          (Found v, (v, to_code s wf K kn C w.layout (name_stands s wf K kn C w.layout I sc ch i there false x _ g (sub _ (inl refl)) (inl refl)) v u, refl))
      has_answers (of_name u) g sub n (inr z) = absurd z
      has_answers (of_array {a = x} {es = es} c u) g sub n (inl q) =
          subst (λ (z : Need). (y : Got) × Ans s C K p z y) (sym q)
          (Content (pairs es), gives_all s wf K (same_array s wf K (name_stands s wf K kn C w.layout I sc ch i there true x _ g (sub _ (inl refl)) (inl refl)) refl) c u)
      has_answers (of_array c u) g sub n (inr z) = absurd z
      has_answers (of_operator us q) g sub n h = all_answers us g sub n h

      pub all_answers : {es : Exprs} {rs : List (Result Value OpFault)} → ValuesUnder s K (script_path p) es rs → AllAreIn k es → ((n : Need) → In n (wanted_all k es) → In n (entry C i).needs) → (n : Need) → In n (wanted_all k es) → (y : Got) × Ans s C K p n y
      all_answers no_operand g sub n h = absurd h
      all_answers (operand {e = e} {es = es} u us) g sub n h =
          elim (in_split n (wanted k e) (wanted_all k es) h) [
            | inl j ↦ has_answers u g.0 (λ m z. sub m (in_left m (wanted k e) (wanted_all k es) z)) n j
            | inr j ↦ all_answers us g.1 (λ m z. sub m (in_right m (wanted k e) (wanted_all k es) z)) n j
          ]

    collect : (ns : List Need) → ((n : Need) → In n ns → (y : Got) × Ans s C K p n y) → (ys : List Got) × AnsAll s C K p ns ys
    collect [] h = ([], tt)
    collect (n ∷ ns) h =
        let r = h n (inl refl) in
        let q = collect ns (λ m j. h m (inr j)) in
        (r.0 ∷ q.0, (r.1, q.1))

    -- the inputs' answers, once each need has one
    pub record Known : Type 0 where
      pub answers : List Got
      pub read : ReadAll (code_system C) (Answers s K) ((code_system C).inputs (Item i p 0)) answers
      pub says : AnsAll s C K p (entry C i).needs (answered C p (entry C i).needs answers)

    pub known : ((n : Need) → In n (entry C i).needs → (y : Got) × Ans s C K p n y) → Known
    known h =
        let c = collect (entry C i).needs h in
        let r = inputs_of s C K p (entry C i).needs c.0 c.1 in
        record { answers = r.answers; read = r.read; says = subst (λ (l : List Got). AnsAll s C K p (entry C i).needs l) (sym r.back) c.1 }

    -- what it computes then
    pub computes_so : (z : Known) {e : Expr} {r : Result Value OpFault} → ValueUnder s K (script_path p) e r → AreIn k e → (ms : List Need) → (entry C i).needs ≡ ms → ((n : Need) → In n (wanted k e) → In n ms)
        → eval (answered C p (entry C i).needs z.answers) (over k ms e) ≡ r
    computes_so z {e} {r} u g ms q sub =
        subst (λ (l : List Need). eval (answered C p (entry C i).needs z.answers) (over k l e) ≡ r) q
        (computed s C K p k (entry C i).needs (answered C p (entry C i).needs z.answers) z.says (says_code s wf K kn C w.layout I sc ch i there) u g (λ n j. subst (λ (l : List Need). In n l) (sym q) (sub n j)))

    -- and its fact
    pub fact_of : (z : Known) (c : ℕ) (x : Computed) → Compute.compute (entry C i).act (answered C p (entry C i).needs z.answers) ≡ x → IsGood x → is_too_deep (entry C i).act p (instances (entry C i).act (entry C i).offset p c x) ≡ false
        → Reading (code_system C) (Answers s K) (Item i p c) (effect_at C i p c x)
    fact_of z c x q g d = record {
      answers = z.answers;
      read = z.read;
      is = ap (λ (y : Computed). outcome_of y (is_too_deep (entry C i).act p (instances (entry C i).act (entry C i).offset p c y)) (effect_at C i p c y)) q ∙ good_outcome x _ (effect_at C i p c x) g d;
    }
