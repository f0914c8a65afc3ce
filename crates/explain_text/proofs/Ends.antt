-- Each line ends somewhere.
use Rattle.std.proofs.Common.{◌≡◌, inl, inr, ◌≤◌, ◌<◌, ◌+◌, ◌-◌, ℕ, zero, suc, List, length, arith, sym, subst}
use Rattle.std.specs.Prelude.{◌≢◌, min, slice_index}
use Rattle.std.proofs.lemmas.Bool.{cases_order}
use Rattle.std.proofs.lemmas.Bool.Decides.{eqb_tells}
use Rattle.explain_text.specs.Positions.{EndsLine, line_feed}
use Rattle.explain_text.specs.Windows.{IsNearEnd}

-- no line feed from one offset to another
abbrev pub Plain : List ℕ → ℕ → ℕ → Type 0
Plain text at i = (k : ℕ) → at ≤ k → k < i → slice_index text k ≢ line_feed

plain_more : (text : List ℕ) (at i : ℕ) → Plain text at i → slice_index text i ≢ line_feed → Plain text at (suc i)
plain_more text at i plain here k behind before = elim (cases_order k i) [
  | inl same ↦ subst (λ (n : ℕ). slice_index text n ≢ line_feed) (sym same) here
  | inr order ↦ elim order [ inl less ↦ plain k behind less | inr more ↦ absurd (omega arith) ]
]

-- the line of an offset ends at another one or behind it
pub record EndsBehind (text : List ℕ) (at i : ℕ) : Type 0 where
  pub end : ℕ
  pub ends : EndsLine text at end
  pub behind : i ≤ end

pub line_ends : (text : List ℕ) (at i n : ℕ) → i + n ≡ length text → at ≤ i → Plain text at i → EndsBehind text at i
line_ends text at i zero sum before plain = record {
  end = i;
  ends = record { behind = before; within = omega arith; ends = inl (omega arith); same_line = plain };
  behind = omega arith;
}
line_ends text at i (suc n) sum before plain = elim (eqb_tells (slice_index text i) line_feed) [
  | inl q ↦ record { end = i; ends = record { behind = before; within = omega arith; ends = inr q.1; same_line = plain }; behind = omega arith }
  | inr q ↦
      let r : EndsBehind text at (suc i) = line_ends text at (suc i) n (omega arith) (omega arith) (plain_more text at i plain q.1) in
      let b : suc i ≤ r.end = r.behind in
      record { end = r.end; ends = r.ends; behind = omega arith }
]

-- a line feed before what is looked at ends
pub near_here : (text : List ℕ) (at i most : ℕ) → at ≤ i → i < most → most ≡ min (length text) (at + 121) → Plain text at i → slice_index text i ≡ line_feed → IsNearEnd text at i
near_here text at i most behind before most_is plain here = record {
  end = i;
  ends = record { behind = behind; within = omega arith; ends = inr here; same_line = plain };
  near_is = omega arith;
}

-- no line feed in all that is looked at
pub near_most : (text : List ℕ) (at most : ℕ) → at ≤ length text → most ≡ min (length text) (at + 121) → Plain text at most → IsNearEnd text at most
near_most text at most within most_is plain =
    let e : EndsBehind text at most = line_ends text at most (length text - most) (omega arith) (omega arith) plain in
    let b : most ≤ e.end = e.behind in
    let c : e.end ≤ length text = e.ends.within in
    record { end = e.end; ends = e.ends; near_is = omega arith }
