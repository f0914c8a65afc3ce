-- Before the first round: the script's own block is live, in its own instance.
use Rattle.std.proofs.Common.{◌≡◌, ℕ, ◌<◌, Bool, true, false, List, [], ◌∷◌, length, refl, sym, ap, ◌∙◌, subst, inl, inr, arith}
use Rattle.language.specs.Core.{Block, Core, Stmt, stmt, declare}
use Rattle.language.specs.Facts.{Knowledge}
use Rattle.language.specs.Meaning.{Known, Live, LiveStmt, script, in_block}
use Rattle.language.specs.Members.{◌∈◌}
use Rattle.language.specs.Parts.{block_list}
use Rattle.language.specs.Places.{Path}
use Rattle.language_laws.proofs.Declared.{live_block}
use Rattle.meaning_facts.specs.declared.facts.Place.{Place as Spot}
use Rattle.meaning_facts.specs.declared.instances.Instance.{Instance}
use Rattle.meaning_facts.specs.declared.fact_base.FactBase.{FactBase}
use Rattle.meaning_facts.specs.Fresh.{IsFresh}
use Rattle.meaning_facts.specs.Paths.{path_of}
use Rattle.meaning_facts.specs.Stands.{Stands, at_root}
use Rattle.meaning_invariants.proofs.Rounds.{nothing_held}
use Rattle.meaning_invariants.specs.Active.{Active, active, Candidate, IsDeclared}
use Rattle.meaning_invariants.specs.Listed.{all_active, declares}
use Rattle.meaning_invariants.specs.Opened.{IsActive, IsCandidate}
use Rattle.meaning_invariants.proofs.Blocks.{active_in, listed_or_never, of_declares, one_of}
use Rattle.meaning_round.specs.Going.{StandsBetween}

module _ (s : Core) (l : FactBase) (fresh : IsFresh l) where
  abbrev ns : List Instance
  ns = l.instances.all.items

  abbrev all : List Stmt
  all = block_list s.body

  abbrev K : Knowledge
  K = Known s 0

  rooted : 0 < length ns
  rooted = let e = fresh.one in omega (arith, e)

  alone : (i : ℕ) → i < length ns → i ≡ 0
  alone i h = let e = fresh.one in omega (arith, e, h)

  stands : (i : ℕ) → i < length ns → Stands s ns i (path_of ns i)
  stands i h = subst (λ (j : ℕ). Stands s ns j (path_of ns j)) (sym (alone i h)) (subst (λ (p : Path). Stands s ns 0 p) (sym fresh.tree.root_path) (at_root fresh.tree.root_parent fresh.tree.root_inputs fresh.tree.root_outputs))

  live_body : Live s K (path_of ns 0) s.body
  live_body = subst (λ (p : Path). Live s K p s.body) (sym fresh.tree.root_path) script

  live_all : (a : Active) → a ∈ all_active 0 all → IsActive s K l a
  live_all a m =
      let o = one_of 0 all a m in
      record {
        within = subst (λ (j : ℕ). j < length ns) (sym o.instance_is) rooted;
        so = subst (λ (j : ℕ). LiveStmt s K (path_of ns j) a.statement) (sym o.instance_is) (in_block live_body o.there);
      }

  declared_all : (i at m n : ℕ) → active i (stmt at m (declare n)) ∈ all_active 0 all → IsDeclared s 0 (declares s 0 0 s.body all) i at m n
  declared_all i at m n x =
      let o = one_of 0 all (active i (stmt at m (declare n))) x in
      record {
        block = s.body;
        in_script = live_block s live_body;
        there = o.there;
        listed = elim (listed_or_never s 0 0 s.body all at m n o.there) [
          | inl z ↦ inl (subst (λ (k : ℕ). ◌∈◌ {X = Candidate} (record { instance = k; node = n }, s.body) (declares s 0 0 s.body all)) (sym o.instance_is) z)
          | inr z ↦ inr z
        ];
      }

  candidate_all : (p : Spot) (c : Block) → ◌∈◌ {X = Candidate} (p, c) (declares s 0 0 s.body all) → IsCandidate s K l p c
  candidate_all p c m =
      let y = of_declares s 0 0 s.body all p c m in
      record {
        within = subst (λ (j : ℕ). j < length ns) (sym y.instance_is) rooted;
        live = subst (λ (j : ℕ). Live s K (path_of ns j) c) (sym y.instance_is) (subst (λ (d : Block). Live s K (path_of ns 0) d) (sym y.block_is) live_body);
        at = y.at;
        node = y.node;
        there = subst (λ (d : Block). stmt y.at y.node (declare p.node) ∈ block_list d) (sym y.block_is) y.there;
      }

  clash : {b : Bool} → b ≡ true → b ≡ false → ⊥
  clash p q = let e : true ≡ false = sym p ∙ q in absurd (cc (e))

  pub starts : StandsBetween s 0 l (all_active 0 all) (declares s 0 0 s.body all) [] []
  starts = record {
    good = record {
      holds = nothing_held l fresh.facts s;
      placed = record { tree = fresh.tree; stands = stands };
      live = live_all;
      closed = λ p e. absurd (clash e (fresh.closed p));
      origins = λ i at k j e. (let c = fresh.tree.opens i at k j e in let one = fresh.one in let w = c.within in let b = c.behind in absurd (omega (arith, one, w, b)));
      script = λ st m. active_in 0 all st m;
      declared = declared_all;
      candidates = candidate_all;
    };
    passed_so = record { called = λ a i. elim i [ ]; opened = λ a i. elim i [ ] };
    waiting_live = λ a i. elim i [ ];
  }
