-- The index of each element that is written is known.
use Rattle.std.specs.Prelude.{◌≡◌, ℕ}
use Rattle.std.proofs.Common.{inl, inr, ap, subst}
use Rattle.values.specs.declared.key.Key.{Key}
use Rattle.values.specs.declared.value.Scalar.{Scalar}
use Rattle.values.specs.declared.value.Value.{Value}
use Rattle.language.specs.Core.{Name, Outer, stmt, fill, insert, Core}
use Rattle.language.specs.Facts.{IsKey, value, Knowledge}
use Rattle.language.specs.Meaning.{Known}
use Rattle.language.specs.Members.{◌∈◌}
use Rattle.language.specs.Parts.{script_stmts}
use Rattle.language.specs.Places.{Path, Place, place}
use Rattle.language.specs.Single.{SinglyAssigned}
use Rattle.language.specs.WellFormed.{WellFormed, WritersApart}
use Rattle.language_laws.proofs.Declared.{stmt_in}
use Rattle.language_laws.proofs.Ever as law
use Rattle.language_laws.proofs.Rounds.{From}
use Rattle.meaning_invariants.specs.Active.{HasIndexes}

module _ (s : Core) (K : Knowledge) (writers : WritersApart s) where
  index_of : (path : Path) (at n : ℕ) (x : Name) (i c : Outer) (a : Place) (k : Key) (v : Scalar) → stmt at n (insert x i c) ∈ script_stmts s → From s K K a k (path, n) v
      → (u : Value) × K (value (path, i.cell.node) u) × IsKey u k
  index_of path at n x i c a k v m (inl e) =
      let node : e.node ≡ n = ap (λ (z : Place). z.1) e.writer_is in
      let there : stmt e.at n (fill e.array e.right) ∈ script_stmts s = subst (λ (z : ℕ). stmt e.at z (fill e.array e.right) ∈ script_stmts s) node (stmt_in s e.live) in
      absurd (writers.fill_insert e.at n at e.array x i e.right c there m)
  index_of path at n x i c a k v m (inr e) =
      let here : e.path ≡ path = ap (λ (z : Place). z.0) e.writer_is in
      let node : e.node ≡ n = ap (λ (z : Place). z.1) e.writer_is in
      let there : stmt e.at n (insert e.array e.index e.right) ∈ script_stmts s = subst (λ (z : ℕ). stmt e.at z (insert e.array e.index e.right) ∈ script_stmts s) node (stmt_in s e.live) in
      let same = (writers.insert_once e.at n at e.array x e.index i e.right c there m).0 in
      let known : K (value (path, e.index.cell.node) e.index_value) = subst (λ (z : Path). K (value (z, e.index.cell.node) e.index_value)) here e.known_index in
      (e.index_value, subst (λ (z : Outer). K (value (path, z.cell.node) e.index_value)) same known, e.is_key)

pub has_indexes : (s : Core) → WellFormed s → SinglyAssigned s → (n : ℕ) → HasIndexes s (Known s n)
has_indexes s w single n = record {
  index = λ path at m x i c k v there e. index_of s (Known s n) w.writers path at m x i c (place s path x) k v there ((law.sound s w single n).wrote (place s path x) k (path, m) v e);
}
