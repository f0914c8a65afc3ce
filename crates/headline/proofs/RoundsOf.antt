-- Clean code has a clean script, round by round, and comes to what each half round yields.
use Rattle.std.proofs.Common.{◌≡◌, ℕ, zero, suc, true, List, [], ◌∷◌, refl, sym, ap, ◌∙◌, subst, max, arith}
use Rattle.std.specs.Prelude.{◌≤◌}
use Rattle.dataflow.specs.Facts as Fa
use Rattle.dataflow.specs.Facts.{Written}
use Rattle.dataflow.proofs.Ever.{known_later}
use Rattle.values.specs.declared.key.Key.{Key}
use Rattle.values.specs.declared.value.Scalar.{Scalar}
use Rattle.language.specs.Core.{Core}
use Rattle.language.specs.Facts.{element, Knowledge, OneWriter}
use Rattle.language.specs.Meaning.{Known}
use Rattle.language.specs.Outcomes.{Clean}
use Rattle.language.specs.Places.{Path, Place}
use Rattle.language.specs.Single.{SinglyAssigned}
use Rattle.language.specs.WellFormed.{WellFormed}
use Rattle.task_code.specs.Code.{Code, entry}
use Rattle.task_code.specs.Effects.{Item}
use Rattle.task_code.specs.Machine.{CleanCode}
use Rattle.task_code.specs.Places.{Step, Datum}
use Rattle.task_code.specs.Places as CodePlaces
use Rattle.task_code.specs.System.{code_system}
use Rattle.task_code.specs.Whole.{IsCode}
use Rattle.task_code.proofs.Kept.{code_laws}
use Rattle.headline.specs.Headline.{script_path}
use Rattle.headline.specs.Backs.{Backs}
use Rattle.headline.specs.Halves.{Half, HalfIn}
use Rattle.headline.specs.Inclusions.{Facts}
use Rattle.language_laws.specs.Scoped.{Scoped}
use Rattle.code_rules.specs.IsCodeOf.{IsCodeOf}
use Rattle.headline.proofs.ElementsFrom.{StoredBy, element_from}
use Rattle.headline.proofs.EverFed.{facts_ever}
use Rattle.headline.proofs.Next.{Level, next_level}
use Rattle.language_laws.proofs.Sources.{known_full}
use Rattle.task_code.specs.Exact.{IsExact}
use Rattle.headline.proofs.Halves.{Cells, half_backs, element_backed, cells_follow, half_follows, known_follows, half_full, cells_backs, cells_full, known_backs}

-- a path of the script as one of the code
abbrev code_path : Path → List Step
code_path [] = []
code_path (t ∷ p) = record { offset = t.0; key = t.1 } ∷ code_path p

path_back : (p : Path) → script_path (code_path p) ≡ p
path_back [] = refl
path_back (t ∷ p) = ap (λ (z : Path). t ∷ z) (path_back p)

item_parts : {i j c c' : ℕ} {p q : List Step} → Item i p c ≡ Item j q c' → (i ≡ j) × (p ≡ q)
item_parts h = (cc (h), cc (h))

module _ (s : Core) (C : Code) (w : IsCodeOf s C) (wf : WellFormed s) (single : SinglyAssigned s) (I : IsCode C) (sc : Scoped s) (clean_code : CleanCode C) where
  known_at : {d : CodePlaces.Place} {k : Key} {v : Scalar} (n m : ℕ) → HalfIn s C n → (x : Written (code_system C) (Facts s C (Half s n)) d k v) → (r : ℕ) × ((m : ℕ) → r ≤ m → Fa.Known (code_system C) m x.task x.effect)
  known_at n m into x = let e = into x.task x.effect x.fact in (e.round, λ m h. known_later (code_system C) (code_laws C I) e.round m h x.task x.effect e.known)

  -- ONE WRITER IN THE NEXT ROUND
  module _ (n : ℕ) (clean : (a : Place) → OneWriter (Known s n) a) (bk : Backs s (Half s n)) (into : HalfIn s C n) where
    stored_by : (q : List Step) (node : ℕ) (k : Key) (u : Place) (v : Scalar) → Known s (suc n) (element (script_path q, node) k u v) → StoredBy s C w (Half s n) wf bk I sc u q (record { node = node; array = true }) k v
    stored_by q node k u v h = let x = element_backed s wf single n clean h in element_from s C w (Half s n) wf bk I sc q (record { node = node; array = true }) k u v refl x.0 x.1

    same_task : (q : List Step) (node : ℕ) (k : Key) (v v' : Scalar) (x : Written (code_system C) (Facts s C (Half s n)) (Datum q (record { node = node; array = true })) k v)
        (y : Written (code_system C) (Facts s C (Half s n)) (Datum q (record { node = node; array = true })) k v') → x.task ≡ y.task
    same_task q node k v v' x y =
        let a = known_at n n into x in
        let b = known_at n n into y in
        let m = max a.0 b.0 in
        clean_code m (Datum q (record { node = node; array = true })) refl k v v'
        (record { task = x.task; effect = x.effect; fact = a.1 m (omega arith); write = x.write })
        (record { task = y.task; effect = y.effect; fact = b.1 m (omega arith); write = y.write })

    one_writer_at : (q : List Step) (node : ℕ) → OneWriter (Known s (suc n)) (script_path q, node)
    one_writer_at q node k u u' v v' h h' =
        let x = stored_by q node k u v h in
        let y = stored_by q node k u' v' h' in
        let e = item_parts (sym x.2.1 ∙ same_task q node k v v' x.2.0 y.2.0 ∙ y.2.1) in
        sym x.3 ∙ (λ i. (script_path (e.1 i), (entry C (e.0 i)).node)) ∙ y.3

    one_writer_next : (a : Place) → OneWriter (Known s (suc n)) a
    one_writer_next a = subst (λ (p : Path). OneWriter (Known s (suc n)) (p, a.1)) (path_back a.0) (one_writer_at (code_path a.0) a.1)

  -- ALL ROUNDS
  module _ (ex : IsExact C) where
    abbrev LevelOf : Knowledge → Type 0
    LevelOf K = Level s C w wf I sc clean_code K

    record To (n : ℕ) : Type 0 where
      clean : (a : Place) → OneWriter (Known s n) a
      level : LevelOf (Known s n)

    -- nothing is known before the first round
    nothing : To 0
    nothing = record {
      clean = λ a k u u' v v' h g. absurd h;
      level = record {
        backs = known_backs s wf single 0 (λ a k u u' v v' h g. absurd h);
        full = λ path at m x c v i h. absurd h;
        elements = λ q v key x u va h. absurd h;
        behind = record { scalar = λ pl u h d a st e. absurd h; under = λ p t k b ch j there at n a m c cm v kv e f z zi zn. absurd kv };
      };
    }

    -- the cells that follow from a round, then half of the next round
    cells_at : (n : ℕ) → To n → LevelOf (λ f. Cells s n f)
    cells_at n r = next_level s C w wf I sc clean_code ex single (Known s n) (λ f. Cells s n f) r.level (cells_follow s C w wf I sc clean_code single n r.clean) (cells_backs s wf single n r.clean) (cells_full s wf single n)

    half_at : (n : ℕ) → To n → LevelOf (Half s n)
    half_at n r = next_level s C w wf I sc clean_code ex single (λ f. Cells s n f) (Half s n) (cells_at n r) (half_follows s C w wf I sc clean_code single n r.clean) (half_backs s wf single n r.clean) (half_full s wf single n)

    half_facts : (n : ℕ) → To n → HalfIn s C n
    half_facts n r = (let l = half_at n r in facts_ever s C w wf I sc clean_code (Half s n) l.backs l.elements l.behind l.full ex single)

    next_to : (n : ℕ) → To n → To (suc n)
    next_to n r =
        let one = one_writer_next n r.clean (half_backs s wf single n r.clean) (half_facts n r) in
        record {
          clean = one;
          level = next_level s C w wf I sc clean_code ex single (λ f. Cells s n f) (Known s (suc n)) (cells_at n r) (known_follows s C w wf I sc clean_code single n r.clean) (known_backs s wf single (suc n) one) (known_full s wf.cells (suc n));
        }

    all_to : (n : ℕ) → To n
    all_to zero = nothing
    all_to (suc n) = next_to n (all_to n)

    -- the script writes no key twice, and each half round's facts are facts of the code
    pub script_clean : Clean s
    script_clean n = (all_to n).clean

    pub half_in : (n : ℕ) → HalfIn s C n
    half_in n = half_facts n (all_to n)
