-- Names that come from a scope or from the parts that stand beside them.
use Rattle.std.specs.Prelude.{◌≡◌, ℕ, List, [], ◌∷◌, ◌++◌}
use Rattle.std.proofs.Common.{inl, inr, sym, subst}
use Rattle.language.specs.Core.{Name, here, Form, Call, Part, inner, calls}
use Rattle.language.specs.Members.{◌∈◌, first, later}
use Rattle.language.specs.Scopes.{Scope}
use Rattle.language.proofs.Members.{split_in, either, to_left, to_right}
use Rattle.language_accepted.proofs.Placed.{Sees}
use Rattle.flow.specs.Names.{form_names, part_names, part_nodes}

-- a cell behind the parts inside it, and further parts
abbrev pub with_cell : List Part → ℕ → Form → List Part → List Part
with_cell ps m f qs = ps ++ inner (record { node = m; form = f }) ∷ qs

module _ (g : Scope) where
  -- a visible variable, or what one of these parts declares
  pub data Known (ps : List Part) (x : Name) : Type 0 where
    of_scope : Sees g x → Known ps x
    of_part : (n : ℕ) (p : Part) → p ∈ ps → n ∈ part_nodes p → x ≡ here n → Known ps x

  -- all that these parts name, and these names
  pub record Knows (ps : List Part) (xs : List Name) : Type 0 where
    pub parts : (p : Part) (x : Name) → p ∈ ps → x ∈ part_names p → Known ps x
    pub names : (x : Name) → x ∈ xs → Known ps x

  pub wider : (ps qs : List Part) (x : Name) → ((p : Part) → p ∈ ps → p ∈ qs) → Known ps x → Known qs x
  wider ps qs x f (of_scope s) = of_scope s
  wider ps qs x f (of_part n p m i e) = of_part n p (f p m) i e

  on_left : (ps qs : List Part) (x : Name) → Known ps x → Known (ps ++ qs) x
  on_left ps qs x k = wider ps (ps ++ qs) x (λ p m. to_left ps qs m) k

  on_right : (ps qs : List Part) (x : Name) → Known qs x → Known (ps ++ qs) x
  on_right ps qs x k = wider qs (ps ++ qs) x (λ p m. to_right ps qs m) k

  pub nothing : Knows [] []
  nothing = record { parts = λ p x m i. elim m [ ]; names = λ x m. elim m [ ] }

  pub named : (ps : List Part) (xs : List Name) (x : Name) → Sees g x → Knows ps xs → Knows ps (x ∷ xs)
  named ps xs x s h = record { parts = h.parts; names = λ y m. elim (split_in m) [ inl e ↦ subst (λ (z : Name). Known ps z) (sym e) (of_scope s) | inr i ↦ h.names y i ] }

  pub one : (x : Name) → Sees g x → Knows [] (x ∷ [])
  one x s = named [] [] x s nothing

  pub both : (ps qs : List Part) (xs ys : List Name) → Knows ps xs → Knows qs ys → Knows (ps ++ qs) (xs ++ ys)
  both ps qs xs ys h k = record {
    parts = λ p x m i. elim (either ps qs m) [ inl j ↦ on_left ps qs x (h.parts p x j i) | inr j ↦ on_right ps qs x (k.parts p x j i) ];
    names = λ x m. elim (either xs ys m) [ inl j ↦ on_left ps qs x (h.names x j) | inr j ↦ on_right ps qs x (k.names x j) ];
  }

  -- no other name
  pub no_other : (ps : List Part) (xs : List Name) → Knows ps xs → Knows ps (xs ++ [])
  no_other ps xs h = record { parts = h.parts; names = λ x m. elim (either xs [] m) [ inl j ↦ h.names x j | inr j ↦ elim j [ ] ] }

  pub outer_then : (ps qs : List Part) (m : ℕ) (f : Form) (ys : List Name) → Knows ps (form_names f) → Knows qs ys → Knows (with_cell ps m f qs) ys
  outer_then ps qs m f ys h k = record {
    parts = λ p x i j. elim (either ps (c ∷ qs) i) [
      | inl l ↦ on_left ps (c ∷ qs) x (h.parts p x l j)
      | inr r ↦ elim (split_in r) [
        | inl e ↦ on_left ps (c ∷ qs) x (h.names x (subst (λ (z : Part). x ∈ part_names z) e j))
        | inr l ↦ behind x (k.parts p x l j)
      ]
    ];
    names = λ x i. behind x (k.names x i);
  }
    where
      c : Part
      c = inner (record { node = m; form = f })

      behind : (x : Name) → Known qs x → Known (with_cell ps m f qs) x
      behind x q = wider qs (with_cell ps m f qs) x (λ p i. to_right ps (inner (record { node = m; form = f }) ∷ qs) (later i)) q

  -- a cell that is named
  pub cell : (ps : List Part) (m : ℕ) (f : Form) → Knows ps (form_names f) → Knows (with_cell ps m f []) (here m ∷ [])
  cell ps m f h = record {
    parts = (outer_then ps [] m f [] h nothing).parts;
    names = λ x i. elim (split_in i) [ inl e ↦ of_part m (inner (record { node = m; form = f })) (to_right ps (inner (record { node = m; form = f }) ∷ []) first) first e | inr j ↦ elim j [ ] ];
  }

  -- a call in an expression
  pub hidden : (ps : List Part) (c : Call) (n : ℕ) → c.outputs ≡ here n ∷ [] → Knows ps c.inputs → Knows (ps ++ calls c ∷ []) (here n ∷ [])
  hidden ps c n o h = record {
    parts = λ p x i j. elim (either ps (calls c ∷ []) i) [
      | inl l ↦ on_left ps (calls c ∷ []) x (h.parts p x l j)
      | inr r ↦ elim (split_in r) [
        | inl e ↦ elim (either c.inputs c.outputs (subst (λ (z : Part). x ∈ part_names z) e j)) [
          | inl l ↦ on_left ps (calls c ∷ []) x (h.names x l)
          | inr l ↦ output x (subst (λ (z : List Name). x ∈ z) o l)
        ]
        | inr l ↦ elim l [ ]
      ]
    ];
    names = output;
  }
    where
      output : (x : Name) → x ∈ (here n ∷ []) → Known (ps ++ calls c ∷ []) x
      output x i = elim (split_in i) [
        | inl e ↦ of_part n (calls c) (to_right ps (calls c ∷ []) first) (subst (λ (z : List Name). n ∈ Rattle.std.specs.List.flat_map Rattle.flow.specs.Names.here_nodes z) (sym o) first) e
        | inr j ↦ elim j [ ]
      ]
