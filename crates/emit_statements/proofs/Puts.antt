-- The own entry of a write of an element.
use Rattle.std.proofs.Common.{◌≡◌, ◌<◌, ◌^◌, ℕ, List, [], ◌∷◌, ◌++◌, map, length, length-append, refl, sym, ap, ◌∙◌, true, arith}
use Rattle.std.specs.Prelude.{pos}
use Rattle.std.specs.List.{flat_map}
use Rattle.std.proofs.lemmas.List.{append-nil}
use Rattle.language.specs.Core.{Name, Expr, Outer, insert}
use Rattle.task_code.specs.Code.{Act, Need, InsertElement, Read}
use Rattle.task_code.specs.View.{entry_view}
use Rattle.task_code.specs.declared.entry.Entry.{Entry as Made}
use Rattle.code_rules.specs.CodeNames.{name_as, wanted, each_once, over}
use Rattle.emit_cells.specs.PlainNeeds.{Noted, need_of}
use Rattle.emit_cells.specs.declared.needs.PlainNeed.{PlainNeed}
use Rattle.emit_cells.specs.Made.{made}
use Rattle.emit_cells.specs.declared.entries.StatementContext.{StatementContext}
use Rattle.emit_statements.specs.Into.{OwnAdded}
use Rattle.emit_statements.specs.Seen.{seen_last}
use Rattle.emit_statements.proofs.Outers.{all_seen, own_entry}

pub few_both : (xs ys : List Need) → length xs < 2 ^ 30 → length ys < 2 ^ 30 → length (xs ++ ys) < 2 ^ 32
few_both xs ys a b = let e = length-append xs ys in omega (arith, a, b, e)

pub wanted_both : (k : ℕ) (e d : Expr) → wanted k e ++ wanted k d ≡ flat_map (wanted k) (e ∷ d ∷ [])
wanted_both k e d = ap (λ l. wanted k e ++ l) (sym (append-nil (wanted k d)))

abbrev put_over : ℕ → Name → List Need → List Expr → Act
put_over k x ns (e ∷ d ∷ []) = InsertElement (name_as k true x) (over k ns e) (over k ns d)
put_over k x ns _ = Read

pub put_added : (s : StatementContext) (n : ℕ) (x : Name) (i o : Outer) (e d : Expr) (ks : List PlainNeed) (act : Act) (old new : List Made) → s.priority ≡ pos 0 → e ≡ seen_last i → d ≡ seen_last o
    → Noted (flat_map (wanted s.inputs) (e ∷ d ∷ [])) ks → act ≡ InsertElement (name_as s.inputs true x) (over s.inputs (map need_of ks) e) (over s.inputs (map need_of ks) d)
    → map entry_view new ≡ map entry_view old ++ made s (record { node = n; offset = s.at }) (each_once (flat_map (wanted s.inputs) (e ∷ d ∷ []))) act ∷ []
    → OwnAdded s.inputs s.at n (insert x i o) old new
put_added s n x i o e d ks act old new priority e_is d_is noted does is = record {
  entry = made s (record { node = n; offset = s.at }) (each_once (flat_map (wanted s.inputs) (e ∷ d ∷ []))) act;
  is = is;
  own = own_entry s n (insert x i o) (e ∷ d ∷ []) (put_over s.inputs x) ks act priority
      (λ l suits. ap (λ y. y ∷ d ∷ []) e_is ∙ ap (λ y. seen_last i ∷ y ∷ []) d_is ∙ all_seen l (i ∷ o ∷ []) suits.parts_plain) noted does;
  node_is = refl;
  offset_is = refl;
}
