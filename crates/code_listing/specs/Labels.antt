-- What the program keeps for a listing, in terms of the definitions.
use Rattle.std.specs.Prelude.{ℕ, List, [], ◌++◌, map, nat_eq, Option, None, Some}
use denote.Bor.{Bor}
use Rattle.indexmap.specs.IndexMap.{get}
use Rattle.flow.specs.declared.script.Function.{Function}
use Rattle.flow.specs.declared.statement.Variable.{Variable}
use Rattle.task_code.specs.Code.{nth}
use Rattle.code_listing.specs.Listing.{Labels, Signature}
use Rattle.code_listing.specs.declared.needs.ListingContext.{ListingContext}
use Rattle.code_listing.specs.declared.drawing.Drawing.{Drawing}
use Rattle.code_listing.specs.declared.producers.Producers.{Producers}
use Rattle.code_listing.specs.declared.source_map.SourceMap.{SourceMap}
use Rattle.code_listing.specs.declared.source_map.BodyInfo.{BodyInfo}

abbrev pub names_of : {A : Type 0} → List (Variable A) → List (List ℕ)
names_of vs = map (λ v. v.name.items) vs

abbrev pub signature_of : {A : Type 0} → Function A → Signature
signature_of f = record { name = f.name.items; parameters = names_of f.inputs.items ++ names_of f.outputs.items }

abbrev pub signatures_of : {A : Type 0} → List (Function A) → List Signature
signatures_of fs = map signature_of fs

abbrev pub maker_in : Option ℕ → ℕ
maker_in None = 0
maker_in (Some number) = number

abbrev pub maker_of : Producers → ℕ → ℕ
maker_of p node = maker_in (get nat_eq p.numbers node)

-- the name of the variable of a node, empty if it has none
abbrev pub name_in : List (Bor (List ℕ)) → ℕ → List ℕ
name_in names node = nth [] (map (λ b. b.now) names) node

abbrev pub name_of : SourceMap → ℕ → List ℕ
name_of m node = name_in m.names.items node

abbrev pub infos_of : SourceMap → List BodyInfo
infos_of m = m.roots.items ++ m.inner.items

abbrev pub labels_of : {A : Type 0} → ListingContext A → Labels
labels_of s = record { names = name_of s.found.now; functions = signatures_of s.functions.now.items; makers = maker_of s.producers.now }

abbrev pub drawing_labels : {A : Type 0} → Drawing A → Labels
drawing_labels d = record { names = name_of d.found.now; functions = signatures_of d.functions.now.items; makers = maker_of d.producers.now }
