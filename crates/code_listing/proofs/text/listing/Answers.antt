use Rattle.std.proofs.Common.{◌≡◌, ◌++◌, false, ap, ◌∙◌, subst, refl, ℕ, List, Vec}
use Rattle.std.specs.declared.alloc.Global.{Global}
use Rattle.std.proofs.lemmas.Result.{IfOk-weaker}
use Rattle.code_listing.specs.declared.bodies.BodyPosition.{BodyPosition}
use Rattle.code_listing.specs.declared.source_map.BodyInfo.{BodyInfo}
use Rattle.code_listing.specs.Labels.{infos_of, maker_of, name_of, signatures_of}
use Rattle.code_listing.specs.Listed.{IsListing}
use Rattle.code_listing.specs.Listing.{Labels, bodies_text}
use Rattle.code_listing.specs.Order.{IsOrder, numbers_of}
use Rattle.code_listing.proofs.text.listing.Goals as goal

pub returns : goal.returns
returns g c =
    let A = g.row.A.Denot in
    let flow = c.args.flow.now in
    let order = c.in_ok-positions.positions.items in
    let places = c.in_ok-places.places.items in
    let labels : Labels = record { names = name_of c.in_ok-found.found; functions = signatures_of {A = A} flow.functions.items; makers = maker_of c.in_ok-producers.producers } in
    let all = λ (is : List BodyInfo) (ps : List BodyPosition). bodies_text c.args.code.now is labels places 0 (numbers_of ps) in
    IfOk-weaker c.finish.result (λ (text : Vec ℕ Global). (c.add_bodies.new.page.lacks ≡ false) × (text.items ≡ c.add_bodies.new.page.bytes.items)) (λ (text : Vec ℕ Global). IsListing {A = A} flow c.args.code.now text.items) (λ (text : Vec ℕ Global) h.
    let written = c.add_bodies.ensures h.0 in
    record {
      order = order;
      places = places;
      labels = labels;
      ordered = subst (λ (z : List BodyInfo). IsOrder z order) c.in_ok-found.ensures.blocks c.in_ok-positions.ensures;
      placed = c.in_ok-places.ensures;
      names = c.in_ok-found.ensures.names;
      functions = refl;
      makers = c.in_ok-producers.ensures;
      written = h.1 ∙ written.1 ∙ ap (λ (z : List ℕ). z ++ all (infos_of c.in_ok-found.found) c.as_slice.result.now) c.new-page.ensures.1
          ∙ ap (λ (z : List BodyPosition). all (infos_of c.in_ok-found.found) z) c.as_slice.ensures.value ∙ ap (λ (z : List BodyInfo). all z order) c.in_ok-found.ensures.blocks;
    }) c.finish.ensures
