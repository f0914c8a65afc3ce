use Rattle.std.proofs.Common.{◌≡◌, ap, sym, ◌∙◌, arith, true}
use Rattle.std.proofs.lemmas.Grind.{common_steps}
use Rattle.flow.specs.declared.statement.Block.{Block, out-Block}
use Rattle.flow.specs.View.{waits_around}
use Rattle.wait_merge.specs.Merged.{block_seen}
use Rattle.wait_merge.proofs.Blocks.{one_view, one_anchors, one_declared, one_listed, one_merged}
use Rattle.wait_merge.proofs.statement.absorb.Goals as goal

pub returns-in_ok-absorb_headers-in-Some-clause-core : goal.returns-in_ok-absorb_headers-in-Some-clause-core
returns-in_ok-absorb_headers-in-Some-clause-core g c =
    let A = g.row.A.Denot in
    let b = c.args.content.now.value in
    let known : c.is_one_wait.result ≡ true = grind (arith, common_steps) in
    let waits : (block_seen {A = A} b).wait ≡ true = sym (c.is_one_wait.ensures ∙ ap (λ (x : Block A). (block_seen x).wait) c.deref.ensures) ∙ known in
    c.in_ok-absorb_headers-in-Some.ensures.core
    ∙ ap (waits_around c.args.inner.now.items)
    (sym (one_view A b c.pop.new.self.items c.in-Some.only (ap (λ (x : Block A). (out-Block A x).statements.items) (sym c.deref_mut.ensures.value) ∙ c.in-Some.ensures.items) waits))

pub returns-in_ok-absorb_headers-in-Some-clause-declared : goal.returns-in_ok-absorb_headers-in-Some-clause-declared
returns-in_ok-absorb_headers-in-Some-clause-declared g c =
    let A = g.row.A.Denot in
    let b = c.args.content.now.value in
    let known : c.is_one_wait.result ≡ true = grind (arith, common_steps) in
    let waits : (block_seen {A = A} b).wait ≡ true = sym (c.is_one_wait.ensures ∙ ap (λ (x : Block A). (block_seen x).wait) c.deref.ensures) ∙ known in
    c.in_ok-absorb_headers-in-Some.ensures.declared
    ∙ sym (one_declared A b c.pop.new.self.items c.in-Some.only (ap (λ (x : Block A). (out-Block A x).statements.items) (sym c.deref_mut.ensures.value) ∙ c.in-Some.ensures.items) waits)

pub returns-in_ok-absorb_headers-in-Some-clause-alone : goal.returns-in_ok-absorb_headers-in-Some-clause-alone
returns-in_ok-absorb_headers-in-Some-clause-alone g c =
    let A = g.row.A.Denot in
    let b = c.args.content.now.value in
    let known : c.is_one_wait.result ≡ true = grind (arith, common_steps) in
    let waits : (block_seen {A = A} b).wait ≡ true = sym (c.is_one_wait.ensures ∙ ap (λ (x : Block A). (block_seen x).wait) c.deref.ensures) ∙ known in
    λ m. c.in_ok-absorb_headers-in-Some.ensures.alone
    (sym (one_merged A b c.pop.new.self.items c.in-Some.only (ap (λ (x : Block A). (out-Block A x).statements.items) (sym c.deref_mut.ensures.value) ∙ c.in-Some.ensures.items) waits) ∙ m)

pub returns-in_ok-absorb_headers-in-Some-clause-merged : goal.returns-in_ok-absorb_headers-in-Some-clause-merged
returns-in_ok-absorb_headers-in-Some-clause-merged g c =
    let A = g.row.A.Denot in
    let b = c.args.content.now.value in
    let known : c.is_one_wait.result ≡ true = grind (arith, common_steps) in
    let waits : (block_seen {A = A} b).wait ≡ true = sym (c.is_one_wait.ensures ∙ ap (λ (x : Block A). (block_seen x).wait) c.deref.ensures) ∙ known in
    λ m. c.in_ok-absorb_headers-in-Some.ensures.merged
    (sym (one_merged A b c.pop.new.self.items c.in-Some.only (ap (λ (x : Block A). (out-Block A x).statements.items) (sym c.deref_mut.ensures.value) ∙ c.in-Some.ensures.items) waits) ∙ m)

pub returns-in_ok-absorb_headers-in-Some-clause-listed : goal.returns-in_ok-absorb_headers-in-Some-clause-listed
returns-in_ok-absorb_headers-in-Some-clause-listed g c =
    let A = g.row.A.Denot in
    let b = c.args.content.now.value in
    let known : c.is_one_wait.result ≡ true = grind (arith, common_steps) in
    let waits : (block_seen {A = A} b).wait ≡ true = sym (c.is_one_wait.ensures ∙ ap (λ (x : Block A). (block_seen x).wait) c.deref.ensures) ∙ known in
    c.in_ok-absorb_headers-in-Some.ensures.listed
    ∙ sym (one_listed A b c.pop.new.self.items c.in-Some.only (ap (λ (x : Block A). (out-Block A x).statements.items) (sym c.deref_mut.ensures.value) ∙ c.in-Some.ensures.items) waits)

pub returns-in_ok-absorb_headers-in-Some-clause-cells : goal.returns-in_ok-absorb_headers-in-Some-clause-cells
returns-in_ok-absorb_headers-in-Some-clause-cells g c =
    let A = g.row.A.Denot in
    let b = c.args.content.now.value in
    let known : c.is_one_wait.result ≡ true = grind (arith, common_steps) in
    let waits : (block_seen {A = A} b).wait ≡ true = sym (c.is_one_wait.ensures ∙ ap (λ (x : Block A). (block_seen x).wait) c.deref.ensures) ∙ known in
    c.in_ok-absorb_headers-in-Some.ensures.cells
    ∙ sym (one_anchors A b c.pop.new.self.items c.in-Some.only (ap (λ (x : Block A). (out-Block A x).statements.items) (sym c.deref_mut.ensures.value) ∙ c.in-Some.ensures.items) waits)
