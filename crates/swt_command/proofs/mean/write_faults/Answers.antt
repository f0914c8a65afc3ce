use Rattle.std.proofs.Common.{rules, ◌≡◌, ◌<◌, ap, length, get_or, ◌∙◌}
use Rattle.std.specs.List.{flat_map}
use Rattle.values.specs.Sinks.{Beginning}
use Rattle.swt_trace.specs.Report.{fault_line}
use Rattle.swt_trace.proofs.Parts.{in_texts, next_text}
use Rattle.swt_command.proofs.mean.write_faults.Goals as goal

pub returns-in_err-write_fault-clause-err : goal.returns-in_err-write_fault-clause-err
returns-in_err-write_fault-clause-err g c =
    let l : c.loop-fault.fault-index < length c.args.faults.now.items = rw (← c.deref-fault-items.ensures.value) c.loop-fault-test.true in
    let q : c.fault-item.result ≡ get_or c.args.faults.now.items c.loop-fault.fault-index c.fault-item.result = (cc) in
    let p : fault_line c.fault-item.result ≡ fault_line (get_or c.args.faults.now.items c.loop-fault.fault-index c.fault-item.result) = ap (λ s. fault_line s) q in
    let b : Beginning (g.W.Sink.taken c.args.sink.now) (flat_map fault_line c.args.faults.now.items) (g.W.Sink.taken c.write_fault.new.sink) =
    in_texts fault_line c.args.faults.now.items c.loop-fault.fault-index c.fault-item.result _ (g.W.Sink.taken c.loop-fault.sink) _ _ l c.loop-fault.invariant.taken p c.in_err-write_fault.ensures.err in
    search (rules, b)

pub loop-fault-preserved : goal.loop-fault-preserved
loop-fault-preserved g c =
    let l : c.loop-fault.fault-index < length c.args.faults.now.items = rw (← c.deref-fault-items.ensures.value) c.loop-fault-test.true in
    let q : c.fault-item.result ≡ get_or c.args.faults.now.items c.loop-fault.fault-index c.fault-item.result = (cc) in
    let p : fault_line c.fault-item.result ≡ fault_line (get_or c.args.faults.now.items c.loop-fault.fault-index c.fault-item.result) = ap (λ s. fault_line s) q in
    record {
      taken = next_text fault_line c.args.faults.now.items c.loop-fault.fault-index c.fault-item.result _ (g.W.Sink.taken c.loop-fault.sink) _ _ l c.loop-fault.invariant.taken p c.in_ok-write_fault.ensures.ok;
      failures = c.in_ok-write_fault.ensures.none_failed ∙ c.loop-fault.invariant.failures;
    }
