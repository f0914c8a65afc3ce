use Rattle.std.proofs.Common.{arith, ◌≡◌, ◌∙◌, sym, ap, ◌++◌, ◌∷◌, [], length-append}
use Rattle.swt_trace.specs.Trace.{event_lines}
use Rattle.swt_trace.proofs.Lines.{are_lines, lacks_line, one_more, one_more_in_range}
use Rattle.swt_trace.proofs.read.read_events.Goals as goal

pub returns-in_default-clause-lines : goal.returns-in_default-clause-lines
returns-in_default-clause-lines c = are_lines c.args.bytes.now c.loop-rest.events.items c.loop-rest.rest.now c.loop-rest.invariant.in_range c.loop-rest.invariant.text

pub returns-in_default-clause-all : goal.returns-in_default-clause-all
returns-in_default-clause-all c = λ l. lacks_line c.loop-rest.rest.now c.in_default.ensures.none

pub loop-rest-preserved : goal.loop-rest-preserved
loop-rest-preserved c =
    let es = c.loop-rest.events.items in
    let e = c.in-Some.event in
    let behind = c.in-Some.behind.now in
    let items : c.push.new.self.items ≡ es ++ e ∷ [] = c.in_ok-push.ensures.items in
    record {
      text = c.loop-rest.invariant.text ∙ ap (λ xs. event_lines es xs) c.in-Some.ensures.line ∙ sym (ap (λ xs. event_lines xs behind) items ∙ one_more es e behind);
      in_range = rw items (one_more_in_range es e c.loop-rest.invariant.in_range c.in-Some.ensures.in_range);
      few = rw (items, length-append) (omega (arith, c.loop-rest-test.true, c.loop-rest.invariant.few));
    }

pub returns-clause-lines : goal.returns-clause-lines
returns-clause-lines c = are_lines c.args.bytes.now c.loop-rest.events.items c.loop-rest.rest.now c.loop-rest.invariant.in_range c.loop-rest.invariant.text
