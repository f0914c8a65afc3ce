use Rattle.std.proofs.Common.{◌≡◌, ◌∙◌, sym, ap, refl, subst, ℕ, ◌<◌, List, [], length}
use Rattle.host.specs.Events.{given}
use Rattle.swt_status.specs.Statuses.{number_of}
use Rattle.swt_status.specs.declared.failure.CommandFailure.TheVariants.{Untraced}
use Rattle.swt_command.specs.Files.{contents}
use Rattle.swt_command.specs.Sinks.{Held, held}
use Rattle.swt_command.specs.Troubles.{trouble_line}
use Rattle.swt_command.proofs.Sinks.{given as given_by}
use Rattle.swt_process.specs.Ends.{Did}
use Rattle.swt_process.proofs.Endings.{did_close, did_lose, did_stop, quiet, same_held, untraced}
use Rattle.swt_process.proofs.Unchanged.{none_given, none_replaced, none_unsafe}
use Rattle.swt_process.proofs.traced.with_trace.Goals as goal

pub new-trace-requires-clause-safe : goal.new-trace-requires-clause-safe
new-trace-requires-clause-safe g c = none_unsafe g.K.TraceContext.place (g.H.Host.history c.args.host) c.requires.none

pub new-trace-requires-clause-unnamed : goal.new-trace-requires-clause-unnamed
new-trace-requires-clause-unnamed g c = none_replaced (g.H.Host.history c.args.host) c.requires.none

pub new-trace-requires-clause-none : goal.new-trace-requires-clause-none
new-trace-requires-clause-none g c = none_given (g.H.Host.history c.args.host) c.requires.none

pub returns-then-is_kept-clause-did : goal.returns-then-is_kept-clause-did
returns-then-is_kept-clause-did g c =
    let line = c.args.line.now in let files = contents c.args.files.now in let place = g.K.TraceContext.place in let h = g.H.Host.history c.finish-is_kept.result.1 in
    let out : Held = held (g.O.Sink.taken c.args.out.now) (g.O.Sink.failures c.args.out.now) in
    let out_new : Held = held (g.O.Sink.taken c.command-status.new.out) (g.O.Sink.failures c.command-status.new.out) in
    let err : Held = held (g.E.Sink.taken c.args.err.now) (g.E.Sink.failures c.args.err.now) in
    let mid : Held = held (g.E.Sink.taken c.command-status.new.err) (g.E.Sink.failures c.command-status.new.err) in
    let failures = c.command-status.new.trace.failures in let number = c.command-status.result in
    let trace : Held = held (given (g.H.Host.history c.new-trace.result.host)) c.new-trace.result.failures in
    let new : Held = held (given (g.H.Host.history c.command-status.new.trace.host)) failures in
    let at_first : trace ≡ held [] 0 =
    same_held (given (g.H.Host.history c.new-trace.result.host)) [] c.new-trace.result.failures 0
    (ap given c.new-trace.ensures.history ∙ none_given (g.H.Host.history c.args.host) c.requires.none) c.new-trace.ensures.failures in
    let at_last : new ≡ held (given h) failures =
    same_held (given (g.H.Host.history c.command-status.new.trace.host)) (given h) failures failures (sym c.finish-is_kept.ensures.given) refl in
    did_close line files place h out out_new err mid failures number trace new at_first at_last c.command-status.ensures (c.finish-is_kept.ensures.kept c.if-is_kept.true) c.finish-is_kept.ensures.cut

pub returns-clause-did : goal.returns-clause-did
returns-clause-did g c =
    let line = c.args.line.now in let files = contents c.args.files.now in let place = g.K.TraceContext.place in let h = g.H.Host.history c.finish-is_kept.result.1 in
    let out : Held = held (g.O.Sink.taken c.args.out.now) (g.O.Sink.failures c.args.out.now) in
    let out_new : Held = held (g.O.Sink.taken c.command-status.new.out) (g.O.Sink.failures c.command-status.new.out) in
    let err : Held = held (g.E.Sink.taken c.args.err.now) (g.E.Sink.failures c.args.err.now) in
    let mid : Held = held (g.E.Sink.taken c.command-status.new.err) (g.E.Sink.failures c.command-status.new.err) in
    let failures = c.command-status.new.trace.failures in let number = c.command-status.result in
    let trace : Held = held (given (g.H.Host.history c.new-trace.result.host)) c.new-trace.result.failures in
    let new : Held = held (given (g.H.Host.history c.command-status.new.trace.host)) failures in
    let at_first : trace ≡ held [] 0 =
    same_held (given (g.H.Host.history c.new-trace.result.host)) [] c.new-trace.result.failures 0
    (ap given c.new-trace.ensures.history ∙ none_given (g.H.Host.history c.args.host) c.requires.none) c.new-trace.ensures.failures in
    let at_last : new ≡ held (given h) failures =
    same_held (given (g.H.Host.history c.command-status.new.trace.host)) (given h) failures failures (sym c.finish-is_kept.ensures.given) refl in
    did_stop line files place h out out_new err mid failures number trace new at_first at_last c.command-status.ensures (sym c.is_reported.ensures ∙ c.if-is_reported.false) c.finish-is_kept.ensures.cut

pub write_failure-requires : goal.write_failure-requires
write_failure-requires g c =
    let same : held (g.E.Sink.taken c.command-status.new.err) (g.E.Sink.failures c.command-status.new.err) ≡ held (g.E.Sink.taken c.args.err.now) (g.E.Sink.failures c.args.err.now) =
    quiet c.command-status.ensures (sym c.is_reported.ensures ∙ c.if-is_reported.true) in
    subst (λ (n : ℕ). n < 18446744073709551615) (sym (ap (λ (t : Held). t.failures) same)) c.requires.err

pub returns-then-is_reported-clause-did : goal.returns-then-is_reported-clause-did
returns-then-is_reported-clause-did g c =
    let line = c.args.line.now in let files = contents c.args.files.now in let place = g.K.TraceContext.place in let h = g.H.Host.history c.finish-is_kept.result.1 in
    let out : Held = held (g.O.Sink.taken c.args.out.now) (g.O.Sink.failures c.args.out.now) in
    let out_new : Held = held (g.O.Sink.taken c.command-status.new.out) (g.O.Sink.failures c.command-status.new.out) in
    let err : Held = held (g.E.Sink.taken c.args.err.now) (g.E.Sink.failures c.args.err.now) in
    let mid : Held = held (g.E.Sink.taken c.command-status.new.err) (g.E.Sink.failures c.command-status.new.err) in
    let failures = c.command-status.new.trace.failures in let number = c.command-status.result in
    let trace : Held = held (given (g.H.Host.history c.new-trace.result.host)) c.new-trace.result.failures in
    let new : Held = held (given (g.H.Host.history c.command-status.new.trace.host)) failures in
    let at_first : trace ≡ held [] 0 =
    same_held (given (g.H.Host.history c.new-trace.result.host)) [] c.new-trace.result.failures 0
    (ap given c.new-trace.ensures.history ∙ none_given (g.H.Host.history c.args.host) c.requires.none) c.new-trace.ensures.failures in
    let at_last : new ≡ held (given h) failures =
    same_held (given (g.H.Host.history c.command-status.new.trace.host)) (given h) failures failures (sym c.finish-is_kept.ensures.given) refl in
    let last : Held = held (g.E.Sink.taken c.write_failure.new.err) (g.E.Sink.failures c.write_failure.new.err) in
    let seven : c.number.result ≡ 7 = c.number.ensures ∙ ap number_of c.status.ensures in
    subst (λ (n : ℕ). Did line files place h out out_new err last n) (sym seven) (
    did_lose line files place h out out_new err mid failures number trace new last at_first at_last c.command-status.ensures (sym c.is_reported.ensures ∙ c.if-is_reported.true)
    (c.finish-is_kept.ensures.lost c.if-is_kept.false)
    (subst (λ (bs : List ℕ). 0 < length bs) (sym c.finish-is_kept.ensures.given) (c.finish-is_kept.ensures.written c.if-is_kept.false))
    (c.finish-is_kept.ensures.refused c.if-is_kept.false) (given_by c.write_failure.result mid last (trouble_line Untraced []) c.write_failure.ensures))

pub returns-then-is_kept-clause-unchanged : goal.returns-then-is_kept-clause-unchanged
returns-then-is_kept-clause-unchanged g c = λ n.
    let kept = untraced c.command-status.ensures n in
    c.finish-is_kept.ensures.unchanged
    (ap (λ (t : Held). t.bytes) kept ∙ ap given c.new-trace.ensures.history ∙ none_given (g.H.Host.history c.args.host) c.requires.none)
    (ap (λ (t : Held). t.failures) kept ∙ c.new-trace.ensures.failures) ∙ c.requires.changed

pub returns-clause-unchanged : goal.returns-clause-unchanged
returns-clause-unchanged g c = λ n.
    let kept = untraced c.command-status.ensures n in
    c.finish-is_kept.ensures.unchanged
    (ap (λ (t : Held). t.bytes) kept ∙ ap given c.new-trace.ensures.history ∙ none_given (g.H.Host.history c.args.host) c.requires.none)
    (ap (λ (t : Held). t.failures) kept ∙ c.new-trace.ensures.failures) ∙ c.requires.changed

pub returns-then-is_reported-clause-unchanged : goal.returns-then-is_reported-clause-unchanged
returns-then-is_reported-clause-unchanged g c = λ n.
    let kept = untraced c.command-status.ensures n in
    c.finish-is_kept.ensures.unchanged
    (ap (λ (t : Held). t.bytes) kept ∙ ap given c.new-trace.ensures.history ∙ none_given (g.H.Host.history c.args.host) c.requires.none)
    (ap (λ (t : Held). t.failures) kept ∙ c.new-trace.ensures.failures) ∙ c.requires.changed
