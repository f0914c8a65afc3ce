use Rattle.std.proofs.Common.{rules, arith, ◌≡◌, Ok, sym, ap, ◌∙◌}
use Rattle.std.specs.Prelude.{decimal}
use Rattle.std.proofs.lemmas.Fmt.{parse-decimal, IsAscii-decimal}
use Rattle.std.proofs.lemmas.Str.{IsUtf8-from_ascii}
use Rattle.swt_trace.proofs.number.parse_number.Goals as goal

pub returns-in_default-clause-none : goal.returns-in_default-clause-none
returns-in_default-clause-none c = λ n h e. c.in_default.ensures.cases.0 (rw e (IsUtf8-from_ascii _ (IsAscii-decimal n h)))

pub returns-in_default-parse-clause-none : goal.returns-in_default-parse-clause-none
returns-in_default-parse-clause-none c =
    λ n h e. c.in_default-parse.not-Ok n (parse-decimal 64 n _ _ h h (c.in-Ok.ensures.cases.0 ∙ e) c.parse.ensures.value.0)

pub returns-else-is_same-clause-none : goal.returns-else-is_same-clause-none
returns-else-is_same-clause-none c = λ n h e.
    let p : c.parse.result ≡ Ok n = parse-decimal 64 n _ _ h h (c.in-Ok.ensures.cases.0 ∙ e) c.parse.ensures.value.0 in
    let q : c.in-Ok-parse.n ≡ n = grind (arith, p, c.in-Ok-parse.is) in
    let b : c.as_bytes.result.now ≡ c.args.digits.now = c.as_bytes.ensures.value ∙ c.format.ensures.text ∙ ap (λ m. decimal m) q ∙ sym e in
    search (rules, b)
