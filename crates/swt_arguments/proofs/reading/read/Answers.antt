use Rattle.std.proofs.Common.{◌∙◌, sym, false, inl}
use Rattle.std.proofs.lemmas.List.{map-id}
use Rattle.clap.specs.Words.{app_of, kind_of}
use Rattle.swt_arguments.specs.Reader.{refusal}
use Rattle.swt_arguments.proofs.Arguments.{strange_words}
use Rattle.swt_arguments.proofs.Results.{as_err, read_err, read_ok}
use Rattle.swt_arguments.proofs.reading.read.Goals as goal

pub returns-then-not-are_plain : goal.returns-then-not-are_plain
returns-then-not-are_plain c = inl (strange_words c.args.command false c.args.words.now (sym c.are_plain.ensures ∙ c.if-not-are_plain.true))

pub returns-in_err-try_get_matches_from : goal.returns-in_err-try_get_matches_from
returns-in_err-try_get_matches_from c =
    let error = c.in_err-try_get_matches_from.field-0.0 in
    let kinds = rw map-id at c.in_err-try_get_matches_from.ensures.kinds in
    as_err _ _ _ (refusal (kind_of error)) c.from_residual-in_err-try_get_matches_from.ensures.1
    (read_err c.args.command c.args.words.now error (app_of c.in_ok-reader.field-0) (sym c.are_plain.ensures ∙ c.if-not-are_plain.false) c.in_ok-reader.ensures kinds)

pub returns : goal.returns
returns c =
    let kinds = rw map-id at c.in_ok-try_get_matches_from.ensures.kinds in
    let matches = rw map-id at c.in_ok-try_get_matches_from.ensures.matches in
    read_ok c.args.command c.args.words.now c.in_ok-try_get_matches_from.field-0 (app_of c.in_ok-reader.field-0) (sym c.are_plain.ensures ∙ c.if-not-are_plain.false)
    c.in_ok-reader.ensures kinds matches
