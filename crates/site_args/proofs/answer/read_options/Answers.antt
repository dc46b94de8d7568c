use Rattle.std.proofs.Common.{◌≡◌, ◌∙◌, arith, lit≤, ap, sym, subst, codes, map}
use Rattle.std.specs.Prelude.{string_bytes}
use Rattle.std.specs.Str.Parse.{ParsesUnsigned, ExplainsUnsignedError, HasUnsignedDigitsIfOk}
use Rattle.std.proofs.lemmas.Result.{err_from_is_err_and}
use Rattle.clap.specs.Words.{App, HasKind, app_of, fault_of, found_of, is_simple, is_simple_and_free, matches_of, one_of, one_text, first_of, rows_of}
use Rattle.clap.proofs.WalkLemmas.{one_text-rows, first_value-rows}
use Rattle.site_args.specs.CommandLine.{number_or, flags_in, site_app}
use Rattle.site_args.proofs.SiteApp.{simple, simple_and_free}
use Rattle.site_args.proofs.GivenValues.{calls_read, cache_read, number_is}
use Rattle.site_args.proofs.answer.read_options.Goals as goal

pub returns-clause-kinds : goal.returns-clause-kinds
returns-clause-kinds c = ap (λ a. fault_of a (map string_bytes c.args.words.now)) (sym c.in_ok-command.ensures)
    ∙ c.in_ok-matches.ensures.kinds (ap is_simple_and_free c.in_ok-command.ensures ∙ simple_and_free)

pub returns-in_err-matches-clause-kinds : goal.returns-in_err-matches-clause-kinds
returns-in_err-matches-clause-kinds c =
    let failed = err_from_is_err_and c.from_residual-in_err-matches.result c.from_residual-in_err-matches.ensures.1 in
    let kind : HasKind (fault_of (app_of c.in_ok-command.command) (map string_bytes c.args.words.now)) c.in_err-matches.field-0.0 =
    c.in_err-matches.ensures.kinds (ap is_simple_and_free c.in_ok-command.ensures ∙ simple_and_free) in
    rw (failed.1, failed.2) (subst (λ (a : App). HasKind (fault_of a (map string_bytes c.args.words.now)) c.in_err-matches.field-0.0) c.in_ok-command.ensures
    kind)

-- the rows of the matches are those of the arguments
rows_are : (c : goal.Joined-matches-3) → rows_of (found_of c.in_ok-matches.matches) ≡ matches_of site_app (map string_bytes c.args.words.now)
rows_are c = (c.in_ok-matches.ensures.matches (ap is_simple c.in_ok-command.ensures ∙ simple)).0
    ∙ ap (λ a. matches_of a (map string_bytes c.args.words.now)) c.in_ok-command.ensures

pub returns-clause-calls : goal.returns-clause-calls
returns-clause-calls c =
    let text = one_text-rows (found_of c.in_ok-matches.matches) (codes "calls") ∙ ap (one_of (codes "calls")) (rows_are c) in
    let number = number_is (λ bs r. ParsesUnsigned 32 10 bs r × ExplainsUnsignedError 10 bs r × HasUnsignedDigitsIfOk bs r) 10000 100000
    (one_text (found_of c.in_ok-matches.matches) (codes "calls")) c.get_one.result (λ u x g. g.0) (omega arith) (lit≤ tt, lit≤ tt) c.get_one.ensures.none
    c.get_one.ensures.value (calls_read c.in_ok-command.command c.in_ok-matches.matches c.in_ok-command.ensures c.in_ok-matches.ensures.parsed) in
    rw c.unwrap_or-calls.ensures (number.0, number.1, number.2 ∙ ap (number_or 10000) text)

pub returns-clause-cache : goal.returns-clause-cache
returns-clause-cache c =
    let text = one_text-rows (found_of c.in_ok-matches.matches) (codes "cache") ∙ ap (one_of (codes "cache")) (rows_are c) in
    let number = number_is (λ bs r. ParsesUnsigned 32 10 bs r × ExplainsUnsignedError 10 bs r × HasUnsignedDigitsIfOk bs r) 64 4096
    (one_text (found_of c.in_ok-matches.matches) (codes "cache")) c.get_one-2.result (λ u x g. g.0) (omega arith) (lit≤ tt, lit≤ tt)
    c.get_one-2.ensures.none c.get_one-2.ensures.value (cache_read c.in_ok-command.command c.in_ok-matches.matches c.in_ok-command.ensures
    c.in_ok-matches.ensures.parsed) in
    rw c.unwrap_or-cache.ensures (number.0, number.1, number.2 ∙ ap (number_or 64) text)

pub returns-clause-flags : goal.returns-clause-flags
returns-clause-flags c = c.flags_in-flags.ensures ∙ ap flags_in (rows_are c)

pub returns-clause-token_file : goal.returns-clause-token_file
returns-clause-token_file c = c.in_ok-token_file.ensures
    ∙ (c.get_str-2.ensures ∙ first_value-rows (found_of c.in_ok-matches.matches) (codes "token-file")
    ∙ ap (first_of (codes "token-file")) (rows_are c))

pub returns-clause-database : goal.returns-clause-database
returns-clause-database c = c.in_ok-database.ensures
    ∙ (c.get_str.ensures ∙ first_value-rows (found_of c.in_ok-matches.matches) (codes "database") ∙ ap (first_of (codes "database")) (rows_are c))
