-- The program's command line, in clap's own terms.
use Rattle.std.specs.Prelude.{ℕ, pos, List, [], ◌∷◌, ◌++◌, Bool, Option, None, Some, true, false, codes, bytes_eq}
use Rattle.std.specs.Str.Parse.{digits_value, without_leading_plus}
use Rattle.clap.specs.Words.{App, Kinds, Row, Rule, Text, new_app, new_rule, one_of, first_of, matches_of, fault_of}
use Rattle.clap.specs.Simple.{on_top}
use Rattle.clap.specs.declared.builder.action.ArgAction.TheVariants.{Set, SetTrue}
use Rattle.clap.specs.declared.builder.value_parser.ValueParser.TheVariants as parser
use Rattle.site_args.specs.declared.answer.Flags.{Flags}
use Rattle.site_args.specs.declared.options.Given.{Given}
use Rattle.site_args.specs.declared.options.Given.TheVariants.{Number, File, Nothing}
use Rattle.site_args.specs.declared.options.OptionRow.{OptionRow}

-- how an option of that name is read
abbrev pub rule : Text → Given → Rule
rule name (Number most) = record (new_rule name) {
  long = Some name;
  value_names = 1;
  action = Some Set;
  parser = Some (parser.Signed (pos 1) (pos most));
}
rule name File = record (new_rule name) { long = Some name; value_names = 1; action = Some Set }
rule name Nothing = record (new_rule name) { long = Some name; action = Some SetTrue }

-- the options; clap adds `--help`
abbrev pub option_rules : List Rule
option_rules =
    -- how many calls each page has, and how many texts are kept
    rule (codes "calls") (Number 100000) ∷ rule (codes "cache") (Number 4096)
    -- whether the plugin `snippets` is there, and whether invocations are told
    ∷ rule (codes "snippets") Nothing ∷ rule (codes "trace") Nothing
    -- the file that the site is kept in, whether it has to be there, and whether it may be without SQLite's log beside it
    ∷ rule (codes "database") File ∷ rule (codes "must-exist") Nothing ∷ rule (codes "without-wal") Nothing
    -- whether its short history is printed, or put in the place of the history, or the history only read
    ∷ rule (codes "export") Nothing ∷ rule (codes "compact") Nothing ∷ rule (codes "check") Nothing
    -- whether the site is served over HTTP, to many clients on one stream of frames, and the file with the token for edits
    ∷ rule (codes "http") Nothing ∷ rule (codes "framed") Nothing ∷ rule (codes "token-file") File ∷ []

-- an app with these rules after its own
abbrev pub with_rules : App → List Rule → App
with_rules app rules = on_top (λ s. record s { rules = s.rules ++ rules }) app

-- `site`, of the command-line arguments alone
abbrev pub bare_app : App
bare_app = on_top (λ s. record s { no_binary_name = true }) (new_app (codes "site"))

unfoldable pub site_app : App
site_app = with_rules bare_app option_rules

-- why clap refuses the arguments, by the first of its steps that does, and nothing if it accepts them
abbrev pub reasons : List Text → Kinds
reasons words = fault_of site_app words

-- the number that is given in decimal digits, or the default if none is given
abbrev pub number_or : ℕ → Option Text → ℕ
number_or default None = default
number_or default (Some text) = digits_value 10 (without_leading_plus text)

-- how many calls each page has: 10,000 unless the arguments say another number
abbrev pub calls_of : List Text → ℕ
calls_of words = number_or 10000 (one_of (codes "calls") (matches_of site_app words))

-- how many texts are kept: 64 unless the arguments say another number
abbrev pub cache_of : List Text → ℕ
cache_of words = number_or 64 (one_of (codes "cache") (matches_of site_app words))

-- a flag is given if clap has the text `true` for it
abbrev pub is_given : Option Text → Bool
is_given None = false
is_given (Some text) = bytes_eq text (codes "true")

-- whether clap found the flag of that name
abbrev pub has_flag : List Row → Text → Bool
has_flag found name = is_given (first_of name found)

-- the options that are given nothing, each under its name
abbrev pub flags_in : List Row → Flags
flags_in found = record {
  snippets = has_flag found (codes "snippets");
  trace = has_flag found (codes "trace");
  must_exist = has_flag found (codes "must-exist");
  without_wal = has_flag found (codes "without-wal");
  export = has_flag found (codes "export");
  compact = has_flag found (codes "compact");
  check = has_flag found (codes "check");
  http = has_flag found (codes "http");
  framed = has_flag found (codes "framed");
}

abbrev pub flags_of : List Text → Flags
flags_of words = flags_in (matches_of site_app words)

-- the file that the site is kept in, if the arguments name one
abbrev pub database_of : List Text → Option Text
database_of words = first_of (codes "database") (matches_of site_app words)

-- the file with the token that edits over HTTP need, if the arguments name one
abbrev pub token_file_of : List Text → Option Text
token_file_of words = first_of (codes "token-file") (matches_of site_app words)

-- ---- definitions for private clauses

-- how a row's option is read
abbrev pub rule_of_row : OptionRow → Rule
rule_of_row row = rule row.name.now row.given
