-- Worked command lines, computed.
use Rattle.std.proofs.Common.{◌≡◌, List, [], ◌∷◌, codes, refl, true, false, Some, None}
use Rattle.clap.proofs.OnLiterals.{clap_on_literals}
use Rattle.clap.specs.Words.{Text}
use Rattle.clap.specs.declared.error.kind.ErrorKind.TheVariants as kind
use Rattle.site_args.specs.CommandLine.{calls_of, cache_of, database_of, flags_of, token_file_of, reasons, site_app}

pub no_words : reasons [] ≡ []
unfolding clap_on_literals site_app
no_words = refl

pub default_calls : calls_of [] ≡ 10000
unfolding clap_on_literals site_app
default_calls = refl

pub default_cache : cache_of [] ≡ 64
unfolding clap_on_literals site_app
default_cache = refl

abbrev pub two_options : List Text
two_options = codes "--calls" ∷ codes "100000" ∷ codes "--cache" ∷ codes "1" ∷ []

pub both : reasons two_options ≡ []
unfolding clap_on_literals site_app
both = refl

pub both_calls : calls_of two_options ≡ 100000
unfolding clap_on_literals site_app
both_calls = refl

pub both_cache : cache_of two_options ≡ 1
unfolding clap_on_literals site_app
both_cache = refl

pub one_word : cache_of (codes "--cache=4096" ∷ []) ≡ 4096
unfolding clap_on_literals site_app
one_word = refl

pub no_calls : reasons (codes "--calls" ∷ codes "0" ∷ []) ≡ kind.ValueValidation ∷ []
unfolding clap_on_literals site_app
no_calls = refl

pub too_many_calls : reasons (codes "--calls" ∷ codes "100001" ∷ []) ≡ kind.ValueValidation ∷ []
unfolding clap_on_literals site_app
too_many_calls = refl

pub no_cache : reasons (codes "--cache" ∷ codes "0" ∷ []) ≡ kind.ValueValidation ∷ []
unfolding clap_on_literals site_app
no_cache = refl

pub too_large_cache : reasons (codes "--cache" ∷ codes "4097" ∷ []) ≡ kind.ValueValidation ∷ []
unfolding clap_on_literals site_app
too_large_cache = refl

pub no_number : reasons (codes "--calls" ∷ codes "x" ∷ []) ≡ kind.ValueValidation ∷ []
unfolding clap_on_literals site_app
no_number = refl

pub twice : reasons (codes "--calls" ∷ codes "5" ∷ codes "--calls" ∷ codes "5" ∷ []) ≡ kind.ArgumentConflict ∷ []
unfolding clap_on_literals site_app
twice = refl

pub no_value : reasons (codes "--calls" ∷ []) ≡ kind.InvalidValue ∷ []
unfolding clap_on_literals site_app
no_value = refl

pub no_option : reasons (codes "--pages" ∷ []) ≡ kind.UnknownArgument ∷ []
unfolding clap_on_literals site_app
no_option = refl

pub stray_word : reasons (codes "x" ∷ []) ≡ kind.UnknownArgument ∷ []
unfolding clap_on_literals site_app
stray_word = refl

pub help : reasons (codes "--help" ∷ []) ≡ kind.DisplayHelp ∷ []
unfolding clap_on_literals site_app
help = refl

pub no_trace : (flags_of []).trace ≡ false
unfolding clap_on_literals site_app
no_trace = refl

pub traced : reasons (codes "--trace" ∷ []) ≡ []
unfolding clap_on_literals site_app
traced = refl

pub trace : (flags_of (codes "--trace" ∷ [])).trace ≡ true
unfolding clap_on_literals site_app
trace = refl

pub traced_twice : reasons (codes "--trace" ∷ codes "--trace" ∷ []) ≡ kind.ArgumentConflict ∷ []
unfolding clap_on_literals site_app
traced_twice = refl

abbrev pub export_options : List Text
export_options = codes "--database" ∷ codes "a.db" ∷ codes "--export" ∷ []

pub no_database : database_of [] ≡ None
unfolding clap_on_literals site_app
no_database = refl

pub exported : reasons export_options ≡ []
unfolding clap_on_literals site_app
exported = refl

pub database : database_of export_options ≡ Some (codes "a.db")
unfolding clap_on_literals site_app
database = refl

pub export : (flags_of export_options).export ≡ true
unfolding clap_on_literals site_app
export = refl

pub not_compact : (flags_of export_options).compact ≡ false
unfolding clap_on_literals site_app
not_compact = refl

pub compact : (flags_of (codes "--compact" ∷ [])).compact ≡ true
unfolding clap_on_literals site_app
compact = refl

pub no_file : reasons (codes "--database" ∷ []) ≡ kind.InvalidValue ∷ []
unfolding clap_on_literals site_app
no_file = refl

pub two_databases : reasons (codes "--database" ∷ codes "a" ∷ codes "--database" ∷ codes "a" ∷ []) ≡ kind.ArgumentConflict ∷ []
unfolding clap_on_literals site_app
two_databases = refl

pub check : (flags_of (codes "--database" ∷ codes "a.db" ∷ codes "--check" ∷ [])).check ≡ true
unfolding clap_on_literals site_app
check = refl

pub must_exist : (flags_of (codes "--must-exist" ∷ [])).must_exist ≡ true
unfolding clap_on_literals site_app
must_exist = refl

pub may_be_new : (flags_of (codes "--database" ∷ codes "a.db" ∷ [])).must_exist ≡ false
unfolding clap_on_literals site_app
may_be_new = refl

pub without_wal : (flags_of (codes "--without-wal" ∷ [])).without_wal ≡ true
unfolding clap_on_literals site_app
without_wal = refl

pub with_wal : (flags_of (codes "--database" ∷ codes "a.db" ∷ [])).without_wal ≡ false
unfolding clap_on_literals site_app
with_wal = refl

abbrev pub http_options : List Text
http_options = codes "--http" ∷ codes "--token-file" ∷ codes "key" ∷ []

pub served_over_http : reasons http_options ≡ []
unfolding clap_on_literals site_app
served_over_http = refl

pub http : (flags_of http_options).http ≡ true
unfolding clap_on_literals site_app
http = refl

pub token_file : token_file_of http_options ≡ Some (codes "key")
unfolding clap_on_literals site_app
token_file = refl

pub served_as_lines : (flags_of []).http ≡ false
unfolding clap_on_literals site_app
served_as_lines = refl

pub framed : (flags_of (codes "--http" ∷ codes "--framed" ∷ [])).framed ≡ true
unfolding clap_on_literals site_app
framed = refl

pub one_client : (flags_of (codes "--http" ∷ [])).framed ≡ false
unfolding clap_on_literals site_app
one_client = refl

pub no_token : token_file_of (codes "--http" ∷ []) ≡ None
unfolding clap_on_literals site_app
no_token = refl
