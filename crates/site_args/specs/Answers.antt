-- What the program makes of its arguments.
use Rattle.std.specs.Prelude.{◌≡◌, ◌≢◌, ◌≤◌, ◌⊎◌, List, [], Bool, true, false, not, ◌&&◌, ◌||◌, Option, None, Some, option_map, is_none, string_bytes}
use Rattle.clap.specs.Words.{IsAmong, Kinds, Text}
use Rattle.clap.specs.declared.error.kind.ErrorKind.{ErrorKind}
use Rattle.clap.specs.declared.error.kind.ErrorKind.TheVariants.{DisplayHelp}
use Rattle.site_args.specs.CommandLine.{calls_of, cache_of, database_of, flags_of, reasons, token_file_of}
use Rattle.site_args.specs.declared.answer.Flags.{Flags}
use Rattle.site_args.specs.declared.answer.Task.{Task}
use Rattle.site_args.specs.declared.answer.Task.TheVariants.{Serve, ServeFile, Export, Compact, Check}
use Rattle.site_args.specs.declared.answer.Options.{Options}
use Rattle.site_args.specs.declared.answer.ArgsAnswer.{ArgsAnswer}
use Rattle.site_args.specs.declared.answer.ArgsAnswer.TheVariants.{Run, Help, Bad, OutOfMemory}

-- 1 to 100,000 calls, and 1 to 4,096 texts
abbrev pub HasRanges : ArgsAnswer → Type 0
HasRanges (Run calls cache flags token_file task) = ((1 ≤ calls) × (calls ≤ 100000)) × ((1 ≤ cache) × (cache ≤ 4096))
HasRanges _ = Unit {0}

-- the numbers are those of the arguments, and so are the options that stand for themselves
abbrev pub HasNumbers : List Text → ArgsAnswer → Type 0
HasNumbers words (Run calls cache flags token_file task) =
    (calls ≡ calls_of words) × (cache ≡ cache_of words) × (flags ≡ flags_of words) × (option_map string_bytes token_file ≡ token_file_of words)
HasNumbers words _ = Unit {0}

-- `--must-exist`, `--without-wal`, `--export`, `--compact` and `--check` each need a database, and of the last three there is at
-- most one
abbrev pub go_together : Option Text → (must_exist without_wal export compact check : Bool) → Bool
go_together None must_exist without_wal export compact check = not (must_exist || without_wal || export || compact || check)
go_together (Some path) must_exist without_wal export compact check = not ((export && compact) || (export && check) || (compact && check))

-- what they ask for, which is nothing if they don't go together
abbrev pub AsksFor : Option Text → (must_exist without_wal export compact check : Bool) → Option Task → Type 0
AsksFor None false false false false false (Some Serve) = Unit {0}
AsksFor (Some path) must_exist without_wal false false false (Some (ServeFile file)) = string_bytes file ≡ path
AsksFor (Some path) must_exist without_wal true false false (Some (Export file)) = string_bytes file ≡ path
AsksFor (Some path) must_exist without_wal false true false (Some (Compact file)) = string_bytes file ≡ path
AsksFor (Some path) must_exist without_wal false false true (Some (Check file)) = string_bytes file ≡ path
AsksFor database must_exist without_wal export compact check None = go_together database must_exist without_wal export compact check ≡ false
AsksFor _ _ _ _ _ _ _ = ⊥

-- the same, by all flags
abbrev pub AsksBy : Option Text → Flags → Option Task → Type 0
AsksBy database flags task = AsksFor database flags.must_exist flags.without_wal flags.export flags.compact flags.check task

-- what these arguments ask for
abbrev pub IsTask : List Text → Option Task → Type 0
IsTask words task = AsksBy (database_of words) (flags_of words) task

-- only what is served can be served over HTTP, and only then there may be frames or a token
abbrev pub suits : (http framed no_token : Bool) → Task → Bool
suits false framed no_token task = no_token && not framed
suits true framed no_token Serve = true
suits true framed no_token (ServeFile file) = true
suits true framed no_token _ = false

abbrev pub suits_by : Flags → (no_token : Bool) → Task → Bool
suits_by flags no_token task = suits flags.http flags.framed no_token task

-- what is asked for doesn't suit these arguments
abbrev pub IsUnsuited : List Text → Type 0
IsUnsuited words = (task : Task) × IsTask words (Some task) × (suits_by (flags_of words) (is_none (token_file_of words)) task ≡ false)

-- clap refuses the arguments, for another reason than that help is asked for
abbrev pub IsRefusedFor : Kinds → Type 0
IsRefusedFor kinds = (kind : ErrorKind) × (kind ≢ DisplayHelp) × IsAmong kind kinds

-- clap accepts the arguments and the options go together, or it asks to show help, or one of the two refuses; on allocation failure
-- nothing else is stated
abbrev pub IsOutcome : List Text → ArgsAnswer → Type 0
IsOutcome words (Run calls cache flags token_file task) = (reasons words ≡ []) × IsTask words (Some task)
    × (suits_by (flags_of words) (is_none (token_file_of words)) task ≡ true)
IsOutcome words (Help text) = IsAmong DisplayHelp (reasons words)
IsOutcome words (Bad text) = IsRefusedFor (reasons words) ⊎ ((reasons words ≡ []) × (IsTask words None ⊎ IsUnsuited words))
IsOutcome words OutOfMemory = Unit {0}

-- ---- definitions for private clauses

-- what clap's error comes to
abbrev pub IsRefusal : Kinds → ArgsAnswer → Type 0
IsRefusal kinds (Run calls cache flags token_file task) = ⊥
IsRefusal kinds (Help text) = IsAmong DisplayHelp kinds
IsRefusal kinds (Bad text) = IsRefusedFor kinds
IsRefusal kinds OutOfMemory = Unit {0}

-- it refuses the arguments, unless memory for that runs out
abbrev pub IsBad : ArgsAnswer → Type 0
IsBad (Bad text) = Unit {0}
IsBad OutOfMemory = Unit {0}
IsBad _ = ⊥

-- these options ask for this task
abbrev pub AskBy : Options → Option Task → Type 0
AskBy o task = AsksBy (option_map string_bytes o.database) o.flags task

-- the task suits these options
abbrev pub suit : Options → Task → Bool
suit o task = suits_by o.flags (is_none (option_map string_bytes o.token_file)) task

-- what options that were read come to
abbrev pub IsReadFrom : Options → ArgsAnswer → Type 0
IsReadFrom o (Run calls cache flags token_file task) =
    (calls ≡ o.calls) × (cache ≡ o.cache) × (flags ≡ o.flags) × (option_map string_bytes token_file ≡ option_map string_bytes o.token_file)
    × AskBy o (Some task) × (suit o task ≡ true)
IsReadFrom o (Help text) = ⊥
IsReadFrom o (Bad text) = AskBy o None ⊎ ((task : Task) × AskBy o (Some task) × (suit o task ≡ false))
IsReadFrom o OutOfMemory = Unit {0}
