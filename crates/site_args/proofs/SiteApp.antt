-- Facts about the program's command line, computed.
use Rattle.std.proofs.Common.{rules, ◌≡◌, ◌∙◌, ℕ, ◌+◌, ◌<◌, List, [], ◌∷◌, ◌++◌, length, take, map, true, refl, ap}
use Rattle.std.specs.List.{All, list_all, slice_index_or}
use Rattle.std.proofs.lemmas.List.{append_assoc, map-append, take_more}
use Rattle.clap.specs.Words.{App, Rule, app_of, args_of, is_simple, is_simple_and_free, rule_of, with_rule}
use Rattle.clap.specs.Simple.{on_top}
use Rattle.clap.specs.declared.builder.command.Command.{Command}
use Rattle.clap.proofs.OnLiterals.{clap_on_literals}
use Rattle.clap.proofs.SimpleLemmas.{HasPlainFields, plain_fields, simple_groups}
use Rattle.site_args.specs.CommandLine.{option_rules, rule_of_row, site_app, with_rules}
use Rattle.site_args.specs.declared.options.OptionRow.{OptionRow}

pub simple : is_simple site_app ≡ true
unfolding clap_on_literals site_app
simple = refl

pub simple_and_free : is_simple_and_free site_app ≡ true
unfolding clap_on_literals site_app
simple_and_free = refl

pub rules_are : (c : Command) → app_of c ≡ site_app → map rule_of (args_of c) ≡ option_rules
unfolding site_app
rules_are c is = ap (λ (a : App). a.top.rules) is

-- there are no groups, and no option is in one
pub plain : (c : Command) → app_of c ≡ site_app → HasPlainFields c
unfolding site_app
plain c is = plain_fields c (ap (λ (a : App). a.top.is_plain) is)

pub no_groups : (c : Command) → app_of c ≡ site_app → All (λ a. a.groups.items ≡ []) (args_of c)
unfolding site_app
no_groups c is = simple_groups c (ap (λ (a : App). list_all (λ (r : Rule). r.is_simple) a.top.rules) is)

-- the options of the rows so far, and that of one more
pub one_more : (first old new : App) (rows : List OptionRow) (i : ℕ) (d : OptionRow) → i < length rows
    → old ≡ with_rules first (map rule_of_row (take i rows)) → new ≡ with_rule old (rule_of_row (slice_index_or rows i d))
    → new ≡ with_rules first (map rule_of_row (take (i + 1) rows))
one_more first old new rows i d inside so_far added =
    added ∙ ap (λ app. with_rule app (rule_of_row (slice_index_or rows i d))) so_far ∙ ap (λ rs. on_top (λ s. record s { rules = rs }) first) longer
  where
    longer : (first.top.rules ++ map rule_of_row (take i rows)) ++ rule_of_row (slice_index_or rows i d) ∷ []
        ≡ first.top.rules ++ map rule_of_row (take (i + 1) rows)
    longer = search (rules, take_more rows i d inside, map-append, append_assoc)
