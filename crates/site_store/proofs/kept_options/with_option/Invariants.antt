use Rattle.std.proofs.Common.{◌≡◌, ◌++◌, drop}
use Rattle.std.specs.FinMap.Entries.{put}
use Rattle.post_tables.specs.Rows.{by_bytes}
use Rattle.site_store.proofs.SettingOptions.{to_come}
use Rattle.site_store.proofs.kept_options.with_option.Given as goal

abbrev pub invariant-loop-other : goal.invariant-loop-other
invariant-loop-other l = l.texts.items ++ to_come l.fn.name l.fn.value l.is_set (drop l.other-index l.fn.options) ≡ put by_bytes l.fn.name l.fn.value l.fn.options
