use Rattle.std.proofs.Common.{rules, arith, ◌≡◌, [], ◌∷◌, ◌++◌, ◌+◌, drop, Equal}
use Rattle.std.proofs.lemmas.Grind.{common_steps}
use Rattle.std.specs.FinMap.Entries.{put}
use Rattle.plain_data.specs.Texts.{Text}
use Rattle.post_tables.specs.Rows.{by_bytes}
use Rattle.site_store.specs.Stored.{Texts}
use Rattle.site_store.proofs.SettingOptions.{in_place}
use Rattle.site_store.proofs.kept_options.with_option.Goals as goal

-- the option is there already, and gets the value
pub loop-other-preserved-in-Equal : goal.loop-other-preserved-in-Equal
loop-other-preserved-in-Equal c =
    let options : Texts = c.args.options.now in
    let i = c.loop-other.other-index in
    let x : Text × Text = c.loop-other-item.result in
    let split : drop i options ≡ x ∷ drop (i + 1) options = grind (arith, common_steps) in
    let whole : c.loop-other.texts.items ++ put by_bytes c.args.name.now c.args.value.now (drop i options)
    ≡ put by_bytes c.args.name.now c.args.value.now options = search rules in
    let order : by_bytes c.args.name.now x.0 ≡ Equal = search rules in
    let items : c.push-in-Equal.new.self.items ≡ c.loop-other.texts.items ++ (c.args.name.now, c.args.value.now) ∷ [] = search rules in
    in_place c.args.name.now c.args.value.now x c.loop-other.texts.items (drop (i + 1) options) c.push-in-Equal.new.self.items _ order items
    (rw split at whole)
