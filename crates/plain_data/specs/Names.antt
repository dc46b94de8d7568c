-- Which texts are names of hooks and of shortcodes, and what the hooks are called that the engine itself runs (Plugin Handbook, Hooks; Shortcode API).
use Rattle.std.specs.Prelude.{ℕ, Bool, ◌&&◌, List, length, nat_le, codes}
use Rattle.std.specs.List.{list_all}
use Rattle.plain_data.specs.declared.core_hooks.CoreHook.{CoreHook}
use Rattle.plain_data.specs.declared.core_hooks.CoreHook.TheVariants as hook
use Rattle.plain_data.specs.NameByte.{is_name_byte}

-- 1 to 64 bytes
abbrev pub has_name_length : List ℕ → Bool
has_name_length text = nat_le 1 (length text) && nat_le (length text) 64

-- a hook may have any text of that length as its name
abbrev pub is_hook_name : List ℕ → Bool
is_hook_name text = has_name_length text

-- a shortcode's name, and a plugin's, is made of ASCII letters, digits, `_` and `-`
abbrev pub is_tag_name : List ℕ → Bool
is_tag_name text = has_name_length text && list_all is_name_byte text

-- the name of one of the engine's own hooks
abbrev pub core_name : CoreHook → List ℕ
core_name hook.PluginsLoaded = codes "plugins_loaded"
core_name hook.Init = codes "init"
core_name hook.WpLoaded = codes "wp_loaded"
core_name hook.Wp = codes "wp"
core_name hook.TemplateRedirect = codes "template_redirect"
core_name hook.GetHeader = codes "get_header"
core_name hook.GetFooter = codes "get_footer"
core_name hook.WpHead = codes "wp_head"
core_name hook.WpFooter = codes "wp_footer"
core_name hook.TheTitle = codes "the_title"
core_name hook.TheContent = codes "the_content"
core_name hook.DoShortcodeTag = codes "do_shortcode_tag"
