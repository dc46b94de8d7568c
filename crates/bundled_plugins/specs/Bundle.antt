-- The bundled plugins, by name: their load lists, and the numbers of their callbacks.
use Rattle.std.specs.Prelude.{ℕ, pos, List, [], ◌∷◌, flat_map, codes}
use Rattle.hook_changes.specs.declared.reply.Change.{Change}
use Rattle.hook_changes.specs.declared.reply.Change.TheVariants.{Add, AddTag}
use Rattle.callback_store.specs.Shape.{Shape}
use Rattle.plain_data.specs.Texts.{Text}
use Rattle.bundled_plugins.specs.Replies.{the_title, wp_footer}

abbrev pub plugin : Text → List Change → List ℕ → Shape
plugin name load callbacks = record { name = name; load = load; callbacks = callbacks }

abbrev pub args : Shape
args = plugin (codes "args") (Add the_title (pos 10) 14 0 ∷ Add the_title (pos 20) 15 16 ∷ Add wp_footer (pos 10) 16 1 ∷ []) (14 ∷ 15 ∷ 16 ∷ [])

abbrev pub atts : Shape
atts = plugin (codes "atts") (AddTag (codes "show") 23 ∷ AddTag (codes "link") 24 ∷ AddTag (codes "ask") 25 ∷ []) (23 ∷ 24 ∷ 25 ∷ [])

abbrev pub bold : Shape
bold =
    plugin (codes "bold")
    (AddTag (codes "b") 17 ∷ AddTag (codes "i") 18 ∷ AddTag (codes "raw") 19 ∷ AddTag (codes "off") 20 ∷ AddTag (codes "alloff") 21 ∷ AddTag (codes "hush") 22
    ∷ [])
    (17 ∷ 18 ∷ 19 ∷ 20 ∷ 21 ∷ 22 ∷ [])

abbrev pub deep : Shape
deep = plugin (codes "deep") (Add the_title (pos 10) 26 1 ∷ []) (26 ∷ [])

abbrev pub grow : Shape
grow = plugin (codes "grow") (Add the_title (pos 10) 10 1 ∷ []) (10 ∷ 11 ∷ 12 ∷ 13 ∷ [])

-- `marks` adds a callback again, with another accepted count
abbrev pub marks : Shape
marks = plugin (codes "marks") (Add the_title (pos 10) 2 1 ∷ Add the_title (pos 10) 1 1 ∷ Add the_title (pos 10) 2 2 ∷ []) (1 ∷ 2 ∷ [])

abbrev pub nest : Shape
nest =
    plugin (codes "nest")
    (Add the_title (pos 10) 6 1 ∷ Add the_title (pos 11) 7 1 ∷ Add the_title (pos 11) 8 1 ∷ Add the_title (pos 12) 9 1 ∷ [])
    (6 ∷ 7 ∷ 8 ∷ 9 ∷ [])

abbrev pub note : Shape
note = plugin (codes "note") (AddTag (codes "note") 27 ∷ AddTag (codes "ping") 29 ∷ AddTag (codes "say") 30 ∷ []) (27 ∷ 28 ∷ 29 ∷ 30 ∷ [])

abbrev pub once : Shape
once = plugin (codes "once") (Add the_title (pos 10) 3 1 ∷ Add the_title (pos 11) 4 1 ∷ Add the_title (pos 12) 5 1 ∷ []) (3 ∷ 4 ∷ 5 ∷ [])

abbrev pub tagmark : Shape
tagmark = plugin (codes "tagmark") (Add (codes "do_shortcode_tag") (pos 10) 31 2 ∷ []) (31 ∷ [])

-- in the order of their names
abbrev pub bundle : List Shape
bundle = args ∷ atts ∷ bold ∷ deep ∷ grow ∷ marks ∷ nest ∷ note ∷ once ∷ tagmark ∷ []

-- the numbers of all callbacks, plugin by plugin
abbrev pub numbers : List ℕ
numbers = flat_map (λ shape. shape.callbacks) bundle
