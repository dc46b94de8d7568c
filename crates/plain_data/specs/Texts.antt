-- Texts as contracts see them, and the bytes of one, however it is held.
use Rattle.std.specs.Prelude.{ℕ, List, string_bytes}
use Rattle.plain_data.specs.Names.{core_name}
use Rattle.plain_data.specs.declared.texts.Held.{Held}
use Rattle.plain_data.specs.declared.texts.Held.TheVariants.{Own, Shared, Core}

-- a text, as its bytes
abbrev pub Text : Type 0
Text = List ℕ

abbrev pub bytes_held : Held → Text
bytes_held (Own text) = string_bytes text
bytes_held (Shared text) = string_bytes text.value
bytes_held (Core hook) = core_name hook
