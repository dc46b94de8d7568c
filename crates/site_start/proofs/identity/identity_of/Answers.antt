use Rattle.std.proofs.Common.{◌∙◌, ap, []}
use Rattle.std.specs.Prelude.{◌∷◌, ◌++◌, codes, decimal, flat_map}
use Rattle.std.proofs.lemmas.List.{append_assoc}
use Rattle.callback_store.specs.Shape.{shapes_of}
use Rattle.json.specs.Print.{print}
use Rattle.json.specs.Token.{begin_array, begin_object, end_array, end_object, key, number}
use Rattle.site_start.specs.Identity.{plugin_tokens}
use Rattle.site_start.proofs.identity.identity_of.Goals as goal

pub returns : goal.returns
returns g c =
    c.text_of.ensures
    ∙ ap print
    (rw (
      c.in_ok-end_object.ensures.ok,
      c.in_ok-end_array.ensures.ok,
      c.in_ok-put_plugins.ensures.tokens,
      c.as_slice.ensures,
      c.in_ok-begin_array.ensures.ok,
      c.in_ok-key-2.ensures.ok,
      c.in_ok-u64.ensures.ok,
      c.in_ok-key.ensures.ok,
      c.in_ok-begin_object.ensures.ok,
      c.new-line.ensures.tokens,
    )
    (append_assoc
    (begin_object ∷ key (codes "site") ∷ number (decimal 1) ∷ key (codes "plugins") ∷ begin_array ∷ []
    ++ flat_map plugin_tokens (shapes_of g.S.Stated.number c.args.plugins.now)) (end_array ∷ []) (end_object ∷ [])))
