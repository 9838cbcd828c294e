use Rattle.std.proofs.Common.{sym, ap, ◌∙◌, Some, option_map}
use Rattle.std.specs.Str.{encode_utf8_all}
use Rattle.aas_store.proofs.Shelves.{id_at}
use Rattle.aas_store.proofs.shelf.Shelf.id_after.Goals as goal

pub returns-in-Some : goal.returns-in-Some
returns-in-Some g c =
    ap (λ k. Some k) c.as_str.ensures.bytes
    ∙ ap (option_map (λ e. encode_utf8_all e.id)) c.in-Some.ensures
    ∙ sym (c.count_up_to-place.ensures ∙ id_at c.self.inside.entries c.self.invariant c.args.self.now c.self.view_is _)

pub returns-in-None : goal.returns-in-None
returns-in-None g c =
    ap (option_map (λ e. encode_utf8_all e.id)) c.in-None.ensures
    ∙ sym (c.count_up_to-place.ensures ∙ id_at c.self.inside.entries c.self.invariant c.args.self.now c.self.view_is _)
