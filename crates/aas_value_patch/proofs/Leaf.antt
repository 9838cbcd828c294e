-- An element without children takes the payload of a row for itself.
use Rattle.std.proofs.Common.{◌≡◌, ℕ, [], ap, sym, ◌∙◌}
use Rattle.aas_model.specs.declared.element.Element.{Element, out-Element, roll-Element}
use Rattle.aas_model.specs.declared.payload.Payload.{Payload}
use Rattle.aas_path_trees.specs.Children.{kids_of}
use Rattle.aas_path_trees.specs.Patched.{patched, patched_all}
use Rattle.aas_path_trees.proofs.Patches.{patched_out}
use Rattle.aas_value_patch.specs.Childless.{row_of}

abbrev pub with_payload : Element → Payload → Element
with_payload e x = roll-Element (record (out-Element e) { payload = x })

pub leaf_patched : (e : Element) (x : Payload) → kids_of e ≡ [] → (patched (row_of x) e 0).0 ≡ with_payload e x
leaf_patched e x leaf =
    ap (λ (p : Element × ℕ). p.0) (patched_out (row_of x) e 0)
    ∙ ap (λ ks. roll-Element (record (out-Element e) { payload = x; kids = ks }))
    (ap (λ l. (patched_all (row_of x) l 1).0) leaf ∙ sym leaf)
