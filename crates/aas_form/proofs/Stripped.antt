-- Elements without the values of their Blobs, one level at a time.
use Rattle.std.proofs.Common.{◌≡◌, List, length, map, sym, ap, ◌∙◌}
use Rattle.aas_model.specs.declared.element.Element.{Element, Element-F, out-Element, roll-Element, fold_out-Element}
use Rattle.aas_model.specs.declared.payload.Payload.{Payload}
use Rattle.aas_model_text.specs.Many.{filled}
use Rattle.aas_path_trees.specs.Children.{kids_of}
use Rattle.aas_form.specs.WithoutBlobs.{blobless, blobless_over, without_blob}
use Rattle.aas_form.proofs.InPlace.{filled_map}

pub blobless_out : (e : Element)
    → blobless e ≡ roll-Element (record (out-Element e) { payload = without_blob (out-Element e).payload; kids = map blobless (kids_of e) })
unfolding blobless
blobless_out e = fold_out-Element Element blobless_over e

-- an element whose own attributes were stripped first, and then its children as the slice kids
pub one_stripped : (e : Element) (m : Element-F Element) (own : Payload) (kids new : List Element)
    → m ≡ record (out-Element e) { payload = own } → own ≡ without_blob (out-Element e).payload
    → kids ≡ m.kids → length new ≡ length kids → new ≡ map blobless kids → roll-Element (record m { kids = filled m.kids new }) ≡ blobless e
one_stripped e m own kids new is own_is lent long all =
    ap (λ (ks : List Element). roll-Element (record m { kids = ks })) (filled_map blobless m.kids new kids lent long all)
    ∙ ap (λ (f : Element-F Element). roll-Element (record f { kids = map blobless f.kids })) is
    ∙ (λ i. roll-Element (record (out-Element e) { payload = own_is i; kids = map blobless (kids_of e) }))
    ∙ sym (blobless_out e)
