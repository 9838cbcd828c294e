-- What is shown to an extent (IDTA-01002-3-0, serialization modifier Extent): all, or each Blob without its value, at every level.
use Rattle.std.specs.Prelude.{None, map}
use Rattle.aas_model.specs.declared.documents.Submodel.{Submodel}
use Rattle.aas_model.specs.declared.element.Element.{Element, fold-Element, roll-Element}
use Rattle.aas_model.specs.declared.element.Element.TheOpen.{Element-F}
use Rattle.aas_model.specs.declared.payload.Payload.{Payload}
use Rattle.aas_model.specs.declared.payload.Payload.TheVariants.{Blob}
use Rattle.aas_model_names.specs.declared.modifiers.Extent.{Extent}
use Rattle.aas_model_names.specs.declared.modifiers.Extent.TheVariants.{WithBlobValue, WithoutBlobValue}

abbrev pub without_blob : Payload → Payload
without_blob (Blob t v) = Blob t None
without_blob p = p

abbrev pub blobless_over : Element-F Element → Element
blobless_over f = roll-Element (record f { payload = without_blob f.payload })

-- an element without the values of the Blobs in it
unfoldable pub blobless : Element → Element
blobless = fold-Element Element blobless_over

abbrev pub without_blobs : Extent → Element → Element
without_blobs WithBlobValue e = e
without_blobs WithoutBlobValue e = blobless e

abbrev pub submodel_without_blobs : Extent → Submodel → Submodel
submodel_without_blobs WithBlobValue d = d
submodel_without_blobs WithoutBlobValue d = record d { kids = map blobless d.kids }
