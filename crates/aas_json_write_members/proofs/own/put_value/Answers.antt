use Rattle.std.proofs.Common.{◌∷◌, [], codes, refl}
use Rattle.aas_json_write_members.specs.Members.{shown_payload}
use Rattle.aas_json_write_members.specs.Puts.{own_fields}
use Rattle.aas_json_write_members.proofs.Lacking.{no_value, put_shown, put_shown_blob}
use Rattle.aas_json_write_members.proofs.Putting.{fields_both, put_lacking, put_none}
use Rattle.aas_json_write_members.proofs.own.put_value.Goals as goal

pub returns-in-Property : goal.returns-in-Property
returns-in-Property g c =
    put_shown c.args.blobs c.args.payload.now
    (codes "value" ∷ codes "valueId" ∷ codes "valueType" ∷ codes "valueTypeListElement" ∷ []) c.in-Property.is refl
    (fields_both
    (fields_both (fields_both c.put_optional-valued.ensures c.put_optional-referring.ensures) c.put_word.ensures)
    (put_none c.put_word.result (g.O.TextEnd.told c.put_word.new.out) (codes "valueTypeListElement")))

pub returns-in-MultiLanguageProperty : goal.returns-in-MultiLanguageProperty
returns-in-MultiLanguageProperty g c =
    put_shown c.args.blobs c.args.payload.now
    (codes "value" ∷ codes "valueId" ∷ codes "valueType" ∷ codes "valueTypeListElement" ∷ [])
    c.in-MultiLanguageProperty.is refl
    (fields_both (fields_both (fields_both c.put_list-valued.ensures c.put_optional.ensures)
    (put_none c.put_optional.result (g.O.TextEnd.told c.put_optional.new.out) (codes "valueType")))
    (put_none c.put_optional.result (g.O.TextEnd.told c.put_optional.new.out) (codes "valueTypeListElement")))

pub returns-in-Range : goal.returns-in-Range
returns-in-Range g c =
    put_shown c.args.blobs c.args.payload.now
    (codes "value" ∷ codes "valueId" ∷ codes "valueType" ∷ codes "valueTypeListElement" ∷ []) c.in-Range.is refl
    (fields_both (fields_both (fields_both (put_none c.args.pen (g.O.TextEnd.told c.args.out.now) (codes "value"))
    (put_none c.args.pen (g.O.TextEnd.told c.args.out.now) (codes "valueId")))
    c.put_word-in-Range.ensures)
    (put_none c.put_word-in-Range.result (g.O.TextEnd.told c.put_word-in-Range.new.out) (codes "valueTypeListElement")))

pub returns-in-File : goal.returns-in-File
returns-in-File g c =
    put_shown c.args.blobs c.args.payload.now
    (codes "value" ∷ codes "valueId" ∷ codes "valueType" ∷ codes "valueTypeListElement" ∷ []) c.in-File.is refl
    (fields_both (fields_both (fields_both c.put_optional-in-File.ensures
    (put_none c.put_optional-in-File.result (g.O.TextEnd.told c.put_optional-in-File.new.out) (codes "valueId")))
    (put_none c.put_optional-in-File.result (g.O.TextEnd.told c.put_optional-in-File.new.out) (codes "valueType")))
    (put_none c.put_optional-in-File.result
    (g.O.TextEnd.told c.put_optional-in-File.new.out) (codes "valueTypeListElement")))

pub returns-in-Blob : goal.returns-in-Blob
returns-in-Blob g c =
    put_shown_blob c.args.blobs c.args.payload.now _ _ c.in-Blob.is
    (fields_both (fields_both (fields_both c.put_blob.ensures
    (put_none c.put_blob.result (g.O.TextEnd.told c.put_blob.new.out) (codes "valueId")))
    (put_none c.put_blob.result (g.O.TextEnd.told c.put_blob.new.out) (codes "valueType")))
    (put_none c.put_blob.result (g.O.TextEnd.told c.put_blob.new.out) (codes "valueTypeListElement")))

pub returns-in-ReferenceElement : goal.returns-in-ReferenceElement
returns-in-ReferenceElement g c =
    put_shown c.args.blobs c.args.payload.now
    (codes "value" ∷ codes "valueId" ∷ codes "valueType" ∷ codes "valueTypeListElement" ∷ [])
    c.in-ReferenceElement.is refl
    (fields_both (fields_both (fields_both c.put_optional-in-ReferenceElement.ensures
    (put_none c.put_optional-in-ReferenceElement.result
    (g.O.TextEnd.told c.put_optional-in-ReferenceElement.new.out) (codes "valueId")))
    (put_none c.put_optional-in-ReferenceElement.result
    (g.O.TextEnd.told c.put_optional-in-ReferenceElement.new.out) (codes "valueType")))
    (put_none c.put_optional-in-ReferenceElement.result
    (g.O.TextEnd.told c.put_optional-in-ReferenceElement.new.out) (codes "valueTypeListElement")))

pub returns-in-SubmodelElementList : goal.returns-in-SubmodelElementList
returns-in-SubmodelElementList g c =
    put_shown c.args.blobs c.args.payload.now
    (codes "value" ∷ codes "valueId" ∷ codes "valueType" ∷ codes "valueTypeListElement" ∷ [])
    c.in-SubmodelElementList.is refl
    (fields_both (fields_both (fields_both (put_none c.args.pen (g.O.TextEnd.told c.args.out.now) (codes "value"))
    (put_none c.args.pen (g.O.TextEnd.told c.args.out.now) (codes "valueId")))
    (put_none c.args.pen (g.O.TextEnd.told c.args.out.now) (codes "valueType")))
    c.put_optional_word.ensures)

pub returns-in_default : goal.returns-in_default
returns-in_default g c =
    put_lacking c.args.pen (g.O.TextEnd.told c.args.out.now)
    (own_fields (shown_payload c.args.blobs c.args.payload.now)
    (codes "value" ∷ codes "valueId" ∷ codes "valueType" ∷ codes "valueTypeListElement" ∷ []))
    (codes "value" ∷ codes "valueId" ∷ codes "valueType" ∷ codes "valueTypeListElement" ∷ [])
    (no_value c.args.payload.now c.args.blobs c.in_default.not-Property
    c.in_default.not-MultiLanguageProperty c.in_default.not-Range c.in_default.not-File
    c.in_default.not-Blob c.in_default.not-ReferenceElement c.in_default.not-SubmodelElementList)
