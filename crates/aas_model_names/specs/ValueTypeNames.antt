-- The names of `ValueType`. IDTA-01001-3-0, enumeration DataTypeDefXsd.
use Rattle.std.specs.Prelude.{ℕ, List, [], ◌∷◌, codes, refl}
use Rattle.aas_model_names.specs.Names.{names_of, FindsEach}
use Rattle.aas_model_names.specs.declared.value_type.ValueType.{ValueType}
use Rattle.aas_model_names.specs.declared.value_type.ValueType.TheVariants.{AnyUri, Base64Binary, Boolean, Byte, Date, DateTime, Decimal, Double, Duration, Float, GDay, GMonth, GMonthDay, GYear, GYearMonth, HexBinary, Int, Integer, Long, NegativeInteger, NonNegativeInteger, NonPositiveInteger, PositiveInteger, Short, String, Time, UnsignedByte, UnsignedInt, UnsignedLong, UnsignedShort}

abbrev pub name_of : ValueType → List ℕ
name_of AnyUri = codes "xs:anyURI"
name_of Base64Binary = codes "xs:base64Binary"
name_of Boolean = codes "xs:boolean"
name_of Byte = codes "xs:byte"
name_of Date = codes "xs:date"
name_of DateTime = codes "xs:dateTime"
name_of Decimal = codes "xs:decimal"
name_of Double = codes "xs:double"
name_of Duration = codes "xs:duration"
name_of Float = codes "xs:float"
name_of GDay = codes "xs:gDay"
name_of GMonth = codes "xs:gMonth"
name_of GMonthDay = codes "xs:gMonthDay"
name_of GYear = codes "xs:gYear"
name_of GYearMonth = codes "xs:gYearMonth"
name_of HexBinary = codes "xs:hexBinary"
name_of Int = codes "xs:int"
name_of Integer = codes "xs:integer"
name_of Long = codes "xs:long"
name_of NegativeInteger = codes "xs:negativeInteger"
name_of NonNegativeInteger = codes "xs:nonNegativeInteger"
name_of NonPositiveInteger = codes "xs:nonPositiveInteger"
name_of PositiveInteger = codes "xs:positiveInteger"
name_of Short = codes "xs:short"
name_of String = codes "xs:string"
name_of Time = codes "xs:time"
name_of UnsignedByte = codes "xs:unsignedByte"
name_of UnsignedInt = codes "xs:unsignedInt"
name_of UnsignedLong = codes "xs:unsignedLong"
name_of UnsignedShort = codes "xs:unsignedShort"

abbrev pub all : List ValueType
all =
    AnyUri ∷ Base64Binary ∷ Boolean ∷ Byte ∷ Date ∷ DateTime ∷ Decimal ∷ Double ∷ Duration ∷ Float ∷ GDay ∷ GMonth ∷
    GMonthDay ∷ GYear ∷ GYearMonth ∷ HexBinary ∷ Int ∷ Integer ∷ Long ∷ NegativeInteger ∷ NonNegativeInteger ∷
    NonPositiveInteger ∷ PositiveInteger ∷ Short ∷ String ∷ Time ∷ UnsignedByte ∷ UnsignedInt ∷ UnsignedLong ∷
    UnsignedShort ∷ []

abbrev pub names : List (List ℕ)
names = names_of name_of all

pub found : FindsEach name_of all
found AnyUri = refl
found _ = refl
