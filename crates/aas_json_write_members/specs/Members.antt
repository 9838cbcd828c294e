-- The members of an element that are no children, in byte order of their names, and the stops between them at which its
-- children stand.
--
-- One list of names serves all kinds: of the members that any element has, in byte order. Children can stand at six
-- places in it, the stops, which cut the list into parts: one before each stop, and a last one behind them all.
-- What a kind lacks is simply not there.
use Rattle.std.specs.Prelude.{ℕ, not, ◌&&◌, ◌==◌, nat_lt, List, [], ◌∷◌, ◌++◌, drop, length, Bool, true, false, codes}
use Rattle.std.specs.Prelude.{map, if◌then◌else◌, Option, Some, None, option_map}
use Rattle.json.specs.Print.{quoted}
use Rattle.serde_json.specs.Written.{comma_if, compact_text}
use Rattle.aas_json_mapping.specs.Elements.{is_input, is_output, is_inoutput, element_attributes}
use Rattle.aas_json_table.specs.Spelled.{attribute}
use Rattle.aas_json_table.specs.Table.{text}
use Rattle.aas_model.specs.declared.element.Role.{Role}
use Rattle.aas_model.specs.Payload.{is_operation}
use Rattle.aas_model.specs.declared.payload.Payload.{Payload}
use Rattle.aas_model.specs.declared.payload.Payload.TheVariants as p
use Rattle.aas_rows.specs.Rows.{Line}
use Rattle.aas_json_write_members.specs.declared.members.Show.{Show}
use Rattle.aas_json_write_members.specs.declared.stops.Stop.{Stop}
use Rattle.aas_json_write_members.specs.declared.stops.Stop.TheVariants as stop

-- ---- members

-- a byte that stands for itself in a JSON string (RFC 8259, section 7)
abbrev pub is_unescaped : ℕ → Bool
is_unescaped x = nat_lt 31 x && (not (x == 34) && not (x == 92))

-- a name that stands in a text as it is
abbrev pub is_plain : List ℕ → Bool
is_plain [] = true
is_plain (x ∷ name) = is_unescaped x && is_plain name

-- a member's name, and the text of its value where it has one
abbrev pub Field : Type 0
Field = List ℕ × Option (List ℕ)

-- a member, with a comma where one stands before it
abbrev pub field_text : Bool → List ℕ → List ℕ → List ℕ
field_text later name value = comma_if later ++ (quoted name ++ 58 ∷ value)

-- members that are there, with commas; later: a member stands before them
abbrev pub fields_text : Bool → List Field → List ℕ
fields_text later [] = []
fields_text later ((n, None) ∷ fs) = fields_text later fs
fields_text later ((n, Some v) ∷ fs) = field_text later n v ++ fields_text true fs

-- whether a member stands before what follows them
abbrev pub later_after : Bool → List Field → Bool
later_after later [] = later
later_after later ((n, None) ∷ fs) = later_after later fs
later_after later ((n, Some v) ∷ fs) = true

-- ---- the order of the stops

-- all stops, in byte order of the members that hold the children
abbrev pub all_stops : List Stop
all_stops =
    stop.Annotations ∷ stop.InoutputVariables ∷ stop.InputVariables
    ∷ stop.OutputVariables ∷ stop.Statements ∷ stop.Value ∷ []

-- the stops behind one
abbrev pub stops_behind : Stop → List Stop
stops_behind stop.Annotations = drop 1 all_stops
stops_behind stop.InoutputVariables = drop 2 all_stops
stops_behind stop.InputVariables = drop 3 all_stops
stops_behind stop.OutputVariables = drop 4 all_stops
stops_behind stop.Statements = drop 5 all_stops
stops_behind stop.Value = []

-- the stops from the next one on, where there is one
abbrev pub stops_from : Option Stop → List Stop
stops_from None = []
stops_from (Some s) = s ∷ stops_behind s

-- how many they are
abbrev pub stops_left : Option Stop → ℕ
stops_left next = length (stops_from next)

-- ---- parts

-- the names of the members in the part before the next stop; where there is none, in the part behind them all
abbrev pub names : Option Stop → List (List ℕ)
names (Some stop.Annotations) = []
names (Some stop.InoutputVariables) =
    codes "category" ∷ codes "contentType" ∷ codes "description"
    ∷ codes "direction" ∷ codes "displayName" ∷ codes "embeddedDataSpecifications" ∷ codes "entityType"
    ∷ codes "extensions" ∷ codes "first" ∷ codes "globalAssetId" ∷ codes "idShort" ∷ []
names (Some stop.InputVariables) = []
names (Some stop.OutputVariables) =
    codes "lastUpdate" ∷ codes "max" ∷ codes "maxInterval" ∷ codes "messageBroker" ∷ codes "messageTopic"
    ∷ codes "min" ∷ codes "minInterval" ∷ codes "modelType" ∷ codes "observed" ∷ codes "orderRelevant" ∷ []
names (Some stop.Statements) =
    codes "qualifiers" ∷ codes "second" ∷ codes "semanticId"
    ∷ codes "semanticIdListElement" ∷ codes "specificAssetIds" ∷ codes "state" ∷ []
names (Some stop.Value) = codes "supplementalSemanticIds" ∷ codes "typeValueListElement" ∷ []
names None = codes "value" ∷ codes "valueId" ∷ codes "valueType" ∷ codes "valueTypeListElement" ∷ []

-- a Blob's value is left out where Blobs are shown bare
abbrev pub shown_payload : Bool → Payload → Payload
shown_payload false (p.Blob t v) = p.Blob t None
shown_payload b p = p

-- the members in a part, each as the table's attributes give it
unfoldable pub part : Show → Line → Option Stop → List Field
part w r next = map (λ n.
    (n, option_map compact_text (attribute (element_attributes r.common (shown_payload w.blobs r.payload) []) n text)))
    (names next)

-- ---- stops

-- the name of the member that holds the children at a stop
abbrev pub stop_name : Stop → List ℕ
stop_name stop.Annotations = codes "annotations"
stop_name stop.InoutputVariables = codes "inoutputVariables"
stop_name stop.InputVariables = codes "inputVariables"
stop_name stop.OutputVariables = codes "outputVariables"
stop_name stop.Statements = codes "statements"
stop_name stop.Value = codes "value"

abbrev pub has_annotations : Payload → Bool
has_annotations (p.AnnotatedRelationshipElement a b) = true
has_annotations p = false

abbrev pub has_statements : Payload → Bool
has_statements (p.Entity t g ids) = true
has_statements p = false

abbrev pub has_members : Payload → Bool
has_members p.SubmodelElementCollection = true
has_members (p.SubmodelElementList o s t v) = true
has_members p = false

-- whether an element of this kind has children at a stop
unfoldable pub has_stop : Stop → Payload → Bool
has_stop stop.Annotations p = has_annotations p
has_stop stop.InoutputVariables p = is_operation p
has_stop stop.InputVariables p = is_operation p
has_stop stop.OutputVariables p = is_operation p
has_stop stop.Statements p = has_statements p
has_stop stop.Value p = has_members p

-- whether a child of this role stands at a stop
unfoldable pub role_fits : Stop → Role → Bool
role_fits stop.InoutputVariables r = is_inoutput r
role_fits stop.InputVariables r = is_input r
role_fits stop.OutputVariables r = is_output r
role_fits s r = true

-- whether the children at a stop are variables, each in an object of its own
abbrev pub is_wrapped : Stop → Bool
is_wrapped stop.InoutputVariables = true
is_wrapped stop.InputVariables = true
is_wrapped stop.OutputVariables = true
is_wrapped s = false

-- before and behind a child
unfoldable pub opening : Stop → List ℕ
opening s = if is_wrapped s then codes "{\"value\":" else []

unfoldable pub closing : Stop → List ℕ
closing s = if is_wrapped s then codes "}" else []
