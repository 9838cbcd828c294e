-- A payload is that of one command alone.
use Rattle.std.proofs.Common.{◌≡◌, ◌⊎◌, ◌+◌, inl, inr, subst, ℕ, List, [], ◌∷◌, length, Result, Ok, Err, refl, sym, ◌∙◌}
use Rattle.std.proofs.Common.{ap, arith}
use Rattle.std.specs.Prelude.{flat_map, MatchResult}
use Rattle.std.proofs.lemmas.Str.{encodes_same}
use Rattle.aas_lemmas.proofs.Lists.{same_heads, same_tails}
use Rattle.aas_json_spelling.specs.Lists.{Each}
use Rattle.aas_json_spelling.specs.Mapped.{AnyShape}
use Rattle.aas_json_table.specs.TooDeep.{limits}
use Rattle.aas_json_spelling.specs.Spells.{Trees, canonical_text}
use Rattle.aas_json_spelling.proofs.Laws.{Laws}
use Rattle.aas_json_mapping.specs.Shape.{IsShaped, IsShapedEnvironment, IsShapedSubmodel}
use Rattle.aas_json_mapping.specs.Trees.{asset_informations, concepts, elements, environments, shells, submodels}
use Rattle.aas_json_mapping.proofs.DocumentsLaws.{concepts_laws, environments_laws, shells_laws, submodels_laws}
use Rattle.aas_json_mapping.proofs.ElementsLaws.{elements_laws}
use Rattle.aas_model.specs.declared.path.PathStep.{PathStep}
use Rattle.aas_edit_laws.specs.Laws.{at_level}
use Rattle.aas_json_mapping.proofs.PartsLaws.{asset_informations_laws}
use Rattle.aas_reference.proofs.Facts.{laws}
use Rattle.aas_reference.specs.Trees.{references}
use Rattle.aas_command.specs.Commands.{IsWellFormed, field, payload_of, tagged_of}
use Rattle.aas_command.specs.Encoding.{HasFields, IsField}
use Rattle.aas_command.specs.declared.command.Command.{Command}
use Rattle.aas_command.specs.declared.command.Command.TheVariants.{CreateShell, CreateSubmodel, CreateConcept}
use Rattle.aas_command.specs.declared.command.Command.TheVariants.{ReplaceShell, ReplaceSubmodel, ReplaceConcept}
use Rattle.aas_command.specs.declared.command.Command.TheVariants.{DeleteShell, DeleteSubmodel, DeleteConcept, SetAsset}
use Rattle.aas_command.specs.declared.command.Command.TheVariants.{AddReference, DropReference, InsertElement}
use Rattle.aas_command.specs.declared.command.Command.TheVariants.{ReplaceElement, DeleteElement, UpdateValue, Import}
use Rattle.aas_command.proofs.PathTexts.{is_place}
use Rattle.aas_record.specs.Records.{IsRecord, IsRecordFault}
use Rattle.aas_record.specs.declared.fault.RecordFault.{RecordFault}
use Rattle.aas_record.specs.declared.fault.RecordFault.TheVariants.{NotARecord, NoMemory}
use Rattle.aas_record.proofs.Canonical.{at_limits, same_by_text, within_level}
use Rattle.aas_record.proofs.Values.{same_value}
use Rattle.aas_record.proofs.Places.{one_place, some_steps}
use Rattle.aas_record.proofs.Once.{one}
use Rattle.aas_record.proofs.Payloads.{right}

-- fields that can be read again are the same where they stand behind one another as the same bytes
same_fields : (fs gs : List (List ℕ))
    → Each IsField fs → Each IsField gs → flat_map field fs ≡ flat_map field gs → fs ≡ gs
same_fields [] [] a b e = refl
same_fields [] (g ∷ gs) a b e = absurd (omega (arith, ap length e))
same_fields (f ∷ fs) [] a b e = absurd (omega (arith, ap length e))
same_fields (f ∷ fs) (g ∷ gs) a b e =
    let s = one (flat_map field (f ∷ fs)) f g (flat_map field fs) (flat_map field gs)
    (record { short = a.0.short; bytes_are = refl }) (record { short = b.0.short; bytes_are = e }) in
    ap (λ x. x ∷ fs) s.0 ∙ ap (λ xs. g ∷ xs) (same_fields fs gs a.1 b.1 s.1)

-- documents are the same whose texts are those of one field
abbrev SameAlone : {A : Type 0} → Trees A → Type 0
SameAlone {A} trees = (s t : A) → trees.IsWhole limits s → trees.IsWhole limits t
    → IsField (canonical_text trees s) → canonical_text trees s ∷ [] ≡ canonical_text trees t ∷ [] → s ≡ t

same_alone : {A : Type 0} (trees : Trees A) (Shape : A → Type 0) → Laws trees Shape → SameAlone trees
same_alone trees Shape laws s t a b is e =
    same_by_text trees Shape laws limits at_limits s t a b is.utf8 (same_heads _ _ _ _ e)

one_shell : SameAlone shells
one_shell = same_alone shells AnyShape shells_laws

one_submodel : SameAlone submodels
one_submodel = same_alone submodels IsShapedSubmodel submodels_laws

-- commands of one tag, with the same fields, are the same
same_tagged : (c d : Command) → IsWellFormed c → IsWellFormed d → HasFields c
    → (tagged_of c).tag ≡ (tagged_of d).tag → (tagged_of c).fields ≡ (tagged_of d).fields → c ≡ d
unfolding IsWellFormed HasFields
same_tagged (CreateShell s) (CreateShell t) a b is tags e = ap CreateShell (one_shell s t a b is.0 e)
same_tagged (CreateSubmodel s) (CreateSubmodel t) a b is tags e = ap CreateSubmodel (one_submodel s t a b is.0 e)
same_tagged (CreateConcept s) (CreateConcept t) a b is tags e =
    ap CreateConcept (same_alone concepts AnyShape concepts_laws s t a b is.0 e)
same_tagged (ReplaceShell s) (ReplaceShell t) a b is tags e = ap ReplaceShell (one_shell s t a b is.0 e)
same_tagged (ReplaceSubmodel s) (ReplaceSubmodel t) a b is tags e = ap ReplaceSubmodel (one_submodel s t a b is.0 e)
same_tagged (ReplaceConcept s) (ReplaceConcept t) a b is tags e =
    ap ReplaceConcept (same_alone concepts AnyShape concepts_laws s t a b is.0 e)
same_tagged (DeleteShell s) (DeleteShell t) a b is tags e = ap DeleteShell (encodes_same s t (same_heads _ _ _ _ e))
same_tagged (DeleteSubmodel s) (DeleteSubmodel t) a b is tags e =
    ap DeleteSubmodel (encodes_same s t (same_heads _ _ _ _ e))
same_tagged (DeleteConcept s) (DeleteConcept t) a b is tags e =
    ap DeleteConcept (encodes_same s t (same_heads _ _ _ _ e))
same_tagged (SetAsset i s) (SetAsset j t) a b is tags e =
    ap (λ x. SetAsset x s) (encodes_same i j (same_heads _ _ _ _ e))
    ∙ ap (SetAsset j)
    (same_by_text asset_informations AnyShape asset_informations_laws _ at_limits s t a b is.1.0.utf8
    (same_heads _ _ _ _ (same_tails _ _ _ _ e)))
same_tagged (AddReference i r) (AddReference j s) a b is tags e =
    ap (λ x. AddReference x r) (encodes_same i j (same_heads _ _ _ _ e))
    ∙ ap (AddReference j)
    (same_by_text references AnyShape laws _ at_limits r s a b is.1.0.utf8 (same_heads _ _ _ _ (same_tails _ _ _ _ e)))
same_tagged (DropReference i s) (DropReference j t) a b is tags e =
    ap (λ x. DropReference x s) (encodes_same i j (same_heads _ _ _ _ e))
    ∙ ap (DropReference j) (encodes_same s t (same_heads _ _ _ _ (same_tails _ _ _ _ e)))
same_tagged (InsertElement i p s) (InsertElement j q t) a b is tags e =
    let paths = one_place p.steps q.steps a.0 b.0 (same_heads _ _ _ _ (same_tails _ _ _ _ e)) in
    let left = at_level (length p.steps + 1) in
    let whole : elements.IsWhole left t =
    subst (λ (o : List PathStep). elements.IsWhole (at_level (length o + 1)) t) (sym paths) b.1 in
    ap (λ x. InsertElement x p s) (encodes_same i j (same_heads _ _ _ _ e))
    ∙ ap (λ (o : List PathStep). InsertElement j (record { steps = o }) s) paths
    ∙ ap (InsertElement j q)
    (same_by_text elements IsShaped elements_laws left
    (within_level (length p.steps + 1) (omega arith)) s t a.1 whole is.1.1.0.utf8
    (same_heads _ _ _ _ (same_tails _ _ _ _ (same_tails _ _ _ _ e))))
same_tagged (ReplaceElement i p s) (ReplaceElement j q t) a b is tags e =
    let paths = one_place p.steps q.steps (is_place p.steps a.0)
    (is_place q.steps b.0) (same_heads _ _ _ _ (same_tails _ _ _ _ e)) in
    let left = at_level (length p.steps) in
    let whole : elements.IsWhole left t =
    subst (λ (o : List PathStep). elements.IsWhole (at_level (length o)) t) (sym paths) b.1 in
    ap (λ x. ReplaceElement x p s) (encodes_same i j (same_heads _ _ _ _ e))
    ∙ ap (λ (o : List PathStep). ReplaceElement j (record { steps = o }) s) paths
    ∙ ap (ReplaceElement j q)
    (same_by_text elements IsShaped elements_laws left
    (within_level (length p.steps) (some_steps p.steps a.0)) s t a.1 whole is.1.1.0.utf8
    (same_heads _ _ _ _ (same_tails _ _ _ _ (same_tails _ _ _ _ e))))
same_tagged (DeleteElement i p) (DeleteElement j q) a b is tags e =
    let paths =
    one_place p.steps q.steps (is_place p.steps a) (is_place q.steps b) (same_heads _ _ _ _ (same_tails _ _ _ _ e)) in
    ap (λ x. DeleteElement x p) (encodes_same i j (same_heads _ _ _ _ e))
    ∙ ap (λ (o : List PathStep). DeleteElement j (record { steps = o })) paths
same_tagged (UpdateValue i p v) (UpdateValue j q w) a b is tags e =
    let paths = one_place p.steps q.steps a.0 b.0 (same_heads _ _ _ _ (same_tails _ _ _ _ e)) in
    ap (λ x. UpdateValue x p v) (encodes_same i j (same_heads _ _ _ _ e))
    ∙ ap (λ (o : List PathStep). UpdateValue j (record { steps = o }) v) paths
    ∙ ap (UpdateValue j q)
    (same_value v w a.1 b.1 is.1.1.0.utf8 (same_heads _ _ _ _ (same_tails _ _ _ _ (same_tails _ _ _ _ e))))
same_tagged (Import s) (Import t) a b is tags e =
    ap Import (same_alone environments IsShapedEnvironment environments_laws s t a b is.0 e)
same_tagged c d a b is tags e = absurd (omega (arith, tags))

pub one_command : (payload : List ℕ) (c d : Command) → IsRecord payload c → IsRecord payload d → c ≡ d
unfolding payload_of HasFields
one_command payload c d a b =
    let e : payload_of c ≡ payload_of d = sym a.same ∙ b.same in
    same_tagged c d a.well_formed b.well_formed a.fields (same_heads _ _ _ _ e)
    (same_fields (tagged_of c).fields (tagged_of d).fields a.fields b.fields (same_tails _ _ _ _ e))

pub reads_back : (payload : List ℕ) (c : Command) (result : Result Command RecordFault)
    → IsRecord payload c → MatchResult result (IsRecord payload) (IsRecordFault payload)
    → (result ≡ Ok c) ⊎ (result ≡ Err NoMemory)
reads_back payload c (Ok d) is read = inl (ap Ok (one_command payload d c read is))
reads_back payload c (Err (NotARecord at)) is wrong = absurd (right payload c at is wrong)
reads_back payload c (Err NoMemory) is any = inr refl
