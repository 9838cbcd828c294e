-- The payloads of commands have their types, and what is read of a payload with its types.
use Rattle.std.proofs.Common.{◌≡◌, ⊎_elim, inl, inr, ℕ, zero, List, [], ◌∷◌, ◌++◌, ◌+◌, ◌-◌}
use Rattle.std.proofs.Common.{length, length-append, arith}
use Rattle.std.proofs.Common.{Option, Some, None, Result, Ok, Err, IsErr, IsErrAnd, MatchResult, refl, sym, ◌∙◌}
use Rattle.std.proofs.Common.{ap, subst}
use Rattle.std.specs.Str.{IsUtf8, encode_utf8_all}
use Rattle.std.specs.List.{IsFirstAndRest}
use Rattle.std.specs.Prelude.{MatchOption}
use Rattle.aas_json_spelling.specs.Lists.{Each}
use Rattle.aas_model.specs.declared.path.PathStep.{PathStep}
use Rattle.aas_path.specs.PathText.{path_text}
use Rattle.aas_command.proofs.PathTexts.{path_text_utf8}
use Rattle.aas_command.specs.Commands.{IsPlace, IsWellFormed, bytes_of, field, payload_of, tagged, tagged_of}
use Rattle.aas_command.specs.Encoding.{HasFields, IsField}
use Rattle.aas_command.specs.declared.command.Command.{Command}
use Rattle.aas_command.specs.declared.command.Command.TheVariants.{CreateShell, CreateSubmodel, CreateConcept}
use Rattle.aas_command.specs.declared.command.Command.TheVariants.{ReplaceShell, ReplaceSubmodel, ReplaceConcept}
use Rattle.aas_command.specs.declared.command.Command.TheVariants.{DeleteShell, DeleteSubmodel, DeleteConcept, SetAsset}
use Rattle.aas_command.specs.declared.command.Command.TheVariants.{AddReference, DropReference, InsertElement}
use Rattle.aas_command.specs.declared.command.Command.TheVariants.{ReplaceElement, DeleteElement, UpdateValue, Import}
use Rattle.aas_record.specs.Fields.{Begins}
use Rattle.aas_record.specs.FieldTypes.{FieldType, identifier, shell, submodel, concept, asset_information, reference}
use Rattle.aas_record.specs.FieldTypes.{path, place, element, child, value, environment, HasType, types_of}
use Rattle.aas_record.specs.Records.{IsRecord, IsNoRecord, IsRecordFault, FailsAt}
use Rattle.aas_record.specs.Reading.{HasTwo, IsFieldFault, IsLastFault, LacksTwo}
use Rattle.aas_record.specs.declared.fault.RecordFault.{RecordFault}
use Rattle.aas_record.specs.declared.fault.RecordFault.TheVariants.{NotARecord, NoMemory}
use Rattle.aas_record.proofs.Once.{AreFields, nowhere, once}

-- ---- the payload of a command has its types

begins : (content rest : List ℕ) → IsField content → Begins (field content ++ rest) content rest
begins content rest is = record { short = is.short; bytes_are = refl }

right_fields : (tag : ℕ) (types : List FieldType) (bytes : List ℕ) (at : ℕ)
    → types_of tag ≡ Some types → AreFields types [] bytes → ¬ (IsNoRecord (tag ∷ bytes) at)
unfolding IsNoRecord
right_fields tag types bytes at row are wrong =
    nowhere types [] 1 at bytes are
    (subst (λ o. MatchOption o (at ≡ 0) (λ types. FailsAt types [] 1 bytes at)) row wrong)

-- those of one field
right_alone : (tag : ℕ) (type : FieldType) (content : List ℕ) (at : ℕ) → types_of tag ≡ Some (type ∷ [])
    → IsField content → HasType type [] content → ¬ (IsNoRecord (tag ∷ (field content ++ [])) at)
right_alone tag type content at row is has =
    right_fields tag (type ∷ []) _ at row (content, [], begins content [] is, has, refl)

right_payload : (c : Command) (at : ℕ) → IsWellFormed c → HasFields c → ¬ (IsNoRecord (payload_of c) at)
unfolding IsWellFormed HasFields payload_of
right_payload (CreateShell d) at whole is = right_alone 1 shell _ at refl is.0 (is.0.utf8, (d, whole, refl))
right_payload (CreateSubmodel d) at whole is = right_alone 2 submodel _ at refl is.0 (is.0.utf8, (d, whole, refl))
right_payload (CreateConcept d) at whole is = right_alone 3 concept _ at refl is.0 (is.0.utf8, (d, whole, refl))
right_payload (ReplaceShell d) at whole is = right_alone 4 shell _ at refl is.0 (is.0.utf8, (d, whole, refl))
right_payload (ReplaceSubmodel d) at whole is = right_alone 5 submodel _ at refl is.0 (is.0.utf8, (d, whole, refl))
right_payload (ReplaceConcept d) at whole is = right_alone 6 concept _ at refl is.0 (is.0.utf8, (d, whole, refl))
right_payload (DeleteShell id) at whole is = right_alone 7 identifier _ at refl is.0 is.0.utf8
right_payload (DeleteSubmodel id) at whole is = right_alone 8 identifier _ at refl is.0 is.0.utf8
right_payload (DeleteConcept id) at whole is = right_alone 9 identifier _ at refl is.0 is.0.utf8
right_payload (SetAsset id asset) at whole is = right_fields 10 (identifier ∷ asset_information ∷ []) _ at refl
    (_, _, begins _ _ is.0, is.0.utf8, (_, [], begins _ [] is.1.0, (is.1.0.utf8, (asset, whole, refl)), refl))
right_payload (AddReference id r) at whole is = right_fields 11 (identifier ∷ reference ∷ []) _ at refl
    (_, _, begins _ _ is.0, is.0.utf8, (_, [], begins _ [] is.1.0, (is.1.0.utf8, (r, whole, refl)), refl))
right_payload (DropReference id submodel_id) at whole is = right_fields 12 (identifier ∷ identifier ∷ []) _ at refl
    (_, _, begins _ _ is.0, is.0.utf8, (_, [], begins _ [] is.1.0, is.1.0.utf8, refl))
right_payload (InsertElement id p e) at whole is = right_fields 13 (identifier ∷ place ∷ child ∷ []) _ at refl (
  _,
  _,
  begins _ _ is.0,
  is.0.utf8,
  (
    _,
    _,
    begins _ _ is.1.0,
    (p.steps, whole.0, refl),
    (_, [], begins _ [] is.1.1.0, (p.steps, whole.0, refl, (is.1.1.0.utf8, (e, whole.1, refl))), refl),
  ),
)
right_payload (ReplaceElement id p e) at whole is = right_fields 14 (identifier ∷ path ∷ element ∷ []) _ at refl (
  _,
  _,
  begins _ _ is.0,
  is.0.utf8,
  (
    _,
    _,
    begins _ _ is.1.0,
    (p.steps, (refl, whole.0)),
    (_, [], begins _ [] is.1.1.0, (p.steps, whole.0, refl, (is.1.1.0.utf8, (e, whole.1, refl))), refl),
  ),
)
right_payload (DeleteElement id p) at whole is = right_fields 15 (identifier ∷ path ∷ []) _ at refl
    (_, _, begins _ _ is.0, is.0.utf8, (_, [], begins _ [] is.1.0, (p.steps, (refl, whole)), refl))
right_payload (UpdateValue id p v) at whole is = right_fields 16 (identifier ∷ place ∷ value ∷ []) _ at refl (
  _,
  _,
  begins _ _ is.0,
  is.0.utf8,
  (
    _,
    _,
    begins _ _ is.1.0,
    (p.steps, whole.0, refl),
    (_, [], begins _ [] is.1.1.0, (is.1.1.0.utf8, (v, whole.1, refl)), refl),
  ),
)
right_payload (Import e) at whole is = right_alone 17 environment _ at refl is.0 (is.0.utf8, (e, whole, refl))

pub right : (payload : List ℕ) (c : Command) (at : ℕ) → IsRecord payload c → ¬ (IsNoRecord payload at)
right payload c at is wrong = right_payload c at is.well_formed is.fields (subst (λ p. IsNoRecord p at) is.same wrong)

-- ---- one place

pub one_place : (payload : List ℕ) (at other : ℕ) → IsNoRecord payload at → IsNoRecord payload other → at ≡ other
unfolding IsNoRecord
one_place [] at other a b = a ∙ sym b
one_place (tag ∷ bytes) at other a b = by_forms (types_of tag) a b
  where
    by_forms : (o : Option (List FieldType)) → MatchOption o (at ≡ 0) (λ types. FailsAt types [] 1 bytes at)
        → MatchOption o (other ≡ 0) (λ types. FailsAt types [] 1 bytes other) → at ≡ other
    by_forms None a b = a ∙ sym b
    by_forms (Some types) a b = once types [] 1 at other bytes a b

-- ---- what is read

-- a command of one field
pub read_one : (payload bytes content : List ℕ) (t tag : ℕ) (c : Command)
    → IsFirstAndRest payload t bytes → t ≡ tag → tagged_of c ≡ tagged tag (content ∷ []) → IsWellFormed c
    → Begins bytes content [] → IsUtf8 content → IsRecord payload c
unfolding HasFields payload_of
read_one payload bytes content t tag c split is row whole begins utf8 = record {
  well_formed = whole;
  fields = subst (λ r. Each IsField r.fields) (sym row) (record { utf8 = utf8; short = begins.short }, tt);
  same = split.0 ∙ ap (λ n. n ∷ bytes) is ∙ ap (λ b. tag ∷ b) begins.bytes_are ∙ ap bytes_of (sym row);
}

-- a command of an identifier and one field more
pub read_two : {A : Type 0} {IsWhole : A → Type 0} {text_of : A → List ℕ} {HasType : List ℕ → Type 0} {held : A}
    {bytes id : List ℕ} (payload : List ℕ) (t tag : ℕ) (c : Command) → HasTwo IsWhole text_of HasType bytes id held []
    → IsFirstAndRest payload t bytes → t ≡ tag
    → tagged_of c ≡ tagged tag (encode_utf8_all id ∷ text_of held ∷ []) → IsWellFormed c
    → IsUtf8 (text_of held) → IsRecord payload c
unfolding HasFields payload_of
read_two {bytes = bytes} {id = id} payload t tag c two split is row whole utf8 =
    record {
      well_formed = whole;
      fields = subst (λ r. Each IsField r.fields) (sym row) (
        record { utf8 = two.first.type; short = two.first.begins.short },
        (record { utf8 = utf8; short = two.second.begins.short }, tt),
      );
      same =
          split.0 ∙ ap (λ n. n ∷ bytes) is
          ∙ ap (λ x. tag ∷ x)
          (two.first.begins.bytes_are ∙ ap (λ x. field (encode_utf8_all id) ++ x) two.second.begins.bytes_are)
          ∙ ap bytes_of (sym row);
    }

-- a command of an identifier, a path and one field more
pub read_three : {A : Type 0} {IsWhole : A → Type 0} {HasType : List ℕ → Type 0} {held : A}
    {bytes id behind third : List ℕ} (steps_of : A → List PathStep) (payload : List ℕ) (tag : ℕ) (c : Command)
    → HasTwo IsWhole (λ (a : A). path_text (steps_of a)) HasType bytes id held behind → IsPlace (steps_of held)
    → Begins behind third [] → IsUtf8 third → IsFirstAndRest payload tag bytes
    → tagged_of c ≡ tagged tag (encode_utf8_all id ∷ path_text (steps_of held) ∷ third ∷ [])
    → IsWellFormed c → IsRecord payload c
unfolding HasFields payload_of
read_three {held = held} {id = id} steps_of payload tag c two leads last utf8 split row whole = record {
  well_formed = whole;
  fields = subst (λ r. Each IsField r.fields) (sym row) (
    record { utf8 = two.first.type; short = two.first.begins.short },
    (
      record { utf8 = path_text_utf8 (steps_of held) leads; short = two.second.begins.short },
      (record { utf8 = utf8; short = last.short }, tt),
    ),
  );
  same = split.0
      ∙ ap (λ x. tag ∷ x)
      (two.first.begins.bytes_are
      ∙ ap (λ x. field (encode_utf8_all id) ++ x)
      (two.second.begins.bytes_are ∙ ap (λ x. field (path_text (steps_of held)) ++ x) last.bytes_are))
      ∙ ap bytes_of (sym row);
}

-- ---- what goes wrong

-- there is no tag
pub nothing : (payload : List ℕ) → length payload ≡ 0 → IsNoRecord payload 0
unfolding IsNoRecord
nothing [] e = refl
nothing (b ∷ bs) e = absurd (omega (arith, e))

-- no command has the tag
pub no_row : (payload bytes : List ℕ) (t : ℕ)
    → IsFirstAndRest payload t bytes → types_of t ≡ None → IsNoRecord payload 0
unfolding IsNoRecord
no_row payload bytes t split row =
    subst (λ p. IsNoRecord p 0) (sym split.0)
    (subst (λ o. MatchOption o (zero ≡ zero) (λ types. FailsAt types [] 1 bytes 0)) (sym row) refl)

pub wrong : (payload bytes : List ℕ) (t at : ℕ) (types : List FieldType)
    → IsFirstAndRest payload t bytes → types_of t ≡ Some types → FailsAt types [] 1 bytes at → IsNoRecord payload at
unfolding IsNoRecord
wrong payload bytes t at types split row fails =
    subst (λ p. IsNoRecord p at) (sym split.0)
    (subst (λ o. MatchOption o (at ≡ 0) (λ types. FailsAt types [] 1 bytes at)) (sym row) fails)

-- that of the first two, where there are more
pub wrong_before : (payload bytes : List ℕ) (t at : ℕ) (second : FieldType) (types : List FieldType)
    (IsSecond : List ℕ → Type 0)
    → ((before : List (List ℕ)) (content : List ℕ) → HasType second before content → IsSecond content)
    → IsFirstAndRest payload t bytes → types_of t ≡ Some (identifier ∷ second ∷ types)
    → LacksTwo (IsFieldFault IsSecond) bytes at → IsNoRecord payload at
wrong_before payload bytes t at second types IsSecond to split row fails =
    wrong payload bytes t at (identifier ∷ second ∷ types) split row
    (⊎_elim
    (λ first. inl first)
    (λ (id, rest, begins, utf8, (lacks, is)). inr (
      id,
      rest,
      begins,
      utf8,
      inl (
        λ content behind begins has.
            lacks content behind begins (to (id ∷ []) content has),
        is,
      ),
    ))
    fails)

-- a fault of an identifier and what is behind it is that of the payload
module _ (payload bytes : List ℕ) (IsFault : ℕ → List ℕ → RecordFault → Type 0)
    (types : (at : ℕ) → LacksTwo IsFault bytes at → IsNoRecord payload at) where
  pub second_fault : (id rest : List ℕ) (at : ℕ) (fault : RecordFault) → length bytes + 1 ≡ length payload
      → Begins bytes id rest → IsUtf8 id → at ≡ length payload - length rest
      → IsFault at rest fault → IsRecordFault payload fault
  second_fault id rest at (NotARecord there) behind begins utf8 stands fails =
      types there
      (inr (id, rest, begins, utf8, subst (λ p. IsFault p rest (NotARecord there)) here fails))
    where
      here : at ≡ 1 + 4 + length id
      here = omega (arith, ap length begins.bytes_are, length-append (field id) rest, behind, stands)
  second_fault id rest at NoMemory behind begins utf8 stands fails = tt

-- a fault is handed on
pub handed_on : {V : Type 0} (P : V → Type 0) (Q : RecordFault → Type 0) (fault : RecordFault)
    (result : Result V RecordFault) → IsErr result × IsErrAnd result (λ f. f ≡ fault) → Q fault → MatchResult result P Q
handed_on P Q fault (Ok v) given fails = absurd given.1
handed_on P Q fault (Err f) given fails = subst Q (sym given.1) fails

-- that of a payload
module _ (payload bytes : List ℕ) (t tag : ℕ) (r : Result Command RecordFault) (fault : RecordFault)
    (split : IsFirstAndRest payload t bytes) (is : t ≡ tag) (handed : IsErr r × IsErrAnd r (λ f. f ≡ fault)) where
  at_tag : (types : List FieldType) → types_of tag ≡ Some types → types_of t ≡ Some types
  at_tag types row = ap types_of is ∙ row

  -- that of the one field
  pub wrong_one : (type : FieldType) → types_of tag ≡ Some (type ∷ []) → IsLastFault (HasType type []) 1 bytes fault
      → MatchResult r (IsRecord payload) (IsRecordFault payload)
  wrong_one type row fails = handed_on _ _ fault r handed (by_fault fault fails)
    where
      by_fault : (f : RecordFault) → IsLastFault (HasType type []) 1 bytes f → IsRecordFault payload f
      by_fault (NotARecord at) g = wrong payload bytes t at (type ∷ []) split (at_tag (type ∷ []) row) g
      by_fault NoMemory g = tt

  -- that of the third
  pub wrong_third : (first rest second behind : List ℕ) (at : ℕ) (type middle last : FieldType)
      → types_of tag ≡ Some (type ∷ middle ∷ last ∷ []) → Begins bytes first rest
      → HasType type [] first → Begins rest second behind → HasType middle (first ∷ []) second
      → at ≡ length payload - length behind
      → IsLastFault (HasType last (first ∷ second ∷ [])) at behind fault
      → MatchResult r (IsRecord payload) (IsRecordFault payload)
  wrong_third first rest second behind at type middle last row begins has goes_on has_middle stands fails =
      handed_on _ _ fault r handed (by_fault fault fails)
    where
      types : List FieldType
      types = type ∷ middle ∷ last ∷ []

      here : at ≡ 1 + 4 + length first + 4 + length second
      here = omega (
        arith,
        ap length begins.bytes_are,
        length-append (field first) rest,
        ap length goes_on.bytes_are,
        length-append (field second) behind,
        split.1,
        stands,
      )

      by_fault : (f : RecordFault)
          → IsLastFault (HasType last (first ∷ second ∷ [])) at behind f → IsRecordFault payload f
      by_fault (NotARecord there) g =
          wrong payload bytes t there types split (at_tag types row)
          (inr (
            first,
            rest,
            begins,
            has,
            inr (
              second,
              behind,
              goes_on,
              has_middle,
              subst (λ p. FailsAt (last ∷ []) (first ∷ second ∷ []) p behind there) here g,
            ),
          ))
      by_fault NoMemory g = tt
