-- References by levels: induction, and what is said of one level.
use Rattle.std.proofs.Common.{◌≡◌, ℕ, suc, ◌≤◌, ◌&&◌, List, Bool, true, Option, Some, None, option_map, unwrap_or, subst}
use Rattle.serde_json.specs.Data.{Data}
use Rattle.aas_json_spelling.specs.Lists.{is_any}
use Rattle.aas_json_table.specs.Table.{parts, reference}
use Rattle.aas_json_table.specs.Spelled.{Attributes, spelled}
use Rattle.aas_model_names.specs.declared.enumerations.ReferenceType.{ReferenceType}
use Rattle.aas_model.specs.declared.reference.Key.{Key}
use Rattle.aas_model.specs.declared.reference.Reference.{Reference, out-Reference, roll-Reference, roll-out-Reference}
use Rattle.aas_model.specs.declared.reference.Reference.TheFolds.{ind-Reference, fold-roll-Reference, map-Reference}
use Rattle.aas_reference.specs.Spelling.{reference_attributes, spell_reference}
use Rattle.aas_reference.specs.Whole.{has_keys, reference_levels}

-- a reference, made of its parts
abbrev pub made : ReferenceType → List Key → Option Reference → Reference
made t ks o = roll-Reference (record { ref_type = t; keys = ks; referred = o })

pub made_out : (r : Reference) → made (out-Reference r).ref_type (out-Reference r).keys (out-Reference r).referred ≡ r
made_out r = roll-out-Reference r

-- ---- induction

-- P holds of the reference within
abbrev pub Within : (Reference → Type 0) → Option Reference → Type 0
Within P o = (r : Reference) → o ≡ Some r → P r

proved_within : (P : Reference → Type 0) (o : Option ((r : Reference) × P r)) → Within P (option_map (λ e. e.0) o)
proved_within P None r e = cc
proved_within P (Some p) r e = let same : p.0 ≡ r = cc in subst P same p.1

at_level : (P : Reference → Type 0) → ((t : ReferenceType) (ks : List Key) (o : Option Reference) → Within P o → P (made t ks o))
    → (t : ReferenceType) (ks : List Key) (o : Option ((r : Reference) × P r)) → P (roll-Reference (map-Reference ((r : Reference) × P r) Reference (λ e. e.0) (record { ref_type = t; keys = ks; referred = o })))
at_level P step t ks None = step t ks None (proved_within P None)
at_level P step t ks (Some p) = step t ks (Some p.0) (proved_within P (Some p))

-- What holds of a reference where it holds of the one within holds of all.
pub by_levels : (P : Reference → Type 0) → ((t : ReferenceType) (ks : List Key) (o : Option Reference) → Within P o → P (made t ks o)) → (r : Reference) → P r
by_levels P step = ind-Reference P (λ x y is. subst (λ z. P (roll-Reference z)) is (at_level P step y.ref_type y.keys y.referred))

-- ---- one level

-- the reference and those within it have keys, and there are levels for it
abbrev pub Fits : ℕ → Reference → Type 0
Fits n r = (has_keys r ≡ true) × (reference_levels r ≤ n)

-- the attributes of a level, with the reference within it already spelled
abbrev pub attributes_at : ReferenceType → List Key → Option Data → Attributes
attributes_at t ks o = reference_attributes (record { ref_type = t; keys = ks; referred = o })

pub spell_at : (t : ReferenceType) (ks : List Key) (o : Option Reference) → spell_reference (made t ks o) ≡ spelled (parts reference) (attributes_at t ks (option_map spell_reference o))
spell_at t ks None = fold-roll-Reference Data (λ r. spelled (parts reference) (reference_attributes r)) (record { ref_type = t; keys = ks; referred = None })
spell_at t ks (Some r) = fold-roll-Reference Data (λ r. spelled (parts reference) (reference_attributes r)) (record { ref_type = t; keys = ks; referred = Some r })

pub keys_at : (t : ReferenceType) (ks : List Key) (o : Option Reference) → has_keys (made t ks o) ≡ is_any ks && unwrap_or (option_map has_keys o) true
keys_at t ks None = fold-roll-Reference Bool (λ r. is_any r.keys && unwrap_or r.referred true) (record { ref_type = t; keys = ks; referred = None })
keys_at t ks (Some r) = fold-roll-Reference Bool (λ r. is_any r.keys && unwrap_or r.referred true) (record { ref_type = t; keys = ks; referred = Some r })

pub levels_at : (t : ReferenceType) (ks : List Key) (o : Option Reference) → reference_levels (made t ks o) ≡ suc (unwrap_or (option_map reference_levels o) 0)
levels_at t ks None = fold-roll-Reference ℕ (λ r. suc (unwrap_or r.referred 0)) (record { ref_type = t; keys = ks; referred = None })
levels_at t ks (Some r) = fold-roll-Reference ℕ (λ r. suc (unwrap_or r.referred 0)) (record { ref_type = t; keys = ks; referred = Some r })
