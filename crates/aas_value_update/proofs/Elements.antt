-- Elements as parts, and what an update leaves alone, one level at a time.
use Rattle.std.proofs.Common.{◌≡◌, Bool, true, false, List, [], ◌∷◌, map, refl, ap, ap₂, ◌∙◌}
use Rattle.std.specs.Prelude.{if◌then◌else◌}
use Rattle.aas_model_names.specs.declared.modifiers.Extent.TheVariants as extent
use Rattle.aas_model.specs.declared.common.Common.{Common}
use Rattle.aas_model.specs.declared.element.Element.{Element, out-Element, fold-Element}
use Rattle.aas_model.specs.declared.element.Element.TheFolds.{fold-roll-Element}
use Rattle.aas_model.specs.declared.element.Role.{Role}
use Rattle.aas_model.specs.declared.payload.Payload.{Payload}
use Rattle.aas_json_mapping.proofs.Elements.{made, by_children}
use Rattle.aas_json_spelling.specs.Lists.{Each}
use Rattle.aas_path_trees.specs.Children.{kids_of}
use Rattle.aas_constraint_laws.specs.Values.{without_values}
use Rattle.aas_value.specs.ValueForm.{child_part, shows_children}
use Rattle.aas_value.proofs.Forms as forms
use Rattle.aas_value_update.specs.Forms.{form_of, part_of}
use Rattle.aas_value_update.specs.LeftAlone.{Left, left_over, left_alone}

-- ---- elements as parts

pub part_at : (r : Role) (c : Common) (x : Payload) (ks : List Element)
    → part_of (made r c x ks) ≡ child_part c.id_short (form_of x (map part_of ks))
part_at r c x ks =
    forms.part_rolled extent.WithBlobValue (record { common = c; payload = x; role = r; kids = ks })

pub part_out : (e : Element) → part_of e
    ≡ child_part (out-Element e).common.id_short (form_of (out-Element e).payload (map part_of (kids_of e)))
part_out e = forms.part_out extent.WithBlobValue e

-- ---- what is left alone

left_element : (e : Element) → (fold-Element Left left_over e).element ≡ e
left_element = by_children (λ e. (fold-Element Left left_over e).element ≡ e) (λ r c x ks each.
    ap (λ l. l.element) (fold-roll-Element Left left_over (record { common = c; payload = x; role = r; kids = ks }))
    ∙ ap (made r c x) (all ks each))
  where
    all : (ks : List Element) → Each (λ e. (fold-Element Left left_over e).element ≡ e) ks
        → map (λ l. l.element) (map (fold-Element Left left_over) ks) ≡ ks
    all [] e = refl
    all (k ∷ ks) e = ap₂ (λ c cs. c ∷ cs) e.0 (all ks e.1)

abbrev pub kids_alone : Payload → List Element → List Element
kids_alone x ks = if shows_children x then map left_alone ks else ks

by_test : (b : Bool) (ks : List Element)
    → map (λ (k : Left). if b then k.alone else k.element) (map (fold-Element Left left_over) ks)
    ≡ (if b then map left_alone ks else ks)
unfolding left_alone
by_test true [] = refl
by_test true (k ∷ ks) = ap (λ cs. (fold-Element Left left_over k).alone ∷ cs) (by_test true ks)
by_test false [] = refl
by_test false (k ∷ ks) = ap₂ (λ c cs. c ∷ cs) (left_element k) (by_test false ks)

pub alone_at : (r : Role) (c : Common) (x : Payload) (ks : List Element)
    → left_alone (made r c x ks) ≡ made r c (without_values x) (kids_alone x ks)
unfolding left_alone
alone_at r c x ks =
    ap (λ l. l.alone) (fold-roll-Element Left left_over (record { common = c; payload = x; role = r; kids = ks }))
    ∙ ap (made r c (without_values x)) (by_test (shows_children x) ks)
