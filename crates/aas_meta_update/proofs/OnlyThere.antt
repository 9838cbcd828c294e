-- Metadata that is put changes nothing else in a submodel.
use Rattle.std.proofs.Common.{◌≡◌, List, [], ◌∷◌, ◌++◌, map, false, Some, option_and_then, refl, sym, ap, ◌∙◌, subst}
use Rattle.aas_model.specs.declared.documents.Submodel.{Submodel}
use Rattle.aas_model.specs.declared.element.Element.{Element, Element-F, out-Element, out-roll-Element}
use Rattle.aas_model.specs.declared.path.PathStep.{PathStep}
use Rattle.aas_model_names.specs.declared.modifiers.Extent.{Extent}
use Rattle.aas_path_trees.specs.Children.{kids_of, id_short_of, is_list, is_list_payload}
use Rattle.aas_path_trees.specs.ElementAt.{child_by, element_below, element_among, element_at}
use Rattle.aas_path_trees.specs.WithElement.{with_below, with_element}
use Rattle.aas_path_trees.proofs.Paths.{element_among-append, with_among-append}
use Rattle.aas_edit_laws.proofs.Others.{changed_named, change_aside, there_among, there_below}
use Rattle.aas_value.specs.Children.{named}
use Rattle.aas_value.specs.Parts.{Part, children}
use Rattle.aas_value.specs.ValueForm.{child_part, part_of}
use Rattle.aas_value.proofs.Forms.{part_out, part_rolled}
use Rattle.aas_meta_update.specs.WithMetadata.{IsAlike, with_metadata, with_shown}
use Rattle.aas_meta_update.specs.Laws.{IsAsBefore, OnlyThere, OnlyMetadataChanges}
use Rattle.aas_meta_update.proofs.Alike.{list_put, values_put}
use Rattle.aas_meta_update.proofs.Paths.{own_stays, part_stays, there_at, below_at, value_at}

module _ (o m : Element) (alike : IsAlike o m) (name : id_short_of m ≡ id_short_of o) where
  w : Element
  w = with_metadata o m

  out_w : out-Element w ≡ record (out-Element o) { common = (out-Element m).common; payload = with_shown (out-Element o).payload (out-Element m).payload }
  unfolding w
  out_w = out-roll-Element (record (out-Element o) { common = (out-Element m).common; payload = with_shown (out-Element o).payload (out-Element m).payload })

  w_name : id_short_of w ≡ id_short_of o
  w_name = ap (λ (y : Element-F Element). y.common.id_short) out_w ∙ name

  w_kids : kids_of w ≡ kids_of o
  w_kids = ap (λ (y : Element-F Element). y.kids) out_w

  w_list : is_list w ≡ is_list o
  w_list = ap (λ (y : Element-F Element). is_list_payload y.payload) out_w ∙ list_put (out-Element o).payload (out-Element m).payload alike

  w_part : (x : Extent) → part_of x w ≡ part_of x o
  unfolding w
  w_part x =
      let y = out-Element o in
      let z = out-Element m in
      let forms = values_put x y.payload z.payload (map (part_of x) y.kids) alike in
      part_rolled x (record y { common = z.common; payload = with_shown y.payload z.payload })
      ∙ (λ i. child_part (name i) (forms i)) ∙ sym (part_out x o)

  module _ (d : Submodel) where
    -- what a front of the path leads to
    above_at : (a b : List PathStep) (s : PathStep) (k : Element) → element_at d (a ++ s ∷ b) ≡ Some o → element_at d a ≡ Some k
        → (v : Element) × (element_at (with_element d (a ++ s ∷ b) w) a ≡ Some v) × IsAsBefore k v
    above_at [] b s k is there = absurd (cc)
    above_at (v ∷ a) b s k is there =
        let ready : element_below (s ∷ b) k ≡ Some o = sym (element_among-append false v a (s ∷ b) d.kids ∙ ap (option_and_then (element_below (s ∷ b))) there) ∙ is in
        let new = with_below (s ∷ b) k w in
        let new_name = changed_named w o w_name (s ∷ b) k ready in
        let leads : element_at (with_element d (v ∷ a) new) (v ∷ a) ≡ Some new = there_among new k new_name false v a d.kids (child_by false v d.kids) (there_below new k new_name a) refl there in
        let same = with_among-append false v a (s ∷ b) k w d.kids there in (
          new,
          ap (λ ks. element_among false v a ks) same ∙ leads,
          record {
            own = own_stays w s b k;
            value = λ x.
                ap (λ (y : Part). y.child.form) (part_stays w o w_name w_kids w_list w_part x (s ∷ b) k ready);
          },
        )

    only_there : (p : List PathStep) → element_at d p ≡ Some o → OnlyThere d (with_element d p w) p w
    only_there p is = record {
      there = there_at w o w_name w_kids w_list w_part d p is;
      above = λ a b s k e there. subst (λ q. (v : Element) × (element_at (with_element d q w) a ≡ Some v) × IsAsBefore k v) (sym e) (above_at a b s k (ap (element_at d) (sym e) ∙ is) there);
      below = λ c t. below_at w o w_name w_kids w_list w_part d p c t is;
      aside = λ a b c s t e apart. ap (λ q. element_at (with_element d q w) (a ++ t ∷ c)) e ∙ change_aside w o w_name d a b c s t (ap (element_at d) (sym e) ∙ is) apart;
      value = λ x. ap (λ xs. named (children xs)) (value_at w o w_name w_kids w_list w_part d x p is);
    }

pub only_metadata_changes : OnlyMetadataChanges
unfolding w
only_metadata_changes d p o m is alike name = only_there o m alike name d p is
