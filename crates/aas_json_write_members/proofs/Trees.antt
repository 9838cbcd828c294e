-- The text of a tree is the canonical one of what is shown of it.
use Rattle.std.proofs.Common.{◌≡◌, ℕ, ◌+◌, nat_lt, Bool, true, false, List, [], ◌∷◌, map, if◌then◌else◌, refl, sym, ap}
use Rattle.std.proofs.Common.{ap₂, ◌∙◌}
use Rattle.serde_json.specs.Written.{compact_text}
use Rattle.aas_json_table.specs.Spelled.{spelled}
use Rattle.aas_json_mapping.specs.Elements.{Child, element_attributes, model_type_of, rows_for}
use Rattle.aas_json_mapping.specs.Elements.{spell_over, spelled_child}
use Rattle.aas_json_mapping.proofs.Elements.{made, by_children}
use Rattle.aas_json_spelling.specs.Lists.{Each}
use Rattle.aas_model.specs.declared.common.Common.{Common}
use Rattle.aas_model.specs.declared.element.Element.{Element, fold-Element}
use Rattle.aas_model.specs.declared.element.Element.TheFolds.{fold-roll-Element}
use Rattle.aas_model.specs.declared.element.Role.{Role}
use Rattle.aas_model.specs.declared.payload.Payload.{Payload}
use Rattle.aas_rows.specs.Rows.{Line}
use Rattle.aas_json_write_members.specs.Members.{shown_payload}
use Rattle.aas_json_write_members.specs.declared.members.Show.{Show}
use Rattle.aas_json_write_members.specs.Script.{Spoken, element_text}
use Rattle.aas_json_write_members.specs.Texts.{Leveled, said, shown_kids, spoken, spoken_over, shown}
use Rattle.aas_json_write_members.specs.Texts.{shown_over, TreesHaveTheCanonicalText}
use Rattle.aas_json_write_members.proofs.Level.{same_type}
use Rattle.aas_json_write_members.proofs.Level as level

IsCanonical : Show → Element → Type 0
IsCanonical w e = (k : ℕ) → spoken w e k ≡ said (spelled_child (shown w e k))

-- ---- one level

each_at : {A B : Type 0} (f : A → Leveled B) (k : ℕ) (xs : List A)
    → map (λ (g : Leveled B). g k) (map f xs) ≡ map (λ x. f x k) xs
each_at f k [] = refl
each_at f k (x ∷ xs) = ap (λ ys. f x k ∷ ys) (each_at f k xs)

spoken_at : (w : Show) (r : Role) (c : Common) (x : Payload) (ks : List Element) (k : ℕ)
    → spoken w (made r c x ks) k ≡ record {
      role = r;
      text =
          element_text w (record { level = k; common = c; payload = x; role = r }) (map (λ e. spoken w e (k + 1)) ks);
    }
unfolding spoken
spoken_at w r c x ks k =
    ap (λ f. f k)
    (fold-roll-Element (Leveled Spoken) (spoken_over w) (record { common = c; payload = x; role = r; kids = ks }))
    ∙ ap (λ vs. record { role = r; text = element_text w (record { level = k; common = c; payload = x; role = r }) vs })
    (each_at (fold-Element (Leveled Spoken) (spoken_over w)) (k + 1) ks)

shown_at : (w : Show) (r : Role) (c : Common) (x : Payload) (ks : List Element) (k : ℕ)
    → shown w (made r c x ks) k
    ≡ made r c (shown_payload w.blobs x) (if nat_lt k w.cut then map (λ e. shown w e (k + 1)) ks else [])
unfolding shown
shown_at w r c x ks k =
    ap (λ f. f k)
    (fold-roll-Element (Leveled Element) (shown_over w) (record { common = c; payload = x; role = r; kids = ks }))
    ∙ ap (λ es. made r c (shown_payload w.blobs x) (if nat_lt k w.cut then es else []))
    (each_at (fold-Element (Leveled Element) (shown_over w)) (k + 1) ks)

-- ---- all levels

kids_canonical : (w : Show) (ks : List Element) (k : ℕ)
    → Each (IsCanonical w) ks → map (λ e. spoken w e k) ks ≡ map said (map (λ e. spelled_child (shown w e k)) ks)
unfolding IsCanonical
kids_canonical w [] k h = refl
kids_canonical w (e ∷ es) k h = ap₂ (λ v vs. v ∷ vs) (h.0 k) (kids_canonical w es k h.1)

kids_shown : (w : Show) (ks : List Element) (k : ℕ) (b : Bool)
    → map spelled_child (if b then map (λ e. shown w e k) ks else [])
    ≡ (if b then map (λ e. spelled_child (shown w e k)) ks else [])
kids_shown w ks k false = refl
kids_shown w ks k true = each ks
  where
    each : (ks : List Element)
        → map spelled_child (map (λ e. shown w e k) ks) ≡ map (λ e. spelled_child (shown w e k)) ks
    each [] = refl
    each (e ∷ es) = ap (λ cs. spelled_child (shown w e k) ∷ cs) (each es)

level_canonical : (w : Show) (r : Role) (c : Common) (x : Payload) (ks : List Element)
    → Each (IsCanonical w) ks → IsCanonical w (made r c x ks)
unfolding IsCanonical
level_canonical w r c x ks h k =
    let line : Line = record { level = k; common = c; payload = x; role = r } in
    let y = shown_payload w.blobs x in
    let cs = map (λ e. spelled_child (shown w e (k + 1))) ks in
    let kept = if nat_lt k w.cut then map (λ e. shown w e (k + 1)) ks else [] in
    spoken_at w r c x ks k
    ∙ ap (λ vs. record { role = r; text = element_text w line vs }) (kids_canonical w ks (k + 1) h)
    ∙ ap (λ t. record { role = r; text = t }) (level.canonical w line cs)
    ∙ ap (λ n. record {
      role = r;
      text = compact_text (spelled (rows_for n) (element_attributes c y (shown_kids w k cs)));
    })
    (same_type w.blobs x)
    ∙ ap (λ us. record {
      role = r;
      text = compact_text (spelled (rows_for (model_type_of y)) (element_attributes c y us));
    })
    (sym (kids_shown w ks (k + 1) (nat_lt k w.cut)))
    ∙ ap said (sym (fold-roll-Element Child spell_over (record { common = c; payload = y; role = r; kids = kept })))
    ∙ ap (λ e. said (spelled_child e)) (sym (shown_at w r c x ks k))

canonical_each : (w : Show) (e : Element) → IsCanonical w e
canonical_each w = by_children (IsCanonical w) (level_canonical w)

pub canonical : TreesHaveTheCanonicalText
unfolding IsCanonical
canonical w e k = canonical_each w e k
