-- What is shown at a level and to an extent is the form at that level and to that extent.
use Rattle.std.proofs.Common.{◌≡◌, ℕ, suc, ◌+◌, ◌<◌, ◌≤◌, nat_lt, Bool, true, false, List, [], ◌∷◌, ◌++◌, map, refl}
use Rattle.std.proofs.Common.{sym, ap, ap₂, ◌∙◌, subst, arith, if◌then◌else◌, le-ltb, lt-ltb}
use Rattle.aas_model.specs.declared.documents.Submodel.{Submodel}
use Rattle.aas_model.specs.declared.element.Element.{Element, fold-Element, fold_out-Element, out-Element}
use Rattle.aas_model.specs.declared.element.Element.{out-roll-Element, roll-Element, roll-out-Element}
use Rattle.aas_model.specs.declared.payload.Payload.{Payload}
use Rattle.aas_model.specs.declared.payload.Payload.TheVariants as p
use Rattle.aas_model_names.specs.declared.modifiers.Extent.{Extent}
use Rattle.aas_model_names.specs.declared.modifiers.Extent.TheVariants.{WithBlobValue, WithoutBlobValue}
use Rattle.aas_model_names.specs.declared.modifiers.Level.{Level}
use Rattle.aas_model_names.specs.declared.modifiers.Level.TheVariants.{Deep, Core}
use Rattle.aas_path_trees.specs.Children.{kids_of, with_kids}
use Rattle.aas_rows.specs.Rows.{Line, line_at, rows, rows_of_all}
use Rattle.aas_rows.proofs.Trees.{Every, by_kids, every, rows_out}
use Rattle.aas_form.specs.CoreForm.{childless, core_form, submodel_core}
use Rattle.aas_form.specs.WithoutBlobs.{blobless, blobless_over, submodel_without_blobs, without_blob, without_blobs}
use Rattle.aas_json_write_members.specs.Members.{shown_payload}
use Rattle.aas_json_write_members.specs.Texts.{Leveled, shown, shown_over}
use Rattle.aas_json_write_members.specs.declared.members.Show.{Show}
use Rattle.aas_json_write_rows.specs.Poured.{AreLow}
use Rattle.aas_json_write_rows.specs.Shown.{has_blobs, show_at}
use Rattle.aas_json_write_rows.specs.Submodels.{shown_submodel}

-- ---- an element with Blobs as they are shown

same_payload : (x : Payload) → without_blob x ≡ shown_payload false x
same_payload p.Capability = refl
same_payload x = refl

map_same : (f : Element → Element) → ((e : Element) → f e ≡ e) → (es : List Element) → es ≡ map f es
map_same f same [] = refl
map_same f same (e ∷ es) = ap₂ (λ x xs. x ∷ xs) (sym (same e)) (map_same f same es)

stripped : Bool → Element → Element
stripped true e = e
stripped false e = blobless e

-- with children as they are
over : Bool → Element → List Element → Element
over b e ks = roll-Element (record (out-Element e) { payload = shown_payload b (out-Element e).payload; kids = ks })

stripped_out : (b : Bool) (e : Element) → stripped b e ≡ over b e (map (stripped b) (kids_of e))
unfolding stripped over blobless
stripped_out true e =
    sym (roll-out-Element e)
    ∙ ap (λ ks. roll-Element (record (out-Element e) { kids = ks })) (map_same (stripped true) (λ e. refl) (kids_of e))
stripped_out false e =
    fold_out-Element Element blobless_over e
    ∙ ap (λ x. roll-Element (record (out-Element e) { payload = x; kids = map blobless (kids_of e) }))
    (same_payload (out-Element e).payload)

stripped_kids : (b : Bool) (e : Element) (ks : List Element)
    → stripped b (with_kids e ks) ≡ over b e (map (stripped b) ks)
unfolding over
stripped_kids b e ks =
    stripped_out b (with_kids e ks)
    ∙ ap (λ o. roll-Element (record o { payload = shown_payload b o.payload; kids = map (stripped b) o.kids }))
    (out-roll-Element (record (out-Element e) { kids = ks }))

as_asked : (extent : Extent) (e : Element) → stripped (has_blobs extent) e ≡ without_blobs extent e
unfolding stripped
as_asked WithBlobValue e = refl
as_asked WithoutBlobValue e = refl

-- ---- what is shown

shown_out : (w : Show) (e : Element) (k : ℕ)
    → shown w e k ≡ over w.blobs e (if nat_lt k w.cut then map (λ e. shown w e (k + 1)) (kids_of e) else [])
unfolding shown over
shown_out w e k =
    ap (λ f. f k) (fold_out-Element (Leveled Element) (shown_over w) e)
    ∙ ap (λ es. roll-Element (record (out-Element e) {
      payload = shown_payload w.blobs (out-Element e).payload;
      kids = if nat_lt k w.cut then es else [];
    }))
    (twice (kids_of e))
  where
    twice : (es : List Element)
        → map (λ (f : Leveled Element). f (k + 1)) (map (fold-Element (Leveled Element) (shown_over w)) es)
        ≡ map (λ e. fold-Element (Leveled Element) (shown_over w) e (k + 1)) es
    twice [] = refl
    twice (e ∷ es) = ap (λ vs. fold-Element (Leveled Element) (shown_over w) e (k + 1) ∷ vs) (twice es)

shown_above : (w : Show) (e : Element) (k : ℕ)
    → k < w.cut → shown w e k ≡ over w.blobs e (map (λ e. shown w e (k + 1)) (kids_of e))
shown_above w e k lt =
    shown_out w e k
    ∙ ap (λ b. over w.blobs e (if b then map (λ e. shown w e (k + 1)) (kids_of e) else [])) (lt-ltb k w.cut lt)

-- without its children
shown_last : (w : Show) (e : Element) (k : ℕ) → w.cut ≤ k → shown w e k ≡ stripped w.blobs (childless e)
shown_last w e k le =
    shown_out w e k
    ∙ ap (λ b. over w.blobs e (if b then map (λ e. shown w e (k + 1)) (kids_of e) else [])) (le-ltb k w.cut le)
    ∙ sym (stripped_kids w.blobs e [])

last_all : (w : Show) (k : ℕ) (es : List Element)
    → w.cut ≤ k → map (λ e. shown w e k) es ≡ map (stripped w.blobs) (map childless es)
last_all w k [] le = refl
last_all w k (e ∷ es) le = ap₂ (λ x xs. x ∷ xs) (shown_last w e k le) (last_all w k es le)

-- with all below it
Whole : Show → Element → Type 0
Whole w e = (k : ℕ) → 30 < w.cut → AreLow (rows e k) → shown w e k ≡ stripped w.blobs e

pub low_left : (xs ys : List Line) → AreLow (xs ++ ys) → AreLow xs
low_left [] ys low n r is = absurd (cc)
low_left (x ∷ xs) ys low Prim.Native.Nat.zero r is = low 0 r is
low_left (x ∷ xs) ys low (suc n) r is = low_left xs ys (λ n. low (suc n)) n r is

pub low_right : (xs ys : List Line) → AreLow (xs ++ ys) → AreLow ys
low_right [] ys low = low
low_right (x ∷ xs) ys low = low_right xs ys (λ n. low (suc n))

whole_all : (w : Show) (es : List Element) (k : ℕ) → Every (Whole w) es → 30 < w.cut → AreLow (rows_of_all es k)
    → map (λ e. shown w e k) es ≡ map (stripped w.blobs) es
unfolding Whole
whole_all w [] k h cut low = refl
whole_all w (e ∷ es) k h cut low =
    ap₂ (λ x xs. x ∷ xs) (h.0 k cut (low_left (rows e k) (rows_of_all es k) low))
    (whole_all w es k h.1 cut (low_right (rows e k) (rows_of_all es k) low))

whole : (w : Show) (e : Element) → Every (Whole w) (kids_of e) → Whole w e
unfolding Whole
whole w e h k cut low =
    let lines = subst AreLow (rows_out e k) low in
    shown_above w e k (omega (arith, cut, lines 0 (line_at k e) refl))
    ∙ ap (over w.blobs e) (whole_all w (kids_of e) (k + 1) h cut (λ n. lines (suc n)))
    ∙ sym (stripped_out w.blobs e)

whole_below : (w : Show) (es : List Element) (k : ℕ)
    → 30 < w.cut → AreLow (rows_of_all es k) → map (λ e. shown w e k) es ≡ map (stripped w.blobs) es
whole_below w es k = whole_all w es k (every (Whole w) (by_kids (Whole w) (whole w)) es)

-- ---- what is shown is the form

-- of an element that stands at the level k, and of a submodel
pub element_is_shown : (level : Level) (extent : Extent) (e : Element) (k : ℕ) → AreLow (rows e k)
    → shown (show_at k level extent) e k ≡ without_blobs extent (core_form level e)
unfolding Whole
element_is_shown Deep x e k low =
    by_kids (Whole (show_at k Deep x)) (whole (show_at k Deep x)) e k (omega arith) low ∙ as_asked x e
element_is_shown Core x e k low =
    let w = show_at k Core x in
    shown_above w e k (omega arith) ∙ ap (over w.blobs e) (last_all w (k + 1) (kids_of e) (omega arith))
    ∙ sym (stripped_kids w.blobs e (map childless (kids_of e))) ∙ as_asked x (core_form Core e)

kids_as_asked : (x : Extent) (s : Submodel)
    → record s { kids = map (stripped (has_blobs x)) s.kids } ≡ submodel_without_blobs x s
unfolding stripped
kids_as_asked WithBlobValue s = ap (λ ks. record s { kids = ks }) (sym (map_same (stripped true) (λ e. refl) s.kids))
kids_as_asked WithoutBlobValue s = refl

pub submodel_is_shown : (level : Level) (extent : Extent) (s : Submodel) → AreLow (rows_of_all s.kids 1)
    → shown_submodel (show_at 0 level extent) s s.kids ≡ submodel_without_blobs extent (submodel_core level s)
submodel_is_shown Deep x s low =
    ap (λ ks. record s { kids = ks }) (whole_below (show_at 0 Deep x) s.kids 1 (omega arith) low) ∙ kids_as_asked x s
submodel_is_shown Core x s low =
    ap (λ ks. record s { kids = ks }) (last_all (show_at 0 Core x) 1 s.kids (omega arith))
    ∙ kids_as_asked x (record s { kids = map childless s.kids })
