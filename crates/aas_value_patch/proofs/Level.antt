-- An element that takes a value, one level at a time.
use Rattle.std.proofs.Common.{◌≡◌, Bool, true, false, List, [], ◌∷◌, map, Option, Some, None, refl, sym, ap, ap₂, ◌∙◌}
use Rattle.std.specs.Prelude.{if◌then◌else◌}
use Rattle.serde_json.specs.Data.{Data}
use Rattle.aas_model.specs.declared.common.Common.{Common}
use Rattle.aas_model.specs.declared.element.Element.{Element}
use Rattle.aas_model.specs.declared.element.Role.{Role}
use Rattle.aas_model.specs.declared.payload.Payload.{Payload}
use Rattle.aas_model.specs.declared.payload.Payload.TheVariants as p
use Rattle.aas_json_mapping.proofs.Elements.{made}
use Rattle.aas_value_update.specs.Forms.{form_of, part_of}
use Rattle.aas_value.specs.ValueForm.{shows_children}
use Rattle.aas_value_update.specs.LeftAlone.{left_alone}
use Rattle.aas_value.specs.Parts.{Part, children, over, fits_form}
use Rattle.aas_value_update.specs.Shape.{nothing_sent, sent}
use Rattle.aas_value_update.specs.Took.{TookOne, Took, NamedIn}
use Rattle.aas_value_update.proofs.Alone.{shows_bare}
use Rattle.aas_value_update.proofs.Elements.{part_at, kids_alone, alone_at}
use Rattle.aas_value_update.proofs.Laid.{over_none}
use Rattle.aas_value_patch.specs.Gathered.{HasTaken, IsTaken, AreTaken}
use Rattle.aas_value_patch.specs.Takes.{Takes}

-- ---- children

pub took_kids : (ks : List Element) (ss : List (Option Data)) (us : List Element)
    → AreTaken ks ss us → Took (map part_of ks) ss (map part_of us)
took_kids [] [] [] t = tt
took_kids [] [] (u ∷ us) t = absurd t
took_kids [] (s ∷ ss) us t = absurd t
took_kids (k ∷ ks) [] us t = absurd t
took_kids (k ∷ ks) (s ∷ ss) [] t = absurd t
took_kids (k ∷ ks) (s ∷ ss) (u ∷ us) t = (one s t.0, took_kids ks ss us t.1)
  where
    one : (s : Option Data) → IsTaken k s u → TookOne (part_of k) s (part_of u)
    one None e =
        ap (λ z. (part_of z).child) e
        ∙ ap (λ (f : Option Data). record (part_of k).child { form = f })
        (over_none (part_of k).lay (part_of k).child.form)
    one (Some v) h = h.form

pub alone_kids : (ks : List Element) (ss : List (Option Data)) (us : List Element)
    → AreTaken ks ss us → map left_alone us ≡ map left_alone ks
alone_kids [] [] [] t = refl
alone_kids [] [] (u ∷ us) t = absurd t
alone_kids [] (s ∷ ss) us t = absurd t
alone_kids (k ∷ ks) [] us t = absurd t
alone_kids (k ∷ ks) (s ∷ ss) [] t = absurd t
alone_kids (k ∷ ks) (s ∷ ss) (u ∷ us) t = ap₂ (λ z zs. z ∷ zs) (one s t.0) (alone_kids ks ss us t.1)
  where
    one : (s : Option Data) → IsTaken k s u → left_alone u ≡ left_alone k
    one None e = ap left_alone e
    one (Some v) h = h.rest

same_kids : (ks us : List Element) → AreTaken ks (nothing_sent (children (map part_of ks))) us → us ≡ ks
same_kids [] [] t = refl
same_kids [] (u ∷ us) t = absurd t
same_kids (k ∷ ks) [] t = absurd t
same_kids (k ∷ ks) (u ∷ us) t = ap₂ (λ z zs. z ∷ zs) t.0 (same_kids ks us t.1)

-- ---- a level

-- where no children are shown, nothing is sent to them
hides : (x : Payload) (ks us : List Element) (v : Data)
    → shows_children x ≡ false → AreTaken ks (sent x (children (map part_of ks)) v) us → us ≡ ks
hides (p.AnnotatedRelationshipElement a b) ks us v s t = absurd (cc)
hides (p.Entity e g ids) ks us v s t = absurd (cc)
hides p.SubmodelElementCollection ks us v s t = absurd (cc)
hides (p.SubmodelElementList a b c d) ks us v s t = absurd (cc)
hides p.Capability ks us v s t = same_kids ks us t
hides _ ks us v s t = same_kids ks us t

kids_rest : (x y : Payload) (ks us : List Element) (v : Data)
    → shows_children y ≡ shows_children x → AreTaken ks (sent x (children (map part_of ks)) v) us
    → kids_alone y us ≡ kids_alone x ks
kids_rest x y ks us v same t = ap (λ b. if b then map left_alone us else us) same ∙ by_shows (shows_children x) refl
  where
    by_shows : (b : Bool)
        → shows_children x ≡ b → (if b then map left_alone us else us) ≡ (if b then map left_alone ks else ks)
    by_shows true e = alone_kids ks (sent x (children (map part_of ks)) v) us t
    by_shows false e = hides x ks us v e t

pub level_taken : (r : Role) (c : Common) (x y : Payload) (ks us : List Element) (v : Data)
    → fits_form (form_of x (map part_of ks)) v ≡ true
    → NamedIn x (map part_of ks)
    → Takes x v y → AreTaken ks (sent x (children (map part_of ks)) v) us → HasTaken (made r c x ks) v (made r c y us)
level_taken r c x y ks us v fits named takes t =
    let shows : shows_children y ≡ shows_children x =
    sym (shows_bare y) ∙ ap shows_children takes.rest ∙ shows_bare x in
    record {
      rest = alone_at r c y us ∙ ap₂ (made r c) takes.rest (kids_rest x y ks us v shows t) ∙ sym (alone_at r c x ks);
      form =
          ap (λ (z : Part). z.child) (part_at r c y us)
          ∙ ap (λ (f : Option Data). record { name = c.id_short; form = f })
          (takes.form (map part_of ks) (map part_of us) fits named
          (took_kids ks (sent x (children (map part_of ks)) v) us t))
          ∙ sym (ap (λ (z : Part). record z.child { form = over z.lay z.child.form (Some v) }) (part_at r c x ks));
    }
