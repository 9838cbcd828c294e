-- What a walk in preorder has gathered, one element after another.
use Rattle.std.proofs.Common.{◌≡◌, ℕ, ◌+◌, true, List, [], ◌∷◌, ◌++◌, length, map, Option, Some, None, refl, sym, ap}
use Rattle.std.proofs.Common.{ap₂, ◌∙◌, subst, append_assoc, length-append, arith}
use Rattle.std.proofs.lemmas.List.{append-nil}
use Rattle.serde_json.specs.Data.{Data}
use Rattle.aas_model.specs.Payload.{kind_of}
use Rattle.aas_model.specs.declared.common.Common.{Common}
use Rattle.aas_model.specs.declared.element.Element.{Element}
use Rattle.aas_model.specs.declared.element.Role.{Role}
use Rattle.aas_model.specs.declared.patch.PatchRow.{PatchRow}
use Rattle.aas_model.specs.declared.payload.Payload.{Payload}
use Rattle.aas_model.specs.declared.payload.Payload.TheVariants as p
use Rattle.aas_model_names.specs.declared.kind.Kind.{Kind}
use Rattle.aas_json_mapping.proofs.Elements.{made}
use Rattle.aas_constraint_laws.specs.Values.{without_values}
use Rattle.aas_path_trees.specs.Patched.{payload_at, kinds, kinds_of_all, patched, patched_all}
use Rattle.aas_value_update.specs.Forms.{form_of, part_of}
use Rattle.aas_value.specs.Parts.{children, fits_form}
use Rattle.aas_value_update.specs.Shape.{sent}
use Rattle.aas_value_update.specs.Took.{NamedIn}
use Rattle.aas_value_patch.specs.Gathered.{IsTaken, AreTaken, SoFar, Gathered, GatheredAll, Reached}
use Rattle.aas_value_patch.specs.Takes.{Takes}
use Rattle.aas_value_patch.proofs.Level.{level_taken}
use Rattle.aas_value_patch.proofs.Rows.{kinds_at, patched_at, rank_behind, unpatched, none_at, before_last}
use Rattle.aas_value_patch.proofs.Rows.{at_last, more_seen}

-- ---- one after another

pub none_gathered : (seen : List Kind) (rows : List PatchRow) → SoFar seen rows → GatheredAll [] [] seen rows rows
none_gathered seen rows so = record {
  fit = subst (λ l. SoFar l rows) (sym (append-nil seen)) so;
  stays = λ j own le lt. refl;
  taken = λ all same. tt;
}

-- an element to which nothing is sent
pub skipped : (e : Element) (seen : List Kind) (rows : List PatchRow) → SoFar seen rows → Gathered e None seen rows rows
skipped e seen rows so = record {
  fit = record { rising = so.rising; kinds_agree = more_seen seen (kinds e) rows so.kinds_agree };
  stays = λ j own le lt. refl;
  taken = λ all same. unpatched e all (length seen) (λ j own le lt.
      same j own le (let size = length-append seen (kinds e) in omega (arith, size))
      ∙ none_at seen rows so.kinds_agree j own le);
}

pub then_gathered : (k : Element) (ks : List Element) (s : Option Data)
    (ss : List (Option Data)) (seen : List Kind) (old mid new : List PatchRow)
    → Gathered k s seen old mid → GatheredAll ks ss (seen ++ kinds k) mid new
    → GatheredAll (k ∷ ks) (s ∷ ss) seen old new
then_gathered k ks s ss seen old mid new a b =
    let joined = append_assoc seen (kinds k) (kinds_of_all ks) in
    let size = length-append seen (kinds k) in
    let sizes = length-append (seen ++ kinds k) (kinds_of_all ks) in
    let total : length (seen ++ (kinds k ++ kinds_of_all ks)) ≡ length (seen ++ kinds k) + length (kinds_of_all ks) =
    ap length (sym joined) ∙ sizes in
    record {
      fit = subst (λ l. SoFar l new) joined b.fit;
      stays = λ j own le lt. b.stays j own le (omega (arith, size)) ∙ a.stays j own le lt;
      taken = λ all same.
          let rank : (patched all k (length seen)).1 ≡ length (seen ++ kinds k) =
          rank_behind k all (length seen) ∙ sym size in (
            a.taken all (λ j own le lt. same j own le (omega (arith, total)) ∙ b.stays j own (omega arith) lt),
            subst (λ n. AreTaken ks ss (patched_all all ks n).0) (sym rank)
                (b.taken all (λ j own le lt. same j own (omega (arith, size)) (omega (arith, total, sizes)))),
          );
    }

-- ---- an element itself, and then its children

pub same_kind : (x y : Payload) → without_values y ≡ without_values x → kind_of y ≡ kind_of x
same_kind x y e = sym (kind_bare y) ∙ ap kind_of e ∙ kind_bare x
  where
    kind_bare : (x : Payload) → kind_of (without_values x) ≡ kind_of x
    kind_bare p.Capability = refl
    kind_bare _ = refl

pub taken_here : (r : Role) (c : Common) (x : Payload) (ks : List Element)
    (v : Data) (q : PatchRow) (seen : List Kind) (old mid new : List PatchRow)
    → SoFar seen old → q.rank ≡ length seen → mid ≡ old ++ q ∷ []
    → fits_form (form_of x (map part_of ks)) v ≡ true → NamedIn x (map part_of ks) → Takes x v q.payload
    → GatheredAll ks (sent x (children (map part_of ks)) v) (seen ++ kind_of q.payload ∷ []) mid new
    → Gathered (made r c x ks) (Some v) seen old new
taken_here r c x ks v q seen old mid new so is push fits named takes more =
    let kind = same_kind x q.payload takes.rest in
    let size = length-append seen (kind_of q.payload ∷ []) in
    let joined : (seen ++ kind_of q.payload ∷ []) ++ kinds_of_all ks ≡ seen ++ kinds (made r c x ks) =
    append_assoc seen (kind_of q.payload ∷ []) (kinds_of_all ks) ∙ ap (λ k. seen ++ (k ∷ kinds_of_all ks)) kind
    ∙ ap (λ l. seen ++ l) (sym (kinds_at r c x ks)) in
    let total = ap length joined in
    let sizes = length-append (seen ++ kind_of q.payload ∷ []) (kinds_of_all ks) in record {
      fit = subst (λ l. SoFar l new) joined more.fit;
      stays = λ j own le lt.
          more.stays j own le (omega (arith, size)) ∙ ap (λ l. payload_at j l own) push
          ∙ before_last old q j own (omega (arith, is));
      taken = λ all same.
          let here : payload_at (length seen) all x ≡ q.payload =
          same (length seen) x (omega arith) (omega (arith, total, sizes, size))
          ∙ more.stays (length seen) x (omega arith) (omega (arith, size))
          ∙ ap₂ (λ l j. payload_at j l x) push (sym is) ∙ at_last seen old q so.kinds_agree is x in
          let rank : length (seen ++ kind_of q.payload ∷ []) ≡ length seen + 1 = omega (arith, size) in
          let below = subst (λ n. AreTaken ks (sent x (children (map part_of ks)) v) (patched_all all ks n).0) rank
          (more.taken all (λ j own le lt. same j own (omega (arith, size)) (omega (arith, total)))) in
          subst (IsTaken (made r c x ks) (Some v))
          (sym (ap (λ (z : Element × ℕ). z.0) (patched_at all r c x ks (length seen))
          ∙ ap (λ y. made r c y (patched_all all ks (length seen + 1)).0) here))
          (level_taken r c x q.payload ks (patched_all all ks (length seen + 1)).0 v fits named takes below);
    }

-- ---- along children

pub reach_on : (ks : List Element) (sent : List (Option Data)) (seen : List Kind)
    (old : List PatchRow) (k : Element) (rest : List Element) (s : Option Data)
    (left : List (Option Data))
    (rank after : ℕ) (rows new : List PatchRow) → Reached ks sent seen old (k ∷ rest) (s ∷ left) rank rows
    → ((now : List Kind)
    → length now ≡ rank → SoFar now rows → (after ≡ length (now ++ kinds k)) × Gathered k s now rows new)
    → Reached ks sent seen old rest left after new
reach_on ks sent seen old k rest s left rank after rows new r step =
    let one = step r.now r.at r.fit in record {
      now = r.now ++ kinds k;
      at = sym one.0;
      fit = one.1.fit;
      whole = append_assoc r.now (kinds k) (kinds_of_all rest) ∙ r.whole;
      done = λ last g. r.done last (then_gathered k rest s left r.now rows new last one.1 g);
    }

pub reach_end : (ks : List Element) (sent : List (Option Data))
    (seen : List Kind) (old : List PatchRow) (rank : ℕ) (rows : List PatchRow)
    → Reached ks sent seen old [] [] rank rows
    → (rank ≡ length (seen ++ kinds_of_all ks)) × GatheredAll ks sent seen old rows
reach_end ks sent seen old rank rows r =
    (sym r.at ∙ ap length (sym (append-nil r.now) ∙ r.whole), r.done rows (none_gathered r.now rows r.fit))
