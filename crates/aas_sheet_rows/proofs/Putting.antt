-- Payloads put into rows in place make the rows of a patched tree.
use Rattle.std.proofs.Common.{◌≡◌, ℕ, zero, suc, ◌+◌, ◌<◌, ◌≤◌, false, ◌==◌, List, [], ◌∷◌, ◌++◌, length, map, Some}
use Rattle.std.proofs.Common.{slice_get, slice_set, slice_index_or, refl, sym, ap, ap₂, ◌∙◌, subst, arith}
use Rattle.std.proofs.Common.{length-append, if◌then◌else◌}
use Rattle.std.specs.List.{All}
use Rattle.std.proofs.lemmas.Bool.Decides.{Decides-eqb}
use Rattle.std.proofs.lemmas.List.Elements.{All-head, All-tail}
use Rattle.std.proofs.lemmas.List.{append-nil}
use Rattle.std.proofs.lemmas.Option.{slice_get_within}
use Rattle.aas_path.proofs.PatchWalk.{skipped, none_below}
use Rattle.aas_model.specs.Payload.{kind_of}
use Rattle.aas_model.specs.declared.documents.Submodel.{Submodel}
use Rattle.aas_model.specs.declared.element.Element.{Element, out-Element}
use Rattle.aas_model.specs.declared.patch.PatchRow.{PatchRow}
use Rattle.aas_model.specs.declared.payload.Payload.{Payload}
use Rattle.aas_model_names.specs.declared.kind.Kind.{Kind}
use Rattle.aas_path_trees.specs.Children.{kids_of}
use Rattle.aas_path_trees.specs.Patched.{RiseFrom, Rise, Fits, kinds, kinds_of_all, payload_at, patched, patched_all}
use Rattle.aas_model.specs.declared.path.PathStep.{PathStep}
use Rattle.aas_path_trees.specs.WithElement.{with_among}
use Rattle.aas_path_trees.proofs.Patches.{kinds_out}
use Rattle.aas_rows.specs.Edits.{patched_rows, StandsIn}
use Rattle.aas_rows.specs.Rows.{Line, rows, rows_of_all, trees_of}
use Rattle.aas_rows.proofs.Trees.{rows_out, Every, by_kids, every, rows_give_trees}
use Rattle.aas_rows.proofs.Patching.{patched_one, patching}
use Rattle.aas_sheet_rows.specs.Table.{line_of, lines_of, submodel_of, IsTable}
use Rattle.aas_sheet_rows.specs.Written.{InRange, with_payload, written}
use Rattle.aas_sheet_rows.specs.declared.row.Row.{Row}
use Rattle.aas_sheet_index.specs.declared.side.Side.{Side}
use Rattle.aas_sheet_rows.proofs.Loans.{rows_same, lines_long}

pub put_at : (rs : List Row) (n : ℕ) (p : Payload) (d : Row)
    → n < length rs → slice_set rs n (record (slice_index_or rs n d) { payload = p }) ≡ with_payload rs n p
put_at [] n p d h = refl
put_at (r ∷ rs) zero p d h = refl
put_at (r ∷ rs) (suc n) p d h = ap (λ rs. r ∷ rs) (put_at rs n p d (omega arith))

pub put_long : (rs : List Row) (n : ℕ) (p : Payload) → length (with_payload rs n p) ≡ length rs
put_long [] n p = refl
put_long (r ∷ rs) zero p = refl
put_long (r ∷ rs) (suc n) p = ap suc (put_long rs n p)

pub written_long : (rs : List Row) (base : ℕ) (ps : List PatchRow) → length (written rs base ps) ≡ length rs
written_long rs base [] = refl
written_long rs base (p ∷ ps) =
    written_long (with_payload rs (base + p.rank) p.payload) base ps ∙ put_long rs (base + p.rank) p.payload

-- ---- the same of lines

line_put : List Line → ℕ → Payload → List Line
line_put [] n p = []
line_put (r ∷ rs) zero p = record r { payload = p } ∷ rs
line_put (r ∷ rs) (suc n) p = r ∷ line_put rs n p

lines_put : (rs : List Row) (ss : List Side) (n : ℕ) (p : Payload)
    → lines_of (with_payload rs n p) ss ≡ line_put (lines_of rs ss) n p
unfolding line_put
lines_put [] ss n p = refl
lines_put (r ∷ rs) [] zero p = refl
lines_put (r ∷ rs) [] (suc n) p = refl
lines_put (r ∷ rs) (s ∷ ss) zero p = refl
lines_put (r ∷ rs) (s ∷ ss) (suc n) p = ap (λ ls. line_of r s ∷ ls) (lines_put rs ss n p)

line_written : List Line → ℕ → List PatchRow → List Line
line_written rs base [] = rs
line_written rs base (p ∷ ps) = line_written (line_put rs (base + p.rank) p.payload) base ps

lines_written : (rs : List Row) (ss : List Side) (base : ℕ) (ps : List PatchRow)
    → lines_of (written rs base ps) ss ≡ line_written (lines_of rs ss) base ps
unfolding line_written
lines_written rs ss base [] = refl
lines_written rs ss base (p ∷ ps) =
    lines_written (with_payload rs (base + p.rank) p.payload) ss base ps
    ∙ ap (λ ls. line_written ls base ps) (lines_put rs ss (base + p.rank) p.payload)

-- ---- one row of a patch

behind : (ps : List PatchRow) (p : PatchRow) (k : ℕ) (m : List Line)
    → p.rank < k → patched_rows ps k m ≡ patched_rows (p ∷ ps) k m
behind ps p k [] lt = refl
behind ps p k (r ∷ m) lt =
    ap₂ (λ x xs. record r { payload = x } ∷ xs)
    (sym (skipped k p ps r.payload (λ e. absurd (omega arith)) (p.rank == k) refl))
    (behind ps p (k + 1) m (omega arith))

one_row : (ps : List PatchRow) (p : PatchRow) (k n : ℕ) (m : List Line)
    → p.rank ≡ k + n → RiseFrom p.rank ps → patched_rows ps k (line_put m n p.payload) ≡ patched_rows (p ∷ ps) k m
unfolding line_put
one_row ps p k n [] at up = refl
one_row ps p k zero (r ∷ m) at up =
    let here : p.rank ≡ k = omega arith in
    ap₂ (λ x xs. record r { payload = x } ∷ xs)
    (none_below k p.rank ps p.payload (omega arith) up
    ∙ sym (ap (λ b. if b then p.payload else payload_at k ps r.payload) ((Decides-eqb p.rank k).1 here)))
    (behind ps p (k + 1) m (omega arith))
one_row ps p k (suc n) (r ∷ m) at up =
    ap₂ (λ x xs. record r { payload = x } ∷ xs)
    (sym (skipped k p ps r.payload (λ e. absurd (omega arith)) (p.rank == k) refl))
    (one_row ps p (k + 1) n m (omega arith) up)

line_put_long : (m : List Line) (n : ℕ) (p : Payload) → length (line_put m n p) ≡ length m
unfolding line_put
line_put_long [] n p = refl
line_put_long (r ∷ m) zero p = refl
line_put_long (r ∷ m) (suc n) p = ap suc (line_put_long m n p)

put_front : (m a : List Line) (n : ℕ) (p : Payload) → n < length m → line_put (m ++ a) n p ≡ line_put m n p ++ a
unfolding line_put
put_front [] a n p lt = absurd (omega arith)
put_front (r ∷ m) a zero p lt = refl
put_front (r ∷ m) a (suc n) p lt = ap (λ ls. r ∷ ls) (put_front m a n p (omega arith))

put_mid : (b m a : List Line) (n : ℕ) (p : Payload)
    → n < length m → line_put (b ++ (m ++ a)) (length b + n) p ≡ b ++ (line_put m n p ++ a)
unfolding line_put
put_mid [] m a n p lt =
    let same : 0 + n ≡ n = omega arith in
    ap (λ k. line_put (m ++ a) k p) same ∙ put_front m a n p lt
put_mid (r ∷ b) m a n p lt =
    let same : suc (length b) + n ≡ suc (length b + n) = omega arith in
    ap (λ k. line_put (r ∷ (b ++ (m ++ a))) k p) same ∙ ap (λ ls. r ∷ ls) (put_mid b m a n p lt)

-- each rank is below n
abbrev pub Below : ℕ → List PatchRow → Type 0
Below n [] = Unit {0}
Below n (p ∷ ps) = (p.rank < n) × Below n ps

rise_on : (p : PatchRow) (ps : List PatchRow) → RiseFrom p.rank ps → Rise ps
rise_on p [] up = tt
rise_on p (q ∷ ps) up = up.1

written_mid : (ps : List PatchRow) (b m a : List Line)
    → Rise ps → Below (length m) ps → line_written (b ++ (m ++ a)) (length b) ps ≡ b ++ (patched_rows ps 0 m ++ a)
unfolding line_written
written_mid [] b m a up lt = ap (λ m. b ++ (m ++ a)) (sym (none m 0))
  where
    none : (m : List Line) (k : ℕ) → patched_rows [] k m ≡ m
    none [] k = refl
    none (r ∷ m) k = ap (λ rs. r ∷ rs) (none m (k + 1))
written_mid (p ∷ ps) b m a up lt =
    ap (λ ls. line_written ls (length b) ps) (put_mid b m a p.rank p.payload lt.0)
    ∙ written_mid ps b (line_put m p.rank p.payload) a (rise_on p ps up)
    (subst (λ n. Below n ps) (sym (line_put_long m p.rank p.payload)) lt.1)
    ∙ ap (λ m. b ++ (m ++ a)) (one_row ps p 0 p.rank m (omega arith) up)

-- ---- the kinds of rows

abbrev pub kind_list : List Line → List Kind
kind_list rs = map (λ r. kind_of r.payload) rs

SameKinds : Element → Type 0
SameKinds e = (k : ℕ) → kind_list (rows e k) ≡ kinds e

kinds_append : (xs ys : List Line) → kind_list (xs ++ ys) ≡ kind_list xs ++ kind_list ys
kinds_append [] ys = refl
kinds_append (x ∷ xs) ys = ap (λ ks. kind_of x.payload ∷ ks) (kinds_append xs ys)

same_kinds_all : (es : List Element) → Every SameKinds es → (k : ℕ) → kind_list (rows_of_all es k) ≡ kinds_of_all es
unfolding SameKinds
same_kinds_all [] h k = refl
same_kinds_all (e ∷ es) h k =
    kinds_append (rows e k) (rows_of_all es k) ∙ ap₂ (λ xs ys. xs ++ ys) (h.0 k) (same_kinds_all es h.1 k)

same_kinds : (e : Element) → Every SameKinds (kids_of e) → SameKinds e
unfolding SameKinds
same_kinds e h k =
    ap kind_list (rows_out e k)
    ∙ ap (λ ks. kind_of (out-Element e).payload ∷ ks) (same_kinds_all (kids_of e) h (k + 1)) ∙ sym (kinds_out e)

pub kinds_rows : (e : Element) (k : ℕ) → kind_list (rows e k) ≡ kinds e
unfolding SameKinds
kinds_rows e k = by_kids SameKinds same_kinds e k

pub kinds_rows_all : (es : List Element) (k : ℕ) → kind_list (rows_of_all es k) ≡ kinds_of_all es
kinds_rows_all es k = same_kinds_all es (every SameKinds (by_kids SameKinds same_kinds) es) k

length_kinds : (rs : List Line) → length (kind_list rs) ≡ length rs
length_kinds [] = refl
length_kinds (r ∷ rs) = ap suc (length_kinds rs)

below_kinds : (ks : List Kind) (ps : List PatchRow)
    → All (λ p. slice_get ks p.rank ≡ Some (kind_of p.payload)) ps → Below (length ks) ps
below_kinds ks [] h = tt
below_kinds ks (p ∷ ps) h =
    let first : slice_get ks p.rank ≡ Some (kind_of p.payload) =
    All-head (λ p. slice_get ks p.rank ≡ Some (kind_of p.payload)) p ps h in (
      slice_get_within ks p.rank (kind_of p.payload) first,
      below_kinds ks ps (All-tail (λ p. slice_get ks p.rank ≡ Some (kind_of p.payload)) p ps h),
    )

pub fits_rows : (e : Element) (k : ℕ) (ps : List PatchRow) → Fits (kinds e) ps → Below (length (rows e k)) ps
fits_rows e k ps fit =
    subst (λ n. Below n ps) (ap length (sym (kinds_rows e k)) ∙ length_kinds (rows e k))
    (below_kinds (kinds e) ps fit.kinds_agree)

in_range : (base n m : ℕ) (ps : List PatchRow) → base + m ≤ n → Below m ps → InRange base n ps
in_range base n m [] le h = tt
in_range base n m (p ∷ ps) le h = (omega (arith, h.0), in_range base n m ps le h.1)

-- ---- a whole update

pub record Updates (head : Submodel) (rs : List Row) (ss : List Side) (s : PathStep)
    (p : List PathStep) (e : Element) (ps : List PatchRow) (base : ℕ) : Type 0 where
  pub within : InRange base (length rs) ps
  pub same : submodel_of head (written rs base ps) ss
      ≡ record (submodel_of head rs ss) { kids = with_among false s p (submodel_of head rs ss).kids (patched ps e 0).0 }

pub updates : (head : Submodel) (rs : List Row) (ss : List Side) (s : PathStep)
    (p : List PathStep) (e : Element) (ps : List PatchRow) (base : ℕ)
    → IsTable rs ss → (st : StandsIn false s p (submodel_of head rs ss).kids 1 e)
    → base ≡ length st.before → Fits (kinds e) ps → Updates head rs ss s p e ps base
updates head rs ss s p e ps base t st here fit =
    let all : lines_of rs ss ≡ st.before ++ (rows e st.level ++ st.behind) = sym (rows_same head rs ss t) ∙ st.whole in
    let below : Below (length (rows e st.level)) ps = fits_rows e st.level ps fit in
    let long : length rs ≡ length st.before + (length (rows e st.level) + length st.behind) =
    sym (lines_long rs ss t.long) ∙ ap length all ∙ length-append st.before (rows e st.level ++ st.behind)
    ∙ ap (λ n. length st.before + n) (length-append (rows e st.level) st.behind) in
    let w : Element = (patched ps e 0).0 in record {
      within = in_range base (length rs) (length (rows e st.level)) ps (omega arith) below;
      same =
          ap (λ ls. record head { kids = trees_of ls })
          (lines_written rs ss base ps ∙ ap₂ (λ ls n. line_written ls n ps) all here
          ∙ written_mid ps st.before (rows e st.level) st.behind fit.rising below
          ∙ ap (λ m. st.before ++ (m ++ st.behind)) (sym (patched_one ps e 0 st.level).same) ∙ sym (st.edited w))
          ∙ ap (λ es. record head { kids = es })
          (rows_give_trees (with_among false s p (submodel_of head rs ss).kids w) 1);
    }

pub updates_all : (head : Submodel) (rs : List Row) (ss : List Side) (ps : List PatchRow) (base : ℕ)
    → IsTable rs ss → base ≡ 0 → Fits (kinds_of_all (submodel_of head rs ss).kids) ps
    → InRange base (length rs) ps
    × (submodel_of head (written rs base ps) ss
    ≡ record (submodel_of head rs ss) { kids = (patched_all ps (submodel_of head rs ss).kids 0).0 })
updates_all head rs ss ps base t at fit =
    let es : List Element = (submodel_of head rs ss).kids in
    let all : List Line = rows_of_all es 1 in
    let same : all ≡ lines_of rs ss = rows_same head rs ss t in
    let long : length all ≡ length rs = ap length same ∙ lines_long rs ss t.long in
    let below : Below (length all) ps = subst (λ n. Below n ps)
    (ap length (sym (kinds_rows_all es 1)) ∙ length_kinds all) (below_kinds (kinds_of_all es) ps fit.kinds_agree) in
    let new : List Element = (patched_all ps es 0).0 in (
      in_range base (length rs) (length all) ps (omega arith) below,
      ap (λ ls. record head { kids = trees_of ls })
          (lines_written rs ss base ps ∙ ap₂ (λ ls n. line_written ls n ps) (sym same ∙ sym (append-nil all)) at
          ∙ written_mid ps [] all [] fit.rising below ∙ append-nil (patched_rows ps 0 all)
          ∙ sym (patching ps es 0 1).same)
          ∙ ap (λ es. record head { kids = es }) (rows_give_trees new 1),
    )
