-- Rows of a patch, and the elements that they are for.
use Rattle.std.proofs.Common.{◌≡◌, ℕ, suc, ◌+◌, ◌<◌, ◌≤◌, ◌==◌, Bool, true, false, List, [], ◌∷◌, ◌++◌, length, Some}
use Rattle.std.proofs.Common.{slice_get, refl, sym, ap, ap₂, ◌∙◌, length-append, arith, if◌then◌else◌}
use Rattle.std.specs.List.{All}
use Rattle.std.proofs.lemmas.Bool.Decides.{Decides-eqb}
use Rattle.std.proofs.lemmas.List.Elements.{All-nil, All-cons}
use Rattle.std.proofs.lemmas.Option.{slice_get_within}
use Rattle.aas_model.specs.Payload.{kind_of}
use Rattle.aas_model.specs.declared.common.Common.{Common}
use Rattle.aas_model.specs.declared.element.Element.{Element}
use Rattle.aas_model.specs.declared.element.Element.TheFolds.{fold-roll-Element}
use Rattle.aas_model.specs.declared.element.Role.{Role}
use Rattle.aas_model.specs.declared.patch.PatchRow.{PatchRow}
use Rattle.aas_model.specs.declared.payload.Payload.{Payload}
use Rattle.aas_model_names.specs.declared.kind.Kind.{Kind}
use Rattle.aas_json_mapping.proofs.Elements.{made, by_children}
use Rattle.aas_json_spelling.specs.Lists.{Each}
use Rattle.std.proofs.lemmas.List.Folds.{flat_map-map}
use Rattle.aas_lemmas.proofs.Lists.{get_front, at_seam}
use Rattle.aas_path_trees.specs.Patched.{RiseFrom, Rise, Fits, payload_at, kinds_over, kinds, kinds_of_all, Ranked}
use Rattle.aas_path_trees.specs.Patched.{patched_over, patched, patched_all}
use Rattle.aas_value_patch.specs.Gathered.{HaveKinds, SoFar}

-- ---- one element

pub kinds_at : (r : Role) (c : Common) (x : Payload) (ks : List Element)
    → kinds (made r c x ks) ≡ kind_of x ∷ kinds_of_all ks
unfolding kinds
kinds_at r c x ks =
    fold-roll-Element (List Kind) kinds_over (record { common = c; payload = x; role = r; kids = ks })
    ∙ ap (λ l. kind_of x ∷ l) (flat_map-map (λ (l : List Kind). l) kinds ks)

pub patched_at : (rows : List PatchRow) (r : Role) (c : Common) (x : Payload) (ks : List Element) (n : ℕ)
    → patched rows (made r c x ks) n
    ≡ (made r c (payload_at n rows x) (patched_all rows ks (n + 1)).0, (patched_all rows ks (n + 1)).1)
unfolding patched
patched_at rows r c x ks n = ap (λ f. f n) (fold-roll-Element Ranked
    (patched_over rows) (record { common = c; payload = x; role = r; kids = ks }))

-- ---- ranks

Ranks : Element → Type 0
Ranks e = (rows : List PatchRow) (n : ℕ) → (patched rows e n).1 ≡ n + length (kinds e)

rank_all : (ks : List Element) → Each Ranks ks → (rows : List PatchRow) (n : ℕ)
    → (patched_all rows ks n).1 ≡ n + length (kinds_of_all ks)
unfolding Ranks
rank_all [] each rows n = omega arith
rank_all (k ∷ ks) each rows n =
    let first = each.0 rows n in
    let more = rank_all ks each.1 rows (patched rows k n).1 in
    omega (arith, first, more, length-append (kinds k) (kinds_of_all ks))

ranks : (e : Element) → Ranks e
unfolding Ranks
ranks = by_children Ranks (λ r c x ks each rows n.
    let more = rank_all ks each rows (n + 1) in
    ap (λ (p : Element × ℕ). p.1) (patched_at rows r c x ks n) ∙ more
    ∙ counts n (length (kinds_of_all ks)) ∙ ap (λ l. n + length l) (sym (kinds_at r c x ks)))
  where
    counts : (n m : ℕ) → (n + 1) + m ≡ n + suc m
    counts n m = omega arith

pub rank_behind : (e : Element) (rows : List PatchRow) (n : ℕ) → (patched rows e n).1 ≡ n + length (kinds e)
unfolding Ranks
rank_behind e rows n = ranks e rows n

-- ---- elements that no row is for

Stays : Element → Type 0
Stays e = (rows : List PatchRow) (n : ℕ)
    → ((j : ℕ) (own : Payload) → n ≤ j → j < n + length (kinds e) → payload_at j rows own ≡ own)
    → (patched rows e n).0 ≡ e

all_stay : (ks : List Element) → Each Stays ks → (rows : List PatchRow) (n : ℕ)
    → ((j : ℕ) (own : Payload) → n ≤ j → j < n + length (kinds_of_all ks) → payload_at j rows own ≡ own)
    → (patched_all rows ks n).0 ≡ ks
unfolding Stays
all_stay [] each rows n none = refl
all_stay (k ∷ ks) each rows n none =
    let size = length-append (kinds k) (kinds_of_all ks) in
    let rank = rank_behind k rows n in
    ap₂ (λ z zs. z ∷ zs) (each.0 rows n (λ j own le lt. none j own le (omega (arith, size))))
    (all_stay ks each.1 rows (patched rows k n).1 (λ j own le lt.
    none j own (omega (arith, rank)) (omega (arith, size, rank))))

stays : (e : Element) → Stays e
unfolding Stays
stays = by_children Stays (λ r c x ks each rows n none.
    let size = ap length (kinds_at r c x ks) in
    ap (λ (p : Element × ℕ). p.0) (patched_at rows r c x ks n)
    ∙ ap₂ (made r c) (none n x (omega arith) (omega (arith, size)))
    (all_stay ks each rows (n + 1) (λ j own le lt. none j own (omega arith) (omega (arith, size)))))

pub unpatched : (e : Element) (rows : List PatchRow) (n : ℕ)
    → ((j : ℕ) (own : Payload) → n ≤ j → j < n + length (kinds e) → payload_at j rows own ≡ own)
    → (patched rows e n).0 ≡ e
unfolding Stays
unpatched e rows n none = stays e rows n none

-- ---- rows

-- no row is for an element that was not seen
pub none_at : (seen : List Kind) (rows : List PatchRow)
    → HaveKinds seen rows → (j : ℕ) (own : Payload) → length seen ≤ j → payload_at j rows own ≡ own
none_at seen [] h j own le = refl
none_at seen (r ∷ rows) h j own le =
    let within = slice_get_within seen r.rank (kind_of r.payload) h.0 in
    by_test (r.rank == j) refl ∙ none_at seen rows h.1 j own le
  where
    by_test : (b : Bool) → (r.rank == j) ≡ b → (if b then r.payload else payload_at j rows own) ≡ payload_at j rows own
    by_test true is =
        let same : r.rank ≡ j = (Decides-eqb r.rank j).0 is in
        let within = slice_get_within seen r.rank (kind_of r.payload) h.0 in
        absurd (omega (arith, same, within, le))
    by_test false is = refl

-- a row at the end
pub before_last : (rows : List PatchRow) (last : PatchRow) (j : ℕ) (own : Payload) → j < last.rank
    → payload_at j (rows ++ last ∷ []) own ≡ payload_at j rows own
before_last [] last j own lt = by_test (last.rank == j) refl
  where
    by_test : (b : Bool) → (last.rank == j) ≡ b → (if b then last.payload else own) ≡ own
    by_test true is = let same : last.rank ≡ j = (Decides-eqb last.rank j).0 is in absurd (omega (arith, same, lt))
    by_test false is = refl
before_last (r ∷ rows) last j own lt = ap (λ q. if r.rank == j then r.payload else q) (before_last rows last j own lt)

pub at_last : (seen : List Kind) (rows : List PatchRow) (last : PatchRow)
    → HaveKinds seen rows → last.rank ≡ length seen → (own : Payload)
    → payload_at last.rank (rows ++ last ∷ []) own ≡ last.payload
at_last seen [] last h is own = ap (λ b. if b then last.payload else own) ((Decides-eqb last.rank last.rank).1 refl)
at_last seen (r ∷ rows) last h is own =
    by_test (r.rank == last.rank) refl ∙ at_last seen rows last h.1 is own
  where
    by_test : (b : Bool) → (r.rank == last.rank) ≡ b
        → (if b then r.payload else payload_at last.rank (rows ++ last ∷ []) own)
        ≡ payload_at last.rank (rows ++ last ∷ []) own
    by_test true e =
        let same : r.rank ≡ last.rank = (Decides-eqb r.rank last.rank).0 e in
        let within = slice_get_within seen r.rank (kind_of r.payload) h.0 in
        absurd (omega (arith, same, within, is))
    by_test false e = refl

pub more_seen : (seen more : List Kind) (rows : List PatchRow) → HaveKinds seen rows → HaveKinds (seen ++ more) rows
more_seen seen more [] h = tt
more_seen seen more (r ∷ rows) h = (get_front seen more r.rank (kind_of r.payload) h.0, more_seen seen more rows h.1)

rise_last : (m : ℕ) (seen : List Kind) (rows : List PatchRow) (last : PatchRow)
    → m < length seen → HaveKinds seen rows → RiseFrom m rows
    → last.rank ≡ length seen → RiseFrom m (rows ++ last ∷ [])
rise_last m seen [] last lt h up is = (omega (arith, is), tt)
rise_last m seen (r ∷ rows) last lt h up is =
    (up.0, rise_last r.rank seen rows last (slice_get_within seen r.rank (kind_of r.payload) h.0) h.1 up.1 is)

kinds_last : (seen : List Kind) (rows : List PatchRow) (last : PatchRow) → HaveKinds seen rows → last.rank ≡ length seen
    → HaveKinds (seen ++ kind_of last.payload ∷ []) (rows ++ last ∷ [])
kinds_last seen [] last h is =
    (ap (slice_get (seen ++ kind_of last.payload ∷ [])) is ∙ at_seam seen (kind_of last.payload) [], tt)
kinds_last seen (r ∷ rows) last h is =
    (get_front seen (kind_of last.payload ∷ []) r.rank (kind_of r.payload) h.0, kinds_last seen rows last h.1 is)

pub pushed : (seen : List Kind) (rows : List PatchRow) (last : PatchRow) → SoFar seen rows → last.rank ≡ length seen
    → SoFar (seen ++ kind_of last.payload ∷ []) (rows ++ last ∷ [])
pushed seen rows last so is =
    record { rising = rise rows so.rising so.kinds_agree; kinds_agree = kinds_last seen rows last so.kinds_agree is }
  where
    rise : (rows : List PatchRow) → Rise rows → HaveKinds seen rows → Rise (rows ++ last ∷ [])
    rise [] up h = tt
    rise (r ∷ rows) up h =
        rise_last r.rank seen rows last (slice_get_within seen r.rank (kind_of r.payload) h.0) h.1 up is

all_agree : (ks : List Kind) (rows : List PatchRow)
    → HaveKinds ks rows → All (λ (r : PatchRow). slice_get ks r.rank ≡ Some (kind_of r.payload)) rows
all_agree ks [] h = All-nil (λ (r : PatchRow). slice_get ks r.rank ≡ Some (kind_of r.payload))
all_agree ks (r ∷ rows) h =
    All-cons (λ (r : PatchRow). slice_get ks r.rank ≡ Some (kind_of r.payload)) r rows h.0 (all_agree ks rows h.1)

pub fits : (ks : List Kind) (rows : List PatchRow) → SoFar ks rows → Fits ks rows
fits ks rows so = record { rising = so.rising; kinds_agree = all_agree ks rows so.kinds_agree }
