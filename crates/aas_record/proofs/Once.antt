-- Fields are read in one way, and go wrong at one place.
use Rattle.std.proofs.Common.{◌≡◌, ⊎_elim, ℕ, List, [], ◌∷◌, ◌++◌, ◌+◌, ◌<◌, length, sym, ◌∙◌, ap, subst, arith, w32}
use Rattle.std.specs.Prelude.{take, drop}
use Rattle.std.specs.Int.{to_be_bytes, from_be_bytes}
use Rattle.std.proofs.lemmas.Nat.{from_be_bytes-to_be_bytes_4}
use Rattle.std.proofs.Math.Seq.{take-append_seam, drop-append_seam}
use Rattle.aas_record.specs.Fields.{Begins}
use Rattle.aas_record.specs.FieldTypes.{FieldType, HasType}
use Rattle.aas_record.specs.Records.{FailsAt}

-- bytes begin with one field at most
pub one : (bytes a b x y : List ℕ) → Begins bytes a x → Begins bytes b y → (a ≡ b) × (x ≡ y)
one bytes a b x y first second =
    let e : to_be_bytes w32 (length a) ++ (a ++ x) ≡ to_be_bytes w32 (length b) ++ (b ++ y) =
    sym first.bytes_are ∙ second.bytes_are in
    let heads : to_be_bytes w32 (length a) ≡ to_be_bytes w32 (length b) = ap (take 4) e in
    let same : length a ≡ length b =
    sym (from_be_bytes-to_be_bytes_4 (length a) first.short) ∙ ap (from_be_bytes w32) heads
    ∙ from_be_bytes-to_be_bytes_4 (length b) second.short in
    let tails : a ++ x ≡ b ++ y = ap (drop 4) e in (
      sym (take-append_seam a x) ∙ ap (take (length a)) tails
          ∙ ap (λ (n : ℕ). take n (b ++ y)) same ∙ take-append_seam b y,
      sym (drop-append_seam a x) ∙ ap (drop (length a)) tails
          ∙ ap (λ (n : ℕ). drop n (b ++ y)) same ∙ drop-append_seam b y,
    )

-- the bytes are fields of these types behind some others, and nothing more
abbrev pub AreFields : List FieldType → List (List ℕ) → List ℕ → Type 0
AreFields [] before bytes = bytes ≡ []
AreFields (type ∷ types) before bytes =
    (content : List ℕ) × (rest : List ℕ) × Begins bytes content rest
    × HasType type before content × AreFields types (before ++ content ∷ []) rest

-- what has its types goes wrong nowhere
pub nowhere : (types : List FieldType) (before : List (List ℕ)) (place at : ℕ) (bytes : List ℕ)
    → AreFields types before bytes → ¬ (FailsAt types before place bytes at)
nowhere [] before place at bytes none fails = absurd (omega (arith, subst (λ l. 0 < length l) none fails.0))
nowhere (type ∷ types) before place at bytes (content, rest, begins, is, more) fails = ⊎_elim
    (λ f. f.0 content rest begins is)
    (λ f. let s = one bytes content f.0 rest f.1 begins f.2 in
    nowhere types (before ++ f.0 ∷ []) (place + 4 + length f.0) at f.1
    (subst (λ r. AreFields types (before ++ f.0 ∷ []) r) s.1
    (subst (λ c. AreFields types (before ++ c ∷ []) rest) s.0 more))
    f.4)
    fails

-- what goes wrong, goes wrong at one place
pub once : (types : List FieldType) (before : List (List ℕ)) (place at other : ℕ) (bytes : List ℕ)
    → FailsAt types before place bytes at → FailsAt types before place bytes other → at ≡ other
once [] before place at other bytes f g = f.1 ∙ sym g.1
once (type ∷ types) before place at other bytes f g = ⊎_elim
    (λ a. ⊎_elim (λ b. a.1 ∙ sym b.1) (λ b. absurd (a.0 b.0 b.1 b.2 b.3)) g)
    (λ a. ⊎_elim (λ b. absurd (b.0 a.0 a.1 a.2 a.3))
    (λ b. let s = one bytes a.0 b.0 a.1 b.1 a.2 b.2 in
    once types (before ++ b.0 ∷ []) (place + 4 + length b.0) at other b.1
    (subst (λ r. FailsAt types (before ++ b.0 ∷ []) (place + 4 + length b.0) r at) s.1
    (subst (λ c. FailsAt types (before ++ c ∷ []) (place + 4 + length c) a.1 at) s.0 a.4)) b.4) g)
    f
