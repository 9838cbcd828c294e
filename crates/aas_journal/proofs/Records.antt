-- What bytes are the records of.
use Rattle.std.proofs.Common.{◌≡◌, ◌⊎◌, inl, inr, ⊎_elim, ℕ, suc, ◌+◌, ◌<◌, ◌^◌, List, [], ◌∷◌, ◌++◌, length, take}
use Rattle.std.proofs.Common.{drop, refl, sym, ◌∙◌, ap, ap₂, subst, arith, append_assoc, length-append}
use Rattle.std.specs.Prelude.{All}
use Rattle.std.specs.Int.{from_be_bytes, to_be_bytes, w32}
use Rattle.std.proofs.lemmas.List.{take_at, drop_at}
use Rattle.std.proofs.lemmas.Nat.{from_be_bytes-to_be_bytes_4}
use Rattle.aas_lemmas.proofs.Lists.{same_heads, same_tails}
use Rattle.aas_journal.specs.Image.{records}

abbrev pub Short : List (List ℕ) → Type 0
Short payloads = All (λ payload. length payload < 2 ^ 32) payloads

pub short_head : (payload : List ℕ) (payloads : List (List ℕ)) → Short (payload ∷ payloads) → length payload < 2 ^ 32
short_head payload payloads short = short 0 [] (omega arith)

pub short_tail : (payload : List ℕ) (payloads : List (List ℕ)) → Short (payload ∷ payloads) → Short payloads
short_tail payload payloads short = λ k d below. short (suc k) d (omega (arith, below))

-- the length of a payload in four bytes
abbrev pub size : List ℕ → List ℕ
size payload = to_be_bytes w32 (length payload)

pub size_four : (payload : List ℕ) → length (size payload) ≡ 4
size_four payload = refl

pub take_size : (payload rest : List ℕ) → take 4 (size payload ++ rest) ≡ size payload
take_size payload rest = take_at (size payload) rest 4 (size_four payload)

pub drop_size : (payload rest : List ℕ) → drop 4 (size payload ++ rest) ≡ rest
drop_size payload rest = drop_at (size payload) rest 4 (size_four payload)

pub read_size : (payload : List ℕ) → length payload < 2 ^ 32 → from_be_bytes w32 (size payload) ≡ length payload
read_size payload short = from_be_bytes-to_be_bytes_4 (length payload) short

-- bytes after an open gate that have room for a record and one more gate
abbrev pub Reaches : List ℕ → Type 0
Reaches rest = 4 + from_be_bytes w32 (take 4 rest) < length rest

pub reaches : (payload more : List ℕ)
    → length payload < 2 ^ 32 → 0 < length more → Reaches (size payload ++ (payload ++ more))
reaches payload more short some =
    let is : from_be_bytes w32 (take 4 (size payload ++ (payload ++ more))) ≡ length payload =
    ap (λ (l : List ℕ). from_be_bytes w32 l) (take_size payload (payload ++ more)) ∙ read_size payload short in
    omega (
      arith,
      is,
      length-append (size payload) (payload ++ more),
      length-append payload more,
      size_four payload,
      some,
    )

-- one record more, in front
pub records_then : (payload : List ℕ) (payloads : List (List ℕ)) (more : List ℕ)
    → records (payload ∷ payloads) ++ more ≡ 1 ∷ (size payload ++ (payload ++ (records payloads ++ more)))
records_then payload payloads more = ap (λ (l : List ℕ). 1 ∷ l)
    (append_assoc (size payload) (payload ++ records payloads) more
    ∙ ap (λ (l : List ℕ). size payload ++ l) (append_assoc payload (records payloads) more))

-- the front of a record tells its payload
same_payload : (p q more rest : List ℕ)
    → length p < 2 ^ 32 → length q < 2 ^ 32 → size p ++ (p ++ more) ≡ size q ++ (q ++ rest) → (p ≡ q) × (more ≡ rest)
same_payload p q more rest p_short q_short e =
    let sizes : size p ≡ size q =
    sym (take_size p (p ++ more)) ∙ ap (λ (l : List ℕ). take 4 l) e ∙ take_size q (q ++ rest) in
    let lengths : length p ≡ length q =
    sym (read_size p p_short) ∙ ap (λ (l : List ℕ). from_be_bytes w32 l) sizes ∙ read_size q q_short in
    let behind : p ++ more ≡ q ++ rest =
    sym (drop_size p (p ++ more)) ∙ ap (λ (l : List ℕ). drop 4 l) e ∙ drop_size q (q ++ rest) in (
      sym (take_at p more (length p) refl) ∙ ap (λ (l : List ℕ). take (length p) l) behind
          ∙ take_at q rest (length p) (sym lengths),
      sym (drop_at p more (length p) refl) ∙ ap (λ (l : List ℕ). drop (length p) l) behind
          ∙ drop_at q rest (length p) (sym lengths),
    )

-- Of two gates in the same bytes, they are one, or one is open and its record is within the bytes.
abbrev pub OneOrOpen : List (List ℕ) → List (List ℕ) → ℕ → ℕ → List ℕ → List ℕ → Type 0
OneOrOpen a b g h r s = ((a ≡ b) × (g ≡ h)) ⊎ ((g ≡ 1) × Reaches r) ⊎ ((h ≡ 1) × Reaches s)

open_behind : (payload : List ℕ) (payloads : List (List ℕ)) (g h : ℕ) (r s : List ℕ)
    → length payload < 2 ^ 32 → g ∷ r ≡ records (payload ∷ payloads) ++ h ∷ s → (g ≡ 1) × Reaches r
open_behind payload payloads g h r s short e =
    let more = records payloads ++ h ∷ s in
    let all : g ∷ r ≡ 1 ∷ (size payload ++ (payload ++ more)) = e ∙ records_then payload payloads (h ∷ s) in (
      same_heads g 1 r (size payload ++ (payload ++ more)) all,
      subst (λ (l : List ℕ). Reaches l) (sym (same_tails g 1 r (size payload ++ (payload ++ more)) all))
          (reaches payload more short (omega (arith, length-append (records payloads) (h ∷ s)))),
    )

one_more : (p q : List ℕ) (a b : List (List ℕ)) (g h : ℕ) (r s : List ℕ)
    → p ≡ q → OneOrOpen a b g h r s → OneOrOpen (p ∷ a) (q ∷ b) g h r s
one_more p q a b g h r s same it = ⊎_elim
    (λ one. inl (ap₂ (λ (x : List ℕ) (l : List (List ℕ)). x ∷ l) same one.0, one.1))
    (λ open_one. inr open_one)
    it

pub one_or_open : (a b : List (List ℕ)) (g h : ℕ) (r s : List ℕ)
    → Short a → Short b → records a ++ g ∷ r ≡ records b ++ h ∷ s → OneOrOpen a b g h r s
one_or_open [] [] g h r s a_short b_short e = inl (refl, same_heads g h r s e)
one_or_open [] (q ∷ b) g h r s a_short b_short e = inr (inl (open_behind q b g h r s (short_head q b b_short) e))
one_or_open (p ∷ a) [] g h r s a_short b_short e = inr (inr (open_behind p a h g s r (short_head p a a_short) (sym e)))
one_or_open (p ∷ a) (q ∷ b) g h r s a_short b_short e =
    let p_rest = size p ++ (p ++ (records a ++ g ∷ r)) in
    let q_rest = size q ++ (q ++ (records b ++ h ∷ s)) in
    let all : p_rest ≡ q_rest =
    same_tails 1 1 p_rest q_rest (sym (records_then p a (g ∷ r)) ∙ e ∙ records_then q b (h ∷ s)) in
    let same =
    same_payload p q (records a ++ g ∷ r) (records b ++ h ∷ s) (short_head p a a_short) (short_head q b b_short) all in
    one_more p q a b g h r s same.0 (one_or_open a b g h r s (short_tail p a a_short) (short_tail q b b_short) same.1)
