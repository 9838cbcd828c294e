-- A file whose front is known, before and after a write at its gate or behind it.
use Rattle.std.proofs.Common.{◌≡◌, ℕ, ◌+◌, ◌≤◌, min, List, [], ◌∷◌, ◌++◌, length, get_or, take, drop, sym, ◌∙◌, ap}
use Rattle.std.proofs.Common.{subst, arith, append_assoc, length-append, take-append-drop}
use Rattle.std.proofs.lemmas.List.{take_at, drop_at, drop_more, take_all, length-take-le, take-take}
use Rattle.aas_outside_disk.specs.Disk.{written, Torn}

module _ (front : List ℕ) (gate : ℕ) (at : gate ≡ length front) where
  -- a byte stands behind the front, at the gate's place
  module _ (file : List ℕ) (byte : ℕ) (rest : List ℕ) (is : file ≡ front ++ byte ∷ rest) where
    pub long : gate + 1 ≤ length file
    long = omega (arith, at, ap length is, length-append front (byte ∷ rest))

    front_is : take gate file ≡ front
    front_is = ap (λ (l : List ℕ). take gate l) is ∙ take_at front (byte ∷ rest) gate (sym at)

    front_more : take (gate + 1) file ≡ front ++ byte ∷ []
    front_more =
        ap (λ (l : List ℕ). take (gate + 1) l) (is ∙ sym (append_assoc front (byte ∷ []) rest))
        ∙ take_at (front ++ byte ∷ []) rest (gate + 1) (omega (arith, at, length-append front (byte ∷ [])))

    back : drop (gate + 1) file ≡ rest
    back =
        ap (λ (l : List ℕ). drop (gate + 1) l) (is ∙ sym (append_assoc front (byte ∷ []) rest))
        ∙ drop_at (front ++ byte ∷ []) rest (gate + 1) (omega (arith, at, length-append front (byte ∷ [])))

    -- a torn write behind the gate leaves the gate, even where only the bytes up to it are known to stay
    pub torn_behind : (n : ℕ) (new : List ℕ)
        → Torn (gate + 1) (gate + 1) n file new → new ≡ front ++ byte ∷ drop (gate + 1) new
    torn_behind n new torn =
        let least : min (gate + 1) (gate + 1) ≡ gate + 1 = omega arith in
        let kept : take (gate + 1) new ≡ front ++ byte ∷ [] =
        subst (λ (k : ℕ). take k new ≡ take k file) least torn.before ∙ front_more in
        sym (take-append-drop (gate + 1) new) ∙ ap (λ (l : List ℕ). l ++ drop (gate + 1) new) kept
        ∙ append_assoc front (byte ∷ []) (drop (gate + 1) new)

    pub written_behind : (bytes new : List ℕ)
        → new ≡ written (gate + 1) bytes file → new ≡ front ++ byte ∷ (bytes ++ drop (gate + 1 + length bytes) file)
    written_behind bytes new is_written =
        is_written ∙ ap (λ (l : List ℕ). l ++ (bytes ++ drop (gate + 1 + length bytes) file)) front_more
        ∙ append_assoc front (byte ∷ []) (bytes ++ drop (gate + 1 + length bytes) file)

    pub written_gate : (x : ℕ) (new : List ℕ) → new ≡ written gate (x ∷ []) file → new ≡ front ++ x ∷ rest
    written_gate x new is_written =
        is_written ∙ ap (λ (l : List ℕ). l ++ (x ∷ drop (gate + 1) file)) front_is
        ∙ ap (λ (l : List ℕ). front ++ x ∷ l) back

    -- a torn write of the gate leaves all but the gate
    pub torn_gate : (new : List ℕ)
        → Torn (length file) gate 1 file new → (x : ℕ) × (more : List ℕ) × (new ≡ front ++ x ∷ (rest ++ more))
    torn_gate new torn =
        let L = length file in
        let least : min gate L ≡ gate = omega (arith, long) in
        let low : take gate (take L new) ≡ front = take-take gate L new (omega (arith, long))
        ∙ subst (λ (k : ℕ). take k new ≡ take k file) least torn.before ∙ front_is in
        let high : drop (gate + 1) (take L new) ≡ rest =
        torn.after ∙ ap (λ (l : List ℕ). drop (gate + 1) l) (take_all L file (omega arith)) ∙ back in
        let x = get_or (take L new) gate 0 in
        let size : length (take L new) ≡ L = length-take-le L new torn.no_shorter in
        let kept : take L new ≡ front ++ x ∷ rest =
        sym (take-append-drop gate (take L new)) ∙ ap (λ (l : List ℕ). l ++ drop gate (take L new)) low
        ∙ ap (λ (l : List ℕ). front ++ l)
        (drop_more (take L new) gate 0 (omega (arith, size, long)) ∙ ap (λ (l : List ℕ). x ∷ l) high) in (
          x,
          drop L new,
          sym (take-append-drop L new) ∙ ap (λ (l : List ℕ). l ++ drop L new) kept
              ∙ append_assoc front (x ∷ rest) (drop L new),
        )
