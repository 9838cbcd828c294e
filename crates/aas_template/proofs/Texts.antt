-- Texts cut at their ends by ASCII digits and _.
use Rattle.std.proofs.Common.{◌≡◌, ℕ, suc, ◌<◌, ◌==◌, true, false, ◌&&◌, List, [], ◌∷◌, ◌++◌, length, refl, sym, ap, ap₂, ◌∙◌, append_assoc, arith}
use Rattle.std.specs.List.{list_all}
use Rattle.std.proofs.lemmas.Bool.{true≢false, and_parts, and_from, eqb-true, eq-eqb}
use Rattle.std.proofs.lemmas.List.{append-nil, length-append}
use Rattle.std.proofs.lemmas.List.Folds.{list_all-append}
use Rattle.std.proofs.lemmas.Str.{chars-nil, encodes-chars, encodes_same}
use Rattle.std.specs.Char.{encode_utf8}
use Rattle.std.specs.Str.{IsUtf8, chars, encode_utf8_all}
use Rattle.aas_lemmas.proofs.Lists.{same_heads, same_tails}
use Rattle.aas_template.specs.Belonging.{is_numbered, is_numbering}
use Rattle.aas_template.specs.Index.{Cut, EndsOtherwise, IsShorter}

pub whole : (m : List ℕ) → Cut m m
whole m = record { tail = []; is = sym (append-nil m); numbers = refl }

-- one more such character is cut off
pub shorter : (m r s : List ℕ) → Cut m r → IsShorter r s → Cut m s
shorter m r s cut less = record {
  tail = less.last ∷ cut.tail;
  is = cut.is ∙ ap (λ t. t ++ cut.tail) less.is ∙ append_assoc s (less.last ∷ []) cut.tail;
  numbers = and_from _ _ less.numbers cut.numbers;
}

pub shorter_by_one : (m r : List ℕ) → IsShorter m r → length m ≡ suc (length r)
shorter_by_one m r less = ap length less.is ∙ length-append r (less.last ∷ []) ∙ omega arith

pub cut_numbered : (m n : List ℕ) → is_numbered n m ≡ true → Cut m n
cut_numbered m [] h = record { tail = m; is = refl; numbers = h }
cut_numbered [] (c ∷ n) h = absurd (true≢false (sym h))
cut_numbered (d ∷ m) (c ∷ n) h =
    let parts = and_parts (c == d) (is_numbered n m) h in
    let rest = cut_numbered m n parts.1 in
    record { tail = rest.tail; is = ap₂ (λ x xs. x ∷ xs) (sym (eqb-true c d parts.0)) rest.is; numbers = rest.numbers }

numbered_append : (n tail : List ℕ) → list_all is_numbering tail ≡ true → is_numbered n (n ++ tail) ≡ true
numbered_append [] tail h = h
numbered_append (c ∷ n) tail h = and_from (c == c) (is_numbered n (n ++ tail)) (eq-eqb c c refl) (numbered_append n tail h)

pub numbered_cut : (m n : List ℕ) → Cut m n → is_numbered n m ≡ true
numbered_cut m n cut = ap (is_numbered n) cut.is ∙ numbered_append n cut.tail cut.numbers

-- two beginnings of one text
same_fronts : (a b x y : List ℕ) → a ++ x ≡ b ++ y → length a ≡ length b → a ≡ b
same_fronts [] [] x y e l = refl
same_fronts [] (d ∷ b) x y e l = absurd (omega (arith, l))
same_fronts (c ∷ a) [] x y e l = absurd (omega (arith, l))
same_fronts (c ∷ a) (d ∷ b) x y e l =
    ap₂ (λ z zs. z ∷ zs) (same_heads c d (a ++ x) (b ++ y) e) (same_fronts a b x y (same_tails c d (a ++ x) (b ++ y) e) (omega (arith, l)))

pub same_cuts : (m a b : List ℕ) → Cut m a → Cut m b → length a ≡ length b → a ≡ b
same_cuts m a b p q l = same_fronts a b p.tail q.tail (sym p.is ∙ q.is) l

-- a text that isn't empty has a last character
pub record Ended (m : List ℕ) : Type 0 where
  pub front : List ℕ
  pub last : ℕ
  pub is : m ≡ front ++ last ∷ []

ended : (c : ℕ) (m : List ℕ) → Ended (c ∷ m)
ended c [] = record { front = []; last = c; is = refl }
ended c (d ∷ m) = let more = ended d m in record { front = c ∷ more.front; last = more.last; is = ap (λ t. c ∷ t) more.is }

last_numbers : (r t : List ℕ) → 0 < length r → list_all is_numbering (r ++ t) ≡ true → EndsOtherwise r → ⊥
last_numbers [] t long h ends = absurd (omega (arith, long))
last_numbers (c ∷ r) t long h ends =
    let e = ended c r in
    let all : list_all is_numbering (c ∷ r) ≡ true = (and_parts _ _ (sym (list_all-append is_numbering (c ∷ r) t) ∙ h)).0 in
    let cut : list_all is_numbering (e.front ++ e.last ∷ []) ≡ true = ap (list_all is_numbering) (sym e.is) ∙ all in
    let last : is_numbering e.last && true ≡ true = (and_parts _ _ (sym (list_all-append is_numbering e.front (e.last ∷ [])) ∙ cut)).1 in
    true≢false (sym (and_parts _ _ last).0 ∙ ends e.front e.last e.is)

no_shorter_front : (n r t u : List ℕ) → n ++ t ≡ r ++ u → list_all is_numbering t ≡ true → length n < length r → EndsOtherwise r → ⊥
no_shorter_front [] r t u e h lt ends = last_numbers r u lt (ap (list_all is_numbering) (sym e) ∙ h) ends
no_shorter_front (c ∷ n) [] t u e h lt ends = absurd (omega (arith, lt))
no_shorter_front (c ∷ n) (d ∷ r) t u e h lt ends =
    no_shorter_front n r t u (same_tails c d (n ++ t) (r ++ u) e) h (omega (arith, lt)) (λ q x is. ends (d ∷ q) x (ap (λ l. d ∷ l) is))

-- no shorter text is cut from m than one that doesn't end with such a character
pub no_shorter : (m n r : List ℕ) → Cut m n → Cut m r → EndsOtherwise r → length n < length r → ⊥
no_shorter m n r p q ends lt = no_shorter_front n r p.tail q.tail (sym p.is ∙ q.is) p.numbers lt ends

-- ---- texts as bytes

encodes_last : (cs : List ℕ) (c : ℕ) → encode_utf8_all (cs ++ c ∷ []) ≡ encode_utf8_all cs ++ encode_utf8 c
encodes_last [] c = append-nil (encode_utf8 c)
encodes_last (d ∷ cs) c = ap (λ l. encode_utf8 d ++ l) (encodes_last cs c) ∙ sym (append_assoc (encode_utf8 d) (encode_utf8_all cs) (encode_utf8 c))

-- a text without its last character
pub cut_text : (text rest : List ℕ) (c : ℕ) → IsUtf8 text → IsUtf8 rest → text ≡ rest ++ encode_utf8 c → chars text ≡ chars rest ++ c ∷ []
cut_text text rest c u v e =
    encodes_same (chars text) (chars rest ++ c ∷ [])
    (encodes-chars text u ∙ e ∙ ap (λ l. l ++ encode_utf8 c) (sym (encodes-chars rest v)) ∙ sym (encodes_last (chars rest) c))

no_last : (r : List ℕ) (c : ℕ) → [] ≡ r ++ c ∷ [] → ⊥
no_last [] c e = cc
no_last (d ∷ r) c e = cc

pub ends_empty : (text : List ℕ) → length text ≡ 0 → EndsOtherwise (chars text)
ends_empty [] e = λ r c is. absurd (no_last r c (sym chars-nil ∙ is))
ends_empty (x ∷ text) e = absurd (omega (arith, e))

same_last : (r q : List ℕ) (c d : ℕ) → r ++ c ∷ [] ≡ q ++ d ∷ [] → c ≡ d
same_last [] [] c d e = cc
same_last [] (y ∷ q) c d e = absurd (no_last q d (same_tails c y [] (q ++ d ∷ []) e))
same_last (x ∷ r) [] c d e = absurd (no_last r c (sym (same_tails x d (r ++ c ∷ []) [] e)))
same_last (x ∷ r) (y ∷ q) c d e = same_last r q c d (same_tails x y (r ++ c ∷ []) (q ++ d ∷ []) e)

pub ends_so : (m r : List ℕ) (c : ℕ) → m ≡ r ++ c ∷ [] → is_numbering c ≡ false → EndsOtherwise m
ends_so m r c is other = λ q d e. ap is_numbering (sym (same_last r q c d (sym is ∙ e))) ∙ other
