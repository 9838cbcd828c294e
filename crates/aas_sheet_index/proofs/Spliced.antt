-- Items at the end of a list that are put into the place of others.
use Rattle.std.proofs.Common.{◌≡◌, ℕ, zero, suc, ◌+◌, ◌-◌, ◌≤◌, List, [], ◌∷◌, ◌++◌, length, take, drop, remove}
use Rattle.std.proofs.Common.{reverse, slice_get, Some, refl, sym, ap, ap₂, ◌∙◌, append_assoc, arith, length-append}
use Rattle.std.proofs.Math.Seq.{take-append_seam, drop-append_seam}
use Rattle.std.proofs.lemmas.List.{take-append-drop, length-take-le, length-drop, length-reverse, reverse-append}
use Rattle.std.proofs.lemmas.List.{reverse-reverse, take-append-le}
use Rattle.std.specs.List.{remove_range, replace_range, slice_range}
use Rattle.aas_model_text.specs.Many.{filled}

pub take_seam : {X : Type 0} (xs p q : List X) (n : ℕ) → xs ≡ p ++ q → length p ≡ n → take n xs ≡ p
take_seam xs p q n is long = ap₂ (λ m ys. take m ys) (sym long) is ∙ take-append_seam p q

pub drop_seam : {X : Type 0} (xs p q : List X) (n : ℕ) → xs ≡ p ++ q → length p ≡ n → drop n xs ≡ q
drop_seam xs p q n is long = ap₂ (λ m ys. drop m ys) (sym long) is ∙ drop-append_seam p q

-- a part in the middle, moved behind the others
pub moved : {X : Type 0} (xs p m q : List X) (i j : ℕ)
    → xs ≡ p ++ (m ++ q) → length p ≡ i → i + length m ≡ j → remove_range xs i j ++ slice_range xs i j ≡ (p ++ q) ++ m
moved xs p m q i j is front long =
    let both : length (p ++ m) ≡ j = length-append p m ∙ ap (λ n. n + length m) front ∙ long in
    let size : length m ≡ j - i = omega arith in
    ap₂ (λ a b. a ++ b)
    (ap₂ (λ a b. a ++ b) (take_seam xs p (m ++ q) i is front)
    (drop_seam xs (p ++ m) q j (is ∙ sym (append_assoc p m q)) both))
    (ap (take (j - i)) (drop_seam xs p (m ++ q) i is front) ∙ take_seam (m ++ q) m q (j - i) refl size)

-- a list in four parts
pub record Parts {X : Type 0} (xs : List X) (first end added : ℕ) : Type 0 where
  pub front : List X
  pub old : List X
  pub rest : List X
  pub new : List X
  pub whole : xs ≡ front ++ (old ++ (rest ++ new))
  pub at_first : length front ≡ first
  pub at_end : first + length old ≡ end
  pub at_added : end + length rest ≡ added

pub parts : {X : Type 0} (xs : List X) (first end added : ℕ)
    → first ≤ end → end ≤ added → added ≤ length xs → Parts xs first end added
parts xs first end added ordered before within =
    let behind = drop first xs in
    let behind_long : length behind ≡ length xs - first = length-drop first xs in
    let further = drop (end - first) behind in
    let further_long : length further ≡ length behind - (end - first) = length-drop (end - first) behind in
    let old_long = length-take-le (end - first) behind (omega arith) in
    let rest_long = length-take-le (added - end) further (omega arith) in record {
      front = take first xs;
      old = take (end - first) behind;
      rest = take (added - end) further;
      new = drop (added - end) further;
      whole = sym (take-append-drop first xs)
          ∙ ap (λ ys. take first xs ++ ys)
          (sym (take-append-drop (end - first) behind)
          ∙ ap (λ ys. take (end - first) behind ++ ys) (sym (take-append-drop (added - end) further)));
      at_first = length-take-le first xs (omega arith);
      at_end = omega (arith, old_long);
      at_added = omega (arith, rest_long);
    }

pub spliced : {X : Type 0} (xs one two : List X) (first end added count next : ℕ) (p : Parts xs first end added)
    → count ≡ length xs - (end - first) → next ≡ first + (length xs - added)
    → one ≡ remove_range xs first added ++ slice_range xs first added
    → two ≡ remove_range one next (next + (end - first)) ++ slice_range one next (next + (end - first))
    → take count two ≡ replace_range (take added xs) first end (drop added xs)
spliced xs one two first end added count next p count_is next_is one_is two_is =
    let b = p.front in
    let m = p.old in
    let t = p.rest in
    let w = p.new in
    let long : length xs ≡ first + (length m + (length t + length w)) =
    ap length p.whole ∙ length-append b (m ++ (t ++ w))
    ∙ ap₂ (λ a b. a + b) p.at_first (length-append m (t ++ w) ∙ ap (λ n. length m + n) (length-append t w)) in
    let at_end = p.at_end in
    let at_added = p.at_added in
    let middle : first + length (m ++ t) ≡ added =
    ap (λ n. first + n) (length-append m t) ∙ sums (length m) (length t) at_end at_added in
    let whole : xs ≡ b ++ ((m ++ t) ++ w) = p.whole ∙ ap (λ ys. b ++ ys) (sym (append_assoc m t w)) in
    let first_move : one ≡ (b ++ w) ++ (m ++ t) = one_is ∙ moved xs b (m ++ t) w first added whole p.at_first middle in
    let front : length (b ++ w) ≡ next =
    length-append b w ∙ ap (λ n. n + length w) p.at_first ∙ omega (arith, long, at_end, at_added, next_is) in
    let second_move : two ≡ ((b ++ w) ++ t) ++ m =
    two_is ∙ moved one (b ++ w) m t next (next + (end - first)) first_move front (omega (arith, at_end)) in
    let kept : length ((b ++ w) ++ t) ≡ count = length-append (b ++ w) t
    ∙ ap (λ n. n + length t) front ∙ omega (arith, long, at_end, at_added, next_is, count_is) in
    let all_old : take added xs ≡ b ++ (m ++ t) =
    take_seam xs (b ++ (m ++ t)) w added (whole ∙ sym (append_assoc b (m ++ t) w))
    (length-append b (m ++ t) ∙ ap (λ n. n + length (m ++ t)) p.at_first ∙ middle) in
    let all_new : drop added xs ≡ w =
    drop_seam xs (b ++ (m ++ t)) w added (whole ∙ sym (append_assoc b (m ++ t) w))
    (length-append b (m ++ t) ∙ ap (λ n. n + length (m ++ t)) p.at_first ∙ middle) in
    take_seam two ((b ++ w) ++ t) m count second_move kept
    ∙ sym (ap₂ (λ ys zs. replace_range ys first end zs) all_old all_new
    ∙ ap₂ (λ a c. (a ++ w) ++ c) (take_seam (b ++ (m ++ t)) b (m ++ t) first refl p.at_first)
    (drop_seam (b ++ (m ++ t)) (b ++ m) t end (sym (append_assoc b m t))
    (length-append b m ∙ ap (λ n. n + length m) p.at_first ∙ at_end)))
  where
    sums : (n k : ℕ) → first + n ≡ end → end + k ≡ added → first + (n + k) ≡ added
    sums n k e f = omega arith

pub moved_long : {X : Type 0} (xs : List X) (i j : ℕ)
    → i ≤ j → j ≤ length xs → length (remove_range xs i j ++ slice_range xs i j) ≡ length xs
moved_long xs i j ordered within =
    let front = length-take-le i xs (omega arith) in
    let back = length-drop j xs in
    let behind = length-drop i xs in
    let mid = length-take-le (j - i) (drop i xs) (omega arith) in
    let both = length-append (take i xs) (drop j xs) in
    let all = length-append (remove_range xs i j) (slice_range xs i j) in
    omega (arith, front, back, behind, mid, both, all)

-- a slice of all items that is lent, and left as long as it was
pub filled_all : {X : Type 0} (xs ws : List X) → length ws ≡ length xs → filled xs ws ≡ ws
filled_all xs ws e = ap (λ n. take n (ws ++ drop (length ws) xs)) (sym e) ∙ take-append_seam ws _

-- ---- items that are taken from the end of one list and put behind another

all_but_last : {X : Type 0} (xs : List X) (n : ℕ) (x : X)
    → suc n ≡ length xs → slice_get xs n ≡ Some x → xs ≡ remove xs n ++ x ∷ []
all_but_last [] n x long at = absurd (omega arith)
all_but_last (y ∷ []) zero x long at = let same : y ≡ x = cc in ap (λ z. z ∷ []) same
all_but_last (y ∷ z ∷ xs) zero x long at = absurd (omega arith)
all_but_last (y ∷ xs) (suc n) x long at = ap (λ ys. y ∷ ys) (all_but_last xs n x (omega arith) at)

pub poured_more : {X : Type 0} (start items items' more more' : List X) (n : ℕ) (x : X) → start ≡ items ++ reverse more
    → suc n ≡ length more → slice_get more n ≡ Some x → more' ≡ remove more n → items' ≡ items ++ x ∷ []
    → start ≡ items' ++ reverse more'
poured_more start items items' more more' n x so_far long at left pushed =
    so_far ∙ ap (λ ys. items ++ reverse ys) (all_but_last more n x long at ∙ ap (λ ys. ys ++ x ∷ []) (sym left))
    ∙ ap (λ ys. items ++ ys) (reverse-append more' (x ∷ []))
    ∙ sym (append_assoc items (x ∷ []) (reverse more')) ∙ ap (λ ys. ys ++ reverse more') (sym pushed)

pub kept_more : {X : Type 0} (start items items' : List X) (x : X)
    → length start ≤ length items → take (length start) items ≡ start → items' ≡ items ++ x ∷ []
    → (length start ≤ length items') × (take (length start) items' ≡ start)
kept_more start items items' x inside kept pushed =
    let longer = ap length pushed ∙ length-append items (x ∷ []) in (
      omega (arith, longer),
      ap (take (length start)) pushed ∙ take-append-le (length start) items (x ∷ []) inside ∙ kept,
    )

-- the part that was put behind, turned round
pub appended : {X : Type 0} (xs more poured lent turned : List X) (count : ℕ)
    → count ≡ length xs → poured ≡ xs ++ reverse more → lent ≡ poured
    → turned ≡ take count lent ++ reverse (drop count lent) → filled poured turned ≡ xs ++ more
appended xs more poured lent turned count at are lent_is turned_is =
    let front : take count lent ≡ xs = take_seam lent xs (reverse more) count (lent_is ∙ are) (sym at) in
    let back : reverse (drop count lent) ≡ more =
    ap reverse (drop_seam lent xs (reverse more) count (lent_is ∙ are) (sym at)) ∙ reverse-reverse more in
    let whole : turned ≡ xs ++ more = turned_is ∙ ap₂ (λ ys zs. ys ++ zs) front back in
    let long : length turned ≡ length poured =
    ap length whole ∙ length-append xs more ∙ ap (λ n. length xs + n) (sym (length-reverse more))
    ∙ sym (length-append xs (reverse more)) ∙ sym (ap length are) in
    filled_all poured turned long ∙ whole
