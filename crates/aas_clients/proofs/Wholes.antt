-- Whole requests one behind another.
use Rattle.std.proofs.Common.{◌≡◌, ℕ, zero, suc, ◌+◌, ◌<◌, ◌≤◌, List, [], ◌∷◌, ◌++◌, length, take, drop, refl, sym, ap}
use Rattle.std.proofs.Common.{◌∙◌, subst, arith, append_assoc, length-append, length-drop, take-append-drop}
use Rattle.std.proofs.lemmas.List.{append-nil, append_cancel_right}
use Rattle.std.proofs.Math.Seq.{take-add}
use Rattle.aas_http.specs.FirstRequest.{Message, Whole, IsFirstRequest}
use Rattle.aas_http.specs.Laws.{EndsByItself}
use Rattle.aas_clients.specs.Fronts.{AreRequests, IsUnfinished, IsUnfinishedBelow}

-- ---- what is awaited

empty : (more : List ℕ) → length more < 1 → more ≡ []
empty [] short = refl
empty (x ∷ more) short = absurd (omega (arith, short))

-- these bytes alone
pub unfinished_now : (bytes : List ℕ) → IsUnfinished bytes → IsUnfinishedBelow (length bytes + 1) bytes
unfinished_now bytes waits more short =
    let none : more ≡ [] = empty more (omega (arith, short, length-append bytes more)) in
    subst (λ (l : List ℕ). IsUnfinished l) (sym (ap (λ (l : List ℕ). bytes ++ l) none ∙ append-nil bytes)) waits

-- with a piece more
pub unfinished_more : (size : ℕ) (bytes piece : List ℕ)
    → IsUnfinishedBelow size bytes → IsUnfinishedBelow size (bytes ++ piece)
unfinished_more size bytes piece below more short =
    let same : (bytes ++ piece) ++ more ≡ bytes ++ (piece ++ more) = append_assoc bytes piece more in
    subst (λ (l : List ℕ). IsUnfinished l) (sym same) (below (piece ++ more) (omega (arith, short, ap length same)))

pub unfinished_added : (size : ℕ) (old mid new piece : List ℕ)
    → mid ≡ old → new ≡ mid ++ piece → IsUnfinishedBelow size old → IsUnfinishedBelow size new
unfinished_added size old mid new piece same added below =
    subst (λ (l : List ℕ). IsUnfinishedBelow size l)
    (sym (added ∙ ap (λ (l : List ℕ). l ++ piece) same)) (unfinished_more size old piece below)

pub unfinished_none : (bytes : List ℕ) → IsUnfinishedBelow 0 bytes
unfinished_none bytes more short = absurd (omega (arith, short))

-- ---- requests

module _ (ends : EndsByItself) where
  -- bytes behind a first request
  with_more : (bytes : List ℕ) (m : Message) (rest more : List ℕ)
      → IsFirstRequest bytes (Whole m rest) → IsFirstRequest (bytes ++ more) (Whole m (rest ++ more))
  with_more bytes m rest more first =
      let E = ends bytes m rest first in
      let joined : E.0 ++ (rest ++ more) ≡ bytes ++ more =
      sym (append_assoc E.0 rest more) ∙ ap (λ (l : List ℕ). l ++ more) (sym E.1) in
      subst (λ (l : List ℕ). IsFirstRequest l (Whole m (rest ++ more))) joined (E.2 (rest ++ more))

  -- the bytes of a first request alone
  pub one_alone : (bytes : List ℕ) (m : Message) (n : ℕ)
      → n ≤ length bytes → IsFirstRequest (bytes ++ []) (Whole m (drop n bytes ++ [])) → AreRequests 1 (take n bytes)
  one_alone bytes m n within first =
      let here : IsFirstRequest bytes (Whole m (drop n bytes)) =
      subst (λ (l : List ℕ). IsFirstRequest l (Whole m (drop n bytes))) (append-nil bytes)
      (subst (λ (l : List ℕ). IsFirstRequest (bytes ++ []) (Whole m l)) (append-nil (drop n bytes)) first) in
      let E = ends bytes m (drop n bytes) here in
      let front_is : E.0 ≡ take n bytes =
      append_cancel_right E.0 (take n bytes) (drop n bytes) (sym E.1 ∙ sym (take-append-drop n bytes)) in
      (m, [], subst (λ (l : List ℕ). IsFirstRequest l (Whole m [])) (append-nil E.0 ∙ front_is) (E.2 []), refl)

  -- requests behind requests
  pub requests_both : (a b : ℕ) (xs ys : List ℕ) → AreRequests a xs → AreRequests b ys → AreRequests (a + b) (xs ++ ys)
  requests_both zero b xs ys first next_part =
      let none : xs ≡ [] = first in
      let count : zero + b ≡ b = omega arith in
      subst (λ (n : ℕ). AreRequests n (xs ++ ys)) (sym count)
      (subst (λ (l : List ℕ). AreRequests b (l ++ ys)) (sym none) next_part)
  requests_both (suc a) b xs ys (m, rest, first, behind) next_part =
      let count : suc a + b ≡ suc (a + b) = omega arith in
      subst (λ (n : ℕ). AreRequests n (xs ++ ys)) (sym count)
      (m, rest ++ ys, with_more xs m rest ys first, requests_both a b rest ys behind next_part)

  -- a request behind others
  pub one_further : (bytes : List ℕ) (end size count : ℕ) (part : List ℕ) (m : Message)
      → part ≡ drop end bytes → end ≤ length bytes → size ≤ length part → AreRequests count (take end bytes)
      → IsFirstRequest (part ++ []) (Whole m (drop size part ++ []))
      → (end + size ≤ length bytes) × AreRequests (count + 1) (take (end + size) bytes)
  one_further bytes end size count part m is within fits whole first =
      let one : AreRequests 1 (take size part) = one_alone part m size fits first in
      let both : AreRequests (count + 1) (take end bytes ++ take size part) =
      requests_both count 1 (take end bytes) (take size part) whole one in
      let joined : take end bytes ++ take size part ≡ take (end + size) bytes =
      ap (λ (l : List ℕ). take end bytes ++ take size l) is ∙ sym (take-add end size bytes) in (
        omega (arith, fits, ap length is, length-drop end bytes, within),
        subst (λ (l : List ℕ). AreRequests (count + 1) l) joined both,
      )
