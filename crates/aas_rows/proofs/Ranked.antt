-- What stands at a rank.
use Rattle.std.proofs.Common.{◌≡◌, ℕ, ◌+◌, ◌≤◌, Bool, List, [], ◌∷◌, ◌++◌, map, length, drop, Option, Some, None, refl, sym, ap, ◌∙◌, append_assoc, arith, length-append}
use Rattle.std.proofs.lemmas.List.{append-nil}
use Rattle.aas_model.specs.declared.element.Element.{Element}
use Rattle.aas_model.specs.declared.path.PathStep.{PathStep}
use Rattle.aas_path_trees.specs.ElementAt.{element_among}
use Rattle.aas_rows.specs.Edits.{rank_among, StandsIn}
use Rattle.aas_rows.specs.Rows.{Line, rows, rows_of_all, Placed, forest, trees_of, BeginsRows}
use Rattle.aas_rows.proofs.Edited.{have_edited_rows}
use Rattle.aas_rows.proofs.Trees.{grown, begins_more}

-- e has the rank n among rows that stand from level k on
pub record StandsAt (all : List Line) (k n : ℕ) (e : Element) : Type 0 where
  pub before : List Line
  pub behind : List Line
  pub level : ℕ
  pub whole : all ≡ before ++ (rows e level ++ behind)
  pub at : length before ≡ n
  pub higher : BeginsRows level behind
  pub deep : k ≤ level

pub followed : (all rest : List Line) (k n : ℕ) (e : Element) → StandsAt all k n e → BeginsRows k rest → StandsAt (all ++ rest) k n e
followed all rest k n e s b = record {
  before = s.before;
  behind = s.behind ++ rest;
  level = s.level;
  whole = ap (λ xs. xs ++ rest) s.whole ∙ append_assoc s.before (rows e s.level ++ s.behind) rest ∙ ap (λ xs. s.before ++ xs) (append_assoc (rows e s.level) s.behind rest);
  at = s.at;
  higher = begins_more k s.level s.behind rest s.deep s.higher b;
  deep = s.deep;
}

pub led : (front all : List Line) (k l n m : ℕ) (e : Element) → k ≤ l → length front + n ≡ m → StandsAt all l n e → StandsAt (front ++ all) k m e
led front all k l n m e le there s = record {
  before = front ++ s.before;
  behind = s.behind;
  level = s.level;
  whole = ap (λ xs. front ++ xs) s.whole ∙ sym (append_assoc front s.before (rows e s.level ++ s.behind));
  at = length-append front s.before ∙ ap (λ n. length front + n) s.at ∙ there;
  higher = s.higher;
  deep = let deep = s.deep in omega (arith, deep);
}

-- ---- the first tree that rows stand for

behind_front : (b xs : List Line) → drop (length b) (b ++ xs) ≡ xs
behind_front [] xs = refl
behind_front (x ∷ b) xs = behind_front b xs

pub first_tree : (e : Element) (k : ℕ) (rest : List Line) → BeginsRows k rest → forest (rows e k ++ rest) ≡ (k, e) ∷ forest rest
first_tree e k rest b = ap (λ xs. forest (xs ++ rest)) (sym (append-nil (rows e k))) ∙ grown (e ∷ []) k rest b

pub trees_from : (b : List Line) (e : Element) (k n : ℕ) (rest : List Line) → BeginsRows k rest → length b ≡ n → trees_of (drop n (b ++ (rows e k ++ rest))) ≡ e ∷ trees_of rest
trees_from b e k n rest h at =
    ap (λ n. trees_of (drop n (b ++ (rows e k ++ rest)))) (sym at) ∙ ap trees_of (behind_front b (rows e k ++ rest)) ∙ ap (map (λ (p : Placed). p.1)) (first_tree e k rest h)

abbrev pub first_of : List Element → Option Element
first_of [] = None
first_of (e ∷ es) = Some e

pub stands_first : (all : List Line) (k n : ℕ) (e : Element) → StandsAt all k n e → first_of (trees_of (drop n all)) ≡ Some e
stands_first all k n e s = ap (λ rs. first_of (trees_of (drop n rs))) s.whole ∙ ap first_of (trees_from s.before e s.level n s.behind s.higher s.at)

-- one element has a rank
pub stands_once : (all : List Line) (k l n : ℕ) (e f : Element) → StandsAt all k n e → StandsAt all l n f → e ≡ f
stands_once all k l n e f s t = let same : Some e ≡ Some f = sym (stands_first all k n e s) ∙ stands_first all l n f t in cc

-- what a path leads to has its rank
pub stands_at_path : (l : Bool) (s : PathStep) (p : List PathStep) (es : List Element) (k : ℕ) (e : Element) → element_among l s p es ≡ Some e
    → (n : ℕ) × (rank_among l s p es ≡ Some n) × StandsAt (rows_of_all es k) k n e
stands_at_path l s p es k e is =
    let st : StandsIn l s p es k e = have_edited_rows l s p es k e is in
    (length st.before, st.at, record { before = st.before; behind = st.behind; level = st.level; whole = st.whole; at = refl; higher = st.higher; deep = st.deep })
