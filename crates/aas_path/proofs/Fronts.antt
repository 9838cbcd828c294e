-- What stood in front, through one text behind another.
use Rattle.std.proofs.Common.{◌≡◌, ℕ, List, ◌++◌, length, take, sym, ap, ◌∙◌, arith, length-append}
use Rattle.std.proofs.lemmas.List.{take-take, take_at}

pub front_stays : (a b c text : List ℕ) (n m : ℕ) → length a ≡ n → length b ≡ m → b ≡ a ++ text → take m c ≡ b → take n c ≡ a
front_stays a b c text n m size_a size_b is stays =
    sym (take-take n m c (omega (arith, ap length is, length-append a text))) ∙ ap (take n) (stays ∙ is) ∙ take_at a text n size_a
