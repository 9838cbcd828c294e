-- Truth values, and what tests answer.
use Rattle.std.proofs.Common.{◌≡◌, ℕ, List, ◌&&◌, Bool, true, false, bytes_eq, Ordering, Less, Equal, Greater, is_lt, Option, Some, None, refl, sym, ◌∙◌, true≢false}
use Rattle.std.specs.Option.{is_some}
use Rattle.std.proofs.lemmas.Bool.{and_parts, false_from_ne_true}
use Rattle.std.proofs.lemmas.Slice.Eq.{bytes_eq-Decides}

pub and_left : (a b : Bool) → a && b ≡ true → a ≡ true
and_left a b e = (and_parts a b e).0

pub and_right : (a b : Bool) → a && b ≡ true → b ≡ true
and_right a b e = (and_parts a b e).1

pub Less-from_is_lt : (o : Ordering) → is_lt o ≡ true → o ≡ Less
Less-from_is_lt Less e = refl
Less-from_is_lt Equal e = absurd (true≢false (sym e))
Less-from_is_lt Greater e = absurd (true≢false (sym e))

pub bytes_eq-turned : (a b : List ℕ) → bytes_eq a b ≡ true → bytes_eq b a ≡ true
bytes_eq-turned a b e = (bytes_eq-Decides b a).1 (sym ((bytes_eq-Decides a b).0 e))

pub bytes_eq-unlike : (a b : List ℕ) → bytes_eq a b ≡ false → bytes_eq b a ≡ false
bytes_eq-unlike a b e = false_from_ne_true (bytes_eq b a) (λ same. true≢false (sym (bytes_eq-turned b a same) ∙ e))

pub None-from_is_some : {X : Type 0} (o : Option X) → is_some o ≡ false → o ≡ None
None-from_is_some None e = refl
None-from_is_some (Some x) e = absurd (true≢false e)
