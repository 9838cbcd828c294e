-- Calls of a disk that change one file alone.
use Rattle.std.proofs.Common.{◌≡◌, ⊎_elim, ℕ, ◌+◌, List, ◌++◌, Option, Some, None, length, take, drop, refl, sym, ◌∙◌}
use Rattle.std.proofs.Common.{ap, ap₂, subst, arith, append_assoc, length-append}
use Rattle.std.proofs.lemmas.Bool.{cases_lt}
use Rattle.std.proofs.lemmas.List.{drop-drop, drop_at, take_at}
use Rattle.std.proofs.lemmas.Result.{on_ok_weaker}
use Rattle.std.specs.Prelude.{Ok, Result}
use Rattle.aas_outside.specs.Moments.{Passes}
use Rattle.aas_outside_disk.specs.Disk.{AddsNone, Becomes, Meanwhile, Tears, Writes, written}
use Rattle.aas_outside_disk.specs.Files.{Files, SameOthers, file}
use Rattle.aas_outside_disk.specs.declared.part.Part.{Part}
use Rattle.aas_outside_disk.specs.declared.part.Part.TheVariants.{Main, Spare, Selector}
use Rattle.aas_journal.specs.Checkpoint.{ChangesOnly, Rewrites}

same_others : (part : Part) (a : Files) → SameOthers part a a
same_others Main a = (refl, refl)
same_others Spare a = (refl, refl)
same_others Selector a = (refl, refl)

pub others_then : (part : Part) (a b c : Files) → SameOthers part a b → SameOthers part b c → SameOthers part a c
others_then Main a b c first then = (then.0 ∙ first.0, then.1 ∙ first.1)
others_then Spare a b c first then = (then.0 ∙ first.0, then.1 ∙ first.1)
others_then Selector a b c first then = (then.0 ∙ first.0, then.1 ∙ first.1)

module _ (part : Part) {a b : ℕ} {old mid : ℕ → Files → Type 0} (first : Passes a old b mid) where
  none_changes : Meanwhile a b old mid AddsNone → Meanwhile a b old mid (ChangesOnly part)
  none_changes none t since until c left = (c, none t since until c left, same_others part c)

  pub tears_change : (at n : ℕ) → Meanwhile a b old mid (Tears part at n) → Meanwhile a b old mid (ChangesOnly part)
  tears_change at n tears t since until c left =
      let from = tears t since until 0 (λ d h. omega arith) c left in
      (from.0, from.1, from.2)

  pub changes_then : {c : ℕ} {new : ℕ → Files → Type 0} → Meanwhile a b old mid (ChangesOnly part)
      → Passes b mid c new → Meanwhile b c mid new (ChangesOnly part) → Meanwhile a c old new (ChangesOnly part)
  changes_then changes second then t since until f left = ⊎_elim
      (λ low. changes t since (omega (arith, low)) f ((second.past t (omega (arith, low)) f).0 left))
      (λ high.
      let late = then t high until f left in
      let early = changes b first.later (omega arith) late.0 late.1 in
      (early.0, early.1, others_then part early.0 late.0 f early.2 late.2))
      (cases_lt t b)

-- reads, and a write of one piece behind them
pub reads_then_tears : (part : Part) {a b c : ℕ} {old mid new : ℕ → Files → Type 0} → Passes a old b mid
    → Meanwhile a b old mid AddsNone → Passes b mid c new → (at n : ℕ) → Meanwhile b c mid new (Tears part at n)
    → Meanwhile a c old new (ChangesOnly part)
reads_then_tears part first none second at n tears =
    changes_then part first (none_changes part first none) second (tears_change part second at n tears)

becomes_then : (P Q R : Files → Files → Type 0) (old mid new : Option Files)
    → Becomes old mid P → Becomes mid new Q → ((a b c : Files) → P a b → Q b c → R a c) → Becomes old new R
becomes_then P Q R None mid new first then both = subst (λ (k : Option Files). Becomes k new Q) first then
becomes_then P Q R (Some a) None new first then both = absurd first
becomes_then P Q R (Some a) (Some b) None first then both = absurd then
becomes_then P Q R (Some a) (Some b) (Some c) first then both = both a b c first then

-- two writes, one behind the other
written_twice : (n : ℕ) (front bytes file : List ℕ)
    → length front ≡ n → written n bytes (written 0 front file) ≡ written 0 (front ++ bytes) file
written_twice n front bytes file size =
    let behind = drop (0 + length front) file in
    let low : take n (front ++ behind) ≡ front = take_at front behind n size in
    let high : drop (n + length bytes) (front ++ behind) ≡ drop (0 + length (front ++ bytes)) file =
    sym (drop-drop (length bytes) n (front ++ behind))
    ∙ ap (λ (l : List ℕ). drop (length bytes) l) (drop_at front behind n size)
    ∙ drop-drop (length bytes) (0 + length front) file
    ∙ ap (λ (k : ℕ). drop k file) (omega (arith, length-append front bytes)) in
    ap₂ (λ (a b : List ℕ). a ++ (bytes ++ b)) low high
    ∙ sym (append_assoc front bytes (drop (0 + length (front ++ bytes)) file))

pub rewrites_twice : {E : Type 0} (F : Type 0) (part : Part) (n : ℕ)
    (front bytes : List ℕ) (old mid new : Option Files) (result : Result (Unit {0}) E)
    → length front ≡ n → Writes {E = F} part 0 front old mid (Ok tt)
    → Writes part n bytes mid new result → Rewrites part (written 0 (front ++ bytes)) old new result
rewrites_twice F part n front bytes old mid new result size first second =
    becomes_then _ _ _ old mid new first second (λ a b c p q. (
      others_then part a b c p.0 q.0,
      omega (arith, p.1.no_shorter, q.1.no_shorter),
      on_ok_weaker result
          (λ (is : file part c ≡ written n bytes (file part b)).
          is ∙ ap (λ (l : List ℕ). written n bytes l) p.2 ∙ written_twice n front bytes (file part a) size)
          q.2,
    ))
