-- What lies here of what came.
use Rattle.std.proofs.Common.{◌≡◌, ◌⊎◌, ℕ, ◌+◌, ◌-◌, ◌<◌, ◌≤◌, List, [], ◌++◌, length, take, drop, None, Some, Bool}
use Rattle.std.proofs.Common.{true, false, refl, sym, ap, ◌∙◌, subst, arith, length-append}
use Rattle.std.proofs.Common.{length-drop, take-append-drop}
use Rattle.std.proofs.lemmas.List.{append-nil, drop_all, drop-append-le, drop-drop, length-take-le, take_at}
use Rattle.std.specs.Option.{ForSome}
use Rattle.std.specs.declared.option.Option.{Option}
use Rattle.std.specs.Io.KnownBytes.{append_known}
use Rattle.aas_outside.proofs.KnownBytes.{append_known-more}
use Rattle.aas_clients.specs.Sockets.{ComesIn}
use Rattle.aas_clients.specs.Kept.{HandsOver, IsKept, IsPart}
use Rattle.aas_clients.specs.Fronts.{AreRefused, AreRequests, IsUnfinished, IsUnfinishedBelow}

drop_more : (n : ℕ) (all piece : List ℕ) → n ≤ length all → drop n (all ++ piece) ≡ drop n all ++ piece
drop_more n all piece within = drop-append-le n all piece within

-- with a piece more
pub kept_more : (told told_now : Option (List ℕ)) (handed room : ℕ) (inbox inbox_now : List ℕ)
    → ForSome told (λ all. IsKept handed inbox all) → ComesIn told told_now inbox inbox_now room
    → ForSome told_now (λ all. IsKept handed inbox_now all)
kept_more None told_now handed room inbox inbox_now kept (piece, tells, lies, short) all known =
    absurd (let e = sym known ∙ tells in cc)
kept_more (Some before) told_now handed room inbox inbox_now kept (piece, tells, lies, short) all known =
    let K : IsKept handed inbox before = kept before refl in
    let is : all ≡ before ++ piece = (let e = sym known ∙ tells in cc) in (
      omega (arith, K.0, ap length is, length-append before piece),
      lies ∙ ap (λ (l : List ℕ). l ++ piece) K.1 ∙ sym (drop_more handed before piece K.0)
          ∙ ap (λ (l : List ℕ). drop handed l) (sym is),
    )

pub short_more : (told told_now : Option (List ℕ)) (inbox inbox_now : List ℕ) (room : ℕ)
    → ComesIn told told_now inbox inbox_now room → length inbox_now ≤ length inbox + room
short_more told told_now inbox inbox_now room (piece, tells, lies, short) =
    omega (arith, short, ap length lies, length-append inbox piece)

-- none is whole
pub unfinished_here : (size : ℕ) (bytes : List ℕ)
    → length bytes < size → IsUnfinishedBelow size bytes → IsUnfinished bytes
unfinished_here size bytes short below =
    subst (λ (l : List ℕ). IsUnfinished l) (append-nil bytes) (below [] (omega (arith, short, length-append bytes [])))

-- ---- what a visit hands over

pub hands_part : (inbox : List ℕ) (has_ended : Bool) (count requests : ℕ) (is_last : Bool)
    → IsPart inbox has_ended count requests is_last
    → HandsOver inbox has_ended (take count inbox) requests is_last (drop count inbox)
hands_part inbox has_ended count requests is_last part = record {
  joined = sym (take-append-drop count inbox);
  limit = part.limit;
  whole = part.whole;
  last = λ is. let L = part.last is in (L.0, drop_all count inbox (omega (arith, L.1)), L.2);
}

pub part_none : (inbox : List ℕ) (has_ended : Bool) → IsPart inbox has_ended 0 0 false
part_none inbox has_ended = record {
  within = omega arith;
  limit = omega arith;
  whole = λ is. refl;
  last = λ is. absurd (let e : false ≡ true = is in cc);
}

pub part_whole : (inbox : List ℕ) (has_ended : Bool) (count requests : ℕ) → count ≤ length inbox
    → requests ≤ 64 → AreRequests requests (take count inbox) → IsPart inbox has_ended count requests false
part_whole inbox has_ended count requests within limit whole = record {
  within = within;
  limit = limit;
  whole = λ is. whole;
  last = λ is. absurd (let e : false ≡ true = is in cc);
}

pub part_last : (inbox : List ℕ) (has_ended : Bool) (count : ℕ) → count ≡ length inbox
    → AreRefused inbox ⊎ ((has_ended ≡ true) × ∥ IsUnfinished inbox ∥₁) → IsPart inbox has_ended count 0 true
part_last inbox has_ended count all why = record {
  within = omega arith;
  limit = omega arith;
  whole = λ is. absurd (let e : true ≡ false = is in cc);
  last = λ is. (refl, all, why);
}

-- ---- replies

-- the socket took a front of what waits
pub poured : (taken taken_now : Option (List ℕ)) (replies : List ℕ) (n : ℕ)
    → taken_now ≡ append_known taken (take n replies)
    → append_known taken_now (drop n replies) ≡ append_known taken replies
poured taken taken_now replies n took =
    ap (λ (k : Option (List ℕ)). append_known k (drop n replies)) took
    ∙ append_known-more taken (take n replies) (drop n replies) ∙ ap (append_known taken) (take-append-drop n replies)

-- ---- what is taken of a visit

-- where n items from the place are copied to the front of the buffer, that front was the front of what was left
pub taken_front : (input buf copied : List ℕ) (at n : ℕ) → copied ≡ take n (drop at input) → n ≤ length input - at
    → drop at input ≡ take n (copied ++ drop n buf) ++ drop (at + n) input
taken_front input buf copied at n is fits =
    let size : length copied ≡ n =
    ap length is ∙ length-take-le n (drop at input) (omega (arith, fits, length-drop at input)) in
    sym (take-append-drop n (drop at input))
    ∙ ap (λ (l : List ℕ). take n (drop at input) ++ l) (drop-drop n at input)
    ∙ ap (λ (l : List ℕ). l ++ drop (at + n) input) (sym is ∙ sym (take_at copied (drop n buf) n size))
