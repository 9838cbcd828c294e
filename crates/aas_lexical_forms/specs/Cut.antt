-- What a function cuts off the front of a text: it gives the rest, if it finds its form there. For each word of `Form`
-- that builds a form, there is one that builds a cut.
use Rattle.std.specs.Prelude.{ℕ, zero, suc, nat_le, nat_lt, ◌+◌, ◌-◌, ◌*◌, ◌==◌, ◌&&◌, Bool, length, List, [], ◌∷◌, Option, Some, None, codes, if◌then◌else◌}
use Rattle.std.specs.Option.{option_and_then, option_map_or}
use Rattle.std.specs.Char.{is_ascii_digit}
use Prim.Native.String.{String}

-- these bytes
abbrev pub after_word : List ℕ → List ℕ → Option (List ℕ)
after_word [] text = Some text
after_word (c ∷ word) [] = None
after_word (c ∷ word) (b ∷ text) = if b == c then after_word word text else None

abbrev pub after_lit : String → List ℕ → Option (List ℕ)
after_lit word = after_word (codes word)

-- one byte of the class
abbrev pub after_one : (ℕ → Bool) → List ℕ → Option (List ℕ)
after_one class [] = None
after_one class (b ∷ text) = if class b then Some text else None

-- all bytes of the class that stand at the front
abbrev pub after_any : (ℕ → Bool) → List ℕ → List ℕ
after_any class [] = []
after_any class (b ∷ text) = if class b then after_any class text else b ∷ text

-- the same, of which there must be one
abbrev pub after_run : (ℕ → Bool) → List ℕ → Option (List ℕ)
after_run class [] = None
after_run class (b ∷ text) = if class b then Some (after_any class text) else None

-- the rest, or the whole text where there is none
abbrev pub rest_or : List ℕ → Option (List ℕ) → List ℕ
rest_or text None = text
rest_or text (Some rest) = rest

abbrev pub first_of : Option (List ℕ) → Option (List ℕ) → Option (List ℕ)
first_of None other = other
first_of (Some rest) other = Some rest

-- a cut that always finds something, if only nothing
abbrev pub cut_all : (List ℕ → List ℕ) → List ℕ → Option (List ℕ)
cut_all p text = Some (p text)

abbrev pub cut_then : (List ℕ → Option (List ℕ)) → (List ℕ → Option (List ℕ)) → List ℕ → Option (List ℕ)
cut_then p q text = option_and_then q (p text)

abbrev pub cut_maybe : (List ℕ → Option (List ℕ)) → List ℕ → Option (List ℕ)
cut_maybe p text = Some (rest_or text (p text))

abbrev pub cut_either : (List ℕ → Option (List ℕ)) → (List ℕ → Option (List ℕ)) → List ℕ → Option (List ℕ)
cut_either p q text = first_of (p text) (q text)

-- the rest, if it is shorter than the text
abbrev pub shorter : List ℕ → List ℕ → Option (List ℕ)
shorter text rest = if nat_lt (length rest) (length text) then Some rest else None

abbrev pub cut_nonempty : (List ℕ → Option (List ℕ)) → List ℕ → Option (List ℕ)
cut_nonempty p text = option_and_then (shorter text) (p text)

-- the rest, if no more than so many bytes stand before it
abbrev pub within : ℕ → List ℕ → List ℕ → Option (List ℕ)
within most text rest = if nat_le (length text) (most + length rest) then Some rest else None

abbrev pub cut_up_to : ℕ → (List ℕ → Option (List ℕ)) → List ℕ → Option (List ℕ)
cut_up_to most p text = option_and_then (within most text) (p text)

-- at most so many times, as long as something is found
abbrev pub cut_times : ℕ → (List ℕ → Option (List ℕ)) → List ℕ → List ℕ
cut_times zero p text = text
cut_times (suc n) p text = option_map_or (cut_times n p) (p text) text

-- as long as something is found
abbrev pub cut_many : (List ℕ → Option (List ℕ)) → List ℕ → List ℕ
cut_many p text = cut_times (length text) p text

-- two digits: their number, and the rest
abbrev pub after_two_digits : List ℕ → Option (ℕ × List ℕ)
after_two_digits [] = None
after_two_digits (a ∷ []) = None
after_two_digits (a ∷ b ∷ text) = if is_ascii_digit a && is_ascii_digit b then Some ((a - 48) * 10 + (b - 48), text) else None

abbrev pub hundreds : ℕ → ℕ × List ℕ → ℕ × List ℕ
hundreds n r = (n * 100 + r.0, r.1)

-- four digits
abbrev pub after_four_digits : List ℕ → Option (ℕ × List ℕ)
after_four_digits text = option_and_then (λ (r : ℕ × List ℕ). option_and_then (λ (s : ℕ × List ℕ). Some (hundreds r.0 s)) (after_two_digits r.1)) (after_two_digits text)

-- a number, and then the cut that it asks for
abbrev pub cut_with : (List ℕ → Option (ℕ × List ℕ)) → (ℕ → List ℕ → Option (List ℕ)) → List ℕ → Option (List ℕ)
cut_with p q text = option_and_then (λ (r : ℕ × List ℕ). q r.0 r.1) (p text)

abbrev pub cut_such : Bool → List ℕ → Option (List ℕ)
cut_such holds text = if holds then Some text else None
