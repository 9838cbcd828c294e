-- Forms of texts. A form is a set of lists of bytes, built from smaller forms as in the EBNF of XML Schema Part 2 and
-- of the RFCs. It says which texts there are, and never how a text is searched: a form of several parts says that the
-- text can be split so. This notation is the profile's own.
use Rattle.std.specs.Prelude.{◌≡◌, ℕ, ◌<◌, ◌≤◌, ◌==◌, ◌||◌, ◌⊎◌, Bool, true, false, List, [], ◌∷◌, ◌++◌, length, codes}
use Rattle.std.specs.Char.{is_ascii_digit}
use Rattle.std.specs.List.{list_all}
use Rattle.std.specs.Str.Parse.{digits_value}
use Prim.Native.String.{String}

infixr 30 ◌▸◌
infixr 30 ◌▸=◌
infixr 20 ◌∣◌
-- these very characters
abbrev pub lit : String → List ℕ → Type 0
lit word text = text ≡ codes word

abbrev pub is_among : List ℕ → ℕ → Bool
is_among [] b = false
is_among (c ∷ []) b = b == c
is_among (c ∷ d ∷ cs) b = b == c || is_among (d ∷ cs) b

-- the class of these ASCII characters
abbrev pub among : String → ℕ → Bool
among word b = is_among (codes word) b

-- one byte of a class
abbrev pub one : (ℕ → Bool) → List ℕ → Type 0
one class [] = ⊥
one class (b ∷ text) = (class b ≡ true) × (text ≡ [])

-- any number of bytes of a class, or none
abbrev pub any : (ℕ → Bool) → List ℕ → Type 0
any class text = list_all class text ≡ true

-- one or more bytes of a class
abbrev pub run : (ℕ → Bool) → List ℕ → Type 0
run class [] = ⊥
run class (b ∷ text) = (class b ≡ true) × (list_all class text ≡ true)

-- a text of the form, or nothing
abbrev pub maybe : (List ℕ → Type 0) → List ℕ → Type 0
maybe A text = (text ≡ []) ⊎ A text

-- a text of one of the two forms
abbrev pub ◌∣◌ : (List ℕ → Type 0) → (List ℕ → Type 0) → List ℕ → Type 0
◌∣◌ A B text = A text ⊎ B text

-- a text of the first form, and then one of the second
abbrev pub ◌▸◌ : (List ℕ → Type 0) → (List ℕ → Type 0) → List ℕ → Type 0
◌▸◌ A B text = (front : List ℕ) × (back : List ℕ) × (text ≡ front ++ back) × A front × B back

-- any number of texts of the form, one behind the other, or none
pub data Many (A : List ℕ → Type 0) : List ℕ → Type 0 where
  none : Many A []
  more : (front back text : List ℕ) → text ≡ front ++ back → A front → Many A back → Many A text

-- a text of the form that isn't empty
abbrev pub nonempty : (List ℕ → Type 0) → List ℕ → Type 0
nonempty A text = A text × (0 < length text)

-- a text of the form with at most so many bytes
abbrev pub up_to : ℕ → (List ℕ → Type 0) → List ℕ → Type 0
up_to most A text = A text × (length text ≤ most)

-- so many ASCII digits, which write the number
abbrev pub digits : ℕ → ℕ → List ℕ → Type 0
digits count number text = any is_ascii_digit text × (length text ≡ count) × (number ≡ digits_value 10 text)

-- a text that writes a number, and then a text of the form that this number asks for
abbrev pub ◌▸=◌ : (ℕ → List ℕ → Type 0) → (ℕ → List ℕ → Type 0) → List ℕ → Type 0
◌▸=◌ A B text = (number : ℕ) × (front : List ℕ) × (back : List ℕ) × (text ≡ front ++ back) × A number front × B number back

-- nothing, where the fact holds
abbrev pub such : Type 0 → List ℕ → Type 0
such P text = P × (text ≡ [])
