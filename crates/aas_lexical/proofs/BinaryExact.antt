-- What is cut for a binary text is its form.
use Rattle.std.proofs.Common.{◌≡◌, ℕ, ◌↔◌, List, [], ◌∷◌, ◌++◌, Some, None, refl, inl, inr, codes}
use Rattle.std.specs.Char.{is_ascii_hexdigit}
use Rattle.aas_lexical_forms.specs.Form.{lit, one, any, maybe, Many, ◌∣◌, ◌▸◌}
use Rattle.aas_lexical_forms.specs.Cut.{after_lit, after_one, after_any, cut_all, cut_then}
use Rattle.aas_lexical_forms.proofs.Begin.{Avoids-lit, Needs-one, Needs-then, of_among}
use Rattle.aas_lexical_forms.proofs.Cuts.{Cuts, Anything, End, Cuts-lit, Cuts-one, Cuts-any, Cuts-then, Cuts-next, Cuts-either_by, Cuts-maybe_by, whole}
use Rattle.aas_lexical_forms.proofs.Repeat.{Nonempty, Nonempty-one, Nonempty-then, Cuts-many}
use Rattle.aas_lexical_forms.proofs.Dodges.{Dodges, Dodges-first, Dodges-then}
use Rattle.aas_lexical.specs.Binary.{is_symbol, is_symbol_of_four_bits, is_symbol_of_two_bits, group, padded_group, base64_binary}
use Rattle.aas_lexical.proofs.Loops.{Loops, loops}
use Rattle.aas_lexical.specs.Cut.Binary.{after_group, after_groups, after_two_padded, after_one_padded, after_padded_group, after_base64}

-- ---- hexadecimal digits

pub hex_digits_exact : (t : List ℕ) → (cut_all (after_any is_ascii_hexdigit) t ≡ Some []) ↔ any is_ascii_hexdigit t
hex_digits_exact t = whole (Cuts-any is_ascii_hexdigit) tt t

-- ---- groups

symbol_cuts : Cuts (one is_symbol) Anything (after_one is_symbol)
symbol_cuts = Cuts-one is_symbol

group_cuts : Cuts group Anything after_group
group_cuts = Cuts-next symbol_cuts (Cuts-next symbol_cuts (Cuts-next symbol_cuts symbol_cuts))

group_long : Nonempty group
group_long = Nonempty-then (Nonempty-one is_symbol)

groups_cuts : Cuts (Many group) (λ z. after_group z ≡ None) (cut_all after_groups)
groups_cuts = Cuts-many group_cuts group_long (λ z k. k) (λ y z h k. tt)

pub groups_loop : Loops after_group
groups_loop = loops group_cuts group_long

-- ---- the last group, with padding

two_padded_cuts : Cuts (one is_symbol ▸ one is_symbol_of_four_bits ▸ lit "=") Anything after_two_padded
two_padded_cuts = Cuts-next symbol_cuts (Cuts-next (Cuts-one is_symbol_of_four_bits) (Cuts-lit "="))

one_padded_cuts : Cuts (one is_symbol_of_two_bits ▸ lit "==") Anything after_one_padded
one_padded_cuts = Cuts-next (Cuts-one is_symbol_of_two_bits) (Cuts-lit "==")

two_bits_symbol : (x : List ℕ) → one is_symbol_of_two_bits x → one is_symbol x
two_bits_symbol [] h = absurd h
two_bits_symbol (b ∷ x) h = (of_among is_symbol (codes "AQgw") b h.0 refl, h.1)

four_bits_symbol : (x : List ℕ) → one is_symbol_of_four_bits x → one is_symbol x
four_bits_symbol [] h = absurd h
four_bits_symbol (b ∷ x) h = (of_among is_symbol (codes "AEIMQUYcgkosw048") b h.0 refl, h.1)

-- behind the first symbol of one byte, two bytes are not found
one_not_two : (y z : List ℕ) → (one is_symbol_of_two_bits ▸ lit "==") y → Anything z → after_two_padded (y ++ z) ≡ None
one_not_two y z h k =
    (Dodges-then symbol_cuts (Dodges-first (Avoids-lit "==" is_symbol_of_four_bits (λ z. refl)) (Needs-then (Needs-one is_symbol_of_four_bits) (after_lit "=")))).none_at
    y z (h.0, h.1, h.2, two_bits_symbol h.0 h.3, h.4) k

padded_cuts : Cuts padded_group Anything after_padded_group
padded_cuts = Cuts-next symbol_cuts (Cuts-either_by two_padded_cuts one_padded_cuts {Next = Anything} one_not_two (λ z k. (tt, tt)))

-- ---- a group with padding is no group

two_padded_dodges : Dodges (one is_symbol_of_four_bits ▸ lit "=") Anything (cut_then (after_one is_symbol) (after_one is_symbol))
two_padded_dodges = record {
  none_at = λ y z h k.
      (Dodges-then symbol_cuts (Dodges-first (Avoids-lit "=" is_symbol (λ z. refl)) (Needs-one is_symbol))).none_at y z (h.0, h.1, h.2, four_bits_symbol h.0 h.3, h.4) k;
}

one_padded_dodges : Dodges (lit "==") Anything (cut_then (after_one is_symbol) (after_one is_symbol))
one_padded_dodges = Dodges-first (Avoids-lit "==" is_symbol (λ z. refl)) (Needs-then (Needs-one is_symbol) (after_one is_symbol))

padded_tail : (y z : List ℕ) → ((one is_symbol ▸ one is_symbol_of_four_bits ▸ lit "=") ∣ (one is_symbol_of_two_bits ▸ lit "==")) y → Anything z
    → cut_then (after_one is_symbol) (cut_then (after_one is_symbol) (after_one is_symbol)) (y ++ z) ≡ None
padded_tail y z (inl h) k = (Dodges-then symbol_cuts two_padded_dodges).none_at y z h k
padded_tail y z (inr h) k = (Dodges-then symbol_cuts one_padded_dodges).none_at y z (h.0, h.1, h.2, two_bits_symbol h.0 h.3, h.4) k

padded_dodges : Dodges padded_group Anything after_group
padded_dodges = Dodges-then symbol_cuts (record { none_at = padded_tail })

no_group : (y z : List ℕ) → maybe padded_group y → End z → after_group (y ++ z) ≡ None
no_group y z (inl h) k = rw (h, k) refl
no_group y z (inr h) k = padded_dodges.none_at y z h tt

pub base64_exact : (t : List ℕ) → (after_base64 t ≡ Some []) ↔ base64_binary t
base64_exact t = whole (Cuts-then groups_cuts (Cuts-maybe_by padded_cuts {Next = End} (λ z k. (tt, rw k refl))) no_group) refl t
