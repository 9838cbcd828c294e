-- Base64url, with all its padding or with none, stands for some bytes alone.
use Rattle.std.proofs.Common.{◌≡◌, ◌⊎◌, inl, inr, ⊎_elim, ℕ, ◌+◌, List, length, Option, Some, None, Result, Ok, Err, refl, sym, ◌∙◌, ap, subst, arith}
use Rattle.std.proofs.lemmas.List.{append-nil, length-append, length-replicate}
use Rattle.std.proofs.lemmas.Bool.{cases_eq}
use Rattle.std.specs.Prelude.{IfNone, IfOk, replicate}
use Rattle.std.specs.Str.{chars}
use Rattle.aas_model_text.specs.declared.no_memory.NoMemory.{NoMemory}
use Rattle.percent_encoding.specs.Percent.{percent_decode}
use Rattle.base64.specs.declared.decode.DecodeError.{DecodeError}
use Rattle.base64.specs.Engines.{url_safe, url_safe_no_pad}
use Rattle.base64.specs.GeneralPurpose.{encode_of, decode_of, IsBytes, IsConsistent}
use Rattle.base64.specs.Rfc4648.{encode_symbols, padding_len, unpadded_len}
use Rattle.base64.specs.declared.engine.general_purpose.GeneralPurpose.{GeneralPurpose}
use Rattle.base64.proofs.EngineFacts.{decode_of-encode_of}
use Rattle.base64.proofs.RoundTrip.{length-encode_symbols}
use Rattle.aas_page.specs.Segment.{IsBase64Url, IsIdentifierCode, IsIdentifierText, StandsFor}

same : (e : GeneralPurpose) (a b : List ℕ) → IsConsistent e → IsBytes a → IsBytes b → encode_of e a ≡ encode_of e b → a ≡ b
same e a b consistent bytes_a bytes_b h =
    let both : ◌≡◌ {A = Result (List ℕ) DecodeError} (Ok a) (Ok b) =
    sym (decode_of-encode_of e a consistent bytes_a) ∙ ap (decode_of e) h ∙ decode_of-encode_of e b consistent bytes_b in
    cc both

-- of two counts of bytes that take as many symbols, with padding and without, one needs no padding
unpadded : (m n : ℕ) → unpadded_len m ≡ unpadded_len n + padding_len n → (padding_len n ≡ 0) ⊎ (padding_len m ≡ 0)
unpadded m n h = elim (cases_eq (padding_len n) 0) [
  | inl none ↦ inl none
  | inr some ↦ inr (omega (arith, some))
]

bare : (b : List ℕ) → padding_len (length b) ≡ 0 → encode_of url_safe b ≡ encode_of url_safe_no_pad b
bare b none = rw none refl

-- the one with all its padding and the other with none
mixed : (text a b : List ℕ) → IsBytes a → IsBytes b → text ≡ encode_of url_safe_no_pad a → text ≡ encode_of url_safe b → a ≡ b
mixed text a b bytes_a bytes_b coded_a coded_b =
    let h : encode_of url_safe_no_pad a ≡ encode_of url_safe b = sym coded_a ∙ coded_b in
    let lengths : unpadded_len (length a) ≡ unpadded_len (length b) + padding_len (length b) =
    sym (length-encode_symbols url_safe.encode_table a)
    ∙ sym (ap (length {A = ℕ}) (append-nil (encode_symbols url_safe.encode_table a))) ∙ ap (length {A = ℕ}) h
    ∙ length-append {A = ℕ} (encode_symbols url_safe.encode_table b) (replicate (padding_len (length b)) 61)
    ∙ ap (λ (m : ℕ). m + length {A = ℕ} (replicate (padding_len (length b)) 61)) (length-encode_symbols url_safe.encode_table b)
    ∙ ap (λ (n : ℕ). unpadded_len (length b) + n) (length-replicate {A = ℕ} (padding_len (length b)) 61) in
    ⊎_elim
    (λ none. same url_safe_no_pad a b refl bytes_a bytes_b (h ∙ bare b none))
    (λ none. same url_safe a b refl bytes_a bytes_b (bare a none ∙ h))
    (unpadded (length a) (length b) lengths)

pub coded_once : (text a b : List ℕ) → IsBytes a → IsBytes b → IsBase64Url text a → IsBase64Url text b → a ≡ b
coded_once text a b bytes_a bytes_b coded_a coded_b = ⊎_elim
    (λ bare_a. ⊎_elim
    (λ bare_b. same url_safe_no_pad a b refl bytes_a bytes_b (sym bare_a ∙ bare_b))
    (λ padded_b. mixed text a b bytes_a bytes_b bare_a padded_b) coded_b)
    (λ padded_a. ⊎_elim
    (λ bare_b. sym (mixed text b a bytes_b bytes_a bare_b padded_a))
    (λ padded_b. same url_safe a b refl bytes_a bytes_b (sym padded_a ∙ padded_b)) coded_b)
    coded_a

pub stands_for_one : (segment a b : List ℕ) → StandsFor segment a → StandsFor segment b → a ≡ b
stands_for_one segment a b x y =
    let bytes = coded_once (percent_decode segment) x.utf8 y.utf8 x.spells.are_bytes y.spells.are_bytes x.coded y.coded in
    x.spells.characters ∙ ap chars bytes ∙ sym y.spells.characters

-- what base64url was decoded to is the UTF-8 of the identifier for which it stands
pub only : (text utf8 id : List ℕ) → IsBytes utf8 → IsBase64Url text utf8 → IsIdentifierCode text id → IsIdentifierText utf8 id
only text utf8 id bytes is code =
    subst (λ (u : List ℕ). IsIdentifierText u id) (coded_once text code.utf8 utf8 code.spells.are_bytes bytes code.coded is) code.spells

-- base64url of the UTF-8 of no identifier stands for none
pub none_coded : (text utf8 : List ℕ) → IsBytes utf8 → IsBase64Url text utf8 → (result : Result (Option (List ℕ)) NoMemory)
    → IfOk result (λ found. IfNone found ((id : List ℕ) → ¬ IsIdentifierText utf8 id))
    → IfOk result (λ found. IfNone found ((id : List ℕ) → ¬ IsIdentifierCode text id))
none_coded text utf8 bytes is (Ok None) none = λ id code. none id (only text utf8 id bytes is code)
none_coded text utf8 bytes is (Ok (Some id)) none = tt
none_coded text utf8 bytes is (Err e) none = tt
