-- Identifiers as segments of a path: base64url of their UTF-8 (IDTA-01002-3-0, HTTP/REST API, identifiers in paths; RFC 4648, section 5),
-- percent-coded where need be (RFC 3986, section 2.1); and as cursors. That all of the padding stands in a segment or none, that a cursor
-- has none, and the length of an identifier, are this profile's own rules.
use Rattle.std.specs.Prelude.{◌≡◌, ◌⊎◌, ℕ, List}
use Rattle.std.specs.Str.{IsUtf8, chars}
use Rattle.base64.specs.Engines.{url_safe, url_safe_no_pad}
use Rattle.base64.specs.GeneralPurpose.{encode_of, IsBytes}
use Rattle.percent_encoding.specs.Percent.{percent_decode}
use Rattle.aas_lexical.specs.Names.{IsIdentifier}

-- the text is base64url of the bytes, with all its padding or with none
abbrev pub IsBase64Url : List ℕ → List ℕ → Type 0
IsBase64Url text bytes = (text ≡ encode_of url_safe_no_pad bytes) ⊎ (text ≡ encode_of url_safe bytes)

-- the bytes are the UTF-8 of an identifier, which is given by its characters
pub record IsIdentifierText (utf8 id : List ℕ) : Type 0 where
  pub are_bytes : IsBytes utf8
  pub text : IsUtf8 utf8
  pub characters : id ≡ chars utf8
  pub form : IsIdentifier id

-- the text is base64url of the identifier
pub record IsIdentifierCode (text id : List ℕ) : Type 0 where
  pub utf8 : List ℕ
  pub coded : IsBase64Url text utf8
  pub spells : IsIdentifierText utf8 id

-- the segment, as it is sent, stands for the identifier
abbrev pub StandsFor : List ℕ → List ℕ → Type 0
StandsFor segment id = IsIdentifierCode (percent_decode segment) id

-- the cursor tells the identifier
pub record IsCursor (cursor id : List ℕ) : Type 0 where
  pub utf8 : List ℕ
  pub coded : cursor ≡ encode_of url_safe_no_pad utf8
  pub spells : IsIdentifierText utf8 id
