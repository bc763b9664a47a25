-- The value that bytes have.
use Rattle.std.proofs.Common.{◌≡◌, ℕ, List, Bool, true, false, if◌then◌else◌, Option, None, Some, refl}
use Rattle.std.proofs.lemmas.Str.{is_utf8-from_IsUtf8, IsUtf8-from_is_utf8}
use Rattle.std.specs.Option.{option_map}
use Rattle.std.specs.Str.{IsUtf8, is_utf8}
use Rattle.serde_json.specs.Data.{Data}
use Rattle.serde_json.specs.Read.{read}
use Rattle.exec_doc.specs.Refusals.{document_value}

pub has_value : (bytes : List ℕ) (value : Data) → IsUtf8 bytes → read bytes ≡ Some value → document_value bytes ≡ Some value
has_value bytes value utf8 is = rw (is_utf8-from_IsUtf8 bytes utf8) is

none_by : (b : Bool) (found : Option Data) → (b ≡ true → found ≡ None) → (if b then found else None) ≡ None
none_by true found none = none refl
none_by false found none = refl

pub has_none : (bytes : List ℕ) → (IsUtf8 bytes → read bytes ≡ None) → document_value bytes ≡ None
has_none bytes none = none_by (is_utf8 bytes) (read bytes) (λ utf8. none (IsUtf8-from_is_utf8 bytes utf8))

-- nothing is made of what isn't there
pub none_made : {A B : Type 0} (f : A → B) (found : Option A) → ((a : A) × (found ≡ Some a) → false ≡ true) → option_map f found ≡ None
none_made f None never = refl
none_made f (Some a) never = let e = never (a, refl) in absurd cc
