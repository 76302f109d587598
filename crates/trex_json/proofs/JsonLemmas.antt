-- What the reading of JSON says of what serde_json's calls promise.
use Rattle.std.proofs.Common.{◌≡◌, ℕ, Bool, true, false, List, [], ◌∷◌, Some, None, if◌then◌else◌, refl, ap}
use Rattle.std.specs.Str.{IsUtf8, is_utf8}
use Rattle.std.proofs.lemmas.Str.{IsUtf8-from_is_utf8, is_utf8-from_IsUtf8}
use Rattle.serde_json.specs.Data.{Data}
use Rattle.serde_json.specs.Read.{read}
use Rattle.serde_json.specs.View.{items_of}
use Rattle.trex_json.specs.Json.{value_of, list_of}

-- the list of the items that a list makes is that list
pub list_of-items_of : (ds : List Data) → list_of (items_of ds) ≡ ds
list_of-items_of [] = refl
list_of-items_of (d ∷ ds) = ap (λ rest. d ∷ rest) (list_of-items_of ds)

-- a text that is UTF-8 and has a reading
pub value_of-some : (b : List ℕ) (d : Data) → IsUtf8 b → read b ≡ Some d → value_of b ≡ Some d
value_of-some b d utf8 is = let test = is_utf8-from_IsUtf8 b utf8 in rw test is

-- a text that has no reading where it is UTF-8
pub value_of-none : (b : List ℕ) → (IsUtf8 b → read b ≡ None) → value_of b ≡ None
value_of-none b none = by_test (is_utf8 b) (λ test. none (IsUtf8-from_is_utf8 b test))
  where
    by_test : (test : Bool) → (test ≡ true → read b ≡ None) → (if test then read b else None) ≡ None
    by_test true is = is refl
    by_test false is = refl
