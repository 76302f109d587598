-- Number tokens put between quotes, outside JSON texts. The texts are those of RFC 8259, section 7; the rest is own.
use Rattle.std.specs.Prelude.{ℕ, zero, suc, ◌+◌, ◌==◌, ◌||◌, Bool, true, false, List, [], ◌∷◌, ◌++◌, codes, length, take, drop, take_while, if◌then◌else◌}
use Rattle.std.specs.List.{flat_map, list_any}
use Rattle.std.specs.Char.{is_ascii_digit}

-- whether a byte begins a number token: a digit or a minus sign
abbrev pub begins_token : ℕ → Bool
begins_token b = is_ascii_digit b || b == 45

-- whether a number token goes on over a byte
abbrev pub is_token_byte : ℕ → Bool
is_token_byte b = is_ascii_digit b || list_any (λ c. c == b) (codes "+-.eE")

-- how many bytes of a JSON text follow its opening quote: up to the next quote that isn't protected, or to the end.
-- A backslash protects the byte after it; the flag says whether the first byte is protected.
abbrev pub text_len : Bool → List ℕ → ℕ
text_len protected [] = 0
text_len true (b ∷ bs) = 1 + text_len false bs
text_len false (b ∷ bs) = if b == 34 then 1 else 1 + text_len (b == 92) bs

-- how many of the bytes bs belong to the piece that begins with the byte b before them: a JSON text, a number token, or b alone
abbrev pub rest_len : ℕ → List ℕ → ℕ
rest_len b bs = if b == 34 then text_len false bs else (if begins_token b then length (take_while is_token_byte bs) else 0)

-- the first n pieces, cut from the left
abbrev pub pieces_of : ℕ → List ℕ → List (List ℕ)
pieces_of zero bs = []
pieces_of (suc n) [] = []
pieces_of (suc n) (b ∷ bs) = (b ∷ take (rest_len b bs) bs) ∷ pieces_of n (drop (rest_len b bs) bs)

-- a piece as it is kept, a number token between quotes
abbrev pub kept : List ℕ → List ℕ
kept [] = []
kept (b ∷ bs) = if begins_token b then 34 ∷ b ∷ bs ++ 34 ∷ [] else b ∷ bs

-- a text with each number token between quotes: it has at most as many pieces as bytes
unfoldable pub quoted : List ℕ → List ℕ
quoted text = flat_map kept (pieces_of (length text) text)
