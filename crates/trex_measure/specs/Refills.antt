-- What a read behind bytes that are there does. Own.
use Rattle.std.specs.Prelude.{◌≡◌, ℕ, List, ◌++◌, length, Option}
use Rattle.std.specs.Io.KnownBytes.{Consumes, IsAtEnd}

-- a read put the next n bytes of a source behind the bytes before; none came only at the source's end
pub record Refills (left rest : Option (List ℕ)) (before after : List ℕ) (n : ℕ) : Type 0 where
  pub given : List ℕ
  pub behind : after ≡ before ++ given
  pub count : length given ≡ n
  pub taken : Consumes left rest given
  pub end : n ≡ 0 → IsAtEnd rest
