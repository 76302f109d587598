-- Sums that fold to one checksum.
use Rattle.std.specs.Prelude.{◌≡◌, ℕ, ◌+◌, ◌*◌}

-- A number that leaves by 65535 what a sum leaves, and is zero where the sum is, so that both have one fold (RFC 1071, section 2).
pub record FoldsAs (sum number : ℕ) : Type 0 where
  pub extra : ℕ
  pub is : number ≡ sum + 65535 * extra
  pub zero : sum ≡ 0 → extra ≡ 0
