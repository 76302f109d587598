use Rattle.std.proofs.Common.{◌≡◌, List, ℕ, arith, sym, ◌∙◌, subst}
use Rattle.trex_stamp.proofs.Headers.{last_bytes-spelled}
use Rattle.trex_stamp.specs.declared.header.Stamp.{Stamp}
use Rattle.trex_stamp.specs.declared.header.Version.TheVariants.{One, Two}
use Rattle.trex_stamp.specs.Stamp.{last_bytes, size_of, stamp_bytes}
use Rattle.trex_stamp.proofs.spelling.find_stamp.Goals as goal

-- the stamp that was found, as the header that it stands in
spells : List ℕ → Stamp → Type 0
spells b s = last_bytes (size_of s.version) b ≡ stamp_bytes s

pub returns-then-ends_in-clause-spelled : goal.returns-then-ends_in-clause-spelled
unfolding spells
returns-then-ends_in-clause-spelled c =
    let b = c.args.bytes.now in
    subst (spells b) (sym c.last_stamp.ensures) (last_bytes-spelled One b (λ i. omega (arith, c.type_inv.bytes i)) (sym c.ends_in.ensures ∙ c.if-ends_in.true))

pub returns-then-ends_in-2-clause-spelled : goal.returns-then-ends_in-2-clause-spelled
unfolding spells
returns-then-ends_in-2-clause-spelled c =
    let b = c.args.bytes.now in
    subst (spells b) (sym c.last_stamp-then-ends_in-2.ensures) (last_bytes-spelled Two b (λ i. omega (arith, c.type_inv.bytes i)) (sym c.ends_in-2.ensures ∙ c.if-ends_in-2.true))
