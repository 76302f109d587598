use Rattle.std.proofs.Common.{◌≡◌, ◌-◌, ◌++◌, ◌≤◌, ℕ, List, Option, Some, length, take, sym, ap, ◌∙◌, arith}
use Rattle.trex_stamp.specs.declared.header.Stamp.{Stamp}
use Rattle.trex_stamp.specs.Stamp.{size_of, stamp_bytes}
use Rattle.trex_stamp.proofs.StampLemmas.{length-stamp_bytes}
use Rattle.trex_vm.specs.Packet.{stamped, version_of}
use Rattle.trex_vm.specs.Rules.{header_size}
use Rattle.trex_vm.proofs.Stamped.{put-end}
use Rattle.trex_vm.proofs.run.write_header.Goals as goal

-- bytes whose last ones were replaced by a header are stamped
written : (s : Stamp) (stamp : Option Stamp) (bytes new : List ℕ) → stamp ≡ Some s → header_size (version_of stamp) ≤ length bytes
    → new ≡ take (length bytes - size_of s.version) bytes ++ stamp_bytes s → new ≡ stamped stamp bytes
written s stamp bytes new is long writes =
    let wide : size_of s.version ≤ length bytes = omega (arith, long, ap (λ (o : Option Stamp). header_size (version_of o)) is) in
    writes ∙ sym (put-end (length bytes - size_of s.version) (stamp_bytes s) bytes (omega (arith, length-stamp_bytes s)))
    ∙ ap (λ (o : Option Stamp). stamped o bytes) (sym is)

pub returns-in-Some : goal.returns-in-Some
returns-in-Some c = written c.in-Some.stamp c.args.stamp c.args.bytes.now _ c.in-Some.is c.requires.stamp c.write_stamp.ensures
