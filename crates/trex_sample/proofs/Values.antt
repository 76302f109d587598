-- A stream of the sample breaks no rule on its values.
use Rattle.std.proofs.Common.{◌≡◌, ℕ, ◌+◌, ◌-◌, ◌*◌, ◌%◌, ◌^◌, ◌==◌, ◌≤◌, Bool, true, false, nat_le, nat_lt, List, length, None, refl, arith}
use Rattle.std.proofs.lemmas.Bool.Decides.{nat_tests}
use Rattle.trex_layers.specs.declared.sizes.TheConstants.{LONGEST_PACKET}
use Rattle.trex_profile.specs.InstrRules.{names_rules, length_rules, place_rules, does_rules}
use Rattle.trex_profile.specs.Rules.{no_packets, length_wrong, numerator, time_rules, value_rules}
use Rattle.trex_profile.specs.Steps.{variables_from, steps_of}
use Rattle.trex_profile.specs.Stream.{Stream}
use Rattle.trex_sample.specs.Template.{template}
use Rattle.trex_sample.specs.Sampled.{word, mode_by, instructions, sampled_stream}
use Rattle.trex_sample.proofs.Headers.{IsHeaded, template-headed}

-- each burst has packets
some-packets : (kind size : ℕ) → no_packets (mode_by kind size) ≡ false
some-packets kind size = by_tests (kind % 3 == 0) (kind % 3 == 1) refl refl
  where
    by_tests : (first second : Bool) → (kind % 3 == 0) ≡ first → (kind % 3 == 1) ≡ second → no_packets (mode_by kind size) ≡ false
    by_tests true second is other = rw is
    by_tests false true is other = rw is (rw other (grind (arith, nat_tests)))
    by_tests false false is other = rw is (rw other (grind (arith, nat_tests)))

-- no rule on the names of the sample's instructions is broken
names-kept : (bytes : List ℕ) (seed : ℕ) → names_rules bytes seed instructions ≡ None
unfolding names_rules
names-kept bytes seed = refl

-- no rule on what they do is broken, where the template has the headers
does-kept : (seed : ℕ) (bytes : List ℕ) → IsHeaded bytes
    → does_rules (variables_from seed 0 instructions) bytes None (steps_of bytes instructions) ≡ None
unfolding does_rules length_rules place_rules
does-kept seed bytes headed =
    let long : 42 ≤ length bytes = headed.long in
    let address : nat_lt (length bytes) 30 ≡ false = grind (arith, nat_tests) in
    let port : nat_lt (length bytes) 36 ≡ false = grind (arith, nat_tests) in
    let header : nat_le 34 (length bytes) ≡ true = grind (arith, nat_tests) in
    let segment : nat_le 42 (length bytes) ≡ true = grind (arith, nat_tests) in
    let room : length bytes - 0 ≡ length bytes = omega arith in
    simp (room, address, port, header, segment, headed.version, headed.protocol)

-- no rule on times is broken
times-kept : (s : Stream) → length_wrong s.template ≡ false → (s.rate.value == 0) ≡ false → nat_lt (numerator s) s.rate.value ≡ false → no_packets s.mode ≡ false
    → time_rules s ≡ None
unfolding time_rules
times-kept s length_right positive slow some = rw length_right (rw positive (rw slow (rw some)))

right-length : (bytes : List ℕ) → IsHeaded bytes → length_wrong bytes ≡ false
right-length bytes headed =
    let long : 42 ≤ length bytes = headed.long in
    let short : length bytes ≤ LONGEST_PACKET = headed.short in
    let not_short : nat_lt (length bytes) 14 ≡ false = grind (arith, nat_tests) in
    let not_long : nat_lt LONGEST_PACKET (length bytes) ≡ false = grind (arith, nat_tests) in
    rw not_short not_long

positive : (n : ℕ) → ((1 + n % 1000000) * 10 ^ 6 == 0) ≡ false
positive n = grind (arith, nat_tests)

slow : (n : ℕ) → nat_lt (10 ^ 15) ((1 + n % 1000000) * 10 ^ 6) ≡ false
slow n = grind (arith, nat_tests)

-- no rule on values is broken
pub values-kept : (seed j : ℕ) → value_rules (sampled_stream seed j) ≡ None
unfolding value_rules
values-kept seed j =
    let pad = 18 + word seed (4 * j) % 1001 in
    let headed : IsHeaded (template pad) = template-headed pad (omega arith) in
    let times : time_rules (sampled_stream seed j) ≡ None =
    times-kept (sampled_stream seed j) (right-length (template pad) headed) (positive (word seed (4 * j + 3))) (slow (word seed (4 * j + 3)))
    (some-packets (word seed (4 * j + 1)) (word seed (4 * j + 2))) in
    let names : names_rules (template pad) j instructions ≡ None = names-kept (template pad) j in
    let does = does-kept j (template pad) headed in
    rw times (rw names (rw does))
