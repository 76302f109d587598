-- The groups of rules on a stream's values, and the one list that they make.
use Rattle.std.proofs.Common.{◌≡◌, nat_lt, ◌==◌, List, [], ◌∷◌, ◌++◌, length, Option, Some, None, refl, ◌∙◌}
use Rattle.trex_vm.specs.Rules.{no_room_for_stamp}
use Rattle.trex_profile.specs.declared.rule.Rule.TheVariants.{BadLength, RateZero, RateTooHigh, CountZero, NoRoomForStamp}
use Rattle.trex_profile.specs.Given.{givens}
use Rattle.trex_profile.specs.InstrRules.{name_rule, range_rule, unknown_rule, twice_rule, trim_rule, field_rule, room_rule, fix_rule, shape_rule, names_rules, length_rules, place_rules, does_rules}
use Rattle.trex_profile.specs.Order.{first, first_each}
use Rattle.trex_profile.specs.Packets.{variables, program, stamp_version}
use Rattle.trex_profile.specs.Refusal.{rule}
use Rattle.trex_profile.specs.Rules.{length_wrong, numerator, no_packets, steps, shortest, room, time_rules, value_rules, value_list}
use Rattle.trex_profile.specs.Stream.{Stream}

-- the first broken rule of rules and what follows
pub after : {E : Type 0} (xs ys zs : List (Option E)) → first ys ≡ first zs → first (xs ++ ys) ≡ first (xs ++ zs)
after [] ys zs same = same
after (None ∷ xs) ys zs same = after xs ys zs same
after (Some e ∷ xs) ys zs same = refl

-- the first broken rule of a group and what follows is that of one list
pub group : {E : Type 0} (xs ys zs : List (Option E)) → first ys ≡ first zs → first (first xs ∷ ys) ≡ first (xs ++ zs)
group [] ys zs same = same
group (None ∷ xs) ys zs same = group xs ys zs same
group (Some e ∷ xs) ys zs same = refl

-- the rules on a stream's values, in groups and in one list
pub value_rules-list : (s : Stream) → value_rules s ≡ first (value_list s)
unfolding time_rules names_rules length_rules place_rules does_rules value_rules
value_rules-list s =
    let times = rule BadLength (length_wrong s.template) ∷ rule RateZero (s.rate.value == 0) ∷ rule RateTooHigh (nat_lt (numerator s) s.rate.value) ∷ rule CountZero (no_packets s.mode) ∷ [] in
    let names = first_each (name_rule s.instrs) 0 s.instrs ∷ first_each (range_rule s.seed) 0 s.instrs ∷ first_each (unknown_rule s.template (givens 0 s.instrs)) 0 s.instrs ∷ [] in
    let lengths = first_each (twice_rule (steps s)) 0 (steps s) ∷ first_each (trim_rule (variables s) (length s.template)) 0 (steps s)
    ∷ rule NoRoomForStamp (no_room_for_stamp (shortest s) (stamp_version s)) ∷ [] in
    let places = first_each field_rule 0 (steps s) ∷ first_each (room_rule (room s)) 0 (steps s) ∷ first_each (fix_rule s.template (room s)) 0 (steps s) ∷ first_each (shape_rule (program s)) 0 (steps s) ∷ [] in
    group times _ _ (group names _ _ (group (first lengths ∷ first places ∷ []) [] [] refl ∙ group lengths _ _ (group places [] [] refl)))
