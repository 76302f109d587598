use Rattle.std.proofs.Common.{◌≡◌, true, ℕ, List, Option, None, length, map, ap, sym, ◌∙◌}
use Rattle.trex_stamp.specs.declared.header.Version.{Version}
use Rattle.trex_vars.specs.Variable.{Variable, variable_of}
use Rattle.trex_vm.specs.declared.instr.Instr.{Instr}
use Rattle.trex_vm.specs.Rules.{accepts, least_length, room_of}
use Rattle.trex_profile.specs.declared.instructions.steps.Step.{Step}
use Rattle.trex_profile.specs.InstrRules.{length_rules, place_rules}
use Rattle.trex_profile.specs.Steps.{program_of}
use Rattle.trex_profile.proofs.Accepted.{accepted, room-within}
use Rattle.trex_profile.proofs.instructions.program.program_for.Goals as goal

-- the room that was found is that of the program
room-is : (vars : List Variable) (whole : ℕ) (stamp : Option Version) (instrs program : List Instr) (least room : ℕ) → room ≡ room_of least stamp
    → least ≡ least_length vars instrs whole → instrs ≡ program → room ≡ room_of (least_length vars program whole) stamp
room-is vars whole stamp instrs program least room is found same =
    is ∙ ap (λ n. room_of n stamp) (found ∙ ap (λ xs. least_length vars xs whole) same)

-- the program is accepted where no rule is broken, with the room that was found
kept : (vars : List Variable) (template : List ℕ) (stamp : Option Version) (steps : List Step) (instrs : List Instr) (least room : ℕ) → None ≡ length_rules vars (length template) stamp steps
    → room ≡ room_of least stamp → least ≡ least_length vars instrs (length template) → instrs ≡ program_of steps → None ≡ place_rules template room steps
    → accepts vars template stamp (program_of steps) ≡ true
kept vars template stamp steps instrs least room lengths is found same places =
    accepted vars template stamp steps (sym lengths)
    (ap (λ n. place_rules template n steps) (sym (room-is vars (length template) stamp instrs (program_of steps) least room is found same)) ∙ sym places)

pub place_breach-requires-clause-within : goal.place_breach-requires-clause-within
place_breach-requires-clause-within c =
    let vars = map variable_of c.args.vars.now in
    let whole = length c.args.template.now in
    let program = program_of c.args.steps.now in
    let lengths : length_rules vars whole c.args.stamp c.args.steps.now ≡ None = sym c.length_breach.ensures ∙ c.in_default.is in
    let room = room-is vars whole c.args.stamp _ program _ c.room_of-room.result c.room_of-room.ensures c.least_length.ensures (c.deref-2.ensures.value ∙ c.in_ok-instrs.ensures) in
    rw room (room-within vars whole c.args.stamp c.args.steps.now c.requires.sound c.requires.operands.operands lengths)

pub of_accepted-requires-clause-accepted : goal.of_accepted-requires-clause-accepted
of_accepted-requires-clause-accepted c =
    let vars = map variable_of c.args.vars.now in
    ap (accepts vars c.args.template.now c.args.stamp) c.in_ok-instrs.ensures
    ∙ kept vars c.args.template.now c.args.stamp c.args.steps.now _ _ c.room_of-room.result (sym c.in_default.is ∙ c.length_breach.ensures)
    c.room_of-room.ensures c.least_length.ensures (c.deref-2.ensures.value ∙ c.in_ok-instrs.ensures) (sym c.in_default-place_breach.is ∙ c.place_breach.ensures)

pub returns-clause-accepts : goal.returns-clause-accepts
returns-clause-accepts c =
    kept (map variable_of c.args.vars.now) c.args.template.now c.args.stamp c.args.steps.now _ _ c.room_of-room.result (sym c.in_default.is ∙ c.length_breach.ensures)
    c.room_of-room.ensures c.least_length.ensures (c.deref-2.ensures.value ∙ c.in_ok-instrs.ensures) (sym c.in_default-place_breach.is ∙ c.place_breach.ensures)
