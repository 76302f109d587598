use Rattle.std.proofs.Common.{◌≡◌, ℕ, ◌+◌, ◌∙◌, sym, ap}
use Rattle.std.specs.Prelude.{Some}
use Rattle.trex_vars.specs.Registers.{draw_at}
use Rattle.trex_vars.specs.Variable.{variable_of}
use Rattle.trex_vars.proofs.RegisterTurns.{draw-on, turned-on}
use Rattle.trex_vars.proofs.strided.Strided.step.Goals as goal
use Rattle.trex_vars.proofs.strided.Strided.step.Goals.{in-Turning, in-Drawn}

pub invariant_of-self : goal.invariant_of-self
invariant_of-self c =
    let s = c.self.inside in
    let variable = variable_of s.spec.now in
    let at = c.self.invariant in
    let later = s.number + c.from.result in
    let on : later ≡ s.number + s.cores = ap (λ (k : ℕ). s.number + k) c.from.ensures in
    elim c.match-self.branch [
      | in-Turning w ↦
          let stands = rw w.in-Turning.is at at.stands in
          let turn = w.turn.ensures in
          rw w.self-inside-is (record {
            sound = at.sound;
            stands = turned-on variable s.cores s.number later w.in-Turning.wheel w.turn.new.self stands on turn.place turn.stride turn.last;
          })
      | in-Drawn w ↦
          let stands = rw w.in-Drawn.is at at.stands in
          let drawn : draw_at variable later ≡ Some w.go_to.new.self =
          draw-on variable s.number later w.word_number.result w.in-Drawn.words stands.0 w.word_number.ensures ∙ ap Some (sym w.go_to.ensures) in
          rw w.self-inside-is (record { sound = at.sound; stands = (drawn, stands.1) })
    ]
