-- What callers of a board need of its words.
use Rattle.std.proofs.Common.{◌≡◌, ◌≢◌, ℕ, zero, suc, ◌+◌, ◌<◌, List, [], ◌∷◌, length, get_or, ap, ◌∙◌, arith, true, false, get_or-set_other}
use Rattle.trex_claims.specs.declared.view.CoreState.{CoreState}
use Rattle.trex_claims.specs.declared.view.View.{View}
use Rattle.trex_claims.specs.Views.{times}
use Rattle.trex_claims.specs.Moves.{vacant, state_at, turned_by, cores_after, round_closed_if, round_closed, with_core}

state_in : (puts : List ℕ) (c i : ℕ) (ts : List CoreState) → i < length ts → get_or (cores_after puts c ts) i vacant ≡ turned_by (times (c + i) puts) (get_or ts i vacant)
state_in puts c i [] h = absurd (omega arith)
state_in puts c zero (t ∷ ts) h = let z : c ≡ c + 0 = omega arith in ap (λ n. turned_by (times n puts) t) z
state_in puts c (suc i) (t ∷ ts) h =
    let z : c + 1 + i ≡ c + suc i = omega arith in
    state_in puts (c + 1) i ts (omega arith) ∙ ap (λ n. turned_by (times n puts) (get_or ts i vacant)) z

-- what is known of a core after the end of a round
pub state_closed : (v : View) (c : ℕ) → v.round.running ≡ true → c < length v.round.cores → state_at (round_closed v) c ≡ turned_by (times c v.done) (state_at v c)
state_closed v c running below =
    let z : 0 + c ≡ c = omega arith in
    ap (λ b. state_at (round_closed_if b v) c) running ∙ state_in v.done 0 c v.round.cores below ∙ ap (λ n. turned_by (times n v.done) (state_at v c)) z

-- where none is open, nothing changes
pub closed_still : (v : View) → v.round.running ≡ false → round_closed v ≡ v
closed_still v off = ap (λ b. round_closed_if b v) off

pub state_elsewhere : (v : View) (c k : ℕ) (t : CoreState) → k ≢ c → state_at (with_core v c t) k ≡ state_at v k
state_elsewhere v c k t apart = get_or-set_other v.round.cores c k t vacant apart
