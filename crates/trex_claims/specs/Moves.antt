-- What a seat knows after each of its steps. Own.
use Rattle.std.specs.Prelude.{◌≡◌, ℕ, zero, suc, ◌+◌, ◌-◌, ◌<◌, ◌≤◌, ◌^◌, List, [], ◌∷◌, ◌++◌, length, replicate, slice_set, slice_index_or, Bool, true, false, Option, None, Some}
use Rattle.atomic_table.specs.Table.{Me, rest}
use Rattle.trex_claims.specs.declared.view.Role.{Role}
use Rattle.trex_claims.specs.declared.view.Role.TheVariants.{First, Other}
use Rattle.trex_claims.specs.declared.view.SlotState.{SlotState}
use Rattle.trex_claims.specs.declared.view.SlotState.TheVariants.{Empty, Out, Full}
use Rattle.trex_claims.specs.declared.view.CoreState.{CoreState}
use Rattle.trex_claims.specs.declared.view.Round.{Round}
use Rattle.trex_claims.specs.declared.view.View.{View}
use Rattle.trex_claims.specs.Views.{times, no_round}
use Rattle.trex_claims.specs.Board.{IsPiece, below}

-- an empty slot of a core whose piece was never put back
abbrev pub vacant : CoreState
vacant = record { slot = Empty; turns = 0; stem = []; settled = false; puts_before = 0 }

-- a seat that drew nothing yet, and off which so many seats may be split
abbrev pub fresh_view : Role → Round → ℕ → View
fresh_view role round seats = record { role = role; round = round; claim = []; done = []; saw_none = false; empty_draws = 0; seats_left = seats; seats_out = 0 }

-- the first seat of a new board
abbrev pub opening_view : ℕ → View
opening_view cores = fresh_view First (no_round (replicate cores vacant)) 0

-- what is known of a core
abbrev pub state_at : View → ℕ → CoreState
state_at v core = slice_index_or v.round.cores core vacant

-- the seat claims nothing, and no slot is out with it
abbrev pub HoldsNone : {T : Type 0} → Me (Option T) View → Type 0
HoldsNone me = (me.0.claim ≡ []) × (me.1 ≡ [])

-- a round opens at the number found in the draw word
abbrev pub round_opened : View → ℕ → View
round_opened v found = fresh_view v.role (record { running = true; base = found; rounds = v.round.rounds + 1; cores = v.round.cores }) 64

-- the seat draws the number of a core, and claims it
abbrev pub after_claim : View → ℕ → View
after_claim v core = record v { claim = core ∷ [] }

-- the seat draws a number that is past the last core
abbrev pub after_empty_draw : View → View
after_empty_draw v = record v { saw_none = true; empty_draws = v.empty_draws + 1 }

-- a seat is split off it
abbrev pub after_split : View → View
after_split v = record v { seats_left = v.seats_left - 1; seats_out = v.seats_out + 1 }

-- the seat that is split off
abbrev pub split_seat : View → View
split_seat v = fresh_view Other v.round 0

-- another seat is joined to it
abbrev pub after_join : View → View → View
after_join v w = record v { done = w.done ++ v.done; empty_draws = v.empty_draws + w.empty_draws; seats_out = v.seats_out - 1 }

-- the core that it claims is put back
abbrev pub after_put : View → View
after_put v = record v { claim = []; done = v.claim ++ v.done }

-- a core whose piece was put back so often, each time after a turn
abbrev pub turned_by : ℕ → CoreState → CoreState
turned_by zero t = t
turned_by (suc n) t = record { slot = t.slot; turns = t.turns + suc n; stem = t.stem; settled = true; puts_before = t.puts_before + suc n }

-- the cores from this one on, after a round in which these were put back
abbrev pub cores_after : List ℕ → ℕ → List CoreState → List CoreState
cores_after done core [] = []
cores_after done core (t ∷ ts) = turned_by (times core done) t ∷ cores_after done (core + 1) ts

-- the round ends, where it is said to be open
abbrev pub round_closed_if : Bool → View → View
round_closed_if false v = v
round_closed_if true v = fresh_view v.role (record { running = false; base = v.round.base; rounds = v.round.rounds; cores = cores_after v.done 0 v.round.cores }) 0

-- the round ends, where one is open
abbrev pub round_closed : View → View
round_closed v = round_closed_if v.round.running v

-- with this known of a core
abbrev pub with_core : View → ℕ → CoreState → View
with_core v core t = record v { round = record v.round { cores = slice_set v.round.cores core t } }

-- the slot is out with the first seat
abbrev pub out : CoreState → CoreState
out t = record t { slot = Out }

-- what a slot holds is as it is known
abbrev pub FitsAs : {T : Type 0} → (T → ℕ) → (T → ℕ) → (T → List (List ℕ)) → (T → Type 0) → SlotState → ℕ → CoreState → Option T → Type 0
FitsAs core turns stem settled Empty c t slot = slot ≡ None
FitsAs core turns stem settled Out c t slot = ⊥
FitsAs {T = T} core turns stem settled Full c t slot = (piece : T) × (slot ≡ Some piece) × IsPiece core turns stem settled c t 0 piece

-- the slot is empty
abbrev pub emptied : CoreState → CoreState
emptied t = record t { slot = Empty }

-- the slot holds a piece of so many turns and this stem
abbrev pub filled : CoreState → ℕ → List (List ℕ) → CoreState
filled t turns stem = record { slot = Full; turns = turns; stem = stem; settled = false; puts_before = t.puts_before }

module _ {T : Type 0} (core turns : T → ℕ) (stem : T → List (List ℕ)) (settled : T → Type 0) where
  -- the core is drawn: the seat claims it, and its piece is out with the seat
  pub record DrewCore (slots c : ℕ) (before after : Me (Option T) View) : Type 0 where
    pub few : length before.0.done < slots
    pub piece : T
    pub is_piece : IsPiece core turns stem settled c (state_at before.0 c) 0 piece
    pub seat : after ≡ (after_claim before.0 c, (c, Some piece) ∷ before.1)

  -- a draw that found this number in the draw word
  pub record Drew (slots : ℕ) (before : Me (Option T) View) (found : ℕ) (after : Me (Option T) View) : Type 0 where
    pub base : before.0.round.base ≤ found
    pub small : found < 2 ^ 48
    pub core_left : found < before.0.round.base + slots → DrewCore slots (found - before.0.round.base) before after
    pub none_left : before.0.round.base + slots ≤ found → after ≡ (after_empty_draw before.0, before.1)

  -- the first seat took the slot of a core, and the round ended, if one was open
  pub record TookSlot (slots c : ℕ) (before after : Me (Option T) View) : Type 0 where
    pub cores : length before.0.round.cores ≡ slots
    -- where it saw None, each core was put back once, and nothing else
    pub each_once : before.0.round.running ≡ true → before.0.saw_none ≡ true → (x : ℕ) → times x before.0.done ≡ below x slots
    pub slot : Option T
    pub fits : FitsAs core turns stem settled (state_at (round_closed before.0) c).slot c (state_at (round_closed before.0) c) slot
    pub seat : after ≡ (with_core (round_closed before.0) c (out (state_at (round_closed before.0) c)), (c, slot) ∷ before.1)

  -- what is known of a core when what a seat has out of its slot goes back there
  abbrev pub with_slot : CoreState → List (ℕ × Option T) → CoreState
  with_slot t [] = t
  with_slot t ((c, None) ∷ slots) = emptied t
  with_slot t ((c, Some piece) ∷ slots) = filled t (turns piece) (stem piece)

  -- the first seat gave back the slot of a core
  abbrev pub ReturnedSlot : ℕ → Me (Option T) View → Me (Option T) View → Type 0
  ReturnedSlot c before after = after ≡ (with_core before.0 c (with_slot (state_at before.0 c) before.1), rest before.1)

module _ {T : Type 0} where
  -- a round was opened at the number found
  pub record Began (before : Me (Option T) View) (found : ℕ) (after : Me (Option T) View) : Type 0 where
    pub small : found < 2 ^ 48
    pub seat : after ≡ (round_opened before.0 found, before.1)

  -- the seat put back the core that it claimed
  abbrev pub PutBack : Me (Option T) View → Me (Option T) View → Type 0
  PutBack before after = after ≡ (after_put before.0, rest before.1)
