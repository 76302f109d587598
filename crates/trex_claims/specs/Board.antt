-- The rule of a board, which holds between any two steps of its seats. Own.
-- Word 0 is the draw word. Each core has a slot, for its piece, and a turn word, which counts how often its piece was put back.
use Rattle.std.specs.Prelude.{◌≡◌, ◌≢◌, ℕ, ◌+◌, ◌*◌, ◌^◌, ◌<◌, ◌≤◌, List, length, slice_index, Bool, true, false, Option, None, Some, nat_lt, if◌then◌else◌}
use mathlib.Core.Option as maybe
use mathlib.Core.Option.{none, some}
use lib.ListN.{get_elem?}
use Rattle.atomic_table.specs.Table.{State}
use Rattle.trex_claims.specs.declared.view.Role.{Role}
use Rattle.trex_claims.specs.declared.view.Role.TheVariants.{First, Other, Spent}
use Rattle.trex_claims.specs.declared.view.CoreState.{CoreState}
use Rattle.trex_claims.specs.declared.view.Round.{Round}
use Rattle.trex_claims.specs.declared.view.View.{View}
use Rattle.trex_claims.specs.Views.{total, one_if, IsFirst, IsEmpty, IsFull, other, held, done, drawn, empty_draws, empty_draws_left, spent}

-- beside the first view, a view is that of a seat of the same round, or of one that was joined
abbrev pub FollowsAs : Role → View → View → Type 0
FollowsAs First first v = ⊥
FollowsAs Other first v = v.round ≡ first.round
FollowsAs Spent first v = v ≡ spent

-- the first seat has this view, and knows how many others there are
pub record Led (first : View) (views : List View) : Type 0 where
  pub leads : get_elem? views 0 ≡ some first
  pub is_first : IsFirst first.role
  pub follow : (i : ℕ) (v : View) → i ≢ 0 → get_elem? views i ≡ some v → FollowsAs v.role first v
  pub others : total other views ≡ first.seats_out

-- 1 for a number below the other, else 0
abbrev pub below : ℕ → ℕ → ℕ
below x n = if nat_lt x n then 1 else 0

-- the draw word of an open round: the numbers from the base to below it were drawn
pub record OpenDraws (r : Round) (saw_none : Bool) (word : ℕ) (views : List View) : Type 0 where
  pub base : r.base + 129 ≤ 129 * r.rounds
  -- each draw gave a core or None
  pub counted : word ≡ r.base + total drawn views + total empty_draws views
  pub few_empty_draws : total empty_draws views + total empty_draws_left views ≤ 65
  pub few_drawn : total drawn views ≤ length r.cores
  pub past : saw_none ≡ true → r.base + length r.cores ≤ word
  pub full : (c : ℕ) (t : CoreState) → get_elem? r.cores c ≡ some t → IsFull t.slot
  -- each core whose number is below the word is claimed or was put back, by one seat, once, and no other is
  pub once : (c : ℕ) → c < length r.cores → total (held c) views + total (done c) views ≡ below (r.base + c) word
  pub no_other : (c : ℕ) → length r.cores ≤ c → total (held c) views + total (done c) views ≡ 0

-- the draw word while no round is open
pub record ClosedDraws (r : Round) (seats_out word : ℕ) (views : List View) : Type 0 where
  pub word_below : word ≤ 129 * r.rounds
  pub alone : seats_out ≡ 0
  pub none_drawn : total drawn views ≡ 0
  pub none : (c : ℕ) → total (held c) views + total (done c) views ≡ 0

-- the draw word, by whether a round is open
abbrev pub DrawsHold : Bool → Round → Bool → ℕ → ℕ → List View → Type 0
DrawsHold true r saw_none seats_out word views = OpenDraws r saw_none word views
DrawsHold false r saw_none seats_out word views = ClosedDraws r seats_out word views

module _ {T : Type 0} (core turns : T → ℕ) (stem : T → List (List ℕ)) (settled : T → Type 0) where
  -- the piece is the one that is known of its core, after some turns more
  pub record IsPiece (c : ℕ) (t : CoreState) (more : ℕ) (piece : T) : Type 0 where
    pub core_is : core piece ≡ c
    pub turns_are : turns piece ≡ t.turns + more
    pub stem_is : stem piece ≡ t.stem
    pub settles : 1 ≤ more + one_if t.settled → settled piece

  -- a core's slot and turn word, where it is claimed so often and was put back so often in this round
  pub record SlotHolds (r : Round) (c : ℕ) (t : CoreState) (claims puts word : ℕ) (home : maybe.Option (maybe.Option (Option T))) : Type 0 where
    pub counted : word ≡ t.puts_before + puts
    pub bounded : t.puts_before + one_if r.running ≤ r.rounds
    -- where no seat claims the core, its piece is in the slot, with a turn for each time that it was put back
    pub there : IsFull t.slot → claims ≡ 0 → (piece : T) × (home ≡ some (some (Some piece))) × IsPiece c t puts piece
    pub away : 1 ≤ claims → home ≡ some none
    pub empty : IsEmpty t.slot → home ≡ some (some None)

  -- the words and the slots are as the first seat knows them
  pub record BoardHolds (r : Round) (saw_none : Bool) (seats_out : ℕ) (s : State (Option T) View) : Type 0 where
    pub words : length s.words ≡ length r.cores + 1
    pub homes : length s.homes ≡ length r.cores
    pub few : length r.cores ≤ 64
    pub rounds : r.rounds ≤ 2 ^ 40
    pub draws : DrawsHold r.running r saw_none seats_out (slice_index s.words 0) s.views
    pub slots_hold : (c : ℕ) (t : CoreState) → get_elem? r.cores c ≡ some t
        → SlotHolds r c t (total (held c) s.views) (total (done c) s.views) (slice_index s.words (c + 1)) (get_elem? s.homes c)

  -- The rule: some first view leads the others, and the words and the slots are as it knows them.
  abbrev pub Rule : State (Option T) View → Type 0
  Rule s = (first : View) × Led first s.views × BoardHolds first.round first.saw_none first.seats_out s
