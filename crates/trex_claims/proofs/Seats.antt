-- The first view, and how the others follow it.
use Rattle.std.proofs.Common.{◌≡◌, ◌≢◌, ℕ, List, [], ◌∷◌, ◌++◌, set, refl, sym, ap, subst, ◌∙◌, ⊎_elim, arith}
use mathlib.Core.Logic.{dite}
use native.Mathlib.Decide.{ℕ_discrete}
use mathlib.Core.Option.{some, some-injective}
use lib.ListN.{get_elem?}
use Rattle.atomic_table.proofs.Lists.{at_set, set_here, set_else, at_snoc, at_longer}
use Rattle.trex_claims.specs.declared.view.Role.{Role}
use Rattle.trex_claims.specs.declared.view.Role.TheVariants.{First, Other, Spent}
use Rattle.trex_claims.specs.declared.view.View.{View}
use Rattle.trex_claims.specs.Views.{total, IsFirst, IsOther, other, other_by, spent}
use Rattle.trex_claims.specs.Board.{FollowsAs, Led}
use Rattle.trex_claims.specs.Moves.{after_split, split_seat, after_join}
use Rattle.trex_claims.proofs.TotalLemmas.{total_set, total_snoc, total_first, part, within}

first_alone : (r : Role) (a v : View) → IsFirst r → FollowsAs r a v → ⊥
first_alone First a v i f = f
first_alone Other a v i f = i
first_alone Spent a v i f = i

unspent_follows : (r : Role) (a v : View) → (v ≡ spent → ⊥) → FollowsAs r a v → v.round ≡ a.round
unspent_follows First a v n f = absurd f
unspent_follows Other a v n f = f
unspent_follows Spent a v n f = absurd (n f)

-- beside a first view of the same round
follows_along : (r : Role) (a b v : View) → b.round ≡ a.round → FollowsAs r a v → FollowsAs r b v
follows_along First a b v e f = f
follows_along Other a b v e f = f ∙ sym e
follows_along Spent a b v e f = f

-- beside any first view, where no seat is out
follows_alone : (r : Role) (a b v : View) → v.role ≡ r → other v ≡ 0 → FollowsAs r a v → FollowsAs r b v
follows_alone First a b v e o f = f
follows_alone Other a b v e o f = let one : other v ≡ 1 = ap other_by e in absurd (omega arith)
follows_alone Spent a b v e o f = f

-- a seat that stays of its round
stays : (r : Role) (a v w : View) → (v ≡ spent → ⊥) → w.round ≡ v.round → FollowsAs r a v → FollowsAs r a w
stays First a v w n e f = f
stays Other a v w n e f = e ∙ f
stays Spent a v w n e f = absurd (n f)

nothing : (f : View → ℕ) (r : Role) (a v : View) → v.role ≡ r → f spent ≡ 0 → other v ≡ 0 → FollowsAs r a v → f v ≡ 0
nothing f First a v e z o h = absurd h
nothing f Other a v e z o h = let one : other v ≡ 1 = ap other_by e in absurd (omega arith)
nothing f Spent a v e z o h = ap f h ∙ z

other_of : (r : Role) → IsFirst r → other_by r ≡ 0
other_of First h = refl
other_of Other h = absurd h
other_of Spent h = absurd h

pub one_of : (r : Role) → IsOther r → other_by r ≡ 1
one_of First h = absurd h
one_of Other h = refl
one_of Spent h = absurd h

module _ (a : View) (l : List View) (led : Led a l) where
  -- where no seat is out, a sum is the first view's part
  pub sole : (f : View → ℕ) → f spent ≡ 0 → a.seats_out ≡ 0 → total f l ≡ f a
  sole f z alone =
      total_first f l a led.leads
      (λ i v n e.
      let one = part other l i v e in
      let all = led.others in
      nothing f v.role a v refl z (omega arith) (led.follow i v n e))

  module _ (id : ℕ) (v : View) (at : get_elem? l id ≡ some v) where
    pub is_lead : IsFirst v.role → (id ≡ 0) × (a ≡ v)
    is_lead is_first =
        dite (ℕ_discrete id 0) (λ z. (z, some-injective a v (sym led.leads ∙ ap (get_elem? l) (sym z) ∙ at)))
        (λ n. absurd (first_alone v.role a v is_first (led.follow id v n at)))

    lead_here : id ≡ 0 → a ≡ v
    lead_here z = some-injective a v (sym led.leads ∙ ap (get_elem? l) (sym z) ∙ at)

    -- each seat knows the round
    pub knows : (v ≡ spent → ⊥) → v.round ≡ a.round
    knows unspent =
        dite (ℕ_discrete id 0) (λ z. ap (λ (u : View). u.round) (sym (lead_here z)))
        (λ n. unspent_follows v.role a v unspent (led.follow id v n at))

    -- a step of any seat that keeps role, round and the count of seats
    pub leads_on : (w : View) → (v ≡ spent → ⊥) → w.role ≡ v.role → w.round ≡ v.round → w.seats_out ≡ v.seats_out
        → (b : View) × Led b (set l id w) × (b.round ≡ a.round) × (b.seats_out ≡ a.seats_out) × (w.saw_none ≡ v.saw_none → b.saw_none ≡ a.saw_none)
    leads_on w unspent role round seats_out =
        let s = total_set other l id v w at in
        let o : other w ≡ other v = ap other_by role in
        let all = led.others in
        dite (ℕ_discrete id 0)
        (λ z.
        let is = lead_here z in
        let same : w.round ≡ a.round = round ∙ ap (λ (u : View). u.round) (sym is) in
        let seats_out_are : w.seats_out ≡ a.seats_out = seats_out ∙ ap (λ (u : View). u.seats_out) (sym is) in (
          w,
          record {
            leads = ap (get_elem? (set l id w)) (sym z) ∙ set_here l id w (within l id v at);
            is_first = subst IsFirst (ap (λ (u : View). u.role) is ∙ sym role) led.is_first;
            follow = λ i u n e.
                let here : i ≢ id = λ q. n (q ∙ z) in
                follows_along u.role a w u same (led.follow i u n (sym (set_else l id i w here) ∙ e));
            others = let t : total other (set l id w) ≡ total other l = omega arith in t ∙ all ∙ sym seats_out_are;
          },
          same,
          seats_out_are,
          λ saw_none. saw_none ∙ ap (λ (u : View). u.saw_none) (sym is),
        ))
        (λ z.
        let mine = led.follow id v z at in (
          a,
          record {
            leads = set_else l id 0 w (λ q. z (sym q)) ∙ led.leads;
            is_first = led.is_first;
            follow = λ i u n e.
                ⊎_elim
                (λ t.
                let this : FollowsAs w.role a w = subst (λ r. FollowsAs r a w) (sym role) (stays v.role a v w unspent round mine) in
                subst (λ (x : View). FollowsAs x.role a x) t.1 this)
                (λ t. led.follow i u n t.1)
                (at_set l id i w u e);
            others = let t : total other (set l id w) ≡ total other l = omega arith in t ∙ all;
          },
          refl,
          refl,
          λ _. refl,
        ))

-- a step of the first seat while no other is out
pub leads_alone : (v w : View) (l : List View) → Led v l → v.seats_out ≡ 0 → IsFirst w.role → w.seats_out ≡ 0 → Led w (set l 0 w)
leads_alone v w l led alone is_first seats_out =
    let s = total_set other l 0 v w led.leads in
    let o : other v ≡ 0 = other_of v.role led.is_first in
    let p : other w ≡ 0 = other_of w.role is_first in
    let all = led.others in
    record {
      leads = set_here l 0 w (within l 0 v led.leads);
      is_first = is_first;
      follow = λ i u n e.
          let there = sym (set_else l 0 i w n) ∙ e in
          let one = part other l i u there in
          follows_alone u.role v w u refl (omega arith) (led.follow i u n there);
      others = omega arith;
    }

-- a seat is split off the first one
pub leads_split : (v : View) (l : List View) → Led v l → Led (after_split v) (set l 0 (after_split v) ++ split_seat v ∷ [])
leads_split v l led =
    let w = after_split v in
    let s = total_set other l 0 v w led.leads in
    let t = total_snoc other (set l 0 w) (split_seat v) in
    let all = led.others in
    record {
      leads = at_longer (set l 0 w) (split_seat v ∷ []) 0 w (set_here l 0 w (within l 0 v led.leads));
      is_first = led.is_first;
      follow = λ i u n e.
          ⊎_elim
          (λ q. follows_along u.role v w u refl (led.follow i u n (sym (set_else l 0 i w n) ∙ q)))
          (λ q. subst (λ (x : View). FollowsAs x.role w x) q refl)
          (at_snoc (set l 0 w) (split_seat v) u i e);
      others = omega arith;
    }

-- another seat is joined to the first one
pub leads_join : (v u : View) (l : List View) (j : ℕ) → Led v l → j ≢ 0 → get_elem? (set l 0 (after_join v u)) j ≡ some u → IsOther u.role
    → Led (after_join v u) (set (set l 0 (after_join v u)) j spent)
leads_join v u l j led n at is_other =
    let w = after_join v u in
    let m = set l 0 w in
    let s = total_set other l 0 v w led.leads in
    let t = total_set other m j u spent at in
    let o : other u ≡ 1 = one_of u.role is_other in
    let all = led.others in
    let was = part other l j u (sym (set_else l 0 j w n) ∙ at) in
    record {
      leads = set_else m j 0 spent (λ q. n (sym q)) ∙ set_here l 0 w (within l 0 v led.leads);
      is_first = led.is_first;
      follow = λ i x k e.
          ⊎_elim
          (λ q. subst (λ (y : View). FollowsAs y.role w y) q.1 refl)
          (λ q. follows_along x.role v w x refl (led.follow i x k (sym (set_else l 0 i w k) ∙ q.1)))
          (at_set m j i spent x e);
      others = omega arith;
    }
