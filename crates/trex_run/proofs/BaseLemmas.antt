-- The base from which the times of all works' records count.
use Rattle.std.proofs.Common.{◌≡◌, ℕ, zero, suc, ◌+◌, ◌<◌, List, [], ◌∷◌, length, map, refl, ◌∙◌, arith}
use Rattle.std.specs.List.{range_with_len}
use Rattle.trex_core.specs.Works.{Work, turned}
use Rattle.trex_merge.specs.declared.next.Next.{Next}
use Rattle.trex_merge.specs.declared.next.Next.TheVariants.{Packet, Need, End}
use Rattle.trex_merge.specs.Frames.{Frame}
use Rattle.trex_run.specs.Ready.{HaveBase, base_at, first_work, marks_of}
use Rattle.trex_run.specs.Step.{works_after}

-- before the first turn
pub first_bases : (base cores : ℕ) (frames : List Frame) (from count : ℕ) → HaveBase base (map (first_work base cores frames) (range_with_len from count))
first_bases base cores frames from zero = tt
first_bases base cores frames from (suc count) = (refl, first_bases base cores frames (from + 1) count)

-- works with the same marks
pub bases_by_marks : (base : ℕ) (new old : List Work) → marks_of new ≡ marks_of old → HaveBase base old → HaveBase base new
bases_by_marks base [] old same all = tt
bases_by_marks base (v ∷ new) [] same all = cc
bases_by_marks base (v ∷ new) (w ∷ old) same all =
    let here : v.base ≡ w.base = cc in
    let rest : marks_of new ≡ marks_of old = cc in
    (here ∙ all.0, bases_by_marks base new old rest all.1)

-- a turn leaves it
bases_turned : (base : ℕ) (works : List Work) → HaveBase base works → HaveBase base (map turned works)
bases_turned base [] all = tt
bases_turned base (w ∷ works) all = (all.0, bases_turned base works all.1)

-- where a round is made if a core has to be waited for
bases_supplied : (base : ℕ) (next : Next) (works : List Work) → HaveBase base works → HaveBase base (works_after turned next works)
bases_supplied base (Packet at) works all = all
bases_supplied base (Need core) works all = bases_turned base works all
bases_supplied base End works all = all

pub bases_after : (base : ℕ) (next : Next) (works works' new : List Work) → marks_of works' ≡ marks_of works → new ≡ works_after turned next works' → HaveBase base works → HaveBase base new
bases_after base next works works' new marks is all = rw is (bases_supplied base next works' (bases_by_marks base works' works marks all))

-- the base of one of them
pub base_is : (base at : ℕ) (works : List Work) → at < length works → HaveBase base works → base_at at works ≡ base
base_is base at [] within all = absurd (omega arith)
base_is base zero (w ∷ works) within all = all.0
base_is base (suc at) (w ∷ works) within all = base_is base at works (omega arith) all.1
