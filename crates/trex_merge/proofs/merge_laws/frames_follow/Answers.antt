use Rattle.std.proofs.Common.{◌==◌, ◌%◌, ap, ◌∙◌}
use Rattle.std.specs.List.{filter}
use Rattle.trex_merge.specs.declared.key.Key.{Key}
use Rattle.trex_merge.specs.Frames.{key_of}
use Rattle.trex_merge.specs.Order.{ordered}
use Rattle.trex_merge.proofs.FrameLemmas.{distinct-map, map-filter, map-ordered}
use Rattle.trex_merge.proofs.merge_laws.frames_follow.Goals as goal

pub returns-clause-distinct : goal.returns-clause-distinct
returns-clause-distinct g c = λ frame xs same. distinct-map g.T.Keyed.key_of key_of frame same xs

pub returns-clause-ordered : goal.returns-clause-ordered
returns-clause-ordered g c = λ frame xs same. map-ordered g.T.Keyed.key_of key_of frame same xs

pub returns-clause-share : goal.returns-clause-share
returns-clause-share g c = λ frame xs core cores same.
    map-filter frame (λ x. (g.T.Keyed.key_of x).number % cores == core) (λ y. y.number % cores == core)
    (λ x. ap (λ (k : Key). k.number % cores == core) (same x)) (ordered g.T.Keyed.key_of xs)
    ∙ ap (λ ys. filter (λ y. y.number % cores == core) ys) (map-ordered g.T.Keyed.key_of key_of frame same xs)
