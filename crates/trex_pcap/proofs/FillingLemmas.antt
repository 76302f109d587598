-- A buffer that is read into behind its front.
use Rattle.std.proofs.Common.{◌≡◌, ℕ, ◌+◌, ◌≤◌, List, ◌++◌, length, take, sym, ap, ◌∙◌}
use Rattle.std.proofs.Math.Seq.{take-append-add}
use Rattle.std.proofs.lemmas.List.{take-append-le, length-take-le}

-- the front and what came behind it
pub front_grows : (into new post : List ℕ) (done n : ℕ) → done ≤ length into → n ≤ length new
    → take (done + n) (take done into ++ (new ++ post)) ≡ take done into ++ take n new
front_grows into new post done n within fits =
    ap (λ d. take (d + n) (take done into ++ (new ++ post))) (sym (length-take-le done into within))
    ∙ take-append-add (take done into) (new ++ post) n
    ∙ ap (λ l. take done into ++ l) (take-append-le n new post fits)
