-- The help text: the commands and their options, a line each. Own.
use Rattle.std.specs.Prelude.{ℕ, List, [], ◌∷◌, codes}
use Rattle.std.specs.List.{concat}

unfoldable pub help_text : List ℕ
help_text =
    concat (
    codes "trex run [--duration n] [--limit n] [--cores n] [--base n]\n"
    ∷ codes "trex check\n"
    ∷ codes "trex analyze\n"
    ∷ codes "trex sample --seed n [--streams n] [--duration n] [--limit n] [--cores n]\n"
    ∷ codes "trex import\n"
    ∷ codes "trex wire --seed n [--loss n] [--copy n] [--delay n]\n"
    ∷ codes "trex session\n"
    ∷ codes "trex help\n"
    ∷ []
    )
