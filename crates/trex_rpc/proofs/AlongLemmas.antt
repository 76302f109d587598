-- What lines write one after another.
use Rattle.std.proofs.Common.{◌≡◌, ℕ, List, [], ◌∷◌, ◌++◌, refl, sym, ap, ◌∙◌, append_assoc}
use Rattle.trex_rpc.specs.Table.{Table}
use Rattle.trex_rpc.specs.Talk.{along, table_of, tables}

-- the table after some lines and then others
pub tables-append : (table : Table) (xs ys : List (List ℕ)) → tables table (xs ++ ys) ≡ tables (tables table xs) ys
tables-append table [] ys = refl
tables-append table (x ∷ xs) ys = tables-append (table_of table x) xs ys

-- what some lines write and then others
pub along-append : (text : Table → List ℕ → List ℕ) (table : Table) (xs ys : List (List ℕ)) → along text table (xs ++ ys) ≡ along text table xs ++ along text (tables table xs) ys
along-append text table [] ys = refl
along-append text table (x ∷ xs) ys = ap (λ l. text table x ++ l) (along-append text (table_of table x) xs ys) ∙ sym (append_assoc (text table x) (along text (table_of table x) xs) (along text (tables (table_of table x) xs) ys))
