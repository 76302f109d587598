-- What stands under a name of an object (own).
use Rattle.std.specs.Prelude.{ℕ, Bool, List, Option, None, Some, is_none, unwrap_or}
use Rattle.serde_json.specs.Data.{Data, null, boolean, number, string, array, object}
use Rattle.serde_json.specs.Find.{get}

-- what was found under a name, of which a null counts as absent
abbrev pub not_null : Option Data → Option Data
not_null None = None
not_null (Some null) = None
not_null (Some (boolean b)) = Some (boolean b)
not_null (Some (number n)) = Some (number n)
not_null (Some (string s)) = Some (string s)
not_null (Some (array ds)) = Some (array ds)
not_null (Some (object ms)) = Some (object ms)

-- what stands under a name of an object
abbrev pub under : List ℕ → Data → Option Data
under name d = not_null (get name d)

-- the default where nothing is found, else the value that a kind reads
abbrev pub read_as : {A : Type 0} → (Data → Option A) → Option A → Option Data → Option A
read_as kind default None = default
read_as kind default (Some d) = kind d

-- the value of a kind under a name of an object, or its default
abbrev pub field : {A : Type 0} → List ℕ → (Data → Option A) → Option A → Data → Option A
field name kind default d = read_as kind default (under name d)

-- A row of the table of names: the name, its kind, what it counts as where it is absent (nothing where it is required), and
-- a placeholder for a value that is wrong, which a rule then refuses.
pub record Row (A : Type 0) : Type 0 where
  pub name : List ℕ
  pub kind : Data → Option A
  pub default : Option A
  pub placeholder : A

-- a name that has a default
abbrev pub optional : {A : Type 0} → List ℕ → (Data → Option A) → A → Row A
optional name kind default = record { name = name; kind = kind; default = Some default; placeholder = default }

-- a name without a default
abbrev pub required : {A : Type 0} → List ℕ → (Data → Option A) → A → Row A
required name kind placeholder = record { name = name; kind = kind; default = None; placeholder = placeholder }

-- the value of a row in an object, where it isn't wrong
abbrev pub row_value : {A : Type 0} → Row A → Data → Option A
row_value row d = field row.name row.kind row.default d

-- a row is wrong in an object: its name is absent and required, or there and not of its kind
abbrev pub wrong : {A : Type 0} → Row A → Data → Bool
wrong row d = is_none (row_value row d)

-- the value of a row in an object, its default filled in
abbrev pub value : {A : Type 0} → Row A → Data → A
value row d = unwrap_or (row_value row d) row.placeholder
