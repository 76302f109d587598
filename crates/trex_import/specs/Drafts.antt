-- What a draft stands for while the records of a capture come. Own.
use Rattle.std.specs.Prelude.{◌≡◌, ℕ, List, [], ◌∷◌, length, map, None, Some, unwrap_or, Result, Ok, Err, Vec}
use Rattle.std.specs.declared.alloc.Global.{Global}
use Rattle.std.specs.List.{AllByRecursion}
use Rattle.base64.specs.GeneralPurpose.{IsBytes}
use Rattle.serde_json.specs.View.{view}
use Rattle.trex_io.specs.Seen.{Seen}
use Rattle.trex_import.specs.declared.draft.Draft.{Draft}
use Rattle.trex_import.specs.declared.draft.TextFault.{TextFault}
use Rattle.trex_import.specs.declared.draft.TextFault.TheVariants.{Broken, Memory}
use Rattle.trex_import.specs.Document.{entry_data}
use Rattle.trex_import.specs.Fit.{records_unfit, unfit_of}
use Rattle.trex_import.specs.Imported.{first_time, for_each, imported}

-- the time of the first record, or this one where there is no record
abbrev pub first_time_or : ℕ → List Seen → ℕ
first_time_or time [] = time
first_time_or time (r ∷ rs) = r.time

-- the time of the last record, or this one where there is no record
abbrev pub last_time_or : ℕ → List Seen → ℕ
last_time_or time [] = time
last_time_or time (r ∷ rs) = last_time_or r.time rs

-- the captured bytes of each record are bytes
abbrev pub HaveBytes : List Seen → Type 0
HaveBytes = AllByRecursion (λ (r : Seen). IsBytes r.bytes)

-- a draft of these records: the first rule that one of them breaks, or an entry for each of them
pub record StandsFor (d : Draft) (rs : List Seen) : Type 0 where
  pub records : d.records ≡ length rs
  pub first : (time : ℕ) → unwrap_or d.first time ≡ first_time_or time rs
  pub last : (time : ℕ) → unwrap_or d.last time ≡ last_time_or time rs
  pub unfit : d.unfit ≡ records_unfit (first_time rs) (first_time rs) 1 rs
  pub entries : d.unfit ≡ None → map view d.entries.items ≡ for_each entry_data (first_time rs) 1 rs
  pub bytes : HaveBytes rs

-- what a draft of these records says at the end
abbrev pub Told : Result (Vec ℕ Global) TextFault → List Seen → Type 0
Told (Ok text) rs = (unfit_of rs ≡ None) × (text.items ≡ imported rs)
Told (Err (Broken u)) rs = unfit_of rs ≡ Some u
Told (Err Memory) rs = Unit {0}
