-- What a draft says of the records that it stands for.
use Rattle.std.proofs.Common.{◌≡◌, ℕ, ◌+◌, ◌-◌, ◌<◌, ◌≤◌, false, List, [], ◌∷◌, ◌++◌, length, map, Option, Some, None, unwrap_or, refl, sym, ap, ◌∙◌, arith, length-append}
use Rattle.std.proofs.lemmas.Bool.Decides.{nat_tests}
use Rattle.std.specs.Option.{option_or}
use Rattle.base64.specs.GeneralPurpose.{IsBytes}
use Rattle.serde_json.specs.Data.{array}
use Rattle.serde_json.specs.View.{items_of, items_view, view}
use Rattle.serde_json.specs.Written.{compact_text, items_have_float}
use Rattle.trex_io.specs.Seen.{Seen}
use Rattle.trex_pcap.specs.declared.unfit.Unfit.{Unfit}
use Rattle.trex_pcap.specs.declared.unfit.Unfit.TheVariants.{TooLarge}
use Rattle.trex_import.specs.declared.draft.Draft.{Draft}
use Rattle.trex_import.specs.Document.{entry_data}
use Rattle.trex_import.specs.Drafts.{HaveBytes, StandsFor, first_time_or, last_time_or}
use Rattle.trex_import.specs.Fit.{record_unfit, records_unfit, text_unfit, unfit_of}
use Rattle.trex_import.specs.Imported.{first_time, for_each, imported}
use Rattle.trex_import.proofs.TextLemmas.{document-text, document-no_float}

module _ (d : Draft) (rs : List Seen) (stands : StandsFor d rs) where
  -- a rule that one of them breaks
  pub draft-unfit : (u : Unfit) → d.unfit ≡ Some u → unfit_of rs ≡ Some u
  unfolding unfit_of
  draft-unfit u is = ap (λ o. option_or o (text_unfit (imported rs))) (sym stands.unfit ∙ is)

  -- where none breaks one, their text decides
  pub draft-fit : d.unfit ≡ None → unfit_of rs ≡ text_unfit (imported rs)
  unfolding unfit_of
  draft-fit is = ap (λ o. option_or o (text_unfit (imported rs))) (sym stands.unfit ∙ is)

  -- what is written for the entries is the text
  pub draft-text : (text : List ℕ) → d.unfit ≡ None
      → (items_have_float (items_view d.entries.items) ≡ false → text ≡ compact_text (array (items_view d.entries.items))) → text ≡ imported rs
  draft-text text is written =
      let same = ap items_of (stands.entries is) in
      written (ap items_have_float same ∙ document-no_float (first_time rs) 1 rs) ∙ ap (λ ds. compact_text (array ds)) same ∙ document-text rs stands.bytes

pub text_unfit-long : (text : List ℕ) → 33554432 < length text → text_unfit text ≡ Some TooLarge
text_unfit-long text long = grind (arith, nat_tests)

pub text_unfit-fits : (text : List ℕ) → length text ≤ 33554432 → text_unfit text ≡ None
text_unfit-fits text fits = grind (arith, nat_tests)

-- ---- one record more

option_or-none : {T : Type 0} (o : Option T) → option_or o None ≡ o
option_or-none None = refl
option_or-none (Some x) = refl

option_or-assoc : {T : Type 0} (a b c : Option T) → option_or a (option_or b c) ≡ option_or (option_or a b) c
option_or-assoc None b c = refl
option_or-assoc (Some x) b c = refl

records_unfit-push : (start before number : ℕ) (rs : List Seen) (r : Seen)
    → records_unfit start before number (rs ++ r ∷ []) ≡ option_or (records_unfit start before number rs) (record_unfit start (last_time_or before rs) (number + length rs) r)
records_unfit-push start before number [] r =
    let same : number ≡ number + 0 = omega arith in
    option_or-none (record_unfit start before number r) ∙ ap (λ n. record_unfit start before n r) same
records_unfit-push start before number (x ∷ rs) r =
    let next : number + 1 + length rs ≡ number + length (x ∷ rs) = omega arith in
    ap (option_or (record_unfit start before number x))
    (records_unfit-push start x.time (number + 1) rs r ∙ ap (λ n. option_or (records_unfit start x.time (number + 1) rs) (record_unfit start (last_time_or x.time rs) n r)) next)
    ∙ option_or-assoc (record_unfit start before number x) (records_unfit start x.time (number + 1) rs) (record_unfit start (last_time_or x.time rs) (number + length (x ∷ rs)) r)

for_each-push : {A : Type 0} (f : ℕ → ℕ → List ℕ → A) (start number : ℕ) (rs : List Seen) (r : Seen)
    → for_each f start number (rs ++ r ∷ []) ≡ for_each f start number rs ++ f (number + length rs) (r.time - start) r.bytes ∷ []
for_each-push f start number [] r =
    let same : number ≡ number + 0 = omega arith in
    ap (λ n. f n (r.time - start) r.bytes ∷ []) same
for_each-push f start number (x ∷ rs) r =
    let next : number + 1 + length rs ≡ number + length (x ∷ rs) = omega arith in
    ap (λ l. f number (x.time - start) x.bytes ∷ l)
    (for_each-push f start (number + 1) rs r ∙ ap (λ n. for_each f start (number + 1) rs ++ f n (r.time - start) r.bytes ∷ []) next)

last_time_or-push : (time : ℕ) (rs : List Seen) (r : Seen) → last_time_or time (rs ++ r ∷ []) ≡ r.time
last_time_or-push time [] r = refl
last_time_or-push time (x ∷ rs) r = last_time_or-push x.time rs r

-- the first record stays the first, and the first to come is the first
first_time_or-push : (time : ℕ) (rs : List Seen) (r : Seen) → first_time_or time (rs ++ r ∷ []) ≡ first_time_or r.time rs
first_time_or-push time [] r = refl
first_time_or-push time (x ∷ rs) r = refl

HaveBytes-push : (rs : List Seen) (r : Seen) → HaveBytes rs → IsBytes r.bytes → HaveBytes (rs ++ r ∷ [])
HaveBytes-push [] r have is = (is, tt)
HaveBytes-push (x ∷ rs) r (here, later) is = (here, HaveBytes-push rs r later is)

-- the rules on all records, from the first one's time on
all_unfit-push : (rs : List Seen) (r : Seen)
    → records_unfit (first_time (rs ++ r ∷ [])) (first_time (rs ++ r ∷ [])) 1 (rs ++ r ∷ [])
    ≡ option_or (records_unfit (first_time rs) (first_time rs) 1 rs) (record_unfit (first_time_or r.time rs) (last_time_or r.time rs) (1 + length rs) r)
all_unfit-push [] r = records_unfit-push r.time r.time 1 [] r
all_unfit-push (x ∷ rs) r = records_unfit-push x.time x.time 1 (x ∷ rs) r

all_entries-push : (rs : List Seen) (r : Seen)
    → for_each entry_data (first_time (rs ++ r ∷ [])) 1 (rs ++ r ∷ [])
    ≡ for_each entry_data (first_time rs) 1 rs ++ entry_data (1 + length rs) (r.time - first_time_or r.time rs) r.bytes ∷ []
all_entries-push [] r = for_each-push entry_data r.time 1 [] r
all_entries-push (x ∷ rs) r = for_each-push entry_data x.time 1 (x ∷ rs) r

-- a draft that took one more record: it kept the rule that the record breaks, or its entry, unless a rule was broken before
pub record Takes (old new : Draft) (r : Seen) (start before : ℕ) : Type 0 where
  pub start_is : start ≡ unwrap_or old.first r.time
  pub before_is : before ≡ unwrap_or old.last r.time
  pub records : new.records ≡ old.records + 1
  pub first : new.first ≡ Some start
  pub last : new.last ≡ Some r.time
  pub unfit : new.unfit ≡ option_or old.unfit (record_unfit start before (old.records + 1) r)
  pub entries : new.unfit ≡ None → map view new.entries.items ≡ map view old.entries.items ++ entry_data (old.records + 1) (r.time - start) r.bytes ∷ []
  pub bytes : IsBytes r.bytes

-- nothing was broken before where nothing is broken now
unbroken : {T : Type 0} (a b o : Option T) → o ≡ option_or a b → o ≡ None → a ≡ None
unbroken None b o e none = refl
unbroken (Some x) b o e none = cc

pub stands-more : (old new : Draft) (rs : List Seen) (r : Seen) (start before : ℕ) → StandsFor old rs → Takes old new r start before → StandsFor new (rs ++ r ∷ [])
stands-more old new rs r start before stands takes =
    let number : old.records + 1 ≡ 1 + length rs = omega (arith, stands.records) in
    let from : start ≡ first_time_or r.time rs = takes.start_is ∙ stands.first r.time in
    let after : before ≡ last_time_or r.time rs = takes.before_is ∙ stands.last r.time in
    record {
      records = omega (arith, takes.records, number, length-append rs (r ∷ []));
      first = λ time. ap (λ o. unwrap_or o time) takes.first ∙ from ∙ sym (first_time_or-push time rs r);
      last = λ time. ap (λ o. unwrap_or o time) takes.last ∙ sym (last_time_or-push time rs r);
      unfit = takes.unfit ∙ rw (stands.unfit, number, from, after) (sym (all_unfit-push rs r));
      entries = λ none. takes.entries none ∙ rw (stands.entries (unbroken old.unfit _ new.unfit takes.unfit none), number, from) (sym (all_entries-push rs r));
      bytes = HaveBytes-push rs r stands.bytes takes.bytes;
    }
