-- Ranges of numbers in order: what one more number makes of them.
use Rattle.std.proofs.Common.{◌≡◌, ℕ, zero, suc, ◌+◌, ◌-◌, ◌^◌, ◌<◌, ◌≤◌, Bool, true, false, not, ◌||◌, nat_eq, nat_le, nat_lt, if◌then◌else◌, List, [], ◌∷◌, ◌++◌, length, refl, sym, ap, ◌∙◌, subst, arith, Option, Some, None, IfSome, unwrap_or, inl, inr, append_assoc, append-nil}
use Rattle.std.proofs.Math.Bool.{or-true, or-false}
use Rattle.std.proofs.lemmas.Bool.{cases_lt, lt-ltb, le-ltb, eq-eqb, ne_eqb, le-leb, lt-leb}
use Rattle.std.proofs.lemmas.Grind.{flat_map-append}
use Rattle.std.proofs.lemmas.List.Folds.{list_any-append}
use Rattle.std.specs.BTreeMap.{insert_entry, is_at}
use Rattle.std.specs.BTreeMap.Range.{entries_between}
use Rattle.std.specs.BTreeSet.{insert_key}
use Rattle.std.specs.List.{AllByRecursion, range_with_len}
use Rattle.std.specs.Map.{lookup, remove_entry}
use Rattle.std.specs.Ordering.{nat_cmp, is_eq, is_gt, is_lt}
use Rattle.std.specs.declared.cmp.Ordering.TheVariants.{Less, Equal, Greater}
use Rattle.std.specs.declared.ops.Bound.TheVariants.{Included, Unbounded}
use Rattle.trex_stats.specs.Ranges.{has, Rises, span, numbers, Ascend, IsBelow, reaches, with_tail, joined_before, joined_after, Gains}

-- ---- how two numbers compare

pub cmp_less : (a b : ℕ) → a < b → nat_cmp a b ≡ Less
cmp_less a b h = rw (lt-ltb a b h) refl

pub cmp_same : (a b : ℕ) → a ≡ b → nat_cmp a b ≡ Equal
cmp_same a b h = rw (le-ltb a b (omega arith), eq-eqb a b h) refl

pub cmp_more : (a b : ℕ) → b < a → nat_cmp a b ≡ Greater
cmp_more a b h = rw (le-ltb a b (omega arith), ne_eqb a b (omega arith)) refl

-- ---- ranges in order

-- where the next range may begin, after ranges that rise from `low`
abbrev pub past : ℕ → List (ℕ × ℕ) → ℕ
past low [] = low
past low (r ∷ rs) = past (r.1 + 2) rs

pub past-le : (low : ℕ) (rs : List (ℕ × ℕ)) → Ascend low rs → low ≤ past low rs
past-le low [] up = omega arith
past-le low (r ∷ rs) (begins, some, fits, more) = omega (arith, past-le (r.1 + 2) rs more)

past-push : (low : ℕ) (rs : List (ℕ × ℕ)) (r : ℕ × ℕ) → past low (rs ++ r ∷ []) ≡ r.1 + 2
past-push low [] r = refl
past-push low (x ∷ rs) r = past-push (x.1 + 2) rs r

Ascend-append : (low : ℕ) (xs ys : List (ℕ × ℕ)) → Ascend low xs → Ascend (past low xs) ys → Ascend low (xs ++ ys)
Ascend-append low [] ys a b = b
Ascend-append low (r ∷ xs) ys (begins, some, fits, more) b = (begins, some, fits, Ascend-append (r.1 + 2) xs ys more b)

Ascend-front : (low : ℕ) (xs ys : List (ℕ × ℕ)) → Ascend low (xs ++ ys) → Ascend low xs
Ascend-front low [] ys a = tt
Ascend-front low (r ∷ xs) ys (begins, some, fits, more) = (begins, some, fits, Ascend-front (r.1 + 2) xs ys more)

Ascend-back : (low : ℕ) (xs ys : List (ℕ × ℕ)) → Ascend low (xs ++ ys) → Ascend (past low xs) ys
Ascend-back low [] ys a = a
Ascend-back low (r ∷ xs) ys (begins, some, fits, more) = Ascend-back (r.1 + 2) xs ys more

-- ---- numbers one after another

pub range-add : (m n a k : ℕ) → k ≡ m + n → range_with_len a k ≡ range_with_len a m ++ range_with_len (a + m) n
range-add zero n a k e =
    let same : k ≡ n = omega arith in
    let here : a + 0 ≡ a = omega arith in
    rw (same, here) refl
range-add (suc m) n a k e =
    let more : k ≡ suc (m + n) = omega arith in
    let next : a + suc m ≡ a + 1 + m = omega arith in
    rw (more, next) (ap (λ l. a ∷ l) (range-add m n (a + 1) (m + n) refl))

has_before : (n a x : ℕ) → x < a → has (range_with_len a n) x ≡ false
has_before zero a x h = refl
has_before (suc n) a x h = rw (ne_eqb x a (omega arith), has_before n (a + 1) x (omega arith)) refl

pub has_after : (n a x : ℕ) → a + n ≤ x → has (range_with_len a n) x ≡ false
has_after zero a x h = refl
has_after (suc n) a x h = rw (ne_eqb x a (omega arith), has_after n (a + 1) x (omega arith)) refl

pub has_inside : (n a x : ℕ) → a ≤ x → x < a + n → has (range_with_len a n) x ≡ true
has_inside zero a x low high = absurd (omega arith)
has_inside (suc n) a x low high =
    elim (cases_lt a x) [
      | inl more ↦ rw (has_inside n (a + 1) x (omega arith) (omega arith)) (or-true (nat_eq x a))
      | inr less ↦ rw (eq-eqb x a (omega arith)) refl
    ]

pub has-append : (xs ys : List ℕ) (x : ℕ) → has (xs ++ ys) x ≡ (has xs x || has ys x)
has-append xs ys x = list_any-append (nat_eq x) xs ys

has_above : (x low : ℕ) (rs : List (ℕ × ℕ)) → Ascend low rs → past low rs ≤ x → has (numbers rs) x ≡ false
has_above x low [] up le = refl
has_above x low (r ∷ rs) (begins, some, fits, more) le =
    let after : r.1 + 2 ≤ past (r.1 + 2) rs = past-le (r.1 + 2) rs more in
    rw (has-append (span r) (numbers rs) x, has_after (r.1 + 1 - r.0) r.0 x (omega arith), has_above x (r.1 + 2) rs more le) refl

has_under : (x low : ℕ) (rs : List (ℕ × ℕ)) → Ascend low rs → x < low → has (numbers rs) x ≡ false
has_under x low [] up lt = refl
has_under x low (r ∷ rs) (begins, some, fits, more) lt =
    rw (has-append (span r) (numbers rs) x, has_before (r.1 + 1 - r.0) r.0 x (omega arith), has_under x (r.1 + 2) rs more (omega arith)) refl

-- whether a number is among those of ranges, by the last range that begins at it or below it
pub has_reaches : (rs : List (ℕ × ℕ)) (number : ℕ) (below : Option (ℕ × ℕ)) → Ascend 0 rs → IsBelow rs number below → has (numbers rs) number ≡ reaches below number
has_reaches rs number None up below = has_under number (number + 1) rs below (omega arith)
has_reaches rs number (Some r) up (front, back, split, begins, above) =
    let parts : Ascend 0 (front ++ r ∷ back) = subst (Ascend 0) split up in
    let rest = Ascend-back 0 front (r ∷ back) parts in
    let whole : numbers rs ≡ numbers front ++ (span r ++ numbers back) = ap numbers split ∙ flat_map-append span front (r ∷ back) in
    let others = has_above number 0 front (Ascend-front 0 front (r ∷ back) parts) (omega (arith, rest.0)) in
    let later = has_under number (number + 1) back above (omega arith) in
    let here : has (span r) number ≡ nat_le number r.1 = elim (cases_lt r.1 number) [
      | inl beyond ↦ has_after (r.1 + 1 - r.0) r.0 number (omega (arith, rest.1)) ∙ sym (lt-leb number r.1 beyond)
      | inr within ↦ has_inside (r.1 + 1 - r.0) r.0 number begins (omega arith) ∙ sym (le-leb number r.1 within)
    ] in
    rw (whole, has-append (numbers front) (span r ++ numbers back) number, others, has-append (span r) (numbers back) number, later, here)
    (or-false (nat_le number r.1))

-- ---- the ranges that begin at a number or below it

-- the others
abbrev after : ℕ → List (ℕ × ℕ) → List (ℕ × ℕ)
after x [] = []
after x (r ∷ rs) = if nat_lt x r.0 then r ∷ rs else after x rs

abbrev up_to : ℕ → List (ℕ × ℕ) → List (ℕ × ℕ)
up_to x rs = entries_between nat_cmp Unbounded (Included x) rs

not_less : (a b : ℕ) → b ≤ a → is_lt (nat_cmp a b) ≡ false
not_less a b h =
    elim (cases_lt b a) [
      | inl more ↦ ap is_lt (cmp_more a b more)
      | inr less ↦ ap is_lt (cmp_same a b (omega arith))
    ]

up_to_none : (x low : ℕ) (rs : List (ℕ × ℕ)) → Ascend low rs → x < low → up_to x rs ≡ []
up_to_none x low [] up lt = refl
up_to_none x low (r ∷ rs) (begins, some, fits, more) lt = rw (cmp_less x r.0 (omega arith)) (up_to_none x (r.1 + 2) rs more (omega arith))

up_to_split : (x low : ℕ) (rs : List (ℕ × ℕ)) → Ascend low rs → (rs ≡ up_to x rs ++ after x rs) × Ascend (x + 1) (after x rs)
up_to_split x low [] up = (refl, tt)
up_to_split x low (r ∷ rs) (begins, some, fits, more) =
    elim (cases_lt x r.0) [
      | inl beyond ↦ rw (lt-ltb x r.0 beyond, up_to_none x (r.1 + 2) rs more (omega arith)) (refl, (omega arith, some, fits, more))
      | inr within ↦
          let rest = up_to_split x (r.1 + 2) rs more in
          let same : nat_lt x r.0 ≡ false = le-ltb x r.0 within in
          rw (not_less x r.0 within, same) (ap (λ l. r ∷ l) rest.0, rest.1)
    ]

le_from_cmp : (a b : ℕ) → is_gt (nat_cmp a b) ≡ false → a ≤ b
le_from_cmp a b h =
    elim (cases_lt b a) [
      | inl more ↦ let e : is_gt (nat_cmp a b) ≡ true = ap is_gt (cmp_more a b more) in cc
      | inr less ↦ less
    ]

pub below_some : (rs shown t : List (ℕ × ℕ)) (e : ℕ × ℕ) (x : ℕ) → Ascend 0 rs → shown ≡ up_to x rs → shown ≡ t ++ e ∷ [] → is_gt (nat_cmp e.0 x) ≡ false → IsBelow rs x (Some e)
below_some rs shown t e x up is step within =
    let parts = up_to_split x 0 rs up in
    let split : rs ≡ t ++ e ∷ after x rs = parts.0 ∙ ap (λ l. l ++ after x rs) (sym is ∙ step) ∙ append_assoc t (e ∷ []) (after x rs) in
    (t, after x rs, split, le_from_cmp e.0 x within, parts.1)

-- ---- one more number

insert_after_span : (n a x : ℕ) (ys : List ℕ) → a + n ≤ x → insert_key nat_cmp (range_with_len a n ++ ys) x ≡ range_with_len a n ++ insert_key nat_cmp ys x
insert_after_span zero a x ys le = refl
insert_after_span (suc n) a x ys le = rw (cmp_more x a (omega arith)) (ap (λ l. a ∷ l) (insert_after_span n (a + 1) x ys (omega arith)))

insert_after : (low x : ℕ) (rs : List (ℕ × ℕ)) (ys : List ℕ) → Ascend low rs → past low rs ≤ x → insert_key nat_cmp (numbers rs ++ ys) x ≡ numbers rs ++ insert_key nat_cmp ys x
insert_after low x [] ys up le = refl
insert_after low x (r ∷ rs) ys (begins, some, fits, more) le =
    let reach : r.1 + 2 ≤ past (r.1 + 2) rs = past-le (r.1 + 2) rs more in
    ap (λ l. insert_key nat_cmp l x) (append_assoc (span r) (numbers rs) ys)
    ∙ insert_after_span (r.1 + 1 - r.0) r.0 x (numbers rs ++ ys) (omega arith)
    ∙ ap (λ l. span r ++ l) (insert_after (r.1 + 2) x rs ys more le)
    ∙ sym (append_assoc (span r) (numbers rs) (insert_key nat_cmp ys x))

insert_before : (x : ℕ) (rs : List (ℕ × ℕ)) → Ascend (x + 1) rs → insert_key nat_cmp (numbers rs) x ≡ x ∷ numbers rs
insert_before x [] up = refl
insert_before x (r ∷ rs) (begins, some, fits, more) =
    let size : r.1 + 1 - r.0 ≡ suc (r.1 - r.0) = omega arith in
    rw (size, cmp_less x r.0 (omega arith)) refl

entry_after : (low k v : ℕ) (rs ys : List (ℕ × ℕ)) → Ascend low rs → past low rs ≤ k → insert_entry nat_cmp (rs ++ ys) k v ≡ rs ++ insert_entry nat_cmp ys k v
entry_after low k v [] ys up le = refl
entry_after low k v (r ∷ rs) ys (begins, some, fits, more) le =
    let reach : r.1 + 2 ≤ past (r.1 + 2) rs = past-le (r.1 + 2) rs more in
    rw (cmp_more k r.0 (omega arith)) (ap (λ l. r ∷ l) (entry_after (r.1 + 2) k v rs ys more le))

entry_before : (k v : ℕ) (rs : List (ℕ × ℕ)) → Ascend (k + 1) rs → insert_entry nat_cmp rs k v ≡ (k, v) ∷ rs
entry_before k v [] up = refl
entry_before k v (r ∷ rs) (begins, some, fits, more) = rw (cmp_less k r.0 (omega arith)) refl

entry_here : (r : ℕ × ℕ) (k v : ℕ) (rs : List (ℕ × ℕ)) → k ≡ r.0 → insert_entry nat_cmp (r ∷ rs) k v ≡ (k, v) ∷ rs
entry_here r k v rs same = rw (cmp_same k r.0 same, same) refl

not_at : (k x : ℕ) → x < k → is_at (nat_cmp k) x ≡ false
not_at k x h = ap is_eq (cmp_more k x h)

not_yet_at : (k x : ℕ) → k < x → is_at (nat_cmp k) x ≡ false
not_yet_at k x h = ap is_eq (cmp_less k x h)

lookup_after : (low k : ℕ) (rs ys : List (ℕ × ℕ)) → Ascend low rs → past low rs ≤ k → lookup (is_at (nat_cmp k)) (rs ++ ys) ≡ lookup (is_at (nat_cmp k)) ys
lookup_after low k [] ys up le = refl
lookup_after low k (r ∷ rs) ys (begins, some, fits, more) le =
    let reach : r.1 + 2 ≤ past (r.1 + 2) rs = past-le (r.1 + 2) rs more in
    rw (not_at k r.0 (omega arith)) (lookup_after (r.1 + 2) k rs ys more le)

lookup_before : (low k : ℕ) (rs : List (ℕ × ℕ)) → Ascend low rs → k < low → lookup (is_at (nat_cmp k)) rs ≡ None
lookup_before low k [] up lt = refl
lookup_before low k (r ∷ rs) (begins, some, fits, more) lt = rw (not_yet_at k r.0 (omega arith)) (lookup_before (r.1 + 2) k rs more (omega arith))

-- no range begins at a number that doesn't fit 64 bits
pub lookup_beyond : (low k : ℕ) (rs : List (ℕ × ℕ)) → Ascend low rs → 2 ^ 64 ≤ k → lookup (is_at (nat_cmp k)) rs ≡ None
lookup_beyond low k [] up le = refl
lookup_beyond low k (r ∷ rs) (begins, some, fits, more) le = rw (not_at k r.0 (omega arith)) (lookup_beyond (r.1 + 2) k rs more le)

remove_after : (low k : ℕ) (rs ys : List (ℕ × ℕ)) → Ascend low rs → past low rs ≤ k → remove_entry (is_at (nat_cmp k)) (rs ++ ys) ≡ rs ++ remove_entry (is_at (nat_cmp k)) ys
remove_after low k [] ys up le = refl
remove_after low k (r ∷ rs) ys (begins, some, fits, more) le =
    let reach : r.1 + 2 ≤ past (r.1 + 2) rs = past-le (r.1 + 2) rs more in
    rw (not_at k r.0 (omega arith)) (ap (λ l. r ∷ l) (remove_after (r.1 + 2) k rs ys more le))

-- Where a number goes: behind ranges that stay, joined with the numbers from `first` on, before ranges above it.
record Cut (rs : List (ℕ × ℕ)) (number first : ℕ) : Type 0 where
  front : List (ℕ × ℕ)
  back : List (ℕ × ℕ)
  rise : Ascend 0 front
  low : past 0 front ≤ first
  within : first ≤ number
  above : Ascend (number + 1) back
  whole : numbers rs ≡ numbers front ++ (range_with_len first (number - first) ++ numbers back)
  put : (last : ℕ) → insert_entry nat_cmp rs first last ≡ front ++ (first, last) ∷ back
  next : joined_after rs number ≡ joined_after back number

-- behind a range that it doesn't touch
cut_new : (rs front back : List (ℕ × ℕ)) (number : ℕ) → rs ≡ front ++ back → Ascend 0 front → past 0 front ≤ number → Ascend (number + 1) back → Cut rs number number
cut_new rs front back number split rise low above =
    let none : number - number ≡ 0 = omega arith in
    record {
      front = front;
      back = back;
      rise = rise;
      low = low;
      within = omega arith;
      above = above;
      whole = rw none (ap numbers split ∙ flat_map-append span front back);
      put = λ last. ap (λ l. insert_entry nat_cmp l number last) split ∙ entry_after 0 number last front back rise low ∙ ap (λ l. front ++ l) (entry_before number last back above);
      next = ap (λ l. joined_after l number) split ∙ ap (λ o. unwrap_or o number) (lookup_after 0 (number + 1) front back rise (omega arith));
    }

-- just behind a range, which it makes longer
cut_joined : (rs front back : List (ℕ × ℕ)) (r : ℕ × ℕ) (number : ℕ) → rs ≡ front ++ r ∷ back → Ascend 0 front → past 0 front ≤ r.0 → r.0 ≤ r.1 → r.1 + 1 ≡ number
    → Ascend (number + 1) back → Cut rs number r.0
cut_joined rs front back r number split rise low some touches above =
    let size : number - r.0 ≡ r.1 + 1 - r.0 = omega arith in
    record {
      front = front;
      back = back;
      rise = rise;
      low = low;
      within = omega arith;
      above = above;
      whole = rw size (ap numbers split ∙ flat_map-append span front (r ∷ back));
      put = λ last. ap (λ l. insert_entry nat_cmp l r.0 last) split ∙ entry_after 0 r.0 last front (r ∷ back) rise low ∙ ap (λ l. front ++ l) (entry_here r r.0 last back refl);
      next =
          ap (λ l. joined_after l number) split ∙ ap (λ o. unwrap_or o number) (lookup_after 0 (number + 1) front (r ∷ back) rise (omega arith))
          ∙ rw (not_at (number + 1) r.0 (omega arith)) refl;
    }

cut : (rs : List (ℕ × ℕ)) (number : ℕ) (below : Option (ℕ × ℕ)) → Ascend 0 rs → IsBelow rs number below → IfSome below (λ r. r.1 < number)
    → Cut rs number (joined_before below number)
cut rs number None up below out = cut_new rs [] rs number refl tt (omega arith) below
cut rs number (Some r) up (front, back, split, begins, above) out =
    let parts : Ascend 0 (front ++ r ∷ back) = subst (Ascend 0) split up in
    let rest = Ascend-back 0 front (r ∷ back) parts in
    elim (cases_lt (r.1 + 1) number) [
      | inl apart ↦
          let first : joined_before (Some r) number ≡ number = rw (ne_eqb (r.1 + 1) number (omega arith)) refl in
          let longer : rs ≡ (front ++ r ∷ []) ++ back = split ∙ sym (append_assoc front (r ∷ []) back) in
          subst (Cut rs number) (sym first)
          (cut_new rs (front ++ r ∷ []) back number longer (Ascend-front 0 (front ++ r ∷ []) back (subst (Ascend 0) longer up)) (rw (past-push 0 front r) (omega arith)) above)
      | inr joins ↦
          let first : joined_before (Some r) number ≡ r.0 = rw (eq-eqb (r.1 + 1) number (omega arith)) refl in
          subst (Cut rs number) (sym first)
          (cut_joined rs front back r number split (Ascend-front 0 front (r ∷ back) parts) rest.0 rest.1 (omega arith) above)
    ]

-- What a number is joined with above it: ranges of which the first may begin just after it, and then goes into it.
record Joins (rs : List (ℕ × ℕ)) (number last : ℕ) : Type 0 where
  back : List (ℕ × ℕ)
  most : number ≤ last
  fits : last < 2 ^ 64
  above : Ascend (last + 2) back
  whole : number ∷ numbers rs ≡ range_with_len number (last + 1 - number) ++ numbers back
  gone : number < last → remove_entry (is_at (nat_cmp (number + 1))) rs ≡ back
  stays : last ≡ number → rs ≡ back

joins_none : (rs : List (ℕ × ℕ)) (number : ℕ) → Ascend (number + 2) rs → number < 2 ^ 64 → Joins rs number number
joins_none rs number above fits =
    let one : number + 1 - number ≡ 1 = omega arith in
    record { back = rs; most = omega arith; fits = fits; above = above; whole = rw one refl; gone = λ less. absurd (omega arith); stays = λ same. refl }

joins_first : (r : ℕ × ℕ) (rs : List (ℕ × ℕ)) (number : ℕ) → r.0 ≡ number + 1 → r.0 ≤ r.1 → r.1 < 2 ^ 64 → Ascend (r.1 + 2) rs → Joins (r ∷ rs) number r.1
joins_first r rs number begins some fits above =
    let size : r.1 + 1 - number ≡ suc (r.1 + 1 - r.0) = omega arith in
    record {
      back = rs;
      most = omega arith;
      fits = fits;
      above = above;
      whole = rw size (ap (λ a. number ∷ (range_with_len a (r.1 + 1 - r.0) ++ numbers rs)) begins);
      gone = λ less. rw (ap is_eq (cmp_same (number + 1) r.0 (omega arith))) refl;
      stays = λ same. absurd (omega arith);
    }

joins : (rs : List (ℕ × ℕ)) (number : ℕ) → Ascend (number + 1) rs → number < 2 ^ 64 → Joins rs number (joined_after rs number)
joins [] number up fits = joins_none [] number tt fits
joins (r ∷ rs) number (begins, some, within, more) fits =
    elim (cases_lt (number + 1) r.0) [
      | inl apart ↦
          let above : Ascend (number + 2) (r ∷ rs) = (omega arith, some, within, more) in
          subst (Joins (r ∷ rs) number) (sym (ap (λ o. unwrap_or o number) (lookup_before (number + 2) (number + 1) (r ∷ rs) above (omega arith)))) (joins_none (r ∷ rs) number above fits)
      | inr touches ↦
          let here : joined_after (r ∷ rs) number ≡ r.1 = rw (ap is_eq (cmp_same (number + 1) r.0 (omega arith))) refl in
          subst (Joins (r ∷ rs) number) (sym here) (joins_first r rs number (omega arith) some within more)
    ]

-- the ranges with the number, joined on both sides
gained : (rs : List (ℕ × ℕ)) (number first last : ℕ) (c : Cut rs number first) (j : Joins c.back number last) → Gains rs (c.front ++ (first, last) ∷ j.back) number
gained rs number first last c j =
    let size : last + 1 - first ≡ number - first + (last + 1 - number) = omega (arith, c.within, j.most) in
    let reach : first + (number - first) ≡ number = omega (arith, c.within) in
    let gap = range_with_len first (number - first) in
    record {
      ascend = Ascend-append 0 c.front ((first, last) ∷ j.back) c.rise (c.low, omega (arith, c.within, j.most), j.fits, j.above);
      gains =
          flat_map-append span c.front ((first, last) ∷ j.back)
          ∙ ap (λ l. numbers c.front ++ (l ++ numbers j.back)) (range-add (number - first) (last + 1 - number) first (last + 1 - first) size)
          ∙ ap (λ a. numbers c.front ++ ((gap ++ range_with_len a (last + 1 - number)) ++ numbers j.back)) reach
          ∙ ap (λ l. numbers c.front ++ l) (append_assoc gap (range_with_len number (last + 1 - number)) (numbers j.back) ∙ ap (λ l. gap ++ l) (sym j.whole))
          ∙ sym (
          ap (λ l. insert_key nat_cmp l number) c.whole
          ∙ insert_after 0 number c.front (gap ++ numbers c.back) c.rise (omega (arith, c.low, c.within))
          ∙ ap (λ l. numbers c.front ++ l) (insert_after_span (number - first) first number (numbers c.back) (omega arith) ∙ ap (λ l. gap ++ l) (insert_before number c.back c.above))
          );
    }

module _ (rs : List (ℕ × ℕ)) (number : ℕ) (below : Option (ℕ × ℕ)) (up : Ascend 0 rs) (is : IsBelow rs number below) (out : IfSome below (λ r. r.1 < number)) (fits : number < 2 ^ 64) where
  -- where no range begins just after the number
  pub put_alone : joined_after rs number ≤ number → Gains rs (insert_entry nat_cmp rs (joined_before below number) (joined_after rs number)) number
  put_alone alone =
      let c = cut rs number below up is out in
      let first = joined_before below number in
      let last = joined_after rs number in
      let j : Joins c.back number last = subst (Joins c.back number) (sym c.next) (joins c.back number c.above fits) in
      subst (λ l. Gains rs l number) (sym (c.put last ∙ ap (λ l. c.front ++ (first, last) ∷ l) (j.stays (omega (arith, j.most))))) (gained rs number first last c j)

  -- where one does, which then goes
  pub put_joined : number < joined_after rs number
      → Gains rs (remove_entry (is_at (nat_cmp (number + 1))) (insert_entry nat_cmp rs (joined_before below number) (joined_after rs number))) number
  put_joined less =
      let c = cut rs number below up is out in
      let first = joined_before below number in
      let last = joined_after rs number in
      let j : Joins c.back number last = subst (Joins c.back number) (sym c.next) (joins c.back number c.above fits) in
      let went : remove_entry (is_at (nat_cmp (number + 1))) (insert_entry nat_cmp rs first last) ≡ c.front ++ (first, last) ∷ j.back =
      ap (remove_entry (is_at (nat_cmp (number + 1)))) (c.put last)
      ∙ remove_after 0 (number + 1) c.front ((first, last) ∷ c.back) c.rise (omega (arith, c.low, c.within))
      ∙ ap (λ l. c.front ++ l) (rw (not_at (number + 1) first (omega (arith, c.within))) (ap (λ l. (first, last) ∷ l) (j.gone less))) in
      subst (λ l. Gains rs l number) (sym went) (gained rs number first last c j)

-- ---- the last range beside the others

-- all but the last range rise
pub Ascend-others : (rs : List (ℕ × ℕ)) (tail : Option (ℕ × ℕ)) → Ascend 0 (with_tail rs tail) → Ascend 0 rs
Ascend-others rs None up = up
Ascend-others rs (Some r) up = Ascend-front 0 rs (r ∷ []) up

-- the last range goes in behind the others
pub put_last : (rs : List (ℕ × ℕ)) (r : ℕ × ℕ) → Ascend 0 (rs ++ r ∷ []) → insert_entry nat_cmp rs r.0 r.1 ≡ rs ++ r ∷ []
put_last rs r up =
    ap (λ l. insert_entry nat_cmp l r.0 r.1) (sym (append-nil rs)) ∙ entry_after 0 r.0 r.1 rs [] (Ascend-front 0 rs (r ∷ []) up) (Ascend-back 0 rs (r ∷ []) up).0

Ascend-later : (low later : ℕ) (rs : List (ℕ × ℕ)) (r : ℕ × ℕ) → Ascend low (rs ++ r ∷ []) → Ascend later rs → later ≤ r.0 → Ascend later (rs ++ r ∷ [])
Ascend-later low later [] r (begins, some, fits, more) others le = (le, some, fits, more)
Ascend-later low later (x ∷ rs) r (begins, some, fits, more) (from, there, within, others) le = (from, some, fits, more)

-- the last of the others that begins at a number or below it is the last of all that does, where the last of all begins above it
pub below_others : (rs : List (ℕ × ℕ)) (r : ℕ × ℕ) (number : ℕ) (below : Option (ℕ × ℕ)) → Ascend 0 (rs ++ r ∷ []) → number < r.0 → IsBelow rs number below → IsBelow (rs ++ r ∷ []) number below
below_others rs r number None up less is = Ascend-later 0 (number + 1) rs r up is (omega arith)
below_others rs r number (Some b) up less (front, back, split, begins, above) =
    let whole : rs ++ r ∷ [] ≡ front ++ b ∷ (back ++ r ∷ []) = ap (λ l. l ++ r ∷ []) split ∙ append_assoc front (b ∷ back) (r ∷ []) in
    let parts = Ascend-back 0 front (b ∷ (back ++ r ∷ [])) (subst (Ascend 0) whole up) in
    (front, back ++ r ∷ [], whole, begins, Ascend-later (b.1 + 2) (number + 1) back r parts.3 above (omega arith))

-- the last range grows by the number just behind it
pub grown : (rs : List (ℕ × ℕ)) (first last number : ℕ) → Ascend 0 (rs ++ (first, last) ∷ []) → last + 1 ≡ number → number < 2 ^ 64
    → Gains (rs ++ (first, last) ∷ []) (rs ++ (first, number) ∷ []) number
unfolding cut_joined joins_none
grown rs first last number up touches fits =
    let r : ℕ × ℕ = (first, last) in
    let rest = Ascend-back 0 rs (r ∷ []) up in
    let c = cut_joined (rs ++ r ∷ []) rs [] r number refl (Ascend-front 0 rs (r ∷ []) up) rest.0 rest.1 touches tt in
    gained (rs ++ r ∷ []) number first number c (joins_none [] number tt fits)

-- ---- numbers that rise

pub Rises-from : (a b : ℕ) (xs : List ℕ) → a ≤ b → Rises b xs → Rises a xs
Rises-from a b [] le up = tt
Rises-from a b (x ∷ xs) le (low, more) = (omega arith, more)

pub Rises-span : (n a : ℕ) (ys : List ℕ) → Rises (a + n) ys → Rises a (range_with_len a n ++ ys)
Rises-span zero a ys up = Rises-from a (a + 0) ys (omega arith) up
Rises-span (suc n) a ys up = (omega arith, Rises-span n (a + 1) ys (Rises-from (a + 1 + n) (a + suc n) ys (omega arith) up))

pub numbers_rise : (low : ℕ) (rs : List (ℕ × ℕ)) → Ascend low rs → Rises low (numbers rs)
numbers_rise low [] up = tt
numbers_rise low (r ∷ rs) (begins, some, fits, more) =
    Rises-from low r.0 (numbers (r ∷ rs)) begins
    (Rises-span (r.1 + 1 - r.0) r.0 (numbers rs) (Rises-from (r.0 + (r.1 + 1 - r.0)) (r.1 + 2) (numbers rs) (omega arith) (numbers_rise (r.1 + 2) rs more)))

pub has_below_all : (low x : ℕ) (xs : List ℕ) → Rises low xs → x < low → has xs x ≡ false
has_below_all low x [] up lt = refl
has_below_all low x (y ∷ ys) (le, more) lt = rw (ne_eqb x y (omega arith), has_below_all (y + 1) x ys more (omega arith)) refl

-- a number that is there changes nothing
pub insert_there : (low x : ℕ) (xs : List ℕ) → Rises low xs → has xs x ≡ true → insert_key nat_cmp xs x ≡ xs
insert_there low x [] up there = cc
insert_there low x (y ∷ ys) (le, more) there =
    elim (cases_lt x y) [
      | inl less ↦ let not_there : has (y ∷ ys) x ≡ false = has_below_all y x (y ∷ ys) (omega arith, more) less in cc
      | inr not_below ↦ elim (cases_lt y x) [
        | inl above ↦
            let rest : has ys x ≡ true = rw (ne_eqb x y (omega arith)) at there in
            rw (cmp_more x y above) (ap (λ l. y ∷ l) (insert_there (y + 1) x ys more rest))
        | inr same ↦ rw (cmp_same x y (omega arith)) refl
      ]
    ]

-- a new number is one more
pub length-insert_new : (x : ℕ) (xs : List ℕ) → has xs x ≡ false → length (insert_key nat_cmp xs x) ≡ length xs + 1
length-insert_new x [] new = omega arith
length-insert_new x (y ∷ ys) new =
    elim (cases_lt x y) [
      | inl less ↦ rw (cmp_less x y less) (omega arith)
      | inr not_below ↦ elim (cases_lt y x) [
        | inl above ↦
            let rest : has ys x ≡ false = rw (ne_eqb x y (omega arith)) at new in
            rw (cmp_more x y above) (omega (arith, length-insert_new x ys rest))
        | inr same ↦ let there : has (y ∷ ys) x ≡ true = rw (eq-eqb x y (omega arith)) refl in cc
      ]
    ]

-- ---- the greatest number

AllByRecursion-append : (P : ℕ → Type 0) (xs ys : List ℕ) → AllByRecursion P xs → AllByRecursion P ys → AllByRecursion P (xs ++ ys)
AllByRecursion-append P [] ys a b = b
AllByRecursion-append P (x ∷ xs) ys (here, more) b = (here, AllByRecursion-append P xs ys more b)

pub span_up_to : (g n a : ℕ) → a + n ≤ g + 1 → AllByRecursion (λ y. y ≤ g) (range_with_len a n)
span_up_to g zero a le = tt
span_up_to g (suc n) a le = (omega arith, span_up_to g n (a + 1) (omega arith))

numbers_up_to : (g low : ℕ) (rs : List (ℕ × ℕ)) → Ascend low rs → past low rs ≤ g + 2 → AllByRecursion (λ y. y ≤ g) (numbers rs)
numbers_up_to g low [] up le = tt
numbers_up_to g low (r ∷ rs) (begins, some, fits, more) le =
    let reach : r.1 + 2 ≤ past (r.1 + 2) rs = past-le (r.1 + 2) rs more in
    AllByRecursion-append (λ y. y ≤ g) (span r) (numbers rs) (span_up_to g (r.1 + 1 - r.0) r.0 (omega arith)) (numbers_up_to g (r.1 + 2) rs more le)

pub last_is_greatest : (rs t : List (ℕ × ℕ)) (r : ℕ × ℕ) → Ascend 0 rs → rs ≡ t ++ r ∷ [] → (has (numbers rs) r.1 ≡ true) × AllByRecursion (λ y. y ≤ r.1) (numbers rs)
last_is_greatest rs t r up split =
    let parts : Ascend 0 (t ++ r ∷ []) = subst (Ascend 0) split up in
    let last = Ascend-back 0 t (r ∷ []) parts in
    let whole : numbers rs ≡ numbers t ++ (span r ++ []) = ap numbers split ∙ flat_map-append span t (r ∷ []) in (
      rw (whole, has-append (numbers t) (span r ++ []) r.1, has-append (span r) [] r.1, has_inside (r.1 + 1 - r.0) r.0 r.1 last.1 (omega (arith, last.1))) (or-true (has (numbers t) r.1)),
      numbers_up_to r.1 0 rs up (subst (λ l. past 0 l ≤ r.1 + 2) (sym split) (omega (arith, past-push 0 t r))),
    )

-- ---- one number more or not

-- ranges that hold a number gain nothing by it
pub gains_there : (rs : List (ℕ × ℕ)) (number : ℕ) → Ascend 0 rs → has (numbers rs) number ≡ true → Gains rs rs number
gains_there rs number up there = record { ascend = up; gains = sym (insert_there 0 number (numbers rs) (numbers_rise 0 rs up) there) }

-- the numbers from the first to the last of the last range are there
pub has_tail : (rs : List (ℕ × ℕ)) (first last number : ℕ) → Ascend 0 (rs ++ (first, last) ∷ []) → first ≤ number → number ≤ last → has (numbers (rs ++ (first, last) ∷ [])) number ≡ true
has_tail rs first last number up low high =
    has_reaches (rs ++ (first, last) ∷ []) number (Some (first, last)) up (rs, [], refl, low, tt) ∙ le-leb number last high

-- those above are not
pub has_no_more : (rs : List (ℕ × ℕ)) (first last number : ℕ) → Ascend 0 (rs ++ (first, last) ∷ []) → last < number → has (numbers (rs ++ (first, last) ∷ [])) number ≡ false
has_no_more rs first last number up beyond =
    let low = Ascend-back 0 rs ((first, last) ∷ []) up in
    has_reaches (rs ++ (first, last) ∷ []) number (Some (first, last)) up (rs, [], refl, omega (arith, low.1), tt) ∙ lt-leb number last beyond

-- how many numbers there are with one more, which is new or not
pub length-insert : (rs : List (ℕ × ℕ)) (x : ℕ) (new : Bool) → Ascend 0 rs → new ≡ not (has (numbers rs) x)
    → length (insert_key nat_cmp (numbers rs) x) ≡ length (numbers rs) + (if new then 1 else 0)
length-insert rs x new up is =
    let both : (b : Bool) → has (numbers rs) x ≡ b → length (insert_key nat_cmp (numbers rs) x) ≡ length (numbers rs) + (if not b then 1 else 0) = λ b same. elim b as
    (λ d. has (numbers rs) x ≡ d → length (insert_key nat_cmp (numbers rs) x) ≡ length (numbers rs) + (if not d then 1 else 0)) [
      | true ↦ λ there. omega (arith, ap length (insert_there 0 x (numbers rs) (numbers_rise 0 rs up) there))
      | false ↦ λ absent. length-insert_new x (numbers rs) absent
    ] same in
    rw is (both (has (numbers rs) x) refl)

-- ---- a number that lies apart from the last range

-- behind a gap it is a range of its own
pub behind_gap : (rs : List (ℕ × ℕ)) (first last number : ℕ) → Ascend 0 (rs ++ (first, last) ∷ []) → last + 2 ≤ number → number < 2 ^ 64
    → Gains (rs ++ (first, last) ∷ []) ((rs ++ (first, last) ∷ []) ++ (number, number) ∷ []) number
unfolding cut_new joins_none
behind_gap rs first last number up apart fits =
    let whole = rs ++ (first, last) ∷ [] in
    let c = cut_new whole whole [] number (sym (append-nil whole)) up (rw (past-push 0 rs (first, last)) apart) tt in
    gained whole number number number c (joins_none [] number tt fits)

-- before the last range, a number is there where the others have it
pub has_others : (rs : List (ℕ × ℕ)) (r : ℕ × ℕ) (number : ℕ) → Ascend 0 (rs ++ r ∷ []) → number < r.0 → has (numbers (rs ++ r ∷ [])) number ≡ has (numbers rs) number
has_others rs r number up less =
    let last = Ascend-back 0 rs (r ∷ []) up in
    ap (λ l. has l number) (flat_map-append span rs (r ∷ []))
    ∙ has-append (numbers rs) (numbers (r ∷ [])) number
    ∙ rw (has_under number (number + 1) (r ∷ []) (omega (arith, less), last.1, last.2, tt) (omega arith)) (or-false (has (numbers rs) number))

-- a number that goes before some others goes in among those before them
insert_front : (x : ℕ) (xs ys : List ℕ) → insert_key nat_cmp ys x ≡ x ∷ ys → insert_key nat_cmp (xs ++ ys) x ≡ insert_key nat_cmp xs x ++ ys
insert_front x [] ys here = here
insert_front x (y ∷ xs) ys here =
    elim (cases_lt x y) [
      | inl less ↦ rw (cmp_less x y less) refl
      | inr not_below ↦ elim (cases_lt y x) [
        | inl above ↦ rw (cmp_more x y above) (ap (λ l. y ∷ l) (insert_front x xs ys here))
        | inr same ↦ rw (cmp_same x y (omega arith)) refl
      ]
    ]

insert_up_to : (g x : ℕ) (xs : List ℕ) → x ≤ g → AllByRecursion (λ y. y ≤ g) xs → AllByRecursion (λ y. y ≤ g) (insert_key nat_cmp xs x)
insert_up_to g x [] le all = (le, tt)
insert_up_to g x (y ∷ xs) le all =
    elim (cases_lt x y) [
      | inl less ↦ rw (cmp_less x y less) (le, all)
      | inr not_below ↦ elim (cases_lt y x) [
        | inl above ↦ rw (cmp_more x y above) (all.0, insert_up_to g x xs le all.1)
        | inr same ↦ rw (cmp_same x y (omega arith)) all
      ]
    ]

-- where all numbers of a range and of others are no more than one, so is the last of the range
span_within : (g n a : ℕ) (ys : List ℕ) → AllByRecursion (λ y. y ≤ g) (range_with_len a n ++ ys) → 0 < n → (a + n ≤ g + 1) × AllByRecursion (λ y. y ≤ g) ys
span_within g zero a ys all some = absurd (omega arith)
span_within g (suc zero) a ys all some = (omega (arith, all.0), all.1)
span_within g (suc (suc n)) a ys all some = let rest = span_within g (suc n) (a + 1) ys all.1 (omega arith) in (omega (arith, rest.0), rest.1)

past_within : (g low : ℕ) (rs : List (ℕ × ℕ)) → Ascend low rs → low ≤ g + 2 → AllByRecursion (λ y. y ≤ g) (numbers rs) → past low rs ≤ g + 2
past_within g low [] up le all = le
past_within g low (r ∷ rs) (begins, some, fits, more) le all =
    let here = span_within g (r.1 + 1 - r.0) r.0 (numbers rs) all (omega arith) in
    past_within g (r.1 + 2) rs more (omega (arith, here.0, some)) here.1

-- before a gap it goes in among the others
pub before_gap : (old new : List (ℕ × ℕ)) (r : ℕ × ℕ) (number : ℕ) → Ascend 0 (old ++ r ∷ []) → number + 2 ≤ r.0 → Gains old new number → Gains (old ++ r ∷ []) (new ++ r ∷ []) number
before_gap old new r number up apart gains =
    let last = Ascend-back 0 old (r ∷ []) up in
    let front = Ascend-front 0 old (r ∷ []) up in
    let g = r.0 - 2 in
    let others : AllByRecursion (λ y. y ≤ g) (numbers old) = numbers_up_to g 0 old front (omega (arith, last.0, apart)) in
    let all : AllByRecursion (λ y. y ≤ g) (numbers new) = rw gains.gains (insert_up_to g number (numbers old) (omega (arith, apart)) others) in
    let low : past 0 new ≤ r.0 = omega (arith, apart, past_within g 0 new gains.ascend (omega arith) all) in
    let behind : Ascend (number + 1) (r ∷ []) = (omega (arith, apart), last.1, last.2, tt) in
    record {
      ascend = Ascend-append 0 new (r ∷ []) gains.ascend (low, last.1, last.2, tt);
      gains =
          flat_map-append span new (r ∷ [])
          ∙ ap (λ l. l ++ numbers (r ∷ [])) gains.gains
          ∙ sym (ap (λ l. insert_key nat_cmp l number) (flat_map-append span old (r ∷ [])) ∙ insert_front number (numbers old) (numbers (r ∷ [])) (insert_before number (r ∷ []) behind));
    }
