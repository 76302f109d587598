-- The order of two keys: never both ways, transitive, and total where stream and number differ.
use Rattle.std.proofs.Common.{◌≡◌, ◌<◌, ◌⊎◌, inl, inr, arith, IsTrue}
use Rattle.std.proofs.lemmas.Bool.{cases_lt}
use Rattle.std.proofs.lemmas.Bool.Decides.{eqb_tells, nat_tests}
use Rattle.trex_merge.specs.declared.key.Key.{Key}
use Rattle.trex_merge.specs.Order.{is_before}

-- the three ways in which one key comes before another
pub data IsBefore (a b : Key) : Type 0 where
  by_time : a.time < b.time → IsBefore a b
  by_stream : a.time ≡ b.time → a.stream < b.stream → IsBefore a b
  by_number : a.time ≡ b.time → a.stream ≡ b.stream → a.number < b.number → IsBefore a b

pub before_is : (a b : Key) → IsTrue (is_before a b) → IsBefore a b
before_is a b test =
    elim (cases_lt a.time b.time) [
      | inl earlier ↦ by_time earlier
      | inr not_earlier ↦ elim (cases_lt b.time a.time) [
        | inl later ↦ absurd (grind (arith, nat_tests, test))
        | inr not_later ↦ elim (cases_lt a.stream b.stream) [
          | inl lower ↦ by_stream (omega arith) lower
          | inr not_lower ↦ elim (cases_lt b.stream a.stream) [
            | inl higher ↦ absurd (grind (arith, nat_tests, test))
            | inr not_higher ↦ by_number (omega arith) (omega arith) (grind (arith, nat_tests, test))
          ]
        ]
      ]
    ]

pub is_before-is : (a b : Key) → IsBefore a b → IsTrue (is_before a b)
is_before-is a b (by_time t) = grind (arith, nat_tests)
is_before-is a b (by_stream t s) = grind (arith, nat_tests)
is_before-is a b (by_number t s n) = grind (arith, nat_tests)

-- not both ways
both_ways : (a b : Key) → IsBefore a b → IsBefore b a → ⊥
both_ways a b (by_time t) (by_time t') = omega arith
both_ways a b (by_time t) (by_stream t' s') = omega arith
both_ways a b (by_time t) (by_number t' s' n') = omega arith
both_ways a b (by_stream t s) (by_time t') = omega arith
both_ways a b (by_stream t s) (by_stream t' s') = omega arith
both_ways a b (by_stream t s) (by_number t' s' n') = omega arith
both_ways a b (by_number t s n) (by_time t') = omega arith
both_ways a b (by_number t s n) (by_stream t' s') = omega arith
both_ways a b (by_number t s n) (by_number t' s' n') = omega arith

pub not_both : (a b : Key) → IsTrue (is_before a b) → IsTrue (is_before b a) → ⊥
not_both a b p q = both_ways a b (before_is a b p) (before_is b a q)

along : (a b c : Key) → IsBefore a b → IsBefore b c → IsBefore a c
along a b c (by_time t) (by_time t') = by_time (omega arith)
along a b c (by_time t) (by_stream t' s') = by_time (omega arith)
along a b c (by_time t) (by_number t' s' n') = by_time (omega arith)
along a b c (by_stream t s) (by_time t') = by_time (omega arith)
along a b c (by_stream t s) (by_stream t' s') = by_stream (omega arith) (omega arith)
along a b c (by_stream t s) (by_number t' s' n') = by_stream (omega arith) (omega arith)
along a b c (by_number t s n) (by_time t') = by_time (omega arith)
along a b c (by_number t s n) (by_stream t' s') = by_stream (omega arith) (omega arith)
along a b c (by_number t s n) (by_number t' s' n') = by_number (omega arith) (omega arith) (omega arith)

pub before_trans : (a b c : Key) → IsTrue (is_before a b) → IsTrue (is_before b c) → IsTrue (is_before a c)
before_trans a b c p q = is_before-is a c (along a b c (before_is a b p) (before_is b c q))

-- of two keys that differ in stream or number, one comes first
pub one_first : (a b : Key) → ¬ ((a.stream ≡ b.stream) × (a.number ≡ b.number)) → IsTrue (is_before a b) ⊎ IsTrue (is_before b a)
one_first a b apart =
    elim (cases_lt a.time b.time) [
      | inl earlier ↦ inl (is_before-is a b (by_time earlier))
      | inr not_earlier ↦ elim (cases_lt b.time a.time) [
        | inl later ↦ inr (is_before-is b a (by_time later))
        | inr not_later ↦ elim (cases_lt a.stream b.stream) [
          | inl lower ↦ inl (is_before-is a b (by_stream (omega arith) lower))
          | inr not_lower ↦ elim (cases_lt b.stream a.stream) [
            | inl higher ↦ inr (is_before-is b a (by_stream (omega arith) higher))
            | inr not_higher ↦ elim (cases_lt a.number b.number) [
              | inl less ↦ inl (is_before-is a b (by_number (omega arith) (omega arith) less))
              | inr not_less ↦ elim (cases_lt b.number a.number) [
                | inl more ↦ inr (is_before-is b a (by_number (omega arith) (omega arith) more))
                | inr not_more ↦ absurd (apart (omega arith, omega arith))
              ]
            ]
          ]
        ]
      ]
    ]

-- no key comes before itself
pub not_before_itself : (a : Key) → IsTrue (is_before a a) → ⊥
not_before_itself a p = not_both a a p p

-- where one key comes before another, each third key comes after the one or before the other
pub before_between : (a b c : Key) → IsTrue (is_before c a) → IsTrue (is_before c b) ⊎ IsTrue (is_before b a)
before_between a b c p =
    elim (eqb_tells a.stream b.stream) [
      | inr other ↦ either (one_first a b (λ same. other.1 same.0))
      | inl streams ↦ elim (eqb_tells a.number b.number) [
        | inr other ↦ either (one_first a b (λ same. other.1 same.1))
        | inl numbers ↦ elim (cases_lt b.time a.time) [
          | inl earlier ↦ inr (is_before-is b a (by_time earlier))
          | inr not_earlier ↦ elim (cases_lt a.time b.time) [
            | inl later ↦ either (inl (is_before-is a b (by_time later)))
            | inr not_later ↦ inl (is_before-is c b (same_key (before_is c a p) (omega arith) streams.1 numbers.1))
          ]
        ]
      ]
    ]
  where
    either : IsTrue (is_before a b) ⊎ IsTrue (is_before b a) → IsTrue (is_before c b) ⊎ IsTrue (is_before b a)
    either (inl ab) = inl (before_trans c a b p ab)
    either (inr ba) = inr ba

    same_key : IsBefore c a → a.time ≡ b.time → a.stream ≡ b.stream → a.number ≡ b.number → IsBefore c b
    same_key (by_time t) times streams numbers = by_time (omega arith)
    same_key (by_stream t s) times streams numbers = by_stream (omega arith) (omega arith)
    same_key (by_number t s n) times streams numbers = by_number (omega arith) (omega arith) (omega arith)
