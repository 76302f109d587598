-- The sample breaks no rule.
use Rattle.std.proofs.Common.{◌≡◌, ℕ, ◌+◌, List, [], ◌∷◌, ◌++◌, map, None, option_map, Err, Ok, sym, ap, subst, ◌∙◌, arith}
use Rattle.std.specs.List.{range_with_len}
use Rattle.std.proofs.lemmas.List.{map-append}
use Rattle.std.proofs.lemmas.List.FromFn.{map-range_with_len_more}
use Rattle.trex_profile.specs.declared.fault.Fault.{Fault}
use Rattle.trex_profile.specs.declared.fault.Fault.TheVariants.{Refused}
use Rattle.trex_profile.specs.declared.raw.RawStream.{RawStream}
use Rattle.trex_profile.specs.declared.refusal.Refusal.{Refusal}
use Rattle.trex_profile.specs.Admission.{refusal_of, admitted}
use Rattle.trex_profile.specs.Answer.{Fails}
use Rattle.trex_profile.specs.Order.{first_each, unless}
use Rattle.trex_profile.specs.Refusal.{in_stream}
use Rattle.trex_profile.specs.Rules.{value_refusal}
use Rattle.trex_profile.specs.Stream.{Stream, raw_stream}
use Rattle.trex_sample.specs.Sampled.{sampled_stream, sampled}
use Rattle.trex_sample.proofs.Values.{values-kept}
use Rattle.trex_sample.proofs.Several.{none-each, several-kept}

pub sample-kept : (seed n : ℕ) → refusal_of (sampled seed n) ≡ None
unfolding sampled
sample-kept seed n =
    let values : first_each value_refusal 0 (map (sampled_stream seed) (range_with_len 0 n)) ≡ None =
    none-each value_refusal (sampled_stream seed) 0 n (λ j low high. ap (option_map (in_stream j)) (values-kept seed j)) in
    rw values (rw (several-kept seed n))

-- so it isn't refused
pub not-refused : (seed n : ℕ) (streams : List Stream) (fault : Fault Refusal) (r : Refusal) → streams ≡ sampled seed n → fault ≡ Refused r → Fails fault (admitted streams) → ⊥
not-refused seed n streams fault r are is fails =
    let refused : admitted streams ≡ Err r = subst (λ (f : Fault Refusal). Fails f (admitted streams)) is fails in
    let kept : refusal_of streams ≡ None = ap refusal_of are ∙ sample-kept seed n in
    let given : admitted streams ≡ Ok streams = ap (λ broken. unless broken streams) kept in
    cc

-- one stream more
pub made-more : (seed position : ℕ) (all : List RawStream) (raw : RawStream) → map raw_stream all ≡ map (sampled_stream seed) (range_with_len 0 position)
    → raw_stream raw ≡ sampled_stream seed position → map raw_stream (all ++ raw ∷ []) ≡ map (sampled_stream seed) (range_with_len 0 (position + 1))
made-more seed position all raw made is =
    map-append raw_stream all (raw ∷ []) ∙ ap (λ front. front ++ raw_stream raw ∷ []) made
    ∙ ap (λ s. map (sampled_stream seed) (range_with_len 0 position) ++ s ∷ []) is ∙ sym (map-range_with_len_more (sampled_stream seed) 0 position position (omega arith))
