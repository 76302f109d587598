-- Lists of instructions: each finds its header when its turn comes, and what was fixed verifies at the end.
use Rattle.std.proofs.Common.{◌≡◌, ℕ, ◌+◌, ◌-◌, ◌<◌, ◌≤◌, List, [], ◌∷◌, ◌++◌, length, get_or, take, refl, sym, ap, subst, ◌∙◌, arith, Bool, false, not, Option, Some, None, All, IfSome}
use Rattle.std.proofs.lemmas.Bool.{false≢true, false_from_ne_true, ltb-false, not-false, or_parts}
use Rattle.std.proofs.lemmas.List.{get_or-take, length-take-le, take_more}
use Rattle.std.proofs.lemmas.List.Elements.{recursion_from_All, All-from_recursion, All-take}
use Rattle.std.proofs.lemmas.List.Folds.{list_any_at}
use Rattle.std.specs.List.{AllByRecursion, list_any}
use Rattle.std.specs.Option.{option_map_or}
use Rattle.trex_fields.proofs.BytesLemmas.{length-put, get_or-put_before}
use Rattle.trex_stamp.specs.declared.header.Stamp.{Stamp}
use Rattle.trex_stamp.specs.declared.header.Version.{Version}
use Rattle.trex_stamp.specs.Stamp.{shortest_stamped, size_of, stamp_bytes}
use Rattle.trex_stamp.proofs.StampLemmas.{length-stamp_bytes}
use Rattle.trex_vars.specs.declared.value.VarValue.{VarValue}
use Rattle.trex_vm.specs.declared.effect.Fix.{Fix}
use Rattle.trex_vm.specs.declared.instr.Instr.{Instr}
use Rattle.trex_vm.specs.Effect.{end_of, fix_of, span_of, writes_byte}
use Rattle.trex_vm.specs.Fix.{header_of, ip_version, protocol_place}
use Rattle.trex_vm.specs.Packet.{after, after_all, trimmed, version_of, stamped, stamped_template, packet}
use Rattle.trex_vm.specs.Cover.{Covers, StaysFixed, HeaderVerifies}
use Rattle.trex_vm.specs.Rules.{header_size, no_room_for_stamp, writes_past, finds_header, misses_header, overwrites_kind, overwrites_kind_of, overwrites_header_kind}
use Rattle.trex_vm.specs.Program.{ProgramView, room, IsProgram, IsTemplateOf, AreValuesOf}
use Rattle.trex_vm.proofs.Fixed.{places}
use Rattle.trex_vm.proofs.Steps.{SameKind, SameHeader, length-after, length-after_all, get_or-after_all, after_all-append, finds_header-long, misses_header-same, misses_header-wider, writes_past-wider, place-within, after-verifies, HeaderVerifies-same}

-- a test that no instruction of a list passes fails at each
pub none_pass : (p : Instr → Bool) (instrs : List Instr) → list_any p instrs ≡ false → All (λ i. p i ≡ false) instrs
none_pass p instrs none = λ k d below. false_from_ne_true (p (get_or instrs k d)) (λ passes. false≢true (sym none ∙ list_any_at p instrs k d below passes))

-- no instruction of the list overwrites the kind of the header that this one names
abbrev pub KeepsKinds : List Instr → Instr → Type 0
KeepsKinds instrs other = All (λ i. overwrites_kind_of i other ≡ false) instrs

-- what a list of instructions and its bytes have: each writes and finds its header within the bytes, and none overwrites a header's kind
pub record Fit (instrs : List Instr) (b : List ℕ) (limit : ℕ) : Type 0 where
  pub places : All (λ i. writes_past limit i ≡ false) instrs
  pub headers : All (λ i. misses_header b limit i ≡ false) instrs
  pub kinds : All (KeepsKinds instrs) instrs

pub KeepsKinds-none : (instrs : List Instr) → list_any (overwrites_header_kind instrs) instrs ≡ false → All (KeepsKinds instrs) instrs
KeepsKinds-none instrs none = λ k d below. λ j e within.
    none_pass (overwrites_kind_of (get_or instrs j e)) instrs (none_pass (overwrites_header_kind instrs) instrs none j e within) k d below

-- one more instruction
pub after_all-more : (values : List VarValue) (instrs : List Instr) (b : List ℕ) (i : ℕ) (d : Instr) → i < length instrs
    → after_all values (take (i + 1) instrs) b ≡ after values (get_or instrs i d) (after_all values (take i instrs) b)
after_all-more values instrs b i d below = ap (λ (xs : List Instr). after_all values xs b) (take_more instrs i d below) ∙ after_all-append values (take i instrs) (get_or instrs i d ∷ []) b

All-places : (instrs : List Instr) (b : List ℕ) (limit : ℕ) → Fit instrs b limit → All (λ i. end_of (span_of i) ≤ limit) instrs
All-places instrs b limit fit = λ k d below. place-within (get_or instrs k d) b limit (fit.places k d below) (fit.headers k d below)

-- instructions that don't overwrite a header's kind keep its first byte and its protocol or next header
keeps_header : (values : List VarValue) (instrs : List Instr) (b : List ℕ) (n : ℕ) (fix : Fix) → All (λ i. end_of (span_of i) ≤ n) instrs → n ≤ length b
    → All (λ i. overwrites_kind i fix ≡ false) instrs → SameKind fix b (after_all values instrs b)
keeps_header values instrs b n fix places wide keeps =
    let at = header_of fix in
    let protocol = protocol_place fix in
    let within = recursion_from_All (λ i. end_of (span_of i) ≤ n) instrs places in
    let both : (k : ℕ) (d : Instr) → k < length instrs → (writes_byte (get_or instrs k d) at ≡ false) × (writes_byte (get_or instrs k d) protocol ≡ false) =
    λ k d below. or_parts (writes_byte (get_or instrs k d) at) (writes_byte (get_or instrs k d) protocol) (keeps k d below) in (
      sym (get_or-after_all values instrs b n at within wide (recursion_from_All (λ i. writes_byte i at ≡ false) instrs (λ k d below. (both k d below).0))),
      sym (get_or-after_all values instrs b n protocol within wide (recursion_from_All (λ i. writes_byte i protocol ≡ false) instrs (λ k d below. (both k d below).1))),
    )

SameHeader-after_all : (values : List VarValue) (instrs : List Instr) (i : Instr) (b : List ℕ) (n : ℕ) → All (λ j. end_of (span_of j) ≤ n) instrs → n ≤ length b → KeepsKinds instrs i
    → SameHeader i b (after_all values instrs b)
SameHeader-after_all values instrs i b n places wide = by_fix (fix_of i)
  where
    by_fix : (fix : Option Fix) → All (λ j. option_map_or (overwrites_kind j) fix false ≡ false) instrs → IfSome fix (λ it. SameKind it b (after_all values instrs b))
    by_fix None keeps = tt
    by_fix (Some fix) keeps = keeps_header values instrs b n fix places wide keeps

-- each instruction writes and finds its header when its turn comes
pub Fit-in_turn : (values : List VarValue) (instrs : List Instr) (b : List ℕ) (i : ℕ) (d : Instr) → Fit instrs b (length b) → i < length instrs
    → (writes_past (length (after_all values (take i instrs) b)) (get_or instrs i d) ≡ false)
    × (misses_header (after_all values (take i instrs) b) (length (after_all values (take i instrs) b)) (get_or instrs i d) ≡ false)
Fit-in_turn values instrs b i d fit below =
    let c = after_all values (take i instrs) b in
    let it = get_or instrs i d in
    let places = All-take (λ j. end_of (span_of j) ≤ length b) i instrs (All-places instrs b (length b) fit) in
    let long : length c ≡ length b = length-after_all values (take i instrs) b (length b) (recursion_from_All (λ j. end_of (span_of j) ≤ length b) (take i instrs) places) (omega arith) in
    let kept = All-take (λ j. overwrites_kind_of j it ≡ false) i instrs (fit.kinds i d below) in
    let same = SameHeader-after_all values (take i instrs) it b (length b) places (omega arith) kept in (
      writes_past-wider it (length b) (length c) (omega arith) (fit.places i d below),
      misses_header-wider it c (length b) (length c) (omega arith) (sym (misses_header-same it b c (length b) same) ∙ fit.headers i d below),
    )

pub length-stamped : (stamp : Option Stamp) (b : List ℕ) → header_size (version_of stamp) ≤ length b → length (stamped stamp b) ≡ length b
length-stamped None b long = refl
length-stamped (Some s) b long = length-put (length b - size_of s.version) (stamp_bytes s) b (omega (arith, length-stamp_bytes s))

-- the bytes in front of the latency header stay
get_or-stamped : (stamp : Option Stamp) (b : List ℕ) (k : ℕ) → header_size (version_of stamp) ≤ length b → k < length b - header_size (version_of stamp)
    → get_or (stamped stamp b) k 0 ≡ get_or b k 0
get_or-stamped None b k long below = refl
get_or-stamped (Some s) b k long below =
    get_or-put_before (length b - size_of s.version) (stamp_bytes s) b k 0 (omega (arith, length-stamp_bytes s)) below

-- what a run of a program knows
pub record Runs (p : ProgramView) (values : List VarValue) (stamp : Option Stamp) (template : List ℕ) : Type 0 where
  pub program : IsProgram p
  pub meant : IsTemplateOf p template
  pub valued : AreValuesOf p values
  pub stamps : version_of stamp ≡ p.stamp

-- the packet's length
abbrev pub cut : ProgramView → List VarValue → List ℕ → ℕ
cut p values template = trimmed values p.instrs (length template)

-- the packet's length lies from the least packet length to the template's length
pub Runs-cut : (p : ProgramView) (values : List VarValue) (stamp : Option Stamp) (template : List ℕ) → Runs p values stamp template
    → (p.least ≤ cut p values template) × (cut p values template ≤ length template)
Runs-cut p values stamp template runs =
    let same : cut p values template ≡ trimmed values p.instrs p.template = ap (trimmed values p.instrs) runs.meant.long in
    (omega (arith, runs.valued.least), omega (arith, runs.valued.most, runs.meant.long))

-- a packet with room for its latency header is no shorter than that
header_size-room : (stamp : Option Version) (shortest : ℕ) → no_room_for_stamp shortest stamp ≡ false → header_size stamp ≤ shortest
header_size-room None shortest room = omega arith
header_size-room (Some version) shortest room = omega (arith, ltb-false shortest (shortest_stamped version) room)

pub Runs-long : (p : ProgramView) (values : List VarValue) (stamp : Option Stamp) (template : List ℕ) → Runs p values stamp template
    → header_size (version_of stamp) ≤ cut p values template
Runs-long p values stamp template runs =
    omega (arith, ap header_size runs.stamps, header_size-room p.stamp p.least runs.program.stamp, (Runs-cut p values stamp template runs).0)

-- the room ends in front of the latency header
pub Runs-room : (p : ProgramView) (values : List VarValue) (stamp : Option Stamp) (template : List ℕ) → Runs p values stamp template
    → room p ≤ cut p values template - header_size (version_of stamp)
Runs-room p values stamp template runs = omega (arith, ap header_size runs.stamps, (Runs-cut p values stamp template runs).0)

-- the stamped template has the template's bytes within the room
get_or-stamped_template : (p : ProgramView) (values : List VarValue) (stamp : Option Stamp) (template : List ℕ) (k : ℕ) → Runs p values stamp template → k < room p
    → get_or template k 0 ≡ get_or (stamped_template p.instrs values stamp template) k 0
get_or-stamped_template p values stamp template k runs below =
    let n = cut p values template in
    let sizes = Runs-cut p values stamp template runs in
    let b = take n template in
    let long : length b ≡ n = length-take-le n template sizes.1 in
    let wide : header_size (version_of stamp) ≤ length b = omega (arith, Runs-long p values stamp template runs) in
    let front : k < length b - header_size (version_of stamp) = omega (arith, Runs-room p values stamp template runs) in
    sym (get_or-stamped stamp b k wide front ∙ get_or-take n template k 0 (omega (arith, Runs-room p values stamp template runs)))

SameHeader-stamped_template : (i : Instr) (p : ProgramView) (values : List VarValue) (stamp : Option Stamp) (template : List ℕ) → Runs p values stamp template
    → misses_header template (room p) i ≡ false → SameHeader i template (stamped_template p.instrs values stamp template)
SameHeader-stamped_template i p values stamp template runs = by_fix (fix_of i)
  where
    by_fix : (fix : Option Fix) → option_map_or (λ it. not (finds_header template (room p) it)) fix false ≡ false → IfSome fix (λ it. SameKind it template (stamped_template p.instrs values stamp template))
    by_fix None found = tt
    by_fix (Some fix) found =
        let long = finds_header-long fix template (room p) (not-false (finds_header template (room p) fix) found) in
        let within = (places (ip_version fix)).within_protocol in
        (get_or-stamped_template p values stamp template (header_of fix) runs (omega (arith, long)), get_or-stamped_template p values stamp template (protocol_place fix) runs (omega (arith, long)))

pub length-stamped_template : (p : ProgramView) (values : List VarValue) (stamp : Option Stamp) (template : List ℕ) → Runs p values stamp template
    → length (stamped_template p.instrs values stamp template) ≡ cut p values template
length-stamped_template p values stamp template runs =
    let n = cut p values template in
    let long : length (take n template) ≡ n = length-take-le n template (Runs-cut p values stamp template runs).1 in
    length-stamped stamp (take n template) (omega (arith, Runs-long p values stamp template runs)) ∙ long

-- the program's instructions fit its stamped template
pub Fit-stamped_template : (p : ProgramView) (values : List VarValue) (stamp : Option Stamp) (template : List ℕ) → Runs p values stamp template
    → Fit p.instrs (stamped_template p.instrs values stamp template) (cut p values template)
Fit-stamped_template p values stamp template runs =
    let b = stamped_template p.instrs values stamp template in
    let n = cut p values template in
    let wide : room p ≤ n = omega (arith, Runs-room p values stamp template runs) in
    let places = none_pass (writes_past (room p)) p.instrs runs.program.places in
    let headers = none_pass (misses_header template (room p)) p.instrs runs.meant.headers in
    record {
      places = λ k d below. writes_past-wider (get_or p.instrs k d) (room p) n wide (places k d below);
      headers = λ k d below.
          let i = get_or p.instrs k d in
          let found = headers k d below in
          misses_header-wider i b (room p) n wide (sym (misses_header-same i template b (room p) (SameHeader-stamped_template i p values stamp template runs found)) ∙ found);
      kinds = KeepsKinds-none p.instrs runs.program.kinds;
    }

parts : (P : Instr → Type 0) (before : List Instr) (fix : Instr) (later : List Instr) → AllByRecursion P (before ++ fix ∷ later)
    → AllByRecursion P before × P fix × AllByRecursion P later
parts P [] fix later all = (tt, all.0, all.1)
parts P (x ∷ xs) fix later all = let rest = parts P xs fix later all.1 in ((all.0, rest.0), rest.1, rest.2)

-- what holds of all instructions holds of those before a fix, of it and of the later ones
All-parts : (P : Instr → Type 0) (before : List Instr) (fix : Instr) (later : List Instr) → All P (before ++ fix ∷ later)
    → All P before × P fix × All P later
All-parts P before fix later all =
    let pieces = parts P before fix later (recursion_from_All P (before ++ fix ∷ later) all) in
    (All-from_recursion P before pieces.0, pieces.1, All-from_recursion P later pieces.2)

-- a header that was fixed verifies at the end, where no later instruction writes what its checksum covers
after_all-verifies : (values : List VarValue) (before : List Instr) (fix : Instr) (later : List Instr) (b : List ℕ) → Fit (before ++ fix ∷ later) b (length b)
    → StaysFixed fix later (after_all values (before ++ fix ∷ later) b) → HeaderVerifies fix (after_all values (before ++ fix ∷ later) b)
after_all-verifies values before fix later b fit stays =
    let n = length b in
    let Fits : Instr → Type 0 = λ i. end_of (span_of i) ≤ n in
    let places = All-parts Fits before fix later (All-places (before ++ fix ∷ later) b n fit) in
    let kept = All-parts (λ i. overwrites_kind_of i fix ≡ false) before fix later (All-parts (KeepsKinds (before ++ fix ∷ later)) before fix later fit.kinds).1 in
    let start = after_all values before b in
    let start_long : length start ≡ n = length-after_all values before b n (recursion_from_All Fits before places.0) (omega arith) in
    let same_start = SameHeader-after_all values before fix b n places.0 (omega arith) kept.0 in
    let found = (All-parts (λ i. misses_header b n i ≡ false) before fix later fit.headers).1 in
    let start_finds = misses_header-wider fix start n (length start) (omega arith) (sym (misses_header-same fix b start n same_start) ∙ found) in
    let fixed = after values fix start in
    let fixed_long : length fixed ≡ length start = length-after values fix start (omega (arith, places.1)) in
    let end = after_all values later fixed in
    let wide : n ≤ length fixed = omega arith in
    let end_long : length end ≡ length fixed = length-after_all values later fixed n (recursion_from_All Fits later places.2) wide in
    let whole : after_all values (before ++ fix ∷ later) b ≡ end = after_all-append values before (fix ∷ later) b in
    let agree : (k : ℕ) → Covers fix end k → get_or fixed k 0 ≡ get_or end k 0 = λ k covers.
    sym (get_or-after_all values later fixed n k (recursion_from_All Fits later places.2) wide (recursion_from_All (λ i. writes_byte i k ≡ false) later ((subst (StaysFixed fix later) whole stays) k covers))) in
    subst (HeaderVerifies fix) (sym whole)
    (HeaderVerifies-same fix fixed end (sym end_long) (SameHeader-after_all values later fix fixed n places.2 wide kept.2) agree (after-verifies values fix start start_finds))

-- every header that a run fixed verifies, where no later instruction writes what its checksum covers
pub packet-verifies : (p : ProgramView) (values : List VarValue) (stamp : Option Stamp) (template : List ℕ) → Runs p values stamp template
    → (before : List Instr) (fix : Instr) (later : List Instr) → p.instrs ≡ before ++ fix ∷ later
    → StaysFixed fix later (packet p.instrs values stamp template) → HeaderVerifies fix (packet p.instrs values stamp template)
packet-verifies p values stamp template runs before fix later is =
    let b = stamped_template p.instrs values stamp template in
    let Goal : List Instr → Type 0 = λ instrs. StaysFixed fix later (after_all values instrs b) → HeaderVerifies fix (after_all values instrs b) in
    let FitWithin : ℕ → Type 0 = λ n. Fit p.instrs b n in
    let FitIn : List Instr → Type 0 = λ instrs. Fit instrs b (length b) in
    let fit : Fit p.instrs b (length b) = subst FitWithin (sym (length-stamped_template p values stamp template runs)) (Fit-stamped_template p values stamp template runs) in
    subst Goal (sym is) (after_all-verifies values before fix later b (subst FitIn is fit))

pub length-packet : (p : ProgramView) (values : List VarValue) (stamp : Option Stamp) (template : List ℕ) → Runs p values stamp template
    → length (packet p.instrs values stamp template) ≡ cut p values template
length-packet p values stamp template runs =
    let n = cut p values template in
    let b = stamped_template p.instrs values stamp template in
    let Fits : Instr → Type 0 = λ i. end_of (span_of i) ≤ n in
    let long = length-stamped_template p values stamp template runs in
    length-after_all values p.instrs b n (recursion_from_All Fits p.instrs (All-places p.instrs b n (Fit-stamped_template p values stamp template runs))) (omega arith) ∙ long
