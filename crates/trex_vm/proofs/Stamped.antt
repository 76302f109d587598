-- A packet with a latency header ends in it: no instruction writes behind the room.
use Rattle.std.proofs.Common.{◌≡◌, ℕ, ◌+◌, ◌-◌, ◌<◌, ◌≤◌, List, ◌++◌, length, get_or, take, drop, sym, ap, ◌∙◌, arith, Some, false, All}
use Rattle.std.proofs.Math.Seq.{drop-length}
use Rattle.std.proofs.lemmas.Bool.Decides.{nat_tests}
use Rattle.std.proofs.lemmas.List.{append-nil, drop_at, length-take-le, take-append-drop}
use Rattle.std.proofs.lemmas.List.Elements.{recursion_from_All}
use Rattle.std.proofs.lemmas.List.Folds.{drop_split}
use Rattle.std.specs.List.{slice_range}
use Rattle.trex_fields.specs.Bytes.{put}
use Rattle.trex_fields.proofs.BytesLemmas.{slice_range-same}
use Rattle.trex_stamp.specs.declared.header.Stamp.{Stamp}
use Rattle.trex_stamp.specs.Stamp.{size_of, stamp_bytes}
use Rattle.trex_stamp.proofs.StampLemmas.{length-stamp_bytes}
use Rattle.trex_vars.specs.declared.value.VarValue.{VarValue}
use Rattle.trex_vm.specs.declared.instr.Instr.{Instr}
use Rattle.trex_vm.specs.Effect.{end_of, span_of, writes_byte}
use Rattle.trex_vm.specs.Packet.{stamped_template, packet, stamped}
use Rattle.trex_vm.specs.Program.{ProgramView, room}
use Rattle.trex_vm.specs.Rules.{misses_header, writes_past}
use Rattle.trex_vm.proofs.Steps.{get_or-after_all, place-within}
use Rattle.trex_vm.proofs.Theorem.{cut, length-stamped_template, length-packet, none_pass, Runs, Runs-cut, Runs-long, Runs-room}

-- lists that agree from a place on have one rest
rest-same : (m : ℕ) (b c : List ℕ) → length b ≡ length c → m ≤ length b → ((k : ℕ) → m ≤ k → k < length b → get_or b k 0 ≡ get_or c k 0) → drop m b ≡ drop m c
rest-same m b c long within agree =
    drop_split b m (length b) within
    ∙ ap (λ (rest : List ℕ). slice_range b m (length b) ++ rest) (drop-length b)
    ∙ append-nil (slice_range b m (length b))
    ∙ slice_range-same m (length b) b c long agree
    ∙ sym (drop_split c m (length b) within
    ∙ ap (λ (rest : List ℕ). slice_range c m (length b) ++ rest) (ap (λ (n : ℕ). drop n c) long ∙ drop-length c)
    ∙ append-nil (slice_range c m (length b)))

-- bytes that are put at the end are the last
pub put-end : (at : ℕ) (new b : List ℕ) → at + length new ≡ length b → put at new b ≡ take at b ++ new
unfolding put
put-end at new b all =
    ap (λ (rest : List ℕ). take at b ++ (new ++ rest)) (ap (λ (n : ℕ). drop n b) all ∙ drop-length b)
    ∙ ap (λ (end : List ℕ). take at b ++ end) (append-nil new)

-- a stamped packet ends in its header, before the instructions
stamped-rest : (s : Stamp) (b : List ℕ) → size_of s.version ≤ length b → drop (length b - size_of s.version) (stamped (Some s) b) ≡ stamp_bytes s
stamped-rest s b long =
    let at = length b - size_of s.version in
    ap (drop at) (put-end at (stamp_bytes s) b (omega (arith, length-stamp_bytes s)))
    ∙ drop_at (take at b) (stamp_bytes s) at (length-take-le at b (omega arith))

-- a byte behind the room is written by no instruction
unwritten : (i : Instr) (limit k : ℕ) → end_of (span_of i) ≤ limit → limit ≤ k → writes_byte i k ≡ false
unwritten i limit k within behind = grind (arith, nat_tests)

-- a packet with a latency header ends in it
pub packet-stamped : (p : ProgramView) (values : List VarValue) (s : Stamp) (template : List ℕ) → Runs p values (Some s) template
    → (front : List ℕ) × (packet p.instrs values (Some s) template ≡ front ++ stamp_bytes s)
packet-stamped p values s template runs =
    let n = cut p values template in
    let m = n - size_of s.version in
    let b = stamped_template p.instrs values (Some s) template in
    let whole = packet p.instrs values (Some s) template in
    let start = take n template in
    let start_long : length start ≡ n = length-take-le n template (Runs-cut p values (Some s) template runs).1 in
    let wide = Runs-long p values (Some s) template runs in
    let front_long = length-stamped_template p values (Some s) template runs in
    let whole_long = length-packet p values (Some s) template runs in
    let behind : room p ≤ m = Runs-room p values (Some s) template runs in
    let places = none_pass (writes_past (room p)) p.instrs runs.program.places in
    let headers = none_pass (misses_header template (room p)) p.instrs runs.meant.headers in
    let within : All (λ i. end_of (span_of i) ≤ room p) p.instrs =
    λ j d below. place-within (get_or p.instrs j d) template (room p) (places j d below) (headers j d below) in
    let each = recursion_from_All (λ i. end_of (span_of i) ≤ room p) p.instrs within in
    let rest : drop m whole ≡ drop m b = rest-same m whole b (omega arith) (omega arith) (λ k from below.
    get_or-after_all values p.instrs b (room p) k each (omega arith)
    (recursion_from_All (λ i. writes_byte i k ≡ false) p.instrs (λ j d less. unwritten (get_or p.instrs j d) (room p) k (within j d less) (omega arith)))) in
    let header : drop m b ≡ stamp_bytes s = ap (λ (at : ℕ). drop (at - size_of s.version) b) (sym start_long) ∙ stamped-rest s start (omega arith) in
    (take m whole, sym (take-append-drop m whole) ∙ ap (λ (xs : List ℕ). take m whole ++ xs) (rest ∙ header))
