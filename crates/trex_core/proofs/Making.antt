-- A packet, made from what its stream's packets are made of.
use Rattle.std.proofs.Common.{◌≡◌, ℕ, zero, suc, ◌+◌, ◌*◌, ◌<◌, ◌≤◌, ◌^◌, Option, None, Some, List, [], ◌∷◌, ◌++◌, get_or, length, map, take, slice_get, refl, sym, ap, ◌∙◌, subst, arith}
use Rattle.std.specs.Option.{IsSomeAnd, option_map, option_map_or}
use Rattle.std.proofs.lemmas.List.{length-map, map_push, take_more}
use Rattle.std.proofs.lemmas.Option.{slice_get-get_or, slice_get_within}
use Rattle.trex_core.specs.Plan.{packet_bytes}
use Rattle.trex_profile.specs.declared.member.StreamSpec.{StreamSpec}
use Rattle.trex_profile.specs.Packets.{packet_of, program, restarts, stamp_at, values_at, values_of, variables}
use Rattle.trex_profile.specs.declared.flow.Flow.{Flow}
use Rattle.trex_profile.specs.Flow.{stamp_with}
use Rattle.trex_profile.specs.Spec.{IsSpecOf}
use Rattle.trex_profile.specs.Stream.{Stream}
use Rattle.trex_sched.specs.declared.slot.Slot.{Slot}
use Rattle.trex_stamp.specs.declared.header.Stamp.{Stamp}
use Rattle.trex_vars.specs.declared.value.VarValue.{VarValue}
use Rattle.trex_vars.specs.Variable.{Variable, variable_of}
use Rattle.trex_vm.specs.declared.instr.Instr.{Instr}
use Rattle.trex_vm.specs.Packet.{after_all, packet, stamped, trimmed, version_of}
use Rattle.trex_vm.specs.Program.{AreValuesOf, IsFrontOf, IsProgram, IsTemplateOf, ProgramView}
use Rattle.trex_core.specs.declared.maker.TheConstants.{LONGEST_PACKET}

-- what is said of a value that there is
pub some_is : {A : Type 0} (o : Option A) (P : A → Type 0) → IsSomeAnd o P → (x : A) × (o ≡ Some x) × P x
some_is None P there = absurd there
some_is (Some x) P there = (x, refl, there)

-- what is said of the stream at a position
pub at_stream : (p : List Stream) (position : ℕ) (s : Stream) (P : Stream → Type 0) → slice_get p position ≡ Some s → IsSomeAnd (slice_get p position) P → P s
at_stream p position s P there said = subst (λ (o : Option Stream). IsSomeAnd o P) there said

-- the packet of these parts is that of the stream
pub packet_is : (p : List Stream) (base : ℕ) (slot : Slot) (s : Stream) (spec : StreamSpec) (values : List VarValue) (stamp : Option Stamp) (template : List ℕ) (time : ℕ)
    → slice_get p slot.stream ≡ Some s → IsSpecOf s spec → values ≡ values_of s slot.number slot.in_run → time ≡ base * 10 ^ 9 + slot.time
    → stamp ≡ option_map (λ flow. stamp_with flow slot.number time) spec.flow → template ≡ spec.template.items
    → packet spec.program.instrs values stamp template ≡ packet_bytes p base slot
unfolding packet_bytes
packet_is p base slot s spec values stamp template time there is read due header bytes =
    let instrs : spec.program.instrs ≡ program s = ap (λ (view : ProgramView). view.instrs) is.plan in
    let stamped : stamp ≡ stamp_at s slot.number (base * 10 ^ 9 + slot.time) =
    header ∙ ap (option_map (λ (flow : Flow). stamp_with flow slot.number time)) is.flow ∙ ap (stamp_at s slot.number) due in
    ap (λ (is : List Instr). packet is values stamp template) instrs
    ∙ ap (λ (vs : List VarValue). packet (program s) vs stamp template) read
    ∙ ap (λ (h : Option Stamp). packet (program s) (values_of s slot.number slot.in_run) h template) stamped
    ∙ ap (λ (t : List ℕ). packet (program s) (values_of s slot.number slot.in_run) (stamp_at s slot.number (base * 10 ^ 9 + slot.time)) t) (bytes ∙ is.template)
    ∙ ap (λ (o : Option Stream). option_map_or (λ (q : Stream). packet_of q slot.number slot.in_run (base * 10 ^ 9 + slot.time)) o []) (sym there)

-- a stream without variables has no values
pub no_values : (s : Stream) (spec : StreamSpec) (number place : ℕ) → IsSpecOf s spec → spec.vars.items ≡ [] → [] ≡ values_of s number place
no_values s spec number place is none =
    let variables_are : [] ≡ variables s = ap (map variable_of) (sym none) ∙ is.vars in
    ap (λ (variables : List Variable). values_at variables (restarts s) number place) variables_are

-- the version of a packet's latency header is its flow's
pub version-stamp_with : (flow : Option Flow) (number time : ℕ)
    → version_of (option_map (λ flow. stamp_with flow number time) flow) ≡ option_map (λ flow. flow.version) flow
version-stamp_with None number time = refl
version-stamp_with (Some flow) number time = refl

-- What is known where a packet is made: its program is meant for its template and its values, and what the program makes of the front of the
-- template is the packet of its stream, as long as the front.
pub record Made (p : List Stream) (base : ℕ) (slot : Slot) (spec : StreamSpec) (values : List VarValue) (stamp : Option Stamp) (n : ℕ) : Type 0 where
  pub valued : AreValuesOf spec.program values
  pub stamps : version_of stamp ≡ spec.program.stamp
  pub front : IsFrontOf spec.program values (take n spec.template.items)
  pub within : n ≤ length spec.template.items
  pub is : after_all values spec.program.instrs (stamped stamp (take n spec.template.items)) ≡ packet_bytes p base slot
  pub long : length (packet_bytes p base slot) ≡ n
  pub short : length (packet_bytes p base slot) ≤ LONGEST_PACKET

made_is : (p : List Stream) (base : ℕ) (slot : Slot) (s : Stream) (spec : StreamSpec) (values : List VarValue) (stamp : Option Stamp) (n time : ℕ)
    → slice_get p slot.stream ≡ Some s → IsSpecOf s spec → values ≡ values_of s slot.number slot.in_run → time ≡ base * 10 ^ 9 + slot.time
    → stamp ≡ option_map (λ flow. stamp_with flow slot.number time) spec.flow → n ≡ trimmed values spec.program.instrs spec.program.template
    → n ≤ spec.program.template → IsProgram spec.program
    → ((h : Option Stamp) (template : List ℕ) → IsTemplateOf spec.program template → version_of h ≡ spec.program.stamp → length (packet spec.program.instrs values h template) ≡ n)
    → Made p base slot spec values stamp n
made_is p base slot s spec values stamp n time there is read due header len within program lengths =
    let template = spec.template.items in
    let meant : IsTemplateOf spec.program template = subst (IsTemplateOf spec.program) (sym is.template) is.fits in
    let stamps : version_of stamp ≡ spec.program.stamp =
    ap version_of header ∙ version-stamp_with spec.flow slot.number time ∙ ap (option_map (λ (flow : Flow). flow.version)) is.flow
    ∙ sym (ap (λ (view : ProgramView). view.stamp) is.plan) in
    let cut : n ≡ trimmed values spec.program.instrs (length template) = len ∙ ap (trimmed values spec.program.instrs) (sym meant.long) in
    let whole : packet spec.program.instrs values stamp template ≡ packet_bytes p base slot = packet_is p base slot s spec values stamp template time there is read due header refl in
    let long : length (packet_bytes p base slot) ≡ n = ap length (sym whole) ∙ lengths stamp template meant stamps in
    record {
      valued = subst (AreValuesOf spec.program) (sym read) (is.values slot.number slot.in_run);
      stamps = stamps;
      front = record { template = template; meant = meant; is = ap (λ (m : ℕ). take m template) cut };
      within = omega (arith, within, meant.long);
      is = ap (λ (m : ℕ). after_all values spec.program.instrs (stamped stamp (take m template))) cut ∙ whole;
      long = long;
      short = omega (arith, long, within, program.short);
    }

-- the same by what is said of the stream at the packet's position
pub made_of : (p : List Stream) (base : ℕ) (slot : Slot) (spec : StreamSpec) (values : List VarValue) (stamp : Option Stamp) (n time : ℕ)
    → IsSomeAnd (slice_get p slot.stream) (λ s. IsSpecOf s spec) → IsSomeAnd (slice_get p slot.stream) (λ s. values ≡ values_of s slot.number slot.in_run)
    → time ≡ base * 10 ^ 9 + slot.time → stamp ≡ option_map (λ flow. stamp_with flow slot.number time) spec.flow → n ≡ trimmed values spec.program.instrs spec.program.template
    → n ≤ spec.program.template → IsProgram spec.program
    → ((h : Option Stamp) (template : List ℕ) → IsTemplateOf spec.program template → version_of h ≡ spec.program.stamp → length (packet spec.program.instrs values h template) ≡ n)
    → Made p base slot spec values stamp n
made_of p base slot spec values stamp n time is reads due header len within program lengths =
    let s = some_is (slice_get p slot.stream) (λ s. IsSpecOf s spec) is in
    let read = at_stream p slot.stream s.0 (λ s. values ≡ values_of s slot.number slot.in_run) s.1 reads in
    made_is p base slot s.0 spec values stamp n time s.1 s.2 read due header len within program lengths

-- there are as many rows as streams, where each shows the same of both
pub rows_long : {X Y : Type 0} (f : X → Y) (g : Stream → Y) (rows : List X) (p : List Stream) → map f rows ≡ map g p → length rows ≡ length p
rows_long f g rows p same = sym (length-map rows f) ∙ ap length same ∙ length-map p g

-- the row at a position shows that of the stream there
pub row_is : {X Y : Type 0} (f : X → Y) (g : Stream → Y) (rows : List X) (p : List Stream) (position : ℕ) (row : X) → map f rows ≡ map g p
    → position < length p → row ≡ get_or rows position row → IsSomeAnd (slice_get p position) (λ s. f row ≡ g s)
row_is f g rows [] position row same below is = absurd (omega arith)
row_is f g [] (s ∷ p) position row same below is = absurd (cc)
row_is f g (r ∷ rows) (s ∷ p) zero row same below is = let first : f r ≡ g s = cc in ap f is ∙ first
row_is f g (r ∷ rows) (s ∷ p) (suc position) row same below is =
    let rest : map f rows ≡ map g p = cc in row_is f g rows p position row rest (omega arith) is

-- one row more
pub row_more : {X Y : Type 0} (f : X → Y) (g : Stream → Y) (rows : List X) (p : List Stream) (position : ℕ) (row : X) (s : Stream) → map f rows ≡ map g (take position p)
    → slice_get p position ≡ Some s → f row ≡ g s → map f (rows ++ row ∷ []) ≡ map g (take (position + 1) p)
row_more f g rows p position row s same there is =
    let below = slice_get_within p position s there in
    let found : get_or p position s ≡ s = let e = slice_get-get_or p position s below in cc in
    let more : take (position + 1) p ≡ take position p ++ s ∷ [] = take_more p position s below ∙ ap (λ x. take position p ++ x ∷ []) found in
    map_push f rows row ∙ ap (λ xs. xs ++ f row ∷ []) same ∙ ap (λ v. map g (take position p) ++ v ∷ []) is
    ∙ sym (map_push g (take position p) s) ∙ ap (map g) (sym more)
