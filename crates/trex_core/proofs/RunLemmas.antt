-- The packets at the front that stand before a key, counted one by one.
use Rattle.std.proofs.Common.{◌≡◌, ℕ, zero, suc, add-one, ◌+◌, ◌-◌, ◌<◌, ◌≤◌, Bool, true, false, cond, Option, List, [], ◌∷◌, get_or, length, map, take, drop, refl, sym, ap, ◌∙◌, arith}
use Rattle.std.proofs.Math.Seq.{drop-cons}
use Rattle.std.proofs.lemmas.List.{drop_all, get_or-map, length-map, take-map}
use Rattle.trex_merge.specs.declared.key.Key.{Key}
use Rattle.trex_merge.specs.Frames.{Frame, key_of}
use Rattle.trex_merge.specs.Runs.{run_length, stands_before}
use Rattle.trex_core.specs.declared.waiting.Waiting.{Waiting}
use Rattle.trex_core.specs.Records.{AreBatch, frames_of, text_length, waiting_of}
use Rattle.trex_core.specs.Texts.{records_text}
use Rattle.trex_core.proofs.Records.{first_records_of}

-- some packet, for places where there is none
abbrev pub no_frame : Frame
no_frame = record { time = 0; stream = 0; number = 0; bytes = [] }

-- what is known of the packet at a place has its key
key_at : (frames : List Frame) (ws : List Waiting) (k : ℕ) → ws ≡ map waiting_of frames → k < length frames
    → (get_or ws k (waiting_of no_frame)).key ≡ key_of (get_or frames k no_frame)
key_at frames ws k known below =
    ap (λ (w : Waiting). w.key) (ap (λ (v : List Waiting). get_or v k (waiting_of no_frame)) known ∙ get_or-map waiting_of frames k no_frame (waiting_of no_frame) below)

-- where the packet at a place stands before the key, the run goes on
run_more : (before : Option Key) (most k : ℕ) (frames : List Frame) → k < length frames → k < most → stands_before (key_of (get_or frames k no_frame)) before ≡ true
    → run_length before (most - k) (drop k frames) ≡ suc (run_length before (most - (k + 1)) (drop (k + 1) frames))
run_more before most k frames below few stands =
    let f = get_or frames k no_frame in
    let left : most - k ≡ suc (most - (k + 1)) = omega arith in
    let rest : drop k frames ≡ f ∷ drop (k + 1) frames = drop-cons frames k no_frame below ∙ ap (λ n. f ∷ drop n frames) (sym (add-one k)) in
    ap (λ m. run_length before m (drop k frames)) left
    ∙ ap (run_length before (suc (most - (k + 1)))) rest
    ∙ ap (λ (t : Bool). cond t (suc (run_length before (most - (k + 1)) (drop (k + 1) frames))) 0) stands

-- where it doesn't, the run ends
run_stops : (before : Option Key) (most k : ℕ) (frames : List Frame) → k < length frames → k < most → stands_before (key_of (get_or frames k no_frame)) before ≡ false
    → run_length before (most - k) (drop k frames) ≡ 0
run_stops before most k frames below few stands =
    let f = get_or frames k no_frame in
    let left : most - k ≡ suc (most - (k + 1)) = omega arith in
    let rest : drop k frames ≡ f ∷ drop (k + 1) frames = drop-cons frames k no_frame below ∙ ap (λ n. f ∷ drop n frames) (sym (add-one k)) in
    ap (λ m. run_length before m (drop k frames)) left
    ∙ ap (run_length before (suc (most - (k + 1)))) rest
    ∙ ap (λ (t : Bool). cond t (suc (run_length before (most - (k + 1)) (drop (k + 1) frames))) 0) stands

-- a count of the run's packets so far, and the rest of it
abbrev pub IsCounted : Option Key → ℕ → List Waiting → ℕ → Type 0
IsCounted before most ws k = (frames : List Frame) → ws ≡ map waiting_of frames → run_length before most frames ≡ k + run_length before (most - k) (drop k frames)

pub counted_none : (before : Option Key) (most : ℕ) (ws : List Waiting) → IsCounted before most ws 0
counted_none before most ws = λ frames known. let e : most - 0 ≡ most = omega arith in
    let h : run_length before most frames ≡ run_length before (most - 0) (drop 0 frames) = ap (λ m. run_length before m frames) (sym e) in
    omega (arith, h)

pub counted_more : (before : Option Key) (most k : ℕ) (ws : List Waiting) → IsCounted before most ws k → k < length ws → k < most
    → stands_before (get_or ws k (waiting_of no_frame)).key before ≡ true → IsCounted before most ws (k + 1)
counted_more before most k ws counted below few stands = λ frames known.
    let within : k < length frames = omega (arith, ap length known, length-map frames waiting_of) in
    let key = key_at frames ws k known within in
    let more = run_more before most k frames within few (ap (λ (x : Key). stands_before x before) (sym key) ∙ stands) in
    omega (arith, counted frames known, more)

pub counted_stops : (before : Option Key) (most k : ℕ) (ws : List Waiting) → IsCounted before most ws k → k < length ws → k < most
    → stands_before (get_or ws k (waiting_of no_frame)).key before ≡ false → (frames : List Frame) → ws ≡ map waiting_of frames → k ≡ run_length before most frames
counted_stops before most k ws counted below few stands = λ frames known.
    let within : k < length frames = omega (arith, ap length known, length-map frames waiting_of) in
    let key = key_at frames ws k known within in
    let none = run_stops before most k frames within few (ap (λ (x : Key). stands_before x before) (sym key) ∙ stands) in
    omega (arith, counted frames known, none)

pub counted_all : (before : Option Key) (most k : ℕ) (ws : List Waiting) → IsCounted before most ws k → length ws ≤ k → (frames : List Frame) → ws ≡ map waiting_of frames
    → k ≡ run_length before most frames
counted_all before most k ws counted all = λ frames known.
    let none : drop k frames ≡ [] = drop_all k frames (omega (arith, ap length known, length-map frames waiting_of)) in
    omega (arith, counted frames known, ap (run_length before (most - k)) none)

-- a run of at most so many packets is one of the first so many
pub run_length-take : (before : Option Key) (most : ℕ) (frames : List Frame) → run_length before most frames ≡ run_length before (length (take most frames)) (take most frames)
run_length-take before zero [] = refl
run_length-take before (suc most) [] = refl
run_length-take before zero (f ∷ frames) = refl
run_length-take before (suc most) (f ∷ frames) =
    ap (λ n. cond (stands_before (key_of f) before) (suc n) 0) (run_length-take before most frames)

take_within : {X : Type 0} (m : ℕ) (xs : List X) → length (take m xs) ≤ m
take_within zero xs = omega arith
take_within (suc m) [] = omega arith
take_within (suc m) (x ∷ xs) = let rest = take_within m xs in omega arith

take-take_within : {X : Type 0} (n m : ℕ) (xs : List X) → n ≤ m → take n (take m xs) ≡ take n xs
take-take_within zero m xs short = refl
take-take_within (suc n) zero xs short = absurd (omega arith)
take-take_within (suc n) (suc m) [] short = refl
take-take_within (suc n) (suc m) (x ∷ xs) short = ap (λ ys. x ∷ ys) (take-take_within n m xs (omega arith))

-- of some packets at the front of a batch the first ones, so many, with so many bytes of its text, are those that stand before a key
pub record IsRun (base : ℕ) (ws front : List Waiting) (text : List ℕ) (before : Option Key) (most count bytes : ℕ) : Type 0 where
  pub packets : take count front ≡ map waiting_of (take (run_length before most (frames_of ws text)) (frames_of ws text))
  pub joined : take bytes text ≡ records_text base (take (run_length before most (frames_of ws text)) (frames_of ws text))
  pub within : bytes ≤ length text

pub run_is : (base : ℕ) (ws front : List Waiting) (text : List ℕ) (before : Option Key) (most count bytes : ℕ) → AreBatch base ws text → front ≡ take most ws
    → ((frames : List Frame) → front ≡ map waiting_of frames → count ≡ run_length before (length front) frames)
    → count ≤ length front → bytes ≡ text_length (take count front) → IsRun base ws front text before most count bytes
run_is base ws front text before most count bytes batch is counted short measured =
    let fs = frames_of ws text in
    let n = run_length before most fs in
    let known : front ≡ map waiting_of (take most fs) = is ∙ ap (take most) batch.known ∙ take-map waiting_of most fs in
    let long : length front ≡ length (take most fs) = ap length known ∙ length-map (take most fs) waiting_of in
    let same : count ≡ n = counted (take most fs) known ∙ ap (λ m. run_length before m (take most fs)) long ∙ sym (run_length-take before most fs) in
    let few : count ≤ most = omega (arith, take_within most ws, ap length is) in
    let first : take count front ≡ take n ws = ap (take count) is ∙ take-take_within count most ws few ∙ ap (λ m. take m ws) same in
    let size : bytes ≡ text_length (take n ws) = measured ∙ ap text_length first in
    let records = first_records_of base n ws text batch in
    record {
      packets = first ∙ ap (take n) batch.known ∙ take-map waiting_of n fs;
      joined = ap (λ m. take m text) size ∙ records.0;
      within = omega (arith, size, records.1);
    }
