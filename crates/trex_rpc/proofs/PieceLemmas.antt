-- A text cut after each line feed, from its first line on.
use Rattle.std.proofs.Common.{◌≡◌, ℕ, ◌≤◌, Bool, true, false, ◌||◌, List, [], ◌∷◌, ◌++◌, length, cond, refl, ap, ◌∙◌, arith, append_assoc}
use Rattle.std.proofs.lemmas.List.{append-nil}
use Rattle.std.specs.List.{concat, list_any}
use Rattle.trex_rpc.specs.Heard.{cut, grow, is_end, line_of, piece_of}
use Rattle.trex_rpc.specs.Lines.{is_feed, NoFeed}

-- neither of two tests
neither : (a b : Bool) → (a || b) ≡ false → (a ≡ false) × (b ≡ false)
neither true b e = cc
neither false b e = (refl, e)

-- the first piece ends at the first line feed
cut-feed : (line rest : List ℕ) → NoFeed line → cut (line ++ 10 ∷ rest) ≡ (line ++ 10 ∷ []) ∷ cut rest
cut-feed [] rest free = refl
cut-feed (b ∷ bs) rest free =
    let (other, others) = neither (is_feed b) (list_any is_feed bs) free in
    rw (other, cut-feed bs rest others)

-- a text without a line feed is one piece
cut-last : (b : ℕ) (bs : List ℕ) → NoFeed (b ∷ bs) → cut (b ∷ bs) ≡ (b ∷ bs) ∷ []
cut-last b [] free = let (other, others) = neither (is_feed b) false free in rw other
cut-last b (c ∷ bs) free =
    let (other, others) = neither (is_feed b) (list_any is_feed (c ∷ bs)) free in
    rw (other, cut-last c bs others)

-- the line of a piece
line_of-feed : (line : List ℕ) → NoFeed line → line_of (line ++ 10 ∷ []) ≡ line
line_of-feed [] free = refl
line_of-feed (b ∷ bs) free =
    let (other, others) = neither (is_feed b) (list_any is_feed bs) free in
    rw (other, line_of-feed bs others)

line_of-last : (line : List ℕ) → NoFeed line → line_of line ≡ line
line_of-last [] free = refl
line_of-last (b ∷ bs) free =
    let (other, others) = neither (is_feed b) (list_any is_feed bs) free in
    rw (other, line_of-last bs others)

pub line_of-piece : (line : List ℕ) (ended : Bool) → NoFeed line → line_of (piece_of line ended) ≡ line
line_of-piece line true free = line_of-feed line free
line_of-piece line false free = line_of-last line free

-- a line that was read is the first piece of what was to come
pub cut-piece : (line rest : List ℕ) (ended : Bool) → NoFeed line → is_end line ended ≡ false → (ended ≡ false → rest ≡ [])
    → cut (piece_of line ended ++ rest) ≡ piece_of line ended ∷ cut rest
cut-piece line rest true free more last = rw (append_assoc line (10 ∷ []) rest) (cut-feed line rest free)
cut-piece [] rest false free more last = cc
cut-piece (b ∷ bs) rest false free more last = rw (last refl) (ap cut (append-nil (b ∷ bs)) ∙ cut-last b bs free)

-- the first piece of a text that begins with these bytes
pub record Front (line text : List ℕ) : Type 0 where
  pub piece : List ℕ
  pub pieces : List (List ℕ)
  pub cuts : cut text ≡ piece ∷ pieces
  pub long : length line ≤ length (line_of piece)
  pub whole : length (line_of piece) ≤ length piece

-- the line of a piece is no longer than the piece
line_of-short : (piece : List ℕ) → length (line_of piece) ≤ length piece
line_of-short [] = omega arith
line_of-short (b ∷ bs) = by_test (is_feed b) (line_of-short bs)
  where
    by_test : (t : Bool) → length (line_of bs) ≤ length bs → length (cond t [] (b ∷ line_of bs)) ≤ length (b ∷ bs)
    by_test true shorter = omega arith
    by_test false shorter = omega arith

-- a byte before a text without one at its front
grown : (b : ℕ) (line text : List ℕ) → is_feed b ≡ false → Front line text → Front (b ∷ line) (b ∷ text)
grown b line text other front = record {
  piece = b ∷ front.piece;
  pieces = front.pieces;
  cuts = rw (other, front.cuts);
  long = rw other (let longer = front.long in omega arith);
  whole = line_of-short (b ∷ front.piece);
}

-- one byte that is no line feed
alone : (b : ℕ) (text : List ℕ) → is_feed b ≡ false → Front (b ∷ []) (b ∷ text)
alone b text other = by_pieces (cut text) refl
  where
    by_pieces : (pieces : List (List ℕ)) → cut text ≡ pieces → Front (b ∷ []) (b ∷ text)
    by_pieces [] is = record { piece = b ∷ []; pieces = []; cuts = rw (other, is); long = rw other (omega arith); whole = line_of-short (b ∷ []) }
    by_pieces (piece ∷ pieces) is = record { piece = b ∷ piece; pieces = pieces; cuts = rw (other, is); long = rw other (omega arith); whole = line_of-short (b ∷ piece) }

-- a text that begins with bytes of which none is a line feed has a first piece that begins with them
pub cut-front : (b : ℕ) (bs more : List ℕ) → NoFeed (b ∷ bs) → Front (b ∷ bs) (b ∷ (bs ++ more))
cut-front b [] more free = let (other, others) = neither (is_feed b) false free in alone b more other
cut-front b (c ∷ bs) more free =
    let (other, others) = neither (is_feed b) (list_any is_feed (c ∷ bs)) free in
    grown b (c ∷ bs) (c ∷ (bs ++ more)) other (cut-front c bs more others)

-- the pieces of a text are the text
pub concat-cut : (text : List ℕ) → concat (cut text) ≡ text
concat-cut [] = refl
concat-cut (b ∷ bs) = by_test (is_feed b) (concat-cut bs)
  where
    concat-grow : (pieces : List (List ℕ)) → concat (grow b pieces) ≡ b ∷ concat pieces
    concat-grow [] = refl
    concat-grow (piece ∷ pieces) = refl

    by_test : (t : Bool) → concat (cut bs) ≡ bs → concat (cond t ((b ∷ []) ∷ cut bs) (grow b (cut bs))) ≡ b ∷ bs
    by_test true rest = ap (λ l. b ∷ l) rest
    by_test false rest = concat-grow (cut bs) ∙ ap (λ l. b ∷ l) rest
