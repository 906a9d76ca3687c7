-- Where the lines ascend, the search finds all lines of a key; and what that says of a well-formed pack.
-- Assumes nothing.
use mathlib.Core.Path.{◌≡◌, refl, sym, ap, ◌∙◌, subst}
use mathlib.Core.Logic.{⊎_elim}
use mathlib.Core.Bool.{Bool, true, false, ◌&&◌, cond}
use mathlib.Core.List.{List, [], ◌∷◌}
use Prim.Native.Nat.{ℕ, zero, suc, ◌+◌, ◌-◌, ◌*◌, ◌/◌, ◌%◌, ◌≤◌, ◌<◌, zero-le, suc-le-suc}
use native.Mathlib.Nat.{zero-mul, suc-mul, add_comm, le_of_suc-le-suc, not-suc-le-zero}
use native.Mathlib.Omega.{arith}
use lib.Dec.{ltb, eqb}
use lib.ListN.{length, get_or, take, drop, length-take, length-drop}
use lib.Seq.{take-take, drop-drop, get_or-drop}
use borrow.Author.Tests.{eq-eqb, eqb-true, eqb-false, ltb-true, ltb-false}
use Rattle.std.proofs.lemmas.List.Sums.{take_while-cons}
use Rattle.paper.specs.Bytes.{Bytes, every, those, same, before, empty, first_or}
use Rattle.paper.specs.Pack.{width_of, rise_of, good_line, rows, lines_in, rises_from, rises, good_body, well_formed, block_of, keyed, Blocks, blocks_of, block, Lines, lines_of}
use Rattle.paper.proofs.Laws.{never, both, same_eq}
use Rattle.text.proofs.Laws.{same_apart}
use Rattle.pack.proofs.Laws.{body_at}
use Rattle.lookup.specs.Find.{bisect, key_at, below, count_for, place_for, lead, lines_from, line_in, rows_in, sought}
use Rattle.lookup.proofs.Order.{before_trans, before_irrefl, before_other, before_total, before_left, before_right, before_takes}
use Rattle.lookup.proofs.Bisect.{Turn, turn}
use Rattle.lookup.proofs.Runs.{no_rows, length-rows, rows_drop, wide_key, count_is, rows_lead, line_first, none_found}

-- no line is empty
width_some : (k : ℕ) → 0 < width_of k
unfolding width_of
width_some k = go (eqb k 1) (eqb k 2) (eqb k 3) (eqb k 4)
  where
    go : (a b c d : Bool) → 0 < cond a 33 (cond b 10 (cond c 9 (cond d 8 12)))
    go true b c d = omega arith
    go false true c d = omega arith
    go false false true d = omega arith
    go false false false true = omega arith
    go false false false false = omega arith

-- line i of the rows
row : (n w : ℕ) (s : Bytes) (i : ℕ) → i < n → get_or (rows n w s) i [] ≡ take w (drop (i * w) s)
row zero w s i h = absurd (not-suc-le-zero h)
row (suc n) w s zero h = ap (λ (m : ℕ). take w (drop m s)) (sym (zero-mul w))
row (suc n) w s (suc i) h =
    row n w (drop w s) i (le_of_suc-le-suc h)
    ∙ ap (take w) (drop-drop (i * w) w s ∙ ap (λ (m : ℕ). drop m s) (add_comm w (i * w) ∙ sym (suc-mul i w)))

-- bytes that ascend from line to line ascend from each line to each later one
rise_from : (k : ℕ) (l : Bytes) (ls : List Bytes) → rises_from k l ls ≡ true → (j : ℕ) → j < length ls → before (take k l) (take k (get_or ls j [])) ≡ true
rise_from k l [] e j h = absurd (not-suc-le-zero h)
rise_from k l (m ∷ ls) e zero h = (both _ _ e).0
rise_from k l (m ∷ ls) e (suc j) h =
    before_trans (take k l) (take k m) (take k (get_or ls j [])) (both _ _ e).0
    (rise_from k m ls (both (before (take k l) (take k m)) _ e).1 j (le_of_suc-le-suc h))

rise_at : (k : ℕ) (l : Bytes) (ls : List Bytes) → rises_from k l ls ≡ true → (i j : ℕ) → i < j → j < suc (length ls)
    → before (take k (get_or (l ∷ ls) i [])) (take k (get_or (l ∷ ls) j [])) ≡ true
rise_at k l ls e i zero h g = absurd (not-suc-le-zero h)
rise_at k l ls e zero (suc j) h g = rise_from k l ls e j (le_of_suc-le-suc g)
rise_at k l [] e (suc i) (suc j) h g = absurd (not-suc-le-zero (le_of_suc-le-suc g))
rise_at k l (m ∷ ls) e (suc i) (suc j) h g =
    rise_at k m ls (both (before (take k l) (take k m)) _ e).1 i j (le_of_suc-le-suc h) (le_of_suc-le-suc g)

rise : (k : ℕ) (ls : List Bytes) → rises k ls ≡ true → (i j : ℕ) → i < j → j < length ls → before (take k (get_or ls i [])) (take k (get_or ls j [])) ≡ true
rise k [] e i j h g = absurd (not-suc-le-zero g)
rise k (l ∷ ls) e i j h g = rise_at k l ls e i j h g

-- the lines that pass: none, or those after the first m
none : (q : Bytes → Bool) (ls : List Bytes) → ((j : ℕ) → j < length ls → q (get_or ls j []) ≡ false) → those q ls ≡ []
none q [] h = refl
none q (l ∷ ls) h = ap (λ (b : Bool). cond b (l ∷ those q ls) (those q ls)) (h zero (suc-le-suc zero-le)) ∙ none q ls (λ j g. h (suc j) (suc-le-suc g))

those_after : (q : Bytes → Bool) (m : ℕ) (ls : List Bytes) → ((j : ℕ) → j < m → j < length ls → q (get_or ls j []) ≡ false) → those q ls ≡ those q (drop m ls)
those_after q zero ls h = refl
those_after q (suc m) [] h = refl
those_after q (suc m) (l ∷ ls) h =
    ap (λ (b : Bool). cond b (l ∷ those q ls) (those q ls)) (h zero (suc-le-suc zero-le) (suc-le-suc zero-le))
    ∙ those_after q m ls (λ j f g. h (suc j) (suc-le-suc f) (suc-le-suc g))

-- what comes after another is not the same, nor is what is shorter
after_other : (a b : Bytes) → before b a ≡ true → same a b ≡ false
after_other a b h = go (same a b) refl
  where
    go : (q : Bool) → same a b ≡ q → q ≡ false
    go true e = absurd (before_irrefl b (subst (λ (l : Bytes). before b l ≡ true) (same_eq a b e) h))
    go false e = refl

same_self : (a : Bytes) → same a a ≡ true
same_self [] = refl
same_self (x ∷ s) = ap (λ (b : Bool). b && same s s) (eq-eqb x x refl) ∙ same_self s

module _ (key : Bytes) where
  -- where no line's key comes before this one, and none comes before an earlier one, the lines of the key lead
  lead_those : (ls : List Bytes)
      → ((i j : ℕ) → i < j → j < length ls → before (take (length key) (get_or ls j [])) (take (length key) (get_or ls i [])) ≡ false)
      → ((j : ℕ) → j < length ls → before (take (length key) (get_or ls j [])) key ≡ false) → lead key ls ≡ those (keyed key) ls
  lead_those [] up high = refl
  lead_those (l ∷ ls) up high =
      take_while-cons (keyed key) l ls
      ∙ go (lead_those ls (λ i j h g. up (suc i) (suc j) (suc-le-suc h) (suc-le-suc g)) (λ j h. high (suc j) (suc-le-suc h))) (keyed key l) refl
    where
      past : keyed key l ≡ false → before key (take (length key) l) ≡ true
      past e =
          ⊎_elim (λ (h : before key (take (length key) l) ≡ true). h)
          (λ (h : take (length key) l ≡ key). absurd (never (sym e ∙ ap (λ (x : Bytes). same x key) h ∙ same_self key)))
          (before_total (take (length key) l) key (high zero (suc-le-suc zero-le)))

      go : lead key ls ≡ those (keyed key) ls → (b : Bool) → keyed key l ≡ b → cond b (l ∷ lead key ls) [] ≡ cond b (l ∷ those (keyed key) ls) (those (keyed key) ls)
      go more true e = ap (λ (m : List Bytes). l ∷ m) more
      go more false e =
          sym (none (keyed key) ls
          (λ j h. after_other (take (length key) (get_or ls j [])) key
          (before_right (take (length key) l) (take (length key) (get_or ls j [])) key (up zero (suc j) (suc-le-suc zero-le) (suc-le-suc h)) (past e))))

  -- a key that is wider than the lines is in none
  wide_none : (n w : ℕ) (s : Bytes) → w < length key → those (keyed key) (rows n w s) ≡ []
  wide_none n w s h = none (keyed key) (rows n w s) (λ j g. ap (keyed key) (row n w s j (omega (arith, length-rows n w s))) ∙ short (drop (j * w) s))
    where
      short : (t : Bytes) → keyed key (take w t) ≡ false
      short t = sym (same_apart (take (length key) (take w t)) key (simp (length-take, length-take) (λ e. omega arith)))

module _ (w k : ℕ) (key s : Bytes) (some : 0 < w) (up : rises k (lines_in w s) ≡ true) where
  module _ (kw : length key ≤ w) where
    count : length (lines_in w s) ≡ length s / w
    unfolding lines_in
    count = length-rows (length s / w) w s

    key_is : (i : ℕ) → i < length s / w → take (length key) (get_or (lines_in w s) i []) ≡ key_at w (length key) s i
    unfolding lines_in
    key_is i h = ap (take (length key)) (row (length s / w) w s i h) ∙ take-take (length key) w (drop (i * w) s) kw

    not_down : (i j : ℕ) → i < j → j < length s / w → before (key_at w (length key) s j) (key_at w (length key) s i) ≡ false
    not_down i j h g =
        subst (λ (l : Bytes). before l (key_at w (length key) s i) ≡ false) (key_is j g)
        (subst (λ (l : Bytes). before (take (length key) (get_or (lines_in w s) j [])) l ≡ false) (key_is i (omega arith))
        (before_takes k (length key) (get_or (lines_in w s) i []) (get_or (lines_in w s) j []) (rise k (lines_in w s) up i j h (omega (arith, count)))))

    turned : Turn (below w key s) (length s / w) (place_for w key s)
    unfolding place_for
    turned =
        subst (λ (n : ℕ). Turn (below w key s) (length s / w) (bisect (below w key s) n 0 n)) (count_is w key s kw)
        (turn (below w key s) (length s / w) (λ i j h g e. before_left (key_at w (length key) s i) (key_at w (length key) s j) key (not_down i j h g) e))

    -- a line of those from the place on
    later : (j : ℕ) → j < length (drop (place_for w key s) (lines_in w s))
        → take (length key) (get_or (drop (place_for w key s) (lines_in w s)) j []) ≡ key_at w (length key) s (place_for w key s + j)
    later j h =
        ap (take (length key)) (get_or-drop (place_for w key s) (lines_in w s) j [])
        ∙ key_is (place_for w key s + j) (omega (arith, length-drop (place_for w key s) (lines_in w s), count))

    found_fit : lead key (drop (place_for w key s) (lines_in w s)) ≡ those (keyed key) (lines_in w s)
    found_fit =
        lead_those key (drop (place_for w key s) (lines_in w s))
        (λ i j h g.
        let l : i < length (drop (place_for w key s) (lines_in w s)) = omega arith in
        let m : place_for w key s + j < length s / w = omega (arith, length-drop (place_for w key s) (lines_in w s), count) in
        (λ d. before (later j g d) (later i l d)) ∙ not_down (place_for w key s + i) (place_for w key s + j) (omega arith) m)
        (λ j h.
        let m : place_for w key s + j < length s / w = omega (arith, length-drop (place_for w key s) (lines_in w s), count) in
        ap (λ (l : Bytes). before l key) (later j h) ∙ turned.no_above (place_for w key s + j) (omega arith) m)
        ∙ sym (those_after (keyed key) (place_for w key s) (lines_in w s)
        (λ j h g.
        ap (λ (l : Bytes). same l key) (key_is j (omega (arith, count)))
        ∙ before_other (key_at w (length key) s j) key (turned.yes_below j h)))

  -- what is found is all lines of the key
  pub rows_all : lines_in w (rows_in w key s) ≡ those (keyed key) (lines_in w s)
  unfolding lines_in
  rows_all = rows_lead w key s some ∙ go (ltb w (length key)) refl
    where
      go : (b : Bool) → ltb w (length key) ≡ b
          → lead key (lines_from (place_for w key s) (count_for w key s) w s) ≡ those (keyed key) (rows (length s / w) w s)
      go true e =
          let h : w < length key = ltb-true w (length key) e in
          ap (lead key) (no_rows (count_for w key s - place_for w key s) w (drop (place_for w key s * w) s) (omega (arith, wide_key w key s h)))
          ∙ sym (wide_none key (length s / w) w s h)
      go false e =
          let h : length key ≤ w = ltb-false w (length key) e in
          ap (λ (n : ℕ). lead key (lines_from (place_for w key s) n w s)) (sym (count_is w key s h))
          ∙ ap (lead key) (sym (rows_drop (place_for w key s) (length s / w) w s (turned h).within))
          ∙ found_fit h

-- ON ANY BYTES

-- the line that is found is the first of the lines found
pub found_first : (w : ℕ) (key s : Bytes) → 0 < w → line_in w key s ≡ first_or (lines_in w (rows_in w key s))
found_first w key s some = line_first w key s ∙ ap first_or (sym (rows_lead w key s some))

pub first_sought : (b : Blocks) (k : ℕ) (key : Bytes) → line_in (width_of k) key (block b k) ≡ first_or (sought b k key)
unfolding sought
first_sought b k key = found_first (width_of k) key (block b k) (width_some k)

-- by the kinds of the blocks; the code's widths stand in place of `width_of`
module _ (b : Blocks) (key : Bytes) where
  pub taxpayer_sought : line_in 33 key b.one ≡ first_or (sought b 1 key)
  unfolding width_of
  taxpayer_sought = first_sought b 1 key

  pub bank_sought : line_in 10 key b.two ≡ first_or (sought b 2 key)
  unfolding width_of
  bank_sought = first_sought b 2 key

  pub filed_sought : line_in 9 key b.three ≡ first_or (sought b 3 key)
  unfolding width_of
  filed_sought = first_sought b 3 key

  pub states_sought : lines_in 8 (rows_in 8 key b.four) ≡ sought b 4 key
  unfolding width_of sought
  states_sought = refl

  pub sent_sought : eqb (length (line_in 12 key b.five)) 0 ≡ empty (sought b 5 key)
  unfolding width_of sought
  sent_sought = sym (none_found 12 key b.five (omega arith))

-- OF A WELL-FORMED PACK

rises_at : (k : ℕ) (b : Bytes) → good_body k b ≡ true → rises (rise_of k) (lines_in (width_of k) b) ≡ true
unfolding good_body
rises_at k b e = (both (eqb (length b % width_of k) 0 && every (good_line k) (lines_in (width_of k) b)) (rises (rise_of k) (lines_in (width_of k) b)) e).1

module _ (s : Bytes) (well : well_formed s ≡ true) where
  ascends : (k : ℕ) → 1 ≤ k → k ≤ 5 → rises (rise_of k) (lines_in (width_of k) (block_of k s)) ≡ true
  ascends k h l = rises_at k (block_of k s) (body_at s well k h l)

  block_ascends : (k : ℕ) → rises (rise_of k) (lines_in (width_of k) (block (blocks_of s) k)) ≡ true
  unfolding rise_of width_of blocks_of
  block_ascends k = go (eqb k 1) (eqb k 2) (eqb k 3) (eqb k 4)
    where
      go : (a b c d : Bool) →
          let w : ℕ = cond a 33 (cond b 10 (cond c 9 (cond d 8 12))) in
          rises (cond a 9 (cond b 9 w))
          (lines_in w (cond a (block_of 1 s) (cond b (block_of 2 s) (cond c (block_of 3 s) (cond d (block_of 4 s) (block_of 5 s)))))) ≡ true
      go true b c d = ascends 1 (omega arith) (omega arith)
      go false true c d = ascends 2 (omega arith) (omega arith)
      go false false true d = ascends 3 (omega arith) (omega arith)
      go false false false true = ascends 4 (omega arith) (omega arith)
      go false false false false = ascends 5 (omega arith) (omega arith)

  -- the search finds in its blocks the lines of every key
  pub sought_lines : sought (blocks_of s) ≡ lines_of (blocks_of s)
  unfolding sought lines_of
  sought_lines = λ i k key. rows_all (width_of k) (rise_of k) key (block (blocks_of s) k) (width_some k) (block_ascends k) i

  -- by the kind and the pack
  block_is : (k : ℕ) → 1 ≤ k → k ≤ 5 → block (blocks_of s) k ≡ block_of k s
  unfolding blocks_of
  block_is k h l = go (eqb k 1) refl (eqb k 2) refl (eqb k 3) refl (eqb k 4) refl
    where
      go : (p : Bool) → eqb k 1 ≡ p → (q : Bool) → eqb k 2 ≡ q → (r : Bool) → eqb k 3 ≡ r → (t : Bool) → eqb k 4 ≡ t
          → cond p (block_of 1 s) (cond q (block_of 2 s) (cond r (block_of 3 s) (cond t (block_of 4 s) (block_of 5 s)))) ≡ block_of k s
      go true e q f r g t d = ap (λ (n : ℕ). block_of n s) (sym (eqb-true k 1 e))
      go false e true f r g t d = ap (λ (n : ℕ). block_of n s) (sym (eqb-true k 2 f))
      go false e false f true g t d = ap (λ (n : ℕ). block_of n s) (sym (eqb-true k 3 g))
      go false e false f false g true d = ap (λ (n : ℕ). block_of n s) (sym (eqb-true k 4 d))
      go false e false f false g false d =
          let five : 5 ≡ k = omega (arith, eqb-false k 1 e, eqb-false k 2 f, eqb-false k 3 g, eqb-false k 4 d) in
          ap (λ (n : ℕ). block_of n s) five

  module _ (k : ℕ) (key : Bytes) (h : 1 ≤ k) (l : k ≤ 5) where
    pub line_found : line_in (width_of k) key (block_of k s) ≡ first_or (lines_of (blocks_of s) k key)
    line_found =
        ap (line_in (width_of k) key) (sym (block_is k h l)) ∙ first_sought (blocks_of s) k key
        ∙ ap (λ (L : Lines). first_or (L k key)) sought_lines

    pub rows_found : lines_in (width_of k) (rows_in (width_of k) key (block_of k s)) ≡ lines_of (blocks_of s) k key
    unfolding sought
    rows_found =
        ap (λ (b : Bytes). lines_in (width_of k) (rows_in (width_of k) key b)) (sym (block_is k h l)) ∙ (λ i. sought_lines i k key)
