-- The lines of a key that stand in a row, on any bytes.
-- Assumes nothing.
use mathlib.Core.Path.{◌≡◌, refl, sym, ap, ◌∙◌, subst}
use mathlib.Core.Bool.{Bool, true, false, ◌&&◌, cond, and-false}
use mathlib.Core.List.{List, [], ◌∷◌}
use Prim.Native.Nat.{ℕ, zero, suc, ◌+◌, ◌-◌, ◌*◌, ◌/◌, ◌≤◌, ◌<◌}
use native.Mathlib.Nat.{zero-mul, mul-zero, suc-mul, add_comm, le_trans, le_of_suc-le-suc, not-suc-le-zero, div-mul-le_self, mul-le-mul_right, mul-div_cancel, sub-zero, zero-add, suc-add, suc-sub-suc, add-mul}
use native.Mathlib.Numerals.{sub-one}
use native.Mathlib.Omega.{arith}
use lib.Pointwise.{pointwise}
use Rattle.std.specs.List.{prefix_len}
use Rattle.std.proofs.lemmas.List.Folds.{length-prefix_len}
use Rattle.std.proofs.lemmas.List.Sums.{take_while-cons}
use lib.Dec.{ltb, leb, eqb}
use lib.ListN.{length, get_or, take, drop, length-take, length-drop}
use lib.Seq.{take-take, drop-drop, take-nil}
use borrow.Author.Tests.{le-leb, eq-eqb, ne_eqb, eqb-true, eqb-false, lt-ltb, le-ltb, ltb-true, ltb-false}
use Rattle.paper.specs.Bytes.{Bytes, same, before, part, empty, first_or}
use Rattle.paper.specs.Pack.{rows, lines_in, keyed}
use Rattle.text.proofs.Laws.{piece_whole}
use Rattle.lookup.proofs.Bisect.{bisect_within, again_up, again_down}
use Rattle.lookup.specs.Find.{mid, bisect, key_at, below, count_for, place_for, lead, lines_from, rest_in, line_in, rows_in}

pub rows_next : (m w at : ℕ) (s : Bytes) → 0 < m → rows m w (drop at s) ≡ take w (drop at s) ∷ rows (m - 1) w (drop (at + w) s)
rows_next zero w at s h = absurd (not-suc-le-zero h)
rows_next (suc m) w at s h =
    ap (λ (k : ℕ). take w (drop at s) ∷ rows k w (drop w (drop at s))) (sym (sub-one (suc m)))
    ∙ ap (λ (l : Bytes). take w (drop at s) ∷ rows (suc m - 1) w l) (drop-drop w at s)

pub no_rows : (m w : ℕ) (s : Bytes) → m ≤ 0 → rows m w s ≡ []
no_rows zero w s h = refl
no_rows (suc m) w s h = absurd (not-suc-le-zero h)

-- `==` of slices
pub equal_same : (a b : Bytes) → pointwise eqb a b ≡ same b a
equal_same [] [] = refl
equal_same [] (y ∷ b) = refl
equal_same (x ∷ a) [] = refl
equal_same (x ∷ a) (y ∷ b) = λ i. turned (eqb x y) refl i && equal_same a b i
  where
    turned : (q : Bool) → eqb x y ≡ q → q ≡ eqb y x
    turned true e = sym (eq-eqb y x (sym (eqb-true x y e)))
    turned false e = sym (ne_eqb y x (λ f. eqb-false x y e (sym f)))

-- a line that is too short, or differs at a place, has not the key; one that is the same at each place has it
pub short_line : (key l : Bytes) → length l < length key → false ≡ keyed key l
short_line [] l h = absurd (omega arith)
short_line (x ∷ key) [] h = refl
short_line (x ∷ key) (y ∷ l) h = sym (and-false (eqb y x)) ∙ ap (λ (b : Bool). eqb y x && b) (short_line key l (omega (arith, h)))

pub other_byte : (i : ℕ) (key l : Bytes) → i < length key → length key ≤ length l → (get_or l i 0 ≡ get_or key i 0 → ⊥) → false ≡ keyed key l
other_byte i [] l h w n = absurd (omega arith)
other_byte i (x ∷ key) [] h w n = refl
other_byte zero (x ∷ key) (y ∷ l) h w n = ap (λ (b : Bool). b && keyed key l) (sym (ne_eqb y x n))
other_byte (suc i) (x ∷ key) (y ∷ l) h w n =
    sym (and-false (eqb y x)) ∙ ap (λ (b : Bool). eqb y x && b) (other_byte i key l (omega (arith, h)) (omega (arith, w)) n)

pub same_bytes : (key l : Bytes) → length key ≤ length l → ((j : ℕ) → j < length key → get_or l j 0 ≡ get_or key j 0) → true ≡ keyed key l
same_bytes [] l w h = refl
same_bytes (x ∷ key) [] w h = absurd (omega (arith, w))
same_bytes (x ∷ key) (y ∷ l) w h =
    let e : true ≡ eqb y x = sym (eq-eqb y x (h zero (omega arith))) in
    λ i. e i && same_bytes key l (omega (arith, w)) (λ j g. h (suc j) (omega (arith, g))) i

-- how many lines a list of rows has
pub length-rows : (n w : ℕ) (s : Bytes) → length (rows n w s) ≡ n
length-rows zero w s = refl
length-rows (suc n) w s = ap suc (length-rows n w (drop w s))

-- the first m of n lines, and those after the first m
pub rows_take : (m n w : ℕ) (s : Bytes) → m ≤ n → take m (rows n w s) ≡ rows m w s
rows_take zero n w s h = refl
rows_take (suc m) zero w s h = absurd (not-suc-le-zero h)
rows_take (suc m) (suc n) w s h = ap (λ (l : List Bytes). take w s ∷ l) (rows_take m n w (drop w s) (le_of_suc-le-suc h))

pub rows_drop : (m n w : ℕ) (s : Bytes) → m ≤ n → drop m (rows n w s) ≡ lines_from m n w s
rows_drop zero n w s h = λ i. rows (sym (sub-zero n) i) w (drop (sym (zero-mul w) i) s)
rows_drop (suc m) zero w s h = absurd (not-suc-le-zero h)
rows_drop (suc m) (suc n) w s h =
    rows_drop m n w (drop w s) (le_of_suc-le-suc h)
    ∙ ap (rows (n - m) w) (drop-drop (m * w) w s)
    ∙ (λ i. rows (sym (suc-sub-suc n m) i) w (drop (later i) s))
  where
    later : w + m * w ≡ suc m * w
    later = add_comm w (m * w) ∙ sym (suc-mul m w)

drop-take : (n m : ℕ) (s : Bytes) → drop n (take (n + m) s) ≡ take m (drop n s)
drop-take zero m s = ap (λ (k : ℕ). take k s) (zero-add m)
drop-take (suc n) m [] = ap (drop (suc n)) (take-nil (suc n + m)) ∙ sym (take-nil m)
drop-take (suc n) m (x ∷ s) = ap (λ (k : ℕ). drop (suc n) (take k (x ∷ s))) (suc-add n m) ∙ drop-take n m s

-- bytes past the last line do not matter
rows_cut : (m w : ℕ) (s : Bytes) → rows m w (take (m * w) s) ≡ rows m w s
rows_cut zero w s = refl
rows_cut (suc m) w s =
    ap (λ (k : ℕ). rows (suc m) w (take k s)) (suc-mul m w ∙ add_comm (m * w) w)
    ∙ (λ i. take-take w (w + m * w) s (omega arith) i ∷ rows m w (drop-take w (m * w) s i))
    ∙ ap (λ (l : List Bytes). take w s ∷ l) (rows_cut m w (drop w s))

-- so many lines from a place on
pub rows_part : (at m w : ℕ) (s : Bytes) → 0 < w → at + m * w ≤ length s → lines_in w (part at (m * w) s) ≡ rows m w (drop at s)
unfolding lines_in
rows_part at m w s some h =
    ap (λ (k : ℕ). rows k w (part at (m * w) s)) (ap (λ (k : ℕ). k / w) long ∙ mul-div_cancel m some)
    ∙ rows_cut m w (drop at s)
  where
    long : length (part at (m * w) s) ≡ m * w
    long = simp (length-take, length-drop) (omega arith)

-- the lines of the key that lead
pub lead_le : (key : Bytes) (ls : List Bytes) → length (lead key ls) ≤ length ls
lead_le key ls = omega (arith, length-take (prefix_len (keyed key) ls) ls)

lead_is : (key : Bytes) (ls : List Bytes) → take (length (lead key ls)) ls ≡ lead key ls
lead_is key ls = ap (λ (n : ℕ). take n ls) (length-prefix_len (keyed key) ls)

-- the lines that are looked at
module _ (w : ℕ) (key s : Bytes) where
  pub wide_key : w < length key → 0 ≡ count_for w key s
  unfolding count_for
  wide_key h = simp (lt-ltb w (length key) h)

  pub count_is : length key ≤ w → length s / w ≡ count_for w key s
  unfolding count_for
  count_is h = simp (le-ltb w (length key) h)

  -- they lie within the block, and have the key's width
  pub count_fits : count_for w key s * w ≤ length s
  unfolding count_for
  count_fits = go (ltb w (length key))
    where
      go : (b : Bool) → cond b 0 (length s / w) * w ≤ length s
      go true = rw (zero-mul w) (omega arith)
      go false = div-mul-le_self (length s) w

  pub row_fits : (i : ℕ) → i < count_for w key s → i * w + w ≤ length s
  row_fits i h = le_trans (subst (λ (m : ℕ). m ≤ count_for w key s * w) (suc-mul i w) (mul-le-mul_right w h)) count_fits

  pub key_fits : (i : ℕ) → i < count_for w key s → length key ≤ w
  unfolding count_for
  key_fits i = go (ltb w (length key)) refl
    where
      go : (b : Bool) → ltb w (length key) ≡ b → i < cond b 0 (length s / w) → length key ≤ w
      go true e h = absurd (not-suc-le-zero h)
      go false e h = ltb-false w (length key) e

  pub place_within : place_for w key s ≤ count_for w key s
  unfolding place_for
  place_within = bisect_within (below w key s) (count_for w key s) 0 (count_for w key s) (omega arith)

  -- no line is left
  none_left : count_for w key s ≤ place_for w key s → lines_from (place_for w key s) (count_for w key s) w s ≡ []
  none_left h = no_rows (count_for w key s - place_for w key s) w (drop (place_for w key s * w) s) (omega arith)

  -- the line at the place, and its key
  at_place : place_for w key s < count_for w key s
      → lead key (lines_from (place_for w key s) (count_for w key s) w s)
      ≡ cond (same (key_at w (length key) s (place_for w key s)) key)
      (part (place_for w key s * w) w s ∷ lead key (rows (count_for w key s - place_for w key s - 1) w (drop (place_for w key s * w + w) s))) []
  at_place h =
      ap (lead key) (rows_next (count_for w key s - place_for w key s) w (place_for w key s * w) s (omega arith)) ∙ take_while-cons (keyed key) _ _
      ∙ ap (λ (l : Bytes). cond (same l key) (part (place_for w key s * w) w s ∷ lead key (rows (count_for w key s - place_for w key s - 1) w (drop (place_for w key s * w + w) s))) [])
      (take-take (length key) w (drop (place_for w key s * w) s) (key_fits (place_for w key s) h))

  pub line_first : line_in w key s ≡ first_or (lead key (lines_from (place_for w key s) (count_for w key s) w s))
  unfolding line_in
  line_first = go (ltb (place_for w key s) (count_for w key s)) refl
    where
      first : (b : Bool) (l : Bytes) (ls : List Bytes) → cond b l [] ≡ first_or (cond b (l ∷ ls) [])
      first true l ls = refl
      first false l ls = refl

      go : (b : Bool) → ltb (place_for w key s) (count_for w key s) ≡ b
          → cond (b && same (key_at w (length key) s (place_for w key s)) key) (part (place_for w key s * w) w s) [] ≡ first_or (lead key (lines_from (place_for w key s) (count_for w key s) w s))
      go true e =
          first (same (key_at w (length key) s (place_for w key s)) key) (part (place_for w key s * w) w s) (lead key (rows (count_for w key s - place_for w key s - 1) w (drop (place_for w key s * w + w) s)))
          ∙ ap first_or (sym (at_place (ltb-true _ _ e)))
      go false e = sym (ap (λ (ls : List Bytes). first_or (lead key ls)) (none_left (ltb-false _ _ e)))

  -- the lines of what is found are those that lead
  pub rows_lead : 0 < w → lines_in w (rows_in w key s) ≡ lead key (lines_from (place_for w key s) (count_for w key s) w s)
  unfolding rows_in
  rows_lead some =
      rows_part (i * w) m w s some room ∙ sym (rows_take m (count_for w key s - i) w (drop (i * w) s) short) ∙ lead_is key ls
    where
      i : ℕ
      i = place_for w key s

      ls : List Bytes
      ls = lines_from i (count_for w key s) w s

      m : ℕ
      m = length (lead key ls)

      short : m ≤ count_for w key s - i
      short = subst (λ (k : ℕ). m ≤ k) (length-rows (count_for w key s - i) w (drop (i * w) s)) (lead_le key ls)

      room : i * w + m * w ≤ length s
      room = subst (λ (k : ℕ). k ≤ length s) (add-mul i m w) (le_trans (mul-le-mul_right w within) count_fits)
        where
          within : i + m ≤ count_for w key s
          within = omega (arith, short, place_within)

  -- no line is found where no byte is
  pub none_found : 0 < w → empty (lines_in w (rows_in w key s)) ≡ eqb (length (line_in w key s)) 0
  none_found some =
      ap empty (rows_lead some) ∙ go (ltb (place_for w key s) (count_for w key s)) refl
      ∙ ap (λ (l : Bytes). eqb (length l) 0) (sym line_first)
    where
      long : place_for w key s < count_for w key s → eqb (length (part (place_for w key s * w) w s)) 0 ≡ false
      long h = ne_eqb (length (part (place_for w key s * w) w s)) 0 (simp (length-take, length-drop) (λ e. omega (arith, row_fits (place_for w key s) h)))

      first : (b : Bool) (l : Bytes) (ls : List Bytes) → eqb (length l) 0 ≡ false → empty (cond b (l ∷ ls) []) ≡ eqb (length (first_or (cond b (l ∷ ls) []))) 0
      first true l ls e = sym e
      first false l ls e = refl

      go : (b : Bool) → ltb (place_for w key s) (count_for w key s) ≡ b
          → empty (lead key (lines_from (place_for w key s) (count_for w key s) w s))
          ≡ eqb (length (first_or (lead key (lines_from (place_for w key s) (count_for w key s) w s)))) 0
      go true e =
          let h : place_for w key s < count_for w key s = ltb-true (place_for w key s) (count_for w key s) e in
          ap empty (at_place h)
          ∙ first (same (key_at w (length key) s (place_for w key s)) key) (part (place_for w key s * w) w s)
          (lead key (rows (count_for w key s - place_for w key s - 1) w (drop (place_for w key s * w + w) s))) (long h)
          ∙ ap (λ (ls : List Bytes). eqb (length (first_or ls)) 0) (sym (at_place h))
      go false e =
          ap (λ (ls : List Bytes). empty (lead key ls)) (none_left (ltb-false _ _ e))
          ∙ ap (λ (ls : List Bytes). eqb (length (first_or (lead key ls))) 0) (sym (none_left (ltb-false _ _ e)))

-- The loop that halves; v is the place it is to come to, r the result at the middle line's key
module _ (w n low high v : ℕ) (key s : Bytes) (r : Bool) (e : bisect (below w key s) n low high ≡ v) (h : high ≤ n) (l : low < high)
    (q : r ≡ before (take (mid low high * w + length key - mid low high * w) (drop (mid low high * w) s)) key) where
  middle_told : below w key s (mid low high) ≡ r
  middle_told = ap (λ (x : Bytes). before x key) (sym (piece_whole s (mid low high * w) (length key))) ∙ sym q

  pub halve_up : r ≡ true → bisect (below w key s) n (mid low high + 1) high ≡ v
  halve_up t = again_up (below w key s) n low high v e h l (middle_told ∙ t)

  pub halve_down : r ≡ false → bisect (below w key s) n low (mid low high) ≡ v
  halve_down t = again_down (below w key s) n low high v e h l (middle_told ∙ t)

pub place_start : (w n : ℕ) (key s : Bytes) → n ≡ count_for w key s → bisect (below w key s) n 0 n ≡ place_for w key s
unfolding place_for
place_start w n key s e = ap (λ (m : ℕ). bisect (below w key s) m 0 m) e

-- what the searches answer, by the lines from the place on
module _ (w : ℕ) (key s : Bytes) where
  abbrev i : ℕ
  i = place_for w key s

  abbrev n : ℕ
  n = count_for w key s

  rest_fits : i * w + (n - i) * w ≤ length s
  rest_fits =
      let whole : i + (n - i) ≡ n = omega (arith, place_within w key s) in
      subst (λ (m : ℕ). m ≤ length s) (ap (λ (m : ℕ). m * w) (sym whole) ∙ add-mul i (n - i) w) (count_fits w key s)

  pub rest_told : take (n * w - i * w) (drop (i * w) s) ≡ rest_in w key s
  unfolding rest_in
  rest_told =
      let whole : i + (n - i) ≡ n = omega (arith, place_within w key s) in
      let size : n * w - i * w ≡ (n - i) * w = omega (arith, ap (λ (m : ℕ). m * w) (sym whole) ∙ add-mul i (n - i) w) in
      ap (λ (m : ℕ). take m (drop (i * w) s)) size

  rest_long : length (rest_in w key s) ≡ (n - i) * w
  unfolding rest_in
  rest_long = simp (length-take, length-drop) (omega (arith, rest_fits))

  pub line_told : line_in w key s ≡ cond (leb w (length (rest_in w key s)) && keyed key (take w (rest_in w key s))) (take w (rest_in w key s)) []
  unfolding line_in rest_in
  line_told = go (ltb i n) refl
    where
      D : Bytes
      D = drop (i * w) s

      none : (b : Bool) → ◌≡◌ {A = Bytes} [] (cond b (take w []) [])
      none true = sym (take-nil w)
      none false = refl

      go : (b : Bool) → ltb i n ≡ b → cond (b && same (key_at w (length key) s i) key) (part (i * w) w s) []
          ≡ cond (leb w (length (take ((n - i) * w) D)) && keyed key (take w (take ((n - i) * w) D))) (take w (take ((n - i) * w) D)) []
      go false e =
          let none_left : (n - i) * w ≡ 0 = ap (λ (m : ℕ). m * w) (let z : n - i ≡ 0 = omega (arith, ltb-false i n e) in z) ∙ zero-mul w in
          none _ ∙ ap (λ (m : ℕ). cond (leb w (length (take m D)) && keyed key (take w (take m D))) (take w (take m D)) []) (sym none_left)
      go true e =
          let h : i < n = ltb-true i n e in
          let some : 1 ≤ n - i = omega arith in
          let fits : w ≤ (n - i) * w = omega (arith, mul-le-mul_right w some) in
          let first : take w (take ((n - i) * w) D) ≡ take w D = take-take w ((n - i) * w) D fits in
          let long : leb w (length (take ((n - i) * w) D)) ≡ true = le-leb w (length (take ((n - i) * w) D)) (omega (arith, rest_long)) in
          sym ((λ j. cond (leb w (length (take ((n - i) * w) D)) && keyed key (first j)) (first j) [])
          ∙ (λ j. cond (long j && same (take-take (length key) w D (key_fits w key s i h) j) key) (take w D) []))

  pub rows_told : 0 < w → take (length (lead key (lines_in w (rest_in w key s))) * w) (rest_in w key s) ≡ rows_in w key s
  unfolding rows_in rest_in
  rows_told some =
      let ls = lines_from i n w s in
      let lines : lines_in w (part (i * w) ((n - i) * w) s) ≡ ls = rows_part (i * w) (n - i) w s some rest_fits in
      let within : length (lead key ls) * w ≤ (n - i) * w =
      mul-le-mul_right w (subst (λ (m : ℕ). length (lead key ls) ≤ m) (length-rows (n - i) w (drop (i * w) s)) (lead_le key ls))
      in
      ap (λ (l : List Bytes). take (length (lead key l) * w) (part (i * w) ((n - i) * w) s)) lines
      ∙ take-take (length (lead key ls) * w) ((n - i) * w) (drop (i * w) s) within

  pub rows_none : w ≡ 0 → [] ≡ rows_in w key s
  unfolding rows_in
  rows_none h =
      let m = length (lead key (lines_from i n w s)) in
      sym (ap (λ (k : ℕ). part (i * w) k s) (ap (λ (v : ℕ). m * v) h ∙ mul-zero m))
