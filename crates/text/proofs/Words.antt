-- Bytes as one number: the number of two parts, the bytes back, and the order of the numbers.
-- Assumes nothing.
use Prim.{tt}
use Prim.Native.Nat.{ℕ, zero, suc, ◌+◌, ◌-◌, ◌*◌, ◌^◌, ◌<◌, ◌≤◌}
use mathlib.Core.Path.{◌≡◌, refl, sym, ap, ap₂, ◌∙◌}
use mathlib.Core.Bool.{Bool, true, false, ◌&&◌, ◌||◌, cond}
use mathlib.Core.List.{[], ◌∷◌, ◌++◌}
use native.Mathlib.Nat.{le_of_eq, div-div-eq-div-mul, zero-add, zero-mul, one-mul, mul-one, mul_comm, mul_assoc, add-mul, pow-suc, one-le-pow, suc-mul, mul-le-mul_right}
use native.Mathlib.Omega.{arith}
use Rattle.std.proofs.lemmas.List.{drop-replicate, take-append-drop}
use Rattle.std.proofs.lemmas.List.Folds.{list_all-append}
use Rattle.std.specs.Int.{from_le_bytes, from_be_bytes, to_le_bytes, w64}
use lib.Arith.{digits_div, digits_mod}
use lib.Dec.{eqb, ltb, lit<}
use lib.ListN.{replicate, drop_of_length-le, length, get_or, take, drop, set}
use lib.Seq.{drop-nil, sets-eq, sets, take-nil}
use borrow.Author.Tests.{ltb-true, ltb-false, eqb-true, eqb-false, lt-ltb, le-ltb, le-leb, lt-leb}
use Rattle.paper.specs.Bytes.{Bytes, laid, every, same, before, part}
use Rattle.paper.proofs.Laws.{both, same_eq, same_self}
use Rattle.text.specs.Words.{is_byte, little, bytes_of, high, word_laid}

pub every_split : (p : ℕ → Bool) (k : ℕ) (s : Bytes) → every p s ≡ (every p (take k s) && every p (drop k s))
every_split p k s = ap (every p) (sym (take-append-drop k s)) ∙ list_all-append p (take k s) (drop k s)

-- bytes, the first one and the others
first_byte : (x : ℕ) (s : Bytes) → every is_byte (x ∷ s) ≡ true → x < 256
first_byte x s h = ltb-true x 256 (both (is_byte x) (every is_byte s) h).0

other_bytes : (x : ℕ) (s : Bytes) → every is_byte (x ∷ s) ≡ true → every is_byte s ≡ true
other_bytes x s h = (both (is_byte x) (every is_byte s) h).1

pub little_split : (k : ℕ) (s : Bytes) → little s ≡ little (take k s) + little (drop k s) * 256 ^ k
little_split zero s = omega (arith, mul-one (little s))
little_split (suc k) [] = omega (arith, zero-mul (256 ^ suc k))
little_split (suc k) (x ∷ s) =
    let more : little (drop k s) * 256 ^ suc k ≡ little (drop k s) * 256 ^ k * 256 =
    ap (λ (m : ℕ). little (drop k s) * m) (pow-suc 256 k) ∙ sym (mul_assoc (little (drop k s)) (256 ^ k) 256) in
    omega (arith, little_split k s, more)

pub little_lt : (k : ℕ) (s : Bytes) → every is_byte s ≡ true → length s ≤ k → little s < 256 ^ k
little_lt k [] h l = one-le-pow k 256 (lit< tt)
little_lt zero (x ∷ s) h l = absurd (omega (arith, l))
little_lt (suc k) (x ∷ s) h l =
    omega (arith, first_byte x s h, little_lt k s (other_bytes x s h) (omega (arith, l)), pow-suc 256 k)

-- the number gives back its bytes
pub bytes_little : (s : Bytes) → every is_byte s ≡ true → bytes_of (length s) (little s) ≡ s
bytes_little [] h = refl
bytes_little (x ∷ s) h =
    ap₂ (λ (a : ℕ) (t : Bytes). a ∷ t) (digits_mod (little s) (first_byte x s h))
    (ap (bytes_of (length s)) (digits_div (little s) (first_byte x s h)) ∙ bytes_little s (other_bytes x s h))

-- bytes of one width are the same exactly if their numbers are
pub same_little : (a b : Bytes) → every is_byte a ≡ true → every is_byte b ≡ true → length a ≡ length b → same a b ≡ eqb (little a) (little b)
same_little a b h g l = go (eqb (little a) (little b)) refl
  where
    equal : little a ≡ little b → a ≡ b
    equal e = sym (bytes_little a h) ∙ (λ i. bytes_of (l i) (e i)) ∙ bytes_little b g

    go : (q : Bool) → eqb (little a) (little b) ≡ q → same a b ≡ q
    go true e = ap (λ (t : Bytes). same t b) (equal (eqb-true (little a) (little b) e)) ∙ same_self b
    go false e = not_same (same a b) refl
      where
        not_same : (q : Bool) → same a b ≡ q → q ≡ false
        not_same true f = absurd (eqb-false (little a) (little b) e (ap little (same_eq a b f)))
        not_same false f = refl

-- the first byte highest

none_high : (k : ℕ) → high k [] ≡ 0
none_high zero = refl
none_high (suc k) = refl

none_back : (k : ℕ) → high k (bytes_of k 0) ≡ 0
none_back zero = refl
none_back (suc k) = ap₂ ◌+◌ (zero-mul (256 ^ k)) (none_back k)

pub high_little : (k : ℕ) (s : Bytes) → every is_byte s ≡ true → high k (bytes_of k (little s)) ≡ high k s
high_little zero s h = refl
high_little (suc k) [] h = none_back (suc k)
high_little (suc k) (x ∷ s) h =
    (λ i. digits_mod (little s) (first_byte x s h) i * 256 ^ k + high k (bytes_of k (digits_div (little s) (first_byte x s h) i)))
    ∙ ap (λ (n : ℕ). x * 256 ^ k + n) (high_little k s (other_bytes x s h))

pub high_lt : (k : ℕ) (s : Bytes) → every is_byte s ≡ true → high k s < 256 ^ k
high_lt zero s h = lit< tt
high_lt (suc k) [] h = one-le-pow (suc k) 256 (lit< tt)
high_lt (suc k) (x ∷ s) h =
    let top : suc x * 256 ^ k ≤ 256 * 256 ^ k = mul-le-mul_right (256 ^ k) (first_byte x s h) in
    omega (arith, top, suc-mul x (256 ^ k), high_lt k s (other_bytes x s h), pow-suc 256 k)

-- numbers in two parts compare by the higher part, then by the lower
module _ (m x y a b : ℕ) (ha : a < m) (hb : b < m) where
  lower : x < y → x * m + a < y * m + b
  lower h =
      let step : suc x * m ≤ y * m = mul-le-mul_right m h in
      omega (arith, step, suc-mul x m, ha)

pub pair_ltb : (m x y a b : ℕ) → a < m → b < m → ltb (x * m + a) (y * m + b) ≡ (ltb x y || eqb x y && ltb a b)
pair_ltb m x y a b ha hb = go (ltb x y) refl (eqb x y) refl
  where
    go : (t : Bool) → ltb x y ≡ t → (u : Bool) → eqb x y ≡ u → ltb (x * m + a) (y * m + b) ≡ (t || u && ltb a b)
    go true e u f = lt-ltb _ _ (lower m x y a b ha hb (ltb-true x y e))
    go false e true f = ap (λ (z : ℕ). ltb (x * m + a) (z * m + b)) (sym (eqb-true x y f)) ∙ below (ltb a b) refl
      where
        below : (q : Bool) → ltb a b ≡ q → ltb (x * m + a) (x * m + b) ≡ q
        below true g = let l = ltb-true a b g in lt-ltb (x * m + a) (x * m + b) (omega (arith, l))
        below false g = let l = ltb-false a b g in le-ltb (x * m + a) (x * m + b) (omega (arith, l))
    go false e false f =
        let l : y ≤ x = ltb-false x y e in
        let n : y < x = omega (arith, eqb-false x y f) in
        let over : y * m + b < x * m + a = lower m y x b a hb ha n in
        le-ltb (x * m + a) (y * m + b) (omega (arith, over))

-- bytes of one width of at most k come one before the other exactly if their numbers do
pub before_high : (k : ℕ) (a b : Bytes) → every is_byte a ≡ true → every is_byte b ≡ true → length a ≡ length b → length a ≤ k → before a b ≡ ltb (high k a) (high k b)
before_high k [] [] h g l m = sym (le-ltb (high k []) (high k []) (omega arith))
before_high k [] (y ∷ t) h g l m = absurd (omega (arith, l))
before_high k (x ∷ s) [] h g l m = absurd (omega (arith, l))
before_high zero (x ∷ s) (y ∷ t) h g l m = absurd (omega (arith, m))
before_high (suc k) (x ∷ s) (y ∷ t) h g l m =
    ap (λ (c : Bool). ltb x y || eqb x y && c) (before_high k s t (other_bytes x s h) (other_bytes y t g) (omega (arith, l)) (omega (arith, m)))
    ∙ sym (pair_ltb (256 ^ k) x y (high k s) (high k t) (high_lt k s (other_bytes x s h)) (high_lt k t (other_bytes y t g)))

power_split : (n k j : ℕ) → n ≡ k + j → 256 ^ n ≡ 256 ^ k * 256 ^ j
power_split n zero j e = let m : n ≡ j = omega arith in ap (λ (i : ℕ). 256 ^ i) m ∙ sym (one-mul (256 ^ j))
power_split zero (suc k) j e = absurd (omega arith)
power_split (suc n) (suc k) j e =
    let on : 256 ^ k * 256 ^ j * 256 ≡ 256 ^ k * 256 * 256 ^ j =
    mul_assoc (256 ^ k) (256 ^ j) 256 ∙ ap (λ (m : ℕ). 256 ^ k * m) (mul_comm (256 ^ j) 256) ∙ sym (mul_assoc (256 ^ k) 256 (256 ^ j)) in
    pow-suc 256 n ∙ ap (λ (m : ℕ). m * 256) (power_split n k j (omega arith)) ∙ on ∙ ap (λ (m : ℕ). m * 256 ^ j) (sym (pow-suc 256 k))

pub drop-take : (n k j : ℕ) (s : Bytes) → n ≡ k + j → drop k (take n s) ≡ take j (drop k s)
drop-take n zero j s e = let m : n ≡ j = omega arith in ap (λ (i : ℕ). take i s) m
drop-take zero (suc k) j s e = absurd (omega arith)
drop-take (suc n) (suc k) j [] e = sym (take-nil j)
drop-take (suc n) (suc k) j (x ∷ s) e = drop-take n k j s (omega arith)

-- the number of two parts
pub high_split : (n k j : ℕ) (s : Bytes) → n ≡ k + j → high n s ≡ high k s * 256 ^ j + high j (drop k s)
high_split n zero j s e =
    let m : n ≡ j = omega arith in
    ap (λ (i : ℕ). high i s) m ∙ omega (arith, zero-mul (256 ^ j))
high_split zero (suc k) j s e = absurd (omega arith)
high_split (suc n) (suc k) j [] e = sym (ap₂ ◌+◌ (zero-mul (256 ^ j)) (none_high j))
high_split (suc n) (suc k) j (x ∷ s) e =
    let less : n ≡ k + j = omega arith in
    let top : x * 256 ^ n ≡ x * 256 ^ k * 256 ^ j = ap (λ (m : ℕ). x * m) (power_split n k j less) ∙ sym (mul_assoc x (256 ^ k) (256 ^ j)) in
    omega (arith, top, high_split n k j s less, add-mul (x * 256 ^ k) (high k s) (256 ^ j))

-- FOR THE FUNCTIONS

-- what a slice of bytes holds are bytes, and so what a part of it holds
all_bytes : (s : Bytes) → ((i : ℕ) → get_or s i 0 < 256) → every is_byte s ≡ true
all_bytes [] h = refl
all_bytes (x ∷ s) h = ap₂ ◌&&◌ (lt-ltb x 256 (h 0)) (all_bytes s (λ i. h (suc i)))

pub part_bytes : (s : Bytes) (a n : ℕ) → ((i : ℕ) → get_or s i 0 < 256) → every is_byte (part a n s) ≡ true
part_bytes s a n h =
    let rest = (both _ (every is_byte (drop a s)) (sym (every_split is_byte a s) ∙ all_bytes s h)).1 in
    (both (every is_byte (part a n s)) _ (sym (every_split is_byte n (drop a s)) ∙ rest)).0

-- bytes laid into eight zeros
pub in_eight : (p : Bytes) → length p ≤ 8 → laid (replicate 8 0) 0 p ≡ p ++ replicate (8 - length p) 0
unfolding laid
in_eight p h =
    sets-eq p (replicate 8 0) 0 (omega arith)
    ∙ ap (λ (z : Bytes). p ++ z) (drop-replicate (0 + length p) 8 0 ∙ ap (λ (n : ℕ). replicate (8 - n) 0) (zero-add (length p)))

-- zeros after the last byte do not count
pub little_zeros : (p : Bytes) (k : ℕ) → little (p ++ replicate k 0) ≡ little p
little_zeros [] zero = refl
little_zeros [] (suc k) = omega (arith, little_zeros [] k)
little_zeros (x ∷ p) k = ap (λ (n : ℕ). n * 256 + x) (little_zeros p k)

pub high_zeros : (n : ℕ) (p : Bytes) (k : ℕ) → high n (p ++ replicate k 0) ≡ high n p
high_zeros zero p k = refl
high_zeros (suc n) [] zero = refl
high_zeros (suc n) [] (suc k) = ap₂ ◌+◌ (zero-mul (256 ^ n)) (high_zeros n [] k ∙ none_high n)
high_zeros (suc n) (x ∷ p) k = ap (λ (m : ℕ). x * 256 ^ n + m) (high_zeros n p k)

-- the numbers that the library reads in eight bytes
little_at : (i : ℕ) (s : Bytes) → little (drop i s) ≡ get_or s i 0 + little (drop (suc i) s) * 256
little_at i [] = ap little (drop-nil i)
little_at zero (x ∷ s) = omega arith
little_at (suc i) (x ∷ s) = little_at i s

pub le_little : (s : Bytes) → length s ≡ 8 → from_le_bytes w64 s ≡ little s
le_little s h =
    let end : little (drop 8 s) ≡ 0 = ap little (drop_of_length-le s (le_of_eq h)) in
    omega (arith, little_at 0 s, little_at 1 s, little_at 2 s, little_at 3 s, little_at 4 s, little_at 5 s, little_at 6 s, little_at 7 s)

high_at : (k i : ℕ) (s : Bytes) → high (suc k) (drop i s) ≡ get_or s i 0 * 256 ^ k + high k (drop (suc i) s)
high_at k i [] = ap (high (suc k)) (drop-nil i) ∙ sym (ap₂ ◌+◌ (zero-mul (256 ^ k)) (none_high k))
high_at k zero (x ∷ s) = refl
high_at k (suc i) (x ∷ s) = high_at k i s

be_high : (s : Bytes) → from_be_bytes w64 s ≡ high 8 s
be_high s = omega (arith, high_at 7 0 s, high_at 6 1 s, high_at 5 2 s, high_at 4 3 s, high_at 3 4 s, high_at 2 5 s, high_at 1 6 s, high_at 0 7 s)

pub be_eight : (s p : Bytes) (k : ℕ) → s ≡ p ++ replicate k 0 → from_be_bytes w64 s ≡ high 8 p
be_eight s p k e = be_high s ∙ ap (high 8) e ∙ high_zeros 8 p k

pub le_bytes : (w : ℕ) → to_le_bytes w64 w ≡ bytes_of 8 w
le_bytes w = simp div-div-eq-div-mul

-- four stores in a row are one text laid
pub stores : (l : Bytes) (i a b c d : ℕ) → set (set (set (set l i a) (i + 1) b) (i + 2) c) (i + 3) d ≡ sets l i (a ∷ b ∷ c ∷ d ∷ [])
stores l i a b c d =
    let one : i + 1 ≡ suc i = omega arith in
    let two : i + 2 ≡ suc (suc i) = omega arith in
    let three : i + 3 ≡ suc (suc (suc i)) = omega arith in
    λ j. set (set (set (set l i a) (one j) b) (two j) c) (three j) d

-- FOR CALLERS: a word laid

pub word_fits : (l : Bytes) (i w : ℕ) → i + 8 ≤ length l → word_laid l i w ≡ sets l i (bytes_of 8 w)
word_fits l i w h = ap (λ (b : Bool). cond b (sets l i (bytes_of 8 w)) l) (le-leb (i + 8) (length l) h)

pub word_out : (l : Bytes) (i w : ℕ) → length l < i + 8 → word_laid l i w ≡ l
word_out l i w h = ap (λ (b : Bool). cond b (sets l i (bytes_of 8 w)) l) (lt-leb (i + 8) (length l) h)

pub ruleset word_put = (word_fits, word_out, le_bytes)
