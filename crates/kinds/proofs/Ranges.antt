-- The table's answers are those of the ranges: one test that is computed over all its entries. Assumes nothing.
use Prim.Native.Nat.{ℕ, zero, suc, ◌+◌, ◌≤◌, ◌<◌}
use Prim.{tt}
use mathlib.Core.Bool.{Bool, true, false, not, ◌&&◌}
use mathlib.Core.List.{List, [], ◌∷◌}
use mathlib.Core.Path.{◌≡◌, refl, sym, ap, ◌∙◌, subst}
use native.Mathlib.Nat.{add-zero, zero-add, add-suc, suc-add, le_of_suc-le-suc, not-suc-le-zero}
use native.Mathlib.Omega.{arith}
use borrow.Author.Tests.{ne_eqb, le-leb, lt-leb, ltb-true, ltb-false}
use lib.Bits.{bit_and, and_zero_r}
use lib.Dec.{T, eqb, leb, ltb}
use lib.ListN.{length, get_or}
use Rattle.paper.specs.Bytes.{within, is_digit, is_letter}
use Rattle.paper.specs.Fields.{name_byte, is_alnum, street_byte, city_byte, account_byte}
use Rattle.paper.specs.Pack.{control_byte}
use Rattle.kinds.specs.Kinds.{Kind, kinds, table, is_in}

-- a set of kinds, and the range that it stands for: each kind by itself, and letters with digits
record Range : Type 0 where
  set : ℕ
  has : ℕ → Bool

abbrev alone : List Kind → List Range
alone [] = []
alone (k ∷ ks) = record { set = k.bit; has = k.has } ∷ alone ks

abbrev ranges : List Range
ranges = record { set = 3; has = is_alnum } ∷ alone kinds

-- the kinds k have one of a set
abbrev meets : ℕ → ℕ → Bool
meets k set = not (eqb (bit_and k set) 0)

abbrev alike : Bool → Bool → Bool
alike true b = b
alike false b = not b

alike_same : (a b : Bool) → T (alike a b) → a ≡ b
alike_same true true h = refl
alike_same true false h = absurd h
alike_same false true h = absurd h
alike_same false false h = refl

two : (a b : Bool) → T (a && b) → T a × T b
two true b h = (tt, h)
two false b h = absurd h

-- the kinds k of the byte x answer as every range does
abbrev agree : ℕ → ℕ → List Range → Bool
agree x k [] = true
agree x k (r ∷ rs) = alike (meets k r.set) (r.has x) && agree x k rs

-- so do those of each entry of a table, from the byte i on
abbrev fits : ℕ → List ℕ → Bool
fits i [] = true
fits i (k ∷ ks) = agree i k ranges && fits (suc i) ks

-- THE TEST, computed over the 256 entries
pub fitting : T (fits 0 table)
unfolding table
fitting = tt

long : length table ≡ 256
unfolding table
long = refl

fits_at : (ks : List ℕ) (i : ℕ) → T (fits i ks) → (x : ℕ) → x < length ks → T (agree (i + x) (get_or ks x 0) ranges)
fits_at [] i t x h = absurd (not-suc-le-zero h)
fits_at (k ∷ ks) i t zero h = subst (λ (m : ℕ). T (agree m k ranges)) (sym (add-zero i)) (two (agree i k ranges) (fits (suc i) ks) t).0
fits_at (k ∷ ks) i t (suc x) h =
    subst (λ (m : ℕ). T (agree m (get_or ks x 0) ranges)) (suc-add i x ∙ sym (add-suc i x))
    (fits_at ks (suc i) (two (agree i k ranges) (fits (suc i) ks) t).1 x (le_of_suc-le-suc h))

past : (ks : List ℕ) (x : ℕ) → length ks ≤ x → get_or ks x 0 ≡ 0
past [] x h = refl
past (k ∷ ks) zero h = absurd (omega (arith, h))
past (k ∷ ks) (suc x) h = past ks x (omega (arith, h))

-- no range reaches past 255
outside : (x : ℕ) → 256 ≤ x → T (agree x 0 ranges)
outside x h =
    let a : leb 48 x ≡ true = le-leb 48 x (omega arith) in
    let b : leb 65 x ≡ true = le-leb 65 x (omega arith) in
    let c : leb 32 x ≡ true = le-leb 32 x (omega arith) in
    let d : leb x 57 ≡ false = lt-leb x 57 (omega arith) in
    let e : leb x 90 ≡ false = lt-leb x 90 (omega arith) in
    let f : leb x 126 ≡ false = lt-leb x 126 (omega arith) in
    let g : eqb x 32 ≡ false = ne_eqb x 32 (omega arith) in
    let k : eqb x 38 ≡ false = ne_eqb x 38 (omega arith) in
    let l : eqb x 45 ≡ false = ne_eqb x 45 (omega arith) in
    let m : eqb x 60 ≡ false = ne_eqb x 60 (omega arith) in
    let n : eqb x 47 ≡ false = ne_eqb x 47 (omega arith) in
    rw (a, b, c, d, e, f, g, k, l, m, n) tt

everywhere : (x : ℕ) → T (agree x (get_or table x 0) ranges)
everywhere x = go (ltb x 256) refl
  where
    go : (q : Bool) → ltb x 256 ≡ q → T (agree x (get_or table x 0) ranges)
    go true e = subst (λ (m : ℕ). T (agree m (get_or table x 0) ranges)) (zero-add x) (fits_at table 0 fitting x (omega (arith, ltb-true x 256 e, long)))
    go false e =
        let h : 256 ≤ x = ltb-false x 256 e in
        subst (λ (k : ℕ). T (agree x k ranges)) (sym (past table x (omega (arith, h, long)))) (outside x h)

-- the n-th range; past the last one none, which no byte has
abbrev range : ℕ → List Range → Range
range n [] = record { set = 0; has = λ x. false }
range zero (r ∷ rs) = r
range (suc n) (r ∷ rs) = range n rs

agree_at : (n x k : ℕ) (rs : List Range) → T (agree x k rs) → meets k (range n rs).set ≡ (range n rs).has x
agree_at n x k [] h = ap (λ (a : ℕ). not (eqb a 0)) (and_zero_r k)
agree_at zero x k (r ∷ rs) h = alike_same _ _ (two (alike (meets k r.set) (r.has x)) (agree x k rs) h).0
agree_at (suc n) x k (r ∷ rs) h = agree_at n x k rs (two (alike (meets k r.set) (r.has x)) (agree x k rs) h).1

-- as functions: a set of kinds by the table, and its range
pub tells : (n : ℕ) → is_in table (range n ranges).set ≡ (range n ranges).has
unfolding is_in
tells n = λ i x. agree_at n x (get_or table x 0) ranges (everywhere x) i

pub digit_kind : is_in table 1 ≡ is_digit
digit_kind = tells 1

pub letter_kind : is_in table 2 ≡ is_letter
letter_kind = tells 2

pub alnum_kind : is_in table 3 ≡ is_alnum
alnum_kind = tells 0

pub name_kind : is_in table 4 ≡ name_byte
name_kind = tells 3

pub street_kind : is_in table 8 ≡ street_byte
street_kind = tells 4

pub city_kind : is_in table 16 ≡ city_byte
city_kind = tells 5

pub account_kind : is_in table 32 ≡ account_byte
account_kind = tells 6

pub control_kind : is_in table 64 ≡ control_byte
control_kind = tells 7

pub printable_kind : is_in table 128 ≡ within 32 126
printable_kind = tells 8
