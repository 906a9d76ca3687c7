-- Digits, and the number that they write: each of the two gives the other. Assumes nothing.
use Prim.Native.Nat.{ℕ, zero, suc, ◌+◌, ◌*◌, ◌/◌, ◌%◌, ◌^◌, ◌≤◌, ◌<◌}
use mathlib.Core.Bool.{Bool, true, false, cond}
use mathlib.Core.List.{[], ◌∷◌, ◌++◌, append-nil, append_assoc}
use mathlib.Core.Path.{◌≡◌, refl, sym, ap, ◌∙◌}
use native.Mathlib.Nat.{mul_assoc, pow-suc, one-le-pow, mod-lt, mod-eq_of_lt, div-add-mod', mul-add-mod_self_right}
use native.Mathlib.Omega.{arith}
use lib.Dec.{eqb, leb}
use lib.ListN.{length, take}
use borrow.Author.Tests.{eq-eqb, eqb-true, le-leb, leb-true}
use Rattle.std.proofs.Common.{Some, None}
use Rattle.std.specs.Option.{is_some}
use Rattle.paper.specs.Bytes.{Bytes, run, same, digits, is_digit, digit_on, number, written}
use Rattle.paper.proofs.Laws.{both, same_eq, same_self}
use Rattle.paper.proofs.Numbers.{value_append}
use Rattle.words.specs.Past.{number_if}

digits_append : (s t : Bytes) → digits s ≡ true → digits t ≡ true → digits (s ++ t) ≡ true
digits_append [] t h g = g
digits_append (x ∷ s) t h g =
    let b = both (is_digit x) (digits s) h in
    rw b.0 (digits_append s t b.1 g)

digit : (n : ℕ) → is_digit (n % 10 + 48) ≡ true
digit n = rw (le-leb 48 (n % 10 + 48) (omega arith), le-leb (n % 10 + 48) 57 (omega arith))

pub digits_written : (w n : ℕ) → digits (written w n) ≡ true
digits_written zero n = refl
digits_written (suc w) n = digits_append (written w (n / 10)) ((n % 10 + 48) ∷ []) (digits_written w (n / 10)) (rw digit)

-- the last digit apart
split : (n m : ℕ) → 1 ≤ m → n % (m * 10) ≡ n / 10 % m * 10 + n % 10
split n m h =
    let q = n / 10 in
    let low : q % m < m = mod-lt q h in
    let e : q / m * m + q % m ≡ q = div-add-mod' q m in
    let a : q / m * m * 10 ≡ q / m * (m * 10) = mul_assoc (q / m) m 10 in
    let s : n ≡ q / m * (m * 10) + (q % m * 10 + n % 10) = omega arith in
    ap (λ (x : ℕ). x % (m * 10)) s ∙ mul-add-mod_self_right (q / m) (m * 10) (q % m * 10 + n % 10) ∙ mod-eq_of_lt (omega arith)

pub number_written : (w n : ℕ) → number (written w n) ≡ n % 10 ^ w
unfolding number
number_written zero n = omega arith
number_written (suc w) n =
    value_append (written w (n / 10)) ((n % 10 + 48) ∷ []) 0
    ∙ ap (λ (v : ℕ). digit_on v (n % 10 + 48)) (number_written w (n / 10))
    ∙ last (n / 10 % 10 ^ w)
    ∙ sym (ap (λ (m : ℕ). n % m) (pow-suc 10 w) ∙ split n (10 ^ w) (one-le-pow w 10 (omega arith)))
  where
    last : (v : ℕ) → digit_on v (n % 10 + 48) ≡ v * 10 + n % 10
    last v = omega arith

-- a number that fits is written whole
pub number_written_whole : (w n : ℕ) → n < 10 ^ w → number (written w n) ≡ n
number_written_whole w n h = number_written w n ∙ mod-eq_of_lt h

-- so many digits of a start, and then the digits of s
written_on : (s : Bytes) (w a : ℕ) → digits s ≡ true → written (w + length s) (run digit_on a s) ≡ written w a ++ s
written_on [] w a h = let e : w + 0 ≡ w = omega arith in ap (λ (v : ℕ). written v a) e ∙ sym (append-nil (written w a))
written_on (x ∷ s) w a h =
    let b = both (is_digit x) (digits s) h in
    let c = both (leb 48 x) (leb x 57) b.0 in
    let low : 48 ≤ x = leb-true 48 x c.0 in
    let high : x ≤ 57 = leb-true x 57 c.1 in
    let e : w + suc (length s) ≡ suc w + length s = omega arith in
    let q : digit_on a x / 10 ≡ a = omega arith in
    let r : digit_on a x % 10 + 48 ≡ x = omega arith in
    ap (λ (v : ℕ). written v (run digit_on (digit_on a x) s)) e
    ∙ written_on s (suc w) (digit_on a x) b.1
    ∙ (λ i. (written w (q i) ++ r i ∷ []) ++ s)
    ∙ append_assoc (written w a) (x ∷ []) s

pub written_number : (s : Bytes) → digits s ≡ true → written (length s) (number s) ≡ s
unfolding number
written_number s h = let e : length s ≡ 0 + length s = omega arith in ap (λ (w : ℕ). written w (run digit_on 0 s)) e ∙ written_on s 0 0 h

-- two fields of digits in one width: they are the same exactly if they write the same number
pub same_number : (s t : Bytes) → length s ≡ length t → digits s ≡ true → digits t ≡ true → same s t ≡ eqb (number s) (number t)
same_number s t e h g = go (same s t) refl (eqb (number s) (number t)) refl
  where
    equal : number s ≡ number t → s ≡ t
    equal n = sym (written_number s h) ∙ (λ i. written (e i) (n i)) ∙ written_number t g

    go : (b : Bool) → same s t ≡ b → (c : Bool) → eqb (number s) (number t) ≡ c → b ≡ c
    go true p c q = sym (eq-eqb (number s) (number t) (ap number (same_eq s t p))) ∙ q
    go false p true q = sym p ∙ ap (same s) (sym (equal (eqb-true (number s) (number t) q))) ∙ same_self s
    go false p false q = refl

-- a number, and none
pub some_number : (f : Bytes) → is_some (number_if f) ≡ digits f
unfolding number_if
some_number f = by (digits f)
  where
    by : (d : Bool) → is_some (cond d (Some (number (take 16 f))) None) ≡ d
    by true = refl
    by false = refl
