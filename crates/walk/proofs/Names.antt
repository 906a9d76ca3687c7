-- The names of records as numbers. Assumes nothing.
use Prim.{tt}
use Prim.Native.Nat.{ℕ, suc, ◌+◌, ◌-◌, ◌*◌, ◌%◌, ◌^◌, ◌≤◌, ◌<◌}
use mathlib.Core.List.{[], ◌∷◌}
use mathlib.Core.Path.{◌≡◌, refl, sym, ap, ◌∙◌}
use mathlib.Core.Bool.{Bool, true, false, cond}
use native.Mathlib.Nat.{add_comm, add-sub_cancel_left}
use native.Mathlib.Omega.{arith}
use borrow.Author.Tests.{eqb-true, eqb-false, ne_eqb}
use lib.Arith.{digits_mod}
use lib.Dec.{eqb, lit≤}
use lib.ListN.{length, get_or, take, drop, length-take}
use lib.Seq.{take-take}
use Rattle.paper.specs.declared.Kind.{Kind}
use Rattle.paper.specs.declared.Kind.TheVariants.{TranA, TranB, Form, Unknown, Payment, Auth, Summary, Recap, Stray}
use Rattle.paper.specs.Bytes.{Bytes, bytes, every, same, part, number}
use Rattle.paper.specs.Walk.{count_of, named_form, named}
use Rattle.paper.proofs.Laws.{both, same_eq}
use Rattle.text.specs.Words.{is_byte, little}
use Rattle.text.proofs.Words.{little_split, little_lt, every_split, same_little}

-- the first k of eight bytes
module _ (k : ℕ) (r : Bytes) (at w : ℕ) (few : k ≤ 8) (e : w ≡ little (part at 8 r)) (h : every is_byte (part at 8 r) ≡ true) where
  first : take k (part at 8 r) ≡ part at k r
  first = take-take k 8 (drop at r) few

  pub first_bytes : every is_byte (part at k r) ≡ true
  first_bytes =
      ap (every is_byte) (sym first)
      ∙ (both (every is_byte (take k (part at 8 r))) (every is_byte (drop k (part at 8 r))) (sym (every_split is_byte k (part at 8 r)) ∙ h)).0

  pub first_told : w % 256 ^ k ≡ little (part at k r)
  first_told =
      let s = part at k r in
      let q = little (drop k (part at 8 r)) in
      let less : little s < 256 ^ k = little_lt k s first_bytes (omega (arith, length-take k (drop at r))) in
      ap (λ (x : ℕ). x % 256 ^ k) (e ∙ little_split k (part at 8 r) ∙ ap (λ (l : Bytes). little l + q * 256 ^ k) first ∙ add_comm (little s) (q * 256 ^ k))
      ∙ digits_mod q less

-- the first six
pub six_value : (r : Bytes) (at w : ℕ) → w ≡ little (part at 8 r) → every is_byte (part at 8 r) ≡ true → w % 281474976710656 ≡ little (part at 6 r)
six_value r at w e h = first_told 6 r at w (omega arith) e h

pub six_bytes : (r : Bytes) (at : ℕ) → every is_byte (part at 8 r) ≡ true → every is_byte (part at 6 r) ≡ true
six_bytes r at h = first_bytes 6 r at (little (part at 8 r)) (omega arith) refl h

-- eight bytes, as the code has them
pub eight_bytes : (r : Bytes) (at : ℕ) → part 0 8 (take (at + 8 - at) (drop at r)) ≡ part at 8 r
eight_bytes r at = ap (λ (n : ℕ). take 8 (take n (drop at r))) (add-sub_cancel_left at 8) ∙ take-take 8 8 (drop at r) (omega arith)

pub ruleset six = (six_value, six_bytes, eight_bytes)

-- bytes, fewer than the name's where the record ends before, are the name exactly if the numbers are the same: its last byte is not 0
pub is_name : (k : ℕ) (s b : Bytes) (n : ℕ) → n ≡ little s → every is_byte s ≡ true → length s ≤ suc k
    → every is_byte b ≡ true → length b ≡ suc k → 256 ^ k ≤ little b → same s b ≡ eqb n (little b)
is_name k s b n e h l g m top = go (eqb (length s) (suc k)) refl ∙ ap (λ (x : ℕ). eqb x (little b)) (sym e)
  where
    go : (q : Bool) → eqb (length s) (suc k) ≡ q → same s b ≡ eqb (little s) (little b)
    go true f = same_little s b h g (eqb-true (length s) (suc k) f ∙ sym m)
    go false f = not_same (same s b) refl ∙ sym (ne_eqb (little s) (little b) apart)
      where
        other : length s ≡ suc k → ⊥
        other = eqb-false (length s) (suc k) f

        low : little s < 256 ^ k
        low = little_lt k s h (omega (arith, l, eqb-false (length s) (suc k) f))

        apart : little s ≡ little b → ⊥
        apart p = omega (arith, low, top, p)

        not_same : (q : Bool) → same s b ≡ q → q ≡ false
        not_same true p = absurd (other (ap length (same_eq s b p) ∙ m))
        not_same false p = refl

-- the six bytes of a name
module _ (r : Bytes) (at n : ℕ) (e : n ≡ little (part at 6 r)) (h : every is_byte (part at 6 r) ≡ true) where
  by_number : (b : Bytes) → every is_byte b ≡ true → length b ≡ 6 → 1099511627776 ≤ little b → same (part at 6 r) b ≡ eqb n (little b)
  by_number b g m top = is_name 5 (part at 6 r) b n e h (omega (arith, length-take 6 (drop at r))) g m top

-- PMT, 4868
abbrev pub form_by : ℕ → Kind
form_by n = cond (eqb n 35322353438032) Payment (cond (eqb n 35322754119732) Form Unknown)

pub form_by_lem : (r : Bytes) (n : ℕ) → n ≡ little (part 14 6 r) → every is_byte (part 14 6 r) ≡ true → named_form r ≡ form_by n
unfolding named_form
form_by_lem r n e h = rw (by_number r 14 n e h (bytes "PMT   ") refl refl (lit≤ tt), by_number r 14 n e h (bytes "4868  ") refl refl (lit≤ tt))

-- FRM, ATH, SUM, RECAP, TRANA, TRANB
abbrev pub kind_by : ℕ → Kind → Kind
kind_by n form =
    cond (eqb n 35322352980550) form
    (cond (eqb n 35322352653377) Auth
    (cond (eqb n 35322352981331) Summary
    (cond (eqb n 35529064400210) Recap
    (cond (eqb n 35464857866836) TranA
    (cond (eqb n 35469152834132) TranB Stray)))))

pub named_by : (r : Bytes) (n : ℕ) → n ≡ little (part 8 6 r) → every is_byte (part 8 6 r) ≡ true → named r ≡ kind_by n (named_form r)
unfolding named
named_by r n e h =
    rw (
      by_number r 8 n e h (bytes "FRM   ") refl refl (lit≤ tt),
      by_number r 8 n e h (bytes "ATH   ") refl refl (lit≤ tt),
      by_number r 8 n e h (bytes "SUM   ") refl refl (lit≤ tt),
      by_number r 8 n e h (bytes "RECAP ") refl refl (lit≤ tt),
      by_number r 8 n e h (bytes "TRANA ") refl refl (lit≤ tt),
      by_number r 8 n e h (bytes "TRANB ") refl refl (lit≤ tt),
    )

-- the four digits of a count
pub count_told : (s : Bytes) (n : ℕ) → 4 ≤ length s → n ≡ (get_or s 0 0 - 48) * 1000 + (get_or s 1 0 - 48) * 100 + (get_or s 2 0 - 48) * 10 + (get_or s 3 0 - 48) → n ≡ count_of s
unfolding count_of number
count_told (x ∷ y ∷ z ∷ u ∷ s) n l e = omega (arith, e)
count_told [] n l e = absurd (omega (arith, l))
count_told (x ∷ []) n l e = absurd (omega (arith, l))
count_told (x ∷ y ∷ []) n l e = absurd (omega (arith, l))
count_told (x ∷ y ∷ z ∷ []) n l e = absurd (omega (arith, l))

-- "****"
pub stars_told : (s : Bytes) (w : ℕ) → w ≡ little (part 4 8 s) → every is_byte (part 4 8 s) ≡ true → same (part 4 4 s) (bytes "****") ≡ eqb (w % 4294967296) 707406378
stars_told s w e h =
    is_name 3 (part 4 4 s) (bytes "****") (w % 4294967296) (first_told 4 s 4 w (omega arith) e h) (first_bytes 4 s 4 w (omega arith) e h) (omega (arith, length-take 4 (drop 4 s))) refl refl (lit≤ tt)
