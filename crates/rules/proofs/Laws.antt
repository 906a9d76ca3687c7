-- Sets of rules, and the lists of the definitions. Assumes nothing.
use Prim.Native.Nat.{ℕ, zero, suc, ◌+◌, ◌*◌, ◌/◌, ◌%◌, ◌^◌, ◌≤◌, ◌<◌}
use mathlib.Core.Bool.{Bool, true, false, cond}
use mathlib.Core.List.{List, [], ◌∷◌}
use mathlib.Core.Path.{◌≡◌, refl, sym, ap, ◌∙◌}
use native.Mathlib.Nat.{pow-suc, pow-le-pow_right, mod-eq_of_lt}
use native.Mathlib.Omega.{arith}
use borrow.Author.Tests.{ne_eqb}
use lib.Count.{ones, ones_step}
use lib.Dec.{eqb}
use lib.ListN.{length}
use Rattle.paper.specs.declared.Kind.{Kind}
use Rattle.paper.specs.declared.Kind.TheVariants.{TranA, TranB, Form, Unknown, Payment, Auth, Summary, Recap, Stray}
use Rattle.paper.specs.declared.Facts.{Facts}
use Rattle.paper.specs.Bytes.{Bytes, bit, those, empty}
use Rattle.paper.specs.Walk.{fits, goes_on}
use Rattle.paper.specs.Conditions.{sight, view, holds, form_rules, payment_rules, auth_rules, summary_rules, rules_of}
use Rattle.paper.proofs.Laws.{never}
use Rattle.words.specs.Sets.{bit_on, bits_by}
use Rattle.rules.specs.declared.Before.{Before}
use Rattle.rules.specs.Sets.{others_of, chosen}

-- A TABLE AND A SET

bit_le : (b : Bool) → bit b ≤ 1
bit_le true = omega arith
bit_le false = omega arith

-- no rule is lost
bit_on_lem : (b : Bool) (t : ℕ) → t < 2 ^ 63 → bit_on b t ≡ t * 2 + bit b
unfolding bit_on
bit_on_lem b t h = ap (λ (n : ℕ). n * 2 + bit b) (mod-eq_of_lt h)

in_63 : (t n : ℕ) → t < 2 ^ n → n ≤ 63 → t < 2 ^ 63
in_63 t n below few = let most : 2 ^ n ≤ 2 ^ 63 = pow-le-pow_right (omega arith) few in omega arith

module _ (p : ℕ → Bool) where
  bits_below : (rules : List ℕ) → length rules ≤ 64 → bits_by p rules < 2 ^ length rules
  bits_below [] few = omega arith
  bits_below (x ∷ s) few =
      let below : bits_by p s < 2 ^ length s = bits_below s (omega arith) in
      let least : bits_by p s < 2 ^ 63 = in_63 (bits_by p s) (length s) below (omega arith) in
      omega (arith, pow-suc 2 (length s), bit_le (p x), bit_on_lem (p x) (bits_by p s) least)

  -- a rule and the later ones
  module _ (x : ℕ) (s : List ℕ) (few : length (x ∷ s) ≤ 64) where
    split : bits_by p (x ∷ s) ≡ bits_by p s * 2 + bit (p x)
    split = bit_on_lem (p x) (bits_by p s) (in_63 (bits_by p s) (length s) (bits_below s (omega arith)) (omega arith))

    lowest : bits_by p (x ∷ s) % 2 ≡ bit (p x)
    lowest = omega (arith, split, bit_le (p x))

    others : bits_by p (x ∷ s) / 2 ≡ bits_by p s
    others = omega (arith, split, bit_le (p x))

  pub chosen_those : (rules : List ℕ) → length rules ≤ 64 → chosen (bits_by p rules) rules ≡ those p rules
  chosen_those [] few = refl
  chosen_those (x ∷ s) few =
      let later : chosen (bits_by p s) s ≡ those p s = chosen_those s (omega arith) in
      rw (lowest x s few, others x s few, later) (by (p x))
    where
      by : (b : Bool) → cond (eqb (bit b) 1) (x ∷ those p s) (those p s) ≡ cond b (x ∷ those p s) (those p s)
      by true = refl
      by false = refl

  pub bits_none : (rules : List ℕ) → length rules ≤ 64 → eqb (bits_by p rules) 0 ≡ empty (those p rules)
  bits_none [] few = refl
  bits_none (x ∷ s) few = ap (λ (n : ℕ). eqb n 0) (split x s few) ∙ by (bits_by p s) (p x) (bits_none s (omega arith))
    where
      by : (t : ℕ) (b : Bool) → eqb t 0 ≡ empty (those p s) → eqb (t * 2 + bit b) 0 ≡ empty (cond b (x ∷ those p s) (those p s))
      by t true e = ne_eqb (t * 2 + 1) 0 (omega arith)
      by zero false e = e
      by (suc t) false e = ne_eqb (suc t * 2 + 0) 0 (omega arith) ∙ sym (ne_eqb (suc t) 0 (omega arith)) ∙ e

  -- as many bits as rules
  pub bits_ones : (rules : List ℕ) → length rules ≤ 64 → ones (bits_by p rules) ≡ length (those p rules)
  unfolding ones
  bits_ones [] few = refl
  bits_ones (x ∷ s) few = ones_step (bits_by p (x ∷ s)) ∙ rw (lowest x s few, others x s few, bits_ones s (omega arith)) (by (p x))
    where
      by : (b : Bool) → bit b + length (those p s) ≡ length (cond b (x ∷ those p s) (those p s))
      by true = omega arith
      by false = omega arith

pub few_rules : (k : Kind) → length (rules_of k) ≤ 64
unfolding form_rules payment_rules auth_rules summary_rules
few_rules TranA = omega arith
few_rules TranB = omega arith
few_rules Form = omega arith
few_rules Unknown = omega arith
few_rules Payment = omega arith
few_rules Auth = omega arith
few_rules Summary = omega arith
few_rules Recap = omega arith
few_rules Stray = omega arith

-- A RECORD AFTER THE FIRST

-- is not judged by what only the first record is: the lines of the state, the earlier numbers, the date
module _ (form payer spouse own bank dsn dcn date : Bytes) (zips : List Bytes) (whole : Facts) (b : Before) where
  pub others_are : (k : Kind) → goes_on k ≡ true → length form ≡ 384 → fits k (length own) ≡ true
      → others_of k form own payer spouse bank whole b ≡ bits_by (holds k (view (sight form payer spouse zips dsn dcn date whole) own bank b.pays b.aths)) (rules_of k)
  unfolding others_of
  others_are TranA on n f = absurd (never on)
  others_are TranB on n f = absurd (never on)
  others_are Form on n f = absurd (never on)
  others_are Unknown on n f = absurd (never on)
  others_are Payment on n f = rw (n, f)
  others_are Auth on n f = rw (n, f)
  others_are Summary on n f = rw (n, f)
  others_are Recap on n f = absurd (never on)
  others_are Stray on n f = absurd (never on)
