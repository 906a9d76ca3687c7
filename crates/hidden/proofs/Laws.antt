-- The record set at the front, and what stands after it. Assumes nothing.
use Prim.Native.Nat.{ℕ, ◌+◌, ◌*◌}
use mathlib.Core.Path.{◌≡◌, ap, ◌∙◌}
use native.Mathlib.Omega.{arith}
use lib.ListN.{length, take, drop, length-take, length-drop}
use lib.Seq.{take_all}
use Rattle.paper.specs.declared.Layout.TheVariants.{LKey}
use Rattle.paper.specs.Bytes.{Bytes, part, number}
use Rattle.paper.specs.Layouts.{ack_key, entry, field}
use Rattle.hidden.specs.Sets.{set_length, first_set, after_set}

two_digits : (s : Bytes) → part 0 2 (field LKey 100 s) ≡ field LKey 100 s
unfolding field entry ack_key
two_digits s = take_all 2 (take 2 (drop 81 s)) (omega (arith, length-take 2 (drop 81 s)))

pub set_length_lem : (s count : Bytes) (n : ℕ) → count ≡ field LKey 100 s → n ≡ number (part 0 2 count) → 120 + 120 * n ≡ set_length s
unfolding set_length
set_length_lem s count n e en = ap (λ (k : ℕ). 120 + 120 * k) (en ∙ (λ i. number (part 0 2 (e i))) ∙ ap number (two_digits s))

pub after_set_lem : (s p : Bytes) (n : ℕ) → n ≡ set_length s → p ≡ part n (length s) s → p ≡ after_set s
unfolding after_set
after_set_lem s p n e ep = ep ∙ take_all (length s) (drop n s) (omega (arith, length-drop n s)) ∙ ap (λ (k : ℕ). drop k s) e
