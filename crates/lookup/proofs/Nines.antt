-- Keys of nine bytes compared as numbers. Assumes nothing.
use mathlib.Core.Path.{◌≡◌, sym, ap, ◌∙◌}
use mathlib.Core.Bool.{Bool, true}
use Prim.Native.Nat.{ℕ}
use native.Mathlib.Omega.{arith}
use lib.Dec.{ltb}
use lib.ListN.{length, take}
use lib.Seq.{take_all}
use Rattle.paper.specs.Bytes.{Bytes, every, before, part}
use Rattle.text.specs.Words.{is_byte, high}
use Rattle.text.proofs.Words.{before_high}

-- the key `&a[0..9]` of nine bytes
module _ (a : Bytes) (l : length a ≡ 9) where
  nine_whole : take 9 a ≡ a
  nine_whole = take_all 9 a (omega arith)

  nine_bytes : every is_byte (part 0 16 (take 9 a)) ≡ true → every is_byte a ≡ true
  nine_bytes h = ap (every is_byte) (sym (ap (part 0 16) nine_whole ∙ take_all 16 a (omega arith))) ∙ h

-- x and y are their numbers, r how these compare
module _ (a b : Bytes) (l : length a ≡ 9) (m : length b ≡ 9) (x y : ℕ) (e : x ≡ high 16 (take 9 a)) (f : y ≡ high 16 (take 9 b))
    (h : every is_byte (part 0 16 (take 9 a)) ≡ true) (g : every is_byte (part 0 16 (take 9 b)) ≡ true) (r : Bool) where
  pub nine_before : r ≡ ltb x y → r ≡ before a b
  nine_before q =
      q ∙ (λ i. ltb ((e ∙ ap (high 16) (nine_whole a l)) i) ((f ∙ ap (high 16) (nine_whole b m)) i))
      ∙ sym (before_high 16 a b (nine_bytes a l h) (nine_bytes b m g) (l ∙ sym m) (omega arith))
