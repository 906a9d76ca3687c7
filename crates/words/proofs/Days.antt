-- Two days of eight bytes as numbers. Assumes nothing.
use Prim.Native.Nat.{ℕ}
use mathlib.Core.Bool.{true}
use mathlib.Core.Path.{◌≡◌, sym, ap, ◌∙◌}
use native.Mathlib.Nat.{le_of_eq}
use native.Mathlib.Omega.{arith}
use lib.Dec.{ltb}
use lib.ListN.{length}
use lib.Seq.{take_all}
use Rattle.paper.specs.Bytes.{Bytes, every, before, part}
use Rattle.text.specs.Words.{is_byte, high}
use Rattle.text.proofs.Words.{before_high}

pub by_numbers : (s t : Bytes) {a b : ℕ} → length s ≡ 8 → length t ≡ 8
    → a ≡ high 8 (part 0 8 s) → every is_byte (part 0 8 s) ≡ true
    → b ≡ high 8 (part 0 8 t) → every is_byte (part 0 8 t) ≡ true
    → ltb a b ≡ before s t
by_numbers s t l m e h f g =
    let p : part 0 8 s ≡ s = take_all 8 s (le_of_eq l) in
    let q : part 0 8 t ≡ t = take_all 8 t (le_of_eq m) in
    (λ i. ltb (e i) (f i))
    ∙ (λ i. ltb (high 8 (p i)) (high 8 (q i)))
    ∙ sym (before_high 8 s t (sym (ap (every is_byte) p) ∙ h) (sym (ap (every is_byte) q) ∙ g) (l ∙ sym m) (omega arith))
