-- A text whose bytes are all one, looked at eight bytes at a time. Assumes nothing.
use Rattle.std.proofs.Common.{◌≡◌, ℕ, zero, suc, ◌*◌, ◌/◌, ◌≤◌, Bool, true, false, ◌&&◌, List, [], ◌∷◌, eqb, nat_eq, length, take, drop, replicate, refl, sym, ap, ap₂, ◌∙◌, arith}
use Rattle.std.specs.List.{list_all}
use Rattle.std.specs.Simd.{first_chunks}
use Rattle.std.proofs.lemmas.List.{drop-drop, length-take-le, length-drop}
use mathlib.Core.Bool.{and_assoc}
use lib.Pointwise.{pointwise}
use Rattle.paper.specs.Bytes.{Bytes, every}
use Rattle.text.proofs.Words.{every_split}

module _ (b : ℕ) where
  abbrev is : ℕ → Bool
  is x = eqb x b

  abbrev are : Bytes → Bool
  are e = pointwise nat_eq e (replicate 8 b)

  every_same : (s : Bytes) → every is s ≡ pointwise nat_eq s (replicate (length s) b)
  every_same [] = refl
  every_same (x ∷ s) = ap (λ (t : Bool). eqb x b && t) (every_same s)

  in_eights : (k : ℕ) (s : Bytes) → k * 8 ≤ length s → every is s ≡ (list_all are (first_chunks 8 k s) && every is (drop (k * 8) s))
  in_eights zero s h = refl
  in_eights (suc k) s h =
      let first : every is (take 8 s) ≡ are (take 8 s) =
      every_same (take 8 s) ∙ ap (λ (n : ℕ). pointwise nat_eq (take 8 s) (replicate n b)) (length-take-le 8 s (omega arith)) in
      let rest = in_eights k (drop 8 s) (omega (arith, length-drop 8 s)) in
      let on : drop (k * 8) (drop 8 s) ≡ drop (suc k * 8) s = drop-drop (k * 8) 8 s ∙ ap (λ (n : ℕ). drop n s) (omega arith) in
      every_split is 8 s ∙ ap₂ ◌&&◌ first (rest ∙ ap (λ (t : Bytes). list_all are (first_chunks 8 k (drop 8 s)) && every is t) on)
      ∙ sym (and_assoc (are (take 8 s)) _ _)

  -- by the eights es of a text and the rest r of it: p says whether those are all b, q whether this is
  module _ (s r : Bytes) (es : List Bytes) (p : Bool) (e : es ≡ first_chunks 8 (length s / 8) s) (f : r ≡ drop (length s / 8 * 8) s) (g : p ≡ list_all are es) where
    by_eights : (p && every is r) ≡ every is s
    by_eights = (λ i. (g ∙ ap (list_all are) e) i && every is (f i)) ∙ sym (in_eights (length s / 8) s (omega arith))

    pub eights_yes : (q : Bool) → p ≡ true → q ≡ every is r → q ≡ every is s
    eights_yes q t h = h ∙ sym (ap (λ (a : Bool). a && every is r) t) ∙ by_eights

    pub eights_no : p ≡ false → p ≡ every is s
    eights_no n = n ∙ sym (ap (λ (a : Bool). a && every is r) n) ∙ by_eights
