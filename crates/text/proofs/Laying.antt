-- Texts laid into bytes from a place on. Assumes nothing.
use mathlib.Core.Path.{◌≡◌, refl, sym, ap, ◌∙◌}
use mathlib.Core.List.{List, [], ◌∷◌, ◌++◌, append-nil, append_assoc}
use Prim.Native.Nat.{ℕ, zero, suc, ◌+◌, ◌-◌, ◌≤◌, min}
use native.Mathlib.Nat.{add-suc, add-zero, zero-add, suc-add, le_of_eq}
use native.Mathlib.Omega.{arith}
use borrow.Rule.Slice.PartMut.{put_mid}
use lib.ListN.{length, length-set, length-take, set, drop, take, drop_of_length-le, length-drop}
use lib.Seq.{take-nil, sets, sets-eq, set_out, drop-drop, take_all}
use Rattle.paper.specs.Bytes.{laid}

-- two texts, the second right after the first, are one
pub laid_append : (s t r : List ℕ) (at : ℕ) → laid (laid r at s) (at + length s) t ≡ laid r at (s ++ t)
unfolding laid
laid_append [] t r at = rw add-zero
laid_append (x ∷ s) t r at = rw (add-suc, ← suc-add) (laid_append s t (set r at x) (suc at))

-- nothing is laid past the last byte
sets_past : (t r : List ℕ) (k : ℕ) → length r ≤ k → sets r k t ≡ r
sets_past [] r k h = refl
sets_past (x ∷ t) r k h =
    ap (λ (q : List ℕ). sets q (suc k) t) (set_out r k x h) ∙ sets_past t r (suc k) (omega arith)

-- of a text only what there is room for is laid
sets_room : (t r : List ℕ) (k n : ℕ) → n ≡ min (length t) (length r - k) → sets r k (take n t) ≡ sets r k t
sets_room [] r k n e = ap (sets r k) (take-nil n)
sets_room (x ∷ t) r k zero e = sym (sets_past (x ∷ t) r k (omega arith))
sets_room (x ∷ t) r k (suc n) e = sets_room t (set r k x) (suc k) n (omega (arith, length-set r k x))

-- what copying it leaves
pub laid_copy : (out t : List ℕ) (at n m : ℕ) → at ≤ length out → n ≡ min (length t) (length out - at) → m ≡ n
    → put_mid at m out (take n t) ≡ laid out at t
unfolding laid
laid_copy out t at n m h e f =
    let size : n ≡ length (take n t) = omega (arith, length-take n t) in
    let k : at + m ≡ at + length (take n t) = omega (arith, f, size) in
    ap (λ (r : List ℕ). take at out ++ (take n t ++ r)) (drop-drop m at out ∙ ap (λ (i : ℕ). drop i out) k)
    ∙ sym (append_assoc (take at out) (take n t) (drop (at + length (take n t)) out))
    ∙ sym (sets-eq (take n t) out at (omega (arith, size))) ∙ sets_room t out at n e

-- past the last byte nothing is
pub laid_past : (out t : List ℕ) (at : ℕ) → length out ≤ at → out ≡ laid out at t
unfolding laid
laid_past out t at h = sym (sets_past t out at h)

-- a text laid at the front of the k bytes from a place on, which are put back; for a caller that lends them
pub lent_laid : (out x new : List ℕ) (to k : ℕ) → k ≡ length out - to → to + length x ≤ length out → new ≡ laid (take k (drop to out)) 0 x
    → take to out ++ (new ++ drop k (drop to out)) ≡ laid out to x
unfolding laid
lent_laid out x new to k e f n =
    let s = drop to out in
    let l : length s ≡ k = length-drop to out ∙ sym e in
    let whole : take k s ≡ s = take_all k s (le_of_eq l) in
    let none : drop k s ≡ [] = drop_of_length-le s (le_of_eq l) in
    let fits : 0 + length x ≤ length s = omega (arith, l) in
    let mid : new ≡ x ++ drop (to + length x) out =
    n ∙ ap (λ (r : List ℕ). laid r 0 x) whole ∙ sets-eq x s 0 fits ∙ ap (λ (r : List ℕ). x ++ r) (drop-drop (0 + length x) to out ∙ ap (λ (m : ℕ). drop (to + m) out) (zero-add (length x))) in
    (λ i. take to out ++ (mid i ++ none i)) ∙ ap (λ (r : List ℕ). take to out ++ r) (append-nil (x ++ drop (to + length x) out))
    ∙ sym (append_assoc (take to out) x (drop (to + length x) out)) ∙ sym (sets-eq x out to f)
