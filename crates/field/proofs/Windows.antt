-- The neighbours in a text, as a window goes over it. Assumes nothing.
use Rattle.std.proofs.Common.{◌≡◌, ℕ, suc, ◌≤◌, ◌<◌, Bool, false, cond, ◌&&◌, ◌||◌, not, List, [], ◌∷◌, eqb, leb, length, get_or, take, drop, refl, sym, ap, subst, ◌∙◌, arith, Bor}
use Rattle.std.specs.List.{fold, list_any}
use mathlib.Core.Bool.{or-false, or_assoc}
use Rattle.std.specs.Slice.Iter.{windows_rest, windows_size, windows_steps}
use Rattle.std.proofs.lemmas.Iterator.{YieldsList}
use Rattle.std.proofs.lemmas.Iterator.Splits.{YieldsList-from_shown_while}
use borrow.Author.Tests.{le-leb, lt-leb}
use Rattle.paper.specs.Bytes.{Bytes, is_space}
use Rattle.paper.specs.Fields.{beside}
use Rattle.field.specs.Gap.{gap}

-- each n neighbours
abbrev windows_of : ℕ → Bytes → List Bytes
windows_of n [] = []
windows_of n (x ∷ s) = cond (leb n (suc (length s))) (take n (x ∷ s) ∷ windows_of n s) []

none_left : (n : ℕ) (s : Bytes) → length s < n → length (windows_of n s) ≡ 0
none_left n [] h = refl
none_left n (x ∷ s) h = ap (λ (b : Bool). length (cond b (take n (x ∷ s) ∷ windows_of n s) [])) (lt-leb n (suc (length s)) h)

one_left : (n : ℕ) (s : Bytes) → 0 < n → n ≤ length s → windows_of n s ≡ take n s ∷ windows_of n (drop 1 s)
one_left n [] p h = absurd (omega arith)
one_left n (x ∷ s) p h = ap (λ (b : Bool). cond b (take n (x ∷ s) ∷ windows_of n s) []) (le-leb n (suc (length s)) h)

-- `s.windows(n)` gives them
pub from_windows : {w : _} (n : ℕ) (s : Bytes) → 0 < n → windows_size w ≡ n → windows_rest w ≡ s
    → YieldsList windows_steps (λ (x : Bor Bytes). x.now) w (windows_of n s)
from_windows {w} n s p e f =
    subst (YieldsList windows_steps (λ x. x.now) w) (λ i. windows_of (e i) (f i))
    (YieldsList-from_shown_while windows_steps (λ x. x.now) (λ u. windows_of (windows_size u) (windows_rest u)) (λ u. 0 < windows_size u)
    (λ u t p h. none_left (windows_size u) (windows_rest u) h.1.0)
    (λ u x t p h. (
      omega (arith, h.0),
      one_left (windows_size u) (windows_rest u) p h.1.0 ∙ (λ i. sym h.1.1 i ∷ windows_of (sym h.0 i) (sym h.1.2 i)),
    ))
    w (omega (arith, e)))

-- a fold that passes on whether one of them passed
abbrev pub passing : (Bytes → Bool) → Bool → Bytes → Bool
passing test found w = found || test w

passed : (test : Bytes → Bool) (ws : List Bytes) (b : Bool) → fold (passing test) b ws ≡ (b || list_any test ws)
passed test [] b = sym (or-false b)
passed test (w ∷ ws) b = passed test ws (b || test w) ∙ or_assoc b (test w) (list_any test ws)

abbrev pub is_pair : ℕ → ℕ → Bytes → Bool
is_pair a b w = eqb (get_or w 0 0) a && eqb (get_or w 1 0) b

pub two_windows : (a b : ℕ) (s : Bytes) → fold (passing (is_pair a b)) false (windows_of 2 s) ≡ beside (λ x. eqb x a) (λ x. eqb x b) s
two_windows a b s = passed (is_pair a b) (windows_of 2 s) false ∙ go s
  where
    go : (s : Bytes) → list_any (is_pair a b) (windows_of 2 s) ≡ beside (λ x. eqb x a) (λ x. eqb x b) s
    go [] = refl
    go (x ∷ []) = refl
    go (x ∷ y ∷ s) = ap (list_any (is_pair a b)) (one_left 2 (x ∷ y ∷ s) (omega arith) (omega arith)) ∙ ap (λ (t : Bool). eqb x a && eqb y b || t) (go (y ∷ s))

abbrev pub is_gap : Bytes → Bool
is_gap w = is_space (get_or w 0 0) && is_space (get_or w 1 0) && not (is_space (get_or w 2 0))

pub three_windows : (s : Bytes) → fold (passing is_gap) false (windows_of 3 s) ≡ gap s
three_windows s = passed is_gap (windows_of 3 s) false ∙ go s
  where
    go : (s : Bytes) → list_any is_gap (windows_of 3 s) ≡ gap s
    go [] = refl
    go (x ∷ []) = refl
    go (x ∷ y ∷ []) = refl
    go (x ∷ y ∷ z ∷ s) =
        ap (list_any is_gap) (one_left 3 (x ∷ y ∷ z ∷ s) (omega arith) (omega arith))
        ∙ ap (λ (t : Bool). is_space x && is_space y && not (is_space z) || t) (go (y ∷ z ∷ s))
