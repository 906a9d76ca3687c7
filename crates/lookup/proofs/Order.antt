-- `before` is an order.
-- Assumes nothing.
use mathlib.Core.Path.{◌≡◌, refl, sym, ap, ◌∙◌, subst}
use mathlib.Core.Logic.{◌⊎◌, inl, inr, ⊎_elim}
use mathlib.Core.Bool.{Bool, true, false, ◌&&◌, ◌||◌, and-false}
use mathlib.Core.List.{[], ◌∷◌}
use Prim.Native.Nat.{ℕ, zero, suc, ◌<◌}
use native.Mathlib.Nat.{lt_irrefl}
use native.Mathlib.Omega.{arith}
use lib.Dec.{ltb, eqb}
use lib.ListN.{take}
use lib.Seq.{take-nil}
use borrow.Author.Tests.{eq-eqb, ne_eqb, lt-ltb, le-ltb, ltb-true, ltb-false, eqb-true, eqb-false}
use Rattle.paper.specs.Bytes.{Bytes, same, before}
use Rattle.paper.proofs.Laws.{never, same_eq}

-- the two ways in which one list comes before another
view : (x y : ℕ) (s t : Bytes) → before (x ∷ s) (y ∷ t) ≡ true → (x < y) ⊎ ((x ≡ y) × (before s t ≡ true))
view x y s t e = go (ltb x y) refl e
  where
    on : (q : Bool) → eqb x y ≡ q → (q && before s t) ≡ true → (x < y) ⊎ ((x ≡ y) × (before s t ≡ true))
    on true h f = inr (eqb-true x y h, f)
    on false h f = absurd (never f)

    go : (q : Bool) → ltb x y ≡ q → (q || eqb x y && before s t) ≡ true → (x < y) ⊎ ((x ≡ y) × (before s t ≡ true))
    go true h f = inl (ltb-true x y h)
    go false h f = on (eqb x y) refl f

first : (x y : ℕ) (s t : Bytes) → x < y → before (x ∷ s) (y ∷ t) ≡ true
first x y s t h = ap (λ (q : Bool). q || eqb x y && before s t) (lt-ltb x y h)

later : (x y : ℕ) (s t : Bytes) → x ≡ y → before s t ≡ true → before (x ∷ s) (y ∷ t) ≡ true
later x y s t e h = simp (le-ltb x y (omega arith), eq-eqb x y e, h)

pub before_trans : (a b c : Bytes) → before a b ≡ true → before b c ≡ true → before a c ≡ true
before_trans [] [] c p q = absurd (never p)
before_trans [] (y ∷ t) [] p q = absurd (never q)
before_trans [] (y ∷ t) (z ∷ u) p q = refl
before_trans (x ∷ s) [] c p q = absurd (never p)
before_trans (x ∷ s) (y ∷ t) [] p q = absurd (never q)
before_trans (x ∷ s) (y ∷ t) (z ∷ u) p q = go (view x y s t p) (view y z t u q) (before_trans s t u)
  where
    go : (x < y) ⊎ ((x ≡ y) × (before s t ≡ true)) → (y < z) ⊎ ((y ≡ z) × (before t u ≡ true))
        → (before s t ≡ true → before t u ≡ true → before s u ≡ true) → before (x ∷ s) (z ∷ u) ≡ true
    go (inl h) (inl l) r = first x z s u (omega arith)
    go (inl h) (inr l) r = first x z s u (omega (arith, l.0))
    go (inr h) (inl l) r = first x z s u (omega (arith, h.0))
    go (inr h) (inr l) r = later x z s u (h.0 ∙ l.0) (r h.1 l.1)

pub before_irrefl : (a : Bytes) → before a a ≡ true → ⊥
before_irrefl [] e = never e
before_irrefl (x ∷ s) e = go (view x x s s e) (before_irrefl s)
  where
    go : (x < x) ⊎ ((x ≡ x) × (before s s ≡ true)) → (before s s ≡ true → ⊥) → ⊥
    go (inl h) r = lt_irrefl x h
    go (inr h) r = r h.1

-- what comes before another is not the same
pub before_other : (a b : Bytes) → before a b ≡ true → same a b ≡ false
before_other a b h = go (same a b) refl
  where
    go : (q : Bool) → same a b ≡ q → q ≡ false
    go true e = absurd (before_irrefl b (subst (λ (l : Bytes). before l b ≡ true) (same_eq a b e) h))
    go false e = refl

-- of two lists one comes before the other, or they are the same
pub before_total : (a b : Bytes) → before a b ≡ false → (before b a ≡ true) ⊎ (a ≡ b)
before_total [] [] e = inr refl
before_total [] (y ∷ t) e = absurd (never (sym e))
before_total (x ∷ s) [] e = inl refl
before_total (x ∷ s) (y ∷ t) e = go (ltb x y) refl (eqb x y) refl e (before_total s t)
  where
    go : (p : Bool) → ltb x y ≡ p → (q : Bool) → eqb x y ≡ q → (p || q && before s t) ≡ false
        → (before s t ≡ false → (before t s ≡ true) ⊎ (s ≡ t)) → (before (y ∷ t) (x ∷ s) ≡ true) ⊎ ((x ∷ s) ≡ (y ∷ t))
    go true h q l f r = absurd (never (sym f))
    go false h false l f r = inl (first y x t s (omega (arith, ltb-false x y h, eqb-false x y l)))
    go false h true l f r =
        ⊎_elim (λ (b : before t s ≡ true). inl (later y x t s (sym (eqb-true x y l)) b)) (λ (b : s ≡ t). inr (λ i. eqb-true x y l i ∷ b i)) (r f)

-- a not after b, b before c
pub before_left : (a b c : Bytes) → before b a ≡ false → before b c ≡ true → before a c ≡ true
before_left a b c h e = ⊎_elim (λ (l : before a b ≡ true). before_trans a b c l e) (λ (l : b ≡ a). subst (λ (x : Bytes). before x c ≡ true) l e) (before_total b a h)

-- c before a, a not after b
pub before_right : (a b c : Bytes) → before b a ≡ false → before c a ≡ true → before c b ≡ true
before_right a b c h e = ⊎_elim (λ (l : before a b ≡ true). before_trans c a b e l) (λ (l : b ≡ a). subst (λ (x : Bytes). before c x ≡ true) (sym l) e) (before_total b a h)

-- where the first k bytes ascend, the first j do not descend
pub before_takes : (k j : ℕ) (a b : Bytes) → before (take k a) (take k b) ≡ true → before (take j b) (take j a) ≡ false
before_takes k zero a b e = refl
before_takes k (suc j) a [] e = absurd (never (sym (none (take k a)) ∙ subst (λ (l : Bytes). before (take k a) l ≡ true) (take-nil k) e))
  where
    none : (l : Bytes) → before l [] ≡ false
    none [] = refl
    none (x ∷ l) = refl
before_takes k (suc j) [] (y ∷ t) e = refl
before_takes zero (suc j) (x ∷ s) (y ∷ t) e = absurd (never e)
before_takes (suc k) (suc j) (x ∷ s) (y ∷ t) e = go (view x y (take k s) (take k t) e) (before_takes k j s t)
  where
    go : (x < y) ⊎ ((x ≡ y) × (before (take k s) (take k t) ≡ true)) → (before (take k s) (take k t) ≡ true → before (take j t) (take j s) ≡ false)
        → before (y ∷ take j t) (x ∷ take j s) ≡ false
    go (inl h) r = simp (le-ltb y x (omega arith), ne_eqb y x (omega arith))
    go (inr h) r = simp (le-ltb y x (omega (arith, h.0)), r h.1, and-false)
