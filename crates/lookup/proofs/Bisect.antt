-- The search by halves: its turns, and what it comes to where the test turns once.
-- Assumes nothing.
use mathlib.Core.Path.{◌≡◌, refl, sym, ap, ◌∙◌, subst}
use mathlib.Core.Logic.{◌⊎◌, inl, inr, ⊎_elim}
use mathlib.Core.Bool.{Bool, true, false}
use Prim.Native.Nat.{ℕ, zero, suc, ◌+◌, ◌-◌, ◌≤◌, ◌<◌}
use native.Mathlib.Nat.{not-suc-le-zero, lt_irrefl, lt_of_lt_of_le, eq-or-lt_of_le, le_trans}
use native.Mathlib.Omega.{arith}
use lib.Dec.{ltb}
use borrow.Author.Tests.{lt-ltb, le-ltb, ltb-true, ltb-false}
use Rattle.lookup.specs.Find.{mid, bisect}

module _ (p : ℕ → Bool) where
  -- one step, over the two tests' values
  abbrev step : ℕ → ℕ → ℕ → Bool → Bool → ℕ
  step f lo hi t u =
      elim t [
        | true ↦ elim u [ true ↦ bisect p f (mid lo hi + 1) hi | false ↦ bisect p f lo (mid lo hi) ]
        | false ↦ lo
      ]

  up : (f lo hi : ℕ) → lo < hi → p (mid lo hi) ≡ true → bisect p (suc f) lo hi ≡ bisect p f (mid lo hi + 1) hi
  unfolding bisect
  up f lo hi h e = λ k. step f lo hi (lt-ltb lo hi h k) (e k)

  down : (f lo hi : ℕ) → lo < hi → p (mid lo hi) ≡ false → bisect p (suc f) lo hi ≡ bisect p f lo (mid lo hi)
  unfolding bisect
  down f lo hi h e = λ k. step f lo hi (lt-ltb lo hi h k) (e k)

  stop : (f lo hi : ℕ) → hi ≤ lo → bisect p f lo hi ≡ lo
  unfolding bisect
  stop zero lo hi h = refl
  stop (suc f) lo hi h = λ k. step f lo hi (le-ltb lo hi h k) (p (mid lo hi))

  -- more steps than there are places change nothing
  more : (f lo hi : ℕ) → hi - lo ≤ f → bisect p f lo hi ≡ bisect p (suc f) lo hi
  unfolding bisect
  more zero lo hi h = sym (stop 1 lo hi (omega arith))
  more (suc f) lo hi h = go (ltb lo hi) refl (p (mid lo hi)) refl (more f (mid lo hi + 1) hi) (more f lo (mid lo hi))
    where
      go : (t : Bool) → ltb lo hi ≡ t → (q : Bool) → p (mid lo hi) ≡ q
          → (hi - (mid lo hi + 1) ≤ f → bisect p f (mid lo hi + 1) hi ≡ bisect p (suc f) (mid lo hi + 1) hi)
          → (mid lo hi - lo ≤ f → bisect p f lo (mid lo hi) ≡ bisect p (suc f) lo (mid lo hi))
          → bisect p (suc f) lo hi ≡ bisect p (suc (suc f)) lo hi
      go false e q k r s = stop (suc f) lo hi (ltb-false lo hi e) ∙ sym (stop (suc (suc f)) lo hi (ltb-false lo hi e))
      go true e true k r s =
          let l : lo < hi = ltb-true lo hi e in
          up f lo hi l k ∙ r (omega arith) ∙ sym (up (suc f) lo hi l k)
      go true e false k r s =
          let l : lo < hi = ltb-true lo hi e in
          down f lo hi l k ∙ s (omega arith) ∙ sym (down (suc f) lo hi l k)

  -- it comes to a place that is not past the last
  pub bisect_within : (f lo hi : ℕ) → lo ≤ hi → bisect p f lo hi ≤ hi
  unfolding bisect
  bisect_within zero lo hi h = h
  bisect_within (suc f) lo hi h = go (ltb lo hi) refl (p (mid lo hi)) (bisect_within f (mid lo hi + 1) hi) (bisect_within f lo (mid lo hi))
    where
      go : (t : Bool) → ltb lo hi ≡ t → (q : Bool) → (mid lo hi + 1 ≤ hi → bisect p f (mid lo hi + 1) hi ≤ hi)
          → (lo ≤ mid lo hi → bisect p f lo (mid lo hi) ≤ mid lo hi) → step f lo hi t q ≤ hi
      go false e q r s = h
      go true e true r s = let l : lo < hi = ltb-true lo hi e in r (omega arith)
      go true e false r s = let l : lo < hi = ltb-true lo hi e in le_trans (s (omega arith)) (omega arith)

  -- the loop's turns; v is what the whole search comes to
  pub again_up : (n lo hi v : ℕ) → bisect p n lo hi ≡ v → hi ≤ n → lo < hi → p (mid lo hi) ≡ true → bisect p n (mid lo hi + 1) hi ≡ v
  again_up n lo hi v e h l k = sym (up n lo hi l k) ∙ sym (more n lo hi (omega arith)) ∙ e

  pub again_down : (n lo hi v : ℕ) → bisect p n lo hi ≡ v → hi ≤ n → lo < hi → p (mid lo hi) ≡ false → bisect p n lo (mid lo hi) ≡ v
  again_down n lo hi v e h l k = sym (down n lo hi l k) ∙ sym (more n lo hi (omega arith)) ∙ e

  pub done : (n lo hi v : ℕ) → bisect p n lo hi ≡ v → hi ≤ lo → lo ≡ v
  done n lo hi v e h = sym (stop n lo hi h) ∙ e

  -- where the test turns once among n places, the search comes to the turn
  pub record Turn (n r : ℕ) : Type 0 where
    pub within : r ≤ n
    pub yes_below : (j : ℕ) → j < r → p j ≡ true
    pub no_above : (j : ℕ) → r ≤ j → j < n → p j ≡ false

  module _ (n : ℕ) (mono : (i j : ℕ) → i < j → j < n → p j ≡ true → p i ≡ true) where
    up_to : (m : ℕ) → m < n → p m ≡ true → (j : ℕ) → j < m + 1 → p j ≡ true
    up_to m h e j l = ⊎_elim (λ (q : j ≡ m). subst (λ (i : ℕ). p i ≡ true) (sym q) e) (λ (q : j < m). mono j m q h e) (eq-or-lt_of_le (omega arith))

    from : (m : ℕ) → m < n → p m ≡ false → (j : ℕ) → m ≤ j → j < n → p j ≡ false
    from m h e j l k = go (p j) refl (eq-or-lt_of_le l)
      where
        go : (q : Bool) → p j ≡ q → (m ≡ j) ⊎ (m < j) → q ≡ false
        go false u v = refl
        go true u (inl v) = sym u ∙ ap p (sym v) ∙ e
        go true u (inr v) = sym (mono m j v k u) ∙ e

    turns : (f lo hi : ℕ) → hi - lo ≤ f → lo ≤ hi → hi ≤ n → ((j : ℕ) → j < lo → p j ≡ true) → ((j : ℕ) → hi ≤ j → j < n → p j ≡ false) → Turn n (bisect p f lo hi)
    unfolding bisect
    turns zero lo hi h l k y z = record { within = omega arith; yes_below = y; no_above = λ j g. z j (omega arith) }
    turns (suc f) lo hi h l k y z =
        go (ltb lo hi) refl (p (mid lo hi)) refl (turns f (mid lo hi + 1) hi) (turns f lo (mid lo hi))
      where
        go : (t : Bool) → ltb lo hi ≡ t → (q : Bool) → p (mid lo hi) ≡ q
            → (hi - (mid lo hi + 1) ≤ f → mid lo hi + 1 ≤ hi → hi ≤ n → ((j : ℕ) → j < mid lo hi + 1 → p j ≡ true) → ((j : ℕ) → hi ≤ j → j < n → p j ≡ false) → Turn n (bisect p f (mid lo hi + 1) hi))
            → (mid lo hi - lo ≤ f → lo ≤ mid lo hi → mid lo hi ≤ n → ((j : ℕ) → j < lo → p j ≡ true) → ((j : ℕ) → mid lo hi ≤ j → j < n → p j ≡ false) → Turn n (bisect p f lo (mid lo hi)))
            → Turn n (step f lo hi t q)
        go false e q v r s = record { within = omega arith; yes_below = y; no_above = λ j g. z j (le_trans (ltb-false lo hi e) g) }
        go true e true v r s =
            let g : lo < hi = ltb-true lo hi e in
            r (omega arith) (omega arith) k (up_to (mid lo hi) (omega arith) v) z
        go true e false v r s =
            let g : lo < hi = ltb-true lo hi e in
            s (omega arith) (omega arith) (omega arith) y (from (mid lo hi) (omega arith) v)

    pub turn : Turn n (bisect p n 0 n)
    turn = turns n 0 n (omega arith) (omega arith) (omega arith) (λ j l. absurd (not-suc-le-zero l)) (λ j l k. absurd (lt_irrefl j (lt_of_lt_of_le k l)))
