-- Spaces: at the end of a field, two before another byte, after an account and after zeros. Assumes nothing.
use mathlib.Core.Path.{◌≡◌, refl, sym, ap, ◌∙◌}
use mathlib.Core.Bool.{Bool, true, false, not, cond, ◌&&◌, ◌||◌, and-true, and-false, or-false}
use mathlib.Core.List.{[], ◌∷◌}
use Prim.Native.Nat.{ℕ, ◌+◌}
use native.Mathlib.Omega.{arith}
use native.Mathlib.Numerals.{one-add}
use borrow.Author.Tests.{eqb-true}
use Rattle.std.specs.List.{prefix_len}
use lib.ListN.{length, get_or, take, drop}
use Rattle.paper.specs.Bytes.{Bytes, every, any, is_space, is_zero, blank, all_zeros}
use Rattle.paper.specs.Fields.{cons_trim, trim, beside, spaced, is_alnum, account_byte, account, zeros_then_blanks}
use Rattle.paper.proofs.Laws.{never, both}
use Rattle.kinds.specs.Kinds.{first_not}
use Rattle.field.specs.Gap.{gap}

-- WITHOUT THE SPACES AT THE END

-- nothing is left of blanks, and of them alone
trim_blank : (s : Bytes) → blank s ≡ true → trim s ≡ []
trim_blank [] h = refl
trim_blank (x ∷ s) h =
    let p = both (is_space x) (blank s) h in
    ap (cons_trim x) (trim_blank s p.1) ∙ ap (λ (b : Bool). cond b [] (x ∷ [])) p.0

blank_trim : (s : Bytes) → trim s ≡ [] → blank s ≡ true
blank_trim [] e = refl
blank_trim (x ∷ s) e = go (trim s) refl (blank_trim s)
  where
    only : (b : Bool) → is_space x ≡ b → cond b [] (x ∷ []) ≡ [] → is_space x ≡ true
    only true f g = f
    only false f g = absurd (omega (arith, ap length g))

    go : (t : Bytes) → trim s ≡ t → (trim s ≡ [] → blank s ≡ true) → blank (x ∷ s) ≡ true
    go [] f h = ap (λ (b : Bool). b && blank s) (only (is_space x) refl (sym (ap (cons_trim x) f) ∙ e)) ∙ h f
    go (y ∷ t) f h = absurd (omega (arith, ap length (sym (ap (cons_trim x) f) ∙ e)))

-- what is left begins as the whole does
trim_first : (s : Bytes) (y : ℕ) (t : Bytes) → trim s ≡ y ∷ t → get_or s 0 32 ≡ y
trim_first [] y t e = absurd (omega (arith, ap length e))
trim_first (x ∷ s) y t e = go (trim s) refl
  where
    one : (b : Bool) → cond b [] (x ∷ []) ≡ y ∷ t → x ≡ y
    one true f = absurd (omega (arith, ap length f))
    one false f = ap (λ (l : Bytes). get_or l 0 0) f

    go : (u : Bytes) → trim s ≡ u → x ≡ y
    go [] f = one (is_space x) (sym (ap (cons_trim x) f) ∙ e)
    go (z ∷ u) f = ap (λ (l : Bytes). get_or l 0 0) (sym (ap (cons_trim x) f) ∙ e)

-- TWO SPACES BEFORE ANOTHER BYTE

gap_blank : (x : ℕ) (s : Bytes) → blank s ≡ true → gap (x ∷ s) ≡ false
gap_blank x [] h = refl
gap_blank x (y ∷ []) h = refl
gap_blank x (y ∷ z ∷ s) h =
    let p = both (is_space y) (blank (z ∷ s)) h in
    let q = both (is_space z) (blank s) p.1 in
    (λ i. is_space x && is_space y && not (q.0 i) || gap (y ∷ z ∷ s)) ∙ none (is_space x) (is_space y) (gap (y ∷ z ∷ s)) ∙ gap_blank y (z ∷ s) p.1
  where
    none : (a b c : Bool) → (a && b && false || c) ≡ c
    none true true c = refl
    none true false c = refl
    none false b c = refl

-- two spaces at the front of what is not blank
gap_front : (y z : ℕ) (s : Bytes) → is_space y ≡ true → is_space z ≡ true → blank s ≡ false → gap (y ∷ z ∷ s) ≡ true
gap_front y z [] e f h = absurd (never (sym h))
gap_front y z (x ∷ s) e f h = go (is_space x) refl (gap_front z x s f)
  where
    go : (b : Bool) → is_space x ≡ b → (is_space x ≡ true → blank s ≡ false → gap (z ∷ x ∷ s) ≡ true) → gap (y ∷ z ∷ x ∷ s) ≡ true
    go true g r =
        (λ i. e i && f i && not (g i) || gap (z ∷ x ∷ s)) ∙ r g (sym (ap (λ (b : Bool). b && blank s) g) ∙ h)
    go false g r = λ i. e i && f i && not (g i) || gap (z ∷ x ∷ s)

-- a first byte more
gap_more : (x : ℕ) (s : Bytes) → blank s ≡ false → (is_space x && is_space (get_or s 0 32) || gap s) ≡ gap (x ∷ s)
gap_more x [] h = absurd (never (sym h))
gap_more x (a ∷ []) h = ap (λ (b : Bool). is_space x && b || false) (sym (and-true (is_space a)) ∙ h) ∙ or-false _ ∙ and-false (is_space x)
gap_more x (a ∷ z ∷ s) h =
    by (is_space x) (is_space a) (is_space z) (gap (a ∷ z ∷ s)) (λ e f. gap_front a z s e f (sym (λ i. e i && (f i && blank s)) ∙ h))
  where
    by : (p a z g : Bool) → (a ≡ true → z ≡ true → g ≡ true) → (p && a || g) ≡ (p && a && not z || g)
    by true true true true h = refl
    by true true true false h = absurd (never (h refl refl))
    by true true false g h = refl
    by true false z g h = refl
    by false a z g h = refl

-- of what is left without the spaces at the end
beside_gap : (s : Bytes) → beside is_space is_space (trim s) ≡ gap s
beside_gap [] = refl
beside_gap (x ∷ s) = go (trim s) refl (beside_gap s)
  where
    one : (b : Bool) → beside is_space is_space (cond b [] (x ∷ [])) ≡ false
    one true = refl
    one false = refl

    some : (b : Bool) (y : ℕ) (t : Bytes) → blank s ≡ b → trim s ≡ y ∷ t → blank s ≡ false
    some true y t f e = absurd (omega (arith, ap length (sym (trim_blank s f) ∙ e)))
    some false y t f e = f

    go : (t : Bytes) → trim s ≡ t → beside is_space is_space (trim s) ≡ gap s → beside is_space is_space (trim (x ∷ s)) ≡ gap (x ∷ s)
    go [] e h = ap (λ (t : Bytes). beside is_space is_space (cons_trim x t)) e ∙ one (is_space x) ∙ sym (gap_blank x s (blank_trim s e))
    go (y ∷ t) e h =
        ap (λ (u : Bytes). beside is_space is_space (cons_trim x u)) e
        ∙ (λ i. is_space x && is_space (sym (trim_first s y t e) i) || (sym (ap (beside is_space is_space) e) ∙ h) i)
        ∙ gap_more x s (some (blank s) y t refl e)

-- "spaced", over the whole field
pub spaced_gap : (s : Bytes) → (not (is_space (get_or s 0 32)) && not (gap s)) ≡ spaced s
unfolding spaced
spaced_gap s = λ i. not (is_space (first i)) && not (sym (beside_gap s) i)
  where
    by : (l : Bytes) → trim s ≡ l → get_or s 0 32 ≡ get_or l 0 32
    by [] e = go s (blank_trim s e)
      where
        go : (s : Bytes) → blank s ≡ true → get_or s 0 32 ≡ 32
        go [] h = refl
        go (x ∷ s) h = eqb-true x 32 (both (is_space x) (blank s) h).0
    by (y ∷ t) e = trim_first s y t e

    first : get_or s 0 32 ≡ get_or (trim s) 0 32
    first = by (trim s) refl

pub spaced_is : (s : Bytes) → spaced s ≡ (not (is_space (get_or s 0 32)) && not (gap s))
spaced_is s = sym (spaced_gap s)

-- THE BYTES BEFORE THE FIRST THAT DOES NOT PASS, of a test that a space does not pass

module _ (p : ℕ → Bool) (no : p 32 ≡ false) where
  front_passes : (s : Bytes) → every p (take (first_not p s) s) ≡ true
  front_passes [] = refl
  front_passes (x ∷ s) = go (p x) refl (front_passes s)
    where
      go : (b : Bool) → p x ≡ b → every p (take (first_not p s) s) ≡ true → every p (take (cond b (1 + first_not p s) 0) (x ∷ s)) ≡ true
      go true e h = simp (one-add) (ap (λ (c : Bool). c && every p (take (first_not p s) s)) e ∙ h)
      go false e h = refl

  -- only blanks after them: they are what is left without the spaces at the end
  front_trim : (s : Bytes) → blank (drop (first_not p s) s) ≡ true → trim s ≡ take (first_not p s) s
  front_trim [] h = refl
  front_trim (x ∷ s) h = go (p x) refl h (front_trim s)
    where
      not_space : (b : Bool) → is_space x ≡ b → p x ≡ true → is_space x ≡ false
      not_space true e f = absurd (never (sym no ∙ ap p (sym (eqb-true x 32 e)) ∙ f))
      not_space false e f = e

      keep : (t : Bytes) → is_space x ≡ false → cons_trim x t ≡ x ∷ t
      keep [] e = ap (λ (b : Bool). cond b [] (x ∷ [])) e
      keep (y ∷ t) e = refl

      go : (b : Bool) → p x ≡ b → blank (drop (cond b (1 + first_not p s) 0) (x ∷ s)) ≡ true → (blank (drop (first_not p s) s) ≡ true → trim s ≡ take (first_not p s) s)
          → trim (x ∷ s) ≡ take (cond b (1 + first_not p s) 0) (x ∷ s)
      go true e h r = simp (one-add) (ap (cons_trim x) (r (simp (one-add) at h)) ∙ keep (take (first_not p s) s) (not_space (is_space x) refl e))
      go false e h r = trim_blank (x ∷ s) h

  -- else what is left has one that does not pass
  front_fails : (s : Bytes) → blank (drop (first_not p s) s) ≡ false → every p (trim s) ≡ false
  front_fails [] h = absurd (never (sym h))
  front_fails (x ∷ s) h = go (p x) refl (trim s) refl h (front_fails s)
    where
      go : (b : Bool) → p x ≡ b → (t : Bytes) → trim s ≡ t → blank (drop (cond b (1 + first_not p s) 0) (x ∷ s)) ≡ false → (blank (drop (first_not p s) s) ≡ false → every p (trim s) ≡ false)
          → every p (trim (x ∷ s)) ≡ false
      go true e [] f h r = absurd (never (sym (sym (ap (every p) f) ∙ r (simp (one-add) at h))))
      go true e (y ∷ t) f h r = ap (λ (u : Bytes). every p (cons_trim x u)) f ∙ (λ i. e i && every p (sym f i)) ∙ r (simp (one-add) at h)
      go false e [] f h r = ap (λ (u : Bytes). every p (cons_trim x u)) f ∙ one (is_space x) refl
        where
          one : (b : Bool) → is_space x ≡ b → every p (cond b [] (x ∷ [])) ≡ false
          one true g = absurd (never (sym (sym (λ i. g i && blank_trim s f i) ∙ h)))
          one false g = ap (λ (c : Bool). c && true) e
      go false e (y ∷ t) f h r = ap (λ (u : Bytes). every p (cons_trim x u)) f ∙ ap (λ (c : Bool). c && every p (y ∷ t)) e

-- AN ACCOUNT: n bytes that can stand in one, and r says whether only blanks stand after them

module _ (s : Bytes) (n : ℕ) (r : Bool) (e : n ≡ first_not account_byte s) (f : r ≡ blank (drop n s)) where
  rest : r ≡ blank (drop (first_not account_byte s) s)
  rest = f ∙ ap (λ (k : ℕ). blank (drop k s)) e

  pub account_no : r ≡ false → false ≡ account s
  unfolding account
  account_no h =
      let w : every account_byte (trim s) ≡ false = front_fails account_byte refl s (sym rest ∙ h) in
      sym (ap (λ (b : Bool). any is_alnum (trim s) && b && not (all_zeros (trim s))) w ∙ ap (λ (b : Bool). b && not (all_zeros (trim s))) (and-false (any is_alnum (trim s))))

  pub account_yes : r ≡ true → (any is_alnum (take n s) && not (all_zeros (take n s))) ≡ account s
  unfolding account
  account_yes h =
      let t : take n s ≡ trim s = ap (λ (k : ℕ). take k s) e ∙ sym (front_trim account_byte refl s (sym rest ∙ h)) in
      let w : every account_byte (trim s) ≡ true = ap (every account_byte) (front_trim account_byte refl s (sym rest ∙ h)) ∙ front_passes account_byte refl s in
      (λ i. any is_alnum (t i) && not (all_zeros (t i)))
      ∙ ap (λ (b : Bool). b && not (all_zeros (trim s))) (sym (and-true (any is_alnum (trim s))) ∙ ap (λ (b : Bool). any is_alnum (trim s) && b) (sym w))

-- both
pub account_is : (s : Bytes)
    → account s ≡ (blank (drop (first_not account_byte s) s) && any is_alnum (take (first_not account_byte s) s) && not (all_zeros (take (first_not account_byte s) s)))
account_is s = go (blank (drop n s)) refl
  where
    n : ℕ
    n = first_not account_byte s

    go : (r : Bool) → blank (drop n s) ≡ r → account s ≡ (r && any is_alnum (take n s) && not (all_zeros (take n s)))
    go true f = sym (account_yes s n true refl (sym f) refl)
    go false f = sym (account_no s n false refl (sym f) refl)

-- AFTER ZEROS

-- only blanks stand after the zeros at the front
pub after_zeros : (s : Bytes) → blank (drop (prefix_len is_zero s) s) ≡ zeros_then_blanks s
after_zeros [] = refl
after_zeros (x ∷ s) = by (is_zero x) (after_zeros s)
  where
    by : (b : Bool) → blank (drop (prefix_len is_zero s) s) ≡ zeros_then_blanks s
        → blank (drop (cond b (1 + prefix_len is_zero s) 0) (x ∷ s)) ≡ cond b (zeros_then_blanks s) (blank (x ∷ s))
    by true h = simp (one-add) h
    by false h = refl
