-- No lines; the widths of 0007 and 0008; a number that is not above an earlier one, and one that is not 0090. Assumes nothing.
use Prim.Native.Nat.{ℕ, zero, suc, ◌+◌, ◌%◌, ◌^◌, ◌≤◌}
use mathlib.Core.Bool.{Bool, true, false, not, cond, ◌&&◌, ◌||◌, and-false, or-true}
use mathlib.Core.List.{[], ◌∷◌}
use mathlib.Core.Path.{◌≡◌, refl, sym, ap, ◌∙◌}
use native.Mathlib.Omega.{arith}
use lib.Dec.{eqb, leb, ltb}
use lib.ListN.{length, take, drop, length-take, length-drop}
use lib.Seq.{take_all}
use borrow.Author.Tests.{ne_eqb}
use Rattle.std.proofs.Common.{Option, Some, None}
use Rattle.std.proofs.lemmas.Bool.Decides.{nat_tests}
use Rattle.paper.specs.declared.Layout.TheVariants.{L4868}
use Rattle.paper.specs.Bytes.{Bytes, empty, same, part, before, digits, number, written}
use Rattle.paper.specs.Layouts.{form4868, entry, field}
use Rattle.paper.specs.Pack.{rows}
use Rattle.paper.specs.Conditions.{not_above}
use Rattle.paper.proofs.Laws.{same_eq}
use Rattle.paper.proofs.Numbers.{before_number, length-written}
use Rattle.words.specs.Past.{number_if, earlier}
use Rattle.form.specs.Breaks.{is_at_most}
use Rattle.words.proofs.Digits.{digits_written, number_written}

pub no_rows : (n w : ℕ) (s : Bytes) → eqb n 0 ≡ empty (rows n w s)
no_rows zero w s = refl
no_rows (suc n) w s = ne_eqb (suc n) 0 (λ e. omega arith)

wide : (from width : ℕ) (r : Bytes) → from + width ≤ length r → length (part from width r) ≡ width
wide from width r h = omega (arith, length-take width (drop from r), length-drop from r)

dsn_wide : (r : Bytes) → length r ≡ 384 → length (field L4868 7 r) ≡ 16
unfolding field entry form4868
dsn_wide r e = wide 42 16 r (omega arith)

dcn_wide : (r : Bytes) → length r ≡ 384 → length (field L4868 8 r) ≡ 14
unfolding field entry form4868
dcn_wide r e = wide 58 14 r (omega arith)

-- nothing was earlier: whatever there is is above
none_earlier : (f : Bytes) → 1 ≤ length f → false ≡ not_above f []
unfolding not_above
none_earlier [] h = absurd (omega arith)
none_earlier (x ∷ f) h = sym (and-false (digits (x ∷ f)))

not_ltb : (a b : ℕ) → leb a b ≡ not (ltb b a)
not_ltb a b = grind (arith, nat_tests)

-- digits as wide as the earlier number's are not above it exactly if the number that they write is not
not_above_number : (f : Bytes) (past : ℕ) → length f ≤ 16 → (digits f && leb (number (take 16 f)) (past % 10 ^ length f)) ≡ not_above f (written (length f) past)
unfolding not_above
not_above_number f past h = rw (take_all 16 f h) (go (digits f) refl)
  where
    w : ℕ
    w = length f

    t : Bytes
    t = written w past

    go : (d : Bool) → digits f ≡ d → (d && leb (number f) (past % 10 ^ w)) ≡ (d && not (before t f))
    go false e = refl
    go true e =
        ap (leb (number f)) (sym (number_written w past))
        ∙ not_ltb (number f) (number t)
        ∙ ap not (sym (before_number t f (length-written w past) (digits_written w past) e))

-- the same by both numbers
not_above_told : (f : Bytes) (w : ℕ) (past : Option ℕ) → length f ≡ w → 1 ≤ w → w ≤ 16 → is_at_most (10 ^ w) (number_if f) past ≡ not_above f (earlier w past)
unfolding number_if earlier
not_above_told f w None e l h = by (digits f) ∙ none_earlier f (omega (arith, e, l))
  where
    by : (d : Bool) → is_at_most (10 ^ w) (cond d (Some (number (take 16 f))) None) None ≡ false
    by true = refl
    by false = refl
not_above_told f w (Some past) e l h =
    by (digits f) ∙ ap (λ (k : ℕ). digits f && leb (number (take 16 f)) (past % 10 ^ k)) (sym e)
    ∙ not_above_number f past (omega (arith, e, h)) ∙ ap (λ (k : ℕ). not_above f (written k past)) e
  where
    by : (d : Bool) → is_at_most (10 ^ w) (cond d (Some (number (take 16 f))) None) (Some past) ≡ (d && leb (number (take 16 f)) (past % 10 ^ w))
    by true = refl
    by false = refl

module _ (form : Bytes) (past : Option ℕ) (e : length form ≡ 384) where
  pub dsn_told : is_at_most 10000000000000000 (number_if (field L4868 7 form)) past ≡ not_above (field L4868 7 form) (earlier 16 past)
  dsn_told = not_above_told (field L4868 7 form) 16 past (dsn_wide form e) (omega arith) (omega arith)

  pub dcn_told : is_at_most 100000000000000 (number_if (field L4868 8 form)) past ≡ not_above (field L4868 8 form) (earlier 14 past)
  dcn_told = not_above_told (field L4868 8 form) 14 past (dcn_wide form e) (omega arith) (omega arith)

-- of two numbers that are the same both are digits or none is
pub other_told : (f s : Bytes) → (not (digits s) || not (same f s)) ≡ (not (digits f) || not (same f s))
other_told f s = by (same f s) refl
  where
    by : (q : Bool) → same f s ≡ q → (not (digits s) || not q) ≡ (not (digits f) || not q)
    by true e = ap (λ (x : Bytes). not (digits x) || false) (sym (same_eq f s e))
    by false e = or-true (not (digits s)) ∙ sym (or-true (not (digits f)))
