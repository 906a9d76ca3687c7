-- The answer for a file, and the whole rejection. Assumes nothing.
use mathlib.Core.Path.{◌≡◌, refl, sym, ap, ◌∙◌}
use mathlib.Core.Bool.{Bool, cond}
use mathlib.Core.List.{List}
use Prim.Native.Nat.{ℕ, ◌+◌, ◌*◌, ◌≤◌, ◌<◌}
use native.Mathlib.Omega.{arith}
use borrow.Author.Tests.{lt-ltb, le-ltb, le-leb}
use lib.ListN.{length, get_or, drop}
use Rattle.std.proofs.Common.{Ok, Err}
use Rattle.paper.specs.declared.Codes.{Codes}
use Rattle.paper.specs.declared.Refusal.TheVariants.{ShortOutput}
use Rattle.paper.specs.declared.Verdict.TheVariants.{Whole}
use Rattle.paper.specs.Bytes.{Bytes, written, zeros, blanks, laid}
use Rattle.paper.specs.File.{key_record, error_record, code_list, whole_errors, rejection}
use Rattle.paper.proofs.Laws.{next, ended}
use Rattle.paper.proofs.RecordSizes.{length-key, length_error, length-rejection}
use Rattle.text.proofs.Laying.{laid_append}
use Rattle.record.specs.Parts.{error_model, error_by, placed}
use Rattle.record.proofs.Laws.{error_said, eight_digits}
use Rattle.rejection.specs.Given.{Given}

-- n bytes of a file do not fit, or do and stand at the front
module _ (file out : Bytes) (n : ℕ) (e : n ≡ length file) where
  pub refuse : length out < n → Given file out out (Err ShortOutput)
  refuse h = let s : length out < length file = omega arith in record { says = rw (lt-ltb _ _ s); leaves = refl }

  pub give : (out' : Bytes) → n ≤ length out → out' ≡ laid out 0 file → Given file out out' (Ok n)
  give out' h eo = let s : length file ≤ length out = omega arith in record { says = rw (le-ltb _ _ s, e); leaves = eo }

-- a record with room for it
pub laid_as : (o out r : Bytes) (at : ℕ) → at + 120 ≤ length out → o ≡ placed out at r → o ≡ laid out at r
unfolding placed
laid_as o out r at h e = e ∙ ap (λ (b : Bool). cond b (laid out at r) out) (le-leb _ _ h)

-- THE ERROR RECORDS OF THE CODES

abbrev pub error_for : ℕ → ℕ → Bytes
error_for n code = error_record (zeros 9) n (blanks 6) (blanks 6) (zeros 5) (zeros 7) code

-- the n-th, by its model and its code's digits
pub code_laid : (out o model : Bytes) (n code : ℕ) (text : Bytes) → 120 * n + 120 ≤ length out
    → model ≡ error_model (zeros 9) (blanks 6) (blanks 6) (zeros 5) (zeros 7) → text ≡ written 8 code
    → o ≡ placed out (120 * n) (error_by model n text) → o ≡ laid out (120 * n) (error_for n code)
code_laid out o model n code text h em et e =
    laid_as o out (error_for n code) (120 * n) h
    (e ∙ ap (placed out (120 * n)) (ap (λ (m : Bytes). error_by m n text) em
    ∙ error_said (zeros 9) n (blanks 6) (blanks 6) (zeros 5) (zeros 7) code text (et ∙ eight_digits code)))

module _ (out e : Bytes) (codes : List ℕ) (i : ℕ) (v : laid out (120 * (i + 1)) (whole_errors (i + 1) (drop i codes)) ≡ e) where
  pub next_code : (o : Bytes) → i < length codes → o ≡ laid out (120 * (i + 1)) (error_for (i + 1) (get_or codes i 0))
      → laid o (120 * (i + 1 + 1)) (whole_errors (i + 1 + 1) (drop (i + 1) codes)) ≡ e
  next_code o h eo =
      let code = get_or codes i 0 in
      let k : 120 * (i + 1 + 1) ≡ 120 * (i + 1) + length (error_for (i + 1) code) = omega (arith, length_error (zeros 9) (i + 1) (blanks 6) (blanks 6) (zeros 5) (zeros 7) code) in
      (λ j. laid (eo j) (k j) (whole_errors (i + 1 + 1) (drop (i + 1) codes)))
      ∙ laid_append (error_for (i + 1) code) (whole_errors (i + 1 + 1) (drop (i + 1) codes)) out (120 * (i + 1))
      ∙ ap (λ (l : List ℕ). laid out (120 * (i + 1)) (whole_errors (i + 1) l)) (sym (next codes i h)) ∙ v

  pub no_code : length codes ≤ i → out ≡ e
  unfolding laid
  no_code h = ap (λ (l : List ℕ). laid out (120 * (i + 1)) (whole_errors (i + 1) l)) (sym (ended codes i h)) ∙ v

-- THE WHOLE REJECTION

module _ (sequence : Bytes) (codes : Codes) (n : ℕ) (e : n ≡ 120 + 120 * length (code_list codes)) where
  abbrev file : Bytes
  file = rejection sequence codes

  long : n ≡ length file
  long = omega (arith, length-rejection sequence codes)

  pub too_short : (out : Bytes) → length out < n → Given file out out (Err ShortOutput)
  too_short out h = refuse file out n long h

  pub rejected : (out o o' : Bytes) (list : List ℕ) → n ≤ length out → list ≡ code_list codes
      → o ≡ placed out 0 (key_record (zeros 9) sequence (Whole codes) 32 (zeros 8) (zeros 14) (length list) (blanks 15) 48)
      → o' ≡ laid o 120 (whole_errors 1 list) → Given file out o' (Ok n)
  unfolding rejection
  rejected out o o' list h el ek ec =
      let key : List ℕ → Bytes = λ (l : List ℕ). key_record (zeros 9) sequence (Whole codes) 32 (zeros 8) (zeros 14) (length l) (blanks 15) 48 in
      let k : 120 ≡ 0 + length (key (code_list codes)) = omega (arith, length-key (zeros 9) sequence (Whole codes) 32 (zeros 8) (zeros 14) (length (code_list codes)) (blanks 15) 48) in
      let o_is : o ≡ laid out 0 (key (code_list codes)) = laid_as o out (key list) 0 (omega arith) ek ∙ ap (λ (l : List ℕ). laid out 0 (key l)) el in
      give file out n long o' h (ec ∙ (λ i. laid (o_is i) (k i) (whole_errors 1 (el i))) ∙ laid_append (key (code_list codes)) (whole_errors 1 (code_list codes)) out 0)
