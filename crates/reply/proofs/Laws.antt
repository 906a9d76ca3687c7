-- A text and a line end, and a number's own digits. Assumes nothing.
use Prim.Native.Nat.{ℕ, zero, suc, ◌+◌, ◌-◌, ◌*◌, ◌/◌, ◌%◌, ◌≤◌, ◌<◌}
use mathlib.Core.Bool.{Bool, true, false, cond}
use mathlib.Core.List.{List, [], ◌∷◌, ◌++◌, map}
use mathlib.Core.Path.{◌≡◌, refl, sym, ap, ◌∙◌}
use native.Mathlib.Omega.{arith}
use borrow.Author.Tests.{ltb-true, ltb-false, lt-ltb, le-ltb}
use lib.Dec.{ltb}
use lib.ListN.{length, drop, length-append}
use lib.Seq.{drop-append_seam, drop-append-le}
use Rattle.std.proofs.Common.{Option, Some, None, Ok, Err}
use Rattle.std.specs.Prelude.{count_by}
use Rattle.std.proofs.lemmas.List.Sums.{sum_by-cons}
use Rattle.paper.specs.declared.Refusal.{Refusal}
use Rattle.paper.specs.declared.Refusal.TheVariants.{ShortOutput}
use Rattle.paper.specs.Answer.{prescribed, refusal_of, refused_or, answer, shown}
use Rattle.paper.specs.Bytes.{Bytes, written, plain, laid}
use Rattle.paper.proofs.Numbers.{length-written}
use Rattle.text.proofs.Laying.{laid_append}
use Rattle.reply.specs.Digits.{leads}

module _ (out text : Bytes) where
  pub line_long : length text + 1 ≡ length (text ++ 10 ∷ [])
  line_long = sym (length-append text (10 ∷ []))

  pub line_laid : laid (laid out 0 text) (length text) (10 ∷ []) ≡ laid out 0 (text ++ 10 ∷ [])
  line_laid = ap (λ (k : ℕ). laid (laid out 0 text) k (10 ∷ [])) (let z : length text ≡ 0 + length text = omega arith in z) ∙ laid_append text (10 ∷ []) out 0

-- the length that an answer tells is the file's
pub file_long : (t pack date name : Bytes) (room n : ℕ) → answer t pack date name room ≡ Ok n
    → n ≡ length (shown (answer t pack date name room) (prescribed t pack date name))
unfolding answer
file_long t pack date name room n e = rw e (by (refusal_of t pack date name) (ltb room (length (prescribed t pack date name))) e)
  where
    by : (r : Option Refusal) (short : Bool) → refused_or r (cond short (Err ShortOutput) (Ok (length (prescribed t pack date name)))) ≡ Ok n → n ≡ length (prescribed t pack date name)
    by (Some r) short e = cc
    by None true e = cc
    by None false e = cc

-- A NUMBER'S OWN DIGITS

leads_few : (w n : ℕ) → leads w n ≤ w
leads_few zero n = omega arith
leads_few (suc w) n = by (ltb n 10) (leads_few w (n / 10))
  where
    by : (b : Bool) → leads w (n / 10) ≤ w → cond b w (leads w (n / 10)) ≤ suc w
    by true h = omega arith
    by false h = omega arith

pub plain_drop : (w n : ℕ) → plain w n ≡ drop (leads w n) (written w n)
plain_drop zero n = refl
plain_drop (suc w) n = by (ltb n 10) refl (plain_drop w (n / 10))
  where
    last : Bytes
    last = (n % 10 + 48) ∷ []

    front : Bytes
    front = written w (n / 10)

    by : (b : Bool) → ltb n 10 ≡ b → plain w (n / 10) ≡ drop (leads w (n / 10)) front
        → cond b ((n + 48) ∷ []) (plain w (n / 10) ++ last) ≡ drop (cond b w (leads w (n / 10))) (front ++ last)
    by true e ih =
        let l : n ≡ n % 10 = omega (arith, ltb-true n 10 e) in
        ap (λ (x : ℕ). (x + 48) ∷ []) l ∙ sym (drop-append_seam front last) ∙ ap (λ (k : ℕ). drop k (front ++ last)) (length-written w (n / 10))
    by false e ih =
        let f : leads w (n / 10) ≤ length front = omega (arith, leads_few w (n / 10), length-written w (n / 10)) in
        ap (λ (x : Bytes). x ++ last) ih ∙ sym (drop-append-le (leads w (n / 10)) front last f)

-- powers of ten, 10 the lowest
abbrev pub powers : ℕ → List ℕ
powers zero = []
powers (suc w) = 10 ∷ map (λ x. x * 10) (powers w)

tenth : (n p : ℕ) → ltb n (p * 10) ≡ ltb (n / 10) p
tenth n p = go (ltb (n / 10) p) refl
  where
    go : (b : Bool) → ltb (n / 10) p ≡ b → ltb n (p * 10) ≡ b
    go true e = let h : n / 10 < p = ltb-true (n / 10) p e in lt-ltb n (p * 10) (omega arith)
    go false e = let h : p ≤ n / 10 = ltb-false (n / 10) p e in le-ltb n (p * 10) (omega arith)

one_more : (n x : ℕ) (s : List ℕ) → count_by (ltb n) (x ∷ s) ≡ cond (ltb n x) 1 0 + count_by (ltb n) s
one_more n x s = sum_by-cons (λ (y : ℕ). cond (ltb n y) 1 0) x s

tenths : (n : ℕ) (s : List ℕ) → count_by (ltb n) (map (λ x. x * 10) s) ≡ count_by (ltb (n / 10)) s
tenths n [] = refl
tenths n (x ∷ s) = one_more n (x * 10) (map (λ y. y * 10) s) ∙ (λ i. cond (tenth n x i) 1 0 + tenths n s i) ∙ sym (one_more (n / 10) x s)

-- as many of them are above a number as zeros stand before it
pub zeros_are : (w n : ℕ) → count_by (ltb n) (powers w) ≡ leads (suc w) n
zeros_are zero n = by (ltb n 10)
  where
    by : (b : Bool) → ◌≡◌ {A = ℕ} 0 (cond b 0 0)
    by true = refl
    by false = refl
zeros_are (suc w) n =
    one_more n 10 (map (λ x. x * 10) (powers w)) ∙ ap (λ (k : ℕ). cond (ltb n 10) 1 0 + k) (tenths n (powers w) ∙ zeros_are w (n / 10)) ∙ by (ltb n 10) refl
  where
    by : (b : Bool) → ltb n 10 ≡ b → cond b 1 0 + leads (suc w) (n / 10) ≡ cond b (suc w) (leads (suc w) (n / 10))
    by true e =
        let l : n < 10 = ltb-true n 10 e in
        let k : leads (suc w) (n / 10) ≡ w = ap (λ (b : Bool). cond b w (leads w (n / 10 / 10))) (lt-ltb (n / 10) 10 (omega arith)) in
        omega arith
    by false e = omega arith
