-- The lines of one width, as `chunks_exact` gives them.
-- Assumes nothing.
use mathlib.Core.Path.{◌≡◌, sym, ap, ◌∙◌, subst}
use mathlib.Core.List.{List, [], ◌∷◌, ◌++◌}
use Prim.Native.Nat.{ℕ, suc, ◌+◌, ◌/◌, ◌<◌}
use native.Mathlib.Nat.{add-div_left, div-eq_of_lt}
use native.Mathlib.Omega.{arith}
use lib.ListN.{length, length-append}
use lib.Seq.{take_at, drop_at}
use denote.Ref.{Bor}
use Rattle.std.proofs.Common.{None, Some}
use Rattle.std.specs.declared.slice.ChunksExact.{ChunksExact}
use Rattle.std.specs.Slice.Iter.{chunks_exact_steps, chunks_exact_size, chunks_exact_rest}
use Rattle.std.proofs.lemmas.Iterator.{YieldsList}
use Rattle.std.proofs.lemmas.Iterator.Splits.{YieldsList-from_shown_while}
use Rattle.paper.specs.Bytes.{Bytes}
use Rattle.paper.specs.Pack.{rows, lines_in}

one_line : (w : ℕ) (x s : Bytes) → 0 < w → length x ≡ w → lines_in w (x ++ s) ≡ x ∷ lines_in w s
unfolding lines_in
one_line w x s h e =
    let n : length (x ++ s) / w ≡ suc (length s / w) = ap (λ (m : ℕ). m / w) (length-append x s ∙ ap (λ (m : ℕ). m + length s) e) ∙ add-div_left (length s) h ∙ omega arith in
    ap (λ (m : ℕ). rows m w (x ++ s)) n ∙ (λ i. take_at x s w e i ∷ rows (length s / w) w (drop_at x s w e i))

no_line : (w : ℕ) (s : Bytes) → length s < w → lines_in w s ≡ []
unfolding lines_in
no_line w s h = let none : length s / w ≡ 0 = div-eq_of_lt h in ap (λ (m : ℕ). rows m w s) none

-- the lines that are left to come
abbrev pub left : ChunksExact ℕ → List Bytes
left s = lines_in (chunks_exact_size s) (chunks_exact_rest s)

abbrev Wide : ChunksExact ℕ → Type 0
Wide s = 0 < chunks_exact_size s

ended : (s t : ChunksExact ℕ) → Wide s → chunks_exact_steps s None t → left s ≡ []
ended s t h e = no_line (chunks_exact_size s) (chunks_exact_rest s) e.1.0

came : (s : ChunksExact ℕ) (x : Bor Bytes) (t : ChunksExact ℕ) → Wide s → chunks_exact_steps s (Some x) t → Wide t × (left s ≡ x.now ∷ left t)
came s x t h e = (
  omega arith,
  ap (lines_in (chunks_exact_size s)) e.1.0 ∙ one_line (chunks_exact_size s) x.now (chunks_exact_rest t) h e.1.1
      ∙ ap (λ (w : ℕ). x.now ∷ lines_in w (chunks_exact_rest t)) (sym e.0),
)

-- a loop over lines of w bytes
module _ (w : ℕ) (some : 0 < w) where
  pub next_line : (s : ChunksExact ℕ) (x : Bor Bytes) (t : ChunksExact ℕ) → chunks_exact_size s ≡ w → chunks_exact_steps s (Some x) t
      → (chunks_exact_size t ≡ w) × (length x.now ≡ w) × (left s ≡ x.now ∷ left t)
  next_line s x t h e = (e.0 ∙ h, e.1.1 ∙ h, (came s x t (omega arith) e).1)

  pub no_more : (s t : ChunksExact ℕ) → chunks_exact_size s ≡ w → chunks_exact_steps s None t → left s ≡ []
  no_more s t h e = ended s t (omega arith) e

-- the lines of w bytes in b come
module _ (w : ℕ) (b : Bytes) (some : 0 < w) where
  pub lines_come : (s : ChunksExact ℕ) → chunks_exact_size s ≡ w → chunks_exact_rest s ≡ b → YieldsList (chunks_exact_steps {A = ℕ}) (λ y. y.now) s (lines_in w b)
  lines_come s size rest =
      subst (λ (l : List Bytes). YieldsList (chunks_exact_steps {A = ℕ}) (λ y. y.now) s l) (λ i. lines_in (size i) (rest i))
      (YieldsList-from_shown_while (chunks_exact_steps {A = ℕ}) (λ y. y.now) left Wide (λ s t h e. ap length (ended s t h e)) came s (omega arith))
