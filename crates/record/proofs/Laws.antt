-- A record written at a place of an output. Assumes nothing.
use mathlib.Core.Path.{◌≡◌, refl, sym, ap, ◌∙◌}
use Rattle.std.proofs.Common.{rules}
use mathlib.Core.List.{[], ◌∷◌, ◌++◌}
use Prim.{tt}
use Prim.Native.Nat.{ℕ, suc, ◌+◌, ◌/◌, ◌%◌, ◌<◌, ◌≤◌}
use native.Mathlib.Omega.{arith}
use borrow.Author.Tests.{le-leb, lt-leb}
use borrow.Rule.Slice.PartMut.{put_mid}
use lib.Dec.{lit≤}
use lib.ListN.{length, set}
use lib.Seq.{sets, set_comm, take_all}
use Rattle.paper.specs.Bytes.{Bytes, bytes, written, laid}
use Rattle.paper.specs.Layouts.{entry, ack_error}
use Rattle.paper.specs.File.{error_record, record_of}
use Rattle.text.proofs.Laying.{laid_append, laid_copy}
use Rattle.record.specs.Parts.{error_model, error_by, placed}

module _ (out r : Bytes) (at : ℕ) where
  -- no room
  pub not_placed : length out < at + 120 → out ≡ placed out at r
  unfolding placed
  not_placed h = rw (lt-leb _ _ h)

  -- the 120 bytes from the place on made the record
  pub lent_placed : at + 120 ≤ length out → length r ≡ 120 → (k : ℕ) → k ≡ 120 → put_mid at k out r ≡ placed out at r
  unfolding placed
  lent_placed h l k e =
      rw (le-leb _ _ h) (ap (put_mid at k out) (sym (take_all 120 r (omega arith))) ∙ laid_copy out r at 120 k (omega arith) (omega arith) e)

-- AN ERROR RECORD BY ITS MODEL

-- a byte stored before a text
set_sets : (x q : Bytes) (p k b : ℕ) → p < k → set (sets q k x) p b ≡ sets (set q p b) k x
set_sets [] q p k b h = refl
set_sets (a ∷ x) q p k b h =
    set_sets x (set q k a) p (suc k) b (omega arith) ∙ ap (λ (l : Bytes). sets l (suc k) x) (set_comm q k p a b (λ e. let f : k ≡ p = e in absurd (omega arith)))

-- a text laid in before another that stands after it
before : (x y r : Bytes) (a b : ℕ) → a + length x ≤ b → laid (laid r b y) a x ≡ laid (laid r a x) b y
unfolding laid
before [] y r a b h = refl
before (c ∷ x) y r a b h = ap (λ (q : Bytes). sets q (suc a) x) (set_sets y r a b c (omega arith)) ∙ before x y (set r a c) (suc a) b (omega arith)

below : (x y r q : Bytes) (a b : ℕ) → a + length x ≤ b → laid r a x ≡ q → laid (laid r b y) a x ≡ laid q b y
below x y r q a b h e = before x y r a b h ∙ ap (λ (s : Bytes). laid s b y) e

-- the record is the paper's
pub error_said : (ssn : Bytes) (n : ℕ) (id type page occurrence : Bytes) (rule : ℕ) (text : Bytes) → text ≡ written 4 (rule / 10000) ++ written 4 (rule % 10000)
    → error_by (error_model ssn id type page occurrence) n text ≡ error_record ssn n id type page occurrence rule
unfolding error_by error_model error_record record_of entry ack_error
error_said ssn n id type page occurrence rule text e =
    let d = written 2 n in
    let w = written 4 (rule / 10000) in
    let v = written 4 (rule % 10000) in
    let numbered =
    below d (bytes "#") _ _ 30 119 (lit≤ tt)
    (below d occurrence _ _ 30 49 (lit≤ tt) (below d page _ _ 30 44 (lit≤ tt) (below d type _ _ 30 38 (lit≤ tt) (below d id _ _ 30 32 (lit≤ tt) refl)))) in
    (λ i. laid (numbered i) 56 (e i)) ∙ below (w ++ v) (bytes "#") _ _ 56 119 (lit≤ tt) (sym (laid_append w v _ 56))

-- eight digits are the field's and the code's
pub eight_digits : (rule : ℕ) → written 8 rule ≡ written 4 (rule / 10000) ++ written 4 (rule % 10000)
eight_digits rule = search rules
