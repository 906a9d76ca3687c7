-- What the check of a pack says of the paper.
-- Assumes nothing.
use mathlib.Core.Path.{◌≡◌, refl, sym, ap, ◌∙◌, subst}
use mathlib.Core.Bool.{Bool, true, false, ◌&&◌, cond}
use Prim.Native.Nat.{ℕ, zero, suc, ◌+◌, ◌-◌, ◌≤◌, ◌<◌}
use native.Mathlib.Nat.{not-suc-le-zero, le_of_suc-le-suc}
use native.Mathlib.Omega.{arith}
use lib.Dec.{leb, eqb}
use lib.ListN.{length, take, drop}
use lib.Seq.{drop-drop}
use Rattle.std.proofs.Common.{None, Some}
use Rattle.paper.specs.Bytes.{Bytes}
use Rattle.paper.specs.Pack.{size_said, kind_said, body, after, good_body, good_block, good_blocks, well_formed, skip, block_of, Blocks, blocks_of}
use Rattle.paper.proofs.Laws.{both}
use Rattle.pack.specs.Shape.{shape_of, place_of, lines_at}

-- the lines of a good block are good
block_body : (k : ℕ) (s : Bytes) → good_block k s ≡ true → good_body k (body s) ≡ true
unfolding good_block
block_body k s e = (both (leb 6 (length s) && eqb (kind_said s) k && leb (6 + size_said s) (length s)) _ e).1

-- the block of each kind, where the blocks are good
blocks_at : (n k : ℕ) (s : Bytes) → good_blocks n k s ≡ true → (i : ℕ) → i < n → good_block (k + i) (skip i s) ≡ true
blocks_at zero k s e i h = absurd (not-suc-le-zero h)
blocks_at (suc n) k s e zero h =
    let z : k + 0 ≡ k = omega arith in
    ap (λ (m : ℕ). good_block m s) z ∙ (both (good_block k s) _ e).0
blocks_at (suc n) k s e (suc i) h =
    let z : k + suc i ≡ k + 1 + i = omega arith in
    ap (λ (m : ℕ). good_block m (skip i (after s))) z ∙ blocks_at n (k + 1) (after s) (both (good_block k s) _ e).1 i (le_of_suc-le-suc h)

-- the lines of each block of a well-formed pack are good
pub body_at : (s : Bytes) → well_formed s ≡ true → (k : ℕ) → 1 ≤ k → k ≤ 5 → good_body k (block_of k s) ≡ true
unfolding well_formed block_of
body_at s well k h l =
    let z : 1 + (k - 1) ≡ k = omega arith in
    subst (λ (m : ℕ). good_body m (body (skip (k - 1) s)) ≡ true) z
    (block_body (1 + (k - 1)) (skip (k - 1) s) (blocks_at 5 1 s (both (leb (length s) 65536) _ well).1 (k - 1) (omega arith)))

-- FOR CALLERS: what the answer says

pub shape_good : (s : Bytes) (b : Blocks) → shape_of s ≡ Some b → (well_formed s ≡ true) × (b ≡ blocks_of s)
unfolding shape_of
shape_good s b e = go (well_formed s) refl e
  where
    go : (q : Bool) → well_formed s ≡ q → cond q (Some (blocks_of s)) None ≡ Some b → (well_formed s ≡ true) × (b ≡ blocks_of s)
    go true w f = (w, cc)
    go false w f = cc

pub shape_bad : (s : Bytes) → shape_of s ≡ None → well_formed s ≡ false
unfolding shape_of
shape_bad s e = go (well_formed s) refl e
  where
    go : (q : Bool) → well_formed s ≡ q → cond q (Some (blocks_of s)) None ≡ None → well_formed s ≡ false
    go true w f = cc
    go false w f = w

-- WHERE THE BLOCKS STAND

after_is : (s : Bytes) (at : ℕ) → drop (at + 6 + size_said (drop at s)) s ≡ after (drop at s)
unfolding after
after_is s at =
    let sum : at + 6 + size_said (drop at s) ≡ at + (6 + size_said (drop at s)) = omega arith in
    ap (λ (n : ℕ). drop n s) sum ∙ sym (drop-drop (6 + size_said (drop at s)) at s)

-- one block more to skip
skip_more : (n : ℕ) (s : Bytes) → skip (suc n) s ≡ after (skip n s)
skip_more zero s = refl
skip_more (suc n) s = skip_more n (after s)

rest_is : (k : ℕ) (s : Bytes) → drop (place_of k s) s ≡ skip k s
rest_is zero s = refl
rest_is (suc k) s = after_is s (place_of k s) ∙ ap after (rest_is k s) ∙ sym (skip_more k s)

lines_there : (k : ℕ) (s : Bytes) → lines_at (place_of k s) s ≡ block_of (suc k) s
unfolding block_of body
lines_there k s =
    let at = place_of k s in
    let same_kind : suc k - 1 ≡ k = omega arith in
    ap (take (size_said (drop at s))) (sym (drop-drop 6 at s))
    ∙ ap (λ (t : Bytes). take (size_said t) (drop 6 t)) (rest_is k s ∙ ap (λ (n : ℕ). skip n s) (sym same_kind))

-- the lines at the five places are the pack's blocks, well formed or not
pub blocks_there : (s : Bytes)
    → ◌≡◌ {A = Blocks} (record { one = lines_at (place_of 0 s) s; two = lines_at (place_of 1 s) s; three = lines_at (place_of 2 s) s; four = lines_at (place_of 3 s) s; five = lines_at (place_of 4 s) s })
    (blocks_of s)
unfolding blocks_of
blocks_there s = λ i. record { one = lines_there 0 s i; two = lines_there 1 s i; three = lines_there 2 s i; four = lines_there 3 s i; five = lines_there 4 s i }
