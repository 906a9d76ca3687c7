-- Counting those that pass, and the first that does not, in the library's words. Assumes nothing.
use Rattle.std.proofs.Common.{◌≡◌, ℕ, ◌+◌, Bool, true, false, cond, List, refl, sym, arith}
use Rattle.std.specs.List.{count_by}
use Rattle.std.proofs.lemmas.List.Recursion.{is_count_by}
use Rattle.paper.specs.Bytes.{bit, count}

pub count_by_counts : (p : ℕ → Bool) (s : List ℕ) → count_by p s ≡ count p s
count_by_counts p s = sym (is_count_by (count p) p refl step s)
  where
    step : (x : ℕ) (xs : List ℕ) → bit (p x) + count p xs ≡ cond (p x) (1 + count p xs) (count p xs)
    step x xs = by (p x)
      where
        by : (b : Bool) → bit b + count p xs ≡ cond b (1 + count p xs) (count p xs)
        by true = refl
        by false = omega arith
