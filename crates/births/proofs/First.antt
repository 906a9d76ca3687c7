-- The first authentication, as `find` gives it, and where no birth date is compared. Assumes nothing.
use mathlib.Core.Path.{◌≡◌, refl}
use mathlib.Core.Bool.{Bool, true, false, cond, ◌&&◌, ◌||◌}
use mathlib.Core.List.{List, [], ◌∷◌, map}
use Prim.Native.Nat.{ℕ}
use lib.Dec.{ltb}
use Rattle.std.proofs.Common.{Option, Some, None}
use Rattle.std.specs.List.{find}
use Rattle.paper.specs.declared.Kind.{Kind}
use Rattle.paper.specs.declared.Kind.TheVariants.{Auth}
use Rattle.paper.specs.declared.Layout.TheVariants.{LAuth}
use Rattle.paper.specs.Bytes.{Bytes, present}
use Rattle.paper.specs.Layouts.{field}
use Rattle.paper.specs.Walk.{is}
use Rattle.paper.specs.Conditions.{of_kind, self_select, first_auth, compares_births}
use Rattle.walk.specs.Own.{as_record}

-- the bytes that were found, or no byte
abbrev pub bytes_or : Option (Kind × Bytes) → Bytes
bytes_or None = []
bytes_or (Some p) = p.1

pub found : (rs : List Bytes) → bytes_or (find (λ p. is Auth p.0) (map as_record rs)) ≡ first_auth rs
found [] = refl
found (r ∷ rs) = by (of_kind Auth r) (found rs)
  where
    by : (b : Bool) → bytes_or (find (λ p. is Auth p.0) (map as_record rs)) ≡ first_auth rs
        → bytes_or (cond b (Some (as_record r)) (find (λ p. is Auth p.0) (map as_record rs))) ≡ cond b r (first_auth rs)
    by true e = refl
    by false e = e

pub no_payment : (own : Bytes) (pays : ℕ) → pays ≡ 0 → compares_births own pays ≡ false
unfolding compares_births
no_payment own pays e = rw e (by (self_select own))
  where
    by : (b : Bool) → (b && ltb 0 0 && (present (field LAuth 10 own) || present (field LAuth 40 own))) ≡ false
    by true = refl
    by false = refl
