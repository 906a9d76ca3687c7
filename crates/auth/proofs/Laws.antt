-- What an authentication breaks; what is asked of a field, and that it is blank. Assumes nothing.
use Prim.Native.Nat.{ℕ}
use mathlib.Core.Path.{◌≡◌, refl}
use mathlib.Core.Bool.{Bool, true, false, not, ◌&&◌}
use lib.Dec.{ltb}
use Rattle.paper.specs.declared.Facts.{Facts}
use Rattle.paper.specs.declared.Kind.TheVariants.{Auth}
use Rattle.paper.specs.declared.Layout.TheVariants.{L4868, LAuth}
use Rattle.paper.specs.Bytes.{Bytes, blank, present}
use Rattle.paper.specs.Layouts.{field}
use Rattle.paper.specs.Conditions.{View, holds, typed, spouse_only, self_only, missing, missing_spouse}
use Rattle.auth.specs.Asked.{asks_own, asks_spouse}
use Rattle.auth.specs.Breaks.{breaks}

-- an authentication breaks the rules that the paper holds of it
pub breaks_held : (v : View) (rule : ℕ) → breaks v.sight.form v.own v.sight.payer v.sight.spouse v.sight.whole v.aths rule ≡ holds Auth v rule
breaks_held v rule = refl

later_first : (x y z : Bool) → (x && y && z) ≡ (x && z && y)
later_first true true true = refl
later_first true true false = refl
later_first true false true = refl
later_first true false false = refl
later_first false y z = refl

module _ (type : Bytes) (n : ℕ) (own form : Bytes) (whole : Facts) where
  pub missing_asked : missing type n own form whole ≡ (asks_own type own form whole && blank (field LAuth n own))
  unfolding missing
  missing_asked = later_first (typed type own && ltb 0 whole.pays) (blank (field LAuth n own)) (not (spouse_only form whole))

  pub missing_spouse_asked : missing_spouse type n own form whole ≡ (asks_spouse type own form whole && blank (field LAuth n own))
  unfolding missing_spouse
  missing_spouse_asked = later_first (typed type own && ltb 0 whole.pays && present (field L4868 100 form)) (blank (field LAuth n own)) (not (self_only form whole))
