-- Lines that pass a test, as a loop looks at one after the other.
-- Assumes nothing.
use Prim.{tt}
use mathlib.Core.Path.{◌≡◌, refl, sym, ap, ◌∙◌}
use mathlib.Core.Bool.{Bool, true, false, ◌&&◌}
use mathlib.Core.List.{List, [], ◌∷◌}
use denote.Ref.{Bor}
use denote.Param.Members.{Mut}
use Rattle.std.proofs.iter.Next.{called_at}
use Rattle.std.specs.Iterator.{ActsAsAt}
use Rattle.std.specs.Fn.{Called}
use Rattle.paper.specs.Bytes.{Bytes, every}

module _ {F : Type 0} (f : Mut F (Bor Bytes × Unit {0}) Bool) (start : F) (all : List Bytes) where
  -- no call has changed the test, and all the lines pass if these do
  abbrev pub Passes : F → List Bytes → Type 0
  Passes now ls = (p : Bytes → Bool) → ActsAsAt f start p → (now ≡ start) × (every p all ≡ every p ls)

  -- a call at the next line
  module _ (now after : F) (x : Bor Bytes) (r : Bool) (call : Called f now (x, tt) r after) (ls next : List Bytes) (is : ls ≡ x.now ∷ next) (so : Passes now ls) where
    told : (p : Bytes → Bool) → ActsAsAt f start p → (after ≡ start) × (every p all ≡ (r && every p next))
    told p acts =
        let e = so p acts in
        let d = acts x.now r after (called_at f (rw e.0 at call) refl) in
        (d.0, e.1 ∙ ap (every p) is ∙ ap (λ (b : Bool). b && every p next) (sym d.1))

    pub passes_on : r ≡ true → Passes after next
    passes_on h p acts = let e = told p acts in (e.0, e.1 ∙ ap (λ (b : Bool). b && every p next) h)

    pub passes_no : r ≡ false → (p : Bytes → Bool) → ActsAsAt f start p → every p all ≡ false
    passes_no h p acts = (told p acts).1 ∙ ap (λ (b : Bool). b && every p next) h

  pub passes_end : (now : F) (ls : List Bytes) → ls ≡ [] → Passes now ls → (p : Bytes → Bool) → ActsAsAt f start p → every p all ≡ true
  passes_end now ls is so p acts = (so p acts).1 ∙ ap (every p) is
