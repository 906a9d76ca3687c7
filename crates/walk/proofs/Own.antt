-- The records that go on with a document, one after the other. Assumes nothing.
use mathlib.Core.Path.{◌≡◌, refl, sym, ap, ◌∙◌}
use mathlib.Core.Bool.{Bool, true, false, cond}
use mathlib.Core.List.{List, [], ◌∷◌, map}
use Prim.Native.Nat.{ℕ, ◌≤◌}
use native.Mathlib.Omega.{arith}
use lib.ListN.{length, take, drop, length-take}
use Rattle.paper.specs.declared.Kind.{Kind}
use Rattle.paper.specs.declared.Kind.TheVariants.{Stray}
use Rattle.paper.specs.Bytes.{Bytes, every}
use Rattle.paper.specs.Walk.{count_of, kind_of, goes_on}
use Rattle.paper.proofs.Laws.{never, both}
use Rattle.paper.proofs.Records.{kind_none}
use Rattle.walk.specs.declared.Head.{Head}
use Rattle.walk.specs.Heads.{front, left, head_of}
use Rattle.walk.specs.Parts.{own_in}
use Rattle.walk.specs.Own.{as_record}
use Rattle.walk.proofs.Laws.{take_as, drop_as}
use Rattle.walk.proofs.Docs.{own_here, own_goes}

plain : (rs : List Bytes) → map (λ (p : Kind × Bytes). p.1) (map as_record rs) ≡ rs
plain [] = refl
plain (r ∷ rs) = ap (λ (l : List Bytes). r ∷ l) (plain rs)

pub same_others : (xs ys : List Bytes) → map as_record xs ≡ map as_record ys → xs ≡ ys
same_others xs ys e = sym (plain xs) ∙ ap (map (λ (p : Kind × Bytes). p.1)) e ∙ plain ys

pub no_others : (xs : List Bytes) → map as_record xs ≡ [] → xs ≡ []
no_others xs e = same_others xs [] e

-- WHAT STANDS FIRST

module _ (s : Bytes) (h : Head) (e : h ≡ head_of s) where
  here : h.kind ≡ kind_of (front s)
  unfolding head_of
  here = ap (λ (x : Head). x.kind) e

  size : h.size ≡ length (front s)
  unfolding head_of
  size = ap (λ (x : Head). x.size) e

  on : (b : Bool) → goes_on h.kind ≡ b → own_in s ≡ cond b (front s ∷ own_in (left s)) []
  on b g = own_here s ∙ ap (λ (x : Bool). cond x (front s ∷ own_in (left s)) []) (ap goes_on (sym here) ∙ g)

  pub none_next : goes_on h.kind ≡ false → map as_record (own_in s) ≡ []
  none_next g = ap (map as_record) (on false g)

  pub head_within : h.size ≤ length s
  head_within = omega (arith, size, length-take (count_of s) s)

  pub told_next : (b : Bytes) → b ≡ take h.size s → h.kind ≡ kind_of b
  told_next b eb = here ∙ ap kind_of (sym (eb ∙ ap (λ (n : ℕ). take n s) size ∙ take_as (count_of s) s))

  pub one_next : (b u : Bytes) → goes_on h.kind ≡ true → b ≡ take h.size s → u ≡ drop h.size s → map as_record (own_in s) ≡ (h.kind, b) ∷ map as_record (own_in u)
  one_next b u g eb eu =
      let r : b ≡ front s = eb ∙ ap (λ (n : ℕ). take n s) size ∙ take_as (count_of s) s in
      let l : u ≡ left s = eu ∙ ap (λ (n : ℕ). drop n s) size ∙ drop_as (count_of s) s in
      ap (map as_record) (on true g) ∙ (λ i. (sym here i, sym r i) ∷ map as_record (own_in (sym l i)))

pub ruleset next_of = (none_next, head_within, told_next, one_next)

-- WHAT AN ITEM SAYS

some_bytes : (r : Bytes) → goes_on (kind_of r) ≡ true → 1 ≤ length r
some_bytes [] g = absurd (never (sym (ap goes_on kind_none) ∙ g))
some_bytes (x ∷ r) g = omega arith

abbrev first_kind : List (Kind × Bytes) → Kind
first_kind [] = Stray
first_kind (p ∷ ps) = p.0

module _ (s u : Bytes) (k : Kind) (r : Bytes) (e : map as_record (own_in s) ≡ (k, r) ∷ map as_record (own_in u)) where
  pub next_own : own_in s ≡ r ∷ own_in u
  next_own = sym (plain (own_in s)) ∙ ap (map (λ (p : Kind × Bytes). p.1)) e ∙ ap (λ (l : List Bytes). r ∷ l) (plain (own_in u))

  pub next_kind : k ≡ kind_of r
  next_kind = ap first_kind (sym e ∙ ap (map as_record) next_own)

  pub next_some : 1 ≤ length r
  next_some = some_bytes r ((both (goes_on (kind_of r)) (every (λ (x : Bytes). goes_on (kind_of x)) (own_in u)) (ap (every (λ (x : Bytes). goes_on (kind_of x))) (sym next_own) ∙ own_goes s)).0)
