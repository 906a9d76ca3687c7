-- Lines whose first bytes ascend, by the numbers that these make, as a loop looks at one after the other.
-- Assumes nothing.
use mathlib.Core.Path.{◌≡◌, sym, ap, ◌∙◌}
use mathlib.Core.Bool.{Bool, true, false, not, ◌&&◌, not-not}
use mathlib.Core.List.{List, [], ◌∷◌}
use Prim.Native.Nat.{ℕ, ◌≤◌}
use native.Mathlib.Omega.{arith}
use lib.Dec.{ltb}
use lib.ListN.{length, take, length-take}
use lib.Seq.{take_all}
use Rattle.std.proofs.Common.{Option, None, Some}
use Rattle.std.specs.Option.{MatchOption}
use Rattle.text.specs.declared.Key.{Key}
use Rattle.paper.specs.Bytes.{Bytes, every, before, part}
use Rattle.paper.specs.Pack.{rises, rises_from}
use Rattle.text.specs.Words.{is_byte, high, key_number}
use Rattle.text.proofs.Words.{before_high}

-- a line of w bytes, and the key of its first k
pub record Line (k w : ℕ) (l : Bytes) (y : Key) : Type 0 where
  pub number : key_number y ≡ high 16 (take k l)
  pub bytes : every is_byte (part 0 16 (take k l)) ≡ true
  pub width : length l ≡ w

pub line_of : {k w : ℕ} {l t : Bytes} {y : Key} → t ≡ take k l → key_number y ≡ high 16 t → every is_byte (part 0 16 t) ≡ true → length l ≡ w → Line k w l y
line_of e n b h = record { number = rw e at n; bytes = rw e at b; width = h }

-- r says whether the lines ascend, from the one on whose key is held
abbrev pub Follows : ℕ → ℕ → Option Key → List Bytes → Bool → Type 0
Follows k w None ls r = r ≡ rises k ls
Follows k w (Some y) ls r = (l : Bytes) × Line k w l y × (r ≡ rises_from k l ls)

module _ (k w : ℕ) (small : k ≤ 16) where
  in_order : (l m : Bytes) (x y : Key) → Line k w l x → Line k w m y → ltb (key_number x) (key_number y) ≡ before (take k l) (take k m)
  in_order l m x y a b =
      let short : (l : Bytes) → length (take k l) ≤ 16 = λ l. omega (arith, length-take k l) in
      let bytes : (l : Bytes) → every is_byte (part 0 16 (take k l)) ≡ true → every is_byte (take k l) ≡ true =
      λ l e. sym (ap (every is_byte) (take_all 16 (take k l) (short l))) ∙ e
      in
      (λ j. ltb (a.number j) (b.number j))
      ∙ sym (before_high 16 (take k l) (take k m) (bytes l a.bytes) (bytes m b.bytes) (simp (length-take, a.width, b.width)) (short l))

  -- m is the next line, y its key; t says that it does not come after the one before
  module _ (m : Bytes) (y : Key) (line : Line k w m y) (next : List Bytes) (t : Bool) where
    told : (o : Option Key) (ls : List Bytes) (r : Bool) → Follows k w o ls r → ls ≡ m ∷ next
        → MatchOption o (t ≡ false) (λ x. t ≡ not (ltb (key_number x) (key_number y))) → r ≡ (not t && rises_from k m next)
    told None ls r f is e = f ∙ ap (rises k) is ∙ ap (λ (b : Bool). not b && rises_from k m next) (sym e)
    told (Some x) ls r f is e =
        let on : before (take k f.0) (take k m) ≡ not t = sym (in_order f.0 m x y f.1 line) ∙ sym (not-not (ltb (key_number x) (key_number y))) ∙ ap not (sym e) in
        f.2 ∙ ap (rises_from k f.0) is ∙ ap (λ (b : Bool). b && rises_from k m next) on

    pub rises_on : (o : Option Key) (ls : List Bytes) (r : Bool) → Follows k w o ls r → ls ≡ m ∷ next
        → MatchOption o (t ≡ false) (λ x. t ≡ not (ltb (key_number x) (key_number y))) → t ≡ false → Follows k w (Some y) next r
    rises_on o ls r f is e h = (m, line, told o ls r f is e ∙ ap (λ (b : Bool). not b && rises_from k m next) h)

    pub rises_no : (o : Option Key) (ls : List Bytes) (r : Bool) → Follows k w o ls r → ls ≡ m ∷ next
        → MatchOption o (t ≡ false) (λ x. t ≡ not (ltb (key_number x) (key_number y))) → t ≡ true → r ≡ false
    rises_no o ls r f is e h = told o ls r f is e ∙ ap (λ (b : Bool). not b && rises_from k m next) h

  pub rises_end : (o : Option Key) (ls : List Bytes) (r : Bool) → Follows k w o ls r → ls ≡ [] → r ≡ true
  rises_end None ls r f is = f ∙ ap (rises k) is
  rises_end (Some x) ls r f is = f.2 ∙ ap (rises_from k f.0) is
