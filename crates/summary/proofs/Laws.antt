-- What a summary breaks; the fields in reserve, where the bytes that hold them are blank: none of their rules is broken. Assumes nothing.
use Prim.Native.Nat.{ℕ, zero, suc, ◌+◌, ◌-◌, ◌*◌, ◌%◌, ◌^◌, ◌≤◌, ◌<◌}
use mathlib.Core.Bool.{Bool, true, false}
use mathlib.Core.List.{List, [], ◌∷◌}
use mathlib.Core.Path.{◌≡◌, refl, sym, ap, ◌∙◌}
use native.Mathlib.Nat.{mul_assoc, mod-eq_of_lt, pow-suc}
use native.Mathlib.Omega.{arith}
use lib.Dec.{leb}
use lib.ListN.{length, take}
use lib.Seq.{take-nil, drop-nil}
use borrow.Author.Tests.{leb-true}
use Rattle.std.proofs.lemmas.Nat.{mul-mod_first}
use Rattle.paper.specs.declared.Kind.TheVariants.{Summary}
use Rattle.paper.specs.declared.Layout.TheVariants.{LSummary}
use Rattle.paper.specs.Bytes.{Bytes, every, part, is_space, blank, present}
use Rattle.paper.specs.Layouts.{entry, field, through}
use Rattle.paper.specs.Conditions.{View, holds}
use Rattle.paper.proofs.Laws.{both}
use Rattle.words.specs.Sets.{bit_on, bits_on}
use Rattle.summary.specs.Breaks.{breaks, is_within}

-- a summary breaks the rules that the paper holds of it
pub breaks_held : (v : View) (rule : ℕ) → breaks v.sight.form v.own rule ≡ holds Summary v rule
breaks_held v rule = refl

-- what every byte of a part passes, every byte of a part of it does
part_every : (p : ℕ → Bool) (a w b v : ℕ) (s : Bytes) → a ≤ b → b + v ≤ a + w → every p (part a w s) ≡ true → every p (part b v s) ≡ true
part_every p a w b v [] g h e = rw (drop-nil b, take-nil v)
part_every p (suc a) w zero v (x ∷ s) g h e = absurd (omega arith)
part_every p (suc a) w (suc b) v (x ∷ s) g h e = part_every p a w b v s (omega arith) (omega arith) e
part_every p zero zero (suc b) v (x ∷ s) g h e = absurd (omega arith)
part_every p zero (suc w) (suc b) v (x ∷ s) g h e = part_every p zero w b v s (omega arith) (omega arith) (both (p x) (every p (take w s)) e).1
part_every p zero w zero zero (x ∷ s) g h e = refl
part_every p zero zero zero (suc v) (x ∷ s) g h e = absurd (omega arith)
part_every p zero (suc w) zero (suc v) (x ∷ s) g h e =
    let b = both (p x) (every p (take w s)) e in
    rw b.0 (part_every p zero w zero v s (omega arith) (omega arith) b.1)

-- of a run that is blank, every field is
run_kept : (own : Bytes) (from to : ℕ) → blank (through LSummary from to own) ≡ true → (n : ℕ) → is_within from to n ≡ true → present (field LSummary n own) ≡ false
unfolding through field
run_kept own from to h n e =
    let f = entry LSummary n in
    let a = (entry LSummary from).start in
    let z = (entry LSummary to).start + (entry LSummary to).width in
    let c = both (leb a f.start) (leb (f.start + f.width) z) e in
    let g : a ≤ f.start = leb-true a f.start c.0 in
    let k : f.start + f.width ≤ z = leb-true (f.start + f.width) z c.1 in
    rw (part_every is_space a (z - a) f.start f.width own g (omega arith) h)

-- a rule that is not broken moves a set by one place
kept_on : (t : ℕ) → bit_on false t ≡ t * 2 % 18446744073709551616
unfolding bit_on
kept_on t = omega arith

-- and rules that are not broken move it by as many places
module _ (p q : ℕ → Bool) (kept : (x : ℕ) → q x ≡ true → p x ≡ false) where
  bits_kept : (s : List ℕ) (later : ℕ) → every q s ≡ true → later < 18446744073709551616 → bits_on p s later ≡ later * 2 ^ length s % 18446744073709551616
  bits_kept [] later h l = sym (mod-eq_of_lt l) ∙ ap (λ (k : ℕ). k % 18446744073709551616) (omega arith)
  bits_kept (x ∷ s) later h l =
      let b = both (q x) (every q s) h in
      let t = later * 2 ^ length s in
      (λ i. bit_on (kept x b.0 i) (bits_kept s later b.1 l i))
      ∙ kept_on (t % 18446744073709551616)
      ∙ mul-mod_first t 2 18446744073709551616
      ∙ ap (λ (k : ℕ). k % 18446744073709551616) (mul_assoc later (2 ^ length s) 2 ∙ ap (λ (k : ℕ). later * k) (sym (pow-suc 2 (length s))))

-- the fields of a run before a set, where the bytes that hold them are blank
pub kept_run : (own : Bytes) (from to later : ℕ) (fields : List ℕ)
    → blank (through LSummary from to own) ≡ true → every (is_within from to) fields ≡ true → later < 18446744073709551616
    → later * 2 ^ length fields % 18446744073709551616 ≡ bits_on (λ (n : ℕ). present (field LSummary n own)) fields later
kept_run own from to later fields h w l = sym (bits_kept (λ (n : ℕ). present (field LSummary n own)) (is_within from to) (run_kept own from to h) fields later w l)
