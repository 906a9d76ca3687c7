-- Records that break a rule, added to those that are held. Assumes nothing.
use mathlib.Core.Path.{◌≡◌, refl, sym, ap, ◌∙◌}
use mathlib.Core.Bool.{Bool, false, cond, ◌||◌, or-false, or_assoc}
use mathlib.Core.List.{List, [], ◌∷◌, ◌++◌, append-nil}
use Prim.Native.Nat.{ℕ, zero, suc, ◌+◌, ◌≤◌, ◌<◌, min}
use native.Mathlib.Omega.{arith}
use lib.Count.{ones}
use lib.ListN.{length, take, length-take, length-append}
use lib.Seq.{take_all}
use borrow.Author.Tests.{eq-eqb, ne_eqb}
use Rattle.std.proofs.lemmas.List.{append_assoc}
use Rattle.paper.specs.declared.Broken.{Broken}
use Rattle.paper.specs.declared.Findings.{Findings}
use Rattle.paper.specs.declared.Kind.{Kind}
use Rattle.paper.specs.declared.Kind.TheVariants.{Auth}
use Rattle.paper.specs.Bytes.{any}
use Rattle.paper.specs.Walk.{is}
use Rattle.judge.specs.Kept.{broke_if, on_auth, total, no_findings, Held, held, listed, counted, kept_of, added}

pub any_append : {A : Type 0} (p : A → Bool) (xs ys : List A) → any p (xs ++ ys) ≡ (any p xs || any p ys)
any_append p [] ys = refl
any_append p (x ∷ xs) ys = ap (λ (b : Bool). p x || b) (any_append p xs ys) ∙ sym (or_assoc (p x) (any p xs) (any p ys))

take_again : (n : ℕ) (xs ys : List Broken) → take n (take n xs ++ ys) ≡ take n (xs ++ ys)
take_again zero xs ys = none (take zero xs ++ ys) ∙ sym (none (xs ++ ys))
  where
    none : (l : List Broken) → take zero l ≡ []
    none [] = refl
    none (x ∷ l) = refl
take_again (suc n) [] ys = refl
take_again (suc n) (x ∷ xs) ys = ap (λ (l : List Broken). x ∷ l) (take_again n xs ys)

pub total_append : (xs ys : List Broken) → total (xs ++ ys) ≡ total xs + total ys
total_append [] ys = omega arith
total_append (x ∷ xs) ys = omega (arith, total_append xs ys)

-- nothing is added, or a document's first records
pub added_nil : (f : Held) → length f.list ≤ 96 → f.kept ≤ 96 → added f [] ≡ f
unfolding added listed
added_nil f few low = λ i. record {
  list = (ap (take 96) (append-nil f.list) ∙ take_all 96 f.list few) i;
  kept = (let e : min 96 (f.kept + 0) ≡ f.kept = omega arith in e) i;
  ath = or-false f.ath i;
}

pub added_none : (l : List Broken) → added (held [] no_findings) l ≡ kept_of l
unfolding added listed counted
added_none l = λ i. record {
  list = listed l;
  kept = (let e : min 96 (0 + total l) ≡ min 96 (total l) = omega arith in e) i;
  ath = any on_auth l;
}

-- those of one record, then those of the next
pub added_append : (f : Held) (xs ys : List Broken) → added (added f xs) ys ≡ added f (xs ++ ys)
unfolding added listed
added_append f xs ys = λ i. record {
  list = (take_again 96 (f.list ++ xs) ys ∙ ap (take 96) (append_assoc f.list xs ys)) i;
  kept = ((let e : min 96 (min 96 (f.kept + total xs) + total ys) ≡ min 96 (f.kept + total (xs ++ ys)) = omega (arith, total_append xs ys) in e) i);
  ath = ((or_assoc f.ath (any on_auth xs) (any on_auth ys) ∙ ap (λ (b : Bool). f.ath || b) (sym (any_append on_auth xs ys))) i);
}

-- the numbers, and the list where they are held
pub held_counted : (x l : List Broken) (f : Findings) → held x f ≡ kept_of l → f ≡ counted l
held_counted x l f e = λ i. record { kept = (e i).kept; ath = (e i).ath }

pub held_listed : (x l : List Broken) (f : Findings) → held x f ≡ kept_of l → x ≡ listed l
held_listed x l f e = λ i. (e i).list

-- A RECORD, STORED

module _ (f : Findings) (row : List Broken) (place : ℕ) (kind : Kind) (set' : ℕ) (few : length row ≤ 96) (low : f.kept ≤ 96) where
  pub stored_none : set' ≡ 0 → held row f ≡ added (held row f) (broke_if place kind set')
  stored_none e = sym (added_nil (held row f) few low) ∙ ap (λ (b : Bool). added (held row f) (cond b [] (record { place = place; kind = kind; set = set' } ∷ []))) (sym (eq-eqb set' 0 e))

  module _ (some : set' ≡ 0 → ⊥) (b : Bool) (k : ℕ) (eb : b ≡ is Auth kind) (ek : k ≡ min 96 (f.kept + ones set')) where
    abbrev B : Broken
    B = record { place = place; kind = kind; set = set' }

    one : broke_if place kind set' ≡ B ∷ []
    one = ap (λ (c : Bool). cond c [] (B ∷ [])) (ne_eqb set' 0 some)

    kept : k ≡ min 96 (f.kept + (ones set' + 0))
    kept = omega (arith, ek)

    ath : (f.ath || b) ≡ (f.ath || (is Auth kind || false))
    ath = ap (λ (c : Bool). f.ath || c) (eb ∙ sym (or-false (is Auth kind)))

    pub stored : (g : List Broken) → g ≡ take 96 (row ++ B ∷ []) → held g (record { kept = k; ath = f.ath || b }) ≡ added (held row f) (broke_if place kind set')
    unfolding added listed
    stored g e = (λ i. record { list = e i; kept = kept i; ath = ath i }) ∙ ap (added (held row f)) (sym one)

-- one more at the end of a list, where there is room
pub pushed : (row : List Broken) (b : Broken) → length row < 96 → row ++ b ∷ [] ≡ take 96 (row ++ b ∷ [])
pushed row b h = sym (take_all 96 (row ++ b ∷ []) (omega (arith, length-append row (b ∷ []))))

pub pushed_none : (row : List Broken) (b : Broken) → length row ≡ 96 → row ≡ take 96 (row ++ b ∷ [])
pushed_none row b h = sym (take_here 96 row (b ∷ []) h)
  where
    take_here : (n : ℕ) (xs ys : List Broken) → length xs ≡ n → take n (xs ++ ys) ≡ xs
    take_here zero [] [] e = refl
    take_here zero [] (y ∷ ys) e = refl
    take_here zero (x ∷ xs) ys e = absurd (omega arith)
    take_here (suc n) [] ys e = absurd (omega arith)
    take_here (suc n) (x ∷ xs) ys e = let m : length xs ≡ n = omega arith in ap (λ (l : List Broken). x ∷ l) (take_here n xs ys m)

pub kept_bounds : (l g : List Broken) → g ≡ take 96 l → (k n : ℕ) → k ≡ min n 96 → (length g ≤ 96) × (k ≤ 96)
kept_bounds l g e k n f = (omega (arith, ap length e, length-take 96 l), omega arith)
