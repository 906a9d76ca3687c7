-- The findings of a document, back from the rows of its records that break a rule. Assumes nothing.
use mathlib.Core.Path.{◌≡◌, refl, sym, ap, ◌∙◌, subst}
use mathlib.Core.Bool.{Bool, true, false, cond}
use mathlib.Core.List.{List, [], ◌∷◌, ◌++◌, map}
use Prim.Native.Nat.{ℕ, zero, suc, ◌+◌, ◌-◌, ◌≤◌, ◌<◌, min}
use native.Mathlib.Omega.{arith}
use borrow.Author.Tests.{eqb-true, ltb-true, ltb-false}
use lib.Dec.{eqb, ltb}
use lib.ListN.{length, take, drop, length-map}
use lib.Seq.{take-nil, take_all}
use Rattle.paper.specs.declared.Broken.{Broken}
use Rattle.paper.specs.declared.Findings.{Findings}
use Rattle.paper.specs.declared.Kind.{Kind}
use Rattle.paper.specs.declared.Kind.TheVariants.{TranA, TranB, Form, Unknown, Payment, Auth, Summary, Recap, Stray}
use Rattle.paper.specs.Bytes.{Bytes, bit, those, empty, joined}
use Rattle.paper.specs.Walk.{count_of, kind_of, is, fits, opens, goes_on}
use Rattle.paper.specs.Conditions.{Sight, View, view, holds, rules_of}
use Rattle.paper.specs.Judge.{Item, Finding, mark}
use Rattle.paper.proofs.Laws.{never}
use Rattle.paper.proofs.KindLaws.{kind_fits}
use Rattle.walk.specs.Heads.{front, left, head_of}
use Rattle.walk.specs.Parts.{own_in, doc_here, doc_records}
use Rattle.walk.proofs.Docs.{own_here}
use Rattle.walk.proofs.Facts.{head_fits, head_left, goes_some, others_here, main_here}
use Rattle.rules.specs.Sets.{chosen}
use Rattle.rules.proofs.Laws.{chosen_those, bits_none, few_rules}
use Rattle.judge.specs.Kept.{broke_if, total, listed, counted}
use Rattle.judge.specs.Judged.{set_in, broke_from}
use Rattle.judge.proofs.Found.{Standing, found_of}
use Rattle.sets.specs.Set.{found_in, found_from}

-- EACH RECORD STANDS IN THE TRANSMISSION

-- a record that goes on with a document is long
on_long : (k : Kind) (n : ℕ) → goes_on k ≡ true → fits k n ≡ true → 42 ≤ n
on_long TranA n g f = absurd (never g)
on_long TranB n g f = absurd (never g)
on_long Form n g f = absurd (never g)
on_long Unknown n g f = absurd (never g)
on_long Payment n g f = omega (arith, eqb-true n 123 f)
on_long Auth n g f = omega (arith, eqb-true n 340 f)
on_long Summary n g f = omega (arith, eqb-true n 314 f)
on_long Recap n g f = absurd (never g)
on_long Stray n g f = absurd (never g)

cut : (k : ℕ) (s : Bytes) → take k s ≡ take (length (take k s)) s
cut zero s = refl
cut (suc k) [] = refl
cut (suc k) (x ∷ s) = ap (λ (l : Bytes). x ∷ l) (cut k s)

own_one : (t : Bytes) (at : ℕ) → ((to : ℕ) → at < to → to ≤ length t → Standing t to (own_in (drop to t))) → Standing t at (own_in (drop at t))
unfolding head_of
own_one t at ih = by (goes_on (kind_of (front (drop at t)))) refl
  where
    by : (b : Bool) → goes_on (kind_of (front (drop at t))) ≡ b → Standing t at (own_in (drop at t))
    by true g =
        let s = drop at t in
        let r = front s in
        let some = head_fits t at (head_of s) refl (goes_some (kind_of r) g) in
        let l : own_in s ≡ r ∷ own_in (drop (at + length r) t) =
        own_here s ∙ ap (λ (x : Bool). cond x (r ∷ own_in (left s)) []) g ∙ ap (λ (x : Bytes). r ∷ own_in x) (sym (head_left t at (head_of s) refl)) in
        let after : at < at + length r = omega (arith, some.0) in
        subst (Standing t at) (sym l) (on_long (kind_of r) (length r) g (kind_fits r), cut (count_of s) s, ih (at + length r) after some.1)
    by false g = subst (Standing t at) (sym (own_here (drop at t) ∙ ap (λ (x : Bool). cond x (front (drop at t) ∷ own_in (left (drop at t))) []) g)) tt

own_stands : (t : Bytes) (n at : ℕ) → length t ≤ at + n → Standing t at (own_in (drop at t))
own_stands t zero at h = own_one t at (λ to a b. absurd (omega arith))
own_stands t (suc n) at h = own_one t at (λ to a b. own_stands t n to (omega arith))

-- the records of the document at a place
pub doc_stands : (t : Bytes) (at : ℕ) → opens (kind_of (doc_here (drop at t)).main) ≡ true → 43 ≤ length (doc_here (drop at t)).main → Standing t at (doc_records (drop at t))
doc_stands t at o h =
    let to = at + length (doc_here (drop at t)).main in
    let w : 42 ≤ length (doc_here (drop at t)).main = omega arith in
    (w, sym (main_here t at o), subst (Standing t to) (sym (others_here t at o)) (own_stands t (length t) to (omega arith)))

-- EACH ROW HAS A FINDING

abbrev pub Full : Bytes → List Broken → Type 0
Full t [] = Unit {0}
Full t (b ∷ bs) = (1 ≤ length (found_of t b)) × Full t bs

full_append : (t : Bytes) (xs ys : List Broken) → Full t xs → Full t ys → Full t (xs ++ ys)
full_append t [] ys f g = g
full_append t (x ∷ xs) ys f g = (f.0, full_append t xs ys f.1 g)

some_long : {A : Type 0} (l : List A) → empty l ≡ false → 1 ≤ length l
some_long [] e = absurd (never (sym e))
some_long (x ∷ l) e = omega arith

one_full : (t : Bytes) (place : ℕ) (k : Kind) (v : View) → Full t (broke_if place k (set_in k v))
one_full t place k v = by (eqb (set_in k v) 0) refl
  where
    by : (b : Bool) → eqb (set_in k v) 0 ≡ b → Full t (cond b [] (record { place = place; kind = k; set = set_in k v } ∷ []))
    by true e = tt
    by false e =
        let rules = chosen (set_in k v) (rules_of k) in
        let n : 1 ≤ length (those (holds k v) (rules_of k)) = some_long (those (holds k v) (rules_of k)) (sym (bits_none (holds k v) (rules_of k) (few_rules k)) ∙ e) in
        let m : length rules ≡ length (those (holds k v) (rules_of k)) = ap length (chosen_those (holds k v) (rules_of k) (few_rules k)) in
        (omega (arith, length-map rules (mark k (drop place t))), tt)

pub all_full : (t : Bytes) (s : Sight) (place pays aths : ℕ) (l : List Item) → Full t (broke_from s place pays aths l)
all_full t s place pays aths [] = tt
all_full t s place pays aths (i ∷ l) =
    let k = kind_of i.bytes in
    full_append t (broke_if place k (set_in k (view s i.bytes i.bank pays aths))) _ (one_full t place k (view s i.bytes i.bank pays aths))
    (all_full t s (place + length i.bytes) (pays + bit (is Payment k)) (aths + bit (is Auth k)) l)

take_append : (n : ℕ) (xs ys : List Finding) → take n (xs ++ ys) ≡ take n xs ++ take (n - length xs) ys
take_append zero [] ys = refl
take_append zero (x ∷ xs) ys = ap (λ (k : ℕ). take k ys) (let e : 0 ≡ 0 - suc (length xs) = omega arith in e)
take_append (suc n) [] ys = ap (λ (k : ℕ). take k ys) (let e : suc n ≡ suc n - 0 = omega arith in e)
take_append (suc n) (x ∷ xs) ys =
    let e : n - length xs ≡ suc n - suc (length xs) = omega arith in
    ap (λ (l : List Finding). x ∷ l) (take_append n xs ys) ∙ ap (λ (k : ℕ). x ∷ (take n xs ++ take k ys)) e

-- so the first n rows have the first n findings
enough : (t : Bytes) (m n : ℕ) (l : List Broken) → m ≤ n → Full t l → take m (joined (map (found_of t) (take n l))) ≡ take m (joined (map (found_of t) l))
enough t m n [] h f = ap (λ (l : List Broken). take m (joined (map (found_of t) l))) (take-nil n)
enough t zero zero (x ∷ l) h f = refl
enough t (suc m) zero (x ∷ l) h f = absurd (omega arith)
enough t m (suc n) (x ∷ l) h f =
    let some : 1 ≤ length (found_of t x) = f.0 in
    take_append m (found_of t x) (joined (map (found_of t) (take n l)))
    ∙ ap (λ (r : List Finding). take m (found_of t x) ++ r) (enough t (m - length (found_of t x)) n l (omega arith) f.1)
    ∙ sym (take_append m (found_of t x) (joined (map (found_of t) l)))

-- BACK

all_back : (t : Bytes) (l : List Broken) → found_from t l ≡ joined (map (found_of t) l)
unfolding found_in
all_back t [] = refl
all_back t (b ∷ l) = ap (λ (r : List Finding). found_of t b ++ r) (all_back t l)

take-most : (n : ℕ) (l : List Finding) → take (min n (length l)) l ≡ take n l
take-most n l = by (ltb n (length l)) refl
  where
    by : (b : Bool) → ltb n (length l) ≡ b → take (min n (length l)) l ≡ take n l
    by true h =
        let w : n < length l = ltb-true n (length l) h in
        let m : min n (length l) ≡ n = omega arith in
        ap (λ (k : ℕ). take k l) m
    by false h =
        let w : length l ≤ n = ltb-false n (length l) h in
        take_all (min n (length l)) l (omega arith) ∙ sym (take_all n l w)

-- what is written of a list where these records are listed
pub rows_back : (t : Bytes) (l : List Broken) (found : List Finding) (x : List Broken) (f : Findings) → x ≡ listed l → f ≡ counted l
    → Full t l → joined (map (found_of t) l) ≡ found → total l ≡ length found → take (min 96 f.kept) (found_from t x) ≡ take 96 found
unfolding counted listed
rows_back t l found x f e c full same count =
    let k : f.kept ≡ min 96 (total l) = ap (λ (y : Findings). y.kept) c in
    let k' : min 96 f.kept ≡ min 96 (length found) = omega arith in
    let low : min 96 (length found) ≤ 96 = omega arith in
    (λ i. take (k' i) (found_from t (e i)))
    ∙ ap (take (min 96 (length found))) (all_back t (take 96 l))
    ∙ enough t (min 96 (length found)) 96 l low full
    ∙ ap (take (min 96 (length found))) same ∙ take-most 96 found
