-- What a document sees of the earlier ones, as numbers, and what it leaves for the later ones. Assumes nothing.
use mathlib.Core.Path.{◌≡◌, refl, sym, ap, ◌∙◌}
use mathlib.Core.Bool.{Bool, true, false, cond, ◌&&◌, ◌||◌}
use Rattle.std.proofs.Common.{Option, None, Some}
use mathlib.Core.List.{List, [], ◌∷◌, ◌++◌, map, map-append}
use Prim.Native.Nat.{ℕ, ◌+◌, ◌%◌, ◌≤◌, ◌<◌, min}
use native.Mathlib.Nat.{mod-lt, mod-eq_of_lt}
use native.Mathlib.Numerals.{add-one}
use native.Mathlib.Omega.{arith}
use borrow.Author.Tests.{lt-ltb, ne_eqb, ltb-true, ltb-false}
use lib.Dec.{eqb, ltb, lit<}
use lib.ListN.{length, take, drop, set, length-set, length-take, length-drop}
use lib.Seq.{take_all, take-suc-set}
use Rattle.paper.specs.declared.Identity.{Identity}
use Rattle.paper.specs.declared.Layout.TheVariants.{L4868}
use Rattle.paper.specs.declared.Letter.{Letter}
use Rattle.paper.specs.Bytes.{Bytes, any, those, same, member, part, digits, number, written}
use Rattle.paper.specs.Layouts.{form4868, entry, field}
use Rattle.paper.specs.Judge.{start, digits_or, is_a}
use Rattle.paper.proofs.Laws.{never, same_eq}
use Rattle.words.specs.Past.{number_if, identity_of, earlier}
use Rattle.paper.proofs.Numbers.{length-written}
use Rattle.words.proofs.Digits.{digits_written, number_written, number_written_whole, written_number, same_number}
use Rattle.judge.specs.declared.Past.{Past}
use Rattle.judge.specs.Seen.{numbers_in, some_among, seen_by, no_past, number_after, kept_number, next_past, next_row}

-- before the first document
pub starts_empty : (row : List ℕ) → seen_by no_past row ≡ start
unfolding seen_by earlier
starts_empty row = refl

-- ONE OF THE ACCEPTED NUMBERS

-- nine digits write a number below 1000000000
nine_below : (s : Bytes) → length s ≡ 9 → digits s ≡ true → number s < 1000000000
nine_below s n d =
    let pos : 0 < 1000000000 = lit< tt in
    let e : number s ≡ number s % 1000000000 =
    ap number (sym (written_number s d)) ∙ ap (λ (w : ℕ). number (written w (number s))) n ∙ number_written 9 (number s) in
    omega (arith, e, mod-lt (number s) pos)

by_digits : (s : Bytes) (x : ℕ) → length s ≡ 9 → x < 1000000000 → same s (written 9 x) ≡ (digits s && eqb (number s) x)
by_digits s x n h = by (digits s) refl
  where
    by : (b : Bool) → digits s ≡ b → same s (written 9 x) ≡ (b && eqb (number s) x)
    by true d = same_number s (written 9 x) (n ∙ sym (length-written 9 x)) d (digits_written 9 x) ∙ ap (eqb (number s)) (number_written_whole 9 x h)
    by false d = no (same s (written 9 x)) refl
      where
        no : (c : Bool) → same s (written 9 x) ≡ c → c ≡ false
        no true e = absurd (never (sym d ∙ ap digits (same_eq s (written 9 x) e) ∙ digits_written 9 x))
        no false e = refl

pub among : (s : Bytes) (row : List ℕ) → length s ≡ 9 → member s (numbers_in row) ≡ (digits s && any (eqb (number s)) row)
among s [] n = by (digits s)
  where
    by : (b : Bool) → false ≡ (b && false)
    by true = refl
    by false = refl
among s (x ∷ row) n = by (ltb x 1000000000) refl (among s row n)
  where
    or_and : (a b c : Bool) → ((a && b) || (a && c)) ≡ (a && (b || c))
    or_and true b c = refl
    or_and false b c = refl

    by : (b : Bool) → ltb x 1000000000 ≡ b → member s (numbers_in row) ≡ (digits s && any (eqb (number s)) row)
        → member s (map (written 9) (cond b (x ∷ those (λ (y : ℕ). ltb y 1000000000) row) (those (λ (y : ℕ). ltb y 1000000000) row))) ≡ (digits s && (eqb (number s) x || any (eqb (number s)) row))
    by true e ih = (λ i. by_digits s x n (ltb-true x 1000000000 e) i || ih i) ∙ or_and (digits s) (eqb (number s) x) (any (eqb (number s)) row)
    by false e ih = ih ∙ at (digits s) refl
      where
        at : (c : Bool) → digits s ≡ c → (c && any (eqb (number s)) row) ≡ (c && (eqb (number s) x || any (eqb (number s)) row))
        at true d = ap (λ (z : Bool). z || any (eqb (number s)) row) (sym (ne_eqb (number s) x (λ q. omega (arith, nine_below s n d, ltb-false x 1000000000 e))))
        at false d = refl

-- as many as there are
pub take-room : (n : ℕ) (l : List ℕ) → take (min n (length l)) l ≡ take n l
take-room n l = by (ltb n (length l)) refl
  where
    by : (b : Bool) → ltb n (length l) ≡ b → take (min n (length l)) l ≡ take n l
    by true h =
        let w : n < length l = ltb-true n (length l) h in
        let m : min n (length l) ≡ n = omega arith in
        ap (λ (k : ℕ). take k l) m
    by false h =
        let w : length l ≤ n = ltb-false n (length l) h in
        take_all (min n (length l)) l (omega arith) ∙ sym (take_all n l w)

-- the number of nine digits, and none of other bytes
nine_number : (s : Bytes) → length s ≡ 9 → number_if s ≡ cond (digits s) (Some (number s)) None
unfolding number_if
nine_number s w = ap (λ (x : Bytes). cond (digits s) (Some (number x)) None) (take_all 16 s (omega (arith, w)))

number_member : (s : Bytes) (row : List ℕ) → length s ≡ 9 → some_among (number_if s) row ≡ member s (numbers_in row)
number_member s row w = ap (λ (n : Option ℕ). some_among n row) (nine_number s w) ∙ by (digits s) ∙ sym (among s row w)
  where
    by : (d : Bool) → some_among (cond d (Some (number s)) None) row ≡ (d && any (eqb (number s)) row)
    by true = refl
    by false = refl

-- WHAT A FORM LEAVES

part_wide : (from width : ℕ) (r : Bytes) → from + width ≤ length r → length (part from width r) ≡ width
part_wide from width r h = omega (arith, length-take width (drop from r), length-drop from r)

-- the fields that it leaves
pub form_wide : (form : Bytes) → length form ≡ 384 → (length (field L4868 7 form) ≡ 16) × (length (field L4868 8 form) ≡ 14) × (length (field L4868 90 form) ≡ 9)
unfolding field entry form4868
form_wide form h = (part_wide 42 16 form (omega (arith, h)), part_wide 58 14 form (omega (arith, h)), part_wide 279 9 form (omega (arith, h)))

-- the primary number of a form among those of a row
module _ (form : Bytes) (row : List ℕ) (x : Identity) (s : Bytes) (ex : x ≡ identity_of form) (h : length form ≡ 384) (es : s ≡ field L4868 90 form) where
  pub own_member : (b : Bool) → b ≡ some_among x.ssn row → b ≡ member s (numbers_in row)
  unfolding identity_of
  own_member b e =
      e ∙ ap (λ (y : Identity). some_among y.ssn row) ex ∙ number_member (field L4868 90 form) row (form_wide form h).2
      ∙ ap (λ (y : Bytes). member y (numbers_in row)) (sym es)

-- digits, or what is known of an earlier number
pub nearest : (w : ℕ) (n : Option ℕ) (f : Bytes) → length f ≡ w → w ≤ 16 → earlier w (number_after (number_if f) n) ≡ digits_or f (earlier w n)
unfolding earlier number_if
nearest w n f e h = ap (λ (x : Bytes). earlier w (number_after (cond (digits f) (Some (number x)) None) n)) (take_all 16 f (omega (arith, e, h))) ∙ by (digits f) refl
  where
    by : (b : Bool) → digits f ≡ b → earlier w (number_after (cond b (Some (number f)) None) n) ≡ cond b f (earlier w n)
    by true d = ap (λ (k : ℕ). written k (number f)) (sym e) ∙ written_number f d
    by false d = refl

those_append : {A : Type 0} (p : A → Bool) (xs ys : List A) → those p (xs ++ ys) ≡ those p xs ++ those p ys
those_append p [] ys = refl
those_append p (x ∷ xs) ys = by (p x) (those_append p xs ys)
  where
    by : (b : Bool) → those p (xs ++ ys) ≡ those p xs ++ those p ys → cond b (x ∷ those p (xs ++ ys)) (those p (xs ++ ys)) ≡ cond b (x ∷ those p xs) (those p xs) ++ those p ys
    by true e = ap (λ (l : List _). x ∷ l) e
    by false e = e

-- one number more
more_numbers : (row : List ℕ) (s : Bytes) → length s ≡ 9 → digits s ≡ true → numbers_in (row ++ number s % 4294967296 ∷ []) ≡ numbers_in row ++ s ∷ []
more_numbers row s n d =
    let low : number s < 1000000000 = nine_below s n d in
    let m : number s % 4294967296 ≡ number s = mod-eq_of_lt (omega arith) in
    ap (λ (x : ℕ). numbers_in (row ++ x ∷ [])) m
    ∙ ap (map (written 9)) (those_append (λ (x : ℕ). ltb x 1000000000) row (number s ∷ []) ∙ ap (λ (b : Bool). those (λ (x : ℕ). ltb x 1000000000) row ++ cond b (number s ∷ []) []) (lt-ltb (number s) 1000000000 low))
    ∙ map-append (written 9) (those (λ (x : ℕ). ltb x 1000000000) row) (number s ∷ [])
    ∙ ap (λ (x : Bytes). numbers_in row ++ x ∷ []) (ap (λ (w : ℕ). written w (number s)) (sym n) ∙ written_number s d)

module _ (form : Bytes) (l : Letter) (p : Past) (row : List ℕ) (room : p.n < length row)
    (n7 : length (field L4868 7 form) ≡ 16) (n8 : length (field L4868 8 form) ≡ 14) (n90 : length (field L4868 90 form) ≡ 9) (good : is_a l ≡ true → digits (field L4868 90 form) ≡ true) where
  abbrev own : Identity
  own = identity_of form

  numbers : numbers_in (take (next_past own l p row).n (next_row own l p row)) ≡ cond (is_a l) (numbers_in (take p.n row) ++ field L4868 90 form ∷ []) (numbers_in (take p.n row))
  unfolding next_past next_row identity_of
  numbers = rw (lt-ltb p.n (length row) room) (by (is_a l) refl)
    where
      ssn : Bytes
      ssn = field L4868 90 form

      x : ℕ
      x = kept_number (number_if ssn)

      by : (b : Bool) → is_a l ≡ b → numbers_in (take (cond (b && true) (p.n + 1) p.n) (cond (b && true) (set row p.n x) row)) ≡ cond b (numbers_in (take p.n row) ++ ssn ∷ []) (numbers_in (take p.n row))
      by true a =
          let m : take (p.n + 1) (set row p.n x) ≡ take p.n row ++ x ∷ [] = rw add-one (take-suc-set row p.n x room) in
          let z : number_if ssn ≡ Some (number ssn) = nine_number ssn n90 ∙ ap (λ (d : Bool). cond d (Some (number ssn)) None) (good a) in
          ap numbers_in m ∙ ap (λ (n : Option ℕ). numbers_in (take p.n row ++ kept_number n ∷ [])) z ∙ more_numbers (take p.n row) ssn n90 (good a)
      by false a = refl

  -- the next document sees what stands in the paper after this one
  pub leaves : seen_by (next_past (identity_of form) l p row) (next_row (identity_of form) l p row) ≡ record {
    dsn = digits_or (field L4868 7 form) (seen_by p row).dsn;
    dcn = digits_or (field L4868 8 form) (seen_by p row).dcn;
    accepted = cond (is_a l) ((seen_by p row).accepted ++ field L4868 90 form ∷ []) (seen_by p row).accepted;
  }
  unfolding seen_by next_past identity_of
  leaves = λ i. record {
    dsn = nearest 16 p.dsn (field L4868 7 form) n7 (omega arith) i;
    dcn = nearest 14 p.dcn (field L4868 8 form) n8 (omega arith) i;
    accepted = numbers i;
  }

-- a form adds its number where it got A, and nothing else
pub next_few : (x : Identity) (l : Letter) (p : Past) (row : List ℕ) → ((next_past x l p row).n ≤ p.n + cond (is_a l) 1 0) × (length (next_row x l p row) ≡ length row)
unfolding next_past next_row
next_few x l p row = by (is_a l) (ltb p.n (length row))
  where
    by : (a b : Bool) → (cond (a && b) (p.n + 1) p.n ≤ p.n + cond a 1 0) × (length (cond (a && b) (set row p.n (kept_number x.ssn)) row) ≡ length row)
    by true true = (omega arith, length-set row p.n (kept_number x.ssn))
    by true false = (omega arith, refl)
    by false b = (omega arith, refl)
