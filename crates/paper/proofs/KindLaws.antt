-- The kind of a record: by its number, and what a record of it has; an order that is broken. Assumes nothing.
use Prim.Native.Nat.{ℕ}
use mathlib.Core.Bool.{Bool, true, false, cond}
use mathlib.Core.List.{List, [], ◌∷◌}
use mathlib.Core.Path.{◌≡◌, refl, sym, ap, ◌∙◌}
use borrow.Author.Tests.{eqb-true}
use lib.Dec.{eqb}
use lib.ListN.{length}
use Rattle.paper.specs.declared.Kind.{Kind}
use Rattle.paper.specs.declared.Kind.TheVariants.{TranA, TranB, Form, Unknown, Payment, Auth, Summary, Recap, Stray}
use Rattle.paper.specs.declared.Order.TheVariants.{Broken}
use Rattle.paper.specs.Bytes.{Bytes, bytes, part}
use Rattle.paper.specs.Walk.{fits, named_form, named, kind_of, kind_number, is, ordered}

abbrev kind_from : ℕ → Kind
kind_from n =
    cond (eqb n 0) TranA
    (cond (eqb n 1) TranB
    (cond (eqb n 2) Form
    (cond (eqb n 3) Unknown
    (cond (eqb n 4) Payment
    (cond (eqb n 5) Auth
    (cond (eqb n 6) Summary
    (cond (eqb n 7) Recap Stray)))))))

back : (k : Kind) → kind_from (kind_number k) ≡ k
back TranA = refl
back TranB = refl
back Form = refl
back Unknown = refl
back Payment = refl
back Auth = refl
back Summary = refl
back Recap = refl
back Stray = refl

pub is_eq : (k l : Kind) → is k l ≡ true → l ≡ k
is_eq k l h = sym (sym (back k) ∙ ap kind_from (eqb-true (kind_number k) (kind_number l) h) ∙ back l)

-- a kind has its length
pub kind_fits : (r : Bytes) → fits (kind_of r) (length r) ≡ true
unfolding kind_of
kind_fits r = by (fits (named r) (length r)) refl
  where
    by : (b : Bool) → fits (named r) (length r) ≡ b → fits (cond b (named r) Stray) (length r) ≡ true
    by true e = e
    by false e = refl

-- of a kind that is asked for
pub kind_length : (K : Kind) (w : ℕ) (r : Bytes) → fits K (length r) ≡ eqb (length r) w → is K (kind_of r) ≡ true → length r ≡ w
kind_length K w r f h = eqb-true (length r) w (sym f ∙ ap (λ (k : Kind). fits k (length r)) (sym (is_eq K (kind_of r) h)) ∙ kind_fits r)

-- a record is of its kind by its id, form number and length, whatever else stands in it
pub kind_form : (r : Bytes) → part 8 6 r ≡ bytes "FRM   " → part 14 6 r ≡ bytes "4868  " → length r ≡ 384 → kind_of r ≡ Form
unfolding kind_of named named_form
kind_form r i f n = rw (i, f, n)

pub kind_payment : (r : Bytes) → part 8 6 r ≡ bytes "FRM   " → part 14 6 r ≡ bytes "PMT   " → length r ≡ 123 → kind_of r ≡ Payment
unfolding kind_of named named_form
kind_payment r i f n = rw (i, f, n)

pub kind_auth : (r : Bytes) → part 8 6 r ≡ bytes "ATH   " → length r ≡ 340 → kind_of r ≡ Auth
unfolding kind_of named
kind_auth r i n = rw (i, n)

pub kind_summary : (r : Bytes) → part 8 6 r ≡ bytes "SUM   " → length r ≡ 314 → kind_of r ≡ Summary
unfolding kind_of named
kind_summary r i n = rw (i, n)

-- what is out of order stays so
pub broken_stays : (rs : List Bytes) → ordered Broken rs ≡ Broken
broken_stays [] = refl
broken_stays (r ∷ rs) = broken_stays rs
