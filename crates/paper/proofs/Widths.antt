-- How wide the keys are that a transmission uses, and how long its TRANA and TRANB. Assumes nothing.
use Prim.Native.Nat.{ℕ, ◌+◌, ◌≤◌}
use mathlib.Core.Bool.{Bool, true, false, cond}
use mathlib.Core.List.{List, [], ◌∷◌}
use mathlib.Core.Path.{◌≡◌, refl, sym, ap, ◌∙◌}
use native.Mathlib.Omega.{arith}
use lib.ListN.{length, drop, get_or, length-take, length-drop}
use Rattle.paper.specs.declared.Kind.TheVariants.{TranA, TranB, Form, Payment}
use Rattle.paper.specs.declared.Layout.TheVariants.{L4868, LPayment}
use Rattle.paper.specs.declared.Order.{Order}
use Rattle.paper.specs.declared.Order.TheVariants.{First, Second, Between, Broken}
use Rattle.paper.specs.Bytes.{Bytes, part}
use Rattle.paper.specs.Layouts.{form4868, payment, trana, entry, field, through}
use Rattle.paper.specs.Walk.{is, kind_of, is_ended, ordered, twelve}
use Rattle.paper.proofs.Laws.{never}
use Rattle.paper.proofs.KindLaws.{kind_length, broken_stays}

wide : (from width : ℕ) (r : Bytes) → from + width ≤ length r → length (part from width r) ≡ width
wide from width r h = omega (arith, length-take width (drop from r), length-drop from r)

pub ssn_wide : (r : Bytes) → is Form (kind_of r) ≡ true → length (field L4868 90 r) ≡ 9
unfolding field entry form4868
ssn_wide r e = wide 279 9 r (omega (arith, kind_length Form 384 r refl e))

pub spouse_wide : (r : Bytes) → is Form (kind_of r) ≡ true → length (field L4868 100 r) ≡ 9
unfolding field entry form4868
spouse_wide r e = wide 288 9 r (omega (arith, kind_length Form 384 r refl e))

pub state_wide : (r : Bytes) → is Form (kind_of r) ≡ true → length (field L4868 60 r) ≡ 2
unfolding field entry form4868
state_wide r e = wide 264 2 r (omega (arith, kind_length Form 384 r refl e))

pub routing_wide : (r : Bytes) → is Payment (kind_of r) ≡ true → length (field LPayment 30 r) ≡ 9
unfolding field entry payment
routing_wide r e = wide 60 9 r (omega (arith, kind_length Payment 123 r refl e))

-- a test on which the order hangs holds in an order that ends
kept : (o : Order) (b : Bool) (rs : List Bytes) → is_ended (ordered (cond b o Broken) rs) ≡ true → b ≡ true
kept o true rs e = refl
kept o false rs e = absurd (never (sym (ap is_ended (broken_stays rs)) ∙ e))

pub first_trana : (rs : List Bytes) → is_ended (ordered First rs) ≡ true → length (get_or rs 0 []) ≡ 120
first_trana [] e = absurd (never e)
first_trana (r ∷ rs) e = kind_length TranA 120 r refl (kept Second (is TranA (kind_of r)) rs e)

pub second_tranb : (rs : List Bytes) → is_ended (ordered First rs) ≡ true → length (get_or rs 1 []) ≡ 120
second_tranb [] e = absurd (never e)
second_tranb (r ∷ rs) e = by rs (ap (λ (b : Bool). is_ended (ordered (cond b Second Broken) rs)) (sym (kept Second (is TranA (kind_of r)) rs e)) ∙ e)
  where
    by : (qs : List Bytes) → is_ended (ordered Second qs) ≡ true → length (get_or qs 0 []) ≡ 120
    by [] f = absurd (never f)
    by (q ∷ qs) f = kind_length TranB 120 q refl (kept Between (is TranB (kind_of q)) qs f)

pub twelve_wide : (rs : List Bytes) → is_ended (ordered First rs) ≡ true → length (twelve (get_or rs 0 [])) ≡ 12
unfolding twelve through entry trana
twelve_wide rs e = wide 83 12 (get_or rs 0 []) (omega (arith, first_trana rs e))
