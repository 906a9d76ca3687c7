-- A field of which it is told whether it is digits, or present but not digits: a date, a PIN, the day of a payment. Assumes nothing.
use mathlib.Core.Bool.{Bool, true, false, not, beq, ◌&&◌, ◌||◌}
use mathlib.Core.Path.{◌≡◌, refl, sym, ap, ◌∙◌}
use Rattle.paper.specs.Bytes.{Bytes, before, present, digits, all_zeros}
use Rattle.paper.specs.Conditions.{not_digits, not_date, not_positive, not_pin, last_pay_day, wrong_pay_date}
use Rattle.date.specs.Day.{is_day}
use Rattle.date.proofs.Days.{date_parts}

-- of what is present only that it is not digits
once : (p d x : Bool) → (p && (p && not d || x)) ≡ (p && (not d || x))
once true d x = refl
once false d x = refl

pub same_or_neither : (a b : Bool) → beq a b ≡ (a && b || not a && not b)
same_or_neither true true = refl
same_or_neither true false = refl
same_or_neither false true = refl
same_or_neither false false = refl

not_both : (a b : Bool) → (not a || not b) ≡ not (a && b)
not_both true b = refl
not_both false b = refl

module _ (f : Bytes) where
  pub not_date_by : not_date f ≡ (present f && (not_digits f || not (is_day f)))
  unfolding not_date not_digits
  not_date_by =
      ap (λ (b : Bool). present f && b) (ap not (sym (date_parts f)) ∙ sym (not_both (digits f) (is_day f)))
      ∙ sym (once (present f) (digits f) (not (is_day f)))

  pub not_pin_by : not_pin f ≡ (present f && (not_digits f || all_zeros f))
  unfolding not_pin not_positive not_digits
  not_pin_by = sym (once (present f) (digits f) (all_zeros f))

  pub pay_date_by : (abroad : Bool) → wrong_pay_date abroad f ≡ (not (digits f && is_day f) || before (last_pay_day abroad) f)
  unfolding wrong_pay_date
  pay_date_by abroad = ap (λ (b : Bool). not b || before (last_pay_day abroad) f) (sym (date_parts f))
