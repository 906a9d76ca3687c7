-- What a Key shows by the form's numbers; a record set is its Key and its Error records. Assumes nothing.
use mathlib.Core.Path.{◌≡◌, refl, ap, ◌∙◌}
use Prim.Native.Nat.{ℕ}
use mathlib.Core.Bool.{Bool, true, false, cond}
use mathlib.Core.List.{List, ◌++◌}
use lib.ListN.{length}
use Rattle.std.proofs.Common.{None}
use Rattle.paper.specs.declared.Identity.{Identity}
use Rattle.paper.specs.declared.Judgment.{Judgment}
use Rattle.paper.specs.declared.Layout.TheVariants.{L4868}
use Rattle.paper.specs.declared.Verdict.TheVariants.{Judged}
use Rattle.paper.specs.Bytes.{Bytes, zeros}
use Rattle.paper.specs.Judge.{Finding}
use Rattle.paper.specs.Layouts.{field}
use Rattle.paper.specs.File.{key_record, or_zeros, pin_byte, date_for, literal_for, errors_from, set_by}
use Rattle.paper.proofs.RecordSizes.{length-key}
use Rattle.words.specs.Past.{number_if, identity_of, no_identity}
use Rattle.words.proofs.Digits.{some_number}
use Rattle.recordset.specs.Key.{shown_as, key_of}

-- a field is shown where the form is known and it is digits
pub shown_said : (known : Bool) (n : ℕ) (f : Bytes) → shown_as (cond known (number_if f) None) n f ≡ or_zeros known n f
unfolding or_zeros
shown_said true n f = ap (λ (b : Bool). cond b f (zeros n)) (some_number f)
shown_said false n f = refl

-- of a form whose numbers are these
module _ (main : Bytes) (j : Judgment) (e : j.identity ≡ cond j.known (identity_of main) no_identity) where
  numbers_are : j.identity ≡ record {
    ssn = cond j.known (number_if (field L4868 90 main)) None;
    dsn = cond j.known (number_if (field L4868 7 main)) None;
    dcn = cond j.known (number_if (field L4868 8 main)) None;
  }
  unfolding identity_of
  numbers_are = e ∙ by j.known
    where
      by : (b : Bool) → cond b (identity_of main) no_identity ≡ record {
        ssn = cond b (number_if (field L4868 90 main)) None;
        dsn = cond b (number_if (field L4868 7 main)) None;
        dcn = cond b (number_if (field L4868 8 main)) None;
      }
      by true = refl
      by false = refl

  pub ssn_said : shown_as j.identity.ssn 9 (field L4868 90 main) ≡ or_zeros j.known 9 (field L4868 90 main)
  ssn_said = ap (λ (y : Identity). shown_as y.ssn 9 (field L4868 90 main)) numbers_are ∙ shown_said j.known 9 (field L4868 90 main)

  dsn_said : shown_as j.identity.dsn 16 (field L4868 7 main) ≡ or_zeros j.known 16 (field L4868 7 main)
  dsn_said = ap (λ (y : Identity). shown_as y.dsn 16 (field L4868 7 main)) numbers_are ∙ shown_said j.known 16 (field L4868 7 main)

  dcn_said : shown_as j.identity.dcn 14 (field L4868 8 main) ≡ or_zeros j.known 14 (field L4868 8 main)
  dcn_said = ap (λ (y : Identity). shown_as y.dcn 14 (field L4868 8 main)) numbers_are ∙ shown_said j.known 14 (field L4868 8 main)

  pub set_parts : (date : Bytes) (found : List Finding)
      → key_of main date j (length found) ++ errors_from (shown_as j.identity.ssn 9 (field L4868 90 main)) 1 found
      ≡ set_by main j.known date j.letter j.facts found j.found.ath j.births
  unfolding set_by key_of
  set_parts date found = λ i.
      key_record (ssn_said i) (dsn_said i) (Judged j.letter) (pin_byte j.known j.found.ath j.facts) (date_for j.letter date) (dcn_said i) (length found) (literal_for j.letter j.facts) j.births ++ errors_from (ssn_said i) 1 found

pub length_key_of : (main date : Bytes) (j : Judgment) (errors : ℕ) → length (key_of main date j errors) ≡ 120
unfolding key_of
length_key_of main date j errors = length-key _ _ _ _ _ _ _ _ _
