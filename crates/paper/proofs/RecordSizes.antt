-- Every record of the file has 120 bytes; the length of a record set and of a whole rejection. Assumes nothing.
use Prim.Native.Nat.{ℕ, ◌+◌, ◌*◌}
use mathlib.Core.Bool.{Bool}
use mathlib.Core.List.{List, [], ◌∷◌}
use mathlib.Core.Path.{◌≡◌, refl, ◌∙◌}
use native.Mathlib.Omega.{arith}
use lib.ListN.{length, length-append}
use lib.Seq.{length-sets}
use Rattle.paper.specs.declared.Codes.{Codes}
use Rattle.paper.specs.declared.Facts.{Facts}
use Rattle.paper.specs.declared.Layout.{Layout}
use Rattle.paper.specs.declared.Layout.TheVariants.{L4868}
use Rattle.paper.specs.declared.Letter.{Letter}
use Rattle.paper.specs.declared.Verdict.{Verdict}
use Rattle.paper.specs.declared.Verdict.TheVariants.{Whole, Judged}
use Rattle.paper.specs.Bytes.{Bytes, zeros, blanks, laid}
use Rattle.paper.specs.Layouts.{entry, field}
use Rattle.paper.specs.Judge.{Finding}
use Rattle.paper.specs.File.{fields, record_of, key_record, error_record, recap_record, or_zeros, date_for, pin_byte, literal_for, error_of, errors_from, set_by, code_list, whole_errors, rejection}

pub length-laid : (r : Bytes) (at : ℕ) (t : Bytes) → length (laid r at t) ≡ length r
unfolding laid
length-laid r at t = length-sets r at t

length_fields : (l : Layout) (r : Bytes) (fs : List (ℕ × Bytes)) → length (fields l r fs) ≡ length r
length_fields l r [] = refl
length_fields l r (f ∷ fs) =
    length_fields l (laid r (entry l f.0).start f.1) fs ∙ length-laid r (entry l f.0).start f.1

length-record_of : (l : Layout) (fs : List (ℕ × Bytes)) → length (record_of l fs) ≡ 120
unfolding record_of
length-record_of l fs = simp (length-laid, length_fields)

pub length-key : (ssn sequence : Bytes) (v : Verdict) (pin : ℕ) (date control : Bytes) (errors : ℕ) (literal : Bytes) (births : ℕ)
    → length (key_record ssn sequence v pin date control errors literal births) ≡ 120
unfolding key_record
length-key ssn sequence v pin date control errors literal births = length-record_of _ _

pub length_error : (ssn : Bytes) (n : ℕ) (id type page occurrence : Bytes) (rule : ℕ) → length (error_record ssn n id type page occurrence rule) ≡ 120
unfolding error_record
length_error ssn n id type page occurrence rule = length-record_of _ _

pub length-recap : (recap digits12 : Bytes) (accepted all : ℕ) (name : Bytes) → length (recap_record recap digits12 accepted all name) ≡ 120
unfolding recap_record
length-recap recap digits12 accepted all name = length-record_of _ _

-- A RECORD SET

pub length-error_of : (ssn : Bytes) (n : ℕ) (x : Finding) → length (error_of ssn n x) ≡ 120
unfolding error_of
length-error_of ssn n x = length_error _ _ _ _ _ _ _

pub length-errors_from : (ssn : Bytes) (n : ℕ) (xs : List Finding) → length (errors_from ssn n xs) ≡ 120 * length xs
length-errors_from ssn n [] = refl
length-errors_from ssn n (x ∷ xs) =
    length-append (error_of ssn n x) (errors_from ssn (n + 1) xs)
    ∙ omega (arith, length-error_of ssn n x, length-errors_from ssn (n + 1) xs)

-- 120 bytes for the Key and for each finding
pub length-set_by : (main : Bytes) (known : Bool) (date : Bytes) (l : Letter) (f : Facts) (found : List Finding) (athFound : Bool) (births : ℕ)
    → length (set_by main known date l f found athFound births) ≡ 120 + 120 * length found
unfolding set_by
length-set_by main known date l f found athFound births =
    let ssn = or_zeros known 9 (field L4868 90 main) in
    let key = key_record ssn (or_zeros known 16 (field L4868 7 main)) (Judged l) (pin_byte known athFound f) (date_for l date) (or_zeros known 14 (field L4868 8 main)) (length found) (literal_for l f) births in
    let keyed : length key ≡ 120 = length-key _ _ _ _ _ _ _ _ _ in
    length-append key (errors_from ssn 1 found) ∙ omega (arith, keyed, length-errors_from ssn 1 found)

-- A WHOLE REJECTION

length_codes : (n : ℕ) (cs : List ℕ) → length (whole_errors n cs) ≡ 120 * length cs
length_codes n [] = refl
length_codes n (c ∷ cs) =
    let e = error_record (zeros 9) n (blanks 6) (blanks 6) (zeros 5) (zeros 7) c in
    length-append e (whole_errors (n + 1) cs)
    ∙ omega (arith, length_error (zeros 9) n (blanks 6) (blanks 6) (zeros 5) (zeros 7) c, length_codes (n + 1) cs)

-- 120 bytes for the Key and for each code
pub length-rejection : (sequence : Bytes) (codes : Codes) → length (rejection sequence codes) ≡ 120 + 120 * length (code_list codes)
unfolding rejection
length-rejection sequence codes =
    let n = length (code_list codes) in
    let key = key_record (zeros 9) sequence (Whole codes) 32 (zeros 8) (zeros 14) n (blanks 15) 48 in
    let keyed : length key ≡ 120 = length-key _ _ _ _ _ _ _ _ _ in
    length-append key (whole_errors 1 (code_list codes)) ∙ omega (arith, keyed, length_codes 1 (code_list codes))
