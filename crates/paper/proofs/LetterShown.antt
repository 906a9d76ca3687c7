-- The Key of a record set shows the document's letter. Assumes nothing.
use Prim.Native.Nat.{ℕ, zero, suc, ◌<◌}
use mathlib.Core.Bool.{false}
use mathlib.Core.List.{List, [], ◌∷◌, ◌++◌, map}
use mathlib.Core.Path.{◌≡◌, refl, ap, ◌∙◌}
use native.Mathlib.Omega.{arith}
use lib.ListN.{length, get_or, set, length-append, get_or-append}
use lib.Seq.{sets, get_or-set_same, get_or-set_other}
use Rattle.paper.specs.declared.Layout.TheVariants.{LKey}
use Rattle.paper.specs.declared.Letter.{Letter}
use Rattle.paper.specs.declared.Letter.TheVariants.{A, R, D}
use Rattle.paper.specs.declared.Verdict.{Verdict}
use Rattle.paper.specs.Bytes.{Bytes, bytes, same, laid}
use Rattle.paper.specs.Layouts.{ack_key, entry, field}
use Rattle.paper.specs.Judge.{Turn, letter_of, is_a}
use Rattle.paper.specs.File.{record_of, key_record, verdict_byte, letter_byte, set_by, set_of}
use Rattle.paper.proofs.Laws.{take_next}
use Rattle.paper.proofs.RecordSizes.{length-laid, length-key}

-- what is laid in behind a place leaves it
below : (t r : Bytes) (at i : ℕ) → i < at → get_or (sets r at t) i 0 ≡ get_or r i 0
below [] r at i h = refl
below (x ∷ t) r at i h = below t (set r at x) (suc at) i (omega arith) ∙ get_or-set_other r at i x 0 (λ e. omega arith)

behind : (r : Bytes) (at : ℕ) (t : Bytes) (i v : ℕ) → i < at → get_or r i 0 ≡ v → get_or (laid r at t) i 0 ≡ v
unfolding laid
behind r at t i v h e = below t r at i h ∙ e

here : (r : Bytes) (at v : ℕ) → at < length r → get_or (laid r at (v ∷ [])) at 0 ≡ v
unfolding laid
here r at v h = get_or-set_same r at v 0 h

module _ (ssn sequence : Bytes) (v : Verdict) (pin : ℕ) (date control : Bytes) (errors : ℕ) (literal : Bytes) (births : ℕ) where
  key_letter : get_or (key_record ssn sequence v pin date control errors literal births) 53 0 ≡ verdict_byte v
  unfolding key_record record_of entry ack_key
  key_letter =
      behind _ _ _ _ _ (omega arith)
      (behind _ _ _ _ _ (omega arith)
      (behind _ _ _ _ _ (omega arith)
      (behind _ _ _ _ _ (omega arith)
      (behind _ _ _ _ _ (omega arith)
      (behind _ _ _ _ _ (omega arith)
      (behind _ _ _ _ _ (omega arith)
      (behind _ _ _ _ _ (omega arith)
      (here _ _ _ (simp length-laid (omega arith))))))))))

  field_letter : (more : Bytes) → field LKey 50 (key_record ssn sequence v pin date control errors literal births ++ more) ≡ verdict_byte v ∷ []
  unfolding field entry ack_key
  field_letter more =
      let k : Bytes = key_record ssn sequence v pin date control errors literal births in
      let n : length k ≡ 120 = length-key ssn sequence v pin date control errors literal births in
      take_next 0 53 (k ++ more) (omega (arith, length-append k more))
      ∙ ap (λ (x : ℕ). x ∷ []) (get_or-append k more 0 53 (omega arith) ∙ key_letter)

pub letter_shown : (t : Turn) → field LKey 50 (set_of t) ≡ letter_byte (letter_of t) ∷ []
unfolding set_of set_by
letter_shown t = field_letter _ _ _ _ _ _ _ _ _ _

by_letter : (l : Letter) → same (letter_byte l ∷ []) (bytes "A") ≡ is_a l
by_letter A = refl
by_letter R = refl
by_letter D = refl

none_shown : same (field LKey 50 []) (bytes "A") ≡ false
unfolding field entry ack_key
none_shown = refl

-- of each place in a row of record sets
pub letters_shown : (ts : List Turn) (n : ℕ) → same (field LKey 50 (get_or (map set_of ts) n [])) (bytes "A") ≡ is_a (get_or (map letter_of ts) n R)
letters_shown [] n = none_shown
letters_shown (t ∷ ts) zero = ap (λ (s : Bytes). same s (bytes "A")) (letter_shown t) ∙ by_letter (letter_of t)
letters_shown (t ∷ ts) (suc n) = letters_shown ts n
