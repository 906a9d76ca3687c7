-- The second theorem, and those of the notice, at work on real bytes: all that they ask holds of them, so that they say something of them.
-- Assumes nothing.
use Prim.Native.Nat.{ℕ, ◌≤◌}
use mathlib.Core.Bool.{true, false}
use mathlib.Core.List.{List, [], ◌∷◌}
use mathlib.Core.Logic.{◌≢◌}
use mathlib.Core.Path.{◌≡◌, refl, sym, ◌∙◌}
use borrow.Author.Tests.{eqb-true, ne_eqb}
use native.Mathlib.Omega.{arith}
use lib.Dec.{eqb, leb}
use lib.ListN.{length, drop, get_or}
use Rattle.paper.specs.Bytes.{Bytes}
use Rattle.paper.specs.Pack.{block, blocks_of}
use Rattle.paper.specs.Walk.{records}
use Rattle.paper.specs.Hidden.{outcome_with, set_at, Document, InPlace}
use Rattle.paper.specs.Notice.{ButBirths, letters_of}
use Rattle.paper.specs.Samples.{two_pack, what_precedes, unpaid, paid, what_follows, doc_in, day, old, new, OneDocument, exchange, duplicate_pack, other_birth_pack, one_digit}
use Rattle.paper.proofs.Laws.{never, same_eq}
use Rattle.paper.proofs.OtherSets.{others_same}
use Rattle.paper.proofs.Notice.{same_letters}

one_more : (rs : List Bytes) → leb 1 (length rs) ≡ true → rs ≡ get_or rs 0 [] ∷ drop 1 rs
one_more [] e = absurd (never e)
one_more (r ∷ rs) e = refl

two_more : (rs : List Bytes) → leb 2 (length rs) ≡ true → rs ≡ get_or rs 0 [] ∷ get_or rs 1 [] ∷ drop 2 rs
two_more [] e = absurd (never e)
two_more (r ∷ []) e = absurd (never e)
two_more (r ∷ q ∷ rs) e = refl

document : (x : Bytes) → OneDocument x → Document x (doc_in x)
document x d = record {
  reads = one_more (records x) d.reads;
  id = same_eq _ _ d.id;
  form = same_eq _ _ d.form;
  size = eqb-true _ _ d.size;
  follows = d.follows;
}

in_place : InPlace two_pack day what_precedes what_follows unpaid paid (doc_in unpaid) (doc_in paid)
in_place = record {
  around = record {
    first = get_or (records what_precedes) 0 [];
    second = get_or (records what_precedes) 1 [];
    earlier = drop 2 (records what_precedes);
    next = get_or (records what_follows) 0 [];
    later = drop 1 (records what_follows);
    before_it = two_more (records what_precedes) exchange.two_before;
    whole = exchange.whole;
    after_it = one_more (records what_follows) exchange.one_after;
    fresh = exchange.fresh;
  };
  old = document unpaid exchange.old_document;
  new = document paid exchange.new_document;
  alike = record {
    sequence = same_eq _ _ exchange.sequence;
    control = same_eq _ _ exchange.control;
    number = same_eq _ _ exchange.number;
  };
  not_rejected = exchange.not_rejected;
  accepted = rw exchange.place (exchange.old_accepted ∙ sym exchange.new_accepted);
}

-- the record sets before and after it are the same bytes
pub others_unchanged : (n : ℕ) → n ≢ 1 → set_at two_pack day old n ≡ set_at two_pack day new n
others_unchanged n ne = others_same two_pack day what_precedes what_follows unpaid paid (doc_in unpaid) (doc_in paid) in_place n (λ e. ne (e ∙ exchange.place))

-- A BIRTH DATE

blocks_same : (k : ℕ) → 2 ≤ k → k ≤ 5 → block (blocks_of duplicate_pack) k ≡ block (blocks_of other_birth_pack) k
unfolding blocks_of
blocks_same k low high =
    let one : eqb k 1 ≡ false = ne_eqb k 1 (λ e. omega arith) in
    rw (one, one_digit.two, one_digit.three, one_digit.four, one_digit.five)

pub but_births : ButBirths duplicate_pack other_birth_pack
but_births = record {
  first_well = one_digit.first_well;
  second_well = one_digit.second_well;
  lines = one_digit.lines;
  others = blocks_same;
}

-- the letters are the same, whatever is sent
pub letters_unchanged : (t date : Bytes) → letters_of (outcome_with duplicate_pack date t) ≡ letters_of (outcome_with other_birth_pack date t)
letters_unchanged t date = same_letters t date duplicate_pack other_birth_pack but_births
