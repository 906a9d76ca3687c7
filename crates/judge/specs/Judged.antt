-- What the look-ups find on any bytes, and the judgment of a document in its turn. Assumes nothing.
use Rattle.std.specs.Prelude.{ℕ, ◌+◌, cond, List, [], ◌∷◌, ◌++◌, map, eqb, length, Option}
use Rattle.paper.specs.declared.Broken.{Broken}
use Rattle.paper.specs.declared.Facts.{Facts}
use Rattle.paper.specs.declared.Identity.{Identity}
use Rattle.paper.specs.declared.Judgment.{Judgment}
use Rattle.paper.specs.declared.Kind.{Kind}
use Rattle.paper.specs.declared.Kind.TheVariants.{Payment, Auth}
use Rattle.paper.specs.declared.Layout.TheVariants.{L4868, LPayment}
use Rattle.paper.specs.Bytes.{Bytes, bit}
use Rattle.paper.specs.Layouts.{field}
use Rattle.paper.specs.Pack.{Blocks, Lines, lines_in}
use Rattle.paper.specs.Walk.{is, kind_of, Doc}
use Rattle.paper.specs.Conditions.{Sight, View, sight, view, of_kind, first_auth, facts_of, birth_byte, holds, rules_of}
use Rattle.paper.specs.Judge.{Item, Turn, known, ssn_of, spouse_of, letter_of, births_of, sight_of}
use Rattle.words.specs.Sets.{bits_by}
use Rattle.words.specs.Past.{identity_of, no_identity, earlier}
use Rattle.lookup.specs.Find.{line_in, rows_in}
use Rattle.walk.specs.Parts.{sizes}
use Rattle.rules.specs.declared.Before.{Before}
use Rattle.judge.specs.Kept.{broke_if, counted}

-- a line, or none
abbrev pub one_line : Bytes → List Bytes
one_line [] = []
one_line (x ∷ l) = (x ∷ l) ∷ []

-- the lines of a key that the searches find in the blocks of these kinds
-- tied to the paper by `asked_pack` of judge/Ties
unfoldable pub searched : Blocks → Lines
searched b k key =
    cond (eqb k 1) (one_line (line_in 33 key b.one))
    (cond (eqb k 2) (one_line (line_in 10 key b.two))
    (cond (eqb k 3) (one_line (line_in 9 key b.three))
    (cond (eqb k 4) (lines_in 8 (rows_in 8 key b.four)) [])))

-- the bank line of a payment's 0030
unfoldable pub bank_for : Bytes → Kind → Bytes → Bytes
bank_for banks k r = cond (is Payment k) (line_in 10 (field LPayment 30 r) banks) []

-- a record after the first, with the bank's line
abbrev pub item_in : Bytes → Bytes → Item
item_in banks r = record { bytes = r; bank = bank_for banks (kind_of r) r }

-- the set of the rules that a record breaks
abbrev pub set_in : Kind → View → ℕ
set_in k v = bits_by (holds k v) (rules_of k)

-- the records that break a rule, from a place on; so many payments and authentications stand before
abbrev pub broke_from : Sight → ℕ → ℕ → ℕ → List Item → List Broken
broke_from s place pays aths [] = []
broke_from s place pays aths (i ∷ is) =
    broke_if place (kind_of i.bytes) (set_in (kind_of i.bytes) (view s i.bytes i.bank pays aths))
    ++ broke_from s (place + length i.bytes) (pays + bit (of_kind Payment i.bytes)) (aths + bit (of_kind Auth i.bytes)) is

-- what the rules of a 4868 document look at
unfoldable pub sight_in : Bytes → Bytes → Bytes → Bytes → Option ℕ → Option ℕ → Facts → Sight
sight_in form taxpayers states date dsn dcn whole =
    sight form (line_in 33 (field L4868 90 form) taxpayers) (line_in 33 (field L4868 100 form) taxpayers)
    (lines_in 8 (rows_in 8 (field L4868 60 form) states)) (earlier 16 dsn) (earlier 14 dcn) date whole

-- the records of a 4868 document at a place that break a rule
abbrev pub form_broke : ℕ → Doc → Bytes → Bytes → Bytes → Bytes → Option ℕ → Option ℕ → Facts → List Broken
form_broke at d taxpayers banks states date dsn dcn whole =
    broke_from (sight_in d.main taxpayers states date dsn dcn whole) at 0 0 (record { bytes = d.main; bank = [] } ∷ map (item_in banks) d.others)

-- field 0117 of a 4868 document
abbrev pub form_births : Doc → Bytes → Facts → ℕ
form_births d taxpayers whole = birth_byte (first_auth d.others) (line_in 33 (ssn_of d) taxpayers) (line_in 33 (spouse_of d) taxpayers) whole.pays

-- after a record of this kind
abbrev pub counts : Before → Kind → Before
counts b k = record { pays = b.pays + bit (is Payment k); aths = b.aths + bit (is Auth k) }

-- of a document at a place
-- tied to the paper by `rows_found` of judge/Found
unfoldable pub broke_in : ℕ → Turn → List Broken
broke_in at t = broke_from (sight_of t) at 0 0 t.subject.items

-- the numbers of a document's form
abbrev pub identity_in : Doc → Identity
identity_in d = cond (known d) (identity_of d.main) no_identity

-- tied to the paper by `total_found`, `auth_found` and `empty_found` of judge/Found
unfoldable pub judgment_of : ℕ → Turn → Judgment
judgment_of at t = record {
  size = sizes (t.subject.doc.main ∷ t.subject.doc.others);
  letter = letter_of t;
  known = known t.subject.doc;
  identity = identity_in t.subject.doc;
  found = counted (broke_in at t);
  facts = facts_of (t.subject.doc.main ∷ t.subject.doc.others);
  births = births_of t;
}
