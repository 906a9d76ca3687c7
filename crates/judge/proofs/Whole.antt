-- The letter, the records of a document that break a rule, and the judgment. Assumes nothing.
use mathlib.Core.Path.{◌≡◌, refl, sym, ap, ◌∙◌}
use mathlib.Core.Bool.{Bool, true, false, not, cond, ◌||◌}
use Rattle.std.proofs.Common.{Option}
use mathlib.Core.List.{List, [], ◌∷◌, ◌++◌, map, append-nil}
use Prim.Native.Nat.{ℕ, ◌+◌, ◌-◌, ◌≤◌}
use native.Mathlib.Omega.{arith}
use borrow.Author.Tests.{eq-eqb, ne_eqb, not-false}
use lib.Dec.{eqb, ltb}
use lib.ListN.{length, take, drop, length-take}
use Rattle.paper.specs.declared.Broken.{Broken}
use Rattle.paper.specs.declared.Facts.{Facts}
use Rattle.paper.specs.declared.Findings.{Findings}
use Rattle.paper.specs.declared.Identity.{Identity}
use Rattle.paper.specs.declared.Judgment.{Judgment}
use Rattle.paper.specs.declared.Kind.{Kind}
use Rattle.paper.specs.declared.Kind.TheVariants.{TranA, TranB, Form, Unknown, Payment, Auth, Summary, Recap, Stray}
use Rattle.paper.specs.declared.Layout.TheVariants.{L4868, LPayment}
use Rattle.paper.specs.declared.Letter.{Letter}
use Rattle.paper.specs.Bytes.{Bytes, bit, every, those, empty, member, first_or, written}
use Rattle.paper.specs.Layouts.{form4868, authentication, entry, field}
use Rattle.paper.specs.Pack.{Blocks, Lines, lines_in}
use Rattle.paper.specs.Walk.{Doc, kind_of, is, opens, goes_on}
use Rattle.paper.specs.Conditions.{Sight, View, sight, view, first_auth, compares_births, birth_byte, form_rules}
use Rattle.paper.specs.Judge.{Case, Turn, known, ssn_of, spouse_of, state_of, item_of, if_known, asked, findings, letter_by, twice, letter_of, births_of, sight_of, turn}
use Rattle.paper.proofs.Laws.{never}
use Rattle.paper.proofs.KindLaws.{is_eq}
use Rattle.lookup.specs.Find.{line_in, rows_in}
use Rattle.words.specs.Sets.{bit_on, bits_by}
use Rattle.words.specs.Past.{identity_of, no_identity, earlier}
use Rattle.form.specs.Breaks.{breaks}
use Rattle.walk.specs.declared.Extent.{Extent}
use Rattle.walk.specs.Heads.{front}
use Rattle.walk.specs.Parts.{doc_if, doc_here, own_in, extent_of}
use Rattle.walk.proofs.Docs.{own_goes}
use Rattle.paper.proofs.Records.{kind_none}
use Rattle.walk.proofs.Laws.{as_part}
use Rattle.walk.proofs.Facts.{others_here, main_here, doc_fits}
use Rattle.judge.specs.declared.Past.{Past}
use Rattle.judge.specs.Kept.{broke_if, no_findings, Held, held, listed, kept_of, added}
use Rattle.judge.specs.Seen.{numbers_in, seen_by, next_past, next_row, past_after, row_after}
use Rattle.judge.specs.Judged.{one_line, searched, bank_for, item_in, set_in, broke_from, sight_in, form_broke, form_births, broke_in, judgment_of}
use Rattle.judge.proofs.Kept.{added_none, added_append, held_counted, held_listed}
use Rattle.judge.proofs.Found.{others_same, empty_found}

-- THE LETTER

module _ (clean : Bool) (filed f90 ssn line : Bytes) (accepted : List Bytes) (e-clean : not clean ≡ false) (e-ssn : ssn ≡ f90) (e-line : line ≡ line_in 9 ssn filed) where
  on : letter_by clean (not (empty (line_in 9 f90 filed)) || member f90 accepted) ≡ letter_by true (not (empty line) || member ssn accepted)
  on =
      (λ i. letter_by (not-false clean e-clean i) (not (empty (line_in 9 (sym e-ssn i) filed)) || member (sym e-ssn i) accepted)) ∙ ap (λ (l : Bytes). letter_by true (not (empty l) || member ssn accepted)) (sym e-line)

  pub letter_rest : (b : Bool) → eqb (length line) 0 ≡ true → b ≡ member ssn accepted → letter_by true b ≡ letter_by clean (not (empty (line_in 9 f90 filed)) || member f90 accepted)
  letter_rest b h e = sym (on ∙ by line h ∙ ap (letter_by true) (sym e))
    where
      by : (l : Bytes) → eqb (length l) 0 ≡ true → letter_by true (not (empty l) || member ssn accepted) ≡ letter_by true (member ssn accepted)
      by [] q = refl
      by (x ∷ l) q = absurd (never (sym (ne_eqb (length (x ∷ l)) 0 (λ e. omega arith)) ∙ q))

-- THE RECORDS OF A 4868 DOCUMENT

module _ (t : Bytes) (at : ℕ) (form taxpayers banks states date : Bytes) (dsn dcn : Option ℕ) (whole : Facts) (k : is Form (kind_of (doc_here (drop at t)).main) ≡ true) (ef : form ≡ (doc_here (drop at t)).main)
    (f90 f100 f60 payer spouse zips : Bytes) (set : ℕ) (none : Findings) (first r : Held)
    (e90 : f90 ≡ field L4868 90 form) (e-payer : payer ≡ line_in 33 f90 taxpayers)
    (e100 : f100 ≡ field L4868 100 form) (e-spouse : spouse ≡ line_in 33 f100 taxpayers)
    (e60 : f60 ≡ field L4868 60 form) (e-zips : zips ≡ rows_in 8 f60 states)
    (n : length form ≡ 384)
    (e-set : set ≡ cond (eqb (length form) 384) (bits_by (breaks form payer spouse zips dsn dcn date whole) form_rules) 0)
    (e-none : none ≡ no_findings)
    (e-first : first ≡ added (held [] none) (broke_if at Form set))
    (e-others : r ≡ added first (broke_from (sight form payer spouse [] [] [] [] whole) (at + length form) 0 0 (map (item_in banks) (doc_here (drop at t)).others))) where
  abbrev d : Doc
  d = doc_here (drop at t)

  abbrev S : Sight
  S = sight form payer spouse (lines_in 8 zips) (earlier 16 dsn) (earlier 14 dcn) date whole

  seen_is : S ≡ sight_in form taxpayers states date dsn dcn whole
  unfolding sight_in
  seen_is =
      let x : payer ≡ line_in 33 (field L4868 90 form) taxpayers = e-payer ∙ ap (λ (key : Bytes). line_in 33 key taxpayers) e90 in
      let y : spouse ≡ line_in 33 (field L4868 100 form) taxpayers = e-spouse ∙ ap (λ (key : Bytes). line_in 33 key taxpayers) e100 in
      let z : zips ≡ rows_in 8 (field L4868 60 form) states = e-zips ∙ ap (λ (key : Bytes). rows_in 8 key states) e60 in
      λ i. sight form (x i) (y i) (lines_in 8 (z i)) (earlier 16 dsn) (earlier 14 dcn) date whole

  set_is : set ≡ set_in Form (view S form [] 0 0)
  set_is = e-set ∙ ap (λ (c : Bool). cond c (bits_by (breaks form payer spouse zips dsn dcn date whole) form_rules) 0) (eq-eqb (length form) 384 n)

  go_on : every (λ (x : Bytes). goes_on (kind_of x)) d.others ≡ true
  go_on =
      ap (every (λ (x : Bytes). goes_on (kind_of x))) (others_here t at (ap (λ (c : Bool). c || is Unknown (kind_of d.main)) k))
      ∙ own_goes (drop (at + length d.main) t)

  kind : kind_of d.main ≡ Form
  kind = is_eq Form (kind_of d.main) k

  pub form_found : r ≡ kept_of (form_broke at (doc_here (drop at t)) taxpayers banks states date dsn dcn whole)
  form_found =
      let o = broke_from S (at + length form) 0 0 (map (item_in banks) d.others) in
      let h = held [] no_findings in
      e-others
      ∙ (λ i. added ((e-first ∙ (λ j. added (held [] (e-none j)) (broke_if at Form (set_is j)))) i) (others_same banks form payer spouse (lines_in 8 zips) (earlier 16 dsn) (earlier 14 dcn) date whole d.others (at + length form) 0 0 go_on i))
      ∙ added_append h (broke_if at Form (set_in Form (view S form [] 0 0))) o
      ∙ added_none (broke_if at Form (set_in Form (view S form [] 0 0)) ++ o)
      ∙ (λ i. kept_of (broke_if at Form (set_in Form (view (seen_is i) form [] 0 0)) ++ broke_from (seen_is i) (at + length form) 0 0 (map (item_in banks) d.others)))
      ∙ (λ i. kept_of (broke_if at Form (set_in Form (view (sight_in (ef i) taxpayers states date dsn dcn whole) (ef i) [] 0 0)) ++ broke_from (sight_in (ef i) taxpayers states date dsn dcn whole) (at + length (ef i)) 0 0 (map (item_in banks) d.others)))
      ∙ (λ i. kept_of (broke_if at (sym kind i) (set_in (sym kind i) (view (sight_in d.main taxpayers states date dsn dcn whole) d.main [] 0 0))
      ++ broke_from (sight_in d.main taxpayers states date dsn dcn whole) (at + length d.main) (0 + bit (is Payment (sym kind i))) (0 + bit (is Auth (sym kind i))) (map (item_in banks) d.others)))

-- field 0117 of it
pub births_found : (t : Bytes) (at : ℕ) (form taxpayers : Bytes) (whole : Facts) → is Form (kind_of (doc_here (drop at t)).main) ≡ true → form ≡ (doc_here (drop at t)).main
    → (f90 f100 payer spouse : Bytes) (v : ℕ) → f90 ≡ field L4868 90 form → payer ≡ line_in 33 f90 taxpayers → f100 ≡ field L4868 100 form → spouse ≡ line_in 33 f100 taxpayers
    → v ≡ birth_byte (first_auth (own_in (drop (at + length form) t))) payer spouse whole.pays → v ≡ form_births (doc_here (drop at t)) taxpayers whole
births_found t at form taxpayers whole k ef f90 f100 payer spouse v e90 e-payer e100 e-spouse ev =
    let d = doc_here (drop at t) in
    let o : own_in (drop (at + length form) t) ≡ d.others =
    ap (λ (m : Bytes). own_in (drop (at + length m) t)) ef ∙ sym (others_here t at (ap (λ (c : Bool). c || is Unknown (kind_of d.main)) k)) in
    let x : payer ≡ line_in 33 (ssn_of d) taxpayers = e-payer ∙ ap (λ (key : Bytes). line_in 33 key taxpayers) (e90 ∙ ap (field L4868 90) ef) in
    let y : spouse ≡ line_in 33 (spouse_of d) taxpayers = e-spouse ∙ ap (λ (key : Bytes). line_in 33 key taxpayers) (e100 ∙ ap (field L4868 100) ef) in
    ev ∙ (λ i. birth_byte (first_auth (o i)) (x i) (y i) whole.pays)

-- WHAT THE PACK SAYS OF A DOCUMENT

first_one : (l : Bytes) → first_or (one_line l) ≡ l
first_one [] = refl
first_one (x ∷ l) = refl

module _ (b : Blocks) where
  pub searched_taxpayer : (key : Bytes) → first_or (searched b 1 key) ≡ line_in 33 key b.one
  unfolding searched
  searched_taxpayer key = first_one (line_in 33 key b.one)

  pub searched_bank : (key : Bytes) → first_or (searched b 2 key) ≡ line_in 10 key b.two
  unfolding searched
  searched_bank key = first_one (line_in 10 key b.two)

  pub searched_filed : (key : Bytes) → first_or (searched b 3 key) ≡ line_in 9 key b.three
  unfolding searched
  searched_filed key = first_one (line_in 9 key b.three)

  pub searched_states : (key : Bytes) → searched b 4 key ≡ lines_in 8 (rows_in 8 key b.four)
  unfolding searched
  searched_states key = refl

  item_is : (r : Bytes) → item_in b.two r ≡ item_of (searched b) r
  unfolding bank_for
  item_is r = λ i. record { bytes = r; bank = cond (is Payment (kind_of r)) (sym (searched_bank (field LPayment 30 r)) i) [] }

  items_are : (rs : List Bytes) → map (item_in b.two) rs ≡ map (item_of (searched b)) rs
  items_are [] = refl
  items_are (r ∷ rs) = λ i. item_is r i ∷ items_are rs i

-- what the pack says of d where its form is known, or not
abbrev pub case_if : Bool → Lines → Doc → Case
case_if b L d = record {
  doc = d;
  payer = first_or (if_known b L 1 (ssn_of d));
  spouse = first_or (if_known b L 1 (spouse_of d));
  done = first_or (if_known b L 3 (ssn_of d));
  zips = if_known b L 4 (state_of d);
  items = record { bytes = d.main; bank = [] } ∷ map (item_of (if_known b L)) (cond b d.others []);
}

pub asked_if : (b : Bool) (L : Lines) (d : Doc) → known d ≡ b → asked L d ≡ case_if b L d
asked_if b L d h = ap (λ (x : Bool). case_if x L d) h

-- THE JUDGMENT

empty_eqb : (l : List Broken) → eqb (length (listed l)) 0 ≡ empty l
unfolding listed
empty_eqb [] = refl
empty_eqb (x ∷ l) = ne_eqb (length (take 96 (x ∷ l))) 0 (λ e. omega (arith, length-take 96 (x ∷ l)))

-- of a document in its turn: each result, and what is known of it
module _ (t date : Bytes) (at : ℕ) (p : Past) (row : List ℕ) (k : Bool) (L : Lines) (e : Extent) (ee : e ≡ extent_of (drop at t)) (Known-is : known (doc_here (drop at t)) ≡ k) where
  abbrev doc : Doc
  doc = doc_here (drop at t)

  abbrev T : Turn
  T = turn date (seen_by p row) (case_if k L doc)

  abbrev U : Turn
  U = turn date (seen_by p row) (asked L doc)

  turn_is : T ≡ U
  turn_is = ap (λ (c : Case). turn date (seen_by p row) c) (sym (asked_if k L doc Known-is))

  module _ (found : Findings) (own : Identity) (letter : Letter) (births : ℕ) (next : Past) (row' : List ℕ) (x : List Broken)
      (e_held : held x found ≡ kept_of (broke_in at T)) (e-own : own ≡ cond k (identity_of doc.main) no_identity) (e-letter : letter ≡ letter_of T) (e-births : births ≡ births_of T)
      (e-past : next ≡ cond k (next_past (identity_of doc.main) letter p row) p) (e-row : row' ≡ cond k (next_row (identity_of doc.main) letter p row) row) where
    pub judged_is : ◌≡◌ {A = Judgment} (record { size = e.size; letter = letter; known = k; identity = own; found = found; facts = e.facts; births = births }) (judgment_of at U)
    unfolding judgment_of extent_of
    judged_is =
        (λ i. record {
          size = (ee i).size;
          letter = e-letter i;
          known = sym Known-is i;
          identity = (e-own ∙ ap (λ (b : Bool). cond b (identity_of doc.main) no_identity) (sym Known-is)) i;
          found = held_counted x (broke_in at T) found e_held i;
          facts = (ee i).facts;
          births = e-births i;
        })
        ∙ ap (judgment_of at) turn_is

    pub past_is : next ≡ past_after U p row
    past_is = e-past ∙ (λ j. cond (sym Known-is j) (next_past (identity_of doc.main) (e-letter j) p row) p) ∙ ap (λ (u : Turn). past_after u p row) turn_is

    pub row_is : row' ≡ row_after U p row
    row_is = e-row ∙ (λ j. cond (sym Known-is j) (next_row (identity_of doc.main) (e-letter j) p row) row) ∙ ap (λ (u : Turn). row_after u p row) turn_is

    pub list_is : x ≡ listed (broke_in at U)
    list_is = held_listed x (broke_in at T) found e_held ∙ ap (λ (u : Turn). listed (broke_in at u)) turn_is

  -- no finding, no record that breaks a rule
  pub clean_same : (x : List Broken) (found : Findings) → held x found ≡ kept_of (broke_in at T) → eqb (length x) 0 ≡ empty (findings T)
  unfolding broke_in findings
  clean_same x found q = ap (λ (l : List Broken). eqb (length l) 0) (held_listed x (broke_in at T) found q) ∙ empty_eqb (broke_in at T) ∙ empty_found (sight_of T) at 0 0 T.subject.items

-- of a 4868 document
module _ (t date : Bytes) (b : Blocks) (at : ℕ) (p : Past) (row : List ℕ) (e : Extent) (ee : e ≡ extent_of (drop at t)) (k : known (doc_here (drop at t)) ≡ true) where
  abbrev Z : Lines
  Z = searched b

  abbrev K : Turn
  K = turn date (seen_by p row) (case_if true Z (doc_here (drop at t)))

  sight_is : sight_in (doc_here (drop at t)).main b.one b.four date p.dsn p.dcn e.facts ≡ sight_of K
  unfolding sight_in seen_by extent_of
  sight_is =
      let d = doc_here (drop at t) in
      λ i. sight d.main (sym (searched_taxpayer b (ssn_of d)) i) (sym (searched_taxpayer b (spouse_of d)) i)
      (sym (searched_states b (state_of d)) i) (earlier 16 p.dsn) (earlier 14 p.dcn) date (ee i).facts

  form_broke_lem : form_broke at (doc_here (drop at t)) b.one b.two b.four date p.dsn p.dcn e.facts ≡ broke_in at K
  unfolding broke_in
  form_broke_lem = λ i. broke_from (sight_is i) at 0 0 (record { bytes = (doc_here (drop at t)).main; bank = [] } ∷ items_are b (doc_here (drop at t)).others i)

  births_are : (v : ℕ) → v ≡ form_births (doc_here (drop at t)) b.one e.facts → v ≡ births_of K
  unfolding births_of extent_of
  births_are v ev =
      let d = doc_here (drop at t) in
      ev
      ∙ (λ i. birth_byte (first_auth (cond (sym k i) d.others [])) (sym (searched_taxpayer b (ssn_of d)) i) (sym (searched_taxpayer b (spouse_of d)) i) (ee i).facts.pays)

  module _ (form : Bytes) (found : Findings) (own : Identity) (letter : Letter) (births : ℕ) (next : Past) (row' : List ℕ) (x : List Broken) (ef : form ≡ (doc_here (drop at t)).main)
      (e-own : own ≡ identity_of form) (e-found : held x found ≡ kept_of (form_broke at (doc_here (drop at t)) b.one b.two b.four date p.dsn p.dcn e.facts))
      (e-letter : letter ≡ letter_by (eqb (length x) 0) (not (empty (line_in 9 (field L4868 90 form) b.three)) || member (field L4868 90 form) (numbers_in (take p.n row))))
      (e-births : births ≡ form_births (doc_here (drop at t)) b.one e.facts) (e-past : next ≡ next_past own letter p row) (e-row : row' ≡ next_row own letter p row) where
    e_held : held x found ≡ kept_of (broke_in at K)
    e_held = e-found ∙ ap kept_of form_broke_lem

    letter_is : letter ≡ letter_of K
    unfolding letter_of twice seen_by
    letter_is =
        e-letter
        ∙ (λ i. letter_by (clean_same t date at p row true Z e ee k x found e_held i) (not (empty (line_in 9 (field L4868 90 (ef i)) b.three)) || member (field L4868 90 (ef i)) (numbers_in (take p.n row))))
        ∙ (λ i. letter_by (empty (findings K)) (not (empty (sym (searched_filed b (ssn_of (doc_here (drop at t)))) i)) || member (ssn_of (doc_here (drop at t))) (numbers_in (take p.n row))))

    pub form_judged : (◌≡◌ {A = Judgment} (record { size = e.size; letter = letter; known = true; identity = own; found = found; facts = e.facts; births = births }) (judgment_of at (turn date (seen_by p row) (asked (searched b) (doc_here (drop at t))))))
        × (next ≡ past_after (turn date (seen_by p row) (asked (searched b) (doc_here (drop at t)))) p row)
        × (row' ≡ row_after (turn date (seen_by p row) (asked (searched b) (doc_here (drop at t)))) p row)
        × (x ≡ listed (broke_in at (turn date (seen_by p row) (asked (searched b) (doc_here (drop at t))))))
    form_judged =
        let o : own ≡ identity_of (doc_here (drop at t)).main = e-own ∙ ap identity_of ef in
        let q : next ≡ next_past (identity_of (doc_here (drop at t)).main) letter p row = e-past ∙ ap (λ (y : Identity). next_past y letter p row) o in
        let w : row' ≡ next_row (identity_of (doc_here (drop at t)).main) letter p row = e-row ∙ ap (λ (y : Identity). next_row y letter p row) o in (
          judged_is t date at p row true Z e ee k found own letter births next row' x e_held o letter_is (births_are births e-births) q w,
          past_is t date at p row true Z e ee k found own letter births next row' x e_held o letter_is (births_are births e-births) q w,
          row_is t date at p row true Z e ee k found own letter births next row' x e_held o letter_is (births_are births e-births) q w,
          list_is t date at p row true Z e ee k found own letter births next row' x e_held o letter_is (births_are births e-births) q w,
        )

-- of any other: nothing is looked up, and nothing but the first record is judged
member_none : (row : List ℕ) → member [] (numbers_in row) ≡ false
member_none [] = refl
member_none (x ∷ row) = by (ltb x 1000000000) (member_none row)
  where
    by : (b : Bool) → member [] (numbers_in row) ≡ false → member [] (map (written 9) (cond b (x ∷ those (λ (y : ℕ). ltb y 1000000000) row) (those (λ (y : ℕ). ltb y 1000000000) row))) ≡ false
    by true e = e
    by false e = e

-- its first record
one_set : (v : View) (k : Kind) → opens k ≡ true → is Form k ≡ false → set_in k v ≡ bit (is Unknown k)
unfolding bit_on
one_set v TranA o f = refl
one_set v TranB o f = refl
one_set v Form o f = absurd (never (sym f))
one_set v Unknown o f = refl
one_set v Payment o f = absurd (never o)
one_set v Auth o f = absurd (never o)
one_set v Summary o f = absurd (never o)
one_set v Recap o f = refl
one_set v Stray o f = refl

module _ (t : Bytes) (at : ℕ) (v : View) where
  other_set : known (doc_here (drop at t)) ≡ false → set_in (kind_of (doc_here (drop at t)).main) v ≡ bit (is Unknown (kind_of (doc_here (drop at t)).main))
  unfolding doc_here
  other_set h = by (opens (kind_of (front (drop at t)))) refl h
    where
      by : (b : Bool) → opens (kind_of (front (drop at t))) ≡ b → is Form (kind_of (doc_if b (drop at t)).main) ≡ false
          → set_in (kind_of (doc_if b (drop at t)).main) v ≡ bit (is Unknown (kind_of (doc_if b (drop at t)).main))
      by true o f = one_set v (kind_of (front (drop at t))) o f
      by false o f = ap (λ (k : Kind). set_in k v) kind_none ∙ ap (λ (k : Kind). bit (is Unknown k)) (sym kind_none)

-- where no rule of it is broken, it has no byte
no_bytes : (t : Bytes) (at : ℕ) → known (doc_here (drop at t)) ≡ false → is Unknown (kind_of (doc_here (drop at t)).main) ≡ false → (doc_here (drop at t)).main ≡ []
unfolding doc_here
no_bytes t at h u = by (opens (kind_of (front (drop at t)))) refl h u
  where
    by : (b : Bool) → opens (kind_of (front (drop at t))) ≡ b → is Form (kind_of (doc_if b (drop at t)).main) ≡ false → is Unknown (kind_of (doc_if b (drop at t)).main) ≡ false → (doc_if b (drop at t)).main ≡ []
    by true o f q = absurd (never (sym (λ i. f i || q i) ∙ o))
    by false o f q = refl

module _ (t date : Bytes) (at : ℕ) (p : Past) (row : List ℕ) (L : Lines) (e : Extent) (ee : e ≡ extent_of (drop at t)) (k : known (doc_here (drop at t)) ≡ false)
    (kind : Kind) (found : Findings) (letter : Letter) (x : List Broken) (e-kind : kind ≡ kind_of (doc_here (drop at t)).main)
    (e-found : held x found ≡ kept_of (broke_if at kind (bit (is Unknown kind)))) (e-letter : letter ≡ letter_by (eqb (length x) 0) false) where
  abbrev N : Turn
  N = turn date (seen_by p row) (case_if false L (doc_here (drop at t)))

  abbrev first : View
  first = view (sight_of N) (doc_here (drop at t)).main [] 0 0

  broke_is : broke_if at kind (bit (is Unknown kind)) ≡ broke_in at N
  unfolding broke_in
  broke_is =
      (λ i. broke_if at (e-kind i) (bit (is Unknown (e-kind i)))) ∙ ap (broke_if at (kind_of (doc_here (drop at t)).main)) (sym (other_set t at first k))
      ∙ sym (append-nil (broke_if at (kind_of (doc_here (drop at t)).main) (set_in (kind_of (doc_here (drop at t)).main) first)))

  other_held : held x found ≡ kept_of (broke_in at N)
  other_held = e-found ∙ ap kept_of broke_is

  clean : eqb (length x) 0 ≡ empty (findings N)
  clean = clean_same t date at p row false L e ee k x found other_held

  -- an unknown form has one
  rows_some : is Unknown (kind_of (doc_here (drop at t)).main) ≡ true → eqb (length x) 0 ≡ false
  unfolding listed
  rows_some u =
      ap (λ (h : Held). eqb (length h.list) 0) e-found ∙ ap (λ (b : Bool). eqb (length (take 96 (cond {A = List Broken} (eqb (bit b) 0) [] (record { place = at; kind = kind; set = bit b } ∷ [])))) 0) (ap (is Unknown) e-kind ∙ u)

  no_field_lem : field L4868 90 [] ≡ []
  unfolding field entry form4868
  no_field_lem = refl

  other_letter : letter ≡ letter_of N
  unfolding letter_of twice seen_by
  other_letter = e-letter ∙ ap (λ (b : Bool). letter_by b false) clean ∙ by (is Unknown (kind_of (doc_here (drop at t)).main)) refl
    where
      by : (b : Bool) → is Unknown (kind_of (doc_here (drop at t)).main) ≡ b → letter_by (empty (findings N)) false ≡ letter_by (empty (findings N)) (false || member (ssn_of (doc_here (drop at t))) (numbers_in (take p.n row)))
      by true u = some (empty (findings N)) (sym clean ∙ rows_some u)
        where
          some : (c : Bool) → c ≡ false → letter_by c false ≡ letter_by c (false || member (ssn_of (doc_here (drop at t))) (numbers_in (take p.n row)))
          some true z = absurd (never (sym z))
          some false z = refl
      by false u = ap (letter_by (empty (findings N))) (sym (ap (λ (m : Bytes). member (field L4868 90 m) (numbers_in (take p.n row))) (no_bytes t at k u) ∙ ap (λ (m : Bytes). member m (numbers_in (take p.n row))) no_field_lem ∙ member_none (take p.n row)))

  -- without an authentication no birth date is compared
  no_births : 48 ≡ births_of N
  unfolding births_of birth_byte compares_births field entry authentication
  no_births = ap (λ (b : Bool). birth_byte (first_auth (cond b (doc_here (drop at t)).others [])) [] [] (sight_of N).whole.pays) (sym k)

  pub other_judged : (◌≡◌ {A = Judgment} (record { size = e.size; letter = letter; known = false; identity = no_identity; found = found; facts = e.facts; births = 48 }) (judgment_of at (turn date (seen_by p row) (asked L (doc_here (drop at t))))))
      × (p ≡ past_after (turn date (seen_by p row) (asked L (doc_here (drop at t)))) p row) × (row ≡ row_after (turn date (seen_by p row) (asked L (doc_here (drop at t)))) p row) × (x ≡ listed (broke_in at (turn date (seen_by p row) (asked L (doc_here (drop at t))))))
  other_judged = (
    judged_is t date at p row false L e ee k found no_identity letter 48 p row x other_held refl other_letter no_births refl refl,
    past_is t date at p row false L e ee k found no_identity letter 48 p row x other_held refl other_letter no_births refl refl,
    row_is t date at p row false L e ee k found no_identity letter 48 p row x other_held refl other_letter no_births refl refl,
    list_is t date at p row false L e ee k found no_identity letter 48 p row x other_held refl other_letter no_births refl refl,
  )

-- WHAT THE CODE KNOWS OF THE FIRST RECORD

module _ (t : Bytes) (at : ℕ) (e : Extent) (ee : e ≡ extent_of (drop at t)) where
  pub first_kind : e.first.kind ≡ kind_of (doc_here (drop at t)).main
  unfolding extent_of
  first_kind = ap (λ (x : Extent). x.first.kind) ee

  pub known_as : (b c : Bool) → b ≡ is Form e.first.kind → b ≡ c → known (doc_here (drop at t)) ≡ c
  known_as b c q r = sym (q ∙ ap (is Form) first_kind) ∙ r

  pub first_part : is Form (kind_of (doc_here (drop at t)).main) ≡ true → (at + e.first.size ≤ length t) × (take (at + e.first.size - at) (drop at t) ≡ (doc_here (drop at t)).main)
  unfolding extent_of
  first_part k =
      let o : opens (kind_of (doc_here (drop at t)).main) ≡ true = ap (λ (c : Bool). c || is Unknown (kind_of (doc_here (drop at t)).main)) k in
      let n : e.first.size ≡ length (doc_here (drop at t)).main = ap (λ (x : Extent). x.first.size) ee in
      (omega (arith, n, (doc_fits t at o).0), as_part t at e.first.size ∙ ap (λ (m : ℕ). take m (drop at t)) n ∙ main_here t at o)
