-- What the layer above asks of an accepted document, and of the pack. Assumes nothing.
use mathlib.Core.Path.{◌≡◌, refl, sym, ap, ◌∙◌}
use mathlib.Core.Bool.{Bool, true, false, not, cond}
use mathlib.Core.List.{List, [], ◌∷◌, ◌++◌, map}
use Prim.Native.Nat.{ℕ, zero, suc, ◌≤◌, ◌<◌}
use native.Mathlib.Omega.{arith}
use lib.Dec.{lit<}
use lib.ListN.{length, get_or}
use Rattle.paper.specs.declared.Kind.{Kind}
use Rattle.paper.specs.declared.Kind.TheVariants.{TranA, TranB, Form, Unknown, Payment, Auth, Summary, Recap, Stray}
use Rattle.paper.specs.declared.Layout.TheVariants.{L4868, LPayment}
use Rattle.paper.specs.Bytes.{Bytes, digits, those, empty, first_or}
use Rattle.paper.specs.Layouts.{field}
use Rattle.paper.specs.Pack.{Lines, Blocks, well_formed, blocks_of, lines_of}
use Rattle.paper.specs.Walk.{Doc, kind_of, is, opens}
use Rattle.paper.specs.Conditions.{View, view, pick, form0010, form_holds, form_rules, holds, rules_of, facts_of}
use Rattle.paper.specs.Judge.{Before, Finding, Turn, known, ssn_of, spouse_of, state_of, item_of, asked, mark, finds_in, findings, letter_by, twice, letter_of, is_a, sight_of, turn}
use Rattle.paper.proofs.Laws.{never}
use Rattle.walk.specs.declared.Extent.{Extent}
use Rattle.walk.specs.Parts.{doc_here, doc_records, extent_of}
use Rattle.walk.proofs.Docs.{long_doc}
use Rattle.lookup.specs.Find.{sought}
use Rattle.lookup.proofs.Laws.{taxpayer_sought, bank_sought, filed_sought, states_sought, sought_lines}
use Rattle.judge.specs.Judged.{searched}
use Rattle.judge.proofs.Whole.{case_if, searched_taxpayer, searched_bank, searched_filed, searched_states}

-- AN ACCEPTED DOCUMENT

-- it has no finding
clean : (t : Turn) → is_a (letter_of t) ≡ true → findings t ≡ []
unfolding letter_of
clean t h = by (findings t) h
  where
    by : (l : List Finding) → is_a (letter_by (empty l) (twice t)) ≡ true → l ≡ []
    by [] e = refl
    by (x ∷ l) e = absurd (never e)

some_none : {A : Type 0} (x : A) (l : List A) → x ∷ l ≡ [] → ⊥
some_none x l e = let z : suc (length l) ≡ 0 = ap length e in omega arith

first_none : {A : Type 0} (xs ys : List A) → xs ++ ys ≡ [] → xs ≡ []
first_none [] ys e = refl
first_none (x ∷ xs) ys e = absurd (some_none x (xs ++ ys) e)

map-none : (f : ℕ → Finding) (l : List ℕ) → map f l ≡ [] → l ≡ []
map-none f [] e = refl
map-none f (x ∷ l) e = absurd (some_none (f x) (map f l) e)

-- none of the rules holds
none_holds : (p : ℕ → Bool) (l : List ℕ) (i : ℕ) → i < length l → those p l ≡ [] → p (get_or l i 0) ≡ false
none_holds p [] i h e = absurd (omega arith)
none_holds p (x ∷ l) i h e = by (none_holds p l) (p x) refl e i h
  where
    by : ((i : ℕ) → i < length l → those p l ≡ [] → p (get_or l i 0) ≡ false) → (b : Bool) → p x ≡ b → cond b (x ∷ those p l) (those p l) ≡ [] → (i : ℕ) → i < suc (length l)
        → p (get_or (x ∷ l) i 0) ≡ false
    by ih true q e i h = absurd (some_none x (those p l) e)
    by ih false q e zero h = q
    by ih false q e (suc i) h = ih i (omega arith) e

not_no : (b : Bool) → not b ≡ false → b ≡ true
not_no true e = refl
not_no false e = absurd (never (sym e))

-- a form without a finding has a summary and a primary number; an unknown form has a finding
clean_first : (k : Kind) (v : View) → opens k ≡ true → finds_in k v ≡ [] → (is Form k ≡ true) × (v.sight.whole.sum ≡ true) × (digits (field L4868 90 v.sight.form) ≡ true)
unfolding form_rules form_holds form0010 pick
clean_first TranA v o e = absurd (never o)
clean_first TranB v o e = absurd (never o)
clean_first Form v o e =
    let none : those (holds Form v) (rules_of Form) ≡ [] = map-none (mark Form v.own) (those (holds Form v) (rules_of Form)) e in
    (refl, not_no v.sight.whole.sum (none_holds (holds Form v) (rules_of Form) 0 (lit< tt) none), not_no (digits (field L4868 90 v.sight.form)) (none_holds (holds Form v) (rules_of Form) 25 (lit< tt) none))
clean_first Unknown v o e = absurd (some_none (mark Unknown v.own 44) [] e)
clean_first Payment v o e = absurd (never o)
clean_first Auth v o e = absurd (never o)
clean_first Summary v o e = absurd (never o)
clean_first Recap v o e = absurd (never o)
clean_first Stray v o e = absurd (never o)

module _ (date : Bytes) (b : Before) (L : Lines) (s : Bytes) (o : opens (kind_of (doc_here s).main) ≡ true) (h : is_a (letter_of (turn date b (asked L (doc_here s)))) ≡ true) where
  abbrev T : Turn
  T = turn date b (asked L (doc_here s))

  first : (is Form (kind_of (doc_here s).main) ≡ true) × ((facts_of (doc_records s)).sum ≡ true) × (digits (field L4868 90 (doc_here s).main) ≡ true)
  unfolding findings
  first =
      let k = kind_of (doc_here s).main in
      let v = view (sight_of T) (doc_here s).main [] 0 0 in
      clean_first k v o (first_none (finds_in k v) _ (clean T h))

-- so there is room for the numbers of all that are accepted
pub accepted_long : (date : Bytes) (b : Before) (L : Lines) (s : Bytes) (e : Extent) → opens (kind_of (doc_here s).main) ≡ true
    → is_a (letter_of (turn date b (asked L (doc_here s)))) ≡ true → e ≡ extent_of s → 86 ≤ e.size
unfolding extent_of
accepted_long date b L s e o h q = let c = first date b L s o h in long_doc s e q c.0 (ap (λ (x : Extent). x.facts.sum) q ∙ c.1)

pub accepted_digits : (date : Bytes) (b : Before) (L : Lines) (s : Bytes) → opens (kind_of (doc_here s).main) ≡ true
    → is_a (letter_of (turn date b (asked L (doc_here s)))) ≡ true → digits (field L4868 90 (doc_here s).main) ≡ true
accepted_digits date b L s o h = (first date b L s o h).2

-- THE PACK

-- what the searches find is what the paper asks for, on the blocks of any pack, and by `sought_lines` of a well-formed one
module _ (b : Blocks) where
  abbrev S : Lines
  S = searched b

  payer_same : (key : Bytes) → first_or (S 1 key) ≡ first_or (sought b 1 key)
  payer_same key = searched_taxpayer b key ∙ taxpayer_sought b key

  bank_same : (key : Bytes) → first_or (S 2 key) ≡ first_or (sought b 2 key)
  bank_same key = searched_bank b key ∙ bank_sought b key

  done_same : (key : Bytes) → first_or (S 3 key) ≡ first_or (sought b 3 key)
  done_same key = searched_filed b key ∙ filed_sought b key

  zips_same : (key : Bytes) → S 4 key ≡ sought b 4 key
  zips_same key = searched_states b key ∙ states_sought b key

  items_same : (rs : List Bytes) → map (item_of S) rs ≡ map (item_of (sought b)) rs
  items_same [] = refl
  items_same (r ∷ rs) = λ i. record { bytes = r; bank = cond (is Payment (kind_of r)) (bank_same (field LPayment 30 r) i) [] } ∷ items_same rs i

  case_same : (k : Bool) (d : Doc) → case_if k S d ≡ case_if k (sought b) d
  case_same true d = λ i. record {
    doc = d;
    payer = payer_same (ssn_of d) i;
    spouse = payer_same (spouse_of d) i;
    done = done_same (ssn_of d) i;
    zips = zips_same (state_of d) i;
    items = record { bytes = d.main; bank = [] } ∷ items_same d.others i;
  }
  case_same false d = refl

  pub asked_sought : (d : Doc) → asked (searched b) d ≡ asked (sought b) d
  asked_sought d = case_same (known d) d

pub asked_pack : (s : Bytes) → well_formed s ≡ true → (d : Doc) → asked (searched (blocks_of s)) d ≡ asked (lines_of (blocks_of s)) d
asked_pack s h d = asked_sought (blocks_of s) d ∙ ap (λ (L : Lines). asked L d) (sought_lines s h)
