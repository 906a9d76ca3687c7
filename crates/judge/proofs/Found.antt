-- The records of a document that break a rule: the loop over them, and the findings of the paper. Assumes nothing.
use mathlib.Core.Path.{◌≡◌, refl, sym, ap, ◌∙◌, subst}
use mathlib.Core.Bool.{Bool, true, false, cond, ◌&&◌, ◌||◌}
use mathlib.Core.List.{List, [], ◌∷◌, ◌++◌, map, map-append, append-nil}
use Prim.Native.Nat.{ℕ, ◌+◌, ◌≤◌}
use native.Mathlib.Omega.{arith}
use lib.Count.{ones}
use lib.Dec.{eqb}
use lib.ListN.{length, take, drop, length-append, length-map}
use borrow.Author.Tests.{eqb-true}
use Rattle.paper.specs.declared.Broken.{Broken}
use Rattle.paper.specs.declared.Facts.{Facts}
use Rattle.paper.specs.declared.Kind.{Kind}
use Rattle.paper.specs.declared.Kind.TheVariants.{TranA, TranB, Form, Unknown, Payment, Auth, Summary, Recap, Stray}
use Rattle.paper.specs.Bytes.{Bytes, bytes, bit, every, any, those, empty, joined, digits, blanks}
use Rattle.paper.specs.Layouts.{form4868, payment, entry, field}
use Rattle.paper.specs.Walk.{kind_of, is, opens, goes_on}
use Rattle.paper.specs.Conditions.{Sight, View, sight, view, holds, rules_of}
use Rattle.paper.specs.Judge.{Item, Finding, mark, type_at, occurrence_at, finds_in, finds_from}
use Rattle.paper.specs.File.{on_auth as onAuthFound}
use Rattle.paper.proofs.Laws.{never, both, part_take}
use Rattle.paper.proofs.KindLaws.{kind_fits, kind_length}
use Rattle.walk.specs.Parts.{own_in, doc_here, sizes}
use Rattle.walk.specs.Own.{as_record}
use Rattle.walk.proofs.Docs.{own_goes}
use Rattle.walk.proofs.Facts.{others_here, doc_fits}
use Rattle.walk.proofs.Own.{same_others, no_others, next_own, next_kind, next_some}
use Rattle.rules.specs.declared.Before.{Before}
use Rattle.rules.specs.Sets.{others_of, chosen}
use Rattle.rules.proofs.Laws.{chosen_those, bits_none, bits_ones, few_rules, others_are}
use Rattle.judge.specs.Kept.{broke_if, on_auth, total, Held, added}
use Rattle.judge.specs.Judged.{bank_for, item_in, set_in, broke_from, counts}
use Rattle.judge.proofs.Kept.{added_nil, added_append, any_append, total_append}

-- THE RECORDS AFTER THE FIRST

bit_le : (b : Bool) → bit b ≤ 1
bit_le true = omega arith
bit_le false = omega arith

-- at the place to: what is left, added, gives what is to be held in all
module _ (banks : Bytes) (s : Sight) (t : Bytes) (w : Held) where
  pub record Ran (found : Held) (b : Before) (to : ℕ) (left : Bytes) : Type 0 where
    pub fits : to + sizes (own_in left) ≤ length t
    pub pays : b.pays ≤ to
    pub aths : b.aths ≤ to
    pub rows : length found.list ≤ 96
    pub kept : found.kept ≤ 96
    pub same : added found (broke_from s to b.pays b.aths (map (item_in banks) (own_in left))) ≡ w

module _ (banks form payer spouse : Bytes) (whole : Facts) (t : Bytes) (w found : Held) (b : Before) (to : ℕ) (left : Bytes)
    (i : Ran banks (sight form payer spouse [] [] [] [] whole) t w found b to left) where
  abbrev S : Sight
  S = sight form payer spouse [] [] [] [] whole

  pub ran_end : map as_record (own_in left) ≡ [] → found ≡ w
  ran_end e =
      sym (added_nil found i.rows i.kept) ∙ ap (λ (l : List Bytes). added found (broke_from S to b.pays b.aths (map (item_in banks) l))) (sym (no_others (own_in left) e)) ∙ i.same

  -- r is the next record, of kind k
  module _ (k : Kind) (r u : Bytes) (e : map as_record (own_in left) ≡ (k, r) ∷ map as_record (own_in u)) where
    next : own_in left ≡ r ∷ own_in u
    next = next_own left u k r e

    kind : k ≡ kind_of r
    kind = next_kind left u k r e

    goes : goes_on (kind_of r) ≡ true
    goes = (both (goes_on (kind_of r)) (every (λ (x : Bytes). goes_on (kind_of x)) (own_in u)) (ap (every (λ (x : Bytes). goes_on (kind_of x))) (sym next) ∙ own_goes left)).0

    module _ (bank : Bytes) (set : ℕ) (nform : length form ≡ 384) (eb : bank ≡ bank_for banks k r) (es : set ≡ others_of k form r payer spouse bank whole b) where
      set_is : set ≡ set_in (kind_of r) (view S r (bank_for banks (kind_of r) r) b.pays b.aths)
      set_is =
          es ∙ ap (λ (x : Bytes). others_of k form r payer spouse x whole b) eb
          ∙ (λ j. others_of (kind j) form r payer spouse (bank_for banks (kind j) r) whole b)
          ∙ others_are form payer spouse r (bank_for banks (kind_of r) r) [] [] [] [] whole b (kind_of r) goes nform (kind_fits r)

      -- one record on; g is what is held with it
      pub ran_on : (g : Held) (c : Before) → g ≡ added found (broke_if to k set) → length g.list ≤ 96 → g.kept ≤ 96 → c ≡ counts b k → Ran banks S t w g c (to + length r) u
      ran_on g c eg few low ec =
          let rest = map (item_in banks) (own_in u) in
          let cp : c.pays ≡ b.pays + bit (is Payment k) = ap (λ (x : Before). x.pays) ec in
          let ca : c.aths ≡ b.aths + bit (is Auth k) = ap (λ (x : Before). x.aths) ec in
          let some : 1 ≤ length r = next_some left u k r e in
          record {
            fits = omega (arith, i.fits, ap sizes next);
            pays = omega (arith, cp, i.pays, some, bit_le (is Payment k));
            aths = omega (arith, ca, i.aths, some, bit_le (is Auth k));
            rows = few;
            kept = low;
            same =
                (λ j. added (eg j) (broke_from S (to + length r) (cp j) (ca j) rest))
                ∙ added_append found (broke_if to k set) (broke_from S (to + length r) (b.pays + bit (is Payment k)) (b.aths + bit (is Auth k)) rest)
                ∙ (λ j. added found (broke_if to (kind j) (set_is j) ++ broke_from S (to + length r) (b.pays + bit (is Payment (kind j))) (b.aths + bit (is Auth (kind j))) rest))
                ∙ ap (λ (x : List Bytes). added found (broke_from S to b.pays b.aths (map (item_in banks) x))) (sym next)
                ∙ i.same;
          }

-- of a 4868 document: its first record, and where the others start
module _ (t : Bytes) (at : ℕ) (form : Bytes) (k : is Form (kind_of (doc_here (drop at t)).main) ≡ true) (ef : form ≡ (doc_here (drop at t)).main) where
  pub form_size : length form ≡ 384
  form_size = ap length ef ∙ kind_length Form 384 (doc_here (drop at t)).main refl k

  opened : opens (kind_of (doc_here (drop at t)).main) ≡ true
  opened = ap (λ (b : Bool). b || is Unknown (kind_of (doc_here (drop at t)).main)) k

  others : (doc_here (drop at t)).others ≡ own_in (drop (at + length form) t)
  others = others_here t at opened ∙ ap (λ (x : Bytes). own_in (drop (at + length x) t)) (sym ef)

  pub form_fits : at + length form ≤ length t
  form_fits = omega (arith, (doc_fits t at opened).0, ap length ef)

  pub ran_start : (banks payer spouse : Bytes) (whole : Facts) (first : Held) (left : Bytes) → length first.list ≤ 96 → first.kept ≤ 96
      → map as_record (own_in left) ≡ map as_record (own_in (drop (at + length form) t))
      → Ran banks (sight form payer spouse [] [] [] [] whole) t
      (added first (broke_from (sight form payer spouse [] [] [] [] whole) (at + length form) 0 0 (map (item_in banks) (doc_here (drop at t)).others))) first (record { pays = 0; aths = 0 }) (at + length form) left
  ran_start banks payer spouse whole first left few low e =
      let o : own_in left ≡ (doc_here (drop at t)).others = same_others (own_in left) (own_in (drop (at + length form) t)) e ∙ sym others in
      record {
        fits = omega (arith, (doc_fits t at opened).1, ap sizes o, ap length ef);
        pays = omega arith;
        aths = omega arith;
        rows = few;
        kept = low;
        same = ap (λ (x : List Bytes). added first (broke_from (sight form payer spouse [] [] [] [] whole) (at + length form) 0 0 (map (item_in banks) x))) o;
      }

-- only the first record is judged by the lines of the state, the earlier numbers and the date
module _ (form payer spouse : Bytes) (zips : List Bytes) (dsn dcn date : Bytes) (whole : Facts) (own bank : Bytes) (pays aths : ℕ) where
  set_same : (k : Kind) → goes_on k ≡ true → set_in k (view (sight form payer spouse [] [] [] [] whole) own bank pays aths) ≡ set_in k (view (sight form payer spouse zips dsn dcn date whole) own bank pays aths)
  set_same TranA e = refl
  set_same TranB e = refl
  set_same Form e = absurd (never e)
  set_same Unknown e = refl
  set_same Payment e = refl
  set_same Auth e = refl
  set_same Summary e = refl
  set_same Recap e = refl
  set_same Stray e = refl

module _ (banks form payer spouse : Bytes) (zips : List Bytes) (dsn dcn date : Bytes) (whole : Facts) where
  pub others_same : (rs : List Bytes) (place pays aths : ℕ) → every (λ (r : Bytes). goes_on (kind_of r)) rs ≡ true
      → broke_from (sight form payer spouse [] [] [] [] whole) place pays aths (map (item_in banks) rs) ≡ broke_from (sight form payer spouse zips dsn dcn date whole) place pays aths (map (item_in banks) rs)
  others_same [] place pays aths e = refl
  others_same (r ∷ rs) place pays aths e =
      let g = both (goes_on (kind_of r)) (every (λ (x : Bytes). goes_on (kind_of x)) rs) e in
      λ j. broke_if place (kind_of r) (set_same form payer spouse zips dsn dcn date whole r (bank_for banks (kind_of r) r) pays aths (kind_of r) g.0 j)
      ++ others_same rs (place + length r) (pays + bit (is Payment (kind_of r))) (aths + bit (is Auth (kind_of r))) g.1 j

-- THE FINDINGS OF THE PAPER

-- of one record
module _ (place : ℕ) (k : Kind) (v : View) where
  abbrev rules : List ℕ
  rules = those (holds k v) (rules_of k)

  none_same : eqb (set_in k v) 0 ≡ empty rules
  none_same = bits_none (holds k v) (rules_of k) (few_rules k)

  one_total : total (broke_if place k (set_in k v)) ≡ length (finds_in k v)
  unfolding ones
  one_total = by (eqb (set_in k v) 0) refl ∙ bits_ones (holds k v) (rules_of k) (few_rules k) ∙ sym (length-map rules (mark k v.own))
    where
      by : (b : Bool) → eqb (set_in k v) 0 ≡ b → total (cond b [] (record { place = place; kind = k; set = set_in k v } ∷ [])) ≡ ones (set_in k v)
      by true e = ap ones (sym (eqb-true (set_in k v) 0 e))
      by false e = omega arith

  one_auth : any on_auth (broke_if place k (set_in k v)) ≡ any onAuthFound (finds_in k v)
  one_auth = ap (λ (b : Bool). any on_auth (cond b [] (record { place = place; kind = k; set = set_in k v } ∷ []))) none_same ∙ by rules
    where
      by : (l : List ℕ) → any on_auth (cond (empty l) [] (record { place = place; kind = k; set = set_in k v } ∷ [])) ≡ any onAuthFound (map (mark k v.own) l)
      by [] = refl
      by (x ∷ l) = go (is Auth k) refl l
        where
          go : (b : Bool) → is Auth k ≡ b → (m : List ℕ) → (b || false) ≡ (b || any onAuthFound (map (mark k v.own) m))
          go true e m = refl
          go false e [] = refl
          go false e (y ∷ m) = go false e m ∙ ap (λ (c : Bool). c || any onAuthFound (map (mark k v.own) m)) (sym e)

  one_empty : empty (broke_if place k (set_in k v)) ≡ empty (finds_in k v)
  one_empty = ap (λ (b : Bool). empty {A = Broken} (cond b [] (record { place = place; kind = k; set = set_in k v } ∷ []))) none_same ∙ by rules
    where
      by : (l : List ℕ) → empty {A = Broken} (cond (empty l) [] (record { place = place; kind = k; set = set_in k v } ∷ [])) ≡ empty (map (mark k v.own) l)
      by [] = refl
      by (x ∷ l) = refl

empty_append : {A : Type 0} (xs ys : List A) → empty (xs ++ ys) ≡ (empty xs && empty ys)
empty_append [] ys = refl
empty_append (x ∷ xs) ys = refl

module _ (s : Sight) where
  pub total_found : (place pays aths : ℕ) (l : List Item) → total (broke_from s place pays aths l) ≡ length (finds_from s pays aths l)
  total_found place pays aths [] = refl
  total_found place pays aths (i ∷ l) =
      let v = view s i.bytes i.bank pays aths in
      let p = pays + bit (is Payment (kind_of i.bytes)) in
      let a = aths + bit (is Auth (kind_of i.bytes)) in
      omega (
        arith,
        total_append (broke_if place (kind_of i.bytes) (set_in (kind_of i.bytes) v)) (broke_from s (place + length i.bytes) p a l),
        one_total place (kind_of i.bytes) v,
        total_found (place + length i.bytes) p a l,
        length-append (finds_in (kind_of i.bytes) v) (finds_from s p a l),
      )

  pub auth_found : (place pays aths : ℕ) (l : List Item) → any on_auth (broke_from s place pays aths l) ≡ any onAuthFound (finds_from s pays aths l)
  auth_found place pays aths [] = refl
  auth_found place pays aths (i ∷ l) =
      let k = kind_of i.bytes in
      let v = view s i.bytes i.bank pays aths in
      any_append on_auth (broke_if place k (set_in k v)) _
      ∙ (λ j. one_auth place k v j || auth_found (place + length i.bytes) (pays + bit (is Payment k)) (aths + bit (is Auth k)) l j)
      ∙ sym (any_append onAuthFound (finds_in k v) _)

  pub empty_found : (place pays aths : ℕ) (l : List Item) → empty (broke_from s place pays aths l) ≡ empty (finds_from s pays aths l)
  empty_found place pays aths [] = refl
  empty_found place pays aths (i ∷ l) =
      let k = kind_of i.bytes in
      let v = view s i.bytes i.bank pays aths in
      empty_append (broke_if place k (set_in k v)) _
      ∙ (λ j. one_empty place k v j && empty_found (place + length i.bytes) (pays + bit (is Payment k)) (aths + bit (is Auth k)) l j)
      ∙ sym (empty_append (finds_in k v) _)

-- READ IN THE TRANSMISSION

-- what an Error record shows of a record is read in its first 42 bytes
pub shows : (k : Kind) (n : ℕ) (s : Bytes) (rule : ℕ) → 42 ≤ n → mark k s rule ≡ mark k (take n s) rule
unfolding type_at occurrence_at field entry form4868 payment
shows k n s rule h = λ i. record {
  kind = k;
  id = sym (part_take n 8 6 s (omega arith)) i;
  type = cond (is Summary k) (blanks 6) (sym (part_take n 14 6 s (omega arith)) i);
  occurrence = cond ((is Payment k || is Auth k) && digits (sym (part_take n 35 7 s (omega arith)) i)) (sym (part_take n 35 7 s (omega arith)) i) (bytes "0000001");
  rule = rule;
}

-- each record stands in t, from a place on
abbrev pub Standing : Bytes → ℕ → List Bytes → Type 0
Standing t place [] = Unit {0}
Standing t place (r ∷ rs) = (42 ≤ length r) × (r ≡ take (length r) (drop place t)) × Standing t (place + length r) rs

-- the findings of a record that breaks a rule, read in t
abbrev pub found_of : Bytes → Broken → List Finding
found_of t b = map (mark b.kind (drop b.place t)) (chosen b.set (rules_of b.kind))

module _ (t : Bytes) (place : ℕ) (k : Kind) (v : View) (long : 42 ≤ length v.own) (here : v.own ≡ take (length v.own) (drop place t)) where
  marks : (l : List ℕ) → map (mark k (drop place t)) l ≡ map (mark k v.own) l
  marks [] = refl
  marks (x ∷ l) = λ i. (shows k (length v.own) (drop place t) x long ∙ ap (λ (r : Bytes). mark k r x) (sym here)) i ∷ marks l i

  one_read : joined (map (found_of t) (broke_if place k (set_in k v))) ≡ finds_in k v
  one_read =
      ap (λ (b : Bool). joined (map (found_of t) (cond b [] (record { place = place; kind = k; set = set_in k v } ∷ [])))) (none_same place k v)
      ∙ by (rules place k v) refl
    where
      by : (l : List ℕ) → rules place k v ≡ l → joined (map (found_of t) (cond (empty l) [] (record { place = place; kind = k; set = set_in k v } ∷ []))) ≡ map (mark k v.own) l
      by [] e = refl
      by (x ∷ l) e =
          append-nil (map (mark k (drop place t)) (chosen (set_in k v) (rules_of k)))
          ∙ ap (map (mark k (drop place t))) (chosen_those (holds k v) (rules_of k) (few_rules k) ∙ e) ∙ marks (x ∷ l)

joined_append : {A : Type 0} (xs ys : List (List A)) → joined (xs ++ ys) ≡ joined xs ++ joined ys
joined_append [] ys = refl
joined_append (x ∷ xs) ys = ap (λ (l : List _). x ++ l) (joined_append xs ys) ∙ sym (assoc x (joined xs) (joined ys))
  where
    assoc : {B : Type 0} (a b c : List B) → (a ++ b) ++ c ≡ a ++ (b ++ c)
    assoc [] b c = refl
    assoc (y ∷ a) b c = ap (λ (l : List _). y ∷ l) (assoc a b c)

-- the records that break a rule, read in t, give the findings of the paper
pub rows_found : (t : Bytes) (s : Sight) (item : Bytes → Item) → ((r : Bytes) → (item r).bytes ≡ r) → (place pays aths : ℕ) (rs : List Bytes) → Standing t place rs
    → joined (map (found_of t) (broke_from s place pays aths (map item rs))) ≡ finds_from s pays aths (map item rs)
rows_found t s item keeps place pays aths [] w = refl
rows_found t s item keeps place pays aths (r ∷ rs) w =
    let b = (item r).bytes in
    let k = kind_of b in
    let v = view s b (item r).bank pays aths in
    let long : 42 ≤ length b = omega (arith, w.0, ap length (keeps r)) in
    let here : b ≡ take (length b) (drop place t) = keeps r ∙ w.1 ∙ ap (λ (x : Bytes). take (length x) (drop place t)) (sym (keeps r)) in
    let p = pays + bit (is Payment k) in
    let a = aths + bit (is Auth k) in
    let next = broke_from s (place + length b) p a (map item rs) in
    ap joined (map-append (found_of t) (broke_if place k (set_in k v)) next) ∙ joined_append (map (found_of t) (broke_if place k (set_in k v))) (map (found_of t) next)
    ∙ (λ i. one_read t place k v long here i ++ rows_found t s item keeps (place + length b) p a rs (subst (λ (x : Bytes). Standing t (place + length x) rs) (sym (keeps r)) w.2) i)
