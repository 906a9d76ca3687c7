-- One document on. Assumes nothing.
use mathlib.Core.Path.{◌≡◌, refl, sym, ap, ◌∙◌, subst}
use mathlib.Core.Bool.{Bool, true, false, cond}
use mathlib.Core.List.{List, [], ◌∷◌, map}
use Prim.Native.Nat.{ℕ, ◌+◌, ◌-◌, ◌*◌, ◌≤◌, ◌<◌, min}
use native.Mathlib.Omega.{arith}
use lib.ListN.{length, take, drop, length-take}
use Rattle.paper.specs.declared.Broken.{Broken}
use Rattle.paper.specs.declared.Facts.{Facts}
use Rattle.paper.specs.declared.Findings.{Findings}
use Rattle.paper.specs.declared.Judgment.{Judgment}
use Rattle.paper.specs.declared.Kind.{Kind}
use Rattle.paper.specs.declared.Kind.TheVariants.{TranA, TranB, Form, Unknown, Payment, Auth, Summary, Recap, Stray}
use Rattle.paper.specs.declared.Layout.TheVariants.{L4868, LPayment}
use Rattle.paper.specs.declared.Letter.{Letter}
use Rattle.paper.specs.Bytes.{Bytes, any, joined, digits, first_or}
use Rattle.paper.specs.Layouts.{entry, field}
use Rattle.paper.specs.Pack.{Lines, banks}
use Rattle.paper.specs.Walk.{records, Doc, docs_of, kind_of, is, opens}
use Rattle.paper.specs.Judge.{Before, Finding, Item, Turn, turns, asked, after, after_known, seen, attached, if_known, item_of, known, sight_of, finds_from, findings, letter_of, births_of, is_a}
use Rattle.paper.specs.File.{on_auth, set_by, or_zeros, set_of}
use Rattle.paper.proofs.Laws.{never, part_take}
use Rattle.paper.proofs.KindLaws.{kind_length}
use Rattle.layout.proofs.Laws.{entry_low}
use Rattle.paper.proofs.Room.{length-set_of}
use Rattle.words.specs.Past.{number_if, identity_of, no_identity}
use Rattle.walk.specs.declared.Extent.{Extent}
use Rattle.walk.specs.Parts.{doc_here, extent_of, Passed}
use Rattle.walk.proofs.Docs.{passed}
use Rattle.walk.proofs.Facts.{main_here}
use Rattle.judge.specs.declared.Past.{Past}
use Rattle.judge.specs.Judged.{broke_from, broke_in, judgment_of}
use Rattle.judge.specs.Seen.{seen_by, next_past, next_row, past_after, row_after}
use Rattle.judge.specs.Kept.{total, listed, counted}
use Rattle.judge.proofs.Seen.{form_wide, leaves, next_few}
use Rattle.judge.proofs.Found.{Standing, found_of, total_found, auth_found, rows_found}
use Rattle.judge.proofs.Ties.{accepted_long, accepted_digits}
use Rattle.sets.specs.Set.{found_from, set_as}
use Rattle.sets.proofs.Laws.{set_said}
use Rattle.ack.proofs.Back.{Full, doc_stands, all_full, rows_back}
use Rattle.ack.specs.Ties.{here, ahead, Going}

-- THE OPENING RECORD'S FIELDS, read in the bytes that it starts

field_take : (n k : ℕ) (s : Bytes) → 384 ≤ n → field L4868 k (take n s) ≡ field L4868 k s
unfolding field
field_take n k s h = part_take n (entry L4868 k).start (entry L4868 k).width s (omega (arith, entry_low L4868 k))

-- of an unknown form they are not shown
set_main : (main main' : Bytes) (b : Bool) (date : Bytes) (l : Letter) (f : Facts) (found : List Finding) (ath : Bool) (births : ℕ)
    → (b ≡ true → (k : ℕ) → field L4868 k main ≡ field L4868 k main') → set_by main b date l f found ath births ≡ set_by main' b date l f found ath births
unfolding set_by or_zeros
set_main main main' true date l f found ath births e = rw (e refl 90, e refl 7, e refl 8)
set_main main main' false date l f found ath births e = refl

identity_main : (main main' : Bytes) → ((k : ℕ) → field L4868 k main ≡ field L4868 k main') → identity_of main ≡ identity_of main'
unfolding identity_of
identity_main main main' e = λ i. record { ssn = number_if (e 90 i); dsn = number_if (e 7 i); dcn = number_if (e 8 i) }

-- an opening record is no payment
unpaid : (k : Kind) → opens k ≡ true → is Payment k ≡ false
unpaid TranA o = refl
unpaid TranB o = refl
unpaid Form o = refl
unpaid Unknown o = refl
unpaid Payment o = absurd (never o)
unpaid Auth o = refl
unpaid Summary o = refl
unpaid Recap o = refl
unpaid Stray o = refl

-- ONE DOCUMENT ON: j is what is said of the one at a place
module _ (L : Lines) (date t : Bytes) (at : ℕ) (p : Past) (row : List ℕ) (g : Going t at p row) (more : 0 < length (docs_of (records (drop at t))))
    (j : Judgment) (ej : j ≡ judgment_of at (here L date t at p row)) where
  abbrev T : Turn
  T = here L date t at p row

  abbrev s : Bytes
  s = drop at t

  abbrev d : Doc
  d = doc_here s

  abbrev size : ℕ
  size = j.size

  abbrev doc : Extent
  doc = extent_of s

  sized : doc.size ≡ size
  unfolding judgment_of extent_of
  sized = sym (ap (λ (x : Judgment). x.size) ej)

  pub said : j.letter ≡ letter_of T
  unfolding judgment_of
  said = ap (λ (x : Judgment). x.letter) ej

  pub moved : Passed t at size
  moved = subst (Passed t at) sized (passed t at doc refl g.stands more)

  -- THE FINDINGS

  abbrev item : Bytes → Item
  item = item_of (if_known (known d) L)

  items_are : T.subject.items ≡ map item (d.main ∷ attached d)
  items_are =
      let line = first_or (if_known (known d) L banks (field LPayment 30 d.main)) in
      ap (λ (b : Bool). record { bytes = d.main; bank = cond b line [] } ∷ map item (attached d)) (sym (unpaid (kind_of d.main) moved.opened))

  stand : Standing t at (d.main ∷ attached d)
  stand = by (known d) (doc_stands t at moved.opened moved.long)
    where
      by : (b : Bool) → Standing t at (d.main ∷ d.others) → Standing t at (d.main ∷ cond b d.others [])
      by true w = w
      by false w = (w.0, w.1, tt)

  found_is : joined (map (found_of t) (broke_in at T)) ≡ findings T
  unfolding broke_in findings
  found_is =
      (λ i. joined (map (found_of t) (broke_from (sight_of T) at 0 0 (items_are i))))
      ∙ rows_found t (sight_of T) item (λ x. refl) at 0 0 (d.main ∷ attached d) stand
      ∙ (λ i. finds_from (sight_of T) 0 0 (sym items_are i))

  count_is : total (broke_in at T) ≡ length (findings T)
  unfolding broke_in findings
  count_is = total_found (sight_of T) at 0 0 T.subject.items

  counts : j.found ≡ counted (broke_in at T)
  unfolding judgment_of
  counts = ap (λ (x : Judgment). x.found) ej

  kept_is : j.found.kept ≡ length (take 96 (findings T))
  unfolding counted
  kept_is = ap (λ (f : Findings). f.kept) counts ∙ ap (min 96) count_is ∙ sym (length-take 96 (findings T))

  ath_is : j.found.ath ≡ any on_auth (findings T)
  unfolding counted broke_in findings
  ath_is = ap (λ (f : Findings). f.ath) counts ∙ auth_found (sight_of T) at 0 0 T.subject.items

  pub kept_few : j.found.kept ≤ 96
  kept_few = omega (arith, kept_is, length-take 96 (findings T))

  -- THE RECORD SET

  known_is : j.known ≡ known d
  unfolding judgment_of
  known_is = ap (λ (x : Judgment). x.known) ej

  facts_are : j.facts ≡ (sight_of T).whole
  unfolding judgment_of
  facts_are = ap (λ (x : Judgment). x.facts) ej

  births_are : j.births ≡ births_of T
  unfolding judgment_of
  births_are = ap (λ (x : Judgment). x.births) ej

  form_size : known d ≡ true → length d.main ≡ 384
  form_size h = kind_length Form 384 d.main refl h

  own : j.identity ≡ cond (known d) (identity_of d.main) no_identity
  unfolding judgment_of
  own = ap (λ (x : Judgment). x.identity) ej

  same_fields : j.known ≡ true → (k : ℕ) → field L4868 k (take (at + size - at) s) ≡ field L4868 k d.main
  unfolding extent_of
  same_fields h k =
      let n : length d.main ≡ 384 = form_size (sym known_is ∙ h) in
      let long : 384 ≤ at + size - at = omega (arith, sized) in
      field_take (at + size - at) k s long ∙ sym (field_take 384 k s (omega arith)) ∙ ap (λ (m : ℕ). field L4868 k (take m s)) (sym n) ∙ ap (field L4868 k) (main_here t at moved.opened)

  -- the numbers are those of the bytes that it starts
  own_here : j.identity ≡ cond j.known (identity_of (take (at + size - at) s)) no_identity
  own_here = own ∙ ap (λ (b : Bool). cond b (identity_of d.main) no_identity) (sym known_is) ∙ by j.known same_fields
    where
      by : (b : Bool) → (b ≡ true → (k : ℕ) → field L4868 k (take (at + size - at) s) ≡ field L4868 k d.main) → cond b (identity_of d.main) no_identity ≡ cond b (identity_of (take (at + size - at) s)) no_identity
      by true e = sym (identity_main (take (at + size - at) s) d.main (e refl))
      by false e = refl

  full : Full t (broke_in at T)
  unfolding broke_in
  full = all_full t (sight_of T) at 0 0 T.subject.items

  -- of the list, as the call left it
  pub set_here : (x : List Broken) → x ≡ listed (broke_in at T) → set_as (take (at + size - at) s) t date j x ≡ set_of T
  unfolding set_of
  set_here x e =
      let found : take (min 96 j.found.kept) (found_from t x) ≡ take 96 (findings T) =
      rows_back t (broke_in at T) (findings T) x j.found e counts full found_is count_is in
      let few : length (take 96 (findings T)) ≡ min 96 j.found.kept = omega (arith, kept_is, length-take 96 (findings T)) in
      set_said (take (at + size - at) s) t date j x (take 96 (findings T)) own_here found few
      ∙ set_main (take (at + size - at) s) d.main j.known date j.letter j.facts (take 96 (findings T)) j.found.ath j.births same_fields
      ∙ (λ i. set_by d.main (known_is i) date (said i) (facts_are i) (take 96 (findings T)) (ath_is i) (births_are i))

  pub set_size : length (set_of T) ≡ 120 + 120 * j.found.kept
  set_size = omega (arith, length-set_of T, kept_is, length-take 96 (findings T))

  -- WHAT IT LEAVES

  digits_90 : is_a (letter_of T) ≡ true → digits (field L4868 90 d.main) ≡ true
  digits_90 h = accepted_digits date (seen_by p row) L s moved.opened h

  room : p.n < length row
  room = omega (arith, g.space, g.short, g.whole, moved.stands.within, moved.some)

  left : seen_by (past_after T p row) (row_after T p row) ≡ after T
  left = by (known d) refl
    where
      by : (b : Bool) → known d ≡ b
          → seen_by (cond b (next_past (identity_of d.main) (letter_of T) p row) p) (cond b (next_row (identity_of d.main) (letter_of T) p row) row) ≡ cond b (after_known (seen d) (is_a (letter_of T)) (seen_by p row)) (seen_by p row)
      by true e = let w = form_wide d.main (form_size e) in leaves d.main (letter_of T) p row room w.0 w.1 w.2 digits_90
      by false e = refl

  few : ((past_after T p row).n ≤ p.n + cond (is_a (letter_of T)) 1 0) × (length (row_after T p row) ≡ length row)
  few = by (known d)
    where
      by : (b : Bool) → ((cond b (next_past (identity_of d.main) (letter_of T) p row) p).n ≤ p.n + cond (is_a (letter_of T)) 1 0) × (length (cond b (next_row (identity_of d.main) (letter_of T) p row) row) ≡ length row)
      by true = next_few (identity_of d.main) (letter_of T) p row
      by false = (omega arith, refl)

  -- next is what it leaves, and row' the row after it
  module _ (next : Past) (row' : List ℕ) (en : next ≡ past_after T p row) (er : row' ≡ row_after T p row) where
    spaced : (b : Bool) → is_a (letter_of T) ≡ b → next.n ≤ p.n + cond b 1 0 → next.n * 86 ≤ at + size
    spaced true e f = omega (arith, g.space, sized, accepted_long date (seen_by p row) L s doc moved.opened e refl)
    spaced false e f = omega (arith, g.space)

    pub going_on : Going t (at + size) next row'
    going_on = record {
      short = g.short;
      stands = moved.stands;
      space = spaced (is_a (letter_of T)) refl (subst (λ (x : Past). x.n ≤ p.n + cond (is_a (letter_of T)) 1 0) (sym en) few.0);
      whole = ap length er ∙ few.1 ∙ g.whole;
    }

    pub turn_here : ahead L date t at p row ≡ T ∷ ahead L date t (at + size) next row'
    unfolding ahead
    turn_here =
        ap (λ (ds : List Doc). turns date (seen_by p row) (map (asked L) ds)) moved.docs
        ∙ ap (λ (b : Before). T ∷ turns date b (map (asked L) (docs_of (records (drop (at + size) t))))) (sym left ∙ (λ i. seen_by (sym en i) (sym er i)))
