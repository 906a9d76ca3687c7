-- The birth dates of a pack change field 0117 of the Keys and nothing else. Assumes nothing.
use Prim.Native.Nat.{ℕ, zero, suc, ◌+◌, ◌≤◌}
use mathlib.Core.Bool.{Bool, true, false, not, cond}
use mathlib.Core.List.{List, [], ◌∷◌, ◌++◌, map, append_assoc}
use mathlib.Core.Path.{◌≡◌, refl, sym, ap, ◌∙◌}
use native.Mathlib.Omega.{arith}
use lib.Dec.{T, lit≤}
use lib.ListN.{length, take, drop, set, length-append, length-map}
use lib.Seq.{sets, set-set, set_comm, take-set-le, drop-set-lt, take_at, drop_at}
use Rattle.paper.specs.declared.Facts.{Facts}
use Rattle.paper.specs.declared.Kind.{Kind}
use Rattle.paper.specs.declared.Kind.TheVariants.{TranA, TranB, Form, Unknown, Payment, Auth, Summary, Recap, Stray}
use Rattle.paper.specs.declared.Layout.TheVariants.{LPayment, LKey}
use Rattle.paper.specs.declared.Letter.{Letter}
use Rattle.paper.specs.declared.Verdict.{Verdict}
use Rattle.paper.specs.Bytes.{Bytes, bytes, bit, any, those, empty, same, part, joined, first_or, zeros, blanks, laid}
use Rattle.paper.specs.Layouts.{ack_key, entry, field}
use Rattle.paper.specs.Pack.{Lines, keyed, lines_of, lines_in, block, blocks_of, width_of, taxpayers, banks, filed, states, sent_before}
use Rattle.paper.specs.Walk.{Doc, Parsed, is, kind_of, records, sound, parsed_of, parsed_if, parse, twelve, twelve_again}
use Rattle.paper.specs.Conditions.{Sight, sight, view, control_in, income_in, of_kind, unlisted, wrong_income, form_holds, auth_holds, holds, rules_of}
use Rattle.paper.specs.Judge.{Before, Case, Item, Turn, Finding, known, attached, ssn_of, spouse_of, state_of, item_of, case_of, if_known, asked, start, seen, passed, after, turn, turns, sight_of, mark, finds_from, findings, twice, letter_by, letter_of, births_of, is_a}
use Rattle.paper.specs.File.{record_of, key_record, errors_from, error_of, on_auth, set_by, set_of, recap_record, Outcome, rejected, judged, outcome_by, turns_of, outcome_of, outcome, accepted_in, file_from, file_of}
use Rattle.paper.specs.Answer.{prescribed, refusal_of, answer}
use Rattle.paper.specs.Notice.{without_birth, ButBirths, letters_of, SameLetters, quiet_key, quiet_first, quiet, OnlyNotices, NoticeAnswer}
use Rattle.paper.proofs.Laws.{never, part_take}
use Rattle.paper.proofs.Widths.{ssn_wide, spouse_wide, first_trana, second_tranb}
use Rattle.paper.proofs.RecordSizes.{length-key, length_error}
use Rattle.paper.proofs.Outcomes.{sound_ended, outcome_cases}

-- A LINE WITHOUT ITS BIRTH DATE

take-sets : (n : ℕ) (l : Bytes) (at : ℕ) (t : Bytes) → n ≤ at → take n (sets l at t) ≡ take n l
take-sets n l at [] h = refl
take-sets n l at (x ∷ t) h = take-sets n (set l at x) (suc at) t (omega arith) ∙ take-set-le n l at x h

drop-sets : (n : ℕ) (l : Bytes) (at : ℕ) (t : Bytes) → at + length t ≤ n → drop n (sets l at t) ≡ drop n l
drop-sets n l at [] h = refl
drop-sets n l at (x ∷ t) h = drop-sets n (set l at x) (suc at) t (omega arith) ∙ drop-set-lt n l at x (omega arith)

control_stays : (l : Bytes) → control_in (without_birth l) ≡ control_in l
unfolding laid
control_stays l = sym (part_take 13 9 4 (sets l 13 (zeros 8)) (lit≤ tt)) ∙ ap (part 9 4) (take-sets 13 l 13 (zeros 8) (lit≤ tt)) ∙ part_take 13 9 4 l (lit≤ tt)

income_stays : (l : Bytes) → income_in (without_birth l) ≡ income_in l
unfolding laid
income_stays l = ap (take 12) (drop-sets 21 l 13 (zeros 8) (lit≤ tt))

key_stays : (key l : Bytes) → length key ≡ 9 → keyed key (without_birth l) ≡ keyed key l
unfolding laid
key_stays key l e = ap (λ (x : Bytes). same x key) (take-sets (length key) l 13 (zeros 8) (omega arith))

-- no rule looks at a birth date
module _ (form payer spouse : Bytes) (zips : List Bytes) (dsn dcn date : Bytes) (whole : Facts) where
  abbrev S : Sight
  S = sight form payer spouse zips dsn dcn date whole

  abbrev Q : Sight
  Q = sight form (without_birth payer) (without_birth spouse) zips dsn dcn date whole

  form_blind : (n code : ℕ) → form_holds n code Q ≡ form_holds n code S
  unfolding form_holds unlisted
  form_blind n code = rw (control_stays payer, control_stays spouse)

  auth_blind : (n code : ℕ) (own : Bytes) (before : ℕ)
      → auth_holds n code form own (without_birth payer) (without_birth spouse) whole before ≡ auth_holds n code form own payer spouse whole before
  unfolding auth_holds wrong_income
  auth_blind n code own before = rw (income_stays payer, income_stays spouse)

  holds_blind : (k : Kind) (own bank : Bytes) (pays aths rule : ℕ) → holds k (view Q own bank pays aths) rule ≡ holds k (view S own bank pays aths) rule
  holds_blind TranA own bank pays aths rule = refl
  holds_blind TranB own bank pays aths rule = refl
  holds_blind Form own bank pays aths rule = form_blind _ _
  holds_blind Unknown own bank pays aths rule = refl
  holds_blind Payment own bank pays aths rule = refl
  holds_blind Auth own bank pays aths rule = auth_blind _ _ own aths
  holds_blind Summary own bank pays aths rule = refl
  holds_blind Recap own bank pays aths rule = refl
  holds_blind Stray own bank pays aths rule = refl

  those_blind : (k : Kind) (own bank : Bytes) (pays aths : ℕ) (rules : List ℕ) → those (holds k (view Q own bank pays aths)) rules ≡ those (holds k (view S own bank pays aths)) rules
  those_blind k own bank pays aths [] = refl
  those_blind k own bank pays aths (r ∷ rs) =
      λ i. cond (holds_blind k own bank pays aths r i) (r ∷ those_blind k own bank pays aths rs i) (those_blind k own bank pays aths rs i)

  finds_blind : (pays aths : ℕ) (is : List Item) → finds_from Q pays aths is ≡ finds_from S pays aths is
  finds_blind pays aths [] = refl
  finds_blind pays aths (x ∷ xs) =
      λ i. map (mark (kind_of x.bytes) x.bytes) (those_blind (kind_of x.bytes) x.bytes x.bank pays aths (rules_of (kind_of x.bytes)) i)
      ++ finds_blind (pays + bit (of_kind Payment x.bytes)) (aths + bit (of_kind Auth x.bytes)) xs i

-- A DOCUMENT IN ITS TURN, WITHOUT BIRTH DATES

abbrev quiet_case : Case → Case
quiet_case c = record { doc = c.doc; payer = without_birth c.payer; spouse = without_birth c.spouse; done = c.done; zips = c.zips; items = c.items }

abbrev quiet_turn : Turn → Turn
quiet_turn t = turn t.date t.past (quiet_case t.subject)

findings_stay : (t : Turn) → findings (quiet_turn t) ≡ findings t
unfolding findings
findings_stay t = finds_blind _ _ _ _ _ _ _ _ 0 0 t.subject.items

letter_stays : (t : Turn) → letter_of (quiet_turn t) ≡ letter_of t
unfolding letter_of twice
letter_stays t = ap (λ (fs : List Finding). letter_by (empty fs) (twice t)) (findings_stay t)

letters_stay : (ts : List Turn) → map letter_of (map quiet_turn ts) ≡ map letter_of ts
letters_stay [] = refl
letters_stay (t ∷ ts) = λ i. letter_stays t i ∷ letters_stay ts i

after_stays : (t : Turn) → after (quiet_turn t) ≡ after t
after_stays t = ap (λ (l : Letter). passed (seen t.subject.doc) (is_a l) t.past) (letter_stays t)

turns_stay : (date : Bytes) (b : Before) (cs : List Case) → map quiet_turn (turns date b cs) ≡ turns date b (map quiet_case cs)
turns_stay date b [] = refl
turns_stay date b (c ∷ cs) =
    ap (λ (ts : List Turn). turn date b (quiet_case c) ∷ ts)
    (turns_stay date (after (turn date b c)) cs ∙ ap (λ (x : Before). turns date x (map quiet_case cs)) (sym (after_stays (turn date b c))))

-- TWO PACKS THAT DIFFER ONLY IN BIRTH DATES

those_map : (p : Bytes → Bool) (f : Bytes → Bytes) → ((l : Bytes) → p (f l) ≡ p l) → (ls : List Bytes) → those p (map f ls) ≡ map f (those p ls)
those_map p f h [] = refl
those_map p f h (l ∷ ls) = by (p (f l)) (p l) (h l) (those_map p f h ls)
  where
    by : (b c : Bool) → b ≡ c → those p (map f ls) ≡ map f (those p ls) → cond b (f l ∷ those p (map f ls)) (those p (map f ls)) ≡ map f (cond c (l ∷ those p ls) (those p ls))
    by true true e ih = ap (λ (xs : List Bytes). f l ∷ xs) ih
    by true false e ih = absurd (never (sym e))
    by false true e ih = absurd (never e)
    by false false e ih = ih

first_quiet : (ls : List Bytes) → first_or (map without_birth ls) ≡ without_birth (first_or ls)
unfolding laid
first_quiet [] = refl
first_quiet (l ∷ ls) = refl

module _ (p q : Bytes) (h : ButBirths p q) where
  abbrev L : Lines
  L = lines_of (blocks_of p)

  abbrev M : Lines
  M = lines_of (blocks_of q)

  lines_same : (k : ℕ) → 2 ≤ k → k ≤ 5 → (key : Bytes) → L k key ≡ M k key
  unfolding lines_of
  lines_same k low high key = ap (λ (b : Bytes). those (keyed key) (lines_in (width_of k) b)) (h.others k low high)

  line_quiet : (key : Bytes) → length key ≡ 9 → without_birth (first_or (L taxpayers key)) ≡ without_birth (first_or (M taxpayers key))
  unfolding lines_of
  line_quiet key e =
      let ls = lines_in (width_of taxpayers) (block (blocks_of p) taxpayers) in
      let ms = lines_in (width_of taxpayers) (block (blocks_of q) taxpayers) in
      let stays : (l : Bytes) → keyed key (without_birth l) ≡ keyed key l = λ l. key_stays key l e in
      sym (first_quiet (those (keyed key) ls))
      ∙ ap first_or (sym (those_map (keyed key) without_birth stays ls) ∙ ap (those (keyed key)) h.lines ∙ those_map (keyed key) without_birth stays ms)
      ∙ first_quiet (those (keyed key) ms)

  items_same : (rs : List Bytes) → map (item_of L) rs ≡ map (item_of M) rs
  items_same [] = refl
  items_same (r ∷ rs) =
      λ i. record { bytes = r; bank = cond (is Payment (kind_of r)) (first_or (lines_same banks (lit≤ tt) (lit≤ tt) (field LPayment 30 r) i)) [] } ∷ items_same rs i

  case_quiet : (b : Bool) (d : Doc) → known d ≡ b → quiet_case (case_of (if_known b L) d) ≡ quiet_case (case_of (if_known b M) d)
  case_quiet true d e = λ i. record {
    doc = d;
    payer = line_quiet (ssn_of d) (ssn_wide d.main e) i;
    spouse = line_quiet (spouse_of d) (spouse_wide d.main e) i;
    done = first_or (lines_same filed (lit≤ tt) (lit≤ tt) (ssn_of d) i);
    zips = lines_same states (lit≤ tt) (lit≤ tt) (state_of d) i;
    items = record { bytes = d.main; bank = [] } ∷ items_same (attached d) i;
  }
  case_quiet false d e = refl

  cases_quiet : (ds : List Doc) → map quiet_case (map (asked L) ds) ≡ map quiet_case (map (asked M) ds)
  cases_quiet [] = refl
  cases_quiet (d ∷ ds) = λ i. case_quiet (known d) d refl i ∷ cases_quiet ds i

  turns_quiet : (date : Bytes) (z : Parsed) → map quiet_turn (turns_of L date z) ≡ map quiet_turn (turns_of M date z)
  turns_quiet date z = turns_stay date start (map (asked L) z.docs) ∙ ap (turns date start) (cases_quiet z.docs) ∙ sym (turns_stay date start (map (asked M) z.docs))

-- TWO FILES THAT DIFFER ONLY IN FIELD 0117

record ButNotices (s s' : Bytes) : Type 0 where
  long : length s ≡ length s'
  same : (n : ℕ) → length s ≤ n → quiet_first n s ≡ quiet_first n s'

itself : (s : Bytes) → ButNotices s s
itself s = record { long = refl; same = λ n h. refl }

-- a record more in front of each
in_front : (a a' s s' : Bytes) → length a ≡ 120 → length a' ≡ 120 → quiet_key a ≡ quiet_key a' → ButNotices s s' → ButNotices (a ++ s) (a' ++ s')
in_front a a' s s' w w' e r = record {
  long = omega (arith, length-append a s, length-append a' s', r.long);
  same = by;
}
  where
    by : (n : ℕ) → length (a ++ s) ≤ n → quiet_first n (a ++ s) ≡ quiet_first n (a' ++ s')
    by zero h = absurd (omega (arith, length-append a s))
    by (suc n) h =
        (λ i. quiet_key (take_at a s 120 w i) ++ quiet_first n (drop_at a s 120 w i))
        ∙ (λ i. e i ++ r.same n (omega (arith, length-append a s)) i)
        ∙ sym (λ i. quiet_key (take_at a' s' 120 w' i) ++ quiet_first n (drop_at a' s' 120 w' i))

errors_front : (ssn : Bytes) (n : ℕ) (xs : List Finding) (s s' : Bytes) → ButNotices s s' → ButNotices (errors_from ssn n xs ++ s) (errors_from ssn n xs ++ s')
unfolding error_of
errors_front ssn n [] s s' r = r
errors_front ssn n (x ∷ xs) s s' r =
    rw (append_assoc (error_of ssn n x) (errors_from ssn (n + 1) xs) s, append_assoc (error_of ssn n x) (errors_from ssn (n + 1) xs) s')
    (in_front (error_of ssn n x) (error_of ssn n x) _ _ (length_error _ _ _ _ _ _ _) (length_error _ _ _ _ _ _ _) refl (errors_front ssn (n + 1) xs s s' r))

-- the id of a record stands before all that is laid in behind it
id_stays : (r : Bytes) (at : ℕ) (t v : Bytes) → 14 ≤ at → part 8 6 r ≡ v → part 8 6 (laid r at t) ≡ v
unfolding laid
id_stays r at t v h e = sym (part_take 14 8 6 (sets r at t) (lit≤ tt)) ∙ ap (part 8 6) (take-sets 14 r at t h) ∙ part_take 14 8 6 r (lit≤ tt) ∙ e

id_laid : part 8 6 (laid (laid (blanks 120) 0 (bytes "0120****")) 8 (bytes "ACK   ")) ≡ bytes "ACK   "
unfolding laid
id_laid = refl

-- 0 over a code that is laid in before the last byte
laid_over : (r : Bytes) (b : ℕ) → laid (laid (laid r 111 (b ∷ [])) 119 (bytes "#")) 111 (bytes "0") ≡ laid (laid r 119 (bytes "#")) 111 (bytes "0")
unfolding laid
laid_over r b = ap (λ (x : Bytes). set x 111 48) (set_comm r 111 119 b 35 (λ e. omega arith)) ∙ set-set (set r 119 35) 111 b 48

module _ (ssn sequence : Bytes) (v : Verdict) (pin : ℕ) (date control : Bytes) (errors : ℕ) (literal : Bytes) where
  abbrev key : ℕ → Bytes
  key b = key_record ssn sequence v pin date control errors literal b

  key_id : (b : ℕ) → field LKey 0 (key b) ≡ bytes "ACK   "
  unfolding key_record record_of entry ack_key field
  key_id b =
      id_stays _ _ _ _ (lit≤ tt)
      (id_stays _ _ _ _ (lit≤ tt)
      (id_stays _ _ _ _ (lit≤ tt)
      (id_stays _ _ _ _ (lit≤ tt)
      (id_stays _ _ _ _ (lit≤ tt)
      (id_stays _ _ _ _ (lit≤ tt)
      (id_stays _ _ _ _ (lit≤ tt)
      (id_stays _ _ _ _ (lit≤ tt)
      (id_stays _ _ _ _ (lit≤ tt)
      (id_stays _ _ _ _ (lit≤ tt)
      (id_stays _ _ _ _ (lit≤ tt) id_laid))))))))))

  key_quiet : (b c : ℕ) → quiet_key (key b) ≡ quiet_key (key c)
  unfolding key_record record_of entry ack_key
  key_quiet b c = rw (key_id b, key_id c) (laid_over _ b ∙ sym (laid_over _ c))

-- a record set with this in 0117
abbrev set_with : ℕ → Turn → Bytes
set_with b t = set_by t.subject.doc.main (known t.subject.doc) t.date (letter_of t) (sight_of t).whole (take 96 (findings t)) (any on_auth (findings t)) b

set_front : (b c : ℕ) (t : Turn) (s s' : Bytes) → ButNotices s s' → ButNotices (set_with b t ++ s) (set_with c t ++ s')
unfolding set_by
set_front b c t s s' r =
    rw (append_assoc _ _ s, append_assoc _ _ s')
    (in_front _ _ _ _ (length-key _ _ _ _ _ _ _ _ _) (length-key _ _ _ _ _ _ _ _ _) (key_quiet _ _ _ _ _ _ _ _ b c) (errors_front _ 1 (take 96 (findings t)) s s' r))

sets_front : (ts : List Turn) (s : Bytes) → ButNotices (joined (map set_of ts) ++ s) (joined (map (set_with 48) ts) ++ s)
unfolding set_of
sets_front [] s = itself s
sets_front (t ∷ ts) s =
    rw (append_assoc (set_of t) (joined (map set_of ts)) s, append_assoc (set_with 48 t) (joined (map (set_with 48) ts)) s)
    (set_front (births_of t) 48 t _ _ (sets_front ts s))

-- the file with 0 in 0117 of every Key
abbrev quiet_file : Bytes → Outcome → Bytes
quiet_file name (rejected sequence codes) = file_from name (rejected sequence codes)
quiet_file name (judged p ts) =
    p.trana ++ p.tranb ++ joined (map (set_with 48) ts) ++ recap_record p.recap (twelve p.trana) (accepted_in ts) (length ts) name

-- TRANA and TRANB have 120 bytes
abbrev Sized : Outcome → Type 0
Sized (rejected sequence codes) = T true
Sized (judged p ts) = (length p.trana ≡ 120) × (length p.tranb ≡ 120)

nested : (a b c d : Bytes) → a ++ b ++ c ++ d ≡ a ++ (b ++ (c ++ d))
nested a b c d = append_assoc (a ++ b) c d ∙ append_assoc a b (c ++ d)

file_alike : (name : Bytes) (o : Outcome) → Sized o → ButNotices (file_from name o) (quiet_file name o)
file_alike name (rejected sequence codes) w = itself _
file_alike name (judged p ts) w =
    let recap = recap_record p.recap (twelve p.trana) (accepted_in ts) (length ts) name in
    rw (nested p.trana p.tranb (joined (map set_of ts)) recap, nested p.trana p.tranb (joined (map (set_with 48) ts)) recap)
    (in_front p.trana p.trana _ _ w.0 w.0 refl (in_front p.tranb p.tranb _ _ w.1 w.1 refl (sets_front ts recap)))

-- and it is the same without birth dates
set_quiet : (t : Turn) → set_with 48 (quiet_turn t) ≡ set_with 48 t
set_quiet t =
    λ i. set_by t.subject.doc.main (known t.subject.doc) t.date (letter_stays t i) (sight_of t).whole (take 96 (findings_stay t i)) (any on_auth (findings_stay t i)) 48

sets_quiet : (ts : List Turn) → joined (map (set_with 48) (map quiet_turn ts)) ≡ joined (map (set_with 48) ts)
sets_quiet [] = refl
sets_quiet (t ∷ ts) = λ i. set_quiet t i ++ sets_quiet ts i

accepted_quiet : (ts : List Turn) → accepted_in (map quiet_turn ts) ≡ accepted_in ts
accepted_quiet [] = refl
accepted_quiet (t ∷ ts) = λ i. bit (is_a (letter_stays t i)) + accepted_quiet ts i

-- 0822 by the lines, and 0840
abbrev sent : Lines → Parsed → Bool
sent L p = not (empty (L sent_before (twelve p.trana)))

abbrev differs : Parsed → Bool
differs p = not (same (twelve_again p.recap) (twelve p.trana))

abbrev quiet_outcome : Outcome → Outcome
quiet_outcome (rejected sequence codes) = rejected sequence codes
quiet_outcome (judged p ts) = judged p (map quiet_turn ts)

file_quiet : (name : Bytes) (o : Outcome) → quiet_file name (quiet_outcome o) ≡ quiet_file name o
file_quiet name (rejected sequence codes) = refl
file_quiet name (judged p ts) =
    λ i. p.trana ++ p.tranb ++ sets_quiet ts i ++ recap_record p.recap (twelve p.trana) (accepted_quiet ts i) (length-map ts quiet_turn i) name

letters_quiet : (o : Outcome) → letters_of (quiet_outcome o) ≡ letters_of o
letters_quiet (rejected sequence codes) = refl
letters_quiet (judged p ts) = letters_stay ts

-- THE OUTCOME

by_quiet : (a b : Bool) (p : Parsed) (ts : List Turn) → quiet_outcome (outcome_by a b p ts) ≡ outcome_by a b p (map quiet_turn ts)
by_quiet true true p ts = refl
by_quiet true false p ts = refl
by_quiet false true p ts = refl
by_quiet false false p ts = refl

by_sized : (a b : Bool) (p : Parsed) (ts : List Turn) → length p.trana ≡ 120 → length p.tranb ≡ 120 → Sized (outcome_by a b p ts)
by_sized true true p ts e f = tt
by_sized true false p ts e f = tt
by_sized false true p ts e f = tt
by_sized false false p ts e f = (e, f)

outcome_sized : (L : Lines) (date t : Bytes) → Sized (outcome L date t)
outcome_sized L date t =
    outcome_cases Sized L date t tt
    (λ h x y. let e = sound_ended (records t) h in by_sized x y (parsed_of (records t)) (turns_of L date (parsed_of (records t))) (first_trana (records t) e) (second_tranb (records t) e))

module _ (p q : Bytes) (h : ButBirths p q) (date : Bytes) where
  outcomes_quiet : (b : Bool) (rs : List Bytes) → quiet_outcome (outcome_of (L p q h) date (parsed_if b rs)) ≡ quiet_outcome (outcome_of (M p q h) date (parsed_if b rs))
  outcomes_quiet false rs = refl
  outcomes_quiet true rs =
      let z = parsed_of rs in
      by_quiet (sent (L p q h) z) (differs z) z (turns_of (L p q h) date z)
      ∙ (λ i. outcome_by (not (empty (lines_same p q h sent_before (lit≤ tt) (lit≤ tt) (twelve z.trana) i))) (differs z) z (turns_quiet p q h date z i))
      ∙ sym (by_quiet (sent (M p q h) z) (differs z) z (turns_of (M p q h) date z))

  outcome_quiet : (t : Bytes) → quiet_outcome (outcome (lines_of (blocks_of p)) date t) ≡ quiet_outcome (outcome (lines_of (blocks_of q)) date t)
  unfolding outcome parse
  outcome_quiet t = outcomes_quiet (sound (records t)) (records t)

alike_file : (t pack date name : Bytes) → ButNotices (prescribed t pack date name) (quiet_file name (outcome (lines_of (blocks_of pack)) date t))
unfolding prescribed file_of
alike_file t pack date name = file_alike name (outcome (lines_of (blocks_of pack)) date t) (outcome_sized (lines_of (blocks_of pack)) date t)

quiet_alike : (s s' : Bytes) → ButNotices s s' → quiet s ≡ quiet s'
quiet_alike s s' r = r.same (length s) (omega arith) ∙ ap (λ (n : ℕ). quiet_first n s') r.long

pub same_letters : SameLetters
same_letters t date p q h =
    sym (letters_quiet (outcome (lines_of (blocks_of p)) date t)) ∙ ap letters_of (outcome_quiet p q h date t) ∙ letters_quiet (outcome (lines_of (blocks_of q)) date t)

module _ (t date name p q : Bytes) (h : ButBirths p q) where
  one_file : quiet_file name (outcome (lines_of (blocks_of p)) date t) ≡ quiet_file name (outcome (lines_of (blocks_of q)) date t)
  one_file =
      sym (file_quiet name (outcome (lines_of (blocks_of p)) date t)) ∙ ap (quiet_file name) (outcome_quiet p q h date t) ∙ file_quiet name (outcome (lines_of (blocks_of q)) date t)

  one_length : length (prescribed t p date name) ≡ length (prescribed t q date name)
  one_length = (alike_file t p date name).long ∙ ap length one_file ∙ sym (alike_file t q date name).long

pub only_notices : OnlyNotices
only_notices t date name p q h =
    quiet_alike _ _ (alike_file t p date name) ∙ ap quiet (one_file t date name p q h) ∙ sym (quiet_alike _ _ (alike_file t q date name))

pub notice_answer : NoticeAnswer
unfolding answer refusal_of
notice_answer t date name p q n h = rw (h.first_well, h.second_well, one_length t date name p q h)
