-- The length of the file: by its records, and the most that it can be; what is answered by the need. Assumes nothing.
use mathlib.Core.Path.{◌≡◌, refl, sym, ap, ◌∙◌}
use mathlib.Core.Bool.{Bool, true, false, not, cond, ◌&&◌}
use mathlib.Core.List.{List, [], ◌∷◌, ◌++◌, map}
use mathlib.Core.Logic.{◌≢◌}
use Rattle.std.proofs.Common.{Option, None, Some}
use Prim.Native.Nat.{ℕ, suc, ◌+◌, ◌*◌, ◌≤◌, ◌<◌}
use native.Mathlib.Omega.{arith}
use borrow.Author.Tests.{le-ltb, lt-ltb, ltb-false}
use lib.Dec.{ltb}
use lib.ListN.{length, take, drop, length-append, length-take, length-drop, length-map}
use Rattle.std.proofs.Common.{Ok, Err}
use Rattle.paper.specs.declared.Codes.{Codes}
use Rattle.paper.specs.declared.Codes.TheVariants.{C0823, C0822, C0840, C0822And0840}
use Rattle.paper.specs.declared.Kind.{Kind}
use Rattle.paper.specs.declared.Kind.TheVariants.{TranA, TranB, Form, Unknown, Payment, Auth, Summary, Recap, Stray}
use Rattle.paper.specs.declared.Refusal.{Refusal}
use Rattle.paper.specs.declared.Refusal.TheVariants.{LongTransmission, BadPack, BadDateOrName, ShortOutput}
use Rattle.paper.specs.Bytes.{Bytes, any, bit, count, those, joined}
use Rattle.paper.specs.Fields.{valid_date}
use Rattle.paper.specs.Pack.{Lines, lines_of, blocks_of, well_formed}
use Rattle.paper.specs.Walk.{Doc, count_of, starts, records, named, kind_of, is, opens, own, docs_of, Parsed, parsed_of, sound, twelve}
use Rattle.paper.specs.Conditions.{View, view, rules_of, holds}
use Rattle.paper.specs.Judge.{Before, Finding, Turn, known, item_of, if_known, asked, mark, finds_in, finds_from, findings, start, turn, turns, after, letter_of, births_of, sight_of}
use Rattle.paper.specs.File.{on_auth, set_of, code_list, recap_record, Outcome, rejected, judged, outcome_by, turns_of, outcome, accepted_in, file_from, file_of}
use Rattle.paper.specs.Answer.{Answer, file_name, prescribed, room_for, refusal_of, refused_or, answer, refusal_number, number_of, length_of, coded}
use Rattle.paper.specs.Room.{need, set_records, all_records, file_records, InRecords, enough, AtMost, NeverShort, ExactNeed, NoNeed, ToldApart, AnswersApart, NeedReads}
use Rattle.paper.proofs.Laws.{never}
use Rattle.paper.proofs.KindLaws.{kind_length}
use Rattle.paper.proofs.Records.{starts_bounds, records_end, records_more, records_none, record_length, along}
use Rattle.paper.proofs.RecordSizes.{length-recap, length-set_by, length-rejection}
use Rattle.paper.proofs.Widths.{first_trana, second_tranb}
use Rattle.paper.proofs.Numbers.{number_plain}
use Rattle.paper.proofs.Outcomes.{sound_ended, outcome_cases}

-- WHAT DOCUMENTS WEIGH

-- a document has 43 bytes or more, and a 4868 document 384 or more
abbrev weight : List Doc → ℕ
weight ds = 43 * length ds + 341 * count known ds

pub docs_weigh : (s : Bytes) → weight (docs_of (records s)) ≤ length s
unfolding kind_of named
docs_weigh s = along (λ (x : Bytes). weight (docs_of (records x)) ≤ length x) none more stop s
  where
    none : weight (docs_of (records [])) ≤ 0
    none = rw records_end (omega arith)

    one : (r : Bytes) (rs : List Bytes) (n : ℕ) → 43 ≤ length r → weight (docs_of rs) ≤ n → weight (docs_of (r ∷ rs)) ≤ length r + n
    one r rs n h ih = by (opens (kind_of r)) (is Form (kind_of r)) refl
      where
        by : (b f : Bool) → is Form (kind_of r) ≡ f → weight (cond b (record { main = r; others = own rs } ∷ docs_of rs) (docs_of rs)) ≤ length r + n
        by false f e = omega arith
        by true true e = rw e (omega (arith, kind_length Form 384 r refl e))
        by true false e = rw e (omega arith)

    more : (x : Bytes) → starts x ≡ true → weight (docs_of (records (drop (count_of x) x))) ≤ length (drop (count_of x) x) → weight (docs_of (records x)) ≤ length x
    more x h ih =
        let long : length (take (count_of x) x) ≡ count_of x = record_length x h in
        let a = one (take (count_of x) x) (records (drop (count_of x) x)) (length (drop (count_of x) x)) (omega (arith, (starts_bounds x h).0)) ih in
        rw (records_more x h) (omega (arith, a, length-drop (count_of x) x, (starts_bounds x h).1))

    stop : (x : Bytes) → 0 < length x → starts x ≡ false → weight (docs_of (records x)) ≤ length x
    stop x l h = rw (records_none x l h) (omega arith)

those_one : (p : ℕ → Bool) (x : ℕ) → length (those p (x ∷ [])) ≤ 1
those_one p x = by (p x)
  where
    by : (b : Bool) → length (cond b (x ∷ []) []) ≤ 1
    by true = omega arith
    by false = omega arith

-- an unknown form has one finding at most
finds_one : (k : Kind) (v : View) → opens k ≡ true → is Form k ≡ false → length (finds_in k v) ≤ 1
finds_one TranA v o f = absurd (never o)
finds_one TranB v o f = absurd (never o)
finds_one Form v o f = absurd (never (sym f))
finds_one Unknown v o f = omega (arith, length-map (those (holds Unknown v) (rules_of Unknown)) (mark Unknown v.own), those_one (holds Unknown v) 44)
finds_one Payment v o f = absurd (never o)
finds_one Auth v o f = absurd (never o)
finds_one Summary v o f = absurd (never o)
finds_one Recap v o f = absurd (never o)
finds_one Stray v o f = absurd (never o)

pub forms_few : (ds : List Doc) → count known ds ≤ length ds
forms_few [] = omega arith
forms_few (d ∷ ds) = by (known d) (forms_few ds)
  where
    by : (b : Bool) → count known ds ≤ length ds → bit b + count known ds ≤ suc (length ds)
    by true ih = omega arith
    by false ih = omega arith

-- WHAT THEIR RECORD SETS TAKE

pub length-set_of : (t : Turn) → length (set_of t) ≡ 120 * set_records t
unfolding set_of
length-set_of t =
    length-set_by t.subject.doc.main (known t.subject.doc) t.date (letter_of t) (sight_of t).whole (take 96 (findings t)) (any on_auth (findings t)) (births_of t)
    ∙ omega (arith, length-take 96 (findings t))

pub length-sets : (ts : List Turn) → length (joined (map set_of ts)) ≡ 120 * all_records ts
length-sets [] = refl
length-sets (t ∷ ts) = length-append (set_of t) (joined (map set_of ts)) ∙ omega (arith, length-set_of t, length-sets ts)

module _ (L : Lines) (date : Bytes) where
  unknown_few : (b : Before) (d : Doc) → opens (kind_of d.main) ≡ true → known d ≡ false → length (findings (turn date b (asked L d))) ≤ 1
  unfolding findings
  unknown_few b d o f =
      let t = turn date b (asked L d) in
      let k = kind_of d.main in
      let v = view (sight_of t) d.main [] 0 0 in
      let rest : Bool → List Finding = λ (x : Bool). finds_from (sight_of t) (0 + bit (is Payment k)) (0 + bit (is Auth k)) (map (item_of (if_known (known d) L)) (cond x d.others [])) in
      let none : length (rest (known d)) ≡ 0 = ap (λ (x : Bool). length (rest x)) f in
      omega (arith, length-append (finds_in k v) (rest (known d)), finds_one k v o f)

  -- a Key and 96 Error records at most; of an unknown form one Error record
  set_most : (b : Before) (d : Doc) → opens (kind_of d.main) ≡ true → set_records (turn date b (asked L d)) ≤ 2 + 95 * bit (known d)
  set_most b d o = by (known d) refl
    where
      by : (k : Bool) → known d ≡ k → set_records (turn date b (asked L d)) ≤ 2 + 95 * bit k
      by true e = omega arith
      by false e = omega (arith, unknown_few b d o e)

  pub sets_most : (b : Before) (rs : List Bytes) → all_records (turns date b (map (asked L) (docs_of rs))) ≤ 2 * length (docs_of rs) + 95 * count known (docs_of rs)
  sets_most b [] = omega arith
  sets_most b (r ∷ rs) = by (λ x. sets_most x rs) (opens (kind_of r)) refl
    where
      d : Doc
      d = record { main = r; others = own rs }

      by : ((x : Before) → all_records (turns date x (map (asked L) (docs_of rs))) ≤ 2 * length (docs_of rs) + 95 * count known (docs_of rs)) → (o : Bool) → opens (kind_of r) ≡ o
          → all_records (turns date b (map (asked L) (cond o (d ∷ docs_of rs) (docs_of rs)))) ≤ 2 * length (cond o (d ∷ docs_of rs) (docs_of rs)) + 95 * count known (cond o (d ∷ docs_of rs) (docs_of rs))
      by ih false e = ih b
      by ih true e = omega (arith, set_most b d e, ih (after (turn date b (asked L d))))

  -- of all documents of a transmission
  pub sets_few : (t : Bytes) → length (joined (map set_of (turns_of L date (parsed_of (records t))))) ≤ 31 * length t
  sets_few t = omega (arith, length-sets (turns_of L date (parsed_of (records t))), sets_most start (records t), docs_weigh t, forms_few (docs_of (records t)))

-- THE FILE

-- of a transmission that is not rejected whole
pub length-judged : (name : Bytes) (rs : List Bytes) (ts : List Turn) → sound rs ≡ true → length (file_from name (judged (parsed_of rs) ts)) ≡ 360 + length (joined (map set_of ts))
length-judged name rs ts h =
    let p = parsed_of rs in
    let sets = joined (map set_of ts) in
    let recap = recap_record p.recap (twelve p.trana) (accepted_in ts) (length ts) name in
    length-append (p.trana ++ p.tranb ++ sets) recap
    ∙ omega (arith, length-append (p.trana ++ p.tranb) sets, length-append p.trana p.tranb, first_trana rs (sound_ended rs h), second_tranb rs (sound_ended rs h), length-recap p.recap (twelve p.trana) (accepted_in ts) (length ts) name)

module _ (L : Lines) (date name t : Bytes) where
  abbrev p : Parsed
  p = parsed_of (records t)

  -- a file of 120 bytes a record, and not more than the most
  pub record Measured (o : Outcome) : Type 0 where
    pub whole : length (file_from name o) ≡ 120 * file_records o
    pub few : length (file_from name o) ≤ enough (length t)

  rejected_measured : (sequence : Bytes) (codes : Codes) → Measured (rejected sequence codes)
  rejected_measured sequence codes = record { whole = omega (arith, length-rejection sequence codes); few = omega (arith, length-rejection sequence codes, two codes) }
    where
      two : (c : Codes) → length (code_list c) ≤ 2
      two C0823 = omega arith
      two C0822 = omega arith
      two C0840 = omega arith
      two C0822And0840 = omega arith

  judged_measured : sound (records t) ≡ true → Measured (judged p (turns_of L date p))
  judged_measured h =
      let ts = turns_of L date p in
      let size = length-judged name (records t) ts h in
      record {
        whole = omega (arith, size, length-sets ts);
        few = omega (arith, size, sets_few L date t);
      }

  file_measured : Measured (outcome L date t)
  file_measured = outcome_cases Measured L date t (rejected_measured _ _) either
    where
      either : sound (records t) ≡ true → (x y : Bool) → Measured (outcome_by x y p (turns_of L date p))
      either h true true = rejected_measured _ _
      either h true false = rejected_measured _ _
      either h false true = rejected_measured _ _
      either h false false = judged_measured h

pub in_records : InRecords
unfolding prescribed file_of
in_records t pack date name = (file_measured (lines_of (blocks_of pack)) date name t).whole

pub at_most : AtMost
unfolding prescribed file_of
at_most t pack date name = (file_measured (lines_of (blocks_of pack)) date name t).few

-- THE ANSWER

-- a refusal's number, or 0
abbrev number_in : Option Refusal → ℕ
number_in (Some r) = refusal_number r
number_in None = 0

module _ (t pack date name : Bytes) where
  abbrev file : Bytes
  file = prescribed t pack date name

  -- refusal 4 is none of the first three
  first_three : number_in (refusal_of t pack date name) ≤ 3
  unfolding refusal_of
  first_three = by (ltb 65536 (length t)) (not (well_formed pack)) (not (valid_date date && file_name name))
    where
      by : (a b c : Bool) → number_in (cond a (Some LongTransmission) (cond b (Some BadPack) (cond c (Some BadDateOrName) None))) ≤ 3
      by true b c = omega arith
      by false true c = omega arith
      by false false true = omega arith
      by false false false = omega arith

  pub not_refused : refusal_of t pack date name ≡ None → (length t ≤ 65536) × (well_formed pack ≡ true)
  unfolding refusal_of
  not_refused e = by (ltb 65536 (length t)) refl (well_formed pack) e
    where
      by : (a : Bool) → ltb 65536 (length t) ≡ a → (b : Bool)
          → cond a (Some LongTransmission) (cond (not b) (Some BadPack) (cond (not (valid_date date && file_name name)) (Some BadDateOrName) None)) ≡ None
          → (length t ≤ 65536) × (b ≡ true)
      by true h b q = let z : ◌≡◌ {A = ℕ} 1 0 = ap number_in q in absurd (omega arith)
      by false h true q = (ltb-false 65536 (length t) h, refl)
      by false h false q = let z : ◌≡◌ {A = ℕ} 2 0 = ap number_in q in absurd (omega arith)

  -- each by a refusal or none
  exact : (r : Option Refusal) (k n : ℕ) → refused_or r (Ok (length file)) ≡ Ok k
      → (k ≤ n → refused_or r (room_for n file) ≡ Ok k) × (n < k → refused_or r (room_for n file) ≡ Err ShortOutput)
  exact (Some r) k n e = let z : ◌≡◌ {A = ℕ} 0 1 = cc in absurd (omega arith)
  exact None k n e =
      let q : length file ≡ k = ap length_of e in
      (λ h. let s : length file ≤ n = omega arith in rw (le-ltb _ _ s) e, λ h. let s : n < length file = omega arith in rw (lt-ltb _ _ s))

  alike : (q : Option Refusal) (r : Refusal) (n : ℕ) → refused_or q (Ok (length file)) ≡ Err r → number_in q ≤ 3
      → (refused_or q (room_for n file) ≡ Err r) × (r ≢ ShortOutput)
  alike (Some q) r n e l = (e, λ h. let z : refusal_number q ≡ 4 = ap number_of e ∙ ap refusal_number h in omega arith)
  alike None r n e l = let z : ◌≡◌ {A = ℕ} 0 1 = cc in absurd (omega arith)

  roomy : (q : Option Refusal) (n : ℕ) → length file ≤ n → number_in q ≤ 3 → number_of (refused_or q (room_for n file)) ≤ 3
  roomy (Some q) n h l = l
  roomy None n h l = rw (le-ltb _ _ h) (omega arith)

  small : (q : Option Refusal) (a : Answer) → refusal_of t pack date name ≡ q → length_of a ≤ length file → length_of (refused_or q a) < 4294967296
  small (Some q) a e h = omega arith
  small None a e h = omega (arith, (not_refused e).0, at_most t pack date name)

  at_longest : (n : ℕ) → length_of (room_for n file) ≤ length file
  at_longest n = by (ltb n (length file))
    where
      by : (b : Bool) → length_of (cond b (Err ShortOutput) (Ok (length file))) ≤ length file
      by true = omega arith
      by false = omega arith

pub exact_need : ExactNeed
unfolding need answer
exact_need t pack date name k n e = exact t pack date name (refusal_of t pack date name) k n e

pub no_need : NoNeed
unfolding need answer
no_need t pack date name r n e = alike t pack date name (refusal_of t pack date name) r n e (first_three t pack date name)

pub never_short : NeverShort
unfolding answer
never_short t pack date name n h e =
    let l = roomy t pack date name (refusal_of t pack date name) n (omega (arith, at_most t pack date name)) (first_three t pack date name) in
    let z : number_of (refused_or (refusal_of t pack date name) (room_for n (prescribed t pack date name))) ≡ 4 = ap number_of e in
    omega arith

apart : (a : Answer) → length_of a < 4294967296 → ToldApart a
unfolding coded
apart a h = (omega arith, omega arith)

pub answers_apart : AnswersApart
unfolding need answer
answers_apart t pack date name n =
    let q = refusal_of t pack date name in
    (apart _ (small t pack date name q _ refl (at_longest t pack date name n)), apart _ (small t pack date name q (Ok _) refl (omega arith)))

pub need_reads : NeedReads
unfolding need
need_reads t pack date name k e = number_plain 7 k (omega (arith, small_need (refusal_of t pack date name) refl e))
  where
    small_need : (q : Option Refusal) → refusal_of t pack date name ≡ q → refused_or q (Ok (length (prescribed t pack date name))) ≡ Ok k → k < 10000000
    small_need (Some q) l e = let z : ◌≡◌ {A = ℕ} 0 1 = cc in absurd (omega arith)
    small_need None l e = let q : length (prescribed t pack date name) ≡ k = ap length_of e in omega (arith, (not_refused t pack date name l).0, at_most t pack date name)
