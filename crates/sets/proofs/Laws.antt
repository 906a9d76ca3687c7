-- Error records laid one after the other, by the rules of a set and by the records of a list. Assumes nothing.
use mathlib.Core.Path.{◌≡◌, refl, sym, ap, ◌∙◌}
use mathlib.Core.Bool.{Bool, true, false, cond}
use mathlib.Core.List.{List, [], ◌∷◌, ◌++◌, map, append-nil, append_assoc}
use Prim.Native.Nat.{ℕ, zero, suc, ◌+◌, ◌-◌, ◌*◌, ◌/◌, ◌%◌, ◌<◌, ◌≤◌, min}
use native.Mathlib.Omega.{arith}
use Rattle.std.proofs.lemmas.List.{get_or-map, length-map}
use borrow.Author.Tests.{le-leb, eq-eqb, eqb-true}
use lib.Dec.{eqb, leb}
use lib.ListN.{length, get_or, drop, take, length-append, length-take, drop_of_length-le}
use lib.Seq.{drop-cons}
use Rattle.text.proofs.Laying.{laid_append}
use Rattle.words.specs.Past.{identity_of, no_identity}
use Rattle.words.specs.Tables.{rule_text}
use Rattle.rules.specs.Sets.{chosen}
use Rattle.record.specs.Parts.{error_model, error_by, placed}
use Rattle.record.proofs.Laws.{error_said}
use Rattle.recordset.specs.Key.{shown_as, key_of}
use Rattle.recordset.proofs.Laws.{length_key_of, set_parts}
use Rattle.sets.specs.Set.{found_in, found_from, set_as}
use Rattle.paper.specs.declared.Broken.{Broken}
use Rattle.paper.specs.declared.Judgment.{Judgment}
use Rattle.paper.specs.declared.Layout.TheVariants.{L4868}
use Rattle.paper.specs.Bytes.{Bytes, bytes, laid}
use Rattle.paper.specs.Conditions.{rules_of}
use Rattle.paper.specs.Judge.{Finding, mark, type_at, occurrence_at}
use Rattle.paper.specs.Layouts.{field}
use Rattle.paper.specs.File.{error_of, errors_from, set_by}
use Rattle.paper.proofs.Laws.{next, ended}
use Rattle.paper.proofs.RecordSizes.{length-laid, length-errors_from}

-- ERROR RECORDS ONE AFTER THE OTHER

errors_append : (ssn : Bytes) (n : ℕ) (xs ys : List Finding) → errors_from ssn n (xs ++ ys) ≡ errors_from ssn n xs ++ errors_from ssn (n + length xs) ys
errors_append ssn n [] ys = let e : n ≡ n + 0 = omega arith in ap (λ (k : ℕ). errors_from ssn k ys) e
errors_append ssn n (x ∷ xs) ys =
    let e : n + 1 + length xs ≡ n + suc (length xs) = omega arith in
    ap (λ (t : Bytes). error_of ssn n x ++ t) (errors_append ssn (n + 1) xs ys ∙ ap (λ (k : ℕ). errors_from ssn (n + 1) xs ++ errors_from ssn k ys) e)
    ∙ sym (append_assoc (error_of ssn n x) (errors_from ssn (n + 1) xs) (errors_from ssn (n + suc (length xs)) ys))

take_split : (k : ℕ) (xs ys : List Finding) → take k (xs ++ ys) ≡ take k xs ++ take (k - length (take k xs)) ys
take_split zero xs ys = refl
take_split (suc k) [] ys = let e : suc k ≡ suc k - 0 = omega arith in ap (λ (m : ℕ). take m ys) e
take_split (suc k) (x ∷ xs) ys =
    let e : k - length (take k xs) ≡ suc k - suc (length (take k xs)) = omega arith in
    ap (λ (zs : List Finding). x ∷ zs) (take_split k xs ys ∙ ap (λ (m : ℕ). take k xs ++ take m ys) e)

-- those of the findings xs, from the n-th on, that stand before the end-th, and then those of ys
module _ (ssn : Bytes) (end n n' : ℕ) (xs ys : List Finding) (out out' e : Bytes) (c : n' ≡ n + length (take (end - n) xs)) where
  pub more_laid : out' ≡ laid out (120 * n) (errors_from ssn n (take (end - n) xs)) → laid out (120 * n) (errors_from ssn n (take (end - n) (xs ++ ys))) ≡ e
      → laid out' (120 * n') (errors_from ssn n' (take (end - n') ys)) ≡ e
  more_laid o v =
      let zs = take (end - n) xs in
      let rest : end - n - length zs ≡ end - n' = omega arith in
      let to : 120 * n' ≡ 120 * n + length (errors_from ssn n zs) = omega (arith, length-errors_from ssn n zs) in
      (λ i. laid (o i) (to i) (errors_from ssn (c i) (take (end - n') ys)))
      ∙ laid_append (errors_from ssn n zs) (errors_from ssn (n + length zs) (take (end - n') ys)) out (120 * n)
      ∙ ap (laid out (120 * n)) (sym (errors_append ssn n zs (take (end - n') ys)))
      ∙ ap (λ (l : List Finding). laid out (120 * n) (errors_from ssn n l)) (sym (take_split (end - n) xs ys ∙ ap (λ (m : ℕ). zs ++ take m ys) rest))
      ∙ v

  pub more_counted : (m : ℕ) → n + length (take (end - n) (xs ++ ys)) ≡ m → n' + length (take (end - n') ys) ≡ m
  more_counted m v =
      let zs = take (end - n) xs in
      let rest : end - n - length zs ≡ end - n' = omega arith in
      let l : length (take (end - n) (xs ++ ys)) ≡ length zs + length (take (end - n') ys) =
      ap length (take_split (end - n) xs ys ∙ ap (λ (k : ℕ). zs ++ take k ys) rest) ∙ length-append zs (take (end - n') ys) in
      omega arith

none_laid : (ssn : Bytes) (n : ℕ) (xs : List Finding) (out e : Bytes) → xs ≡ [] → laid out (120 * n) (errors_from ssn n xs) ≡ e → out ≡ e
unfolding laid
none_laid ssn n xs out e h v = sym (ap (λ (l : List Finding). laid out (120 * n) (errors_from ssn n l)) h) ∙ v

none_before : (end n : ℕ) (xs : List Finding) → end ≤ n → take (end - n) xs ≡ []
none_before end n xs h = let z : end - n ≡ 0 = omega arith in ap (λ (k : ℕ). take k xs) z

take_none : (k : ℕ) (xs : List Finding) → xs ≡ [] → take k xs ≡ []
take_none zero xs h = refl
take_none (suc k) xs h = ap (take (suc k)) h

-- THE ERROR RECORDS OF A RECORD: from the first-th on, for the rules that it broke

module _ (ssn t : Bytes) (b : Broken) (end : ℕ) where
  abbrev r : Bytes
  r = drop b.place t

  abbrev table : List ℕ
  table = rules_of b.kind

  -- the rules of its kind from a place on that a set has
  abbrev pub left_from : ℕ → ℕ → List Finding
  left_from set i = map (mark b.kind r) (chosen set (drop i table))

  -- those of the first i rules are written, and n and what is left of the set say which are to come
  pub record Going (out₀ out : Bytes) (first n left i : ℕ) : Type 0 where
    pub within : n ≤ end
    pub same : length out ≡ length out₀
    pub counts : n + length (take (end - n) (left_from left i)) ≡ first + length (take (end - first) (left_from b.set 0))
    pub lays : laid out (120 * n) (errors_from ssn n (take (end - n) (left_from left i)))
        ≡ laid out₀ (120 * first) (errors_from ssn first (take (end - first) (left_from b.set 0)))

  -- the texts of its kind's rules are as many
  along : (texts : List Bytes) → texts ≡ map rule_text table → length texts ≡ length table
  along texts e = ap length e ∙ length-map table rule_text

  module _ (texts : List Bytes) (et : texts ≡ map rule_text table) (out₀ out : Bytes) (first n left i : ℕ) (g : Going out₀ out first n left i) where
    abbrev rest : List Finding
    rest = left_from (left / 2) (i + 1)

    here : i < length table → left_from left i ≡ cond (eqb (left % 2) 1) (mark b.kind r (get_or table i 0) ∷ rest) rest
    here h = ap (λ (l : List ℕ). map (mark b.kind r) (chosen left l)) (next table i h) ∙ by (eqb (left % 2) 1)
      where
        by : (q : Bool) → map (mark b.kind r) (cond q (get_or table i 0 ∷ chosen (left / 2) (drop (i + 1) table)) (chosen (left / 2) (drop (i + 1) table)))
            ≡ cond q (mark b.kind r (get_or table i 0) ∷ rest) rest
        by true = refl
        by false = refl

    -- a rule that the set does not have, or that there is no room for
    pub passed : i < length texts → (left % 2 ≡ 1 → end ≤ n) → Going out₀ out first n (left / 2) (i + 1)
    passed h not_both = record {
      within = g.within;
      same = g.same;
      counts = ap (λ (l : List Finding). n + length l) (sym none) ∙ g.counts;
      lays = ap (λ (l : List Finding). laid out (120 * n) (errors_from ssn n l)) (sym none) ∙ g.lays;
    }
      where
        by : (q : Bool) → eqb (left % 2) 1 ≡ q → take (end - n) (cond q (mark b.kind r (get_or table i 0) ∷ rest) rest) ≡ take (end - n) rest
        by true e = let z : end - n ≡ 0 = omega (arith, not_both (eqb-true (left % 2) 1 e)) in ap (λ (m : ℕ). take m (mark b.kind r (get_or table i 0) ∷ rest)) z ∙ ap (λ (m : ℕ). take m rest) (sym z)
        by false e = refl

        none : take (end - n) (left_from left i) ≡ take (end - n) rest
        none = ap (take (end - n)) (here (omega (arith, along texts et))) ∙ by (eqb (left % 2) 1) refl

    -- a rule that the set has, written
    pub one_more : (model d out' : Bytes) → i < length texts → left % 2 ≡ 1 → n < end → 120 * end ≤ length out₀
        → model ≡ error_model ssn (field L4868 0 r) (type_at b.kind r) (bytes "00001") (occurrence_at b.kind r)
        → out' ≡ placed out (120 * n) (error_by model n (get_or texts i d)) → Going out₀ out' first (n + 1) (left / 2) (i + 1)
    unfolding placed error_of rule_text
    one_more model d out' h odd l room em eo =
        let h' : i < length table = omega (arith, along texts et) in
        let rule = get_or table i 0 in
        let x : Finding = mark b.kind r rule in
        let text = get_or texts i d in
        let here_text : text ≡ rule_text rule = ap (λ (s : List Bytes). get_or s i d) et ∙ get_or-map rule_text table i 0 d h' in
        let said : error_by model n text ≡ error_of ssn n x =
        ap (λ (m : Bytes). error_by m n text) em ∙ error_said ssn n (field L4868 0 r) (type_at b.kind r) (bytes "00001") (occurrence_at b.kind r) rule text here_text in
        let on : left_from left i ≡ x ∷ rest = here h' ∙ ap (λ (q : Bool). cond q (x ∷ rest) rest) (eq-eqb (left % 2) 1 odd) in
        let s : end - n ≡ suc (end - (n + 1)) = omega arith in
        let one : take (end - n) (x ∷ []) ≡ x ∷ [] = ap (λ (m : ℕ). take m (x ∷ [])) s ∙ only (end - (n + 1)) x in
        let c : n + 1 ≡ n + length (take (end - n) (x ∷ [])) = sym (ap (λ (l : List Finding). n + length l) one) in
        let f : 120 * n + 120 ≤ length out = omega (arith, g.same) in
        let o : out' ≡ laid out (120 * n) (errors_from ssn n (take (end - n) (x ∷ []))) =
        eo ∙ (λ j. cond (le-leb _ _ f j) (laid out (120 * n) (said j)) out) ∙ ap (laid out (120 * n)) (sym (append-nil (error_of ssn n x)))
        ∙ ap (λ (l : List Finding). laid out (120 * n) (errors_from ssn n l)) (sym one) in
        record {
          within = omega arith;
          same = ap length o ∙ length-laid out (120 * n) _ ∙ g.same;
          counts = more_counted ssn end n (n + 1) (x ∷ []) rest out out' out c _ (ap (λ (l : List Finding). n + length (take (end - n) l)) (sym on) ∙ g.counts);
          lays = more_laid ssn end n (n + 1) (x ∷ []) rest out out' _ c o (ap (λ (l : List Finding). laid out (120 * n) (errors_from ssn n (take (end - n) l))) (sym on) ∙ g.lays);
        }
      where
        only : (m : ℕ) (y : Finding) → take (suc m) (y ∷ []) ≡ y ∷ []
        only zero y = refl
        only (suc m) y = refl

    -- the end of the table
    pub all_done : length texts ≤ i → (n ≡ first + length (take (end - first) (found_in t b))) × (out ≡ laid out₀ (120 * first) (errors_from ssn first (take (end - first) (found_in t b))))
    unfolding found_in
    all_done h =
        let none : take (end - n) (left_from left i) ≡ [] = take_none (end - n) _ (ap (λ (l : List ℕ). map (mark b.kind r) (chosen left l)) (ended table i (omega (arith, along texts et)))) in
        let z : length (take (end - n) (left_from left i)) ≡ 0 = ap length none in
        (omega (arith, g.counts), none_laid ssn n (take (end - n) (left_from left i)) out _ none g.lays)

-- THE ERROR RECORDS OF A LIST

module _ (ssn t : Bytes) (list : List Broken) (end : ℕ) where
  -- those of the first i records are written, and the next Error record is the n-th
  pub record Rowing (out₀ out : Bytes) (n i : ℕ) : Type 0 where
    pub within : n ≤ end
    pub same : length out ≡ length out₀
    pub lays : laid out (120 * n) (errors_from ssn n (take (end - n) (found_from t (drop i list)))) ≡ laid out₀ 120 (errors_from ssn 1 (take (end - 1) (found_from t list)))

  module _ (out₀ out : Bytes) (n i : ℕ) (g : Rowing out₀ out n i) where
    pub next_record : (b d : Broken) (n' : ℕ) (out' : Bytes) → i < length list → b ≡ get_or list i d → n' ≡ n + length (take (end - n) (found_in t b))
        → out' ≡ laid out (120 * n) (errors_from ssn n (take (end - n) (found_in t b))) → Rowing out₀ out' n' (i + 1)
    next_record b d n' out' h eb en eo =
        let k : suc i ≡ i + 1 = omega arith in
        let here : drop i list ≡ b ∷ drop (i + 1) list = drop-cons list i d h ∙ (λ j. sym eb j ∷ drop (k j) list) in
        record {
          within = omega (arith, en, length-take (end - n) (found_in t b), g.within);
          same = ap length eo ∙ length-laid out (120 * n) _ ∙ g.same;
          lays = more_laid ssn end n n' (found_in t b) (found_from t (drop (i + 1) list)) out out' _ en eo (ap (λ (l : List Broken). laid out (120 * n) (errors_from ssn n (take (end - n) (found_from t l)))) (sym here) ∙ g.lays);
        }

    pub no_record : length list ≤ i → out ≡ laid out₀ 120 (errors_from ssn 1 (take (end - 1) (found_from t list)))
    no_record h = none_laid ssn n _ out _ (take_none (end - n) _ (ap (found_from t) (drop_of_length-le list h))) g.lays

-- THE SET: a Key, and the Error records right after it

module _ (main t date : Bytes) (j : Judgment) (list : List Broken) (out : Bytes) (n : ℕ) (en : n ≡ min j.found.kept 96) where
  pub set_laid : (ssn o o' : Bytes) → 120 + 120 * n ≤ length out → ssn ≡ shown_as j.identity.ssn 9 (field L4868 90 main)
      → o ≡ placed out 0 (key_of main date j n) → o' ≡ laid o 120 (errors_from ssn 1 (take (n + 1 - 1) (found_from t list)))
      → o' ≡ cond (leb (120 + 120 * min 96 j.found.kept) (length out)) (laid out 0 (set_as main t date j list)) out
  unfolding set_as placed
  set_laid ssn o o' h es ek eo =
      let a = min 96 j.found.kept in
      let en' : n ≡ a = omega arith in
      let f : 120 + 120 * a ≤ length out = omega arith in
      let f' : 0 + 120 ≤ length out = omega arith in
      let key = key_of main date j a in
      let xs = take a (found_from t list) in
      let s = shown_as j.identity.ssn 9 (field L4868 90 main) in
      let less : n + 1 - 1 ≡ a = omega arith in
      let e : o ≡ laid out 0 key = ek ∙ ap (λ (b : Bool). cond b (laid out 0 (key_of main date j n)) out) (le-leb _ _ f') ∙ ap (λ (q : ℕ). laid out 0 (key_of main date j q)) en' in
      let l : 120 ≡ 0 + length key = omega (arith, length_key_of main date j a) in
      eo ∙ (λ i. laid (e i) (l i) (errors_from (es i) 1 (take (less i) (found_from t list)))) ∙ laid_append key (errors_from s 1 xs) out 0
      ∙ ap (λ (b : Bool). cond b (laid out 0 (set_as main t date j list)) out) (sym (le-leb _ _ f))

-- the set is the paper's, where the numbers are the form's and the list has the findings that are written
pub set_said : (main t date : Bytes) (j : Judgment) (list : List Broken) (found : List Finding) → j.identity ≡ cond j.known (identity_of main) no_identity
    → take (min 96 j.found.kept) (found_from t list) ≡ found → length found ≡ min 96 j.found.kept
    → set_as main t date j list ≡ set_by main j.known date j.letter j.facts found j.found.ath j.births
unfolding set_as
set_said main t date j list found own e l =
    (λ i. key_of main date j (sym l i) ++ errors_from (shown_as j.identity.ssn 9 (field L4868 90 main)) 1 (e i)) ∙ set_parts main j own date found
