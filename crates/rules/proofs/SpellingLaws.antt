-- Laws of how a keyword is spelt: the listed spelling is one of those that are read, none changes a length, and a line that has a keyword is its
-- spelling, its `=` and its argument.
-- Assumes nothing.
use Prim.Native.Nat.{ℕ, zero, suc, ◌+◌, ◌≤◌}
use native.Mathlib.Omega.{arith}
use mathlib.Core.Path.{◌≡◌, refl, sym, ap, ◌∙◌}
use mathlib.Core.Bool.{Bool, true, false, cond}
use mathlib.Core.List.{List, [], ◌∷◌, ◌++◌, map, append_assoc}
use lib.ListN.{length, take, drop, get_or, length-map, length-append, take-append-drop}
use lib.Seq.{drop-drop, take-append_seam, drop-append_seam}
use Rattle.rules.specs.Text.{Text, bytes, same, lower, same_but_case, begins}
use Rattle.rules.specs.Arguments.{Entry}
use Rattle.rules.specs.Log.{keyword_start, keyword_lines, keywords_of, respelt, keyword_rules}
use Rattle.rules.specs.Reading.{spelling_on, argument_on, has_keyword}
use Rattle.rules.proofs.Tests.{never, fails, clash, and_l, and_r, and_i}
use Rattle.rules.proofs.TextLaws.{same_eq, same_refl, same_of_eq, begins_front, begins_split}

-- # The case of letters

pub case_refl : (s : Text) → same_but_case s s ≡ true
unfolding same_but_case
case_refl s = same_refl (map lower s)

pub case_length : (s t : Text) → same_but_case s t ≡ true → length t ≡ length s
unfolding same_but_case
case_length s t e =
    sym (length-map t lower) ∙ ap length (sym (same_eq (map lower s) (map lower t) e)) ∙ length-map s lower

-- # A keyword's line

pub length_start : (w : Text) → length (keyword_start w) ≡ length w + 1
unfolding keyword_start
length_start w = length-append w (bytes "=")

module _ (e : Entry) (w t : Text) (c : same_but_case e.keyword w ≡ true) where
  start_split : keyword_start w ++ t ≡ w ++ (bytes "=" ++ t)
  unfolding keyword_start
  start_split = append_assoc w (bytes "=") t

  front_of : take (length e.keyword) (keyword_start w ++ t) ≡ w
  front_of =
      ap (λ (n : ℕ). take n (keyword_start w ++ t)) (sym (case_length e.keyword w c))
      ∙ ap (take (length w)) start_split
      ∙ take-append_seam w (bytes "=" ++ t)

  back_of : drop (length e.keyword) (keyword_start w ++ t) ≡ bytes "=" ++ t
  back_of =
      ap (λ (n : ℕ). drop n (keyword_start w ++ t)) (sym (case_length e.keyword w c))
      ∙ ap (drop (length w)) start_split
      ∙ drop-append_seam w (bytes "=" ++ t)

  pub spelling_on_lem : spelling_on e (keyword_start w ++ t) ≡ w
  unfolding spelling_on
  spelling_on_lem = front_of

  pub argument_on_lem : argument_on e (keyword_start w ++ t) ≡ t
  unfolding argument_on
  argument_on_lem =
      let long : length (keyword_start e.keyword) ≡ length (keyword_start w) = omega (arith, length_start w, length_start e.keyword, case_length e.keyword w c) in
      ap (λ (n : ℕ). drop n (keyword_start w ++ t)) long
      ∙ drop-append_seam (keyword_start w) t

  pub keyword_had : has_keyword e (keyword_start w ++ t) ≡ true
  unfolding has_keyword
  keyword_had =
      and_i
      (ap (same_but_case e.keyword) spelling_on_lem ∙ c)
      (ap (begins (bytes "=")) back_of ∙ begins_front (bytes "=") t)

-- A line that has the keyword is what it is written as.
pub record HasKeyword (e : Entry) (l : Text) : Type 0 where
  pub spelt : same_but_case e.keyword (spelling_on e l) ≡ true
  pub line : l ≡ keyword_start (spelling_on e l) ++ argument_on e l

pub keyword_has : (e : Entry) (l : Text) → has_keyword e l ≡ true → HasKeyword e l
unfolding has_keyword spelling_on argument_on keyword_start
keyword_has e l h =
    let n = length e.keyword in
    let w = take n l in
    let c = and_l (same_but_case e.keyword w) (begins (bytes "=") (drop n l)) h in
    let b = and_r (same_but_case e.keyword w) (begins (bytes "=") (drop n l)) h in
    let more : drop 1 (drop n l) ≡ drop (length (e.keyword ++ bytes "=")) l = drop-drop 1 n l ∙ ap (λ (m : ℕ). drop m l) (sym (length-append e.keyword (bytes "="))) in
    record {
      spelt = c;
      line = sym (take-append-drop n l)
          ∙ ap (λ (r : Text). w ++ r) (begins_split (bytes "=") (drop n l) b ∙ ap (λ (r : Text). bytes "=" ++ r) more)
          ∙ sym (append_assoc w (bytes "=") (drop (length (e.keyword ++ bytes "=")) l));
    }

-- The listed spelling is one of them, and a line that has the keyword has it so exactly where its spelling is the same.
pub listed_has : (e : Entry) (l : Text) → begins (keyword_start e.keyword) l ≡ true → has_keyword e l ≡ true
listed_has e l b =
    ap (has_keyword e) (begins_split (keyword_start e.keyword) l b)
    ∙ keyword_had e e.keyword (drop (length (keyword_start e.keyword)) l) (case_refl e.keyword)

pub listed_spelt : (e : Entry) (l : Text) → has_keyword e l ≡ true → begins (keyword_start e.keyword) l ≡ same e.keyword (spelling_on e l)
listed_spelt e l h = by (same e.keyword (spelling_on e l)) refl (keyword_has e l h).line
  where
    word : Text
    word = e.keyword

    spelt_so : begins (keyword_start word) l ≡ true → spelling_on e l ≡ word
    spelt_so b =
        ap (spelling_on e) (begins_split (keyword_start word) l b)
        ∙ spelling_on_lem e word (drop (length (keyword_start word)) l) (case_refl word)

    by : (b : Bool) → same word (spelling_on e l) ≡ b → l ≡ keyword_start (spelling_on e l) ++ argument_on e l → begins (keyword_start word) l ≡ b
    by true s q =
        let here : l ≡ keyword_start word ++ argument_on e l = q ∙ ap (λ (w : Text). keyword_start w ++ argument_on e l) (sym (same_eq word (spelling_on e l) s)) in
        ap (begins (keyword_start word)) here ∙ begins_front (keyword_start word) (argument_on e l)
    by false s q = fails (begins (keyword_start word) l) (λ b. clash (same_of_eq word (spelling_on e l) (sym (spelt_so b))) s)

-- # The spellings of all keywords

-- The keyword of the entry at a place of the list.
pub keyword_in_table : (es : List Entry) (j : ℕ) (d : Entry) (rest : List Entry) → drop j es ≡ d ∷ rest → d.keyword ≡ get_or (keywords_of es) j []
unfolding keywords_of
keyword_in_table [] zero d rest h = let z : ◌≡◌ {A = ℕ} 0 1 = cc in absurd (omega arith)
keyword_in_table [] (suc j) d rest h = let z : ◌≡◌ {A = ℕ} 0 1 = cc in absurd (omega arith)
keyword_in_table (c ∷ es) zero d rest h = let g : c ≡ d = cc in ap (λ (x : Entry). x.keyword) (sym g)
keyword_in_table (c ∷ es) (suc j) d rest h = keyword_in_table es j d rest h

pub listed_spelling : (es : List Entry) → keyword_rules es (keywords_of es) ≡ true
unfolding keyword_rules keywords_of
listed_spelling [] = refl
listed_spelling (e ∷ es) = and_i (case_refl e.keyword) (listed_spelling es)

pub spelling_count : (es : List Entry) (ws : List Text) → keyword_rules es ws ≡ true → length ws ≡ length es
unfolding keyword_rules
spelling_count [] [] h = refl
spelling_count [] (w ∷ ws) h = never h
spelling_count (e ∷ es) [] h = never h
spelling_count (e ∷ es) (w ∷ ws) h = ap suc (spelling_count es ws (and_r (same_but_case e.keyword w) (keyword_rules es ws) h))

pub keyword_count : (ws ts : List Text) → length ws ≡ length ts → length (keyword_lines ws ts) ≡ length ws
unfolding keyword_lines
keyword_count [] ts n = refl
keyword_count (w ∷ ws) [] n = absurd (omega arith)
keyword_count (w ∷ ws) (t ∷ ts) n = ap suc (keyword_count ws ts (omega arith))

-- None is respelt where the spelling is the listed one, and only there.
pub none_respelt : (es : List Entry) → respelt es (keywords_of es) ≡ 0
unfolding respelt keywords_of
none_respelt [] = refl
none_respelt (e ∷ es) = rw (same_refl e.keyword, none_respelt es)

pub respelt_none : (es : List Entry) (ws : List Text) → length ws ≡ length es → respelt es ws ≡ 0 → ws ≡ keywords_of es
unfolding respelt keywords_of
respelt_none [] [] n h = refl
respelt_none [] (w ∷ ws) n h = absurd (omega arith)
respelt_none (e ∷ es) [] n h = absurd (omega arith)
respelt_none (e ∷ es) (w ∷ ws) n h = by (same e.keyword w) refl h (respelt_none es ws (omega arith))
  where
    by : (b : Bool) → same e.keyword w ≡ b → cond b 0 1 + respelt es ws ≡ 0 → (respelt es ws ≡ 0 → ws ≡ keywords_of es) → w ∷ ws ≡ keywords_of (e ∷ es)
    by true s g more =
        let first : w ≡ e.keyword = sym (same_eq e.keyword w s) in
        let others : ws ≡ keywords_of es = more (omega arith) in
        rw (first, others)
    by false s g more = absurd (omega arith)

pub respelt_most : (es : List Entry) (ws : List Text) → respelt es ws ≤ length es
unfolding respelt
respelt_most [] ws = omega arith
respelt_most (e ∷ es) [] = omega arith
respelt_most (e ∷ es) (w ∷ ws) = by (same e.keyword w) (respelt_most es ws)
  where
    by : (b : Bool) → respelt es ws ≤ length es → cond b 0 1 + respelt es ws ≤ suc (length es)
    by true h = omega arith
    by false h = omega arith
