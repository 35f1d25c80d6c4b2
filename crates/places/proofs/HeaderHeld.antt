-- The keywords of an accepted log: the line of each holds its argument, and so what the log declares is told of it.
-- Assumes nothing.
use Prim.Native.Nat.{ℕ, zero, suc, ◌+◌, ◌-◌, ◌≤◌, ◌<◌, min}
use native.Mathlib.Omega.{arith}
use mathlib.Core.Path.{◌≡◌, refl, sym, ap, ap₂, ◌∙◌}
use mathlib.Core.Bool.{Bool, true, false, not, ◌&&◌}
use mathlib.Core.List.{List, [], ◌∷◌, ◌++◌}
use lib.Dec.{T, eqb}
use lib.ListN.{length, drop, get_or, length-append, length-drop, length-take}
use lib.Seq.{drop_at}
use Rattle.rules.specs.Text.{Text, same, same_but_case, begins, value, parts, allowed, span}
use Rattle.rules.specs.Rules.{Rules}
use Rattle.rules.specs.Arguments.{Entry, entries, meets, count_bonus_multiplier, count, bonus, multiplier, part}
use Rattle.rules.specs.Log.{Log, argument_in, argument, keyword_start, keyword_lines, lines_of, render, keyword_rules, argument_rules, valid}
use Rattle.rules.specs.Reading.{read, accepted}
use Rattle.rules.specs.Judging.{declared, Declared as Judged}
use Rattle.rules.specs.Answers.{argument_start, is_listed}
use Rattle.rules.proofs.Tests.{so, holds, never, and_l, and_r, not-true, eq-of-test}
use Rattle.rules.proofs.TextLaws.{same_refl}
use Rattle.rules.proofs.SpellingLaws.{case_length, length_start, spelling_on_lem, keyword_had, listed_spelt, spelling_count, keyword_count}
use Rattle.rules.proofs.LogLaws.{argument_count, behind_keywords, lines_opened}
use Rattle.rules.proofs.Bounds.{each_at}
use Rattle.rules.proofs.Format.{accepted_when_written, of_valid}
use Rattle.header.specs.Header.{listed_at}
use Rattle.header.proofs.TableLaws.{listed_entry}
use Rattle.reader.specs.Contact.{value_by}
use Rattle.reader.specs.Read.{claims_start}
use Rattle.places.specs.declared.Declared.{Declared}
use Rattle.places.specs.Places.{line_text_at, line_on, line_start, argument_on, argument_at, declared_at}
use Rattle.places.proofs.LineStarts.{line_more}
use Rattle.places.proofs.LinesHeld.{start_of_line, text_of_line, line_inside}

-- Nothing stands behind the end of a table.
none_left : {A : Type 0} (j : ℕ) (e : Entry) (rest : List Entry) → drop j [] ≡ e ∷ rest → A
none_left zero e rest h = let z : ◌≡◌ {A = ℕ} 0 1 = cc in absurd (omega arith)
none_left (suc j) e rest h = let z : ◌≡◌ {A = ℕ} 0 1 = cc in absurd (omega arith)

-- What holds of every entry of a table holds of the one at a place.
unfoldable pub every_entry : (Entry → Bool) → List Entry → Bool
every_entry f [] = true
every_entry f (e ∷ es) = f e && every_entry f es

of_entry : (f : Entry → Bool) (es : List Entry) (j : ℕ) (e : Entry) (rest : List Entry) → every_entry f es ≡ true → drop j es ≡ e ∷ rest → f e ≡ true
unfolding every_entry
of_entry f [] j e rest r h = none_left j e rest h
of_entry f (d ∷ es) zero e rest r h = let g : d ≡ e = cc in rw g at (and_l (f d) (every_entry f es) r)
of_entry f (d ∷ es) (suc j) e rest r h = of_entry f es j e rest (and_r (f d) (every_entry f es) r) h

-- No keyword stands twice in a table.
apart : List Entry → Bool
apart [] = true
apart (e ∷ es) = every_entry (λ d. not (same e.keyword d.keyword)) es && apart es

-- A keyword is five characters, and no two are the same.
five : every_entry (λ e. eqb (length e.keyword) 5) entries ≡ true
unfolding every_entry entries
five = refl

all_apart : apart entries ≡ true
unfolding apart every_entry entries same
all_apart = refl

module _ (R : Rules) where
  -- The line at a place, how its keyword is spelt, the rule that its argument keeps, and that it is the argument of its keyword.
  keyword_line_lem : (ws ts more : List Text) (j : ℕ) → length ws ≡ length ts → j < length ws → get_or (keyword_lines ws ts ++ more) j [] ≡ keyword_start (get_or ws j []) ++ get_or ts j []
  unfolding keyword_lines
  keyword_line_lem [] ts more j n h = absurd (omega arith)
  keyword_line_lem (w ∷ ws) [] more j n h = absurd (omega arith)
  keyword_line_lem (w ∷ ws) (t ∷ ts) more zero n h = refl
  keyword_line_lem (w ∷ ws) (t ∷ ts) more (suc j) n h = keyword_line_lem ws ts more j (omega arith) (omega arith)

  spelling_kept : (es : List Entry) (ws : List Text) (j : ℕ) (e : Entry) (rest : List Entry) → keyword_rules es ws ≡ true → drop j es ≡ e ∷ rest → same_but_case e.keyword (get_or ws j []) ≡ true
  unfolding keyword_rules
  spelling_kept [] ws j e rest r h = none_left j e rest h
  spelling_kept (d ∷ es) [] j e rest r h = never r
  spelling_kept (d ∷ es) (w ∷ ws) zero e rest r h =
      let g : d ≡ e = cc in
      rw g at (and_l (same_but_case d.keyword w) (keyword_rules es ws) r)
  spelling_kept (d ∷ es) (w ∷ ws) (suc j) e rest r h =
      spelling_kept es ws j e rest (and_r (same_but_case d.keyword w) (keyword_rules es ws) r) h

  rule_kept : (es : List Entry) (ts : List Text) (j : ℕ) (e : Entry) (rest : List Entry) → argument_rules R es ts ≡ true → drop j es ≡ e ∷ rest → meets R e.rule (get_or ts j []) ≡ true
  unfolding argument_rules
  rule_kept [] ts j e rest r h = none_left j e rest h
  rule_kept (d ∷ es) [] j e rest r h = never r
  rule_kept (d ∷ es) (t ∷ ts) zero e rest r h =
      let g : d ≡ e = cc in
      rw g at (and_l (meets R d.rule t) (argument_rules R es ts) r)
  rule_kept (d ∷ es) (t ∷ ts) (suc j) e rest r h =
      rule_kept es ts j e rest (and_r (meets R d.rule t) (argument_rules R es ts) r) h

  argument_at_lem : (es : List Entry) (ts : List Text) (j : ℕ) (e : Entry) (rest : List Entry) → apart es ≡ true → argument_rules R es ts ≡ true → drop j es ≡ e ∷ rest → argument_in es ts e.keyword ≡ get_or ts j []
  unfolding apart argument_rules argument_in
  argument_at_lem [] ts j e rest a r h = none_left j e rest h
  argument_at_lem (d ∷ es) [] j e rest a r h = never r
  argument_at_lem (d ∷ es) (t ∷ ts) zero e rest a r h =
      let g : d ≡ e = cc in
      let b : same d.keyword e.keyword ≡ true = rw g (same_refl e.keyword) in
      rw b
  argument_at_lem (d ∷ es) (t ∷ ts) (suc j) e rest a r h =
      let b : same d.keyword e.keyword ≡ false = not-true (same d.keyword e.keyword) (of_entry (λ f. not (same d.keyword f.keyword)) es j e rest (and_l (every_entry (λ f. not (same d.keyword f.keyword)) es) (apart es) a) h) in
      rw b
      (argument_at_lem es ts j e rest (and_r (every_entry (λ f. not (same d.keyword f.keyword)) es) (apart es) a) (and_r (meets R d.rule t) (argument_rules R es ts) r) h)

-- The second of three arguments is a bonus, the third a multiplier.
module _ (R : Rules) (t : Text) (m : meets R count_bonus_multiplier t ≡ true) where
  bonus_kept : value_by (bonus R) (part 1 t) ≡ value (part 1 t)
  unfolding value_by meets part
  bonus_kept = rw (so (bonus R (part 1 t)) (each_at (count R ∷ bonus R ∷ multiplier R ∷ []) (parts t) 1 (holds m)))

  multiplier_kept : value_by (multiplier R) (part 2 t) ≡ value (part 2 t)
  unfolding value_by meets part
  multiplier_kept = rw (so (multiplier R (part 2 t)) (each_at (count R ∷ bonus R ∷ multiplier R ∷ []) (parts t) 2 (holds m)))

-- What is told of the declared bonuses and multipliers is true of these.
pub record Declares (d : Declared) (of : Judged) : Type 0 where
  pub squarebonus : d.squarebonus ≡ of.square_bonus
  pub squaremultiplier : d.squaremultiplier ≡ of.square_multiplier
  pub exchangebonus : d.exchangebonus ≡ of.exchange_bonus
  pub exchangemultiplier : d.exchangemultiplier ≡ of.exchange_multiplier
  pub countrybonus : d.countrybonus ≡ of.country_bonus
  pub countrymultiplier : d.countrymultiplier ≡ of.country_multiplier

module _ (R : Rules) (s : Text) (log : Log) (w : read R s ≡ accepted log) where
  pub is_valid : T (valid R log)
  is_valid = ((accepted_when_written R s log).0 w).0

  pub is_written_lem : render log ≡ s
  is_written_lem = ((accepted_when_written R s log).0 w).1

  pub ruled : argument_rules R entries log.arguments ≡ true
  ruled = (of_valid R log (so (valid R log) is_valid)).rules_of_arguments

  spelt : keyword_rules entries log.keywords ≡ true
  spelt = (of_valid R log (so (valid R log) is_valid)).spellings

  many : length log.keywords ≡ length log.arguments
  many = spelling_count entries log.keywords spelt ∙ sym (argument_count R entries log.arguments ruled)

  -- The keyword at a place of the table, and its line, one further on.
  module _ (j : ℕ) (e : Entry) (rest : List Entry) (h : drop j entries ≡ e ∷ rest) where
    line_there : suc j < length (lines_of log)
    line_there =
        let n : length entries - j ≡ suc (length rest) = sym (length-drop j entries) ∙ ap length h in
        omega (arith, ap length (lines_opened log), length-append (keyword_lines log.keywords log.arguments) (behind_keywords log), keyword_count log.keywords log.arguments many, spelling_count entries log.keywords spelt)

    -- The keyword as it stands there.
    abbrev word : Text
    word = get_or log.keywords j []

    spelt_so : same_but_case e.keyword word ≡ true
    spelt_so = spelling_kept R entries log.keywords j e rest spelt h

    line_is : line_text_at s (line_start s (suc j)) ≡ keyword_start word ++ get_or log.arguments j []
    line_is =
        let n : length entries - j ≡ suc (length rest) = sym (length-drop j entries) ∙ ap length h in
        text_of_line R s log is_valid is_written_lem (suc j) line_there
        ∙ ap (λ (ls : List Text). get_or ls (suc j) []) (lines_opened log)
        ∙ keyword_line_lem R log.keywords log.arguments (behind_keywords log) j many (omega (arith, spelling_count entries log.keywords spelt))

    six : length (keyword_start e.keyword) ≡ 6
    six = omega (arith, length_start e.keyword, eq-of-test (length e.keyword) 5 (of_entry (λ d. eqb (length d.keyword) 5) entries j e rest five h))

    word_six : length (keyword_start word) ≡ 6
    word_six = omega (arith, six, length_start e.keyword, length_start word, case_length e.keyword word spelt_so)

    -- It is spelt as it is listed where the line begins so.
    keyword_told : begins (listed_at j) (line_text_at s (line_start s (suc j))) ≡ same e.keyword word
    keyword_told =
        let t = get_or log.arguments j [] in
        ap₂ begins (listed_entry j e rest h) line_is
        ∙ listed_spelt e (keyword_start word ++ t) (keyword_had e word t spelt_so)
        ∙ ap (same e.keyword) (spelling_on_lem e word t spelt_so)

    argument_is : argument log e.keyword ≡ get_or log.arguments j []
    unfolding argument
    argument_is = argument_at_lem R entries log.arguments j e rest all_apart ruled h

    held : argument_at s (suc j) ≡ argument log e.keyword
    unfolding argument_on
    held =
        ap (drop 6) line_is ∙ drop_at (keyword_start word) (get_or log.arguments j []) 6 word_six ∙ sym argument_is

    starts : line_start s (suc j) + 6 ≡ argument_start log (suc j) e
    unfolding argument_start
    starts = omega (arith, start_of_line R s log is_valid is_written_lem (suc j) (omega (arith, line_there)), six)

    inside : min (line_start s (suc j)) (length s) ≡ line_start s (suc j)
    inside = line_inside R s log is_valid is_written_lem (suc j) (omega (arith, line_there))

    line_long : length (line_text_at s (line_start s (suc j))) ≡ 6 + length (get_or log.arguments j [])
    line_long = ap length line_is ∙ length-append (keyword_start word) (get_or log.arguments j []) ∙ ap (λ (n : ℕ). n + length (get_or log.arguments j [])) word_six

    within : line_start s (suc j) + 6 + length (argument_at s (suc j)) ≤ length s
    unfolding argument_on line_text_at
    within =
        omega (
          arith,
          line_long,
          length-drop 6 (line_text_at s (line_start s (suc j))),
          length-take (span allowed (drop (line_start s (suc j)) s)) (drop (line_start s (suc j)) s),
          length-drop (line_start s (suc j)) s,
          inside,
        )

    kept : meets R e.rule (argument log e.keyword) ≡ true
    kept = rw argument_is (rule_kept R entries log.arguments j e rest ruled h)

    three_held : e.rule ≡ count_bonus_multiplier → (value_by (bonus R) (part 1 (argument_at s (suc j))) ≡ value (part 1 (argument log e.keyword))) × (value_by (multiplier R) (part 2 (argument_at s (suc j))) ≡ value (part 2 (argument log e.keyword)))
    three_held g =
        let m : meets R count_bonus_multiplier (argument log e.keyword) ≡ true = rw g at kept in (
          ap (λ (t : Text). value_by (bonus R) (part 1 t)) held ∙ bonus_kept R (argument log e.keyword) m,
          ap (λ (t : Text). value_by (multiplier R) (part 2 t)) held ∙ multiplier_kept R (argument log e.keyword) m,
        )

  -- "A view is the named argument's part of the log": keywords are numbered from 1.
  module _ (k : ℕ) (e : Entry) (rest : List Entry) (p : 1 ≤ k) (h : drop (k - 1) entries ≡ e ∷ rest) where
    counted : suc (k - 1) ≡ k
    counted = omega arith

    pub argument_held : argument_at s k ≡ argument log e.keyword
    argument_held = rw counted at (held (k - 1) e rest h)

    pub argument_starts : line_start s k + 6 ≡ argument_start log k e
    argument_starts = rw counted at (starts (k - 1) e rest h)

    pub keyword_listed : begins (listed_at (k - 1)) (line_text_at s (line_start s k)) ≡ is_listed log k e
    unfolding is_listed
    keyword_listed = rw counted at (keyword_told (k - 1) e rest h)

    pub argument_inside : min (line_start s k) (length s) ≡ line_start s k
    argument_inside = rw counted at (inside (k - 1) e rest h)

    pub argument_within : line_start s k + 6 + length (argument_at s k) ≤ length s
    argument_within = rw counted at (within (k - 1) e rest h)

  -- The claims begin with keyword 27, and what stands so many lines behind it is as many keywords further.
  pub claims_line : claims_start log ≡ line_start s 27
  unfolding claims_start entries
  claims_line = sym (start_of_line R s log is_valid is_written_lem 27 (omega (arith, line_there 26 _ _ refl)))

  claims_argument : (i : ℕ) → argument_on s (claims_start log) i ≡ argument_at s (suc (26 + i))
  unfolding argument_on
  claims_argument i =
      let n : 27 + i ≡ suc (26 + i) = omega arith in
      ap (λ (at : ℕ). drop 6 (line_text_at s at)) (ap (λ (at : ℕ). line_on s at i) claims_line ∙ line_more s 0 27 i ∙ ap (line_start s) n)

  claims_held : (i : ℕ) (e : Entry) (rest : List Entry) → drop (26 + i) entries ≡ e ∷ rest → e.rule ≡ count_bonus_multiplier → (value_by (bonus R) (part 1 (argument_on s (claims_start log) i)) ≡ value (part 1 (argument log e.keyword))) × (value_by (multiplier R) (part 2 (argument_on s (claims_start log) i)) ≡ value (part 2 (argument log e.keyword)))
  claims_held i e rest h g = rw (claims_argument i) (three_held (26 + i) e rest h g)

  pub declared_held : Declares (declared_at R s (claims_start log)) (declared log)
  unfolding declared_at declared entries
  declared_held =
      let squares = claims_held 2 _ _ refl refl in
      let exchanges = claims_held 4 _ _ refl refl in
      let countries = claims_held 6 _ _ refl refl in
      record {
        squarebonus = squares.0;
        squaremultiplier = squares.1;
        exchangebonus = exchanges.0;
        exchangemultiplier = exchanges.1;
        countrybonus = countries.0;
        countrymultiplier = countries.1;
      }
