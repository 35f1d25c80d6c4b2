-- Putting each keyword as it is listed turns the lines of a log in any spelling into those of the listed one.
-- Assumes nothing.
use Prim.Native.Nat.{ℕ, zero, suc, ◌+◌, ◌≤◌, ◌<◌}
use native.Mathlib.Omega.{arith}
use mathlib.Core.Bool.{Bool, true, cond}
use mathlib.Core.List.{List, [], ◌∷◌, ◌++◌, append_assoc}
use mathlib.Core.Path.{◌≡◌, refl, sym, ap, ap₂, subst, subst₂, ◌∙◌}
use lib.Dec.{eqb}
use lib.ListN.{length, take, drop, length-append, drop_of_length-le}
use lib.Seq.{take-append_seam, drop-append_seam, drop-append-add}
use borrow.Author.Tests.{eqb-true, eq-eqb, ne_eqb}
use Rattle.header.specs.Header.{listed_at}
use Rattle.header.proofs.TableLaws.{word_length, listed_within, listed_entry}
use Rattle.places.proofs.HeaderHeld.{every_entry}
use Rattle.reader.specs.Contact.{between}
use Rattle.reader.proofs.DueLaws.{entry_at, entry_due, entries_length}
use Rattle.reader.proofs.RecordsHeld.{ended_append}
use Rattle.rules.proofs.Format.{render_law}
use Rattle.rules.proofs.LogLaws.{behind_keywords, lines_opened}
use Rattle.rules.proofs.SpellingLaws.{case_length, length_start, spelling_count, respelt_none}
use Rattle.rules.proofs.Tests.{never, and_l, and_r}
use Rattle.rules.proofs.TextLaws.{all_back, span_run}
use Rattle.rules.specs.Arguments.{Entry, entries, every}
use Rattle.rules.specs.Log.{Log, identifier, keyword_start, keyword_lines, keywords_of, respelt, keyword_rules, crlf, ended, render}
use Rattle.rules.specs.Demands.{spelt}
use Rattle.rules.specs.Text.{Text, all, allowed, span, same_but_case}
use Rattle.writer.specs.ClaimsText.{line_behind}
use Rattle.writer.specs.Respelling.{respelled, relisted, KeywordsLie}
use Rattle.writer.specs.Written.{written, Puts}
use Rattle.writer.proofs.WrittenLaws.{part_whole}

-- # One line

-- A text put in the place of one that is as long.
module _ (a u v b : Text) (same : length u ≡ length v) where
  put_there : written (a ++ (u ++ b)) (length a) v ≡ a ++ (v ++ b)
  unfolding written
  put_there =
      let front : take (length a) (a ++ (u ++ b)) ≡ a = take-append_seam a (u ++ b) in
      let back : drop (length a + length v) (a ++ (u ++ b)) ≡ b =
      drop-append-add a (u ++ b) (length v)
      ∙ ap (λ (n : ℕ). drop n (u ++ b)) (sym same)
      ∙ drop-append_seam u b in
      ap₂ (λ (x y : Text). x ++ v ++ y) front back ∙ append_assoc a v b

-- The line behind a keyword of six characters with its `=`, and an argument of allowed characters.
module _ (a v t y : Text) (six : length v ≡ 6) (r : all allowed t ≡ true) where
  next_line : line_behind (a ++ (v ++ (t ++ (crlf ++ y)))) (length a + 6) ≡ length (a ++ ((v ++ t) ++ crlf))
  unfolding line_behind crlf
  next_line =
      let there : drop (length a + 6) (a ++ (v ++ (t ++ (13 ∷ 10 ∷ y)))) ≡ t ++ (13 ∷ 10 ∷ y) =
      drop-append-add a (v ++ (t ++ (13 ∷ 10 ∷ y))) 6
      ∙ ap (λ (n : ℕ). drop n (v ++ (t ++ (13 ∷ 10 ∷ y)))) (sym six)
      ∙ drop-append_seam v (t ++ (13 ∷ 10 ∷ y)) in
      let run : span allowed (t ++ (13 ∷ 10 ∷ y)) ≡ length t = span_run allowed t 13 (10 ∷ y) r refl in
      ap (λ (s : Text). length a + 6 + span allowed s + 2) there
      ∙ omega (
        arith,
        run,
        six,
        length-append a ((v ++ t) ++ (13 ∷ 10 ∷ [])),
        length-append (v ++ t) (13 ∷ 10 ∷ []),
        length-append v t,
      )

-- # The lines of all keywords

-- A keyword has five characters.
abbrev five : Entry → Bool
five e = eqb (length e.keyword) 5

all_five : every_entry five entries ≡ true
unfolding every_entry entries
all_five = refl

module _ (z : Text) where
  -- A text of lines of keywords, behind what stands in front of them.
  abbrev lines_on : Text → List Text → List Text → Text
  lines_on a ws ts = a ++ (ended (keyword_lines ws ts) ++ z)

  -- The first of them by its parts, and behind what stands in front.
  opened : (a x t : Text) (ws ts : List Text) → lines_on a (x ∷ ws) (t ∷ ts) ≡ a ++ (keyword_start x ++ (t ++ (crlf ++ (ended (keyword_lines ws ts) ++ z))))
  unfolding keyword_lines ended
  opened a x t ws ts = simp append_assoc

  passed : (a x t : Text) (ws ts : List Text) → lines_on (a ++ ((keyword_start x ++ t) ++ crlf)) ws ts ≡ a ++ (keyword_start x ++ (t ++ (crlf ++ (ended (keyword_lines ws ts) ++ z))))
  passed a x t ws ts = simp append_assoc

  -- The first of them, with its keyword as it is listed, belongs to what stands in front of the others.
  module _ (a : Text) (e : Entry) (w t : Text) (ws ts : List Text) (f : five e ≡ true) (c : same_but_case e.keyword w ≡ true) (r : all allowed (keyword_start w ++ t) ≡ true) where
    abbrev word : Text
    word = keyword_start e.keyword

    abbrev further : Text
    further = ended (keyword_lines ws ts) ++ z

    abbrev first : Text
    first = a ++ ((word ++ t) ++ crlf)

    word_six : length word ≡ 6
    word_six = omega (arith, length_start e.keyword, eqb-true (length e.keyword) 5 f)

    as_long : length (keyword_start w) ≡ length word
    as_long = omega (arith, length_start e.keyword, length_start w, case_length e.keyword w c)

    put_first : written (lines_on a (w ∷ ws) (t ∷ ts)) (length a) word ≡ a ++ (word ++ (t ++ (crlf ++ further)))
    put_first = ap (λ (s : Text). written s (length a) word) (opened a w t ws ts) ∙ put_there a (keyword_start w) word (t ++ (crlf ++ further)) as_long

    allowed_there : all allowed t ≡ true
    allowed_there = all_back allowed (keyword_start w) t r

    behind_first : line_behind (written (lines_on a (w ∷ ws) (t ∷ ts)) (length a) word) (length a + 6) ≡ length first
    behind_first = ap (λ (s : Text). line_behind s (length a + 6)) put_first ∙ next_line a word t further word_six allowed_there

    joined_first : written (lines_on a (w ∷ ws) (t ∷ ts)) (length a) word ≡ lines_on first ws ts
    joined_first = put_first ∙ sym (passed a e.keyword t ws ts)

    room : length a + 6 ≤ length (lines_on a (w ∷ ws) (t ∷ ts))
    room =
        omega (
          arith,
          word_six,
          as_long,
          ap length (opened a w t ws ts),
          length-append a (keyword_start w ++ (t ++ (crlf ++ further))),
          length-append (keyword_start w) (t ++ (crlf ++ further)),
        )

  respelled_lines : (es : List Entry) (a : Text) (ws ts : List Text) → every_entry five es ≡ true → keyword_rules es ws ≡ true → length ts ≡ length ws → every (all allowed) (keyword_lines ws ts) ≡ true
      → (respelled es (length a) (lines_on a ws ts) ≡ lines_on a (keywords_of es) ts) × KeywordsLie es (length a) (lines_on a ws ts)
  unfolding every_entry keyword_rules keyword_lines every keywords_of respelled KeywordsLie
  respelled_lines [] a [] ts f c n r = (refl, tt)
  respelled_lines [] a (w ∷ ws) ts f c n r = never c
  respelled_lines (e ∷ es) a [] ts f c n r = never c
  respelled_lines (e ∷ es) a (w ∷ ws) [] f c n r = absurd (omega arith)
  respelled_lines (e ∷ es) a (w ∷ ws) (t ∷ ts) f c n r =
      let f₁ = and_l (five e) (every_entry five es) f in
      let c₁ = and_l (same_but_case e.keyword w) (keyword_rules es ws) c in
      let r₁ = and_l (all allowed (keyword_start w ++ t)) (every (all allowed) (keyword_lines ws ts)) r in
      let next = first a e w t ws ts f₁ c₁ r₁ in
      let more = respelled_lines es next ws ts (and_r (five e) (every_entry five es) f) (and_r (same_but_case e.keyword w) (keyword_rules es ws) c) (omega arith) (and_r (all allowed (keyword_start w ++ t)) (every (all allowed) (keyword_lines ws ts)) r) in
      let there = behind_first a e w t ws ts f₁ c₁ r₁ in
      let text = joined_first a e w t ws ts f₁ c₁ r₁ in (
        ap₂ (λ (n : ℕ) (s : Text). respelled es n s) there text ∙ more.0 ∙ passed a e.keyword t (keywords_of es) ts ∙ sym (opened a e.keyword t (keywords_of es) ts),
        (
          room a e w t ws ts f₁ c₁ r₁,
          subst₂ (λ (n : ℕ) (s : Text). KeywordsLie es n s) (sym there) (sym text) more.1,
        ),
      )

-- # By how many are respelt

relisted_law : (count : ℕ) (s : Text) → relisted count s ≡ cond (eqb count 0) s (respelled entries 14 s)
unfolding relisted
relisted_law count s = refl

pub relisted_none : (count : ℕ) (s : Text) → count ≡ 0 → s ≡ relisted count s
relisted_none count s e = sym (relisted_law count s ∙ ap (λ (b : Bool). cond b s (respelled entries 14 s)) (eq-eqb count 0 e))

pub relisted_some : (count : ℕ) (s : Text) → (count ≡ 0 → ⊥) → respelled entries 14 s ≡ relisted count s
relisted_some count s f = sym (relisted_law count s ∙ ap (λ (b : Bool). cond b s (respelled entries 14 s)) (ne_eqb count 0 f))

-- # Line by line

-- The keyword that is handed out is that of the entry.
listed_word : (k : ℕ) → k < 36 → listed_at k ≡ keyword_start (entry_at k).keyword
listed_word k h = listed_entry k (entry_at k) (drop (suc k) entries) (entry_due k h)

pub listed_six : (k : ℕ) → k < 36 → length (listed_at k) ≡ 6
listed_six k h = ap length (sym (listed_within k h [])) ∙ sym (word_length k [] h)

all_put : (at : ℕ) (s : Text) (es : List Entry) → es ≡ [] → respelled es at s ≡ s
unfolding respelled
all_put at s es e = ap (λ (fs : List Entry). respelled fs at s) e

pub respelled_done : (k at : ℕ) (s : Text) → 36 ≤ k → respelled (drop k entries) at s ≡ s
respelled_done k at s h = all_put at s (drop k entries) (drop_of_length-le entries {i = k} (omega (arith, entries_length)))

module _ (at : ℕ) (s : Text) (e : Entry) (es : List Entry) where
  first_put : respelled (e ∷ es) at s ≡ respelled es (line_behind (written s at (keyword_start e.keyword)) (at + 6)) (written s at (keyword_start e.keyword))
  unfolding respelled
  first_put = refl

  first_lies : KeywordsLie (e ∷ es) at s → (at + 6 ≤ length s) × KeywordsLie es (line_behind (written s at (keyword_start e.keyword)) (at + 6)) (written s at (keyword_start e.keyword))
  unfolding KeywordsLie
  first_lies l = l

module _ (k at : ℕ) (s : Text) (h : k < 36) (l : KeywordsLie (drop k entries) at s) where
  lies : (at + 6 ≤ length s) × KeywordsLie (drop (suc k) entries) (line_behind (written s at (keyword_start (entry_at k).keyword)) (at + 6)) (written s at (keyword_start (entry_at k).keyword))
  lies = first_lies at s (entry_at k) (drop (suc k) entries) (subst (λ (es : List Entry). KeywordsLie es at s) (entry_due k h) l)

  pub keyword_room : at + 6 ≤ length s
  keyword_room = lies.0

  -- The keyword was put, and the next line was found.
  module _ {word s' : List ℕ} {argument next : ℕ} (w : word ≡ listed_at k) (p : Puts s at (between word 0 6) s' argument) (q : next ≡ line_behind s' argument) where
    abbrev due : Text
    due = keyword_start (entry_at k).keyword

    due_six : length due ≡ 6
    due_six = ap length (sym (listed_word k h)) ∙ listed_six k h

    word_is : between word 0 6 ≡ due
    word_is =
        ap (λ (t : Text). between t 0 6) (w ∙ listed_word k h)
        ∙ ap (λ (n : ℕ). between due 0 n) (sym due_six)
        ∙ part_whole due

    list_is : s' ≡ written s at due
    list_is = p.list ∙ ap (written s at) word_is

    next_is : next ≡ line_behind (written s at due) (at + 6)
    next_is =
        let place : argument ≡ at + 6 = p.place ∙ ap (λ (t : Text). at + length t) word_is ∙ ap (λ (n : ℕ). at + n) due_six in
        q ∙ ap₂ (λ (t : Text) (n : ℕ). line_behind t n) list_is place

    one : suc k ≡ k + 1
    one = omega arith

    pub respelled_more : respelled (drop k entries) at s ≡ respelled (drop (k + 1) entries) next s'
    respelled_more =
        ap (λ (es : List Entry). respelled es at s) (entry_due k h)
        ∙ first_put at s (entry_at k) (drop (suc k) entries)
        ∙ ap (λ (n : ℕ). respelled (drop n entries) (line_behind (written s at due) (at + 6)) (written s at due)) one
        ∙ ap₂ (λ (n : ℕ) (t : Text). respelled (drop (k + 1) entries) n t) (sym next_is) (sym list_is)

    pub lie_more : KeywordsLie (drop (k + 1) entries) next s'
    lie_more =
        subst (λ (n : ℕ). KeywordsLie (drop n entries) next s') one
        (subst₂ (λ (n : ℕ) (t : Text). KeywordsLie (drop (suc k) entries) n t) (sym next_is) (sym list_is) lies.1)

-- # The log

module _ (log : Log) (rest : Text) where
  -- What stands in front of the keywords has fourteen characters.
  abbrev opening : Text
  opening = ended (identifier ∷ [])

  opening_length : length opening ≡ 14
  unfolding identifier ended crlf
  opening_length = refl

  -- The text of the log in a spelling, by the lines of its keywords.
  text_is : (ws : List Text) → render (spelt ws log) ++ rest ≡ lines_on (ended (behind_keywords log) ++ rest) opening ws log.arguments
  text_is ws =
      ap (λ (t : Text). t ++ rest) (render_law (spelt ws log) ∙ ap ended (lines_opened (spelt ws log)) ∙ ended_append (identifier ∷ []) (keyword_lines ws log.arguments ++ behind_keywords log) ∙ ap (λ (t : Text). opening ++ t) (ended_append (keyword_lines ws log.arguments) (behind_keywords log)))
      ∙ simp append_assoc

  module _ (ws : List Text) (c : keyword_rules entries ws ≡ true) (n : length log.arguments ≡ length ws) (r : every (all allowed) (keyword_lines ws log.arguments) ≡ true) where
    respelled_both : (respelled entries (length opening) (lines_on (ended (behind_keywords log) ++ rest) opening ws log.arguments) ≡ lines_on (ended (behind_keywords log) ++ rest) opening (keywords_of entries) log.arguments) × KeywordsLie entries (length opening) (lines_on (ended (behind_keywords log) ++ rest) opening ws log.arguments)
    respelled_both = respelled_lines (ended (behind_keywords log) ++ rest) entries opening ws log.arguments all_five c n r

    respelled_log : respelled entries 14 (render (spelt ws log) ++ rest) ≡ render (spelt (keywords_of entries) log) ++ rest
    respelled_log =
        ap₂ (λ (k : ℕ) (s : Text). respelled entries k s) (sym opening_length) (text_is ws) ∙ respelled_both.0 ∙ sym (text_is (keywords_of entries))

    -- The lines of its keywords have room for them.
    pub keywords_lie : KeywordsLie entries 14 (render (spelt ws log) ++ rest)
    keywords_lie =
        subst₂ (λ (k : ℕ) (s : Text). KeywordsLie entries k s) opening_length (sym (text_is ws)) respelled_both.1

    -- Where as many as are respelt are told, the text becomes that of the log in the listed spelling.
    pub relisted_log : (count : ℕ) → count ≡ respelt entries ws → relisted count (render (spelt ws log) ++ rest) ≡ render (spelt (keywords_of entries) log) ++ rest
    relisted_log zero e =
        let listed : ws ≡ keywords_of entries = respelt_none entries ws (spelling_count entries ws c) (sym e) in
        sym (relisted_none 0 (render (spelt ws log) ++ rest) refl) ∙ ap (λ (vs : List Text). render (spelt vs log) ++ rest) listed
    relisted_log (suc count) e = sym (relisted_some (suc count) (render (spelt ws log) ++ rest) (λ z. omega arith)) ∙ respelled_log
