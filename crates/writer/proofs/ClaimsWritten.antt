-- The text in front of an accepted log's records, with the claims counted again: the claims lie in order in front of the records, and what is
-- written is what writing back defines.
-- Assumes nothing.
use Prim.Native.Nat.{ℕ, suc, ◌+◌}
use native.Mathlib.Nat.{zero-add}
use native.Mathlib.Omega.{arith}
use mathlib.Core.Bool.{true}
use mathlib.Core.List.{List, [], ◌∷◌, ◌++◌, append_assoc}
use mathlib.Core.Path.{◌≡◌, refl, sym, ap, ◌∙◌}
use lib.Dec.{leb}
use lib.ListN.{length, take, drop, length-append, take-append-drop}
use lib.Seq.{take_at}
use Rattle.reader.proofs.RecordsHeld.{records_start, ended_append, records, header, split, starts, records_within}
use Rattle.reader.specs.Read.{claims_start}
use Rattle.rules.proofs.Format.{Rightly, of_valid, accepted_when_written}
use Rattle.rules.proofs.LogLaws.{every_append, every_front, every_back, every_others, digits_allowed, argument_count, front, lines_split}
use Rattle.rules.proofs.NumberLaws.{digits_all}
use Rattle.rules.proofs.SpellingLaws.{spelling_count}
use Rattle.rules.proofs.TextLaws.{all_append, all_front, all_drop}
use Rattle.rules.proofs.Tests.{so, and_l, and_r, and_i}
use Rattle.rules.specs.Arguments.{Entry, entries, every}
use Rattle.rules.specs.Log.{Log, identifier, remarks_line, count_line, keyword_lines, lines_of, ended, line_rule, valid}
use Rattle.rules.specs.Reading.{read, accepted}
use Rattle.rules.specs.Rules.{Rules}
use Rattle.rules.specs.Text.{Text, digit, allowed, all, span, digits}
use Rattle.rules.specs.Writing.{Claim, claims, written_arguments}
use Rattle.rules.specs.declared.Totals.{Totals}
use Rattle.writer.specs.ClaimsText.{claim_numbers, claim_starts, claim_ends, claims_text}
use Rattle.writer.specs.Given.{ClaimsLie}
use Rattle.writer.proofs.ClaimLines.{lines_before, lines_claiming, lines_behind, old_lines, new_lines_lem, before_count, claiming_count, claiming_keyworded, nine}
use Rattle.writer.proofs.NumberedLines.{behind_number, renumbered, renumbered_line, renumbered_lines, LinesStand, lines_lie, lines_renumbered}

-- Lines that keep the rule of lines have allowed characters alone, and so have they with other numbers.
rules_allowed : (R : Rules) (ls : List Text) → every (line_rule R) ls ≡ true → every (all allowed) ls ≡ true
unfolding every line_rule
rules_allowed R [] e = refl
rules_allowed R (l ∷ ls) e =
    let rule = line_rule R l in
    and_i (and_r (leb (length l) R.longest_line) (all allowed l) (and_l rule (every (line_rule R) ls) e)) (rules_allowed R ls (and_r rule (every (line_rule R) ls) e))

line_allowed : (n : ℕ) (l : Text) → all allowed l ≡ true → all allowed (renumbered_line n l) ≡ true
line_allowed n l h =
    all_append allowed (take 6 l) (renumbered n (drop 6 l))
    (all_front allowed (take 6 l) (drop 6 l) (rw (take-append-drop 6 l) h))
    (all_append allowed (digits n) (behind_number (drop 6 l)) (digits_allowed (digits n) (digits_all n)) (all_drop allowed (span digit (drop 6 l)) (drop 6 l) (all_drop allowed 6 l h)))

renumbered_allowed : (ns : List ℕ) (ls : List Text) → every (all allowed) ls ≡ true → every (all allowed) (renumbered_lines ns ls) ≡ true
unfolding every renumbered_lines
renumbered_allowed [] ls e = e
renumbered_allowed (n ∷ ns) [] e = e
renumbered_allowed (n ∷ ns) (l ∷ ls) e =
    and_i (line_allowed n l (and_l (all allowed l) (every (all allowed) ls) e)) (renumbered_allowed ns ls (and_r (all allowed l) (every (all allowed) ls) e))

length_written : (cs : List Claim) (es : List Entry) (ts : List Text) → length (written_arguments cs es ts) ≡ length ts
unfolding written_arguments
length_written cs [] ts = refl
length_written cs (e ∷ es) [] = refl
length_written cs (e ∷ es) (t ∷ ts) = ap suc (length_written cs es ts)

module _ (R : Rules) (s : Text) (log : Log) (w : read R s ≡ accepted log) where
  pub rightly : Rightly R log
  rightly = of_valid R log (so (valid R log) ((accepted_when_written R s log).0 w).0)

  -- The lines in front of the claims, those of the claims, and those behind them up to the count line.
  abbrev leading : List Text
  leading = identifier ∷ lines_before log.keywords log.arguments

  abbrev claiming : List Text
  claiming = lines_claiming log.keywords log.arguments

  abbrev trailing : List Text
  trailing =
      lines_behind log.keywords log.arguments ++ ((remarks_line ∷ log.remarks) ++ (count_line (length log.records) ∷ []))

  -- So they stand whatever the lines of the claims are.
  in_order : (ks ls : List Text) → ks ≡ lines_before log.keywords log.arguments ++ (ls ++ lines_behind log.keywords log.arguments)
      → (identifier ∷ ks) ++ (remarks_line ∷ log.remarks) ++ (count_line (length log.records) ∷ []) ≡ leading ++ (ls ++ trailing)
  in_order ks ls e = rw e (simp append_assoc)

  ended_in_order : (ls : List Text) → ended (leading ++ (ls ++ trailing)) ≡ ended leading ++ (ended ls ++ ended trailing)
  ended_in_order ls = ended_append leading (ls ++ trailing) ∙ ap (λ (t : Text). ended leading ++ t) (ended_append ls trailing)

  header_is : header log ≡ leading ++ (claiming ++ trailing)
  unfolding front
  header_is = in_order (keyword_lines log.keywords log.arguments) claiming (old_lines log.keywords log.arguments)

  header_text : ended (header log) ≡ ended leading ++ (ended claiming ++ ended trailing)
  header_text = ap ended header_is ∙ ended_in_order claiming

  -- The lines of the whole log.
  abbrev behind : List Text
  behind = claiming ++ (trailing ++ records log)

  lines_are_lem : lines_of log ≡ leading ++ behind
  lines_are_lem =
      lines_split log
      ∙ sym (append_assoc (front log) (count_line (length log.records) ∷ []) (records log))
      ∙ ap (λ (ls : List Text). ls ++ records log) header_is
      ∙ simp append_assoc

  -- There are nine claims, and the first one's line begins behind the 27 leading lines.
  nine_lines : length claiming ≡ 9
  nine_lines = claiming_count log.keywords log.arguments R rightly.spellings rightly.rules_of_arguments

  claims_start_lem : claims_start log ≡ 0 + length (ended leading)
  unfolding claims_start
  claims_start_lem =
      let n : length leading ≡ 27 = ap suc (before_count log.keywords log.arguments R rightly.spellings rightly.rules_of_arguments) in
      ap (λ (ls : List Text). length (ended ls)) (ap (take 27) lines_are_lem ∙ take_at leading behind 27 n)
      ∙ sym (zero-add (length (ended leading)))

  claims_stand : LinesStand R s (records_start s log) (ended trailing) (ended (records log)) 0 (ended leading) claiming
  claims_stand =
      record {
        rules =
            every_front (line_rule R) claiming (trailing ++ records log)
            (every_back (line_rule R) leading behind (rw lines_are_lem at rightly.line_rules));
        keywords = claiming_keyworded log.keywords log.arguments R rightly.spellings rightly.rules_of_arguments;
        there = split R s log w ∙ ap (λ (t : Text). t ++ ended (records log)) header_text ∙ simp append_assoc;
        places =
            omega (
              arith,
              starts R s log w,
              ap length header_text,
              length-append (ended leading) (ended claiming ++ ended trailing),
              length-append (ended claiming) (ended trailing),
            );
      }

  pub claims_lie : ClaimsLie s (records_start s log) (claim_starts s (claims_start log) 9) (claim_ends s (claims_start log) 9) 9
  claims_lie =
      rw claims_start_lem
      (rw nine_lines at (lines_lie R s (records_start s log) (ended trailing) (ended (records log)) claiming (ended leading) claims_stand (records_within R s log w)))

  module _ (t : Totals) where
    abbrev counted : List Text
    counted = renumbered_lines (claim_numbers t) claiming

    abbrev written : List Text
    written = written_arguments (claims digits t) entries log.arguments

    abbrev head_text : ℕ → ℕ → Text
    head_text line n = claims_text s (records_start s log) 0 (claim_starts s line n) (claim_ends s line n) (claim_numbers t)

    head_text_lem : head_text (claims_start log) 9 ≡ ended leading ++ (ended counted ++ ended trailing)
    head_text_lem =
        ap (head_text (claims_start log)) (sym (nine t))
        ∙ ap (λ (k : ℕ). head_text k (length (claim_numbers t))) claims_start_lem
        ∙ lines_renumbered R s (records_start s log) (ended trailing) (ended (records log)) (claim_numbers t) claiming 0 (ended leading) (nine_lines ∙ sym (nine t)) claims_stand

    pub head_written : head_text (claims_start log) 9
        ≡ ended (front (record { keywords = log.keywords; arguments = written_arguments (claims digits t) entries log.arguments; remarks = log.remarks; records = log.records }) ++ (count_line (length log.records) ∷ []))
    unfolding front
    head_written =
        head_text_lem
        ∙ sym (ended_in_order counted)
        ∙ ap ended (sym (in_order (keyword_lines log.keywords written) counted (new_lines_lem log.keywords log.arguments R rightly.spellings rightly.rules_of_arguments t)))

    -- Every line of a keyword that is written has allowed characters alone.
    lines_allowed : every (all allowed) (keyword_lines log.keywords log.arguments) ≡ true
    unfolding front
    lines_allowed =
        let k = keyword_lines log.keywords log.arguments in
        let f = every_front (line_rule R) (front log) (count_line (length log.records) ∷ records log) (rw (lines_split log) at rightly.line_rules) in
        rules_allowed R k (every_others (line_rule R) identifier k (every_front (line_rule R) (identifier ∷ k) (remarks_line ∷ log.remarks) f))

    pub written_allowed : every (all allowed) (keyword_lines log.keywords written) ≡ true
    written_allowed =
        let a = lines_before log.keywords log.arguments in
        let b = claiming in
        let c = lines_behind log.keywords log.arguments in
        let all_lines : every (all allowed) (a ++ (b ++ c)) ≡ true = rw (old_lines log.keywords log.arguments) at lines_allowed in
        let others = every_back (all allowed) a (b ++ c) all_lines in
        rw (new_lines_lem log.keywords log.arguments R rightly.spellings rightly.rules_of_arguments t)
        (every_append (all allowed) a (counted ++ c) (every_front (all allowed) a (b ++ c) all_lines)
        (every_append (all allowed) counted c (renumbered_allowed (claim_numbers t) b (every_front (all allowed) b c others)) (every_back (all allowed) b c others)))

    pub written_many : length written ≡ length log.keywords
    written_many =
        length_written (claims digits t) entries log.arguments
        ∙ argument_count R entries log.arguments rightly.rules_of_arguments
        ∙ sym (spelling_count entries log.keywords rightly.spellings)
