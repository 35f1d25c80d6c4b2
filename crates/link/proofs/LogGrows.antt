-- The log of a link with one line more.
-- Assumes nothing.
use Prim.Native.Nat.{ℕ}
use mathlib.Core.Path.{◌≡◌, refl, sym, ap, ◌∙◌}
use mathlib.Core.List.{List, [], ◌∷◌, ◌++◌, append_assoc}
use Rattle.rules.specs.declared.Due.{Due}
use Rattle.rules.specs.declared.Due.TheVariants.{Identifier, Keyword, Remarks, Remark, Record, End}
use Rattle.rules.specs.Text.{Text, parts}
use Rattle.rules.specs.Fields.{Qso, qso_of}
use Rattle.rules.specs.Log.{Log}
use Rattle.rules.specs.Reading.{with_line}
use Rattle.rules.specs.Link.{Finished, Link, goes_on, log_from, log_of}

abbrev no_log : Log
no_log = record { keywords = []; arguments = []; remarks = []; records = [] }

-- What a line brings alone: records, and arguments.
unfoldable pub records_on : Due → Text → List Qso
unfolding with_line
records_on due l = (with_line due l no_log).records

unfoldable pub arguments_on : Due → Text → List Text
unfolding with_line
arguments_on due l = (with_line due l no_log).arguments

-- A record's line brings its record alone.
pub record_on_lem : (n : ℕ) (l : Text) → records_on (Record n) l ≡ qso_of (parts l) ∷ []
unfolding records_on with_line
record_on_lem n l = refl

pub no_argument_on : (n : ℕ) (l : Text) → arguments_on (Record n) l ≡ []
unfolding arguments_on with_line
no_argument_on n l = refl

-- # One line more

-- A part of a log that is a list: each line puts what it brings in front of what those behind it do.
module _ {A : Type 0} (part : Log → List A) (of-nothing : part no_log ≡ []) (brings : (due : Due) (l : Text) (log : Log) → part (with_line due l log) ≡ part (with_line due l no_log) ++ part log) where
  part_from : (fs : List Finished) (log : Log) → part (log_from fs log) ≡ part (log_from fs no_log) ++ part log
  unfolding log_from
  part_from [] log = ap (λ (xs : List A). xs ++ part log) (sym of-nothing)
  part_from (f ∷ fs) log =
      let before = part (log_from fs no_log) in
      part_from fs (with_line f.due f.line log)
      ∙ ap (λ (xs : List A). before ++ xs) (brings f.due f.line log)
      ∙ sym (append_assoc before (part (with_line f.due f.line no_log)) (part log))
      ∙ ap (λ (xs : List A). xs ++ part log) (sym (part_from fs (with_line f.due f.line no_log)))

  part_grows : (k : Link) (l : Text) (next : Due) → part (log_of (goes_on k l next)) ≡ part (log_of k) ++ part (with_line k.due l no_log)
  unfolding log_of log_from goes_on
  part_grows k l next = part_from k.finished (with_line k.due l no_log)

line_records : (due : Due) (l : Text) (log : Log) → (with_line due l log).records ≡ (with_line due l no_log).records ++ log.records
unfolding with_line
line_records Identifier l log = refl
line_records (Keyword k) l log = refl
line_records Remarks l log = refl
line_records Remark l log = refl
line_records (Record n) l log = refl
line_records End l log = refl

line_arguments : (due : Due) (l : Text) (log : Log) → (with_line due l log).arguments ≡ (with_line due l no_log).arguments ++ log.arguments
unfolding with_line
line_arguments Identifier l log = refl
line_arguments (Keyword k) l log = refl
line_arguments Remarks l log = refl
line_arguments Remark l log = refl
line_arguments (Record n) l log = refl
line_arguments End l log = refl

-- The records of the lines that were taken, and the arguments.
abbrev pub records_of : Link → List Qso
records_of k = (log_of k).records

abbrev pub arguments_of : Link → List Text
arguments_of k = (log_of k).arguments

module _ (k : Link) (l : Text) (next : Due) where
  pub records_grow : records_of (goes_on k l next) ≡ records_of k ++ records_on k.due l
  unfolding records_on
  records_grow = part_grows (λ (log : Log). log.records) refl line_records k l next

  pub arguments_grow : arguments_of (goes_on k l next) ≡ arguments_of k ++ arguments_on k.due l
  unfolding arguments_on
  arguments_grow = part_grows (λ (log : Log). log.arguments) refl line_arguments k l next
