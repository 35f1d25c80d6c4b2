-- The totals as they grow: what one record adds, and what the declared bonuses and multipliers make of them at the end.
-- Assumes nothing.
use Rattle.std.specs.Prelude.{ℕ, ◌+◌, ◌-◌, ◌*◌, Bool, cond, List, [], ◌∷◌, eqb, get_or, set}
use Rattle.rules.specs.declared.Class.TheVariants.{Credited, Void, Duplicate, Error}
use Rattle.rules.specs.declared.Verdict.{Verdict}
use Rattle.rules.specs.declared.Modes.{Modes}
use Rattle.rules.specs.declared.Totals.{Totals}
use Rattle.rules.specs.Text.{digit, semicolon, value}
use Rattle.rules.specs.Fields.{Qso}
use Rattle.rules.specs.Judging.{is, Declared as DeclaredRates}
use Rattle.places.specs.declared.Declared.{Declared}
use Rattle.judge.specs.declared.Tally.{Tally}

-- What a test adds, if it holds.
abbrev pub worth_if : Bool → ℕ → ℕ
worth_if b n = cond b n 0

-- W4: which of the eleven a mode is, by the character at which its field begins: a code is counted at its own number, and a blank mode, which begins
-- with the semicolon behind it, last.
abbrev pub mode_place : ℕ → ℕ
mode_place c = cond (digit c) (c - 48) 10

unfoldable pub mode_of : Qso → ℕ
mode_of q = mode_place (get_or q.mode 0 semicolon)

-- The counts of a list, by their names.
unfoldable pub modes_in : List ℕ → Modes
modes_in l =
    record {
      code0 = get_or l 0 0;
      code1 = get_or l 1 0;
      code2 = get_or l 2 0;
      code3 = get_or l 3 0;
      code4 = get_or l 4 0;
      code5 = get_or l 5 0;
      code6 = get_or l 6 0;
      code7 = get_or l 7 0;
      code8 = get_or l 8 0;
      code9 = get_or l 9 0;
      blank = get_or l 10 0;
    }

-- The modes after one more credited record.
unfoldable pub add_mode : Modes → ℕ → Modes
add_mode m mode =
    record {
      code0 = worth_if (eqb mode 0) 1 + m.code0;
      code1 = worth_if (eqb mode 1) 1 + m.code1;
      code2 = worth_if (eqb mode 2) 1 + m.code2;
      code3 = worth_if (eqb mode 3) 1 + m.code3;
      code4 = worth_if (eqb mode 4) 1 + m.code4;
      code5 = worth_if (eqb mode 5) 1 + m.code5;
      code6 = worth_if (eqb mode 6) 1 + m.code6;
      code7 = worth_if (eqb mode 7) 1 + m.code7;
      code8 = worth_if (eqb mode 8) 1 + m.code8;
      code9 = worth_if (eqb mode 9) 1 + m.code9;
      blank = worth_if (eqb mode 10) 1 + m.blank;
    }

-- The same in a list: where the record is credited, one more at the place of its mode.
abbrev pub modes_after : List ℕ → ℕ → Verdict → List ℕ
modes_after l mode v = cond (is Credited v.class) (set l mode (1 + get_or l mode 0)) l

-- What the records come to so far: the sums, and the modes in a list beside them.
abbrev pub tallied : Tally → List ℕ → Totals
tallied t modes =
    record {
      credited = t.credited;
      voids = t.voids;
      duplicates = t.duplicates;
      errors = t.errors;
      points = t.points;
      squares = t.squares;
      exchanges = t.exchanges;
      countries = t.countries;
      squarebonus = 0;
      exchangebonus = 0;
      countrybonus = 0;
      total = 0;
      modes = modes_in modes;
    }

-- Of no record.
unfoldable pub no_tally : Tally
no_tally =
    record {
      credited = 0;
      voids = 0;
      duplicates = 0;
      errors = 0;
      points = 0;
      squares = 0;
      exchanges = 0;
      countries = 0;
    }

-- The totals after one more record: what it is worth, its mode, and what is said of it.
unfoldable pub add_record : Totals → ℕ → ℕ → Verdict → Totals
unfolding is add_mode
add_record t worth mode v =
    record {
      credited = worth_if (is Credited v.class) 1 + t.credited;
      voids = worth_if (is Void v.class) 1 + t.voids;
      duplicates = worth_if (is Duplicate v.class) 1 + t.duplicates;
      errors = worth_if (is Error v.class) 1 + t.errors;
      points = worth_if (is Credited v.class) worth + t.points;
      squares = worth_if v.square 1 + t.squares;
      exchanges = worth_if v.exchange 1 + t.exchanges;
      countries = worth_if v.country 1 + t.countries;
      squarebonus = t.squarebonus;
      exchangebonus = t.exchangebonus;
      countrybonus = t.countrybonus;
      total = t.total;
      modes = cond (is Credited v.class) (add_mode t.modes mode) t.modes;
    }

-- The totals after these records, of which these verdicts are told.
unfoldable pub add_records : Totals → List Qso → List Verdict → Totals
unfolding add_record value mode_of
add_records t [] vs = t
add_records t (q ∷ qs) [] = t
add_records t (q ∷ qs) (v ∷ vs) = add_records (add_record t (value q.points) (mode_of q) v) qs vs

-- The bonuses, and the total.
unfoldable pub closing : Totals → Declared → Totals
closing t d =
    record {
      credited = t.credited;
      voids = t.voids;
      duplicates = t.duplicates;
      errors = t.errors;
      points = t.points;
      squares = t.squares;
      exchanges = t.exchanges;
      countries = t.countries;
      squarebonus = t.squares * d.squarebonus;
      exchangebonus = t.exchanges * d.exchangebonus;
      countrybonus = t.countries * d.countrybonus;
      total =
          (t.points + t.squares * d.squarebonus + t.exchanges * d.exchangebonus + t.countries * d.countrybonus)
          * (d.squaremultiplier * d.exchangemultiplier * d.countrymultiplier);
      modes = t.modes;
    }

-- What a log declares, in the words of document 01's definitions.
unfoldable pub as_declared : Declared → DeclaredRates
as_declared d =
    record {
      square_bonus = d.squarebonus;
      square_multiplier = d.squaremultiplier;
      exchange_bonus = d.exchangebonus;
      exchange_multiplier = d.exchangemultiplier;
      country_bonus = d.countrybonus;
      country_multiplier = d.countrymultiplier;
    }
