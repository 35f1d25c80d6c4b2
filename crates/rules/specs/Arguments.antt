-- "Shape of a log": the 36 keywords in the order of 001, the seventeen free and the nineteen forced arguments.
-- Assumes nothing.
use Rattle.std.specs.Prelude.{ℕ, Bool, true, false, ◌&&◌, ◌||◌, List, [], ◌∷◌, leb, get_or}
use Prim.Native.String.{String}
use Rattle.rules.specs.Text.{Text, bytes, same, empty, parts, value, number_of, number_from}
use Rattle.rules.specs.Rules.{Rules}
use Rattle.rules.specs.Fields.{call, empty_or, exchange, locator, long_date}

-- The rule of an argument, by what it holds.
pub data Rule : Type 0 where
  anything : Rule
  two_dates : Rule
  a_call : Rule
  empty_or_call : Rule
  empty_or_calls : Rule
  a_locator : Rule
  an_exchange : Rule
  a_band : Rule
  count_and_multiplier : Rule
  count_bonus_multiplier : Rule
  claimed_points : Rule
  claimed_bonus : Rule
  claimed_total : Rule
  best_contact : Rule

-- "A count is 0 to 9,999, a bonus 0 to 9,999, a multiplier 1 to 99."
unfoldable pub count : Rules → Text → Bool
unfolding number_from
count R = number_from 0 R.most_count

unfoldable pub bonus : Rules → Text → Bool
unfolding number_from
bonus R = number_from 0 R.most_bonus

unfoldable pub multiplier : Rules → Text → Bool
unfolding number_from
multiplier R = number_from 1 R.most_multiplier

-- As many texts as rules, and each text keeps the rule at its place.
unfoldable pub each : List (Text → Bool) → List Text → Bool
each [] [] = true
each [] (t ∷ ts) = false
each (rule ∷ rules) [] = false
each (rule ∷ rules) (t ∷ ts) = rule t && each rules ts

-- Every text keeps the rule.
unfoldable pub every : (Text → Bool) → List Text → Bool
every rule [] = true
every rule (t ∷ ts) = rule t && every rule ts

-- The text is one of these, "compared whole".
unfoldable pub among : List Text → Text → Bool
unfolding same
among [] t = false
among (name ∷ names) t = same name t || among names t

-- "Where one keyword has several arguments, exactly one `;` stands between each two": the argument at a place, from 0.
unfoldable pub part : ℕ → Text → Text
unfolding parts
part n t = get_or (parts t) n []

unfoldable pub meets : Rules → Rule → Text → Bool
unfolding each every among part parts value long_date call empty_or locator exchange count bonus multiplier number_of
meets R anything t = true
meets R two_dates t = each (long_date ∷ long_date ∷ []) (parts t) && leb (value (part 0 t)) (value (part 1 t))
meets R a_call t = call t
meets R empty_or_call t = empty_or call t
meets R empty_or_calls t = empty t || every call (parts t)
meets R a_locator t = locator t
meets R an_exchange t = exchange R t
meets R a_band t = among R.bands t
meets R count_and_multiplier t = each (count R ∷ multiplier R ∷ []) (parts t)
meets R count_bonus_multiplier t = each (count R ∷ bonus R ∷ multiplier R ∷ []) (parts t)
meets R claimed_points t = number_of R.claimed_points_digits t
meets R claimed_bonus t = number_of R.claimed_bonus_digits t
meets R claimed_total t = number_of R.claimed_total_digits t
meets R best_contact t = each (empty_or call ∷ empty_or locator ∷ number_of R.distance_digits ∷ []) (parts t)

-- A keyword and the rule of its argument.
pub record Entry : Type 0 where
  pub keyword : Text
  pub rule : Rule

abbrev entry : String → Rule → Entry
entry name rule = record { keyword = bytes name; rule = rule }

-- "the 36 keyword lines, once each, in the order and spelling of the format list of 001"
unfoldable pub entries : List Entry
entries =
    entry "TName" anything
    ∷ entry "TDate" two_dates
    ∷ entry "PCall" a_call
    ∷ entry "PWWLo" a_locator
    ∷ entry "PExch" an_exchange
    ∷ entry "PAdr1" anything
    ∷ entry "PAdr2" anything
    ∷ entry "PSect" anything
    ∷ entry "PBand" a_band
    ∷ entry "PClub" empty_or_call
    ∷ entry "RName" anything
    ∷ entry "RCall" empty_or_call
    ∷ entry "RAdr1" anything
    ∷ entry "RAdr2" anything
    ∷ entry "RPoCo" anything
    ∷ entry "RCity" anything
    ∷ entry "RCoun" anything
    ∷ entry "RPhon" anything
    ∷ entry "RHBBS" anything
    ∷ entry "MOpe1" empty_or_calls
    ∷ entry "MOpe2" empty_or_calls
    ∷ entry "STXEq" anything
    ∷ entry "SPowe" anything
    ∷ entry "SRXEq" anything
    ∷ entry "SAnte" anything
    ∷ entry "SAntH" anything
    ∷ entry "CQSOs" count_and_multiplier
    ∷ entry "CQSOP" claimed_points
    ∷ entry "CWWLs" count_bonus_multiplier
    ∷ entry "CWWLB" claimed_bonus
    ∷ entry "CExcs" count_bonus_multiplier
    ∷ entry "CExcB" claimed_bonus
    ∷ entry "CDXCs" count_bonus_multiplier
    ∷ entry "CDXCB" claimed_bonus
    ∷ entry "CToSc" claimed_total
    ∷ entry "CODXC" best_contact
    ∷ []
