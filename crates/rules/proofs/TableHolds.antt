-- Every case of the table is answered as it says. The checker has a limit on what one declaration computes, so each part of the table is
-- computed by itself, and one statement joins them.
-- Assumes nothing.
use Prim.Native.Nat.{ℕ}
use mathlib.Core.Path.{◌≡◌, refl, sym, ap, ◌∙◌}
use mathlib.Core.Logic.{⊎_elim}
use mathlib.Core.List.Memᴰ
use mathlib.Core.List.{List, [], ◌∷◌, ◌++◌, map, Memᴰ, head-eq_of_cons-eq, tail-eq_of_cons-eq}
use Rattle.rules.specs.Cases.{Case, answer}
use Rattle.rules.specs.TableArguments.{line_cases, argument_cases, argument_character_cases, band_cases, keyword_cases, due_cases, spelling_cases}
use Rattle.rules.specs.TableFields.{field_cases, field_character_cases, calendar_cases}
use Rattle.rules.specs.TableLogs.{case12_cases, reading_cases, lending_cases, old_spelling_cases, square_cases, wrong_turn_cases, second_try_cases, mode_cases, wide_cases, striking_cases, sameness_cases, value_cases, limit_cases}
use Rattle.rules.specs.TableMending.{line_end_cases, space_cases, count_cases, place_cases, mended_cases, mending_refused_cases, mending_room_cases, mending_limit_cases}
use Rattle.rules.specs.TableSession.{taking_cases, giving_cases, session_refused_cases}
use Rattle.rules.specs.TableLink.{cut_cases, link_refused_cases, link_lent_cases}
use Rattle.rules.specs.Table.{table}

-- Each case of the list is answered as it says.
abbrev pub Holds : List Case → Type 0
Holds cs = (c : Case) → Memᴰ c cs → answer c.asked ≡ c.says

abbrev answers : List Case → List (List ℕ)
answers cs = map (λ c. answer c.asked) cs

abbrev says : List Case → List (List ℕ)
says cs = map (λ c. c.says) cs

-- What is computed of a part holds of each of its cases.
computed : (cs : List Case) → answers cs ≡ says cs → Holds cs
computed (d ∷ cs) e c (Memᴰ.head p) =
    ap (λ (x : Case). answer x.asked) p ∙ head-eq_of_cons-eq e ∙ sym (ap (λ (x : Case). x.says) p)
computed (d ∷ cs) e c (Memᴰ.tail m) = computed cs (tail-eq_of_cons-eq e) c m
computed [] e c x'' = elim x'' [ ]

infixl 20 ◌also◌
◌also◌ : {a b : List Case} → Holds a → Holds b → Holds (a ++ b)
◌also◌ {a} {b} f g c m = ⊎_elim (f c) (g c) (Memᴰ.append_cases a m)

line_cases_hold : answers line_cases ≡ says line_cases
unfolding answer line_cases
line_cases_hold = refl

argument_cases_hold : answers argument_cases ≡ says argument_cases
unfolding answer argument_cases
argument_cases_hold = refl

argument_character_cases_hold : answers argument_character_cases ≡ says argument_character_cases
unfolding answer argument_character_cases
argument_character_cases_hold = refl

band_cases_hold : answers band_cases ≡ says band_cases
unfolding answer band_cases
band_cases_hold = refl

keyword_cases_hold : answers keyword_cases ≡ says keyword_cases
unfolding answer keyword_cases
keyword_cases_hold = refl

due_cases_hold : answers due_cases ≡ says due_cases
unfolding answer due_cases
due_cases_hold = refl

spelling_cases_hold : answers spelling_cases ≡ says spelling_cases
unfolding answer spelling_cases
spelling_cases_hold = refl

field_cases_hold : answers field_cases ≡ says field_cases
unfolding answer field_cases
field_cases_hold = refl

field_character_cases_hold : answers field_character_cases ≡ says field_character_cases
unfolding answer field_character_cases
field_character_cases_hold = refl

calendar_cases_hold : answers calendar_cases ≡ says calendar_cases
unfolding answer calendar_cases
calendar_cases_hold = refl

case12_cases_hold : answers case12_cases ≡ says case12_cases
unfolding answer case12_cases
case12_cases_hold = refl

reading_cases_hold : answers reading_cases ≡ says reading_cases
unfolding answer reading_cases
reading_cases_hold = refl

lending_cases_hold : answers lending_cases ≡ says lending_cases
unfolding answer lending_cases
lending_cases_hold = refl

old_spelling_cases_hold : answers old_spelling_cases ≡ says old_spelling_cases
unfolding answer old_spelling_cases
old_spelling_cases_hold = refl

square_cases_hold : answers square_cases ≡ says square_cases
unfolding answer square_cases
square_cases_hold = refl

wrong_turn_cases_hold : answers wrong_turn_cases ≡ says wrong_turn_cases
unfolding answer wrong_turn_cases
wrong_turn_cases_hold = refl

second_try_cases_hold : answers second_try_cases ≡ says second_try_cases
unfolding answer second_try_cases
second_try_cases_hold = refl

mode_cases_hold : answers mode_cases ≡ says mode_cases
unfolding answer mode_cases
mode_cases_hold = refl

wide_cases_hold : answers wide_cases ≡ says wide_cases
unfolding answer wide_cases
wide_cases_hold = refl

striking_cases_hold : answers striking_cases ≡ says striking_cases
unfolding answer striking_cases
striking_cases_hold = refl

sameness_cases_hold : answers sameness_cases ≡ says sameness_cases
unfolding answer sameness_cases
sameness_cases_hold = refl

value_cases_hold : answers value_cases ≡ says value_cases
unfolding answer value_cases
value_cases_hold = refl

limit_cases_hold : answers limit_cases ≡ says limit_cases
unfolding answer limit_cases
limit_cases_hold = refl

line_end_cases_hold : answers line_end_cases ≡ says line_end_cases
unfolding answer line_end_cases
line_end_cases_hold = refl

space_cases_hold : answers space_cases ≡ says space_cases
unfolding answer space_cases
space_cases_hold = refl

count_cases_hold : answers count_cases ≡ says count_cases
unfolding answer count_cases
count_cases_hold = refl

place_cases_hold : answers place_cases ≡ says place_cases
unfolding answer place_cases
place_cases_hold = refl

mended_cases_hold : answers mended_cases ≡ says mended_cases
unfolding answer mended_cases
mended_cases_hold = refl

mending_refused_cases_hold : answers mending_refused_cases ≡ says mending_refused_cases
unfolding answer mending_refused_cases
mending_refused_cases_hold = refl

mending_room_cases_hold : answers mending_room_cases ≡ says mending_room_cases
unfolding answer mending_room_cases
mending_room_cases_hold = refl

mending_limit_cases_hold : answers mending_limit_cases ≡ says mending_limit_cases
unfolding answer mending_limit_cases
mending_limit_cases_hold = refl

taking_cases_hold : answers taking_cases ≡ says taking_cases
unfolding answer taking_cases
taking_cases_hold = refl

giving_cases_hold : answers giving_cases ≡ says giving_cases
unfolding answer giving_cases
giving_cases_hold = refl

session_refused_cases_hold : answers session_refused_cases ≡ says session_refused_cases
unfolding answer session_refused_cases
session_refused_cases_hold = refl

cut_cases_hold : answers cut_cases ≡ says cut_cases
unfolding answer cut_cases
cut_cases_hold = refl

link_refused_cases_hold : answers link_refused_cases ≡ says link_refused_cases
unfolding answer link_refused_cases
link_refused_cases_hold = refl

link_lent_cases_hold : answers link_lent_cases ≡ says link_lent_cases
unfolding answer link_lent_cases
link_lent_cases_hold = refl

pub table_holds : Holds table
unfolding table
table_holds =
    computed line_cases line_cases_hold
    also computed argument_cases argument_cases_hold
    also computed argument_character_cases argument_character_cases_hold
    also computed band_cases band_cases_hold
    also computed keyword_cases keyword_cases_hold
    also computed due_cases due_cases_hold
    also computed spelling_cases spelling_cases_hold
    also computed field_cases field_cases_hold
    also computed field_character_cases field_character_cases_hold
    also computed calendar_cases calendar_cases_hold
    also computed case12_cases case12_cases_hold
    also computed reading_cases reading_cases_hold
    also computed lending_cases lending_cases_hold
    also computed old_spelling_cases old_spelling_cases_hold
    also computed square_cases square_cases_hold
    also computed wrong_turn_cases wrong_turn_cases_hold
    also computed second_try_cases second_try_cases_hold
    also computed mode_cases mode_cases_hold
    also computed wide_cases wide_cases_hold
    also computed striking_cases striking_cases_hold
    also computed sameness_cases sameness_cases_hold
    also computed value_cases value_cases_hold
    also computed limit_cases limit_cases_hold
    also computed line_end_cases line_end_cases_hold
    also computed space_cases space_cases_hold
    also computed count_cases count_cases_hold
    also computed place_cases place_cases_hold
    also computed mended_cases mended_cases_hold
    also computed mending_refused_cases mending_refused_cases_hold
    also computed mending_room_cases mending_room_cases_hold
    also computed mending_limit_cases mending_limit_cases_hold
    also computed taking_cases taking_cases_hold
    also computed giving_cases giving_cases_hold
    also computed session_refused_cases session_refused_cases_hold
    also computed cut_cases cut_cases_hold
    also computed link_refused_cases link_refused_cases_hold
    also computed link_lent_cases link_lent_cases_hold
