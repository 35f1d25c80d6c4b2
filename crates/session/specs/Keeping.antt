-- W5: "After each of these the kept classes and totals are those that judging the records now present would give."
-- Assumes nothing.
use Rattle.std.specs.Prelude.{ℕ, ◌/◌, ◌≤◌, min, ◌≡◌, ◌⊎◌, true, length, take}
use mathlib.Core.List.{List, [], ◌∷◌, map, Memᴰ}
use Rattle.rules.specs.declared.Refusal.{Refusal}
use Rattle.rules.specs.Text.{Text}
use Rattle.rules.specs.Rules.{Rules}
use Rattle.rules.specs.Session.{Call, session, declared_rule, session_verdicts, session_totals, session_after, replies_to}
use Rattle.rules.specs.Session.{Session as Records}
use Rattle.rules.specs.Session as Asked
use Rattle.rules.specs.Demands.{AddUp}
use Rattle.places.specs.declared.Declared.{Declared}
use Rattle.judge.specs.Count.{as_declared}
use Rattle.session.specs.declared.Session.{Session}
use Rattle.session.specs.declared.Replied.{Replied}
use Rattle.session.specs.Session.{reachable, present, totals_now, kept_bytes, started, taken, verdicts_taken, kept_taken, given_back}

-- What the caller has between two calls: the session and the two slices.
pub record Holding : Type 0 where
  pub numbers : Session
  pub verdicts : List ℕ
  pub kept : List ℕ

-- How many records the slices have room for.
abbrev pub room_of : Holding → ℕ
room_of h = min (length h.verdicts) (length h.kept / kept_bytes)

-- A call of one of the three functions.
pub data Calling : Type 0 where
  starting : Declared → Calling
  taking : Text → Calling
  giving_back : Calling

unfoldable pub call_of : Calling → Call
unfolding as_declared
call_of (starting d) = Asked.starts (as_declared d)
call_of (taking l) = Asked.takes l
call_of giving_back = Asked.gives_back

-- What it answers, and what the caller has afterwards: the slices are lent unaltered to each call.
unfoldable pub replied_to : Rules → Holding → Calling → Replied
unfolding started taken given_back
replied_to R h (starting d) = started R h.numbers d
replied_to R h (taking l) = taken R h.numbers l h.verdicts h.kept
replied_to R h giving_back = given_back R h.numbers h.verdicts h.kept

unfoldable pub verdicts_after : Rules → Holding → Calling → List ℕ
unfolding verdicts_taken
verdicts_after R h (starting d) = h.verdicts
verdicts_after R h (taking l) = verdicts_taken R h.numbers l h.verdicts h.kept
verdicts_after R h giving_back = h.verdicts

unfoldable pub kept_after : Rules → Holding → Calling → List ℕ
unfolding kept_taken
kept_after R h (starting d) = h.kept
kept_after R h (taking l) = kept_taken R h.numbers l h.verdicts h.kept
kept_after R h giving_back = h.kept

unfoldable pub holding_after : Rules → Holding → Calling → Holding
unfolding replied_to verdicts_after kept_after
holding_after R h c =
    record {
      numbers = (replied_to R h c).session;
      verdicts = verdicts_after R h c;
      kept = kept_after R h c;
    }

-- The same of calls one behind the other.
unfoldable pub holding_after_all : Rules → Holding → List Calling → Holding
unfolding holding_after
holding_after_all R h [] = h
holding_after_all R h (c ∷ cs) = holding_after_all R (holding_after R h c) cs

unfoldable pub refusals_of : Rules → Holding → List Calling → List Refusal
unfolding replied_to holding_after
refusals_of R h [] = []
refusals_of R h (c ∷ cs) = (replied_to R h c).refusal ∷ refusals_of R (holding_after R h c) cs

-- The caller has what judging these records gives: as many, their verdicts in front of the slice, and their totals; and such numbers are none of those
-- that are said to be out of reach.
pub record Agrees (R : Rules) (h : Holding) (s : Records) : Type 0 where
  pub reached : reachable R h.numbers ≡ true
  pub count : present h.numbers ≡ length s.records
  pub verdicts_are : take (length s.records) h.verdicts ≡ session_verdicts R s
  pub totals_are : totals_now R h.numbers ≡ session_totals R s

-- After a start and any calls the caller has what judging the records now present gives, those taken less those given back, and each call was
-- answered as document 02 says.
abbrev pub KeptAsJudged : Rules → Type 0
KeptAsJudged R =
    (h : Holding) (d : Declared) (cs : List Calling) → declared_rule R (as_declared d) ≡ true →
    let begun = holding_after R h (starting d) in
    let records = session (as_declared d) [] in
    Agrees R (holding_after_all R begun cs) (session_after R (room_of h) records (map call_of cs))
    × (refusals_of R begun cs ≡ map (λ r. r.refusal) (replies_to R (room_of h) records (map call_of cs)))

-- Whatever the caller has: a call that is refused leaves all of it as it was.
abbrev pub RefusedLeaves : Rules → Type 0
RefusedLeaves R = (h : Holding) (c : Calling) → ((replied_to R h c).refusal.number ≡ 0 → ⊥) → holding_after R h c ≡ h

-- "line 0: 4 at the start ..; 5 bad record; then 11 session full; 12 nothing to give back": no call is refused by another number, and a field is told
-- with 5 alone.
abbrev pub numbers_for : Calling → List ℕ
numbers_for (starting d) = 4 ∷ []
numbers_for (taking l) = 5 ∷ 11 ∷ []
numbers_for giving_back = 12 ∷ []

pub record ToldFor (c : Calling) (r : Refusal) : Type 0 where
  pub number : (r.number ≡ 0) ⊎ Memᴰ r.number (numbers_for c)
  pub no_line : r.line ≡ 0
  pub no_field : (r.number ≡ 5 → ⊥) → r.field ≡ 0
  pub a_field : r.field ≤ 15

abbrev pub RefusedByNumber : Rules → Type 0
RefusedByNumber R = (h : Holding) (c : Calling) → ToldFor c (replied_to R h c).refusal

-- "Starting anew forgets all": what is declared is all that a start leaves of a session.
abbrev pub StartingForgets : Rules → Type 0
StartingForgets R =
    (h g : Holding) (d : Declared) → declared_rule R (as_declared d) ≡ true → (replied_to R h (starting d)) ≡ (replied_to R g (starting d))

-- W4: "They add up to the credited count wherever totals are made or kept": in a session, whatever its numbers are.
abbrev pub KeptModesAddUp : Rules → Type 0
KeptModesAddUp R = (s : Session) → AddUp (totals_now R s)

-- All of it, of rules by which everything fits its bytes.
pub record TheSessionKeeps (R : Rules) : Type 0 where
  pub kept_as_judged : KeptAsJudged R
  pub refused_leaves : RefusedLeaves R
  pub refused_by_number : RefusedByNumber R
  pub starting_forgets : StartingForgets R
  pub kept_modes_add_up : KeptModesAddUp R
