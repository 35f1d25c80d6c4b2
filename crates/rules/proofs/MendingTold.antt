-- What the mender tells of a text: the list is in order, and of each line it has the things that were done to it and no others.
-- Assumes nothing.
use Prim.Native.Nat.{ℕ, zero, suc, ◌+◌, ◌*◌, ◌≤◌, ◌<◌}
use mathlib.Core.Path.{◌≡◌, refl, sym, ap, subst, ◌∙◌}
use mathlib.Core.Logic.{◌⊎◌, inl, inr, ⊎_elim, ◌↔◌}
use mathlib.Core.Bool.{true, false}
use mathlib.Core.List.Memᴰ
use mathlib.Core.List.{List, [], ◌∷◌, ◌++◌, map, map-append, Memᴰ}
use lib.ListN.{length, get_or}
use native.Mathlib.Decide.{dec_lt}
use native.Mathlib.Omega.{arith}
use Rattle.rules.specs.declared.Region.{Region}
use Rattle.rules.specs.declared.Region.TheVariants.{Head, Remarks, Records}
use Rattle.rules.specs.Text.{Text, begins}
use Rattle.rules.specs.Log.{count_start}
use Rattle.rules.specs.Mending.{chewed_lines, MendedLine, end_done, end_mended, mended_lines, Change, changes_in, changes_from, changes}
use Rattle.rules.specs.MendingDemands.{line_texts, CountLineAt, RecordLineAt, Listed, LineIsTold, EachLineIsTold, ComesBefore, ListIsInOrder}
use Rattle.rules.proofs.Tests.{either}
use Rattle.rules.proofs.MendingLaws.{set_of_none, none_begun, set_to}
use Rattle.rules.proofs.MendingPlaces.{record_region, region_record, count_region, region_count}
use Rattle.rules.proofs.MendingDone.{Has, Within, within_lower, within_append, within_member, end_within, besides_within, end_one, end_two, besides_kinds, kind_three, kind_four, no_line, many_mended, many_texts, chewed, before, after, follow, region, mended_at, becomes, done, done_within, besides, kinds_of}

-- # The list

-- A change of a line has its number and a kind that was done to it, and each such is one.
in_line_lem : (n : ℕ) (c : Change) (ks : List ℕ) → Memᴰ c (changes_in n ks) → (c.line ≡ n) × Has c.kind ks
unfolding changes_in
in_line_lem n c [] m = absurd (Memᴰ.not-nil m)
in_line_lem n c (k ∷ ks) m = by (in_line_lem n c ks) (Memᴰ.cases_cons m)
  where
    by : (Memᴰ c (changes_in n ks) → (c.line ≡ n) × Has c.kind ks) → (c ≡ record { kind = k; line = n }) ⊎ Memᴰ c (changes_in n ks) → (c.line ≡ n) × Has c.kind (k ∷ ks)
    by more (inl e) = (ap (λ (x : Change). x.line) e, Memᴰ.head (ap (λ (x : Change). x.kind) e))
    by more (inr m) = let p = more m in (p.0, Memᴰ.tail p.1)

line_in_lem : (n k : ℕ) (ks : List ℕ) → Has k ks → Memᴰ {A = Change} (record { kind = k; line = n }) (changes_in n ks)
unfolding changes_in
line_in_lem n k [] m = absurd (Memᴰ.not-nil m)
line_in_lem n k (x ∷ ks) m = by (line_in_lem n k ks) (Memᴰ.cases_cons m)
  where
    by : (Has k ks → Memᴰ {A = Change} (record { kind = k; line = n }) (changes_in n ks)) → (k ≡ x) ⊎ Has k ks → Memᴰ {A = Change} (record { kind = k; line = n }) (changes_in n (x ∷ ks))
    by more (inl e) = Memᴰ.head (ap (λ (y : ℕ). record { kind = y; line = n }) e)
    by more (inr m) = Memᴰ.tail (more m)

-- A change that is listed is one of the line that has its number, and each of those is listed.
record IsOf (n : ℕ) (ls : List MendedLine) (d : MendedLine) (c : Change) : Type 0 where
  place : ℕ
  is_line : place < length ls
  number : c.line ≡ n + place
  is_done : Has c.kind (get_or ls place d).done

is_of : (n : ℕ) (ls : List MendedLine) (d : MendedLine) (c : Change) → Memᴰ c (changes_from n ls) → IsOf n ls d c
unfolding changes_from
is_of n [] d c m = absurd (Memᴰ.not-nil m)
is_of n (l ∷ ls) d c m = by (is_of (n + 1) ls d c) (Memᴰ.append_cases (changes_in n l.done) m)
  where
    by : (Memᴰ c (changes_from (n + 1) ls) → IsOf (n + 1) ls d c) → Memᴰ c (changes_in n l.done) ⊎ Memᴰ c (changes_from (n + 1) ls) → IsOf n (l ∷ ls) d c
    by more (inl m) =
        let p = in_line_lem n c l.done m in
        record { place = 0; is_line = omega arith; number = omega (arith, p.0); is_done = p.1 }
    by more (inr m) =
        let k = more m in
        record { place = suc k.place; is_line = omega (arith, k.is_line); number = omega (arith, k.number); is_done = k.is_done }

of_is : (n : ℕ) (ls : List MendedLine) (d : MendedLine) (j k line : ℕ) → j < length ls → line ≡ n + j → Has k (get_or ls j d).done → Memᴰ {A = Change} (record { kind = k; line = line }) (changes_from n ls)
unfolding changes_from
of_is n [] d j k line h e m = absurd (omega arith)
of_is n (l ∷ ls) d zero k line h e m =
    let first : line ≡ n = omega arith in
    Memᴰ.append_left (changes_from (n + 1) ls) (Memᴰ.cast (ap (λ (y : ℕ). record { kind = k; line = y }) first) (line_in_lem n k l.done m))
of_is n (l ∷ ls) d (suc j) k line h e m =
    Memᴰ.append_right (changes_in n l.done) (of_is (n + 1) ls d j k line (omega arith) (omega arith) m)

-- # In order

-- The place of a change in the order: each line has room for its four kinds. The places ascend, so each entry comes before those behind it.
abbrev place : Change → ℕ
place c = 5 * c.line + c.kind

places_in : (a n : ℕ) (ks : List ℕ) → Within a 5 ks → Within (5 * n + a) (5 * (n + 1)) (map place (changes_in n ks))
unfolding changes_in
places_in a n [] w = omega arith
places_in a n (k ∷ ks) w = (
  omega (arith, w.0),
  within_lower (suc (5 * n + k)) (5 * n + suc k) (5 * (n + 1)) (map place (changes_in n ks)) (omega arith) (places_in (suc k) n ks w.1),
)

places_from : (n most : ℕ) (ls : List MendedLine) (d : MendedLine) → 5 * (n + length ls) ≤ most → ((j : ℕ) → j < length ls → Within 1 5 (get_or ls j d).done) → Within (5 * n) most (map place (changes_from n ls))
unfolding changes_from
places_from n most [] d h w = omega arith
places_from n most (l ∷ ls) d h w =
    let first = places_in 1 n l.done (w 0 (omega arith)) in
    let others = places_from (n + 1) most ls d (omega arith) (λ j g. w (suc j) (omega arith)) in
    rw (map-append place (changes_in n l.done) (changes_from (n + 1) ls))
    (within_append (5 * n) (5 * (n + 1)) most (map place (changes_in n l.done)) (map place (changes_from (n + 1) ls)) (within_lower (5 * n) (5 * n + 1) (5 * (n + 1)) (map place (changes_in n l.done)) (omega arith) first) others)

from_on : (a b : ℕ) (middle : List Change) (c : Change) (behind : List Change) → Within a b (map place (middle ++ c ∷ behind)) → a ≤ place c
from_on a b [] c behind w = w.0
from_on a b (x ∷ middle) c behind w = omega (arith, w.0, from_on (suc (place x)) b middle c behind w.1)

ascends : (a b : ℕ) (front : List Change) (c : Change) (middle : List Change) (d : Change) (behind : List Change) → Within a b (map place (front ++ c ∷ middle ++ d ∷ behind)) → place c < place d
ascends a b [] c middle d behind w = from_on (suc (place c)) b middle d behind w.1
ascends a b (x ∷ front) c middle d behind w = ascends (suc (place x)) b front c middle d behind w.1

module _ (s : Text) where
  is_listed_lem : (c : Change) → Memᴰ c (changes s) → IsOf 1 (mended_lines s) (end_mended no_line) c
  unfolding changes
  is_listed_lem c m = is_of 1 (mended_lines s) (end_mended no_line) c m

  each_within : (j : ℕ) → j < length (mended_lines s) → Within 1 5 (mended_at s j).done
  each_within j h = done_within s j (omega (arith, many_mended s))

  kinds_listed : (c : Change) → Memᴰ c (changes s) → (1 ≤ c.kind) × (c.kind ≤ 4)
  kinds_listed c m =
      let k = is_listed_lem c m in
      let p = within_member 1 5 c.kind (mended_at s k.place).done (each_within k.place k.is_line) k.is_done in
      (p.0, omega (arith, p.1))

  lines_listed : (c : Change) → Memᴰ c (changes s) → (1 ≤ c.line) × (c.line ≤ length (chewed_lines s))
  lines_listed c m =
      let k = is_listed_lem c m in
      (omega (arith, k.number), omega (arith, k.number, k.is_line, many_mended s))

  ordered : (front : List Change) (c : Change) (middle : List Change) (d : Change) (behind : List Change) → changes s ≡ front ++ c ∷ middle ++ d ∷ behind → ComesBefore c d
  unfolding changes
  ordered front c middle d behind e =
      let most = 5 * (1 + length (mended_lines s)) in
      let all : Within 5 most (map place (changes s)) = places_from 1 most (mended_lines s) (end_mended no_line) (omega arith) each_within in
      let up : place c < place d = ascends 5 most front c middle d behind (rw e at all) in
      let one = kinds_listed c (rw e (Memᴰ.append_left (d ∷ behind) (Memᴰ.append_right front (Memᴰ.head refl)))) in
      let two = kinds_listed d (rw e (Memᴰ.append_right (front ++ c ∷ middle) (Memᴰ.head refl))) in
      by up one two (dec_lt c.line d.line)
    where
      by : place c < place d → (1 ≤ c.kind) × (c.kind ≤ 4) → (1 ≤ d.kind) × (d.kind ≤ 4) → Dec (c.line < d.line) → ComesBefore c d
      by up one two (yes h) = inl h
      by up (low, high) (least, most) (no h) = inr (omega arith, omega arith)

pub list_in_order : (s : Text) → ListIsInOrder s
list_in_order s = record { order = ordered s; kinds = kinds_listed s; lines = lines_listed s }

-- # Each line

module _ (s : Text) (j : ℕ) (h : j < length (chewed_lines s)) where
  abbrev ls : List Text
  ls = line_texts s

  inside : j < length ls
  inside = omega (arith, many_texts s)

  -- A kind is listed for the line exactly where it was done to it: a kind below 3 to its end, another besides.
  listed_done : (k : ℕ) → Listed k (suc j) s ↔ Has k (mended_at s j).done
  unfolding changes
  listed_done k = (
    λ m.
        let i = is_listed_lem s (record { kind = k; line = suc j }) m in
        let here : i.place ≡ j = omega (arith, i.number) in
        subst (λ (n : ℕ). Has k (mended_at s n).done) here i.is_done,
    λ m. of_is 1 (mended_lines s) (end_mended no_line) j k (suc j) (omega (arith, many_mended s)) (omega arith) m,
  )

  abbrev ends : List ℕ
  ends = end_done (chewed s j)

  abbrev more : List ℕ
  more = besides (region s j) (follow s j) (before s j)

  listed_either : (k : ℕ) → Listed k (suc j) s ↔ (Has k ends ⊎ Has k more)
  listed_either k = (
    λ m. Memᴰ.append_cases ends (rw (done s j h) at ((listed_done k).0 m)),
    λ p. (listed_done k).1 (rw (done s j h) (⊎_elim (Memᴰ.append_left more) (Memᴰ.append_right ends) p)),
  )

  listed_end : (k : ℕ) → k < 3 → Listed k (suc j) s ↔ Has k ends
  listed_end k low = (λ m. by ((listed_either k).0 m), λ m. (listed_either k).1 (inl m))
    where
      by : Has k ends ⊎ Has k more → Has k ends
      by (inl m) = m
      by (inr m) =
          absurd (omega (arith, (within_member 3 5 k more (besides_within (region s j) (follow s j) (before s j)) m).0))

  listed_besides : (k : ℕ) → 3 ≤ k → Listed k (suc j) s ↔ (Has k (kinds_of (region s j)) × (after s j ≡ before s j → ⊥))
  listed_besides k high = (
    λ m.
        let p = (besides_kinds k (region s j) (follow s j) (before s j)).0 (by ((listed_either k).0 m)) in
        (p.0, λ e. p.1 (sym (becomes s j h) ∙ e)),
    λ p. (listed_either k).1 (inr ((besides_kinds k (region s j) (follow s j) (before s j)).1 (p.0, λ e. p.1 (becomes s j h ∙ e)))),
  )
    where
      by : Has k ends ⊎ Has k more → Has k more
      by (inl m) = absurd (omega (arith, (within_member 1 3 k ends (end_within (chewed s j)) m).1))
      by (inr m) = m

  -- What becomes of it where it lies.
  becomes_in : (r : Region) → region s j ≡ r → after s j ≡ set_to r (follow s j) (before s j)
  becomes_in r e = becomes s j h ∙ ap (λ (x : Region). set_to x (follow s j) (before s j)) e

  -- A line among the remarks is the count line, or stays.
  count_or_kept : region s j ≡ Remarks → CountLineAt ls j ⊎ (after s j ≡ before s j)
  unfolding set_to
  count_or_kept e = by (either (begins count_start (before s j)))
    where
      by : (begins count_start (before s j) ≡ true) ⊎ (begins count_start (before s j) ≡ false) → CountLineAt ls j ⊎ (after s j ≡ before s j)
      by (inl b) = inl (region_count ls j inside e b)
      by (inr b) = inr (becomes_in Remarks e ∙ set_of_none (follow s j) (before s j) (none_begun (before s j) b))

  unchanged : (RecordLineAt ls j → ⊥) → (CountLineAt ls j → ⊥) → after s j ≡ before s j
  unfolding set_to
  unchanged f g = by (region s j) refl
    where
      by : (r : Region) → region s j ≡ r → after s j ≡ before s j
      by Head e = becomes_in Head e
      by Remarks e = ⊎_elim (λ (p : CountLineAt ls j). absurd (g p)) (λ (is : after s j ≡ before s j). is) (count_or_kept e)
      by Records e = absurd (f (region_record ls j inside e))

  changed_count : region s j ≡ Remarks → (after s j ≡ before s j → ⊥) → CountLineAt ls j
  changed_count e f =
      ⊎_elim (λ (p : CountLineAt ls j). p) (λ (is : after s j ≡ before s j). absurd (f is)) (count_or_kept e)

  told : LineIsTold s j (chewed s j) (before s j) (after s j)
  unfolding set_to
  told =
      record {
        record_line = λ p. becomes_in Records (record_region ls j inside p);
        count_line = λ p. becomes_in Remarks (count_region ls j inside p);
        other_line = unchanged;
        one = (
          λ m. (end_one (chewed s j)).0 ((listed_end 1 (omega arith)).0 m),
          λ p. (listed_end 1 (omega arith)).1 ((end_one (chewed s j)).1 p),
        );
        two = (
          λ m. (end_two (chewed s j)).0 ((listed_end 2 (omega arith)).0 m),
          λ p. (listed_end 2 (omega arith)).1 ((end_two (chewed s j)).1 p),
        );
        three = (
          λ m.
              let p = (listed_besides 3 (omega arith)).0 m in
              (region_record ls j inside ((kind_three (region s j)).0 p.0), p.1),
          λ p. (listed_besides 3 (omega arith)).1 ((kind_three (region s j)).1 (record_region ls j inside p.0), p.1),
        );
        four = (
          λ m.
              let p = (listed_besides 4 (omega arith)).0 m in
              (changed_count ((kind_four (region s j)).0 p.0) p.1, p.1),
          λ p. (listed_besides 4 (omega arith)).1 ((kind_four (region s j)).1 (count_region ls j inside p.0), p.1),
        );
      }

pub each_line_told : EachLineIsTold
each_line_told = told
