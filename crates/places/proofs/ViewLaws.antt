-- Laws of views: the part of an accepted log behind a keyword and its `=`.
-- Assumes nothing.
use Prim.Native.Nat.{ℕ, zero, suc, ◌+◌, ◌-◌, ◌≤◌, ◌<◌, min}
use native.Mathlib.Omega.{arith}
use mathlib.Core.Path.{◌≡◌, refl, sym, ap, ap₂, ◌∙◌}
use mathlib.Core.Bool.{Bool, true, false, cond}
use mathlib.Core.List.{List, [], ◌∷◌}
use lib.Dec.{leb}
use lib.ListN.{length, take, drop, get_or, length-drop, drop_of_length-le}
use lib.Seq.{length-take-le, drop-cons, drop-drop, take-nil}
use borrow.Author.Tests.{le-leb, lt-leb, leb-true}
use Rattle.std.specs.Prelude.{Ok, Err}
use mathlib.Core.Logic.{◌⊎◌, inl, inr}
use Rattle.rules.specs.declared.Refusal.{Refusal}
use Rattle.rules.specs.Text.{Text, allowed, begins, span}
use Rattle.rules.specs.Rules.{Rules}
use Rattle.rules.specs.Arguments.{Entry, entries, anything}
use Rattle.rules.specs.Log.{Log, argument}
use Rattle.rules.specs.Reading.{Reading, accepted, refused, refusal, read}
use Rattle.rules.specs.Answers.{Viewing, seen, unseen, view_of_reading, argument_start, is_listed, start_of_view, view, viewed}
use Rattle.rules.proofs.TextLaws.{span_short, take_its_length}
use Rattle.reader.proofs.DueLaws.{entries_length}
use Rattle.header.specs.Header.{listed_at}
use Rattle.reader.specs.declared.Accepted.{Accepted}
use Rattle.reader.specs.Read.{read_told, read_of}
use Rattle.places.specs.declared.Seen.{Seen}
use Rattle.places.specs.Places.{line_text_at, line_start, argument_on, argument_at, part_seen, view_told, view_of}
use Rattle.places.proofs.HeaderHeld.{argument_held, argument_starts, keyword_listed, argument_inside, argument_within}

-- What is seen, by its parts.
abbrev seen_as : ℕ → ℕ → Bool → Seen
seen_as start size listed = record { start = start; length = size; listed = listed }

-- A line ends within the text.
pub run_within : (s : Text) (at : ℕ) → at ≤ length s → at + span allowed (drop at s) ≤ length s
run_within s at h = omega (arith, span_short allowed (drop at s), length-drop at s)

-- The part behind six characters of a line.
module _ (s : Text) (at end : ℕ) (e : end ≡ at + span allowed (drop at s)) where
  behind_length : length (drop 6 (line_text_at s at)) ≡ end - (at + 6)
  unfolding line_text_at
  behind_length =
      omega
      (arith, length-drop 6 (take (span allowed (drop at s)) (drop at s)), length-take-le (span allowed (drop at s)) (drop at s) (span_short allowed (drop at s)))

  -- The line, as a part of the slice.
  line_part : take (end - at) (drop at s) ≡ line_text_at s at
  unfolding line_text_at
  line_part = let n : end - at ≡ span allowed (drop at s) = omega arith in ap (λ (m : ℕ). take m (drop at s)) n

  pub part_told : (k : ℕ) {n : ℕ} {listed : Bool} → n ≡ end - (at + 6) → listed ≡ begins (listed_at (k - 1)) (take (end - at) (drop at s)) → record { start = at + 6; length = n; listed = listed } ≡ part_seen k s at
  unfolding part_seen
  part_told k q p = ap₂ (seen_as (at + 6)) (q ∙ sym behind_length) (p ∙ ap (begins (listed_at (k - 1))) line_part)

-- The number of a keyword.
view_law : (R : Rules) (k : ℕ) (s : Text) → view_of R k s ≡ view_told (cond (leb 1 k) (view_of_reading k (drop (k - 1) entries) (read R s)) (unseen (refusal 9 0 0)))
unfolding view_of view
view_law R k s = refl

told_unseen : (r : Refusal) → view_told (unseen r) ≡ Err r
unfolding view_told
told_unseen r = refl

beyond : (k : ℕ) (r : Reading) → view_of_reading k [] r ≡ unseen (refusal 9 0 0)
unfolding view_of_reading
beyond k (accepted log) = refl
beyond k (refused r) = refl

module _ (R : Rules) (k : ℕ) (s : Text) where
  view_none : k < 1 → Err (refusal 9 0 0) ≡ view_of R k s
  view_none h =
      sym
      (view_law R k s
      ∙ ap (λ (b : Bool). view_told (cond b (view_of_reading k (drop (k - 1) entries) (read R s)) (unseen (refusal 9 0 0)))) (lt-leb 1 k h)
      ∙ told_unseen (refusal 9 0 0))

  counted_view : 1 ≤ k → view_of R k s ≡ view_told (view_of_reading k (drop (k - 1) entries) (read R s))
  counted_view h =
      view_law R k s
      ∙ ap (λ (b : Bool). view_told (cond b (view_of_reading k (drop (k - 1) entries) (read R s)) (unseen (refusal 9 0 0)))) (le-leb 1 k h)

  view_beyond : 36 < k → Err (refusal 9 0 0) ≡ view_of R k s
  view_beyond h =
      sym
      (counted_view (omega arith)
      ∙ ap (λ (es : List Entry). view_told (view_of_reading k es (read R s))) (drop_of_length-le entries {i = k - 1} (omega (arith, entries_length)))
      ∙ ap view_told (beyond k (read R s))
      ∙ told_unseen (refusal 9 0 0))

  pub view_outside : (k < 1) ⊎ (36 < k) → Err (refusal 9 0 0) ≡ view_of R k s
  view_outside (inl h) = view_none h
  view_outside (inr h) = view_beyond h

  module _ (low : 1 ≤ k) (high : k ≤ 36) where
    abbrev due : Entry
    due = get_or entries (k - 1) (record { keyword = []; rule = anything })

    is_due : drop (k - 1) entries ≡ due ∷ drop (suc (k - 1)) entries
    is_due = drop-cons entries (k - 1) (record { keyword = []; rule = anything }) (omega (arith, entries_length))

    due_view : view_of R k s ≡ view_told (view_of_reading k (due ∷ drop (suc (k - 1)) entries) (read R s))
    due_view = counted_view low ∙ ap (λ (es : List Entry). view_told (view_of_reading k es (read R s))) is_due

    -- What the reading says.
    read_refused : (a : Reading) {r : Refusal} → read_told (length s) a ≡ Err r → a ≡ refused r
    unfolding read_told
    read_refused (accepted log) q = let z : ◌≡◌ {A = ℕ} 0 1 = cc in absurd (omega arith)
    read_refused (refused r) q = cc

    pub view_refused : {r : Refusal} → read_of R s ≡ Err r → Err r ≡ view_of R k s
    unfolding read_of view_of_reading view_told
    view_refused {r} q =
        sym (due_view ∙ ap (λ (a : Reading). view_told (view_of_reading k (due ∷ drop (suc (k - 1)) entries) a)) (read_refused (read R s) q))

    shown_law : (log : Log) → view_told (view_of_reading k (due ∷ drop (suc (k - 1)) entries) (accepted log)) ≡ Ok (seen_as (argument_start log k due) (length (argument log due.keyword)) (is_listed log k due))
    unfolding view_of_reading view_told
    shown_law log = refl

    part_law : (at : ℕ) → part_seen k s at ≡ seen_as (at + 6) (length (drop 6 (line_text_at s at))) (begins (listed_at (k - 1)) (line_text_at s at))
    unfolding part_seen
    part_law at = refl

    argument_law : argument_at s k ≡ drop 6 (line_text_at s (line_start s k))
    unfolding argument_on
    argument_law = refl

    seen_at : (log : Log) → read R s ≡ accepted log → Ok (part_seen k s (min (line_start s k) (length s))) ≡ view_of R k s
    seen_at log a =
        let rest = drop (suc (k - 1)) entries in
        ap (λ (at : ℕ). Ok (part_seen k s at)) (argument_inside R s log a k due rest low is_due)
        ∙ ap Ok (part_law (line_start s k))
        ∙ (λ i.
        Ok (seen_as (argument_starts R s log a k due rest low is_due i)
        (length ((sym argument_law ∙ argument_held R s log a k due rest low is_due) i))
        (keyword_listed R s log a k due rest low is_due i)))
        ∙ sym (due_view ∙ ap (λ (x : Reading). view_told (view_of_reading k (due ∷ drop (suc (k - 1)) entries) x)) a ∙ shown_law log)

    accepted_by_lem : (a : Reading) {t : Accepted} → read_told (length s) a ≡ Ok t → (log : Log) × (a ≡ accepted log)
    unfolding read_told
    accepted_by_lem (accepted log) q = (log, refl)
    accepted_by_lem (refused r) q = let z : ◌≡◌ {A = ℕ} 0 1 = cc in absurd (omega arith)

    pub view_seen : {t : Accepted} → read_of R s ≡ Ok t → Ok (part_seen k s (min (line_start s k) (length s))) ≡ view_of R k s
    unfolding read_of
    view_seen q = let g = accepted_by_lem (read R s) q in seen_at g.0 g.1

-- What is shown of a log is a part of it.
drop_take : (m n : ℕ) (l : Text) → drop m (take n l) ≡ take (n - m) (drop m l)
drop_take zero n l = ap (λ (k : ℕ). take k l) (let h : n ≡ n - 0 = omega arith in h)
drop_take (suc m) zero l = sym (ap (λ (k : ℕ). take k (drop (suc m) l)) (let h : 0 - suc m ≡ 0 = omega arith in h))
drop_take (suc m) (suc n) [] = sym (take-nil (suc n - suc m))
drop_take (suc m) (suc n) (c ∷ l) = drop_take m n l ∙ ap (λ (k : ℕ). take k (drop m l)) (let h : n - m ≡ suc n - suc m = omega arith in h)

pub record Shows (s : Text) (a : ℕ) (t : Text) : Type 0 where
  pub inside : a + length t ≤ length s
  pub part : take (length t) (drop a s) ≡ t

module _ (R : Rules) (k : ℕ) (s : Text) where
  part_of : (at : ℕ) → take (length (drop 6 (line_text_at s at))) (drop (at + 6) s) ≡ drop 6 (line_text_at s at)
  unfolding line_text_at
  part_of at =
      let n : ℕ = span allowed (drop at s) in
      let same : drop 6 (take n (drop at s)) ≡ take (n - 6) (drop (at + 6) s) = drop_take 6 n (drop at s) ∙ ap (take (n - 6)) (drop-drop 6 at s) in
      ap (λ (t : Text). take (length t) (drop (at + 6) s)) same ∙ take_its_length (n - 6) (drop (at + 6) s) ∙ sym same

  argument_part_is : take (length (argument_at s k)) (drop (line_start s k + 6) s) ≡ argument_at s k
  unfolding argument_on
  argument_part_is = part_of (line_start s k)

  shows_argument : (log : Log) (e : Entry) (rest : List Entry) → read R s ≡ accepted log → 1 ≤ k → drop (k - 1) entries ≡ e ∷ rest → Shows s (argument_start log k e) (argument log e.keyword)
  shows_argument log e rest a low h =
      let held : argument_at s k ≡ argument log e.keyword = argument_held R s log a k e rest low h in
      let starts : line_start s k + 6 ≡ argument_start log k e = argument_starts R s log a k e rest low h in
      record {
        inside = omega (arith, starts, ap length held, argument_within R s log a k e rest low h);
        part =
            ap₂ (λ (t : Text) (n : ℕ). take (length t) (drop n s)) (sym held) (sym starts)
            ∙ argument_part_is
            ∙ held;
      }

  told_by_lem : (b : Bool) (es : List Entry) (r : Reading) {a : ℕ} {t : Text} {x : Bool} → leb 1 k ≡ b → drop (k - 1) entries ≡ es → read R s ≡ r → cond b (view_of_reading k es r) (unseen (refusal 9 0 0)) ≡ seen a t x → Shows s a t
  unfolding view_of_reading
  told_by_lem false es r g h e q = let z : ◌≡◌ {A = ℕ} 0 1 = cc in absurd (omega arith)
  told_by_lem true [] r {a} {t} {x} g h e q =
      let f : unseen (refusal 9 0 0) ≡ seen a t x = sym (beyond k r) ∙ q in
      let z : ◌≡◌ {A = ℕ} 0 1 = cc in
      absurd (omega arith)
  told_by_lem true (d ∷ es) (refused r) g h e q = let z : ◌≡◌ {A = ℕ} 0 1 = cc in absurd (omega arith)
  told_by_lem true (d ∷ es) (accepted log) {a} {t} g h e q =
      let x : argument_start log k d ≡ a = cc in
      let y : argument log d.keyword ≡ t = cc in
      let p : Shows s (argument_start log k d) (argument log d.keyword) = shows_argument log d es e (leb-true 1 k g) h in
      record {
        inside = omega (arith, p.inside, x, ap length y);
        part = ap₂ (λ (u : Text) (n : ℕ). take (length u) (drop n s)) (sym y) (sym x) ∙ p.part ∙ y;
      }

  seen_law : view R k s ≡ cond (leb 1 k) (view_of_reading k (drop (k - 1) entries) (read R s)) (unseen (refusal 9 0 0))
  unfolding view
  seen_law = refl

  -- What a view that is told of shows.
  shown_by_lem : (v : Viewing) {w : Seen} → view R k s ≡ v → view_told v ≡ Ok w → (w.start + w.length ≤ length s) × (take w.length (drop w.start s) ≡ viewed (view R k s))
  unfolding view_told viewed
  shown_by_lem (unseen r) e q = let z : ◌≡◌ {A = ℕ} 0 1 = cc in absurd (omega arith)
  shown_by_lem (seen b t l) {w} e q =
      let same : seen_as b (length t) l ≡ w = cc in
      let x : b ≡ w.start = ap (λ (m : Seen). m.start) same in
      let y : length t ≡ w.length = ap (λ (m : Seen). m.length) same in
      let p : Shows s b t = told_by_lem (leb 1 k) (drop (k - 1) entries) (read R s) refl refl refl (sym seen_law ∙ e) in
      (omega (arith, p.inside, x, y), ap₂ (λ (m c : ℕ). take m (drop c s)) (sym y) (sym x) ∙ p.part ∙ sym (ap viewed e))

  hidden_by : (v : Viewing) {r : Refusal} → view R k s ≡ v → view_told v ≡ Err r → [] ≡ viewed (view R k s)
  unfolding view_told viewed
  hidden_by (unseen r) e q = sym (ap viewed e)
  hidden_by (seen b t x) e q = let z : ◌≡◌ {A = ℕ} 0 1 = cc in absurd (omega arith)

  told_law : view_of R k s ≡ view_told (view R k s)
  unfolding view_of
  told_law = refl

  pub view_shows : {w : Seen} → view_of R k s ≡ Ok w → (w.start + w.length ≤ length s) × (take w.length (drop w.start s) ≡ viewed (view R k s))
  view_shows q = shown_by_lem (view R k s) refl (sym told_law ∙ q)

  pub view_hides : {r : Refusal} → view_of R k s ≡ Err r → [] ≡ viewed (view R k s)
  view_hides q = hidden_by (view R k s) refl (sym told_law ∙ q)

  -- Where it begins.
  starts_by : (v : Viewing) {w : Seen} → view R k s ≡ v → view_told v ≡ Ok w → w.start ≡ start_of_view (view R k s)
  unfolding view_told start_of_view
  starts_by (unseen r) e q = let z : ◌≡◌ {A = ℕ} 0 1 = cc in absurd (omega arith)
  starts_by (seen b t l) {w} e q =
      let same : seen_as b (length t) l ≡ w = cc in
      sym (ap start_of_view e ∙ ap (λ (m : Seen). m.start) same)

  none_starts_by : (v : Viewing) {r : Refusal} → view R k s ≡ v → view_told v ≡ Err r → 0 ≡ start_of_view (view R k s)
  unfolding view_told start_of_view
  none_starts_by (unseen r) e q = sym (ap start_of_view e)
  none_starts_by (seen b t x) e q = let z : ◌≡◌ {A = ℕ} 0 1 = cc in absurd (omega arith)

  pub view_starts : {w : Seen} → view_of R k s ≡ Ok w → w.start ≡ start_of_view (view R k s)
  view_starts q = starts_by (view R k s) refl (sym told_law ∙ q)

  pub view_starts_nowhere : {r : Refusal} → view_of R k s ≡ Err r → 0 ≡ start_of_view (view R k s)
  view_starts_nowhere q = none_starts_by (view R k s) refl (sym told_law ∙ q)
