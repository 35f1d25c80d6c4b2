-- Laws of the mender's answer: what is refused, in which order, and what is handed over.
-- Assumes nothing.
use Prim.Native.Nat.{ℕ, ◌≤◌, ◌<◌}
use native.Mathlib.Nat.{zero-add}
use native.Mathlib.Omega.{arith}
use mathlib.Core.Path.{◌≡◌, refl, sym, ap, ap₂, ◌∙◌}
use mathlib.Core.Bool.{Bool, true, false, cond, ◌&&◌}
use mathlib.Core.List.{List, map}
use lib.Dec.{leb, ltb}
use lib.ListN.{length}
use borrow.Author.Tests.{le-leb, lt-leb, le-ltb, lt-ltb, ltb-true, ltb-false}
use Rattle.rules.specs.declared.Due.TheVariants.{Identifier}
use Rattle.std.specs.Prelude.{Ok}
use Rattle.rules.specs.declared.Refusal.{Refusal}
use Rattle.rules.specs.Answers.{over}
use Rattle.rules.specs.Text.{Text}
use Rattle.rules.specs.Rules.{Rules}
use Rattle.rules.specs.Log.{Log, ended}
use Rattle.rules.specs.Reading.{Reading, accepted, refused, refusal, read}
use Rattle.rules.specs.Mending.{texts_of, mended_lines, mended_text, Change, changes_from, changes, Rooms, Mending, mended, unmended, hand_over, mend_reading, mend, bytes_of_mending, kinds_of_mending, lines_of_mending}
use Rattle.rules.proofs.MendingStays.{accepted_stays}
use Rattle.reader.specs.declared.Accepted.{Accepted}
use Rattle.reader.specs.Read.{read_told, read_of}
use Rattle.writer.specs.Written.{Puts}
use Rattle.writer.proofs.WrittenLaws.{front_end, front_laid}
use Rattle.std.specs.Prelude.{Result, Ok, Err}
use Rattle.mender.specs.declared.Mended.{Mended}
use Rattle.mender.specs.Checking.{walk_lines, checked_by, checked_from, checked_of}
use Rattle.mender.specs.Answer.{rooms_of, mended_by, kept_as, kept_in, Mends}
use Rattle.mender.proofs.ReadLaws.{read_mended}

-- # What reading the mended lines told

-- The lines led to the end, and so much was counted.
pub record SoundIs (R : Rules) (s : Text) (bytes listed : ℕ) : Type 0 where
  pub log : Log
  pub reads : walk_lines R Identifier 1 (texts_of (mended_lines s)) ≡ accepted log
  pub long : bytes ≡ length (mended_text s)
  pub many : listed ≡ length (changes s)

module _ (R : Rules) (s : Text) where
  checked_is : checked_of R s ≡ checked_by (length (mended_text s)) (length (changes s)) (walk_lines R Identifier 1 (texts_of (mended_lines s)))
  unfolding checked_of checked_from mended_text changes
  checked_is =
      ap₂ (λ (a b : ℕ). checked_by a b (walk_lines R Identifier 1 (texts_of (mended_lines s)))) (zero-add (length (ended (texts_of (mended_lines s))))) (zero-add (length (changes_from 1 (mended_lines s))))

  sound_by : (r : Reading) {m : Mended} → walk_lines R Identifier 1 (texts_of (mended_lines s)) ≡ r → checked_by (length (mended_text s)) (length (changes s)) r ≡ Ok m → SoundIs R s m.length m.changes
  unfolding checked_by
  sound_by (accepted log) {m} w e =
      let a : length (mended_text s) ≡ m.length = cc in
      let b : length (changes s) ≡ m.changes = cc in
      record { log = log; reads = w; long = sym a; many = sym b }
  sound_by (refused r) w e = let z : ◌≡◌ {A = ℕ} 0 1 = cc in absurd (omega arith)

  pub sound_is : {m : Mended} → checked_of R s ≡ Ok m → SoundIs R s m.length m.changes
  sound_is e = sound_by (walk_lines R Identifier 1 (texts_of (mended_lines s))) refl (sym checked_is ∙ e)

  refused_by_lem : (r : Reading) {q : Refusal} → checked_by (length (mended_text s)) (length (changes s)) r ≡ Err q → r ≡ refused q
  unfolding checked_by
  refused_by_lem (accepted log) e = let z : ◌≡◌ {A = ℕ} 0 1 = cc in absurd (omega arith)
  refused_by_lem (refused r) e = cc

  pub refused_is : {q : Refusal} → checked_of R s ≡ Err q → walk_lines R Identifier 1 (texts_of (mended_lines s)) ≡ refused q
  refused_is e = refused_by_lem (walk_lines R Identifier 1 (texts_of (mended_lines s))) (sym checked_is ∙ e)

-- # What is answered

abbrev so_long : ℕ → ℕ → Result Mended Refusal
so_long n k = Ok (record { length = n; changes = k })

module _ (R : Rules) (s : Text) (rooms : Rooms) where
  pub mend_long : R.longest_log < length s → mend R rooms s ≡ unmended (refusal 1 0 0)
  unfolding mend
  mend_long h = rw (lt-ltb R.longest_log (length s) h)

  module _ (short : length s ≤ R.longest_log) where
    mend_by : (r : Reading) → read R (mended_text s) ≡ r → mend R rooms s ≡ mend_reading rooms (mended_text s) (changes s) r
    unfolding mend
    mend_by r e = rw (le-ltb R.longest_log (length s) short, e)

    pub mend_over : R.longest_log < length (mended_text s) → mend R rooms s ≡ unmended (refusal 1 0 0)
    unfolding mend_reading
    mend_over h =
        mend_by (refused (refusal 1 0 0)) (read_mended R s ∙ rw (lt-ltb R.longest_log (length (mended_text s)) h))

    module _ (fits : length (mended_text s) ≤ R.longest_log) where
      read_is : read R (mended_text s) ≡ walk_lines R Identifier 1 (texts_of (mended_lines s))
      read_is = read_mended R s ∙ rw (le-ltb R.longest_log (length (mended_text s)) fits)

      pub mend_refused : {q : Refusal} → checked_of R s ≡ Err q → mend R rooms s ≡ unmended q
      unfolding mend_reading
      mend_refused {q} e = mend_by (refused q) (read_is ∙ refused_is R s e)

      module _ {bytes listed : ℕ} (k : SoundIs R s bytes listed) where
        hands : mend R rooms s ≡ hand_over rooms (mended_text s) (changes s)
        unfolding mend_reading
        hands = mend_by (accepted k.log) (read_is ∙ k.reads)

        -- By the three rooms.
        by_rooms : (a b c : Bool) → leb (length (changes s)) rooms.kinds ≡ a → leb (length (changes s)) rooms.lines ≡ b → leb (length (mended_text s)) rooms.out ≡ c → mend R rooms s ≡ cond (a && b) (cond c (mended (mended_text s) (changes s)) (unmended (refusal 8 0 0))) (unmended (refusal 10 0 0))
        by_rooms a b c p q r = hands ∙ unfold hand_over in rw (p, q, r)

        pub mend_few_kinds : rooms.kinds < listed → mend R rooms s ≡ unmended (refusal 10 0 0)
        mend_few_kinds h =
            by_rooms false (leb (length (changes s)) rooms.lines) (leb (length (mended_text s)) rooms.out)
            (lt-leb (length (changes s)) rooms.kinds (omega (arith, k.many))) refl refl

        pub mend_few_lines : listed ≤ rooms.kinds → rooms.lines < listed → mend R rooms s ≡ unmended (refusal 10 0 0)
        mend_few_lines g h =
            by_rooms true false (leb (length (mended_text s)) rooms.out)
            (le-leb (length (changes s)) rooms.kinds (omega (arith, k.many)))
            (lt-leb (length (changes s)) rooms.lines (omega (arith, k.many)))
            refl

        module _ (g : listed ≤ rooms.kinds) (h : listed ≤ rooms.lines) where
          listed_fits : (c : Bool) → leb (length (mended_text s)) rooms.out ≡ c → mend R rooms s ≡ cond c (mended (mended_text s) (changes s)) (unmended (refusal 8 0 0))
          listed_fits c r =
              by_rooms true true c
              (le-leb (length (changes s)) rooms.kinds (omega (arith, k.many)))
              (le-leb (length (changes s)) rooms.lines (omega (arith, k.many)))
              r

          pub mend_few_bytes : rooms.out < bytes → mend R rooms s ≡ unmended (refusal 8 0 0)
          mend_few_bytes o = listed_fits false (lt-leb (length (mended_text s)) rooms.out (omega (arith, k.long)))

          pub mend_hands : bytes ≤ rooms.out → mend R rooms s ≡ mended (mended_text s) (changes s)
          mend_hands o = listed_fits true (le-leb (length (mended_text s)) rooms.out (omega (arith, k.long)))

-- # What the slices hold afterwards

module _ {R : Rules} {s : Text} {out kinds lines : List ℕ} where
  -- On a refusal, what they held.
  pub mends_refused : {a : Result Mended Refusal} {r : Refusal} → mend R (rooms_of out kinds lines) s ≡ unmended r → a ≡ Err r → Mends R s a out kinds lines out kinds lines
  unfolding mended_by bytes_of_mending kinds_of_mending lines_of_mending over
  mends_refused e p =
      record {
        told = p ∙ sym (ap mended_by e);
        text_told = sym (ap (λ (m : Mending). over (bytes_of_mending m) out) e);
        kinds_told = sym (ap (λ (m : Mending). over (kinds_of_mending m) kinds) e);
        lines_told = sym (ap (λ (m : Mending). over (lines_of_mending m) lines) e);
      }

  pub mends_handed : {t : Text} {cs : List Change} {m : Mended} {out' kinds' lines' : List ℕ} → mend R (rooms_of out kinds lines) s ≡ mended t cs → m.length ≡ length t → m.changes ≡ length cs → out' ≡ over t out → kinds' ≡ over (map (λ c. c.kind) cs) kinds → lines' ≡ over (map (λ c. c.line) cs) lines → Mends R s (Ok m) out kinds lines out' kinds' lines'
  unfolding mended_by bytes_of_mending kinds_of_mending lines_of_mending
  mends_handed e b l p q r =
      record {
        told = ap₂ so_long b l ∙ sym (ap mended_by e);
        text_told = p ∙ sym (ap (λ (m : Mending). over (bytes_of_mending m) out) e);
        kinds_told = q ∙ sym (ap (λ (m : Mending). over (kinds_of_mending m) kinds) e);
        lines_told = r ∙ sym (ap (λ (m : Mending). over (lines_of_mending m) lines) e);
      }

-- # A log that is accepted as it is

-- What the reader answers of it.
pub read_accepted : (R : Rules) (s : Text) {a : Accepted} → read_of R s ≡ Ok a → (log : Log) × (read R s ≡ accepted log)
unfolding read_of
read_accepted R s {a} e = by (read R s) refl e
  where
    by : (r : Reading) → read R s ≡ r → read_told (length s) r ≡ Ok a → (log : Log) × (read R s ≡ accepted log)
    by (accepted log) q p = (log, q)
    by (refused r) q p = let z : ◌≡◌ {A = ℕ} 0 1 = unfold read_told in cc in absurd (omega arith)

-- What is told of it, and what the slice holds afterwards, where there is no room and where there is.
module _ (s : Text) (out : List ℕ) where
  pub keep_none : {a : Result Mended Refusal} → length out < length s → a ≡ Err (refusal 8 0 0) → (a ≡ kept_as s out) × (out ≡ kept_in s out)
  unfolding kept_as kept_in
  keep_none h p = rw (lt-ltb (length out) (length s) h) (p, refl)

  pub keep_laid : {out' : List ℕ} {r : ℕ} → length s ≤ length out → Puts out 0 s out' r → (so_long r 0 ≡ kept_as s out) × (out' ≡ kept_in s out)
  unfolding kept_as kept_in
  keep_laid h p = rw (le-ltb (length out) (length s) h) (ap (λ (n : ℕ). so_long n 0) (front_end p), front_laid p)

module _ (R : Rules) (s : Text) (log : Log) (e : read R s ≡ accepted log) (short : length s ≤ R.longest_log) (out kinds lines : List ℕ) where
  -- There is no room for it, or there is.
  no_room_kept : length out < length s → mend R (rooms_of out kinds lines) s ≡ unmended (refusal 8 0 0)
  no_room_kept h =
      let stays = accepted_stays R s log e in
      mend_few_bytes R s (rooms_of out kinds lines) short (rw stays.text short)
      (record { log = log; reads = sym (read_is R s (rooms_of out kinds lines) short (rw stays.text short)) ∙ ap (read R) stays.text ∙ e; long = refl; many = refl })
      (rw stays.list (omega arith)) (rw stays.list (omega arith)) (rw stays.text h)

  kept_told : (b : Bool) → ltb (length out) (length s) ≡ b → kept_as s out ≡ cond b (Err (refusal 8 0 0)) (so_long (length s) 0)
  unfolding kept_as
  kept_told b t = rw t

  kept_left : (b : Bool) → ltb (length out) (length s) ≡ b → kept_in s out ≡ cond b out (over s out)
  unfolding kept_in
  kept_left b t = rw t

  kept_refused : length out < length s → Mends R s (Err (refusal 8 0 0)) out kinds lines out kinds lines
  kept_refused h = mends_refused (no_room_kept h) refl

  kept_handed : length s ≤ length out → Mends R s (so_long (length s) 0) out kinds lines (over s out) kinds lines
  unfolding over
  kept_handed h = mends_handed ((accepted_stays R s log e).answer (rooms_of out kinds lines) h) refl refl refl refl refl

  pub kept_mends : {a : Result Mended Refusal} {out' : List ℕ} → a ≡ kept_as s out → out' ≡ kept_in s out → Mends R s a out kinds lines out' kinds lines
  kept_mends {a} {out'} p q = by (ltb (length out) (length s)) refl
    where
      said : {a' : Result Mended Refusal} {left : List ℕ} → Mends R s a' out kinds lines left kinds lines → a ≡ a' → out' ≡ left → Mends R s a out kinds lines out' kinds lines
      said k x y =
          record { told = x ∙ k.told; text_told = y ∙ k.text_told; kinds_told = k.kinds_told; lines_told = k.lines_told }

      by : (b : Bool) → ltb (length out) (length s) ≡ b → Mends R s a out kinds lines out' kinds lines
      by true t = said (kept_refused (ltb-true (length out) (length s) t)) (p ∙ kept_told true t) (q ∙ kept_left true t)
      by false t = said (kept_handed (ltb-false (length out) (length s) t)) (p ∙ kept_told false t) (q ∙ kept_left false t)
