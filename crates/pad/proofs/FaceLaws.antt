-- From the answers of the crates below to those of the C face: each kind of answer has its face, and it is that of the definition.
-- Assumes nothing.
use Prim.Native.Nat.{ℕ}
use mathlib.Core.Path.{◌≡◌, refl, sym, ap, ap₂, ◌∙◌}
use lib.ListN.{length, length-map}
use Rattle.std.specs.Prelude.{Result, Ok, Err}
use Rattle.rules.specs.declared.Refusal.{Refusal}
use Rattle.rules.specs.declared.Totals.{Totals}
use Rattle.rules.specs.Text.{Text}
use Rattle.rules.specs.Rules.{base}
use Rattle.rules.specs.Judging.{zero_totals}
use Rattle.rules.specs.Reading.{Reading, accepted, refused, read}
use Rattle.rules.specs.Answers.{Viewing, seen, unseen, view, Judgement, judged, unjudged, judge, Writing, written, unwritten, no_refusal}
use Rattle.rules.specs.Mending.{Mending, mended, unmended}
use Rattle.reader.specs.declared.Accepted.{Accepted}
use Rattle.reader.specs.Read.{read_told, read_of}
use Rattle.places.specs.declared.Seen.{Seen}
use Rattle.places.specs.Places.{view_told, view_of}
use Rattle.std.specs.Prelude.{Result, Ok, Err}
use Rattle.judge.specs.Judge.{judged_by, judged_of}
use Rattle.writer.specs.LogText.{wrote_by}
use Rattle.std.specs.Prelude.{Result, Ok, Err}
use Rattle.mender.specs.declared.Mended.{Mended}
use Rattle.mender.specs.Answer.{mended_by}
use Rattle.pad.specs.declared.SumpquinceRefusal.{SumpquinceRefusal}
use Rattle.pad.specs.declared.SumpquinceReading.{SumpquinceReading}
use Rattle.pad.specs.declared.SumpquinceView.{SumpquinceView}
use Rattle.pad.specs.declared.SumpquinceJudgement.{SumpquinceJudgement}
use Rattle.pad.specs.declared.SumpquinceWritten.{SumpquinceWritten}
use Rattle.pad.specs.declared.SumpquinceMended.{SumpquinceMended}
use Rattle.pad.specs.Face.{refusal_face, one_if, reading_face, view_face, totals_face, judgement_face, written_face, wrote_face, mended_face}

-- # Reading

abbrev a_reading : ℕ → ℕ → SumpquinceRefusal → SumpquinceReading
a_reading n respelt f = record { refusal = f; records = n; respelt = respelt }

abbrev reading_shown : Result Accepted Refusal → SumpquinceReading
reading_shown (Ok t) = a_reading t.records t.heading.respelt (refusal_face no_refusal)
reading_shown (Err r) = a_reading 0 0 (refusal_face r)

module _ (s : Text) where
  reading_shown_lem : reading_shown (read_of base s) ≡ reading_face (read base s)
  unfolding read_of reading_face
  reading_shown_lem = by (read base s)
    where
      by : (r : Reading) → reading_shown (read_told (length s) r) ≡ reading_face r
      by (accepted log) = refl
      by (refused r) = refl

  pub records_shown : {f : SumpquinceRefusal} {t : Accepted} → f ≡ refusal_face no_refusal → Ok t ≡ read_of base s → a_reading t.records t.heading.respelt f ≡ reading_face (read base s)
  records_shown {t = t} e a = ap (a_reading t.records t.heading.respelt) e ∙ ap reading_shown a ∙ reading_shown_lem

  pub unread_shown : {f : SumpquinceRefusal} {r : Refusal} → f ≡ refusal_face r → Err r ≡ read_of base s → a_reading 0 0 f ≡ reading_face (read base s)
  unread_shown e a = ap (a_reading 0 0) e ∙ ap reading_shown a ∙ reading_shown_lem

-- # Views

abbrev a_view : ℕ → ℕ → ℕ → SumpquinceRefusal → SumpquinceView
a_view start n listed f = record { refusal = f; start = start; length = n; listed = listed }

abbrev view_shown : Result Seen Refusal → SumpquinceView
view_shown (Ok t) = a_view t.start t.length (one_if t.listed) (refusal_face no_refusal)
view_shown (Err r) = a_view 0 0 0 (refusal_face r)

module _ (k : ℕ) (s : Text) where
  view_shown_lem : view_shown (view_of base k s) ≡ view_face (view base k s)
  unfolding view_of view_face
  view_shown_lem = by (view base k s)
    where
      by : (v : Viewing) → view_shown (view_told v) ≡ view_face v
      by (seen start t listed) = refl
      by (unseen r) = refl

  pub seen_shown : {f : SumpquinceRefusal} {one : ℕ} {t : Seen} → f ≡ refusal_face no_refusal → one ≡ one_if t.listed → Ok t ≡ view_of base k s → a_view t.start t.length one f ≡ view_face (view base k s)
  seen_shown {t = t} e o a = ap₂ (a_view t.start t.length) o e ∙ ap view_shown a ∙ view_shown_lem

  pub unseen_shown : {f : SumpquinceRefusal} {r : Refusal} → f ≡ refusal_face r → Err r ≡ view_of base k s → a_view 0 0 0 f ≡ view_face (view base k s)
  unseen_shown e a = ap (a_view 0 0 0) e ∙ ap view_shown a ∙ view_shown_lem

-- # Judging

abbrev judgement_shown : Result Totals Refusal → SumpquinceJudgement
judgement_shown (Ok t) = totals_face (refusal_face no_refusal) t
judgement_shown (Err r) = totals_face (refusal_face r) zero_totals

module _ (room : ℕ) (s : Text) where
  judgement_shown_lem : judgement_shown (judged_of base room s) ≡ judgement_face (judge base room s)
  unfolding judged_of judgement_face
  judgement_shown_lem = by (judge base room s)
    where
      by : (j : Judgement) → judgement_shown (judged_by j) ≡ judgement_face j
      by (judged t vs) = refl
      by (unjudged r) = refl

  pub totals_shown : {j : SumpquinceJudgement} {f : SumpquinceRefusal} {t : Totals} → j ≡ totals_face f t → f ≡ refusal_face no_refusal → Ok t ≡ judged_of base room s → j ≡ judgement_face (judge base room s)
  totals_shown {t = t} e g a = e ∙ ap (λ (f : SumpquinceRefusal). totals_face f t) g ∙ ap judgement_shown a ∙ judgement_shown_lem

  pub unjudged_shown : {j : SumpquinceJudgement} {f : SumpquinceRefusal} {r : Refusal} {t : Totals} → j ≡ totals_face f t → f ≡ refusal_face r → t ≡ zero_totals → Err r ≡ judged_of base room s → j ≡ judgement_face (judge base room s)
  unjudged_shown e g z a = e ∙ ap₂ totals_face g z ∙ ap judgement_shown a ∙ judgement_shown_lem

-- # Writing

pub length_shown : {f : SumpquinceRefusal} {n : ℕ} {w : Result ℕ Refusal} → f ≡ refusal_face no_refusal → w ≡ Ok n → ◌≡◌ {A = SumpquinceWritten} (record { refusal = f; length = n }) (wrote_face w)
unfolding wrote_face
length_shown {n = n} e a = rw a (ap (λ (f : SumpquinceRefusal). record { refusal = f; length = n }) e)

pub unwritten_shown : {f : SumpquinceRefusal} {r : Refusal} {w : Result ℕ Refusal} → f ≡ refusal_face r → w ≡ Err r → ◌≡◌ {A = SumpquinceWritten} (record { refusal = f; length = 0 }) (wrote_face w)
unfolding wrote_face
unwritten_shown e a = rw a (ap (λ (f : SumpquinceRefusal). record { refusal = f; length = 0 }) e)

pub written_shown : (w : Writing) → wrote_face (wrote_by w) ≡ written_face w
unfolding wrote_face wrote_by written_face
written_shown (written t) = refl
written_shown (unwritten r) = refl

-- # Mending

abbrev a_mended : ℕ → ℕ → SumpquinceRefusal → SumpquinceMended
a_mended n changes f = record { refusal = f; length = n; changes = changes }

abbrev mended_shown : Result Mended Refusal → SumpquinceMended
mended_shown (Ok a) = a_mended a.length a.changes (refusal_face no_refusal)
mended_shown (Err r) = a_mended 0 0 (refusal_face r)

mended_shown_lem : (m : Mending) → mended_shown (mended_by m) ≡ mended_face m
unfolding mended_by mended_face
mended_shown_lem (mended t cs) = ap (λ (n : ℕ). a_mended (length t) n (refusal_face no_refusal)) (sym (length-map cs (λ c. c.kind)))
mended_shown_lem (unmended r) = refl

module _ (m : Mending) where
  pub changes_shown : {f : SumpquinceRefusal} {a : Mended} → f ≡ refusal_face no_refusal → Ok a ≡ mended_by m → a_mended a.length a.changes f ≡ mended_face m
  changes_shown {a = a} e told = ap (a_mended a.length a.changes) e ∙ ap mended_shown told ∙ mended_shown_lem m

  pub unmended_shown : {f : SumpquinceRefusal} {r : Refusal} → f ≡ refusal_face r → Err r ≡ mended_by m → a_mended 0 0 f ≡ mended_face m
  unmended_shown e a = ap (a_mended 0 0) e ∙ ap mended_shown a ∙ mended_shown_lem m
