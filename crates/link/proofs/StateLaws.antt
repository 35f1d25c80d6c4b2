-- The numbers of the state: what is due, what is short, and what is sound.
-- Assumes nothing.
use Prim.Native.Nat.{ℕ, zero, suc, ◌-◌, ◌*◌, ◌≤◌, ◌<◌, min}
use native.Mathlib.Omega.{arith}
use mathlib.Core.Path.{◌≡◌, refl, sym, ap, ◌∙◌}
use mathlib.Core.Bool.{Bool, true, false, cond, not, ◌&&◌, and-true}
use mathlib.Core.List.{[], ◌∷◌, ◌++◌, append-nil}
use lib.Dec.{eqb, leb, ltb}
use lib.ListN.{length, length-append, length-take}
use borrow.Author.Tests.{lt-ltb, le-ltb, le-leb, lt-leb, leb-true, leb-false, eq-eqb, ne_eqb, eqb-true, eqb-false}
use Rattle.rules.specs.declared.Refusal.{Refusal}
use Rattle.rules.specs.declared.Totals.{Totals}
use Rattle.rules.specs.declared.Due.{Due}
use Rattle.rules.specs.declared.Due.TheVariants.{Identifier, Keyword, Remarks, Remark, Record, End}
use Rattle.rules.specs.Text.{Text}
use Rattle.rules.specs.Rules.{Rules}
use Rattle.rules.specs.Log.{conjunction}
use Rattle.rules.specs.Judging.{zero_totals}
use Rattle.rules.specs.Reading.{refusal, records_due, refused, at_rest}
use Rattle.rules.specs.Answers.{no_refusal}
use Rattle.rules.specs.Link.{is_short}
use Rattle.rules.proofs.Tests.{and_l, and_r, never, clash}
use Rattle.judge.specs.declared.Counts.{Counts}
use Rattle.judge.specs.Narrow.{no_counts, sums_in}
use Rattle.judge.specs.Sums.{totals_kept}
use Rattle.link.specs.declared.Rated.{Rated}
use Rattle.link.specs.declared.Link.{Link}
use Rattle.link.specs.Link.{no_rates, no_line, stopped_by, line_of, due_at, due_of, is_end, announced, begun, declared_in, lent_of, is_sound, unended, rest_of, accepted_by}
use Rattle.link.specs.Piece.{rested_by}

-- A refusal, and nothing else.
abbrev bare : Refusal → Counts → Rated → Link
bare r c d =
    record {
      refusal = r;
      count = 0;
      lines = 0;
      points = 0;
      counts = c;
      rated = d;
      records = 0;
      done = 0;
      stage = 0;
      held = 0;
      returned = 0;
      line = no_line;
    }

pub stopped_bare : (r : Refusal) {c : Counts} {d : Rated} → c ≡ no_counts → d ≡ no_rates → bare r c d ≡ stopped_by r
unfolding stopped_by
stopped_bare r e f = λ i. bare r (e i) (f i)

-- # What is due

module _ (stage left : ℕ) where
  pub due_identifier : stage ≡ 0 → Identifier ≡ due_at stage left
  unfolding due_at
  due_identifier e = rw (eq-eqb stage 0 e)

  pub due_keyword : (stage ≡ 0 → ⊥) → stage ≤ 36 → Keyword (stage - 1) ≡ due_at stage left
  unfolding due_at
  due_keyword n h = rw (ne_eqb stage 0 n, le-leb stage 36 h)

  pub due_remarks : 36 < stage → stage ≡ 37 → Remarks ≡ due_at stage left
  unfolding due_at
  due_remarks h e = rw (ne_eqb stage 0 (λ z. omega arith), lt-leb stage 36 h, eq-eqb stage 37 e)

  pub due_remark : 36 < stage → (stage ≡ 37 → ⊥) → stage ≡ 38 → Remark ≡ due_at stage left
  unfolding due_at
  due_remark h n e = rw (ne_eqb stage 0 (λ z. omega arith), lt-leb stage 36 h, ne_eqb stage 37 n, eq-eqb stage 38 e)

  pub due_late : 38 < stage → due_at stage left ≡ records_due left
  unfolding due_at
  due_late h =
      rw (ne_eqb stage 0 (λ z. omega arith), lt-leb stage 36 (omega arith), ne_eqb stage 37 (λ z. omega arith), ne_eqb stage 38 (λ z. omega arith))

due_some : (left : ℕ) → 0 < left → Record left ≡ records_due left
unfolding records_due
due_some zero h = absurd (omega arith)
due_some (suc n) h = refl

due_none : (left : ℕ) → left ≡ 0 → End ≡ records_due left
unfolding records_due
due_none zero e = refl
due_none (suc n) e = absurd (omega arith)

module _ (stage records done : ℕ) (late : 38 < stage) where
  pub due_record : done < records → Record (records - done) ≡ due_at stage (records - done)
  due_record h = due_some (records - done) (omega arith) ∙ sym (due_late stage (records - done) late)

  pub due_end : records ≤ done → End ≡ due_at stage (records - done)
  due_end h = due_none (records - done) (omega arith) ∙ sym (due_late stage (records - done) late)

  -- Nothing more is due where all records were taken.
  pub end_late : leb records done ≡ is_end (due_at stage (records - done))
  end_late = by (leb records done) refl
    where
      by : (b : Bool) → leb records done ≡ b → b ≡ is_end (due_at stage (records - done))
      by true e = ap is_end (due_end (leb-true records done e))
      by false e = ap is_end (due_record (leb-false records done e))

pub ruleset due_laws = (due_identifier, due_keyword, due_remarks, due_remark, due_record, due_end)

-- In front of the records: the identifier, a keyword, or a remark.
early_is : (P : Due → Type 0) → P Identifier → ((k : ℕ) → P (Keyword k)) → P Remarks → P Remark → (stage left : ℕ) → stage < 39 → P (due_at stage left)
unfolding due_at
early_is P identifier keyword remarks remark stage left h =
    by (eqb stage 0) (leb stage 36) (eqb stage 37) (eqb stage 38) refl refl refl
  where
    by : (a b c d : Bool) → leb stage 36 ≡ b → eqb stage 37 ≡ c → eqb stage 38 ≡ d → P (cond a Identifier (cond b (Keyword (stage - 1)) (cond c Remarks (cond d Remark (records_due left)))))
    by true b c d f g k = identifier
    by false true c d f g k = keyword (stage - 1)
    by false false true d f g k = remarks
    by false false false true f g k = remark
    by false false false false f g k =
        let late = leb-false stage 36 f in
        let other = eqb-false stage 37 g in
        let another = eqb-false stage 38 k in
        absurd (omega (arith, other, another))

pub end_early : (stage left : ℕ) → stage < 39 → false ≡ is_end (due_at stage left)
end_early stage left h = early_is (λ due. false ≡ is_end due) refl (λ k. refl) refl refl stage left h

-- # What is lent

module _ (s : Link) (verdicts worked : ℕ) where
  pub enough_early : s.stage < 39 → true ≡ not (is_short (lent_of verdicts worked) (announced s))
  unfolding announced is_short
  enough_early h =
      rw (lt-ltb s.stage 39 h, le-ltb verdicts 0 (omega arith), le-ltb worked 0 (omega arith))

  pub enough_not : 39 ≤ s.stage → verdicts < s.records → false ≡ not (is_short (lent_of verdicts worked) (announced s))
  unfolding announced is_short
  enough_not h l = rw (le-ltb s.stage 39 h, lt-ltb verdicts s.records l)

  pub enough_worked : 39 ≤ s.stage → s.records ≤ verdicts → leb (s.records * 24) worked ≡ not (is_short (lent_of verdicts worked) (announced s))
  unfolding announced is_short
  enough_worked h l = rw (le-ltb s.stage 39 h, le-ltb verdicts s.records l) (by (leb (s.records * 24) worked) refl)
    where
      by : (b : Bool) → leb (s.records * 24) worked ≡ b → b ≡ not (ltb worked (s.records * 24))
      by true e = sym (ap not (le-ltb worked (s.records * 24) (leb-true (s.records * 24) worked e)))
      by false e = sym (ap not (lt-ltb worked (s.records * 24) (leb-false (s.records * 24) worked e)))

-- # What is sound

module _ (R : Rules) (s : Link) where
  pub unsound_count : R.longest_log < s.count → false ≡ is_sound R s
  unfolding is_sound conjunction
  unsound_count h = rw (lt-leb s.count R.longest_log h)

  pub unsound_lines : s.count ≤ R.longest_log → s.count < s.lines → false ≡ is_sound R s
  unfolding is_sound conjunction
  unsound_lines h l = rw (le-leb s.count R.longest_log h, lt-leb s.lines s.count l)

  pub sound_held : s.count ≤ R.longest_log → s.lines ≤ s.count → leb s.held 75 ≡ is_sound R s
  unfolding is_sound conjunction
  sound_held h l = rw (le-leb s.count R.longest_log h, le-leb s.lines s.count l, and-true (leb s.held 75))

  pub record IsSound : Type 0 where
    pub count : s.count ≤ R.longest_log
    pub lines : s.lines ≤ s.count
    pub held : s.held ≤ 75

  pub sound_is : is_sound R s ≡ true → IsSound
  unfolding is_sound conjunction
  sound_is e =
      let a = leb s.count R.longest_log in
      let b = leb s.lines s.count in
      let c = leb s.held 75 in
      let rest = and_r a (b && (c && true)) e in
      record {
        count = leb-true s.count R.longest_log (and_l a (b && (c && true)) e);
        lines = leb-true s.lines s.count (and_l b (c && true) rest);
        held = leb-true s.held 75 (and_l c true (and_r b (c && true) rest));
      }

-- # The closing

pub unended_by : (s : Link) {t : Totals} → t ≡ zero_totals → record { link = s; refusal = s.refusal; totals = t } ≡ unended s
unfolding unended
unended_by s e = λ i. record { link = s; refusal = s.refusal; totals = e i }

-- All is there.
pub accepted_by_lem : (R : Rules) (s : Link) {j : Link} {t : Totals} → j ≡ stopped_by (refusal 13 0 0) → t ≡ totals_kept R (sums_in s.points s.counts) (declared_in s.rated) → record { link = j; refusal = refusal 0 0 0; totals = t } ≡ accepted_by R s
unfolding accepted_by no_refusal
accepted_by_lem R s e f = λ i. record { link = e i; refusal = refusal 0 0 0; totals = f i }

-- The bytes behind the last finished line: there are some behind a CR, and where characters are held.
module _ (s : Link) where
  pub rest_returned : (s.returned ≡ 0 → ⊥) → true ≡ not (eqb (length (rest_of s)) 0)
  rest_returned n = rw (ne_eqb s.returned 0 n) (sym (ap not (ne_eqb (length (begun s ++ (13 ∷ []))) 0 (λ e. omega (arith, length-append (begun s) (13 ∷ []), e)))))

  pub rest_plain : s.returned ≡ 0 → 0 < length s.line → not (eqb s.held 0) ≡ not (eqb (length (rest_of s)) 0)
  rest_plain e h = rw (eq-eqb s.returned 0 e) (by (eqb s.held 0) refl)
    where
      long : length (begun s ++ []) ≡ min s.held (length s.line)
      long = ap length (append-nil (begun s)) ∙ length-take s.held s.line

      by : (b : Bool) → eqb s.held 0 ≡ b → not b ≡ not (eqb (length (begun s ++ [])) 0)
      by true g = ap not (sym (eq-eqb (length (begun s ++ [])) 0 (omega (arith, long, eqb-true s.held 0 g))))
      by false g =
          let held = eqb-false s.held 0 g in
          ap not (sym (ne_eqb (length (begun s ++ [])) 0 (λ z. held (omega (arith, long, z, h)))))

some : (c : ℕ) (t : Text) → not (eqb (length (c ∷ t)) 0) ≡ true
some c t = ap not (ne_eqb (length (c ∷ t)) 0 (λ e. omega (arith, e)))

-- What the end of the bytes means: where a record is due, and where nothing is.
rest_due : (m n : ℕ) (t : Text) (b : Bool) → not (eqb (length t) 0) ≡ b → refused (refusal (cond b 2 6) n 0) ≡ at_rest (Record m) n t
unfolding at_rest
rest_due m n [] true e = never e
rest_due m n [] false e = refl
rest_due m n (c ∷ t) true e = refl
rest_due m n (c ∷ t) false e = clash (some c t) e

rest_over : (n : ℕ) (t : Text) → not (eqb (length t) 0) ≡ true → refused (refusal 6 n 0) ≡ at_rest End n t
unfolding at_rest
rest_over n [] e = never e
rest_over n (c ∷ t) e = refl

module _ (s : Link) where
  abbrev rests : Due → Link
  rests due = rested_by s (at_rest due (line_of s) (rest_of s))

  pub rests_early : s.stage < 39 → stopped_by (refusal 2 (line_of s) 0) ≡ rests (due_of s)
  unfolding rested_by at_rest
  rests_early h =
      early_is (λ due. stopped_by (refusal 2 (line_of s) 0) ≡ rests due) refl (λ k. refl) refl refl s.stage (s.records - s.done) h

  module _ (late : 39 ≤ s.stage) where
    pub rests_due : s.done < s.records → (b : Bool) → not (eqb (length (rest_of s)) 0) ≡ b → stopped_by (refusal (cond b 2 6) (line_of s) 0) ≡ rests (due_of s)
    unfolding rested_by
    rests_due l b e =
        ap (rested_by s) (rest_due (s.records - s.done) (line_of s) (rest_of s) b e)
        ∙ ap rests (due_record s.stage s.records s.done (omega (arith, late)) l)

    pub rests_more : s.records ≤ s.done → not (eqb (length (rest_of s)) 0) ≡ true → stopped_by (refusal 6 (line_of s) 0) ≡ rests (due_of s)
    unfolding rested_by
    rests_more l e =
        ap (rested_by s) (rest_over (line_of s) (rest_of s) e)
        ∙ ap rests (due_end s.stage s.records s.done (omega (arith, late)) l)

    pub rests_whole : s.records ≤ s.done → not (eqb (length (rest_of s)) 0) ≡ false → s ≡ rests (due_of s)
    unfolding rested_by at_rest
    rests_whole l e =
        whole (rest_of s) e
        ∙ ap rests (due_end s.stage s.records s.done (omega (arith, late)) l)
      where
        whole : (t : Text) → not (eqb (length t) 0) ≡ false → s ≡ rested_by s (at_rest End (line_of s) t)
        whole [] g = refl
        whole (c ∷ t) g = clash (some c t) g
