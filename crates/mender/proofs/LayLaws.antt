-- Laws of what is done to a line, by where it lies: from the line as it was cut to the line as it is mended.
-- Assumes nothing.
use Prim.Native.Nat.{ℕ, ◌-◌, ◌≤◌, ◌<◌}
use native.Mathlib.Omega.{arith}
use mathlib.Core.Path.{◌≡◌, refl, sym, ap, ap₂, subst, ◌∙◌}
use mathlib.Core.Bool.{Bool, true, false, cond, ◌&&◌}
use mathlib.Core.List.{List, [], ◌∷◌, ◌++◌, append-nil}
use lib.Dec.{eqb}
use lib.ListN.{length, drop, length-append}
use borrow.Author.Tests.{eqb-true}
use Rattle.rules.specs.declared.Region.{Region}
use Rattle.rules.specs.Text.{Text, all, allowed, begins, empty, same}
use Rattle.rules.specs.Log.{remarks_line, count_start, count_line}
use Rattle.rules.specs.Mending.{MendedLine, trimmed, digits_then_end, has_count, count_set, changed_to, region_after, line_mended, lines_mended}
use Rattle.rules.proofs.MendingLaws.{mended_more, none_begun, set_of_none}
use Rattle.rules.proofs.Tests.{fails}
use Rattle.rules.proofs.TextLaws.{same_refl, same_eq, begins_split}
use Rattle.reader.specs.Contact.{between}
use Rattle.writer.proofs.WrittenLaws.{part_length}
use Rattle.std.specs.Prelude.{Option, Some, None}
use Rattle.mender.specs.declared.Kind.{Kind}
use Rattle.mender.specs.declared.Kind.TheVariants.{SpacesDropped, CountSet}
use Rattle.mender.specs.declared.Cut.{Cut}
use Rattle.mender.specs.declared.Laid.{Laid}
use Rattle.mender.specs.Lines.{lines_at, mended_at, kinds_of, Trims, Cuts, text_laid, line_laid, count_kind, Lays}

-- The lines from a place on begin with the line that was laid there.
pub mended_turn : {region : Region} {s : Text} {at follow : ℕ} {l : Laid} → Lays region s at follow l → follow ≡ length (lines_at s l.next) → mended_at region s at ≡ line_laid s at follow l ∷ mended_at l.region s l.next
mended_turn {region} {s} {at} {follow} {l} k f =
    let rest = lines_at s l.next in
    ap (lines_mended region) k.lines
    ∙ mended_more region k.line rest
    ∙ ap₂ (λ (m : MendedLine) (ms : List MendedLine). m ∷ ms)
    (ap (λ (n : ℕ). line_mended region n k.line) (sym f) ∙ k.mends)
    (ap (λ (r : Region). lines_mended r rest) k.after)

-- Spaces are allowed characters, so that a text has no more of them with its spaces than without.
pub all_trimmed : (t : Text) → all allowed (trimmed t) ≡ all allowed t
unfolding all trimmed
all_trimmed [] = refl
all_trimmed (c ∷ t) = by (trimmed t) refl (eqb c 32) refl (all_trimmed t)
  where
    by : (u : Text) → trimmed t ≡ u → (b : Bool) → eqb c 32 ≡ b → all allowed (trimmed t) ≡ all allowed t → all allowed (cond (b && empty u) [] (c ∷ u)) ≡ (allowed c && all allowed t)
    by [] e true g h =
        let space : c ≡ 32 = eqb-true c 32 g in
        let others : all allowed t ≡ true = sym h ∙ ap (all allowed) e in
        rw (space, others)
    by [] e false g h = ap (λ (b : Bool). allowed c && b) (ap (all allowed) (sym e) ∙ h)
    by (d ∷ u) e true g h = ap (λ (b : Bool). allowed c && b) (ap (all allowed) (sym e) ∙ h)
    by (d ∷ u) e false g h = ap (λ (b : Bool). allowed c && b) (ap (all allowed) (sym e) ∙ h)

-- What is laid may be said otherwise.
pub lays_as : {region other : Region} {s : Text} {at follow : ℕ} {l m : Laid} → Lays other s at follow m → region ≡ other → l ≡ m → Lays region s at follow l
lays_as {region} {other} {s} {at} {follow} {l} {m} k e g =
    subst (λ (r : Region). Lays r s at follow l) (sym e) (subst (λ (x : Laid). Lays other s at follow x) (sym g) k)

-- # From a cut line to a mended one

module _ {s : Text} {at : ℕ} {c : Cut} (k : Cuts s at c) (follow : ℕ) where
  abbrev text : Text
  text = between s at c.end

  abbrev line : MendedLine
  line = record { text = text; done = kinds_of c.done }

  abbrev laid_to : ℕ → Option Kind → Region → Laid
  laid_to end second after =
      record { end = end; next = c.next; first = c.done; second = second; clean = c.clean; region = after }

  -- A line to whose text nothing was done.
  untouched : (after : Region) → line ≡ line_laid s at follow (laid_to c.end None after)
  unfolding line_laid text_laid kinds_of
  untouched after = ap (λ (ks : List ℕ). record { text = text; done = ks }) (sym (append-nil (kinds_of c.done)))

  kept : (region after : Region) → line_mended region follow line ≡ line → region_after region text ≡ after → Lays region s at follow (laid_to c.end None after)
  kept region after m r =
      record { line = line; lines = k.lines; mends = m ∙ untouched after; after = r; spans = k.spans; clean = k.clean }

  -- In the head.
  pub head_remarks : {b : Bool} → b ≡ same text (91 ∷ 82 ∷ 101 ∷ 109 ∷ 97 ∷ 114 ∷ 107 ∷ 115 ∷ 93 ∷ []) → b ≡ true → Lays Region.Head s at follow (laid_to c.end None Region.Remarks)
  unfolding line_mended region_after remarks_line
  head_remarks e t = kept Region.Head Region.Remarks refl (rw (sym e ∙ t))

  pub head_other : {b : Bool} → b ≡ same text (91 ∷ 82 ∷ 101 ∷ 109 ∷ 97 ∷ 114 ∷ 107 ∷ 115 ∷ 93 ∷ []) → b ≡ false → Lays Region.Head s at follow (laid_to c.end None Region.Head)
  unfolding line_mended region_after remarks_line
  head_other e t = kept Region.Head Region.Head refl (rw (sym e ∙ t))

  -- Where a line gets the text that it has, nothing is listed.
  same_text : (kind : ℕ) (new : Text) → new ≡ text → changed_to kind new line ≡ line
  unfolding changed_to
  same_text kind new e = rw (e, same_refl text, append-nil (kinds_of c.done))

  other_text : (kind : ℕ) (new : Text) → same new text ≡ false → changed_to kind new line ≡ record { text = new; done = kinds_of c.done ++ (kind ∷ []) }
  unfolding changed_to
  other_text kind new e = rw e

  -- Among the remarks.
  pub remark_other : begins count_start text ≡ false → Lays Region.Remarks s at follow (laid_to c.end None Region.Remarks)
  unfolding line_mended region_after
  remark_other e =
      kept Region.Remarks Region.Remarks (same_text 4 (count_set follow text) (set_of_none follow text (none_begun text e))) (rw e)

  module _ (e : begins count_start text ≡ true) where
    has : (b : Bool) → digits_then_end (drop (length count_start) text) ≡ b → has_count text ≡ b
    unfolding has_count
    has b d = rw (e, d)

    region_is : region_after Region.Remarks text ≡ Region.Records
    unfolding region_after
    region_is = rw e

    set_is : has_count text ≡ true → count_set follow text ≡ count_line follow
    unfolding count_set
    set_is h = rw h

    counted : line_mended Region.Remarks follow line ≡ line_laid s at follow (laid_to c.end (count_kind follow text) Region.Records)
    unfolding line_mended count_kind
    counted = by (digits_then_end (drop (length count_start) text)) refl (same (count_line follow) text) refl
      where
        by : (b : Bool) → digits_then_end (drop (length count_start) text) ≡ b → (d : Bool) → same (count_line follow) text ≡ d → changed_to 4 (count_set follow text) line ≡ line_laid s at follow (laid_to c.end (cond b (cond d None (Some CountSet)) None) Region.Records)
        by false h d g = same_text 4 (count_set follow text) (set_of_none follow text (has false h)) ∙ untouched Region.Records
        by true h true g =
            same_text 4 (count_set follow text) (set_is (has true h) ∙ same_eq (count_line follow) text g) ∙ untouched Region.Records
        by true h false g =
            ap (λ (t : Text). changed_to 4 t line) (set_is (has true h))
            ∙ other_text 4 (count_line follow) g
            ∙ unfold line_laid text_laid kinds_of in refl

    -- The line has as many characters as the word that it begins with.
    pub count_long : length count_start ≤ length text
    count_long =
        let long = ap length (begins_split count_start text e) ∙ length-append count_start (drop (length count_start) text) in
        omega (arith, long)

    pub count_lays : {second : Option Kind} → second ≡ count_kind follow text → Lays Region.Remarks s at follow (laid_to c.end second Region.Records)
    count_lays {second} q =
        record {
          line = line;
          lines = k.lines;
          mends = counted ∙ ap (λ (n : Option Kind). line_laid s at follow (laid_to c.end n Region.Records)) (sym q);
          after = region_is;
          spans = k.spans;
          clean = k.clean;
        }

  -- Behind the count line.
  module _ {last : ℕ} (t : Trims s at c.end last) where
    pub record_kept : c.end ≤ last → Lays Region.Records s at follow (laid_to c.end None Region.Records)
    unfolding line_mended region_after
    record_kept h =
        let e : last ≡ c.end = omega (arith, t.within) in
        kept Region.Records Region.Records (same_text 3 (trimmed text) (sym t.text ∙ ap (between s at) e)) refl

    -- A text without its spaces is shorter.
    shorter : last < c.end → same (trimmed text) text ≡ false
    shorter h =
        let long : length text ≡ c.end - at = part_length s at c.end k.spans.forth k.spans.within in
        let short : length (between s at last) ≡ last - at = part_length s at last t.forth (omega (arith, k.spans.within)) in
        fails (same (trimmed text) text)
        (λ e. let z : length (between s at last) ≡ length text = ap length (t.text ∙ same_eq (trimmed text) text e) in omega (arith, t.forth, long, short))

    pub record_trimmed : last < c.end → Lays Region.Records s at follow (laid_to last (Some SpacesDropped) Region.Records)
    unfolding line_mended region_after
    record_trimmed h =
        record {
          line = line;
          lines = k.lines;
          mends = other_text 3 (trimmed text) (shorter h)
              ∙ ap (λ (u : Text). record { text = u; done = kinds_of c.done ++ (3 ∷ []) }) (sym t.text)
              ∙ unfold line_laid text_laid kinds_of in refl;
          after = refl;
          spans = record {
            forth = t.forth;
            within = omega (arith, k.spans.within);
            behind = omega (arith, k.spans.behind);
            near = k.spans.near;
          };
          clean = ap (all allowed) t.text ∙ all_trimmed text ∙ k.clean;
        }
