-- Writing back, record by record: the written records are judged as those they were written from, and are written back unchanged.
-- Assumes nothing.
use mathlib.Core.Path.{◌≡◌, refl, sym, ap, ◌∙◌}
use mathlib.Core.Bool.{Bool, true, false, cond, not, ◌&&◌, ◌||◌}
use mathlib.Core.List.{List, [], ◌∷◌}
use lib.Dec.{eqb}
use lib.ListN.{take}
use Rattle.rules.specs.declared.Class.{Class}
use Rattle.rules.specs.declared.Class.TheVariants.{Credited, Duplicate}
use Rattle.rules.specs.declared.Verdict.{Verdict}
use Rattle.rules.specs.Text.{Text, bytes, same, value}
use Rattle.rules.specs.Rules.{Rules}
use Rattle.rules.specs.Fields.{Qso, error_call, is_error, duplicate_mark}
use Rattle.rules.specs.Log.{Log}
use Rattle.rules.specs.Judging.{is, class_number, some, same_call, worked, claims_duplicate, may_repeat, class_of, claims_points, square, is_new, claims_country, verdict_of, credited_after, verdicts_after, verdicts, verdicts_of_log}
use Rattle.rules.specs.Writing.{written_record, written_records, written_back}
use Rattle.rules.proofs.Classes.{class_by}

-- Two lists of credited records that show the same calls, exchanges and locators.
abbrev Alike : List Qso → List Qso → Type 0
Alike ds cs =
    (f : Text → Text → Text → Bool) →
    some (λ e. f e.call e.exchange e.locator) ds ≡ some (λ e. f e.call e.exchange e.locator) cs

-- The class once a D stands exactly on duplicates, and what is no duplicate has its points: with no D it is asked for points as before.
same_class : (e d p m r : Bool) →
    (is Duplicate (class_by e ((p || m) && d) p) ≡ false → r ≡ p) →
    class_by e ((r || is Duplicate (class_by e ((p || m) && d) p)) && d) r ≡ class_by e ((p || m) && d) p
unfolding is class_number
same_class true d p m r h = refl
same_class false true true m true h = refl
same_class false true true m false h = refl
same_class false true false true true h = refl
same_class false true false true false h = refl
same_class false true false false r h = rw (h refl)
same_class false false true m r h = rw (h refl)
same_class false false false true r h = rw (h refl)
same_class false false false false r h = rw (h refl)

same_and : (b x y : Bool) → (b ≡ true → x ≡ y) → (b && x) ≡ (b && y)
same_and true x y h = h refl
same_and false x y h = refl

module _ (R : Rules) where
  -- The class by the four tests that tell it.
  class_by_lem : (cs : List Qso) (q : Qso) →
      class_of R cs q ≡ class_by (is_error q) ((claims_points q || claims_duplicate q) && worked R cs q) (claims_points q)
  unfolding class_of may_repeat
  class_by_lem cs q = refl

  -- A record r after ds is judged as a record q after cs.
  module _ (ds cs : List Qso) (r q : Qso) (alike : Alike ds cs)
      (calls : r.call ≡ q.call) (exchanges : r.exchange ≡ q.exchange) (locators : r.locator ≡ q.locator)
      (points : is Duplicate (class_of R cs q) ≡ false → r.points ≡ q.points)
      (marks : claims_duplicate r ≡ is Duplicate (class_of R cs q))
      (countries : is Credited (class_of R cs q) ≡ true → r.new_country ≡ q.new_country) where
    class_same : class_of R ds r ≡ class_of R cs q
    unfolding is_error claims_points worked
    class_same =
        let error : is_error r ≡ is_error q = ap (λ (c : Text). same c error_call) calls in
        let again : worked R ds r ≡ worked R cs q =
        (λ i. some (λ e. same_call R e.call (calls i)) ds) ∙ alike (λ c x l. same_call R c q.call) in
        let mark : claims_duplicate r ≡ is Duplicate (class_by (is_error q) ((claims_points q || claims_duplicate q) && worked R cs q) (claims_points q)) =
        marks ∙ ap (is Duplicate) (class_by_lem cs q) in
        class_by_lem ds r
        ∙ (λ i. class_by (error i) ((claims_points r || mark i) && again i) (claims_points r))
        ∙ same_class (is_error q) (worked R cs q) (claims_points q) (claims_duplicate q) (claims_points r)
        (λ n. ap (λ (t : Text). not (eqb (value t) 0)) (points (ap (is Duplicate) (class_by_lem cs q) ∙ n)))
        ∙ sym (class_by_lem cs q)

    exchange_same : is_new (λ e. e.exchange) ds r ≡ is_new (λ e. e.exchange) cs q
    unfolding is_new
    exchange_same = rw (exchanges, alike (λ c x l. same x q.exchange))

    square_same : is_new square ds r ≡ is_new square cs q
    unfolding is_new square
    square_same = rw (locators, alike (λ c x l. same (take 4 l) (take 4 q.locator)))

    country_same : (is Credited (class_of R cs q) && claims_country r) ≡ (is Credited (class_of R cs q) && claims_country q)
    unfolding claims_country
    country_same =
        same_and (is Credited (class_of R cs q)) (claims_country r) (claims_country q) (λ c. rw (countries c))

    pub verdict_same : verdict_of R ds r ≡ verdict_of R cs q
    unfolding verdict_of
    verdict_same = rw (class_same, exchange_same, square_same, country_same)

  -- "the last field is `D` exactly on duplicates"
  mark_claimed : (b : Bool) → same (cond b duplicate_mark []) duplicate_mark ≡ b
  unfolding same duplicate_mark
  mark_claimed true = refl
  mark_claimed false = refl

  -- A written record is judged as the record it was written from.
  written_judged : (ds cs : List Qso) (q : Qso) → Alike ds cs → verdict_of R ds (written_record (verdict_of R cs q) q) ≡ verdict_of R cs q
  unfolding written_record verdict_of claims_duplicate
  written_judged ds cs q alike =
      verdict_same ds cs (written_record (verdict_of R cs q) q) q alike refl refl refl (λ n. rw n) (mark_claimed (is Duplicate (class_of R cs q))) (λ c. rw c)

  alike_after : (c : Class) (v : Verdict) (q : Qso) (ds cs : List Qso) →
      Alike ds cs →
      Alike (credited_after c (written_record v q) ds) (credited_after c q cs)
  unfolding credited_after some written_record
  alike_after c v q ds cs alike = by (is Credited c)
    where
      by : (b : Bool) → Alike (cond b (written_record v q ∷ ds) ds) (cond b (q ∷ cs) cs)
      by true f = rw (alike f)
      by false f = alike f

  pub written_verdicts_after : (ds cs qs : List Qso) →
      Alike ds cs →
      verdicts_after R ds (written_records (verdicts_after R cs qs) qs) ≡ verdicts_after R cs qs
  unfolding verdicts_after written_records
  written_verdicts_after ds cs [] alike = refl
  written_verdicts_after ds cs (q ∷ qs) alike =
      let v = verdict_of R cs q in
      let after : Verdict → List Verdict = λ w. w ∷ verdicts_after R (credited_after w.class (written_record v q) ds) (written_records (verdicts_after R (credited_after v.class q cs) qs) qs) in
      ap after (written_judged ds cs q alike)
      ∙ (ap {B = List Verdict} (λ vs. v ∷ vs)
      (written_verdicts_after (credited_after v.class (written_record v q) ds) (credited_after v.class q cs) qs
      (alike_after v.class v q ds cs alike)))

  pub written_verdicts : (log : Log) → verdicts_of_log R (written_back R log) ≡ verdicts_of_log R log
  unfolding verdicts_of_log verdicts written_back
  written_verdicts log = written_verdicts_after [] [] log.records (λ f. refl)

-- Writing a record a second time changes nothing.
chosen_twice : {A : Type 0} (b : Bool) (x y z : A) → cond b (cond b x y) z ≡ cond b x z
chosen_twice true x y z = refl
chosen_twice false x y z = refl

kept_twice : {A : Type 0} (b : Bool) (x y z : A) → cond b x (cond b y z) ≡ cond b x z
kept_twice true x y z = refl
kept_twice false x y z = refl

record_twice : (v : Verdict) (q : Qso) → written_record v (written_record v q) ≡ written_record v q
unfolding written_record
record_twice v q =
    rw (kept_twice (is Duplicate v.class) (bytes "0") (bytes "0") q.points, chosen_twice (is Credited v.class) q.new_country [] [])

pub records_twice : (vs : List Verdict) (qs : List Qso) → written_records vs (written_records vs qs) ≡ written_records vs qs
unfolding written_records
records_twice [] qs = refl
records_twice (v ∷ vs) [] = refl
records_twice (v ∷ vs) (q ∷ qs) = rw (record_twice v q, records_twice vs qs)
