-- `writer::write_weighed` meets its contract: the result is measured, and where it fits the claims and the records are written one behind the other.
-- Assumes nothing.
use Prim.Native.Nat.{◌+◌, ◌≤◌}
use native.Mathlib.Omega.{arith}
use mathlib.Core.Bool.{true, ◌&&◌}
use mathlib.Core.List.{◌++◌}
use mathlib.Core.Path.{◌≡◌, refl, sym, ap, ◌∙◌}
use lib.Dec.{leb}
use lib.ListN.{length}
use borrow.Author.Rules.{rules}
use borrow.Author.Tests.{not-true, not-false, leb-true}
use Rattle.std.specs.Prelude.{Err}
use Rattle.rules.proofs.Tests.{and_r}
use Rattle.rules.specs.Rules.{base}
use Rattle.rules.specs.Text.{Text}
use Rattle.writer.specs.Written.{Puts}
use Rattle.writer.proofs.RecordLoops.{log_small}
use Rattle.writer.proofs.WriteLaws.{result, head_text, body_text, records_in_order, found_nine, found_in_order, found_text, claims_begin, short, result_length, as_tested, refused_answer, refused_slice, keywords_there, written_answer, written_slice}
use Rattle.writer.proofs.WrittenLaws.{puts_room, puts_then, puts_as}
use Rattle.writer.proofs.write_weighed.Statement.{statement}
use Rattle.writer.proofs.write_weighed.Tie as tie

-- The places of the code, each by the one before it.
abbrev begun : tie.After-slice_known-1 → tie.Start
begun c = c.before.before.before.before.before.before

abbrev numbered : tie.After-claims_at → tie.After-claim_numbers-claims
numbered c = c.before.before.before

abbrev origin : tie.After-claims_at → tie.Start
origin c = begun (numbered c).before

abbrev located : tie.After-claims_length-head → tie.After-claims_at
located c = c.before.before.before.before.before.before

abbrev measured : tie.After-result_fits → tie.After-claims_length-head
measured c = c.before.before

abbrev start : tie.After-result_fits → tie.Start
start c = origin (located (measured c))

abbrev tested : tie.After-put_claims-at → tie.Else-not-result_fits
tested c = c.before.before.before.before.before

-- The length that was measured is that of the result, and so the test is the definition's.
long : (c : tie.After-records_length)
    → let b = origin (located c.before) in
    c.claims_length-head.result + c.records_length.result ≡ length (result b.requires)
long c =
    let l = located c.before in
    let w = (origin l).requires in
    omega (arith, result_length w, ap length (found_text w l.claims_at.ensures.0 l.claims_at.ensures.1 (numbered l).claim_numbers-claims.ensures), c.claims_length-head.ensures.0, c.records_length.ensures.0)

-- The result fits the slice.
room : (c : tie.Else-not-result_fits)
    → let m = c.before.before in
    m.claims_length-head.result + m.records_length.result ≤ length (start c.before).args.out.now
room c =
    let m = c in
    let n = m.claims_length-head.result + m.records_length.result in
    let k = length (start c.before).args.out.now in
    leb-true n k (and_r (leb n base.longest_log) (leb n k) (sym c.result_fits.ensures ∙ not-false _ c.if-not-result_fits.false-raw))

claim_numbers_requires : tie.Need-claim_numbers-claims-requires
claim_numbers_requires c κs = search rules

slice_aggregate_claims_at : tie.Need-slice_bounds-claims_at-end
slice_aggregate_claims_at c = search rules

slice_aggregate_claims_at_2 : tie.Need-slice_bounds-claims_at-end-2
slice_aggregate_claims_at_2 c = search rules

claims_at_requires : tie.Need-claims_at-requires
claims_at_requires c κs = (claims_begin (begun c.before.before.before).requires, refl)

slice_aggregate_claims_length : tie.Need-slice_bounds-claims_length-end
slice_aggregate_claims_length c = search rules

slice_aggregate_claims_length_2 : tie.Need-slice_bounds-claims_length-end-2
slice_aggregate_claims_length_2 c = search rules

slice_aggregate_claims_length_3 : tie.Need-slice_bounds-claims_length-end-3
slice_aggregate_claims_length_3 c = search rules

claims_length_requires : tie.Need-claims_length-head-requires
claims_length_requires c κs =
    let l = c.before.before.before.before.before in
    let w = (origin l).requires in
    (found_in_order w l.claims_at.ensures.0 l.claims_at.ensures.1 (numbered l).claim_numbers-claims.ensures, omega (arith, found_nine w l.claims_at.ensures.0 l.claims_at.ensures.1 (numbered l).claim_numbers-claims.ensures), short w)

records_length_requires : tie.Need-records_length-requires
records_length_requires c κs = let w = (origin (located c)).requires in (records_in_order w, short w)

add_length : tie.Need-overflow_add-length
add_length c =
    let w = (origin (located c.before)).requires in
    omega (arith, short w, log_small, c.claims_length-head.ensures.1, c.records_length.ensures.1)

result_fits_requires : tie.Need-result_fits-requires
result_fits_requires c κs = search rules

refused_requires : tie.Need-refused-requires
refused_requires c κs = search rules

returns : tie.Need-returns-then-not-result_fits
returns c =
    let r = c.before in
    let f = r.before in
    let m = f.before in
    let b = start f in
    let out = b.args.out.now in
    let no = sym (as_tested b.requires (length out) (m.claims_length-head.result + m.records_length.result) (long m) f.result_fits.ensures) ∙ not-true _ r.if-not-result_fits.true-raw in
    (ap Err c.refused.ensures ∙ refused_answer b.requires out no, refused_slice b.requires out no)

slice_aggregate_put_claims : tie.Need-slice_bounds-put_claims-end
slice_aggregate_put_claims c = search rules

slice_aggregate_put_claims_2 : tie.Need-slice_bounds-put_claims-end-2
slice_aggregate_put_claims_2 c = search rules

slice_aggregate_put_claims_3 : tie.Need-slice_bounds-put_claims-end-3
slice_aggregate_put_claims_3 c = search rules

put_claims_requires : tie.Need-put_claims-at-requires
put_claims_requires c κs =
    let e = c.before.before.before.before in
    let m = measured e.before in
    let l = located m in
    (found_in_order (origin l).requires l.claims_at.ensures.0 l.claims_at.ensures.1 (numbered l).claim_numbers-claims.ensures, omega (arith, room e, m.claims_length-head.ensures.0))

put_records_requires : tie.Need-put_records-end-requires
put_records_requires c κs =
    let p = c.before.before.before in
    let e = tested p in
    let m = e in
    let w = (start e.before).requires in
    (records_in_order w, puts_room p.put_claims-at.ensures (body_text w) (omega (arith, room e, m.claims_length-head.ensures.0, m.records_length.ensures.0)))

-- Claims and records stand one behind the other, in the slice that has room for them.
abbrev claimed : tie.After-put_records-end → tie.After-put_claims-at
claimed r = r.before.before.before.before

abbrev before : tie.After-put_records-end → tie.Start
before r = start (tested (claimed r)).before

fits : (r : tie.After-put_records-end)
    → let b = before r in
    let n = length (result b.requires) in
    (leb n base.longest_log && leb n (length b.args.out.now)) ≡ true
fits r =
    let e = tested (claimed r) in
    let f = e.before in
    let m = f.before in
    let b = before r in
    sym (as_tested b.requires (length b.args.out.now) (m.claims_length-head.result + m.records_length.result) (long m) f.result_fits.ensures) ∙ not-false _ e.if-not-result_fits.false-raw

put_both : (r : tie.After-put_records-end)
    → let b = before r in
    Puts b.args.out.now 0 (head_text b.requires ++ body_text b.requires) r.put_records-end.new.out r.put_records-end.result
put_both r =
    let w = (before r).requires in
    let l = located (tested (claimed r)).before.before.before in
    let head = found_text w l.claims_at.ensures.0 l.claims_at.ensures.1 (numbered l).claim_numbers-claims.ensures in
    puts_as (puts_then (claimed r).put_claims-at.ensures r.put_records-end.ensures) (ap (λ (t : Text). t ++ body_text w) head)

respell_requires : tie.Need-respell-requires
respell_requires c κs = let r = c.before.before.before in keywords_there (before r).requires (fits r) (put_both r)

same_length : tie.Need-shape_of-out
same_length c = search rules

returns_2 : tie.Need-returns
returns_2 c =
    let r = c.before.before.before.before.before.before in
    let w = (before r).requires in
    (written_answer w (fits r) (put_both r), written_slice w (fits r) (put_both r) c.respell.ensures)

pub write_weighed_spec : {M : Type 1} → statement M
write_weighed_spec =
    tie.close
    (tie.spec
    claim_numbers_requires
    slice_aggregate_claims_at
    slice_aggregate_claims_at_2
    claims_at_requires
    slice_aggregate_claims_length
    slice_aggregate_claims_length_2
    slice_aggregate_claims_length_3
    claims_length_requires
    records_length_requires
    add_length
    result_fits_requires
    refused_requires
    returns
    slice_aggregate_put_claims
    slice_aggregate_put_claims_2
    slice_aggregate_put_claims_3
    put_claims_requires
    put_records_requires
    respell_requires
    same_length
    returns_2)
