-- The search goes from one equal key to the next, and ends at the first part that is the same.
use Prim.Native.Nat.{◌+◌, ◌-◌, ◌≤◌}
use native.Mathlib.Omega.{arith}
use mathlib.Core.Path.{◌≡◌, refl, sym, ap, ◌∙◌}
use lib.ListN.{get_or}
use borrow.Author.Rules.{rules}
use Rattle.std.specs.Prelude.{Some}
use Rattle.judge.specs.Parts.{seek, part_by}
use Rattle.judge.proofs.PartLaws.{compared, first_most, seek_all, seek_none, seek_here, seek_later, seek_over}
use Rattle.judge.proofs.find.Statement.{statement}
use Rattle.judge.proofs.find.Lts.{then-m-k, else-m-k+then-same_run}
use Rattle.judge.proofs.find.Tie as tie

abbrev invariant_look : tie.invariant-look
invariant_look s places keys m place key n k₀ k =
    (k ≤ m) × (seek s places keys (part_by s place (get_or keys m 0)) m 0 ≡ seek s places keys (part_by s place (get_or keys m 0)) (m - k) k)

abbrev decreases_look : tie.decreases-look
decreases_look s places keys m place key n k₀ k = m + 1 - k

-- The places of the code: where it begins, and behind the next equal key.
abbrev start : tie.At-look invariant_look decreases_look → tie.Start invariant_look decreases_look
start c = c.before.before.before.before.before.before

onward : (c : tie.After-next_key-k invariant_look decreases_look) →
    let a = (start c.before).args in
    let t = part_by a.s.now a.place (get_or a.keys.now a.m 0) in
    (c.next_key-k.result ≤ a.m) × (seek a.s.now a.places.now a.keys.now t a.m 0 ≡ seek a.s.now a.places.now a.keys.now t (a.m - c.next_key-k.result) c.next_key-k.result)
onward c =
    let begun = start c.before in
    let a = begun.args in
    let first = c.next_key-k.ensures in
    let inv = c.look.invariant in
    let most = first_most a.keys.now a.m first inv.0 in
    (most, inv.1 ∙ seek_over a.s.now a.places.now a.keys.now (part_by a.s.now a.place (get_or a.keys.now a.m 0)) a.place a.m c.look.k c.next_key-k.result begun.requires.0 begun.requires.1 refl first.behind most first.none)

mul_key : tie.Need-offset_bounds-keys-m invariant_look decreases_look
mul_key c = omega (arith, c.requires.0.many_keys)

shared_slice_read_key : tie.Need-bounds-keys-m invariant_look decreases_look
shared_slice_read_key c = c.requires.0.many_keys

wide_requires : tie.Need-wide-n-requires invariant_look decreases_look
wide_requires c κs = search rules

look_holds : tie.Need-look-init invariant_look decreases_look
look_holds c = (omega arith, seek_all _ _ _ _ _)

next_key_requires : tie.Need-next_key-k-requires invariant_look decreases_look
next_key_requires c κs =
    record { there = (start c).args.m; behind = c.look.invariant.0; within = (start c).requires.0.many_keys; stands = refl }

mul_wide : tie.Need-offset_bounds-places-k invariant_look decreases_look
mul_wide c = omega (arith, (start c.before.before).requires.0.many_places, c.if-m-k.false)

shared_slice_read_wide : tie.Need-bounds-places-k invariant_look decreases_look
shared_slice_read_wide c = omega (arith, (start c.before.before.before).requires.0.many_places, c.if-m-k.false)

wide_requires_2 : tie.Need-wide-requires invariant_look decreases_look
wide_requires_2 c κs = search rules

same_run_requires : tie.Need-same_run-requires invariant_look decreases_look
same_run_requires c κs =
    let after = c.before.before.before in
    let begun = start after.before in
    let size = after.wide-n.ensures.0 in
    let inside = begun.requires.0.inside after.next_key-k.result c.if-m-k.false in
    (omega (arith, size, c.wide.ensures.0, inside.within, after.next_key-k.ensures.stands), omega (arith, size, begun.requires.1.within))

add_k : tie.Need-overflow_add-k invariant_look decreases_look
add_k c =
    let after = c.before.before.before.before.before in
    omega (arith, (start after.before).requires.0.many_keys, c.if-m-k.false)

look_less : tie.Need-look-smaller invariant_look decreases_look
look_less c =
    let after = c in
    omega (arith, after.next_key-k.ensures.behind, c.if-m-k.false)

look_again : tie.Need-look-preserved invariant_look decreases_look
look_again c =
    let after = c.before.before.before.before.before in
    let begun = start after.before in
    let a = begun.args in
    let small = c.if-m-k.false in
    let unlike = compared a.s.now a.places.now a.keys.now a.place a.m after.next_key-k.result after.wide-n.ensures.0 c.wide.ensures.0 after.next_key-k.ensures.stands c.same_run.ensures c.if-same_run.false in
    (omega arith, (onward after).1 ∙ seek_later a.s.now a.places.now a.keys.now _ a.m after.next_key-k.result small unlike)

returns : tie.Need-returns-then-at-m invariant_look decreases_look
returns c =
    let after = c.before.before in
    let a = c.args in
    elim c.if-m-k.branch [
      | then-m-k w ↦ let h = w.if-m-k.true in let k = w.at-is in absurd (omega arith)
      | else-m-k+then-same_run w ↦
          ap Some w.at-is
          ∙ sym
          ((onward after).1
          ∙ seek_here a.s.now a.places.now a.keys.now _ a.m after.next_key-k.result w.if-m-k.false
          (compared a.s.now a.places.now a.keys.now a.place a.m after.next_key-k.result after.wide-n.ensures.0 w.wide.ensures.0 after.next_key-k.ensures.stands w.same_run.ensures w.if-same_run.true))
    ]

returns_2 : tie.Need-returns-else-at-m invariant_look decreases_look
returns_2 c =
    let after = c.before.before in
    elim c.if-m-k.branch [
      | then-m-k w ↦ seek_none _ _ _ _ _ _ w.if-m-k.true ∙ sym (onward after).1
      | else-m-k+then-same_run w ↦ let h = w.if-m-k.false in let k = w.at-is in absurd (omega arith)
    ]

pub find_spec : {M : Type 1} → statement M
find_spec =
    tie.close
    (tie.spec
    invariant_look
    decreases_look
    mul_key
    shared_slice_read_key
    wide_requires
    look_holds
    next_key_requires
    mul_wide
    shared_slice_read_wide
    wide_requires_2
    same_run_requires
    add_k
    look_less
    look_again
    returns
    returns_2)
