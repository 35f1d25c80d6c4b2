-- Each of eight records has other bytes, and the search goes on behind it, or has those that are looked for, and is the answer.
-- Assumes nothing.
use Rattle.std.proofs.Common.{ℕ, ap, sym, ◌∙◌, ◌≡◌, ◌+◌, ◌-◌, ◌*◌, ◌≤◌, ◌<◌, List, length, arith}
use Rattle.session.specs.Entry.{first_from, four_at}
use Rattle.session.proofs.LookLaws.{like, Past, four_inside, past_next, past_found}
use Rattle.session.proofs.Kept.next_like.Goals as goal

-- The eight from k on, of records that have so many bytes.
module _ (kept : List ℕ) (width at from n four k : ℕ) (few : k + 7 < n) where
  abbrev Onward : ℕ → Type 0
  Onward i = Past kept width at from n four i

  -- It has other bytes.
  other : {i r : ℕ} (next : ℕ) → i ≤ k + 7 → next ≡ i + 1 → Onward i → r ≡ four_at kept (i * width + at) → (r ≡ four → ⊥) → Onward next
  other next h z past e f = past_next kept width at from n four (omega arith) past e f z

  -- It has those.
  found : {i r : ℕ} → i ≤ k + 7 → Onward i → r ≡ four_at kept (i * width + at) → r ≡ four → i ≡ first_from (like kept width at four) (n - from) from
  found h = past_found kept width at from n four (omega arith)

  inside : (i : ℕ) {stride : ℕ} → i ≤ k + 7 → n * stride ≤ length kept → stride ≡ width → at + 3 < width → i * width + at + 3 < length kept
  inside i h there same =
      let fits = ap (λ (w : ℕ). n * w) same in
      four_inside kept width at from n four (omega arith) (omega (arith, fits, there))

pub returns-then-four_of-four : goal.returns-then-four_of-four
returns-then-four_of-four g c =
    let kept = c.args.self.bytes.now in
    let k = c.loop-k.k in
    let few = c.loop-k-test.true in
    found kept g.row.WIDTH c.args.at c.args.from c.args.self.n c.args.four k few (omega arith) c.loop-k.invariant.1 c.four_of.ensures c.if-four_of-four.true

pub returns-then-four_of-four-2 : goal.returns-then-four_of-four-2
returns-then-four_of-four-2 g c =
    let kept = c.args.self.bytes.now in
    let k = c.loop-k.k in
    let few = c.loop-k-test.true in
    let past1 = other kept g.row.WIDTH c.args.at c.args.from c.args.self.n c.args.four k few (k + 1) (omega arith) (omega arith) c.loop-k.invariant.1 c.four_of.ensures c.if-four_of-four.false in
    found kept g.row.WIDTH c.args.at c.args.from c.args.self.n c.args.four k few (omega arith) past1 c.four_of-in-loop-k.ensures c.if-four_of-four-2.true

pub four_of-requires-in-loop-k-2 : goal.four_of-requires-in-loop-k-2
four_of-requires-in-loop-k-2 g c = inside c.args.self.bytes.now g.row.WIDTH c.args.at c.args.from c.args.self.n c.args.four c.loop-k.k c.loop-k-test.true (c.loop-k.k + 2) (omega arith) c.args.self.there c.requires.0 c.requires.1

pub returns-then-four_of-four-3 : goal.returns-then-four_of-four-3
returns-then-four_of-four-3 g c =
    let kept = c.args.self.bytes.now in
    let k = c.loop-k.k in
    let few = c.loop-k-test.true in
    let past1 = other kept g.row.WIDTH c.args.at c.args.from c.args.self.n c.args.four k few (k + 1) (omega arith) (omega arith) c.loop-k.invariant.1 c.four_of.ensures c.if-four_of-four.false in
    let past2 = other kept g.row.WIDTH c.args.at c.args.from c.args.self.n c.args.four k few (k + 2) (omega arith) (omega arith) past1 c.four_of-in-loop-k.ensures c.if-four_of-four-2.false in
    found kept g.row.WIDTH c.args.at c.args.from c.args.self.n c.args.four k few (omega arith) past2 c.four_of-in-loop-k-2.ensures c.if-four_of-four-3.true

pub four_of-requires-in-loop-k-3 : goal.four_of-requires-in-loop-k-3
four_of-requires-in-loop-k-3 g c = inside c.args.self.bytes.now g.row.WIDTH c.args.at c.args.from c.args.self.n c.args.four c.loop-k.k c.loop-k-test.true (c.loop-k.k + 3) (omega arith) c.args.self.there c.requires.0 c.requires.1

pub returns-then-four_of-four-4 : goal.returns-then-four_of-four-4
returns-then-four_of-four-4 g c =
    let kept = c.args.self.bytes.now in
    let k = c.loop-k.k in
    let few = c.loop-k-test.true in
    let past1 = other kept g.row.WIDTH c.args.at c.args.from c.args.self.n c.args.four k few (k + 1) (omega arith) (omega arith) c.loop-k.invariant.1 c.four_of.ensures c.if-four_of-four.false in
    let past2 = other kept g.row.WIDTH c.args.at c.args.from c.args.self.n c.args.four k few (k + 2) (omega arith) (omega arith) past1 c.four_of-in-loop-k.ensures c.if-four_of-four-2.false in
    let past3 = other kept g.row.WIDTH c.args.at c.args.from c.args.self.n c.args.four k few (k + 3) (omega arith) (omega arith) past2 c.four_of-in-loop-k-2.ensures c.if-four_of-four-3.false in
    found kept g.row.WIDTH c.args.at c.args.from c.args.self.n c.args.four k few (omega arith) past3 c.four_of-in-loop-k-3.ensures c.if-four_of-four-4.true

pub four_of-requires-in-loop-k-4 : goal.four_of-requires-in-loop-k-4
four_of-requires-in-loop-k-4 g c = inside c.args.self.bytes.now g.row.WIDTH c.args.at c.args.from c.args.self.n c.args.four c.loop-k.k c.loop-k-test.true (c.loop-k.k + 4) (omega arith) c.args.self.there c.requires.0 c.requires.1

pub returns-then-four_of-four-5 : goal.returns-then-four_of-four-5
returns-then-four_of-four-5 g c =
    let kept = c.args.self.bytes.now in
    let k = c.loop-k.k in
    let few = c.loop-k-test.true in
    let past1 = other kept g.row.WIDTH c.args.at c.args.from c.args.self.n c.args.four k few (k + 1) (omega arith) (omega arith) c.loop-k.invariant.1 c.four_of.ensures c.if-four_of-four.false in
    let past2 = other kept g.row.WIDTH c.args.at c.args.from c.args.self.n c.args.four k few (k + 2) (omega arith) (omega arith) past1 c.four_of-in-loop-k.ensures c.if-four_of-four-2.false in
    let past3 = other kept g.row.WIDTH c.args.at c.args.from c.args.self.n c.args.four k few (k + 3) (omega arith) (omega arith) past2 c.four_of-in-loop-k-2.ensures c.if-four_of-four-3.false in
    let past4 = other kept g.row.WIDTH c.args.at c.args.from c.args.self.n c.args.four k few (k + 4) (omega arith) (omega arith) past3 c.four_of-in-loop-k-3.ensures c.if-four_of-four-4.false in
    found kept g.row.WIDTH c.args.at c.args.from c.args.self.n c.args.four k few (omega arith) past4 c.four_of-in-loop-k-4.ensures c.if-four_of-four-5.true

pub four_of-requires-in-loop-k-5 : goal.four_of-requires-in-loop-k-5
four_of-requires-in-loop-k-5 g c = inside c.args.self.bytes.now g.row.WIDTH c.args.at c.args.from c.args.self.n c.args.four c.loop-k.k c.loop-k-test.true (c.loop-k.k + 5) (omega arith) c.args.self.there c.requires.0 c.requires.1

pub returns-then-four_of-four-6 : goal.returns-then-four_of-four-6
returns-then-four_of-four-6 g c =
    let kept = c.args.self.bytes.now in
    let k = c.loop-k.k in
    let few = c.loop-k-test.true in
    let past1 = other kept g.row.WIDTH c.args.at c.args.from c.args.self.n c.args.four k few (k + 1) (omega arith) (omega arith) c.loop-k.invariant.1 c.four_of.ensures c.if-four_of-four.false in
    let past2 = other kept g.row.WIDTH c.args.at c.args.from c.args.self.n c.args.four k few (k + 2) (omega arith) (omega arith) past1 c.four_of-in-loop-k.ensures c.if-four_of-four-2.false in
    let past3 = other kept g.row.WIDTH c.args.at c.args.from c.args.self.n c.args.four k few (k + 3) (omega arith) (omega arith) past2 c.four_of-in-loop-k-2.ensures c.if-four_of-four-3.false in
    let past4 = other kept g.row.WIDTH c.args.at c.args.from c.args.self.n c.args.four k few (k + 4) (omega arith) (omega arith) past3 c.four_of-in-loop-k-3.ensures c.if-four_of-four-4.false in
    let past5 = other kept g.row.WIDTH c.args.at c.args.from c.args.self.n c.args.four k few (k + 5) (omega arith) (omega arith) past4 c.four_of-in-loop-k-4.ensures c.if-four_of-four-5.false in
    found kept g.row.WIDTH c.args.at c.args.from c.args.self.n c.args.four k few (omega arith) past5 c.four_of-in-loop-k-5.ensures c.if-four_of-four-6.true

pub four_of-requires-in-loop-k-6 : goal.four_of-requires-in-loop-k-6
four_of-requires-in-loop-k-6 g c = inside c.args.self.bytes.now g.row.WIDTH c.args.at c.args.from c.args.self.n c.args.four c.loop-k.k c.loop-k-test.true (c.loop-k.k + 6) (omega arith) c.args.self.there c.requires.0 c.requires.1

pub returns-then-four_of-four-7 : goal.returns-then-four_of-four-7
returns-then-four_of-four-7 g c =
    let kept = c.args.self.bytes.now in
    let k = c.loop-k.k in
    let few = c.loop-k-test.true in
    let past1 = other kept g.row.WIDTH c.args.at c.args.from c.args.self.n c.args.four k few (k + 1) (omega arith) (omega arith) c.loop-k.invariant.1 c.four_of.ensures c.if-four_of-four.false in
    let past2 = other kept g.row.WIDTH c.args.at c.args.from c.args.self.n c.args.four k few (k + 2) (omega arith) (omega arith) past1 c.four_of-in-loop-k.ensures c.if-four_of-four-2.false in
    let past3 = other kept g.row.WIDTH c.args.at c.args.from c.args.self.n c.args.four k few (k + 3) (omega arith) (omega arith) past2 c.four_of-in-loop-k-2.ensures c.if-four_of-four-3.false in
    let past4 = other kept g.row.WIDTH c.args.at c.args.from c.args.self.n c.args.four k few (k + 4) (omega arith) (omega arith) past3 c.four_of-in-loop-k-3.ensures c.if-four_of-four-4.false in
    let past5 = other kept g.row.WIDTH c.args.at c.args.from c.args.self.n c.args.four k few (k + 5) (omega arith) (omega arith) past4 c.four_of-in-loop-k-4.ensures c.if-four_of-four-5.false in
    let past6 = other kept g.row.WIDTH c.args.at c.args.from c.args.self.n c.args.four k few (k + 6) (omega arith) (omega arith) past5 c.four_of-in-loop-k-5.ensures c.if-four_of-four-6.false in
    found kept g.row.WIDTH c.args.at c.args.from c.args.self.n c.args.four k few (omega arith) past6 c.four_of-in-loop-k-6.ensures c.if-four_of-four-7.true

pub four_of-requires-in-loop-k-7 : goal.four_of-requires-in-loop-k-7
four_of-requires-in-loop-k-7 g c = inside c.args.self.bytes.now g.row.WIDTH c.args.at c.args.from c.args.self.n c.args.four c.loop-k.k c.loop-k-test.true (c.loop-k.k + 7) (omega arith) c.args.self.there c.requires.0 c.requires.1

pub returns-then-four_of-four-8 : goal.returns-then-four_of-four-8
returns-then-four_of-four-8 g c =
    let kept = c.args.self.bytes.now in
    let k = c.loop-k.k in
    let few = c.loop-k-test.true in
    let past1 = other kept g.row.WIDTH c.args.at c.args.from c.args.self.n c.args.four k few (k + 1) (omega arith) (omega arith) c.loop-k.invariant.1 c.four_of.ensures c.if-four_of-four.false in
    let past2 = other kept g.row.WIDTH c.args.at c.args.from c.args.self.n c.args.four k few (k + 2) (omega arith) (omega arith) past1 c.four_of-in-loop-k.ensures c.if-four_of-four-2.false in
    let past3 = other kept g.row.WIDTH c.args.at c.args.from c.args.self.n c.args.four k few (k + 3) (omega arith) (omega arith) past2 c.four_of-in-loop-k-2.ensures c.if-four_of-four-3.false in
    let past4 = other kept g.row.WIDTH c.args.at c.args.from c.args.self.n c.args.four k few (k + 4) (omega arith) (omega arith) past3 c.four_of-in-loop-k-3.ensures c.if-four_of-four-4.false in
    let past5 = other kept g.row.WIDTH c.args.at c.args.from c.args.self.n c.args.four k few (k + 5) (omega arith) (omega arith) past4 c.four_of-in-loop-k-4.ensures c.if-four_of-four-5.false in
    let past6 = other kept g.row.WIDTH c.args.at c.args.from c.args.self.n c.args.four k few (k + 6) (omega arith) (omega arith) past5 c.four_of-in-loop-k-5.ensures c.if-four_of-four-6.false in
    let past7 = other kept g.row.WIDTH c.args.at c.args.from c.args.self.n c.args.four k few (k + 7) (omega arith) (omega arith) past6 c.four_of-in-loop-k-6.ensures c.if-four_of-four-7.false in
    found kept g.row.WIDTH c.args.at c.args.from c.args.self.n c.args.four k few (omega arith) past7 c.four_of-in-loop-k-7.ensures c.if-four_of-four-8.true

pub loop-k-preserved : goal.loop-k-preserved
loop-k-preserved g c =
    let kept = c.args.self.bytes.now in
    let k = c.loop-k.k in
    let few = c.loop-k-test.true in
    let past1 = other kept g.row.WIDTH c.args.at c.args.from c.args.self.n c.args.four k few (k + 1) (omega arith) (omega arith) c.loop-k.invariant.1 c.four_of.ensures c.if-four_of-four.false in
    let past2 = other kept g.row.WIDTH c.args.at c.args.from c.args.self.n c.args.four k few (k + 2) (omega arith) (omega arith) past1 c.four_of-in-loop-k.ensures c.if-four_of-four-2.false in
    let past3 = other kept g.row.WIDTH c.args.at c.args.from c.args.self.n c.args.four k few (k + 3) (omega arith) (omega arith) past2 c.four_of-in-loop-k-2.ensures c.if-four_of-four-3.false in
    let past4 = other kept g.row.WIDTH c.args.at c.args.from c.args.self.n c.args.four k few (k + 4) (omega arith) (omega arith) past3 c.four_of-in-loop-k-3.ensures c.if-four_of-four-4.false in
    let past5 = other kept g.row.WIDTH c.args.at c.args.from c.args.self.n c.args.four k few (k + 5) (omega arith) (omega arith) past4 c.four_of-in-loop-k-4.ensures c.if-four_of-four-5.false in
    let past6 = other kept g.row.WIDTH c.args.at c.args.from c.args.self.n c.args.four k few (k + 6) (omega arith) (omega arith) past5 c.four_of-in-loop-k-5.ensures c.if-four_of-four-6.false in
    let past7 = other kept g.row.WIDTH c.args.at c.args.from c.args.self.n c.args.four k few (k + 7) (omega arith) (omega arith) past6 c.four_of-in-loop-k-6.ensures c.if-four_of-four-7.false in
    let past8 = other kept g.row.WIDTH c.args.at c.args.from c.args.self.n c.args.four k few (k + 8) (omega arith) (omega arith) past7 c.four_of-in-loop-k-7.ensures c.if-four_of-four-8.false in
    (omega arith, past8)

pub returns : goal.returns
returns g c =
    let n = c.args.self.n in
    c.next_like_tail.ensures
    ∙ ap (λ (width : ℕ). first_from (like c.args.self.bytes.now width c.args.at c.args.four) (n - c.loop-k.k) c.loop-k.k) c.requires.0
    ∙ sym c.loop-k.invariant.1
