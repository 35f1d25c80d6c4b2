-- What a read puts behind what stands at the front of a list.
-- Assumes nothing.
use Rattle.std.proofs.Common.{ℕ, ◌+◌, ◌≤◌, List, ◌++◌, length, take, drop, ◌≡◌, sym, ap, ◌∙◌, drop_at, length-take-le, le_refl}
use Rattle.std.proofs.lemmas.List.{take-append-le}
use Rattle.std.proofs.lemmas.Slice.{take-put_mid_below}
use borrow.Rule.Slice.PartMut.{put_mid, post_of}
use lib.Seq.{take-add}

-- The list from a place on is lent, and comes back as another list: its front and so many bytes of that one are the front of what the list is then.
pub front_more : (at k n : ℕ) (list part : List ℕ) → at ≤ length list → n ≤ length part
    → take at list ++ take n part ≡ take (at + n) (put_mid at k list part)
front_more at k n list part within fits =
    let new : List ℕ = put_mid at k list part in
    let behind : take n part ≡ take n (drop at new) =
    sym (take-append-le n part (post_of at k list) fits)
    ∙ ap (take n) (sym (drop_at (take at list) (part ++ post_of at k list) at (length-take-le at list within))) in
    let front : take at list ≡ take at new = sym (take-put_mid_below at k list part at (le_refl at) within) in
    ap (λ (l : List ℕ). l ++ take n part) front ∙ ap (λ (l : List ℕ). take at new ++ l) behind ∙ sym (take-add at n new)
