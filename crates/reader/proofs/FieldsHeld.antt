-- Where texts stand joined by semicolons, each field holds the text of its number.
-- Assumes nothing.
use Prim.Native.Nat.{ℕ, zero, suc, ◌+◌, ◌≤◌, ◌<◌}
use native.Mathlib.Omega.{arith}
use native.Mathlib.Nat.{add-zero}
use mathlib.Core.Path.{◌≡◌, refl, sym, ap, ap₂, ◌∙◌}
use mathlib.Core.Bool.{Bool, true}
use mathlib.Core.List.{List, [], ◌∷◌, ◌++◌, append_assoc}
use lib.ListN.{length, take, drop, get_or, length-append}
use lib.Seq.{drop-cons, drop-drop, drop-append-add, get_or-append_seam, get_or-drop, take-append_seam}
use Rattle.rules.specs.Text.{Text, semicolon, all, joined, parts}
use Rattle.rules.specs.Arguments.{every}
use Rattle.rules.proofs.TextLaws.{joined_parts, parts_some, plain, span_run}
use Rattle.rules.proofs.LogLaws.{every_first, every_others}
use Rattle.fields.specs.Field.{in_field, text_at, end_of}
use Rattle.fields.proofs.PartLaws.{parts_more}
use Rattle.reader.specs.Contact.{field_start}
use Rattle.reader.specs.Record.{fields_from}
use Rattle.reader.proofs.PlaceLaws.{starts_rise}

-- The rule that every text keeps, of one of them.
pub every_at : (f : Text → Bool) (ts : List Text) (k : ℕ) → k < length ts → every f ts ≡ true → f (get_or ts k []) ≡ true
every_at f [] k h e = absurd (omega arith)
every_at f (t ∷ ts) zero h e = every_first f t ts e
every_at f (t ∷ ts) (suc k) h e = every_at f ts k (omega arith) (every_others f t ts e)

-- One text in front of others.
joined_more : (t : Text) (ts : List Text) → 0 < length ts → joined (t ∷ ts) ≡ t ++ semicolon ∷ joined ts
unfolding joined
joined_more t [] h = absurd (omega arith)
joined_more t (u ∷ ts) h = refl

some_parts : (t : Text) → 0 < length (parts t)
some_parts t = let p = parts_some t in omega (arith, ap length p.are)

module _ (s : Text) where
  start_after : (a n : ℕ) → field_start s (end_of s a + 1) n ≡ field_start s a (suc n)
  unfolding field_start
  start_after a zero = refl
  start_after a (suc n) = ap (λ (i : ℕ). end_of s i + 1) (start_after a n)

  -- A byte of the text that stands at a place.
  pub byte_held : (a i : ℕ) {t : Text} → drop a s ≡ t → get_or s (a + i) 0 ≡ get_or t i 0
  byte_held a i e = sym (get_or-drop a s i 0) ∙ ap (λ (t : Text). get_or t i 0) e

  -- A semicolon ends the field, and the text goes on behind it.
  module _ (a : ℕ) (t rest : Text) (p : all plain t ≡ true) (e : drop a s ≡ t ++ semicolon ∷ rest) where
    pub text_held : text_at s a ≡ t
    unfolding text_at
    text_held = rw (e, span_run in_field t semicolon rest p refl) (take-append_seam t (semicolon ∷ rest))

    pub end_held : end_of s a ≡ a + length t
    unfolding end_of
    end_held = ap (λ (u : Text). a + length u) text_held

    pub goes_on_lem : drop (end_of s a + 1) s ≡ rest
    goes_on_lem =
        let n : end_of s a + 1 ≡ a + (length t + 1) = omega (arith, end_held) in
        ap (λ (k : ℕ). drop k s) n
        ∙ sym (drop-drop (length t + 1) a s)
        ∙ ap (drop (length t + 1)) e
        ∙ drop-append-add t (semicolon ∷ rest) 1

  -- The texts stand joined at a place, and another behind them.
  module _ (a : ℕ) (ts : List Text) (rest : Text) (p : every (all plain) ts ≡ true) (e : drop a s ≡ joined ts ++ rest) where
    two_more : (k : ℕ) → suc k < length ts → joined (drop k ts) ++ rest ≡ get_or ts k [] ++ semicolon ∷ (joined (drop (suc k) ts) ++ rest)
    unfolding joined
    two_more k h =
        let g : k < length ts = omega arith in
        rw (drop-cons ts k [] g, drop-cons ts (suc k) [] h)
        (append_assoc (get_or ts k []) (semicolon ∷ joined (get_or ts (suc k) [] ∷ drop (suc (suc k)) ts)) rest)

    pub starts_held : (k : ℕ) → k < length ts → drop (field_start s a k) s ≡ joined (drop k ts) ++ rest
    unfolding field_start
    starts_held zero h = e
    starts_held (suc k) h =
        goes_on_lem (field_start s a k) (get_or ts k []) (joined (drop (suc k) ts) ++ rest)
        (every_at (all plain) ts k (omega arith) p)
        (starts_held k (omega arith) ∙ two_more k h)

    -- A field but the last: its text, and the semicolon behind it.
    field_held : (k : ℕ) → suc k < length ts → drop (field_start s a k) s ≡ get_or ts k [] ++ semicolon ∷ (joined (drop (suc k) ts) ++ rest)
    field_held k h = starts_held k (omega arith) ∙ two_more k h

    pub texts_held : (k : ℕ) → suc k < length ts → text_at s (field_start s a k) ≡ get_or ts k []
    texts_held k h =
        text_held (field_start s a k) (get_or ts k []) (joined (drop (suc k) ts) ++ rest)
        (every_at (all plain) ts k (omega arith) p)
        (field_held k h)

    ends_held : (k : ℕ) → suc k < length ts → end_of s (field_start s a k) ≡ field_start s a k + length (get_or ts k [])
    ends_held k h =
        end_held (field_start s a k) (get_or ts k []) (joined (drop (suc k) ts) ++ rest)
        (every_at (all plain) ts k (omega arith) p)
        (field_held k h)

    -- It begins with its first byte, or, where it is blank, with the semicolon that ends it.
    pub first_held : (k : ℕ) → suc k < length ts → get_or s (field_start s a k) 0 ≡ get_or (get_or ts k []) 0 semicolon
    first_held k h =
        ap (λ (i : ℕ). get_or s i 0) (sym (add-zero (field_start s a k))) ∙ byte_held (field_start s a k) 0 (field_held k h) ∙ by (get_or ts k [])
      where
        by : (t : Text) → get_or (t ++ semicolon ∷ (joined (drop (suc k) ts) ++ rest)) 0 0 ≡ get_or t 0 semicolon
        by [] = refl
        by (c ∷ t) = refl

    pub semicolon_held : (k : ℕ) → suc k < length ts → get_or s (end_of s (field_start s a k)) 0 ≡ semicolon
    semicolon_held k h =
        ap (λ (i : ℕ). get_or s i 0) (ends_held k h)
        ∙ byte_held (field_start s a k) (length (get_or ts k [])) (field_held k h)
        ∙ get_or-append_seam (get_or ts k []) semicolon (joined (drop (suc k) ts) ++ rest) 0

    -- So many bytes lie from a field's start to the end of the texts.
    pub starts_measured : (k : ℕ) → k < length ts → field_start s a k + length (joined (drop k ts)) ≡ a + length (joined ts)
    unfolding field_start
    starts_measured zero h = refl
    starts_measured (suc k) h =
        let g : k < length ts = omega arith in
        let size : length (joined (drop k ts) ++ rest) ≡ length (get_or ts k [] ++ semicolon ∷ (joined (drop (suc k) ts) ++ rest)) = ap length (two_more k h) in
        omega (
          arith,
          starts_measured k g,
          ends_held k h,
          size,
          length-append (joined (drop k ts)) rest,
          length-append (get_or ts k []) (semicolon ∷ (joined (drop (suc k) ts) ++ rest)),
          length-append (joined (drop (suc k) ts)) rest,
        )

  -- The fields from a place on are the texts that stand joined there, but for the last.
  pub fields_held : (k a : ℕ) (ts : List Text) (rest : Text) → every (all plain) ts ≡ true → drop a s ≡ joined ts ++ rest → k < length ts → fields_from s a k ≡ take k ts
  unfolding fields_from joined
  fields_held zero a ts rest p e h = refl
  fields_held (suc k) a [] rest p e h = absurd (omega arith)
  fields_held (suc k) a (t ∷ []) rest p e h = absurd (omega arith)
  fields_held (suc k) a (t ∷ u ∷ ts) rest p e h =
      let more : Text = joined (u ∷ ts) ++ rest in
      let here : drop a s ≡ t ++ semicolon ∷ more = e ∙ append_assoc t (semicolon ∷ joined (u ∷ ts)) rest in
      let first : all plain t ≡ true = every_first (all plain) t (u ∷ ts) p in
      ap₂ {A = Text} {B = List Text} (λ x xs. x ∷ xs)
      (text_held a t more first here)
      (fields_held k (end_of s a + 1) (u ∷ ts) rest (every_others (all plain) t (u ∷ ts) p) (goes_on_lem a t more first here) (omega arith))

  -- A field that ends within the text ends at a semicolon.
  pub field_split : (a : ℕ) → end_of s a < length s → drop a s ≡ text_at s a ++ semicolon ∷ drop (end_of s a + 1) s
  field_split a h =
      let more : Text = drop (end_of s a + 1) s in
      sym (joined_parts (drop a s))
      ∙ ap joined (parts_more s a h)
      ∙ joined_more (text_at s a) (parts more) (some_parts more)
      ∙ ap (λ (t : Text). text_at s a ++ semicolon ∷ t) (joined_parts more)

  -- So where the last of them begins within the text, the text there is the fields, joined.
  pub fields_joined : (n a : ℕ) (t u : Text) → field_start s a n ≤ length s → drop (field_start s a n) s ≡ t ++ u → drop a s ≡ joined (fields_from s a n ++ (t ∷ [])) ++ u
  unfolding field_start fields_from joined
  fields_joined zero a t u h e = e
  fields_joined (suc n) a t u h e =
      let b : ℕ = end_of s a + 1 in
      let later : field_start s b n ≡ field_start s a (suc n) = start_after a n in
      let rest : List Text = fields_from s b n ++ (t ∷ []) in
      let inside : end_of s a < length s = omega (arith, starts_rise s b n) in
      let more : drop b s ≡ joined rest ++ u = fields_joined n b t u (omega arith) (ap (λ (i : ℕ). drop i s) later ∙ e) in
      field_split a inside
      ∙ ap (λ (x : Text). text_at s a ++ semicolon ∷ x) more
      ∙ sym (append_assoc (text_at s a) (semicolon ∷ joined rest) u)
      ∙ ap (λ (x : Text). x ++ u) (sym (joined_more (text_at s a) rest (omega (arith, length-append (fields_from s b n) (t ∷ [])))))
