-- What is kept of the credited records, and when it serves as well as they do.
-- Assumes nothing.
use Rattle.std.specs.Prelude.{ℕ, ◌≡◌, Bool, cond, not, ◌&&◌, List, ◌∷◌, T}
use Rattle.rules.specs.Text.{Text, same, empty}
use Rattle.rules.specs.Rules.{Rules}
use Rattle.rules.specs.Fields.{Qso}
use Rattle.rules.specs.Arguments.{among}
use Rattle.rules.specs.Judging.{some, square}
use Rattle.judge.specs.declared.Kept.{Kept}
use Rattle.judge.specs.Parts.{kept_texts, square_there, number_of_square, kept_numbers, has_number}

-- The home parts of the calls of the credited records, and the squares, by their numbers, and the exchanges that were new with one.
pub record Memory : Type 0 where
  pub calls : List Text
  pub squares : List ℕ
  pub exchanges : List Text

-- A text that is not empty and is not kept.
unfoldable pub unseen : List Text → Text → Bool
unfolding among
unseen kept t = not (empty t) && not (among kept t)

-- A square that is there and whose number is not kept.
unfoldable pub unseen_square : List ℕ → Text → Bool
unfolding has_number number_of_square
unseen_square kept t = not (empty t) && not (has_number kept (number_of_square t))

-- One more is kept, if it is to be.
abbrev pub kept_with : {A : Type 0} → Bool → A → List A → List A
kept_with b t ts = cond b (t ∷ ts) ts

-- The five lists, and how many of each are in use.
unfoldable pub memory : Text → Kept → List ℕ → List ℕ → List ℕ → List ℕ → List ℕ → Memory
unfolding kept_texts kept_numbers
memory s kept calls callKeys exchanges exchangeKeys squares =
    record {
      calls = kept_texts s calls callKeys kept.calls;
      squares = kept_numbers squares kept.squares;
      exchanges = kept_texts s exchanges exchangeKeys kept.exchanges;
    }

-- What is kept serves for these credited records: a call, a square that is there and an exchange that is not empty are found exactly where one of
-- the records has them.
pub record Remembers (R : Rules) (m : Memory) (credited : List Qso) : Type 0 where
  pub calls : (t : Text) → among m.calls t ≡ some (λ e. same (R.home e.call) t) credited
  pub squares : (t : Text) → T (square_there t) → has_number m.squares (number_of_square t) ≡ some (λ e. same (square e) t) credited
  pub exchanges : (t : Text) → T (not (empty t)) → among m.exchanges t ≡ some (λ e. same e.exchange t) credited
