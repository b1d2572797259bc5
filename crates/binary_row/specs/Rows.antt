-- Rows of the two binary kinds: what the bytes of a row say.
use Rattle.std.specs.Prelude.{Bool, true, false, List, ℕ, ◌+◌, ◌*◌, ◌/◌, ◌%◌, ◌^◌, eqb, ℤ, pos, if◌then◌else◌}
use Rattle.ground.specs.Said.{Said, ◌>>◌, must}
use Rattle.ground.specs.Tables.{part, padded}
use Rattle.words.specs.Words.{word_of}
use Rattle.model.specs.declared.Layout.{Layout}
use Rattle.model.specs.declared.Row.{Row}
use Rattle.model.specs.declared.Refusal.{Refusal}
use Rattle.model.specs.Kinds.{width_of, half_of}
use Rattle.model.specs.Refusals.{refused}
use Rattle.model.specs.Samples.{sample_of_word}

-- how many words hold d statuses: d / 16 rounded up
abbrev pub words_of : ℕ → ℕ
words_of d = (d + 15) / 16

-- where the samples of a row end and its status words begin
abbrev pub samples_end : Layout → ℕ
samples_end l = 8 + l.analogs * width_of l.kind

-- the bytes of a row: number and timestamp, samples, status words
unfoldable pub row_size : Layout → ℕ
row_size l = samples_end l + 2 * words_of l.statuses

-- the number of a row
abbrev pub row_number : List ℕ → ℕ
row_number b = word_of (part 0 4 b)

-- the timestamp of a row
abbrev pub row_time : List ℕ → ℕ
row_time b = word_of (part 4 8 b)

-- the samples of a row
abbrev pub samples_part : Layout → List ℕ → List ℕ
samples_part l b = part 8 (samples_end l) b

-- the status words of a row
abbrev pub words_part : Layout → List ℕ → List ℕ
words_part l b = part (samples_end l) (row_size l) b

-- sample i of samples of w bytes with half h
abbrev pub bytes_sample : ℕ → ℕ → List ℕ → ℕ → ℤ
bytes_sample w h b i = sample_of_word h (word_of (part (i * w) (i * w + w) b))

-- status word j of status words
abbrev pub word_at : List ℕ → ℕ → ℕ
word_at b j = word_of (part (j * 2) (j * 2 + 2) b)

-- bit i of a word
abbrev pub bit_of : ℕ → ℕ → Bool
bit_of n i = eqb (n / 2 ^ i % 2) 1

-- status i of status words: sixteen to a word, from the lowest bit up
abbrev pub word_status : List ℕ → ℕ → Bool
word_status b i = bit_of (word_at b (i / 16)) (i % 16)

-- the bits past d statuses are zero; there are none where the statuses fill their words
abbrev pub padding_free : ℕ → List ℕ → Bool
padding_free d b = if eqb (d % 16) 0 then true else eqb (word_at b (d / 16) / 2 ^ (d % 16)) 0

-- the bytes of row n: its number, which is field 1, and then its padding, which is no field's
unfoldable pub check_row : Layout → ℕ → List ℕ → Said Refusal (Unit {0})
check_row l n b = do
  must (eqb (row_number b) n) (refused 12 n 1)
  must (padding_free l.statuses (words_part l b)) (refused 13 n 0)

-- the row that bytes are; its number is left to the check
unfoldable pub row_of : Layout → List ℕ → Row
row_of l b =
    record {
      time = row_time b;
      samples = padded (bytes_sample (width_of l.kind) (half_of l.kind) (samples_part l b)) l.analogs 96 (pos 0);
      statuses = padded (word_status (words_part l b)) l.statuses 256 false;
    }
