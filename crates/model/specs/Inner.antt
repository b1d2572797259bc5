-- NOTHING TO BELIEVE HERE: what the writer of a place's number asks. The law `fits_word` (proofs/SampleLaws.antt) says that it follows where the place can be written.
use Rattle.std.specs.Prelude.{◌≡◌, false, ℕ, ◌<◌, ℤ, nat_abs}
use Rattle.model.specs.Samples.{is_missing}

-- a place that a number says, of which h is half: missing, or of a size below h
abbrev pub HasWord : ℕ → ℤ → Type 0
HasWord h z = is_missing z ≡ false → nat_abs z < h
