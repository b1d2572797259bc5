-- One search: the first place of which a test fails.
use Rattle.std.specs.Prelude.{Bool, ℕ, zero, suc, ◌+◌, if◌then◌else◌}

-- the first place from i on, of m places, of which the test fails, or i + m
abbrev pub fails_from : (ℕ → Bool) → ℕ → ℕ → ℕ
fails_from test i zero = i
fails_from test i (suc m) = if test i then fails_from test (i + 1) m else i

-- the first of m places of which the test fails, or m
abbrev pub first_fail : (ℕ → Bool) → ℕ → ℕ
first_fail test m = fails_from test 0 m
