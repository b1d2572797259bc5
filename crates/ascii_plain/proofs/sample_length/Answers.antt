-- `ascii_plain::sample_length` meets its contract: a sample has at most 11 characters, and so has a missing one.
use mathlib.Core.Path.{◌≡◌, ◌∙◌}
use native.Mathlib.Omega.{arith}
use lib.ListN.{length}
use Rattle.words.proofs.MachineLaws.{widened-back}
use Rattle.ascii_plain.specs.Rows.{sample_chars}
use Rattle.ascii_plain.proofs.LengthLaws.{missing-tested, chars-missing, chars-there, chars-short}
use Rattle.ascii_plain.proofs.sample_length.Goals as goal
use Rattle.ascii_plain.proofs.sample_length.Goals.{After-is_missing, After-missing_length, After-plain_length}

-- the length of the sample, by the test
there : (c : After-plain_length) → c.plain_length.result ≡ length (sample_chars c.args.layout c.args.z)
there c =
    c.plain_length.ensures
    ∙ rw (
      widened-back c.args.z c.widened.result c.ranges.z c.widened.ensures,
      chars-there c.args.layout c.args.z (missing-tested c.args.z c.is_missing.result c.ranges.z c.is_missing.ensures ∙ c.if-not-is_missing.true),
    )

none : (c : After-missing_length) → c.missing_length.result ≡ length (sample_chars c.args.layout c.args.z)
none c =
    c.missing_length.ensures
    ∙ rw (chars-missing c.args.layout c.args.z (missing-tested c.args.z c.is_missing.result c.ranges.z c.is_missing.ensures ∙ c.if-not-is_missing.false))

pub overflow_add-result : goal.overflow_add-result
overflow_add-result c =
    omega (arith, there c, chars-short c.args.layout c.args.z c.ranges.z.sfits)

pub returns-then-not-is_missing : goal.returns-then-not-is_missing
returns-then-not-is_missing c = rw (there c)

pub overflow_add-result-2 : goal.overflow_add-result-2
overflow_add-result-2 c = omega (arith, none c, chars-short c.args.layout c.args.z c.ranges.z.sfits)

pub returns : goal.returns
returns c = rw (none c)
