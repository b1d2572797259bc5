-- `recode_samples::widen` meets its contract.
use native.Mathlib.Omega.{arith}
use Rattle.recode_samples.proofs.SampleLaws.{word_two}
use Rattle.recode_samples.proofs.widen.Goals as goal

pub long_of-requires : goal.long_of-requires
long_of-requires c =
    let f = c.shared_slice_known-1.given in
    let e = word_two c.args.b.now c.requires.0 in
    omega (arith, c.two.ensures, e, f 0, f 1)
